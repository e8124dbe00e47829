use Rattle.std.proofs.Common.{Option, ◌≡◌, ℕ, ◌<◌, ◌^◌, IsSome, Some, sym, ap, subst, arith, max}
use Rattle.av_arena.specs.Order.{entry_at, with_entry, without_key}
use Rattle.av_interval.specs.declared.roots.Root.{Root}
use Rattle.av_interval.specs.declared.span.Span.{Span}
use Rattle.av_arena.specs.declared.link.Link.{Link}
use Rattle.av_arena.specs.Arena.{store_of}
use Rattle.av_interval.specs.Spans.{Forest, Store, triples}
use Rattle.av_interval.specs.Span.{triple}
use Rattle.av_interval.specs.Roots.{root_of, top_of}
use Rattle.av_arena.specs.Tree.{tree_at, entries, HasKey}
use Rattle.av_base.specs.Words.{with_at}
use Rattle.av_interval.specs.Span.{key, key_of}
use Rattle.av_interval.proofs.SpansLemmas.{IsDone, has_key, low, replaced_done}
use Rattle.av_interval.proofs.spans.Spans.resize.Goals.{After-replace-root, In-Some}
use Rattle.av_interval.proofs.spans.Spans.resize.Goals as goal
use Rattle.av_interval.specs.Span.{last_of}

-- the tree that the span is in
module _ (c : In-Some) where
  abbrev s : Store
  s = store_of c.self.inside.arena

  abbrev r : ℕ → Option Root
  r = root_of c.self.inside.roots

  abbrev x : Span
  x = triple c.args.first c.args.last c.args.area

  at : r c.args.anon ≡ Some c.in-Some.root.now
  at = sym c.in-Some.ensures.value

  there : IsSome (entry_at key (key x) (entries (tree_at s (top_of (r c.args.anon)))))
  there = subst (λ (w : Forest). IsSome (entry_at key (key_of c.args.first c.args.area) (triples w c.args.anon))) (sym c.self.view_is)
      c.requires.there

pub replace-root-requires-clause-there : goal.replace-root-requires-clause-there
replace-root-requires-clause-there c =
    let i = (goal.at.replace-root-requires-clause-there c).In-Some in
    subst (λ (g : Option (Link ℕ)). HasKey key 0 max last_of (s i) g (x i)) (ap top_of (at i))
    (has_key (s i) (r i) c.self.invariant c.args.anon (x i) (there i))

pub replace-root-requires-clause-low : goal.replace-root-requires-clause-low
replace-root-requires-clause-low c =
    let i = (goal.at.replace-root-requires-clause-low c).In-Some in
    let a = at i in
    rw a at (low (s i) (r i) c.self.invariant c.args.anon (rw a c.is_few.ensures))

after : (c : After-replace-root) → let s = store_of c.self.inside.arena in let r = root_of c.self.inside.roots in
    IsDone s r (store_of c.replace-root.new.arena) (root_of (c.get_mut.follows.lender
    (record { tree = c.replace-root.result; len = c.in-Some.root.now.len }))) c.args.anon
    (with_entry key (triple c.args.first c.args.last c.args.area)
    (without_key key (key_of c.args.first c.args.area) (entries (tree_at s (top_of (r c.args.anon))))))
after c =
    let s = store_of c.self.inside.arena in
    let r = root_of c.self.inside.roots in
    let x : Span = triple c.args.first c.args.last c.args.area in
    let root = c.in-Some.root.now in
    let at : r c.args.anon ≡ Some root = sym c.in-Some.ensures.value in
    let fits : c.args.area < 2 ^ 64 = omega arith in
    let there = subst (λ (w : Forest). IsSome (entry_at key (key_of c.args.first c.args.area) (triples w c.args.anon))) (sym c.self.view_is)
    c.requires.there in
    replaced_done s (store_of c.replace-root.new.arena) r (root_of (c.get_mut.follows.lender
    (record { tree = c.replace-root.result; len = c.in-Some.root.now.len }))) c.self.invariant c.args.anon x root at fits there
    c.replace-root.result c.replace-root.ensures.replaced (rw c.in-Some.is at (c.get_mut.follows.holds
    (record { tree = c.replace-root.result; len = c.in-Some.root.now.len })))

pub invariant_of-self : goal.invariant_of-self
invariant_of-self c = (after (goal.at.invariant_of-self c).After-replace-root).forest

pub returns : goal.returns
returns c =
    subst (λ (w : Forest). (a : ℕ) → entries (tree_at (store_of c.replace-root.new.arena) (top_of (root_of (c.get_mut.follows.lender
    (record { tree = c.replace-root.result; len = c.in-Some.root.now.len })) a))) ≡ with_at c.args.anon
    (with_entry key (triple c.args.first c.args.last c.args.area) (without_key key (key_of c.args.first c.args.area) (triples w c.args.anon)))
    (triples w) a) c.self.view_is
    (after (goal.at.returns c).After-replace-root).triples
