use Rattle.std.proofs.Common.{Option, ◌-◌, ◌≡◌, ℕ, IsSome, Some, None, sym, ap, ◌∙◌, subst, arith, max}
use Rattle.av_arena.specs.Order.{entry_at, without_key}
use Rattle.av_interval.specs.declared.roots.Root.{Root}
use Rattle.av_interval.specs.declared.span.Span.{Span}
use Rattle.av_arena.specs.declared.link.Link.{Link}
use Rattle.av_arena.specs.Arena.{store_of}
use Rattle.av_interval.specs.Spans.{Forest, Store, triples}
use Rattle.av_interval.specs.Span.{triple}
use Rattle.av_interval.specs.Roots.{root_of, top_of}
use Rattle.av_arena.specs.Tree.{tree_at, entries, HasKey, IsWithout}
use Rattle.av_base.specs.Words.{with_at}
use Rattle.av_interval.specs.Span.{key, key_of}
use Rattle.av_arena.proofs.TreeLemmas.{without_used}
use Rattle.av_interval.proofs.SpansLemmas.{IsDone, has_key, low, root_held, removed_done, some_left, one_left, given_twice}
use Rattle.av_interval.proofs.spans.Spans.remove.Goals.{In-Some-rest, After-remove, In-Some}
use Rattle.av_interval.proofs.spans.Spans.remove.Goals as goal
use Rattle.av_interval.specs.Span.{last_of, max_laws}

-- the tree that the span is taken out of
module _ (c : In-Some) where
  abbrev s : Store
  s = store_of c.self.inside.arena

  abbrev r : ℕ → Option Root
  r = root_of c.self.inside.roots

  abbrev x : Span
  x = triple c.args.first c.args.first c.args.area

  at : r c.args.anon ≡ Some c.in-Some.root.now
  at = sym c.in-Some.ensures.value

  there : IsSome (entry_at key (key x) (entries (tree_at s (top_of (r c.args.anon)))))
  there = subst (λ (w : Forest). IsSome (entry_at key (key_of c.args.first c.args.area) (triples w c.args.anon))) (sym c.self.view_is)
      c.requires.there

pub remove-number-requires-clause-there : goal.remove-number-requires-clause-there
remove-number-requires-clause-there c =
    let i = (goal.at.remove-number-requires-clause-there c).In-Some in
    subst (λ (g : Option (Link ℕ)). HasKey key 0 max last_of (s i) g (x i)) (ap top_of (at i))
    (has_key (s i) (r i) c.self.invariant c.args.anon (x i) (there i))

pub remove-number-requires-clause-low : goal.remove-number-requires-clause-low
remove-number-requires-clause-low c =
    let i = (goal.at.remove-number-requires-clause-low c).In-Some in
    let a = at i in
    rw a at (low (s i) (r i) c.self.invariant c.args.anon (rw a c.is_few.ensures))

pub free-requires : goal.free-requires
free-requires c =
    let i = (goal.at.free-requires c).In-Some in
    without_used key 0 max last_of max_laws (s i) (store_of c.remove-number.new.arena) (Some c.in-Some.root.now.tree) _ c.remove-number.result.0
    c.remove-number.result.1 (root_held (s i) (r i) c.self.invariant c.args.anon c.in-Some.root.now (at i)) c.remove-number.ensures.removed

pub overflow_sub-root : goal.overflow_sub-root
overflow_sub-root c =
    let i = (goal.at.overflow_sub-root c).In-Some in
    some_left (s i) (r i) c.self.invariant c.args.anon (key (x i)) c.in-Some.root.now (at i) (there i)

-- it was the last one
last : (c : After-remove) → let s = store_of c.self.inside.arena in let r = root_of c.self.inside.roots in
    IsDone s r (store_of c.free.new.self) (root_of c.remove.new.self) c.args.anon
    (without_key key (key_of c.args.first c.args.area) (entries (tree_at s (top_of (r c.args.anon)))))
last c =
    let s = store_of c.self.inside.arena in
    let r = root_of c.self.inside.roots in
    let x : Span = triple c.args.first c.args.first c.args.area in
    let root = c.in-Some.root.now in
    let at : r c.args.anon ≡ Some root = sym c.in-Some.ensures.value in
    let there = subst (λ (w : Forest). IsSome (entry_at key (key_of c.args.first c.args.area) (triples w c.args.anon))) (sym c.self.view_is)
    c.requires.there in
    let out = c.remove-number in
    let w = out.ensures.removed in
    removed_done s (store_of out.new.arena) (store_of c.free.new.self) r (root_of c.remove.new.self) c.self.invariant c.args.anon x root at there
    out.result.0 out.result.1 w c.free.ensures None (sym c.in-None.is)
    (one_left s (store_of out.new.arena) r c.self.invariant c.args.anon (key x) root at there out.result.0
    (subst (λ (g : Option (Link ℕ)). IsWithout key 0 max last_of s (store_of out.new.arena) (Some root.tree)
    (without_key key (key x) (entries (tree_at s (Some root.tree)))) out.result.0 g) c.in-None.is w)) (c.remove.ensures ∙ ap (with_at c.args.anon None)
    (rw c.in-Some.is at (c.get_mut.follows.holds root)) ∙ given_twice c.args.anon (Some root) None r)

pub invariant_of-self : goal.invariant_of-self
invariant_of-self c = (last (goal.at.invariant_of-self c).After-remove).forest

pub returns-in-None : goal.returns-in-None
returns-in-None c =
    subst (λ (w : Forest). (a : ℕ) → entries (tree_at (store_of c.free.new.self) (top_of (root_of c.remove.new.self a))) ≡ with_at c.args.anon
    (without_key key (key_of c.args.first c.args.area) (triples w c.args.anon)) (triples w) a) c.self.view_is
    (last (goal.at.returns-in-None c).After-remove).triples

-- others are left
others : (c : In-Some-rest) → let s = store_of c.self.inside.arena in let r = root_of c.self.inside.roots in
    IsDone s r (store_of c.free.new.self) (root_of (c.get_mut.follows.lender (record { tree = c.in-Some-rest.tree; len = c.in-Some.root.now.len - 1 })))
    c.args.anon
    (without_key key (key_of c.args.first c.args.area) (entries (tree_at s (top_of (r c.args.anon)))))
others c =
    let s = store_of c.self.inside.arena in
    let r = root_of c.self.inside.roots in
    let x : Span = triple c.args.first c.args.first c.args.area in
    let root = c.in-Some.root.now in
    let at : r c.args.anon ≡ Some root = sym c.in-Some.ensures.value in
    let there = subst (λ (w : Forest). IsSome (entry_at key (key_of c.args.first c.args.area) (triples w c.args.anon))) (sym c.self.view_is)
    c.requires.there in
    let out = c.remove-number in
    let w = out.ensures.removed in
    removed_done s (store_of out.new.arena) (store_of c.free.new.self) r (root_of (c.get_mut.follows.lender
    (record { tree = c.in-Some-rest.tree; len = c.in-Some.root.now.len - 1 }))) c.self.invariant c.args.anon x root at there
    out.result.0 out.result.1 w c.free.ensures (Some (record { tree = c.in-Some-rest.tree; len = root.len - 1 })) (sym c.in-Some-rest.is)
    (let h = some_left s r c.self.invariant c.args.anon (key x) root at there in omega arith) (rw c.in-Some.is at (c.get_mut.follows.holds
    (record { tree = c.in-Some-rest.tree; len = c.in-Some.root.now.len - 1 })))

pub invariant_of-self-in-Some-rest : goal.invariant_of-self-in-Some-rest
invariant_of-self-in-Some-rest c = (others (goal.at.invariant_of-self-in-Some-rest c).In-Some-rest).forest

pub returns-in-Some-rest : goal.returns-in-Some-rest
returns-in-Some-rest c =
    subst (λ (w : Forest). (a : ℕ) → entries (tree_at (store_of c.free.new.self) (top_of (root_of (c.get_mut.follows.lender
    (record { tree = c.in-Some-rest.tree; len = c.in-Some.root.now.len - 1 })) a))) ≡ with_at c.args.anon
    (without_key key (key_of c.args.first c.args.area) (triples w c.args.anon)) (triples w) a) c.self.view_is
    (others (goal.at.returns-in-Some-rest c).In-Some-rest).triples
