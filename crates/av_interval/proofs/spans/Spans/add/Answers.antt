use Rattle.std.proofs.Common.{rules, Option, ◌≡◌, ℕ, ◌+◌, ◌<◌, ◌^◌, Some, None, [], sym, ap, ◌∙◌, subst, arith}
use Rattle.std.specs.Prelude.{OnErr, is_ok, if◌then◌else◌}
use Rattle.av_arena.specs.Order.{with_entry}
use Rattle.av_arena.specs.Arena.{store_of}
use Rattle.av_arena.specs.Tree.{tree_at, entries}
use Rattle.av_base.specs.Words.{with_at}
use Rattle.av_interval.specs.Roots.{root_of, len_of, top_of}
use Rattle.av_interval.specs.Span.{key, triple}
use Rattle.av_interval.specs.Spans.{Forest, IsForest, IsNew, Store, triples, tree_of}
use Rattle.av_interval.specs.declared.roots.Root.{Root}
use Rattle.av_interval.proofs.SpansLemmas.{IsDone, placing, added_done, given_again, low, none_entries}
use Rattle.av_interval.proofs.spans.Spans.add.Goals.{After-place-root, In-Some, In_default}
use Rattle.av_interval.proofs.spans.Spans.add.Goals as goal

-- the anon_vma has no tree
module _ (c : In_default) where
  abbrev s : Store
  s = store_of c.self.inside.arena

  abbrev lent : ℕ → Option Root
  lent = root_of c.get_mut.follows.lender-at-none

  none : lent c.args.anon ≡ None
  none = ap (λ (f : ℕ → Option Root). f c.args.anon) c.get_mut.follows.holds-at-none ∙ sym c.in_default.ensures.value

  trees : (λ (a : ℕ). tree_at s (top_of (lent a))) ≡ tree_of c.args.self.now
  trees = (λ i a. tree_at s (top_of (c.get_mut.follows.holds-at-none i a))) ∙ ap tree_of c.self.view_is

pub add_first-requires-clause-none : goal.add_first-requires-clause-none
add_first-requires-clause-none c = none (goal.at.add_first-requires-clause-none c).In_default

pub returns-in_default-clause-spans : goal.returns-in_default-clause-spans
returns-in_default-clause-spans c =
    let p = (goal.at.returns-in_default-clause-spans c).In_default in
    let same : (λ (a : ℕ). entries (tree_at (s p) (top_of (lent p a)))) ≡ triples c.args.self.now = λ i a. entries (trees p i a) in
    let empty : [] ≡ triples c.args.self.now c.args.anon = sym (none_entries (s p) (lent p c.args.anon) (none p)) ∙ (λ i. same i c.args.anon) in
    λ a. c.add_first.ensures.spans a
    ∙ (λ i. if is_ok c.add_first.result then with_at c.args.anon (with_entry key (triple c.args.first c.args.last c.args.area) (empty i))
    (same i) a else same i a)

pub returns-in_default-clause-kept : goal.returns-in_default-clause-kept
returns-in_default-clause-kept c =
    let p = (goal.at.returns-in_default-clause-kept c).In_default in
    subst (λ f. OnErr c.add_first.result ((a : ℕ) → tree_of c.add_first.new.self a ≡ f a)) (trees p) c.add_first.ensures.kept

-- the tree that the anon_vma has
module _ (c : In-Some) where
  abbrev s' : Store
  s' = store_of c.self.inside.arena

  abbrev r : ℕ → Option Root
  r = root_of c.self.inside.roots

  at : r c.args.anon ≡ Some c.in-Some.root.now
  at = sym c.in-Some.ensures.value

  -- it was lent, and not changed
  same : root_of (c.get_mut.follows.lender c.in-Some.root.now) ≡ r
  same = rw c.in-Some.is at (c.get_mut.follows.holds c.in-Some.root.now) ∙ given_again c.args.anon (Some c.in-Some.root.now) r at

pub invariant_of-self-in_default-checked_add : goal.invariant_of-self-in_default-checked_add
invariant_of-self-in_default-checked_add c =
    let p = (goal.at.invariant_of-self-in_default-checked_add c).In-Some in
    subst (IsForest (s' p)) (sym (same p)) c.self.invariant

pub returns-in_default-checked_add-clause-spans : goal.returns-in_default-checked_add-clause-spans
returns-in_default-checked_add-clause-spans c = λ a.
    let p = (goal.at.returns-in_default-checked_add-clause-spans c).In-Some in
    ap (λ (f : ℕ → Option Root). entries (tree_at (s' p) (top_of (f a)))) (same p) ∙ ap (λ w. triples w a) c.self.view_is

pub returns-in_default-checked_add-clause-kept : goal.returns-in_default-checked_add-clause-kept
returns-in_default-checked_add-clause-kept c = λ a.
    let p = (goal.at.returns-in_default-checked_add-clause-kept c).In-Some in
    ap (λ (f : ℕ → Option Root). tree_at (s' p) (top_of (f a))) (same p) ∙ ap (λ w. tree_of w a) c.self.view_is

pub invariant_of-self-in-Err : goal.invariant_of-self-in-Err
invariant_of-self-in-Err c =
    let p = (goal.at.invariant_of-self-in-Err c).In-Some in
    rw (c.in-Err.ensures.kept, same p) c.self.invariant

pub returns-in-Err-clause-spans : goal.returns-in-Err-clause-spans
returns-in-Err-clause-spans c = λ a.
    let p = (goal.at.returns-in-Err-clause-spans c).In-Some in
    (λ i. entries (tree_at (c.in-Err.ensures.kept i) (top_of (same p i a)))) ∙ ap (λ w. triples w a) c.self.view_is

pub returns-in-Err-clause-kept : goal.returns-in-Err-clause-kept
returns-in-Err-clause-kept c = λ a.
    let p = (goal.at.returns-in-Err-clause-kept c).In-Some in
    (λ i. tree_at (c.in-Err.ensures.kept i) (top_of (same p i a))) ∙ ap (λ w. tree_of w a) c.self.view_is

pub place-root-requires-clause-place : goal.place-root-requires-clause-place
place-root-requires-clause-place c =
    let p = (goal.at.place-root-requires-clause-place c).In-Some in
    let fits : c.args.area < 2 ^ 64 = omega arith in
    let new = subst (λ (w : Forest). IsNew c.args.area (triples w c.args.anon)) (sym c.self.view_is) c.requires.other in
    placing _ _ (r p) c.self.invariant _ _ c.in-Ok.ensures.unused c.in-Ok.ensures.added c.args.anon _ fits new _ (sym (ap top_of (at p)))

pub place-root-requires-clause-low : goal.place-root-requires-clause-low
place-root-requires-clause-low c =
    let p = (goal.at.place-root-requires-clause-low c).In-Some in
    let a = at p in
    let fits : c.in-Some.root.now.len < 2 ^ 64 = search rules in
    rw a at (low (s' p) (r p) c.self.invariant c.args.anon (rw a fits))

-- the span is put into it
put : (c : After-place-root) → (a : root_of c.self.inside.roots c.args.anon ≡ Some c.in-Some.root.now) →
    let s = store_of c.self.inside.arena in let r = root_of c.self.inside.roots in
    IsDone s r (store_of c.place-root.new.arena)
    (root_of (c.get_mut.follows.lender (record { tree = c.place-root.result; len = c.in-Some-checked_add.len }))) c.args.anon
    (with_entry key (triple c.args.first c.args.last c.args.area) (entries (tree_at s (top_of (r c.args.anon)))))
put c a =
    let fits : c.args.area < 2 ^ 64 = omega arith in
    let new = subst (λ (w : Forest). IsNew c.args.area (triples w c.args.anon)) (sym c.self.view_is) c.requires.other in
    let len : c.in-Some-checked_add.len ≡ c.in-Some.root.now.len + 1 = search rules in
    let root : Root = record { tree = c.place-root.result; len = c.in-Some-checked_add.len } in
    added_done _ _ _ _ _ c.self.invariant _ _ c.in-Ok.ensures.unused c.in-Ok.ensures.added c.args.anon _ fits new _ (sym (ap top_of a)) _ _
    (len ∙ sym (ap (λ o. len_of o + 1) a)) c.place-root.ensures.placed (rw c.in-Some.is at (c.get_mut.follows.holds root))

pub invariant_of-self-2 : goal.invariant_of-self-2
invariant_of-self-2 c =
    let p = (goal.at.invariant_of-self-2 c).In-Some in
    (put (goal.at.invariant_of-self-2 c).After-place-root (at p)).forest

pub returns-clause-spans : goal.returns-clause-spans
returns-clause-spans c =
    let p = (goal.at.returns-clause-spans c).In-Some in
    let root : Root = record { tree = c.place-root.result; len = c.in-Some-checked_add.len } in
    subst (λ (w : Forest). (a : ℕ) → entries (tree_at (store_of c.place-root.new.arena) (top_of (root_of (c.get_mut.follows.lender root) a)))
    ≡ with_at c.args.anon (with_entry key (triple c.args.first c.args.last c.args.area) (triples w c.args.anon)) (triples w) a) c.self.view_is
    (put (goal.at.returns-clause-spans c).After-place-root (at p)).triples
