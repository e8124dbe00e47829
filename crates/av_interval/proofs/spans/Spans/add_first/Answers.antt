use Rattle.std.proofs.Common.{◌≡◌, ℕ, ◌+◌, None, [], ◌∷◌, sym, ap, subst}
use Rattle.av_arena.specs.Order.{with_entry}
use Rattle.av_arena.specs.Arena.{store_of}
use Rattle.av_arena.specs.Tree.{tree_at, entries}
use Rattle.av_base.specs.Words.{with_at}
use Rattle.av_interval.specs.Roots.{root_of, len_of, top_of}
use Rattle.av_interval.specs.Span.{key}
use Rattle.av_interval.specs.Spans.{Forest, IsForest, root_in, triples, tree_of}
use Rattle.av_interval.proofs.SpansLemmas.{IsDone, placing, added_done, added_back, none_entries, none_new}
use Rattle.av_interval.proofs.spans.Spans.add_first.Goals.{After-free, In-Ok-put}
use Rattle.av_interval.proofs.spans.Spans.add_first.Goals as goal

pub returns-in-Err-clause-spans : goal.returns-in-Err-clause-spans
returns-in-Err-clause-spans c =
    λ a. subst (λ (w : Forest). entries (tree_at (store_of c.add_leaf.new.self) (top_of (root_of c.self.inside.roots a))) ≡ triples w a)
    c.self.view_is (ap (λ s. entries (tree_at s (top_of (root_of c.self.inside.roots a)))) c.in-Err.ensures.kept)

pub returns-in-Err-clause-kept : goal.returns-in-Err-clause-kept
returns-in-Err-clause-kept c = λ a. subst (λ (w : Forest). tree_at (store_of c.add_leaf.new.self) (top_of (root_of c.self.inside.roots a)) ≡ tree_of w a)
    c.self.view_is (ap (λ s. tree_at s (top_of (root_of c.self.inside.roots a))) c.in-Err.ensures.kept)

pub place-tree-requires-clause-place : goal.place-tree-requires-clause-place
place-tree-requires-clause-place c =
    let r = root_of c.self.inside.roots in
    let at : r c.args.anon ≡ None = subst (λ (w : Forest). root_in w c.args.anon ≡ None) (sym c.self.view_is) c.requires.none in
    placing _ _ r c.self.invariant _ _ c.in-Ok.ensures.unused c.in-Ok.ensures.added c.args.anon _ c.requires.fits
    (none_new _ (r c.args.anon) at _) _ (ap top_of (sym at))

-- the root found room
put : (c : In-Ok-put) → let s = store_of c.self.inside.arena in let r = root_of c.self.inside.roots in
    IsDone s r (store_of c.place-tree.new.arena) (root_of c.put.new.self) c.args.anon (c.args.span ∷ [])
put c =
    let s = store_of c.self.inside.arena in
    let r = root_of c.self.inside.roots in
    let at : r c.args.anon ≡ None = subst (λ (w : Forest). root_in w c.args.anon ≡ None) (sym c.self.view_is) c.requires.none in
    subst (λ xs. IsDone s r (store_of c.place-tree.new.arena) (root_of c.put.new.self) c.args.anon (with_entry key c.args.span xs))
    (none_entries s (r c.args.anon) at)
    (added_done _ _ _ _ _ c.self.invariant _ _ c.in-Ok.ensures.unused c.in-Ok.ensures.added c.args.anon _ c.requires.fits
    (none_new s (r c.args.anon) at _) _ (ap top_of (sym at)) _ _ (ap (λ o. len_of o + 1) (sym at)) c.place-tree.ensures.placed
    c.in-Ok-put.ensures)

pub invariant_of-self-in-Ok-put : goal.invariant_of-self-in-Ok-put
invariant_of-self-in-Ok-put c = (put (goal.at.invariant_of-self-in-Ok-put c).In-Ok-put).forest

pub returns-in-Ok-put-clause-spans : goal.returns-in-Ok-put-clause-spans
returns-in-Ok-put-clause-spans c =
    subst (λ (w : Forest). (a : ℕ) → entries (tree_at (store_of c.place-tree.new.arena) (top_of (root_of c.put.new.self a)))
    ≡ with_at c.args.anon (c.args.span ∷ []) (triples w) a) c.self.view_is
    (put (goal.at.returns-in-Ok-put-clause-spans c).In-Ok-put).triples

-- it did not, and the node is given back
back : (c : After-free) → let s = store_of c.self.inside.arena in let r = root_of c.self.inside.roots in
    IsForest (store_of c.free.new.self) (root_of c.put.new.self)
    × ((a : ℕ) → tree_at (store_of c.free.new.self) (top_of (root_of c.put.new.self a)) ≡ tree_at s (top_of (r a)))
back c =
    let s = store_of c.self.inside.arena in
    let r = root_of c.self.inside.roots in
    let at : r c.args.anon ≡ None = subst (λ (w : Forest). root_in w c.args.anon ≡ None) (sym c.self.view_is) c.requires.none in
    added_back _ _ _ _ _ _ c.self.invariant _ _ c.in-Ok.ensures.unused c.in-Ok.ensures.added c.args.anon _ c.requires.fits
    (none_new s (r c.args.anon) at _) _ (ap top_of (sym at)) _ c.place-tree.ensures.placed at c.free.ensures c.in-Err-put.ensures

pub invariant_of-self-in-Err-put : goal.invariant_of-self-in-Err-put
invariant_of-self-in-Err-put c = (back (goal.at.invariant_of-self-in-Err-put c).After-free).0

pub returns-in-Err-put-clause-spans : goal.returns-in-Err-put-clause-spans
returns-in-Err-put-clause-spans c = λ a.
    let b = back (goal.at.returns-in-Err-put-clause-spans c).After-free in
    subst (λ (w : Forest). entries (tree_at (store_of c.free.new.self) (top_of (root_of c.put.new.self a))) ≡ triples w a)
    c.self.view_is (ap entries (b.1 a))

pub returns-in-Err-put-clause-kept : goal.returns-in-Err-put-clause-kept
returns-in-Err-put-clause-kept c = λ a.
    let b = back (goal.at.returns-in-Err-put-clause-kept c).After-free in
    subst (λ (w : Forest). tree_at (store_of c.free.new.self) (top_of (root_of c.put.new.self a)) ≡ tree_of w a) c.self.view_is (b.1 a)
