-- What a visit to a node of a forest shows.
use Rattle.std.proofs.Common.{◌≡◌, ℕ, Option, Some, None, refl, sym, ap, ◌∙◌, subst, max}
use Rattle.av_arena.specs.declared.link.Link.{Link}
use Rattle.av_arena.specs.declared.link.Stored.{Stored}
use Rattle.av_arena.specs.Tree.{Fork, tree_at, tree_or_leaf, IsHeld}
use Rattle.av_interval.specs.Roots.{top_of}
use Rattle.av_interval.specs.Spans.{Forest, store_of, root_in, tree_of, below, IsNode, IsForest}
use Rattle.av_interval.specs.Nodes.{IsChild, IsSeen, child_of}
use Rattle.av_arena.proofs.TreeLemmas.{opened, used, held_sum, none_tree}
use Rattle.av_interval.specs.Span.{key}
use Rattle.av_interval.specs.Span.{last_of, max_laws}
use Rattle.av_interval.specs.declared.span.Span.{Span}

pub below_is : (v : Forest) (k : Link ℕ) → IsHeld key 0 max last_of (store_of v) (Some k) → below v k.number ≡ tree_at (store_of v) (Some k)
below_is v k h =
    let s = store_of v in
    elim (s k.number) as
    (λ o. s k.number ≡ o → tree_or_leaf o (λ w. Fork k.number (tree_at s w.left) w.entry (tree_at s w.right)) ≡ tree_at s (Some k)) [
      | None ↦ λ e. let u = rw e at (used key 0 max last_of max_laws s k h) in cc
      | Some w ↦ λ e. sym (opened key 0 max last_of max_laws s k w h e).tree
    ] refl

pub child_is : (v : Forest) (k : Option (Link ℕ)) → IsHeld key 0 max last_of (store_of v) k
    → IsChild (IsNode v) (below v) (tree_at (store_of v) k) (child_of k)
child_is v None h = none_tree key 0 max last_of max_laws (store_of v)
child_is v (Some k) h =
    ((k, (refl, h)), below_is v k h, sym (held_sum key 0 max last_of max_laws (store_of v) (Some k) h), λ e. let d = rw e at h.link in cc)

pub seen : (v : Forest) (n : ℕ) (w : Stored Span ℕ) → IsNode v n → store_of v n ≡ Some w →
    IsSeen (IsNode v) (below v) (below v n) (record {
      first = w.entry.first;
      last = w.entry.last;
      area = w.entry.area;
      left = child_of w.left;
      right = child_of w.right;
    })
seen v n w is e =
    let s = store_of v in
    let k = is.0 in
    let o = opened key 0 max last_of max_laws s k w is.1.1 (ap s is.1.0 ∙ e) in
    rw e (refl, child_is v w.left o.left, child_is v w.right o.right)

pub root_is_node : (v : Forest) (a : ℕ) (k : Link ℕ) → IsForest (store_of v) (root_in v) → top_of (root_in v a) ≡ Some k →
    IsNode v k.number × (below v k.number ≡ tree_of v a)
root_is_node v a k f e =
    let h = subst (IsHeld key 0 max last_of (store_of v)) e (f.held a) in
    ((k, (refl, h)), below_is v k h ∙ ap (tree_at (store_of v)) (sym e))
