use Rattle.std.proofs.Common.{rules, ◌≡◌, ℕ, zero, suc, refl, ◌+◌, ◌*◌, ◌-◌, ◌<◌, ◌≤◌, true, false, [], ◌∷◌, ◌++◌, length, take, List, Option, None, sym, ap, ◌∙◌, subst, arith, append-nil, append_assoc}
use Rattle.std.proofs.lemmas.List.{take_all, take_at}
use Rattle.arrayvec.specs.ArrayVec.{array_vec_len}
use Rattle.av_interval.specs.Nodes.{Tree}
use Rattle.av_arena.specs.Tree.{entries, height}
use Rattle.av_interval.specs.Batch.{edges, overlaps_past, IsReached}
use Rattle.av_interval.specs.Nodes.{span_of, tree_at, reaching_child, IsNone_or}
use Rattle.av_interval.specs.Search.{IsOrdered, is_past}
use Rattle.av_interval.proofs.SearchLemmas.{left_side, right_side}
use Rattle.av_interval.proofs.BatchLemmas.{take_again, over_right, over_left, over_both, edges_two, edges_right, edges_left, edges_both, left_reached, right_reached, found_inside, grown, grown_more, paid_one, paid_two}
use Rattle.av_interval.proofs.batch.+gather.Given.{Over}
use Rattle.av_interval.proofs.batch.+gather.Goals.{gather_below-After-gather-3}
use Rattle.av_interval.proofs.batch.+gather.Goals as goal

pub gather-returns-then-is_full-clause-found : goal.gather-returns-then-is_full-clause-found
gather-returns-then-is_full-clause-found g t c =
    let e : length c.args.found.now.items ≡ 64 = search rules in
    sym (take_at c.args.found.now.items _ 64 e)

pub gather-returns-in_default-clause-found : goal.gather-returns-in_default-clause-found
gather-returns-in_default-clause-found g t c =
    let N = g.N.Nodes in
    let below = λ (n : Option ℕ). overlaps_past c.args.after.now c.args.index (entries (tree_at (N.below c.args.nodes.now) n)) in
    let old = c.args.found.now.items in
    let fits : length old ≤ 64 = c.is_full.ensures.fits in
    sym (ap (λ n. take 64 (old ++ below n)) c.in_default.is ∙ ap (take 64) (append-nil old) ∙ take_all 64 old fits)

child_falls : (m k t : ℕ) → m + 1 ≤ k → 2 * k ≡ t → 2 * m + 1 < t
child_falls m k t h d = omega (arith, h, d)

node_falls : (m k t : ℕ) → m ≡ k → 2 * m + 1 ≡ t → 2 * k < t
node_falls m k t e d = omega (arith, e, d)

pub gather-gather_below-requires : goal.gather-gather_below-requires
gather-gather_below-requires g t c κs within =
    let N = g.N.Nodes in
    let s = c.args.nodes.now in
    let d : 2 * height (tree_at (N.below s) c.args.number) + 1 ≡ t = c.decreases in
    let room : array_vec_len c.args.found.now < 64 = search rules in (
      node_falls _ _ t (ap (λ n. height (tree_at (N.below s) n)) c.in-Some.is) d,
      (
        within.0,
        (
          within.1,
          (
            subst (IsNone_or (N.is_node s)) c.in-Some.is c.requires.node,
            (subst (λ n. IsOrdered (entries (tree_at (N.below s) n))) c.in-Some.is c.requires.ordered, room),
          ),
        ),
      ),
    )

pub gather_below-gather-requires : goal.gather_below-gather-requires
gather_below-gather-requires g t c κs within =
    let N = g.N.Nodes in
    let s = c.args.nodes.now in
    let v = c.visit-node.result in
    let side = right_side (N.is_node s) (N.below s) _ v c.visit-node.ensures.seen c.args.index in
    let ord = c.requires.ordered in
    let d : 2 * height (N.below s c.args.number) ≡ t = c.decreases in
    let h = rw (← c.child_that_reaches-right.ensures) at side.height in (
      child_falls _ _ t h d,
      (within.0, (within.1, rw c.child_that_reaches-right.ensures (side.node, side.ordered ord))),
    )

pub gather_below-gather-requires-2 : goal.gather_below-gather-requires-2
gather_below-gather-requires-2 g t c κs within =
    let N = g.N.Nodes in
    let s = c.args.nodes.now in
    let v = c.visit-node.result in
    let side = left_side (N.is_node s) (N.below s) _ v c.visit-node.ensures.seen c.args.index in
    let ord = c.requires.ordered in
    let d : 2 * height (N.below s c.args.number) ≡ t = c.decreases in
    let h = rw (← c.child_that_reaches-left.ensures) at side.height in (
      child_falls _ _ t h d,
      (within.0, (within.1, rw c.child_that_reaches-left.ensures (side.node, side.ordered ord))),
    )

pub gather_below-gather-requires-3 : goal.gather_below-gather-requires-3
gather_below-gather-requires-3 g t c κs within =
    let N = g.N.Nodes in
    let s = c.args.nodes.now in
    let v = c.visit-node.result in
    let side = right_side (N.is_node s) (N.below s) _ v c.visit-node.ensures.seen c.args.index in
    let ord = c.requires.ordered in
    let d : 2 * height (N.below s c.args.number) ≡ t = c.decreases in
    let h = rw (← c.child_that_reaches-right.ensures) at side.height in (
      child_falls _ _ t h d,
      (within.0, (within.1, rw c.child_that_reaches-right.ensures (side.node, side.ordered ord))),
    )

pub gather_below-returns-then-not-comes_after-clause-found : goal.gather_below-returns-then-not-comes_after-clause-found
gather_below-returns-then-not-comes_after-clause-found g t c =
    let N = g.N.Nodes in
    let s = c.args.nodes.now in
    let a = c.args.after.now in
    let i = c.args.index in
    let v = c.visit-node.result in
    let ord = c.requires.ordered in
    let p : is_past a (span_of v) ≡ false = search rules in
    let q = over_right (N.is_node s) (N.below s) _ v c.visit-node.ensures.seen a i ord p in
    c.gather.ensures.found
    ∙ ap (λ n. take 64 (c.args.found.now.items ++ overlaps_past a i (entries (tree_at (N.below s) n)))) c.child_that_reaches-right.ensures
    ∙ ap (λ xs. take 64 (c.args.found.now.items ++ xs)) (sym q)

pub gather_below-returns-then-index-node-clause-found : goal.gather_below-returns-then-index-node-clause-found
gather_below-returns-then-index-node-clause-found g t c =
    let N = g.N.Nodes in
    let s = c.args.nodes.now in
    let a = c.args.after.now in
    let i = c.args.index in
    let v = c.visit-node.result in
    let ord = c.requires.ordered in
    let q = over_left (N.is_node s) (N.below s) _ v c.visit-node.ensures.seen a i ord c.if-index-node.true in
    c.gather-2.ensures.found
    ∙ ap (λ n. take 64 (c.args.found.now.items ++ overlaps_past a i (entries (tree_at (N.below s) n)))) c.child_that_reaches-left.ensures
    ∙ ap (λ xs. take 64 (c.args.found.now.items ++ xs)) (sym q)

pub gather_below-returns-clause-found : goal.gather_below-returns-clause-found
gather_below-returns-clause-found g t c =
    let N = g.N.Nodes in
    let s = c.args.nodes.now in
    let a = c.args.after.now in
    let i = c.args.index in
    let v = c.visit-node.result in
    let old = c.args.found.now.items in
    let p : is_past a (span_of v) ≡ true = search rules in
    let below : Option ℕ → List (ℕ × ℕ) = λ n. overlaps_past a i (entries (tree_at (N.below s) n)) in
    let L = below (reaching_child i v.left) in
    let R = below (reaching_child i v.right) in
    let X = overlaps_past None i (span_of v ∷ []) in
    let q = over_both (N.is_node s) (N.below s) _ v c.visit-node.ensures.seen a i p in
    let left : c.gather-2.new.found.items ≡ take 64 (old ++ L) = c.gather-2.ensures.found
    ∙ ap (λ n. take 64 (old ++ below n)) c.child_that_reaches-left.ensures in
    let own : c.add.new.found.items ≡ take 64 ((old ++ L) ++ X) = c.add.ensures ∙ ap (λ xs. take 64 (xs ++ X)) left ∙ take_again 64 (old ++ L) X in
    c.gather-3.ensures.found ∙ ap (λ n. take 64 (c.add.new.found.items ++ below n)) c.child_that_reaches-right.ensures
    ∙ ap (λ xs. take 64 (xs ++ R)) own ∙ take_again 64 ((old ++ L) ++ X) R
    ∙ ap (take 64) (append_assoc (old ++ L) X R ∙ append_assoc old L (X ++ R) ∙ ap (λ xs. old ++ xs) (sym q))

-- what a way below a number costs, where k are found
abbrev Cost : (ℕ → Tree) → Option (ℕ × ℕ) → ℕ → ℕ → ℕ → ℕ → Option ℕ → Type 0
Cost below a i s u k n = IsReached i (entries (tree_at below n)) → u ≤ s + (k + edges a i (entries (tree_at below n))) * height (tree_at below n)

pub gather_below-returns-then-not-comes_after-clause-cost_inside : goal.gather_below-returns-then-not-comes_after-clause-cost_inside
gather_below-returns-then-not-comes_after-clause-cost_inside g t c =
    let N = g.N.Nodes in
    let s = c.args.nodes.now in
    let a = c.args.after.now in
    let i = c.args.index in
    let v = c.visit-node.result in
    let seen = c.visit-node.ensures.seen in
    let u = c.gather.new.steps in
    let k = array_vec_len c.gather.new.found - array_vec_len c.args.found.now in
    let p : is_past a (span_of v) ≡ false = search rules in
    let side = right_side (N.is_node s) (N.below s) _ v seen i in
    let cost = subst (Cost (N.below s) a i c.visit-node.new.steps u k) c.child_that_reaches-right.ensures c.gather.ensures.cost_inside in
    let e = edges_right (N.is_node s) (N.below s) _ v seen a i p in
    let less = e.0 in
    let some = e.1 in
    (λ _. paid_one c.args.steps.now c.visit-node.new.steps u _ _ _ _ c.visit-node.ensures.counted
    (cost (right_reached (N.is_node s) (N.below s) _ v seen a i)) side.height (omega (arith, less)) (omega (arith, some)))

pub gather_below-returns-then-index-node-clause-cost_inside : goal.gather_below-returns-then-index-node-clause-cost_inside
gather_below-returns-then-index-node-clause-cost_inside g t c =
    let N = g.N.Nodes in
    let s = c.args.nodes.now in
    let a = c.args.after.now in
    let i = c.args.index in
    let v = c.visit-node.result in
    let seen = c.visit-node.ensures.seen in
    let u = c.gather-2.new.steps in
    let k = array_vec_len c.gather-2.new.found - array_vec_len c.args.found.now in
    let side = left_side (N.is_node s) (N.below s) _ v seen i in
    let cost = subst (Cost (N.below s) a i c.visit-node.new.steps u k) c.child_that_reaches-left.ensures c.gather-2.ensures.cost_inside in
    let e = edges_left (N.is_node s) (N.below s) _ v seen a i c.if-index-node.true in
    let less = e.0 in
    let some = e.1 in
    (λ _. paid_one c.args.steps.now c.visit-node.new.steps u _ _ _ _ c.visit-node.ensures.counted
    (cost (left_reached (N.is_node s) (N.below s) _ v seen a i)) side.height (omega (arith, less)) (omega (arith, some)))

parts : (a b c d : ℕ) → a ≤ b → b ≤ c → c ≤ d → (b - a) + (d - c) ≤ d - a
parts a b c d p q r = omega (arith, p, q, r)

sums : (k l m e f n : ℕ) → k + l ≤ m → e + f ≤ n → (k + e) + (l + f) ≤ m + n
sums k l m e f n p q = omega (arith, p, q)

-- what the searches on both sides of a node cost with it, for as many as were found and e more
both_paid : (g : Over) (t : ℕ) (c : gather_below-After-gather-3 g t) → let N = g.N.Nodes in let s = c.args.nodes.now in
    let many = array_vec_len c.gather-3.new.found - array_vec_len c.args.found.now in
    (e : ℕ) → edges c.args.after.now c.args.index (entries (N.below s c.args.number)) ≤ e → 1 ≤ many + e →
    c.gather-3.new.steps ≤ c.args.steps.now + (many + e) * height (N.below s c.args.number)
both_paid g t c e few some =
    let N = g.N.Nodes in
    let s = c.args.nodes.now in
    let a = c.args.after.now in
    let i = c.args.index in
    let v = c.visit-node.result in
    let seen = c.visit-node.ensures.seen in
    let p : is_past a (span_of v) ≡ true = search rules in
    let n0 = array_vec_len c.args.found.now in
    let n1 = array_vec_len c.gather-2.new.found in
    let n2 = array_vec_len c.add.new.found in
    let n3 = array_vec_len c.gather-3.new.found in
    let room : n0 < 64 = c.requires.room in
    let f0 : n0 ≤ 64 = omega (arith, room) in
    let g1 = grown 64 c.args.found.now.items _ c.gather-2.new.found.items f0 c.gather-2.ensures.found in
    let g2 = grown 64 c.gather-2.new.found.items _ c.add.new.found.items g1.1 c.add.ensures in
    let g3 = grown 64 c.add.new.found.items _ c.gather-3.new.found.items g2.1 c.gather-3.ensures.found in
    let k = parts n0 n1 n2 n3 g1.0 g2.0 g3.0 in
    let left = left_side (N.is_node s) (N.below s) _ v seen i in
    let right = right_side (N.is_node s) (N.below s) _ v seen i in
    let l = subst (Cost (N.below s) a i c.visit-node.new.steps c.gather-2.new.steps (n1 - n0)) c.child_that_reaches-left.ensures
    c.gather-2.ensures.cost_inside in
    let r = subst (Cost (N.below s) a i c.gather-2.new.steps c.gather-3.new.steps (n3 - n2)) c.child_that_reaches-right.ensures
    c.gather-3.ensures.cost_inside in
    let both = edges_both (N.is_node s) (N.below s) _ v seen a i c.requires.ordered p c.if-index-node.false in
    paid_two c.args.steps.now c.visit-node.new.steps c.gather-2.new.steps c.gather-3.new.steps _ _ _ _ _ _ c.visit-node.ensures.counted
    (l (left_reached (N.is_node s) (N.below s) _ v seen a i)) (r (right_reached (N.is_node s) (N.below s) _ v seen a i)) left.height right.height
    (sums (n1 - n0) (n3 - n2) (n3 - n0) _ _ e k (omega (arith, both, few))) some

pub gather_below-returns-clause-cost : goal.gather_below-returns-clause-cost
gather_below-returns-clause-cost g t c =
    both_paid g t (goal.at.gather_below-returns-clause-cost g t c).After-gather-3 2
    (edges_two c.args.after.now c.args.index (entries (g.N.Nodes.below c.args.nodes.now c.args.number))) (omega arith)

pub gather_below-returns-clause-cost_inside : goal.gather_below-returns-clause-cost_inside
gather_below-returns-clause-cost_inside g t c =
    let N = g.N.Nodes in
    let s = c.args.nodes.now in
    let a = c.args.after.now in
    let i = c.args.index in
    let e = edges a i (entries (N.below s c.args.number)) in
    let n0 = array_vec_len c.args.found.now in
    let n3 = array_vec_len c.gather-3.new.found in
    let whole : c.gather-3.new.found.items ≡ take 64 (c.args.found.now.items ++ overlaps_past a i (entries (N.below s c.args.number))) =
    gather_below-returns-clause-found g t c in
    (λ h.
    both_paid g t (goal.at.gather_below-returns-clause-cost_inside g t c).After-gather-3 e (omega arith)
    (some n0 n3 e (λ z. grown_more 64 c.args.found.now.items _ c.gather-3.new.found.items c.requires.room
    (found_inside (N.is_node s) (N.below s) _ c.visit-node.result c.visit-node.ensures.seen a i h z) whole)))
  where
    some : (n m e : ℕ) → (e ≡ 0 → n + 1 ≤ m) → 1 ≤ m - n + e
    some n m zero h = let k = h refl in omega (arith, k)
    some n m (suc e) h = omega arith
