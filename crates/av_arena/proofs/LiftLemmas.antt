-- A node with a side that is two levels too high: what each write of a rotation needs, and what all make of the node.
use Rattle.std.proofs.Common.{◌≡◌, ℕ, ◌+◌, ◌<◌, ◌≤◌, max, inl, inr, true, false, cond, eqb, IsSome, Option, Some, refl, sym, ap, ◌∙◌, subst, arith}
use Rattle.std.proofs.Math.Path.{fun_ext}
use Rattle.std.proofs.lemmas.Bool.{both_ways, cases_lt, eqb-true, ne_eqb}
use Rattle.av_base.specs.Words.{with_at}
use Rattle.av_arena.specs.Arena.{on_other, on_side, opposite, side_put, with_side}
use Rattle.av_arena.specs.Below.{IsClosed, IsLeaning, IsLevelAt, IsLow, IsSettled, IsTold, IsUnsettled, number_of}
use Rattle.av_arena.specs.Monoid.{MonoidLaws}
use Rattle.av_arena.specs.Tree.{DifferByAtMost, IsHeightAfter, IsHeld, IsJoined, IsOpened, IsSet, IsSpot, Store, count, height_of, sum_of, tree_at}
use Rattle.av_arena.specs.declared.link.Link.{Link}
use Rattle.av_arena.specs.declared.link.Side.{Side}
use Rattle.av_arena.specs.declared.link.Side.TheVariants.{Left, Right}
use Rattle.av_arena.specs.declared.link.Stored.{Stored}
use Rattle.av_arena.proofs.BelowLemmas.{child_cases, node_cases, opened_at, same_node}
use Rattle.av_arena.proofs.TreeLemmas.{opened, other_left, other_left_right, other_node, other_right, other_right_left, root_counted, set_root, turned_left, turned_left_right, turned_right, turned_right_left, used, with_at_same}

module _ {T S : Type 0} (key : T → ℕ) (unit : S) (op : S → S → S) (of : T → S) (laws : MonoidLaws unit op) where
  -- a node that gets another tree on a side
  pub side_at : (side : Side) (s t : Store T S) (n : ℕ) (l : Option (Link S)) (v : Stored T S) → t ≡ with_at n (side_put side l (s n)) s →
      s n ≡ Some v → t n ≡ Some (with_side side l v)
  side_at side s t n l v e p = ap (λ (f : Store T S). f n) e ∙ (with_at_same key unit op of laws n (side_put side l (s n)) s ∙ ap (side_put side l) p)

  pub side_used : (side : Side) (s t : Store T S) (n : ℕ) (l : Option (Link S)) → t ≡ with_at n (side_put side l (s n)) s → IsSome (s n) → IsSome (t n)
  side_used side s t n l e u =
      let v = node_cases key unit op of laws s n (s n) refl u in rw (side_at side s t n l v.node e v.stored) refl

  low_with : (side : Side) (l : Option (Link S)) (v : Stored T S) → height_of l < 220 → max (height_of v.left) (height_of v.right) < 220 →
      max (height_of (with_side side l v).left) (height_of (with_side side l v).right) < 220
  low_with Left l v h q = omega arith
  low_with Right l v h q = omega arith

  pub side_low : (side : Side) (s t : Store T S) (n : ℕ) (l : Option (Link S)) → t ≡ with_at n (side_put side l (s n)) s → IsSome (s n) →
      IsLow s n → height_of l < 220 → IsLow t n
  side_low side s t n l e u low h = λ w q.
      let v = node_cases key unit op of laws s n (s n) refl u in
      subst (λ (x : Stored T S). max (height_of x.left) (height_of x.right) < 220)
      (same_node key unit op of laws t n _ w (side_at side s t n l v.node e v.stored) q) (low_with side l v.node h (low v.node v.stored))

  pub told_at : (s : Store T S) (n : ℕ) (w : Stored T S) (h : ℕ) (sum : S) → s n ≡ Some w → h ≡ max (height_of w.left) (height_of w.right) + 1 →
      sum ≡ op (sum_of unit w.left) (op (of w.entry) (sum_of unit w.right)) →
      IsTold key unit op of s n (record { number = n; height = h; sum = sum })
  told_at s n w h sum p q r = λ v e.
      let k : Link S = record { number = n; height = h; sum = sum } in
      subst (λ (x : Stored T S). k ≡ record {
        number = n;
        height = max (height_of x.left) (height_of x.right) + 1;
        sum = op (sum_of unit x.left) (op (of x.entry) (sum_of unit x.right));
      }) (same_node key unit op of laws s n w v p e) (rw (q, r) refl)

  pub side_closed : (side : Side) (s t : Store T S) (n : ℕ) (l : Option (Link S)) (k : Link S) → t ≡ with_at n (side_put side l (s n)) s →
      IsTold key unit op of t n k → IsClosed key unit op of side s t n l k
  side_closed Left s t n l k e told v p = record {
    store = e ∙ ap (λ o. with_at n (side_put Left l o) s) p;
    link = told (with_side Left l v) (side_at Left s t n l v e p);
  }
  side_closed Right s t n l k e told v p = record {
    store = e ∙ ap (λ o. with_at n (side_put Right l o) s) p;
    link = told (with_side Right l v) (side_at Right s t n l v e p);
  }

  -- the tree on the side that is too high
  high_held : (side : Side) (s : Store T S) (n m : ℕ) → (r : IsLeaning key unit op of side s n m) → IsHeld key unit op of s (Some r.high)
  high_held Left s n m r = subst (IsHeld key unit op of s) r.is r.spot.left
  high_held Right s n m r = subst (IsHeld key unit op of s) r.is r.spot.right

  pub high_used : (side : Side) (s : Store T S) (n m : ℕ) → IsLeaning key unit op of side s n m → IsSome (s m)
  high_used side s n m r = subst (λ i. IsSome (s i)) r.number (used key unit op of laws s r.high (high_held side s n m r))

  high_opened : (side : Side) (s : Store T S) (n m : ℕ) (w : Stored T S) → (r : IsLeaning key unit op of side s n m) → s m ≡ Some w →
      IsOpened key unit op of s r.high w
  high_opened side s n m w r e = opened_at key unit op of laws s m r.high w r.number (high_held side s n m r) e

  high_other : (side : Side) (s : Store T S) (n m : ℕ) (w : Stored T S) → (r : IsLeaning key unit op of side s n m) → s m ≡ Some w → m ≡ n → ⊥
  high_other Left s n m w r e p = other_left key unit op of laws s n r.high r.node.right w
      (subst (λ l. IsSpot key unit op of s n l r.node.right) r.is r.spot) (high_opened Left s n m w r e) (r.number ∙ p)
  high_other Right s n m w r e p = other_right key unit op of laws s n r.node.left r.high w
      (subst (λ l. IsSpot key unit op of s n r.node.left l) r.is r.spot) (high_opened Right s n m w r e) (r.number ∙ p)

  -- the tree between it and the node
  middle_held : (side : Side) (s : Store T S) (k : Link S) (w : Stored T S) (mid : Link S) → IsOpened key unit op of s k w →
      on_side side w ≡ Some mid → IsHeld key unit op of s (Some mid)
  middle_held Left s k w mid o e = subst (IsHeld key unit op of s) e o.left
  middle_held Right s k w mid o e = subst (IsHeld key unit op of s) e o.right

  middle_counted : (side : Side) (s : Store T S) (w : Stored T S) (mid : Link S) (i : Stored T S) → IsOpened key unit op of s mid i →
      on_side side w ≡ Some mid → 1 ≤ count mid.number (tree_at s w.left) + count mid.number (tree_at s w.right)
  middle_counted Left s w mid i oi e =
      let c = root_counted key unit op of laws s mid i oi in let d = ap (λ l. count mid.number (tree_at s l)) e in omega arith
  middle_counted Right s w mid i oi e =
      let c = root_counted key unit op of laws s mid i oi in let d = ap (λ l. count mid.number (tree_at s l)) e in omega arith

  pub middle_used : (side other : Side) (s : Store T S) (n m : ℕ) (w : Stored T S) (mid : Link S) → IsLeaning key unit op of side s n m →
      s m ≡ Some w → on_side other w ≡ Some mid → IsSome (s mid.number)
  middle_used side other s n m w mid r e b =
      used key unit op of laws s mid (middle_held other s r.high w mid (high_opened side s n m w r e) b)

  middle_other : (side other : Side) (s : Store T S) (n m : ℕ) (w : Stored T S) (mid : Link S) (i : Stored T S) →
      IsLeaning key unit op of side s n m → s m ≡ Some w → on_side other w ≡ Some mid → s mid.number ≡ Some i → mid.number ≡ m → ⊥
  middle_other side other s n m w mid i r e b d p =
      let o = high_opened side s n m w r e in
      let oi = opened key unit op of laws s mid i (middle_held other s r.high w mid o b) d in
      other_node key unit op of laws s r.high.number w.left w.right (record { used = o.used; left = o.left; right = o.right; once = o.once })
      mid.number (middle_counted other s w mid i oi b) (p ∙ sym r.number)

  middle_above : (side other : Side) → other ≡ opposite side → (s : Store T S) (n m : ℕ) (w : Stored T S) (mid : Link S) (i : Stored T S) →
      IsLeaning key unit op of side s n m → s m ≡ Some w → on_side other w ≡ Some mid → s mid.number ≡ Some i → mid.number ≡ n → ⊥
  middle_above Left Left f s n m w mid i r e b d = absurd (let q : Left ≡ Right = f in cc)
  middle_above Left Right f s n m w mid i r e b d =
      let o = high_opened Left s n m w r e in
      other_left_right key unit op of laws s n r.high r.node.right w mid i (subst (λ l. IsSpot key unit op of s n l r.node.right) r.is r.spot) o b
      (opened key unit op of laws s mid i (middle_held Right s r.high w mid o b) d)
  middle_above Right Left f s n m w mid i r e b d =
      let o = high_opened Right s n m w r e in
      other_right_left key unit op of laws s n r.node.left r.high w mid i (subst (λ l. IsSpot key unit op of s n r.node.left l) r.is r.spot) o b
      (opened key unit op of laws s mid i (middle_held Left s r.high w mid o b) d)
  middle_above Right Right f s n m w mid i r e b d = absurd (let q : Right ≡ Left = f in cc)

  -- heights
  side_lower : (side : Side) (v : Stored T S) → height_of (on_side side v) ≤ max (height_of v.left) (height_of v.right)
  side_lower Left v = omega arith
  side_lower Right v = omega arith

  other_lower : (side : Side) (v : Stored T S) → height_of (on_other side v) ≤ max (height_of v.left) (height_of v.right)
  other_lower Left v = omega arith
  other_lower Right v = omega arith

  pub high_low : (side : Side) (s : Store T S) (n m : ℕ) → IsLeaning key unit op of side s n m → IsLow s m
  high_low side s n m r = λ v e. let h = (high_opened side s n m v r e).height in let l = r.low in omega arith

  pub high_side_low : (side one : Side) (s : Store T S) (n m : ℕ) (w : Stored T S) → IsLeaning key unit op of side s n m → s m ≡ Some w →
      height_of (on_side one w) + 1 < 210
  high_side_low side one s n m w r e =
      let h = (high_opened side s n m w r e).height in let l = r.low in let q = side_lower one w in omega arith

  pub middle_side_low : (side other one : Side) (s : Store T S) (n m : ℕ) (w : Stored T S) (mid : Link S) (i : Stored T S) →
      IsLeaning key unit op of side s n m → s m ≡ Some w → on_side other w ≡ Some mid → s mid.number ≡ Some i → height_of (on_side one i) + 2 < 210
  middle_side_low side other one s n m w mid i r e b d =
      let o = high_opened side s n m w r e in
      let h = (opened key unit op of laws s mid i (middle_held other s r.high w mid o b) d).height in
      let l = high_side_low side other s n m w r e in
      let f = ap height_of b in
      let q = side_lower one i in
      omega arith

  closed_height : (side : Side) (s t : Store T S) (n : ℕ) (l : Option (Link S)) (k : Link S) (v : Stored T S) →
      IsClosed key unit op of side s t n l k → s n ≡ Some v → k.height ≡ max (height_of l) (height_of (on_other side v)) + 1
  closed_height Left s t n l k v c e = ap (λ (q : Link S). q.height) (c v e).link
  closed_height Right s t n l k v c e = let h = ap (λ (q : Link S). q.height) (c v e).link in omega arith

  -- a node stays where another one is written
  stays : (side : Side) (s t : Store T S) (n : ℕ) (l : Option (Link S)) (k : Link S) (v : Stored T S) → IsClosed key unit op of side s t n l k →
      s n ≡ Some v → (j : ℕ) → (j ≡ n → ⊥) → t j ≡ s j
  stays side s t n l k v c e j d = ap (λ (f : Store T S). f j) (c v e).store ∙ rw (ne_eqb j n d) refl

  low_stays : (s t : Store T S) (n : ℕ) → t n ≡ s n → IsLow s n → IsLow t n
  low_stays s t n e h = λ v p. h v (sym e ∙ p)

  pub next_low : (side other : Side) → other ≡ opposite side → (s t : Store T S) (n m : ℕ) (w : Stored T S) (l : Option (Link S)) (low : Link S) →
      IsLeaning key unit op of side s n m → s m ≡ Some w → IsClosed key unit op of side s t n l low → IsLow t m
  next_low side other f s t n m w l low r e c = low_stays s t m (stays side s t n l low r.node c r.stored m (high_other side s n m w r e))
      (high_low side s n m r)

  node_low : (side : Side) (s : Store T S) (n m : ℕ) → IsLeaning key unit op of side s n m → IsLow s n
  node_low Left s n m r = λ v e.
      let f = ap (λ (q : Stored T S). height_of q.left) (same_node key unit op of laws s n r.node v r.stored e) in
      let g = ap (λ (q : Stored T S). height_of q.right) (same_node key unit op of laws s n r.node v r.stored e) in
      let h = ap height_of r.is in let two = r.two_higher in let low = r.low in omega arith
  node_low Right s n m r = λ v e.
      let f = ap (λ (q : Stored T S). height_of q.left) (same_node key unit op of laws s n r.node v r.stored e) in
      let g = ap (λ (q : Stored T S). height_of q.right) (same_node key unit op of laws s n r.node v r.stored e) in
      let h = ap height_of r.is in let two = r.two_higher in let low = r.low in omega arith

  -- the link that the first write of one rotation makes
  pub low_told : (side : Side) (s t : Store T S) (n m : ℕ) (l : Option (Link S)) (low : Link S) → IsLeaning key unit op of side s n m →
      IsClosed key unit op of side s t n l low → height_of l < 210 → low.height < 220
  low_told side s t n m l low r c h =
      let e = closed_height side s t n l low r.node c r.stored in let two = r.two_higher in let q = r.low in omega arith

  -- the links that the first writes of two make, and how the others find their nodes
  pub outer_told : (side other : Side) (s t : Store T S) (n m : ℕ) (w : Stored T S) (l : Option (Link S)) (outer : Link S) →
      IsLeaning key unit op of side s n m → s m ≡ Some w → IsClosed key unit op of other s t m l outer → height_of l < 210 → outer.height < 220
  outer_told side other s t n m w l outer r e c h =
      let q = closed_height other s t m l outer w c e in
      let o = (high_opened side s n m w r e).height in let low = r.low in let p = other_lower other w in omega arith

  node_stays : (side other : Side) (s t : Store T S) (n m : ℕ) (w : Stored T S) (l : Option (Link S)) (outer : Link S) →
      (r : IsLeaning key unit op of side s n m) → s m ≡ Some w → IsClosed key unit op of other s t m l outer → t n ≡ Some r.node
  node_stays side other s t n m w l outer r e c =
      stays other s t m l outer w c e n (λ p. high_other side s n m w r e (sym p)) ∙ r.stored

  pub node_later_low : (side other : Side) (s t : Store T S) (n m : ℕ) (w : Stored T S) (l : Option (Link S)) (outer : Link S) →
      IsLeaning key unit op of side s n m → s m ≡ Some w → IsClosed key unit op of other s t m l outer → IsLow t n
  node_later_low side other s t n m w l outer r e c =
      low_stays s t n (node_stays side other s t n m w l outer r e c ∙ sym r.stored) (node_low side s n m r)

  pub later_told : (side other : Side) (s t u : Store T S) (n m : ℕ) (w : Stored T S) (near far : Option (Link S)) (outer low : Link S) →
      IsLeaning key unit op of side s n m → s m ≡ Some w → IsClosed key unit op of other s t m near outer →
      IsClosed key unit op of side t u n far low → height_of far < 210 → low.height < 220
  later_told side other s t u n m w near far outer low r e one two h =
      let q = closed_height side t u n far low r.node two (node_stays side other s t n m w near outer r e one) in
      let higher = r.two_higher in let low = r.low in omega arith

  pub middle_stays : (side other : Side) → other ≡ opposite side → (s t u : Store T S) (n m : ℕ) (w : Stored T S) (mid : Link S) (i : Stored T S)
      (near far : Option (Link S)) (outer low : Link S) → IsLeaning key unit op of side s n m → s m ≡ Some w → on_side other w ≡ Some mid →
      s mid.number ≡ Some i → IsClosed key unit op of other s t m near outer → IsClosed key unit op of side t u n far low → u mid.number ≡ Some i
  middle_stays side other f s t u n m w mid i near far outer low r e b d one two =
      stays side t u n far low r.node two (node_stays side other s t n m w near outer r e one) mid.number
      (middle_above side other f s n m w mid i r e b d)
      ∙ (stays other s t m near outer w one e mid.number (middle_other side other s n m w mid i r e b d) ∙ d)

  pub middle_low : (side other : Side) (s u : Store T S) (n m : ℕ) (w : Stored T S) (mid : Link S) (i : Stored T S) →
      IsLeaning key unit op of side s n m → s m ≡ Some w → on_side other w ≡ Some mid → s mid.number ≡ Some i → u mid.number ≡ Some i →
      IsLow u mid.number
  middle_low side other s u n m w mid i r e b d stay = λ v q.
      subst (λ (x : Stored T S). max (height_of x.left) (height_of x.right) < 220) (same_node key unit op of laws u mid.number i v stay q)
      (let f = middle_side_low side other Left s n m w mid i r e b d in let g = middle_side_low side other Right s n m w mid i r e b d in omega arith)

  -- what becomes of the node
  pub record IsLifted (s u : Store T S) (n : ℕ) (k : Link S) : Type 0 where
    pub settled : IsSettled key unit op of s u n k
    pub other : k.number ≡ n → ⊥

  settled_at : (s u : Store T S) (n : ℕ) (v : Stored T S) (k : Link S) → s n ≡ Some v → IsJoined key unit op of s u n v.left v.entry v.right k →
      IsHeightAfter (height_of v.left) (height_of v.right) k.height → (DifferByAtMost 1 (height_of v.left) (height_of v.right) → ⊥) →
      IsSettled key unit op of s u n k
  settled_at s u n v k e j h uneven = λ w p. subst (λ (q : Stored T S). IsJoined key unit op of s u n q.left q.entry q.right k ×
      IsHeightAfter (height_of q.left) (height_of q.right) k.height × (DifferByAtMost 1 (height_of q.left) (height_of q.right) → u ≡ s))
      (same_node key unit op of laws s n v w e p) (j, h, λ d. absurd (uneven d))

  -- one rotation
  single_left : (s t u : Store T S) (n m : ℕ) (w : Stored T S) (low k : Link S) → IsLeaning key unit op of Left s n m → s m ≡ Some w →
      height_of w.right ≤ height_of w.left → IsClosed key unit op of Left s t n w.right low → IsClosed key unit op of Right t u m (Some low) k →
      IsLifted s u n k
  single_left s t u n m w low k r e le one two =
      let o = high_opened Left s n m w r e in
      let d = high_other Left s n m w r e in
      let x = r.node.entry in
      let b = r.node.right in
      let first : IsSet key unit op of s t n w.right x b low = one r.node r.stored in
      let there : t m ≡ Some w = stays Left s t n w.right low r.node one r.stored m d ∙ e in
      let second : IsSet key unit op of t u m w.left w.entry (Some low) k = two w there in
      let lh : low.height ≡ max (height_of w.right) (height_of b) + 1 = ap (λ (q : Link S). q.height) first.link in
      let kh : k.height ≡ max (height_of w.left) low.height + 1 = ap (λ (q : Link S). q.height) second.link in
      let oh = o.height in let l0 = o.level.0 in let l1 = o.level.1 in let nh = ap height_of r.is in let two = r.two_higher in
      let spot = subst (λ l. IsSpot key unit op of s n l b) r.is r.spot in
      let joined = turned_right key unit op of laws s t u n r.high x b w low k spot o first
      (subst (λ i. IsSet key unit op of t u i w.left w.entry (Some low) k) (sym r.number) second) (omega arith, omega arith) (omega arith, omega arith) in
      record {
        settled = settled_at s u n r.node k r.stored (subst (λ l. IsJoined key unit op of s u n l x b k) (sym r.is) joined)
            (omega arith, omega arith, λ q. absurd (let q0 = q.0 in omega arith)) (λ q. let q0 = q.0 in omega arith);
        other = λ q. d (sym (set_root key unit op of laws t u m w.left w.entry (Some low) k second) ∙ q);
      }

  single_right : (s t u : Store T S) (n m : ℕ) (w : Stored T S) (low k : Link S) → IsLeaning key unit op of Right s n m → s m ≡ Some w →
      height_of w.left ≤ height_of w.right → IsClosed key unit op of Right s t n w.left low → IsClosed key unit op of Left t u m (Some low) k →
      IsLifted s u n k
  single_right s t u n m w low k r e le one two =
      let o = high_opened Right s n m w r e in
      let d = high_other Right s n m w r e in
      let x = r.node.entry in
      let a = r.node.left in
      let first : IsSet key unit op of s t n a x w.left low = one r.node r.stored in
      let there : t m ≡ Some w = stays Right s t n w.left low r.node one r.stored m d ∙ e in
      let second : IsSet key unit op of t u m (Some low) w.entry w.right k = two w there in
      let lh : low.height ≡ max (height_of a) (height_of w.left) + 1 = ap (λ (q : Link S). q.height) first.link in
      let kh : k.height ≡ max low.height (height_of w.right) + 1 = ap (λ (q : Link S). q.height) second.link in
      let oh = o.height in let l0 = o.level.0 in let l1 = o.level.1 in let nh = ap height_of r.is in let two = r.two_higher in
      let spot = subst (λ l. IsSpot key unit op of s n a l) r.is r.spot in
      let joined = turned_left key unit op of laws s t u n a x r.high w low k spot o first
      (subst (λ i. IsSet key unit op of t u i (Some low) w.entry w.right k) (sym r.number) second) (omega arith, omega arith) (omega arith, omega arith) in
      record {
        settled = settled_at s u n r.node k r.stored (subst (λ l. IsJoined key unit op of s u n a x l k) (sym r.is) joined)
            (omega arith, omega arith, λ q. absurd (let q1 = q.1 in omega arith)) (λ q. let q1 = q.1 in omega arith);
        other = λ q. d (sym (set_root key unit op of laws t u m (Some low) w.entry w.right k second) ∙ q);
      }

  pub single : (side other : Side) → other ≡ opposite side → (s t u : Store T S) (n m : ℕ) (w : Stored T S) (between : Option (Link S)) (low k : Link S) →
      IsLeaning key unit op of side s n m → s m ≡ Some w → between ≡ on_side other w → height_of between ≤ height_of (on_side side w) →
      IsClosed key unit op of side s t n between low → IsClosed key unit op of other t u m (Some low) k → IsLifted s u n k
  single Left Left f s t u n m w b low k r e is le one two = absurd (let q : Left ≡ Right = f in cc)
  single Left Right f s t u n m w b low k r e is le one two =
      single_left s t u n m w low k r e (rw is at le) (subst (λ l. IsClosed key unit op of Left s t n l low) is one) two
  single Right Left f s t u n m w b low k r e is le one two =
      single_right s t u n m w low k r e (rw is at le) (subst (λ l. IsClosed key unit op of Right s t n l low) is one) two
  single Right Right f s t u n m w b low k r e is le one two = absurd (let q : Right ≡ Left = f in cc)

  -- two rotations: the last node is written twice
  written_twice : (n : ℕ) (x y : Option (Stored T S)) (s : Store T S) → with_at n x (with_at n y s) ≡ with_at n x s
  written_twice n x y s = fun_ext (λ j. elim (eqb j n) as (λ b. cond b x (cond b y (s j)) ≡ cond b x (s j)) [ true ↦ refl | false ↦ refl ])

  swap_cases : (n m j : ℕ) (x y o : Option (Stored T S)) → (n ≡ m → ⊥) → cond (eqb j n) x (cond (eqb j m) y o) ≡ cond (eqb j m) y (cond (eqb j n) x o)
  swap_cases n m j x y o d = elim (eqb j n) as (λ b. eqb j n ≡ b → cond b x (cond (eqb j m) y o) ≡ cond (eqb j m) y (cond b x o)) [
    | true ↦ λ e. rw (ne_eqb j m (λ p. d (sym (eqb-true j n e) ∙ p))) refl
    | false ↦ λ e. refl
  ] refl

  swapped : (n m : ℕ) (x y : Option (Stored T S)) (s : Store T S) → (n ≡ m → ⊥) → with_at n x (with_at m y s) ≡ with_at m y (with_at n x s)
  swapped n m x y s d = fun_ext (λ j. swap_cases n m j x y (s j) d)

  double_left : (s t u u' x : Store T S) (n m : ℕ) (w : Stored T S) (mid : Link S) (i : Stored T S) (outer low k : Link S) →
      IsLeaning key unit op of Left s n m → s m ≡ Some w → w.right ≡ Some mid → s mid.number ≡ Some i → height_of w.left < mid.height →
      IsClosed key unit op of Right s t m i.left outer → IsClosed key unit op of Left t u n i.right low →
      u' ≡ with_at mid.number (side_put Left (Some outer) (u mid.number)) u → IsClosed key unit op of Right u' x mid.number (Some low) k →
      IsLifted s x n k
  double_left s t u u' x n m w mid i outer low k r e b d lt one two put last =
      let o = high_opened Left s n m w r e in
      let oi = opened key unit op of laws s mid i (middle_held Right s r.high w mid o b) d in
      let z = r.node.entry in
      let c = r.node.right in
      let xn = middle_above Left Right refl s n m w mid i r e b d in
      let first : IsSet key unit op of s t m w.left w.entry i.left outer = one w e in
      let at_n : t n ≡ Some r.node = node_stays Left Right s t n m w i.left outer r e one in
      let second : IsSet key unit op of t u n i.right z c low = two r.node at_n in
      let at_mid : u mid.number ≡ Some i = middle_stays Left Right refl s t u n m w mid i i.left i.right outer low r e b d one two in
      let third : IsSet key unit op of u' x mid.number (Some outer) i.entry (Some low) k =
      last (with_side Left (Some outer) i) (side_at Left u u' mid.number (Some outer) i put at_mid) in
      let third' : IsSet key unit op of u x mid.number (Some outer) i.entry (Some low) k = record {
        store = third.store ∙ (ap (with_at mid.number _) put ∙ written_twice mid.number _ _ u);
        link = third.link;
      } in
      let uh : outer.height ≡ max (height_of w.left) (height_of i.left) + 1 = ap (λ (q : Link S). q.height) first.link in
      let lh : low.height ≡ max (height_of i.right) (height_of c) + 1 = ap (λ (q : Link S). q.height) second.link in
      let kh : k.height ≡ max outer.height low.height + 1 = ap (λ (q : Link S). q.height) third.link in
      let oh = o.height in let l0 = o.level.0 in let l1 = o.level.1 in let bh = ap height_of b in
      let ih = oi.height in let i0 = oi.level.0 in let i1 = oi.level.1 in
      let nh = ap height_of r.is in let higher = r.two_higher in
      let spot = subst (λ l. IsSpot key unit op of s n l c) r.is r.spot in
      let joined = turned_left_right key unit op of laws s t u x n r.high z c w mid i outer low k spot o b oi
      (subst (λ j. IsSet key unit op of s t j w.left w.entry i.left outer) (sym r.number) first) second third'
      (omega arith, omega arith) (omega arith, omega arith) (omega arith, omega arith) in
      record {
        settled = settled_at s x n r.node k r.stored (subst (λ l. IsJoined key unit op of s x n l z c k) (sym r.is) joined)
            (omega arith, omega arith, λ q. absurd (let q0 = q.0 in omega arith)) (λ q. let q0 = q.0 in omega arith);
        other = λ q. xn (sym (set_root key unit op of laws u' x mid.number (Some outer) i.entry (Some low) k third) ∙ q);
      }

  double_right : (s t u u' x : Store T S) (n m : ℕ) (w : Stored T S) (mid : Link S) (i : Stored T S) (outer low k : Link S) →
      IsLeaning key unit op of Right s n m → s m ≡ Some w → w.left ≡ Some mid → s mid.number ≡ Some i → height_of w.right < mid.height →
      IsClosed key unit op of Left s t m i.right outer → IsClosed key unit op of Right t u n i.left low →
      u' ≡ with_at mid.number (side_put Right (Some outer) (u mid.number)) u → IsClosed key unit op of Left u' x mid.number (Some low) k →
      IsLifted s x n k
  double_right s t u u' x n m w mid i outer low k r e b d lt one two put last =
      let o = high_opened Right s n m w r e in
      let oi = opened key unit op of laws s mid i (middle_held Left s r.high w mid o b) d in
      let z = r.node.entry in
      let a = r.node.left in
      let nm = high_other Right s n m w r e in
      let xn = middle_above Right Left refl s n m w mid i r e b d in
      let first : IsSet key unit op of s t m i.right w.entry w.right outer = one w e in
      let at_n : t n ≡ Some r.node = node_stays Right Left s t n m w i.right outer r e one in
      let second : IsSet key unit op of t u n a z i.left low = two r.node at_n in
      let at_mid : u mid.number ≡ Some i = middle_stays Right Left refl s t u n m w mid i i.right i.left outer low r e b d one two in
      let third : IsSet key unit op of u' x mid.number (Some low) i.entry (Some outer) k =
      last (with_side Right (Some outer) i) (side_at Right u u' mid.number (Some outer) i put at_mid) in
      let third' : IsSet key unit op of u x mid.number (Some low) i.entry (Some outer) k = record {
        store = third.store ∙ (ap (with_at mid.number _) put ∙ written_twice mid.number _ _ u);
        link = third.link;
      } in
      let uh : outer.height ≡ max (height_of i.right) (height_of w.right) + 1 = ap (λ (q : Link S). q.height) first.link in
      let lh : low.height ≡ max (height_of a) (height_of i.left) + 1 = ap (λ (q : Link S). q.height) second.link in
      let kh : k.height ≡ max low.height outer.height + 1 = ap (λ (q : Link S). q.height) third.link in
      let oh = o.height in let l0 = o.level.0 in let l1 = o.level.1 in let bh = ap height_of b in
      let ih = oi.height in let i0 = oi.level.0 in let i1 = oi.level.1 in
      let nh = ap height_of r.is in let higher = r.two_higher in
      let spot = subst (λ l. IsSpot key unit op of s n a l) r.is r.spot in
      let v : Option (Stored T S) = Some (record { left = a; entry = z; right = i.left }) in
      let y : Option (Stored T S) = Some (record { left = i.right; entry = w.entry; right = w.right }) in
      let before : IsSet key unit op of s (with_at n v s) n a z i.left low = record { store = refl; link = second.link } in
      let after : IsSet key unit op of (with_at n v s) u m i.right w.entry w.right outer = record {
        store = second.store ∙ (ap (with_at n v) first.store ∙ swapped n m v y s (λ p. nm (sym p)));
        link = first.link;
      } in
      let joined = turned_right_left key unit op of laws s (with_at n v s) u x n a z r.high w mid i low outer k spot o b oi before
      (subst (λ j. IsSet key unit op of (with_at n v s) u j i.right w.entry w.right outer) (sym r.number) after) third'
      (omega arith, omega arith) (omega arith, omega arith) (omega arith, omega arith) in
      record {
        settled = settled_at s x n r.node k r.stored (subst (λ l. IsJoined key unit op of s x n a z l k) (sym r.is) joined)
            (omega arith, omega arith, λ q. absurd (let q1 = q.1 in omega arith)) (λ q. let q1 = q.1 in omega arith);
        other = λ q. xn (sym (set_root key unit op of laws u' x mid.number (Some low) i.entry (Some outer) k third) ∙ q);
      }

  pub double : (side other : Side) → other ≡ opposite side → (s t u u' x : Store T S) (n m : ℕ) (w : Stored T S) (mid : Link S) (i : Stored T S)
      (near far : Option (Link S)) (outer low k : Link S) →
      IsLeaning key unit op of side s n m → s m ≡ Some w → on_side other w ≡ Some mid → s mid.number ≡ Some i → height_of (on_side side w) < mid.height →
      near ≡ on_side side i → far ≡ on_side other i →
      IsClosed key unit op of other s t m near outer → IsClosed key unit op of side t u n far low →
      u' ≡ with_at mid.number (side_put side (Some outer) (u mid.number)) u → IsClosed key unit op of other u' x mid.number (Some low) k →
      IsLifted s x n k
  double Left Left f s t u u' x n m w mid i near far outer low k r e b d lt p q one two put last = absurd (let y : Left ≡ Right = f in cc)
  double Left Right f s t u u' x n m w mid i near far outer low k r e b d lt p q one two put last =
      double_left s t u u' x n m w mid i outer low k r e b d lt (subst (λ l. IsClosed key unit op of Right s t m l outer) p one)
      (subst (λ l. IsClosed key unit op of Left t u n l low) q two) put last
  double Right Left f s t u u' x n m w mid i near far outer low k r e b d lt p q one two put last =
      double_right s t u u' x n m w mid i outer low k r e b d lt (subst (λ l. IsClosed key unit op of Left s t m l outer) p one)
      (subst (λ l. IsClosed key unit op of Right t u n l low) q two) put last
  double Right Right f s t u u' x n m w mid i near far outer low k r e b d lt p q one two put last = absurd (let y : Right ≡ Left = f in cc)

  -- a node that is not level leans to its higher side
  two_higher : (side : Side) (s : Store T S) (n : ℕ) (w : Stored T S) → IsUnsettled key unit op of 2 s n → IsLevelAt key unit op of s n false →
      s n ≡ Some w → height_of (on_other side w) ≤ height_of (on_side side w) → height_of (on_side side w) ≡ height_of (on_other side w) + 2
  two_higher Left s n w un uneven e le =
      let d = subst (λ (x : Stored T S). DifferByAtMost 2 (height_of x.left) (height_of x.right))
      (same_node key unit op of laws s n un.node w un.stored e) un.level in
      let d0 = d.0 in
      elim (cases_lt (height_of w.right + 1) (height_of w.left)) [
        | inl p ↦ omega arith
        | inr p ↦ absurd (both_ways false refl ((uneven w e).1 (omega arith, omega arith)))
      ]
  two_higher Right s n w un uneven e le =
      let d = subst (λ (x : Stored T S). DifferByAtMost 2 (height_of x.left) (height_of x.right))
      (same_node key unit op of laws s n un.node w un.stored e) un.level in
      let d1 = d.1 in
      elim (cases_lt (height_of w.left + 1) (height_of w.right)) [
        | inl p ↦ omega arith
        | inr p ↦ absurd (both_ways false refl ((uneven w e).1 (omega arith, omega arith)))
      ]

  pub leaning : (side : Side) (s : Store T S) (n m : ℕ) (w : Stored T S) → IsUnsettled key unit op of 2 s n → IsLevelAt key unit op of s n false →
      s n ≡ Some w → height_of (on_other side w) ≤ height_of (on_side side w) → number_of (on_side side w) ≡ Some m →
      IsLeaning key unit op of side s n m
  leaning side s n m w un uneven e le p =
      let q = same_node key unit op of laws s n un.node w un.stored e in
      let h = child_cases key unit op of laws side w m (on_side side w) refl p in
      let high = ap height_of h.is in
      let two = two_higher side s n w un uneven e le in
      let low = subst (λ (x : Stored T S). max (height_of x.left) (height_of x.right) < 210) q un.low in
      let most = side_lower side w in
      record {
        node = w;
        high = h.link;
        stored = e;
        spot = subst (λ (x : Stored T S). IsSpot key unit op of s n x.left x.right) q un.spot;
        is = h.is;
        number = h.number;
        two_higher = omega arith;
        low = omega arith;
      }
