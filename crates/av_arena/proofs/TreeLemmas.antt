-- Trees whose nodes stand under numbers: what a change of other nodes keeps, what one node more makes, and what a change on one
-- side of a node makes of the whole.
use Rattle.std.proofs.Common.{append_assoc, append-nil, ◌≡◌, ℕ, zero, suc, ◌+◌, ◌<◌, ◌≤◌, max, ◌⊎◌, inl, inr, Bool, true, false, cond, eqb, IsSome, Option, Some, None, List, [], ◌∷◌, ◌++◌, refl, sym, ap, ◌∙◌, subst, arith}
use Rattle.std.proofs.Math.Path.{fun_ext}
use Rattle.std.proofs.lemmas.Bool.{cases_lt, eqb-true, eq-eqb, ne_eqb}
use Rattle.av_arena.specs.Arena.{side_put}
use Rattle.av_arena.specs.Tree.{DifferByAtMost, Tree, Leaf, Fork, entries, height, is, count, IsLevel, link_of, Store, height_of, sum_of, tree_or_leaf, levels, tree_at, IsStored, IsHeld, IsOpened, IsSet, IsSpot, IsTree, IsJoined, IsPlaceFor, IsPlaced, HasKey, IsRoot, IsWithout, IsPopped}
use Rattle.av_base.specs.Words.{with_at}
use Rattle.av_arena.specs.Monoid.{MonoidLaws, total}
use Rattle.av_arena.specs.Order.{IsRising, without_key, entry_at}
use Rattle.av_arena.proofs.Order.{rising_front, rising_back, at_left, at_right, without_middle}
use Rattle.av_arena.proofs.Monoid.{total-append}
use Rattle.av_arena.specs.declared.link.Link.{Link}
use Rattle.av_arena.specs.declared.link.Side.TheVariants.{Left}
use Rattle.av_arena.specs.declared.link.Stored.{Stored}

module _ {T S : Type 0} (key : T → ℕ) (unit : S) (op : S → S → S) (of : T → S) (laws : MonoidLaws unit op) where
  pub is_self : (n : ℕ) → is n n ≡ 1
  is_self n = rw (eq-eqb n n refl) refl

  pub is_other : (n j : ℕ) → is n j ≡ 0 → n ≡ j → ⊥
  is_other n j e p = let h : is n j ≡ 1 = rw (← p) (is_self n) in omega arith

  pub with_at_same : {X : Type 0} (n : ℕ) (x : X) (f : ℕ → X) → with_at n x f n ≡ x
  with_at_same n x f = rw (eq-eqb n n refl) refl

  pub with_at_other : {X : Type 0} (n : ℕ) (x : X) (f : ℕ → X) (j : ℕ) → is n j ≡ 0 → with_at n x f j ≡ f j
  with_at_other n x f j e = rw (ne_eqb j n (λ p. is_other n j e (sym p))) refl

  -- what a link tells
  pub height_link : (t : Tree T) → height_of (link_of key unit op of t) ≡ height t
  height_link Leaf = refl
  height_link (Fork n l x r) = refl

  pub sum_link : (t : Tree T) → sum_of unit (link_of key unit op of t) ≡ total unit op of (entries t)
  sum_link Leaf = refl
  sum_link (Fork n l x r) = refl

  pub held_height : (s : Store T S) (k : Option (Link S)) → IsHeld key unit op of s k → height (tree_at s k) ≡ height_of k
  held_height s k h = sym (height_link (tree_at s k)) ∙ ap height_of h.link

  pub held_sum : (s : Store T S) (k : Option (Link S)) → IsHeld key unit op of s k → total unit op of (entries (tree_at s k)) ≡ sum_of unit k
  held_sum s k h = sym (sum_link (tree_at s k)) ∙ ap (sum_of unit) h.link

  -- a stored tree is read back
  levels_is : (h : ℕ) (s : Store T S) (t : Tree T) → IsStored key unit op of s t → height t ≤ h → levels h s (link_of key unit op of t) ≡ t
  levels_is zero s Leaf st p = refl
  levels_is (suc h) s Leaf st p = refl
  levels_is zero s (Fork n l x r) st p = absurd (omega arith)
  levels_is (suc h) s (Fork n l x r) st p =
      let a = levels_is h s l st.1 (omega arith) in
      let b = levels_is h s r st.2 (omega arith) in
      ap (λ o. tree_or_leaf o (λ v. Fork n (levels h s v.left) v.entry (levels h s v.right))) st.0 ∙ cc

  pub tree_is : (s : Store T S) (t : Tree T) → IsStored key unit op of s t → tree_at s (link_of key unit op of t) ≡ t
  unfolding tree_at
  tree_is s t st = levels_is (height_of (link_of key unit op of t)) s t st (rw (height_link t) (omega arith))

  pub stored_kept : (s s' : Store T S) (t : Tree T) → ((j : ℕ) → 1 ≤ count j t → s' j ≡ s j) → IsStored key unit op of s t
      → IsStored key unit op of s' t
  stored_kept s s' Leaf keep st = tt
  stored_kept s s' (Fork n l x r) keep st =
      let e = is_self n in
      (keep n (omega arith) ∙ st.0, stored_kept s s' l (λ j p. keep j (omega arith)) st.1, stored_kept s s' r (λ j p. keep j (omega arith)) st.2)

  -- the same tree in another store
  pub record IsSame (s s' : Store T S) (k : Option (Link S)) : Type 0 where
    pub held : IsHeld key unit op of s' k
    pub tree : tree_at s' k ≡ tree_at s k

  pub kept : (s s' : Store T S) (k : Option (Link S)) → IsHeld key unit op of s k → ((j : ℕ) → 1 ≤ count j (tree_at s k) → s' j ≡ s j) → IsSame s s' k
  kept s s' k h keep =
      let st = stored_kept s s' (tree_at s k) keep h.stored in
      let e : tree_at s' k ≡ tree_at s k = rw h.link at (tree_is s' (tree_at s k) st) in
      record {
        held = record { stored = rw e st; link = rw e h.link; once = λ j. rw e (h.once j); level = rw e h.level };
        tree = e;
      }

  held_part : (s : Store T S) (t : Tree T) → IsStored key unit op of s t → ((j : ℕ) → count j t ≤ 1) → IsLevel t →
      IsHeld key unit op of s (link_of key unit op of t)
  held_part s t st o lv = let e = tree_is s t st in
      record { stored = rw e st; link = ap (link_of key unit op of) e; once = λ j. rw e (o j); level = rw e lv }

  opened_node : (s : Store T S) (n : ℕ) (l : Tree T) (x : T) (r : Tree T) (k : Link S) → IsStored key unit op of s (Fork n l x r) →
      ((j : ℕ) → count j (Fork n l x r) ≤ 1) → IsLevel (Fork n l x r) →
      k ≡ record { number = n; height = max (height l) (height r) + 1; sum = total unit op of (entries l ++ x ∷ entries r) } →
      tree_at s (Some k) ≡ Fork n l x r →
      IsOpened key unit op of s k (record { left = link_of key unit op of l; entry = x; right = link_of key unit op of r })
  opened_node s n l x r k st o lv e t =
      let a = tree_is s l st.1 in
      let b = tree_is s r st.2 in
      let p : k.number ≡ n = ap (λ (m : Link S). m.number) e in
      let q : k.height ≡ max (height l) (height r) + 1 = ap (λ (m : Link S). m.height) e in
      record {
        used = rw (p, st.0) refl;
        root = record {
          stored = rw p st.0;
          told = rw (height_link l, height_link r, sum_link l, sum_link r) (e ∙ rw (p, total-append laws of (entries l) (x ∷ entries r)) refl);
          level = rw (height_link l, height_link r) lv.0;
        };
        tree = rw (a, b) (subst (λ (m : ℕ). tree_at s (Some k) ≡ Fork m l x r) (sym p) t);
        left = held_part s l st.1 (λ j. let h = o j in omega arith) lv.1;
        right = held_part s r st.2 (λ j. let h = o j in omega arith) lv.2;
        once = λ j. rw (a, b, p) (o j);
        height = rw (height_link l, height_link r) q;
        level = rw (height_link l, height_link r) lv.0;
      }

  opened_of : (s : Store T S) (t : Tree T) (k : Link S) (v : Stored T S) → IsStored key unit op of s t → ((j : ℕ) → count j t ≤ 1) → IsLevel t →
      link_of key unit op of t ≡ Some k → tree_at s (Some k) ≡ t → s k.number ≡ Some v → IsOpened key unit op of s k v
  opened_of s Leaf k v st o lv e t u = cc
  opened_of s (Fork n l x r) k v st o lv e t u =
      let d : k ≡ record { number = n; height = max (height l) (height r) + 1; sum = total unit op of (entries l ++ x ∷ entries r) } = cc in
      let p : k.number ≡ n = ap (λ (m : Link S). m.number) d in
      let w : record { left = link_of key unit op of l; entry = x; right = link_of key unit op of r } ≡ v = cc (ap s p, st.0, u) in
      subst (IsOpened key unit op of s k) w (opened_node s n l x r k st o lv d t)

  pub opened : (s : Store T S) (k : Link S) (v : Stored T S) → IsHeld key unit op of s (Some k) → s k.number ≡ Some v → IsOpened key unit op of s k v
  opened s k v h u = opened_of s (tree_at s (Some k)) k v h.stored h.once h.level h.link refl u

  used_of : (s : Store T S) (t : Tree T) (k : Link S) → IsStored key unit op of s t → link_of key unit op of t ≡ Some k → IsSome (s k.number)
  used_of s Leaf k st e = cc
  used_of s (Fork n l x r) k st e =
      let p : n ≡ k.number = cc in
      rw (← p, st.0) refl

  pub used : (s : Store T S) (k : Link S) → IsHeld key unit op of s (Some k) → IsSome (s k.number)
  used s k h = used_of s (tree_at s (Some k)) k h.stored h.link

  -- a tree that is made of a node and its sides
  pub record IsShut (s s' : Store T S) (n : ℕ) (a : Option (Link S)) (x : T) (b : Option (Link S)) (k : Link S) : Type 0 where
    pub tree : tree_at s' (Some k) ≡ Fork n (tree_at s a) x (tree_at s b)
    pub held : IsHeld key unit op of s' (Some k)

  pub shut : (s s' : Store T S) (n : ℕ) (a : Option (Link S)) (x : T) (b : Option (Link S)) (k : Link S) → IsSet key unit op of s s' n a x b k →
      IsHeld key unit op of s a → IsHeld key unit op of s b → DifferByAtMost 1 (height_of a) (height_of b) →
      ((j : ℕ) → is n j + (count j (tree_at s a) + count j (tree_at s b)) ≤ 1) → IsShut s s' n a x b k
  shut s s' n a x b k set p q lv o =
      let v : Stored T S = record { left = a; entry = x; right = b } in
      let l = tree_at s a in
      let r = tree_at s b in
      let here : s' n ≡ Some v = ap (λ (f : Store T S). f n) set.store ∙ with_at_same n (Some v) s in
      let there : (j : ℕ) → 1 ≤ count j l + count j r → s' j ≡ s j = λ j c. ap (λ (f : Store T S). f j) set.store
      ∙ with_at_other n (Some v) s j (let h = o j in omega arith) in
      let st : IsStored key unit op of s' (Fork n l x r) = (
        rw (p.link, q.link) here,
        stored_kept s s' l (λ j c. there j (omega arith)) p.stored,
        stored_kept s s' r (λ j c. there j (omega arith)) q.stored,
      ) in
      let e : link_of key unit op of (Fork n l x r) ≡ Some k = rw (
        held_height s a p,
        held_height s b q,
        total-append laws of (entries l) (x ∷ entries r),
        held_sum s a p,
        held_sum s b q,
      ) (ap Some (sym set.link)) in
      let t : tree_at s' (Some k) ≡ Fork n l x r = rw e at (tree_is s' (Fork n l x r) st) in
      record {
        tree = t;
        held = record {
          stored = rw t st;
          link = rw t e;
          once = λ j. rw t (o j);
          level = rw t (rw (held_height s a p, held_height s b q) lv, p.level, q.level);
        };
      }

  pub unset : (s s' : Store T S) (n : ℕ) (a : Option (Link S)) (x : T) (b : Option (Link S)) (k : Link S) → IsSet key unit op of s s' n a x b k →
      (j : ℕ) → is n j ≡ 0 → s' j ≡ s j
  unset s s' n a x b k set j e = ap (λ (f : Store T S). f j) set.store ∙ with_at_other n (Some (record { left = a; entry = x; right = b })) s j e

  pub used_cases : (b : Bool) (v : Stored T S) (o : Option (Stored T S)) → IsSome o → IsSome (cond b (Some v) o)
  used_cases true v o h = refl
  used_cases false v o h = h

  pub still_used : (s s' : Store T S) (n : ℕ) (a : Option (Link S)) (x : T) (b : Option (Link S)) (k : Link S) → IsSet key unit op of s s' n a x b k →
      (m : ℕ) → IsSome (s m) → IsSome (s' m)
  still_used s s' n a x b k set m h = subst (λ (f : Store T S). IsSome (f m)) (sym set.store)
      (used_cases (eqb m n) (record { left = a; entry = x; right = b }) (s m) h)

  -- a tree that takes the place of a node above its sides, said of trees
  joined_as : (s s' : Store T S) (n : ℕ) (a : Option (Link S)) (x : T) (b : Option (Link S)) (k : Link S) (t l r : Tree T)
      → IsHeld key unit op of s' (Some k) →
      tree_at s' (Some k) ≡ t → tree_at s a ≡ l → tree_at s b ≡ r → entries t ≡ entries l ++ x ∷ entries r →
      ((j : ℕ) → count j t ≡ is n j + (count j l + count j r)) → ((j : ℕ) → count j t ≡ 0 → s' j ≡ s j) → ((j : ℕ) → IsSome (s j) → IsSome (s' j)) →
      IsJoined key unit op of s s' n a x b k
  joined_as s s' n a x b k t l r held e p q sp co keep stay = record {
    used = stay;
    held = held;
    entries = rw (e, p, q) sp;
    count = λ j. rw (e, p, q) (let h = co j in omega arith);
    kept = λ j z. keep j (co j ∙ rw (← p, ← q) z);
  }

  pub joined_once : (s s' : Store T S) (n : ℕ) (a : Option (Link S)) (x : T) (b : Option (Link S)) (k : Link S) → IsSpot key unit op of s n a b →
      IsSet key unit op of s s' n a x b k → DifferByAtMost 1 (height_of a) (height_of b) → IsJoined key unit op of s s' n a x b k
  joined_once s s' n a x b k spot set lv =
      let h = shut s s' n a x b k set spot.left spot.right lv spot.once in
      joined_as s s' n a x b k (Fork n (tree_at s a) x (tree_at s b)) (tree_at s a) (tree_at s b) h.held h.tree refl refl refl (λ j. refl)
      (λ j z. unset s s' n a x b k set j (omega arith)) (still_used s s' n a x b k set)

  -- a number is this one or counts nothing
  pub is_cases : (n j : ℕ) → (is n j ≡ 0) ⊎ (n ≡ j)
  is_cases n j = elim (eqb n j) as (λ b. eqb n j ≡ b → (◌≡◌ {A = ℕ} (cond b 1 0) 0) ⊎ (n ≡ j)) [
    | true ↦ λ e. inr (eqb-true n j e)
    | false ↦ λ e. inl refl
  ] refl

  pub is_at_most : (n j : ℕ) → is n j ≤ 1
  is_at_most n j = elim (eqb n j) as (λ (b : Bool). cond {A = ℕ} b 1 0 ≤ 1) [ true ↦ omega arith | false ↦ omega arith ]

  -- a node whose sides stay
  pub joined_same : (s : Store T S) (k : Link S) (l : Option (Link S)) (x : T) (r : Option (Link S)) → IsRoot key unit op of s k l x r →
      IsSpot key unit op of s k.number l r → IsJoined key unit op of s s k.number l x r k
  joined_same s k l x r root spot =
      let v : Stored T S = record { left = l; entry = x; right = r } in
      joined_once s s k.number l x r k spot (record {
        store = fun_ext (λ j. elim (is_cases k.number j) [
          | inl e ↦ sym (with_at_other k.number (Some v) s j e)
          | inr e ↦ subst (λ i. s i ≡ with_at k.number (Some v) s i) e (root.stored ∙ sym (with_at_same k.number (Some v) s))
        ]);
        link = root.told;
      }) root.level

  -- the node that is read is the one that is told
  pub node_is : (s : Store T S) (k : Link S) (l : Option (Link S)) (x : T) (r : Option (Link S)) (v : Stored T S) → IsRoot key unit op of s k l x r →
      s k.number ≡ Some v → v ≡ record { left = l; entry = x; right = r }
  node_is s k l x r v root e = let d : Some v ≡ Some (record { left = l; entry = x; right = r }) = sym e ∙ root.stored in cc

  pub root_height : (s : Store T S) (k : Link S) (l : Option (Link S)) (x : T) (r : Option (Link S)) → IsRoot key unit op of s k l x r →
      k.height ≡ max (height_of l) (height_of r) + 1
  root_height s k l x r root = ap (λ (m : Link S). m.height) root.told

  -- a side as high as the one before is put in its place
  pub left_set : (s s' : Store T S) (k : Link S) (own left : Option (Link S)) (x : T) (right : Option (Link S)) (sum : S) →
      IsRoot key unit op of s k own x right → IsSpot key unit op of s k.number left right
      → s' ≡ with_at k.number (side_put Left left (s k.number)) s →
      height_of own ≡ height_of left → sum ≡ op (sum_of unit left) (op (of x) (sum_of unit right)) →
      IsJoined key unit op of s s' k.number left x right (record { number = k.number; height = k.height; sum = sum })
  left_set s s' k own left x right sum root spot e h p =
      let high : k.height ≡ max (height_of left) (height_of right) + 1 = rw h at (root_height s k own x right root) in
      joined_once s s' k.number left x right _ spot (record {
        store = e ∙ ap (λ o. with_at k.number (side_put Left left o) s) root.stored;
        link = rw (high, p) refl;
      }) (rw h at root.level)

  -- a node stands where one of its sides has changed
  pub root_kept : (s s' : Store T S) (k : Link S) (l : Option (Link S)) (x : T) (r new : Option (Link S)) (xs : List T) (f g : ℕ → ℕ) →
      IsRoot key unit op of s k l x r → IsTree key unit op of s s' new xs f g → f k.number ≡ 0 → IsRoot key unit op of s' k l x r
  root_kept s s' k l x r new xs f g root t z = record { stored = t.kept k.number z ∙ root.stored; told = root.told; level = root.level }

  -- a link tells the node that is put
  pub set_root : (s s' : Store T S) (n : ℕ) (a : Option (Link S)) (x : T) (b : Option (Link S)) (k : Link S) → IsSet key unit op of s s' n a x b k →
      k.number ≡ n
  set_root s s' n a x b k set = ap (λ (m : Link S). m.number) set.link

  -- a node of a side is another one than the node above
  pub root_counted : (s : Store T S) (k : Link S) (v : Stored T S) → IsOpened key unit op of s k v → 1 ≤ count k.number (tree_at s (Some k))
  root_counted s k v o = rw o.tree (let e = is_self k.number in omega arith)

  pub other_node : (s : Store T S) (n : ℕ) (a b : Option (Link S)) → IsSpot key unit op of s n a b → (j : ℕ) →
      1 ≤ count j (tree_at s a) + count j (tree_at s b) → j ≡ n → ⊥
  other_node s n a b spot j c e = let o = spot.once j in is_other n j (omega arith) (sym e)

  -- so the root is another one after a rotation
  pub other_left : (s : Store T S) (n : ℕ) (left : Link S) (right : Option (Link S)) (v : Stored T S) → IsSpot key unit op of s n (Some left) right →
      IsOpened key unit op of s left v → left.number ≡ n → ⊥
  other_left s n left right v spot o = other_node s n (Some left) right spot left.number (let c = root_counted s left v o in omega arith)

  pub other_right : (s : Store T S) (n : ℕ) (left : Option (Link S)) (right : Link S) (v : Stored T S) → IsSpot key unit op of s n left (Some right) →
      IsOpened key unit op of s right v → right.number ≡ n → ⊥
  other_right s n left right v spot o = other_node s n left (Some right) spot right.number (let c = root_counted s right v o in omega arith)

  pub other_left_right : (s : Store T S) (n : ℕ) (left : Link S) (right : Option (Link S)) (v : Stored T S) (mid : Link S) (i : Stored T S) →
      IsSpot key unit op of s n (Some left) right → IsOpened key unit op of s left v → v.right ≡ Some mid → IsOpened key unit op of s mid i →
      mid.number ≡ n → ⊥
  other_left_right s n left right v mid i spot o e oi = other_node s n (Some left) right spot mid.number
      (rw o.tree (let c = root_counted s mid i oi in let d = ap (λ l. count mid.number (tree_at s l)) e in omega arith))

  pub other_right_left : (s : Store T S) (n : ℕ) (left : Option (Link S)) (right : Link S) (v : Stored T S) (mid : Link S) (i : Stored T S) →
      IsSpot key unit op of s n left (Some right) → IsOpened key unit op of s right v → v.left ≡ Some mid → IsOpened key unit op of s mid i →
      mid.number ≡ n → ⊥
  other_right_left s n left right v mid i spot o e oi = other_node s n left (Some right) spot mid.number
      (rw o.tree (let c = root_counted s mid i oi in let d = ap (λ l. count mid.number (tree_at s l)) e in omega arith))

  -- one rotation
  pub turned_right : (s s' s'' : Store T S) (n : ℕ) (left : Link S) (x : T) (right : Option (Link S)) (v : Stored T S) (low k : Link S) →
      IsSpot key unit op of s n (Some left) right → IsOpened key unit op of s left v → IsSet key unit op of s s' n v.right x right low →
      IsSet key unit op of s' s'' left.number v.left v.entry (Some low) k → DifferByAtMost 1 (height_of v.right) (height_of right) →
      DifferByAtMost 1 (height_of v.left) low.height → IsJoined key unit op of s s'' n (Some left) x right k
  turned_right s s' s'' n left x right v low k spot o one two p q =
      let a = tree_at s v.left in
      let b = tree_at s v.right in
      let r = tree_at s right in
      let m = left.number in
      let once : (j : ℕ) → is n j + ((is m j + (count j a + count j b)) + count j r) ≤ 1 = λ j. rw o.tree at (spot.once j) in
      let h = shut s s' n v.right x right low one o.right spot.right p (λ j. let c = once j in omega arith) in
      let ka = kept s s' v.left o.left (λ j c. unset s s' n v.right x right low one j (let d = once j in omega arith)) in
      let w = shut s' s'' m v.left v.entry (Some low) k two ka.held h.held q (λ j. rw (ka.tree, h.tree) (let c = once j in omega arith)) in
      joined_as s s'' n (Some left) x right k (Fork m a v.entry (Fork n b x r)) (Fork m a v.entry b) r w.held
      (w.tree ∙ rw (ka.tree, h.tree) refl) o.tree refl
      (sym (append_assoc (entries a) (v.entry ∷ entries b) (x ∷ entries r))) (λ j. omega arith)
      (λ j z. unset s' s'' m v.left v.entry (Some low) k two j (omega arith) ∙ unset s s' n v.right x right low one j (omega arith))
      (λ j u. still_used s' s'' m v.left v.entry (Some low) k two j (still_used s s' n v.right x right low one j u))

  pub turned_left : (s s' s'' : Store T S) (n : ℕ) (left : Option (Link S)) (x : T) (right : Link S) (v : Stored T S) (low k : Link S) →
      IsSpot key unit op of s n left (Some right) → IsOpened key unit op of s right v → IsSet key unit op of s s' n left x v.left low →
      IsSet key unit op of s' s'' right.number (Some low) v.entry v.right k → DifferByAtMost 1 (height_of left) (height_of v.left) →
      DifferByAtMost 1 low.height (height_of v.right) → IsJoined key unit op of s s'' n left x (Some right) k
  turned_left s s' s'' n left x right v low k spot o one two p q =
      let a = tree_at s v.left in
      let b = tree_at s v.right in
      let l = tree_at s left in
      let m = right.number in
      let once : (j : ℕ) → is n j + (count j l + (is m j + (count j a + count j b))) ≤ 1 = λ j. rw o.tree at (spot.once j) in
      let h = shut s s' n left x v.left low one spot.left o.left p (λ j. let c = once j in omega arith) in
      let kb = kept s s' v.right o.right (λ j c. unset s s' n left x v.left low one j (let d = once j in omega arith)) in
      let w = shut s' s'' m (Some low) v.entry v.right k two h.held kb.held q (λ j. rw (kb.tree, h.tree) (let c = once j in omega arith)) in
      joined_as s s'' n left x (Some right) k (Fork m (Fork n l x a) v.entry b) l (Fork m a v.entry b) w.held
      (w.tree ∙ rw (kb.tree, h.tree) refl) refl o.tree
      (append_assoc (entries l) (x ∷ entries a) (v.entry ∷ entries b)) (λ j. omega arith)
      (λ j z. unset s' s'' m (Some low) v.entry v.right k two j (omega arith) ∙ unset s s' n left x v.left low one j (omega arith))
      (λ j u. still_used s' s'' m (Some low) v.entry v.right k two j (still_used s s' n left x v.left low one j u))

  -- two rotations: three nodes above four sides
  record IsThree (s s' : Store T S) (n m o : ℕ) (a : Option (Link S)) (x : T) (b : Option (Link S)) (y : T) (c : Option (Link S)) (z : T)
      (d : Option (Link S)) (k : Link S) : Type 0 where
    held : IsHeld key unit op of s' (Some k)
    tree : tree_at s' (Some k) ≡ Fork m (Fork n (tree_at s a) x (tree_at s b)) y (Fork o (tree_at s c) z (tree_at s d))
    kept : (j : ℕ) → is n j + (is m j + is o j) ≡ 0 → s' j ≡ s j
    used : (j : ℕ) → IsSome (s j) → IsSome (s' j)

  three : (s t u w : Store T S) (n m o : ℕ) (a : Option (Link S)) (x : T) (b : Option (Link S)) (y : T) (c : Option (Link S)) (z : T)
      (d : Option (Link S))
      (low high k : Link S) → IsHeld key unit op of s a → IsHeld key unit op of s b → IsHeld key unit op of s c → IsHeld key unit op of s d →
      IsSet key unit op of s t n a x b low → IsSet key unit op of t u o c z d high → IsSet key unit op of u w m (Some low) y (Some high) k →
      DifferByAtMost 1 (height_of a) (height_of b) → DifferByAtMost 1 (height_of c) (height_of d) → DifferByAtMost 1 low.height high.height →
      ((j : ℕ) → (is n j + (is m j + is o j)) +
      ((count j (tree_at s a) + count j (tree_at s b)) + (count j (tree_at s c) + count j (tree_at s d))) ≤ 1) →
      IsThree s w n m o a x b y c z d k
  three s t u w n m o a x b y c z d low high k ha hb hc hd one two last p q r once =
      let f = shut s t n a x b low one ha hb p (λ j. let e = once j in omega arith) in
      let kc = kept s t c hc (λ j e. unset s t n a x b low one j (let i = once j in omega arith)) in
      let kd = kept s t d hd (λ j e. unset s t n a x b low one j (let i = once j in omega arith)) in
      let g = shut t u o c z d high two kc.held kd.held q (λ j. rw (kc.tree, kd.tree) (let e = once j in omega arith)) in
      let kf = kept t u (Some low) f.held (λ j e. unset t u o c z d high two j (let i = once j in let v = rw f.tree at e in omega arith)) in
      let h = shut u w m (Some low) y (Some high) k last kf.held g.held r
      (λ j. rw (kf.tree, f.tree, g.tree, kc.tree, kd.tree) (let e = once j in omega arith)) in
      record {
        held = h.held;
        tree = h.tree ∙ rw (kf.tree, f.tree, g.tree, kc.tree, kd.tree) refl;
        used = λ j v. still_used u w m (Some low) y (Some high) k last j (still_used t u o c z d high two j (still_used s t n a x b low one j v));
        kept = λ j e. unset u w m (Some low) y (Some high) k last j (omega arith)
            ∙ (unset t u o c z d high two j (omega arith) ∙ unset s t n a x b low one j (omega arith));
      }

  pub turned_left_right : (s t u w : Store T S) (n : ℕ) (left : Link S) (x : T) (right : Option (Link S)) (v : Stored T S) (mid : Link S)
      (i : Stored T S)
      (low high k : Link S) → IsSpot key unit op of s n (Some left) right → IsOpened key unit op of s left v → v.right ≡ Some mid →
      IsOpened key unit op of s mid i → IsSet key unit op of s t left.number v.left v.entry i.left low
      → IsSet key unit op of t u n i.right x right high →
      IsSet key unit op of u w mid.number (Some low) i.entry (Some high) k → DifferByAtMost 1 (height_of v.left) (height_of i.left) →
      DifferByAtMost 1 (height_of i.right) (height_of right) → DifferByAtMost 1 low.height high.height
      → IsJoined key unit op of s w n (Some left) x right k
  turned_left_right s t u w n left x right v mid i low high k spot o e oi one two last p q r =
      let a = tree_at s v.left in
      let b = tree_at s i.left in
      let c = tree_at s i.right in
      let d = tree_at s right in
      let eq : tree_at s (Some left) ≡ Fork left.number a v.entry (Fork mid.number b i.entry c) =
      o.tree ∙ ap (λ g. Fork left.number a v.entry g) (ap (tree_at s) e ∙ oi.tree) in
      let once : (j : ℕ) → is n j + ((is left.number j + (count j a + (is mid.number j + (count j b + count j c)))) + count j d) ≤ 1 =
      λ j. rw eq at (spot.once j) in
      let h = three s t u w left.number mid.number n v.left v.entry i.left i.entry i.right x right low high k o.left oi.left oi.right
      spot.right one two last p
      q r (λ j. let g = once j in omega arith) in
      joined_as s w n (Some left) x right k (Fork mid.number (Fork left.number a v.entry b) i.entry (Fork n c x d))
      (Fork left.number a v.entry (Fork mid.number b i.entry c)) d h.held h.tree eq refl
      (simp append_assoc) (λ j. omega arith) (λ j z. h.kept j (omega arith)) h.used

  pub turned_right_left : (s t u w : Store T S) (n : ℕ) (left : Option (Link S)) (x : T) (right : Link S) (v : Stored T S) (mid : Link S)
      (i : Stored T S)
      (low high k : Link S) → IsSpot key unit op of s n left (Some right) → IsOpened key unit op of s right v → v.left ≡ Some mid →
      IsOpened key unit op of s mid i → IsSet key unit op of s t n left x i.left low
      → IsSet key unit op of t u right.number i.right v.entry v.right high →
      IsSet key unit op of u w mid.number (Some low) i.entry (Some high) k → DifferByAtMost 1 (height_of left) (height_of i.left) →
      DifferByAtMost 1 (height_of i.right) (height_of v.right) → DifferByAtMost 1 low.height high.height
      → IsJoined key unit op of s w n left x (Some right) k
  turned_right_left s t u w n left x right v mid i low high k spot o e oi one two last p q r =
      let a = tree_at s left in
      let b = tree_at s i.left in
      let c = tree_at s i.right in
      let d = tree_at s v.right in
      let eq : tree_at s (Some right) ≡ Fork right.number (Fork mid.number b i.entry c) v.entry d =
      o.tree ∙ ap (λ g. Fork right.number g v.entry d) (ap (tree_at s) e ∙ oi.tree) in
      let once : (j : ℕ) → is n j + (count j a + (is right.number j + ((is mid.number j + (count j b + count j c)) + count j d))) ≤ 1 =
      λ j. rw eq at (spot.once j) in
      let h = three s t u w n mid.number right.number left x i.left i.entry i.right v.entry v.right low high k spot.left oi.left oi.right
      o.right one two last p
      q r (λ j. let g = once j in omega arith) in
      joined_as s w n left x (Some right) k (Fork mid.number (Fork n a x b) i.entry (Fork right.number c v.entry d)) a
      (Fork right.number (Fork mid.number b i.entry c) v.entry d) h.held h.tree refl eq
      (simp append_assoc) (λ j. omega arith) (λ j z. h.kept j (omega arith)) h.used

  pub retree : (s s' : Store T S) (k : Option (Link S)) (xs ys : List T) (f f' g g' : ℕ → ℕ) → IsTree key unit op of s s' k xs f g → xs ≡ ys →
      ((j : ℕ) → f j ≡ f' j) → ((j : ℕ) → g j ≡ g' j) → IsTree key unit op of s s' k ys f' g'
  retree s s' k xs ys f f' g g' t e p q = record {
    held = t.held;
    entries = t.entries ∙ e;
    count = λ j. let a = t.count j in let b = p j in let c = q j in omega arith;
    kept = λ j z. t.kept j (p j ∙ z);
    used = t.used;
  }

  -- a node that is in use afterwards is the new tree's, or gone, or one of the others
  pub in_use_cases : (s s' : Store T S) (k : Option (Link S)) (xs : List T) (f g : ℕ → ℕ) → IsTree key unit op of s s' k xs f g → (j : ℕ)
      → IsSome (s' j) →
      (1 ≤ count j (tree_at s' k) + g j) ⊎ (IsSome (s j) × (f j ≡ 0))
  in_use_cases s s' k xs f g t j u =
      let c = t.count j in
      elim (cases_lt 0 (f j)) [ inl h ↦ inl (omega arith) | inr h ↦ let z : f j ≡ 0 = omega arith in inr (subst IsSome (t.kept j z) u, z) ]

  pub in_use : (s s' : Store T S) (k : Option (Link S)) (xs : List T) (f g : ℕ → ℕ) → IsTree key unit op of s s' k xs f g
      → ((j : ℕ) → IsSome (s j) → 1 ≤ f j) →
      (j : ℕ) → IsSome (s' j) → 1 ≤ count j (tree_at s' k) + g j
  in_use s s' k xs f g t all j u = elim (in_use_cases s s' k xs f g t j u) [ inl h ↦ h | inr h ↦ let e = all j h.0 in let z = h.1 in omega arith ]

  -- one side of a node has changed
  pub ready_left : (s s' : Store T S) (n : ℕ) (new b : Option (Link S)) (xs : List T) (f g : ℕ → ℕ) → IsTree key unit op of s s' new xs f g →
      IsHeld key unit op of s b → IsSome (s n) → ((j : ℕ) → is n j + (f j + count j (tree_at s b)) ≤ 1) → IsSpot key unit op of s' n new b
  ready_left s s' n new b xs f g t h u o =
      let k = kept s s' b h (λ j c. t.kept j (let d = o j in omega arith)) in
      record { used = t.used n u; left = t.held; right = k.held; once = λ j. rw k.tree (let d = o j in let c = t.count j in omega arith) }

  pub ready_right : (s s' : Store T S) (n : ℕ) (a new : Option (Link S)) (xs : List T) (f g : ℕ → ℕ) → IsTree key unit op of s s' new xs f g →
      IsHeld key unit op of s a → IsSome (s n) → ((j : ℕ) → is n j + (count j (tree_at s a) + f j) ≤ 1) → IsSpot key unit op of s' n a new
  ready_right s s' n a new xs f g t h u o =
      let k = kept s s' a h (λ j c. t.kept j (let d = o j in omega arith)) in
      record { used = t.used n u; left = k.held; right = t.held; once = λ j. rw k.tree (let d = o j in let c = t.count j in omega arith) }

  -- and the node is put above its sides
  pub whole_left : (s s' s'' : Store T S) (n : ℕ) (new b : Option (Link S)) (x : T) (k : Link S) (xs : List T) (f g : ℕ → ℕ) →
      IsTree key unit op of s s' new xs f g → IsHeld key unit op of s b → ((j : ℕ) → is n j + (f j + count j (tree_at s b)) ≤ 1) →
      IsJoined key unit op of s' s'' n new x b k → IsTree key unit op of s s'' (Some k) (xs ++ x ∷ entries (tree_at s b))
      (λ j. is n j + (f j + count j (tree_at s b))) g
  whole_left s s' s'' n new b x k xs f g t h o w =
      let kb = kept s s' b h (λ j c. t.kept j (let d = o j in omega arith)) in
      record {
        held = w.held;
        entries = w.entries ∙ rw (t.entries, kb.tree) refl;
        count = λ j. let c = w.count j in let d = t.count j in let e = ap (count j) kb.tree in omega arith;
        kept = λ j z. let d = t.count j in let e = ap (count j) kb.tree in w.kept j (omega arith) ∙ t.kept j (omega arith);
        used = λ j u. w.used j (t.used j u);
      }

  -- putting in
  pub fresh_once : (s : Store T S) (k : Link S) (v : Stored T S) (n : ℕ) → IsOpened key unit op of s k v
      → count n (tree_at s (Some k)) ≡ 0 → (j : ℕ) →
      is n j + (is k.number j + (count j (tree_at s v.left) + count j (tree_at s v.right))) ≤ 1
  fresh_once s k v n o z j = elim (is_cases n j) [
    | inl e ↦ let c = o.once j in omega arith
    | inr e ↦ let c : is k.number j + (count j (tree_at s v.left) + count j (tree_at s v.right)) ≡ 0 =
        subst (λ (i : ℕ). is k.number i + (count i (tree_at s v.left) + count i (tree_at s v.right)) ≡ 0) e (rw o.tree at z) in
        let d = is_at_most n j in omega arith
  ]

  pub place_left : (s : Store T S) (k : Link S) (v : Stored T S) (n : ℕ) (x : T) → IsPlaceFor key unit op of s (Some k) n x
      → IsOpened key unit op of s k v →
      key x < key v.entry → IsPlaceFor key unit op of s v.left n x
  place_left s k v n x p o h =
      let up : IsRising key (entries (tree_at s v.left) ++ v.entry ∷ entries (tree_at s v.right)) = rw o.tree at p.rising in
      let f : is k.number n + (count n (tree_at s v.left) + count n (tree_at s v.right)) ≡ 0 = rw o.tree at p.fresh in
      record {
        held = o.left;
        rising = rising_front key (entries (tree_at s v.left)) (v.entry ∷ entries (tree_at s v.right)) up;
        used = p.used;
        fresh = omega arith;
        other = sym (at_left key (key x) v.entry (entries (tree_at s v.left)) (entries (tree_at s v.right)) h up) ∙ rw o.tree at p.other;
      }

  -- x is neither before the node's entry nor at its key
  above : (m y : T) (l r : List T) → IsRising key (l ++ m ∷ r) → entry_at key (key y) (l ++ m ∷ r) ≡ None → key m ≡ key y → ⊥
  above m y [] r s e q = let d = rw (eq-eqb (key m) (key y) q) at e in cc
  above m y (z ∷ l) r s e q = elim (eqb (key z) (key y)) as (λ b. cond b (Some z) (entry_at key (key y) (l ++ m ∷ r)) ≡ None →
      ⊥) [ true ↦ λ d. cc | false ↦ λ d. above m y l r s.1 d q ] e

  pub later : (s : Store T S) (k : Link S) (v : Stored T S) (n : ℕ) (x : T) → IsPlaceFor key unit op of s (Some k) n x
      → IsOpened key unit op of s k v →
      key v.entry ≤ key x → key v.entry < key x
  later s k v n x p o h =
      let up : IsRising key (entries (tree_at s v.left) ++ v.entry ∷ entries (tree_at s v.right)) = rw o.tree at p.rising in
      let not : key v.entry ≡ key x → ⊥ = above v.entry x (entries (tree_at s v.left)) (entries (tree_at s v.right)) up (rw o.tree at p.other) in
      omega arith

  pub place_right : (s : Store T S) (k : Link S) (v : Stored T S) (n : ℕ) (x : T) → IsPlaceFor key unit op of s (Some k) n x
      → IsOpened key unit op of s k v →
      key v.entry ≤ key x → IsPlaceFor key unit op of s v.right n x
  place_right s k v n x p o le =
      let h = later s k v n x p o le in
      let up : IsRising key (entries (tree_at s v.left) ++ v.entry ∷ entries (tree_at s v.right)) = rw o.tree at p.rising in
      let f : is k.number n + (count n (tree_at s v.left) + count n (tree_at s v.right)) ≡ 0 = rw o.tree at p.fresh in
      record {
        held = o.right;
        rising = rising_back key (entries (tree_at s v.left)) v.entry (entries (tree_at s v.right)) up;
        used = p.used;
        fresh = omega arith;
        other = sym (at_right key (key x) v.entry (entries (tree_at s v.left)) (entries (tree_at s v.right)) h up) ∙ rw o.tree at p.other;
      }

  pub none_tree : (s : Store T S) → tree_at s None ≡ Leaf
  unfolding tree_at
  none_tree s = refl

  pub placed_first : (s s' : Store T S) (n : ℕ) (x : T) (k : Link S) → IsPlaceFor key unit op of s None n x
      → IsSet key unit op of s s' n None x None k →
      IsPlaced key unit op of s s' None n x k
  placed_first s s' n x k p set =
      let e = none_tree s in
      let t = joined_once s s' n None x None k (record {
        used = p.used;
        left = p.held;
        right = p.held;
        once = λ j. rw e (let c = is_at_most n j in
            omega arith);
      }) set (omega arith, omega arith) in
      retree s s' (Some k) _ _ _ _ _ _ t (rw e refl) (λ j. rw e (omega arith)) (λ j. refl)

  -- taking out
  pub stored_used : (s : Store T S) (t : Tree T) → IsStored key unit op of s t → (j : ℕ) → 1 ≤ count j t → IsSome (s j)
  stored_used s Leaf st j c = absurd (omega arith)
  stored_used s (Fork n l x r) st j c = elim (is_cases n j) [
    | inr e ↦ rw (← e, st.0) refl
    | inl e ↦ elim (some_side (count j l) (count j r) (omega arith)) [ inl h ↦ stored_used s l st.1 j h | inr h ↦ stored_used s r st.2 j h ]
  ]
    where
      some_side : (a b : ℕ) → 1 ≤ a + b → (1 ≤ a) ⊎ (1 ≤ b)
      some_side a b h = elim (Rattle.std.proofs.lemmas.Bool.cases_lt 0 a) [ inl p ↦ inl (omega arith) | inr p ↦ inr (omega arith) ]

  pub without_used : (s s' : Store T S) (k : Option (Link S)) (xs : List T) (n : ℕ) (k' : Option (Link S)) → IsHeld key unit op of s k →
      IsWithout key unit op of s s' k xs n k' → IsSome (s' n)
  without_used s s' k xs n k' h t = t.used n (stored_used s (tree_at s k) h.stored n (let c = t.count n in let e = is_self n in omega arith))

  pub popped_first : (s : Store T S) (k : Link S) (v : Stored T S) → IsOpened key unit op of s k v → v.left ≡ None →
      IsPopped key unit op of s s k k.number v.entry v.right
  popped_first s k v o e =
      let t : tree_at s (Some k) ≡ Fork k.number Leaf v.entry (tree_at s v.right) = o.tree ∙ ap (λ g. Fork k.number g v.entry (tree_at s v.right))
      (ap (tree_at s) e ∙ none_tree s) in
      record {
        rest = record { held = o.right; entries = refl; count = λ j. rw t (omega arith); kept = λ j z. refl; used = λ j u. u };
        entries = ap entries t;
      }

  popped_once : (s : Store T S) (k m : Link S) (v : Stored T S) → IsOpened key unit op of s k v → v.left ≡ Some m → (j : ℕ) →
      is k.number j + (count j (tree_at s (Some m)) + count j (tree_at s v.right)) ≤ 1
  popped_once s k m v o e j = let c = o.once j in let d = ap (λ l. count j (tree_at s l)) e in omega arith

  pub popped_ready : (s s' : Store T S) (k m : Link S) (v : Stored T S) (n : ℕ) (x : T) (rest : Option (Link S)) → IsOpened key unit op of s k v →
      v.left ≡ Some m → IsPopped key unit op of s s' m n x rest → IsSpot key unit op of s' k.number rest v.right
  popped_ready s s' k m v n x rest o e p = ready_left s s' k.number rest v.right _ (λ j. count j (tree_at s (Some m)))
      (is n) p.rest o.right o.used (popped_once s k m v o e)

  pub popped_root : (s s' : Store T S) (k m : Link S) (v : Stored T S) (n : ℕ) (x : T) (rest : Option (Link S)) → IsOpened key unit op of s k v →
      v.left ≡ Some m → IsPopped key unit op of s s' m n x rest → IsRoot key unit op of s' k (Some m) v.entry v.right
  popped_root s s' k m v n x rest o e p = root_kept s s' k (Some m) v.entry v.right rest _ (λ j. count j (tree_at s (Some m))) (is n)
      (subst (λ l. IsRoot key unit op of s k l v.entry v.right) e o.root) p.rest (let c = popped_once s k m v o e k.number in
      let d = is_self k.number in omega arith)

  pub popped_later : (s s' s'' : Store T S) (k m : Link S) (v : Stored T S) (n : ℕ) (x : T) (rest : Option (Link S)) (k' : Link S) →
      IsOpened key unit op of s k v → v.left ≡ Some m → IsPopped key unit op of s s' m n x rest →
      IsJoined key unit op of s' s'' k.number rest v.entry v.right k' → IsPopped key unit op of s s'' k n x (Some k')
  popped_later s s' s'' k m v n x rest k' o e p w =
      let t : tree_at s (Some k) ≡ Fork k.number (tree_at s (Some m)) v.entry (tree_at s v.right) =
      o.tree ∙ ap (λ g. Fork k.number (tree_at s g) v.entry (tree_at s v.right)) e in
      let u = whole_left s s' s'' k.number rest v.right v.entry k' _ (λ j. count j (tree_at s (Some m))) (is n) p.rest o.right
      (popped_once s k m v o e) w in
      record {
        rest = retree s s'' (Some k') _ _ _ _ _ _ u (sym u.entries) (λ j. rw t refl) (λ j. refl);
        entries = ap entries t ∙ rw (p.entries, u.entries) refl;
      }

  pub key_left : (s : Store T S) (k : Link S) (v : Stored T S) (x : T) → HasKey key unit op of s (Some k) x → IsOpened key unit op of s k v →
      key x < key v.entry → HasKey key unit op of s v.left x
  key_left s k v x p o h =
      let a = entries (tree_at s v.left) in
      let b = entries (tree_at s v.right) in
      let up : IsRising key (a ++ v.entry ∷ b) = rw o.tree at p.rising in
      record {
        held = o.left;
        rising = rising_front key a (v.entry ∷ b) up;
        there =
            subst IsSome (at_left key (key x) v.entry a b h up) (rw o.tree at p.there);
      }

  pub key_right : (s : Store T S) (k : Link S) (v : Stored T S) (x : T) → HasKey key unit op of s (Some k) x → IsOpened key unit op of s k v →
      key v.entry < key x → HasKey key unit op of s v.right x
  key_right s k v x p o h =
      let a = entries (tree_at s v.left) in
      let b = entries (tree_at s v.right) in
      let up : IsRising key (a ++ v.entry ∷ b) = rw o.tree at p.rising in
      record {
        held = o.right;
        rising = rising_back key a v.entry b up;
        there =
            subst IsSome (at_right key (key x) v.entry a b h up) (rw o.tree at p.there);
      }

  pub removed_last : (s : Store T S) (k : Link S) (v : Stored T S) (x : T) → HasKey key unit op of s (Some k) x → IsOpened key unit op of s k v →
      key x ≤ key v.entry → key v.entry ≤ key x → v.right ≡ None → IsWithout key unit op of s s (Some k)
      (without_key key (key x) (entries (tree_at s (Some k)))) k.number v.left
  removed_last s k v x p o h i e =
      let t : tree_at s (Some k) ≡ Fork k.number (tree_at s v.left) v.entry Leaf = o.tree ∙ ap (Fork k.number (tree_at s v.left) v.entry)
      (ap (tree_at s) e ∙ none_tree s) in
      let a = entries (tree_at s v.left) in
      let up : IsRising key (a ++ v.entry ∷ []) = rw t at p.rising in
      record {
        held = o.left;
        entries = sym (append-nil a) ∙ (sym (without_middle key (key x) v.entry a [] (omega arith) up) ∙ rw t refl);
        count = λ j. rw t (omega arith);
        kept = λ j z. refl;
        used = λ j u. u;
      }

  pub removed_middle_ready : (s s' : Store T S) (k m : Link S) (v : Stored T S) (n : ℕ) (y : T) (rest : Option (Link S))
      → IsOpened key unit op of s k v →
      v.right ≡ Some m → IsPopped key unit op of s s' m n y rest → IsSpot key unit op of s' n v.left rest
  removed_middle_ready s s' k m v n y rest o e p =
      let held : IsHeld key unit op of s (Some m) = rw e at o.right in
      let once : (j : ℕ) → is k.number j + (count j (tree_at s v.left) + count j (tree_at s (Some m))) ≤ 1 = λ j. let c = o.once j in
      let d = ap (λ l. count j (tree_at s l)) e in omega arith in
      let ka = kept s s' v.left o.left (λ j c. p.rest.kept j (let d = once j in omega arith)) in
      record {
        used = without_used s s' (Some m) _ n rest held p.rest;
        left = ka.held;
        right = p.rest.held;
        once = λ j. rw ka.tree (let c = once j in let d = p.rest.count j in omega arith);
      }

  pub removed_middle : (s s' s'' : Store T S) (k m : Link S) (v : Stored T S) (x : T) (n : ℕ) (y : T) (rest : Option (Link S)) (k' : Link S) →
      HasKey key unit op of s (Some k) x → IsOpened key unit op of s k v → key x ≤ key v.entry → key v.entry ≤ key x → v.right ≡ Some m →
      IsPopped key unit op of s s' m n y rest → IsJoined key unit op of s' s'' n v.left y rest k' →
      IsWithout key unit op of s s'' (Some k) (without_key key (key x) (entries (tree_at s (Some k)))) k.number (Some k')
  removed_middle s s' s'' k m v x n y rest k' p o h i e q w =
      let t : tree_at s (Some k) ≡ Fork k.number (tree_at s v.left) v.entry (tree_at s (Some m)) =
      o.tree ∙ ap (λ g. Fork k.number (tree_at s v.left) v.entry (tree_at s g)) e in
      let once : (j : ℕ) → is k.number j + (count j (tree_at s v.left) + count j (tree_at s (Some m))) ≤ 1 = λ j. let c = o.once j in
      let d = ap (λ l. count j (tree_at s l)) e in omega arith in
      let ka = kept s s' v.left o.left (λ j c. q.rest.kept j (let d = once j in omega arith)) in
      let a = entries (tree_at s v.left) in
      let b = entries (tree_at s (Some m)) in
      let up : IsRising key (a ++ v.entry ∷ b) = rw t at p.rising in
      record {
        held = w.held;
        entries = w.entries ∙ (rw (ka.tree, ← q.entries) refl ∙ (sym (without_middle key (key x) v.entry a b (omega arith) up) ∙ rw t refl));
        count = λ j. rw t (let c = w.count j in let d = q.rest.count j in let f = ap (count j) ka.tree in omega arith);
        kept = λ j z. let y = rw t at z in let d = q.rest.count j in let f = ap (count j) ka.tree in w.kept j (omega arith)
            ∙ q.rest.kept j (omega arith);
        used = λ j u. w.used j (q.rest.used j u);
      }
