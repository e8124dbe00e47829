-- One tree in an arena of its own.
use Rattle.std.proofs.Common.{◌≡◌, ℕ, ◌+◌, ◌^◌, ◌<◌, ◌≤◌, inl, inr, IsSome, Option, Some, None, List, [], ◌∷◌, length, refl, sym, ap, ◌∙◌, subst, arith}
use Rattle.std.proofs.lemmas.Bool.{cases_lt}
use Rattle.av_arena.specs.Monoid.{MonoidLaws}
use Rattle.av_arena.specs.Below.{IsJoinFor, IsJoinedAt, IsSplit, IsSplitFor}
use Rattle.av_arena.specs.Order.{IsRising, NoneBetween, NoneWithin, with_entry, with_joined, with_two, without_key, entry_at}
use Rattle.av_arena.proofs.Order.{rising_front, rising_back, rising_with, rising_without}
use Rattle.av_arena.proofs.Shallow.{low_tree}
use Rattle.av_arena.specs.declared.link.Link.{Link}
use Rattle.av_arena.specs.declared.link.Stored.{Stored}
use Rattle.av_arena.specs.Tree.{Tree, entries, is, none, count, Store, height_of, tree_at, IsHeld, IsOpened, IsPlaceFor, IsPlaced, IsReplaced, IsWithout}
use Rattle.av_base.specs.Words.{with_at}
use Rattle.av_arena.specs.Avl.{IsAvl, IsPart}
use Rattle.av_arena.proofs.TreeLemmas.{is_self, is_cases, with_at_same, with_at_other, kept, held_height, in_use, stored_used, none_tree}

module _ {T S : Type 0} (key : T → ℕ) (unit : S) (op : S → S → S) (of : T → S) (laws : MonoidLaws unit op) where
  pub low : (s : Store T S) (k : Option (Link S)) → IsHeld key unit op of s k → length (entries (tree_at s k)) < 2 ^ 64 → height_of k < 200
  low s k h n = rw (← held_height key unit op of laws s k h) (low_tree (tree_at s k) h.level n)

  pub empty : (s : Store T S) → IsPart key unit op of s None
  empty s =
      let n = none_tree key unit op of laws s in
      record { held = record { stored = rw n tt; link = rw n refl; once = λ j. rw n (omega arith); level = rw n tt }; rising = rw n tt }

  pub none_lost : (s : Store T S) → ((j : ℕ) → s j ≡ None) → IsAvl key unit op of s None
  none_lost s e = (empty s, λ j i. let d = rw (e j) at i in cc)

  pub no_entry : (s : Store T S) → entries (tree_at s None) ≡ []
  no_entry s = ap entries (none_tree key unit op of laws s)

  pub left_part : (s : Store T S) (k : Link S) (v : Stored T S) → IsPart key unit op of s (Some k) → IsOpened key unit op of s k v →
      IsPart key unit op of s v.left
  left_part s k v p o = record {
    held = o.left;
    rising = rising_front key (entries (tree_at s v.left)) (v.entry ∷ entries (tree_at s v.right))
        (rw o.tree at p.rising);
  }

  pub right_part : (s : Store T S) (k : Link S) (v : Stored T S) → IsPart key unit op of s (Some k) → IsOpened key unit op of s k v →
      IsPart key unit op of s v.right
  right_part s k v p o = record {
    held = o.right;
    rising = rising_back key (entries (tree_at s v.left)) v.entry
        (entries (tree_at s v.right)) (rw o.tree at p.rising);
  }

  pub not_used : (s : Store T S) (k : Option (Link S)) → IsHeld key unit op of s k → (n : ℕ) → s n ≡ None → count n (tree_at s k) ≡ 0
  not_used s k h n e = elim (cases_lt 0 (count n (tree_at s k))) [
    | inl p ↦ let u = stored_used key unit op of laws s (tree_at s k) h.stored n (omega arith) in let d = rw e at u in cc
    | inr p ↦ omega arith
  ]

  pub is_not : (n j : ℕ) (t : Tree T) → count n t ≡ 0 → 1 ≤ count j t → is n j ≡ 0
  is_not n j t z h = elim (is_cases key unit op of laws n j) [
    | inl e ↦ e
    | inr e ↦ absurd (let d : count j t ≡ 0 = ap (λ i. count i t) (sym e) ∙ z in omega arith)
  ]

  pub place_new : (s t : Store T S) (k : Option (Link S)) → IsPart key unit op of s k → (n : ℕ) (v : Stored T S) → s n ≡ None
      → t ≡ with_at n (Some v) s →
      (x : T) → entry_at key (key x) (entries (tree_at s k)) ≡ None → IsPlaceFor key unit op of t k n x
  place_new s t k p n v e at x other =
      let z = not_used s k p.held n e in
      let g = kept key unit op of laws s (with_at n (Some v) s) k p.held
      (λ j h. with_at_other key unit op of laws n (Some v) s j (is_not n j (tree_at s k) z h)) in
      subst (λ (w : Store T S). IsPlaceFor key unit op of w k n x) (sym at) (record {
        held = g.held;
        rising = rw g.tree p.rising;
        used = rw (with_at_same key unit op of laws n (Some v) s) refl;
        fresh = rw g.tree z;
        other = rw g.tree other;
      })

  pub inserted : (s t u : Store T S) (k : Option (Link S)) → IsAvl key unit op of s k → (n : ℕ) (v : Stored T S) → s n ≡ None
      → t ≡ with_at n (Some v) s →
      (x : T) (k' : Link S) → IsPlaced key unit op of t u k n x k' →
      IsAvl key unit op of u (Some k') × (entries (tree_at u (Some k')) ≡ with_entry key x (entries (tree_at s k)))
  inserted s t u k p n v e at x k' w =
      let z = not_used s k p.0.held n e in
      let g = kept key unit op of laws s (with_at n (Some v) s) k p.0.held
      (λ j h. with_at_other key unit op of laws n (Some v) s j (is_not n j (tree_at s k) z h)) in
      let d : entries (tree_at u (Some k')) ≡ with_entry key x (entries (tree_at s k)) =
      w.entries ∙ ap (λ q. with_entry key x (entries q)) (ap (λ (q : Store T S). tree_at q k) at ∙ g.tree) in
      let all : (j : ℕ) → IsSome (t j) → 1 ≤ is n j + count j (tree_at t k) =
      subst (λ (q : Store T S). (j : ℕ) → IsSome (q j) → 1 ≤ is n j + count j (tree_at q k)) (sym at)
      (λ j i. elim (is_cases key unit op of laws n j) [
        | inl o ↦ let h = p.1 j (subst IsSome (with_at_other key unit op of laws n (Some v) s j o) i) in rw g.tree (omega arith)
        | inr o ↦ let h : is n j ≡ 1 = subst (λ m. is n m ≡ 1) o (is_self key unit op of laws n) in omega arith
      ]) in (
        (
          record { held = w.held; rising = rw d (rising_with key x (entries (tree_at s k)) p.0.rising) },
          λ j i. let h =
              in_use key unit op of laws t u (Some k') _ _ none w all j i in omega arith,
        ),
        d,
      )

  pub split_new : (s t : Store T S) (k : Option (Link S)) → IsPart key unit op of s k → (n : ℕ) (v : Stored T S) → s n ≡ None
      → t ≡ with_at n (Some v) s →
      (x y : T) → IsSome (entry_at key (key x) (entries (tree_at s k))) → key x < key y → NoneBetween key (key x) (key y) (entries (tree_at s k)) →
      IsSplitFor key unit op of t k n x y
  split_new s t k p n v e at x y there after next =
      let z = not_used s k p.held n e in
      let g = kept key unit op of laws s (with_at n (Some v) s) k p.held
      (λ j h. with_at_other key unit op of laws n (Some v) s j (is_not n j (tree_at s k) z h)) in
      subst (λ (w : Store T S). IsSplitFor key unit op of w k n x y) (sym at) (record {
        has = record { held = g.held; rising = rw g.tree p.rising; there = rw g.tree there };
        used = rw (with_at_same key unit op of laws n (Some v) s) refl;
        fresh = rw g.tree z;
        after = after;
        next = rw g.tree next;
      })

  pub parted : (s t u : Store T S) (k : Option (Link S)) → IsAvl key unit op of s k → (n : ℕ) (v : Stored T S) → s n ≡ None
      → t ≡ with_at n (Some v) s →
      (x y : T) (k' : Link S) → IsSplit key unit op of t u k n x y k' →
      IsAvl key unit op of u (Some k') × (entries (tree_at u (Some k')) ≡ with_two key x y (entries (tree_at s k)))
  parted s t u k p n v e at x y k' w =
      let z = not_used s k p.0.held n e in
      let g = kept key unit op of laws s (with_at n (Some v) s) k p.0.held
      (λ j h. with_at_other key unit op of laws n (Some v) s j (is_not n j (tree_at s k) z h)) in
      let d : entries (tree_at u (Some k')) ≡ with_two key x y (entries (tree_at s k)) =
      w.entries ∙ ap (λ q. with_two key x y (entries q)) (ap (λ (q : Store T S). tree_at q k) at ∙ g.tree) in
      let all : (j : ℕ) → IsSome (t j) → 1 ≤ is n j + count j (tree_at t k) =
      subst (λ (q : Store T S). (j : ℕ) → IsSome (q j) → 1 ≤ is n j + count j (tree_at q k)) (sym at)
      (λ j i. elim (is_cases key unit op of laws n j) [
        | inl o ↦ let h = p.1 j (subst IsSome (with_at_other key unit op of laws n (Some v) s j o) i) in rw g.tree (omega arith)
        | inr o ↦ let h : is n j ≡ 1 = subst (λ m. is n m ≡ 1) o (is_self key unit op of laws n) in omega arith
      ]) in
      let up = rising_with key y _ (rising_with key x _ (rising_without key (key x) (entries (tree_at s k)) p.0.rising)) in
      ((record { held = w.held; rising = rw d up }, λ j i. let h = in_use key unit op of laws t u (Some k') _ _ none w all j i in omega arith), d)

  -- a node that is taken out of a tree is freed
  freed_as : (s t u : Store T S) (k : Option (Link S)) → IsAvl key unit op of s k → (xs : List T) → IsRising key xs → (n : ℕ) (k' : Option (Link S)) →
      IsWithout key unit op of s t k xs n k' → u ≡ with_at n None t → IsAvl key unit op of u k' × (entries (tree_at u k') ≡ xs)
  freed_as s t u k p xs up n k' w at =
      let gone : count n (tree_at t k') ≡ 0 =
      (let d = w.count n in let e = is_self key unit op of laws n in let o = p.0.held.once n in omega arith) in
      let g = kept key unit op of laws t (with_at n None t) k' w.held
      (λ j h. with_at_other key unit op of laws n None t j (is_not n j (tree_at t k') gone h)) in
      let P : Store T S → Type 0 = λ q. IsAvl key unit op of q k' × (entries (tree_at q k') ≡ xs) in
      let d : entries (tree_at (with_at n None t) k') ≡ xs = ap entries g.tree ∙ w.entries in
      let all : (j : ℕ) → IsSome (with_at n None t j) → 1 ≤ count j (tree_at (with_at n None t) k') = λ j i. elim (is_cases key unit op of laws n j) [
        | inl o ↦ let h = in_use key unit op of laws s t k' _ _ (is n) w p.1 j (subst IsSome (with_at_other key unit op of laws n None t j o) i) in
            rw g.tree (omega arith)
        | inr o ↦ let h = rw (← o, with_at_same key unit op of laws n None t) at i in cc
      ] in
      subst P (sym at) ((record { held = g.held; rising = rw d up }, all), d)

  pub freed : (s t u : Store T S) (k : Option (Link S)) → IsAvl key unit op of s k → (m n : ℕ) (k' : Option (Link S)) →
      IsWithout key unit op of s t k (without_key key m (entries (tree_at s k))) n k' → u ≡ with_at n None t →
      IsAvl key unit op of u k' × (entries (tree_at u k') ≡ without_key key m (entries (tree_at s k)))
  freed s t u k p m n k' w at = freed_as s t u k p _ (rising_without key m (entries (tree_at s k)) p.0.rising) n k' w at

  pub joined_freed : (s t u : Store T S) (k : Option (Link S)) → IsAvl key unit op of s k → (x y z : T) (n : ℕ) (k' : Link S) →
      IsJoinedAt key unit op of s t k x y z n k' → u ≡ with_at n None t →
      IsAvl key unit op of u (Some k') × (entries (tree_at u (Some k')) ≡ with_joined key x y z (entries (tree_at s k)))
  joined_freed s t u k p x y z n k' w at = freed_as s t u k p _ (rising_with key z _
      (rising_without key (key x) _ (rising_without key (key y) (entries (tree_at s k)) p.0.rising))) n (Some k') w at

  pub join_for : (s : Store T S) (k : Option (Link S)) → IsPart key unit op of s k → (x y z : T)
      → IsSome (entry_at key (key x) (entries (tree_at s k))) →
      IsSome (entry_at key (key y) (entries (tree_at s k))) → key x < key y → NoneWithin key (key x) (key y) (entries (tree_at s k)) → key z ≡ key x →
      IsJoinFor key unit op of s k x y z
  join_for s k p x y z there too after next same = record {
    has = record { held = p.held; rising = p.rising; there = there };
    too = record { held = p.held; rising = p.rising; there = too };
    after = after;
    next = next;
    same = same;
  }

  pub replaced : (s u : Store T S) (k : Option (Link S)) → IsAvl key unit op of s k → (x : T) (k' : Link S) → IsReplaced key unit op of s u k x k' →
      IsAvl key unit op of u (Some k') × (entries (tree_at u (Some k')) ≡ with_entry key x (without_key key (key x) (entries (tree_at s k))))
  replaced s u k p x k' v =
      let up = rising_with key x _ (rising_without key (key x) (entries (tree_at s k)) p.0.rising) in (
        (
          record { held = v.held; rising = rw v.entries up },
          λ j i. let h = in_use key unit op of laws s u (Some k') _ _ none v p.1 j i in
              omega arith,
        ),
        v.entries,
      )
