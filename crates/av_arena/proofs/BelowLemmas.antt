-- A change of one side of a node: what it leaves below, and what the node's link tells of it.
use Rattle.std.proofs.Common.{◌≡◌, ℕ, ◌+◌, ◌<◌, ◌≤◌, max, ◌⊎◌, inl, inr, Bool, true, false, IsSome, Option, Some, None, List, ◌∷◌, ◌++◌, refl, sym, ap, ◌∙◌, subst, arith}
use Rattle.std.proofs.Math.Path.{fun_ext}
use Rattle.std.proofs.lemmas.Bool.{both_ways, cases_lt}
use Rattle.av_base.specs.Words.{with_at}
use Rattle.av_arena.specs.Arena.{entry_put, on_other, on_side, side_put, with_side}
use Rattle.av_arena.specs.Below.{AreOn, IsBeside, IsBetween, HasKeyBelow, IsAbove, IsAskedBelow, IsAt, IsChanged, IsDoneBelow, IsHung, IsPlaceBelow, IsPlacedBelow, IsRemovedBelow, IsReplacedBelow, IsSettled, IsSideFor, IsSideSettled, IsSideTaken, IsSplitBelow, IsSplitBelowFor, IsSplitFor, IsTaken, IsTold, IsUnsettled, child_number, height_below, in_order, number_of}
use Rattle.av_arena.specs.Monoid.{MonoidLaws}
use Rattle.av_arena.specs.Order.{IsRising, NoneBetween, entry_at, with_entry, with_two, without_key}
use Rattle.std.specs.List.{AllByRecursion}
use Rattle.av_arena.specs.Tree.{DifferByAtMost, count_at, entries_at, HasKey, IsHeightAfter, IsHeld, IsJoined, IsOpened, IsPlaceFor, IsPopped, IsRoot, IsSpot, IsTree, IsWithout, Store, count, entries, height_of, is, none, sum_of, tree_at}
use Rattle.av_arena.specs.declared.link.Link.{Link}
use Rattle.av_arena.specs.declared.link.Side.{Side}
use Rattle.av_arena.specs.declared.link.Side.TheVariants.{Left, Right}
use Rattle.av_arena.specs.declared.link.Stored.{Stored}
use Rattle.av_arena.proofs.Order.{AllByRecursion-back, AllByRecursion-front, AllByRecursion-map, all_middle, all_with, all_without, at_no_key, rising_with, rising_without, with_between, with_left, with_right, without_left, without_middle, without_right}
use Rattle.av_arena.proofs.TreeLemmas.{fresh_once, is_cases, is_self, joined_same, kept, key_left, key_right, later, opened, none_tree, place_left, place_right, placed_first, removed_last, removed_middle, ready_left, ready_right, root_counted, used, used_cases, with_at_other, with_at_same}

-- a height is settled at once, or one side is two levels higher
height_cases : (a b h : ℕ) → IsHeightAfter a b h → (h ≡ max a b + 1) ⊎ ((a + 2 ≤ b) ⊎ (b + 2 ≤ a))
height_cases a b h q = elim (cases_lt (a + 1) b) [
  | inl p ↦ inr (inl (omega arith))
  | inr p ↦ elim (cases_lt (b + 1) a) [ inl r ↦ inr (inr (omega arith)) | inr r ↦ inl (q.2 (omega arith, omega arith)) ]
]

-- a side becomes so much lower or higher at most, and so does the whole
settles_left : (a a' b h k lower higher : ℕ) → DifferByAtMost 1 a b → k ≡ max a b + 1 → a ≤ a' + lower → a' ≤ a + higher → lower + higher ≤ 1 →
    IsHeightAfter a' b h → (k ≤ h + lower) × (h ≤ k + higher)
settles_left a a' b h k lower higher d e p q s after =
    let x = d.0 in let y = d.1 in let u = after.0 in let v = after.1 in
    elim (height_cases a' b h after) [
      | inl z ↦ (omega arith, omega arith)
      | inr (inl z) ↦ (omega arith, omega arith)
      | inr (inr z) ↦ (omega arith, omega arith)
    ]

settles_right : (a b b' h k lower higher : ℕ) → DifferByAtMost 1 a b → k ≡ max a b + 1 → b ≤ b' + lower → b' ≤ b + higher → lower + higher ≤ 1 →
    IsHeightAfter a b' h → (k ≤ h + lower) × (h ≤ k + higher)
settles_right a b b' h k lower higher d e p q s after =
    let x = d.0 in let y = d.1 in let u = after.0 in let v = after.1 in
    elim (height_cases a b' h after) [
      | inl z ↦ (omega arith, omega arith)
      | inr (inl z) ↦ (omega arith, omega arith)
      | inr (inr z) ↦ (omega arith, omega arith)
    ]

-- heights that can settle in one way alone differ by one at most
level_of : (a b k : ℕ) → DifferByAtMost 2 a b → ((h : ℕ) → IsHeightAfter a b h → (k ≤ h + 0) × (h ≤ k + 0)) → DifferByAtMost 1 a b
level_of a b k d f =
    let d0 = d.0 in let d1 = d.1 in
    elim (cases_lt (a + 1) b) [
      | inl p ↦ let x = (f b (omega arith, omega arith, λ q. absurd (let q1 = q.1 in omega arith))).0 in
          let y = (f (b + 1) (omega arith, omega arith, λ q. absurd (let q1 = q.1 in omega arith))).1 in absurd (omega arith)
      | inr p ↦ elim (cases_lt (b + 1) a) [
        | inl r ↦ let x = (f a (omega arith, omega arith, λ q. absurd (let q0 = q.0 in omega arith))).0 in
            let y = (f (a + 1) (omega arith, omega arith, λ q. absurd (let q0 = q.0 in omega arith))).1 in absurd (omega arith)
        | inr r ↦ (omega arith, omega arith)
      ]
    ]

module _ {T S : Type 0} (key : T → ℕ) (unit : S) (op : S → S → S) (of : T → S) (laws : MonoidLaws unit op) where
  pub with_at_self : (n : ℕ) (o : Option (Stored T S)) (s : Store T S) → s n ≡ o → with_at n o s ≡ s
  with_at_self n o s e = fun_ext (λ j. elim (is_cases key unit op of laws n j) [
    | inl d ↦ with_at_other key unit op of laws n o s j d
    | inr d ↦ subst (λ i. with_at n o s i ≡ s i) d (with_at_same key unit op of laws n o s ∙ sym e)
  ])

  -- one node stands under a number
  pub same_node : (s : Store T S) (n : ℕ) (v w : Stored T S) → s n ≡ Some v → s n ≡ Some w → v ≡ w
  same_node s n v w p q = let d : Some v ≡ Some w = sym p ∙ q in cc

  -- a node whose sides are level settles as it stands
  pub told_settled : (s : Store T S) (n : ℕ) (k : Link S) → IsUnsettled key unit op of 2 s n → IsTold key unit op of s n k →
      ((v : Stored T S) → s n ≡ Some v → DifferByAtMost 1 (height_of v.left) (height_of v.right)) → IsSettled key unit op of s s n k
  told_settled s n k un told lv v e =
      let d = told v e in
      let p : k.number ≡ n = ap (λ (m : Link S). m.number) d in
      let h : k.height ≡ max (height_of v.left) (height_of v.right) + 1 = ap (λ (m : Link S). m.height) d in
      let spot : IsSpot key unit op of s n v.left v.right = subst (λ (w : Stored T S). IsSpot key unit op of s n w.left w.right)
      (same_node s n un.node v un.stored e) un.spot in
      let root : IsRoot key unit op of s k v.left v.entry v.right =
      record {
        stored = rw p e;
        told = subst (λ (i : ℕ). k ≡ record {
          number = i;
          height = max (height_of v.left) (height_of v.right) + 1;
          sum = op (sum_of unit v.left) (op (of v.entry) (sum_of unit v.right));
        }) (sym p) d;
        level = lv v e;
      } in (
        subst (λ (m : ℕ). IsJoined key unit op of s s m v.left v.entry v.right k) p
            (joined_same key unit op of laws s k v.left v.entry v.right root (rw p spot)),
        (omega arith, omega arith, λ _. h),
        λ _. refl,
      )

  -- a side gets another link than it has had
  pub other_side : (side : Side) (s t u : Store T S) (n child : ℕ) (k : Link S) → IsSettled key unit op of s t child k →
      u ≡ with_at n (side_put side (Some k) (t n)) t →
      ((v : Stored T S) → t n ≡ Some v → number_of (on_side side v) ≡ Some child → on_side side v ≡ Some k → ⊥) →
      IsSideSettled key unit op of side s u n child true
  other_side side s t u n child k set e new = record {
    link = k;
    between = t;
    settled = set;
    put = e;
    stays = λ d. absurd (both_ways true d refl);
    differs = λ _. new;
  }

  pub other_root : (side : Side) (v : Stored T S) (k : Link S) (child : ℕ) → (k.number ≡ child → ⊥) → number_of (on_side side v) ≡ Some child →
      on_side side v ≡ Some k → ⊥
  other_root side v k child other p d =
      let q : Some k.number ≡ Some child = sym (ap number_of d) ∙ p in
      let same : k.number ≡ child = cc in
      other same

  with_same : (side : Side) (k : Option (Link S)) (v : Stored T S) → on_side side v ≡ k → with_side side k v ≡ v
  with_same Left k v d = ap (λ l. record v { left = l }) (sym d)
  with_same Right k v d = ap (λ l. record v { right = l }) (sym d)

  side_again : (side : Side) (n : ℕ) (k : Option (Link S)) (v : Stored T S) (s : Store T S) → s n ≡ Some v → on_side side v ≡ k →
      s ≡ with_at n (side_put side k (s n)) s
  side_again side n k v s e d =
      sym (with_at_self n (side_put side k (s n)) s (e ∙ (ap Some (sym (with_same side k v d)) ∙ ap (side_put side k) (sym e))))

  stays_at : (side : Side) (s : Store T S) (n child : ℕ) (k : Link S) (o : Option (Stored T S)) → IsSettled key unit op of s s child k → s n ≡ o →
      IsSome o →
      ((v : Stored T S) → o ≡ Some v → on_side side v ≡ Some k) → IsSideSettled key unit op of side s s n child false
  stays_at side s n child k None set e u has = absurd (both_ways false refl u)
  stays_at side s n child k (Some v) set e u has = record {
    link = k;
    between = s;
    settled = set;
    put = side_again side n (Some k) v s e (has v refl);
    stays = λ _ w f. ap (on_side side) (same_node s n w v f e) ∙ has v refl;
    differs = λ d. absurd (both_ways false refl d);
  }

  pub side_stays : (side : Side) (s : Store T S) (n child : ℕ) (k : Link S) → IsSome (s n) → IsSettled key unit op of s s child k →
      ((v : Stored T S) → s n ≡ Some v → on_side side v ≡ Some k) → IsSideSettled key unit op of side s s n child false
  side_stays side s n child k u set has = stays_at side s n child k (s n) set refl u has

  -- a node is put above sides that stand
  pub above_put : (s t u : Store T S) (n : ℕ) (w : Stored T S) (xs : List T) (f g : ℕ → ℕ) → IsSpot key unit op of t n w.left w.right →
      u ≡ with_at n (Some w) t → entries (tree_at t w.left) ++ w.entry ∷ entries (tree_at t w.right) ≡ xs →
      ((j : ℕ) → (is n j + (count j (tree_at t w.left) + count j (tree_at t w.right))) + g j ≡ f j) → ((j : ℕ) → f j ≡ 0 → t j ≡ s j) →
      ((j : ℕ) → IsSome (s j) → IsSome (t j)) → IsAbove key unit op of s u n w xs f g
  above_put s t u n w xs f g spot at is_xs co keep stay =
      let here : u n ≡ Some w = ap (λ (q : Store T S). q n) at ∙ with_at_same key unit op of laws n (Some w) t in
      let there : (j : ℕ) → is n j ≡ 0 → u j ≡ t j = λ j z. ap (λ (q : Store T S). q j) at ∙ with_at_other key unit op of laws n (Some w) t j z in
      let ka = kept key unit op of laws t u w.left spot.left (λ j c. there j (let d = spot.once j in omega arith)) in
      let kb = kept key unit op of laws t u w.right spot.right (λ j c. there j (let d = spot.once j in omega arith)) in
      record {
        stored = here;
        spot = record { used = rw here refl; left = ka.held; right = kb.held; once = λ j. rw (ka.tree, kb.tree) (spot.once j) };
        entries = rw (ka.tree, kb.tree) is_xs;
        count = λ j. rw (ka.tree, kb.tree) (co j);
        kept = λ j z. there j (let d = co j in omega arith) ∙ keep j z;
        used = λ j i. subst (λ (q : Store T S). IsSome (q j)) (sym at)
            (used_cases key unit op of laws (Rattle.std.proofs.Common.eqb j n) w (t j) (stay j i));
      }

  -- a side of a node is another tree
  changed_left : {Put : Type 0} (s t u : Store T S) (k : Link S) (v : Stored T S) (new : Option (Link S)) (b : Bool) (xs : List T) (f g : ℕ → ℕ)
      (lower higher : ℕ) →
      IsOpened key unit op of s k v → IsTree key unit op of s t new xs f g → ((j : ℕ) → is k.number j + (f j + count j (tree_at s v.right)) ≤ 1) →
      u ≡ with_at k.number (side_put Left new (t k.number)) t → height_of v.left ≤ height_of new + lower → height_of new ≤ height_of v.left + higher →
      lower + higher ≤ 1 → (b ≡ false → t k.number ≡ Some v → v.left ≡ new) →
      (b ≡ true → t k.number ≡ Some v → v.left ≡ new → ⊥) → IsChanged key unit op of s u k b (xs ++ v.entry ∷ entries (tree_at s v.right))
      (λ j. is k.number j + (f j + count j (tree_at s v.right))) g lower higher Put
  changed_left s t u k v new b xs f g lower higher o tr once at low high few stays differs =
      let n = k.number in
      let w : Stored T S = record { left = new; entry = v.entry; right = v.right } in
      let here : t n ≡ Some v = tr.kept n (let c = once n in let d = is_self key unit op of laws n in omega arith) ∙ o.root.stored in
      let put : u ≡ with_at n (Some w) t = at ∙ ap (λ m. with_at n (side_put Left new m) t) here in
      let spot : IsSpot key unit op of t n new v.right = ready_left key unit op of laws s t n new v.right xs f g tr o.right o.used once in
      let kb = kept key unit op of laws s t v.right o.right (λ j c. tr.kept j (let d = once j in omega arith)) in
      let e : entries (tree_at t v.right) ≡ entries (tree_at s v.right) = ap entries kb.tree in
      let l0 = o.level.0 in let l1 = o.level.1 in let oh = o.height in
      let level : DifferByAtMost 2 (height_of w.left) (height_of w.right) = (omega arith, omega arith) in
      let most : max (height_of w.left) (height_of w.right) ≤ k.height = omega arith in
      let above = above_put s t u n w _ (λ j. is n j + (f j + count j (tree_at s v.right))) g spot put (rw (tr.entries, e) refl)
      (λ j. rw kb.tree (let c = tr.count j in omega arith)) (λ j z. tr.kept j (omega arith)) tr.used in
      record {
        node = w;
        above = above;
        level = level;
        low = most;
        settles = λ h q. settles_left (height_of v.left) (height_of new) (height_of v.right) h k.height lower higher o.level o.height low high few q;
        same = λ d. above.stored ∙ (ap (λ l. Some (record { left = l; entry = v.entry; right = v.right })) (sym (stays d here)) ∙ sym o.root.stored);
        other = λ d e. absurd (differs d here (ap (λ (i : Stored T S). i.left) (same_node u n v w (e ∙ o.root.stored) above.stored)));
      }

  changed_right : {Put : Type 0} (s t u : Store T S) (k : Link S) (v : Stored T S) (new : Option (Link S)) (b : Bool) (xs : List T) (f g : ℕ → ℕ)
      (lower higher : ℕ) →
      IsOpened key unit op of s k v → IsTree key unit op of s t new xs f g → ((j : ℕ) → is k.number j + (f j + count j (tree_at s v.left)) ≤ 1) →
      u ≡ with_at k.number (side_put Right new (t k.number)) t → height_of v.right ≤ height_of new + lower
      → height_of new ≤ height_of v.right + higher →
      lower + higher ≤ 1 → (b ≡ false → t k.number ≡ Some v → v.right ≡ new) →
      (b ≡ true → t k.number ≡ Some v → v.right ≡ new → ⊥) → IsChanged key unit op of s u k b (entries (tree_at s v.left) ++ v.entry ∷ xs)
      (λ j. is k.number j + (f j + count j (tree_at s v.left))) g lower higher Put
  changed_right s t u k v new b xs f g lower higher o tr once at low high few stays differs =
      let n = k.number in
      let w : Stored T S = record { left = v.left; entry = v.entry; right = new } in
      let here : t n ≡ Some v = tr.kept n (let c = once n in let d = is_self key unit op of laws n in omega arith) ∙ o.root.stored in
      let put : u ≡ with_at n (Some w) t = at ∙ ap (λ m. with_at n (side_put Right new m) t) here in
      let spot : IsSpot key unit op of t n v.left new = ready_right key unit op of laws s t n v.left new xs f g tr o.left o.used
      (λ j. let i = once j in omega arith) in
      let ka = kept key unit op of laws s t v.left o.left (λ j c. tr.kept j (let d = once j in omega arith)) in
      let e : entries (tree_at t v.left) ≡ entries (tree_at s v.left) = ap entries ka.tree in
      let l0 = o.level.0 in let l1 = o.level.1 in let oh = o.height in
      let level : DifferByAtMost 2 (height_of w.left) (height_of w.right) = (omega arith, omega arith) in
      let most : max (height_of w.left) (height_of w.right) ≤ k.height = omega arith in
      let above = above_put s t u n w _ (λ j. is n j + (f j + count j (tree_at s v.left))) g spot put (rw (tr.entries, e) refl)
      (λ j. rw ka.tree (let c = tr.count j in omega arith)) (λ j z. tr.kept j (omega arith)) tr.used in
      record {
        node = w;
        above = above;
        level = level;
        low = most;
        settles = λ h q. settles_right (height_of v.left) (height_of v.right) (height_of new) h k.height lower higher o.level o.height low high few q;
        same = λ d. above.stored ∙ (ap (λ r. Some (record { left = v.left; entry = v.entry; right = r })) (sym (stays d here)) ∙ sym o.root.stored);
        other = λ d e. absurd (differs d here (ap (λ (i : Stored T S). i.right) (same_node u n v w (e ∙ o.root.stored) above.stored)));
      }

  changed : {Put : Type 0} (side : Side) (s t u : Store T S) (k : Link S) (v : Stored T S) (new : Option (Link S)) (b : Bool)
      (xs : List T) (f g : ℕ → ℕ)
      (lower higher : ℕ) →
      IsOpened key unit op of s k v → IsTree key unit op of s t new xs f g → ((j : ℕ) → is k.number j + (f j + count_at s (on_other side v) j) ≤ 1) →
      u ≡ with_at k.number (side_put side new (t k.number)) t → height_of (on_side side v) ≤ height_of new + lower →
      height_of new ≤ height_of (on_side side v) + higher → lower + higher ≤ 1 → (b ≡ false → t k.number ≡ Some v → on_side side v ≡ new) →
      (b ≡ true → t k.number ≡ Some v → on_side side v ≡ new → ⊥) →
      IsChanged key unit op of s u k b (in_order side xs v.entry (entries_at s (on_other side v)))
      (λ j. is k.number j + (f j + count_at s (on_other side v) j)) g lower higher Put
  changed Left = changed_left
  changed Right = changed_right

  -- the tree whose root is settled
  pub record IsDone (s t : Store T S) (m m' : Link S) (xs : List T) (f g : ℕ → ℕ) (lower higher : ℕ) : Type 0 where
    pub tree : IsTree key unit op of s t (Some m') xs f g
    pub not_lower : m.height ≤ m'.height + lower
    pub not_higher : m'.height ≤ m.height + higher

  whole_above : (s t u : Store T S) (n : ℕ) (w : Stored T S) (k : Link S) (xs : List T) (f g : ℕ → ℕ) → IsAbove key unit op of s t n w xs f g →
      IsJoined key unit op of t u n w.left w.entry w.right k → IsTree key unit op of s u (Some k) xs f g
  whole_above s t u n w k xs f g a j = record {
    held = j.held;
    entries = j.entries ∙ a.entries;
    count = λ i. let c = a.count i in let d = j.count i in omega arith;
    kept = λ i z. j.kept i (let c = a.count i in omega arith) ∙ a.kept i z;
    used = λ i h. j.used i (a.used i h);
  }

  -- a node is put above its sides, and settles
  put_above : (s t : Store T S) (n : ℕ) (w : Stored T S) → IsSpot key unit op of s n w.left w.right → t ≡ with_at n (Some w) s →
      IsAbove key unit op of s t n w (entries_at s w.left ++ w.entry ∷ entries_at s w.right)
      (λ j. is n j + (count_at s w.left j + count_at s w.right j)) none
  put_above s t n w spot e = above_put s s t n w _ _ none spot e refl (λ j. omega arith) (λ j z. refl) (λ j u. u)

  pub put_ready : (s t : Store T S) (n : ℕ) (w : Stored T S) → IsSpot key unit op of s n w.left w.right → t ≡ with_at n (Some w) s →
      DifferByAtMost 2 (height_of w.left) (height_of w.right) → max (height_of w.left) (height_of w.right) < 210 → IsUnsettled key unit op of 2 t n
  put_ready s t n w spot e level low =
      let a = put_above s t n w spot e in record { node = w; stored = a.stored; spot = a.spot; level = level; low = low }

  pub put_joined : (s t u : Store T S) (n : ℕ) (w : Stored T S) (k : Link S) → IsSpot key unit op of s n w.left w.right →
      t ≡ with_at n (Some w) s → IsSettled key unit op of t u n k → IsJoined key unit op of s u n w.left w.entry w.right k
  put_joined s t u n w k spot e set =
      let a = put_above s t n w spot e in whole_above s t u n w k _ _ none a (set w a.stored).0

  pub put_height : (s t u : Store T S) (n : ℕ) (w : Stored T S) (k : Link S) → IsSpot key unit op of s n w.left w.right →
      t ≡ with_at n (Some w) s → IsSettled key unit op of t u n k → IsHeightAfter (height_of w.left) (height_of w.right) k.height
  put_height s t u n w k spot e set = (set w (put_above s t n w spot e).stored).1

  pub done_settled : {Put : Type 0} (s t u : Store T S) (m m' : Link S) (b : Bool) (xs : List T) (f g : ℕ → ℕ) (lower higher : ℕ) →
      IsChanged key unit op of s t m b xs f g lower higher Put → IsSettled key unit op of t u m.number m' → IsDone s u m m' xs f g lower higher
  done_settled s t u m m' b xs f g lower higher c set =
      let h = set c.node c.above.stored in
      let w = c.settles m'.height h.1 in
      record { tree = whole_above s t u m.number c.node m' xs f g c.above h.0; not_lower = w.0; not_higher = w.1 }

  pub done_same : {Put : Type 0} (s t : Store T S) (m : Link S) (b : Bool) (xs : List T) (f g : ℕ → ℕ) (lower higher : ℕ) →
      IsHeld key unit op of s (Some m) → IsChanged key unit op of s t m b xs f g lower higher Put → b ≡ false → IsDone s t m m xs f g lower higher
  done_same s t m b xs f g lower higher held c e =
      let o = opened key unit op of laws s m c.node held (sym (c.same e) ∙ c.above.stored) in
      record {
        tree = whole_above s t t m.number c.node m xs f g c.above (joined_same key unit op of laws t m c.node.left c.node.entry c.node.right
            (record { stored = c.above.stored; told = o.root.told; level = o.root.level }) c.above.spot);
        not_lower = omega arith;
        not_higher = omega arith;
      }

  -- what a change makes is said otherwise
  pub rechanged : {Put : Type 0} (s t : Store T S) (k : Link S) (b : Bool) (xs ys : List T) (f f' g : ℕ → ℕ) (lower higher : ℕ) →
      IsChanged key unit op of s t k b xs f g lower higher Put → xs ≡ ys → ((j : ℕ) → f j ≡ f' j)
      → IsChanged key unit op of s t k b ys f' g lower higher Put
  rechanged s t k b xs ys f f' g lower higher c e p = record {
    node = c.node;
    above = record {
      stored = c.above.stored;
      spot = c.above.spot;
      entries = c.above.entries ∙ e;
      count = λ j. c.above.count j ∙ p j;
      kept = λ j z. c.above.kept j (p j ∙ z);
      used = c.above.used;
    };
    level = c.level;
    low = c.low;
    settles = c.settles;
    same = c.same;
    other = c.other;
  }

  -- what is changed can be settled
  pub unsettled : {Put : Type 0} (s t : Store T S) (k : Link S) (b : Bool) (xs : List T) (f g : ℕ → ℕ) (lower higher : ℕ) →
      IsChanged key unit op of s t k b xs f g lower higher Put → k.height < 200 → IsUnsettled key unit op of 2 t k.number
  unsettled s t k b xs f g lower higher c low = let m = c.low in record {
    node = c.node;
    stored = c.above.stored;
    spot = c.above.spot;
    level = c.level;
    low = omega arith;
  }

  -- the height of a tree is told by its root
  pub below_height : (s : Store T S) (k : Link S) → IsHeld key unit op of s (Some k) → height_below (s k.number) ≡ k.height
  below_height s k h =
      elim (s k.number) as (λ o. s k.number ≡ o → height_below o ≡ k.height) [
        | None ↦ λ e. let u = used key unit op of laws s k h in let d = rw e at u in cc
        | Some v ↦ λ e. sym (opened key unit op of laws s k v h e).height
      ] refl

  -- the root of a tree, as it stands
  pub opened_at : (s : Store T S) (n : ℕ) (k : Link S) (v : Stored T S) → k.number ≡ n → IsHeld key unit op of s (Some k) →
      s n ≡ Some v → IsOpened key unit op of s k v
  opened_at s n k v p h e = opened key unit op of laws s k v h (rw p e)

  pub record IsNode (s : Store T S) (n : ℕ) : Type 0 where
    pub node : Stored T S
    pub stored : s n ≡ Some node

  pub node_cases : (s : Store T S) (n : ℕ) (o : Option (Stored T S)) → s n ≡ o → IsSome o → IsNode s n
  node_cases s n None e u = absurd (both_ways false refl u)
  node_cases s n (Some v) e u = record { node = v; stored = e }

  pub node_at : (s : Store T S) (n : ℕ) (k : Link S) → k.number ≡ n → IsHeld key unit op of s (Some k) → IsNode s n
  node_at s n k p h = node_cases s n (s n) refl (subst (λ i. IsSome (s i)) p (used key unit op of laws s k h))

  pub no_key : (s : Store T S) (x : T) → HasKey key unit op of s None x → ⊥
  no_key s x h = both_ways false refl (subst (λ r. IsSome (entry_at key (key x) (entries r))) (none_tree key unit op of laws s) h.there)

  no_number : (l : Option (Link S)) → number_of l ≡ None → l ≡ None
  no_number None d = refl
  no_number (Some m) d = cc

  -- the root of a side
  pub record IsChild (side : Side) (v : Stored T S) (n : ℕ) : Type 0 where
    pub link : Link S
    pub number : link.number ≡ n
    pub is : on_side side v ≡ Some link

  pub child_cases : (side : Side) (v : Stored T S) (n : ℕ) (l : Option (Link S)) → on_side side v ≡ l → number_of l ≡ Some n → IsChild side v n
  child_cases side v n None e d = cc
  child_cases side v n (Some m) e d = record { link = m; number = cc; is = e }

  pub child : (side : Side) (s : Store T S) (n : ℕ) (v : Stored T S) (below : ℕ) → s n ≡ Some v → child_number side (s n) ≡ Some below
      → IsChild side v below
  child side s n v below e d = child_cases side v below (on_side side v) refl (rw e at d)

  pub no_child : (side : Side) (s : Store T S) (n : ℕ) (v : Stored T S) → s n ≡ Some v → child_number side (s n) ≡ None → on_side side v ≡ None
  no_child side s n v e d = no_number (on_side side v) (rw e at d)

  held_side : (side : Side) (s : Store T S) (k : Link S) (v : Stored T S) → IsOpened key unit op of s k v → IsHeld key unit op of s (on_side side v)
  held_side Left s k v o = o.left
  held_side Right s k v o = o.right

  lower_side : (side : Side) (s : Store T S) (k : Link S) (v : Stored T S) → IsOpened key unit op of s k v → height_of (on_side side v) < k.height
  lower_side Left s k v o = let h = o.height in omega arith
  lower_side Right s k v o = let h = o.height in omega arith

  -- a root that is taken out is not the root of what is left
  pub rest_differs : (s t : Store T S) (l rest : Option (Link S)) (m : Link S) (xs : List T) → IsHeld key unit op of s l →
      IsWithout key unit op of s t l xs m.number rest → l ≡ Some m → l ≡ rest → ⊥
  rest_differs s t l rest m xs h w e d =
      let r : rest ≡ Some m = sym d ∙ e in
      let c = w.count m.number in
      let o = h.once m.number in
      let i = is_self key unit op of laws m.number in
      let held = subst (IsHeld key unit op of t) r w.held in
      let n = node_at t m.number m refl held in
      let a = root_counted key unit op of laws t m n.node (opened key unit op of laws t m n.node held n.stored) in
      let b : count_at t rest m.number ≡ count_at t (Some m) m.number = ap (λ q. count_at t q m.number) r in
      omega arith

  -- one level further down
  pub record IsFurther (Asked : Option (Link S) → Type 0) (s : Store T S) (n below : ℕ) : Type 0 where
    pub asked : IsAskedBelow Asked below
    pub falls : height_below (s below) < height_below (s n)

  -- what a change asks of a side, and makes of it, is what it asks and makes of the whole
  pub record GoesDown (Asked : Option (Link S) → Type 0) (list : List T → List T) (numbers : (ℕ → ℕ) → ℕ → ℕ) (side : Side)
      (s : Store T S) (k : Link S)
      (v : Stored T S) : Type 0 where
    pub opened : IsOpened key unit op of s k v
    pub asked : Asked (on_side side v)
    pub entries : in_order side (list (entries_at s (on_side side v))) v.entry (entries_at s (on_other side v)) ≡ list (entries_at s (Some k))
    pub count : (j : ℕ) → is k.number j + (numbers (count_at s (on_side side v)) j + count_at s (on_other side v) j) ≡ numbers (count_at s (Some k)) j
    pub once : (j : ℕ) → numbers (count_at s (Some k)) j ≤ 1

module _ {T S : Type 0} (key : T → ℕ) (unit : S) (op : S → S → S) (of : T → S) (laws : MonoidLaws unit op) (Asked : Option (Link S) → Type 0)
    (list : List T → List T) (numbers : (ℕ → ℕ) → ℕ → ℕ) (gone : ℕ → ℕ) (lower higher : ℕ) where
  -- a side has become another tree
  pub put_below : {Put : Type 0} (side : Side) (s t u : Store T S) (k : Link S) (v : Stored T S) (new : Option (Link S)) (b : Bool)
      → lower + higher ≤ 1 →
      GoesDown key unit op of laws Asked list numbers side s k v →
      IsTree key unit op of s t new (list (entries_at s (on_side side v))) (numbers (count_at s (on_side side v))) gone →
      u ≡ with_at k.number (side_put side new (t k.number)) t → height_of (on_side side v) ≤ height_of new + lower →
      height_of new ≤ height_of (on_side side v) + higher → (b ≡ false → t k.number ≡ Some v → on_side side v ≡ new) →
      (b ≡ true → t k.number ≡ Some v → on_side side v ≡ new → ⊥) →
      IsChanged key unit op of s u k b (list (entries_at s (Some k))) (numbers (count_at s (Some k))) gone lower higher Put
  put_below side s t u k v new b few p tree put low high stays differs =
      rechanged key unit op of laws s u k b _ _ _ _ gone lower higher
      (changed key unit op of laws side s t u k v new b _ _ gone lower higher p.opened tree
      (λ j. let c = p.count j in let i = p.once j in omega arith) put
      low high few stays differs) p.entries p.count

  -- where the node that is above stands, while its side changes
  pub above_stays : (side : Side) (s t : Store T S) (k : Link S) (v : Stored T S) (new : Option (Link S)) →
      GoesDown key unit op of laws Asked list numbers side s k v →
      IsTree key unit op of s t new (list (entries_at s (on_side side v))) (numbers (count_at s (on_side side v))) gone → t k.number ≡ s k.number
  above_stays side s t k v new p tree =
      tree.kept k.number (let c = p.count k.number in let i = p.once k.number in let j = is_self key unit op of laws k.number in omega arith)

  pub further : (side : Side) (s : Store T S) (n : ℕ) (v : Stored T S) (below : ℕ) → s n ≡ Some v → child_number side (s n) ≡ Some below →
      ((k : Link S) → k.number ≡ n → Asked (Some k) → GoesDown key unit op of laws Asked list numbers side s k v) → IsAskedBelow Asked n →
      IsFurther key unit op of laws Asked s n below
  further side s n v below e d down b =
      let p = down b.link b.number b.asked in
      let m = child key unit op of laws side s n v below e d in
      let h : height_of (on_side side v) ≡ m.link.height = ap height_of m.is in
      let l = lower_side key unit op of laws side s b.link v p.opened in
      let held = rw m.is at (held_side key unit op of laws side s b.link v p.opened) in
      let a : height_below (s below) ≡ m.link.height =
      subst (λ i. height_below (s i) ≡ m.link.height) m.number (below_height key unit op of laws s m.link held) in
      let c : height_below (s n) ≡ b.link.height = rw e (sym p.opened.height) in
      let low = b.low in
      record {
        asked = record { link = m.link; number = m.number; asked = subst Asked m.is p.asked; low = omega arith };
        falls = omega arith;
      }

  -- a tree that is not there does not meet what is asked
  pub never : (side : Side) (s : Store T S) (n : ℕ) (v : Stored T S) → s n ≡ Some v → child_number side (s n) ≡ None →
      ((k : Link S) → k.number ≡ n → Asked (Some k) → GoesDown key unit op of laws Asked list numbers side s k v) → IsAskedBelow Asked n →
      (Asked None → ⊥) → ⊥
  never side s n v e d down b missing = missing (subst Asked (no_child key unit op of laws side s n v e d) (down b.link b.number b.asked).asked)

  -- what follows where the tree below a side has changed
  pub record IsStepped (Put : Type 0) (side : Side) (s t : Store T S) (n below : ℕ) (c : Bool) : Type 0 where
    pub ready : IsUnsettled key unit op of 2 t below
    pub used : IsSome (t n)
    pub same : c ≡ false → IsDoneBelow key unit op of Asked list numbers gone lower higher Put s t n false
    pub settled : (u : Store T S) (b : Bool) → IsSideSettled key unit op of side t u n below b →
        IsDoneBelow key unit op of Asked list numbers gone lower higher Put s u n b

  done_child : {Own : Type 0} (side : Side) (s t : Store T S) (k : Link S) (v : Stored T S) (below : ℕ) (c : Bool) →
      (m : IsChild key unit op of laws side v below) →
      GoesDown key unit op of laws Asked list numbers side s k v → IsDoneBelow key unit op of Asked list numbers gone lower higher Own s t below c →
      IsChanged key unit op of s t m.link c (list (entries_at s (on_side side v))) (numbers (count_at s (on_side side v))) gone lower higher Own
  done_child {Own = Own} side s t k v below c m p done =
      subst (λ l. IsChanged key unit op of s t m.link c (list (entries_at s l)) (numbers (count_at s l)) gone lower higher Own) (sym m.is)
      (done m.link m.number (subst Asked m.is p.asked))

  done_settle : {Own : Type 0} (side : Side) (s t u : Store T S) (k : Link S) (v : Stored T S) (below : ℕ) (c b : Bool)
      (m : IsChild key unit op of laws side v below) →
      GoesDown key unit op of laws Asked list numbers side s k v → IsDoneBelow key unit op of Asked list numbers gone lower higher Own s t below c →
      (st : IsSideSettled key unit op of side t u k.number below b) →
      IsDone key unit op of laws s st.between m.link st.link (list (entries_at s (on_side side v))) (numbers (count_at s (on_side side v)))
      gone lower higher
  done_settle side s t u k v below c b m p done st =
      done_settled key unit op of laws s t st.between m.link st.link c _ _ gone lower higher (done_child side s t k v below c m p done)
      (subst (λ i. IsSettled key unit op of t st.between i st.link) (sym m.number) st.settled)

  step_same : {Own Put : Type 0} (side : Side) (s t : Store T S) (k : Link S) (v : Stored T S) (below : ℕ) (c : Bool) → lower + higher ≤ 1 →
      (m : IsChild key unit op of laws side v below) →
      GoesDown key unit op of laws Asked list numbers side s k v
      → IsDoneBelow key unit op of Asked list numbers gone lower higher Own s t below c → c ≡ false →
      IsChanged key unit op of s t k false (list (entries_at s (Some k))) (numbers (count_at s (Some k))) gone lower higher Put
  step_same side s t k v below c few m p done z =
      let held = rw m.is at (held_side key unit op of laws side s k v p.opened) in
      let d = done_same key unit op of laws s t m.link c _ _ gone lower higher held (done_child side s t k v below c m p done) z in
      let h : height_of (on_side side v) ≡ m.link.height = ap height_of m.is in
      let here : t k.number ≡ Some v = above_stays side s t k v (Some m.link) p d.tree ∙ p.opened.root.stored in
      put_below side s t t k v (Some m.link) false few p d.tree (side_again key unit op of laws side k.number (Some m.link) v t here m.is)
      (omega arith) (omega arith) (λ _ _. m.is) (λ q. absurd (both_ways false refl q))

  step_settled : {Own Put : Type 0} (side : Side) (s t u : Store T S) (k : Link S) (v : Stored T S) (below : ℕ) (c b : Bool) → lower + higher ≤ 1 →
      (m : IsChild key unit op of laws side v below) →
      GoesDown key unit op of laws Asked list numbers side s k v → IsDoneBelow key unit op of Asked list numbers gone lower higher Own s t below c →
      IsSideSettled key unit op of side t u k.number below b →
      IsChanged key unit op of s u k b (list (entries_at s (Some k))) (numbers (count_at s (Some k))) gone lower higher Put
  step_settled side s t u k v below c b few m p done st =
      let d = done_settle side s t u k v below c b m p done st in
      let h : height_of (on_side side v) ≡ m.link.height = ap height_of m.is in
      let low = d.not_lower in let high = d.not_higher in
      put_below side s st.between u k v (Some st.link) b few p d.tree st.put (omega arith) (omega arith) (λ z i. st.stays z v i)
      (λ z i. st.differs z v i (ap number_of m.is ∙ ap Some m.number))

  pub step : {Own : Type 0} (Put : Type 0) (side : Side) (s t : Store T S) (n : ℕ) (v : Stored T S) (below : ℕ) (c : Bool) → lower + higher ≤ 1
      → s n ≡ Some v →
      child_number side (s n) ≡ Some below →
      ((k : Link S) → k.number ≡ n → Asked (Some k) → GoesDown key unit op of laws Asked list numbers side s k v) → IsAskedBelow Asked n →
      IsDoneBelow key unit op of Asked list numbers gone lower higher Own s t below c → IsStepped Put side s t n below c
  step Put side s t n v below c few e d down b done =
      let p = down b.link b.number b.asked in
      let m = child key unit op of laws side s n v below e d in
      let ch = done_child side s t b.link v below c m p done in
      let h : height_of (on_side side v) ≡ m.link.height = ap height_of m.is in
      let l = lower_side key unit op of laws side s b.link v p.opened in
      let low = b.low in
      let at : (u : Store T S) (b' : Bool) (k : Link S) → k.number ≡ n → IsSideSettled key unit op of side t u n below b' →
      IsSideSettled key unit op of side t u k.number below b' =
      λ u b' k q st. subst (λ i. IsSideSettled key unit op of side t u i below b') (sym q) st in
      record {
        ready = subst (IsUnsettled key unit op of 2 t) m.number (unsettled key unit op of laws s t m.link c _ _ gone lower higher ch (omega arith));
        used = subst (λ i. IsSome (t i)) b.number (ch.above.used b.link.number p.opened.used);
        same = λ z k q a. step_same side s t k v below c few m (down k q a) done z;
        settled = λ u b' st k q a. step_settled side s t u k v below c b' few m (down k q a) done (at u b' k q st);
      }

  -- what follows where the tree o with the root k has changed below its root
  pub record IsCalled (s t : Store T S) (o : Option (Link S)) (k : Link S) (c : Bool) : Type 0 where
    pub ready : IsUnsettled key unit op of 2 t k.number
    pub same : c ≡ false → IsTree key unit op of s t (Some k) (list (entries_at s o)) (numbers (count_at s o)) gone
    pub settled : (u : Store T S) (k' : Link S) → IsSettled key unit op of t u k.number k' →
        IsDone key unit op of laws s u k k' (list (entries_at s o)) (numbers (count_at s o)) gone lower higher

  pub called : {Put : Type 0} (s t : Store T S) (o : Option (Link S)) (k : Link S) (c : Bool) → o ≡ Some k → Asked o → IsHeld key unit op of s o →
      height_of o < 200 → IsDoneBelow key unit op of Asked list numbers gone lower higher Put s t k.number c → IsCalled s t o k c
  called s t o k c e a held low done =
      let ch = done k refl (subst Asked e a) in
      let h = ap height_of e in
      subst (λ q. IsCalled s t q k c) (sym e) (record {
        ready = unsettled key unit op of laws s t k c _ _ gone lower higher ch (omega arith);
        same = λ z. (done_same key unit op of laws s t k c _ _ gone lower higher (subst (IsHeld key unit op of s) e held) ch z).tree;
        settled = λ u k' st. done_settled key unit op of laws s t u k k' c _ _ gone lower higher ch st;
      })

-- the root of a tree is asked for by its number
pub asked_below : {S : Type 0} (Asked : Option (Link S) → Type 0) (o : Option (Link S)) (k : Link S) → o ≡ Some k → Asked o → height_of o < 200 →
    IsAskedBelow Asked k.number
asked_below Asked o k e a low = record { link = k; number = refl; asked = subst Asked e a; low = let h = ap height_of e in omega arith }

module _ {T S : Type 0} (key : T → ℕ) (unit : S) (op : S → S → S) (of : T → S) (laws : MonoidLaws unit op) where
  key_side : (side : Side) (s : Store T S) (k : Link S) (v : Stored T S) (x : T) → HasKey key unit op of s (Some k) x
      → IsOpened key unit op of s k v →
      AreOn key side x x v.entry → HasKey key unit op of s (on_side side v) x
  key_side Left s k v x h o on = key_left key unit op of laws s k v x h o on
  key_side Right s k v x h o on = key_right key unit op of laws s k v x h o on

  pub same_count : (side : Side) (s : Store T S) (k : Link S) (v : Stored T S) → IsOpened key unit op of s k v → (j : ℕ) →
      is k.number j + (count_at s (on_side side v) j + count_at s (on_other side v) j) ≡ count_at s (Some k) j
  same_count Left s k v o j = rw o.tree refl
  same_count Right s k v o j = rw o.tree (omega arith)

  pub once_at : (s : Store T S) (k : Link S) (v : Stored T S) → IsOpened key unit op of s k v → (j : ℕ) → count_at s (Some k) j ≤ 1
  once_at s k v o j = rw o.tree (o.once j)

  fresh_at : (s : Store T S) (k : Link S) (v : Stored T S) (m : ℕ) → IsOpened key unit op of s k v → count_at s (Some k) m ≡ 0 → (j : ℕ) →
      is m j + count_at s (Some k) j ≤ 1
  fresh_at s k v m o z j = rw o.tree (fresh_once key unit op of laws s k v m o z j)

  -- replacing
  replaced_is : (side : Side) (s : Store T S) (k : Link S) (v : Stored T S) (x : T) → HasKey key unit op of s (Some k) x
      → IsOpened key unit op of s k v →
      AreOn key side x x v.entry → in_order side (with_entry key x (without_key key (key x) (entries_at s (on_side side v)))) v.entry
      (entries_at s (on_other side v)) ≡ with_entry key x (without_key key (key x) (entries_at s (Some k)))
  replaced_is Left s k v x h o lt =
      let a = entries (tree_at s v.left) in
      let b = entries (tree_at s v.right) in
      let up : IsRising key (a ++ v.entry ∷ b) = rw o.tree at h.rising in
      let is : with_entry key x (without_key key (key x) (a ++ v.entry ∷ b)) ≡ with_entry key x (without_key key (key x) a) ++ v.entry ∷ b =
      rw (without_left key (key x) v.entry a b lt up) (with_left key x v.entry (without_key key (key x) a) b lt) in
      sym is ∙ rw o.tree refl
  replaced_is Right s k v x h o lt =
      let a = entries (tree_at s v.left) in
      let b = entries (tree_at s v.right) in
      let up : IsRising key (a ++ v.entry ∷ b) = rw o.tree at h.rising in
      let e = without_right key (key x) v.entry a b lt up in
      let is : with_entry key x (without_key key (key x) (a ++ v.entry ∷ b)) ≡ a ++ v.entry ∷ with_entry key x (without_key key (key x) b) =
      rw e (with_right key x v.entry a (without_key key (key x) b) lt (subst (IsRising key) e (rising_without key (key x) _ up))) in
      sym is ∙ rw o.tree refl

  pub replaced_down : (side : Side) (s : Store T S) (n : ℕ) (v : Stored T S) (x : T) → s n ≡ Some v → AreOn key side x x v.entry → (k : Link S) →
      k.number ≡ n → HasKey key unit op of s (Some k) x →
      GoesDown key unit op of laws (λ l. HasKey key unit op of s l x) (λ xs. with_entry key x (without_key key (key x) xs)) (λ f. f) side s k v
  replaced_down side s n v x e on k p h = let o = opened_at key unit op of laws s n k v p h.held e in record {
    opened = o;
    asked = key_side side s k v x h o on;
    entries = replaced_is side s k v x h o on;
    count = same_count side s k v o;
    once = once_at s k v o;
  }

  pub replaced_further : (side : Side) (s : Store T S) (n below : ℕ) (x : T) → HasKeyBelow key unit op of s n x
      → child_number side (s n) ≡ Some below →
      IsBeside key unit op of s n x x (Some side) → IsFurther key unit op of laws (λ l. HasKey key unit op of s l x) s n below
  replaced_further side s n below x b d on = let w = node_at key unit op of laws s n b.link b.number b.asked.held in
      further key unit op of laws (λ l. HasKey key unit op of s l x) (λ xs. with_entry key x (without_key key (key x) xs)) (λ f. f) none 0 0
      side s n w.node
      below w.stored d
      (replaced_down side s n w.node x w.stored (on w.node w.stored)) b

  abbrev pub IsReplaceStep : Side → Store T S → Store T S → ℕ → ℕ → T → Bool → Type 0
  IsReplaceStep side s t n below x c =
      IsStepped key unit op of laws (λ l. HasKey key unit op of s l x) (λ xs. with_entry key x (without_key key (key x) xs)) (λ f. f) none 0 0
      (IsBetween key unit op of s n x x) side s t n below c

  pub replaced_step : (side : Side) (s t : Store T S) (n below : ℕ) (x : T) (c : Bool) → HasKeyBelow key unit op of s n x →
      child_number side (s n) ≡ Some below →
      IsBeside key unit op of s n x x (Some side) → IsReplacedBelow key unit op of s t below x c → IsReplaceStep side s t n below x c
  replaced_step side s t n below x c b d on done = let w = node_at key unit op of laws s n b.link b.number b.asked.held in
      step key unit op of laws (λ l. HasKey key unit op of s l x) (λ xs. with_entry key x (without_key key (key x) xs)) (λ f. f) none 0 0
      (IsBetween key unit op of s n x x) side s t n w.node below c (omega arith) w.stored d
      (replaced_down side s n w.node x w.stored (on w.node w.stored)) b done

  pub replaced_never : (side : Side) (s : Store T S) (n : ℕ) (x : T) → HasKeyBelow key unit op of s n x → child_number side (s n) ≡ None →
      IsBeside key unit op of s n x x (Some side) → ⊥
  replaced_never side s n x b d on = let w = node_at key unit op of laws s n b.link b.number b.asked.held in
      never key unit op of laws (λ l. HasKey key unit op of s l x) (λ xs. with_entry key x (without_key key (key x) xs)) (λ f. f) none 0 0
      side s n w.node
      w.stored d
      (replaced_down side s n w.node x w.stored (on w.node w.stored)) b (λ h. no_key key unit op of laws s x h)

  -- the node itself has the key
  replaced_node : (s u : Store T S) (n : ℕ) (v : Stored T S) (x : T) → IsBetween key unit op of s n x x → s n ≡ Some v → key x ≡ key v.entry
      → u ≡ with_at n
      (entry_put x (s n)) s →
      IsReplacedBelow key unit op of s u n x true
  replaced_node s u n v x between e same at k p h =
      let o = opened_at key unit op of laws s n k v p h.held e in
      let w : Stored T S = record { left = v.left; entry = x; right = v.right } in
      let a = entries (tree_at s v.left) in
      let b = entries (tree_at s v.right) in
      let up : IsRising key (a ++ v.entry ∷ b) = rw o.tree at h.rising in
      let is : with_entry key x (without_key key (key x) (a ++ v.entry ∷ b)) ≡ a ++ x ∷ b = rw (without_middle key (key x) v.entry a b (sym same) up)
      (with_between key x v.entry a b same up) in
      let put : u ≡ with_at k.number (Some w) s = rw p (at ∙ ap (λ m. with_at n (entry_put x m) s) e) in
      let spot : IsSpot key unit op of s k.number v.left v.right = record { used = o.used; left = o.left; right = o.right; once = o.once } in
      record {
        node = w;
        above = above_put key unit op of laws s s u k.number w _ (λ j. count j (tree_at s (Some k))) none spot put (sym is ∙ rw o.tree refl)
            (λ j. rw o.tree (omega arith)) (λ j z. refl) (λ j i. i);
        level = (let l = o.level.0 in omega arith, let l = o.level.1 in omega arith);
        low = let h = o.height in omega arith;
        settles = λ i q. let h = q.2 o.level in let g = o.height in (omega arith, omega arith);
        same = λ d. absurd (both_ways true d refl);
        other = λ _ _. between;
      }

  pub replaced_at : (s u : Store T S) (n : ℕ) (x : T) → IsBetween key unit op of s n x x → u ≡ with_at n (entry_put x (s n)) s →
      IsReplacedBelow key unit op of s u n x true
  replaced_at s u n x same at k p h =
      let w = node_at key unit op of laws s n k p h.held in
      replaced_node s u n w.node x same w.stored (let m = same w.node w.stored in let a = m.0 in let b = m.1 in omega arith) at k p h

  -- putting in
  placed_is : (side : Side) (s : Store T S) (k : Link S) (v : Stored T S) (m : ℕ) (x : T) → IsPlaceFor key unit op of s (Some k) m x →
      IsOpened key unit op of s k v → AreOn key side x x v.entry →
      in_order side (with_entry key x (entries_at s (on_side side v))) v.entry (entries_at s (on_other side v)) ≡ with_entry key x
      (entries_at s (Some k))
  placed_is Left s k v m x h o lt = sym (with_left key x v.entry (entries (tree_at s v.left)) (entries (tree_at s v.right)) lt) ∙ rw o.tree refl
  placed_is Right s k v m x h o lt =
      let a = entries (tree_at s v.left) in
      let b = entries (tree_at s v.right) in
      let up : IsRising key (a ++ v.entry ∷ b) = rw o.tree at h.rising in
      sym (with_right key x v.entry a b lt up) ∙ rw o.tree refl

  place_side : (side : Side) (s : Store T S) (k : Link S) (v : Stored T S) (m : ℕ) (x : T) → IsPlaceFor key unit op of s (Some k) m x →
      IsOpened key unit op of s k v → AreOn key side x x v.entry → IsPlaceFor key unit op of s (on_side side v) m x
  place_side Left s k v m x h o lt = place_left key unit op of laws s k v m x h o lt
  place_side Right s k v m x h o lt = place_right key unit op of laws s k v m x h o (omega arith)

  on_placed : (side : Side) (s : Store T S) (n : ℕ) (k : Link S) (v : Stored T S) (m : ℕ) (x : T) → s n ≡ Some v
      → IsSideFor key unit op of s n x side →
      IsPlaceFor key unit op of s (Some k) m x → IsOpened key unit op of s k v → AreOn key side x x v.entry
  on_placed Left s n k v m x e for h o = for v e
  on_placed Right s n k v m x e for h o = later key unit op of laws s k v m x h o (for v e)

  pub placed_down : (side : Side) (s : Store T S) (n m : ℕ) (v : Stored T S) (x : T) → s n ≡ Some v → IsSideFor key unit op of s n x side
      → (k : Link S) →
      k.number ≡ n → IsPlaceFor key unit op of s (Some k) m x →
      GoesDown key unit op of laws (λ l. IsPlaceFor key unit op of s l m x) (with_entry key x) (λ f j. is m j + f j) side s k v
  placed_down side s n m v x e for k p h =
      let o = opened_at key unit op of laws s n k v p h.held e in
      let on = on_placed side s n k v m x e for h o in
      record {
        opened = o;
        asked = place_side side s k v m x h o on;
        entries = placed_is side s k v m x h o on;
        count = λ j. let c = same_count side s k v o j in omega arith;
        once = fresh_at s k v m o h.fresh;
      }

  pub placed_further : (side : Side) (s : Store T S) (n below : ℕ) (m : ℕ) (x : T) → IsPlaceBelow key unit op of s n m x →
      child_number side (s n) ≡ Some below →
      IsSideFor key unit op of s n x side → IsFurther key unit op of laws (λ l. IsPlaceFor key unit op of s l m x) s n below
  placed_further side s n below m x b d for = let w = node_at key unit op of laws s n b.link b.number b.asked.held in
      further key unit op of laws (λ l. IsPlaceFor key unit op of s l m x) (with_entry key x) (λ f j. is m j + f j) none 0 1 side s n w.node
      below w.stored d
      (placed_down side s n m w.node x w.stored for) b

  abbrev pub IsPlaceStep : Side → Store T S → Store T S → ℕ → ℕ → ℕ → T → Bool → Type 0
  IsPlaceStep side s t n below m x c =
      IsStepped key unit op of laws (λ l. IsPlaceFor key unit op of s l m x) (with_entry key x) (λ f j. is m j + f j) none 0 1 ⊥ side s t n below c

  pub placed_step : (side : Side) (s t : Store T S) (n below : ℕ) (m : ℕ) (x : T) (c : Bool) → IsPlaceBelow key unit op of s n m x →
      child_number side (s n) ≡ Some below →
      IsSideFor key unit op of s n x side → IsPlacedBelow key unit op of s t below m x c → IsPlaceStep side s t n below m x c
  placed_step side s t n below m x c b d for done = let w = node_at key unit op of laws s n b.link b.number b.asked.held in
      step key unit op of laws (λ l. IsPlaceFor key unit op of s l m x) (with_entry key x) (λ f j. is m j + f j) none 0 1 ⊥ side s t n w.node below c
      (omega arith) w.stored d
      (placed_down side s n m w.node x w.stored for) b done

  pub placed_hung : (side : Side) (s u : Store T S) (n m : ℕ) (x : T) → child_number side (s n) ≡ None →
      IsSideFor key unit op of s n x side → IsHung key unit op of side s u n m x → IsPlacedBelow key unit op of s u n m x true
  placed_hung side s u n m x d for hung k p h =
      let n' = node_at key unit op of laws s n k p h.held in
      let v = n'.node in
      let g = placed_down side s n m v x n'.stored for k p h in
      let no = no_child key unit op of laws side s n v n'.stored d in
      let place = subst (λ l. IsPlaceFor key unit op of s l m x) no g.asked in
      let first = placed_first key unit op of laws s hung.between m x hung.link place hung.set in
      let tree = subst (λ l. IsTree key unit op of s hung.between (Some hung.link) (with_entry key x (entries (tree_at s l)))
      (λ j. is m j + count j (tree_at s l)) none) (sym no) first in
      let put = subst (λ i. u ≡ with_at i (side_put side (Some hung.link) (hung.between i)) hung.between) (sym p) hung.put in
      let zero : height_of (on_side side v) ≡ 0 = ap height_of no in
      let one : hung.link.height ≡ 1 = ap (λ (l : Link S). l.height) hung.set.link in
      put_below key unit op of laws (λ l. IsPlaceFor key unit op of s l m x) (with_entry key x) (λ f j. is m j + f j) none 0 1
      side s hung.between u k v (Some hung.link) true (omega arith) g tree put (omega arith) (omega arith) (λ z. absurd (both_ways true z refl))
      (λ _ _ e. let d : None ≡ Some hung.link = sym no ∙ e in cc)

  -- taking out
  removed_is : (side : Side) (s : Store T S) (k : Link S) (v : Stored T S) (x : T) → HasKey key unit op of s (Some k) x
      → IsOpened key unit op of s k v →
      AreOn key side x x v.entry →
      in_order side (without_key key (key x) (entries_at s (on_side side v))) v.entry (entries_at s (on_other side v)) ≡ without_key key (key x)
      (entries_at s (Some k))
  removed_is Left s k v x h o lt =
      let a = entries (tree_at s v.left) in
      let b = entries (tree_at s v.right) in
      let up : IsRising key (a ++ v.entry ∷ b) = rw o.tree at h.rising in
      sym (without_left key (key x) v.entry a b lt up) ∙ rw o.tree refl
  removed_is Right s k v x h o lt =
      let a = entries (tree_at s v.left) in
      let b = entries (tree_at s v.right) in
      let up : IsRising key (a ++ v.entry ∷ b) = rw o.tree at h.rising in
      sym (without_right key (key x) v.entry a b lt up) ∙ rw o.tree refl

  on_other_key : (side : Side) (s : Store T S) (n : ℕ) (v : Stored T S) (x : T) → s n ≡ Some v → IsAt key unit op of s n x false →
      IsSideFor key unit op of s n x side → AreOn key side x x v.entry
  on_other_key Left s n v x e o for = for v e
  on_other_key Right s n v x e o for = let not = (o v e).1 refl in let le = for v e in omega arith

  pub removed_down : (side : Side) (s : Store T S) (n : ℕ) (v : Stored T S) (x : T) → s n ≡ Some v → IsAt key unit op of s n x false →
      IsSideFor key unit op of s n x side → (k : Link S) → k.number ≡ n → HasKey key unit op of s (Some k) x →
      GoesDown key unit op of laws (λ l. HasKey key unit op of s l x) (without_key key (key x)) (λ f. f) side s k v
  removed_down side s n v x e other for k p h =
      let o = opened_at key unit op of laws s n k v p h.held e in
      let on = on_other_key side s n v x e other for in
      record {
        opened = o;
        asked = key_side side s k v x h o on;
        entries = removed_is side s k v x h o on;
        count = same_count side s k v o;
        once = once_at s k v o;
      }

  pub removed_further : (side : Side) (s : Store T S) (n below : ℕ) (x : T) → HasKeyBelow key unit op of s n x
      → child_number side (s n) ≡ Some below →
      IsAt key unit op of s n x false → IsSideFor key unit op of s n x side
      → IsFurther key unit op of laws (λ l. HasKey key unit op of s l x) s n below
  removed_further side s n below x b d other for = let w = node_at key unit op of laws s n b.link b.number b.asked.held in
      further key unit op of laws (λ l. HasKey key unit op of s l x) (without_key key (key x)) (λ f. f) none 1 0 side s n w.node below w.stored d
      (removed_down side s n w.node x w.stored other for) b

  abbrev pub IsRemoveStep : Side → Store T S → Store T S → ℕ → ℕ → T → ℕ → Bool → Type 0
  IsRemoveStep side s t n below x out c =
      IsStepped key unit op of laws (λ l. HasKey key unit op of s l x) (without_key key (key x)) (λ f. f) (is out) 1 0 ⊥ side s t n below c

  pub removed_step : (side : Side) (s t : Store T S) (n below : ℕ) (x : T) (out : ℕ) (c : Bool) → HasKeyBelow key unit op of s n x →
      child_number side (s n) ≡ Some below →
      IsAt key unit op of s n x false → IsSideFor key unit op of s n x side → IsRemovedBelow key unit op of s t below x out c →
      IsRemoveStep side s t n below x out c
  removed_step side s t n below x out c b d other for done = let w = node_at key unit op of laws s n b.link b.number b.asked.held in
      step key unit op of laws (λ l. HasKey key unit op of s l x) (without_key key (key x)) (λ f. f) (is out) 1 0 ⊥ side s t n w.node below
      c (omega arith)
      w.stored d
      (removed_down side s n w.node x w.stored other for) b done

  pub removed_never : (side : Side) (s : Store T S) (n : ℕ) (x : T) → HasKeyBelow key unit op of s n x → child_number side (s n) ≡ None →
      IsAt key unit op of s n x false → IsSideFor key unit op of s n x side → ⊥
  removed_never side s n x b d other for = let w = node_at key unit op of laws s n b.link b.number b.asked.held in
      never key unit op of laws (λ l. HasKey key unit op of s l x) (without_key key (key x)) (λ f. f) none 1 0 side s n w.node w.stored d
      (removed_down side s n w.node x w.stored other for) b (λ h. no_key key unit op of laws s x h)

  cut_tree : (side : Side) (s u : Store T S) (n : ℕ) (k : Link S) (v : Stored T S) (child : ℕ) (x : T) (m : IsChild key unit op of laws side v child)
      (w : IsSideTaken key unit op of side s u n child x) →
      GoesDown key unit op of laws (λ l. HasKey key unit op of s l x) (without_key key (key x)) (λ f. f) side s k v →
      IsWithout key unit op of s w.between (on_side side v) (without_key key (key x) (entries_at s (on_side side v))) child w.rest ×
      ((height_of w.rest ≤ m.link.height) × (m.link.height ≤ height_of w.rest + 1))
  cut_tree side s u n k v child x m w g =
      let got = w.taken m.link m.number (subst (λ l. HasKey key unit op of s l x) m.is g.asked) in
      (subst (λ l. IsWithout key unit op of s w.between l (without_key key (key x) (entries_at s l)) child w.rest) (sym m.is) got.0, got.1)

  -- the root of a side is taken out
  pub cut : (side : Side) (s u : Store T S) (n below : ℕ) (x : T) → child_number side (s n) ≡ Some below →
      IsAt key unit op of s n x false → IsSideFor key unit op of s n x side → HasKeyBelow key unit op of s n x →
      IsSideTaken key unit op of side s u n below x → IsRemovedBelow key unit op of s u n x below true
  cut side s u n below x d other for b w =
      let n' = node_at key unit op of laws s n b.link b.number b.asked.held in
      let v = n'.node in
      let m = child key unit op of laws side s n v below n'.stored d in
      let down = removed_down side s n v x n'.stored other for in
      let high : height_of (on_side side v) ≡ m.link.height = ap height_of m.is in
      λ k p h. let g = down k p h in let got = cut_tree side s u n k v below x m w g in let a = got.1.0 in let c = got.1.1 in
      let put = subst (λ i. u ≡ with_at i (side_put side w.rest (w.between i)) w.between) (sym p) w.put in
      let gone = subst (λ i. IsWithout key unit op of s w.between (on_side side v) (without_key key (key x) (entries_at s (on_side side v))) i w.rest)
      (sym m.number) got.0 in
      put_below key unit op of laws (λ l. HasKey key unit op of s l x) (without_key key (key x)) (λ f. f) (is below) 1 0
      side s w.between u k v w.rest true (omega arith) g got.0 put (omega arith) (omega arith) (λ z. absurd (both_ways true z refl))
      (λ _ _ e. rest_differs key unit op of laws s w.between (on_side side v) w.rest m.link _ (held_side key unit op of laws side s k v g.opened)
      gone m.is e)

  -- what is left of a tree without its root
  pub taken_last : (s : Store T S) (n : ℕ) (v : Stored T S) (x : T) → s n ≡ Some v → IsAt key unit op of s n x true → v.right ≡ None →
      IsTaken key unit op of s s n x v.left
  taken_last s n v x e at last k p h =
      let o = opened_at key unit op of laws s n k v p h.held e in
      let same = (at v e).0 refl in
      let w = removed_last key unit op of laws s k v x h o (omega arith) (omega arith) last in
      let zero : height_of v.right ≡ 0 = ap height_of last in
      let high = o.height in (
        subst (λ i. IsWithout key unit op of s s (Some k) (without_key key (key x) (entries (tree_at s (Some k)))) i v.left) p w,
        (omega arith, omega arith),
      )

  pub taken_middle : (s t u : Store T S) (n : ℕ) (v : Stored T S) (x : T) (m : Link S) (first : ℕ) (y : T) (rest : Option (Link S)) (k' : Link S) →
      s n ≡ Some v → IsAt key unit op of s n x true → v.right ≡ Some m → IsPopped key unit op of s t m first y rest → height_of rest ≤ m.height →
      m.height ≤ height_of rest + 1 → IsJoined key unit op of t u first v.left y rest k'
      → IsHeightAfter (height_of v.left) (height_of rest) k'.height →
      IsTaken key unit op of s u n x (Some k')
  taken_middle s t u n v x m first y rest k' e at is_m popped low high joined after k p h =
      let o = opened_at key unit op of laws s n k v p h.held e in
      let same = (at v e).0 refl in
      let w = removed_middle key unit op of laws s t u k m v x first y rest k' h o (omega arith) (omega arith) is_m popped joined in
      let right : height_of v.right ≡ m.height = ap height_of is_m in
      let q = settles_right (height_of v.left) (height_of v.right) (height_of rest) k'.height k.height 1 0 o.level o.height (omega arith)
      (omega arith) (omega arith) after in
      let a = q.0 in let b = q.1 in (
        subst (λ i. IsWithout key unit op of s u (Some k) (without_key key (key x) (entries (tree_at s (Some k)))) i (Some k')) p w,
        (omega arith, omega arith),
      )

  -- splitting
  next_at : (x y : T) (a : List T) (w : T) (b : List T) → NoneBetween key (key x) (key y) (a ++ w ∷ b) → (key w ≤ key x) ⊎ (key y < key w)
  next_at x y a w b n = all_middle (λ z. (key z ≤ key x) ⊎ (key y < key z)) a w b n

  split_is : (side : Side) (s : Store T S) (k : Link S) (v : Stored T S) (m : ℕ) (x y : T) → IsSplitFor key unit op of s (Some k) m x y →
      IsOpened key unit op of s k v → AreOn key side x x v.entry →
      in_order side (with_two key x y (entries_at s (on_side side v))) v.entry (entries_at s (on_other side v)) ≡ with_two key x y
      (entries_at s (Some k))
  split_is Left s k v m x y h o lt =
      let a = entries (tree_at s v.left) in
      let b = entries (tree_at s v.right) in
      let next : NoneBetween key (key x) (key y) (a ++ v.entry ∷ b) = rw o.tree at h.next in
      let lt' : key y < key v.entry = elim (next_at x y a v.entry b next) [ inl i ↦ absurd (omega arith) | inr i ↦ i ] in
      sym (with_left key y v.entry (with_entry key x (without_key key (key x) a)) b lt') ∙ ap (with_entry key y) (replaced_is Left s k v x h.has o lt)
  split_is Right s k v m x y h o lt =
      let a = entries (tree_at s v.left) in
      let b = entries (tree_at s v.right) in
      let e = replaced_is Right s k v x h.has o lt in
      let after = h.after in
      let lt' : key v.entry < key y = omega arith in
      let up : IsRising key (a ++ v.entry ∷ with_entry key x (without_key key (key x) b)) =
      subst (IsRising key) (sym e) (rising_with key x _ (rising_without key (key x) _ h.has.rising)) in
      sym (with_right key y v.entry a (with_entry key x (without_key key (key x) b)) lt' up) ∙ ap (with_entry key y) e

  split_side : (side : Side) (s : Store T S) (k : Link S) (v : Stored T S) (m : ℕ) (x y : T) → IsSplitFor key unit op of s (Some k) m x y →
      IsOpened key unit op of s k v → AreOn key side x x v.entry → IsSplitFor key unit op of s (on_side side v) m x y
  split_side Left s k v m x y h o lt =
      let a = entries (tree_at s v.left) in
      let b = entries (tree_at s v.right) in
      let next : NoneBetween key (key x) (key y) (a ++ v.entry ∷ b) = rw o.tree at h.next in
      let f : is k.number m + (count m (tree_at s v.left) + count m (tree_at s v.right)) ≡ 0 = rw o.tree at h.fresh in
      record {
        has = key_side Left s k v x h.has o lt;
        used = h.used;
        fresh = omega arith;
        after = h.after;
        next = AllByRecursion-front (λ z. (key z ≤ key x) ⊎ (key y < key z)) a (v.entry ∷ b) next;
      }
  split_side Right s k v m x y h o lt =
      let a = entries (tree_at s v.left) in
      let b = entries (tree_at s v.right) in
      let next : NoneBetween key (key x) (key y) (a ++ v.entry ∷ b) = rw o.tree at h.next in
      let f : is k.number m + (count m (tree_at s v.left) + count m (tree_at s v.right)) ≡ 0 = rw o.tree at h.fresh in
      record {
        has = key_side Right s k v x h.has o lt;
        used = h.used;
        fresh = omega arith;
        after = h.after;
        next = (AllByRecursion-back (λ z. (key z ≤ key x) ⊎ (key y < key z)) a (v.entry ∷ b) next).1;
      }

  pub split_down : (side : Side) (s : Store T S) (n m : ℕ) (v : Stored T S) (x y : T) → s n ≡ Some v → AreOn key side x x v.entry → (k : Link S) →
      k.number ≡ n → IsSplitFor key unit op of s (Some k) m x y →
      GoesDown key unit op of laws (λ l. IsSplitFor key unit op of s l m x y) (with_two key x y) (λ f j. is m j + f j) side s k v
  split_down side s n m v x y e on k p h = let o = opened_at key unit op of laws s n k v p h.has.held e in record {
    opened = o;
    asked = split_side side s k v m x y h o on;
    entries = split_is side s k v m x y h o on;
    count = λ j. let c = same_count side s k v o j in omega arith;
    once = fresh_at s k v m o h.fresh;
  }

  pub split_further : (side : Side) (s : Store T S) (n below : ℕ) (m : ℕ) (x y : T) → IsSplitBelowFor key unit op of s n m x y →
      child_number side (s n) ≡ Some below →
      IsBeside key unit op of s n x x (Some side) → IsFurther key unit op of laws (λ l. IsSplitFor key unit op of s l m x y) s n below
  split_further side s n below m x y b d on = let w = node_at key unit op of laws s n b.link b.number b.asked.has.held in
      further key unit op of laws (λ l. IsSplitFor key unit op of s l m x y) (with_two key x y) (λ f j. is m j + f j) none 0 1 side s n w.node
      below w.stored d
      (split_down side s n m w.node x y w.stored (on w.node w.stored)) b

  abbrev pub IsSplitStep : Side → Store T S → Store T S → ℕ → ℕ → ℕ → T → T → Bool → Type 0
  IsSplitStep side s t n below m x y c =
      IsStepped key unit op of laws (λ l. IsSplitFor key unit op of s l m x y) (with_two key x y) (λ f j. is m j + f j) none 0 1
      (IsBetween key unit op of s n x x) side s t n below c

  pub split_step : (side : Side) (s t : Store T S) (n below : ℕ) (m : ℕ) (x y : T) (c : Bool) → IsSplitBelowFor key unit op of s n m x y →
      child_number side (s n) ≡ Some below →
      IsBeside key unit op of s n x x (Some side) → IsSplitBelow key unit op of s t below m x y c → IsSplitStep side s t n below m x y c
  split_step side s t n below m x y c b d on done = let w = node_at key unit op of laws s n b.link b.number b.asked.has.held in
      step key unit op of laws (λ l. IsSplitFor key unit op of s l m x y) (with_two key x y) (λ f j. is m j + f j) none 0 1
      (IsBetween key unit op of s n x x) side s t n w.node below c
      (omega arith) w.stored d
      (split_down side s n m w.node x y w.stored (on w.node w.stored)) b done

  pub split_never : (side : Side) (s : Store T S) (n : ℕ) (m : ℕ) (x y : T) → IsSplitBelowFor key unit op of s n m x y
      → child_number side (s n) ≡ None →
      IsBeside key unit op of s n x x (Some side) → ⊥
  split_never side s n m x y b d on = let w = node_at key unit op of laws s n b.link b.number b.asked.has.held in
      never key unit op of laws (λ l. IsSplitFor key unit op of s l m x y) (with_two key x y) (λ f j. is m j + f j) none 0 1 side s n
      w.node w.stored d
      (split_down side s n m w.node x y w.stored (on w.node w.stored)) b (λ h. no_key key unit op of laws s x h.has)

  -- the link of a node whose entry is another one
  record IsRetold (s t : Store T S) (k : Link S) (xs : List T) (f : ℕ → ℕ) : Type 0 where
    link : Link S
    number : link.number ≡ k.number
    done : IsDone key unit op of laws s t k link xs f none 0 0

  retold : {Put : Type 0} (s t : Store T S) (k : Link S) (xs : List T) (f : ℕ → ℕ) → IsChanged key unit op of s t k true xs f none 0 0 Put
      → IsRetold s t k xs f
  retold s t k xs f c =
      let v = c.node in
      let l0 = c.level.0 in let l1 = c.level.1 in
      let level : DifferByAtMost 1 (height_of v.left) (height_of v.right) =
      level_of (height_of v.left) (height_of v.right) k.height c.level c.settles in
      let m' : Link S = record {
        number = k.number;
        height = max (height_of v.left) (height_of v.right) + 1;
        sum = op (sum_of unit v.left)
            (op (of v.entry) (sum_of unit v.right));
      } in
      let w = c.settles m'.height (omega arith, omega arith, λ _. refl) in
      record {
        link = m';
        number = refl;
        done = record {
          tree = whole_above key unit op of laws s t t k.number v m' xs f none c.above (joined_same key unit op of laws t m' v.left v.entry v.right
              (record { stored = c.above.stored; told = refl; level = level }) c.above.spot);
          not_lower = w.0;
          not_higher = w.1;
        };
      }

  split_place : (s t : Store T S) (n m : ℕ) (x y : T) (k m' : Link S) → IsSplitFor key unit op of s (Some k) m x y →
      IsDone key unit op of laws s t k m' (with_entry key x (without_key key (key x) (entries (tree_at s (Some k)))))
      (λ j. count j (tree_at s (Some k)))
      none 0 0 →
      IsPlaceFor key unit op of t (Some m') m y
  split_place s t n m x y k m' h d =
      let xs = entries (tree_at s (Some k)) in
      let after = h.after in
      let other : AllByRecursion (λ z. key z ≡ key y → ⊥) xs = AllByRecursion-map (λ z. (key z ≤ key x) ⊎ (key y < key z)) (λ z. key z ≡ key y → ⊥)
      (λ z i e. elim i [ inl j ↦ absurd (omega arith) | inr j ↦ absurd (omega arith) ]) xs h.next in
      let none_at : AllByRecursion (λ z. key z ≡ key y → ⊥) (with_entry key x (without_key key (key x) xs)) =
      all_with key (λ z. key z ≡ key y → ⊥) x _ (λ e. absurd (omega arith)) (all_without key (λ z. key z ≡ key y → ⊥) (key x) xs other) in
      record {
        held = d.tree.held;
        rising = rw d.tree.entries (rising_with key x _ (rising_without key (key x) xs h.has.rising));
        used = d.tree.used m h.used;
        fresh = let c = d.tree.count m in let f = h.fresh in omega arith;
        other = rw d.tree.entries (at_no_key key (key y) _ none_at);
      }

  -- the node itself has the key: it is replaced, and then the other one is placed below it
  pub split_ready : (s t : Store T S) (n m : ℕ) (x y : T) → IsSplitBelowFor key unit op of s n m x y → IsReplacedBelow key unit op of s t n x true →
      IsPlaceBelow key unit op of t n m y
  split_ready s t n m x y b r =
      let k = b.link in
      let d = retold s t k _ _ (r k b.number b.asked.has) in
      let low = b.low in
      let high = d.done.not_higher in
      record { link = d.link; number = d.number ∙ b.number; asked = split_place s t n m x y k d.link b.asked d.done; low = omega arith }

  pub split_at : (s t u : Store T S) (n m : ℕ) (x y : T) (c : Bool) → IsBetween key unit op of s n x x → IsReplacedBelow key unit op of s t n x true →
      IsPlacedBelow key unit op of t u n m y c →
      IsSplitBelow key unit op of s u n m x y true
  split_at s t u n m x y c between r q k p h =
      let d = retold s t k _ _ (r k p h.has) in
      let m' = d.link in
      let tr = d.done.tree in
      let z = q m' (d.number ∙ p) (split_place s t n m x y k m' h d.done) in
      let a = d.done.not_lower in let b = d.done.not_higher in
      let xs : List T = with_entry key y (entries (tree_at t (Some m'))) in
      let f : ℕ → ℕ = λ j. is m j + count j (tree_at t (Some m')) in
      let w = z.node in
      let above : IsAbove key unit op of t u k.number w xs f none = subst (λ (i : ℕ). IsAbove key unit op of t u i w xs f none) d.number z.above in
      record {
        node = w;
        above = record {
          stored = above.stored;
          spot = above.spot;
          entries = above.entries ∙ ap (with_entry key y) tr.entries;
          count = λ j. let i = above.count j in let l = tr.count j in omega arith;
          kept = λ j i. let l = tr.count j in above.kept j (omega arith) ∙ tr.kept j (omega arith);
          used = λ j i. above.used j (tr.used j i);
        };
        level = z.level;
        low = let l = z.low in omega arith;
        settles = λ i j. let q = z.settles i j in let q0 = q.0 in let q1 = q.1 in (omega arith, omega arith);
        same = λ i. absurd (both_ways true i refl);
        other = λ _ _. between;
      }
