-- Two neighbours that become one entry.
use Rattle.std.proofs.Common.{◌≡◌, ℕ, ◌<◌, ◌≤◌, ◌⊎◌, inl, inr, Bool, true, false, cond, eqb, Some, None, List, [], ◌∷◌, ◌++◌, refl, sym, ap, ◌∙◌, subst, arith}
use Rattle.std.proofs.lemmas.Bool.{both_ways, eqb-true, eq-eqb}
use Rattle.av_base.specs.Words.{with_at}
use Rattle.av_arena.specs.Arena.{entry_of, entry_put, on_other, on_side}
use Rattle.av_arena.specs.Below.{AreOn, HasKeyBelow, IsAt, IsBeside, IsBetween, IsChanged, IsJoinBelowFor, IsJoinFor, IsJoinedBelow, IsRemovedBelow, child_number, in_order}
use Rattle.av_arena.specs.Monoid.{MonoidLaws}
use Rattle.av_arena.specs.Order.{IsRising, NoneWithin, with_entry, with_joined, without_key}
use Rattle.std.specs.List.{AllByRecursion}
use Rattle.av_arena.specs.Tree.{IsOpened, Store, count, entries, entries_at, is, none, tree_at}
use Rattle.av_arena.specs.declared.link.Link.{Link}
use Rattle.av_arena.specs.declared.link.Side.{Side}
use Rattle.av_arena.specs.declared.link.Side.TheVariants.{Left, Right}
use Rattle.av_arena.specs.declared.link.Stored.{Stored}
use Rattle.av_arena.proofs.Order.{AllByRecursion-back, AllByRecursion-front, AllByRecursion-map, all_middle, all_without, rising_without, with_between, with_left, with_right, without_left, without_middle, without_right}
use Rattle.av_arena.proofs.BelowLemmas.{GoesDown, IsFurther, IsStepped, above_put, further, never, no_key, node_at, once_at, opened_at, same_count, step}
use Rattle.av_arena.proofs.TreeLemmas.{key_left, key_right}

-- lists
module _ {A : Type 0} (key : A → ℕ) where
  swap_cases : (a b : ℕ) (y : A) (t u v w : List A) → (a ≡ b → ⊥) → (p q : Bool) → eqb (key y) a ≡ p → eqb (key y) b ≡ q → u ≡ without_key key b t →
      v ≡ without_key key a t → without_key key a u ≡ without_key key b v
      → without_key key a (cond q t (y ∷ u)) ≡ without_key key b (cond p t (y ∷ v))
  swap_cases a b y t u v w apart true true e f g h i = absurd (apart (sym (eqb-true (key y) a e) ∙ eqb-true (key y) b f))
  swap_cases a b y t u v w apart true false e f g h i = rw (e) g
  swap_cases a b y t u v w apart false true e f g h i = sym (rw (f) h)
  swap_cases a b y t u v w apart false false e f g h i = rw (e, f) (ap (λ z. y ∷ z) i)

  -- two keys go in either order
  pub without_swap : (a b : ℕ) → (a ≡ b → ⊥) → (t : List A) → without_key key a (without_key key b t) ≡ without_key key b (without_key key a t)
  without_swap a b apart [] = refl
  without_swap a b apart (y ∷ t) = swap_cases a b y t (without_key key b t) (without_key key a t) t apart (eqb (key y) a) (eqb (key y) b) refl refl
      refl refl (without_swap a b apart t)

  gone_cases : (k : ℕ) (y : A) (t u : List A) (b : Bool) → eqb (key y) k ≡ b → AllByRecursion (λ z. key y < key z) t
      → AllByRecursion (λ z. key z ≡ k → ⊥) u →
      AllByRecursion (λ z. key z ≡ k → ⊥) (cond b t (y ∷ u))
  gone_cases k y t u true e up a = let same = eqb-true (key y) k e in AllByRecursion-map (λ z. key y < key z) (λ z. key z ≡ k → ⊥)
      (λ z p q. absurd (omega arith)) t up
  gone_cases k y t u false e up a = (λ q. both_ways (eqb (key y) k) e (eq-eqb (key y) k q), a)

  -- what is taken out is gone
  pub gone : (k : ℕ) (t : List A) → IsRising key t → AllByRecursion (λ z. key z ≡ k → ⊥) (without_key key k t)
  gone k [] s = tt
  gone k (y ∷ t) s = gone_cases k y t (without_key key k t) (eqb (key y) k) refl s.0 (gone k t s.1)

  -- what stands in front is lower
  pub all_lower : (l : List A) (w : A) (r : List A) → IsRising key (l ++ w ∷ r) → AllByRecursion (λ e. key e < key w) l
  all_lower [] w r s = tt
  all_lower (y ∷ l) w r s = (all_middle (λ z. key y < key z) l w r s.0, all_lower l w r s.1)

  all_put : (P : A → Type 0) (l : List A) (w z : A) (r : List A) → AllByRecursion P (l ++ w ∷ r) → P z → AllByRecursion P (l ++ z ∷ r)
  all_put P [] w z r a p = (p, a.1)
  all_put P (y ∷ l) w z r a p = (a.0, all_put P l w z r a.1 p)

  -- a lower one in the middle, that is above all in front
  rising_put : (l : List A) (w z : A) (r : List A) → IsRising key (l ++ w ∷ r) → key z ≤ key w → AllByRecursion (λ e. key e < key z) l → IsRising key
      (l ++ z ∷ r)
  rising_put [] w z r s le a = (AllByRecursion-map (λ e. key w < key e) (λ e. key z < key e) (λ e p. omega arith) r s.0, s.1)
  rising_put (y ∷ l) w z r s le a = (all_put (λ e. key y < key e) l w z r s.0 a.0, rising_put l w z r s.1 le a.1)

  all_both : (P Q R : A → Type 0) → ((e : A) → P e → Q e → R e) → (l : List A) → AllByRecursion P l → AllByRecursion Q l → AllByRecursion R l
  all_both P Q R f [] a b = tt
  all_both P Q R f (y ∷ l) a b = (f y a.0 b.0, all_both P Q R f l a.1 b.1)

  -- the root is the lower one, and the upper one goes
  pub joined_lower : (x y z w : A) (xs l r : List A) → IsRising key xs → key z ≡ key x → key w ≡ key x → l ++ w ∷ r ≡ without_key key (key y) xs →
      l ++ z ∷ r ≡ with_joined key x y z xs
  joined_lower x y z w xs l r up same at e =
      let up' : IsRising key (l ++ w ∷ r) = rw e (rising_without key (key y) xs up) in
      let zw : key z ≡ key w = same ∙ sym at in
      sym (ap (λ t. with_entry key z (without_key key (key x) t)) (sym e)
      ∙ (ap (with_entry key z) (without_middle key (key x) w l r at up') ∙ with_between key z w l r zw up'))

  -- the root is the upper one, and the lower one goes
  pub joined_upper : (x y z w : A) (xs l r : List A) → IsRising key xs → key x < key y → NoneWithin key (key x) (key y) xs → key z ≡ key x
      → key w ≡ key y →
      l ++ w ∷ r ≡ without_key key (key x) xs → l ++ z ∷ r ≡ with_joined key x y z xs
  joined_upper x y z w xs l r up after next same at e =
      let up' : IsRising key (l ++ w ∷ r) = rw e (rising_without key (key x) xs up) in
      let others : AllByRecursion (λ o. key o ≡ key x → ⊥) (l ++ w ∷ r) = rw e (gone (key x) xs up) in
      let near : AllByRecursion (λ o. (key o ≤ key x) ⊎ (key y ≤ key o)) (l ++ w ∷ r) =
      rw e (all_without key (λ o. (key o ≤ key x) ⊎ (key y ≤ key o)) (key x) xs next) in
      let below : AllByRecursion (λ o. key o ≤ key x) l = all_both (λ o. (key o ≤ key x) ⊎ (key y ≤ key o)) (λ o. key o < key w) (λ o. key o ≤ key x)
      (λ o p q. elim p [ inl i ↦ i | inr i ↦ absurd (omega arith) ]) l (AllByRecursion-front _ l (w ∷ r) near) (all_lower l w r up') in
      let lower : AllByRecursion (λ o. key o < key z) l =
      all_both (λ o. key o ≤ key x) (λ o. key o ≡ key x → ⊥) (λ o. key o < key z) (λ o p q. omega arith)
      l below
      (AllByRecursion-front _ l (w ∷ r) others) in
      let up'' : IsRising key (l ++ z ∷ r) = rising_put l w z r up' (omega arith) lower in
      let is : without_key key (key x) (without_key key (key y) xs) ≡ l ++ r = without_swap (key x) (key y) (λ d. absurd (omega arith)) xs
      ∙ (ap (without_key key (key y)) (sym e) ∙ without_middle key (key y) w l r at up') in
      sym (ap (with_entry key z) is ∙ with_between key z z l r refl up'')

  pub joined_left : (x y z v : A) (l r : List A) → IsRising key (l ++ v ∷ r) → key x < key y → key z ≡ key x → key y < key v →
      with_joined key x y z (l ++ v ∷ r) ≡ with_joined key x y z l ++ v ∷ r
  joined_left x y z v l r up after same lt =
      let a = without_left key (key y) v l r lt up in
      let up' : IsRising key (without_key key (key y) l ++ v ∷ r) = subst (IsRising key) a (rising_without key (key y) _ up) in
      let b = without_left key (key x) v (without_key key (key y) l) r (omega arith) up' in
      ap (λ t. with_entry key z (without_key key (key x) t)) a ∙ (ap (with_entry key z) b ∙ with_left key z v _ r (omega arith))

  pub joined_right : (x y z v : A) (l r : List A) → IsRising key (l ++ v ∷ r) → key x < key y → key z ≡ key x → key v < key x →
      with_joined key x y z (l ++ v ∷ r) ≡ l ++ v ∷ with_joined key x y z r
  joined_right x y z v l r up after same lt =
      let a = without_right key (key y) v l r (omega arith) up in
      let up' : IsRising key (l ++ v ∷ without_key key (key y) r) = subst (IsRising key) a (rising_without key (key y) _ up) in
      let b = without_right key (key x) v l (without_key key (key y) r) lt up' in
      let up'' : IsRising key (l ++ v ∷ without_key key (key x) (without_key key (key y) r)) =
      subst (IsRising key) b (rising_without key (key x) _ up') in
      ap (λ t. with_entry key z (without_key key (key x) t)) a ∙ (ap (with_entry key z) b ∙ with_right key z v l _ (omega arith) up'')

module _ {T S : Type 0} (key : T → ℕ) (unit : S) (op : S → S → S) (of : T → S) (laws : MonoidLaws unit op) where
  -- the neighbours are on one side
  join_side : (side : Side) (s : Store T S) (k : Link S) (v : Stored T S) (x y z : T) → IsJoinFor key unit op of s (Some k) x y z →
      IsOpened key unit op of s k v → AreOn key side x y v.entry → IsJoinFor key unit op of s (on_side side v) x y z
  join_side Left s k v x y z h o lt =
      let a = entries (tree_at s v.left) in
      let b = entries (tree_at s v.right) in
      let next : NoneWithin key (key x) (key y) (a ++ v.entry ∷ b) = rw o.tree at h.next in
      let after = h.after in
      record {
        has = key_left key unit op of laws s k v x h.has o (omega arith);
        too = key_left key unit op of laws s k v y h.too o lt;
        after = h.after;
        next = AllByRecursion-front (λ w. (key w ≤ key x) ⊎ (key y ≤ key w)) a (v.entry ∷ b) next;
        same = h.same;
      }
  join_side Right s k v x y z h o lt =
      let a = entries (tree_at s v.left) in
      let b = entries (tree_at s v.right) in
      let next : NoneWithin key (key x) (key y) (a ++ v.entry ∷ b) = rw o.tree at h.next in
      let after = h.after in
      record {
        has = key_right key unit op of laws s k v x h.has o lt;
        too = key_right key unit op of laws s k v y h.too o (omega arith);
        after = h.after;
        next = (AllByRecursion-back (λ w. (key w ≤ key x) ⊎ (key y ≤ key w)) a (v.entry ∷ b) next).1;
        same = h.same;
      }

  join_is : (side : Side) (s : Store T S) (k : Link S) (v : Stored T S) (x y z : T) → IsJoinFor key unit op of s (Some k) x y z →
      IsOpened key unit op of s k v → AreOn key side x y v.entry →
      in_order side (with_joined key x y z (entries_at s (on_side side v))) v.entry (entries_at s (on_other side v)) ≡ with_joined key x y z
      (entries_at s (Some k))
  join_is Left s k v x y z h o lt =
      let a = entries (tree_at s v.left) in
      let b = entries (tree_at s v.right) in
      let up : IsRising key (a ++ v.entry ∷ b) = rw o.tree at h.has.rising in
      sym (joined_left key x y z v.entry a b up h.after h.same lt) ∙ rw o.tree refl
  join_is Right s k v x y z h o lt =
      let a = entries (tree_at s v.left) in
      let b = entries (tree_at s v.right) in
      let up : IsRising key (a ++ v.entry ∷ b) = rw o.tree at h.has.rising in
      sym (joined_right key x y z v.entry a b up h.after h.same lt) ∙ rw o.tree refl

  pub join_down : (side : Side) (s : Store T S) (n : ℕ) (v : Stored T S) (x y z : T) → s n ≡ Some v → AreOn key side x y v.entry → (k : Link S) →
      k.number ≡ n → IsJoinFor key unit op of s (Some k) x y z →
      GoesDown key unit op of laws (λ l. IsJoinFor key unit op of s l x y z) (with_joined key x y z) (λ f. f) side s k v
  join_down side s n v x y z e on k p h = let o = opened_at key unit op of laws s n k v p h.has.held e in record {
    opened = o;
    asked = join_side side s k v x y z h o on;
    entries = join_is side s k v x y z h o on;
    count = same_count key unit op of laws side s k v o;
    once = once_at key unit op of laws s k v o;
  }

  pub join_further : (side : Side) (s : Store T S) (n below : ℕ) (x y z : T) → IsJoinBelowFor key unit op of s n x y z
      → child_number side (s n) ≡ Some below →
      IsBeside key unit op of s n x y (Some side) → IsFurther key unit op of laws (λ l. IsJoinFor key unit op of s l x y z) s n below
  join_further side s n below x y z b d on = let w = node_at key unit op of laws s n b.link b.number b.asked.has.held in
      further key unit op of laws (λ l. IsJoinFor key unit op of s l x y z) (with_joined key x y z) (λ f. f) none 1 0 side s n w.node below w.stored d
      (join_down side s n w.node x y z w.stored (on w.node w.stored)) b

  abbrev pub IsJoinStep : Side → Store T S → Store T S → ℕ → ℕ → T → T → T → ℕ → Bool → Type 0
  IsJoinStep side s t n below x y z out c =
      IsStepped key unit op of laws (λ l. IsJoinFor key unit op of s l x y z) (with_joined key x y z) (λ f. f) (is out) 1 0
      (IsBetween key unit op of s n x y) side s t n below c

  pub join_step : (side : Side) (s t : Store T S) (n below : ℕ) (x y z : T) (out : ℕ) (c : Bool) → IsJoinBelowFor key unit op of s n x y z →
      child_number side (s n) ≡ Some below →
      IsBeside key unit op of s n x y (Some side) → IsJoinedBelow key unit op of s t below x y z out c → IsJoinStep side s t n below x y z out c
  join_step side s t n below x y z out c b d on done = let w = node_at key unit op of laws s n b.link b.number b.asked.has.held in
      step key unit op of laws (λ l. IsJoinFor key unit op of s l x y z) (with_joined key x y z) (λ f. f) (is out) 1 0
      (IsBetween key unit op of s n x y) side s t n w.node below c
      (omega arith) w.stored d
      (join_down side s n w.node x y z w.stored (on w.node w.stored)) b done

  pub join_never : (side : Side) (s : Store T S) (n : ℕ) (x y z : T) → IsJoinBelowFor key unit op of s n x y z → child_number side (s n) ≡ None →
      IsBeside key unit op of s n x y (Some side) → ⊥
  join_never side s n x y z b d on = let w = node_at key unit op of laws s n b.link b.number b.asked.has.held in
      never key unit op of laws (λ l. IsJoinFor key unit op of s l x y z) (with_joined key x y z) (λ f. f) none 1 0 side s n w.node w.stored d
      (join_down side s n w.node x y z w.stored (on w.node w.stored)) b (λ h. no_key key unit op of laws s x h.has)

  -- the root is one of the two, and the other goes
  put_at_root : {Put : Type 0} (s t u : Store T S) (n out : ℕ) (k : Link S) (v : Stored T S) (x y z : T) (c : Bool) (xs : List T) →
      IsBetween key unit op of s n x y → k.number ≡ n → s n ≡ Some v →
      entry_of (t n) ≡ entry_of (s n) → u ≡ with_at n (entry_put z (t n)) t → IsChanged key unit op of s t k c xs (λ j. count j (tree_at s (Some k)))
      (is out) 1 0 Put → ((l r : List T) → l ++ v.entry ∷ r ≡ xs → l ++ z ∷ r ≡ with_joined key x y z (entries (tree_at s (Some k)))) →
      IsChanged key unit op of s u k true (with_joined key x y z (entries (tree_at s (Some k)))) (λ j. count j (tree_at s (Some k))) (is out) 1 0
      (IsBetween key unit op of s n x y)
  put_at_root s t u n out k v x y z c xs between p e stays at ch joins =
      let w = ch.node in
      let w' : Stored T S = record { left = w.left; entry = z; right = w.right } in
      let here : t n ≡ Some w = subst (λ i. t i ≡ Some w) p ch.above.stored in
      let same : w.entry ≡ v.entry = (let d : entry_of (Some w) ≡ entry_of (Some v) = ap entry_of (sym here) ∙ (stays ∙ ap entry_of e) in cc) in
      let put : u ≡ with_at k.number (Some w') t = rw p (at ∙ ap (λ m. with_at n (entry_put z m) t) here) in
      let was : entries (tree_at t w.left) ++ v.entry ∷ entries (tree_at t w.right) ≡ xs =
      subst (λ i. entries (tree_at t w.left) ++ i ∷ entries (tree_at t w.right) ≡ xs) same ch.above.entries in
      record {
        node = w';
        above = above_put key unit op of laws s t u k.number w' _ (λ j. count j (tree_at s (Some k))) (is out) ch.above.spot put
            (joins _ _ was) ch.above.count ch.above.kept ch.above.used;
        level = ch.level;
        low = ch.low;
        settles = ch.settles;
        same = λ d. absurd (both_ways true d refl);
        other = λ _ _. between;
      }

  pub join_lower_goes : (s t u : Store T S) (n out : ℕ) (v : Stored T S) (x y z : T) (c : Bool) → s n ≡ Some v → IsBetween key unit op of s n x y →
      key x < key v.entry → IsRemovedBelow key unit op of s t n x out c → entry_of (t n) ≡ entry_of (s n) → u ≡ with_at n (entry_put z (t n)) t →
      IsJoinedBelow key unit op of s u n x y z out true
  join_lower_goes s t u n out v x y z c e meets lt below stays at k p h =
      let o = opened_at key unit op of laws s n k v p h.has.held e in
      let le = (meets v e).1 in
      let mid = all_middle (λ w. (key w ≤ key x) ⊎ (key y ≤ key w)) (entries (tree_at s v.left)) v.entry (entries (tree_at s v.right))
      (rw o.tree at h.next) in
      let is_y : key v.entry ≡ key y = elim mid [ inl i ↦ absurd (omega arith) | inr i ↦ omega arith ] in
      put_at_root s t u n out k v x y z c _ meets p e stays at (below k p h.has)
      (λ l r d. joined_upper key x y z v.entry _ l r h.has.rising h.after h.next h.same is_y d)

  pub join_upper_goes : (s t u : Store T S) (n out : ℕ) (v : Stored T S) (x y z : T) (c : Bool) → s n ≡ Some v → IsBetween key unit op of s n x y →
      key v.entry ≤ key x → IsRemovedBelow key unit op of s t n y out c → entry_of (t n) ≡ entry_of (s n) → u ≡ with_at n (entry_put z (t n)) t →
      IsJoinedBelow key unit op of s u n x y z out true
  join_upper_goes s t u n out v x y z c e meets le below stays at k p h =
      let ge = (meets v e).0 in
      let is_x : key v.entry ≡ key x = omega arith in
      put_at_root s t u n out k v x y z c _ meets p e stays at (below k p h.too)
      (λ l r d. joined_lower key x y z v.entry _ l r h.has.rising h.same is_x d)

  -- what is asked where the root is one of the two
  pub join_lower_has : (s : Store T S) (n : ℕ) (x y z : T) → IsJoinBelowFor key unit op of s n x y z → HasKeyBelow key unit op of s n x
  join_lower_has s n x y z b = record { link = b.link; number = b.number; asked = b.asked.has; low = b.low }

  pub join_upper_has : (s : Store T S) (n : ℕ) (x y z : T) → IsJoinBelowFor key unit op of s n x y z → HasKeyBelow key unit op of s n y
  join_upper_has s n x y z b = record { link = b.link; number = b.number; asked = b.asked.too; low = b.low }

  pub not_at_lower : (s : Store T S) (n : ℕ) (v : Stored T S) (x : T) → s n ≡ Some v → key x < key v.entry → IsAt key unit op of s n x false
  not_at_lower s n v x e lt w f = let d : Some v ≡ Some w = sym e ∙ f in let same : v ≡ w = cc in (
    λ t. absurd (both_ways false refl t),
    λ _ q. let lt' : key x < key w.entry = subst (λ (i : Stored T S). key x < key i.entry) same lt in
        absurd (omega arith),
  )

  pub not_at_upper : (s : Store T S) (n : ℕ) (v : Stored T S) (y : T) → s n ≡ Some v → key v.entry < key y → IsAt key unit op of s n y false
  not_at_upper s n v y e lt w f = let d : Some v ≡ Some w = sym e ∙ f in let same : v ≡ w = cc in (
    λ t. absurd (both_ways false refl t),
    λ _ q. let lt' : key w.entry < key y = subst (λ (i : Stored T S). key i.entry < key y) same lt in
        absurd (omega arith),
  )
