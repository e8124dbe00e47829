-- Slots that are one, functions that differ at one slot, and the areas by number after one of them
-- has changed.
use Rattle.std.proofs.Common.{◌≡◌, ℕ, zero, suc, ◌+◌, ◌<◌, Bool, true, false, cond, not, ◌&&◌, ◌==◌, List, [], ◌∷◌, length, get_or, set, Option, Some, None, option_map, refl, sym, ap, ◌∙◌, arith}
use Rattle.std.proofs.lemmas.Bool.{false≢true}
use Rattle.std.proofs.lemmas.Bool.Decides.{nat_tests}
use Rattle.std.specs.FinMap.Entries.{find, put, where_key, by_order}
use Rattle.std.specs.Ordering.{nat_cmp}
use Rattle.std.specs.Cmp.{nat_cmp_is, unsigned_tied}
use Rattle.std.specs.declared.cmp.Ordering.TheVariants.{Less, Greater}
use Rattle.av_base.specs.Words.{with_at}
use Rattle.av_base.specs.declared.slot.Slot.{Slot}
use Rattle.av_swapdev.specs.declared.header.Header.{Header}
use Rattle.av_swapcache.specs.Area.{AreaShown, AreaStore, area_shown}
use Rattle.av_swapcache.specs.Swap.{area_at, numbered, on_from, same_slot, with_area, with_slot}
use Rattle.av_swapcache.proofs.AreaLaws.{at-set}

-- ---- slots

pub slot-is : (s t : Slot) → same_slot s t ≡ true → s ≡ t
slot-is s t h =
    let a : s.area ≡ t.area = grind (arith, nat_tests, h) in
    let b : s.page ≡ t.page = grind (arith, nat_tests, h) in
    λ i. record { area = a i; page = b i }

pub slot-itself : (s : Slot) → same_slot s s ≡ true
slot-itself s = grind (arith, nat_tests)

pub slot-other : (s t : Slot) → same_slot s t ≡ false → s ≡ t → ⊥
slot-other s t h e = false≢true (sym h ∙ ap (same_slot s) (sym e) ∙ slot-itself s)

-- a function changed at a slot, there and elsewhere
pub here : {X : Type 0} (s : Slot) (x : X) (f : Slot → X) → with_slot s x f s ≡ x
here s x f = ap (λ b. cond b x (f s)) (slot-itself s)

pub there : {X : Type 0} (s t : Slot) (x : X) (f : Slot → X) → same_slot t s ≡ false → with_slot s x f t ≡ f t
there s t x f e = ap (λ b. cond b x (f t)) e

-- ---- the areas after one has changed

pub is_there : (areas : List (Option AreaStore)) (k : ℕ) (a : AreaStore) → get_or areas k None ≡ Some a → k < length areas
is_there [] k a h = cc
is_there (x ∷ areas) zero a h = omega arith
is_there (x ∷ areas) (suc k) a h = let rest = is_there areas k a h in omega (arith, rest)

pub area_at-set : (areas : List (Option AreaStore)) (k : ℕ) (x : Option AreaStore) → k < length areas
    → area_at (set areas k x) ≡ with_at k (option_map area_shown x) (area_at areas)
area_at-set areas k x below = λ i j. (ap (option_map area_shown) (λ m. at-set areas k x None below m j) ∙ by (j == k) (get_or areas j None)) i
  where
    by : (b : Bool) (y : Option AreaStore) → option_map area_shown (cond b x y) ≡ cond b (option_map area_shown x) (option_map area_shown y)
    by true y = refl
    by false y = refl

-- what is read of each slot
module _ {X : Type 0} (read : Option AreaShown → ℕ → X) (at : ℕ → Option AreaShown) (k : ℕ) (b : Option AreaShown) where
  pub slots_same : read b ≡ read (at k)
      → ◌≡◌ {A = Slot → X} (λ (t : Slot). read (with_at k b at t.area) t.page) (λ (t : Slot). read (at t.area) t.page)
  slots_same e = λ i t. by t (t.area == k) refl i
    where
      by : (t : Slot) (c : Bool) → (t.area == k) ≡ c → read (cond (t.area == k) b (at t.area)) t.page ≡ read (at t.area) t.page
      by t true h = let is : t.area ≡ k = grind (arith, nat_tests) in
          ap (λ c. read (cond c b (at t.area)) t.page) h ∙ (λ i. e i t.page) ∙ sym (ap (λ j. read (at j) t.page) is)
      by t false h = ap (λ c. read (cond c b (at t.area)) t.page) h

  pub slots_one : (p : ℕ) (x : X) → read b ≡ with_at p x (read (at k))
      → (λ (t : Slot). read (with_at k b at t.area) t.page) ≡ with_slot (record { area = k; page = p }) x (λ (t : Slot). read (at t.area) t.page)
  slots_one p x e = λ i t. by t (t.area == k) refl i
    where
      by : (t : Slot) (c : Bool) → (t.area == k) ≡ c
          → read (cond (t.area == k) b (at t.area)) t.page ≡ cond (t.area == k && t.page == p) x (read (at t.area) t.page)
      by t true h = let is : t.area ≡ k = grind (arith, nat_tests) in
          ap (λ c. read (cond c b (at t.area)) t.page) h ∙ (λ i. e i t.page) ∙ sym (ap (λ j. cond (t.page == p) x (read (at j) t.page)) is)
          ∙ sym (ap (λ c. cond (c && t.page == p) x (read (at t.area) t.page)) h)
      by t false h = ap (λ c. read (cond c b (at t.area)) t.page) h ∙ sym (ap (λ c. cond (c && t.page == p) x (read (at t.area) t.page)) h)

  pub slots_all : (λ (t : Slot). read (with_at k b at t.area) t.page) ≡ with_area k (read b) (λ (t : Slot). read (at t.area) t.page)
  slots_all = λ i t. by t (t.area == k) i
    where
      by : (t : Slot) (c : Bool) → read (cond c b (at t.area)) t.page ≡ cond c (read b t.page) (read (at t.area) t.page)
      by t true = refl
      by t false = refl

-- and of each area
module _ {X : Type 0} (read : Option AreaShown → X) (at : ℕ → Option AreaShown) (k : ℕ) (b : Option AreaShown) where
  pub areas_same : read b ≡ read (at k) → ◌≡◌ {A = ℕ → X} (λ j. read (with_at k b at j)) (λ j. read (at j))
  areas_same e = λ i j. by j (j == k) refl i
    where
      by : (j : ℕ) (c : Bool) → (j == k) ≡ c → read (cond (j == k) b (at j)) ≡ read (at j)
      by j true h = let is : j ≡ k = grind (arith, nat_tests) in ap (λ c. read (cond c b (at j))) h ∙ e ∙ sym (ap (λ j. read (at j)) is)
      by j false h = ap (λ c. read (cond c b (at j))) h

  pub areas_one : (λ j. read (with_at k b at j)) ≡ with_at k (read b) (λ j. read (at j))
  areas_one = λ i j. by j (j == k) i
    where
      by : (j : ℕ) (c : Bool) → read (cond c b (at j)) ≡ cond c (read b) (read (at j))
      by j true = refl
      by j false = refl

-- ---- the list of areas that are on

-- the header that stands there
abbrev header_of : Option AreaStore → Option Header
header_of x = option_map (λ (a : AreaStore). a.header) x

pub on-same : (n k : ℕ) (areas : List (Option AreaStore)) (a b : AreaStore) → get_or areas k None ≡ Some a → b.header ≡ a.header
    → on_from n (set areas k (Some b)) ≡ on_from n areas
on-same n k [] a b h e = refl
on-same n zero (x ∷ areas) a b h e = ap (λ (c : Header). (n, c) ∷ on_from (n + 1) areas) e ∙ sym (ap (λ x. numbered n x (on_from (n + 1) areas)) h)
on-same n (suc k) (x ∷ areas) a b h e = ap (numbered n x) (on-same (n + 1) k areas a b h e)

-- none is below its first number
pub find-below : (n q : ℕ) (areas : List (Option AreaStore)) → q < n → find nat_cmp q (on_from n areas) ≡ None
find-below n q [] h = refl
find-below n q (None ∷ areas) h = find-below (n + 1) q areas (omega (arith, h))
find-below n q (Some a ∷ areas) h = let ne : (q == n) ≡ false = grind (arith, nat_tests) in
    ap (λ b. cond b (Some a.header) (find nat_cmp q (on_from (n + 1) areas))) (unsigned_tied q n ∙ ne) ∙ find-below (n + 1) q areas (omega (arith, h))

pub find-on : (n k q : ℕ) (areas : List (Option AreaStore)) → n + k ≡ q → find nat_cmp q (on_from n areas) ≡ header_of (get_or areas k None)
find-on n k q [] h = refl
find-on n zero q (None ∷ areas) h = find-below (n + 1) q areas (omega (arith, h))
find-on n zero q (Some a ∷ areas) h = let is : (q == n) ≡ true = grind (arith, nat_tests) in
    ap (λ b. cond b (Some a.header) (find nat_cmp q (on_from (n + 1) areas))) (unsigned_tied q n ∙ is)
find-on n (suc k) q (None ∷ areas) h = find-on (n + 1) k q areas (omega (arith, h))
find-on n (suc k) q (Some a ∷ areas) h = let ne : (q == n) ≡ false = grind (arith, nat_tests) in
    ap (λ b. cond b (Some a.header) (find nat_cmp q (on_from (n + 1) areas))) (unsigned_tied q n ∙ ne) ∙ find-on (n + 1) k q areas (omega (arith, h))

-- an area that is turned on is put in its place
put-first : (n q : ℕ) (header : Header) (areas : List (Option AreaStore)) → q < n
    → put nat_cmp q header (on_from n areas) ≡ (q, header) ∷ on_from n areas
put-first n q header [] h = refl
put-first n q header (None ∷ areas) h = put-first (n + 1) q header areas (omega (arith, h))
put-first n q header (Some a ∷ areas) h =
    ap (λ o. by_order o ((q, header) ∷ (n, a.header) ∷ on_from (n + 1) areas) ((n, header) ∷ on_from (n + 1) areas)
    ((n, a.header) ∷ put nat_cmp q header (on_from (n + 1) areas))) (sym (nat_cmp_is q n Less h))

pub on-put : (n k q : ℕ) (areas : List (Option AreaStore)) (b : AreaStore) → n + k ≡ q → k < length areas → get_or areas k None ≡ None
    → on_from n (set areas k (Some b)) ≡ put nat_cmp q b.header (on_from n areas)
on-put n k q [] b e below h = absurd (omega (arith, below))
on-put n zero q (None ∷ areas) b e below h = let is : n ≡ q = omega (arith, e) in
    ap (λ m. (m, b.header) ∷ on_from (n + 1) areas) is ∙ sym (put-first (n + 1) q b.header areas (omega (arith, e)))
on-put n zero q (Some a ∷ areas) b e below h = cc
on-put n (suc k) q (None ∷ areas) b e below h = on-put (n + 1) k q areas b (omega (arith, e)) (omega (arith, below)) h
on-put n (suc k) q (Some a ∷ areas) b e below h =
    ap (λ l. (n, a.header) ∷ l) (on-put (n + 1) k q areas b (omega (arith, e)) (omega (arith, below)) h)
    ∙ ap (λ o. by_order o ((q, b.header) ∷ (n, a.header) ∷ on_from (n + 1) areas) ((n, b.header) ∷ on_from (n + 1) areas)
    ((n, a.header) ∷ put nat_cmp q b.header (on_from (n + 1) areas))) (nat_cmp_is q n Greater (omega (arith, e)))

-- one that is turned off is not there
above : (n q : ℕ) (areas : List (Option AreaStore)) → q < n → where_key nat_cmp (λ x. not (x == q)) (on_from n areas) ≡ on_from n areas
above n q [] h = refl
above n q (None ∷ areas) h = above (n + 1) q areas (omega (arith, h))
above n q (Some a ∷ areas) h = let ne : (n == q) ≡ false = grind (arith, nat_tests) in
    ap (λ b. cond (not b) ((n, a.header) ∷ where_key nat_cmp (λ x. not (x == q)) (on_from (n + 1) areas))
    (where_key nat_cmp (λ x. not (x == q)) (on_from (n + 1) areas))) ne
    ∙ ap (λ l. (n, a.header) ∷ l) (above (n + 1) q areas (omega (arith, h)))

pub on-off : (n k q : ℕ) (areas : List (Option AreaStore)) → n + k ≡ q
    → on_from n (set areas k None) ≡ where_key nat_cmp (λ x. not (x == q)) (on_from n areas)
on-off n k q [] e = refl
on-off n zero q (None ∷ areas) e = sym (above (n + 1) q areas (omega (arith, e)))
on-off n zero q (Some a ∷ areas) e = let is : (n == q) ≡ true = grind (arith, nat_tests) in
    sym (ap (λ b. cond (not b) ((n, a.header) ∷ where_key nat_cmp (λ x. not (x == q)) (on_from (n + 1) areas))
    (where_key nat_cmp (λ x. not (x == q)) (on_from (n + 1) areas))) is ∙ above (n + 1) q areas (omega (arith, e)))
on-off n (suc k) q (None ∷ areas) e = on-off (n + 1) k q areas (omega (arith, e))
on-off n (suc k) q (Some a ∷ areas) e = let ne : (n == q) ≡ false = grind (arith, nat_tests) in
    ap (λ l. (n, a.header) ∷ l) (on-off (n + 1) k q areas (omega (arith, e)))
    ∙ sym (ap (λ b. cond (not b) ((n, a.header) ∷ where_key nat_cmp (λ x. not (x == q)) (on_from (n + 1) areas))
    (where_key nat_cmp (λ x. not (x == q)) (on_from (n + 1) areas))) ne)
