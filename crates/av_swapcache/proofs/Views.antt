-- What the layer above needs to see the areas that are on by numbers of its own, and to see that
-- the area which gives is the first that can and than which none has a greater priority.
use Rattle.std.proofs.Common.{◌≡◌, ℕ, zero, suc, ◌+◌, ◌<◌, ◌≤◌, Bool, true, false, cond, not, ◌&&◌, ltb, List, [], ◌∷◌, map, get_or, Option, Some, None, option_map, refl, sym, ap, subst, ◌==◌, ◌∙◌, arith}
use Rattle.std.proofs.lemmas.Bool.{false≢true}
use Rattle.std.specs.FinMap.Entries.{by_order, find-put, find-where_key, put, where_key}
use Rattle.std.specs.FinMap.{nat_cmp-IsAntisymmetric}
use Rattle.std.proofs.lemmas.Cmp.{nat_cmp_total}
use Rattle.std.specs.Cmp.{unsigned_tied}
use Rattle.std.specs.Ordering.{eq_by_cmp}
use Rattle.std.proofs.lemmas.Bool.Decides.{nat_tests}
use Rattle.std.specs.Prelude.{IfSome, IsSomeAnd}
use Rattle.std.specs.FinMap.Entries as entries
use Rattle.std.specs.List.{find, list_all}
use Rattle.std.specs.Ordering.{nat_cmp}
use Rattle.std.specs.declared.cmp.Ordering.TheVariants.{Less, Equal, Greater}
use Rattle.std.specs.Prelude.{ℤ, ◌<ℤ◌, int_le, ◌||◌}
use Rattle.std.proofs.lemmas.Int.{ints}
use Rattle.av_swapdev.specs.declared.header.Header.{Header}
use Rattle.av_swapcache.specs.Area.{AreaStore, area_shown, free_in}
use Rattle.av_swapcache.specs.Swap.{GivesFirst, HasAreas, Shown, Store, after_off, after_on, can_give, is_closing, on_from, shown, slots_in}

-- ---- the list of areas by other values

module _ {A B : Type 0} (f : ℕ → A → B) where
  abbrev by_value : ℕ × A → ℕ × B
  by_value a = (a.0, f a.0 a.1)

  pub put-map : (k : ℕ) (x : A) (es : List (ℕ × A)) → map by_value (put nat_cmp k x es) ≡ put nat_cmp k (f k x) (map by_value es)
  put-map k x [] = refl
  put-map k x (e ∷ es) =
      elim (nat_cmp k e.0) as (λ o. nat_cmp k e.0 ≡ o → map by_value (by_order o ((k, x) ∷ e ∷ es) ((e.0, x) ∷ es) (e ∷ put nat_cmp k x es))
      ≡ by_order o ((k, f k x) ∷ by_value e ∷ map by_value es) ((e.0, f k x) ∷ map by_value es)
      (by_value e ∷ put nat_cmp k (f k x) (map by_value es))) [
        | Less ↦ λ is. refl
        | Equal ↦ λ is. ap (λ n. (e.0, f n x) ∷ map by_value es) (sym (nat_cmp-IsAntisymmetric k e.0 is))
        | Greater ↦ λ is. ap (λ l. by_value e ∷ l) (put-map k x es)
      ] refl

  pub where_key-map : (test : ℕ → Bool) (es : List (ℕ × A)) → map by_value (where_key nat_cmp test es) ≡ where_key nat_cmp test (map by_value es)
  where_key-map test [] = refl
  where_key-map test (e ∷ es) = elim (test e.0) as (λ b. map by_value (cond b (e ∷ where_key nat_cmp test es) (where_key nat_cmp test es))
      ≡ cond b (by_value e ∷ where_key nat_cmp test (map by_value es)) (where_key nat_cmp test (map by_value es))) [
        | true ↦ ap (λ l. by_value e ∷ l) (where_key-map test es)
        | false ↦ where_key-map test es
      ]

-- ---- the first area that can give

-- the number of the first that passes
abbrev pub first_on : (ℕ → Bool) → List (ℕ × Header) → Option ℕ
first_on test on = option_map (λ (a : ℕ × Header). a.0) (find (λ (a : ℕ × Header). test a.0) on)

found_on : (test : ℕ → Bool) (n k : ℕ) (areas : List (Option AreaStore)) → ((i : ℕ) → get_or areas i None ≡ None → test (n + i) ≡ false)
    → ((i : ℕ) → i < k → test (n + i) ≡ false) → test (n + k) ≡ true → first_on test (on_from n areas) ≡ Some (n + k)
found_on test n k [] off none is = absurd (false≢true (sym (off k refl) ∙ is))
found_on test n zero (None ∷ areas) off none is = absurd (false≢true (sym (off zero refl) ∙ is))
found_on test n zero (Some a ∷ areas) off none is =
    ap (λ b. option_map (λ (a : ℕ × Header). a.0) (cond b (Some (n, a.header)) (find (λ (a : ℕ × Header). test a.0) (on_from (n + 1) areas))))
    (ap test (sym at_first) ∙ is) ∙ ap Some (sym at_first)
  where
    at_first : n + 0 ≡ n
    at_first = omega arith
found_on test n (suc k) (None ∷ areas) off none is = found_on test (n + 1) k areas (λ i e. ap test (next i) ∙ off (suc i) e)
    (λ i less. ap test (next i) ∙ none (suc i) (omega (arith, less))) (ap test (next k) ∙ is) ∙ ap Some (next k)
  where
    next : (i : ℕ) → (n + 1) + i ≡ n + suc i
    next i = omega arith
found_on test n (suc k) (Some a ∷ areas) off none is =
    ap (λ b. option_map (λ (a : ℕ × Header). a.0) (cond b (Some (n, a.header)) (find (λ (a : ℕ × Header). test a.0) (on_from (n + 1) areas))))
    (ap test (sym at_first) ∙ none zero (omega arith))
    ∙ found_on test (n + 1) k areas (λ i e. ap test (next i) ∙ off (suc i) e)
    (λ i less. ap test (next i) ∙ none (suc i) (omega (arith, less))) (ap test (next k) ∙ is) ∙ ap Some (next k)
  where
    at_first : n + 0 ≡ n
    at_first = omega arith

    next : (i : ℕ) → (n + 1) + i ≡ n + suc i
    next i = omega arith

-- whether an area can give, and none of those that are on and can has a greater priority
abbrev pub goes_first : (ℕ → Bool) → (ℕ → ℤ) → List (ℕ × Header) → ℕ → Bool
goes_first can priority on k = can k && list_all (λ (a : ℕ × Header). not (can a.0) || int_le (priority a.0) (priority k)) on

-- what holds of all areas that are on holds of each
on_each : (test : ℕ → Bool) (n i : ℕ) (areas : List (Option AreaStore)) (a : AreaStore) → get_or areas i None ≡ Some a
    → list_all (λ (a : ℕ × Header). test a.0) (on_from n areas) ≡ true → test (n + i) ≡ true
on_each test n i [] a there all = cc
on_each test n zero (None ∷ areas) a there all = cc
on_each test n zero (Some x ∷ areas) a there all = ap test first ∙ both (test n) _ all
  where
    first : n + 0 ≡ n
    first = omega arith

    both : (b c : Bool) → (b && c) ≡ true → b ≡ true
    both true c e = refl
    both false c e = e
on_each test n (suc i) (x ∷ areas) a there all = ap test next ∙ on_each test (n + 1) i areas a there (rest x all)
  where
    next : n + suc i ≡ (n + 1) + i
    next = omega arith

    second : (b c : Bool) → (b && c) ≡ true → c ≡ true
    second true c e = e
    second false c e = absurd (false≢true e)

    rest : (x : Option AreaStore) → list_all (λ (a : ℕ × Header). test a.0) (on_from n (x ∷ areas)) ≡ true
        → list_all (λ (a : ℕ × Header). test a.0) (on_from (n + 1) areas) ≡ true
    rest None all = all
    rest (Some x) all = second (test n) _ all

all_pass : (test : ℕ → Bool) → ((k : ℕ) → test k ≡ true) → (on : List (ℕ × Header)) → list_all (λ (a : ℕ × Header). test a.0) on ≡ true
all_pass test each [] = refl
all_pass test each (a ∷ on) = ap (λ b. b && list_all (λ (a : ℕ × Header). test a.0) on) (each a.0) ∙ all_pass test each on

module _ (s : Store) where
  abbrev can : ℕ → Bool
  can = can_give (shown s)

  abbrev priority : ℕ → ℤ
  priority = (shown s).priority

  -- the area of the first number goes before that of the second, if it can give
  abbrev before : ℕ → ℕ → Bool
  before i j = not (can j) || int_le (priority j) (priority i)

  abbrev gives_before : ℕ → Bool
  gives_before = goes_first can priority (shown s).on

  off : (i : ℕ) → get_or s.areas i None ≡ None → can i ≡ false
  off i e = ap (λ (o : Option AreaStore). ltb 0 (free_in (slots_in (option_map area_shown o))) && not (is_closing (shown s) i)) e

  stays : (i : ℕ) → can i ≡ false → gives_before i ≡ false
  stays i e = ap (λ b. b && list_all (λ (a : ℕ × Header). before i a.0) (shown s).on) e

  module _ (n k : ℕ) (g : GivesFirst (shown s) n k) where
    none_greater : (j : ℕ) (b : Bool) → can j ≡ b → (not b || int_le (priority j) (priority k)) ≡ true
    none_greater j true e = let p = g.greatest j e in grind (arith, ints, p)
    none_greater j false e = refl

    is : gives_before k ≡ true
    is = ap (λ b. b && list_all (λ (a : ℕ × Header). before k a.0) (shown s).on) g.gives
        ∙ all_pass (before k) (λ j. none_greater j (can j) refl) (shown s).on

    there : (o : Option AreaStore) → get_or s.areas k None ≡ o → (a : AreaStore) × (get_or s.areas k None ≡ Some a)
    there None e = absurd (false≢true (sym (off k e) ∙ g.gives))
    there (Some a) e = (a, e)

    greater_than : (i : ℕ) (b : Bool) → b ≡ true → (not b || int_le (priority k) (priority i)) ≡ true → priority i <ℤ priority k → ⊥
    greater_than i true e p q = grind (arith, ints, p, q)
    greater_than i false e p q = false≢true e

    zero_plus : (m : ℕ) → 0 + m ≡ m
    zero_plus m = omega arith

    none : (i : ℕ) → i < k → (b : Bool) → can i ≡ b → (c : Bool) → gives_before i ≡ c → gives_before i ≡ false
    none i less false e c is = stays i e
    none i less true e false is = is
    none i less true e true is =
        let a = there (get_or s.areas k None) refl in
        let each = on_each (before i) 0 k s.areas a.0 a.1 (sym (ap (λ b. b && list_all (λ (a : ℕ × Header). before i a.0) (shown s).on) e) ∙ is) in
        absurd (greater_than i (can k) g.gives (ap (before i) (sym (zero_plus k)) ∙ each) (g.least i less e))

    -- the area that gives first is the first that can and than which none that can has a greater priority
    pub gives_first-is : first_on gives_before (shown s).on ≡ Some k
    gives_first-is = found_on gives_before 0 k s.areas (λ i e. ap gives_before (zero_plus i) ∙ stays i (off i e))
        (λ i less. ap gives_before (zero_plus i) ∙ none i less (can i) refl (gives_before i) refl) (ap gives_before (zero_plus k) ∙ is)
        ∙ ap Some (zero_plus k)

-- ---- the device has the areas

pub areas_on : (sizes : ℕ → Option ℕ) (h : Shown) (k n : ℕ) (header : Header) (priority : ℤ) (bad_list : List ℕ) → HasAreas sizes h
    → sizes k ≡ Some n →
    header.pages ≤ n → HasAreas sizes (after_on k header priority bad_list h)
areas_on sizes h k n header priority bad_list has there fits j =
    subst (λ o. IfSome o (λ (a : Header). IsSomeAnd (sizes j) (λ m. a.pages ≤ m))) (sym (find-put nat_cmp nat_cmp_total j k header h.on))
    (by (eq_by_cmp nat_cmp j k) (sym (unsigned_tied j k)))
  where
    by : (b : Bool) → (j == k) ≡ b
        → IfSome (cond b (Some header) (entries.find nat_cmp j h.on)) (λ (a : Header). IsSomeAnd (sizes j) (λ m. a.pages ≤ m))
    by true e = let is : j ≡ k = grind (arith, nat_tests) in
        subst (λ o. IsSomeAnd o (λ m. header.pages ≤ m)) (sym (ap sizes is ∙ there)) fits
    by false e = has j

pub areas_off : (sizes : ℕ → Option ℕ) (h : Shown) (k : ℕ) → HasAreas sizes h → HasAreas sizes (after_off k h)
areas_off sizes h k has j =
    subst (λ o. IfSome o (λ (a : Header). IsSomeAnd (sizes j) (λ m. a.pages ≤ m)))
    (sym (find-where_key nat_cmp (λ q. not (q == k)) j (λ x e. ap (λ m. not (m == k)) (sym (tied x e))) h.on)) (by (not (j == k)))
  where
    tied : (x : ℕ) → nat_cmp j x ≡ Equal → j ≡ x
    tied x e = nat_cmp-IsAntisymmetric j x e

    by : (b : Bool) → IfSome (cond b (entries.find nat_cmp j h.on) None) (λ (a : Header). IsSomeAnd (sizes j) (λ m. a.pages ≤ m))
    by true = has j
    by false = tt
