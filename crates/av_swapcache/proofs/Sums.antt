-- Sums over the areas that are on.
use Rattle.std.proofs.Common.{◌≡◌, ℕ, suc, ◌+◌, ◌*◌, ◌^◌, ◌<◌, ◌≤◌, List, [], ◌∷◌, ◌++◌, length, get_or, take, Option, Some, None, option_map, refl, sym, ap, ◌∙◌, arith, take_all}
use Rattle.std.proofs.lemmas.List.{take_more}
use Rattle.std.proofs.lemmas.List.Sums.{sum_by-cons}
use Rattle.std.specs.Prelude.{sum_by}
use Rattle.av_frames.proofs.Free.{any_default}
use Rattle.av_swapdev.specs.declared.header.Header.{Header}
use Rattle.av_swapcache.specs.Area.{AreaShown, AreaStore, area_shown, free_in}
use Rattle.av_swapcache.specs.Swap.{Store, all_free, all_slots, area_at, number_on, on_from, shown, slots_in, sum_on}

sum_on-append : (f : AreaShown → ℕ) (xs : List (Option AreaStore)) (y : Option AreaStore) → sum_on f (xs ++ y ∷ []) ≡ sum_on f xs + number_on f y
sum_on-append f [] y = omega arith
sum_on-append f (x ∷ xs) y = let rest = sum_on-append f xs y in omega (arith, rest)

-- one more area is counted
pub record Counts (f : AreaShown → ℕ) (n i : ℕ) (areas : List (Option AreaStore)) : Type 0 where
  pub sum : n ≡ sum_on f (take i areas)
  pub fits : n ≤ 2 ^ 32 * i

pub counts_more : (f : AreaShown → ℕ) (n i m : ℕ) (areas : List (Option AreaStore)) (item : Option AreaStore) → n ≡ sum_on f (take i areas)
    → n ≤ 2 ^ 32 * i →
    item ≡ get_or areas i item → i < length areas → m ≡ number_on f item → m < 2 ^ 32 → Counts f (n + m) (i + 1) areas
counts_more f n i m areas item sum fits is below more small = record {
  sum = together _ sum (more ∙ ap (number_on f) (is ∙ any_default areas i item None below))
      ∙ sym (sum_on-append f (take i areas) (get_or areas i None))
      ∙ sym (ap (sum_on f) (take_more areas i None below));
  fits = omega (arith, fits, small);
}
  where
    together : (x : ℕ) {a b : ℕ} → a ≡ x → b ≡ number_on f (get_or areas i None) → a + b ≡ x + number_on f (get_or areas i None)
    together x e h = λ k. e k + h k

pub all_counted : (f : AreaShown → ℕ) (n i : ℕ) (areas : List (Option AreaStore)) → n ≡ sum_on f (take i areas) → length areas ≤ i
    → n ≡ sum_on f areas
all_counted f n i areas sum all = sum ∙ ap (sum_on f) (take_all i areas all)

-- the sums over the list of those that are on
slots-on : (n : ℕ) (areas : List (Option AreaStore))
    → sum_by (λ (a : ℕ × Header). a.1.slots) (on_from n areas) ≡ sum_on (λ (a : AreaShown). a.header.slots) areas
slots-on n [] = refl
slots-on n (None ∷ areas) = slots-on (n + 1) areas ∙ sym (zero_plus _)
  where
    zero_plus : (m : ℕ) → 0 + m ≡ m
    zero_plus m = omega arith
slots-on n (Some a ∷ areas) = sum_by-cons (λ (b : ℕ × Header). b.1.slots) (n, a.header) (on_from (n + 1) areas)
    ∙ ap (λ m. a.header.slots + m) (slots-on (n + 1) areas)

free-on : (free : ℕ → ℕ) (n : ℕ) (areas : List (Option AreaStore))
    → ((i : ℕ) → free (n + i) ≡ number_on (λ (a : AreaShown). free_in a.slots) (get_or areas i None))
    → sum_by (λ (a : ℕ × Header). free a.0) (on_from n areas) ≡ sum_on (λ (a : AreaShown). free_in a.slots) areas
free-on free n [] h = refl
free-on free n (None ∷ areas) h = free-on free (n + 1) areas (λ i. ap free (later i) ∙ h (suc i)) ∙ sym (zero_plus _)
  where
    later : (i : ℕ) → (n + 1) + i ≡ n + suc i
    later i = omega arith

    zero_plus : (m : ℕ) → 0 + m ≡ m
    zero_plus m = omega arith
free-on free n (Some a ∷ areas) h = sum_by-cons (λ (b : ℕ × Header). free b.0) (n, a.header) (on_from (n + 1) areas)
    ∙ (λ k. (ap free (sym first) ∙ h 0) k + free-on free (n + 1) areas (λ i. ap free (later i) ∙ h (suc i)) k)
  where
    later : (i : ℕ) → (n + 1) + i ≡ n + suc i
    later i = omega arith

    first : n + 0 ≡ n
    first = omega arith

pub all_free-is : (s v : Store) → s ≡ v → sum_on (λ (a : AreaShown). free_in a.slots) s.areas ≡ all_free (shown v)
all_free-is s v same = sym (free-on (λ k. free_in (slots_in (area_at s.areas k))) 0 s.areas each) ∙ ap (λ (w : Store). all_free (shown w)) same
  where
    of : (o : Option AreaStore) → free_in (slots_in (option_map area_shown o)) ≡ number_on (λ (a : AreaShown). free_in a.slots) o
    of None = refl
    of (Some a) = refl

    zero_plus : (m : ℕ) → 0 + m ≡ m
    zero_plus m = omega arith

    each : (i : ℕ) → free_in (slots_in (area_at s.areas (0 + i))) ≡ number_on (λ (a : AreaShown). free_in a.slots) (get_or s.areas i None)
    each i = ap (λ m. free_in (slots_in (area_at s.areas m))) (zero_plus i) ∙ of (get_or s.areas i None)

pub all_slots-is : (s v : Store) → s ≡ v → sum_on (λ (a : AreaShown). a.header.slots) s.areas ≡ all_slots (shown v)
all_slots-is s v same = sym (slots-on 0 s.areas) ∙ ap (λ (w : Store). all_slots (shown w)) same
