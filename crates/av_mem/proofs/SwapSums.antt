-- The sums over the swap areas that are on: they are those of the ledger.
use Rattle.std.proofs.Common.{◌≡◌, ℕ, ◌+◌, Bool, true, false, cond, T, List, [], ◌∷◌, map, Some, None, refl, sym, ap, subst, ◌∙◌, arith}
use Rattle.std.proofs.lemmas.Bool.Decides.{nat_tests}
use Rattle.std.proofs.lemmas.List.Sums.{sum_by-cons}
use Rattle.std.specs.Cmp.{nat_cmp_total}
use Rattle.std.specs.FinMap.Entries.{below_all, find, is_sorted}
use Rattle.std.specs.List.{AllByRecursion, sum_by}
use Rattle.std.specs.Option.{option_map_or}
use Rattle.std.specs.Ordering.{is_eq, nat_cmp}
use Rattle.std.specs.Prelude.{ℤ}
use Rattle.av_swapcache.specs.Swap.{all_free, all_slots, free_of as free_slots_of, shown as shown_swap}
use Rattle.av_swapdev.specs.declared.header.Header.{Header}
use Rattle.av_plain.specs.Choice.{ListsAll}
use Rattle.av_plain.specs.Ledger.{Ledger, Setting, SwapArea, free_slots}
use Rattle.av_plain.specs.Sound.{AreasFit}
use Rattle.av_plain.specs.Stands.{SwapStands, free_of}
use Rattle.av_plain.proofs.Ledger.Order.{both_first, both_second, find_below}
use Rattle.av_mem.specs.declared.mem.Mem.{Mem}
use Rattle.av_mem.specs.Mem.{area_of, view}

-- ---- lists of areas

module _ (priority : ℕ → ℤ) where
  slots-summed : (on : List (ℕ × Header)) → sum_by (λ (a : ℕ × Header). a.1.slots) on
      ≡ sum_by (λ (a : ℕ × SwapArea). a.1.slots) (map (area_of priority) on)
  slots-summed [] = refl
  slots-summed (a ∷ on) = sum_by-cons (λ (b : ℕ × Header). b.1.slots) a on ∙ ap (λ n. a.1.slots + n) (slots-summed on)
      ∙ sym (sum_by-cons (λ (b : ℕ × SwapArea). b.1.slots) (area_of priority a) (map (area_of priority) on))

  -- a number of each area, by its number alone
  summed-as : (free : ℕ → ℕ) (count : ℕ × SwapArea → ℕ) (on : List (ℕ × Header))
      → AllByRecursion (λ a. free a.0 ≡ count a) (map (area_of priority) on)
      → sum_by (λ (a : ℕ × Header). free a.0) on ≡ sum_by count (map (area_of priority) on)
  summed-as free count [] h = refl
  summed-as free count (a ∷ on) h = sum_by-cons (λ (b : ℕ × Header). free b.0) a on ∙ (λ i. h.0 i + summed-as free count on h.1 i)
      ∙ sym (sum_by-cons count (area_of priority a) (map (area_of priority) on))

-- where areas rise, each is found by its number
all-found : (free : ℕ → ℕ) (count : ℕ × SwapArea → ℕ) (on : List (ℕ × SwapArea)) → T (is_sorted nat_cmp on)
    → ((k : ℕ) (area : SwapArea) → find nat_cmp k on ≡ Some area → free k ≡ count (k, area)) → AllByRecursion (λ a. free a.0 ≡ count a) on
all-found free count [] rising h = tt
all-found free count (a ∷ on) rising h = (
  h a.0 a.1 (ap (λ b. cond b (Some a.1) (find nat_cmp a.0 on)) (itself a.0)),
  all-found free count on (both_second (below_all nat_cmp a.0 on) (is_sorted nat_cmp on) rising)
      (λ k area is. h k area (passed k area (is_eq (nat_cmp k a.0)) refl is)),
)
  where
    itself : (n : ℕ) → is_eq (nat_cmp n n) ≡ true
    itself n = grind (arith, nat_tests)

    same : (n k : ℕ) → is_eq (nat_cmp n k) ≡ true → n ≡ k
    same n k e = grind (arith, nat_tests, e)

    clash : {x : SwapArea} → None ≡ Some x → ⊥
    clash e = cc

    passed : (k : ℕ) (area : SwapArea) (b : Bool) → is_eq (nat_cmp k a.0) ≡ b → find nat_cmp k on ≡ Some area →
        cond b (Some a.1) (find nat_cmp k on) ≡ Some area
    passed k area true e is = absurd (clash (sym (ap (λ n. find nat_cmp n on) (same k a.0 e)
        ∙ find_below nat_cmp_total (λ _. true) a.0 on (both_first (below_all nat_cmp a.0 on) (is_sorted nat_cmp on) rising)) ∙ is))
    passed k area false e is = is

-- ---- the memory system's

pub all-slots : (k : Mem) (l : Ledger) → SwapStands (view k) l → all_slots (shown_swap k.swap) ≡ sum_by (λ (a : ℕ × SwapArea). a.1.slots) l.on
all-slots k l h = slots-summed (shown_swap k.swap).priority (shown_swap k.swap).on ∙ ap (sum_by (λ (a : ℕ × SwapArea). a.1.slots)) h.on

-- as many slots of each area are free as its ledger has free
pub each-free : (m : Setting) (k : Mem) (l : Ledger) → AreasFit m l → ListsAll m l (free_of (view k))
    → AllByRecursion (λ a. free_slots_of (shown_swap k.swap) a.0 ≡ free_slots m l a) l.on
each-free m k l fits lists = all-found (free_slots_of (shown_swap k.swap)) (free_slots m l) l.on fits.rising
    (λ j area is. lists.slots.number j ∙ ap (λ o. option_map_or (λ area. free_slots m l (j, area)) o 0) is)

pub all-free : (m : Setting) (k : Mem) (l : Ledger) → SwapStands (view k) l → AreasFit m l → ListsAll m l (free_of (view k))
    → all_free (shown_swap k.swap) ≡ sum_by (free_slots m l) l.on
all-free m k l h fits lists =
    summed-as (shown_swap k.swap).priority (free_slots_of (shown_swap k.swap)) (free_slots m l) (shown_swap k.swap).on
    (subst (AllByRecursion (λ a. free_slots_of (shown_swap k.swap) a.0 ≡ free_slots m l a)) (sym h.on) (each-free m k l fits lists))
    ∙ ap (sum_by (free_slots m l)) h.on
