-- How many writes are in flight, and how many slots the areas that are on have.
use Rattle.std.specs.List.{AllByRecursion, range_with_len}
use Rattle.std.specs.FinMap.Entries.{below_all, is_sorted}
use Rattle.std.specs.Ordering.{is_lt, nat_cmp}
use Rattle.std.specs.Prelude.{sum_by}
use Rattle.std.proofs.Common.{◌≡◌, ℕ, zero, suc, ◌+◌, ◌-◌, ◌*◌, ◌≤◌, Bool, true, false, cond, not, ◌==◌, T, List, [], ◌∷◌, length, map, filter, refl, ap, arith}
use Rattle.std.proofs.lemmas.Bool.Decides.{nat_tests}
use Rattle.std.proofs.lemmas.List.{length-map}
use Rattle.std.proofs.lemmas.List.Sums.{sum_by-cons}
use Rattle.av_base.specs.Words.{how_many}
use Rattle.av_base.specs.declared.slot.Slot.{Slot}
use Rattle.av_swapdev.specs.Device.{most_pages}
use Rattle.av_plain.specs.Ledger.{Cached, Ledger, Setting, SwapArea, free_slots, same_slot}
use Rattle.av_plain.specs.Sound.{IsSound}
use Rattle.av_plain.proofs.Ledger.Order.{both_first, both_second}
use Rattle.av_plain.proofs.Report.Totals.{sum_of, sum-length}
use Rattle.av_plain.proofs.Sound.Counts.{slot-itself, slots-off_cache}
use Rattle.av_plain.proofs.Sound.Entries.{flag}
use Rattle.av_laws.proofs.ReadBack.Wide.{all-by}

-- ---- flight

length-without : (t : Slot) (cs : List Cached)
    → length (filter (λ (c : Cached). not (same_slot t c.slot)) cs) + how_many (λ (c : Cached). same_slot t c.slot) cs ≡ length cs
length-without t [] = refl
length-without t (c ∷ cs) = by (same_slot t c.slot) (length-without t cs)
  where
    by : (b : Bool) → length (filter (λ (c : Cached). not (same_slot t c.slot)) cs) + how_many (λ (c : Cached). same_slot t c.slot) cs ≡ length cs
        → length (cond (not b) (c ∷ filter (λ (c : Cached). not (same_slot t c.slot)) cs) (filter (λ (c : Cached). not (same_slot t c.slot)) cs))
        + (cond b 1 0 + how_many (λ (c : Cached). same_slot t c.slot) cs) ≡ suc (length cs)
    by true rest = omega (arith, rest)
    by false rest = omega (arith, rest)

-- slots that each stand once in the cache, and no more often here, are no more than are cached
no-more : (ts : List Slot) (cs : List Cached) → ((r : Slot) → how_many (same_slot r) ts ≤ how_many (λ (c : Cached). same_slot r c.slot) cs)
    → ((r : Slot) → how_many (λ (c : Cached). same_slot r c.slot) cs ≤ 1) → length ts ≤ length cs
no-more [] cs fewer once = omega arith
no-more (t ∷ ts) cs fewer once =
    let left = filter (λ (c : Cached). not (same_slot t c.slot)) cs in
    let rest = no-more ts left (λ r. by r (same_slot r t) _ _ (slots-off_cache t r cs) (fewer r) (once r))
    (λ r. few (same_slot r t) _ _ (slots-off_cache t r cs) (once r)) in
    let whole = length-without t cs in
    let here = fewer t in
    let first = flag _ _ (slot-itself t) in
    omega (arith, rest, whole, here, first)
  where
    by : (r : Slot) (b : Bool) (n k : ℕ) → k ≡ cond b 0 n → cond b 1 0 + how_many (same_slot r) ts ≤ n → n ≤ 1 → how_many (same_slot r) ts ≤ k
    by r true n k is less most = omega (arith, is, less, most)
    by r false n k is less most = omega (arith, is, less)

    few : (b : Bool) (n k : ℕ) → k ≡ cond b 0 n → n ≤ 1 → k ≤ 1
    few true n k is most = omega (arith, is)
    few false n k is most = omega (arith, is, most)

count-mapped : (f : ℕ) (cs : List Cached) → how_many (λ g. f == g) (map (λ (c : Cached). c.frame) cs) ≡ how_many (λ (c : Cached). f == c.frame) cs
count-mapped f [] = refl
count-mapped f (c ∷ cs) = ap (λ n. cond (f == c.frame) 1 0 + n) (count-mapped f cs)

sum-few : (g : ℕ → ℕ) → ((f : ℕ) → g f ≤ 1) → (a n : ℕ) → sum_of g (range_with_len a n) ≤ n
sum-few g once a zero = omega arith
sum-few g once a (suc n) = let rest = sum-few g once (a + 1) n in let first = once a in omega (arith, rest, first)

-- no more writes are in flight than there are frames
pub flight-few : (m : Setting) (l : Ledger) → IsSound m l → length l.flight ≤ m.frames
flight-few m l s =
    let frames = map (λ (c : Cached). c.frame) l.cache in
    let cached = no-more l.flight l.cache s.flying s.slots_once in
    let same = length-map l.cache (λ (c : Cached). c.frame) in
    let each = sum-length m.frames frames (λ f some. s.in_range f (let e = count-mapped f l.cache in omega (arith, some, e))) in
    let few = sum-few (λ f. how_many (λ g. f == g) frames) (λ f. let e = count-mapped f l.cache in let once = s.frames_once f in
    omega (arith, e, once)) 0 m.frames in
    omega (arith, cached, same, each, few)

-- ---- slots

abbrev slots_on : List (ℕ × SwapArea) → ℕ
slots_on on = sum_by (λ (a : ℕ × SwapArea). a.1.slots) on

-- no more are free than there are
pub free-few : (m : Setting) (l : Ledger) (on : List (ℕ × SwapArea)) → sum_by (free_slots m l) on ≤ slots_on on
free-few m l [] = omega arith
free-few m l (a ∷ on) = both (free_slots m l a) a.1.slots _ _ _ _ (omega arith) (free-few m l on) (sum_by-cons (free_slots m l) a on)
    (sum_by-cons (λ (a : ℕ × SwapArea). a.1.slots) a on)
  where
    both : (x y n k s t : ℕ) → x ≤ y → n ≤ k → s ≡ x + n → t ≡ y + k → s ≤ t
    both x y n k s t first rest e f = omega (arith, first, rest, e, f)

-- an area that has one of the eight numbers, and at most as many slots as an area may have pages
abbrev pub IsFewOn : ℕ × SwapArea → Type 0
IsFewOn a = (a.0 ≤ 7) × (a.1.slots ≤ most_pages)

-- so areas that rise by number have few slots in all
slots-from : (least : ℕ) (on : List (ℕ × SwapArea)) → T (is_sorted nat_cmp on)
    → AllByRecursion (λ (a : ℕ × SwapArea). (least ≤ a.0) × IsFewOn a) on → slots_on on ≤ (8 - least) * most_pages
slots-from least [] rising all = omega arith
slots-from least (a ∷ on) rising all = add a.0 least a.1.slots _ _ all.0.0 all.0.1.0 all.0.1.1
    (sum_by-cons (λ (a : ℕ × SwapArea). a.1.slots) a on)
    (slots-from (a.0 + 1) on (both_second _ _ rising) (above on (both_first _ _ rising) all.1))
  where
    add : (k least slots all rest : ℕ) → least ≤ k → k ≤ 7 → slots ≤ most_pages → all ≡ slots + rest → rest ≤ (8 - (k + 1)) * most_pages
        → all ≤ (8 - least) * most_pages
    add k least slots all rest low high few is h = omega (arith, low, high, few, is, h)

    less : (b : ℕ) (is : Bool) → is_lt (nat_cmp a.0 b) ≡ is → T is → a.0 + 1 ≤ b
    less b true is h = grind (arith, nat_tests, is)
    less b false is h = absurd h

    above : (on : List (ℕ × SwapArea)) → T (below_all nat_cmp a.0 on) → AllByRecursion (λ (b : ℕ × SwapArea). (least ≤ b.0) × IsFewOn b) on
        → AllByRecursion (λ (b : ℕ × SwapArea). (a.0 + 1 ≤ b.0) × IsFewOn b) on
    above [] rises all = tt
    above (b ∷ on) rises all = ((less b.0 (is_lt (nat_cmp a.0 b.0)) refl (both_first _ _ rises), all.0.1), above on (both_second _ _ rises) all.1)

pub slots-few : (on : List (ℕ × SwapArea)) → T (is_sorted nat_cmp on) → AllByRecursion IsFewOn on → slots_on on ≤ 8 * most_pages
slots-few on rising all = slots-from 0 on rising (all-by IsFewOn (λ (a : ℕ × SwapArea). (0 ≤ a.0) × IsFewOn a) (λ a few. (omega arith, few)) on all)
