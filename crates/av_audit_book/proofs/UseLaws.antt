-- What is used, by the counts.
use Rattle.std.proofs.Common.{◌≡◌, ℕ, suc, ◌+◌, ◌-◌, ◌≤◌, List, [], ◌∷◌, length, Bool, true, false, cond, not, None, Some, refl, sym, ap, ◌∙◌, arith}
use Rattle.std.proofs.lemmas.Option.{same_Some}
use Rattle.std.specs.Prelude.{slice_get, filter, is_none, nat_lt, option_map, ◌==◌, ◌&&◌, ◌||◌}
use Rattle.std.specs.List.{list_any}
use Rattle.std.proofs.lemmas.Bool.Decides.{nat_tests}
use Rattle.av_base.specs.Words.{how_many}
use Rattle.av_base.specs.declared.slot.Slot.{Slot}
use Rattle.av_plain.specs.Ledger.{Cached, Ledger, cached_by, is_free, map_count, same_slot, slot_count, slot_entries}
use Rattle.av_audit_book.specs.Filters.{IsFirst}
use Rattle.av_audit_pages.proofs.CountLaws.{any-count}

none-cached : {B : Type 0} (g : Cached → B) (p : Cached → Bool) (cs : List Cached) → (how_many p cs == 0) ≡ is_none (option_map g (cached_by p cs))
none-cached g p [] = refl
none-cached g p (c ∷ cs) = by (p c) (none-cached g p cs)
  where
    some : (n : ℕ) → (1 + n == 0) ≡ false
    some n = grind (arith, nat_tests)

    none : (n : ℕ) → 0 + n ≡ n
    none n = omega arith

    by : (b : Bool) → (how_many p cs == 0) ≡ is_none (option_map g (cached_by p cs))
        → (cond b 1 0 + how_many p cs == 0) ≡ is_none (option_map g (cond b (Some c) (cached_by p cs)))
    by true rest = some (how_many p cs)
    by false rest = ap (λ n. n == 0) (none (how_many p cs)) ∙ rest

-- a frame without a use is free
pub free-is : (l : Ledger) (f : ℕ) → (map_count l f + how_many (λ (c : Cached). f == c.frame) l.cache == 0) ≡ is_free l f
free-is l f = both (map_count l f) (how_many (λ (c : Cached). f == c.frame) l.cache)
    ∙ ap (λ b. map_count l f == 0 && b) (none-cached (λ (c : Cached). c.slot) (λ (c : Cached). f == c.frame) l.cache)
  where
    both : (a b : ℕ) → (a + b == 0) ≡ (a == 0 && b == 0)
    both a b = grind (arith, nat_tests)

-- and one with a use isn't
pub used-is : (l : Ledger) (f : ℕ) → is_free l f ≡ not (nat_lt 0 (map_count l f + how_many (λ (c : Cached). f == c.frame) l.cache))
used-is l f = sym (free-is l f) ∙ zero (map_count l f + how_many (λ (c : Cached). f == c.frame) l.cache)
  where
    zero : (n : ℕ) → (n == 0) ≡ not (nat_lt 0 n)
    zero n = grind (arith, nat_tests)

-- a slot with a use has a count
pub count-is : (l : Ledger) (s : Slot)
    → nat_lt 0 (slot_entries l s + how_many (λ (c : Cached). same_slot s c.slot) l.cache) ≡ nat_lt 0 (slot_count l s)
count-is l s = by (slot_entries l s) (how_many (λ (c : Cached). same_slot s c.slot) l.cache) (list_any (λ (c : Cached). same_slot s c.slot) l.cache)
    (any-count (λ (c : Cached). same_slot s c.slot) l.cache)
  where
    by : (n h : ℕ) (b : Bool) → nat_lt 0 h ≡ b → nat_lt 0 (n + h) ≡ nat_lt 0 (n + cond b 1 0)
    by n h true e = grind (arith, nat_tests, e)
    by n h false e = grind (arith, nat_tests, e)

-- ---- how many pass

pub no-more : {X : Type 0} (p : X → Bool) (xs : List X) → length (filter p xs) ≤ length xs
no-more p [] = omega arith
no-more p (x ∷ xs) = by (p x) (no-more p xs)
  where
    by : (b : Bool) → length (filter p xs) ≤ length xs → length (cond b (x ∷ filter p xs) (filter p xs)) ≤ suc (length xs)
    by true h = omega (arith, h)
    by false h = omega (arith, h)

-- the others pass the other test
pub others-pass : {X : Type 0} (p q : X → Bool) → ((x : X) → q x ≡ not (p x)) → (xs : List X)
    → length xs - length (filter p xs) ≡ length (filter q xs)
others-pass p q apart [] = omega arith
others-pass p q apart (x ∷ xs) = by (p x) (q x) (apart x) (others-pass p q apart xs) (no-more p xs)
  where
    by : (b c : Bool) → c ≡ not b → length xs - length (filter p xs) ≡ length (filter q xs) → length (filter p xs) ≤ length xs
        → suc (length xs) - length (cond b (x ∷ filter p xs) (filter p xs)) ≡ length (cond c (x ∷ filter q xs) (filter q xs))
    by true true e h k = cc
    by true false e h k = omega (arith, h, k)
    by false true e h k = omega (arith, h, k)
    by false false e h k = cc

-- one passes where some do
pub one-passes : {X : Type 0} (p : X → Bool) (xs : List X) → nat_lt 0 (length (filter p xs)) ≡ list_any p xs
one-passes p [] = refl
one-passes p (x ∷ xs) = by (p x) (one-passes p xs)
  where
    above : (n : ℕ) → nat_lt 0 (suc n) ≡ true
    above n = grind (arith, nat_tests)

    by : (b : Bool) → nat_lt 0 (length (filter p xs)) ≡ list_any p xs → nat_lt 0 (length (cond b (x ∷ filter p xs) (filter p xs))) ≡ (b || list_any p xs)
    by true h = above (length (filter p xs))
    by false h = h

-- ---- the first of some pages

pub no-first : (pages others : List ℕ) → None ≡ slice_get pages 0 → pages ≡ others → others ≡ []
no-first [] others none same = sym same
no-first (n ∷ ns) others none same = cc

pub first-is : (k n : ℕ) (pages others : List ℕ) → Some n ≡ slice_get pages 0 → pages ≡ others → IsFirst k others (Some (record { area = k; page = n }))
first-is k n [] others some same = cc
first-is k n (m ∷ ms) others some same = (ms, refl, sym same ∙ ap (λ p. p ∷ ms) (sym (same_Some n m some)))
