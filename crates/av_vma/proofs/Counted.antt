-- How many areas have a flag, when one changes.
use Rattle.std.proofs.Common.{◌≡◌, ◌≢◌, ℕ, zero, suc, ◌+◌, ◌<◌, ◌≤◌, Bool, true, false, cond, List, [], ◌∷◌, Option, Some, None, is_some, count_by, MatchBool, refl, ap, arith, nat_lt, length, set}
use Rattle.std.proofs.lemmas.Bool.Decides.{nat_tests}
use Rattle.std.proofs.lemmas.List.{get_or_past, get_or-set_other, get_or-set_same}
use Rattle.std.proofs.lemmas.List.Sums.{sum_by-cons}
use Rattle.av_base.specs.Words.{how_many}
use Rattle.av_vma.specs.Areas.{area_of, has_flag}
use Rattle.av_vma.specs.declared.area.Area.{Area}

-- by a flag of an area
module _ (flag : Area → Bool) where
  -- 1 for an area with the flag
  abbrev pub one : Option Area → ℕ
  one a = cond (has_flag flag a) 1 0

  -- no more have it than there are
  pub within : (areas : List (Option Area)) → how_many (has_flag flag) areas ≤ count_by is_some areas
  within [] = omega arith
  within (None ∷ areas) = omega (arith, within areas, sum_by-cons (λ o. cond (is_some o) 1 0) None areas)
  within (Some area ∷ areas) = omega (arith, within areas, sum_by-cons (λ o. cond (is_some o) 1 0) (Some area) areas, at_most (flag area))
    where
      at_most : (b : Bool) → cond b 1 0 ≤ 1
      at_most true = omega arith
      at_most false = omega arith

  -- where each number has the same area, so many have it
  pub same-count : (old new : List (Option Area)) → ((k : ℕ) → area_of new k ≡ area_of old k) → how_many (has_flag flag) new ≡ how_many (has_flag flag) old
  same-count [] [] same = refl
  same-count [] (a ∷ new) same = let rest = same-count [] new (λ k. same (suc k)) in omega (arith, ap one (same 0), rest)
  same-count (b ∷ old) [] same = let rest = same-count old [] (λ k. same (suc k)) in omega (arith, ap one (same 0), rest)
  same-count (b ∷ old) (a ∷ new) same = let rest = same-count old new (λ k. same (suc k)) in omega (arith, ap one (same 0), rest)

  -- where each other number has the same area, only this one counts
  pub changed-count : (old new : List (Option Area)) (key : ℕ) → ((k : ℕ) → k ≢ key → area_of new k ≡ area_of old k)
      → how_many (has_flag flag) new + one (area_of old key) ≡ how_many (has_flag flag) old + one (area_of new key)
  changed-count [] [] key same = refl
  changed-count [] (a ∷ new) zero same = let rest = same-count [] new (λ k. same (suc k) (λ e. omega (arith, e))) in omega (arith, rest)
  changed-count [] (a ∷ new) (suc key) same =
      let rest = changed-count [] new key (λ k apart. same (suc k) (λ e. apart (omega (arith, e)))) in omega (arith, ap one (same 0 (λ e. omega (arith, e))), rest)
  changed-count (b ∷ old) [] zero same = let rest = same-count old [] (λ k. same (suc k) (λ e. omega (arith, e))) in omega (arith, rest)
  changed-count (b ∷ old) [] (suc key) same =
      let rest = changed-count old [] key (λ k apart. same (suc k) (λ e. apart (omega (arith, e)))) in omega (arith, ap one (same 0 (λ e. omega (arith, e))), rest)
  changed-count (b ∷ old) (a ∷ new) zero same = let rest = same-count old new (λ k. same (suc k) (λ e. omega (arith, e))) in omega (arith, rest)
  changed-count (b ∷ old) (a ∷ new) (suc key) same =
      let rest = changed-count old new key (λ k apart. same (suc k) (λ e. apart (omega (arith, e)))) in omega (arith, ap one (same 0 (λ e. omega (arith, e))), rest)

  -- each is among those that count
  pub one-counts : (areas : List (Option Area)) (key : ℕ) → one (area_of areas key) ≤ how_many (has_flag flag) areas
  one-counts [] key = omega arith
  one-counts (a ∷ areas) zero = omega arith
  one-counts (a ∷ areas) (suc key) = omega (arith, one-counts areas key)

  -- where so many count, there is one
  pub counts-some : (areas : List (Option Area)) → 0 < how_many (has_flag flag) areas → (number : ℕ) × (has_flag flag (area_of areas number) ≡ true)
  counts-some [] h = absurd (omega (arith, h))
  counts-some (a ∷ areas) h = by (counts-some areas) (has_flag flag a) refl h
    where
      by : (0 < how_many (has_flag flag) areas → (number : ℕ) × (has_flag flag (area_of areas number) ≡ true)) → (b : Bool) → has_flag flag a ≡ b
          → 0 < cond b 1 0 + how_many (has_flag flag) areas → (number : ℕ) × (has_flag flag (area_of (a ∷ areas) number) ≡ true)
      by later true is h = (0, is)
      by later false is h = let rest = later (omega (arith, h)) in (suc rest.0, rest.1)

  -- where none counts, there is none
  pub none-counts : (areas : List (Option Area)) → how_many (has_flag flag) areas ≡ 0 → (number : ℕ) → has_flag flag (area_of areas number) ≡ false
  none-counts areas none number = by (has_flag flag (area_of areas number)) refl (one-counts areas number)
    where
      by : (b : Bool) → has_flag flag (area_of areas number) ≡ b → cond b 1 0 ≤ how_many (has_flag flag) areas → has_flag flag (area_of areas number) ≡ false
      by true is below = absurd (omega (arith, none, below))
      by false is below = is

  -- what the count says
  pub count-says : (areas : List (Option Area)) (count : ℕ) → count ≡ how_many (has_flag flag) areas
      → MatchBool (nat_lt 0 count) ((number : ℕ) × (has_flag flag (area_of areas number) ≡ true)) ((number : ℕ) → has_flag flag (area_of areas number) ≡ false)
  count-says areas count is = by (nat_lt 0 count) refl
    where
      by : (b : Bool) → nat_lt 0 count ≡ b → MatchBool b ((number : ℕ) × (has_flag flag (area_of areas number) ≡ true)) ((number : ℕ) → has_flag flag (area_of areas number) ≡ false)
      by true some = let above : 0 < count = grind (arith, nat_tests) in counts-some areas (omega (arith, above, is))
      by false none = let low : count ≤ 0 = grind (arith, nat_tests) in none-counts areas (omega (arith, low, is))

  -- an area in place of one
  pub replaced-count : (areas : List (Option Area)) (key : ℕ) (before after : Area) → area_of areas key ≡ Some before
      → how_many (has_flag flag) (set areas key (Some after)) + one (Some before) ≡ how_many (has_flag flag) areas + one (Some after)
  replaced-count areas key before after was =
      let there : key < length areas = grind (arith, get_or_past) in
      let moved = changed-count areas (set areas key (Some after)) key (λ k apart. get_or-set_other areas key k (Some after) None apart) in
      omega (arith, moved, ap one was, ap one (get_or-set_same areas key (Some after) None there))

  -- an area under a number that had none
  pub added-count : (old new : List (Option Area)) (key : ℕ) (area : Area) → ((k : ℕ) → k ≢ key → area_of new k ≡ area_of old k)
      → area_of old key ≡ None → area_of new key ≡ Some area → how_many (has_flag flag) new ≡ how_many (has_flag flag) old + cond (flag area) 1 0
  added-count old new key area others none some = omega (arith, changed-count old new key others, ap one none, ap one some)

  -- an area that goes
  pub gone-count : (old new : List (Option Area)) (key : ℕ) (area : Area) → ((k : ℕ) → k ≢ key → area_of new k ≡ area_of old k)
      → area_of old key ≡ Some area → area_of new key ≡ None → how_many (has_flag flag) new + cond (flag area) 1 0 ≡ how_many (has_flag flag) old
  gone-count old new key area others some none = omega (arith, changed-count old new key others, ap one some, ap one none)

  -- an area that is there counts
  pub counts-in : (areas : List (Option Area)) (key : ℕ) (area : Area) → area_of areas key ≡ Some area → cond (flag area) 1 0 ≤ how_many (has_flag flag) areas
  counts-in areas key area there = omega (arith, one-counts areas key, ap one there)
