-- A directory of parts, each with its number, which span as many pages each.
use Rattle.std.specs.Prelude.{◌≡◌, ℕ, ◌+◌, ◌-◌, ◌*◌, ◌/◌, ◌%◌, ◌<◌, ◌≤◌, min, List, length}
use Rattle.std.specs.Prelude.{Option, Some, None, Result, MatchResult, option_map, slice_get}
use Rattle.std.specs.Prelude.{nat_eq, nat_lt, ◌==◌, if◌then◌else◌}
use Rattle.std.proofs.Common.{ap, arith, false}
use Rattle.std.proofs.lemmas.Bool.Decides.{nat_tests}
use Rattle.std.proofs.lemmas.Nat.{le-div}
use Rattle.std.specs.List.{All, AllPairs, AllWithin, HoldsAt}
use Rattle.std.specs.Map.{lookup}
use Rattle.av_pagetable.specs.declared.pte.Pte.{Pte}
use Rattle.av_pagetable.specs.declared.pte.Pte.TheVariants.{Empty}
use Rattle.av_pagetable.specs.Table.{IsFirst, HasSome, run_size}

-- no page has an entry
abbrev pub no_entry : ℕ → Pte
no_entry page = Empty

-- an entry as the part that spans one page
abbrev pub alone : Pte → ℕ → Pte
alone entry page = if page == 0 then entry else Empty

-- the part of this number, which is below 512
abbrev pub part_of : {C : Type 0} → List (ℕ × C) → ℕ → Option C
part_of parts number = if nat_lt number 512 then lookup (nat_eq number) parts else None

-- the entries of a part that may be missing
abbrev pub in_part : {C : Type 0} → (C → ℕ → Pte) → Option C → ℕ → Pte
in_part at None = no_entry
in_part at (Some part) = at part

-- the entries of a directory
abbrev pub entries : {C : Type 0} → (C → ℕ → Pte) → ℕ → List (ℕ × C) → ℕ → Pte
entries at span parts page = in_part at (part_of parts (page / span)) (page % span)

-- the parts stand by rising numbers below 512, and each has an entry
pub record AreParts {C : Type 0} (at : C → ℕ → Pte) (span : ℕ) (parts : List (ℕ × C)) : Type 0 where
  pub rising : AllPairs (λ part later. part.0 < later.0) parts
  pub below : All (λ part. part.0 < 512) parts
  pub full : All (λ part. HasSome span (at part.1)) parts

-- the place of the part of a number, or else the place at which it would stand
abbrev pub IsPlace : {C : Type 0} → ℕ → List (ℕ × C) → Result ℕ ℕ → Type 0
IsPlace number parts result = MatchResult result
    (λ k. (k < length parts) × HoldsAt (λ part. part.0 ≡ number) parts k)
    (λ k. (k ≤ length parts)
    × AllWithin (λ part. part.0 < number) parts 0 k
    × AllWithin (λ part. number < part.0) parts k (length parts))

-- how many parts there are from a place on, but at most as many as a run has pages
abbrev pub count_from : {C : Type 0} → List (ℕ × C) → ℕ → ℕ
count_from parts start = min (length parts - start) run_size

-- so many parts from a place on have the numbers of as many pages side by side, at most a run
pub record AreSideBySide {C : Type 0} (page : ℕ) (parts : List (ℕ × C)) (start len : ℕ)
    : Type 0 where
  pub some : 0 < len
  pub few : len ≤ run_size
  pub within : start + len ≤ length parts
  pub numbers : (i : ℕ) → i < len → HoldsAt (λ part. part.0 ≡ page + i) parts (start + i)

-- the entries of the part at a place
abbrev pub entries_at : {C : Type 0} → (C → ℕ → Pte) → List (ℕ × C) → ℕ → ℕ → Pte
entries_at at parts k = in_part at (option_map (λ part. part.1) (slice_get parts k))

-- the least page with an entry, from a page of the part at a place on
abbrev pub IsFirstIn : {C : Type 0} → (C → ℕ → Pte) → ℕ → List (ℕ × C) → ℕ → ℕ → ℕ → Type 0
IsFirstIn {C} at span parts k from page =
    (part : ℕ × C) × (q : ℕ)
    × (slice_get parts k ≡ Some part) × (page ≡ part.0 * span + q) × IsFirst (at part.1) from span q

-- ---- a law of each directory
not_less : (n m : ℕ) → m ≤ n → nat_lt n m ≡ false
not_less n m h = grind (arith, nat_tests)

-- no page past those of 512 parts has an entry
pub none_past : {C : Type 0} (at : C → ℕ → Pte) (span : ℕ) (parts : List (ℕ × C)) (page : ℕ)
    → 0 < span → 512 * span ≤ page → entries at span parts page ≡ Empty
none_past at span parts page some past =
    ap (λ b. in_part at (if b then lookup (nat_eq (page / span)) parts else None) (page % span))
    (not_less (page / span) 512 (le-div 512 page span some past))
