-- What is said of each page, by the bounds at which it changes.
use Rattle.std.specs.Prelude.{◌≡◌, ◌≢◌, ℕ, suc, zero, ◌+◌, ◌^◌, ◌≤◌, Bool, List}
use Rattle.std.specs.Prelude.{Option, Some, None, IfSome, is_some}
use Rattle.std.specs.BTreeMap.{is_at}
use Rattle.std.specs.List.{count_by}
use Rattle.std.specs.List.Sorted.{IsStrictlySortedBy}
use Rattle.std.specs.Map.{keys_of, lookup, values_of}
use Rattle.std.specs.Option.{unwrap_or}
use Rattle.std.specs.Ordering.{nat_cmp}
use Rattle.av_audit_ranges.specs.Holes.{AreHoles, Hole}
use Rattle.av_audit_ranges.specs.Marks.{is_locked}
use Rattle.av_audit_ranges.specs.declared.marks.Marks.{Marks}

-- what stands at a page, if it is a bound
abbrev pub bound_at : List (ℕ × Option Marks) → ℕ → Option (Option Marks)
bound_at bounds page = lookup (is_at (nat_cmp page)) bounds

-- what is said of a page: what stands at it, if it is a bound, or else what is said of the page
-- below
unfoldable pub marks_by : (ℕ → Option (Option Marks)) → ℕ → Option Marks
marks_by bound zero = unwrap_or (bound 0) None
marks_by bound (suc page) = unwrap_or (bound (suc page)) (marks_by bound page)

-- what is said of the page below one
abbrev pub marks_below_by : (ℕ → Option (Option Marks)) → ℕ → Option Marks
marks_below_by bound zero = None
marks_below_by bound (suc page) = marks_by bound page

abbrev pub marks_at : List (ℕ × Option Marks) → ℕ → Option Marks
marks_at bounds page = marks_by (bound_at bounds) page

abbrev pub marks_below : List (ℕ × Option Marks) → ℕ → Option Marks
marks_below bounds page = marks_below_by (bound_at bounds) page

-- at a bound something else is said than of the page below
abbrev pub IsTightAt : List (ℕ × Option Marks) → ℕ → Type 0
IsTightAt bounds page = bound_at bounds page ≢ Some (marks_below bounds page)

-- at how many bounds locked pages begin
abbrev pub locked_bounds : List (ℕ × Option Marks) → ℕ
locked_bounds bounds = count_by is_locked (values_of bounds)

-- the bounds rise, and these are locked
pub record AreCounted (bounds : List (ℕ × Option Marks)) (locked : ℕ) : Type 0 where
  pub rising : IsStrictlySortedBy nat_cmp (keys_of bounds)
  pub counted : locked ≡ locked_bounds bounds

-- whether a page is mapped
abbrev pub is_mapped : List (ℕ × Option Marks) → ℕ → Bool
is_mapped bounds page = is_some (marks_at bounds page)

-- the page at the top of what a number can say isn't mapped, no bound stands where nothing
-- changes, and an index has the holes
pub record AreRanges (bounds : List (ℕ × Option Marks)) (holes : Option (List Hole)) : Type 0 where
  pub top : (page : ℕ) → 2 ^ 64 ≤ page + 1 → marks_at bounds page ≡ None
  pub tight : (page : ℕ) → IsTightAt bounds page
  pub index : IfSome holes (AreHoles (is_mapped bounds))
