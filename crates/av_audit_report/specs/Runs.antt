-- What is mapped, cut where something else is said.
use Rattle.std.specs.Prelude.{◌≡◌, ◌≢◌, ℕ, ◌<◌, ◌≤◌, List, [], ◌∷◌, map, Option, None, Some}
use Rattle.std.specs.Prelude.{MatchOption, option_map}
use Rattle.av_base.specs.declared.prot.Prot.{Prot}
use Rattle.av_plain.specs.Report.{AreApart, AreLongest, Range as PlainRange, prot_in}
use Rattle.av_audit_ranges.specs.declared.marks.Marks.{Marks}
use Rattle.av_audit_ranges.specs.declared.marks.Range.{Range}

-- from a page on to below a bound the same is said of each, and something else of the bound; or
-- there is no bound, and nothing is
abbrev pub IsBound : (ℕ → Option Marks) → ℕ → Option ℕ → Type 0
IsBound said page bound = MatchOption bound ((q : ℕ) → page ≤ q → said q ≡ None)
    (λ next. (page < next) × ((q : ℕ) → page ≤ q → q < next → said q ≡ said page)
    × (said next ≢ said page))

-- pages of which the same is said, if they are mapped
abbrev pub piece : ℕ → ℕ → Option Marks → List Range
piece start end None = []
piece start end (Some k) = record { start = start; end = end; marks = k } ∷ []

-- the range of a report
abbrev pub plain_range : Range → PlainRange
plain_range r = record { from = r.start; to = r.end; prot = r.marks.prot }

abbrev pub plain_ranges : List Range → List PlainRange
plain_ranges ranges = map plain_range ranges

-- the protection of a page, by what is said of it
abbrev pub prot_at : (ℕ → Option Marks) → ℕ → Option Prot
prot_at said page = option_map (λ (k : Marks). k.prot) (said page)

-- ranges that are apart, with the same protections
pub record AreCut (said : ℕ → Option Marks) (cut : List Range) : Type 0 where
  pub apart : AreApart (plain_ranges cut)
  pub same : (page : ℕ) → prot_in (plain_ranges cut) page ≡ prot_at said page

-- the longest runs of the pages of ranges
pub record AreRunsOf (ranges runs : List PlainRange) : Type 0 where
  pub longest : AreLongest runs
  pub cover : (page : ℕ) → prot_in runs page ≡ prot_in ranges page
