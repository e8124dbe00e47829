-- What the rows of areas show.
use Rattle.std.specs.Prelude.{◌≡◌, ℕ, ◌<◌, ◌≤◌, ◌&&◌, Bool, List, [], ◌∷◌, Option, None, Some}
use Rattle.std.specs.Prelude.{MatchBool, MatchOption, if◌then◌else◌, nat_le, nat_lt}
use Rattle.std.specs.List.{AllByRecursion}
use Rattle.av_base.specs.Page.{address_of}
use Rattle.av_trace.specs.declared.row.Row.{Row}
use Rattle.av_trace.specs.declared.row.Row.TheVariants.{Area}
use Rattle.av_trace.specs.Row.{AreRising, IsAreaRow}
use Rattle.av_plain.specs.Report.{AreAreas}
use Rattle.av_plain.specs.World.{Process}
use Rattle.av_audit_ranges.specs.declared.marks.Marks.{Marks}
use Rattle.av_audit_ranges.specs.declared.marks.Range.{Range}

-- the row is that of an area that shows these pages with what is said of them, and its chain rises
abbrev pub Shows : Row → Range → Type 0
Shows (Area start end prot offset own chain flags) r =
    (start ≡ address_of r.start) × (end ≡ address_of r.end) × (prot ≡ r.marks.prot)
    × (flags ≡ r.marks.flags) × AreRising chain
Shows row r = ⊥

-- and they are some, none below a page
abbrev pub IsShown : ℕ → Row → Range → Type 0
IsShown from row r = Shows row r × (from ≤ r.start) × (r.start < r.end)

-- the rows show these ranges, which are apart and rise from a page on
abbrev pub AreShown : ℕ → List Row → List Range → Type 0
AreShown from [] [] = Unit {0}
AreShown from (row ∷ rows) (r ∷ ranges) = IsShown from row r × AreShown r.end rows ranges
AreShown from rows ranges = ⊥

-- whether the page is in the range
abbrev pub has : Range → ℕ → Bool
has r page = nat_le r.start page && nat_lt page r.end

-- what ranges say of a page
abbrev pub said_by : List Range → ℕ → Option Marks
said_by [] page = None
said_by (r ∷ rs) page = if has r page then Some r.marks else said_by rs page

-- what rows say of pages, if they show such ranges
abbrev pub AreRead : List Row → Option (ℕ → Option Marks) → Type 0
AreRead rows found = MatchOption found ((ranges : List Range) → AreShown 0 rows ranges → ⊥)
    (λ said. (ranges : List Range) × AreShown 0 rows ranges × AllByRecursion IsAreaRow rows
    × ((page : ℕ) → said page ≡ said_by ranges page))

-- whether rows are those of a legal reply about these pages
abbrev pub IsVerdictOn : Process → List Row → Bool → Type 0
IsVerdictOn q rows legal = MatchBool legal (AreAreas q rows × AllByRecursion IsAreaRow rows)
    (AreAreas q rows → ⊥)
