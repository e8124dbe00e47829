-- What is on the pages of a process, as areas by number and a tree of spans say it.
use Rattle.std.specs.Prelude.{◌≡◌, ℕ, ◌<◌, ◌≤◌, true, false, ◌==◌, if◌then◌else◌, Bool, List}
use Rattle.std.specs.Prelude.{Option, Some, None, option_and_then}
use Rattle.av_vma.specs.declared.area.Area.{Area}
use Rattle.av_vma.specs.Pages.{Pages}
use Rattle.av_vmatree.specs.declared.span.Span.{Span}
use Rattle.av_vmatree.specs.Spans.{area_at}

-- the area that holds each page
abbrev pub pages_by : (ℕ → Option Area) → List Span → Pages
pages_by areas spans page = option_and_then areas (area_at spans page)

-- how far a change goes that ends at the first page that isn't taken: all before it are
pub record GoesTo (is_taken : ℕ → Bool) (from to past : ℕ) : Type 0 where
  pub lowest : from ≤ past
  pub highest : past ≤ to
  pub all : (page : ℕ) → from ≤ page → page < past → is_taken page ≡ true
  pub end : past < to → is_taken past ≡ false

-- the area of a span that ends before the page
abbrev pub ending_at : ℕ → Option Span → Option ℕ
ending_at page None = None
ending_at page (Some s) = if s.to == page then Some s.area else None

-- the area of a span that begins with the page
abbrev pub beginning_at : ℕ → Option Span → Option ℕ
beginning_at page None = None
beginning_at page (Some s) = if s.from == page then Some s.area else None
