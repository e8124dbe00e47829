-- What is said of pages, and where their bytes are, where a range grows or shrinks or moves.
use Rattle.std.specs.Prelude.{◌≡◌, ℕ, ◌+◌, ◌-◌, ◌≤◌, Bool, false, nat_lt}
use Rattle.std.specs.Prelude.{Option, Some, None, if◌then◌else◌, option_and_then}
use Rattle.std.specs.BTreeMap.{BTreeMap, get}
use Rattle.std.specs.Ordering.{nat_cmp}
use Rattle.av_base.specs.Limits.{top_page}
use Rattle.av_base.specs.Words.{within}
use Rattle.av_base.specs.declared.flags.Flag.TheVariants.{Locked}
use Rattle.av_plain.specs.World.{Process}
use Rattle.av_audit_ranges.specs.Marks.{change_of}
use Rattle.av_audit_ranges.specs.declared.marks.Change.{Change}
use Rattle.av_audit_ranges.specs.declared.marks.Change.TheVariants.{Unmap, Mark}
use Rattle.av_audit_ranges.specs.declared.marks.Marks.{Marks}

-- what becomes of the old range
abbrev pub old_change : Bool → Change
old_change stays = if stays then Mark Locked false else Unmap

-- what is said of a new page once it is one of n pages from one on: what is said of the page that
-- comes there, or of the last one
abbrev pub marks_moved : ℕ → ℕ → ℕ → (ℕ → Option Marks) → ℕ → Option Marks
marks_moved from n to said page =
    if nat_lt (page - to) n then said (from + (page - to)) else said (from + n - 1)

-- what is said of a page once n pages from one on are m others: of the other pages, what was said,
-- but for the old range
abbrev pub marks_after : ℕ → ℕ → ℕ → ℕ → Bool → (ℕ → Option Marks) → ℕ → Option Marks
marks_after from n to m stays said page =
    if within to m page then marks_moved from n to said page
    else (if within from n page then option_and_then (change_of (old_change stays)) (said page)
    else said page)

-- where the bytes of a page come from, if they aren't zeros
abbrev pub origin : ℕ → ℕ → ℕ → ℕ → ℕ → Option ℕ
origin from n to m page =
    if within to m page then (if nat_lt (page - to) n then Some (from + (page - to)) else None)
    else (if within from n page then None else Some page)

-- the bytes of each page come from there
abbrev pub AreMoved : {A : Type 0} → ℕ → ℕ → ℕ → ℕ → BTreeMap ℕ A → BTreeMap ℕ A → Type 0
AreMoved from n to m old new = (page : ℕ)
    → get nat_cmp new page ≡ option_and_then (get nat_cmp old) (origin from n to m page)

-- no page at the top or above is mapped
abbrev pub IsBelowTop : Process → Type 0
IsBelowTop q = (page : ℕ) → top_page ≤ page → q page ≡ None
