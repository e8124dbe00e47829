-- What a run's numbers have to be so that each of its replies is read back from its text.
use Rattle.std.specs.Prelude.{◌≡◌, ℕ, ◌+◌, ◌<◌, ◌≤◌, is_some, true, length, sum_by, IfSome}
use Rattle.std.specs.Prelude.{MatchOption}
use Rattle.std.specs.List.{AllByRecursion}
use Rattle.av_base.specs.Limits.{top_page}
use Rattle.av_text.specs.Number.{IsWide}
use Rattle.av_swapdev.specs.Device.{most_pages}
use Rattle.av_swapdev.specs.Header.{Layout}
use Rattle.av_trace.specs.declared.reply.Answer.{Answer}
use Rattle.av_trace.specs.declared.reply.Answer.TheVariants.{On}
use Rattle.av_trace.specs.declared.row.Row.{Row}
use Rattle.av_trace.specs.declared.row.Row.TheVariants.{Area as AreaRow}
use Rattle.av_plain.specs.World.{World, pages}
use Rattle.av_plain.specs.Ledger.{Ledger, Setting, SwapArea, is_on, size_of}

-- ---- what does not change in a run

-- a header says no more slots and bad pages than an area may have pages
abbrev pub IsSmallLayout : Layout → Type 0
IsSmallLayout h = h.slots + length h.bad ≤ most_pages

-- a swap area has pages with numbers of 64 bits, and such a header where that is told
pub record IsSmallArea (m : Setting) (k : ℕ) : Type 0 where
  pub pages : IsWide (size_of m k)
  pub header : IfSome m.headers (λ headers. IfSome (headers k) IsSmallLayout)

-- the frames have numbers of 64 bits, and each swap area with a page is such; so it is over devices
pub record IsSmallSetting (m : Setting) : Type 0 where
  pub frames : IsWide m.frames
  pub areas : (k : ℕ) → 0 < size_of m k → IsSmallArea m k

-- ---- what holds after each command of a run

-- each mapped page lies below the top; its process's number, that of each swap area that is on, and
-- the number of all their slots are of 64 bits
pub record IsSmall (w : World) (l : Ledger) : Type 0 where
  pub below : (p page : ℕ) → is_some (pages w p page) ≡ true → page < top_page
  pub processes : (p page : ℕ) → is_some (pages w p page) ≡ true → IsWide p
  pub areas : (k : ℕ) → is_on l k ≡ true → IsWide k
  pub slots : IsWide (sum_by (λ (a : ℕ × SwapArea). a.1.slots) l.on)

-- ---- what a legal reply may say as it likes

-- what the row of an area says beside its pages is of 64 bits; a legal reply may say anything there
abbrev pub IsWideRow : Row → Type 0
IsWideRow (AreaRow start end prot offset own chain flags) =
    IsWide offset × IfSome own IsWide × AllByRecursion IsWide chain
IsWideRow row = Unit {0}

-- and so is what `swapon` answers where headers aren't told: there a legal reply may say any number
-- of slots but 0, and any of bad pages
abbrev pub IsWideOnAnswer : Setting → Answer → Type 0
IsWideOnAnswer m (On slots bad) = MatchOption m.headers (IsWide slots × IsWide bad) (λ _. Unit {0})
IsWideOnAnswer m answer = Unit {0}
