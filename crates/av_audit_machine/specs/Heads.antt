-- What page 0 of each swap area says.
use Rattle.std.specs.Prelude.{◌≡◌, ◌<◌, ◌≤◌, ℕ, List, Option, Some, IfSome, option_map}
use Rattle.std.specs.Prelude.{◌^◌, MatchOption, length, option_and_then}
use Rattle.av_audit_book.specs.Machine.{head_of, layout_of, setting_of as setting_of_machine}
use Rattle.av_audit_book.specs.declared.machine.Head.{Head}
use Rattle.av_audit_book.specs.declared.machine.Layout.{Layout}
use Rattle.av_audit_book.specs.declared.machine.Machine.{Machine}
use Rattle.av_swapdev.specs.Header.{header_of}
use Rattle.av_plain.specs.Device.{Device, setting_of, without_fault}
use Rattle.av_plain.specs.Ledger.{Setting}

-- what a page 0 says of an area with so many pages
abbrev pub IsLayoutIn : List ℕ → ℕ → Option Layout → Type 0
IsLayoutIn page size layout = option_map layout_of layout ≡ without_fault (header_of page size)

-- a header names fewer bad pages than a number of 32 bits counts
abbrev pub IsCounted : Option Layout → Type 0
IsCounted layout = MatchOption layout (Unit {0}) (λ layout. length layout.bad.items < 2 ^ 32)

-- each header does
abbrev pub AreCounted : Machine → Type 0
AreCounted machine =
    (k : ℕ) → IsCounted (option_and_then (λ (h : Head). h.layout) (head_of machine k))

-- what page 0 of an area with so many pages says, if it has one: where pages are told, the one that
-- is told, else some page
abbrev pub IsHead : Option (ℕ → ℕ → List ℕ) → ℕ → ℕ → Head → Type 0
IsHead pages area size head =
    (page : List ℕ) × (0 < size → IfSome pages (λ told. told area 0 ≡ page))
    × (head.pages ≡ size) × IsLayoutIn page size head.layout × IsCounted head.layout

-- nothing changed of the device but that it may have failed
pub record OnlyFails (old new : Device) : Type 0 where
  pub sizes : new.sizes ≡ old.sizes
  pub pages : new.pages ≡ old.pages
  pub failures : old.failures ≤ new.failures
  pub history : new.history ≡ old.history

-- The setting is that of so many frames over the device. Where the device doesn't tell its pages,
-- it is that over some that its pages may be.
abbrev pub IsSettingOf : ℕ → Device → Setting → Type 0
IsSettingOf frames device m =
    (told : ℕ → ℕ → List ℕ) × IfSome device.pages (λ pages. pages ≡ told)
    × (m ≡ setting_of frames (record device { pages = Some told }))

abbrev pub IsMachineOf : ℕ → Device → Machine → Type 0
IsMachineOf frames device machine = IsSettingOf frames device (setting_of_machine machine)
