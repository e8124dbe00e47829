-- Devices with swap areas, as a run sees them.
use Rattle.std.specs.Prelude.{◌≡◌, ◌≤◌, ◌<◌, ◌++◌, ℕ, Bool, true, false, IfSome, List, [], length}
use Rattle.std.specs.Prelude.{min, Option}
use Rattle.std.specs.Prelude.{Some, None, option_map, option_and_then, Result, Ok, Err}
use Rattle.av_swapdev.specs.declared.header.HeaderErr.{HeaderErr}
use Rattle.std.specs.List.{AllByRecursion}
use Rattle.av_base.specs.declared.slot.Slot.{Slot}
use Rattle.av_swapdev.specs.Device.{History, most_pages, no_history}
use Rattle.av_swapdev.specs.Header.{Layout, header_of, slots_of}
use Rattle.av_plain.specs.Ledger.{Setting, size_of}

-- the number of pages of each swap area that is attached; what the pages hold, where that is told;
-- how often it failed; and what it was asked
pub record Device : Type 0 where
  pub sizes : ℕ → Option ℕ
  pub pages : Option (ℕ → ℕ → List ℕ)
  pub failures : ℕ
  pub history : History

-- what a device tells of its calls: how often one failed, and what it was asked
abbrev pub Calls : Type 0
Calls = ℕ × History

-- a device by what a contract sees of one
abbrev pub device_by : (ℕ → Option ℕ) → Option (ℕ → ℕ → List ℕ) → Calls → Device
device_by sizes pages calls =
    record { sizes = sizes; pages = pages; failures = calls.0; history = calls.1 }

-- a device by the ghost functions of its kind
abbrev pub seen_by : {D : Type 0} → (D → ℕ → Option ℕ) → (D → Option (ℕ → ℕ → List ℕ)) → (D → ℕ)
    → (D → History) → D → Device
seen_by sizes pages failures history d =
    device_by (sizes d) (pages d) (failures d, history d)

-- the device, or one just like it that doesn't tell its pages
abbrev pub as_told : Bool → Device → Device
as_told true d = d
as_told false d = record d { pages = None }

-- the device that has no swap area, and so never fails
abbrev pub no_device : Device
no_device = record {
  sizes = λ k. None;
  pages = Some (λ k page. []);
  failures = 0;
  history = no_history;
}

-- what a header says, if it has no fault
abbrev pub without_fault : Result Layout HeaderErr → Option Layout
without_fault (Ok layout) = Some layout
without_fault (Err fault) = None

-- page 0 of each swap area, where the pages are told
abbrev pub first_pages : Device → Option (ℕ → List ℕ)
first_pages d = option_map (λ told k. told k 0) d.pages

-- and what it says
abbrev pub headers_of : Device → Option (ℕ → Option Layout)
headers_of d =
    option_map (λ first k. option_and_then (λ n. without_fault (header_of (first k) n)) (d.sizes k))
    (first_pages d)

-- what does not change in a run with so many frames over this device
abbrev pub setting_of : ℕ → Device → Setting
setting_of frames d = record { frames = frames; sizes = d.sizes; headers = headers_of d }

-- since then it was asked to write these pages, in this order, and to attach nothing
pub record Wrote (pages : List Slot) (old new : History) : Type 0 where
  pub attached : new.attached ≡ old.attached
  pub written : new.written ≡ old.written ++ pages

-- it was asked to write some, none of them a header
pub record WroteSome (old new : History) : Type 0 where
  pub pages : List Slot
  pub wrote : Wrote pages old new
  pub behind_header : AllByRecursion (λ page. 0 < page.page) pages

-- one device at two times: its swap areas have the sizes that they had, and page 0 of each, where
-- pages are told, is as it was; its count of failures never falls; nothing was attached since, and
-- page 0 of none written
pub record IsSameDevice (old new : Device) : Type 0 where
  pub sizes : new.sizes ≡ old.sizes
  pub first : first_pages new ≡ first_pages old
  pub failures : old.failures ≤ new.failures
  pub history : WroteSome old.history new.history

-- no swap area is attached
abbrev pub HasNoDevice : Setting → Type 0
HasNoDevice m = (k : ℕ) → m.sizes k ≡ None

-- ---- settings over a device

-- an area of a device with so many pages: they are the device's, and its slots are those behind the
-- header that aren't bad
pub record IsLayout (size : ℕ) (h : Layout) : Type 0 where
  pub fits : h.pages ≤ min size most_pages
  pub slots : h.slots ≡ length (slots_of h.pages h.bad)

-- where headers are told, they are such
abbrev pub AreLayouts : Setting → Type 0
AreLayouts m = (k : ℕ) → IfSome m.headers (λ headers. IfSome (headers k) (IsLayout (size_of m k)))
