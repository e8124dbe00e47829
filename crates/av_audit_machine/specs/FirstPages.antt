-- A machine whose swap areas are given by the bytes of page 0.
use Rattle.std.specs.Prelude.{◌≡◌, ◌<◌, ◌^◌, ℕ, List, [], map, slice_get, slice_index_or, Some}
use Rattle.av_audit_book.specs.declared.machine.Head.{Head as ReadHead}
use Rattle.av_plain.specs.Device.{Device, no_device, setting_of}
use Rattle.av_plain.specs.Ledger.{Setting}
use Rattle.av_audit_machine.specs.Heads.{IsCounted, IsLayoutIn}
use Rattle.av_audit_machine.specs.declared.first_pages.Head.{Head}

-- the device that has these swap areas, with these bytes in page 0 of each
abbrev pub device_of : List Head → Device
device_of heads = record no_device {
  sizes = slice_get (map (λ (h : Head). h.pages) heads);
  pages = Some (λ k page. slice_index_or (map (λ (h : Head). h.first.now) heads) k []);
}

-- what these swap areas say of so many frames
abbrev pub setting_by : ℕ → List Head → Setting
setting_by frames heads = setting_of frames (device_of heads)

-- what one with so many pages and these bytes says, once it is read
pub record IsReadFrom (pages : ℕ) (first : List ℕ) (read : ReadHead) : Type 0 where
  pub pages_are : read.pages ≡ pages
  pub small : pages < 2 ^ 32
  pub layout : IsLayoutIn first pages read.layout
  pub counted : IsCounted read.layout
