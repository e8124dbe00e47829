-- The setting of a machine.
use Rattle.std.specs.Prelude.{ℕ, ◌<◌, ◌≤◌, ◌^◌, Option, Some}
use Rattle.std.specs.Prelude.{option_map}
use Rattle.std.specs.Prelude.{option_and_then}
use Rattle.std.specs.List.{slice_get}
use Rattle.av_swapdev.specs.Header.{Layout as PlainLayout}
use Rattle.av_plain.specs.Ledger.{Setting, size_of}
use Rattle.av_audit_book.specs.declared.machine.Head.{Head}
use Rattle.av_audit_book.specs.declared.machine.Layout.{Layout}
use Rattle.av_audit_book.specs.declared.machine.Machine.{Machine}

abbrev pub layout_of : Layout → PlainLayout
layout_of h = record { pages = h.pages; slots = h.slots; bad = h.bad.items }

-- the swap area with this number, if it is attached
abbrev pub head_of : Machine → ℕ → Option Head
head_of machine k = slice_get machine.heads.items k

abbrev pub setting_of : Machine → Setting
setting_of machine = record {
  frames = machine.frames;
  sizes = λ k. option_map (λ (h : Head). h.pages) (head_of machine k);
  headers = Some
      (λ k. option_and_then (λ (h : Head). option_map layout_of h.layout) (head_of machine k));
}

-- each swap area with a page has a number of 8 bits, and its pages have numbers of 32
abbrev pub AreNamed : Setting → Type 0
AreNamed m = (k : ℕ) → 0 < size_of m k → (k < 2 ^ 8) × (size_of m k ≤ 2 ^ 32)
