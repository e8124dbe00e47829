use Rattle.std.specs.Prelude.{◌≡◌, ◌<◌, ◌≤◌, ℕ, List, [], ◌∷◌, ◌++◌, Option, Some, None, is_some, length, refl, slice_index}
use Rattle.std.specs.List.{AllByRecursion}
use Rattle.std.proofs.Common.{arith, ap}
use Rattle.av_base.specs.declared.slot.Slot.{Slot}
use Rattle.av_swapdev.specs.Device.{after_write, no_history}
use Rattle.av_plain.proofs.NoDevice.{never}
use Rattle.av_plain.proofs.Wrote.{some-none, some-one}
use Rattle.av_laws.specs.Examples.{slot}
use Rattle.av_swapdev.specs.Header.{number_at}
use Rattle.av_laws.proofs.several.devices_stay_the_same.Goals as goal

-- the page of the first slot
abbrev first_page : List Slot → ℕ
first_page [] = 0
first_page (s ∷ slots) = s.page

-- the first byte of page 0
first_byte : Option (ℕ → List ℕ) → ℕ
first_byte None = 0
first_byte (Some told) = slice_index (told 0) 0

-- page 0 was written
by_pages : (pages : List Slot) → slot 0 ∷ [] ≡ [] ++ pages → AllByRecursion (λ (page : Slot). 0 < page.page) pages → ⊥
by_pages [] e behind = let n : ◌≡◌ {A = ℕ} 1 0 = ap length e in omega (arith, n)
by_pages (page ∷ pages) e behind = let n : ◌≡◌ {A = ℕ} 0 page.page = ap first_page e in omega (arith, n, behind.0)

pub returns-clause-other_page_0 : goal.returns-clause-other_page_0
unfolding first_byte
returns-clause-other_page_0 c = λ h. let e : ◌≡◌ {A = ℕ} 1 0 = ap first_byte h.first in omega (arith, e)

pub returns-clause-same_header : goal.returns-clause-same_header
unfolding number_at
returns-clause-same_header c = refl

pub returns-clause-other_slots : goal.returns-clause-other_slots
returns-clause-other_slots c = record { sizes = refl; first = refl; failures = omega arith; history = some-none no_history }

pub returns-clause-slot_written : goal.returns-clause-slot_written
returns-clause-slot_written c = record {
  sizes = refl;
  first = refl;
  failures = omega arith;
  history = some-one no_history (after_write 0 2 no_history) (slot 2) (omega arith) refl;
}

pub returns-clause-header_written : goal.returns-clause-header_written
returns-clause-header_written c h = by_pages h.history.pages h.history.wrote.written h.history.behind_header

pub returns-clause-attached_again : goal.returns-clause-attached_again
returns-clause-attached_again c h = let n : ◌≡◌ {A = ℕ} 1 0 = ap length h.history.wrote.attached in omega (arith, n)

pub returns-clause-other_sizes : goal.returns-clause-other_sizes
returns-clause-other_sizes c h = never (ap (λ (sizes : ℕ → Option ℕ). is_some (sizes 0)) h.sizes)

pub returns-clause-fewer_failures : goal.returns-clause-fewer_failures
returns-clause-fewer_failures c h = let n : 1 ≤ 0 = h.failures in omega (arith, n)
