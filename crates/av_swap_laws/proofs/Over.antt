-- A slot's page is not the header: what is written there leaves the device the one that the run is over.
use Rattle.std.proofs.Common.{◌≡◌, ℕ, ◌<◌, ◌≤◌, Bool, true, false, cond, List, Option, Some, None, option_map, refl, sym, ap, ◌∙◌, arith, ◌==◌}
use Rattle.std.proofs.lemmas.Bool.Decides.{nat_tests}
use Rattle.std.specs.Prelude.{option_and_then}
use Rattle.av_base.specs.declared.slot.Slot.{Slot}
use Rattle.av_swapdev.specs.Device.{IsWritten, after_write, with_page}
use Rattle.av_swapdev.specs.Header.{Layout, header_of}
use Rattle.av_plain.specs.Device.{Device, IsSameDevice, first_pages, without_fault}
use Rattle.av_plain.specs.Ledger.{Setting}
use Rattle.av_plain.specs.Stands.{IsOver}
use Rattle.av_plain.proofs.Sound.Counts.{same-is}
use Rattle.av_plain.proofs.Wrote.{some-one}

-- page 0 of each area
abbrev first_of_each : (ℕ → ℕ → List ℕ) → ℕ → List ℕ
first_of_each told k = told k 0

-- what each says
abbrev headers_in : (ℕ → Option ℕ) → (ℕ → List ℕ) → ℕ → Option Layout
headers_in sizes first k = option_and_then (λ n. without_fault (header_of (first k) n)) (sizes k)

module _ (old new : Device) (s : Slot) (bytes : List ℕ) (low : 0 < s.page) (written : IsWritten s.area s.page bytes old.pages new.pages)
    (sizes : new.sizes ≡ old.sizes) where
  -- page 0 of an area
  first-same : (told : ℕ → ℕ → List ℕ) (k : ℕ) → with_page s.area s.page bytes told k 0 ≡ told k 0
  first-same told k = by (k == s.area) refl
    where
      other : (0 == s.page) ≡ false
      other = grind (arith, nat_tests, low)

      by : (b : Bool) → (k == s.area) ≡ b → (cond b (λ q. cond (q == s.page) bytes (told s.area q)) (told k)) 0 ≡ told k 0
      by true e = ap (λ b. cond b bytes (told s.area 0)) other ∙ ap (λ k. told k 0) (sym (same-is k s.area e))
      by false e = refl

  firsts : first_pages new ≡ first_pages old
  firsts = ap (option_map first_of_each) written ∙ by old.pages
    where
      by : (o : Option (ℕ → ℕ → List ℕ)) → option_map first_of_each (option_map (with_page s.area s.page bytes) o)
          ≡ option_map first_of_each o
      by None = refl
      by (Some told) = λ i. Some (λ k. first-same told k i)

  pub written-same : old.failures ≤ new.failures → new.history ≡ after_write s.area s.page old.history → IsSameDevice old new
  written-same more asked = record {
    sizes = sizes;
    first = firsts;
    failures = more;
    history = some-one old.history new.history s low asked;
  }

  pub written-over : (m : Setting) → IsOver m old → IsOver m new
  written-over m h = record {
    sizes = h.sizes ∙ sym sizes;
    headers = h.headers ∙ (λ i. option_map (headers_in (sym sizes i)) (sym firsts i));
  }
