-- A view of a machine where nothing was done stands for the first state.
use Rattle.std.specs.Prelude.{◌≡◌, ℕ, ◌<◌, zero, suc, List, [], refl}
use Rattle.std.specs.List.{range_with_len}
use Rattle.std.proofs.Common.{arith}
use Rattle.av_base.specs.Words.{is_in}
use Rattle.av_plain.specs.Device.{Device, setting_of}
use Rattle.av_plain.specs.Ledger.{first_ledger, is_free}
use Rattle.av_plain.specs.Stands.{FramesStand, IsOver, ListsStand, Stands}
use Rattle.av_plain.specs.Transcript.{at_first}
use Rattle.av_plain.proofs.Covered.{merged-first, slots-first, sound-first}
use Rattle.av_plain.proofs.FreeFrames.{first-lists_free}
use Rattle.av_plain.proofs.Sound.{first-sound}
use Rattle.av_laws.specs.Views.{first_view}

-- the four frames are free
pub all_free : (f : ℕ) → f < 4 → is_in f (range_with_len 0 4) ≡ is_free first_ledger f
all_free zero below = refl
all_free (suc zero) below = refl
all_free (suc (suc zero)) below = refl
all_free (suc (suc (suc zero))) below = refl
all_free (suc (suc (suc (suc f)))) below = absurd (omega (arith, below))

-- what there is, over a device, by what it says of frames and lists
pub stands_first : (own device : Device) (frames : ℕ) (inactive : List ℕ) → IsOver (setting_of 4 own) device
    → FramesStand (setting_of 4 own) (first_view frames inactive) first_ledger → ListsStand (first_view frames inactive) first_ledger
    → Stands (setting_of 4 own) (first_view frames inactive) device (at_first (setting_of 4 own))
stands_first own device frames inactive over of_frames of_lists = record {
  over = over;
  sound = first-sound (setting_of 4 own);
  parts = record {
    ledger = record {
      frames = of_frames;
      lists = of_lists;
      tables = record { entries = λ p page. refl; write_bits = λ p page t f at is names. cc };
      swap = record { finds = λ s. refl; counts = λ s. refl; flight = refl; on = refl };
    };
    areas = record { alive = λ p. refl; number = refl; apart = λ p. tt; covers = λ p page. refl; flags = λ p page. refl };
    bytes = record { kept = λ p page. tt; clean = λ s clean still. tt };
    headers = λ k. tt;
  };
  free = refl;
  lists = record {
    frames = first-lists_free (setting_of 4 own);
    slots = record { taken = λ s. refl; free = λ s is. cc; number = λ k. refl; off = λ k is. refl };
  };
  areas = λ p page. refl;
  anons = record { next = refl; kin = λ n. refl; chains = λ p page. tt };
  homes = λ f. refl;
  items = λ f. refl;
  reach = sound-first (setting_of 4 own);
  slots = slots-first (setting_of 4 own);
  merged = merged-first (setting_of 4 own);
}
