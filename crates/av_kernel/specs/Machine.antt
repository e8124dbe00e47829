-- What is shown of a kernel, and what is true of every one.
use Rattle.std.specs.Prelude.{◌≡◌, ℕ, ◌≤◌, Bool, false, List, length, refl}
use Rattle.std.specs.Coded.{Coded, code_by, coded×, coded_ℕ, coded_bool, coded_list}
use Rattle.av_swapdev.specs.Device.{most_areas}
use Rattle.av_mem.specs.declared.mem.Mem.{Mem}
use Rattle.av_mem.specs.Mem.{IsSteadyAt}
use Rattle.av_step.specs.Step.{sizes_of}
use Rattle.av_kernel.specs.declared.tally.Tally.{Tally}
use Rattle.av_kernel.specs.Tally.{IsAtMost}

pub record Machine : Type 0 where
  -- how many frames there are, and how many pages each attached swap area has
  pub frames : ℕ
  pub sizes : List ℕ
  pub mem : Mem
  -- how many commands were answered, and how often each first word of a reply
  pub steps : ℕ
  pub tally : Tally
  -- memory ran out within a command
  pub spent : Bool

abbrev pub machine_code : Coded Mem → Coded Tally → Coded Machine
machine_code mem tally =
    code_by (ℕ × (List ℕ × (Mem × (ℕ × (Tally × Bool)))))
    (coded× coded_ℕ (coded× (coded_list coded_ℕ) (coded× mem (coded× coded_ℕ
    (coded× tally coded_bool)))))
    (λ s. (s.frames, (s.sizes, (s.mem, (s.steps, (s.tally, s.spent))))))
    (λ p. record {
      frames = p.0;
      sizes = p.1.0;
      mem = p.1.1.0;
      steps = p.1.1.1.0;
      tally = p.1.1.1.1.0;
      spent = p.1.1.1.1.1;
    })
    (λ _. refl)

-- there are no more swap areas than a device can have; no word of a reply came more often than
-- commands were answered; where memory never ran out, the memory system stands for something over a
-- device with these sizes
pub record IsSound (sizes : List ℕ) (mem : Mem) (steps : ℕ) (tally : Tally) (spent : Bool)
    : Type 0 where
  pub attached : length sizes ≤ most_areas
  pub few : IsAtMost steps tally
  pub steady : spent ≡ false → IsSteadyAt (sizes_of sizes) mem
