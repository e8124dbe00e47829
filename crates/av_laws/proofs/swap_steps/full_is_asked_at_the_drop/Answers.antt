use Rattle.std.specs.Prelude.{[], ◌∷◌, ◌++◌, false, refl}
use Rattle.std.proofs.Common.{arith}
use Rattle.av_trace.specs.declared.note.Note.TheVariants.{Loaded}
use Rattle.av_laws.specs.Examples.{slot}
use Rattle.av_laws.specs.SwapSteps.{frame_freed, page_in}
use Rattle.av_laws.proofs.swap_steps.full_is_asked_at_the_drop.Goals as goal

pub returns-clause-full_at_the_drop : goal.returns-clause-full_at_the_drop
returns-clause-full_at_the_drop c = (
  refl,
  record {
    coming = page_in;
    making = [];
    whole = refl;
    comes_in = (
      frame_freed ++ Loaded (slot 1) 0 ∷ [],
      0,
      record {
        sought = frame_freed;
        frame = 0;
        seeks = ([], frame_freed, refl, refl, (slot 2, false, refl, refl));
        in_range = omega arith;
        free = refl;
        whole = refl;
      },
      refl,
      refl,
    );
    made = refl;
  },
)
