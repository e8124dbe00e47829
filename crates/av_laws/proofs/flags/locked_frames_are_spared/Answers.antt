use Rattle.std.specs.Prelude.{[], ◌∷◌, false, refl}
use Rattle.std.proofs.Common.{arith, inl}
use Rattle.av_trace.specs.declared.note.Cause.TheVariants.{Locked}
use Rattle.av_trace.specs.declared.note.Note.{Note}
use Rattle.av_trace.specs.declared.note.Note.TheVariants.{Dropped, Kept, New, Put, Started, Unmapped, Written}
use Rattle.std.specs.Prelude.{List}
use Rattle.av_laws.specs.Examples.{slot}
use Rattle.av_laws.proofs.flags.locked_frames_are_spared.Goals as goal

abbrev turn : List Note
turn = Put 1 (slot 1) ∷ Unmapped 1 ∷ Started (slot 1) ∷ Written (slot 1) ∷ Dropped (slot 1) ∷ []

pub returns-clause-spared_in_pass : goal.returns-clause-spared_in_pass
returns-clause-spared_in_pass c = (
  refl,
  record {
    coming = [];
    making = Put 1 (slot 1) ∷ Unmapped 1 ∷ Started (slot 1) ∷ Written (slot 1) ∷ Dropped (slot 1) ∷ New 1 0x7fffffffe000 1 ∷ [];
    whole = refl;
    comes_in = refl;
    made = record {
      sought = turn;
      frame = 1;
      seeks = ([], turn, refl, refl, (slot 1, false, refl, refl));
      in_range = omega arith;
      free = refl;
      whole = refl;
    };
  },
)

pub returns-clause-reclaimed : goal.returns-clause-reclaimed
returns-clause-reclaimed c = record {
  answer = (Kept 0 Locked ∷ [], (Kept 0 Locked ∷ [], [], refl, refl, refl), refl, refl, refl);
  notes = refl;
}

pub returns-clause-all_locked : goal.returns-clause-all_locked
returns-clause-all_locked c = (
  refl,
  record {
    coming = [];
    sought = [];
    whole = refl;
    before = inl refl;
    finds = record { wants = refl; seeks = ([], [], refl, refl, refl); none = refl; numbers = refl };
  },
)
