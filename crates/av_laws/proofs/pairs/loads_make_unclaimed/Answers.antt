use Rattle.std.specs.Prelude.{[], ◌∷◌, ◌++◌, false, refl}
use Rattle.std.proofs.Common.{arith, inl}
use Rattle.av_trace.specs.declared.note.Note.TheVariants.{Loaded, Mapped}
use Rattle.av_plain.specs.Access.{Whole}
use Rattle.av_plain.specs.Event.{Used, note_events}
use Rattle.av_laws.specs.Examples.{slot}
use Rattle.av_laws.proofs.pairs.loads_make_unclaimed.Goals as goal

pub returns-clause-shown : goal.returns-clause-shown
returns-clause-shown c = (
  note_events (Loaded (slot 1) 0 ∷ Mapped 1 0x7fffffffe000 0 ∷ []) ++ Used false (1, 0x7fffffffe) ∷ [],
  record {
    answer = (
      Whole,
      9 ∷ [],
      inl (
        Loaded (slot 1) 0 ∷ Mapped 1 0x7fffffffe000 0 ∷ [],
        [],
        (
          refl,
          record {
            coming = Loaded (slot 1) 0 ∷ Mapped 1 0x7fffffffe000 0 ∷ [];
            making = [];
            whole = refl;
            comes_in = (
              Loaded (slot 1) 0 ∷ [],
              0,
              record { sought = []; frame = 0; seeks = refl; in_range = omega arith; free = refl; whole = refl },
              refl,
              refl,
            );
            made = refl;
          },
        ),
        refl,
        (refl, refl),
      ),
      (refl, (tt, tt), (omega arith, tt)),
      refl,
      refl,
    );
    notes = refl;
  },
)
