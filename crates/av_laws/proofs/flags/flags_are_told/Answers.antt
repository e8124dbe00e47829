use Rattle.std.specs.Prelude.{[], ◌∷◌, true, refl}
use Rattle.std.proofs.Common.{arith, inl, inr}
use Rattle.av_trace.specs.declared.note.Note.TheVariants.{New}
use Rattle.av_plain.specs.Access.{Stopped, Whole}
use Rattle.av_plain.specs.Fault.{Starved}
use Rattle.av_plain.specs.Event.{Noted, Used}
use Rattle.av_laws.proofs.flags.flags_are_told.Goals as goal

pub returns-clause-brought_in : goal.returns-clause-brought_in
returns-clause-brought_in c = record {
  answer = (
    Noted (New 1 0x7fffffffc000 0) ∷ Used true (1, 0x7fffffffc) ∷ [],
    refl,
    refl,
    (
      Whole,
      inl (
        New 1 0x7fffffffc000 0 ∷ [],
        [],
        (
          refl,
          record {
            coming = [];
            making = New 1 0x7fffffffc000 0 ∷ [];
            whole = refl;
            comes_in = refl;
            made = record { sought = []; frame = 0; seeks = refl; in_range = omega arith; free = refl; whole = refl };
          },
        ),
        refl,
        (refl, refl),
      ),
      refl,
    ),
  );
  notes = refl;
}

pub returns-clause-not_all_mapped : goal.returns-clause-not_all_mapped
returns-clause-not_all_mapped c = record { answer = ([], refl, refl, (refl, refl)); notes = refl }

pub returns-clause-from_the_page : goal.returns-clause-from_the_page
returns-clause-from_the_page c = record {
  answer = (
    Noted (New 1 0x7fffffffc000 0) ∷ Used true (1, 0x7fffffffc) ∷ [],
    refl,
    refl,
    (
      Stopped 0x7fffffffd (Starved (record { pinned = 0; noslot = 0; fault = 0; locked = 1; ksm = 0 })),
      inl (
        New 1 0x7fffffffc000 0 ∷ [],
        [],
        (
          refl,
          record {
            coming = [];
            making = New 1 0x7fffffffc000 0 ∷ [];
            whole = refl;
            comes_in = refl;
            made = record { sought = []; frame = 0; seeks = refl; in_range = omega arith; free = refl; whole = refl };
          },
        ),
        refl,
        inr (
          [],
          Starved (record { pinned = 0; noslot = 0; fault = 0; locked = 1; ksm = 0 }),
          (
            refl,
            record {
              coming = [];
              sought = [];
              whole = refl;
              before = inl refl;
              finds = record { wants = refl; seeks = ([], [], refl, refl, refl); none = refl; numbers = refl };
            },
          ),
          refl,
          refl,
        ),
      ),
      refl,
    ),
  );
  notes = refl;
}
