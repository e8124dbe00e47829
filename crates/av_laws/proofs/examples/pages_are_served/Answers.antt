use Rattle.std.specs.Prelude.{[], ◌∷◌, true, refl}
use Rattle.std.proofs.Common.{arith, inl, inr}
use Rattle.av_trace.specs.declared.note.Note.TheVariants.{Copied, Failed, Loaded, Mapped, New, Put, Started, Unmapped}
use Rattle.av_laws.specs.Examples.{slot}
use Rattle.av_laws.proofs.examples.pages_are_served.Goals as goal

pub returns-clause-new_page : goal.returns-clause-new_page
returns-clause-new_page c = (
  refl,
  record {
    coming = [];
    making = New 1 0x7fffffffe000 0 ∷ [];
    whole = refl;
    comes_in = refl;
    made = record { sought = []; frame = 0; seeks = refl; in_range = omega arith; free = refl; whole = refl };
  },
)

pub returns-clause-new_over_zero : goal.returns-clause-new_over_zero
returns-clause-new_over_zero c = (
  refl,
  record {
    coming = [];
    making = New 1 0x7fffffffe000 0 ∷ [];
    whole = refl;
    comes_in = refl;
    made = record { sought = []; frame = 0; seeks = refl; in_range = omega arith; free = refl; whole = refl };
  },
)

pub returns-clause-copied : goal.returns-clause-copied
returns-clause-copied c = (
  refl,
  record {
    coming = [];
    making = Copied 1 0x7fffffffe000 1 ∷ [];
    whole = refl;
    comes_in = refl;
    made = record { sought = []; frame = 1; seeks = refl; in_range = omega arith; free = refl; whole = refl };
  },
)

pub returns-clause-loaded : goal.returns-clause-loaded
returns-clause-loaded c = (
  refl,
  record {
    coming = Loaded (slot 1) 0 ∷ Mapped 1 0x7fffffffe000 0 ∷ [];
    making = [];
    whole = refl;
    comes_in = (
      Loaded (slot 1) 0 ∷ [],
      0,
      record { sought = []; frame = 0; seeks = refl; in_range = omega arith; free = refl; whole = refl },
      refl,
      refl,
    );
    made = refl;
  },
)

pub returns-clause-kept_in_swap : goal.returns-clause-kept_in_swap
returns-clause-kept_in_swap c = (
  refl,
  record {
    coming = Loaded (slot 1) 0 ∷ Mapped 1 0x7fffffffe000 0 ∷ [];
    making = [];
    whole = refl;
    comes_in = (
      Loaded (slot 1) 0 ∷ [],
      0,
      record { sought = []; frame = 0; seeks = refl; in_range = omega arith; free = refl; whole = refl },
      refl,
      refl,
    );
    made = refl;
  },
)

pub returns-clause-copied_from_slot : goal.returns-clause-copied_from_slot
returns-clause-copied_from_slot c = (
  refl,
  record {
    coming = Loaded (slot 1) 0 ∷ Mapped 2 0x7fffffffe000 0 ∷ [];
    making = Copied 2 0x7fffffffe000 1 ∷ [];
    whole = refl;
    comes_in = (
      Loaded (slot 1) 0 ∷ [],
      0,
      record { sought = []; frame = 0; seeks = refl; in_range = omega arith; free = refl; whole = refl },
      refl,
      refl,
    );
    made = record { sought = []; frame = 1; seeks = refl; in_range = omega arith; free = refl; whole = refl };
  },
)

pub returns-clause-no_copy : goal.returns-clause-no_copy
returns-clause-no_copy c = (
  refl,
  record {
    coming = Loaded (slot 1) 0 ∷ Mapped 2 0x7fffffffe000 0 ∷ [];
    sought = [];
    whole = refl;
    before = inr (
      Loaded (slot 1) 0 ∷ [],
      0,
      record { sought = []; frame = 0; seeks = refl; in_range = omega arith; free = refl; whole = refl },
      refl,
      refl,
    );
    finds = record { wants = refl; seeks = ([], [], refl, refl, refl); none = refl; numbers = refl };
  },
)

pub returns-clause-starved_behind_pass : goal.returns-clause-starved_behind_pass
returns-clause-starved_behind_pass c = (
  refl,
  record {
    coming = [];
    sought = Put 0 (slot 1) ∷ Unmapped 0 ∷ Started (slot 1) ∷ Failed (slot 1) ∷ [];
    whole = refl;
    before = inl refl;
    finds = record {
      wants = refl;
      seeks = (
        [],
        Put 0 (slot 1) ∷ Unmapped 0 ∷ Started (slot 1) ∷ Failed (slot 1) ∷ [],
        refl,
        refl,
        (slot 1, true, refl, ([], refl, refl)),
      );
      none = refl;
      numbers = refl;
    };
  },
)
