use Rattle.std.specs.Prelude.{[], ◌∷◌, ◌++◌, false, refl}
use Rattle.std.proofs.Common.{arith, inl, inr}
use Rattle.av_trace.specs.declared.note.Note.TheVariants.{Dropped, New, Zeroed}
use Rattle.av_plain.specs.Access.{Stopped, Whole}
use Rattle.av_plain.specs.Event.{Used, note_events}
use Rattle.av_plain.specs.Fault.{Denied, Lost, Starved}
use Rattle.av_laws.specs.Examples.{slot}
use Rattle.av_laws.proofs.examples.accesses_stop.Goals as goal

pub returns-clause-read_whole : goal.returns-clause-read_whole
returns-clause-read_whole c = record {
  answer = (
    Whole,
    7 ∷ 0 ∷ [],
    inl ([], [], (refl, record { coming = []; making = []; whole = refl; comes_in = refl; made = refl }), refl, (refl, refl)),
    (refl, (refl, (refl, tt)), (omega arith, (omega arith, tt))),
    refl,
    refl,
  );
  notes = refl;
}

pub returns-clause-written_whole : goal.returns-clause-written_whole
returns-clause-written_whole c = record {
  answer = (
    Whole,
    inl (
      Dropped (slot 1) ∷ [],
      [],
      (refl, record { coming = []; making = []; whole = refl; comes_in = refl; made = refl }),
      refl,
      (refl, refl),
    ),
    refl,
    refl,
  );
  notes = refl;
}

pub returns-clause-denied : goal.returns-clause-denied
returns-clause-denied c = record {
  answer = (
    Stopped 0x7fffffffe Denied,
    inl (
      New 1 0x7fffffffd000 0 ∷ [],
      [],
      (
        refl,
        record {
          coming = [];
          making = New 1 0x7fffffffd000 0 ∷ [];
          whole = refl;
          comes_in = refl;
          made = record { sought = []; frame = 0; seeks = refl; in_range = omega arith; free = refl; whole = refl };
        },
      ),
      refl,
      inr ([], Denied, (refl, refl), refl, refl),
    ),
    refl,
    refl,
  );
  notes = refl;
}

pub returns-clause-read_past : goal.returns-clause-read_past
returns-clause-read_past c = (
  note_events (Zeroed 1 0x7fffffffe000 ∷ []) ++ Used false (1, 0x7fffffffe) ∷ [],
  record {
    answer = (
      Stopped 0x7ffffffff Denied,
      0 ∷ [],
      inl (
        Zeroed 1 0x7fffffffe000 ∷ [],
        [],
        (refl, record { coming = []; making = Zeroed 1 0x7fffffffe000 ∷ []; whole = refl; comes_in = refl; made = refl }),
        refl,
        inr ([], Denied, (refl, refl), refl, refl),
      ),
      (refl, (refl, tt), (omega arith, tt)),
      refl,
      refl,
    );
    notes = refl;
  },
)

pub returns-clause-lost : goal.returns-clause-lost
returns-clause-lost c = record {
  answer = (
    Stopped 0x7fffffffe Lost,
    0 ∷ [],
    inl (
      Zeroed 1 0x7fffffffd000 ∷ [],
      [],
      (refl, record { coming = []; making = Zeroed 1 0x7fffffffd000 ∷ []; whole = refl; comes_in = refl; made = refl }),
      refl,
      inr ([], Lost, (refl, record { slot = slot 1; absent = refl; seeks = refl; frame = refl }), refl, refl),
    ),
    (refl, (refl, tt), (omega arith, tt)),
    refl,
    refl,
  );
  notes = refl;
}

pub returns-clause-starved_at_second : goal.returns-clause-starved_at_second
returns-clause-starved_at_second c = record {
  answer = (
    Stopped 0x7fffffffe (Starved (record { pinned = 0; noslot = 1; fault = 0; locked = 0; ksm = 0 })),
    inl (
      [],
      [],
      (refl, record { coming = []; making = []; whole = refl; comes_in = refl; made = refl }),
      refl,
      inr (
        [],
        Starved (record { pinned = 0; noslot = 1; fault = 0; locked = 0; ksm = 0 }),
        (
          refl,
          record {
            coming = [];
            sought = [];
            whole = refl;
            before = inl refl;
            finds = record { wants = refl; seeks = ([], [], refl, refl, refl); none = refl; numbers = refl };
          },
        ),
        refl,
        refl,
      ),
    ),
    refl,
    refl,
  );
  notes = refl;
}
