use Rattle.std.specs.Prelude.{[], ◌∷◌, ◌++◌, false, true, Some, refl}
use Rattle.std.proofs.Common.{arith}
use Rattle.av_trace.specs.declared.note.Note.TheVariants.{Dropped, Loaded, Mapped, Unmapped, Written}
use Rattle.av_plain.specs.Event.{TurnedOff, note_events}
use Rattle.av_plain.specs.Swapoff.{Closed, NoRoom, Unread}
use Rattle.av_laws.specs.Examples.{slot}
use Rattle.av_laws.specs.PassTurns.{one_frame_two_areas}
use Rattle.av_laws.specs.Slots.{lower_given, lower_in_use, slot_at}
use Rattle.av_laws.specs.SwapSteps.{counted_behind_pass, other_area_fills, to_other_area, two_emptied, unmapped_in_turn}
use Rattle.av_laws.proofs.Choice.{may}
use Rattle.av_laws.proofs.swap_steps.slots_are_emptied_in_turn.Goals as goal

pub returns-clause-two_emptied : goal.returns-clause-two_emptied
returns-clause-two_emptied c = (
  note_events two_emptied ++ TurnedOff 0 ∷ [],
  record {
    answer = record {
      done = Written (slot 2) ∷ [];
      pages = 1 ∷ 2 ∷ [];
      notes = Loaded (slot 1) 1 ∷ Mapped 1 0x12000 1 ∷ Mapped 2 0x11000 1 ∷ Dropped (slot 1) ∷ Mapped 2 0x13000 0 ∷ Dropped (slot 2) ∷ [];
      end = Closed;
      completes = (false, [], refl, refl);
      empties = (
        2 ∷ [],
        Loaded (slot 1) 1 ∷ Mapped 1 0x12000 1 ∷ Mapped 2 0x11000 1 ∷ Dropped (slot 1) ∷ [],
        Mapped 2 0x13000 0 ∷ Dropped (slot 2) ∷ [],
        refl,
        refl,
        record {
          fetched = Loaded (slot 1) 1 ∷ [];
          frame = 1;
          fetches = (
            record { sought = []; frame = 1; seeks = refl; in_range = omega arith; free = refl; whole = refl },
            refl,
          );
          whole = refl;
        },
        (
          [],
          Mapped 2 0x13000 0 ∷ Dropped (slot 2) ∷ [],
          [],
          refl,
          refl,
          record { fetched = []; frame = 0; fetches = (refl, refl); whole = refl },
          (refl, refl),
        ),
      );
      whole = refl;
      answered = refl;
      no_rows = refl;
    };
    notes = refl;
  },
)

pub returns-clause-upper_write_ends : goal.returns-clause-upper_write_ends
returns-clause-upper_write_ends c = (
  note_events (Written (slot_at 1 1) ∷ []) ++ TurnedOff 0 ∷ [],
  record {
    answer = record {
      done = Written (slot_at 1 1) ∷ [];
      pages = [];
      notes = [];
      end = Closed;
      completes = (false, [], refl, refl);
      empties = (refl, refl);
      whole = refl;
      answered = refl;
      no_rows = refl;
    };
    notes = refl;
  },
)

pub returns-clause-other_area_fills : goal.returns-clause-other_area_fills
returns-clause-other_area_fills c = (
  note_events other_area_fills ++ TurnedOff 0 ∷ [],
  record {
    answer = record {
      done = [];
      pages = 1 ∷ [];
      notes = other_area_fills;
      end = Closed;
      completes = refl;
      empties = (
        [],
        other_area_fills,
        [],
        refl,
        refl,
        record {
          fetched = to_other_area ++ Loaded (slot 1) 0 ∷ [];
          frame = 0;
          fetches = (
            record {
              sought = to_other_area;
              frame = 0;
              seeks = ([], to_other_area, refl, refl, (slot_at 1 1, false, refl, refl));
              in_range = omega arith;
              free = refl;
              whole = refl;
            },
            refl,
          );
          whole = refl;
        },
        (refl, refl),
      );
      whole = refl;
      answered = refl;
      no_rows = refl;
    };
    notes = refl;
  },
)

pub returns-clause-other_area_gives : goal.returns-clause-other_area_gives
returns-clause-other_area_gives c =
    may one_frame_two_areas (Some 0) (lower_in_use 1) (note_events other_area_fills ++ TurnedOff 0 ∷ [])
    (record (lower_given 1) { frames = [] }) [] refl
    refl

pub returns-clause-unread_behind_pass : goal.returns-clause-unread_behind_pass
returns-clause-unread_behind_pass c = (refl, ([], to_other_area, refl, refl, (slot_at 1 1, false, refl, refl)), refl)

pub returns-clause-counted_behind_pass : goal.returns-clause-counted_behind_pass
returns-clause-counted_behind_pass c = (refl, ([], counted_behind_pass, refl, refl, (slot_at 1 1, true, refl, ([], refl, refl))), refl)

pub returns-clause-unmapped_in_turn : goal.returns-clause-unmapped_in_turn
returns-clause-unmapped_in_turn c = record {
  answer = record {
    done = [];
    pages = 1 ∷ [];
    notes = unmapped_in_turn;
    end = NoRoom (record { pinned = 0; noslot = 1; fault = 0; locked = 0; ksm = 0 });
    completes = refl;
    empties = (
      2 ∷ [],
      unmapped_in_turn,
      [],
      refl,
      refl,
      record {
        fetched = Unmapped 0 ∷ Dropped (slot 2) ∷ Loaded (slot 1) 0 ∷ [];
        frame = 0;
        fetches = (
          record {
            sought = Unmapped 0 ∷ Dropped (slot 2) ∷ [];
            frame = 0;
            seeks = ([], Unmapped 0 ∷ Dropped (slot 2) ∷ [], refl, refl, (slot 2, false, refl, refl));
            in_range = omega arith;
            free = refl;
            whole = refl;
          },
          refl,
        );
        whole = refl;
      },
      (refl, ([], [], refl, refl, refl), refl),
    );
    whole = refl;
    answered = refl;
    no_rows = refl;
  };
  notes = refl;
}

pub returns-clause-turned_off : goal.returns-clause-turned_off
returns-clause-turned_off c = record {
  answer = record {
    done = [];
    pages = [];
    notes = [];
    end = Closed;
    completes = refl;
    empties = (refl, refl);
    whole = refl;
    answered = refl;
    no_rows = refl;
  };
  notes = refl;
}

pub returns-clause-unread_stays_on : goal.returns-clause-unread_stays_on
returns-clause-unread_stays_on c = record {
  answer = record {
    done = [];
    pages = [];
    notes = [];
    end = Unread;
    completes = refl;
    empties = (refl, refl, refl);
    whole = refl;
    answered = refl;
    no_rows = refl;
  };
  notes = refl;
}
