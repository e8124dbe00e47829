-- Worked examples for texts: what is told.
use Rattle.std.specs.Prelude.{List, [], ◌∷◌}
use Rattle.av_base.specs.declared.slot.Slot.{Slot}
use Rattle.av_trace.specs.declared.command.Command.TheVariants.{Age, Rmap as AsksRmap}
use Rattle.av_trace.specs.declared.note.Note.TheVariants.{Aged}
use Rattle.av_trace.specs.declared.reply.Answer.TheVariants.{Done, NoWalk}
use Rattle.av_trace.specs.declared.reply.Totals.{Totals}
use Rattle.av_plain.specs.Transcript.{Exchange}
use Rattle.av_laws.specs.Examples.{reply_with}

-- a slot of another area than the first
abbrev pub slot_of_3 : Slot
slot_of_3 = record { area = 3; page = 70 }

-- the numbers of `stat`, no two of them equal
abbrev pub all_numbers : Totals
all_numbers = record {
  frames = 1;
  free = 2;
  active = 3;
  inactive = 4;
  flight = 5;
  slots = 6;
  free_slots = 7;
  processes = 8;
}

-- two commands: the reply to the first has a note
abbrev pub two_lines : List Exchange
two_lines = record { command = Age 1; reply = reply_with Done (Aged 1 ∷ []) }
    ∷ record { command = AsksRmap 1 0x10000; reply = reply_with NoWalk [] } ∷ []
