use Rattle.std.proofs.Common.{◌≡◌, ◌++◌, take}
use Rattle.av_trace.specs.Print.{notes_text}
use Rattle.av_trace.proofs.print.add_notes.Given as goal

abbrev pub invariant-loop-note : goal.invariant-loop-note
invariant-loop-note l = l.text ≡ l.initial.text ++ notes_text (take l.note-index l.notes)
