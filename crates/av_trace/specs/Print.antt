-- The text of a reply: a line for the answer, and then a line for each note and each row.
use Rattle.std.specs.Prelude.{ℕ, List, [], ◌∷◌, ◌++◌}
use Rattle.std.specs.List.{flat_map}
use Rattle.av_trace.specs.declared.note.Note.{Note}
use Rattle.av_trace.specs.declared.reply.Reply.{Reply}
use Rattle.av_trace.specs.declared.row.Row.{Row}
use Rattle.av_text.specs.Word.{field}
use Rattle.av_trace.specs.Note.{note_line}
use Rattle.av_trace.specs.Reply.{answer_line}
use Rattle.av_trace.specs.Row.{row_line}

-- a line, with its newline
abbrev pub whole_line : List ℕ → List ℕ
whole_line text = text ++ 10 ∷ []

-- the lines of what follows an answer, each after a space
abbrev pub notes_text : List Note → List ℕ
notes_text notes = flat_map (λ note. whole_line (field (note_line note))) notes

abbrev pub rows_text : List Row → List ℕ
rows_text rows = flat_map (λ row. whole_line (field (row_line row))) rows

-- the whole text
abbrev pub text_of : Reply → List ℕ
text_of reply =
    whole_line (answer_line reply.answer) ++ notes_text reply.notes ++ rows_text reply.rows
