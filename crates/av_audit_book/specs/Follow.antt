-- Notes by what they tell of.
use Rattle.std.specs.Prelude.{Bool, true, false}
use Rattle.av_trace.specs.declared.note.Note.{Note}
use Rattle.av_trace.specs.declared.note.Note.TheVariants.{Zeroed, New, Copied, Mapped}
use Rattle.av_trace.specs.declared.note.Note.TheVariants.{Joined}

-- whether the note tells what entry a page gets
abbrev pub tells_page : Note → Bool
tells_page (Zeroed p a) = true
tells_page (New p a f) = true
tells_page (Copied p a f) = true
tells_page (Mapped p a f) = true
tells_page (Joined p a f) = true
tells_page note = false
