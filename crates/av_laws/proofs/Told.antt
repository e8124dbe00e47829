-- Commands without events, and those whose events are notes.
use Rattle.std.specs.Prelude.{◌≡◌, true, List, [], Option, Some, None, MatchOption}
use Rattle.std.proofs.Common.{sym, ap, ◌∙◌}
use Rattle.av_trace.specs.declared.command.Command.{Command}
use Rattle.av_trace.specs.declared.command.Command.TheVariants.{Spawn, Fork, Exit, Mmap, Mremap, Munmap, Mprotect, Madvise, Mlock, Munlock, Read, Write, Reclaim, Age, Complete, Swapon, Swapoff, Maps, Areas as AsksAreas, Rmap as AsksRmap, Entry as AsksEntry, Slot as AsksSlot, Stat, Compact, Merge}
use Rattle.av_trace.specs.declared.note.Note.{Note}
use Rattle.av_trace.specs.declared.reply.Answer.{Answer}
use Rattle.av_trace.specs.declared.reply.Errno.{Errno}
use Rattle.av_trace.specs.declared.reply.Reply.{Reply}
use Rattle.av_trace.specs.declared.row.Row.{Row}
use Rattle.av_plain.specs.World.{World}
use Rattle.av_plain.specs.Ledger.{Ledger, Setting}
use Rattle.av_plain.specs.Event.{Event, note_events, notes_of}
use Rattle.av_plain.specs.Refusal.{Refuses, refusal, tests}
use Rattle.av_plain.specs.Step.{Follows, IsLegal}
use Rattle.av_plain.proofs.Access.{notes_of-note_events}
use Rattle.av_laws.specs.Events.{is_told, is_without_events}

-- a refused command has no events; else it goes by what the command does
by_refusal : (Does : Type 0) (events : List Event) (answer : Answer) (rows : List Row) (error : Option Errno)
    → MatchOption error Does (λ e. Refuses e events answer rows) → (Does → events ≡ []) → events ≡ []
by_refusal Does events answer rows None h does = does h
by_refusal Does events answer rows (Some e) h does = h.1

follows_none : (m : Setting) (w : World) (l : Ledger) (command : Command) (events : List Event) (answer : Answer) (rows : List Row)
    → is_without_events command ≡ true → Follows m w l command events answer rows → events ≡ []
follows_none m w l (Spawn p) events answer rows is h = h.1
follows_none m w l (Fork p q) events answer rows is h = absurd cc
follows_none m w l (Exit p) events answer rows is h = absurd cc
follows_none m w l (Mmap p len prot place) events answer rows is h = absurd cc
follows_none m w l (Munmap p a len) events answer rows is h = absurd cc
follows_none m w l (Mprotect p a len prot) events answer rows is h = h.1
follows_none m w l (Mremap p a old new mode) events answer rows is h = absurd cc
follows_none m w l (Madvise p a len advice) events answer rows is h = absurd cc
follows_none m w l (Mlock p a len) events answer rows is h = absurd cc
follows_none m w l (Munlock p a len) events answer rows is h = absurd cc
follows_none m w l (Read p a n) events answer rows is h = absurd cc
follows_none m w l (Write p a bytes) events answer rows is h = absurd cc
follows_none m w l (Reclaim n) events answer rows is h = absurd cc
follows_none m w l (Age n) events answer rows is h = absurd cc
follows_none m w l (Complete n) events answer rows is h = absurd cc
follows_none m w l (Swapon k priority) events answer rows is h = absurd cc
follows_none m w l (Swapoff k) events answer rows is h = absurd cc
follows_none m w l Merge events answer rows is h = absurd cc
follows_none m w l Compact events answer rows is h = absurd cc
follows_none m w l (Maps p) events answer rows is h = h.2
follows_none m w l (AsksAreas p) events answer rows is h = h.2
follows_none m w l (AsksRmap p a) events answer rows is h = h.1
follows_none m w l (AsksEntry p a) events answer rows is h = h.1
follows_none m w l (AsksSlot k page) events answer rows is h = h.1
follows_none m w l Stat events answer rows is h = h.1

pub no_event : (m : Setting) (w : World) (l : Ledger) (command : Command) (reply : Reply) (events : List Event)
    → is_without_events command ≡ true → IsLegal m w l command reply events → events ≡ []
no_event m w l command reply events is legal =
    by_refusal (Follows m w l command events reply.answer reply.rows) events reply.answer reply.rows
    (refusal (tests m w l command)) legal.answer (follows_none m w l command events reply.answer reply.rows is)

-- events that are notes are those of the notes that they tell
told : (events : List Event) (notes : List Note) → events ≡ note_events notes → events ≡ note_events (notes_of events)
told events notes e = e ∙ ap note_events (sym (notes_of-note_events notes)) ∙ ap (λ es. note_events (notes_of es)) (sym e)

none_told : (events : List Event) → events ≡ [] → events ≡ note_events (notes_of events)
none_told events e = told events [] e

told_or_refused : (Does : Type 0) (events : List Event) (answer : Answer) (rows : List Row) (error : Option Errno)
    → MatchOption error Does (λ e. Refuses e events answer rows) → (Does → events ≡ note_events (notes_of events))
    → events ≡ note_events (notes_of events)
told_or_refused Does events answer rows None h does = does h
told_or_refused Does events answer rows (Some e) h does = none_told events h.1

follows_told : (m : Setting) (w : World) (l : Ledger) (command : Command) (events : List Event) (answer : Answer) (rows : List Row)
    → is_told command ≡ true → Follows m w l command events answer rows → events ≡ note_events (notes_of events)
follows_told m w l (Spawn p) events answer rows is h = absurd cc
follows_told m w l (Fork p q) events answer rows is h = absurd cc
follows_told m w l (Exit p) events answer rows is h = absurd cc
follows_told m w l (Mmap p len prot place) events answer rows is h = absurd cc
follows_told m w l (Munmap p a len) events answer rows is h = absurd cc
follows_told m w l (Mprotect p a len prot) events answer rows is h = absurd cc
follows_told m w l (Mremap p a old new mode) events answer rows is h = absurd cc
follows_told m w l (Madvise p a len advice) events answer rows is h = absurd cc
follows_told m w l (Mlock p a len) events answer rows is h = absurd cc
follows_told m w l (Munlock p a len) events answer rows is h = absurd cc
follows_told m w l (Read p a n) events answer rows is h = absurd cc
follows_told m w l (Write p a bytes) events answer rows is h = absurd cc
follows_told m w l (Reclaim n) events answer rows is h = told events h.0 h.3
follows_told m w l (Age n) events answer rows is h = told events _ h.1
follows_told m w l (Complete n) events answer rows is h = told events h.0 h.3
follows_told m w l (Swapon k priority) events answer rows is h = absurd cc
follows_told m w l (Swapoff k) events answer rows is h = absurd cc
follows_told m w l Merge events answer rows is h = told events _ h.2
follows_told m w l Compact events answer rows is h = absurd cc
follows_told m w l (Maps p) events answer rows is h = absurd cc
follows_told m w l (AsksAreas p) events answer rows is h = absurd cc
follows_told m w l (AsksRmap p a) events answer rows is h = absurd cc
follows_told m w l (AsksEntry p a) events answer rows is h = absurd cc
follows_told m w l (AsksSlot k page) events answer rows is h = absurd cc
follows_told m w l Stat events answer rows is h = absurd cc

pub only_notes : (m : Setting) (w : World) (l : Ledger) (command : Command) (reply : Reply) (events : List Event)
    → is_told command ≡ true → IsLegal m w l command reply events → events ≡ note_events reply.notes
only_notes m w l command reply events is legal =
    told_or_refused (Follows m w l command events reply.answer reply.rows) events reply.answer reply.rows
    (refusal (tests m w l command)) legal.answer (follows_told m w l command events reply.answer reply.rows is)
    ∙ ap note_events (sym legal.notes)
