-- What is said of the frames of locked pages.
use Rattle.std.specs.Prelude.{◌≡◌, ℕ, Bool, true, false, ◌==◌, ◌&&◌, List, [], ◌∷◌}
use Rattle.av_base.specs.Keys.{Key}
use Rattle.av_base.specs.Page.{page_of, pages_met}
use Rattle.av_base.specs.Words.{renamed}
use Rattle.av_trace.specs.declared.command.Command.{Command}
use Rattle.av_trace.specs.declared.command.Command.TheVariants.{Compact, Exit, Mlock, Mmap, Mremap}
use Rattle.av_trace.specs.declared.command.Command.TheVariants.{Munmap}
use Rattle.av_trace.specs.declared.note.Note.{Note}
use Rattle.av_trace.specs.declared.note.Note.TheVariants.{Copied, Moved, Unmapped}
use Rattle.av_plain.specs.Event.{Event, Noted, after}
use Rattle.av_plain.specs.Fault.{is_locked}
use Rattle.av_plain.specs.Ledger.{Ledger}
use Rattle.av_plain.specs.Lock.{with_lock}
use Rattle.av_plain.specs.World.{World}

-- the memories with the locks by which the events of a command come: an mlock locks first
abbrev pub memories_in : World → Command → World
memories_in w (Mlock p a len) = with_lock true w p (page_of a) (pages_met a len)
memories_in w command = w

-- an event unmaps no frame of a locked page, by the ledger before it
abbrev pub SparesLocked : World → Ledger → Event → Type 0
SparesLocked w l (Noted (Unmapped f)) = is_locked w l f ≡ false
SparesLocked w l event = Unit {0}

-- and so several, one after another
abbrev pub AllSpareLocked : World → Ledger → List Event → Type 0
AllSpareLocked w l [] = Unit {0}
AllSpareLocked w l (e ∷ es) = SparesLocked w l e × AllSpareLocked w (after l e) es

-- whether the page is copied
abbrev pub is_copy_of : Key → Note → Bool
is_copy_of k (Copied p a f) = p == k.0 && page_of a == k.1
is_copy_of k note = false

-- whether a command takes pages of the process away, moves them, or maps others in their place
abbrev pub takes_pages_of : ℕ → Command → Bool
takes_pages_of p (Exit q) = q == p
takes_pages_of p (Mmap q len prot place) = q == p
takes_pages_of p (Munmap q a len) = q == p
takes_pages_of p (Mremap q a old new mode) = q == p
takes_pages_of p command = false

-- where a frame is after some notes, of which some may move it
abbrev pub frame_after : List Note → ℕ → ℕ
frame_after [] f = f
frame_after (Moved from to ∷ notes) f = frame_after notes (renamed from to f)
frame_after (note ∷ notes) f = frame_after notes f

-- whether a command moves frames
abbrev pub moves_frames : Command → Bool
moves_frames Compact = true
moves_frames command = false
