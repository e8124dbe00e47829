-- A swap area is turned off: first each of its slots in use is emptied.
use Rattle.std.specs.Prelude.{◌≡◌, ℕ, List, [], ◌∷◌, ◌++◌, map, if◌then◌else◌, Some, None}
use Rattle.std.specs.Prelude.{MatchOption}
use Rattle.av_base.specs.Keys.{Key}
use Rattle.av_base.specs.Page.{address_of}
use Rattle.av_base.specs.declared.slot.Slot.{Slot}
use Rattle.av_trace.specs.declared.note.Note.{Note}
use Rattle.av_trace.specs.declared.note.Note.TheVariants.{Loaded, Mapped, Dropped}
use Rattle.av_trace.specs.declared.reply.Answer.{Answer}
use Rattle.av_trace.specs.declared.reply.Answer.TheVariants.{Done, NoFrame, Refused}
use Rattle.av_trace.specs.declared.reply.Errno.TheVariants.{Eio}
use Rattle.av_trace.specs.declared.reply.OutOf.{OutOf}
use Rattle.av_trace.specs.declared.row.Row.{Row}
use Rattle.av_plain.specs.Event.{Event, TurnedOff, after_notes, note_events}
use Rattle.av_plain.specs.Fault.{sparing}
use Rattle.av_plain.specs.Ledger.{Ledger, Setting, frame_at, has_free, keys_of_slot}
use Rattle.av_plain.specs.Ledger.{slots_in_use}
use Rattle.av_plain.specs.Pass.{Completes, Seeks, Spared, TakesFor, out_of}
use Rattle.av_plain.specs.World.{World}

-- a pass leaves the area alone that is closing
abbrev pub sparing_area : World → ℕ → Ledger → Spared
sparing_area w k l = record (sparing w l None) { closing = Some k }

-- ---- one slot

-- the slot's page is in the frame: it is cached there, or the frame takes it from the device
abbrev pub IsFetched : Setting → Spared → Ledger → Slot → ℕ → List Note → Type 0
IsFetched m spared l s f notes = MatchOption (frame_at l s)
    (TakesFor m spared l notes (Loaded s) × (frame_at (after_notes l notes) s ≡ Some f))
    (λ cached. (notes ≡ []) × (f ≡ cached))

-- each entry that names the slot becomes the frame, and the slot is dropped
abbrev pub map_notes : Ledger → Slot → ℕ → List Note
map_notes l s f =
    map (λ (k : Key). Mapped k.0 (address_of k.1) f) (keys_of_slot l s) ++ Dropped s ∷ []

-- a slot is emptied
pub record IsEmptied (m : Setting) (spared : Spared) (l : Ledger) (s : Slot) (notes : List Note)
    : Type 0 where
  pub fetched : List Note
  pub frame : ℕ
  pub fetches : IsFetched m spared l s frame fetched
  pub whole : notes ≡ fetched ++ map_notes (after_notes l fetched) s frame

-- ---- all slots of the area

-- no slot of the area is in use any more; or there is no frame for the next one, or the device did
-- not give its page
pub data Close : Type 0 where
  Closed : Close
  NoRoom : (out : OutOf) → Close
  Unread : Close

-- why the next page can't be had: no frame is free, or one is, and the device did not give it
abbrev pub end_at : Setting → Spared → Ledger → Close
end_at m spared l = if has_free m l then Unread else NoRoom (out_of m spared l)

-- the end, by the slots that are in use still: none, or the least of them can't be fetched
abbrev pub EndsAt : Setting → Spared → ℕ → Ledger → List ℕ → List Note → Close → Type 0
EndsAt m spared k l [] notes end = (notes ≡ []) × (end ≡ Closed)
EndsAt m spared k l (page ∷ pages) notes end =
    (frame_at l (record { area = k; page = page }) ≡ None) × Seeks m spared l notes
    × (end ≡ end_at m spared (after_notes l notes))

-- these slots are emptied: each is the least that is in use in its turn
abbrev pub Empties : Setting → World → ℕ → Ledger → List ℕ → List Note → Close → Type 0
Empties m w k l [] notes end =
    EndsAt m (sparing_area w k l) k l (slots_in_use m l k) notes end
Empties m w k l (page ∷ pages) notes end =
    (others : List ℕ) × (here : List Note) × (rest : List Note)
    × (slots_in_use m l k ≡ page ∷ others) × (notes ≡ here ++ rest)
    × IsEmptied m (sparing_area w k l) l (record { area = k; page = page }) here
    × Empties m w k (after_notes l here) pages rest end

-- ---- the command

-- the area is off in the end, unless a slot of it stays in use
abbrev pub turn_off_events : ℕ → Close → List Event
turn_off_events k Closed = TurnedOff k ∷ []
turn_off_events k end = []

-- the answer
abbrev pub close_answer : Close → Answer
close_answer Closed = Done
close_answer (NoRoom out) = NoFrame out
close_answer Unread = Refused Eio

-- swapoff: all of flight is completed, the slots are emptied, and then the area is off
pub record TurnsOff (m : Setting) (w : World) (l : Ledger) (k : ℕ) (events : List Event)
    (answer : Answer) (rows : List Row) : Type 0 where
  pub done : List Note
  pub pages : List ℕ
  pub notes : List Note
  pub end : Close
  pub completes : Completes l l.flight done
  pub empties : let now = after_notes l done in
      Empties m w k now pages notes end
  pub whole : events ≡ note_events (done ++ notes) ++ turn_off_events k end
  pub answered : answer ≡ close_answer end
  pub no_rows : rows ≡ []
