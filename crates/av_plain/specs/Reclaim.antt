-- Pages go to their slots ahead of need: frames are reclaimed and aged, and writes in flight are
-- completed.
use Rattle.std.specs.List.{list_any}
use Rattle.std.specs.Prelude.{◌≡◌, ℕ, Bool, false, ◌&&◌, ◌==◌, if◌then◌else◌, List, [], ◌∷◌, ◌++◌}
use Rattle.std.specs.Prelude.{map, reverse, take, Option, Some, None, MatchOption}
use Rattle.av_base.specs.Keys.{Key}
use Rattle.av_base.specs.declared.slot.Slot.{Slot}
use Rattle.av_trace.specs.declared.note.Cause.{Cause}
use Rattle.av_trace.specs.declared.note.Cause.TheVariants.{Writeback, Referenced, NoSlot}
use Rattle.av_trace.specs.declared.note.Cause.TheVariants.{Ksm, Locked, WriteStarted}
use Rattle.av_trace.specs.declared.note.Note.{Note}
use Rattle.av_trace.specs.declared.note.Note.TheVariants.{Started, Dropped, Kept, Aged}
use Rattle.av_trace.specs.declared.reply.Answer.{Answer}
use Rattle.av_trace.specs.declared.reply.Answer.TheVariants.{Done}
use Rattle.av_trace.specs.declared.row.Row.{Row}
use Rattle.av_plain.specs.Event.{Event, after_notes, note_events}
use Rattle.av_plain.specs.Fault.{sparing}
use Rattle.av_plain.specs.Ledger.{Entry, InFrame, InSlot, Ledger, Setting, Zero, in_flight}
use Rattle.av_plain.specs.Ledger.{is_merged, slot_of}
use Rattle.av_plain.specs.Pass.{Completes, IsSlotFor, Spared, is_dirty, is_stuck, unmap_notes}
use Rattle.av_plain.specs.Tests.{first_test}
use Rattle.av_plain.specs.World.{World}

-- the last n of a list, from its tail
abbrev pub from_tail : ℕ → List ℕ → List ℕ
from_tail n fs = take n (reverse fs)

-- ---- why a frame is kept

-- whether the entry names the frame and was seen
abbrev pub names_seen : ℕ → Entry → Bool
names_seen f Zero = false
names_seen f (InFrame g seen) = f == g && seen
names_seen f (InSlot s) = false

-- an entry of the frame is seen
abbrev pub is_referenced : Ledger → ℕ → Bool
is_referenced l f = list_any (λ (e : Key × Entry). names_seen f e.1) l.entries

-- there is a slot, and its write is in flight
abbrev pub is_in_writeback : Ledger → Option Slot → Bool
is_in_writeback l None = false
is_in_writeback l (Some s) = in_flight l s

-- why a frame is kept before it is touched: the first of five tests that holds
abbrev pub cause_of : Setting → Spared → Ledger → ℕ → Option Cause
cause_of m spared l f = first_test (
    (spared.locked f, Locked) ∷ (is_merged l f, Ksm)
    ∷ (is_in_writeback l (slot_of l f), Writeback) ∷ (is_referenced l f, Referenced)
    ∷ (is_stuck m spared l f, NoSlot) ∷ [])

-- ---- reclaim

-- a frame goes to its slot: it is unmapped, and then it is free, or its write begins where it is
-- dirty
abbrev pub leave_notes : Ledger → ℕ → Slot → List Note
leave_notes l f s = unmap_notes l f s
    ++ (if is_dirty l f s then Started s ∷ Kept f WriteStarted ∷ [] else Dropped s ∷ [])

-- what becomes of one frame
abbrev pub Outcome : Setting → Spared → Ledger → ℕ → List Note → Type 0
Outcome m spared l f notes = MatchOption (cause_of m spared l f)
    ((s : Slot) × IsSlotFor m spared l f s × (notes ≡ leave_notes l f s))
    (λ cause. notes ≡ Kept f cause ∷ [])

-- what becomes of each of some frames, by what those before it left
abbrev pub Outcomes : Setting → Spared → Ledger → List ℕ → List Note → Type 0
Outcomes m spared l [] notes = notes ≡ []
Outcomes m spared l (f ∷ fs) notes =
    (here : List Note) × (rest : List Note) × (notes ≡ here ++ rest) × Outcome m spared l f here
    × Outcomes m spared (after_notes l here) fs rest

-- reclaim: the last n of inactive, from the tail
abbrev pub Reclaims : Setting → World → Ledger → ℕ → List Event → Answer → List Row → Type 0
Reclaims m w l n events answer rows =
    (notes : List Note) × Outcomes m (sparing w l None) l (from_tail n l.inactive) notes
    × (answer ≡ Done) × (events ≡ note_events notes) × (rows ≡ [])

-- ---- age and complete

-- age: the last n of active, from the tail
abbrev pub Ages : Ledger → ℕ → List Event → Answer → List Row → Type 0
Ages l n events answer rows =
    (answer ≡ Done) × (events ≡ note_events (map Aged (from_tail n l.active))) × (rows ≡ [])

-- complete: the first n writes in flight
abbrev pub CompletesFirst : Ledger → ℕ → List Event → Answer → List Row → Type 0
CompletesFirst l n events answer rows =
    (notes : List Note) × Completes l (take n l.flight) notes
    × (answer ≡ Done) × (events ≡ note_events notes) × (rows ≡ [])
