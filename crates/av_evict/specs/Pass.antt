-- The search for a free frame: a direct pass where none is free, and then a free frame, or the
-- numbers that say why there is none.
use Rattle.std.specs.List.{Contains}
use Rattle.std.specs.Prelude.{◌≡◌, ℕ, ◌<◌, ◌≤◌, true, false}
use Rattle.std.specs.Prelude.{List, [], ◌++◌, reverse, slice_get, Some, None}
use Rattle.av_base.specs.declared.slot.Slot.{Slot}
use Rattle.av_trace.specs.declared.note.Note.{Note}
use Rattle.av_trace.specs.declared.note.Note.TheVariants.{Failed}
use Rattle.av_trace.specs.declared.reply.OutOf.{OutOf}
use Rattle.av_plain.specs.Event.{after_notes}
use Rattle.av_plain.specs.Ledger.{Ledger, Setting, has_free, is_free, slot_of}
use Rattle.av_plain.specs.Pass.{Completes, IsPass, Spared, Turns, fails, frames_in_turn, has_turn}
use Rattle.av_plain.specs.Pass.{out_of}
use Rattle.av_evict.specs.declared.pass.SeekEnd.{SeekEnd}
use Rattle.av_evict.specs.declared.pass.SeekEnd.TheVariants.{Frame, Out}
use Rattle.av_evict.specs.Turn.{InVain}

-- ---- turns

-- the frames in use, in the order of their turns
abbrev pub turn_order : Ledger → List ℕ
turn_order l = reverse l.inactive ++ reverse l.active

-- no write is in flight
abbrev pub IsLanded : Ledger → Type 0
IsLanded l = l.flight ≡ []

-- the frames had their turns until one was free; where none is, all had theirs, in vain
pub record AreTurns (m : Setting) (spared : Spared) (l : Ledger) (notes : List Note) : Type 0 where
  pub turns : Turns m spared l (frames_in_turn spared l) notes
  pub vain : has_free m (after_notes l notes) ≡ false
      → InVain m spared.closing l (frames_in_turn spared l) notes

-- ---- a pass

-- flight was completed, and no frame was free; then all frames had their turns, in vain
pub record AllInVain (m : Setting) (spared : Spared) (l : Ledger) (notes : List Note) : Type 0 where
  pub done : List Note
  pub turns : List Note
  pub whole : notes ≡ done ++ turns
  pub completes : Completes l l.flight done
  pub full : has_free m (after_notes l done) ≡ false
  pub vain : let now = after_notes l done in
      InVain m spared.closing now (frames_in_turn spared now) turns

-- a pass, in vain where no frame is free then
pub record IsPassed (m : Setting) (spared : Spared) (l : Ledger) (notes : List Note) : Type 0 where
  pub pass : IsPass m spared l notes
  pub vain : has_free m (after_notes l notes) ≡ false → AllInVain m spared l notes

-- ---- how the search ends

-- why there is no free frame, by the numbers of what is pinned, locked, merged, not cached, and
-- cached: each frame that is cached and has a turn has a `fail` of its slot among these notes
pub record IsOut (m : Setting) (spared : Spared) (out : OutOf) (l : Ledger)
    (notes : List Note) : Type 0 where
  pub none : has_free m (after_notes l notes) ≡ false
  pub numbers : out ≡ out_of m spared (after_notes l notes)
  pub failed : out.fault ≤ fails notes
  pub each : (f : ℕ) (s : Slot) → f < m.frames → has_turn spared (after_notes l notes) f ≡ true
      → slot_of (after_notes l notes) f ≡ Some s → Contains notes (Failed s)

-- this frame is free after the notes, or none is, and why
abbrev pub IsEnd : Setting → Spared → SeekEnd → Ledger → List Note → Type 0
IsEnd m spared (Frame f) l notes =
    (f < m.frames) × (is_free (after_notes l notes) f ≡ true)
IsEnd m spared (Out out) l notes = IsOut m spared out l notes

-- it is the frame that is taken next, or there is none
abbrev pub IsNext : SeekEnd → List ℕ → Type 0
IsNext (Frame f) free = slice_get free 0 ≡ Some f
IsNext (Out out) free = slice_get free 0 ≡ None
