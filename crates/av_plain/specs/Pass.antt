-- Eviction: writes to slots that end, and the direct pass over all frames where none is free. And
-- what an out-of-memory says.
use Rattle.std.specs.Prelude.{◌≡◌, ℕ, ◌<◌, Bool, true, false, not, ◌&&◌, ◌||◌, ◌==◌, if◌then◌else◌}
use Rattle.std.specs.Prelude.{IsTrue, MatchBool, List, [], ◌∷◌, ◌++◌, filter, reverse, Option}
use Rattle.std.specs.Prelude.{Some, None, is_some, is_none, MatchOption, filter_map}
use Rattle.av_base.specs.Words.{how_many}
use Rattle.std.specs.List.{range_with_len}
use Rattle.av_base.specs.declared.slot.Slot.{Slot}
use Rattle.av_trace.specs.declared.reply.OutOf.{OutOf}
use Rattle.av_trace.specs.declared.note.Note.{Note}
use Rattle.av_trace.specs.declared.note.Note.TheVariants.{Put, Unmapped, Started, Written, Failed}
use Rattle.av_trace.specs.declared.note.Note.TheVariants.{Dropped}
use Rattle.av_plain.specs.Ledger.{Ledger, Setting, map_count, slot_of, is_free, is_stale, is_orphan}
use Rattle.av_plain.specs.Ledger.{has_free, is_merged, no_slot, may_give}
use Rattle.av_plain.specs.Event.{after_note, after_notes, when}

-- ---- writes in flight

-- how the write of a slot ends
abbrev pub end_note : Bool → Slot → Note
end_note true s = Failed s
end_note false s = Written s

-- it ends, well or not, and a slot that it leaves as an orphan is dropped
abbrev pub end_notes : Ledger → Slot → Bool → List Note
end_notes l s failed =
    end_note failed s ∷ when (is_orphan (after_note (end_note failed s) l) s) (Dropped s)

-- completion: the writes of these slots end, in order
abbrev pub Completes : Ledger → List Slot → List Note → Type 0
Completes l [] notes = notes ≡ []
Completes l (s ∷ slots) notes =
    (failed : Bool) × (rest : List Note) × (notes ≡ end_notes l s failed ++ rest)
    × Completes (after_notes l (end_notes l s failed)) slots rest

-- a write to a slot that failed
abbrev pub is_fail : Note → Bool
is_fail (Failed s) = true
is_fail _ = false

-- how many writes to slots failed
abbrev pub fails : List Note → ℕ
fails notes = how_many is_fail notes

-- the page that a note tells was to be written, well or not
abbrev pub page_written : Note → Option Slot
page_written (Written s) = Some s
page_written (Failed s) = Some s
page_written _ = None

-- those of all notes, in order
abbrev pub pages_written : List Note → List Slot
pages_written notes = filter_map page_written notes

-- ---- a frame goes to its slot

-- what a pass leaves alone, beside merged frames: the frame that is about to be copied, if there is
-- one; frames of locked pages; and the swap area that a swapoff is closing
pub record Spared : Type 0 where
  pub pinned : Option ℕ
  pub locked : ℕ → Bool
  pub closing : Option ℕ

-- whether it is the frame that is about to be copied
abbrev pub is_pinned : Option ℕ → ℕ → Bool
is_pinned None f = false
is_pinned (Some pinned) f = pinned == f

-- whether a pass leaves the frame alone
abbrev pub is_spared : Spared → ℕ → Bool
is_spared spared f = is_pinned spared.pinned f || spared.locked f

-- s is where the frame is cached or, where it isn't, a slot that may be given
abbrev pub IsSlotFor : Setting → Spared → Ledger → ℕ → Slot → Type 0
IsSlotFor m spared l f s =
    MatchOption (slot_of l f) (IsTrue (may_give m spared.closing l s)) (λ t. s ≡ t)

-- the frame is cached at s, and has no entry any more
abbrev pub unmap_notes : Ledger → ℕ → Slot → List Note
unmap_notes l f s =
    when (is_none (slot_of l f)) (Put f s) ++ when (not (map_count l f == 0)) (Unmapped f)

-- it isn't cached, and there is no slot for it
abbrev pub is_stuck : Setting → Spared → Ledger → ℕ → Bool
is_stuck m spared l f = is_none (slot_of l f) && no_slot m spared.closing l

-- whether a frame cached at s is stale; it is as soon as it is put there
abbrev pub is_dirty : Ledger → ℕ → Slot → Bool
is_dirty l f s = is_none (slot_of l f) || is_stale l s

-- ---- the direct pass

-- a frame's turn: it is unmapped, and written at once where it is dirty
abbrev pub turn_notes : Ledger → ℕ → Slot → Bool → List Note
turn_notes l f s failed =
    unmap_notes l f s ++ (if is_dirty l f s then Started s ∷ end_note failed s ∷ [] else [])

-- it stays cached only where it was dirty and its write failed
abbrev pub stays_cached : Ledger → ℕ → Slot → Bool → Bool
stays_cached l f s failed = is_dirty l f s && failed

-- the frames in turn, up to the first that becomes free
abbrev pub Turns : Setting → Spared → Ledger → List ℕ → List Note → Type 0
Turns m spared l [] notes = notes ≡ []
Turns m spared l (f ∷ fs) notes = MatchBool (is_stuck m spared l f)
    (Turns m spared l fs notes)
    ((s : Slot) × (failed : Bool) × IsSlotFor m spared l f s
    × MatchBool (stays_cached l f s failed)
    ((rest : List Note) × (notes ≡ turn_notes l f s failed ++ rest)
    × Turns m spared (after_notes l (turn_notes l f s failed)) fs rest)
    (notes ≡ turn_notes l f s failed ++ Dropped s ∷ []))

-- whether a pass goes over the frame: it isn't left alone, and isn't merged
abbrev pub has_turn : Spared → Ledger → ℕ → Bool
has_turn spared l f = not (is_spared spared f) && not (is_merged l f)

-- the frames that have a turn: inactive from its tail, then active from its tail
abbrev pub frames_in_turn : Spared → Ledger → List ℕ
frames_in_turn spared l = filter (has_turn spared l) (reverse l.inactive ++ reverse l.active)

-- all of flight is completed; where no frame is free then, the frames have their turns
abbrev pub IsPass : Setting → Spared → Ledger → List Note → Type 0
IsPass m spared l notes =
    (done : List Note) × (turns : List Note) × (notes ≡ done ++ turns) × Completes l l.flight done
    × (let now = after_notes l done in
    MatchBool (has_free m now) (turns ≡ []) (Turns m spared now (frames_in_turn spared now) turns))

-- what comes before a frame is taken: a pass exactly where none is free
abbrev pub Seeks : Setting → Spared → Ledger → List Note → Type 0
Seeks m spared l notes = MatchBool (has_free m l) (notes ≡ []) (IsPass m spared l notes)

-- ---- a frame is taken, or there is none

-- a note that names a frame which is free, behind the pass if there is one
pub record TakesFor (m : Setting) (spared : Spared) (l : Ledger) (notes : List Note)
    (note : ℕ → Note) : Type 0 where
  pub sought : List Note
  pub frame : ℕ
  pub seeks : Seeks m spared l sought
  pub in_range : frame < m.frames
  pub free : IsTrue (is_free (after_notes l sought) frame)
  pub whole : notes ≡ sought ++ note frame ∷ []

-- how many frames of the machine pass the test
abbrev pub how_many_frames : Setting → (ℕ → Bool) → ℕ
how_many_frames m test = how_many test (range_with_len 0 m.frames)

-- the numbers of an out-of-memory: a frame that is pinned; of the others those that are locked; of
-- the rest those that are merged; and of what is left those that aren't cached, and those that are
abbrev pub out_of : Setting → Spared → Ledger → OutOf
out_of m spared l = record {
  pinned = if is_some spared.pinned then 1 else 0;
  noslot = how_many_frames m (λ f. has_turn spared l f && is_none (slot_of l f));
  fault = how_many_frames m (λ f. has_turn spared l f && is_some (slot_of l f));
  locked = how_many_frames m (λ f. not (is_pinned spared.pinned f) && spared.locked f);
  ksm = how_many_frames m (λ f. not (is_spared spared f) && is_merged l f);
}
