-- A frame's turn in the direct pass, in parts.
use Rattle.std.specs.Prelude.{◌≡◌, ℕ, ◌<◌, Bool, true, false, ◌&&◌, ◌||◌, not, if◌then◌else◌}
use Rattle.std.specs.Prelude.{MatchBool, List, [], ◌∷◌, ◌++◌, filter, Option, Some}
use Rattle.av_base.specs.declared.slot.Slot.{Slot}
use Rattle.av_trace.specs.declared.note.Note.{Note}
use Rattle.av_trace.specs.declared.note.Note.TheVariants.{Dropped, Started}
use Rattle.av_plain.specs.Event.{after_notes}
use Rattle.av_plain.specs.Ledger.{Ledger, Setting, is_stale, map_count}
use Rattle.av_plain.specs.Ledger.{slot_entries, slot_of}
use Rattle.av_plain.specs.Pass.{IsSlotFor, Spared, end_note, has_turn, is_dirty, is_stuck}
use Rattle.av_plain.specs.Pass.{stays_cached, turn_notes}
use Rattle.av_evict.specs.Steps.{IsUsed, MaySend, closes}

-- ---- when a part may be done

-- no write is in flight, and the frame is in use
pub record MayTurn (f : ℕ) (l : Ledger) : Type 0 where
  pub landed : l.flight ≡ []
  pub used : IsUsed f l

-- and it isn't merged
pub record MayTurnNow (f : ℕ) (l : Ledger) : Type 0 where
  pub landed : l.flight ≡ []
  pub send : MaySend f l

-- no write is in flight, and the frame is cached at the slot, which its entries name
pub record IsSentTo (f : ℕ) (s : Slot) (l : Ledger) : Type 0 where
  pub landed : l.flight ≡ []
  pub cached : slot_of l f ≡ Some s
  pub unmapped : map_count l f ≡ 0
  pub named : 0 < slot_entries l s

-- ---- the page is written, and the slot dropped

-- its page was written at once where it was stale; only then can that have failed
abbrev pub IsCleaned : Slot → Bool → Ledger → List Note → Type 0
IsCleaned s failed l notes =
    ((is_stale l s || not failed) ≡ true)
    × (notes ≡ (if is_stale l s then Started s ∷ end_note failed s ∷ [] else []))

-- and it was dropped unless that failed
abbrev pub IsEvicted : Slot → Bool → Ledger → List Note → Type 0
IsEvicted s true l notes =
    (failed : Bool) × (written : List Note) × ((is_stale l s && failed) ≡ false)
    × IsCleaned s failed l written × (notes ≡ written ++ Dropped s ∷ [])
IsEvicted s false l notes = IsCleaned s true l notes

-- ---- a turn

-- these frames had their turns, in vain: there was no slot, or the write failed
abbrev pub InVain : Setting → Option ℕ → Ledger → List ℕ → List Note → Type 0
InVain m closing l [] notes = notes ≡ []
InVain m closing l (f ∷ fs) notes = MatchBool (is_stuck m (closes closing) l f)
    (InVain m closing l fs notes)
    ((s : Slot) × (rest : List Note) × IsSlotFor m (closes closing) l f s
    × (is_dirty l f s ≡ true) × (notes ≡ turn_notes l f s true ++ rest)
    × InVain m closing (after_notes l (turn_notes l f s true)) fs rest)

-- the frame had its turn, and is free
pub record Frees (m : Setting) (closing : Option ℕ) (f : ℕ) (l : Ledger) (notes : List Note)
    : Type 0 where
  pub slot : Slot
  pub failed : Bool
  pub unstuck : is_stuck m (closes closing) l f ≡ false
  pub for : IsSlotFor m (closes closing) l f slot
  pub written : stays_cached l f slot failed ≡ false
  pub whole : notes ≡ turn_notes l f slot failed ++ Dropped slot ∷ []

-- one or the other
abbrev pub IsTurn : Setting → Option ℕ → ℕ → Bool → Ledger → List Note → Type 0
IsTurn m closing f true l notes = Frees m closing f l notes
IsTurn m closing f false l notes = InVain m closing l (f ∷ []) notes

-- those of the frames that have a turn
abbrev pub with_turn : Spared → Ledger → List ℕ → List ℕ
with_turn spared l fs = filter (has_turn spared l) fs

-- the turn of a frame, if it has one
abbrev pub IsTurnIfAny : Setting → Spared → ℕ → Bool → Ledger → List Note → Type 0
IsTurnIfAny m spared f true l notes =
    (has_turn spared l f ≡ true) × Frees m spared.closing f l notes
IsTurnIfAny m spared f false l notes = InVain m spared.closing l (with_turn spared l (f ∷ [])) notes
