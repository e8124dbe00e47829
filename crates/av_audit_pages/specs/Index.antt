-- What is kept of frames and slots beside the entries and the cached pairs.
use Rattle.std.specs.Prelude.{◌≡◌, ℕ, ◌+◌, ◌-◌, ◌<◌, ◌^◌, Bool, false, ◌==◌, List, Option, Some}
use Rattle.std.specs.Prelude.{None, if◌then◌else◌, option_and_then}
use Rattle.av_base.specs.Keys.{Key, same_key}
use Rattle.av_base.specs.Words.{how_many}
use Rattle.av_base.specs.declared.slot.Slot.{Slot}
use Rattle.av_audit_index.specs.Holders.{pairs_at, seen_at}
use Rattle.av_plain.specs.Ledger.{Cached, Entry, names_frame, names_slot, same_slot}
use Rattle.av_plain.specs.Reclaim.{names_seen}
use Rattle.av_audit_pages.specs.SlotHolders.{one, slot_pairs_at, slot_seen_at}
use Rattle.av_audit_pages.specs.declared.index.Index.{Index}

-- what the second test says of an entry that passes the first
abbrev pub told : (Entry → Bool) → (Entry → Bool) → Option Entry → Option Bool
told names seen o = option_and_then (λ e. if names e then Some (seen e) else None) o

-- each frame has the key where the entry names it, seen or not, and so has each slot
pub record Tells (i : Index) (k : Key) (o : Option Entry) : Type 0 where
  pub frames : (f : ℕ) → seen_at i.frames f k ≡ told (names_frame f) (names_seen f) o
  pub slots : (s : Slot) → slot_seen_at i.slots s k ≡ told (names_slot s) (λ e. false) o

-- the others of a key stay
pub record KeepsOthers (i j : Index) (key : Key) : Type 0 where
  pub frames : (f : ℕ) (k : Key) → same_key key k ≡ false
      → seen_at j.frames f k ≡ seen_at i.frames f k
  pub slots : (s : Slot) (k : Key) → same_key key k ≡ false
      → slot_seen_at j.slots s k ≡ slot_seen_at i.slots s k

-- each key stays
pub record KeepsKeys (i j : Index) : Type 0 where
  pub frames : (f : ℕ) (k : Key) → seen_at j.frames f k ≡ seen_at i.frames f k
  pub slots : (s : Slot) (k : Key) → slot_seen_at j.slots s k ≡ slot_seen_at i.slots s k

-- the pairs of each frame and slot stay
pub record KeepsPairs (i j : Index) : Type 0 where
  pub frames : (f : ℕ) → pairs_at j.frames f ≡ pairs_at i.frames f
  pub slots : (s : Slot) → slot_pairs_at j.slots s ≡ slot_pairs_at i.slots s

-- one pair more
pub record AddsPair (i j : Index) (c : Cached) : Type 0 where
  pub frames : (f : ℕ) → pairs_at j.frames f ≡ pairs_at i.frames f + one (f == c.frame)
  pub slots : (s : Slot)
      → slot_pairs_at j.slots s ≡ slot_pairs_at i.slots s + one (same_slot s c.slot)

-- and one less
pub record TakesPair (i j : Index) (c : Cached) : Type 0 where
  pub frames : (f : ℕ) → pairs_at j.frames f ≡ pairs_at i.frames f - one (f == c.frame)
  pub slots : (s : Slot)
      → slot_pairs_at j.slots s ≡ slot_pairs_at i.slots s - one (same_slot s c.slot)

-- one pair more can be counted
pub record HasRoom (i : Index) : Type 0 where
  pub frames : (f : ℕ) → pairs_at i.frames f < 2 ^ 64 - 1
  pub slots : (s : Slot) → slot_pairs_at i.slots s < 2 ^ 64 - 1

-- so many pairs cache at each frame, and cache each slot
pub record CountsPairs (i : Index) (cs : List Cached) : Type 0 where
  pub frames : (f : ℕ) → pairs_at i.frames f ≡ how_many (λ (c : Cached). f == c.frame) cs
  pub slots : (s : Slot)
      → slot_pairs_at i.slots s ≡ how_many (λ (c : Cached). same_slot s c.slot) cs
