-- What a step of swap asks of the ledger.
use Rattle.std.specs.Prelude.{◌≡◌, ◌||◌, nat_lt, ◌⊎◌, ℕ, ◌+◌, ◌<◌, ◌≤◌, false, true}
use Rattle.std.specs.Prelude.{None}
use Rattle.av_base.specs.declared.slot.Slot.{Slot}
use Rattle.av_plain.specs.Fault.{is_named}
use Rattle.av_plain.specs.Ledger.{Ledger, in_flight, is_free, is_stale, map_count, slot_entries}
use Rattle.av_plain.specs.Ledger.{slot_of}
use Rattle.av_plain.specs.Sound.{holders, mergings, slots}

-- each slot is cached once at most, and so is each frame, or it is merged once; and an entry names
-- a merged frame
pub record AreOnce (l : Ledger) : Type 0 where
  pub slots_once : (s : Slot) → slots l s ≤ 1
  pub frames_once : (f : ℕ) → holders l f + mergings l f ≤ 1
  pub merged : (f : ℕ) → mergings l f ≤ map_count l f

-- a frame may be cached at a slot, so that its page goes out: nothing names the slot or caches it,
-- and an entry names the frame, which isn't merged
pub record MayGoOut (l : Ledger) (f : ℕ) (s : Slot) : Type 0 where
  pub absent : slots l s ≡ 0
  pub unnamed : slot_entries l s ≡ 0
  pub unmerged : mergings l f ≡ 0
  pub used : 0 < map_count l f

-- a slot's page may come in to a frame: the slot is not cached, and the frame is free
pub record MayComeIn (l : Ledger) (f : ℕ) (s : Slot) : Type 0 where
  pub absent : slots l s ≡ 0
  pub free : is_free l f ≡ true

-- a copy of the frame leaves it in use: another entry names it, or an entry names its slot
abbrev pub KeepsUse : Ledger → ℕ → Type 0
KeepsUse l g = (nat_lt 1 (map_count l g) || is_named l (slot_of l g)) ≡ true

-- a copy of the frame leaves it free: no other entry names it, and it isn't cached
abbrev pub LosesUse : Ledger → ℕ → Type 0
LosesUse l g = (map_count l g ≡ 1) × (slot_of l g ≡ None)

-- a slot may leave the cache: no entry names it, or its page is on the device
abbrev pub MayLeave : Ledger → Slot → Type 0
MayLeave l s = (slot_entries l s ≡ 0) ⊎ ((is_stale l s ≡ false) × (in_flight l s ≡ false))

-- as many entries name each frame and slot; cache, flight, lists, merged frames and swap areas are
-- as they were
pub record IsAlike (l new : Ledger) : Type 0 where
  pub maps : (f : ℕ) → map_count new f ≡ map_count l f
  pub names : (s : Slot) → slot_entries new s ≡ slot_entries l s
  pub cache : new.cache ≡ l.cache
  pub flight : new.flight ≡ l.flight
  pub active : new.active ≡ l.active
  pub inactive : new.inactive ≡ l.inactive
  pub merged : new.merged ≡ l.merged
  pub on : new.on ≡ l.on
