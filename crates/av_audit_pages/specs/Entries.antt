-- Entries and cached pairs, as the ledger has them.
use Rattle.std.specs.Prelude.{ℕ, Bool, List, map, not, ◌&&◌, ◌==◌, if◌then◌else◌}
use Rattle.av_base.specs.Words.{renamed}
use Rattle.av_base.specs.declared.slot.Slot.{Slot}
use Rattle.av_base.specs.Keys.{Key}
use Rattle.av_plain.specs.Ledger.{Entry as PlainEntry, Zero as PlainZero, InFrame as PlainInFrame}
use Rattle.av_plain.specs.Ledger.{InSlot as PlainInSlot, Cached as PlainCached, same_slot}
use Rattle.av_audit_pages.specs.declared.entries.Cached.{Cached}
use Rattle.av_audit_pages.specs.declared.entries.Entry.{Entry}
use Rattle.av_audit_pages.specs.declared.entries.Entry.TheVariants.{Zero, InFrame, InSlot}
use Rattle.av_audit_pages.specs.declared.changes.Change.{Change}
use Rattle.av_audit_pages.specs.declared.changes.Change.TheVariants.{Unseen, ToSlot, ToFrame}
use Rattle.av_audit_pages.specs.declared.changes.PairChange.{PairChange}
use Rattle.av_audit_pages.specs.declared.changes.PairChange.TheVariants.{Stale, Frame}

abbrev pub entry_of : Entry → PlainEntry
entry_of Zero = PlainZero
entry_of (InFrame f seen) = PlainInFrame f seen
entry_of (InSlot s) = PlainInSlot s

-- the entry, unseen where it names the frame
abbrev pub without_seen_of : ℕ → Entry → Entry
without_seen_of f Zero = Zero
without_seen_of f (InFrame g seen) = InFrame g (not (f == g) && seen)
without_seen_of f (InSlot s) = InSlot s

-- the slot in place of the frame
abbrev pub with_slot : ℕ → Slot → Entry → Entry
with_slot f s Zero = Zero
with_slot f s (InFrame g seen) = if f == g then InSlot s else InFrame g seen
with_slot f s (InSlot t) = InSlot t

-- the frame at its place
abbrev pub with_frame_at : ℕ → ℕ → Entry → Entry
with_frame_at from to Zero = Zero
with_frame_at from to (InFrame f seen) = InFrame (renamed from to f) seen
with_frame_at from to (InSlot s) = InSlot s

abbrev pub entries_of : List (Key × Entry) → List (Key × PlainEntry)
entries_of es = map (λ e. (e.0, entry_of e.1)) es

abbrev pub cached_of : Cached → PlainCached
cached_of c = record { slot = c.slot; frame = c.frame; stale = c.stale }

-- the pair, stale or not where it is of the slot
abbrev pub stale_at : Bool → Slot → PlainCached → PlainCached
stale_at stale s c = if same_slot s c.slot then record c { stale = stale } else c

-- the pair, with the frame at its place
abbrev pub cached_with_frame_at : ℕ → ℕ → PlainCached → PlainCached
cached_with_frame_at from to c = record c { frame = renamed from to c.frame }

-- the entry, changed where it names the frame
abbrev pub changed_at : ℕ → Change → Entry → Entry
changed_at f Unseen = without_seen_of f
changed_at f (ToSlot s) = with_slot f s
changed_at f (ToFrame to) = with_frame_at f to

-- the pair, changed where it is of the slot or at the frame
abbrev pub changed_pair : PairChange → Cached → Cached
changed_pair (Stale s stale) c = if same_slot s c.slot then record c { stale = stale } else c
changed_pair (Frame from to) c = record c { frame = renamed from to c.frame }
