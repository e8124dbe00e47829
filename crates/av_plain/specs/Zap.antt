-- Entries of a range go, one by one: a process exits, or a range is unmapped or mapped anew.
use Rattle.std.specs.Prelude.{ℕ, ◌==◌, List, [], ◌∷◌, ◌++◌, map, filter, Option, Some, None}
use Rattle.av_base.specs.Keys.{Key}
use Rattle.av_base.specs.Words.{within}
use Rattle.av_base.specs.declared.slot.Slot.{Slot}
use Rattle.av_trace.specs.declared.note.Note.TheVariants.{Dropped}
use Rattle.av_plain.specs.Event.{slot_behind, Event, when, after, after_all, Zapped, note_events}
use Rattle.av_plain.specs.Ledger.{entry, Entry, Ledger, is_orphan}

-- the keys of a process's entries, by rising page
abbrev pub keys_of_process : Ledger → ℕ → List Key
keys_of_process l p = filter (λ k. k.0 == p) (map (λ e. e.0) l.entries)

-- and those of its n pages from one on
abbrev pub keys_in : Ledger → ℕ → ℕ → ℕ → List Key
keys_in l p from n = filter (λ k. within from n k.1) (keys_of_process l p)

-- a slot that is an orphan is dropped
abbrev pub orphan_drop : Ledger → Option Slot → List Event
orphan_drop l None = []
orphan_drop l (Some s) = note_events (when (is_orphan l s) (Dropped s))

-- the slot that an entry names, or at which its frame is cached, if there is an entry
abbrev pub slot_behind_key : Ledger → Option Entry → Option Slot
slot_behind_key l None = None
slot_behind_key l (Some e) = slot_behind l e

-- the entry goes, and the slot that it leaves as an orphan is dropped
abbrev pub zap_of : Ledger → Key → List Event
zap_of l k = Zapped k ∷ orphan_drop (after l (Zapped k)) (slot_behind_key l (entry l k))

-- these entries go, in order
abbrev pub zaps_of : Ledger → List Key → List Event
zaps_of l [] = []
zaps_of l (k ∷ ks) = zap_of l k ++ zaps_of (after_all l (zap_of l k)) ks
