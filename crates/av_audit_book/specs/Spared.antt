-- What a pass leaves alone.
use Rattle.std.specs.Prelude.{ℕ, Bool, List, ◌++◌, reverse}
use Rattle.std.specs.List.{list_any}
use Rattle.av_plain.specs.Ledger.{Ledger, walk}
use Rattle.av_plain.specs.Pass.{Spared as PlainSpared}
use Rattle.av_audit_world.specs.Locks.{locks_page}
use Rattle.av_audit_world.specs.declared.memories.Memories.{Memories}
use Rattle.av_audit_book.specs.declared.spared.Spared.{Spared}

-- whether a page of the frame's walk is locked, as is kept of the processes
abbrev pub is_locked_by : Memories → Ledger → ℕ → Bool
is_locked_by memories l f = list_any (locks_page memories) (walk l f)

abbrev pub spared_of : Spared → Ledger → PlainSpared
spared_of s l = record {
  pinned = s.pinned;
  locked = is_locked_by s.memories.now l;
  closing = s.closing;
}

-- the frames of the lists in the order of their turns
abbrev pub frames_by_turn : Ledger → List ℕ
frames_by_turn l = reverse l.inactive ++ reverse l.active
