-- What it makes of the view that a frame goes over to a free one, and that the list of free frames
-- is put in order.
use Rattle.std.specs.List.{range_with_len}
use Rattle.std.specs.Prelude.{◌≡◌, ◌<◌, ℕ, [], ◌∷◌, filter, map, None, option_map}
use Rattle.av_base.specs.Words.{is_in, renamed, with_at, without}
use Rattle.av_plain.specs.Event.{placed_entry}
use Rattle.av_plain.specs.Ledger.{Ledger, Setting}
use Rattle.av_plain.specs.Sound.{uses}
use Rattle.av_plain.specs.Stands.{Pte, View}

-- an entry that names the frame names the other one, seen and written as it was
abbrev pub pte_moved : ℕ → ℕ → Pte → Pte
pte_moved from to t = record t { entry = placed_entry (renamed from to) t.entry }

-- all that is kept of the frame is kept of the other one, which takes its place everywhere. The
-- frame is free instead, in front of the others: it has no entry, no slot and no item
abbrev pub view_moved : ℕ → ℕ → View → View
view_moved from to v = record v {
  bytes = with_at to (v.bytes from) v.bytes;
  maps = with_at from 0 (with_at to (v.maps from) v.maps);
  homes = with_at to (v.homes from) v.homes;
  items = with_at from [] (with_at to (v.items from) v.items);
  slot = with_at from None (with_at to (v.slot from) v.slot);
  dirty = with_at to (v.dirty from) v.dirty;
  free = from ∷ without to v.free;
  active = map (renamed from to) v.active;
  inactive = map (renamed from to) v.inactive;
  table = λ p page. option_map (pte_moved from to) (v.table p page);
  find = λ s. option_map (renamed from to) (v.find s);
}

-- the free frames rise
abbrev pub view_ordered : View → View
view_ordered v = record v { free = filter (λ f. is_in f v.free) (range_with_len 0 v.frames) }

-- the counts of entries of locked pages go along
abbrev pub locks_moved : ℕ → ℕ → (ℕ → ℕ) → ℕ → ℕ
locks_moved from to locks = with_at from 0 (with_at to (locks from) locks)

-- a frame in use may go over to one of the machine's that is free
pub record MayMove (m : Setting) (l : Ledger) (from to : ℕ) : Type 0 where
  pub free : uses l to ≡ 0
  pub used : 0 < uses l from
  pub below : to < m.frames
