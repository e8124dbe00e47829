-- What the steps of swap change of what the kernel's parts answer: functions of views.
use Rattle.std.specs.FinMap.Entries.{put, where_key}
use Rattle.std.specs.Ordering.{nat_cmp}
use Rattle.std.specs.Prelude.{ℕ, ◌+◌, ◌-◌, Bool, true, false, not, ◌&&◌, ◌==◌, if◌then◌else◌, List}
use Rattle.std.specs.Prelude.{[], ◌∷◌, ◌++◌, filter, Option, Some, None, is_none, option_map}
use Rattle.av_base.specs.Words.{with_at, without}
use Rattle.av_base.specs.declared.slot.Slot.{Slot}
use Rattle.av_clusters.specs.Clusters.{Slots, give_slot}
use Rattle.av_trace.specs.declared.note.Cause.{Cause}
use Rattle.av_trace.specs.declared.note.Cause.TheVariants.{Ksm, Locked, NoSlot, Referenced}
use Rattle.av_trace.specs.declared.note.Cause.TheVariants.{WriteStarted, Writeback}
use Rattle.av_plain.specs.Choice.{AreaSlots, no_slots}
use Rattle.av_plain.specs.Event.{without_seen}
use Rattle.av_plain.specs.Ledger.{Entry, InFrame, InSlot, SwapArea, Zero, names_frame, same_slot}
use Rattle.av_plain.specs.Stands.{Pte, View}

-- a function with its value at one slot changed
abbrev pub with_at_slot : {X : Type 0} → Slot → X → (Slot → X) → Slot → X
with_at_slot s x f t = if same_slot t s then x else f t

-- ---- a frame gets a slot, and its entries name that

-- the frame is cached at the slot, and is dirty or not
abbrev pub view_cached : ℕ → Slot → Bool → View → View
view_cached f s dirty v = record v {
  slot = with_at f (Some s) v.slot;
  dirty = with_at f dirty v.dirty;
  find = with_at_slot s (Some f) v.find;
}

-- its page is to be written; these slots are left
abbrev pub view_put : ℕ → Slot → AreaSlots → View → View
view_put f s left v = record (view_cached f s true v) { slots = left }

-- what named the frame names the slot
abbrev pub pte_unmapped : ℕ → Slot → Pte → Pte
pte_unmapped f s t =
    if names_frame f t.entry then record { entry = InSlot s; write = false } else t

abbrev pub view_unmap : ℕ → Slot → View → View
view_unmap f s v = record v {
  maps = with_at f 0 v.maps;
  entries = with_at_slot s (v.entries s + v.maps f) v.entries;
  table = λ p page. option_map (pte_unmapped f s) (v.table p page);
}

-- ---- writes

-- the list without the slot
abbrev pub without_slot : Slot → List Slot → List Slot
without_slot s slots = filter (λ t. not (same_slot s t)) slots

-- the write of the slot begins
abbrev pub view_start : ℕ → Slot → View → View
view_start f s v = record v {
  dirty = with_at f false v.dirty;
  flight = v.flight ++ s ∷ [];
}

-- it ends well: the frame goes to the tail of inactive
abbrev pub view_done : ℕ → Slot → View → View
view_done f s v = record v {
  flight = without_slot s v.flight;
  active = without f v.active;
  inactive = without f v.inactive ++ f ∷ [];
}

-- it fails: the page is to be written again
abbrev pub view_fail : ℕ → Slot → View → View
view_fail f s v = record v {
  flight = without_slot s v.flight;
  dirty = with_at f true v.dirty;
}

-- ---- a slot is cached no longer

abbrev pub view_uncached : ℕ → Slot → View → View
view_uncached f s v = record v {
  slot = with_at f None v.slot;
  find = with_at_slot s None v.find;
}

-- the frame is free, in front of all others, in no list, and has no items
abbrev pub view_freed : ℕ → View → View
view_freed f v = record v {
  free = f ∷ v.free;
  items = with_at f [] v.items;
  active = without f v.active;
  inactive = without f v.inactive;
}

-- the slot is given back
abbrev pub view_given_back : Slot → View → View
view_given_back s v =
    record v { slots = with_at s.area (give_slot (v.slots s.area) s.page) v.slots }

-- where no entry names the frame it is freed, and where none names the slot it is given back
abbrev pub view_drop : ℕ → Slot → View → View
view_drop f s v =
    let freed = if v.maps f == 0 then view_freed f (view_uncached f s v) else view_uncached f s v in
    if v.entries s == 0 then view_given_back s freed else freed

-- ---- lists and seen bits

-- the frame goes to the head of inactive, or of active
abbrev pub view_to_head : ℕ → View → View
view_to_head f v = record v {
  active = without f v.active;
  inactive = f ∷ without f v.inactive;
}

abbrev pub view_to_active : ℕ → View → View
view_to_active f v = record v {
  active = f ∷ without f v.active;
  inactive = without f v.inactive;
}

-- the entries of the frame are unseen
abbrev pub pte_unseen : ℕ → Pte → Pte
pte_unseen f t = if names_frame f t.entry then record t { entry = without_seen t.entry } else t

abbrev pub view_unseen : ℕ → View → View
view_unseen f v = record v { table = λ p page. option_map (pte_unseen f) (v.table p page) }

-- ---- a page comes in

-- the first free frame takes the page's bytes, is cached at the slot, and is at home there; these
-- frames are left
abbrev pub view_load : ℕ → Slot → List ℕ → (ℕ → ℕ) → Option (ℕ × ℕ) → View → View
view_load f s left held home v = record (view_cached f s false v) {
  free = left;
  bytes = with_at f held v.bytes;
  homes = with_at f home v.homes;
  active = without f v.active;
  inactive = f ∷ without f v.inactive;
}

-- a table's place is this now
abbrev pub with_pte : ℕ → ℕ → Option Pte → (ℕ → ℕ → Option Pte) → ℕ → ℕ → Option Pte
with_pte p page o table q other = if q == p && other == page then o else table q other

-- the entry of a page named the slot, and names the frame that caches it, unseen and without a
-- write bit
abbrev pub view_map : ℕ → ℕ → ℕ → Slot → View → View
view_map p page f s v = record v {
  maps = with_at f (v.maps f + 1) v.maps;
  entries = with_at_slot s (v.entries s - 1) v.entries;
  table = with_pte p page (Some (record { entry = InFrame f false; write = false })) v.table;
}

-- ---- a page is used

-- the entry of a page that names the frame is seen, with this write bit
abbrev pub view_seen : ℕ → ℕ → ℕ → Bool → View → View
view_seen p page f write v = record v {
  table = with_pte p page (Some (record { entry = InFrame f true; write = write })) v.table;
}

-- it is written in place: the frame has these bytes, is dirty, and is at home there
abbrev pub view_written :
    ℕ → ℕ → ℕ → Bool → (ℕ → ℕ) → Option (ℕ × ℕ) → View → View
view_written p page f write held home v = record (view_seen p page f write v) {
  dirty = with_at f true v.dirty;
  bytes = with_at f held v.bytes;
  homes = with_at f home v.homes;
}

-- ---- an entry goes

-- the page has no entry
abbrev pub view_cleared : ℕ → ℕ → View → View
view_cleared p page v = record v { table = with_pte p page None v.table }

-- nor has the frame, which is freed where that was the last and it is not cached
abbrev pub view_zap_frame : ℕ → ℕ → ℕ → View → View
view_zap_frame p page f v =
    let left : View = record (view_cleared p page v) { maps = with_at f (v.maps f - 1) v.maps } in
    if v.maps f == 1 && is_none (v.slot f) then view_freed f left else left

-- nor has the slot, which is given back where that was the last and it is not cached
abbrev pub view_zap_slot : ℕ → ℕ → Slot → View → View
view_zap_slot p page s v =
    let left : View =
    record (view_cleared p page v) { entries = with_at_slot s (v.entries s - 1) v.entries } in
    if v.entries s == 1 && is_none (v.find s) then view_given_back s left else left

-- ---- an entry goes over to a child

-- what the parent keeps of its entry: no write bit, so that a write asks for a copy
abbrev pub pte_parent : Pte → Pte
pte_parent t = record t { write = false }

-- what the child gets of it: not seen either
abbrev pub pte_child : Pte → Pte
pte_child t = record { entry = without_seen t.entry; write = false }

-- one entry more names what this one names
abbrev pub view_one_more : Entry → View → View
view_one_more Zero v = v
view_one_more (InFrame f seen) v = record v { maps = with_at f (v.maps f + 1) v.maps }
view_one_more (InSlot s) v = record v { entries = with_at_slot s (v.entries s + 1) v.entries }

-- the page's entry has gone over
abbrev pub view_fork_entry : ℕ → ℕ → ℕ → Pte → View → View
view_fork_entry p q page t v = record (view_one_more t.entry v) {
  table = with_pte p page (Some (pte_parent t)) (with_pte q page (Some (pte_child t)) v.table);
}

-- ---- swap areas

-- an area is on, with these numbers and these slots; or it is off
abbrev pub view_on : ℕ → SwapArea → Slots → View → View
view_on k area made v = record v {
  on = put nat_cmp k area v.on;
  slots = with_at k made v.slots;
}

abbrev pub view_off : ℕ → View → View
view_off k v = record v {
  on = where_key nat_cmp (λ q. not (q == k)) v.on;
  slots = with_at k (no_slots k) v.slots;
}

-- ---- a page gets its first frame, or a copy

-- the page has the page of zeros
abbrev pub view_zero : ℕ → ℕ → View → View
view_zero p page v = record v {
  table = with_pte p page (Some (record { entry = Zero; write = false })) v.table;
}

-- its entry is the first free frame, which has these bytes and this home
abbrev pub view_new : ℕ → ℕ → ℕ → Bool → List ℕ → (ℕ → ℕ) → Option (ℕ × ℕ) → View → View
view_new p page f write left held home v = record v {
  table = with_pte p page (Some (record { entry = InFrame f false; write = write })) v.table;
  maps = with_at f 1 v.maps;
  free = left;
  bytes = with_at f held v.bytes;
  homes = with_at f home v.homes;
  active = without f v.active;
  inactive = f ∷ without f v.inactive;
}

-- the same, where it named another frame, which keeps its other uses
abbrev pub view_copy :
    ℕ → ℕ → ℕ → ℕ → Bool → List ℕ → Option (ℕ × ℕ) → View → View
view_copy p page g f write left home v =
    record (view_new p page f write left (v.bytes g) home v) {
      maps = with_at f 1 (with_at g (v.maps g - 1) v.maps);
    }

-- or where that was its last use: it is free then, in front of all others, in no list, and has no
-- items
abbrev pub view_copy_last :
    ℕ → ℕ → ℕ → ℕ → Bool → List ℕ → Option (ℕ × ℕ) → View → View
view_copy_last p page g f write left home v =
    record (view_copy p page g f write left home v) {
      free = g ∷ left;
      items = with_at g [] v.items;
      active = without f (without g v.active);
      inactive = f ∷ without f (without g v.inactive);
    }

-- ---- by cause, and by entry

-- a frame is kept for this cause
abbrev pub view_keep : ℕ → Cause → View → View
view_keep f Writeback v = view_to_head f v
view_keep f WriteStarted v = view_to_head f v
view_keep f Referenced v = view_to_active f (view_unseen f v)
view_keep f NoSlot v = view_to_active f v
view_keep f Locked v = view_to_active f v
view_keep f Ksm v = view_to_active f v

-- the entry of a page goes
abbrev pub view_zap : ℕ → ℕ → Entry → View → View
view_zap p page Zero v = view_cleared p page v
view_zap p page (InFrame f seen) v = view_zap_frame p page f v
view_zap p page (InSlot s) v = view_zap_slot p page s v
