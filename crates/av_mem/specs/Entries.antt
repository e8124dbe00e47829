-- How entries come and go: a frame is taken for a page, an entry is counted for a child, and an
-- entry goes that its table has lost, or is about to lose.
use Rattle.std.specs.Prelude.{◌≡◌, ℕ, ◌+◌, ◌^◌, ◌<◌, Bool, true, false, not, ◌&&◌, ◌==◌}
use Rattle.std.specs.Prelude.{if◌then◌else◌, List, [], ◌∷◌, ◌++◌, length, slice_index_or, Option}
use Rattle.std.specs.Prelude.{Some, None, IfSome, MatchBool, is_none}
use Rattle.std.specs.List.{list_any}
use Rattle.av_base.specs.Keys.{Key}
use Rattle.av_base.specs.Words.{how_many, is_in, with_at, within, without}
use Rattle.av_base.specs.declared.slot.Slot.{Slot}
use Rattle.av_pagetable.specs.Entries.{entry_at}
use Rattle.av_pagetable.specs.declared.pte.Pte.{Pte}
use Rattle.av_pagetable.specs.declared.pte.Pte.TheVariants.{Away, Empty, Here, Zero as ZeroPte}
use Rattle.av_plain.specs.Choice.{ChoosesAll}
use Rattle.av_plain.specs.Device.{Device}
use Rattle.av_plain.specs.Event.{after_all, notes_of}
use Rattle.av_plain.specs.Ledger.{Entry, InFrame, InSlot, Ledger, Zero, names_frame}
use Rattle.av_plain.specs.Ledger.{names_slot, same_slot}
use Rattle.av_plain.specs.Areas.{Items}
use Rattle.av_plain.specs.Stands.{ItemsAre, Pte as Plain, View, free_of}
use Rattle.av_plain.specs.Zap.{keys_in, zaps_of}
use Rattle.av_swap_laws.specs.Steps.{view_copy, view_copy_last, view_drop, view_freed, view_zap}
use Rattle.av_swapcache.specs.Swap.{count_of, shown as shown_swap}
use Rattle.av_trace.specs.declared.note.Note.{Note}
use Rattle.av_trace.specs.declared.note.Note.TheVariants.{Dropped}
use Rattle.av_mem.specs.declared.mem.Mem.{Mem}
use Rattle.av_mem.specs.Mem.{SoundLedger, frame_count, plain, setting_by, sizes_of, view}
use Rattle.av_mem.specs.Mem.{HasLists}

-- ---- a frame is taken for a page

-- a frame is free, no entry names one that is, and the lists are as they are kept
pub record HasFree (old : Mem) : Type 0 where
  pub some : (view old).free ≡ [] → ⊥
  pub unmapped : (f : ℕ) → is_in f (view old).free ≡ true → (view old).maps f ≡ 0
  pub lists : HasLists old

-- the page's entry names the frame
pub record NamesFrame (old : Mem) (k : Key) (f : ℕ) : Type 0 where
  pub write : Bool
  pub seen : Bool
  pub there : entry_at old.tables k.0 k.1 ≡ Here f write seen

-- this is the first free frame, and the view is now what `made` says of the free ones behind it
pub record IsTaken (old new : Mem) (f : ℕ) (made : List ℕ → View) : Type 0 where
  pub left : List ℕ
  pub first : (view old).free ≡ f ∷ left
  pub view : view new ≡ made left

-- one entry names it then, it has this home, and it is at the head of inactive
abbrev pub view_taken : ℕ → List ℕ → Option (ℕ × ℕ) → View → View
view_taken f left home v = record v {
  free = left;
  maps = with_at f 1 v.maps;
  homes = with_at f home v.homes;
  active = without f v.active;
  inactive = f ∷ without f v.inactive;
}

-- a frame that no entry names is free, unless it is cached
abbrev pub view_settled : ℕ → View → View
view_settled f v = if v.maps f == 0 && is_none (v.slot f) then view_freed f v else v

-- a page has a copy of the frame that it named, which is free where that was its last use
abbrev pub view_copied : ℕ → ℕ → ℕ → ℕ → List ℕ → Option (ℕ × ℕ) → View → View
view_copied p page g f left home v = if v.maps g == 1 && is_none (v.slot g)
    then view_copy_last p page g f true left home v else view_copy p page g f true left home v

-- ---- an entry is counted for a child

-- the frame of an entry is one of the machine's, and its slot is in use
abbrev pub IsInUse : Mem → Pte → Type 0
IsInUse k Empty = Unit {0}
IsInUse k ZeroPte = Unit {0}
IsInUse k (Here f write seen) = f < frame_count k
IsInUse k (Away s) = 0 < count_of (shown_swap k.swap) s

-- so many more entries may name any frame or slot
pub record HasRoomFor (k : Mem) (n : ℕ) : Type 0 where
  pub maps : (f : ℕ) → (view k).maps f + n < 2 ^ 64
  pub entries : (s : Slot) → (view k).entries s + n < 2 ^ 32

-- whether there is an entry that passes the test
abbrev pub entry_passes : (Entry → Bool) → Option Plain → Bool
entry_passes test None = false
entry_passes test (Some t) = test t.entry

-- so many more entries name each frame, and each slot
abbrev pub with_more : (ℕ → ℕ) → (Slot → ℕ) → View → View
with_more frames slots v = record v {
  maps = λ f. v.maps f + frames f;
  entries = λ s. v.entries s + slots s;
}

-- an entry more names what this one names
abbrev pub view_more : Pte → View → View
view_more e v = with_more
    (λ f. if entry_passes (names_frame f) (plain e) then 1 else 0)
    (λ s. if entry_passes (names_slot s) (plain e) then 1 else 0) v

-- so it is for each of these entries
abbrev pub view_more_each : List Pte → View → View
view_more_each run v = with_more
    (λ f. how_many (λ e. entry_passes (names_frame f) (plain e)) run)
    (λ s. how_many (λ e. entry_passes (names_slot s) (plain e)) run) v

-- ---- an entry goes: what it does to the view

-- an entry has gone, but for the tables: as the laws have it, whichever its page
abbrev pub view_less : Option Plain → View → View
view_less None v = v
view_less (Some t) v = record (view_zap 0 0 t.entry v) { table = v.table }

-- a frame that an entry names is one of the machine's: so it is wherever a ledger stands
abbrev pub IsEntryWithin : View → Entry → Type 0
IsEntryWithin v Zero = Unit {0}
IsEntryWithin v (InFrame f seen) = f < v.frames
IsEntryWithin v (InSlot s) = Unit {0}

abbrev pub IsWithin : View → Option Plain → Type 0
IsWithin v None = Unit {0}
IsWithin v (Some t) = IsEntryWithin v t.entry

-- so it is of each
abbrev pub AreWithin : View → Type 0
AreWithin v = (p page : ℕ) → IsWithin v (v.table p page)

-- the slot that an entry names, or at which its frame is cached
abbrev pub slot_behind_entry : View → Entry → Option Slot
slot_behind_entry v Zero = None
slot_behind_entry v (InFrame f seen) = v.slot f
slot_behind_entry v (InSlot s) = Some s

abbrev pub slot_behind : View → Option Plain → Option Slot
slot_behind v None = None
slot_behind v (Some t) = slot_behind_entry v t.entry

-- there is a frame, and no entry names it
abbrev pub is_unmapped : View → Option ℕ → Bool
is_unmapped v None = false
is_unmapped v (Some f) = v.maps f == 0

-- whether a slot is cached and not in flight, and no entry names it or its frame
abbrev pub is_orphan : View → Slot → Bool
is_orphan v s =
    is_unmapped v (v.find s) && not (list_any (same_slot s) v.flight) && v.entries s == 0

-- such a slot is dropped, with its note; else all is as it was
abbrev pub DropsOrphan : Slot → View → View → List Note → List Note → Type 0
DropsOrphan s old new before now = MatchBool (is_orphan old s)
    (IfSome (old.find s) (λ f. new ≡ view_drop f s old) × (now ≡ before ++ Dropped s ∷ []))
    ((new ≡ old) × (now ≡ before))

-- ---- an entry goes: what it does to the ledger

-- what the tables say of each page of each process
abbrev pub Table : Type 0
Table = ℕ → ℕ → Option Plain

-- with these tables in place of its own, the memory system's parts stand for the ledger
abbrev pub HasLedgerBy : Device → Mem → Table → Ledger → Type 0
HasLedgerBy d k table l =
    SoundLedger (setting_by d k) (sizes_of k) (record (view k) { table = table }) l

-- with some tables they stand for some ledger, and these have the entry at some page
pub record HasEntry (k : Mem) (entry : Pte) : Type 0 where
  pub device : Device
  pub ledger : Ledger
  pub table : Table
  pub process : ℕ
  pub page : ℕ
  pub stands : HasLedgerBy device k table ledger
  pub there : table process page ≡ plain entry

-- the tables have these entries from a page on
abbrev pub HasAll : Table → ℕ → ℕ → List Pte → Type 0
HasAll table p page entries = (i : ℕ) → i < length entries
    → table p (page + i) ≡ plain (slice_index_or entries i Empty)

-- with some tables they stand for some ledger, and these have the entries from some page on
pub record HasEntries (k : Mem) (entries : List Pte) : Type 0 where
  pub device : Device
  pub ledger : Ledger
  pub table : Table
  pub process : ℕ
  pub page : ℕ
  pub stands : HasLedgerBy device k table ledger
  pub there : HasAll table process page entries

-- the tables without the entries of a process's n pages from one on
abbrev pub without_pages : ℕ → ℕ → ℕ → Table → Table
without_pages p from n table q page =
    if q == p && within from n page then None else table q page

-- the entries of these pages have gone, with the notes of the slots that were dropped; what became
-- free is in its place, and has no items
pub record LetsGo (d : Device) (old new : Mem) (table : Table) (l : Ledger) (p from n : ℕ)
    (before now : List Note) : Type 0 where
  pub stands : HasLedgerBy d new (without_pages p from n table)
      (after_all l (zaps_of l (keys_in l p from n)))
  pub notes : now ≡ before ++ notes_of (zaps_of l (keys_in l p from n))
  pub free : ChoosesAll (setting_by d old) None l (zaps_of l (keys_in l p from n))
      (free_of (view old)) (free_of (view new))
  pub items : (items : Items) → ItemsAre (view old) l items
      → ItemsAre (view new) (after_all l (zaps_of l (keys_in l p from n))) items
