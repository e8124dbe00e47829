-- What the kernel has to do with the memories and the ledger. The kernel is seen by what its parts
-- answer: a view.
use Rattle.std.specs.FinMap.Entries.{find}
use Rattle.std.specs.Ordering.{nat_cmp}
use Rattle.std.specs.Prelude.{ℕ, Bool, true, false, List, map, Option, Some, None, ◌≡◌, ◌<◌, IfSome}
use Rattle.std.specs.Prelude.{IsSomeAnd, is_some, length, option_map, slice_index, [], ◌∷◌}
use Rattle.std.specs.Prelude.{if◌then◌else◌}
use Rattle.av_base.specs.Page.{page_size}
use Rattle.av_base.specs.Words.{is_in}
use Rattle.av_base.specs.declared.slot.Slot.{Slot}
use Rattle.av_plain.specs.Device.{Device, headers_of}
use Rattle.av_plain.specs.Fault.{asks_copy}
use Rattle.av_plain.specs.Ledger.{Entry, HasNumbers, InFrame, InSlot, Ledger, Setting, SwapArea}
use Rattle.av_plain.specs.Ledger.{Zero, entry, frame_at, in_flight, is_free, is_merged, is_stale}
use Rattle.av_plain.specs.Ledger.{map_count}
use Rattle.av_plain.specs.Ledger.{names_frame, slot_entries, slot_of}
use Rattle.av_plain.specs.Areas.{AnonVma, Anons, Areas, Homes, Items, chain_by}
use Rattle.av_plain.specs.Choice.{AreaSlots, Free, ListsAll}
use Rattle.av_plain.specs.Covered.{AreMergedCovered, AreSlotsCovered, IsRmapSound}
use Rattle.av_plain.specs.Report.{Range, prot_in, range_of, AreApart}
use Rattle.av_plain.specs.Sound.{AllSound}
use Rattle.av_plain.specs.Transcript.{State, rmap_of}
use Rattle.av_plain.specs.World.{Holds, Page, World, lives, pages}
use Rattle.av_base.specs.declared.prot.Prot.{Prot}
use Rattle.av_vma.specs.declared.area.Area.{Area}
use Rattle.av_vma.specs.Pages.{pages_in}

-- ---- the view

-- what a page table says of a page
pub record Pte : Type 0 where
  pub entry : Entry
  pub write : Bool

-- what the parts of the kernel answer
pub record View : Type 0 where
  -- the frames: how many there are, their bytes, how many entries name each, the home, the items
  -- and the slot of each and whether it is dirty, and the free ones in the order in which they are
  -- taken
  pub frames : ℕ
  pub bytes : ℕ → ℕ → ℕ
  pub maps : ℕ → ℕ
  pub homes : Homes
  pub items : Items
  pub slot : ℕ → Option Slot
  pub dirty : ℕ → Bool
  pub free : List ℕ
  -- the two lists of frames, head first
  pub active : List ℕ
  pub inactive : List ℕ
  -- the table of a process, by page
  pub table : ℕ → ℕ → Option Pte
  -- how many processes live, the areas of one that does, and the anon_vmas
  pub processes : ℕ
  pub areas : ℕ → Option (List Area)
  pub anons : Anons
  -- swap: the frame that caches a slot, how many entries name it, the slots in flight, the areas
  -- that are on, and the slots of each with their clusters
  pub find : Slot → Option ℕ
  pub entries : Slot → ℕ
  pub flight : List Slot
  pub on : List (ℕ × SwapArea)
  pub slots : AreaSlots

-- ---- the frames

-- each frame has the counts, the slot and the freeness that the ledger gives it
pub record FramesStand (m : Setting) (v : View) (l : Ledger) : Type 0 where
  pub frames : v.frames ≡ m.frames
  pub maps : (f : ℕ) → v.maps f ≡ map_count l f
  pub slots : (f : ℕ) → v.slot f ≡ slot_of l f
  pub dirty : (f : ℕ) → IfSome (slot_of l f) (λ s. v.dirty f ≡ is_stale l s)
  pub free : (f : ℕ) → f < m.frames → is_in f v.free ≡ is_free l f

-- ---- the lists

-- these are the two lists
pub record ListsStand (v : View) (l : Ledger) : Type 0 where
  pub active : v.active ≡ l.active
  pub inactive : v.inactive ≡ l.inactive

-- ---- the tables

-- the entry of a table's place
abbrev pub entry_of : Option Pte → Option Entry
entry_of None = None
entry_of (Some t) = Some t.entry

-- a write bit stands only where a write asks for no copy
pub record TablesStand (v : View) (l : Ledger) : Type 0 where
  pub entries : (p page : ℕ) → entry_of (v.table p page) ≡ entry l (p, page)
  pub write_bits : (p page : ℕ) (t : Pte) (f : ℕ) → v.table p page ≡ Some t → t.write ≡ true
      → names_frame f t.entry ≡ true → asks_copy l f ≡ false

-- ---- swap

-- the swap areas have the cache, the counts, the flight and the numbers of the ledger
pub record SwapStands (v : View) (l : Ledger) : Type 0 where
  pub finds : (s : Slot) → v.find s ≡ frame_at l s
  pub counts : (s : Slot) → v.entries s ≡ slot_entries l s
  pub flight : v.flight ≡ l.flight
  pub on : v.on ≡ l.on

-- ---- the areas

-- the ranges of the areas of a process, if it lives
abbrev pub ranges_in : Option (List Area) → Option (List Range)
ranges_in areas = option_map (map range_of) areas

-- the protection of a page of a process that may not live
abbrev pub prot_of : Option (List Range) → ℕ → Option Prot
prot_of None page = None
prot_of (Some areas) page = prot_in areas page

-- a process has areas exactly where it lives; they are apart, and cover exactly its pages with
-- their protection and flags
pub record AreasStand (v : View) (w : World) : Type 0 where
  pub alive : (p : ℕ) → is_some (v.areas p) ≡ lives w p
  pub number : v.processes ≡ length w
  pub apart : (p : ℕ) → IfSome (ranges_in (v.areas p)) AreApart
  pub covers : (p page : ℕ)
      → prot_of (ranges_in (v.areas p)) page ≡ option_map (λ (q : Page). q.prot) (pages w p page)
  pub flags : (p page : ℕ) → option_map (λ (area : Area). area.flags) (pages_in (v.areas p) page)
      ≡ option_map (λ (q : Page). q.flags) (pages w p page)

-- an anon_vma's root and parent
abbrev pub kin_of : AnonVma → ℕ × ℕ
kin_of v = (v.root, v.parent)

-- the anon_vmas are these, with their kin; and each own anon_vma of an area has the chain that
-- these say. (That an area's links are that chain is chain order, which is the kernel's.)
pub record AnonsStand (v : View) (areas : Areas) (anons : Anons) : Type 0 where
  pub next : v.anons.next ≡ anons.next
  pub kin : (n : ℕ) → option_map kin_of (v.anons.anon n) ≡ option_map kin_of (anons.anon n)
  pub chains : (p page : ℕ) → IfSome (areas p page)
      (λ area. chain_by v.anons area.anon ≡ chain_by anons area.anon)

-- each page of each process is of the area that these have on it, with all that it says
abbrev pub AreasAre : View → Areas → Type 0
AreasAre v areas = (p page : ℕ) → pages_in (v.areas p) page ≡ areas p page

-- ---- the bytes

-- the device's page of the slot holds it, where pages are told
abbrev pub HoldsTold : Option Page → Device → Slot → Type 0
HoldsTold p device s = IfSome device.pages (λ told. Holds p (slice_index (told s.area s.page)))

-- a page whose entry names a slot is in the frame that caches it, else on the device
abbrev pub IsKeptAt : View → Device → Slot → Option Page → Option ℕ → Type 0
IsKeptAt v device s p None = HoldsTold p device s
IsKeptAt v device s p (Some f) = Holds p (v.bytes f)

-- where the bytes of a page are, by its entry; without a frame or slot it is zeros
abbrev pub IsKept : View → Device → Ledger → Option Entry → Option Page → Type 0
IsKept v device l None p = Holds p (λ _. 0)
IsKept v device l (Some Zero) p = Holds p (λ _. 0)
IsKept v device l (Some (InFrame f seen)) p = Holds p (v.bytes f)
IsKept v device l (Some (InSlot s)) p = IsKeptAt v device s p (frame_at l s)

-- the device's page of the slot has the frame's bytes, if there is one and pages are told
abbrev pub IsClean : View → Device → Slot → Option ℕ → Type 0
IsClean v device s frame = IfSome frame (λ f. IfSome device.pages (λ told.
    (i : ℕ) → i < page_size → slice_index (told s.area s.page) i ≡ v.bytes f i))

-- frames and device hold what the pages claim; a slot neither stale nor in flight is clean
pub record BytesStand (v : View) (device : Device) (w : World) (l : Ledger) : Type 0 where
  pub kept : (p page : ℕ) → IsKept v device l (entry l (p, page)) (pages w p page)
  pub clean : (s : Slot) → is_stale l s ≡ false → in_flight l s ≡ false
      → IsClean v device s (frame_at l s)

-- ---- the headers

-- each swap area that is on has the numbers of its header, where page 0 of these is told
abbrev pub HeadersStand : Setting → Ledger → Type 0
HeadersStand m l = (k : ℕ) → IfSome (find nat_cmp k l.on)
    (λ area. IfSome m.headers (λ headers. IsSomeAnd (headers k) (HasNumbers area)))

-- ---- the whole

-- what stands for a ledger
pub record LedgerStands (m : Setting) (v : View) (l : Ledger) : Type 0 where
  pub frames : FramesStand m v l
  pub lists : ListsStand v l
  pub tables : TablesStand v l
  pub swap : SwapStands v l

-- and what for the memories with it
pub record PartsStand (m : Setting) (v : View) (device : Device) (w : World) (l : Ledger)
    : Type 0 where
  pub ledger : LedgerStands m v l
  pub areas : AreasStand v w
  pub bytes : BytesStand v device w l
  pub headers : HeadersStand m l

-- the device is the one that the run is over: its sizes and headers don't change
pub record IsOver (m : Setting) (device : Device) : Type 0 where
  pub sizes : m.sizes ≡ device.sizes
  pub headers : m.headers ≡ headers_of device

-- the free frames, and the slots of each area
abbrev pub free_of : View → Free
free_of v = record { frames = v.free; slots = v.slots }

-- each frame has this home
abbrev pub HomesAre : View → Homes → Type 0
HomesAre v homes = (f : ℕ) → v.homes f ≡ homes f

-- a frame that is merged has these items, and no other has any
abbrev pub ItemsAre : View → Ledger → Items → Type 0
ItemsAre v l items = (f : ℕ) → v.items f ≡ (if is_merged l f then items f else [])

-- whether there are items
abbrev pub has_items : List (ℕ × ℕ) → Bool
has_items [] = false
has_items (item ∷ items) = true

-- the kernel and the device stand for the memories, the ledger, what is free in its order, the
-- areas with all that each says, the anon_vmas, the homes and the items; what is free is what the
-- ledger has free, and each entry of a frame or a slot is covered
pub record Stands (m : Setting) (v : View) (device : Device) (s : State) : Type 0 where
  pub over : IsOver m device
  pub sound : AllSound m s.world s.ledger
  pub parts : PartsStand m v device s.world s.ledger
  pub free : free_of v ≡ s.free
  pub lists : ListsAll m s.ledger s.free
  pub areas : AreasAre v s.areas
  pub anons : AnonsStand v s.areas s.anons
  pub homes : HomesAre v s.homes
  pub items : ItemsAre v s.ledger s.items
  pub reach : IsRmapSound s.ledger (rmap_of s)
  pub slots : AreSlotsCovered s.ledger (rmap_of s)
  pub merged : AreMergedCovered s.ledger (rmap_of s)

-- what it says of merged frames, in plain sentences: they are those that have items, and they have
-- no home
pub record SaysMerged (v : View) (l : Ledger) : Type 0 where
  pub items : (f : ℕ) → has_items (v.items f) ≡ is_merged l f
  pub homeless : (f : ℕ) → is_merged l f ≡ true → v.homes f ≡ None
