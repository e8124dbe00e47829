-- The memory system over a device: its view, put together from what its parts are seen as, and what
-- it stands for.
use Rattle.std.specs.Prelude.{◌≡◌, ℕ, ℤ, ◌<◌, not, false, List, length, map, Option, Some, None}
use Rattle.std.specs.Prelude.{IfSome, IsSomeAnd, is_some, option_map}
use Rattle.av_plain.specs.World.{World}
use Rattle.av_plain.specs.Ledger.{Ledger, Setting, SwapArea, Zero as ZeroEntry, InFrame, InSlot}
use Rattle.av_plain.specs.Ledger.{is_header_slot}
use Rattle.av_plain.specs.Transcript.{State}
use Rattle.av_plain.specs.Sound.{IsSound, AreThere, AreasFit, AtPages, IsTidy}
use Rattle.av_plain.specs.Device.{Calls, Device, device_by, headers_of, setting_of}
use Rattle.av_anon.specs.declared.anons.Anons.{Anons as AnonSet}
use Rattle.av_anon.specs.declared.infos.Info.{Info}
use Rattle.av_plain.specs.Areas.{AnonVma, Anons, Rmap}
use Rattle.av_plain.specs.Choice.{ListsAll}
use Rattle.av_plain.specs.Report.{Range, range_of}
use Rattle.av_plain.specs.Stands.{View, Pte as Plain, AnonsStand, AreasAre, AreasStand, Stands}
use Rattle.av_plain.specs.Stands.{LedgerStands, free_of}
use Rattle.av_frames.specs.Store.{Shown, shown}
use Rattle.av_lru.specs.Lists.{Lists}
use Rattle.av_rmap.specs.Items.{Shown as ShownItems, shown as shown_items}
use Rattle.av_swap_laws.specs.Held.{Held, IsHeld}
use Rattle.av_swap_laws.specs.Locks.{AreLocks}
use Rattle.av_swapcache.specs.Swap.{HasAreas, Shown as ShownSwap, header_at, shown as shown_swap}
use Rattle.av_swapdev.specs.Header.{Layout}
use Rattle.av_swapdev.specs.declared.header.Header.{Header}
use Rattle.av_pagetable.specs.declared.pte.Pte.{Pte}
use Rattle.av_pagetable.specs.declared.pte.Pte.TheVariants.{Empty, Zero, Here, Away}
use Rattle.av_pagetable.specs.Entries.{entry_at, has}
use Rattle.av_spaces.specs.Kin.{AnonsFit, chain_by, info_of}
use Rattle.av_spaces.specs.Spaces.{AllSpaces, Spaces, areas_of}
use Rattle.av_mem.specs.declared.mem.Mem.{Mem}

-- an entry in the words of the ledger
abbrev pub plain : Pte → Option Plain
plain Empty = None
plain Zero = Some (record { entry = ZeroEntry; write = false })
plain (Here f write was) = Some (record { entry = InFrame f was; write = write })
plain (Away s) = Some (record { entry = InSlot s; write = false })

-- the pages of each area of a process, with their protection
abbrev pub ranges_of : Spaces → ℕ → Option (List Range)
ranges_of spaces p = option_map (map range_of) (areas_of spaces p)

-- an anon_vma's root and parent, with the chain of the areas that have it as their own
abbrev pub anon_vma : List ℕ → Info → AnonVma
anon_vma chain info = record { root = info.root; parent = info.parent; chain = chain }

-- the anon_vmas in the definitions' words
abbrev pub anons_of : AllSpaces → AnonSet → Anons
anons_of s anons = record {
  next = anons.next;
  anon = λ v. option_map (anon_vma (chain_by s anons (Some v))) (info_of anons v);
}

-- what a ledger keeps of an area that is on: numbers of its header, and its priority
abbrev pub area_of : (ℕ → ℤ) → ℕ × Header → ℕ × SwapArea
area_of priority a =
    (a.0, record { slots = a.1.slots; bad = a.1.bad; priority = priority a.0 })

-- the view of frames with their lists and items, entries, areas, anon_vmas and swap areas
abbrev pub view_of_parts : Shown → Lists → ShownItems → (ℕ → ℕ → Option Plain) → AllSpaces → AnonSet
    → ShownSwap → View
view_of_parts frames lists items table spaces anons swap = record {
  frames = frames.count;
  bytes = frames.bytes;
  maps = frames.maps;
  homes = frames.home;
  items = items.items;
  slot = frames.slot;
  dirty = frames.dirty;
  free = frames.free;
  active = lists.active;
  inactive = lists.inactive;
  table = table;
  processes = length spaces.processes;
  areas = areas_of spaces.processes;
  anons = anons_of spaces anons;
  find = swap.find;
  entries = swap.entries;
  flight = swap.flight;
  on = map (area_of swap.priority) swap.on;
  slots = swap.slots;
}

abbrev pub view : Mem → View
view k = view_of_parts (shown k.frames) k.lists (shown_items k.items)
    (λ p page. plain (entry_at k.tables p page)) k.spaces k.anons (shown_swap k.swap)

-- how many frames there are
abbrev pub frame_count : Mem → ℕ
frame_count k = (shown k.frames).count

-- how many entries of locked pages name each frame
abbrev pub locks_of : Mem → ℕ → ℕ
locks_of k = (shown k.frames).locks

-- what does not change in a run over this device
abbrev pub setting_by : Device → Mem → Setting
setting_by d k = setting_of (frame_count k) d

-- the lists are of as many frames as there are
abbrev pub HasLists : Mem → Type 0
HasLists k = k.lists.frames ≡ frame_count k

-- there is room in the swap cache for as many frames as there are
abbrev pub HasRoom : Mem → Type 0
HasRoom k = (shown_swap k.swap).frames ≡ frame_count k

-- there are items of as many frames as there are
abbrev pub HasItems : Mem → Type 0
HasItems k = (shown_items k.items).frames ≡ frame_count k

-- a process has a table exactly where it has areas
abbrev pub HasTables : Mem → Type 0
HasTables k = (p : ℕ) → has k.tables p ≡ is_some (ranges_of k.spaces.processes p)

-- the pages, slots and bad pages that are kept of a swap area are those of its header
pub record AgreesWith (swap : ShownSwap) (k : ℕ) (header : Header) (layout : Layout) : Type 0 where
  pub pages : header.pages ≡ layout.pages
  pub slots : (page : ℕ) → page < header.pages
      → is_header_slot (record { area = k; page = page }) (Some layout)
      ≡ not (swap.bad (record { area = k; page = page }))

-- so it is of each that is on, where headers are told
abbrev pub AreByHeaders : Option (ℕ → Option Layout) → ShownSwap → Type 0
AreByHeaders headers swap = IfSome headers (λ told. (k : ℕ) → IfSome (header_at swap k)
    (λ header. IsSomeAnd (told k) (AgreesWith swap k header)))

-- there is room in the swap cache for as many frames as there are; the pages of the swap areas that
-- are on are on the device, by its headers; this one is closing, if any is
pub record SwapFits (d : Device) (closing : Option ℕ) (k : Mem) : Type 0 where
  pub frames : HasRoom k
  pub closed : (shown_swap k.swap).closing ≡ closing
  pub on_device : HasAreas d.sizes (shown_swap k.swap)
  pub by_headers : AreByHeaders (headers_of d) (shown_swap k.swap)

-- the memory system over this device stands for the memories, the ledger, what is free, the areas,
-- the anon_vmas, among which there is chain order, and the homes and items; and the entries of
-- locked pages are counted
pub record Keeps (d : Device) (k : Mem) (s : State) : Type 0 where
  pub stands : Stands (setting_by d k) (view k) d s
  pub locks : AreLocks (locks_of k) s.world s.ledger
  pub lists : HasLists k
  pub items : HasItems k
  pub tables : HasTables k
  pub anons : AnonsFit k.spaces k.anons
  pub swap : SwapFits d None k

-- it stands for some, over some device
abbrev pub IsSteady : Mem → Type 0
IsSteady k = (d : Device) × (s : State) × Keeps d k s

-- over some device with these sizes that doesn't tell its pages: so much stands whatever others do
-- to the pages
abbrev pub IsSteadyAt : (ℕ → Option ℕ) → Mem → Type 0
IsSteadyAt sizes k = (calls : Calls) × (s : State) × Keeps (device_by sizes None calls) k s

-- ---- within a command

-- of how many frames the lists, the items and the swap cache are
pub record Sizes : Type 0 where
  pub lists : ℕ
  pub items : ℕ
  pub swap : ℕ

abbrev pub sizes_of : Mem → Sizes
sizes_of k = record {
  lists = k.lists.frames;
  items = (shown_items k.items).frames;
  swap = (shown_swap k.swap).frames;
}

-- the ledger is sound, its slots are those of areas that are on, the parts that speak of it alone
-- stand for it, and lists, items and a swap cache of so many frames are of those that there are
pub record SoundLedger (m : Setting) (sizes : Sizes) (v : View) (l : Ledger) : Type 0 where
  pub sound : IsSound m l
  pub there : AreThere m l
  pub parts : LedgerStands m v l
  pub lists : sizes.lists ≡ m.frames
  pub items : sizes.items ≡ m.frames
  pub swap : sizes.swap ≡ m.frames

-- the memory system's parts do
abbrev pub HasLedger : Device → Mem → Ledger → Type 0
HasLedger d k l = SoundLedger (setting_by d k) (sizes_of k) (view k) l

-- they stand for some, over some device
abbrev pub IsOrderly : Mem → Type 0
IsOrderly k = (d : Device) × (l : Ledger) × HasLedger d k l

-- the parts that steps change, with the device, the memories, the ledger, areas, anon_vmas and
-- homes
abbrev pub held_by : Device → Mem → World → Rmap → Ledger → Held
held_by d k w r l = record { view = view k; device = d; world = w; ledger = l; rmap = r }

-- what the memory system over this device stands for between two steps of a command that changes no
-- areas, while this swap area, if any, is closing: all but that the ledger is sound
pub record Serves (d : Device) (closing : Option ℕ) (k : Mem) (w : World) (r : Rmap) (l : Ledger)
    : Type 0 where
  pub held : IsHeld (setting_by d k) (held_by d k w r l)
  pub locks : AreLocks (locks_of k) w l
  pub areas : AreasStand (view k) w
  pub are : AreasAre (view k) r.areas
  pub anons : AnonsStand (view k) r.areas r.anons
  pub tidy : IsTidy w
  pub at_pages : AtPages w l
  pub there : AreThere (setting_by d k) l
  pub areas_fit : AreasFit (setting_by d k) l
  pub free : ListsAll (setting_by d k) l (free_of (view k))
  pub lists : HasLists k
  pub items : HasItems k
  pub tables : HasTables k
  pub fit : AnonsFit k.spaces k.anons
  pub swap : SwapFits d closing k
