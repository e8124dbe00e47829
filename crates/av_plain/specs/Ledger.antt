-- What the system keeps of frames and slots, keyed by process and page. Walks and counts are
-- filters of the entries.
use Rattle.std.specs.FinMap.Entries.{find}
use Rattle.std.specs.List.{list_any, list_all, range_with_len}
use Rattle.std.specs.Option.{option_map_or}
use Rattle.std.specs.Ordering.{nat_cmp}
use Rattle.std.specs.Prelude.{◌≡◌, ℕ, ℤ, ◌+◌, ◌-◌, Bool, true, false, not, ◌&&◌, ◌==◌}
use Rattle.std.specs.Prelude.{if◌then◌else◌, List, [], ◌∷◌, map, filter, Option, Some, None}
use Rattle.std.specs.Prelude.{is_some, ◌||◌, length, nat_lt, sum_by, option_map, ◌*◌, is_none}
use Rattle.std.specs.Prelude.{unwrap_or}
use Rattle.av_swapdev.specs.Header.{Layout}
use Rattle.av_base.specs.Keys.{Key, key_cmp}
use Rattle.av_base.specs.Words.{how_many, is_in}
use Rattle.av_base.specs.declared.slot.Slot.{Slot}

-- ---- what does not change in a run

-- frames: how many there are. sizes: the pages of each swap area that is attached. headers: what
-- page 0 of each says (nothing at a fault), where pages are told
pub record Setting : Type 0 where
  pub frames : ℕ
  pub sizes : ℕ → Option ℕ
  pub headers : Option (ℕ → Option Layout)

-- ---- the ledger

-- an entry is the zero page, a frame (seen or not), or a slot
pub data Entry : Type 0 where
  Zero : Entry
  InFrame : (frame : ℕ) (seen : Bool) → Entry
  InSlot : (slot : Slot) → Entry

-- a slot, the frame that caches it, and whether the page changed since its last write began
pub record Cached : Type 0 where
  pub slot : Slot
  pub frame : ℕ
  pub stale : Bool

-- a swap area that is on: its usable slots and bad pages, and its priority
pub record SwapArea : Type 0 where
  pub slots : ℕ
  pub bad : ℕ
  pub priority : ℤ

-- these are the numbers of a header
pub record HasNumbers (area : SwapArea) (h : Layout) : Type 0 where
  pub slots : area.slots ≡ h.slots
  pub bad : area.bad ≡ length h.bad

-- entries: rising by key. active, inactive: head first. merged: the frames that pages with equal
-- bytes share; their order says nothing. on: rising by area
pub record Ledger : Type 0 where
  pub entries : List (Key × Entry)
  pub cache : List Cached
  pub flight : List Slot
  pub active : List ℕ
  pub inactive : List ℕ
  pub merged : List ℕ
  pub on : List (ℕ × SwapArea)

-- no entry, no cached slot, no list, no merged frame and no area
abbrev pub first_ledger : Ledger
first_ledger = record {
  entries = [];
  cache = [];
  flight = [];
  active = [];
  inactive = [];
  merged = [];
  on = [];
}

-- ---- filters

-- whether two slots are one
abbrev pub same_slot : Slot → Slot → Bool
same_slot a b = a.area == b.area && a.page == b.page

-- whether an entry names the frame
abbrev pub names_frame : ℕ → Entry → Bool
names_frame f Zero = false
names_frame f (InFrame g seen) = f == g
names_frame f (InSlot s) = false

-- whether an entry names the slot
abbrev pub names_slot : Slot → Entry → Bool
names_slot s Zero = false
names_slot s (InFrame f seen) = false
names_slot s (InSlot t) = same_slot s t

-- a page without an entry, or with one that names neither a frame nor a slot
abbrev pub IsBlank : Option Entry → Type 0
IsBlank None = Unit {0}
IsBlank (Some Zero) = Unit {0}
IsBlank (Some (InFrame f seen)) = ⊥
IsBlank (Some (InSlot s)) = ⊥

-- the entry of a key, if it has one
abbrev pub entry : Ledger → Key → Option Entry
entry l k = find key_cmp k l.entries

-- the walk of a frame: the keys of its entries, by process and page
abbrev pub walk : Ledger → ℕ → List Key
walk l f = map (λ e. e.0) (filter (λ e. names_frame f e.1) l.entries)

-- how many entries name the frame
abbrev pub map_count : Ledger → ℕ → ℕ
map_count l f = how_many (λ e. names_frame f e.1) l.entries

-- and how many the slot
abbrev pub slot_entries : Ledger → Slot → ℕ
slot_entries l s = how_many (λ e. names_slot s e.1) l.entries

-- the keys of the entries that name the slot, by process and page
abbrev pub keys_of_slot : Ledger → Slot → List Key
keys_of_slot l s = map (λ e. e.0) (filter (λ e. names_slot s e.1) l.entries)

-- the first cached pair that passes the test
abbrev pub cached_by : (Cached → Bool) → List Cached → Option Cached
cached_by test [] = None
cached_by test (c ∷ cs) = if test c then Some c else cached_by test cs

-- the slot at which a frame is cached, if it is
abbrev pub slot_of : Ledger → ℕ → Option Slot
slot_of l f = option_map (λ (c : Cached). c.slot) (cached_by (λ c. f == c.frame) l.cache)

-- and the frame at which a slot is cached
abbrev pub frame_at : Ledger → Slot → Option ℕ
frame_at l s = option_map (λ (c : Cached). c.frame) (cached_by (λ c. same_slot s c.slot) l.cache)

-- whether the slot is cached
abbrev pub is_cached : Ledger → Slot → Bool
is_cached l s = list_any (λ (c : Cached). same_slot s c.slot) l.cache

-- and whether its page changed since its last write began
abbrev pub is_stale : Ledger → Slot → Bool
is_stale l s = list_any (λ (c : Cached). same_slot s c.slot && c.stale) l.cache

-- whether a write of the slot is in flight
abbrev pub in_flight : Ledger → Slot → Bool
in_flight l s = list_any (same_slot s) l.flight

-- the count of a slot: the entries that name it, plus one if it is cached
abbrev pub slot_count : Ledger → Slot → ℕ
slot_count l s = slot_entries l s + (if is_cached l s then 1 else 0)

-- whether the frame is merged
abbrev pub is_merged : Ledger → ℕ → Bool
is_merged l f = is_in f l.merged

-- no entry and no cached slot names the frame
abbrev pub is_free : Ledger → ℕ → Bool
is_free l f = map_count l f == 0 && is_none (slot_of l f)

-- the free frames, rising
abbrev pub free_frames : Setting → Ledger → List ℕ
free_frames m l = filter (is_free l) (range_with_len 0 m.frames)

-- whether a frame is free
abbrev pub has_free : Setting → Ledger → Bool
has_free m l = list_any (is_free l) (range_with_len 0 m.frames)

-- there is a frame, and no entry names it
abbrev pub is_unmapped : Ledger → Option ℕ → Bool
is_unmapped l None = false
is_unmapped l (Some f) = map_count l f == 0

-- a cached slot, not in flight, that no entry names and whose frame no entry names
abbrev pub is_orphan : Ledger → Slot → Bool
is_orphan l s = is_unmapped l (frame_at l s) && not (in_flight l s) && slot_entries l s == 0

-- ---- slots of swap areas that are on

-- the number of an area's pages, 0 where none is attached
abbrev pub size_of : Setting → ℕ → ℕ
size_of m k = unwrap_or (m.sizes k) 0

-- the number of pages that an area uses: by its header where that is told, else all
abbrev pub pages_used : Setting → ℕ → ℕ
pages_used m k = option_map_or
    (λ (headers : ℕ → Option Layout). option_map_or (λ (h : Layout). h.pages) (headers k) 0)
    m.headers (size_of m k)

-- whether the area is on
abbrev pub is_on : Ledger → ℕ → Bool
is_on l k = is_some (find nat_cmp k l.on)

-- the header has the page as a slot: it is one of its pages, and not bad
abbrev pub is_header_slot : Slot → Option Layout → Bool
is_header_slot s None = false
is_header_slot s (Some h) = nat_lt s.page h.pages && not (is_in s.page h.bad)

-- where headers are told, the area's header has it as a slot
abbrev pub may_be_slot : Slot → Option (ℕ → Option Layout) → Bool
may_be_slot s None = true
may_be_slot s (Some headers) = is_header_slot s (headers s.area)

-- what the header says of a page, where it is told: whether it is a slot
abbrev pub is_usable : Setting → Slot → Bool
is_usable m s = may_be_slot s m.headers

-- a slot of a swap area that is on, which nothing names
abbrev pub is_free_slot : Setting → Ledger → Slot → Bool
is_free_slot m l s =
    is_on l s.area && nat_lt 0 s.page && nat_lt s.page (size_of m s.area)
    && slot_count l s == 0 && is_usable m s

-- the slots of an area in use, rising
abbrev pub slots_in_use : Setting → Ledger → ℕ → List ℕ
slots_in_use m l k =
    filter (λ page. nat_lt 0 (slot_count l (record { area = k; page = page })))
    (range_with_len 1 (size_of m k - 1))

-- how many slots of the area are free
abbrev pub free_slots : Setting → Ledger → ℕ × SwapArea → ℕ
free_slots m l a = a.1.slots - length (slots_in_use m l a.0)

-- whether a swap area is another than the one that a swapoff is closing
abbrev pub is_open : Option ℕ → ℕ → Bool
is_open None k = true
is_open (Some closing) k = not (k == closing)

-- no slot is free of a swap area that is on and isn't closing
abbrev pub no_slot : Setting → Option ℕ → Ledger → Bool
no_slot m closing l = list_all (λ a. not (is_open closing a.0) || free_slots m l a == 0) l.on

-- whether an area is on and has a free slot
abbrev pub has_free_slot : Setting → Ledger → ℕ → Bool
has_free_slot m l k =
    option_map_or (λ area. nat_lt 0 (free_slots m l (k, area))) (find nat_cmp k l.on) false

-- a slot that may be given
abbrev pub may_give : Setting → Option ℕ → Ledger → Slot → Bool
may_give m closing l s =
    is_free_slot m l s && is_open closing s.area && has_free_slot m l s.area

-- swap is full: twice the number of free slots is less than the number of usable ones
abbrev pub is_full : Setting → Ledger → Bool
is_full m l =
    nat_lt (2 * sum_by (free_slots m l) l.on) (sum_by (λ (a : ℕ × SwapArea). a.1.slots) l.on)
