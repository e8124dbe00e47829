-- What is shown of the swap areas and the swap cache.
use Rattle.std.specs.FinMap.Entries.{find, put, where_key}
use Rattle.std.specs.List.{list_any}
use Rattle.std.specs.Ordering.{nat_cmp}
use Rattle.std.specs.Prelude.{◌≡◌, ℕ, ℤ, pos, ◌+◌, ◌*◌, ◌^◌, ◌<◌, ◌≤◌, ◌<ℤ◌, ◌≤ℤ◌, int_lt, Bool}
use Rattle.std.specs.Prelude.{true, false, not, ◌&&◌, ◌==◌, nat_lt, if◌then◌else◌, List, [], ◌∷◌}
use Rattle.std.specs.Prelude.{length, slice_index_or, sum_by, count_by, Option, None, Some, is_some}
use Rattle.std.specs.Prelude.{option_map, IfSome, IsSomeAnd, count_by}
use Rattle.av_base.specs.Words.{how_many, renamed, with_at}
use Rattle.av_base.specs.declared.slot.Slot.{Slot}
use Rattle.av_clusters.specs.Clusters.{Slots, fresh as fresh_slots, is_taken, page_at}
use Rattle.av_swapdev.specs.Device.{most_areas}
use Rattle.av_swapdev.specs.declared.header.Header.{Header}
use Rattle.av_swapcache.specs.Area.{AreaShown, AreaStore, IsKept, IsSlot, is_slot, after_count}
use Rattle.av_swapcache.specs.Area.{area_shown, counted, free_in}

-- ---- what is shown

-- the value of `Swap`: the areas by number, the one that is closing, the slots in flight, and
-- whether the slot that is cached at a frame is one of them
pub record Store : Type 0 where
  pub areas : List (Option AreaStore)
  pub closing : Option ℕ
  pub flight : List Slot
  pub writing : List Bool

-- how many frames there may be; the frame that caches a slot, how many entries name it, and whether
-- it is bad; the slots in flight, in order; the areas that are on, rising; the one of them that is
-- closing; of each its priority, and its slots with their clusters
pub record Shown : Type 0 where
  pub frames : ℕ
  pub find : Slot → Option ℕ
  pub entries : Slot → ℕ
  pub bad : Slot → Bool
  pub flight : List Slot
  pub on : List (ℕ × Header)
  pub closing : Option ℕ
  pub priority : ℕ → ℤ
  pub slots : ℕ → Slots

-- what an area that may be off shows
abbrev pub find_in : Option AreaShown → ℕ → Option ℕ
find_in None p = None
find_in (Some a) p = a.find p

-- the page is a slot of an area that is on
abbrev pub IsSlotIn : Option AreaShown → ℕ → Type 0
IsSlotIn area p = IsSomeAnd area (λ a. IsSlot a p)

abbrev pub entries_in : Option AreaShown → ℕ → ℕ
entries_in None p = 0
entries_in (Some a) p = a.entries p

abbrev pub bad_in : Option AreaShown → ℕ → Bool
bad_in None p = false
bad_in (Some a) p = a.bad p

abbrev pub priority_in : Option AreaShown → ℤ
priority_in None = pos 0
priority_in (Some a) = a.priority

-- an area that is off has no slots
abbrev pub no_slots : Slots
no_slots = fresh_slots 0 []

abbrev pub slots_in : Option AreaShown → Slots
slots_in None = no_slots
slots_in (Some a) = a.slots

-- the area of this number, if it is on
abbrev pub area_at : List (Option AreaStore) → ℕ → Option AreaShown
area_at areas k = option_map area_shown (slice_index_or areas k None)

-- the frame that caches a slot
abbrev pub frame_in : List (Option AreaStore) → Slot → Option ℕ
frame_in areas s = find_in (area_at areas s.area) s.page

-- an area with its number, in front of others
abbrev pub numbered : ℕ → Option AreaStore → List (ℕ × Header) → List (ℕ × Header)
numbered k None rest = rest
numbered k (Some a) rest = (k, a.header) ∷ rest

-- the areas that are on, numbered from k
abbrev pub on_from : ℕ → List (Option AreaStore) → List (ℕ × Header)
on_from k [] = []
on_from k (a ∷ areas) = numbered k a (on_from (k + 1) areas)

-- a number of an area, 0 where it is off; and the sum of those
abbrev pub number_on : (AreaShown → ℕ) → Option AreaStore → ℕ
number_on count None = 0
number_on count (Some a) = count (area_shown a)

abbrev pub sum_on : (AreaShown → ℕ) → List (Option AreaStore) → ℕ
sum_on count [] = 0
sum_on count (a ∷ areas) = number_on count a + sum_on count areas

-- what the lists say of each slot and area
abbrev pub shown : Store → Shown
shown s = record {
  frames = length s.writing;
  find = frame_in s.areas;
  entries = λ t. entries_in (area_at s.areas t.area) t.page;
  bad = λ t. bad_in (area_at s.areas t.area) t.page;
  flight = s.flight;
  on = on_from 0 s.areas;
  closing = s.closing;
  priority = λ k. priority_in (area_at s.areas k);
  slots = λ k. slots_in (area_at s.areas k);
}

-- no area is on
abbrev pub fresh : ℕ → Shown
fresh frames = record {
  frames = frames;
  find = λ s. None;
  entries = λ s. 0;
  bad = λ s. false;
  flight = [];
  on = [];
  closing = None;
  priority = λ k. pos 0;
  slots = λ k. no_slots;
}

-- ---- words on it

-- whether two slots are one
abbrev pub same_slot : Slot → Slot → Bool
same_slot a b = a.area == b.area && a.page == b.page

-- a function with its value at one slot changed, and at each slot of an area
abbrev pub with_slot : {X : Type 0} → Slot → X → (Slot → X) → Slot → X
with_slot s x f t = if same_slot t s then x else f t

abbrev pub with_area : {X : Type 0} → ℕ → (ℕ → X) → (Slot → X) → Slot → X
with_area k g f t = if t.area == k then g t.page else f t

-- the count of a slot: the entries that name it, and one more if it is cached
abbrev pub count_of : Shown → Slot → ℕ
count_of h s = counted (h.entries s) (h.find s)

-- the header of an area that is on
abbrev pub header_at : Shown → ℕ → Option Header
header_at h k = find nat_cmp k h.on

abbrev pub is_on : Shown → ℕ → Bool
is_on h k = is_some (header_at h k)

-- the page is one of an area that is on
abbrev pub IsPage : Shown → Slot → Type 0
IsPage h s = IsSomeAnd (header_at h s.area) (λ (a : Header). s.page < a.pages)

-- whether a write of the slot is in flight
abbrev pub is_flying : Shown → Slot → Bool
is_flying h s = list_any (same_slot s) h.flight

-- whether the slot is cached
abbrev pub is_cached : Shown → Slot → Bool
is_cached h s = is_some (h.find s)

-- no slot is cached at the frame
abbrev pub IsUncached : Shown → ℕ → Type 0
IsUncached h f = (s : Slot) → h.find s ≡ Some f → ⊥

-- this slot alone is cached at the frame, or none is
abbrev pub IsCachedAs : Shown → ℕ → Option Slot → Type 0
IsCachedAs h f None = IsUncached h f
IsCachedAs h f (Some s) = h.find s ≡ Some f

-- how many slots of the area are free
abbrev pub free_of : Shown → ℕ → ℕ
free_of h k = free_in (h.slots k)

-- whether the area that is closing is this one
abbrev pub is_area : ℕ → Option ℕ → Bool
is_area k None = false
is_area k (Some j) = k == j

abbrev pub is_closing : Shown → ℕ → Bool
is_closing h k = is_area k h.closing

-- whether an area gives a slot
abbrev pub can_give : Shown → ℕ → Bool
can_give h k = nat_lt 0 (free_of h k) && not (is_closing h k)

-- this area, below n, gives, and none that gives goes before it: none has a greater priority, or
-- that priority and a lesser number
pub record GivesFirst (h : Shown) (n k : ℕ) : Type 0 where
  pub below : k < n
  pub gives : can_give h k ≡ true
  pub greatest : (j : ℕ) → can_give h j ≡ true → h.priority j ≤ℤ h.priority k
  pub least : (j : ℕ) → j < k → can_give h j ≡ true → h.priority j <ℤ h.priority k

-- whether an area has a greater priority than another, if there is one
abbrev pub outranks : Shown → ℕ → Option ℕ → Bool
outranks h k None = true
outranks h k (Some j) = int_lt (h.priority j) (h.priority k)

-- how many slots of the areas that are on are free, and how many there are
abbrev pub all_free : Shown → ℕ
all_free h = sum_by (λ (a : ℕ × Header). free_of h a.0) h.on

abbrev pub all_slots : Shown → ℕ
all_slots h = sum_by (λ (a : ℕ × Header). a.1.slots) h.on

-- swap is full: twice the number of free slots is less than the number of usable ones
abbrev pub is_full : Shown → Bool
is_full h = nat_lt (2 * all_free h) (all_slots h)

-- the device has the pages of each area that is on
abbrev pub HasAreas : (ℕ → Option ℕ) → Shown → Type 0
HasAreas sizes h = (k : ℕ) → IfSome (header_at h k)
    (λ (a : Header). IsSomeAnd (sizes k) (λ n. a.pages ≤ n))

-- what holds of an area that may be off, and of those below n
abbrev pub IsKeptOn : Option AreaStore → Type 0
IsKeptOn area = IfSome area (λ a. IsKept (area_shown a))

abbrev pub AreKept : List (Option AreaStore) → ℕ → Type 0
AreKept areas n = (k : ℕ) → k < n → IsKeptOn (slice_index_or areas k None)

-- what holds of the slots, the cache and the flight at any time. A slot is taken exactly where its
-- count is above 0. The slots of an area that is on are its pages behind the header that aren't
-- bad, as many as the header says; an area that is off has none. No frame caches two slots. Each
-- slot in flight stands there once, and is cached.
pub record IsFit (h : Shown) : Type 0 where
  pub taken : (s : Slot)
      → is_taken (page_at (h.slots s.area).pages s.page) ≡ nat_lt 0 (count_of h s)
  pub usable : (s : Slot) → IfSome (header_at h s.area) (λ (a : Header).
      is_slot (page_at (h.slots s.area).pages s.page)
      ≡ (nat_lt 0 s.page && nat_lt s.page a.pages && not (h.bad s)))
  pub number : (k : ℕ) → IfSome (header_at h k) (λ (a : Header).
      count_by is_slot (h.slots k).pages ≡ a.slots)
  pub off : (k : ℕ) → header_at h k ≡ None → h.slots k ≡ no_slots
  pub in_range : (s : Slot) (f : ℕ) → h.find s ≡ Some f → f < h.frames
  pub apart : (s t : Slot) (f : ℕ) → h.find s ≡ Some f → h.find t ≡ Some f → s ≡ t
  pub once : (s : Slot) → how_many (same_slot s) h.flight ≤ 1
  pub flying : (s : Slot) → is_flying h s ≡ true → is_cached h s ≡ true

-- ---- changes

abbrev pub with_find : Slot → Option ℕ → Shown → Shown
with_find s frame h = record h { find = with_slot s frame h.find }

-- what is cached at one frame is cached at another
abbrev pub with_renamed : ℕ → ℕ → Shown → Shown
with_renamed from to h = record h { find = λ s. option_map (renamed from to) (h.find s) }

abbrev pub with_entries : Slot → ℕ → Shown → Shown
with_entries s n h = record h { entries = with_slot s n h.entries }

abbrev pub with_closing : Option ℕ → Shown → Shown
with_closing k h = record h { closing = k }

-- a slot whose count is 0 is given back to its clusters
abbrev pub given_back : Slot → Shown → Shown
given_back s h = record h {
  slots = with_at s.area (after_count s.page (count_of h s) (h.slots s.area)) h.slots;
}

-- a slot is cached at a frame, taken from its clusters, of which the rest is left
abbrev pub after_put : Slot → ℕ → Slots → Shown → Shown
after_put s f rest h = record h {
  find = with_slot s (Some f) h.find;
  slots = with_at s.area rest h.slots;
}

-- an area with this header and these bad pages is on, of which no slot is given yet
abbrev pub after_on : ℕ → Header → ℤ → List ℕ → Shown → Shown
after_on k header priority bad_list h = record h {
  bad = with_area k (λ p. nat_lt p header.pages && list_any (λ b. p == b) bad_list) h.bad;
  on = put nat_cmp k header h.on;
  priority = with_at k priority h.priority;
  slots = with_at k (fresh_slots header.pages bad_list) h.slots;
}

-- the area that was closing is off
abbrev pub after_off : ℕ → Shown → Shown
after_off k h = record h {
  bad = with_area k (λ p. false) h.bad;
  on = where_key nat_cmp (λ q. not (q == k)) h.on;
  closing = None;
  priority = with_at k (pos 0) h.priority;
  slots = with_at k no_slots h.slots;
}

-- ---- what holds of the parts of `Swap`

-- the test that a flag stands
abbrev pub itself : Bool → Bool
itself b = b

-- whether the slot that is cached at this frame, if there is one, is flagged
abbrev pub is_writing : List Bool → Option ℕ → Bool
is_writing flags None = false
is_writing flags (Some f) = slice_index_or flags f false

-- no frame caches two slots, and each is below the number of frames; each slot in flight stands
-- there once, and the frame that caches it has a flag; so the flight never outgrows its room
pub record IsWhole (areas_len : ℕ) (frame_of : Slot → Option ℕ) (queue : List Slot)
    (queue_len queue_room : ℕ) (flags : List Bool) : Type 0 where
  pub eight : areas_len ≡ most_areas
  pub len : queue_len ≡ length queue
  pub room : length flags ≤ queue_room
  pub few : length flags < 2 ^ 32
  pub total : length queue ≡ how_many itself flags
  pub in_range : (s : Slot) (f : ℕ) → frame_of s ≡ Some f → f < length flags
  pub apart : (s t : Slot) (f : ℕ) → frame_of s ≡ Some f → frame_of t ≡ Some f → s ≡ t
  pub flying : (s : Slot) → how_many (same_slot s) queue
      ≡ (if is_writing flags (frame_of s) then 1 else 0)
  pub owned : (f : ℕ) → slice_index_or flags f false ≡ true
      → (s : Slot) × (frame_of s ≡ Some f)
