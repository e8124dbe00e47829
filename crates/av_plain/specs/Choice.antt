-- What is taken: the first of the free frames, and the slot that the clusters of a swap area give,
-- each in an order that follows the events. This is not part of what makes a reply legal.
use Rattle.std.specs.FinMap.Entries.{find as find_area}
use Rattle.std.specs.List.{find, list_all, range_with_len}
use Rattle.std.specs.Option.{option_map_or}
use Rattle.std.specs.Ordering.{nat_cmp}
use Rattle.std.specs.Prelude.{◌≡◌, ◌<◌, ◌≤◌, ◌<ℤ◌, ◌≤ℤ◌, ℕ, min, ◌+◌, ◌-◌, not, ◌&&◌, ◌||◌}
use Rattle.std.specs.Prelude.{◌==◌, nat_lt, int_le, if◌then◌else◌, true, false, List, [], ◌∷◌, ◌++◌}
use Rattle.std.specs.Prelude.{filter, fold, count_by, option_map, Option, Some, None, IsSomeAnd}
use Rattle.std.specs.Prelude.{Bool, MatchBool, MatchOption}
use Rattle.av_base.specs.Words.{how_many, is_in, with_at, without}
use Rattle.av_base.specs.declared.slot.Slot.{Slot}
use Rattle.av_clusters.specs.Clusters.{Slots, fresh, take_slot, give_slot, is_free as is_free_page}
use Rattle.av_clusters.specs.Clusters.{is_taken, page_at}
use Rattle.av_swapdev.specs.Device.{most_pages}
use Rattle.av_swapdev.specs.Header.{Layout}
use Rattle.av_trace.specs.declared.note.Note.{Note}
use Rattle.av_trace.specs.declared.note.Note.TheVariants.{New, Copied, Loaded, Put, Moved}
use Rattle.av_plain.specs.Ledger.{HasNumbers, Ledger, Setting, SwapArea, is_free, is_free_slot}
use Rattle.av_plain.specs.Ledger.{is_on, is_open, free_frames, free_slots, size_of, slot_count}
use Rattle.av_plain.specs.Event.{Event, FreeSorted, Noted, TurnedOff, TurnedOn, after}

-- the slots of each swap area, with their clusters
abbrev pub AreaSlots : Type 0
AreaSlots = ℕ → Slots

-- the free frames in the order in which they are taken, and the slots
pub record Free : Type 0 where
  pub frames : List ℕ
  pub slots : AreaSlots

-- no swap area has slots
abbrev pub no_slots : AreaSlots
no_slots k = fresh 0 []

-- ---- frames

-- the frame that a note takes
abbrev pub frame_in_note : Note → Option ℕ
frame_in_note (New p a f) = Some f
frame_in_note (Copied p a f) = Some f
frame_in_note (Loaded s f) = Some f
frame_in_note (Moved from to) = Some to
frame_in_note note = None

-- and so an event, if it is a note
abbrev pub frame_in : Event → Option ℕ
frame_in (Noted note) = frame_in_note note
frame_in event = None

-- the frames of the machine that are free now and weren't, rising
abbrev pub new_free : Setting → Ledger → Ledger → List ℕ
new_free m old new = filter (λ f. is_free new f && not (is_free old f)) (range_with_len 0 m.frames)

-- a note by which a frame goes over to another, wherever that stands among the free ones
abbrev pub is_move : Note → Bool
is_move (Moved from to) = true
is_move note = false

abbrev pub takes_any : Event → Bool
takes_any (Noted note) = is_move note
takes_any event = false

-- the list of free frames is put in order
abbrev pub sorts_free : Event → Bool
sorts_free FreeSorted = true
sorts_free event = false

-- the frame is one of the free ones, and these are left
abbrev pub TakesOut : ℕ → List ℕ → List ℕ → Type 0
TakesOut f free rest = (is_in f free ≡ true) × (rest ≡ without f free)

-- a frame that an event takes is the first of the free ones, but by a move; and what has become
-- free goes in front
abbrev pub TakesFrame : Setting → Ledger → Event → List ℕ → List ℕ → Type 0
TakesFrame m l e free free' = (rest : List ℕ)
    × MatchOption (frame_in e) (free ≡ rest)
    (λ f. MatchBool (takes_any e) (TakesOut f free rest) (free ≡ f ∷ rest))
    × (free' ≡ new_free m l (after l e) ++ rest)

-- so it is but where the list is put in order: it rises then
abbrev pub ChoosesFrame : Setting → Ledger → Event → List ℕ → List ℕ → Type 0
ChoosesFrame m l e free free' =
    MatchBool (sorts_free e) (free' ≡ free_frames m (after l e)) (TakesFrame m l e free free')

-- ---- slots

-- the slot that a note takes
abbrev pub slot_in_note : Note → Option Slot
slot_in_note (Put f s) = Some s
slot_in_note note = None

-- and so an event, if it is a note
abbrev pub slot_in : Event → Option Slot
slot_in (Noted note) = slot_in_note note
slot_in event = None

-- whether a swap area that is on can give a slot: it is not closing and has a free one
abbrev pub can_give : Setting → Option ℕ → Ledger → ℕ × SwapArea → Bool
can_give m closing l a = is_open closing a.0 && nat_lt 0 (free_slots m l a)

-- and whether none of those that can has a greater priority
abbrev pub has_greatest_priority : Setting → Option ℕ → Ledger → ℕ × SwapArea → Bool
has_greatest_priority m closing l a =
    can_give m closing l a
    && list_all (λ b. not (can_give m closing l b) || int_le b.1.priority a.1.priority) l.on

-- the swap area that gives a slot: the first of those with the greatest priority
abbrev pub giving_swap_area : Setting → Option ℕ → Ledger → Option ℕ
giving_swap_area m closing l =
    option_map (λ a. a.0) (find (has_greatest_priority m closing l) l.on)

-- what that says, in plain sentences: the area is on and can give a slot. None that can has a
-- greater priority, and none of a lesser number that can has as great a one
pub record GivesFirst (m : Setting) (closing : Option ℕ) (l : Ledger) (k : ℕ) : Type 0 where
  pub area : SwapArea
  pub is_on : find_area nat_cmp k l.on ≡ Some area
  pub gives : can_give m closing l (k, area) ≡ true
  pub greatest : (j : ℕ) (other : SwapArea) → find_area nat_cmp j l.on ≡ Some other
      → can_give m closing l (j, other) ≡ true → other.priority ≤ℤ area.priority
  pub least : (j : ℕ) (other : SwapArea) → j < k → find_area nat_cmp j l.on ≡ Some other
      → can_give m closing l (j, other) ≡ true → other.priority <ℤ area.priority

-- the slot is the one that the clusters of that area give
abbrev pub IsGiven : Setting → Option ℕ → Ledger → Slot → AreaSlots → AreaSlots → Type 0
IsGiven m closing l s slots slots' =
    (giving_swap_area m closing l ≡ Some s.area)
    × IsSomeAnd (take_slot (slots s.area))
    (λ t. (t.0 ≡ s.page) × (slots' ≡ with_at s.area t.1 slots))

-- clusters from which nothing is given yet, made of the header where it is told; else of page 0 and
-- as many slots and bad pages as is said, at most the area's pages and those of a header
abbrev pub AreFresh : Setting → ℕ → SwapArea → Slots → Type 0
AreFresh m k area made =
    MatchOption m.headers
    ((pages : ℕ) × (bad : List ℕ) × (pages ≤ min (size_of m k) most_pages)
    × (1 + area.slots + area.bad ≡ pages)
    × (made ≡ fresh pages bad) × (count_by is_free_page made.pages ≡ area.slots))
    (λ headers. IsSomeAnd (headers k)
    (λ (h : Layout). HasNumbers area h × (made ≡ fresh h.pages h.bad)))

-- an area that is turned on has new clusters, and one that is turned off has none
abbrev pub SwitchesArea : Setting → Event → AreaSlots → AreaSlots → Type 0
SwitchesArea m (TurnedOn k area) old new =
    (made : Slots) × AreFresh m k area made × (new ≡ with_at k made old)
SwitchesArea m (TurnedOff k) old new = new ≡ with_at k (no_slots k) old
SwitchesArea m event old new = new ≡ old

-- the slots of an area whose count has become 0, rising
abbrev pub new_free_slots : Setting → Ledger → Ledger → ℕ → List ℕ
new_free_slots m old new k =
    filter (λ page. let s : Slot = record { area = k; page = page } in
    slot_count new s == 0 && nat_lt 0 (slot_count old s))
    (range_with_len 1 (size_of m k - 1))

-- they are given back to their clusters
abbrev pub with_given_back : Setting → Ledger → Ledger → AreaSlots → AreaSlots
with_given_back m old new slots k = fold give_slot (slots k) (new_free_slots m old new k)

-- a slot that an event takes is the one that is given, and what has become free is given back
abbrev pub ChoosesSlot : Setting → Option ℕ → Ledger → Event → AreaSlots → AreaSlots → Type 0
ChoosesSlot m closing l e slots slots' =
    (on : AreaSlots) × (rest : AreaSlots) × SwitchesArea m e slots on
    × MatchOption (slot_in e) (rest ≡ on) (λ s. IsGiven m closing l s on rest)
    × (slots' ≡ with_given_back m l (after l e) rest)

-- ---- both

-- what is free before and after one event, while that swap area, if any, is closing
pub record Chooses (m : Setting) (closing : Option ℕ) (l : Ledger) (e : Event) (free free' : Free)
    : Type 0 where
  pub frames : ChoosesFrame m l e free.frames free'.frames
  pub slots : ChoosesSlot m closing l e free.slots free'.slots

-- and after several
abbrev pub ChoosesAll : Setting → Option ℕ → Ledger → List Event → Free → Free → Type 0
ChoosesAll m closing l [] free free' = free' ≡ free
ChoosesAll m closing l (e ∷ es) free free' =
    (mid : Free) × Chooses m closing l e free mid × ChoosesAll m closing (after l e) es mid free'

-- the list has each free frame of the machine once, and no other number
abbrev pub ListsFree : Setting → Ledger → List ℕ → Type 0
ListsFree m l free = (f : ℕ) →
    how_many (λ g. f == g) free ≡ (if is_free l f && nat_lt f m.frames then 1 else 0)

-- in the slots of each area a page is taken exactly where its slot is in use, and free only where
-- the ledger has its slot free: as many as the area has free. An area that is off has no slots, not
-- even clusters: so nothing is left of it when it is turned on again
pub record ListsSlots (m : Setting) (l : Ledger) (slots : AreaSlots) : Type 0 where
  pub taken : (s : Slot)
      → is_taken (page_at (slots s.area).pages s.page) ≡ nat_lt 0 (slot_count l s)
  pub free : (s : Slot) → is_free_page (page_at (slots s.area).pages s.page) ≡ true
      → is_free_slot m l s ≡ true
  pub number : (k : ℕ) → count_by is_free_page (slots k).pages
      ≡ option_map_or (λ area. free_slots m l (k, area)) (find_area nat_cmp k l.on) 0
  pub off : (k : ℕ) → is_on l k ≡ false → slots k ≡ no_slots k

-- what is free is what the ledger has free
pub record ListsAll (m : Setting) (l : Ledger) (free : Free) : Type 0 where
  pub frames : ListsFree m l free.frames
  pub slots : ListsSlots m l free.slots
