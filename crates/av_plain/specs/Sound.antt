-- When a ledger is sound, and what that says.
use Rattle.std.specs.FinMap.Entries.{is_sorted, find}
use Rattle.std.specs.List.{AllByRecursion, IsDistinct}
use Rattle.std.specs.Ordering.{nat_cmp}
use Rattle.std.specs.Prelude.{ℕ, ◌+◌, ◌*◌, Bool, true, false, ◌&&◌, ◌==◌, if◌then◌else◌, ◌++◌}
use Rattle.std.specs.Prelude.{Option}
use Rattle.std.specs.Prelude.{Some, None, ◌≡◌, ◌<◌, is_some, ◌≤◌, ◌||◌, length, T, nat_lt, min}
use Rattle.std.specs.Prelude.{IfSome}
use Rattle.av_base.specs.Keys.{Key, key_cmp}
use Rattle.av_base.specs.Limits.{most_processes, top_page}
use Rattle.av_base.specs.Words.{how_many}
use Rattle.av_base.specs.declared.slot.Slot.{Slot}
use Rattle.av_plain.specs.Ledger.{Cached, Entry, InFrame, InSlot, Ledger, Setting, Zero, entry}
use Rattle.av_plain.specs.Ledger.{is_cached, is_free, is_merged, is_on, is_orphan, is_usable}
use Rattle.av_plain.specs.Ledger.{map_count, names_frame, names_slot, same_slot, size_of}
use Rattle.av_plain.specs.Ledger.{slot_entries, slot_of, slots_in_use}
use Rattle.av_plain.specs.World.{World, pages}

-- ---- counts

-- how often a slot is cached
abbrev pub slots : Ledger → Slot → ℕ
slots l s = how_many (λ (c : Cached). same_slot s c.slot) l.cache

-- how often a frame caches a slot
abbrev pub holders : Ledger → ℕ → ℕ
holders l f = how_many (λ (c : Cached). f == c.frame) l.cache

-- how often the slot is cached at this frame
abbrev pub pairs : Ledger → Slot → ℕ → ℕ
pairs l s f = how_many (λ (c : Cached). same_slot s c.slot && f == c.frame) l.cache

-- how often a slot stands in flight
abbrev pub flights : Ledger → Slot → ℕ
flights l s = how_many (same_slot s) l.flight

-- how often the frame stands in the two lists
abbrev pub listings : Ledger → ℕ → ℕ
listings l f = how_many (λ g. f == g) l.active + how_many (λ g. f == g) l.inactive

-- how often the frame stands among the merged ones
abbrev pub mergings : Ledger → ℕ → ℕ
mergings l f = how_many (λ g. f == g) l.merged

-- what names a frame: it is free where this is 0
abbrev pub uses : Ledger → ℕ → ℕ
uses l f = map_count l f + holders l f

-- two entries name one memory: one frame that isn't merged, a slot and the frame that caches it, or
-- one slot
abbrev pub name_one : Ledger → Entry → Entry → Bool
name_one l Zero e = false
name_one l (InFrame f seen) Zero = false
name_one l (InFrame f seen) (InFrame g seen') = f == g && mergings l f == 0
name_one l (InFrame f seen) (InSlot s) = nat_lt 0 (pairs l s f)
name_one l (InSlot s) Zero = false
name_one l (InSlot s) (InFrame f seen) = nat_lt 0 (pairs l s f)
name_one l (InSlot s) (InSlot t) = same_slot s t

-- ---- the ledger

-- what holds after each event. excuse: the slots that may be without a use until their drop
pub record IsSoundBut (m : Setting) (excuse : Slot → ℕ) (l : Ledger) : Type 0 where
  -- entries rise by key
  pub in_order : T (is_sorted key_cmp l.entries)
  -- a slot is cached once at most, and a frame caches one slot at most, or is merged once
  pub slots_once : (s : Slot) → slots l s ≤ 1
  pub frames_once : (f : ℕ) → holders l f + mergings l f ≤ 1
  -- an entry names a merged frame
  pub merged : (f : ℕ) → mergings l f ≤ map_count l f
  -- a frame in use is one of the machine's, and stands once in the lists; a free one does not
  pub in_range : (f : ℕ) → 0 < uses l f → f < m.frames
  pub listed : (f : ℕ) → listings l f ≡ min 1 (uses l f)
  -- a slot in flight is cached, and stands there once
  pub flying : (s : Slot) → flights l s ≤ slots l s
  -- a cached slot is in flight, or an entry names it or its frame
  pub used : (s : Slot) (f : ℕ) → 0 < pairs l s f
      → 0 < flights l s + slot_entries l s + map_count l f + excuse s
  -- two entries of one process name different memories, but where they name one merged frame
  pub one : (p a b : ℕ) (d e : Entry) → entry l (p, a) ≡ Some d → entry l (p, b) ≡ Some e
      → name_one l d e ≡ true → a ≡ b

-- no slot is excused
abbrev pub no_excuse : Slot → ℕ
no_excuse s = 0

-- what holds between commands
abbrev pub IsSound : Setting → Ledger → Type 0
IsSound m l = IsSoundBut m no_excuse l

-- each entry is at a mapped page
abbrev pub AtPages : World → Ledger → Type 0
AtPages w l = (p page : ℕ) → is_some (entry l (p, page)) ≡ true → is_some (pages w p page) ≡ true

-- the count of a slot: what names it, and whether it is cached
abbrev pub count : Ledger → Slot → ℕ
count l s = slots l s + slot_entries l s

-- a slot of a swap area that is on, whether in use or not
abbrev pub is_there : Setting → Ledger → Slot → Bool
is_there m l s =
    is_on l s.area && nat_lt 0 s.page && nat_lt s.page (size_of m s.area) && is_usable m s

-- each slot in use is one
abbrev pub AreThere : Setting → Ledger → Type 0
AreThere m l = (s : Slot) → 0 < count l s → is_there m l s ≡ true

-- the swap areas that are on rise, each is attached and has pages, and none has more slots in use
-- than it has slots
pub record AreasFit (m : Setting) (l : Ledger) : Type 0 where
  pub rising : T (is_sorted nat_cmp l.on)
  pub attached : (k : ℕ) → is_on l k ≡ true → 0 < size_of m k
  pub fit : (k : ℕ) → IfSome (find nat_cmp k l.on)
      (λ area. length (slots_in_use m l k) ≤ area.slots)

-- ---- the memories

-- the processes rise, and are not too many
pub record IsTidy (w : World) : Type 0 where
  pub in_order : T (is_sorted nat_cmp w)
  pub few : length w ≤ most_processes

-- what holds of the memories and the ledger after each legal reply
pub record AllSound (m : Setting) (w : World) (l : Ledger) : Type 0 where
  pub world : IsTidy w
  pub ledger : IsSound m l
  pub at_pages : AtPages w l
  pub in_areas : AreThere m l
  pub areas_fit : AreasFit m l

-- ---- what it says, in plain sentences; this follows from the counts

-- an entry names the slot, if there is one
abbrev pub is_at_slot : Option Slot → Entry → Bool
is_at_slot None e = false
is_at_slot (Some s) e = names_slot s e

-- an entry names the frame, or the slot at which the frame is cached
abbrev pub is_of : Ledger → ℕ → Entry → Bool
is_of l f e = names_frame f e || is_at_slot (slot_of l f) e

-- two cached pairs with one slot, or with one frame
abbrev pub same_cached : Cached → Cached → Bool
same_cached a b = same_slot a.slot b.slot || a.frame == b.frame

-- what is true of memories and a ledger that are sound
pub record SaysSound (m : Setting) (w : World) (l : Ledger) : Type 0 where
  -- processes rise by number, and there are at most 4096
  pub processes : T (is_sorted nat_cmp w)
  pub few : length w ≤ most_processes
  -- entries rise by key, and each is at a page that its process has mapped
  pub entries : T (is_sorted key_cmp l.entries)
  pub at_pages : (p page : ℕ) → is_some (entry l (p, page)) ≡ true → is_some (pages w p page) ≡ true
  -- each frame that an entry names, or that caches a slot, is one of the machine's
  pub frames : (k : Key) (e : Entry) (f : ℕ) → entry l k ≡ Some e → names_frame f e ≡ true
      → f < m.frames
  pub cached_frames : AllByRecursion (λ (c : Cached). c.frame < m.frames) l.cache
  -- each slot is cached once at most, and so is each frame
  pub cached_once : IsDistinct same_cached l.cache
  -- a merged frame stands once among those, an entry names it, and it isn't cached
  pub merged_once : IsDistinct (λ f g. f == g) l.merged
  pub merged_mapped : (f : ℕ) → is_merged l f ≡ true → 0 < map_count l f
  pub not_cached : (f : ℕ) → is_merged l f ≡ true → slot_of l f ≡ None
  -- a frame stands once in one of the two lists, unless it is free
  pub listed : (f : ℕ)
      → how_many (λ g. f == g) (l.active ++ l.inactive) ≡ (if is_free l f then 0 else 1)
  -- a slot in flight is cached, and stands there once
  pub flying : (s : Slot) → how_many (same_slot s) l.flight ≤ (if is_cached l s then 1 else 0)
  -- each cached slot is in flight, or an entry names it or its frame
  pub used : (s : Slot) → is_orphan l s ≡ false
  -- a process has at most one entry of a frame that isn't merged and the slot at which it is
  -- cached, and at most one of a slot
  pub one_frame : (f p page other : ℕ) (d e : Entry) → is_merged l f ≡ false
      → entry l (p, page) ≡ Some d → is_of l f d ≡ true → entry l (p, other) ≡ Some e
      → is_of l f e ≡ true → page ≡ other
  pub one_slot : (s : Slot) (p page other : ℕ) (d e : Entry) → entry l (p, page) ≡ Some d
      → names_slot s d ≡ true → entry l (p, other) ≡ Some e → names_slot s e ≡ true → page ≡ other
  -- so no more entries name a frame that isn't merged, or a slot, than processes live
  pub mapped_few : (f : ℕ) → is_merged l f ≡ false → map_count l f ≤ length w
  pub slot_entries_few : (s : Slot) → slot_entries l s ≤ length w
  -- and any frame at most as many as processes have pages below the top, where all pages are there
  pub mapped_of_merged : ((p page : ℕ) → is_some (pages w p page) ≡ true → page < top_page)
      → (f : ℕ) → map_count l f ≤ length w * top_page
