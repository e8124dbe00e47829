-- What is shown of one swap area that is on: its header, its slots with their clusters, and of each
-- slot the frame that caches it and how many entries name it.
use Rattle.std.specs.Prelude.{◌≡◌, ◌<◌, ℕ, ℤ, ◌+◌, Bool, false, not, ◌&&◌, ◌||◌, nat_lt}
use Rattle.std.specs.Prelude.{if◌then◌else◌, List, length, slice_index_or, Option, None, is_some}
use Rattle.std.specs.Prelude.{count_by}
use Rattle.av_base.specs.Words.{is_in, with_at}
use Rattle.av_clusters.specs.declared.clusters.Page.{Page}
use Rattle.av_clusters.specs.Clusters.{Slots, fresh, give_slot, is_free, is_taken, page_at}
use Rattle.av_swapdev.specs.declared.header.Header.{Header}
use Rattle.av_swapmap.specs.Counts.{Store as Counts, Shown as ShownCounts, shown as shown_counts}

-- the value of `Area`: a value has to be data, so the cache is a list by page
pub record AreaStore : Type 0 where
  pub header : Header
  pub priority : ℤ
  pub counts : Counts
  pub slots : Slots
  pub cache : List (Option ℕ)

-- the same by functions of the page: the frame that caches the slot there, how many entries name
-- it, and whether the page is bad
pub record AreaShown : Type 0 where
  pub header : Header
  pub priority : ℤ
  pub find : ℕ → Option ℕ
  pub entries : ℕ → ℕ
  pub bad : ℕ → Bool
  pub slots : Slots

-- the frame in a list by page
abbrev pub frame_at : List (Option ℕ) → ℕ → Option ℕ
frame_at cache p = slice_index_or cache p None

-- what the lists of an area say of each page
abbrev pub area_shown : AreaStore → AreaShown
area_shown a = record {
  header = a.header;
  priority = a.priority;
  find = frame_at a.cache;
  entries = (shown_counts a.counts).count;
  bad = (shown_counts a.counts).bad;
  slots = a.slots;
}

-- an area that has just been turned on: nothing names a slot of it
abbrev pub fresh_area : Header → ℤ → List ℕ → AreaShown
fresh_area header priority bad = record {
  header = header;
  priority = priority;
  find = λ p. None;
  entries = λ p. 0;
  bad = λ p. nat_lt p header.pages && is_in p bad;
  slots = fresh header.pages bad;
}

-- the count of a slot: the entries that name it, and one more if it is cached
abbrev pub counted : ℕ → Option ℕ → ℕ
counted entries frame = entries + (if is_some frame then 1 else 0)

abbrev pub count_in : AreaShown → ℕ → ℕ
count_in a p = counted (a.entries p) (a.find p)

-- how many slots are free
abbrev pub free_in : Slots → ℕ
free_in slots = count_by is_free slots.pages

-- what is shown, with one field changed at one page
abbrev pub with_frame : ℕ → Option ℕ → AreaShown → AreaShown
with_frame p frame a = record a { find = with_at p frame a.find }

abbrev pub with_entries : ℕ → ℕ → AreaShown → AreaShown
with_entries p n a = record a { entries = with_at p n a.entries }

-- the slots, where the one at a page has this count: it is given back if that is 0
abbrev pub after_count : ℕ → ℕ → Slots → Slots
after_count p n slots = if nat_lt 0 n then slots else give_slot slots p

-- a slot whose count is 0 is given back
abbrev pub given_back : ℕ → AreaShown → AreaShown
given_back p a = record a { slots = after_count p (count_in a p) a.slots }

-- whether a page is a slot, free or taken
abbrev pub is_slot : Page → Bool
is_slot page = is_free page || is_taken page

-- the page is a slot of the area
pub record IsSlot (a : AreaShown) (p : ℕ) : Type 0 where
  pub behind_header : 0 < p
  pub below : p < a.header.pages
  pub good : a.bad p ≡ false

-- how many name the slot, by the counts alone
abbrev pub uses_in : ShownCounts → ℕ → ℕ
uses_in h p = h.count p + (if h.cached p then 1 else 0)

-- what holds of the slots of an area at any time: one is taken exactly where its count is above 0;
-- the slots are the pages behind the header that aren't bad, as many as the header says
pub record IsKept (a : AreaShown) : Type 0 where
  pub taken : (p : ℕ) → is_taken (page_at a.slots.pages p) ≡ nat_lt 0 (count_in a p)
  pub usable : (p : ℕ) → is_slot (page_at a.slots.pages p)
      ≡ (nat_lt 0 p && nat_lt p a.header.pages && not (a.bad p))
  pub number : count_by is_slot a.slots.pages ≡ a.header.slots

-- the parts of an area fit together: one item for each page; a flag where a slot is cached; and
-- what holds of the slots
pub record IsArea (header : Header) (counts : ShownCounts) (all : List Page)
    (frames : List (Option ℕ)) : Type 0 where
  pub many : counts.pages ≡ header.pages
  pub pages : length all ≡ header.pages
  pub places : length frames ≡ header.pages
  pub cached : (p : ℕ) → counts.cached p ≡ is_some (frame_at frames p)
  pub taken : (p : ℕ) → is_taken (page_at all p) ≡ nat_lt 0 (uses_in counts p)
  pub usable : (p : ℕ)
      → is_slot (page_at all p) ≡ (nat_lt 0 p && nat_lt p header.pages && not (counts.bad p))
  pub number : count_by is_slot all ≡ header.slots
