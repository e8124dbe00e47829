-- Which slot of a swap area is given next: what each page of the area is, and the clusters of pages
-- in which slots are given.
use Rattle.std.specs.Prelude.{◌≡◌, ℕ, ◌+◌, ◌-◌, ◌*◌, ◌/◌, ◌^◌, ◌<◌, ◌≤◌, Bool, true, false, ◌||◌}
use Rattle.std.specs.Prelude.{◌==◌, if◌then◌else◌, List, [], ◌∷◌, ◌++◌, length, map, filter, take}
use Rattle.std.specs.Prelude.{drop, slice_set, slice_index_or, Option, None, Some, MatchOption}
use Rattle.std.specs.Prelude.{count_by, position}
use Rattle.std.specs.List.{list_any, range_with_len}
use Rattle.std.specs.Option.{option_map, is_some}
use Rattle.av_base.specs.Words.{is_in}
use Rattle.av_clusters.specs.declared.clusters.Page.{Page}
use Rattle.av_clusters.specs.declared.clusters.Page.TheVariants.{Unusable, Free, Taken}

-- the value of `Clusters`: what each page is; the free clusters, in the order in which they are
-- opened; the cluster that is being filled, and the page from which on
pub record Slots : Type 0 where
  pub pages : List Page
  pub free : List ℕ
  pub current : Option ℕ
  pub cursor : ℕ

-- whether a page is a slot that can be given
abbrev pub is_free : Page → Bool
is_free Unusable = false
is_free Free = true
is_free Taken = false

-- whether it is one that is given
abbrev pub is_taken : Page → Bool
is_taken Unusable = false
is_taken Free = false
is_taken Taken = true

-- what the page of this number is
abbrev pub page_at : List Page → ℕ → Page
page_at pages p = slice_index_or pages p Unusable

-- the pages from one on, below another
abbrev pub pages_between : ℕ → ℕ → List Page → List Page
pages_between from to pages = take (to - from) (drop from pages)

-- the lowest free slot among them
abbrev pub lowest : List Page → ℕ → ℕ → Option ℕ
lowest pages from to = option_map (λ i. from + i) (position is_free (pages_between from to pages))

-- the lowest in one part of an area, whose parts have so many pages: its clusters, or their groups
abbrev pub lowest_in : ℕ → List Page → ℕ → Option ℕ
lowest_in size pages c = lowest pages (size * c) (size * c + size)

-- how many pages a cluster has; the last one of an area may be cut short
abbrev pub cluster_size : ℕ
cluster_size = 256

-- a cluster's first page
abbrev pub start_of : ℕ → ℕ
start_of c = cluster_size * c

-- the page after its last
abbrev pub end_of : ℕ → ℕ
end_of c = cluster_size * c + cluster_size

-- whether a page of the cluster is free
abbrev pub has_free : List Page → ℕ → Bool
has_free pages c = is_some (lowest_in cluster_size pages c)

-- whether one is taken
abbrev pub has_taken : List Page → ℕ → Bool
has_taken pages c = list_any is_taken (pages_between (start_of c) (end_of c) pages)

-- at first each page is free, except for the header, which is the first, and the bad ones
abbrev pub at_first : List ℕ → ℕ → Page
at_first bad p = if p == 0 || is_in p bad then Unusable else Free

-- the n pages of an area at first
abbrev pub pages_of : ℕ → List ℕ → List Page
pages_of n bad = map (at_first bad) (range_with_len 0 n)

-- how many clusters an area of n pages has; one more where the last would be empty
abbrev pub cluster_count : ℕ → ℕ
cluster_count n = n / cluster_size + 1

-- how many pages a group of 64 clusters has; the last one of an area may be cut short
abbrev pub group_size : ℕ
group_size = 64 * cluster_size

-- how many groups an area of n pages has
abbrev pub group_count : ℕ → ℕ
group_count n = n / group_size + 1

-- the clusters with a free slot, rising
abbrev pub clusters_of : List Page → List ℕ
clusters_of pages = filter (has_free pages) (range_with_len 0 (cluster_count (length pages)))

-- an area of n pages from which no slot is given yet
abbrev pub fresh : ℕ → List ℕ → Slots
fresh n bad = record {
  pages = pages_of n bad;
  free = clusters_of (pages_of n bad);
  current = None;
  cursor = 0;
}

-- a page is taken
abbrev pub after_take : Slots → ℕ → Slots
after_take t p = record t { pages = slice_set t.pages p Taken }

-- it is taken in this cluster, which is filled further behind it
abbrev pub after_fill : Slots → ℕ → ℕ → Slots
after_fill t c p = record t { pages = slice_set t.pages p Taken; current = Some c; cursor = p + 1 }

-- first, the lowest free slot of the current cluster from the cursor on
abbrev pub in_current : Slots → Option ℕ → Option (ℕ × Slots)
in_current t None = None
in_current t (Some c) = option_map (λ p. (p, after_fill t c p)) (lowest t.pages t.cursor (end_of c))

-- else, the lowest of the first free cluster, which becomes the current one
abbrev pub in_next : Slots → List ℕ → Option (ℕ × Slots)
in_next t [] = None
in_next t (c ∷ rest) =
    option_map (λ p. (p, after_fill (record t { free = rest }) c p))
    (lowest_in cluster_size t.pages c)

-- else, the lowest of the area
abbrev pub anywhere : Slots → Option (ℕ × Slots)
anywhere t = option_map (λ p. (p, after_take t p)) (lowest t.pages 0 (length t.pages))

-- the first of two answers
abbrev pub first_some : {X : Type 0} → Option X → Option X → Option X
first_some None other = other
first_some (Some x) other = Some x

-- the page that is given next, and what is left then
abbrev pub take_slot : Slots → Option (ℕ × Slots)
take_slot t = first_some (in_current t t.current) (first_some (in_next t t.free) (anywhere t))

-- a call gave what it should, and left all as it was where that is nothing
abbrev pub Gave : Option (ℕ × Slots) → Slots → Option ℕ → Slots → Type 0
Gave wanted old result new =
    MatchOption result ((wanted ≡ None) × (new ≡ old)) (λ p. wanted ≡ Some (p, new))

-- a slot that was free is taken now: one fewer is free, and no other page changes
abbrev pub Takes : List Page → ℕ → List Page → Type 0
Takes old p new =
    (page_at old p ≡ Free) × (page_at new p ≡ Taken)
    × (new ≡ slice_set old p Taken) × (count_by is_free new + 1 ≡ count_by is_free old)

-- a slot is free now: one more is free, and no other page changes
abbrev pub Returns : List Page → ℕ → List Page → Type 0
Returns old p new =
    (new ≡ slice_set old p Free) × (count_by is_free new ≡ count_by is_free old + 1)

-- the current cluster, unless it is this one
abbrev pub unless : ℕ → Option ℕ → Option ℕ
unless c None = None
unless c (Some d) = if c == d then None else Some d

-- a cluster from which all slots came back goes to the end of the list
abbrev pub with_free_cluster : Slots → ℕ → Slots
with_free_cluster t c = record t { free = t.free ++ c ∷ []; current = unless c t.current }

-- a slot is given back
abbrev pub give_slot : Slots → ℕ → Slots
give_slot t p =
    let t' = record t { pages = slice_set t.pages p Free } in
    if has_taken t'.pages (p / cluster_size) then t' else with_free_cluster t' (p / cluster_size)

-- the test that a flag stands
abbrev pub itself : Bool → Bool
itself b = b

-- a cluster that is being filled isn't free, and the cursor stands in it or at its end
abbrev pub Fills : List Bool → ℕ → ℕ → Option ℕ → Type 0
Fills flags count mark None = Unit {0}
Fills flags count mark (Some c) =
    (slice_index_or flags c true ≡ true) × (start_of c ≤ mark) × (mark ≤ end_of c) × (mark ≤ count)

-- a mark for each part of an area, of this many pages: of one marked as full no page is free
pub record AreFull (size : ℕ) (pages : List Page) (marks : List Bool) : Type 0 where
  pub count : length marks ≡ length pages / size + 1
  pub none_free : (p : ℕ) → slice_index_or marks (p / size) false ≡ true
      → is_free (page_at pages p) ≡ false

-- a count for each cluster: how many of its pages are taken
pub record AreCounted (pages : List Page) (counts : List ℕ) : Type 0 where
  pub count : length counts ≡ cluster_count (length pages)
  pub taken : (c : ℕ) → slice_index_or counts c 0
      ≡ count_by is_taken (pages_between (start_of c) (end_of c) pages)

-- the parts of `Clusters` fit together: the numbers of free slots and of each cluster's taken ones,
-- a flag for each cluster that isn't free, and room for all in the list
pub record IsWhole (pages : List Page) (spare : ℕ) (counts frees : List ℕ)
    (frees_len frees_room : ℕ) (flags marks group_marks : List Bool) (filled : Option ℕ) (mark : ℕ)
    : Type 0 where
  pub few : length pages < 2 ^ 32
  pub left : spare ≡ count_by is_free pages
  pub counted : AreCounted pages counts
  pub busy : length flags ≡ cluster_count (length pages)
  pub len : frees_len ≡ length frees
  pub room : length flags ≤ frees_room
  -- each cluster is flagged or stands once in the list
  pub total : length frees + count_by itself flags ≡ length flags
  pub once : (c : ℕ) → count_by (λ d. c == d) frees ≡ (if slice_index_or flags c true then 0 else 1)
  -- one with a taken slot is flagged
  pub held : (p : ℕ) → is_taken (page_at pages p) ≡ true
      → slice_index_or flags (p / cluster_size) true ≡ true
  -- one without the flag has a free slot
  pub fit : (c : ℕ) → slice_index_or flags c true ≡ false
      → (p : ℕ) × (p / cluster_size ≡ c) × (is_free (page_at pages p) ≡ true)
  pub full : AreFull cluster_size pages marks
  pub full_groups : AreFull group_size pages group_marks
  pub fills : Fills flags (length pages) mark filled
