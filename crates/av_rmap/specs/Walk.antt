-- The entries of a frame or a slot, and what one look finds.
use Rattle.std.specs.Prelude.{◌≡◌, ℕ, ◌+◌, ◌-◌, Bool, false, ◌&&◌, ◌==◌, if◌then◌else◌, List, []}
use Rattle.std.specs.Prelude.{◌∷◌, ◌++◌, Option, Some, None, length, map}
use Rattle.av_base.specs.Keys.{Key, same_key}
use Rattle.av_base.specs.Words.{how_many, within}
use Rattle.av_base.specs.declared.slot.Slot.{Slot}
use Rattle.av_chain.specs.Links.{one_if}
use Rattle.av_pagetable.specs.declared.pte.Pte.{Pte}
use Rattle.av_pagetable.specs.declared.pte.Pte.TheVariants.{Empty, Zero, Here, Away}
pub use Rattle.av_pagetable.specs.Seen.{names_frame, names_seen}
use Rattle.av_vma.specs.declared.area.Area.{Area}
use Rattle.av_vma.specs.Index.{first_of, past_of}
use Rattle.av_interval.specs.Batch.{overlaps_past}
use Rattle.av_interval.specs.Search.{overlaps}
use Rattle.av_rmap.specs.View.{View}
use Rattle.av_rmap.specs.declared.target.Target.{Target}
use Rattle.av_rmap.specs.declared.target.Target.TheVariants as target

-- whether an entry names the slot
abbrev pub names_slot : Slot → Pte → Bool
names_slot slot Empty = false
names_slot slot Zero = false
names_slot slot (Here frame write seen) = false
names_slot slot (Away other) = slot.area == other.area && slot.page == other.page

-- whether it names what is searched for
abbrev pub names : Target → Pte → Bool
names (target.Frame frame) entry = names_frame frame entry
names (target.Slot slot) entry = names_slot slot entry

-- the entries that pass the test, each once, in some order
abbrev pub AreItsEntries : View → (Pte → Bool) → List Key → Type 0
AreItsEntries view passes keys = (k : Key)
    → how_many (same_key k) keys ≡ one_if (passes (view.entry k.0 k.1))

-- how many there are: who asks that has `IsCovered` as well, by which there is such a list
abbrev pub HasSoMany : View → (Pte → Bool) → ℕ → Type 0
HasSoMany view passes count =
    (keys : List Key) → AreItsEntries view passes keys → length keys ≡ count

-- whether a page of the area has the linear index, and which
abbrev pub holds : ℕ → Area → Bool
holds index area = within area.pgoff (past_of area - first_of area) index

abbrev pub page_at : ℕ → Area → ℕ
page_at index area = first_of area + (index - area.pgoff)

-- whether there is an area, and it holds the index
abbrev pub is_held : ℕ → Option Area → Bool
is_held index None = false
is_held index (Some area) = holds index area

-- the areas of some places
abbrev pub areas_of : List (ℕ × ℕ) → List ℕ
areas_of places = map (λ (p : ℕ × ℕ). p.1) places

-- the areas that a walk from a home looks in: those with a span of the anon_vma that overlaps the
-- index
abbrev pub areas_from : View → ℕ × ℕ → List ℕ
areas_from view home = areas_of (overlaps_past None home.1 (view.spans home.0))

-- how many steps a walk from a home takes, and so how many looks at most: one for each span that
-- overlaps; none without a home
abbrev pub looks_from : View → Option (ℕ × ℕ) → ℕ
looks_from view None = 0
looks_from view (Some home) = how_many (overlaps home.1) (view.spans home.0)

-- whether the entry of the area's page with the index passes the test
abbrev pub passes_in : View → (Pte → Bool) → ℕ → Option Area → Bool
passes_in view passes index None = false
passes_in view passes index (Some area) =
    holds index area && passes (view.entry area.pid (page_at index area))

-- what one look finds: the area's page with the index, where its entry passes the test
abbrev pub found_in : View → (Pte → Bool) → ℕ → Option Area → List Key
found_in view passes index None = []
found_in view passes index (Some area) =
    if holds index area && passes (view.entry area.pid (page_at index area))
    then (area.pid, page_at index area) ∷ [] else []

-- what a look in each of these areas finds
abbrev pub walk_of : View → (Pte → Bool) → ℕ → List ℕ → List Key
walk_of view passes index [] = []
walk_of view passes index (a ∷ areas) =
    found_in view passes index (view.areas a) ++ walk_of view passes index areas

-- what all looks from a home find
abbrev pub found_from : View → (Pte → Bool) → ℕ × ℕ → List Key
found_from view passes home = walk_of view passes home.1 (areas_from view home)

abbrev pub list_of : Option Key → List Key
list_of None = []
list_of (Some k) = k ∷ []

-- how many looks in these areas find all entries that pass: all up to the last area with such an
-- entry
abbrev pub looks_to_last : View → (Pte → Bool) → ℕ → List ℕ → ℕ
looks_to_last view passes index [] = 0
looks_to_last view passes index (a ∷ areas) =
    if looks_to_last view passes index areas == 0
    then one_if (passes_in view passes index (view.areas a))
    else 1 + looks_to_last view passes index areas
