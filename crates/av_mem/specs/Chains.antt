-- What is reached of the entries of a frame, or of its slot, through its home, and how many it has.
use Rattle.std.specs.Prelude.{◌≡◌, ℕ, true, if◌then◌else◌, List, [], ◌∷◌, Option, Some, None}
use Rattle.av_base.specs.Keys.{Key}
use Rattle.av_base.specs.declared.slot.Slot.{Slot}
use Rattle.av_anon.specs.Anons.{family}
use Rattle.av_anon.specs.Spans.{spans_of}
use Rattle.av_pagetable.specs.Entries.{entry_at}
use Rattle.av_rmap.specs.Covered.{IsCoveredFrom}
use Rattle.av_rmap.specs.View.{View, view_with}
use Rattle.av_rmap.specs.Items.{AreCovered, is_merged}
use Rattle.av_rmap.specs.Walk.{HasSoMany, names_frame, names_slot}
use Rattle.av_spaces.specs.Spaces.{AreNumbered}
use Rattle.av_vma.specs.Areas.{area_of}
use Rattle.av_mem.specs.Mem.{view}
use Rattle.av_mem.specs.declared.mem.Mem.{Mem}

-- what a walk reads of the memory system
abbrev pub reach : Mem → View
reach k = view_with (area_of k.spaces.areas) (family k.anons) (spans_of k.anons) (entry_at k.tables)

-- each entry that names the frame is reached from its home; without a home none does. It is so
-- where areas stand under their numbers, which the areas themselves keep
abbrev pub AreReached : Mem → ℕ → Type 0
AreReached k f = AreNumbered k.spaces → IsCoveredFrom (reach k) (names_frame f) ((view k).homes f)

-- so is each that names the slot, which the frame caches
abbrev pub AreSlotReached : Mem → Slot → ℕ → Type 0
AreSlotReached k s f =
    AreNumbered k.spaces → IsCoveredFrom (reach k) (names_slot s) ((view k).homes f)

-- where the entries of a frame are looked for: at its items where it is merged, else at its home
abbrev pub places_at_home : Option (ℕ × ℕ) → List (ℕ × ℕ)
places_at_home None = []
places_at_home (Some home) = home ∷ []

abbrev pub places : Mem → ℕ → List (ℕ × ℕ)
places k f =
    if is_merged ((view k).items f) then (view k).items f else places_at_home ((view k).homes f)

-- each entry that names the frame is reached from there
abbrev pub AreFound : Mem → ℕ → Type 0
AreFound k f = AreNumbered k.spaces → AreCovered (reach k) (names_frame f) (places k f)

-- as many entries name the frame as its map count says
abbrev pub AreCounted : Mem → ℕ → Type 0
AreCounted k f = HasSoMany (reach k) (names_frame f) ((view k).maps f)
