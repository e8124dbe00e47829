-- How `Items` keeps its lists.
use Rattle.std.specs.HashSet.{HashSet, contains}
use Rattle.std.specs.Prelude.{◌≡◌, ℕ, ◌<◌, ◌^◌, List, [], length, slice_index_or}
use Rattle.av_base.specs.Items.{Item, is_item, same_item}
use Rattle.av_base.specs.Words.{how_many}
use Rattle.av_rmap.specs.Items.{AreOnce, is_merged}

-- the set has the items of the list, and no other
abbrev pub IsSetOf : {S : Type 0} → HashSet Item S → List Item → Type 0
IsSetOf set items = (x : Item) → contains same_item set x ≡ is_item x items

-- of no frame an item stands twice
abbrev pub AllOnce : List (List Item) → Type 0
AllOnce lists = (f : ℕ) → AreOnce (slice_index_or lists f [])

-- and so many frames are merged
pub record AreKept (lists : List (List Item)) (merged : ℕ) : Type 0 where
  pub once : AllOnce lists
  pub few : length lists < 2 ^ 32
  pub counted : merged ≡ how_many is_merged lists
