-- The items of merged frames, and what they find.
use Rattle.std.specs.List.{list_any}
use Rattle.std.specs.Prelude.{◌≡◌, ◌<◌, ◌≤◌, ℕ, ◌+◌, Bool, true, false, ◌&&◌, ◌==◌, if◌then◌else◌}
use Rattle.std.specs.Prelude.{List, [], ◌∷◌, ◌++◌, length, slice_index_or, Some, IfSome, IsSomeAnd}
use Rattle.av_base.specs.Keys.{Key}
use Rattle.av_base.specs.Items.{Item, is_item, same_item}
use Rattle.av_base.specs.Words.{how_many, is_in, with_at}
use Rattle.av_pagetable.specs.declared.pte.Pte.{Pte}
use Rattle.av_anon.specs.Anons.{Family}
use Rattle.av_anon.specs.declared.infos.Info.{Info}
use Rattle.av_rmap.specs.Covered.{IsReached}
use Rattle.av_rmap.specs.View.{View}
use Rattle.av_rmap.specs.Walk.{found_from, looks_from}

-- no item stands twice
abbrev pub AreOnce : List Item → Type 0
AreOnce items = (x : Item) → how_many (same_item x) items ≤ 1

-- ---- what is kept of each frame

-- how many frames there are, and the items of each
pub record Shown : Type 0 where
  pub frames : ℕ
  pub items : ℕ → List Item

-- the same of lists by frame
abbrev pub shown : List (List Item) → Shown
shown lists = record { frames = length lists; items = λ f. slice_index_or lists f [] }

-- no frame is merged
abbrev pub none_merged : ℕ → Shown
none_merged frames = record { frames = frames; items = λ f. [] }

abbrev pub with_items : ℕ → List Item → Shown → Shown
with_items f items s = record s { items = with_at f items s.items }

-- a frame gives its items to one that has none
abbrev pub with_renamed : ℕ → ℕ → Shown → Shown
with_renamed from to s = with_items from [] (with_items to (s.items from) s)

-- whether a frame with these items is merged
abbrev pub is_merged : List Item → Bool
is_merged [] = false
is_merged (x ∷ items) = true

-- ---- the walk

-- each entry that passes the test, as one that names a merged frame, is reached from one of these
abbrev pub AreCovered : View → (Pte → Bool) → List Item → Type 0
AreCovered view passes items = (process page : ℕ) → passes (view.entry process page) ≡ true
    → (x : Item) × (is_item x items ≡ true) × IsReached view x process page

-- no chain holds the anon_vmas of two of these. So it is where they are roots: a chain holds one
-- root
abbrev pub AreRootsApart : View → List Item → Type 0
AreRootsApart view items = (area : ℕ) (x y : Item) → is_item x items ≡ true → is_item y items ≡ true
    → is_in x.0 (view.chain area) ≡ true → is_in y.0 (view.chain area) ≡ true → x.0 ≡ y.0

-- each of these has the number of a root that was made, be it there or not any more
abbrev pub AreRoots : Family → List Item → Type 0
AreRoots f items = (x : Item) → is_item x items ≡ true
    → (x.0 < f.next) × IfSome (f.info x.0) (λ (i : Info). i.root ≡ x.0)

-- an anon_vma that was made keeps its root as long as it is there
pub record KeepsRoots (old new : Family) : Type 0 where
  pub next : old.next ≤ new.next
  pub roots : (v : ℕ) → v < old.next
      → IfSome (new.info v) (λ (j : Info). IsSomeAnd (old.info v) (λ (i : Info). i.root ≡ j.root))

-- what the looks find from one item after the other
abbrev pub found_from_all : View → (Pte → Bool) → List Item → List Key
found_from_all view passes [] = []
found_from_all view passes (x ∷ items) =
    found_from view passes x ++ found_from_all view passes items

-- how many looks that are
abbrev pub looks_from_all : View → List Item → ℕ
looks_from_all view [] = 0
looks_from_all view (x ∷ items) = looks_from view (Some x) + looks_from_all view items
