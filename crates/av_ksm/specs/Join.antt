-- What it makes of the view that a frame is merged, and that a page joins it.
use Rattle.std.specs.Prelude.{◌≡◌, ℕ, ◌+◌, ◌-◌, ◌==◌, if◌then◌else◌, Bool, false, Option, Some}
use Rattle.std.specs.Prelude.{None}
use Rattle.av_base.specs.Items.{Item}
use Rattle.av_base.specs.Keys.{Key}
use Rattle.av_base.specs.Words.{with_at}
use Rattle.av_plain.specs.Areas.{with_any_item}
use Rattle.av_plain.specs.Ledger.{InFrame, Ledger, entry, is_merged, slot_of}
use Rattle.av_plain.specs.Stands.{View}
use Rattle.av_swap_laws.specs.Steps.{view_freed, with_pte}

-- ---- what a step asks of the ledger

-- the page's entry names the frame, which is neither merged nor cached
pub record HasOwn (l : Ledger) (k : Key) (f : ℕ) (seen : Bool) : Type 0 where
  pub names : entry l k ≡ Some (InFrame f seen)
  pub unmerged : is_merged l f ≡ false
  pub uncached : slot_of l f ≡ None

-- ---- what it does to the view

-- the frame has one item more
abbrev pub view_with_item : ℕ → Option Item → View → View
view_with_item f item v = record v { items = with_at f (with_any_item item (v.items f)) v.items }

-- the frame is merged: it has an item in place of its home, and the page's entry has no write bit,
-- so that a write asks for a copy
abbrev pub view_shared : ℕ → ℕ → ℕ → Bool → Option Item → View → View
view_shared p page f seen item v = record (view_with_item f item v) {
  homes = with_at f None v.homes;
  table = with_pte p page (Some (record { entry = InFrame f seen; write = false })) v.table;
}

-- the page's entry names the merged frame f, which has the page's item then, in place of g
abbrev pub view_joining : ℕ → ℕ → ℕ → ℕ → Option Item → View → View
view_joining p page f g item v = record (view_with_item f item v) {
  maps = with_at f (v.maps f + 1) (with_at g (v.maps g - 1) v.maps);
  table = with_pte p page (Some (record { entry = InFrame f false; write = false })) v.table;
}

-- and g is free where that was its last entry
abbrev pub view_joined : ℕ → ℕ → ℕ → ℕ → Option Item → View → View
view_joined p page f g item v = let left = view_joining p page f g item v in
    if v.maps g == 1 then view_freed g left else left
