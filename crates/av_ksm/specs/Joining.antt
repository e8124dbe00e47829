-- What the steps of a merge do to the memory system.
use Rattle.std.specs.Prelude.{◌≡◌, ℕ, Bool, Option, option_map}
use Rattle.av_base.specs.Items.{Item}
use Rattle.av_base.specs.Keys.{Key}
use Rattle.av_pagetable.specs.Entries.{entry_at}
use Rattle.av_pagetable.specs.declared.pte.Pte.TheVariants.{Here}
use Rattle.av_mem.specs.Cache.{root_in}
use Rattle.av_mem.specs.Mem.{view}
use Rattle.av_mem.specs.declared.mem.Mem.{Mem}
use Rattle.av_ksm.specs.Join.{view_shared}

-- the item of a home: the root in place of the anon_vma
abbrev pub item_by : Mem → Option (ℕ × ℕ) → Option Item
item_by k home = option_map (λ (h : ℕ × ℕ). (root_in k h.0, h.1)) home

-- the frame, which the page's entry names, is merged
pub record HasShared (old new : Mem) (k : Key) (f : ℕ) : Type 0 where
  pub write : Bool
  pub seen : Bool
  pub there : entry_at old.tables k.0 k.1 ≡ Here f write seen
  pub view : view new
      ≡ view_shared k.0 k.1 f seen (item_by old ((view old).homes f)) (view old)
