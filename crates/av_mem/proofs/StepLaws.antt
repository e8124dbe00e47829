-- The view after a step that changes frames, lists and the swap cache alone.
use Rattle.std.proofs.Common.{◌≡◌, ℕ, Option}
use Rattle.av_frames.specs.Store.{Shown as ShownFrames, shown as shown_frames}
use Rattle.av_lru.specs.Lists.{Lists}
use Rattle.av_pagetable.specs.Entries.{entry_at}
use Rattle.av_rmap.specs.Items.{shown as shown_items}
use Rattle.av_plain.specs.Stands.{Pte as Plain}
use Rattle.av_swapcache.specs.Swap.{Shown as ShownSwap, shown as shown_swap}
use Rattle.av_mem.specs.Mem.{plain, view, view_of_parts}
use Rattle.av_mem.specs.declared.mem.Mem.{Mem}

-- what the tables say
abbrev pub table_of : Mem → ℕ → ℕ → Option Plain
table_of k p page = plain (entry_at k.tables p page)

-- the items, tables, areas and anon_vmas are as they were
pub record SameRest (old new : Mem) : Type 0 where
  pub items : new.items ≡ old.items
  pub tables : new.tables ≡ old.tables
  pub spaces : new.spaces ≡ old.spaces
  pub anons : new.anons ≡ old.anons

pub view-by : (old new : Mem) (F : ShownFrames) (L : Lists) (h : ShownSwap) → SameRest old new → shown_frames new.frames ≡ F → new.lists ≡ L
    → shown_swap new.swap ≡ h → view new ≡ view_of_parts F L (shown_items old.items) (table_of old) old.spaces old.anons h
view-by old new F L h same frames lists swap =
    λ i. view_of_parts (frames i) (lists i) (shown_items (same.items i)) (λ p page. plain (entry_at (same.tables i) p page)) (same.spaces i)
    (same.anons i) (swap i)
