-- What a step of the memory system leaves as it was.
use Rattle.std.specs.Prelude.{◌≡◌, ℕ}
use Rattle.av_pagetable.specs.Entries.{has}
use Rattle.av_rmap.specs.Items.{shown as shown_items}
use Rattle.av_swapcache.specs.Swap.{shown}
use Rattle.av_mem.specs.declared.mem.Mem.{Mem}
use Rattle.av_mem.specs.Mem.{frame_count, locks_of, view}

-- which swap areas are on, with their bad pages and priorities, and which is closing
pub record KeepsSwap (old new : Mem) : Type 0 where
  pub frames : (shown new.swap).frames ≡ (shown old.swap).frames
  pub on : (shown new.swap).on ≡ (shown old.swap).on
  pub bad : (shown new.swap).bad ≡ (shown old.swap).bad
  pub closing : (shown new.swap).closing ≡ (shown old.swap).closing
  pub priority : (shown new.swap).priority ≡ (shown old.swap).priority

-- all but the parts that `stay` names, so today the areas and the anon_vmas; and of those that it
-- names: which processes have a table, the number of frames, and of swap which areas are on. These
-- are then the counts of the entries of locked pages
pub record KeepsBut (counts : ℕ → ℕ) (old new : Mem) : Type 0 where
  pub stay : new ≡ record old {
    frames = new.frames;
    tables = new.tables;
    lists = new.lists;
    items = new.items;
    swap = new.swap;
  }
  pub processes : has new.tables ≡ has old.tables
  pub count : frame_count new ≡ frame_count old
  pub lists : new.lists.frames ≡ old.lists.frames
  pub items : (shown_items new.items).frames ≡ (shown_items old.items).frames
  pub swap : KeepsSwap old new
  pub locks : locks_of new ≡ counts

-- the counts are as they were, too
abbrev pub KeepsParts : Mem → Mem → Type 0
KeepsParts old new = KeepsBut (locks_of old) old new

-- these, and the bytes and the homes of the frames
pub record KeepsRest (old new : Mem) : Type 0 where
  pub parts : KeepsParts old new
  pub bytes : (view new).bytes ≡ (view old).bytes
  pub homes : (view new).homes ≡ (view old).homes
