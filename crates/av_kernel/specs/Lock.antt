-- Which pages get a lock or lose it, and how the entries of locked pages are counted then.
use Rattle.std.specs.Prelude.{◌≡◌, ℕ, ◌+◌, ◌-◌, ◌==◌, Bool, if◌then◌else◌}
use Rattle.av_base.specs.declared.flags.Flag.TheVariants.{Locked}
use Rattle.av_vma.specs.Pages.{pages_changed, to_flag}
use Rattle.av_merge.specs.Kin.{lengths}
use Rattle.av_merge.specs.Mapping.{IsRemapped}
use Rattle.av_merge.specs.Pages.{GoesTo}
use Rattle.av_spaces.specs.Kin.{AnonsStay}
use Rattle.av_spaces.specs.Spaces.{AreThese, IsChanged, is_taken, pages_of}
use Rattle.av_mem.specs.declared.mem.Mem.{Mem}
use Rattle.av_mem.specs.Locked.{locks_in}
use Rattle.av_mem.specs.Mem.{locks_of, view}

-- of p's n pages from one on those before this one are locked or unlocked, and the entries of
-- locked pages are counted anew; nothing else changes
pub record SetsLock (set : Bool) (old new : Mem) (p from n to : ℕ) : Type 0 where
  pub reached : GoesTo (is_taken old.spaces.processes p) from (from + n) to
  pub areas : IsChanged old.spaces.processes new.spaces.processes p (AreThese (pages_changed
      (lengths old.spaces.areas old.anons) (to_flag Locked set) from (to - from)
      (pages_of old.spaces.processes p)))
  pub mapping : IsRemapped from to (to_flag Locked set)
      (pages_of old.spaces.processes p) (pages_of new.spaces.processes p)
  pub anons : AnonsStay old.spaces old.anons new.spaces new.anons
  pub locks : (f : ℕ) → locks_of new f + locks_in old p from n f
      ≡ locks_of old f + locks_in new p from n f
  pub seen : view new ≡ view (record old { spaces = new.spaces; anons = new.anons })
  pub rest : new
      ≡ record old { frames = new.frames; spaces = new.spaces; anons = new.anons }

-- how many entries of locked pages that name a frame go as n pages from one on become m elsewhere
-- or in place: those of the new range, and those past the pages that are left
abbrev pub locks_lost : Mem → ℕ → ℕ → ℕ → ℕ → ℕ → ℕ → ℕ
locks_lost k p from n to m f =
    (if to == from then 0 else locks_in k p to m f) + locks_in k p (from + m) (n - m) f
