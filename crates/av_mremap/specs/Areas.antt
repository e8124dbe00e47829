-- What the areas of a process become.
use Rattle.std.specs.Prelude.{◌≡◌, ℕ, is_some, length, IfSome}
use Rattle.av_base.specs.Words.{with_at}
use Rattle.av_vma.specs.Pages.{Pages}
use Rattle.av_plain.specs.Device.{Device}
use Rattle.av_plain.specs.Report.{AreApart}
use Rattle.av_plain.specs.Transcript.{State}
use Rattle.av_mem.specs.declared.mem.Mem.{Mem}
use Rattle.av_mem.specs.Mem.{Keeps, ranges_of}
use Rattle.av_spaces.specs.Kin.{AnonsStay}
use Rattle.av_spaces.specs.Spaces.{areas_of, pages_of}

-- its areas and anon_vmas are those of a memory system that stands for this state; its counts may
-- be others
pub record HasAreas (k : Mem) (s : State) : Type 0 where
  pub device : Device
  pub whole : Mem
  pub keeps : Keeps device whole s
  pub spaces : k.spaces ≡ whole.spaces
  pub anons : k.anons ≡ whole.anons

-- p has these areas on its pages now, and the others have what they had; the same processes live,
-- and no anon_vma is made or changes its kin
pub record HasRemap (old new : Mem) (p : ℕ) (on : Pages) : Type 0 where
  pub areas : (q page : ℕ) → pages_of new.spaces.processes q page
      ≡ with_at p on (pages_of old.spaces.processes) q page
  pub alive : (q : ℕ) → is_some (areas_of new.spaces.processes q)
      ≡ is_some (areas_of old.spaces.processes q)
  pub number : length new.spaces.processes ≡ length old.spaces.processes
  pub apart : (q : ℕ) → IfSome (ranges_of new.spaces.processes q) AreApart
  pub anons : AnonsStay old.spaces old.anons new.spaces new.anons
