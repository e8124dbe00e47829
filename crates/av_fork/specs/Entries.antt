-- How the entries of a process go over to a child.
use Rattle.std.specs.Prelude.{◌≡◌, ℕ, Bool, false, not, ◌&&◌, if◌then◌else◌, Option, Some}
use Rattle.std.specs.Prelude.{None}
use Rattle.std.specs.Prelude.{option_map}
use Rattle.av_plain.specs.Choice.{Chooses}
use Rattle.av_plain.specs.Device.{Device}
use Rattle.av_plain.specs.Event.{Forked, after}
use Rattle.av_plain.specs.Fork.{inheritance}
use Rattle.av_plain.specs.Ledger.{Ledger}
use Rattle.av_pagetable.specs.declared.pte.Pte.{Pte}
use Rattle.av_pagetable.specs.declared.pte.Pte.TheVariants.{Empty}
use Rattle.av_plain.specs.Areas.{Items}
use Rattle.av_plain.specs.Stands.{ItemsAre, View, free_of}
use Rattle.av_plain.specs.World.{Page, Process}
use Rattle.av_vma.specs.Pages.{pages_in}
use Rattle.av_vma.specs.declared.area.Area.{Area}
use Rattle.av_mem.specs.declared.mem.Mem.{Mem}
use Rattle.av_mem.specs.Mem.{setting_by, view, HasLedger}

-- the areas of a process have the flags of its pages
abbrev pub FlagsAre : View → ℕ → Process → Type 0
FlagsAre v p pages = (page : ℕ)
    → option_map (λ (area : Area). area.flags) (pages_in (v.areas p) page)
    ≡ option_map (λ (q : Page). q.flags) (pages page)

-- whether the entry of a page goes over, by the page's area: it isn't left out, and isn't wiped
abbrev pub entry_goes_over : Option Area → Bool
entry_goes_over None = false
entry_goes_over (Some area) = not area.flags.dont_fork && not area.flags.wipe_on_fork

-- the entries of a process without those that don't go over
abbrev pub left_in : (ℕ → Option Area) → (ℕ → Pte) → ℕ → Pte
left_in areas table page = if entry_goes_over (areas page) then table page else Empty

-- the child has inherited each entry of the parent that goes over: nothing is taken, nothing
-- becomes free, and the items stay, so a merged frame gets entries and no item
pub record HasForkedEntries (d : Device) (old new : Mem) (pages : Process) (l : Ledger) (p q : ℕ)
    : Type 0 where
  pub stands : HasLedger d new (after l (Forked p q (inheritance pages l p)))
  pub free : Chooses (setting_by d old) None l (Forked p q (inheritance pages l p))
      (free_of (view old)) (free_of (view new))
  pub items : (items : Items) → ItemsAre (view old) l items
      → ItemsAre (view new) (after l (Forked p q (inheritance pages l p))) items
