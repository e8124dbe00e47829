-- What an mremap goes by: the protections of pages, and where they go.
use Rattle.std.specs.Prelude.{◌≡◌, ℕ, ◌+◌, ◌-◌, ◌^◌, ◌<◌, ◌≤◌, Some, None, IsSomeAnd, Result, Ok}
use Rattle.std.specs.Prelude.{Err, Option, option_map}
use Rattle.av_base.specs.Limits.{most_indices}
use Rattle.av_base.specs.declared.prot.Prot.{Prot}
use Rattle.av_trace.specs.declared.mode.Mode.{Mode}
use Rattle.av_trace.specs.declared.reply.Errno.{Errno}
use Rattle.av_trace.specs.declared.reply.Errno.TheVariants.{Enomem}
use Rattle.av_vma.specs.Index.{index_of}
use Rattle.av_vma.specs.Pages.{Pages}
use Rattle.av_vma.specs.declared.area.Area.{Area}
use Rattle.av_spaces.specs.Spaces.{Spaces, pages_of}
use Rattle.av_plain.specs.Mremap.{MovesTo, prot_at}
use Rattle.av_plain.specs.World.{Process}

-- the protection of a page, where it has an area
abbrev pub prots : Pages → ℕ → Option Prot
prots on page = option_map (λ (area : Area). area.prot) (on page)

-- these areas are on the pages that are mapped, with their protections, and on no other page
abbrev pub HaveProtsOf : Pages → Process → Type 0
HaveProtsOf on q = (page : ℕ) → prots on page ≡ prot_at q page

-- n pages become m from this page on, or there is no room
abbrev pub IsTarget : Process → ℕ → ℕ → ℕ → Mode → Result ℕ Errno → Type 0
IsTarget q from n m mode (Ok to) = MovesTo q from n m mode (Some to)
IsTarget q from n m mode (Err error) = MovesTo q from n m mode None × (error ≡ Enomem)

-- where n pages of p, from one on, become more, linear indices stay small
abbrev pub StaySmall : Spaces → ℕ → ℕ → ℕ → ℕ → Type 0
StaySmall s p from n m = n < m → IsSomeAnd (pages_of s p (from + n - 1))
    (λ (area : Area). index_of area (from + n - 1) + (m - n) < most_indices)

-- one would get too great
abbrev pub GrowTooFar : Spaces → ℕ → ℕ → ℕ → ℕ → Type 0
GrowTooFar s p from n m = (n < m) × IsSomeAnd (pages_of s p (from + n - 1))
    (λ (area : Area). most_indices ≤ index_of area (from + n - 1) + (m - n))
