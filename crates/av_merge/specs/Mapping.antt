-- How a page is mapped: what its area says of it, whatever the area's bounds are.
use Rattle.std.specs.Prelude.{◌≡◌, ℕ, ◌-◌, if◌then◌else◌, Option, option_map, IfSome}
use Rattle.av_base.specs.declared.flags.Flags.{Flags}
use Rattle.av_base.specs.declared.prot.Prot.{Prot}
use Rattle.av_vma.specs.declared.area.Area.{Area}
use Rattle.av_base.specs.Words.{within}
use Rattle.av_vma.specs.Index.{index_of}
use Rattle.av_vma.specs.Pages.{Pages, Effect}

-- the protection and flags of a page's area, and the page's linear index; not its own anon_vma,
-- which a page may get by a join
pub record Mapping : Type 0 where
  pub prot : Prot
  pub flags : Flags
  pub index : ℕ

-- how an area maps one of its pages
abbrev pub mapping_in : ℕ → Area → Mapping
mapping_in page area = record {
  prot = area.prot;
  flags = area.flags;
  index = index_of area page;
}

-- how a page is mapped, if it is
abbrev pub mapping : Pages → ℕ → Option Mapping
mapping on page = option_map (mapping_in page) (on page)

-- with the effect of a change
abbrev pub mapping_with : Effect → Mapping → Mapping
mapping_with effect m = record m { prot = effect.prot m.prot; flags = effect.flags m.flags }

-- the pages from one to below another are mapped with the effect, and the others as they were
abbrev pub IsRemapped : ℕ → ℕ → Effect → Pages → Pages → Type 0
IsRemapped from past effect old new = (page : ℕ) → mapping new page
    ≡ (if within from (past - from) page then option_map (mapping_with effect) (mapping old page)
    else mapping old page)

-- the pages on the two sides of a boundary, if both are mapped, have another protection or flags
abbrev pub DoDiffer : ℕ → Pages → Type 0
DoDiffer at on = IfSome (mapping on (at - 1)) (λ m. IfSome (mapping on at)
    (λ n. m.prot ≡ n.prot → m.flags ≡ n.flags → ⊥))
