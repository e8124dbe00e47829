use Rattle.std.specs.Prelude.{◌≡◌, ◌<◌, ℕ, List, [], ◌∷◌, Some, None, is_some, map}
use Rattle.std.proofs.Common.{arith, ap, cond, Bool, true, false, sym, refl}
use Rattle.std.proofs.lemmas.Bool.{false≢true}
use Rattle.std.proofs.lemmas.Bool.Decides.{nat_tests}
use Rattle.av_vma.specs.Fork.{areas_to_fork}
use Rattle.av_vma.specs.Index.{first_of, past_of}
use Rattle.av_vma.specs.Pages.{has_page, pages_in}
use Rattle.av_vma.specs.declared.area.Area.{Area}
use Rattle.av_plain.specs.Areas.{Rmap, none_on}
use Rattle.av_plain.specs.Fork.{GoOver}
use Rattle.av_plain.specs.Report.{AreApart, range_of}
use Rattle.av_base.specs.Words.{with_at}
use Rattle.av_examples.specs.Steps.{left_by_another}
use Rattle.av_examples.proofs.steps.forks_go_by_parents.Goals as goal

-- an area has its first page
first : (area : Area) (areas : List Area) → first_of area < past_of area → pages_in (Some (area ∷ areas)) (first_of area) ≡ None → ⊥
first area areas some none = by (has_page area (first_of area)) here none
  where
    here : has_page area (first_of area) ≡ true
    here = grind (arith, nat_tests, some)

    by : (b : Bool) → b ≡ true → cond b (Some area) (pages_in (Some areas) (first_of area)) ≡ None → ⊥
    by true is none = false≢true (sym (ap is_some none))
    by false is none = false≢true is

-- the process without the area
abbrev without : Rmap
without = record left_by_another { areas = with_at 2 none_on left_by_another.areas }

by_areas : (areas : List Area) → AreApart (map range_of areas) → ((page : ℕ) → pages_in (Some areas) page ≡ None)
    → GoOver 2 (areas_to_fork areas) without left_by_another → ⊥
by_areas [] apart none goes = false≢true (sym (ap (λ (r : Rmap). is_some (r.areas 2 0x10)) goes))
by_areas (area ∷ []) apart none goes = first area [] apart (none (first_of area))
by_areas (area ∷ other ∷ areas) apart none goes = first area (other ∷ areas) apart.0 (none (first_of area))

pub returns-clause-left_area : goal.returns-clause-left_area
returns-clause-left_area c h = by_areas h.0 h.1 h.2 h.3

pub returns-clause-two_children : goal.returns-clause-two_children
returns-clause-two_children c h = let few : 2 < 2 = h.few in omega (arith, few)

pub returns-clause-own_one : goal.returns-clause-own_one
returns-clause-own_one c h = h.free 1 0x10 refl

pub returns-clause-root : goal.returns-clause-root
returns-clause-root c h = h.below refl
