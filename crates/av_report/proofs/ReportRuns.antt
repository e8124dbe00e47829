-- The rows of `maps` as they are found: the ranges joined so far, the run that may still grow, and the areas to come.
use Rattle.std.proofs.Common.{◌≡◌, ℕ, ◌*◌, List, [], ◌∷◌, ◌++◌, drop, refl, sym, ap, subst, ◌∙◌, arith, zero, suc}
use Rattle.std.specs.Prelude.{map}
use Rattle.av_vma.specs.declared.area.Area.{Area}
use Rattle.av_vma.specs.Index.{first_of, past_of}
use Rattle.av_vma.specs.Pages.{IsWhole}
use Rattle.av_spaces.specs.Spaces.{IsOwn, AreRising}
use Rattle.av_trace.specs.declared.row.Row.{Row}
use Rattle.av_trace.specs.declared.row.Row.TheVariants.{Run}
use Rattle.av_plain.specs.Report.{Range}
use Rattle.av_plain.specs.Report.{AreApart}
use Rattle.av_plain.proofs.Report.Runs.{cover, joined, longest}
use Rattle.av_command_laws.proofs.JoinedRuns.{all_rows, begins, grows, joined_rows, prot_is, prot_itself, range, same_prot}
use Rattle.av_plain.specs.Report.{range_of}
use Rattle.av_mem.proofs.MemLaws.{apart_of}
use Rattle.av_report.specs.Report.{AreRuns}

-- ---- the joined ranges are the longest runs

pub runs-are : (ranges : List Range) → AreApart ranges → AreRuns ranges (all_rows ranges)
runs-are [] h = record { runs = []; of_runs = refl; longest = tt; cover = λ page. refl }
runs-are (a ∷ ranges) h = record {
  runs = joined same_prot a ranges;
  of_runs = refl;
  longest = longest same_prot prot_is prot_itself a ranges h;
  cover = cover same_prot prot_is prot_itself a ranges h;
}

-- ---- the areas

pub own_first : (p : ℕ) (a : Area) (areas : List Area) → AreRising p (a ∷ areas) → IsOwn p a
own_first p a [] h = h
own_first p a (b ∷ areas) h = h.0

pub own_rest : (p : ℕ) (a : Area) (areas : List Area) → AreRising p (a ∷ areas) → AreRising p areas
own_rest p a [] h = tt
own_rest p a (b ∷ areas) h = h.2

pub rising_rest : (p i : ℕ) (areas : List Area) → AreRising p areas → AreRising p (drop i areas)
rising_rest p zero areas h = h
rising_rest p (suc i) [] h = tt
rising_rest p (suc i) (a ∷ areas) h = rising_rest p i areas (own_rest p a areas h)

-- ---- the loop

-- with the areas to come, these rows and this run make all the rows
abbrev pub IsLeft : List Row → Area → List Area → List Row → Type 0
IsLeft rows run areas all =
    (from : ℕ) × (to : ℕ) × (run.start ≡ 4096 * from) × (run.end ≡ 4096 * to)
    × (rows ++ joined_rows (range from to run.prot) (map range_of areas) ≡ all)

pub left-first : (p : ℕ) (a : Area) (areas : List Area) → AreRising p (a ∷ areas) → IsLeft [] a areas (all_rows (map range_of (a ∷ areas)))
left-first p a areas h = let whole = (own_first p a areas h).whole in (first_of a, past_of a, whole.start, whole.end, refl)

pub left-grown : (a run now : Area) (rows all : List Row) (areas : List Area) → IsWhole a
    → run.end ≡ a.start → run.prot ≡ a.prot → now ≡ record run { end = a.end } → IsLeft rows run (a ∷ areas) all → IsLeft rows now areas all
left-grown a run now rows all areas whole here same is h =
    let old_end = h.3 in let next_start = whole.start in
    subst (λ run. IsLeft rows run areas all) (sym is) (
      h.0,
      past_of a,
      h.2,
      whole.end,
      grows rows all h.0 h.1 run.prot (range_of a) (map range_of areas) (let at : h.1 ≡ first_of a =
          omega (arith, old_end, next_start, here) in at) same h.4,
    )

pub left-begun : (a run now : Area) (rows rows' all : List Row) (areas : List Area) → IsWhole a
    → (run.end ≡ a.start → run.prot ≡ a.prot → ⊥) → rows' ≡ rows ++ Run run.start run.end run.prot ∷ [] → now ≡ a → IsLeft rows run (a ∷ areas) all →
    IsLeft rows' now areas all
left-begun a run now rows rows' all areas whole apart added is h =
    let old_end = h.3 in let next_start = whole.start in
    subst (λ run. IsLeft rows' run areas all) (sym is) (
      first_of a,
      past_of a,
      whole.start,
      whole.end,
      ap (λ rows. rows ++ joined_rows (range_of a) (map range_of areas)) (added ∙ (λ i. rows ++ Run (h.2 i) (h.3 i) run.prot ∷ []))
          ∙ begins rows all h.0 h.1 run.prot (range_of a) (map range_of areas)
          (λ at same. apart (let is : run.end ≡ a.start = omega (arith, old_end, next_start, at) in is) same) h.4,
    )

pub left-last : (run : Area) (rows rows' all : List Row) → rows' ≡ rows ++ Run run.start run.end run.prot ∷ [] → IsLeft rows run [] all → rows' ≡ all
left-last run rows rows' all added h = added ∙ (λ i. rows ++ Run (h.2 i) (h.3 i) run.prot ∷ []) ∙ h.4

pub rising-runs : (p : ℕ) (areas : List Area) → AreRising p areas → AreRuns (map range_of areas) (all_rows (map range_of areas))
rising-runs p areas h = runs-are (map range_of areas) (apart_of p areas h)
