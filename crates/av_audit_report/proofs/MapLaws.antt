-- The runs of `maps`, row by row.
use Rattle.std.proofs.Common.{◌≡◌, ℕ, Bool, true, false, List, [], ◌∷◌, map, length, Option, Some, None, refl, sym, ap, subst, ◌∙◌}
use Rattle.std.specs.Prelude.{option_map}
use Rattle.std.specs.BTreeMap.{get}
use Rattle.std.specs.Ordering.{nat_cmp}
use Rattle.std.specs.List.{AllByRecursion}
use Rattle.av_text.specs.Number.{IsWide}
use Rattle.av_trace.specs.Row.{IsRun}
use Rattle.av_trace.specs.declared.reply.Reply.{Reply}
use Rattle.av_trace.specs.declared.row.Row.{Row}
use Rattle.av_plain.specs.Report.{AreApart, AreMaps, Range as PlainRange, row_of}
use Rattle.av_plain.specs.World.{Page, Process}
use Rattle.av_plain.proofs.Report.Runs.{all_joined, cover, longest}
use Rattle.av_command_laws.proofs.JoinedRuns.{all_rows, begun, grew, joined_rows, prot_is, prot_itself, same_prot}
use Rattle.av_audit_ranges.specs.Ranges.{marks_at}
use Rattle.av_audit_ranges.specs.declared.marks.Marks.{Marks}
use Rattle.av_audit_ranges.specs.declared.marks.Range.{Range}
use Rattle.av_audit_world.specs.Space.{IsPage, IsSpace, byte_in}
use Rattle.av_audit_world.specs.declared.space.Space.{Space}
use Rattle.av_audit_report.specs.Made.{IsMade}
use Rattle.av_audit_report.specs.Report.{shown_runs}
use Rattle.av_audit_report.specs.Rows.{AreFilled, IsAdded}
use Rattle.av_audit_report.specs.Runs.{AreCut, AreRunsOf, plain_range, plain_ranges}
use Rattle.av_audit_report.proofs.ReportLaws.{AreLeft, left-added, left-all, left-last, left-none}

pub runs-of : (ranges : List PlainRange) → AreApart ranges → AreRunsOf ranges (all_joined same_prot ranges)
runs-of [] h = record { longest = tt; cover = λ page. refl }
runs-of (a ∷ ranges) h = record {
  longest = longest same_prot prot_is prot_itself a ranges h;
  cover = cover same_prot prot_is prot_itself a ranges h;
}

-- with the ranges to come these rows and this run make all the rows
abbrev pub AreRunsLeft : List Row → List Row → Range → List Range → Type 0
AreRunsLeft all rows run rest = AreLeft IsRun all rows (joined_rows (plain_range run) (plain_ranges rest))

module _ (all rows : List Row) (run next : Range) (later : List Range) (left : AreRunsLeft all rows run (next ∷ later)) where
  pub runs-grow : run.end ≡ next.start → run.marks.prot ≡ next.marks.prot → AreRunsLeft all rows (record run { end = next.end }) later
  runs-grow here same = subst (AreLeft IsRun all rows) (grew (plain_range run) (plain_range next) (plain_ranges later) here same) left

  module _ (apart : run.end ≡ next.start → run.marks.prot ≡ next.marks.prot → ⊥) (new : List Row) where
    first : AreLeft IsRun all rows (row_of (plain_range run) ∷ joined_rows (plain_range next) (plain_ranges later))
    first = subst (AreLeft IsRun all rows) (begun (plain_range run) (plain_range next) (plain_ranges later) apart) left

    pub runs-begin : IsAdded IsRun (row_of (plain_range run)) true rows new → AreRunsLeft all new next later
    runs-begin added = left-added IsRun all rows new (joined_rows (plain_range next) (plain_ranges later)) (row_of (plain_range run)) first added

    pub runs-wide : IsAdded IsRun (row_of (plain_range run)) false rows new → AreFilled IsRun all false new
    runs-wide wide = left-none IsRun all rows new (joined_rows (plain_range next) (plain_ranges later)) (row_of (plain_range run)) first wide

-- ---- what a process has mapped

prot-is : (o : Option Marks) (at : ℕ → ℕ) (p : Option Page) → IsPage o at p
    → option_map (λ (k : Marks). k.prot) o ≡ option_map (λ (p : Page). p.prot) p
prot-is None at None h = refl
prot-is None at (Some p) h = absurd h
prot-is (Some k) at None h = absurd h
prot-is (Some k) at (Some p) h = ap Some (sym h.0)

-- the longest runs of its pieces are those of `maps`
pub maps-of : (s : Space) (q : Process) (cut : List Range) (runs : List PlainRange) → IsSpace s q → AreCut (marks_at s.ranges) cut
    → AreRunsOf (plain_ranges cut) runs → AreMaps q (map row_of runs)
maps-of s q cut runs h c r = (
  runs,
  refl,
  r.longest,
  λ page. r.cover page ∙ c.same page ∙ prot-is (marks_at s.ranges page) (byte_in (get nat_cmp s.bytes page)) (q page) (h.pages page),
)

-- ---- the reply of `maps`

-- rows of the longest runs of some ranges are made, or one is too great
abbrev pub AreMadeRuns : List Range → Bool → List Row → Type 0
AreMadeRuns cut fit made = (runs : List PlainRange) × AreRunsOf (plain_ranges cut) runs × AreFilled IsRun (map row_of runs) fit made

-- the reply is that of `maps`, or it has a number that is too great
abbrev pub ShowsMaps : Process → Option Reply → Type 0
ShowsMaps q made = (rows : List Row) × AreMaps q rows × IsMade (shown_runs rows) made

module _ (s : Space) (q : Process) (cut : List Range) (fit : Bool) (made : List Row) (has : IsSpace s q) (c : AreCut (marks_at s.ranges) cut)
    (r : AreMadeRuns cut fit made) where
  pub maps-wide : fit ≡ false → ShowsMaps q None
  maps-wide e = (
    map row_of r.0,
    maps-of s q cut r.0 has c r.1,
    λ form. (subst (λ b. AreFilled IsRun (map row_of r.0) b made) e r.2) form.rest.2,
  )

  pub maps-told : (reply : Reply) → fit ≡ true → IsWide (length made) → reply ≡ shown_runs made → ShowsMaps q (Some reply)
  maps-told reply e wide is =
      let filled : (made ≡ map row_of r.0) × AllByRecursion IsRun (map row_of r.0) = subst (λ b. AreFilled IsRun (map row_of r.0) b made) e r.2 in (
        made,
        subst (AreMaps q) (sym filled.0) (maps-of s q cut r.0 has c r.1),
        (is, record { answer = wide; rest = (refl, refl, subst (AllByRecursion IsRun) (sym filled.0) filled.1) }),
      )

-- ---- the rows of the runs

pub runs-first : (cut : List Range) (first : Range) (others : List Range) (made : List Row) → first ∷ others ≡ cut → made ≡ []
    → AreRunsLeft (all_rows (plain_ranges cut)) made first others
runs-first cut first others made is none = subst (λ cut. AreRunsLeft (all_rows (plain_ranges cut)) made first others) is
    (left-all IsRun (all_rows (plain_ranges (first ∷ others))) made none)

module _ (cut : List Range) (rows : List Row) (run : Range) (rest : List Range) (apart : AreApart (plain_ranges cut))
    (left : AreRunsLeft (all_rows (plain_ranges cut)) rows run rest) where
  pub runs-last : (new : List Row) (fit : Bool) → rest ≡ [] → IsAdded IsRun (row_of (plain_range run)) fit rows new → AreMadeRuns cut fit new
  runs-last new fit none h = (
    all_joined same_prot (plain_ranges cut),
    runs-of (plain_ranges cut) apart,
    left-last IsRun (all_rows (plain_ranges cut)) rows new (row_of (plain_range run)) fit
        (subst (λ rest. AreRunsLeft (all_rows (plain_ranges cut)) rows run rest) none left) h,
  )

  module _ (next : Range) (later : List Range) (is : next ∷ later ≡ rest) where
    ahead : AreRunsLeft (all_rows (plain_ranges cut)) rows run (next ∷ later)
    ahead = subst (λ rest. AreRunsLeft (all_rows (plain_ranges cut)) rows run rest) (sym is) left

    pub run-grows : (now : Range) → now ≡ record run { end = next.end } → run.end ≡ next.start → run.marks.prot ≡ next.marks.prot
        → AreRunsLeft (all_rows (plain_ranges cut)) rows now later
    run-grows now e here same = subst (λ now. AreRunsLeft (all_rows (plain_ranges cut)) rows now later) (sym e)
        (runs-grow (all_rows (plain_ranges cut)) rows run next later ahead here same)

    module _ (new : List Row) (added : Bool) (ends : run.end ≡ next.start → run.marks.prot ≡ next.marks.prot → ⊥)
        (h : IsAdded IsRun (row_of (plain_range run)) added rows new) where
      pub run-ends : added ≡ true → AreRunsLeft (all_rows (plain_ranges cut)) new next later
      run-ends e = runs-begin (all_rows (plain_ranges cut)) rows run next later ahead ends new
          (subst (λ b. IsAdded IsRun (row_of (plain_range run)) b rows new) e h)

      pub run-wide : added ≡ false → AreMadeRuns cut false new
      run-wide e = (
        all_joined same_prot (plain_ranges cut),
        runs-of (plain_ranges cut) apart,
        runs-wide (all_rows (plain_ranges cut)) rows run next later ahead ends new
            (subst (λ b. IsAdded IsRun (row_of (plain_range run)) b rows new) e h),
      )
