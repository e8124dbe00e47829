use Rattle.std.proofs.Common.{◌∷◌, ◌++◌, ◌∙◌, ◌+◌, List, [], None, false, subst, sym, ap, drop, slice_index_or}
use Rattle.std.proofs.lemmas.List.{drop_more, at_drop_all}
use Rattle.std.specs.Prelude.{map}
use Rattle.av_base.specs.Flags.{no_flags}
use Rattle.av_vma.specs.declared.area.Area.{Area}
use Rattle.av_trace.specs.declared.row.Row.{Row}
use Rattle.av_spaces.specs.Spaces.{AreRising}
use Rattle.av_plain.specs.Report.{range_of}
use Rattle.av_report.specs.Report.{AreRuns}
use Rattle.av_command_laws.proofs.JoinedRuns.{all_rows}
use Rattle.av_report.proofs.ReportRuns.{own_first, own_rest, rising_rest, IsLeft, left-first, left-grown, left-begun, left-last, rising-runs}
use Rattle.av_report.proofs.report.add_runs.Goals.{then-goes_on, else-goes_on+in_ok-push}
use Rattle.av_report.proofs.report.add_runs.Goals as goal

abbrev none : Area
none = record { pid = 0; start = 0; end = 0; prot = record { read = false; write = false; execute = false }; flags = no_flags; pgoff = 0; anon = None }

pub loop-next-init : goal.loop-next-init
loop-next-init c =
    let first = c.in-Some.first.now in
    let rest = c.in-Some.rest.now in
    let whole = c.in-Some.ensures.cases.0 in
    let rising = subst (AreRising c.requires.rising.0) whole c.requires.rising.1 in
    subst (λ (rows : List Row). IsLeft rows first rest (all_rows (map range_of c.args.areas.now))) (sym c.requires.none)
    (subst (λ (areas : List Area). IsLeft [] first rest (all_rows (map range_of areas))) (sym whole)
    (left-first c.requires.rising.0 first rest rising))

pub loop-next-preserved : goal.loop-next-preserved
loop-next-preserved c =
    let p = c.requires.rising.0 in
    let i = c.loop-next.next-index in
    let rest = c.in-Some.rest.now in
    let a = slice_index_or rest i none in
    let later = drop (i + 1) rest in
    let all = all_rows (map range_of c.args.areas.now) in
    let more = drop_more rest i none c.loop-next-test.true in
    let rising = subst (AreRising p) more (rising_rest p i rest (own_rest p c.in-Some.first.now rest
    (subst (AreRising p) c.in-Some.ensures.cases.0 c.requires.rising.1))) in
    let whole = (own_first p a later rising).whole in
    let left = subst (λ (areas : List Area). IsLeft c.loop-next.rows c.loop-next.run areas all) more c.loop-next.invariant in
    elim c.if-goes_on.branch [
      | then-goes_on w ↦
          let yes = c.goes_on.ensures.yes w.if-goes_on.true in
          subst (λ (rows : List Row). IsLeft rows c.if-goes_on.run later all) (sym w.rows-is)
          (left-grown a c.loop-next.run c.if-goes_on.run c.loop-next.rows all later whole yes.0 yes.1 w.run-is left)
      | else-goes_on+in_ok-push w ↦
          left-begun a c.loop-next.run c.if-goes_on.run c.loop-next.rows c.if-goes_on.rows all later whole (c.goes_on.ensures.no w.if-goes_on.false)
          (w.rows-is ∙ w.in_ok-push.ensures.ok ∙ ap (λ row. c.loop-next.rows ++ row ∷ []) w.row_of.ensures) w.run-is left
    ]

pub returns : goal.returns
returns c =
    let all = all_rows (map range_of c.args.areas.now) in
    let left = subst (λ (areas : List Area). IsLeft c.loop-next.rows c.loop-next.run areas all)
    (at_drop_all (λ (areas : List Area). areas) c.in-Some.rest.now c.loop-next.next-index c.loop-next-test.false) c.loop-next.invariant in
    subst (AreRuns (map range_of c.args.areas.now))
    (sym (left-last c.loop-next.run c.loop-next.rows c.push-2.new.self all
    (c.in_ok-push-2.ensures.ok ∙ ap (λ row. c.loop-next.rows ++ row ∷ []) c.row_of-2.ensures) left))
    (rising-runs c.requires.rising.0 c.args.areas.now c.requires.rising.1)
