use Rattle.std.proofs.Common.{◌≡◌, ℕ, List, Option, length, subst}
use Rattle.av_text.specs.Number.{IsWide}
use Rattle.av_trace.specs.declared.reply.Answer.TheVariants.{Runs}
use Rattle.av_trace.specs.declared.row.Row.{Row}
use Rattle.av_plain.specs.World.{pages}
use Rattle.av_audit_ranges.specs.Ranges.{marks_at}
use Rattle.av_audit_ranges.specs.declared.marks.Marks.{Marks}
use Rattle.av_audit_ranges.specs.declared.marks.Range.{Range}
use Rattle.av_audit_world.specs.declared.space.Space.{Space}
use Rattle.av_audit_report.specs.Runs.{AreCut}
use Rattle.av_audit_report.proofs.MapLaws.{AreMadeRuns, maps-told, maps-wide}
use Rattle.av_audit_report.proofs.maps.runs_reply.Goals as goal

cut-of : (s : Space) (bounds : List (ℕ × Option Marks)) (cut : List Range) → bounds ≡ s.ranges → AreCut (marks_at bounds) cut → AreCut (marks_at s.ranges) cut
cut-of s bounds cut is h = subst (λ bounds. AreCut (marks_at bounds) cut) is h

pub returns-then-not-branch : goal.returns-then-not-branch
returns-then-not-branch c = λ w p has.
    maps-wide c.args.space.now (pages w p) c.in_ok-cut.cut.items c.in_ok-add_runs.field-0 c.add_runs.new.rows has
    (cut-of c.args.space.now c.ranges-2.result.now c.in_ok-cut.cut.items c.ranges-2.ensures c.in_ok-cut.ensures)
    (subst (λ (cs : List Range). AreMadeRuns cs c.in_ok-add_runs.field-0 c.add_runs.new.rows) c.as_slice.ensures.value c.in_ok-add_runs.ensures)
    c.if-not-branch.true

pub returns : goal.returns
returns c = λ w p has.
    maps-told c.args.space.now (pages w p) c.in_ok-cut.cut.items c.in_ok-add_runs.field-0 c.add_runs.new.rows has
    (cut-of c.args.space.now c.ranges-2.result.now c.in_ok-cut.cut.items c.ranges-2.ensures c.in_ok-cut.ensures)
    (subst (λ (cs : List Range). AreMadeRuns cs c.in_ok-add_runs.field-0 c.add_runs.new.rows) c.as_slice.ensures.value c.in_ok-add_runs.ensures)
    (record { answer = Runs (length c.as_slice-2.result.now); notes = c.new-reply.result.notes; rows = c.add_runs.new.rows })
    c.if-not-branch.false
    (subst (λ (r : List Row). IsWide (length r)) c.as_slice-2.ensures c.fits.ensures)
    (λ i. record { answer = Runs (length (c.as_slice-2.ensures i)); notes = (c.new-reply.ensures i).notes; rows = c.add_runs.new.rows })
