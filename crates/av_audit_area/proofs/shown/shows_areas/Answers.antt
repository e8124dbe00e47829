use Rattle.std.proofs.Common.{◌^◌, Option, subst}
use Rattle.std.specs.Prelude.{option_map}
use Rattle.av_audit_ranges.specs.Ranges.{marks_at}
use Rattle.av_audit_ranges.specs.declared.ranges.Ranges.{Ranges}
use Rattle.av_audit_area.specs.Alike.{AreAlike}
use Rattle.av_audit_area.specs.Shown.{AreRead}
use Rattle.av_audit_area.proofs.ShownLaws.{none-shown, verdict-on}
use Rattle.av_audit_area.proofs.shown.shows_areas.Goals as goal

pub returns-in-None : goal.returns-in-None
returns-in-None c = λ q at. none-shown q c.args.rows.now
    (subst (λ (found : Option Ranges). AreRead c.args.rows.now (option_map marks_at found)) c.in-None.is c.in_ok-ranges_of.ensures)

pub returns-in-Some : goal.returns-in-Some
returns-in-Some c = λ q at.
    let read = subst (λ (found : Option Ranges). AreRead c.args.rows.now (option_map marks_at found)) c.in-Some.is c.in_ok-ranges_of.ensures in
    verdict-on c.args.space.now q c.args.rows.now read.0 (marks_at c.in-Some.ranges) c.are_alike.result at read.1 read.2 read.3
    (subst (λ (rs : Ranges). AreAlike (marks_at rs) (marks_at c.in-Some.ranges) (2 ^ 52) c.are_alike.result) c.ranges-in-Some.ensures
    c.are_alike.ensures)
