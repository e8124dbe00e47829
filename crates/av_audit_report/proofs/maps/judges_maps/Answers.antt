use Rattle.std.proofs.lemmas.Result.{IfOk-weaker}
use Rattle.av_trace.specs.declared.command.Command.TheVariants.{Maps}
use Rattle.av_audit_report.specs.Report.{shown_runs}
use Rattle.av_audit_report.proofs.ReportLaws.{made-verdict, maps-only}
use Rattle.av_audit_report.proofs.maps.judges_maps.Goals as goal

pub returns : goal.returns
returns c = IfOk-weaker c.is_made.result _ _
    (λ legal says m w l at none.
    let r = c.in_ok-made.ensures w c.args.process at in
    made-verdict m w l (Maps c.args.process) (shown_runs r.0) (maps-only m w l c.args.process r.0 none r.1) c.args.text.now legal
    c.in_ok-made.made r.2 says)
    c.is_made.ensures
