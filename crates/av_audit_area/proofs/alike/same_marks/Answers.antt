use Rattle.std.proofs.Common.{sym, ◌∙◌}
use Rattle.av_audit_area.proofs.AlikeLaws.{flags-same, prot-same}
use Rattle.av_audit_area.proofs.alike.same_marks.Goals as goal

pub returns-then-eq-clause-yes : goal.returns-then-eq-clause-yes
returns-then-eq-clause-yes c = λ e. (
  prot-same c.args.one.prot c.args.other.prot (sym c.eq.ensures ∙ c.if-eq.true),
  flags-same c.args.one.flags c.args.other.flags (sym c.eq-then-eq.ensures ∙ e),
)
