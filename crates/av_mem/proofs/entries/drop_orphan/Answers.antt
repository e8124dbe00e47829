use Rattle.std.proofs.Common.{ap, ◌∙◌}
use Rattle.av_plain.specs.Stands.{View}
use Rattle.av_mem.specs.Mem.{view}
use Rattle.av_mem.proofs.DropLaws.{dropped-table}
use Rattle.av_mem.proofs.entries.drop_orphan.Goals as goal

pub returns-in_err-push-clause-tables : goal.returns-in_err-push-clause-tables
returns-in_err-push-clause-tables c = ap (λ (v : View). v.table) c.drop_slot.ensures.dropped
    ∙ dropped-table c.in-Some.frame c.args.slot (view c.args.mem.now)

pub returns-in_ok-push-clause-tables : goal.returns-in_ok-push-clause-tables
returns-in_ok-push-clause-tables c = ap (λ (v : View). v.table) c.drop_slot.ensures.dropped
    ∙ dropped-table c.in-Some.frame c.args.slot (view c.args.mem.now)
