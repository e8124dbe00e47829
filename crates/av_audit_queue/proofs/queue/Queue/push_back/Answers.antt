use Rattle.std.proofs.Common.{◌∷◌, [], ◌++◌, ap, arith, ◌∙◌}
use Rattle.std.specs.Map.{values_of}
use Rattle.std.proofs.lemmas.Result.{on_ok_weaker}
use Rattle.av_audit_queue.proofs.QueueLaws.{back}
use Rattle.av_audit_queue.proofs.queue.Queue.push_back.Goals as goal

pub returns-clause-ok : goal.returns-clause-ok
returns-clause-ok g c = on_ok_weaker c.add-2.result (λ e.
    ap values_of e ∙ back c.self.inside.line _ c.args.member (λ r h. c.in-Some.ensures.some r (omega arith))
    ∙ ap (λ xs. xs ++ c.args.member ∷ []) c.self.view_is) c.add-2.ensures.ok
