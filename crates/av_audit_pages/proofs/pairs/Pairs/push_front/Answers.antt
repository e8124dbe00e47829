use Rattle.std.proofs.Common.{ap, arith, ◌∙◌}
use Rattle.std.specs.Map.{values_of}
use Rattle.std.proofs.lemmas.Result.{on_ok_weaker}
use Rattle.av_audit_queue.proofs.QueueLaws.{front}
use Rattle.av_audit_pages.proofs.pairs.Pairs.push_front.Goals as goal

pub returns-clause-ok : goal.returns-clause-ok
returns-clause-ok c = on_ok_weaker c.add-2.result
    (λ e. ap values_of e ∙ front c.args.self.now _ c.args.pair (λ r h. c.in-Some.ensures.some r (omega arith))) c.add-2.ensures.ok
