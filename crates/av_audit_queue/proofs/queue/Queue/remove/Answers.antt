use Rattle.std.proofs.Common.{ap, length, sym, ◌∙◌}
use Rattle.std.specs.Map.{values_of}
use Rattle.av_audit_queue.specs.Queue.{is_same, others}
use Rattle.av_audit_queue.proofs.QueueLaws.{goes-shorter, less-by, none-goes, none-same, same-as, same-goes}
use Rattle.av_audit_queue.proofs.queue.Queue.remove.Goals as goal

pub loop-rank-smaller : goal.loop-rank-smaller
loop-rank-smaller g c =
    let name = g.T.Member.name in
    less-by _ _ _ (ap length c.take.ensures)
    (goes-shorter name c.name-name.result (is_same name c.args.member) (same-as name c.name-name.result c.args.member c.name-name.ensures)
    c.loop-rank.self-inside.line c.in-Some.rank c.in-Some.ensures.some)

pub loop-rank-preserved : goal.loop-rank-preserved
loop-rank-preserved g c =
    let name = g.T.Member.name in
    record {
      left = ap (λ es. others name c.args.member (values_of es)) c.take.ensures
          ∙ same-goes name c.name-name.result (is_same name c.args.member) (same-as name c.name-name.result c.args.member c.name-name.ensures)
          c.loop-rank.self-inside.line c.in-Some.rank c.in-Some.ensures.some
          ∙ c.loop-rank.invariant.left;
    }

pub returns : goal.returns
returns g c =
    let name = g.T.Member.name in
    sym (none-goes (is_same name c.args.member) (values_of c.loop-rank.self-inside.line)
    (none-same name c.name-name.result (is_same name c.args.member) (same-as name c.name-name.result c.args.member c.name-name.ensures)
    c.loop-rank.self-inside.line c.find.ensures.rising c.in_default.ensures.none))
    ∙ c.loop-rank.invariant.left
