use Rattle.std.proofs.Common.{subst}
use Rattle.av_replay.specs.declared.status.Status.{Status}
use Rattle.av_replay.specs.Replay.{FlushesLast}
use Rattle.av_replay.proofs.Sums.{failed, wanting, written}
use Rattle.av_replay.proofs.summary.write_last.Goals as goal
use Rattle.av_replay.proofs.summary.write_last.Goals.{in-Ok, in-Err-Failed, in-Err-Memory}

pub returns-clause-ends : goal.returns-clause-ends
returns-clause-ends g c =
    let old = (g.P.Ports.view c.args.ports.now).sink in
    let mid = (g.P.Ports.view c.write_all.new.ports).sink in
    let new = (g.P.Ports.view c.flush_last.new.ports).sink in
    let last = c.flush_last.result in
    let text = c.args.text.now in
    let flushed = c.flush_last.ensures.last in
    elim c.match-write_all.branch [
      | in-Ok w ↦ written old mid new text last w.in-Ok.ensures.ok w.in-Ok.ensures.unfailed c.requires
          (subst (λ (status : Status). FlushesLast status last mid new) w.status-is flushed)
      | in-Err-Failed w ↦ failed old mid new text last w.in-Err-Failed.ensures.err (w.in-Err-Failed.ensures.cause w.in-Err-Failed.field-0-is)
          (subst (λ (status : Status). FlushesLast status last mid new) w.status-is flushed)
      | in-Err-Memory w ↦ wanting old mid new text last w.in-Err-Memory.ensures.err (w.in-Err-Memory.ensures.memory w.in-Err-Memory.field-0-is)
          (subst (λ (status : Status). FlushesLast status last mid new) w.status-is flushed)
    ]
