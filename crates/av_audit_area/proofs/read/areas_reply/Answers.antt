use Rattle.av_audit_area.proofs.ReadLaws.{lines-cut, rows-fit}
use Rattle.av_audit_area.proofs.read.areas_reply.Goals as goal

pub returns-clause-rows : goal.returns-clause-rows
returns-clause-rows c = λ rows form is. c.in_ok-reply.ensures rows (rows-fit rows form)
    (lines-cut rows c.args.text.now c.piece.result.0.now c.piece.result.1.now form is (record { cut = c.piece.ensures.cut; all = c.piece.ensures.all }))
