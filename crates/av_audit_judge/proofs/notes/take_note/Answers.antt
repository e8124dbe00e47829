use Rattle.std.proofs.Common.{◌∙◌}
use Rattle.av_audit_judge.proofs.FrontLaws.{taken-is}
use Rattle.av_audit_judge.proofs.notes.take_note.Goals as goal

pub returns : goal.returns
returns c = taken-is c.args.note c.args.bytes.now _ _ c.after.ensures (c.as_slice.ensures ∙ c.in_ok-text.ensures)
