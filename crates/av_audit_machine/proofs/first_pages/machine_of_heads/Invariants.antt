use Rattle.std.proofs.Common.{take}
use Rattle.av_audit_machine.proofs.FirstPageLaws.{AreReadFrom}
use Rattle.av_audit_machine.proofs.first_pages.machine_of_heads.Given as goal

abbrev pub invariant-loop-head : goal.invariant-loop-head
invariant-loop-head l = AreReadFrom (take l.head-index l.heads) l.read.items
