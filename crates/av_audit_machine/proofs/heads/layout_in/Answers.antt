use Rattle.av_swapdev.specs.Header.{header_of}
use Rattle.av_audit_machine.proofs.HeadLaws.{fault-nothing}
use Rattle.av_audit_machine.proofs.heads.layout_in.Goals as goal

pub returns-in-Err-clause-layout : goal.returns-in-Err-clause-layout
returns-in-Err-clause-layout c = fault-nothing (header_of c.args.page.now c.args.size) c.in-Err.field-0 c.in-Err.ensures.exact
