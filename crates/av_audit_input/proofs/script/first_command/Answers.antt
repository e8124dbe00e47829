use Rattle.av_audit_input.proofs.ScriptLaws.{first-of}
use Rattle.av_audit_input.proofs.script.first_command.Goals as goal

pub returns-in-Ok-clause-first : goal.returns-in-Ok-clause-first
returns-in-Ok-clause-first c first others h =
    first-of c.args.text.now c.in-Some.size c.parse_line_into.new.meaning first others c.in-Some.ensures.0 c.in-Some.ensures.1
    c.in-Ok.ensures.found h
