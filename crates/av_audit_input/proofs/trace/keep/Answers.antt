use Rattle.std.proofs.Common.{◌∷◌, [], ◌++◌, Some, refl}
use Rattle.av_audit_input.proofs.trace.keep.Goals as goal

pub returns-in-Ok-Some-clause-kept : goal.returns-in-Ok-Some-clause-kept
returns-in-Ok-Some-clause-kept c commands h =
    let command = c.in-Ok-Some.field-0-0 in
    let says = rw c.in-Ok-Some.field-0-is at c.in-Ok-Some.ensures.found in (
      commands ++ command ∷ [],
      c.in_ok-push-in-Ok-Some.ensures.more commands command h says,
      record {
        unmarked = c.is_mark.ensures.no c.if-is_mark.false;
        command = Some command;
        says = says;
        commands_are = refl;
      },
    )
