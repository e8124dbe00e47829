use Rattle.std.proofs.Common.{refl}
use Rattle.av_audit_input.proofs.ScriptLaws.{pushed}
use Rattle.av_audit_input.proofs.script.Script.push.Goals as goal

pub returns : goal.returns
returns c = record {
  more = λ commands command h says. pushed c.args.self.now _ c.extend_from_slice.new.self.items c.args.line.now
      c.in_ok-extend_from_slice.ensures.items c.in_ok-push.ensures.items refl c.requires.one commands command h says;
}
