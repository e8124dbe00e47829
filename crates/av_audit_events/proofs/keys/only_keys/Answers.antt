use Rattle.av_audit_events.proofs.KeyLaws.{key-added}
use Rattle.av_audit_events.proofs.keys.only_keys.Goals as goal

pub loop-key-preserved-in-Continue-branch-2 : goal.loop-key-preserved-in-Continue-branch-2
loop-key-preserved-in-Continue-branch-2 c = record {
  can_next = tt;
  is_finite = tt;
  left = key-added c.args.process c.in-Some.key.now c.loop-key.made.items c.push.new.self.items c.loop-key.key-iterator _ _ _ c.in-Some.ensures.steps
      c.if-key-process.true c.in_ok-push.ensures.items c.loop-key.invariant.left;
}
