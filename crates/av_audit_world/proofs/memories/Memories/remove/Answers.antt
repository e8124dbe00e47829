use Rattle.std.proofs.Common.{subst, sym}
use Rattle.av_plain.specs.World.{end_process}
use Rattle.av_audit_world.specs.Memories.{AreSpaces}
use Rattle.av_audit_world.proofs.LockLaws.{noted-less}
use Rattle.av_audit_world.proofs.WorldLaws.{spaces-remove, sorted-end, true-of}
use Rattle.av_audit_world.proofs.memories.Memories.remove.Goals as goal

pub returns : goal.returns
returns c = λ w h. record {
  spaces = subst (λ es. AreSpaces es (end_process w c.args.number)) (sym c.remove.ensures.entries)
      (spaces-remove c.args.self.now.spaces.entries w c.args.number (true-of h.order) h.spaces);
  order = sorted-end w c.args.number h.order;
  noted = noted-less c.args.self.now.spaces c.remove.new.self c.args.self.now.locking c.remove-2.new.self c.args.number h.noted
      c.remove.ensures.updates.0 c.remove-2.ensures.updates.0;
}
