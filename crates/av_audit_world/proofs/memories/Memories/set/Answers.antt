use Rattle.std.proofs.Common.{subst, sym}
use Rattle.av_plain.specs.World.{set_process}
use Rattle.av_audit_world.specs.Memories.{AreSpaces}
use Rattle.av_audit_world.proofs.LockLaws.{noted-again}
use Rattle.av_audit_world.proofs.SpaceLaws.{on-ok}
use Rattle.av_audit_world.proofs.WorldLaws.{spaces-put, sorted-set}
use Rattle.av_audit_world.proofs.memories.Memories.set.Goals as goal

pub returns : goal.returns
returns c = on-ok c.note.result c.note.ensures (λ noted w q h is. record {
  spaces = subst (λ es. AreSpaces es (set_process w c.args.number q)) (sym c.in_ok-insert.ensures.entries)
      (spaces-put c.args.self.now.spaces.entries w c.args.number c.args.space q h.spaces is);
  order = sorted-set w c.args.number q h.order;
  noted = noted-again c.args.self.now.spaces c.insert.new.self c.args.self.now.locking c.note.new.locking c.args.number c.args.space
      c.has_lock-locks.result h.noted c.in_ok-insert.ensures.updates.0 noted.0 c.has_lock-locks.ensures.none;
})
