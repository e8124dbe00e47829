use Rattle.std.proofs.Common.{subst, sym}
use Rattle.av_plain.specs.World.{process}
use Rattle.av_audit_world.specs.Memories.{IsProcess}
use Rattle.av_audit_world.proofs.WorldLaws.{spaces-find}
use Rattle.av_audit_world.proofs.memories.Memories.get.Goals as goal

pub returns-clause-process : goal.returns-clause-process
returns-clause-process c = λ w h. subst (λ o. IsProcess o (process w c.args.number)) (sym c.get.ensures.value)
    (spaces-find c.args.self.now.spaces.entries w c.args.number h.spaces)
