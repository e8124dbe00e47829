use Rattle.std.proofs.Common.{◌∙◌}
use Rattle.av_audit_world.proofs.WorldLaws.{spaces-length}
use Rattle.av_audit_world.proofs.memories.Memories.count.Goals as goal

pub returns : goal.returns
returns c = λ w h. c.len.ensures.len ∙ spaces-length c.args.self.now.spaces.entries w h.spaces
