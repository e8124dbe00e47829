use Rattle.std.proofs.Common.{◌∙◌}
use Rattle.av_audit_world.proofs.WorldLaws.{spaces-lives}
use Rattle.av_audit_world.proofs.memories.Memories.lives.Goals as goal

pub returns : goal.returns
returns c = λ w h. c.contains_key.ensures ∙ spaces-lives c.args.self.now.spaces.entries w c.args.number h.spaces
