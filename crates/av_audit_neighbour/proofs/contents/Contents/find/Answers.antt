use Rattle.std.proofs.Common.{◌∙◌}
use Rattle.av_audit_neighbour.proofs.contents.Contents.find.Goals as goal

pub returns : goal.returns
returns c = λ held known f kept content. c.copied.ensures ∙ c.get.ensures.value ∙ kept f c.args.bytes.now content
