use Rattle.std.proofs.Common.{sym, ◌∙◌}
use Rattle.av_rmap.proofs.Counting.{keys-as-long}
use Rattle.av_rmap.proofs.walk.walks_are_equally_long.Goals as goal

pub returns : goal.returns
returns c = λ view frame keys others its also. keys-as-long keys others (λ k. its k ∙ sym (also k))
