use Rattle.av_rmap.proofs.MergedLemmas.{roots-apart}
use Rattle.av_rmap.proofs.covered.roots_are_apart.Goals as goal

pub returns : goal.returns
returns c = roots-apart
