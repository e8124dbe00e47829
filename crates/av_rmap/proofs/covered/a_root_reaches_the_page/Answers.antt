use Rattle.av_rmap.proofs.RootLemmas.{root-reaches}
use Rattle.av_rmap.proofs.covered.a_root_reaches_the_page.Goals as goal

pub returns : goal.returns
returns c = λ areas f spans entry number own area i page order stands has is here.
    root-reaches areas f spans order number own area i stands has is entry page here
