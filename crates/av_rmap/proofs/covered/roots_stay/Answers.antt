use Rattle.av_rmap.proofs.RootLemmas.{roots-stay, roots-with}
use Rattle.av_rmap.proofs.covered.roots_stay.Goals as goal

pub returns-clause-stay : goal.returns-clause-stay
returns-clause-stay c = roots-stay

pub returns-clause-more : goal.returns-clause-more
returns-clause-more c = λ areas f spans number own area i index items order stands has is.
    roots-with areas f spans order number own area i stands has is index items
