use Rattle.av_swap_laws.proofs.Walks.{walked-all}
use Rattle.av_swap_laws.proofs.stores.walks_change_all.Goals as goal

pub returns : goal.returns
returns c = λ m v l f change table h sorted on off p page. walked-all m v l f change table h sorted on off p page
