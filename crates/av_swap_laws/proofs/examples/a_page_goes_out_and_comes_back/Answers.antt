use Rattle.av_swap_laws.proofs.Example.{goes-out}
use Rattle.av_swap_laws.proofs.examples.a_page_goes_out_and_comes_back.Goals as goal

pub returns : goal.returns
returns c = goes-out
