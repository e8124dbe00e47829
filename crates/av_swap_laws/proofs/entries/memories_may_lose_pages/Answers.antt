use Rattle.av_swap_laws.proofs.Move.{bytes-fewer}
use Rattle.av_swap_laws.proofs.entries.memories_may_lose_pages.Goals as goal

pub returns : goal.returns
returns c = λ v d w fewer l h less. bytes-fewer v d w fewer l less h
