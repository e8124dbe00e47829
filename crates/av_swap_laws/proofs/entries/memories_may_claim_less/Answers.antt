use Rattle.av_swap_laws.proofs.Move.{bytes-claim-less}
use Rattle.av_swap_laws.proofs.entries.memories_may_claim_less.Goals as goal

pub returns : goal.returns
returns c = λ v d w other l h change. bytes-claim-less v d w other l change h
