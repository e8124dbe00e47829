use Rattle.av_swap_laws.proofs.Move.{bytes-zeros}
use Rattle.av_swap_laws.proofs.entries.pages_without_entry_may_be_zeros.Goals as goal

pub returns : goal.returns
returns c = λ v d w other l h change. bytes-zeros v d w other l change h
