use Rattle.av_swap_laws.proofs.WholePages.{zap-steps}
use Rattle.av_swap_laws.proofs.entries.entries_go.Goals as goal

pub returns : goal.returns
returns c = λ m closing old h. zap-steps m closing old h
