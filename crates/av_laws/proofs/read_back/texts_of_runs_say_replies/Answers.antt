use Rattle.av_laws.proofs.ReadBack.OfRuns.{run-reads_back}
use Rattle.av_laws.proofs.ReadBack.Texts.{same-replies}
use Rattle.av_laws.proofs.read_back.texts_of_runs_say_replies.Goals as goal

pub returns : goal.returns
returns c = λ m n these those new other small few short brief fit suit run walk same. same-replies these those
    (run-reads_back m these new small short fit run) (run-reads_back n those other few brief suit walk) same
