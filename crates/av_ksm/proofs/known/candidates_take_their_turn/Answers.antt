use Rattle.std.proofs.Common.{refl}
use Rattle.av_ksm.specs.Known.{first_like}
use Rattle.av_ksm.proofs.Turn.{turn-taken}
use Rattle.av_ksm.proofs.known.candidates_take_their_turn.Goals as goal

pub returns : goal.returns
returns c = λ m held l earlier known h k f seen own. turn-taken m held l earlier known h k f seen own (first_like held known f) refl
