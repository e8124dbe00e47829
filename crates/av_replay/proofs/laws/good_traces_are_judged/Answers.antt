use Rattle.av_replay.proofs.AuditTraces.{judged}
use Rattle.av_replay.proofs.laws.good_traces_are_judged.Goals as goal

pub returns : goal.returns
returns c m status lines commands transcript old new ends trace left = judged lines commands transcript trace m old new left status ends
