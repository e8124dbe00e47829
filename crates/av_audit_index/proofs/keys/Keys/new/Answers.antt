use Rattle.av_audit_index.proofs.KeysLaws.{none-rise}
use Rattle.av_audit_index.proofs.keys.Keys.new.Goals as goal

pub invariant_of-result : goal.invariant_of-result
invariant_of-result c = none-rise
