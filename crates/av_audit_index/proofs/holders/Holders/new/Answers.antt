use Rattle.std.proofs.Common.{subst, sym}
use Rattle.av_audit_index.specs.Holders.{AreHolders}
use Rattle.av_audit_index.proofs.HoldersLaws.{none-hold}
use Rattle.av_audit_index.proofs.holders.Holders.new.Goals as goal

pub invariant_of-result : goal.invariant_of-result
invariant_of-result c = subst AreHolders (sym c.new.ensures.empty) none-hold
