use Rattle.std.specs.BTreeMap.{btree_map_len}
use Rattle.av_audit_world.proofs.KeptLaws.{AreGiven}
use Rattle.av_audit_world.proofs.kept.give.Given as goal

abbrev pub invariant-loop-page : goal.invariant-loop-page
invariant-loop-page l = AreGiven l.fn.given l.fn.kept l.rest l.kept

abbrev pub decreases-loop-page : goal.decreases-loop-page
decreases-loop-page l = btree_map_len l.rest
