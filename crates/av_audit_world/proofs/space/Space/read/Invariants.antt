use Rattle.std.proofs.Common.{◌≡◌, ◌+◌, ◌*◌, ◌<◌, length}
use Rattle.av_plain.specs.World.{Process, Shows}
use Rattle.av_audit_world.specs.Space.{IsSpace}
use Rattle.av_audit_world.proofs.space.Space.read.Given as goal

abbrev pub invariant-loop-rest : goal.invariant-loop-rest
invariant-loop-rest l = record {
  small : l.at < 4096;
  ends : 0 < l.rest → 4096 * l.page + l.at ≡ l.address + length l.shown.items;
  long : length l.shown.items + l.rest ≡ l.n;
  shown : (q : Process) → IsSpace l.self q → Shows q l.address l.shown.items;
}

abbrev pub decreases-loop-rest : goal.decreases-loop-rest
decreases-loop-rest l = l.rest
