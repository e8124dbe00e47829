use Rattle.std.proofs.Common.{◌≡◌, ◌+◌, ◌*◌, ◌<◌, length}
use Rattle.av_plain.specs.World.{Process, with_bytes}
use Rattle.av_audit_world.specs.Space.{IsSpace}
use Rattle.av_audit_world.proofs.space.Space.write.Given as goal

abbrev pub invariant-loop-rest : goal.invariant-loop-rest
invariant-loop-rest l = record {
  small : l.at < 4096;
  ends : 0 < length l.rest → 4096 * l.page + l.at + length l.rest ≡ l.address + length l.bytes;
  stored : (q : Process) → IsSpace l.fn.self q → (mid : Process) × IsSpace l.self mid
      × (with_bytes mid (4096 * l.page + l.at) l.rest ≡ with_bytes q l.address l.bytes);
}

abbrev pub decreases-loop-rest : goal.decreases-loop-rest
decreases-loop-rest l = length l.rest
