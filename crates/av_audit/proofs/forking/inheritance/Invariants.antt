use Rattle.std.proofs.Common.{◌≡◌, ◌++◌, length}
use Rattle.av_plain.specs.World.{World, pages}
use Rattle.av_audit_world.specs.Memories.{IsWorld}
use Rattle.av_audit.proofs.ForkLaws.{heir_pages}
use Rattle.av_audit.proofs.forking.inheritance.Given as goal

abbrev pub invariant-loop-rest : goal.invariant-loop-rest
invariant-loop-rest l = (w : World) → IsWorld l.memories w
    → l.made.items ++ heir_pages (pages w l.parent) l.rest ≡ heir_pages (pages w l.parent) l.initial.rest

abbrev pub decreases-loop-rest : goal.decreases-loop-rest
decreases-loop-rest l = length l.rest
