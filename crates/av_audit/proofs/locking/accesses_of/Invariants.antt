use Rattle.std.proofs.Common.{◌≡◌, ℕ, ◌+◌, ◌-◌, ◌<◌, ◌++◌, Bool}
use Rattle.std.specs.List.{AllByRecursion}
use Rattle.av_plain.specs.Lock.{accesses_of}
use Rattle.av_plain.specs.World.{World, pages}
use Rattle.av_audit_world.specs.Memories.{IsWorld}
use Rattle.av_audit.proofs.locking.accesses_of.Given as goal

abbrev pub invariant-loop-page : goal.invariant-loop-page
invariant-loop-page l = record {
  end : l.page-end ≡ l.from + l.n;
  pages : (w : World) → IsWorld l.memories w → l.made.items ++ accesses_of (pages w l.process) l.page (l.page-end - l.page)
      ≡ accesses_of (pages w l.process) l.from l.n;
  below : AllByRecursion (λ (x : Bool × ℕ). x.1 < l.from + l.n) l.made.items;
}
