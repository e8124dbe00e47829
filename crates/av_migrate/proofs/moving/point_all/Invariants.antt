use Rattle.std.proofs.Common.{◌≡◌, ◌≤◌, length, take}
use Rattle.av_pagetable.specs.Entries.{entry_at, has}
use Rattle.av_migrate.specs.Point.{with_frame_at}
use Rattle.av_migrate.proofs.moving.point_all.Given as goal

abbrev pub invariant-loop-key : goal.invariant-loop-key
invariant-loop-key l = record {
  within : l.key-index ≤ length l.keys;
  entries : entry_at l.tables ≡ with_frame_at (take l.key-index l.keys) l.frame (entry_at l.initial.tables);
  processes : has l.tables ≡ has l.initial.tables;
}
