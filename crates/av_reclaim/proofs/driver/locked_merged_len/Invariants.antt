use Rattle.std.proofs.Common.{nat_lt, ◌&&◌, ◌≡◌, ◌≤◌}
use Rattle.std.specs.List.{range_with_len}
use Rattle.av_base.specs.Words.{how_many}
use Rattle.av_rmap.specs.Items.{is_merged}
use Rattle.av_mem.specs.Mem.{locks_of, view}
use Rattle.av_reclaim.proofs.driver.locked_merged_len.Given as goal

abbrev pub invariant-loop-frame : goal.invariant-loop-frame
invariant-loop-frame l = record {
  few : l.len ≤ l.frame;
  len : l.len ≡ how_many (λ f. nat_lt 0 (locks_of l.mem f) && is_merged ((view l.mem).items f)) (range_with_len 0 l.frame);
}
