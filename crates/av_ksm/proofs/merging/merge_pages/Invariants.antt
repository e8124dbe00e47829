use Rattle.std.proofs.Common.{◌≡◌, ◌≤◌, ◌+◌, ◌*◌, ◌-◌, ◌^◌}
use Rattle.av_pagetable.specs.Table.{page_bound}
use Rattle.av_plain.specs.Areas.{Rmap}
use Rattle.av_plain.specs.Device.{Device}
use Rattle.av_plain.specs.Ledger.{Ledger}
use Rattle.av_plain.specs.World.{World}
use Rattle.av_mem.specs.Between.{KeepsBetween}
use Rattle.av_mem.specs.Mem.{frame_count, view}
use Rattle.av_ksm.proofs.MergesLaws.{HasPassed}
use Rattle.av_ksm.proofs.merging.merge_pages.Given as goal

abbrev pub invariant-loop-key : goal.invariant-loop-key
invariant-loop-key c = record {
  passed : (d : Device) (w : World) (r : Rmap) (l : Ledger) → KeepsBetween d c.fn.mem w r l
      → HasPassed d c.fn.mem c.mem w r l c.from c.contents c.fn.notes c.notes;
  bytes : (view c.mem).bytes ≡ (view c.fn.mem).bytes;
  count : frame_count c.mem ≡ frame_count c.fn.mem;
  within : c.from.1 ≤ page_bound;
}

abbrev pub decreases-loop-key : goal.decreases-loop-key
decreases-loop-key c = 2 ^ 16 * (page_bound + 1) - (c.from.0 * (page_bound + 1) + c.from.1)
