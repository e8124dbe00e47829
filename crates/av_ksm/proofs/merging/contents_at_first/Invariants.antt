use Rattle.av_plain.specs.Areas.{Rmap}
use Rattle.av_plain.specs.Device.{Device}
use Rattle.av_plain.specs.Ledger.{Ledger}
use Rattle.av_plain.specs.World.{World}
use Rattle.av_mem.specs.Between.{KeepsBetween}
use Rattle.av_mem.specs.Mem.{frame_count, view}
use Rattle.av_ksm.specs.Contents.{AreKept}
use Rattle.av_ksm.proofs.AtFirst.{merged_below}
use Rattle.av_ksm.proofs.merging.contents_at_first.Given as goal

-- the merged frames below are known
abbrev pub invariant-loop-frame : goal.invariant-loop-frame
invariant-loop-frame c = (d : Device) (w : World) (r : Rmap) (l : Ledger) → KeepsBetween d c.mem w r l
    → AreKept (frame_count c.mem) (view c.mem).bytes (merged_below l c.frame) c.contents
