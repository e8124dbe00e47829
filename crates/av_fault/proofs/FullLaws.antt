-- Whether swap is full: the kernel's answer is that of the definitions.
use Rattle.std.proofs.Common.{◌≡◌, ◌*◌, nat_lt}
use Rattle.av_swapcache.specs.Swap.{is_full as is_full_in, shown as shown_swap}
use Rattle.av_plain.specs.Areas.{Rmap}
use Rattle.av_plain.specs.Device.{Device}
use Rattle.av_plain.specs.Ledger.{Ledger, is_full}
use Rattle.av_plain.specs.World.{World}
use Rattle.av_mem.specs.declared.mem.Mem.{Mem}
use Rattle.av_mem.specs.Mem.{setting_by}
use Rattle.av_mem.specs.Between.{KeepsBetween}
use Rattle.av_mem.proofs.SwapSums.{all-free, all-slots}

pub full-is : (d : Device) (k : Mem) (w : World) (r : Rmap) (l : Ledger) → KeepsBetween d k w r l
    → is_full_in (shown_swap k.swap) ≡ is_full (setting_by d k) l
full-is d k w r l h = λ i. nat_lt (2 * all-free (setting_by d k) k l h.serves.held.ledger.swap h.serves.areas_fit h.serves.free i)
    (all-slots k l h.serves.held.ledger.swap i)
