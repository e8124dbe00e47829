use Rattle.std.proofs.Common.{ap, Some}
use Rattle.av_swapdev.specs.Device.{pages_in}
use Rattle.av_swapdev.proofs.DevicePages.{same_at}
use Rattle.av_swapdev.proofs.mem_dev.MemDevSwapDev.attach.Goals as goal

pub returns-clause-renewed : goal.returns-clause-renewed
returns-clause-renewed c =
    let pages = pages_in c.args.self.now.areas.items in
    (pages c.args.area, ap Some (same_at c.args.area pages))
