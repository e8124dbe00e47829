use Rattle.av_reclaim.proofs.PutMakes.{slot-told}
use Rattle.av_reclaim.proofs.driver.DriverSystem.has_slot.Goals as goal

pub returns : goal.returns
returns g c = λ told l sound stood. slot-told _ _ _ _ l stood.2 c.has_slot.result c.has_slot.ensures
