use Rattle.std.proofs.Common.{◌∙◌, ℕ, List, ap, reverse}
use Rattle.std.specs.Prelude.{slice_get}
use Rattle.av_reclaim.proofs.ReadLaws.{at-tail}
use Rattle.av_reclaim.proofs.driver.DriverSystem.last_inactive.Goals as goal

pub returns : goal.returns
returns g c = λ told l sound stood. c.tail.ensures ∙ at-tail c.args.self.now.mem.now.lists.inactive
    ∙ ap (λ (fs : List ℕ). slice_get (reverse fs) 0) stood.2.held.ledger.lists.inactive
