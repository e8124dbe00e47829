use Rattle.av_rmap.proofs.LinkedAreas.{spans-are-areas}
use Rattle.av_rmap.proofs.covered.looks_are_in_linked_areas.Goals as goal

pub returns : goal.returns
returns c = spans-are-areas
