use Rattle.av_laws.proofs.NeedsFrame.{write-served}
use Rattle.av_laws.proofs.needs_frame.writes_in_place_are_served.Goals as goal

pub returns : goal.returns
returns c = write-served
