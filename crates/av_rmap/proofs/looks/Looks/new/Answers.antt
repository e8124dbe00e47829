use Rattle.std.proofs.Common.{◌++◌, drop, ap}
use Rattle.av_rmap.specs.Walk.{areas_from, areas_of}
use Rattle.av_rmap.proofs.looks.Looks.new.Goals as goal

pub returns : goal.returns
returns c = λ view. ap (λ places. areas_of (drop 0 places) ++ areas_from view c.args.home) c.new.ensures
