use Rattle.std.proofs.Common.{sym}
use Rattle.av_spaces.specs.Spaces.{pages_of}
use Rattle.av_mem.proofs.HomeLaws.{first-laid}
use Rattle.av_ksm.proofs.merging.home_at.Goals as goal

pub home-requires-clause-first : goal.home-requires-clause-first
home-requires-clause-first c = first-laid (pages_of c.args.spaces.now.processes c.args.key.0) c.args.key.1 c.in_ok-area.area
    c.in_ok-area.ensures.laid (sym c.in_ok-area.ensures.area)
