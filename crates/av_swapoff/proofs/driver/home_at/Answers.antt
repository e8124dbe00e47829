use Rattle.std.proofs.Common.{sym, ◌∙◌}
use Rattle.av_mem.proofs.HomeLaws.{first-laid}
use Rattle.av_swapoff.proofs.driver.home_at.Goals as goal

pub home-requires-clause-first : goal.home-requires-clause-first
home-requires-clause-first c = first-laid _ c.args.key.1 c.in_ok-area.area c.area.ensures.laid (sym c.area.ensures.area ∙ c.in_ok-area.was)
