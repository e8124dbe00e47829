use Rattle.std.proofs.Common.{◌∙◌, sym}
use Rattle.av_swapoff.proofs.UnusedSlots.{unused-off, unused-past}
use Rattle.av_swapoff.proofs.users.pages_of.Goals as goal

pub returns-then-is_on : goal.returns-then-is_on
returns-then-is_on c = λ page far. unused-past c.args.mem.now c.args.area c.pages.result page c.keeps.ensures c.pages.ensures far

pub returns-else-is_on : goal.returns-else-is_on
returns-else-is_on c = λ page far. unused-off c.args.mem.now c.args.area page c.keeps.ensures (sym c.is_on.ensures ∙ c.if-is_on.false)
