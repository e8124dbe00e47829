use Rattle.std.proofs.Common.{◌∙◌, sym}
use Rattle.av_trace.specs.declared.command.Command.TheVariants.{Swapoff}
use Rattle.av_swap.proofs.ReclaimLaws.{steady-between}
use Rattle.av_step.proofs.StepLaws.{wants-over}
use Rattle.av_swap.proofs.SwapoffLaws.{swapoff-does, swapoff-refused}
use Rattle.av_swap.proofs.swap.swapoff.Goals as goal

pub swapoff-requires-clause-between : goal.swapoff-requires-clause-between
swapoff-requires-clause-between g c = steady-between (g.D.SwapDev.sizes c.args.dev.now) c.args.mem.now c.requires.steady

pub returns : goal.returns
returns g c = swapoff-does c.args.area _ _ c.args.mem.now c.swapoff.new.mem c.args.reply.now c.answer_with.new.reply c.swapoff.new.notes
    c.in_ok-end.end _
    c.requires.cleared c.answer_with.ensures c.end_answer.ensures (sym c.is_on.ensures ∙ c.if-not-is_on.false) c.swapoff.ensures.same
    c.swapoff.ensures.count
    c.in_ok-end.ensures.turned

pub returns-in_err-end : goal.returns-in_err-end
returns-in_err-end g c = wants-over _ _ c.args.mem.now c.swapoff.new.mem (Swapoff c.args.area) _ c.from_residual.result c.from_residual.ensures
    c.swapoff.ensures.same c.swapoff.ensures.count

pub returns-then-not-is_on : goal.returns-then-not-is_on
returns-then-not-is_on g c = swapoff-refused c.args.mem.now c.args.area (sym c.is_on.ensures ∙ c.if-not-is_on.true) _
