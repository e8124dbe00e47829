use Rattle.std.proofs.Common.{refl, arith}
use Rattle.av_trace.specs.declared.command.Command.TheVariants.{Reclaim}
use Rattle.av_swap.proofs.ReclaimLaws.{does-counted, steady-between}
use Rattle.av_step.proofs.StepLaws.{wants-over}
use Rattle.av_swap.proofs.reclaim.reclaim.Goals as goal

pub reclaim-requires : goal.reclaim-requires
reclaim-requires g c = steady-between (g.D.SwapDev.sizes c.args.dev.now) c.args.mem.now c.requires.steady

pub returns : goal.returns
returns g c = does-counted (λ n. Reclaim n)
    (λ n. record { tested = λ m w l. refl; plain = refl; closing = refl; world = λ w. refl; areas = λ long on w. refl; shows = λ on anons. tt })
    c.args.frames _ (omega (arith, c.from.ensures)) _ _ c.args.mem.now c.reclaim.new.mem c.args.reply.now c.answer_with.new.reply c.reclaim.new.notes
    c.requires.cleared c.answer_with.ensures c.reclaim.ensures.same c.reclaim.ensures.count c.in_ok-reclaim.ensures.adds

pub returns-in_err-reclaim : goal.returns-in_err-reclaim
returns-in_err-reclaim g c = wants-over _ _ c.args.mem.now c.reclaim.new.mem (Reclaim c.args.frames) _ c.from_residual.result c.from_residual.ensures
    c.reclaim.ensures.same c.reclaim.ensures.count
