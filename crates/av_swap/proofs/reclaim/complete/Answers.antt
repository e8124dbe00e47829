use Rattle.std.proofs.Common.{refl, arith}
use Rattle.av_trace.specs.declared.command.Command.TheVariants.{Complete}
use Rattle.av_swap.proofs.ReclaimLaws.{does-counted, steady-between}
use Rattle.av_step.proofs.StepLaws.{wants-over}
use Rattle.av_swap.proofs.reclaim.complete.Goals as goal

pub complete-requires : goal.complete-requires
complete-requires g c = steady-between (g.D.SwapDev.sizes c.args.dev.now) c.args.mem.now c.requires.steady

pub returns : goal.returns
returns g c = does-counted (λ n. Complete n)
    (λ n. record { tested = λ m w l. refl; plain = refl; closing = refl; world = λ w. refl; areas = λ long on w. refl; shows = λ on anons. tt })
    c.args.slots _ (omega (arith, c.from.ensures)) _ _ c.args.mem.now c.complete.new.mem c.args.reply.now c.answer_with.new.reply c.complete.new.notes
    c.requires.cleared c.answer_with.ensures c.complete.ensures.same c.complete.ensures.count c.in_ok-complete.ensures.adds

pub returns-in_err-complete : goal.returns-in_err-complete
returns-in_err-complete g c =
    wants-over _ _ c.args.mem.now c.complete.new.mem (Complete c.args.slots) _ c.from_residual.result c.from_residual.ensures
    c.complete.ensures.same c.complete.ensures.count
