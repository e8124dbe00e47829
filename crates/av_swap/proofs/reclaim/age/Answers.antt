use Rattle.std.proofs.Common.{refl, arith}
use Rattle.av_trace.specs.declared.command.Command.TheVariants.{Age}
use Rattle.av_swap.proofs.ReclaimLaws.{does-counted, steady-between}
use Rattle.av_step.proofs.StepLaws.{wants-over}
use Rattle.av_swap.proofs.reclaim.age.Goals as goal

pub age-requires : goal.age-requires
age-requires g c = steady-between (g.D.SwapDev.sizes c.args.dev.now) c.args.mem.now c.requires.steady

pub returns : goal.returns
returns g c = does-counted (λ n. Age n)
    (λ n. record { tested = λ m w l. refl; plain = refl; closing = refl; world = λ w. refl; areas = λ long on w. refl; shows = λ on anons. tt })
    c.args.frames _ (omega (arith, c.from.ensures)) _ _ c.args.mem.now c.age.new.mem c.args.reply.now c.answer_with.new.reply c.age.new.notes
    c.requires.cleared c.answer_with.ensures c.age.ensures.same c.age.ensures.count c.in_ok-age.ensures.adds

pub returns-in_err-age : goal.returns-in_err-age
returns-in_err-age g c = wants-over _ _ c.args.mem.now c.age.new.mem (Age c.args.frames) _ c.from_residual.result c.from_residual.ensures
    c.age.ensures.same c.age.ensures.count
