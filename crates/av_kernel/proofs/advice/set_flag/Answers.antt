use Rattle.std.proofs.Common.{◌≡◌, ◌+◌, ◌-◌, ◌/◌, refl, ap, subst, ◌∙◌, arith}
use Rattle.av_merge.specs.Pages.{GoesTo}
use Rattle.av_spaces.specs.Spaces.{is_taken}
use Rattle.av_vma.specs.Pages.{to_flag}
use Rattle.av_trace.specs.declared.command.Command.TheVariants.{Madvise}
use Rattle.av_place.proofs.PlaceLaws.{rounded_up}
use Rattle.av_step.proofs.StepLaws.{answers, wants-by}
use Rattle.av_kernel.proofs.AdviceLaws.{answer_at, flag-steps}
use Rattle.av_kernel.proofs.ChangeLaws.{AreChanged, are_changed}
use Rattle.av_kernel.proofs.advice.set_flag.Goals as goal

pub modify_all-requires-clause-order : goal.modify_all-requires-clause-order
modify_all-requires-clause-order c = c.requires.steady.2.anons.order

pub returns-in_err-hole : goal.returns-in_err-hole
returns-in_err-hole c = λ advice about.
    wants-by c.args.mem.now (record c.args.mem.now { spaces = c.modify_all.new.self; anons = c.modify_all.new.anons })
    (Madvise c.args.process c.args.address c.args.len advice) c.args.reply.now c.from_residual.result c.from_residual.ensures refl

pub returns : goal.returns
returns c = λ advice about. record {
  count = refl;
  step = λ d s keeps.
      let k = c.args.mem.now in
      let page = c.args.address / 4096 in
      let pages = c.div_ceil-pages.result in
      let size = c.div_ceil-pages.ensures ∙ rounded_up c.args.len in
      let hole = c.in_ok-hole.hole in
      let many : page + pages - page ≡ pages = omega arith in
      answers c.args.reply.now c.answer_with.new.reply c.requires.cleared
      (c.answer_with.ensures ∙ ap (λ answer. record c.args.reply.now { answer = answer })
      (c.answer_to.ensures ∙ ap (λ n. answer_at (page + n) hole (page + n)) size))
      (flag-steps k c.modify_all.new.self c.modify_all.new.anons s c.args.process c.args.address c.args.len hole advice c.args.flag c.args.set
      keeps c.requires.lives c.requires.range about
      (subst (λ n. GoesTo (is_taken k.spaces.processes c.args.process) page (page + n) hole) size c.in_ok-hole.ensures.reached)
      (subst (λ n. AreChanged k c.modify_all.new.self c.modify_all.new.anons c.args.process page n (to_flag c.args.flag c.args.set)) size
      (are_changed k c.modify_all.new.self c.modify_all.new.anons c.args.process page (page + pages) pages (to_flag c.args.flag c.args.set) many
      c.in_ok-hole.ensures.ok c.in_ok-hole.ensures.mapping c.in_ok-hole.ensures.anons)));
}
