use Rattle.std.proofs.Common.{◌+◌, ◌-◌, ◌/◌, ◌<◌, ◌≤◌, refl, subst, ◌∙◌}
use Rattle.av_merge.specs.Pages.{GoesTo}
use Rattle.av_trace.specs.declared.command.Command.TheVariants.{Mprotect}
use Rattle.av_spaces.specs.Spaces.{is_taken}
use Rattle.av_vma.specs.Pages.{to_prot}
use Rattle.av_trace.specs.declared.reply.Errno.TheVariants.{Esrch}
use Rattle.av_step.proofs.StepLaws.{answers, ranges_there, refuses, refuses-as, refuses-by, dead_first, wants-by}
use Rattle.av_place.proofs.PlaceLaws.{rounded_up}
use Rattle.av_kernel.proofs.MapLaws.{mprotect-steps, mprotect-stops, mprotect-refused}
use Rattle.av_kernel.proofs.ChangeLaws.{are_changed}
use Rattle.av_kernel.proofs.map.mprotect.Goals as goal

pub returns-in_err-check_lives : goal.returns-in_err-check_lives
returns-in_err-check_lives c =
    refuses-as c.args.mem.now c.args.mem.now (Mprotect c.args.process c.args.address c.args.len c.args.prot) Esrch c.args.reply.now
    c.from_residual.result
    c.in_err-check_lives.field-0.0 c.from_residual.ensures c.in_err-check_lives.ensures.1
    (refuses c.args.mem.now (Mprotect c.args.process c.args.address c.args.len c.args.prot) Esrch
    (λ d s keeps. dead_first c.args.mem.now s c.args.process _ keeps c.in_err-check_lives.ensures.0))

pub returns-in_err-check_protect : goal.returns-in_err-check_protect
returns-in_err-check_protect c = refuses-by c.args.mem.now c.args.mem.now (Mprotect c.args.process c.args.address c.args.len c.args.prot)
    c.in_err-check_protect.field-0.0 c.args.reply.now c.from_residual-in_err-check_protect.result c.from_residual-in_err-check_protect.ensures
    (refuses c.args.mem.now (Mprotect c.args.process c.args.address c.args.len c.args.prot) c.in_err-check_protect.field-0.0
    (λ d s keeps. mprotect-refused c.args.mem.now s c.args.process c.args.address c.args.len c.args.prot _ keeps c.in_ok-check_lives.ensures
    c.in_err-check_protect.ensures))

pub returns-in_err-reached : goal.returns-in_err-reached
returns-in_err-reached c = wants-by c.args.mem.now (record c.args.mem.now { spaces = c.modify.new.self; anons = c.modify.new.anons })
    (Mprotect c.args.process c.args.address c.args.len c.args.prot) c.args.reply.now c.from_residual-in_err-reached.result
    c.from_residual-in_err-reached.ensures refl

pub returns : goal.returns
returns c = record {
  count = refl;
  step = λ d s keeps.
      let k = c.args.mem.now in
      let page = c.args.address / 4096 in
      let reached = c.in_ok-reached.reached in
      let size = c.div_ceil-pages.ensures ∙ rounded_up c.args.len in
      answers c.args.reply.now c.answer_with.new.reply c.requires.cleared c.answer_with.ensures
      (mprotect-steps k c.modify.new.self c.modify.new.anons s c.args.process c.args.address c.args.len reached c.args.prot keeps
      (ranges_there k c.args.process c.in_ok-check_lives.ensures) c.in_ok-check_protect.ensures
      (subst (λ n. GoesTo (is_taken k.spaces.processes c.args.process) page (page + n) reached) size c.in_ok-reached.ensures.reached)
      (are_changed k c.modify.new.self c.modify.new.anons c.args.process page reached (reached - page) (to_prot c.args.prot) refl
      c.in_ok-reached.ensures.ok c.in_ok-reached.ensures.mapping c.in_ok-reached.ensures.anons) (subst (λ n. page + n ≤ reached) size c.if-reached-past.false));
}

pub returns-then-reached-past : goal.returns-then-reached-past
returns-then-reached-past c = record {
  count = refl;
  step = λ d s keeps.
      let k = c.args.mem.now in
      let page = c.args.address / 4096 in
      let reached = c.in_ok-reached.reached in
      let size = c.div_ceil-pages.ensures ∙ rounded_up c.args.len in
      mprotect-stops k c.modify.new.self c.modify.new.anons s c.args.process c.args.address c.args.len reached c.args.prot keeps
      (ranges_there k c.args.process c.in_ok-check_lives.ensures) c.in_ok-check_protect.ensures
      (subst (λ n. GoesTo (is_taken k.spaces.processes c.args.process) page (page + n) reached) size c.in_ok-reached.ensures.reached)
      (are_changed k c.modify.new.self c.modify.new.anons c.args.process page reached (reached - page) (to_prot c.args.prot) refl
      c.in_ok-reached.ensures.ok c.in_ok-reached.ensures.mapping c.in_ok-reached.ensures.anons) (subst (λ n. reached < page + n) size c.if-reached-past.true);
}

pub modify-requires-clause-order : goal.modify-requires-clause-order
modify-requires-clause-order c = c.requires.steady.2.anons.order
