use Rattle.std.proofs.Common.{Err, refl, subst, sym}
use Rattle.av_trace.specs.declared.command.Command.TheVariants.{Slot as AsksSlot}
use Rattle.av_trace.specs.Reply.{answer_only}
use Rattle.av_step.specs.Step.{DoesBeside, StepsBeside}
use Rattle.av_step.specs.declared.refusal.Refusal.TheVariants.{Refused}
use Rattle.av_swap.proofs.SlotLaws.{slot-refused, slot-steps}
use Rattle.av_step.proofs.StepLaws.{answers, refuses-by}
use Rattle.av_swap.proofs.swap.slot.Goals as goal

pub returns-in_err-check_slot : goal.returns-in_err-check_slot
returns-in_err-check_slot c =
    let k = c.args.mem.now in
    refuses-by k k (AsksSlot c.args.area c.args.page) c.in_err-check_slot.field-0.0 c.args.reply.now c.from_residual.result c.from_residual.ensures
    (subst (λ e. DoesBeside k k (AsksSlot c.args.area c.args.page) (Err (Refused e))) (sym c.in_err-check_slot.ensures.1) (record {
      count = refl;
      step = λ d s keeps. slot-refused k s c.args.area c.args.page keeps c.keeps.ensures c.in_err-check_slot.ensures.0;
    }))

pub returns : goal.returns
returns c = record {
  count = refl;
  step = λ d s keeps.
      let k = c.args.mem.now in
      answers c.args.reply.now c.answer_with.new.reply c.requires.cleared c.answer_with.ensures
      (subst (λ a. StepsBeside d k k s (AsksSlot c.args.area c.args.page) (answer_only a)) (sym c.slot_answer.ensures)
      (slot-steps k s c.args.area c.args.page keeps c.keeps.ensures c.in_ok-check_slot.ensures));
}
