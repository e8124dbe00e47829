use Rattle.std.proofs.Common.{inl, inr, false, true, subst, sym, ◌∙◌}
use Rattle.std.proofs.lemmas.Result.{IfOk-weaker}
use Rattle.av_pagetable.specs.declared.pte.Pte.TheVariants.{Here}
use Rattle.av_plain.specs.Stands.{entry_of}
use Rattle.av_mem.specs.Mem.{plain}
use Rattle.av_fault.proofs.CameLaws.{came-does, is-in, stop-does}
use Rattle.av_fault.proofs.TouchLaws.{IsNoSlot, made-does}
use Rattle.av_fault.proofs.fault.touch_to_write.Goals as goal

pub returns-in-Empty-clause-touched : goal.returns-in-Empty-clause-touched
returns-in-Empty-clause-touched g c =
    made-does _ _ c.args.mem.now c.make_new.new.mem true c.args.key c.args.notes.now c.make_new.new.notes c.make_new.result c.get.result
    (sym c.get.ensures)
    (elim c.in-Empty.is [
      | inl x ↦ subst (λ e. IsNoSlot (entry_of (plain e))) (sym x) tt
      | inr x ↦ subst (λ e. IsNoSlot (entry_of (plain e))) (sym x) tt
    ])
    c.requires.permitted (IfOk-weaker c.make_new.result _ _ (λ touched made told w r l h. made told w r l h) c.make_new.ensures.made)

pub returns-after-write-clause-touched : goal.returns-after-write-clause-touched
returns-after-write-clause-touched g c =
    made-does _ _ c.args.mem.now c.write_frame.new.mem true c.args.key c.args.notes.now c.write_frame.new.notes c.write_frame.result
    (Here c.in-Here.frame c.in-Here.write c.in-Here.seen) (sym c.get.ensures ∙ c.in-Here.is) tt c.requires.permitted
    (IfOk-weaker c.write_frame.result _ _ (λ touched made told w r l h. made told w r l h false) c.write_frame.ensures.made)

pub write_frame-requires-in-Ok-clause-between : goal.write_frame-requires-in-Ok-clause-between
write_frame-requires-in-Ok-clause-between g c =
    (is-in _ _ c.args.mem.now c.come_in.new.mem c.args.key c.in-Away.slot c.args.home c.args.notes.now c.come_in.new.notes c.in-Ok.frame
    c.in_ok-frame-in-Away.field-0 c.requires.between (sym c.get.ensures ∙ c.in-Away.is) c.requires.home c.in_ok-frame-in-Away.ensures.come
    c.in-Ok.is).between

pub write_frame-requires-in-Ok-clause-home : goal.write_frame-requires-in-Ok-clause-home
write_frame-requires-in-Ok-clause-home g c =
    (is-in _ _ c.args.mem.now c.come_in.new.mem c.args.key c.in-Away.slot c.args.home c.args.notes.now c.come_in.new.notes c.in-Ok.frame
    c.in_ok-frame-in-Away.field-0 c.requires.between (sym c.get.ensures ∙ c.in-Away.is) c.requires.home c.in_ok-frame-in-Away.ensures.come
    c.in-Ok.is).is_home

pub returns-in-Ok-clause-touched : goal.returns-in-Ok-clause-touched
returns-in-Ok-clause-touched g c =
    came-does _ _ _ c.args.mem.now c.come_in.new.mem c.write_frame-in-Ok.new.mem true c.args.key c.in-Away.slot c.args.notes.now c.come_in.new.notes
    c.write_frame-in-Ok.new.notes c.in-Ok.frame c.in_ok-frame-in-Away.field-0 c.write_frame-in-Ok.result (sym c.get.ensures ∙ c.in-Away.is)
    c.requires.permitted c.in_ok-frame-in-Away.ensures.come c.in-Ok.is
    (IfOk-weaker c.write_frame-in-Ok.result _ _ (λ touched made told w r l h. made told w r l h true) c.write_frame-in-Ok.ensures.made)

pub returns-in-Err-clause-touched : goal.returns-in-Err-clause-touched
returns-in-Err-clause-touched g c =
    stop-does _ _ c.args.mem.now c.come_in.new.mem true c.args.key c.in-Away.slot c.args.notes.now c.come_in.new.notes c.in-Err.stop
    c.in_ok-frame-in-Away.field-0 (sym c.get.ensures ∙ c.in-Away.is) c.requires.permitted c.in_ok-frame-in-Away.ensures.come c.in-Err.is
