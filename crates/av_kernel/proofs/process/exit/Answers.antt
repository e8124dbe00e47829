use Rattle.std.proofs.Common.{◌∙◌, ◌≤◌, subst, ap, arith}
use Rattle.av_pagetable.specs.Entries.{has}
use Rattle.av_plain.specs.Stands.{View}
use Rattle.av_mem.specs.declared.mem.Mem.{Mem}
use Rattle.av_kernel.proofs.LockedRanges.{IsRecounted, range-counted, recounted-ledger, steady-within}
use Rattle.av_trace.specs.declared.command.Command.TheVariants.{Exit}
use Rattle.av_spaces.specs.Spaces.{AllSpaces}
use Rattle.av_spaces.specs.Kin.{AnonsStay}
use Rattle.av_trace.specs.declared.reply.Errno.TheVariants.{Esrch}
use Rattle.av_mem.proofs.StayLaws.{anons-stay, spaces-stay}
use Rattle.av_step.proofs.StepLaws.{answers-noted, orderly, ranges_there, refuses, refuses-as, dead_first, wants-by}
use Rattle.av_kernel.proofs.ProcessLaws.{exit-steps}
use Rattle.av_kernel.proofs.process.exit.Goals as goal

pub returns-in_err-check_lives : goal.returns-in_err-check_lives
returns-in_err-check_lives c =
    refuses-as c.args.mem.now c.args.mem.now (Exit c.args.process) Esrch c.args.reply.now c.from_residual.result c.in_err-check_lives.field-0.0
    c.from_residual.ensures c.in_err-check_lives.ensures.1
    (refuses c.args.mem.now (Exit c.args.process) Esrch
    (λ d s keeps. dead_first c.args.mem.now s c.args.process _ keeps c.in_err-check_lives.ensures.0))

pub unlock_range-requires-clause-within : goal.unlock_range-requires-clause-within
unlock_range-requires-clause-within c = let s = c.requires.steady in steady-within c.args.mem.now s.1 s.2

pub unlock_range-requires-clause-some : goal.unlock_range-requires-clause-some
unlock_range-requires-clause-some c f = let s = c.requires.steady in range-counted c.args.mem.now s.1 s.2 c.args.process 0 0xffffffffffffffff f

pub zap_all-requires : goal.zap_all-requires
zap_all-requires c =
    let s = c.requires.steady in
    let off = c.unlock_range.ensures in
    record {
      orderly = (
        s.0,
        s.1.ledger,
        recounted-ledger s.0 c.args.mem.now c.unlock_range.new.mem (record { seen = off.view; rest = off.rest }) s.1.ledger
            (orderly c.args.mem.now s.1 s.2),
      );
    }

pub exit-requires : goal.exit-requires
exit-requires c = ap (λ h. h c.args.process) (c.zap_all.ensures.rest.parts.processes ∙ ap (λ (k : Mem). has k.tables) c.unlock_range.ensures.rest) ∙ c.requires.steady.2.tables c.args.process
    ∙ ranges_there c.args.mem.now c.args.process c.in_ok-check_lives.ensures

pub returns-in_err-zap_all : goal.returns-in_err-zap_all
returns-in_err-zap_all c = wants-by c.args.mem.now c.zap_all.new.mem (Exit c.args.process) (record c.args.reply.now { notes = c.zap_all.new.notes })
    c.from_residual-in_err-zap_all.result c.from_residual-in_err-zap_all.ensures
    (c.zap_all.ensures.rest.parts.count ∙ ap (λ (v : View). v.frames) c.unlock_range.ensures.view)

pub returns : goal.returns
returns c = record {
  count = c.zap_all.ensures.rest.parts.count ∙ ap (λ (v : View). v.frames) c.unlock_range.ensures.view;
  step = λ d s keeps.
      let old = c.args.mem.now in
      let off = c.unlock_range.new.mem in
      let counted = c.unlock_range.ensures in
      let same : IsRecounted old off = record { seen = counted.view; rest = counted.rest } in
      let mid = c.zap_all.new.mem in
      let rest = c.zap_all.ensures.rest in
      let taken = c.in_ok-zap_all.ensures.zapped d s.ledger (recounted-ledger d old off same s.ledger (orderly old s keeps)) in
      answers-noted c.args.reply.now c.answer_with.new.reply c.zap_all.new.notes _ c.requires.cleared c.answer_with.ensures taken.notes
      (exit-steps old off mid c.exit.new.self c.exit-2.new.self c.exit-2.new.anons s c.args.process c.args.reply.now.notes c.zap_all.new.notes keeps
      (ranges_there old c.args.process c.in_ok-check_lives.ensures) same 0xffffffffffffffff (omega arith) counted.locks taken rest
      c.exit.ensures.processes c.exit.ensures.entries c.exit-2.ensures.areas
      (subst (λ (x : AllSpaces). AnonsStay x old.anons c.exit-2.new.self c.exit-2.new.anons) (spaces-stay rest.parts ∙ ap (λ (k : Mem). k.spaces) counted.rest)
      (subst (λ a. AnonsStay mid.spaces a c.exit-2.new.self c.exit-2.new.anons) (anons-stay rest.parts ∙ ap (λ (k : Mem). k.anons) counted.rest)
      c.exit-2.ensures.anons)));
}
