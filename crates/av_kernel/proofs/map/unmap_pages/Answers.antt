use Rattle.std.proofs.Common.{◌≡◌, ℕ, ◌+◌, ◌-◌, ◌≤◌, ◌∙◌, ap, arith, subst, sym}
use Rattle.av_spaces.specs.Spaces.{AllSpaces}
use Rattle.av_spaces.specs.Kin.{AnonsFit}
use Rattle.av_plain.specs.Stands.{View}
use Rattle.av_mem.specs.declared.mem.Mem.{Mem}
use Rattle.av_mem.proofs.StayLaws.{anons-stay, spaces-stay}
use Rattle.av_step.proofs.StepLaws.{orderly}
use Rattle.av_kernel.proofs.LockedRanges.{IsRecounted, range-counted, recounted-ledger, steady-within}
use Rattle.av_kernel.proofs.MapLaws.{both_ok, are_unmapped}
use Rattle.av_kernel.proofs.MapMarks.{gets_areas, unmapped-homes, unmapped-marks}
use Rattle.av_kernel.proofs.map.unmap_pages.Goals as goal

pub unlock_range-requires-clause-within : goal.unlock_range-requires-clause-within
unlock_range-requires-clause-within c = let s = c.requires.steady in steady-within c.args.mem.now s.1 s.2

pub unlock_range-requires-clause-some : goal.unlock_range-requires-clause-some
unlock_range-requires-clause-some c f = let s = c.requires.steady in range-counted c.args.mem.now s.1 s.2 c.args.process c.args.page _ f

pub zap_range-requires : goal.zap_range-requires
zap_range-requires c =
    let s = c.requires.steady in
    let off = c.unlock_range.ensures in
    record {
      orderly = (
        s.0,
        s.1.ledger,
        recounted-ledger s.0 c.args.mem.now c.unlock_range.new.mem (record { seen = off.view; rest = off.rest }) s.1.ledger
            (orderly c.args.mem.now s.1 s.2),
      );
    }

pub unmap-requires-clause-order : goal.unmap-requires-clause-order
unmap-requires-clause-order c =
    let rest = c.zap_range.ensures.rest in
    let off = c.unlock_range.ensures.rest in
    (subst (λ (x : AllSpaces). AnonsFit x c.zap_range.new.mem.anons) (sym (spaces-stay rest.parts ∙ ap (λ (k : Mem). k.spaces) off))
    (subst (AnonsFit c.args.mem.now.spaces) (sym (anons-stay rest.parts ∙ ap (λ (k : Mem). k.anons) off)) c.requires.steady.2.anons)).order

pub returns-clause-unmapped : goal.returns-clause-unmapped
returns-clause-unmapped c = λ d l stands.
    let t = c.in_ok-zap_range.ensures in
    let off = c.unlock_range.ensures in
    let same : IsRecounted c.args.mem.now c.unlock_range.new.mem = record { seen = off.view; rest = off.rest } in
    let mid = c.zap_range.new.mem in
    both_ok c.unmap.result (λ gone stay. are_unmapped c.args.mem.now c.unlock_range.new.mem mid c.unmap.new.self c.unmap.new.anons
    c.args.process c.args.page c.args.pages l c.args.notes.now c.zap_range.new.notes same off.locks
    (t.zapped d l (recounted-ledger d c.args.mem.now c.unlock_range.new.mem same l stands)) t.rest
    (unmapped-marks mid.spaces.processes c.unmap.new.self.processes c.args.process c.args.page c.args.pages gone)
    (gets_areas mid.spaces.processes c.unmap.new.self.processes c.args.process _ gone) stay
    (unmapped-homes mid.spaces.processes c.unmap.new.self.processes c.args.process c.args.page c.args.pages gone)) c.unmap.ensures.areas
    c.unmap.ensures.anons
