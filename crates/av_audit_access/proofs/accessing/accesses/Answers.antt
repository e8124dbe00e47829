use Rattle.std.proofs.Common.{◌<◌, ◌^◌, Bool, false, ℕ, List, Some, None, ap, subst, sym, ◌∙◌}
use Rattle.av_plain.specs.Access.{Whole}
use Rattle.av_audit_book.specs.Book.{ledger_of}
use Rattle.av_audit_book.specs.Machine.{setting_of}
use Rattle.av_audit_judge.proofs.FetchLaws.{some-left}
use Rattle.av_audit_judge.proofs.Finds.{slice-cons}
use Rattle.av_audit_access.specs.Access.{Ends}
use Rattle.av_audit_access.specs.Come.{coming_of, stop_of}
use Rattle.av_audit_access.proofs.AccessLaws.{Goes, all-behind, ends-kept, ends-more, ends-none, ends-then, ends-whole}
use Rattle.av_audit_access.proofs.TakeLaws.{over-is}
use Rattle.av_audit_access.proofs.TouchLaws.{touch-is}
use Rattle.av_audit_access.proofs.accessing.accesses.Goals as goal

pub returns-in-None : goal.returns-in-None
returns-in-None c = λ w at.
    let m = setting_of c.args.machine.now in
    let p = c.args.process in
    let l = ledger_of c.loop-rest.book in
    let l1 = ledger_of c.touches.new.book in
    let bytes = c.loop-rest.unit.rest.now in
    let mid = c.touches.new.unit.rest.now in
    c.loop-rest.invariant.told w at None l1
    (subst (λ (ps : List (Bool × ℕ)). Ends (Goes m w l p ps) l bytes None l1) (slice-cons c.loop-rest.rest.now _ c.in-len1-up.len_at_least)
    (ends-none m w l p _ _ bytes l1 l1 mid (touch-is m w l l1 _ _ bytes mid _ _ (ap coming_of c.in-None.is) (c.in_ok-touches.ensures w at))))

pub returns-in-Some-Kept : goal.returns-in-Some-Kept
returns-in-Some-Kept c = λ w at.
    let m = setting_of c.args.machine.now in
    let p = c.args.process in
    let l = ledger_of c.loop-rest.book in
    let l1 = ledger_of c.touches.new.book in
    let bytes = c.loop-rest.unit.rest.now in
    let mid = c.touches.new.unit.rest.now in
    ends-kept m w l (ledger_of c.args.book.now) l1 p _ _ c.loop-rest.rest.now c.args.pages.now bytes mid c.args.notes.now
    (stop_of c.in-Some-Kept.stop) (slice-cons c.loop-rest.rest.now _ c.in-len1-up.len_at_least)
    (touch-is m w l l1 _ _ bytes mid _ _ (ap coming_of (c.in-Some-Kept.is ∙ ap Some c.in-Some-Kept.field-0-is)) (c.in_ok-touches.ensures w at))
    (c.loop-rest.invariant.told w at)

pub loop-rest-preserved : goal.loop-rest-preserved
loop-rest-preserved c =
    let m = setting_of c.args.machine.now in
    let p = c.args.process in
    let l = ledger_of c.loop-rest.book in
    let l1 = ledger_of c.touches.new.book in
    let bytes = c.loop-rest.unit.rest.now in
    let mid = c.touches.new.unit.rest.now in
    let l2 = ledger_of c.touch.new.book in
    record {
      told = λ w at found l' later.
          c.loop-rest.invariant.told w at found l'
          (subst (λ (ps : List (Bool × ℕ)). Ends (Goes m w l p ps) l bytes found l')
          (slice-cons c.loop-rest.rest.now _ c.in-len1-up.len_at_least)
          (ends-then m w l p _ _ bytes l1 l2 l' mid found
          (touch-is m w l l1 _ _ bytes mid _ _ (ap coming_of (c.in-Some-Here.is ∙ ap Some c.in-Some-Here.field-0-is)) (c.in_ok-touches.ensures w at))
          c.in_ok-touch-in-Some-Here.ensures later));
      pages = all-behind (λ (page : Bool × ℕ). page.1 < 2 ^ 52) c.loop-rest.rest.now (false, 0) c.in-len1-up.len_at_least c.loop-rest.invariant.pages;
    }

pub returns-then-is_empty : goal.returns-then-is_empty
returns-then-is_empty c = λ w at.
    let m = setting_of c.args.machine.now in
    let l = ledger_of c.loop-rest.book in
    let bytes = c.loop-rest.unit.rest.now in
    c.loop-rest.invariant.told w at (Some Whole) l
    (ends-whole m w l c.args.process c.loop-rest.rest.now bytes c.in_default.len_below
    (over-is bytes (sym c.if-is_empty.true ∙ c.is_empty.ensures)))

pub returns-else-is_empty : goal.returns-else-is_empty
returns-else-is_empty c = λ w at.
    let m = setting_of c.args.machine.now in
    let l = ledger_of c.loop-rest.book in
    let bytes = c.loop-rest.unit.rest.now in
    c.loop-rest.invariant.told w at None l
    (ends-more m w l l c.args.process c.loop-rest.rest.now bytes c.in_default.len_below
    (some-left bytes (sym c.if-is_empty.false ∙ c.is_empty.ensures)))
