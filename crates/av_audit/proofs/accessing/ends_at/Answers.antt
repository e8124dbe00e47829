use Rattle.std.proofs.Common.{◌≡◌, ◌+◌, ◌-◌, ◌^◌, ◌≤◌, false, min, option_map, ap, subst, sym, ◌∙◌, arith}
use Rattle.av_base.specs.Page.{page_of, pages_met}
use Rattle.av_plain.specs.Access.{Accesses}
use Rattle.av_plain.specs.Fault.{is_allowed, permits}
use Rattle.av_audit_book.specs.Book.{ledger_of}
use Rattle.av_audit_book.specs.Machine.{setting_of}
use Rattle.av_audit_world.proofs.WorldLaws.{world-top}
use Rattle.av_audit_access.specs.Access.{Ends, end_of}
use Rattle.av_audit.specs.Access.{end_below, turns_of}
use Rattle.av_audit.proofs.AccessLaws.{ends-below}
use Rattle.av_audit.proofs.accessing.ends_at.Goals as goal

pub returns : goal.returns
returns c = λ w h.
    let m = setting_of c.args.machine.now in
    let l = ledger_of c.args.book.now in
    let l' = ledger_of c.accesses.new.book in
    let p = c.args.process in
    let write = c.args.write in
    let from = page_of c.args.address in
    let met = pages_met c.args.address c.args.n in
    let notes = c.args.notes.now in
    let reach = option_map end_of c.in_ok-reach.reach in
    let size = c.pages_met-count.ensures.pages in
    let denied : is_allowed w write (p, 2 ^ 52) ≡ false = ap (permits write) (world-top c.args.memories.now w p (2 ^ 52) h (omega arith)) in
    let fits = c.ranges.address.fits in
    let low : from ≤ 2 ^ 52 = omega (arith, fits) in
    let turns : c.as_slice.result.now ≡ turns_of write from (min (from + met) (2 ^ 52) - from) =
    c.as_slice.ensures.value ∙ c.in_ok-pages.ensures.pages ∙ ap (λ n. turns_of write from (min (from + n) (2 ^ 52) - from)) size in
    let below = subst (λ ps. Ends (λ end es. Accesses m w l p ps es end) l notes reach l') turns (c.in_ok-reach.ensures w h) in
    subst (λ f. Ends (λ end es. Accesses m w l p (turns_of write from met) es end) l notes f l')
    (sym (c.stops_below.ensures ∙ ap (λ n. option_map (end_below (from + n)) reach) size))
    (ends-below m w l p write from met notes reach l' low denied below)
