use Rattle.std.proofs.Common.{◌≡◌, ℕ, Bool, true, false, not, ap, refl, ◌∙◌, arith}
use Rattle.std.specs.Prelude.{◌==◌, ◌&&◌, ◌||◌, nat_lt}
use Rattle.std.proofs.lemmas.Bool.Decides.{nat_tests}
use Rattle.av_plain.specs.Ledger.{SwapArea, free_slots, is_open}
use Rattle.av_audit_book.specs.Book.{ledger_of}
use Rattle.av_audit_book.specs.Filters.{gives}
use Rattle.av_audit_book.specs.Machine.{setting_of}
use Rattle.av_audit_book.proofs.RangeLaws.{none-count}
use Rattle.av_audit_book.proofs.book.Book.no_slot.Goals as goal

zero-less : (n : ℕ) → (n == 0) ≡ not (nat_lt 0 n)
zero-less n = grind (arith, nat_tests)

either : (a b c : Bool) → c ≡ not b → (not a || c) ≡ not (a && b)
either true b c e = e
either false b c e = refl

pub returns : goal.returns
returns c =
    let m = setting_of c.args.machine.now in
    let l = ledger_of c.args.self.now in
    ap (λ n. n == 0) c.giving.ensures
    ∙ none-count (gives m c.args.closing l) (λ (a : ℕ × SwapArea). not (is_open c.args.closing a.0) || free_slots m l a == 0)
    (λ a. either (is_open c.args.closing a.0) (nat_lt 0 (free_slots m l a)) (free_slots m l a == 0) (zero-less (free_slots m l a)))
    l.on
