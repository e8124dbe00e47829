use Rattle.std.proofs.Common.{◌≡◌, ℕ, ◌+◌, ap, rules, ◌∙◌, arith}
use Rattle.std.specs.Prelude.{sum_by}
use Rattle.av_plain.specs.Ledger.{free_slots}
use Rattle.av_audit_book.specs.Book.{areas_of, ledger_of}
use Rattle.av_audit_book.specs.Machine.{setting_of}
use Rattle.av_audit_book.proofs.book.Book.all_free_slots.Goals as goal

none : (n : ℕ) → 0 + n ≡ n
none n = omega arith

pub loop-number-init : goal.loop-number-init
loop-number-init c =
    let all : c.into_iter-number-iterator.result ≡ c.args.self.now.on.entries = search rules in
    record {
      can_next = tt;
      is_finite = tt;
      left = none _ ∙ ap (λ on. sum_by (free_slots (setting_of c.args.machine.now) (ledger_of c.args.self.now)) (areas_of on)) all;
      fits = search rules;
    }
