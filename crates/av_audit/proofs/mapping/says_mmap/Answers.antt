use Rattle.std.proofs.lemmas.Result.{IfOk-weaker}
use Rattle.av_audit_book.specs.Book.{ledger_of}
use Rattle.av_plain.specs.Map.{zaps_for_place}
use Rattle.av_audit.proofs.KnownUnits.{no-zaps, says-alone}
use Rattle.av_audit.proofs.mapping.says_mmap.Goals as goal

pub returns-in_default : goal.returns-in_default
returns-in_default c =
    let l = ledger_of c.args.book.now in
    IfOk-weaker c.is_answer.result _ _ (λ legal says. says-alone l c.args.answer (zaps_for_place l c.args.process c.args.n c.args.place)
    c.args.unit.now legal (no-zaps l c.args.process c.args.n c.args.place c.in_default.not-Fixed) says) c.is_answer.ensures
