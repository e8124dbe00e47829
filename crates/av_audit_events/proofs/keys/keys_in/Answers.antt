use Rattle.std.proofs.Common.{◌==◌, map, ap, sym, ◌∙◌}
use Rattle.std.specs.Prelude.{◌&&◌}
use Rattle.std.proofs.lemmas.Result.{IfOk-weaker}
use Rattle.av_base.specs.Keys.{Key}
use Rattle.av_base.specs.Words.{within}
use Rattle.av_audit_book.specs.Book.{ledger_of}
use Rattle.av_audit_pages.specs.declared.entries.Entry.{Entry}
use Rattle.av_audit_events.proofs.FilterLaws.{keys-where}
use Rattle.av_audit_events.proofs.KeyLaws.{keys-say, pages-of}
use Rattle.av_audit_events.proofs.keys.keys_in.Goals as goal

pub returns : goal.returns
returns c = IfOk-weaker c.only_keys.result _ _ (λ made h. h ∙ sym (keys-where (λ (k : Key). k.0 == c.args.process) c.range_in.result)
    ∙ ap (map (λ (e : Key × Entry). e.0)) c.range_in.ensures
    ∙ keys-say c.args.book.now (λ k. k.0 == c.args.process && within c.args.from c.args.n k.1)
    ∙ sym (pages-of c.args.process c.args.from c.args.n (map (λ e. e.0) (ledger_of c.args.book.now).entries))) c.only_keys.ensures
