use Rattle.std.proofs.Common.{◌==◌, map, ap, sym, ◌∙◌}
use Rattle.std.proofs.lemmas.Result.{IfOk-weaker}
use Rattle.av_base.specs.Keys.{Key}
use Rattle.av_audit_pages.specs.declared.entries.Entry.{Entry}
use Rattle.av_audit_events.proofs.FilterLaws.{keys-where}
use Rattle.av_audit_events.proofs.KeyLaws.{keys-say}
use Rattle.av_audit_events.proofs.keys.keys_of.Goals as goal

pub returns : goal.returns
returns c = IfOk-weaker c.only_keys.result _ _ (λ made h. h ∙ sym (keys-where (λ (k : Key). k.0 == c.args.process) c.range_of.result)
    ∙ ap (map (λ (e : Key × Entry). e.0)) c.range_of.ensures
    ∙ keys-say c.args.book.now (λ k. k.0 == c.args.process)) c.only_keys.ensures
