use Rattle.std.proofs.Common.{◌==◌, ap, ◌∙◌}
use Rattle.std.proofs.lemmas.Result.{IfOk-weaker}
use Rattle.av_base.specs.Keys.{Key, key_cmp}
use Rattle.av_audit_pages.specs.Entries.{entries_of, entry_of}
use Rattle.av_audit_book.proofs.MapLaws.{where-says}
use Rattle.av_audit_events.proofs.keys.entries_of.Goals as goal

pub returns : goal.returns
returns c = IfOk-weaker c.of_process.result _ _ (λ made h. ap entries_of (h ∙ c.range_of.ensures)
    ∙ where-says key_cmp entry_of (λ (k : Key). k.0 == c.args.process) c.args.book.now.pages.entries) c.of_process.ensures
