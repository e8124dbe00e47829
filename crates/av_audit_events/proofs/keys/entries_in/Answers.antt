use Rattle.std.proofs.Common.{◌==◌, ap, ◌∙◌}
use Rattle.std.specs.Prelude.{◌&&◌}
use Rattle.std.proofs.lemmas.Result.{IfOk-weaker}
use Rattle.av_base.specs.Keys.{Key, key_cmp}
use Rattle.av_base.specs.Words.{within}
use Rattle.av_audit_pages.specs.Entries.{entries_of, entry_of}
use Rattle.av_audit_book.proofs.MapLaws.{where-says}
use Rattle.av_audit_events.proofs.keys.entries_in.Goals as goal

pub returns : goal.returns
returns c = IfOk-weaker c.of_process.result _ _ (λ made h. ap entries_of (h ∙ c.range_in.ensures)
    ∙ where-says key_cmp entry_of (λ (k : Key). k.0 == c.args.process && within c.args.from c.args.n k.1) c.args.book.now.pages.entries)
    c.of_process.ensures
