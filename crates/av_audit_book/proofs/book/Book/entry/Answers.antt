use Rattle.std.proofs.Common.{ap, ◌∙◌}
use Rattle.std.specs.Prelude.{option_map}
use Rattle.std.specs.BTreeMap.{is_at}
use Rattle.std.specs.Map.{lookup}
use Rattle.av_base.specs.Keys.{Key, key_cmp}
use Rattle.av_audit_pages.specs.Entries.{entry_of}
use Rattle.av_audit_book.proofs.MapLaws.{find-says}
use Rattle.av_audit_book.proofs.book.Book.entry.Goals as goal

pub returns : goal.returns
returns c =
    let k : Key = (c.args.process, c.args.page) in
    ap (option_map entry_of) (c.copied.ensures ∙ c.get.ensures.value ∙ ap (lookup (is_at (key_cmp k))) c.entries.ensures)
    ∙ find-says key_cmp entry_of c.args.self.now.pages.entries k
