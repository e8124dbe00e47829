use Rattle.std.proofs.Common.{ap, map, ◌∙◌}
use Rattle.std.proofs.lemmas.Result.{on_ok_weaker}
use Rattle.av_base.specs.Keys.{Key, key_cmp}
use Rattle.av_audit_pages.specs.Entries.{cached_of, entries_of, entry_of}
use Rattle.av_audit_book.specs.Book.{areas_of}
use Rattle.av_audit_book.proofs.MapLaws.{put-says}
use Rattle.av_audit_book.proofs.book.Book.set.Goals as goal

pub returns : goal.returns
returns c = on_ok_weaker c.set.result
    (λ puts. let k : Key = (c.args.process, c.args.page) in
    let same = ap entries_of puts ∙ put-says key_cmp entry_of c.args.self.now.pages.entries k c.args.entry in
    λ i. record {
      entries = same i;
      cache = map cached_of (c.set.ensures.cache i);
      flight = c.args.self.now.flight;
      active = c.args.self.now.active;
      inactive = c.args.self.now.inactive;
      merged = c.args.self.now.merged;
      on = areas_of c.args.self.now.on.entries;
    })
    c.set.ensures.entries
