use Rattle.std.proofs.Common.{map}
use Rattle.std.proofs.lemmas.Result.{on_ok_weaker}
use Rattle.av_audit_pages.specs.Entries.{cached_of, entries_of}
use Rattle.av_audit_book.specs.Book.{areas_of}
use Rattle.av_audit_book.proofs.book.Book.into_cache.Goals as goal

pub returns : goal.returns
returns c = on_ok_weaker c.into_cache.result
    (λ more. λ i. record {
      entries = entries_of (c.into_cache.ensures.entries i);
      cache = map cached_of (more i);
      flight = c.args.self.now.flight;
      active = c.args.self.now.active;
      inactive = c.args.self.now.inactive;
      merged = c.args.self.now.merged;
      on = areas_of c.args.self.now.on.entries;
    })
    c.into_cache.ensures.cache
