use Rattle.std.proofs.Common.{ap, map, not, refl, ◌∙◌}
use Rattle.av_plain.specs.Ledger.{Cached as PlainCached, same_slot}
use Rattle.av_audit_pages.specs.Entries.{cached_of, entries_of}
use Rattle.av_audit_book.specs.Book.{areas_of}
use Rattle.av_audit_pages.specs.declared.entries.Cached.{Cached}
use Rattle.av_audit_pages.proofs.EntryLaws.{filter-cached}
use Rattle.av_audit_book.proofs.book.Book.off_cache.Goals as goal

pub returns : goal.returns
returns c =
    let same = ap (map cached_of) c.off_cache.ensures.cache
    ∙ filter-cached (λ (t : Cached). not (same_slot c.args.slot t.slot)) (λ (t : PlainCached). not (same_slot c.args.slot t.slot)) (λ t. refl)
    c.args.self.now.pages.cache in
    λ i. record {
      entries = entries_of (c.off_cache.ensures.entries i);
      cache = same i;
      flight = c.args.self.now.flight;
      active = c.args.self.now.active;
      inactive = c.args.self.now.inactive;
      merged = c.args.self.now.merged;
      on = areas_of c.args.self.now.on.entries;
    }
