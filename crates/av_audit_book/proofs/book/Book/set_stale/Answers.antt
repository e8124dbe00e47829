use Rattle.std.proofs.Common.{ap, map, ◌∙◌}
use Rattle.std.proofs.lemmas.Result.{on_ok_weaker}
use Rattle.av_audit_pages.specs.Entries.{cached_of, entries_of, stale_at}
use Rattle.av_audit_book.specs.Book.{areas_of}
use Rattle.av_audit_pages.specs.Entries.{changed_pair}
use Rattle.av_audit_pages.specs.declared.changes.PairChange.TheVariants.{Stale}
use Rattle.av_audit_pages.proofs.EntryLaws.{change-pairs, stale-is}
use Rattle.av_audit_book.proofs.book.Book.set_stale.Goals as goal

pub returns : goal.returns
returns c = on_ok_weaker c.change_pairs.result
    (λ changes. let same = ap (map cached_of) changes
    ∙ change-pairs (changed_pair (Stale c.args.slot c.args.stale)) (stale_at c.args.stale c.args.slot)
    (stale-is c.args.stale c.args.slot) c.args.self.now.pages.cache in
    λ i. record {
      entries = entries_of (c.change_pairs.ensures.entries i);
      cache = same i;
      flight = c.args.self.now.flight;
      active = c.args.self.now.active;
      inactive = c.args.self.now.inactive;
      merged = c.args.self.now.merged;
      on = areas_of c.args.self.now.on.entries;
    })
    c.change_pairs.ensures.cache
