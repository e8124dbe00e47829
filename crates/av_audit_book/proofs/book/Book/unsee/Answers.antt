use Rattle.std.proofs.Common.{ap, cond, map, ◌∙◌}
use Rattle.std.proofs.lemmas.Result.{on_ok_weaker}
use Rattle.av_plain.specs.Event.{without_seen}
use Rattle.av_plain.specs.Ledger.{names_frame}
use Rattle.av_audit_pages.specs.Entries.{cached_of, entries_of, without_seen_of}
use Rattle.av_audit_book.specs.Book.{areas_of}
use Rattle.av_audit_pages.proofs.EntryLaws.{change-entries, unseen-is}
use Rattle.av_audit_book.proofs.book.Book.unsee.Goals as goal

pub returns : goal.returns
returns c = on_ok_weaker c.unsee.result
    (λ changes. let same = ap entries_of changes
    ∙ change-entries (without_seen_of c.args.frame) (λ e. cond (names_frame c.args.frame e) (without_seen e) e)
    (unseen-is c.args.frame) c.args.self.now.pages.entries in
    λ i. record {
      entries = same i;
      cache = map cached_of (c.unsee.ensures.cache i);
      flight = c.args.self.now.flight;
      active = c.args.self.now.active;
      inactive = c.args.self.now.inactive;
      merged = c.args.self.now.merged;
      on = areas_of c.args.self.now.on.entries;
    })
    c.unsee.ensures.entries
