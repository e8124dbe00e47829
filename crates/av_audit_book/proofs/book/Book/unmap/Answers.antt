use Rattle.std.proofs.Common.{ap, cond, map, ◌∙◌}
use Rattle.std.proofs.lemmas.Result.{on_ok_weaker}
use Rattle.av_plain.specs.Ledger.{InSlot as PlainInSlot, names_frame}
use Rattle.av_audit_pages.specs.Entries.{cached_of, entries_of, with_slot}
use Rattle.av_audit_book.specs.Book.{areas_of}
use Rattle.av_audit_pages.proofs.EntryLaws.{change-entries, slot-is}
use Rattle.av_audit_book.proofs.book.Book.unmap.Goals as goal

pub returns : goal.returns
returns c = on_ok_weaker c.change.result
    (λ changes. let same = ap entries_of changes
    ∙ change-entries (with_slot c.args.frame c.args.slot) (λ e. cond (names_frame c.args.frame e) (PlainInSlot c.args.slot) e)
    (slot-is c.args.frame c.args.slot) c.args.self.now.pages.entries in
    λ i. record {
      entries = same i;
      cache = map cached_of (c.change.ensures.cache i);
      flight = c.args.self.now.flight;
      active = c.args.self.now.active;
      inactive = c.args.self.now.inactive;
      merged = c.args.self.now.merged;
      on = areas_of c.args.self.now.on.entries;
    })
    c.change.ensures.entries
