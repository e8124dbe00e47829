use Rattle.std.proofs.Common.{ap, map, ◌∙◌}
use Rattle.std.specs.Prelude.{nat_lt}
use Rattle.av_plain.specs.Ledger.{Cached as PlainCached, same_slot}
use Rattle.av_audit_pages.specs.Entries.{cached_of}
use Rattle.av_audit_pages.proofs.CountLaws.{any-count}
use Rattle.av_audit_book.proofs.book.Book.is_cached.Goals as goal

pub returns : goal.returns
returns c = ap (nat_lt 0) c.slot_pairs.ensures
    ∙ any-count (λ (t : PlainCached). same_slot c.args.slot t.slot) (map cached_of c.args.self.now.pages.cache)
