use Rattle.std.proofs.Common.{ap, map, ◌∙◌}
use Rattle.std.proofs.lemmas.Result.{MatchResult-from_err}
use Rattle.std.specs.Ordering.{nat_cmp}
use Rattle.av_audit_pages.specs.Entries.{cached_of, entries_of}
use Rattle.av_audit_book.specs.Book.{area_of, areas_of}
use Rattle.av_audit_book.proofs.MapLaws.{put-says}
use Rattle.av_audit_events.proofs.areas.turn_on.Goals as goal

pub returns-clause-ok : goal.returns-clause-ok
returns-clause-ok c =
    let same = ap areas_of c.in_ok-insert.ensures.entries
    ∙ put-says nat_cmp area_of c.args.book.now.on.entries c.args.number c.args.area in
    λ i. record {
      entries = entries_of c.args.book.now.pages.entries;
      cache = map cached_of c.args.book.now.pages.cache;
      flight = c.args.book.now.flight;
      active = c.args.book.now.active;
      inactive = c.args.book.now.inactive;
      merged = c.args.book.now.merged;
      on = same i;
    }

pub returns-in_err-insert-clause-err : goal.returns-in_err-insert-clause-err
returns-in_err-insert-clause-err c =
    let same = ap areas_of c.in_err-insert.ensures.err in
    MatchResult-from_err c.from_residual.result (λ _. Unit {0}) _ c.from_residual.ensures.0
    (λ _ i. record {
      entries = entries_of c.args.book.now.pages.entries;
      cache = map cached_of c.args.book.now.pages.cache;
      flight = c.args.book.now.flight;
      active = c.args.book.now.active;
      inactive = c.args.book.now.inactive;
      merged = c.args.book.now.merged;
      on = same i;
    })
