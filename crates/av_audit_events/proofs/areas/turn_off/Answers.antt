use Rattle.std.proofs.Common.{◌≡◌, ◌==◌, ℕ, ap, map, not, ◌∙◌, arith}
use Rattle.std.specs.BTreeMap.{is_at}
use Rattle.std.specs.Ordering.{nat_cmp}
use Rattle.std.proofs.lemmas.Bool.Decides.{nat_tests}
use Rattle.av_plain.specs.Ledger.{SwapArea}
use Rattle.av_audit_pages.specs.Entries.{cached_of, entries_of}
use Rattle.av_audit_book.specs.Book.{area_of, areas_of}
use Rattle.av_audit_book.proofs.MapLaws.{where-says}
use Rattle.av_audit_book.proofs.RemovalLaws.{filter-same, removed-one}
use Rattle.av_audit_events.proofs.areas.turn_off.Goals as goal

other : (k q : ℕ) → not (is_at (nat_cmp k) q) ≡ not (q == k)
other k q = grind (arith, nat_tests)

pub returns : goal.returns
returns c =
    let on = c.args.book.now.on.entries in
    let left = ap areas_of (removed-one (is_at (nat_cmp c.args.number)) on _ c.remove.ensures.entries c.remove.ensures.updates.1)
    ∙ where-says nat_cmp area_of (λ q. not (is_at (nat_cmp c.args.number) q)) on
    ∙ filter-same (λ (a : ℕ × SwapArea). not (is_at (nat_cmp c.args.number) a.0)) (λ a. not (a.0 == c.args.number))
    (λ a. other c.args.number a.0) (areas_of on) in
    λ i. record {
      entries = entries_of c.args.book.now.pages.entries;
      cache = map cached_of c.args.book.now.pages.cache;
      flight = c.args.book.now.flight;
      active = c.args.book.now.active;
      inactive = c.args.book.now.inactive;
      merged = c.args.book.now.merged;
      on = left i;
    }
