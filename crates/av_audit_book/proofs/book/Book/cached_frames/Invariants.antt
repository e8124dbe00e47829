use Rattle.std.proofs.Common.{◌≡◌, ◌==◌, ◌&&◌, ◌||◌, ℕ, not}
use Rattle.std.specs.BTreeSet.{contains}
use Rattle.std.specs.List.{list_any}
use Rattle.std.specs.Ordering.{nat_cmp}
use Rattle.av_plain.specs.Ledger.{is_merged}
use Rattle.av_audit_pages.specs.declared.entries.Cached.{Cached}
use Rattle.av_audit_book.specs.Book.{ledger_of}
use Rattle.av_audit_book.proofs.book.Book.cached_frames.Given as goal

abbrev pub invariant-loop-pair : goal.invariant-loop-pair
invariant-loop-pair l = record {
  can_next : (goal.iterator-loop-pair).can_next l.pair-iterator;
  is_finite : (goal.iterator-loop-pair).is_finite l.pair-iterator;
  left : (f : ℕ) → (contains nat_cmp l.frames f || (not (contains nat_cmp l.but f) && not (is_merged (ledger_of l.self) f))
      && list_any (λ (c : Cached). f == c.frame) l.pair-iterator)
      ≡ ((not (contains nat_cmp l.but f) && not (is_merged (ledger_of l.self) f))
      && list_any (λ (c : Cached). f == c.frame) l.self.pages.cache);
}
