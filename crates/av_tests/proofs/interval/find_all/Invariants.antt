use Rattle.std.proofs.Common.{ℕ, ◌<◌, ◌≤◌, ◌*◌, IsSome}
use Rattle.av_arena.specs.Order.{entry_at}
use Rattle.std.specs.List.{AllByRecursion}
use Rattle.av_interval.specs.Spans.{triples}
use Rattle.av_interval.specs.Span.{key, key_of}
use Rattle.av_tests.proofs.interval.find_all.Given as goal

abbrev pub invariant-loop-i : goal.invariant-loop-i
invariant-loop-i g l =
    record {
      below : AllByRecursion (λ x. x.area < l.i) (triples l.spans 7);
      there : (j : ℕ) → j < l.i → IsSome (entry_at key (key_of (10 * j) j) (triples l.spans 7));
    }

abbrev pub invariant-loop-i-2 : goal.invariant-loop-i-2
invariant-loop-i-2 g l = (j : ℕ) → 2 * l.i ≤ j → j < 1000 → IsSome (entry_at key (key_of (10 * j) j) (triples l.spans 7))
