use Rattle.std.proofs.Common.{◌≡◌, ℕ, cond, take}
use Rattle.av_base.specs.Words.{is_in}
use Rattle.av_arena.specs.Order.{with_entry, without_key}
use Rattle.av_interval.specs.Span.{key, key_of, triple}
use Rattle.av_interval.specs.Spans.{triples}
use Rattle.av_anon.proofs.spans.respan_each.Given as goal

abbrev pub invariant-loop-anon : goal.invariant-loop-anon
invariant-loop-anon l = (v : ℕ) → triples l.spans v ≡ cond (is_in v (take l.anon-index l.anons))
    (with_entry key (triple l.first l.last l.area) (without_key key (key_of l.first l.area) (triples l.initial.spans v))) (triples l.initial.spans v)
