use Rattle.std.proofs.Common.{◌≡◌, ℕ, take}
use Rattle.av_interval.specs.Span.{triple}
use Rattle.av_interval.specs.Spans.{triples}
use Rattle.av_anon.specs.Spans.{spans_with}
use Rattle.av_anon.proofs.spans.span_each.Given as goal

abbrev pub invariant-loop-anon : goal.invariant-loop-anon
invariant-loop-anon l = (v : ℕ)
    → triples l.spans v ≡ spans_with (take l.anon-index l.anons) (triple l.first l.last l.area) (triples l.initial.spans) v
