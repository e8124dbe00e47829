use Rattle.std.proofs.Common.{◌≡◌, ℕ, take}
use Rattle.av_interval.specs.Span.{key_of}
use Rattle.av_interval.specs.Spans.{triples}
use Rattle.av_anon.specs.Spans.{spans_without}
use Rattle.av_anon.proofs.spans.unspan_each.Given as goal

abbrev pub invariant-loop-anon : goal.invariant-loop-anon
invariant-loop-anon l = (v : ℕ) → triples l.spans v ≡ spans_without (take l.anon-index l.anons) (key_of l.first l.area) (triples l.initial.spans) v
