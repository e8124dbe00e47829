-- The spans go with the links.
use Rattle.std.specs.Prelude.{◌≡◌, ℕ, ◌-◌, ◌^◌, ◌<◌, Bool, ◌==◌, if◌then◌else◌, List, [], ◌∷◌}
use Rattle.std.specs.Prelude.{filter, Option, Some, None}
use Rattle.av_base.specs.Words.{is_in}
use Rattle.av_arena.specs.Order.{with_entry, without_key}
use Rattle.std.specs.List.{AllByRecursion}
use Rattle.av_vma.specs.declared.area.Area.{Area}
use Rattle.av_vma.specs.Index.{past_of, index_of}
use Rattle.av_interval.specs.declared.span.Span.{Span}
use Rattle.av_interval.specs.Span.{key}
use Rattle.av_interval.specs.Spans.{triples}
use Rattle.av_anon.specs.declared.anons.Anons.{Anons}

-- the spans of each anon_vma
abbrev pub spans_of : Anons → ℕ → List Span
spans_of a = triples a.spans

-- an area's span: its first and its last linear index
abbrev pub span_at : ℕ → Area → Span
span_at number area = record {
  first = area.pgoff;
  last = index_of area (past_of area) - 1;
  area = number;
}

abbrev pub is_of : ℕ → Span → Bool
is_of number x = x.area == number

-- the span of the area at a number, if there is one
abbrev pub present : ℕ → Option Area → List Span
present number None = []
present number (Some area) = span_at number area ∷ []

-- of each area each anon_vma has exactly the present span where the area is linked to it
pub record GoWithLinks (areas : ℕ → Option Area) (chain : ℕ → List ℕ) (spans : ℕ → List Span)
    : Type 0 where
  pub each : (v number : ℕ) → filter (is_of number) (spans v)
      ≡ (if is_in v (chain number) then present number (areas number) else [])
  pub numbers : (v : ℕ) → AllByRecursion (λ x. x.area < 2 ^ 64) (spans v)

-- the spans, once this one is put in for each of these anon_vmas
abbrev pub spans_with : List ℕ → Span → (ℕ → List Span) → ℕ → List Span
spans_with anons x spans v = if is_in v anons then with_entry key x (spans v) else spans v

-- the spans, once the one with this key is taken out for each of these anon_vmas
abbrev pub spans_without : List ℕ → ℕ → (ℕ → List Span) → ℕ → List Span
spans_without anons k spans v = if is_in v anons then without_key key k (spans v) else spans v
