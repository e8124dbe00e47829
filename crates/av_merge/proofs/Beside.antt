-- The areas beside pages that are free: they are those of the spans that end and begin there.
use Rattle.std.proofs.Common.{◌≡◌, ℕ, ◌+◌, ◌-◌, ◌<◌, inl, inr, true, false, cond, eqb, Option, Some, None, is_some, List, [], ◌∷◌, refl, sym, ap, ◌∙◌, max, arith}
use Rattle.std.proofs.lemmas.Bool.{lt-leb, le-leb, eq-eqb, eqb-true, both_ways, cases_lt}
use Rattle.std.proofs.lemmas.Option.{none-some}
use Rattle.av_vmatree.specs.declared.span.Span.{Span}
use Rattle.av_vmatree.specs.Spans.{AreApart, AreSpans, IsFree, area_at, first_from, is_page_taken, last_below}
use Rattle.av_vmatree.proofs.Sides.{below_must, from_must}
use Rattle.av_vmatree.proofs.Spans.{AreClear, clear_from_free}
use Rattle.av_merge.specs.Pages.{beginning_at, ending_at}
use Rattle.av_merge.proofs.JoiningLaws.{left_side, right_side}
use Rattle.av_merge.proofs.PlacingLaws.{at_span, holds_parts, span_at}

-- a span that begins or ends with a page, as what lies on a side of it
record IsSide (P Q : Span → Type 0) : Type 0 where
  pub span : Span
  pub there : P span
  pub side : Q span

-- the area of the last page before one that is free ends there
ends : (spans : List Span) (at n : ℕ) → AreSpans spans → 0 < at → is_page_taken spans at ≡ false → area_at spans (at - 1) ≡ Some n
    → IsSide (λ s. last_below spans at ≡ Some s) (λ s. s.to ≡ at)
ends spans at n good some free e =
    let k = span_at spans (at - 1) n good.distinct e in
    let h = holds_parts k.span (at - 1) k.holds in
    let low = h.0 in
    let high = h.1 in
    record {
      span = k.span;
      there = below_must spans n at k.span good.apart k.span_is (omega arith) (omega arith);
      side = elim (cases_lt at k.span.to) [
        | inl past ↦ absurd (both_ways _ free (ap is_some (at_span spans n k.span at good.apart k.span_is (omega arith) past)))
        | inr not_past ↦ omega arith
      ];
    }

pub ending_is : (spans : List Span) (at : ℕ) → AreSpans spans → 0 < at → is_page_taken spans at ≡ false →
    ending_at at (last_below spans at) ≡ area_at spans (at - 1)
ending_is spans at good some free = go (area_at spans (at - 1)) refl
  where
    other : area_at spans (at - 1) ≡ None → (o : Option Span) → last_below spans at ≡ o → ending_at at o ≡ None
    other e None l = refl
    other e (Some s) l = elim (eqb s.to at) as (λ b. eqb s.to at ≡ b → cond b (Some s.area) None ≡ None) [
      | true ↦ λ h. absurd (none-some s.area (sym e ∙ left_side spans at s good some l (eqb-true s.to at h)))
      | false ↦ λ h. refl
    ] refl

    go : (o : Option ℕ) → area_at spans (at - 1) ≡ o → ending_at at (last_below spans at) ≡ o
    go None e = other e (last_below spans at) refl
    go (Some n) e =
        let k = ends spans at n good some free e in
        ap (ending_at at) k.there ∙ ap (λ b. cond b (Some k.span.area) None) (eq-eqb k.span.to at k.side)
        ∙ sym (left_side spans at k.span good some k.there k.side) ∙ e

-- over pages of no span the first one above is the same
over : (xs : List Span) (p n : ℕ) → AreApart xs → AreClear xs p n → first_from xs p ≡ first_from xs (p + n)
over [] p n apart clear = refl
over (b ∷ xs) p n apart clear = elim clear.0 [
  | inl past ↦
      let wide : b.from < b.to = apart.0 in
      rw (lt-leb p b.from (omega arith), lt-leb (p + n) b.from (omega arith)) (over xs p n apart.2 clear.1)
  | inr before ↦ rw (le-leb p b.from (omega arith), le-leb (p + n) b.from before) refl
]

over_free : (spans : List Span) (from to : ℕ) → AreApart spans → from < to → IsFree (is_page_taken spans) from to →
    first_from spans from ≡ first_from spans to
over_free spans from to apart some free =
    let to_is : from + (to - from) ≡ to = omega arith in
    over spans from (to - from) apart (clear_from_free from (to - from) spans (omega arith) apart (λ page low high. free page low (omega arith)))
    ∙ ap (first_from spans) to_is

-- the area of the first page past free ones begins there
begins : (spans : List Span) (from to n : ℕ) → AreSpans spans → from < to → IsFree (is_page_taken spans) from to → area_at spans to ≡ Some n
    → IsSide (λ s. first_from spans to ≡ Some s) (λ s. s.from ≡ to)
begins spans from to n good some free e =
    let k = span_at spans to n good.distinct e in
    let h = holds_parts k.span to k.holds in
    let low = h.0 in
    let high = h.1 in
    let is : k.span.from ≡ to = elim (cases_lt k.span.from to) [
      | inl before ↦
          let page = max k.span.from from in
          absurd (both_ways _ (free page (omega arith) (omega arith))
          (ap is_some (at_span spans n k.span page good.apart k.span_is (omega arith) (omega arith))))
      | inr not_before ↦ omega arith
    ] in
    record { span = k.span; there = from_must spans n to k.span good.apart k.span_is is; side = is }

pub beginning_is : (spans : List Span) (from to : ℕ) → AreSpans spans → from < to → IsFree (is_page_taken spans) from to →
    beginning_at to (first_from spans from) ≡ area_at spans to
beginning_is spans from to good some free = ap (beginning_at to) (over_free spans from to good.apart some free) ∙ go (area_at spans to) refl
  where
    other : area_at spans to ≡ None → (o : Option Span) → first_from spans to ≡ o → beginning_at to o ≡ None
    other e None l = refl
    other e (Some s) l = elim (eqb s.from to) as (λ b. eqb s.from to ≡ b → cond b (Some s.area) None ≡ None) [
      | true ↦ λ h. absurd (none-some s.area (sym e ∙ right_side spans to s good l (eqb-true s.from to h)))
      | false ↦ λ h. refl
    ] refl

    go : (o : Option ℕ) → area_at spans to ≡ o → beginning_at to (first_from spans to) ≡ o
    go None e = other e (first_from spans to) refl
    go (Some n) e =
        let k = begins spans from to n good some free e in
        ap (beginning_at to) k.there ∙ ap (λ b. cond b (Some k.span.area) None) (eq-eqb k.span.from to k.side)
        ∙ sym (right_side spans to k.span good k.there k.side) ∙ e
