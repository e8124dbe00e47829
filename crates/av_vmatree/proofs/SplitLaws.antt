-- A span that becomes two.
use Rattle.std.proofs.Common.{◌≡◌, ℕ, ◌<◌, ◌≤◌, ◌⊎◌, inl, inr, true, false, cond, eqb, Option, Some, None, IsSomeAnd, is_some, Result, Ok, Err, is_ok, OnOk, List, [], ◌∷◌, refl, sym, ap, subst, ◌∙◌, arith}
use Rattle.std.proofs.lemmas.Bool.{eq-eqb, eqb-true, ne_eqb}
use Rattle.av_base.specs.Limits.{low_page, top_page}
use Rattle.av_base.specs.Words.{with_at}
use Rattle.av_arena.specs.Order.{NoneBetween, with_two, without_key}
use Rattle.std.specs.List.{AllByRecursion}
use Rattle.av_arena.proofs.Order.{AllByRecursion-map}
use Rattle.av_vmatree.specs.declared.span.Span.{Span}
use Rattle.av_vmatree.specs.Spans.{start_of, holds, area_at, is_page_taken, span_of, with_span, unless_area, without_area, IsFree, AreApart, AreSpans}
use Rattle.av_vmatree.proofs.Spans.{all_found, ended_here, holds_above, holds_here, inserted, removed_here}

-- the span of an area that has these ends
abbrev pub HasSpan : List Span → ℕ → ℕ → ℕ → Type 0
HasSpan xs n from to = IsSomeAnd (span_of xs n) (λ s. (s.from ≡ from) × (s.to ≡ to))

-- the pages of a span are its area's
own_at : (n : ℕ) (xs : List Span) (s : Span) (p : ℕ) → AreApart xs → span_of xs n ≡ Some s → s.from ≤ p → p < s.to → area_at xs p ≡ Some n
own_at n [] s p apart found low high = cc
own_at n (b ∷ xs) s p apart found low high =
    elim (eqb n b.area) as (λ v. eqb n b.area ≡ v → cond v (Some b) (span_of xs n) ≡ Some s → area_at (b ∷ xs) p ≡ Some n) [
      | true ↦ λ e f.
          let same : b ≡ s = cc in
          let h : holds b p ≡ true =
          holds_here b p (subst (λ (t : Span). t.from ≤ p) (sym same) low) (subst (λ (t : Span). p < t.to) (sym same) high) in
          rw h (ap Some (sym (eqb-true n b.area e)))
      | false ↦ λ e f.
          let later : b.to ≤ s.from = all_found (λ t. b.to ≤ t.from) n xs s apart.1 f in
          rw (holds_above b p (omega arith)) (own_at n xs s p apart.2 f low high)
    ] refl found

-- no other span begins within a span
none_within : (n : ℕ) (xs : List Span) (s : Span) → AreApart xs → span_of xs n ≡ Some s → AllByRecursion (λ y. (y.from ≤ s.from) ⊎ (s.to ≤ y.from)) xs
none_within n [] s apart found = tt
none_within n (b ∷ xs) s apart found =
    elim (eqb n b.area) as (λ v. cond v (Some b) (span_of xs n) ≡ Some s → AllByRecursion (λ y. (y.from ≤ s.from) ⊎ (s.to ≤ y.from)) (b ∷ xs)) [
      | true ↦ λ f. let same : b ≡ s = cc in subst (λ (t : Span). AllByRecursion (λ y. (y.from ≤ t.from) ⊎ (t.to ≤ y.from)) (b ∷ xs)) same
          (inl (omega arith), AllByRecursion-map (λ y. b.to ≤ y.from) (λ y. (y.from ≤ b.from) ⊎ (b.to ≤ y.from)) (λ y h. inr h) xs apart.1)
      | false ↦ λ f.
          let later : b.to ≤ s.from = all_found (λ t. b.to ≤ t.from) n xs s apart.1 f in
          let wide : b.from < b.to = apart.0 in
          (inl (omega arith), none_within n xs s apart.2 f)
    ] found

-- what a cut of a span leaves
pub record IsCut (l u : Span) (xs new : List Span) : Type 0 where
  pub good : AreSpans new
  pub spans : new ≡ with_span u (with_span l (without_area l.area xs))
  pub areas : (k : ℕ) → span_of new k ≡ with_at u.area (Some u) (with_at l.area (Some l) (span_of xs)) k
  pub pages : (p : ℕ) → area_at new p ≡ cond (holds u p) (Some u.area) (cond (holds l p) (Some l.area) (unless_area l.area (area_at xs p)))

cut_found : (l u s : Span) (xs : List Span) → AreSpans xs → span_of xs l.area ≡ Some s → s.from ≡ l.from → l.to ≤ u.from → s.to ≡ u.to
    → l.from < l.to →
    u.from < u.to → span_of xs u.area ≡ None → IsCut l u xs (with_two start_of l u xs)
cut_found l u s xs good found a b c some more other =
    let n = l.area in
    let there : IsSomeAnd (span_of xs n) (λ t. t.from ≡ l.from) = rw found a in
    let whole : (low_page ≤ s.from) × (s.to ≤ top_page) = all_found (λ t. (low_page ≤ t.from) × (t.to ≤ top_page)) n xs s good.within found in
    let w0 = whole.0 in let w1 = whole.1 in
    let gone = removed_here n l.from xs good there in
    let none_own : (p : ℕ) → s.from ≤ p → p < s.to → is_some (unless_area n (area_at xs p)) ≡ false =
    λ p low high. rw (own_at n xs s p good.apart found low high, eq-eqb n n refl) refl in
    let free : IsFree (is_page_taken (without_area n xs)) l.from l.to = λ p low high. subst (λ zs. is_page_taken zs p ≡ false) gone.spans
    (rw (gone.pages p) (none_own p (omega arith) (omega arith))) in
    let e = ended_here l xs good there some (omega arith) free in
    let ys = with_span l (without_key start_of l.from xs) in
    let apart : u.area ≡ n → ⊥ = λ same. (let d : span_of xs n ≡ None = subst (λ i. span_of xs i ≡ None) same other in cc) in
    let new : span_of ys u.area ≡ None = e.areas u.area ∙ rw (ne_eqb u.area n apart) other in
    let free' : IsFree (is_page_taken ys) u.from u.to =
    λ p low high. rw (e.pages p, holds_above l p (omega arith)) (none_own p (omega arith) (omega arith)) in
    let i = inserted u ys e.good more (omega arith) (omega arith) free' new in
    record {
      good = i.good;
      spans = ap (with_span u) e.spans;
      areas = λ k. i.areas k ∙ ap (cond (eqb k u.area) (Some u)) (e.areas k);
      pages = λ p. i.pages p ∙ ap (cond (holds u p) (Some u.area)) (e.pages p);
    }

cut_cases : (l u : Span) (o : Option Span) (xs : List Span) → AreSpans xs → span_of xs l.area ≡ o
    → IsSomeAnd o (λ s. (s.from ≡ l.from) × (s.to ≡ u.to)) →
    l.to ≤ u.from → l.from < l.to → u.from < u.to → span_of xs u.area ≡ None → IsCut l u xs (with_two start_of l u xs)
cut_cases l u None xs good found there b some more other = absurd there
cut_cases l u (Some s) xs good found there b some more other = cut_found l u s xs good found there.0 b there.1 some more other

pub cut_if : {E : Type 0} (r : Result Unit E) (l u : Span) (d xs new : List Span) → d ≡ xs
    → new ≡ cond (is_ok r) (with_two start_of l u d) d → AreSpans d →
    HasSpan xs l.area l.from u.to → l.to ≤ u.from → l.from < l.to → u.from < u.to → span_of xs u.area ≡ None
    → OnOk r (IsCut l u xs new) × AreSpans new
cut_if (Ok _) l u d xs new is e good there b some more other =
    let h = subst (IsCut l u xs) (sym (e ∙ ap (with_two start_of l u) is))
    (cut_cases l u (span_of xs l.area) xs (subst AreSpans is good) refl there b some more other) in
    (h, h.good)
cut_if (Err _) l u d xs new is e good there b some more other = (tt, subst AreSpans (sym e) good)

pub cut_spans : {E : Type 0} (r : Result Unit E) (l u : Span) (d xs new : List Span) → d ≡ xs → new ≡ cond (is_ok r) (with_two start_of l u d) d →
    OnOk r (IsCut l u xs new) → new ≡ cond (is_ok r) (with_span u (with_span l (without_area l.area xs))) xs
cut_spans (Ok _) l u d xs new is e h = h.spans
cut_spans (Err _) l u d xs new is e h = e ∙ is

from_there : (n from to : ℕ) (o : Option Span) → IsSomeAnd o (λ s. (s.from ≡ from) × (s.to ≡ to)) → IsSomeAnd o (λ s. s.from ≡ from)
from_there n from to None h = h
from_there n from to (Some s) h = h.0

pub begins : (xs : List Span) (n from to : ℕ) → HasSpan xs n from to → IsSomeAnd (span_of xs n) (λ s. s.from ≡ from)
begins xs n from to h = from_there n from to (span_of xs n) h

next_cases : (n from at to : ℕ) (o : Option Span) (xs : List Span) → AreApart xs → span_of xs n ≡ o
    → IsSomeAnd o (λ s. (s.from ≡ from) × (s.to ≡ to)) →
    at < to → NoneBetween start_of from at xs
next_cases n from at to None xs apart found h less = absurd h
next_cases n from at to (Some s) xs apart found h less =
    let a = h.0 in let b = h.1 in
    AllByRecursion-map (λ y. (y.from ≤ s.from) ⊎ (s.to ≤ y.from)) (λ y. (y.from ≤ from) ⊎ (at < y.from))
    (λ y i. elim i [ inl j ↦ inl (omega arith) | inr j ↦ inr (omega arith) ]) xs (none_within n xs s apart found)

pub next : (n from at to : ℕ) (xs : List Span) → AreApart xs → HasSpan xs n from to → at < to → NoneBetween start_of from at xs
next n from at to xs apart h less = next_cases n from at to (span_of xs n) xs apart refl h less
