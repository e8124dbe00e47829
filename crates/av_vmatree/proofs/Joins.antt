-- Two spans that become one.
use Rattle.std.proofs.Common.{◌≡◌, ℕ, ◌+◌, ◌-◌, ◌<◌, ◌≤◌, ◌⊎◌, inl, inr, Bool, true, false, cond, eqb, Option, None, IsSomeAnd, List, [], ◌∷◌, refl, sym, ap, subst, ◌∙◌, arith}
use Rattle.std.proofs.lemmas.Bool.{eqb-true}
use Rattle.av_base.specs.Limits.{top_page}
use Rattle.av_arena.specs.Order.{NoneWithin, with_joined, without_key}
use Rattle.std.specs.List.{AllByRecursion}
use Rattle.av_vmatree.specs.declared.span.Span.{Span}
use Rattle.av_vmatree.specs.Spans.{start_of, is_page_taken, span_of, with_span, without_area, AreApart, AreSpans, IsFree}
use Rattle.av_vmatree.proofs.Spans.{AreClear, IsEnded, IsRemoved, clear_from_free, ended_here, removed_here}

-- a span that is there goes
pub without_here : (n first : ℕ) (xs : List Span) → AreSpans xs → IsSomeAnd (span_of xs n) (λ a. a.from ≡ first) → IsRemoved n xs (without_area n xs)
without_here n first xs good there = let r = removed_here n first xs good there in subst (IsRemoved n xs) r.spans r

joined_here : (s : Span) (o at : ℕ) (xs : List Span) → AreSpans xs → IsSomeAnd (span_of xs o) (λ a. a.from ≡ at) →
    IsSomeAnd (span_of (without_area o xs) s.area) (λ a. a.from ≡ s.from) → s.from < s.to → s.to ≤ top_page →
    IsFree (is_page_taken (without_area s.area (without_area o xs))) s.from s.to →
    IsEnded s (without_area o xs) (with_span s (without_key start_of s.from (without_key start_of at xs)))
joined_here s o at xs good there before some high free =
    let r = removed_here o at xs good there in
    let e = ended_here s (without_area o xs) (without_here o at xs good there).good before some high free in
    subst (λ l. IsEnded s (without_area o xs) (with_span s (without_key start_of s.from l))) (sym r.spans) e

pub joined : (s : Span) (o at : ℕ) (l u : Span) (d xs new : List Span) → l.from ≡ s.from → u.from ≡ at → d ≡ xs → AreSpans d →
    IsSomeAnd (span_of xs o) (λ a. a.from ≡ at) → IsSomeAnd (span_of (without_area o xs) s.area) (λ a. a.from ≡ s.from) → s.from < s.to
    → s.to ≤ top_page →
    IsFree (is_page_taken (without_area s.area (without_area o xs))) s.from s.to → new ≡ with_joined start_of l u s d
    → IsEnded s (without_area o xs) new
joined s o at l u d xs new a b is good there before some high free e =
    let h = joined_here s o at xs (subst AreSpans is good) there before some high free in
    subst (IsEnded s (without_area o xs)) (sym (e ∙ (ap (with_joined start_of l u s) is ∙ rw (a, b) refl))) h

-- a span that is there without another one is there
before_cases : (n o : ℕ) (from : ℕ) (v : Bool) (a : Option Span) → IsSomeAnd (cond v None a) (λ t. t.from ≡ from) → IsSomeAnd a (λ t. t.from ≡ from)
before_cases n o from true a h = absurd h
before_cases n o from false a h = h

pub before_there : (n o at from : ℕ) (xs : List Span) → AreSpans xs → IsSomeAnd (span_of xs o) (λ a. a.from ≡ at) →
    IsSomeAnd (span_of (without_area o xs) n) (λ a. a.from ≡ from) → IsSomeAnd (span_of xs n) (λ a. a.from ≡ from)
before_there n o at from xs good there before =
    let r = removed_here o at xs good there in
    let here = subst (λ l. IsSomeAnd (span_of l n) (λ a. a.from ≡ from)) (sym r.spans) before in
    before_cases n o from (eqb n o) (span_of xs n) (subst (λ a. IsSomeAnd a (λ t. t.from ≡ from)) (r.areas n) here)

-- what holds of a key and of all others holds of all
all_back : (P : Span → Type 0) (k : ℕ) (t : List Span) → ((y : Span) → y.from ≡ k → P y) → AllByRecursion P (without_key start_of k t)
    → AllByRecursion P t
all_back P k [] f a = tt
all_back P k (y ∷ t) f a =
    elim (eqb y.from k) as (λ v. eqb y.from k ≡ v → AllByRecursion P (cond v t (y ∷ without_key start_of k t)) → AllByRecursion P (y ∷ t)) [
      | true ↦ λ e b. (f y (eqb-true y.from k e), b)
      | false ↦ λ e b. (b.0, all_back P k t f b.1)
    ] refl a

spread : (from at to : ℕ) (zs : List Span) → from < at → at < to → AreApart zs → AreClear zs from (to - from) → AllByRecursion
    (λ y. (y.from ≤ from) ⊎ (at ≤ y.from)) zs
spread from at to [] low high apart clear = tt
spread from at to (y ∷ zs) low high apart clear = let wide = apart.0 in
    (elim clear.0 [ inl i ↦ inl (omega arith) | inr i ↦ inr (omega arith) ], spread from at to zs low high apart.2 clear.1)

-- no span begins between two that are joined
pub neighbours : (n o from at to : ℕ) (xs : List Span) → AreSpans xs → IsSomeAnd (span_of xs o) (λ a. a.from ≡ at) →
    IsSomeAnd (span_of (without_area o xs) n) (λ a. a.from ≡ from) → from < at → at < to
    → IsFree (is_page_taken (without_area n (without_area o xs))) from to →
    NoneWithin start_of from at xs
neighbours n o from at to xs good there before low high free =
    let r = removed_here o at xs good there in
    let ys = without_key start_of at xs in
    let before' = subst (λ l. IsSomeAnd (span_of l n) (λ a. a.from ≡ from)) (sym r.spans) before in
    let q = removed_here n from ys r.good before' in
    let zs = without_key start_of from ys in
    let free' = subst (λ l. IsFree (is_page_taken l) from to) (sym (q.spans ∙ ap (without_area n) r.spans)) free in
    let free'' : IsFree (is_page_taken zs) from (from + (to - from)) = λ p a b. free' p a (omega arith) in
    let clear = clear_from_free from (to - from) zs (omega arith) q.good.apart free'' in
    let P : Span → Type 0 = λ y. (y.from ≤ from) ⊎ (at ≤ y.from) in
    all_back P at xs (λ y e. inr (omega arith)) (all_back P from ys (λ y e. inl (omega arith)) (spread from at to zs low high q.good.apart clear))
