-- The spans of an anon_vma are as many as the areas that are linked to it.
use Rattle.std.proofs.Common.{◌≡◌, ℕ, ◌+◌, Bool, true, false, cond, List, [], ◌∷◌, length, map, Option, Some, None, refl, sym, ap, ◌∙◌, arith, ◌==◌}
use Rattle.std.proofs.lemmas.Bool.Decides.{nat_tests}
use Rattle.av_base.specs.Words.{how_many, is_in}
use Rattle.av_chain.specs.Links.{one_if}
use Rattle.av_pagetable.specs.declared.pte.Pte.TheVariants.{Empty}
use Rattle.av_vma.specs.declared.area.Area.{Area}
use Rattle.av_interval.specs.declared.span.Span.{Span}
use Rattle.av_interval.specs.Search.{overlaps}
use Rattle.av_anon.specs.Anons.{Family, own_of}
use Rattle.av_anon.specs.Order.{IsInOrder}
use Rattle.av_anon.specs.Spans.{is_of, present}
use Rattle.av_rmap.specs.View.{View, AreSpanned, view_with}
use Rattle.av_rmap.specs.Walk.{is_held}
use Rattle.av_rmap.proofs.Counting.{numbers-as-many}
use Rattle.av_rmap.proofs.SpanLemmas.{AreSpans, are_spans, overlaps-holds, many-filter}

abbrev numbers_of : List Span → List ℕ
numbers_of xs = map (λ (x : Span). x.area) xs

by-area : (view : View) (i : ℕ) (xs : List Span) → AreSpans view xs
    → how_many (overlaps i) xs ≡ how_many (λ a. is_held i (view.areas a)) (numbers_of xs)
by-area view i [] all = refl
by-area view i (x ∷ xs) all =
    let rest = by-area view i xs all.1 in
    let first : overlaps i x ≡ is_held i (view.areas x.area) = overlaps-holds view x i all.0 ∙ sym (ap (is_held i) all.0.stands) in
    ap (λ b. cond b 1 0 + how_many (overlaps i) xs) first ∙ ap (λ n. cond (is_held i (view.areas x.area)) 1 0 + n) rest

by-number : (n : ℕ) (xs : List Span) → how_many (λ m. n == m) (numbers_of xs) ≡ how_many (is_of n) xs
by-number n [] = refl
by-number n (x ∷ xs) =
    let turned : (n == x.area) ≡ (x.area == n) = grind (arith, nat_tests) in
    ap (λ b. cond b 1 0 + how_many (λ m. n == m) (numbers_of xs)) turned ∙ ap (λ k. cond (x.area == n) 1 0 + k) (by-number n xs)

pub spans-are-areas : (areas : ℕ → Option Area) (f : Family) (spans : ℕ → List Span) (v i : ℕ) → IsInOrder areas f spans →
    how_many (overlaps i) (spans v) ≡ how_many (λ a. is_held i (areas a)) (f.users v)
spans-are-areas areas f spans v i order =
    let view = view_with areas f spans (λ _ _. Empty) in
    let spanned : AreSpanned view = record { spanned = order.spanned; areas_fit = order.areas_fit } in
    by-area view i (spans v) (are_spans view v spanned)
    ∙ numbers-as-many (λ a. is_held i (areas a)) (numbers_of (spans v)) (f.users v)
    (λ n. by-number n (spans v) ∙ each n ∙ sym (order.inverse.inverse n v))
  where
    linked : (n : ℕ) (b : Bool) → is_in v (f.chain n) ≡ b → length (cond b (present n (areas n)) []) ≡ one_if b
    linked n false e = refl
    linked n true e = is (areas n) refl
      where
        is : (o : Option Area) → areas n ≡ o → length (present n o) ≡ 1
        is (Some area) h = refl
        is None h = absurd (nobody (sym (ap (is_in v) ((order.chains n).none (ap own_of h))) ∙ e))
          where
            nobody : false ≡ true → ⊥
            nobody h = cc

    each : (n : ℕ) → how_many (is_of n) (spans v) ≡ one_if (is_in v (f.chain n))
    each n = many-filter n (spans v) ∙ ap length (order.spanned.each v n) ∙ linked n (is_in v (f.chain n)) refl
