-- The spans of an anon_vma are those of areas, each area's once.
use Rattle.std.proofs.Common.{◌≡◌, ℕ, ◌+◌, ◌≤◌, Bool, true, false, cond, List, [], ◌∷◌, filter, length, Option, Some, None, refl, sym, ap, subst, ◌∙◌}
use Rattle.std.proofs.Common.{arith, eq-eqb}
use Rattle.std.proofs.lemmas.Bool.Decides.{nat_tests}
use Rattle.std.specs.List.{AllByRecursion}
use Rattle.av_base.specs.Words.{how_many, is_in}
use Rattle.av_vma.specs.declared.area.Area.{Area}
use Rattle.av_interval.specs.declared.span.Span.{Span}
use Rattle.av_interval.specs.Search.{overlaps}
use Rattle.av_anon.specs.Order.{IsArea}
use Rattle.av_anon.specs.Spans.{is_of, present, span_at}
use Rattle.av_rmap.specs.View.{View, AreSpanned}
use Rattle.av_rmap.specs.Walk.{holds}

-- the span is that of an area with its number
pub record IsSpanOf (view : View) (x : Span) : Type 0 where
  pub area : Area
  pub stands : view.areas x.area ≡ Some area
  pub whole : IsArea area
  pub span : x ≡ span_at x.area area

abbrev pub AreSpans : View → List Span → Type 0
AreSpans view xs = AllByRecursion (IsSpanOf view) xs

-- an area holds the indices that its span overlaps
overlaps-at : (n i : ℕ) (area : Area) → IsArea area → overlaps i (span_at n area) ≡ holds i area
overlaps-at n i area whole = let h = whole.forward in grind (arith, nat_tests, h)

pub overlaps-holds : (view : View) (x : Span) (i : ℕ) → (s : IsSpanOf view x) → overlaps i x ≡ holds i s.area
overlaps-holds view x i s = ap (overlaps i) s.span ∙ overlaps-at x.area i s.area s.whole

-- what holds of each area's spans holds of all
all-by : (P : Span → Type 0) (xs : List Span) → ((n : ℕ) → AllByRecursion P (filter (is_of n) xs)) → AllByRecursion P xs
all-by P [] each = tt
all-by P (x ∷ xs) each = (here, all-by P xs (λ n. tail (is_of n x) n (each n)))
  where
    here : P x
    here = (subst (λ b. AllByRecursion P (cond b (x ∷ filter (is_of x.area) xs) (filter (is_of x.area) xs))) (eq-eqb x.area x.area refl)
        (each x.area)).0

    tail : (b : Bool) (n : ℕ) → AllByRecursion P (cond b (x ∷ filter (is_of n) xs) (filter (is_of n) xs)) → AllByRecursion P (filter (is_of n) xs)
    tail true n all = all.1
    tail false n all = all

of-present : (view : View) (n : ℕ) → AreSpanned view → (b : Bool) → AreSpans view (cond b (present n (view.areas n)) [])
of-present view n s false = tt
of-present view n s true = is (view.areas n) refl
  where
    is : (o : Option Area) → view.areas n ≡ o → AreSpans view (present n o)
    is None e = tt
    is (Some area) e = (record { area = area; stands = e; whole = s.areas_fit n area e; span = refl }, tt)

pub are_spans : (view : View) (v : ℕ) → AreSpanned view → AreSpans view (view.spans v)
are_spans view v s = all-by (IsSpanOf view) (view.spans v) (λ n.
    subst (AreSpans view) (sym (s.spanned.each v n)) (of-present view n s (is_in v (view.chain n))))

-- how many are of an area
pub many-filter : (n : ℕ) (xs : List Span) → how_many (is_of n) xs ≡ length (filter (is_of n) xs)
many-filter n [] = refl
many-filter n (x ∷ xs) = step (is_of n x) (many-filter n xs)
  where
    step : (b : Bool) → how_many (is_of n) xs ≡ length (filter (is_of n) xs)
        → cond b 1 0 + how_many (is_of n) xs ≡ length (cond b (x ∷ filter (is_of n) xs) (filter (is_of n) xs))
    step true h = omega (arith, h)
    step false h = omega (arith, h)

pub at-most-one : (view : View) (v n : ℕ) → AreSpanned view → how_many (is_of n) (view.spans v) ≤ 1
at-most-one view v n s = let all = many-filter n (view.spans v) ∙ ap length (s.spanned.each v n) in
    let few = by (is_in v (view.chain n)) (view.areas n) in omega (arith, all, few)
  where
    by : (b : Bool) (o : Option Area) → length (cond b (present n o) []) ≤ 1
    by false o = omega arith
    by true None = omega arith
    by true (Some area) = omega arith

pub one-span : (view : View) (v n : ℕ) (area : Area) → AreSpanned view → view.areas n ≡ Some area → is_in v (view.chain n) ≡ true →
    how_many (is_of n) (view.spans v) ≡ 1
one-span view v n area s stands linked =
    many-filter n (view.spans v)
    ∙ ap length (s.spanned.each v n ∙ ap (λ b. cond b (present n (view.areas n)) []) linked ∙ ap (present n) stands)
