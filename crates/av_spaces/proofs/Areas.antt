-- The areas of one process: as areas by number and the spans of a tree give them.
use Rattle.std.proofs.Common.{◌≡◌, ℕ, ◌<◌, ◌==◌, Bool, true, false, cond, List, [], ◌∷◌, ◌++◌, drop, Option, Some, None, IfSome, IsSomeAnd, refl, sym, ap, subst, ◌∙◌, arith, suc, zero}
use Rattle.std.proofs.lemmas.Bool.Decides.{nat_tests}
use Rattle.std.proofs.lemmas.Bool.{eqb-true}
use Rattle.std.proofs.lemmas.List.{append_assoc}
use Rattle.std.specs.Prelude.{IsSome, option_and_then}
use Rattle.std.specs.List.{cons_option}
use Rattle.av_vma.specs.declared.area.Area.{Area}
use Rattle.av_base.specs.Limits.{top_page}
use Rattle.av_vmatree.specs.declared.span.Span.{Span}
use Rattle.av_vmatree.specs.Spans.{AreApart, AreDistinct, area_at, holds, span_of}
use Rattle.av_vmatree.proofs.Spans.{held}
use Rattle.av_vma.specs.Pages.{pages_in}
use Rattle.av_merge.specs.Pages.{pages_by}
use Rattle.av_merge.specs.Process.{AreAreasOf, IsAreaOf}
use Rattle.av_merge.proofs.PlacingLaws.{holds_is, holds_parts}
use Rattle.av_spaces.specs.Spaces.{IsOwn, AreRising}
use Rattle.av_spaces.specs.Trees.{areas_by}

-- ---- each span is that of an area of p

abbrev pub AreNumbered : (ℕ → Option Area) → ℕ → List Span → Type 0
AreNumbered f p [] = Unit {0}
AreNumbered f p (s ∷ spans) = IsSomeAnd (f s.area) (IsAreaOf p s) × AreNumbered f p spans

itself : (n : ℕ) → (n == n) ≡ true
itself n = grind (arith, nat_tests)

numbered_all : (f : ℕ → Option Area) (p : ℕ) (spans : List Span) → AreDistinct spans →
    ((n : ℕ) → IfSome (span_of spans n) (λ s. IsSomeAnd (f n) (IsAreaOf p s))) → AreNumbered f p spans
numbered_all f p [] distinct used = tt
numbered_all f p (s ∷ spans) distinct used = (
  subst (λ b. IfSome (cond b (Some s) (span_of spans s.area)) (λ t. IsSomeAnd (f s.area) (IsAreaOf p t))) (itself s.area) (used s.area),
  numbered_all f p spans distinct.1 (λ n. by n (n == s.area) refl (used n)),
)
  where
    by : (n : ℕ) (b : Bool) → (n == s.area) ≡ b → IfSome (cond b (Some s) (span_of spans n)) (λ t. IsSomeAnd (f n) (IsAreaOf p t)) →
        IfSome (span_of spans n) (λ t. IsSomeAnd (f n) (IsAreaOf p t))
    by n true e h = subst (λ o. IfSome o (λ t. IsSomeAnd (f n) (IsAreaOf p t))) (sym (ap (span_of spans) (eqb-true n s.area e) ∙ distinct.0)) tt
    by n false e h = h

pub numbered : (f : ℕ → Option Area) (p : ℕ) (spans : List Span) → AreAreasOf p f spans → AreNumbered f p spans
numbered f p spans areas = numbered_all f p spans areas.spans_are.distinct areas.used

pub numbered_rest : (f : ℕ → Option Area) (p i : ℕ) (spans : List Span) → AreNumbered f p spans → AreNumbered f p (drop i spans)
numbered_rest f p zero spans h = h
numbered_rest f p (suc i) [] h = tt
numbered_rest f p (suc i) (s ∷ spans) h = numbered_rest f p i spans h.1

pub is_there : {X : Type 0} (o : Option X) (P : X → Type 0) → IsSomeAnd o P → IsSome o
is_there None P h = absurd h
is_there (Some x) P h = refl

-- ---- what is on the pages

-- a page has the area that the tree says
pub pages_are : (f : ℕ → Option Area) (p : ℕ) (spans : List Span) → AreNumbered f p spans → (page : ℕ) →
    pages_in (Some (areas_by f spans)) page ≡ pages_by f spans page
pages_are f p [] h page = refl
pages_are f p (s ∷ spans) h page = by (pages_are f p spans h.1 page) (f s.area) refl h.0
  where
    by : pages_in (Some (areas_by f spans)) page ≡ pages_by f spans page → (o : Option Area) → f s.area ≡ o → IsSomeAnd o (IsAreaOf p s) →
        pages_in (Some (cons_option o (areas_by f spans))) page ≡ option_and_then f (cond (holds s page) (Some s.area) (area_at spans page))
    by rest None is own = absurd own
    by rest (Some area) is own =
        ap (λ b. cond b (Some area) (pages_in (Some (areas_by f spans)) page)) (sym (holds_is p s area page own))
        ∙ elim (holds s page) as (λ b. cond b (Some area) (pages_in (Some (areas_by f spans)) page) ≡ option_and_then f
        (cond b (Some s.area) (area_at spans page))) [
          | true ↦ sym is
          | false ↦ rest
        ]

-- the area that holds a page
pub record IsHeld (f : ℕ → Option Area) (page n : ℕ) : Type 0 where
  pub area : Area
  pub area_is : f n ≡ Some area
  pub below : page < top_page

pub held_by : (f : ℕ → Option Area) (p : ℕ) (spans : List Span) (page n : ℕ) → AreAreasOf p f spans → area_at spans page ≡ Some n → IsHeld f page n
held_by f p spans page n areas at =
    in_span (span_of spans n) (subst (λ o. IfSome o (λ n. IsSomeAnd (span_of spans n) (λ s. holds s page ≡ true))) at
    (held spans page areas.spans_are.distinct)) (areas.used n)
  where
    of_area : (s : Span) → holds s page ≡ true → (o : Option Area) → f n ≡ o → IsSomeAnd o (IsAreaOf p s) → IsHeld f page n
    of_area s here None is h = absurd h
    of_area s here (Some area) is h = let to = h.to in let high = h.whole.high in let parts = holds_parts s page here in
        record { area = area; area_is = is; below = omega (arith, to, high, parts.1) }

    in_span : (o : Option Span) → IsSomeAnd o (λ s. holds s page ≡ true) → IfSome o (λ s. IsSomeAnd (f n) (IsAreaOf p s)) → IsHeld f page n
    in_span None here h = absurd here
    in_span (Some s) here h = of_area s here (f n) refl h

-- ---- the areas rise

own : (p : ℕ) (s : Span) (area : Area) → IsAreaOf p s area → IsOwn p area
own p s area h = record { process = h.process; whole = h.whole }

rising_all : (f : ℕ → Option Area) (p : ℕ) (spans : List Span) → AreNumbered f p spans → AreApart spans → AreRising p (areas_by f spans)
rising_all f p [] n h = tt
rising_all f p (s ∷ []) n h = by (f s.area) n.0
  where
    by : (o : Option Area) → IsSomeAnd o (IsAreaOf p s) → AreRising p (cons_option o [])
    by None x = absurd x
    by (Some a) x = own p s a x
rising_all f p (s ∷ t ∷ spans) n h = by (f s.area) n.0 (f t.area) n.1.0 (rising_all f p (t ∷ spans) n.1 h.2)
  where
    by : (o : Option Area) → IsSomeAnd o (IsAreaOf p s) → (o' : Option Area) → IsSomeAnd o' (IsAreaOf p t)
        → AreRising p (cons_option o' (areas_by f spans)) →
        AreRising p (cons_option o (cons_option o' (areas_by f spans)))
    by None x o' y rest = absurd x
    by (Some a) x None y rest = absurd y
    by (Some a) x (Some b) y rest =
        (own p s a x, (let ends = x.to in let begins = y.from in let apart = h.1.0 in omega (arith, ends, begins, apart)), rest)

pub rising_of : (f : ℕ → Option Area) (p : ℕ) (spans : List Span) → AreAreasOf p f spans → AreRising p (areas_by f spans)
rising_of f p spans areas = rising_all f p spans (numbered f p spans areas) areas.spans_are.apart

-- ---- the areas, one by one

abbrev none : Span
none = record { from = 0; to = 0; area = 0 }

-- one more of the areas that are still to come
pub one_more : (f : ℕ → Option Area) (list all : List Area) (s : Span) (area : Area) (spans : List Span) → f s.area ≡ Some area →
    list ++ areas_by f (s ∷ spans) ≡ all → (list ++ area ∷ []) ++ areas_by f spans ≡ all
one_more f list all s area spans is h = append_assoc list (area ∷ []) (areas_by f spans)
    ∙ ap (λ o. list ++ cons_option o (areas_by f spans)) (sym is) ∙ h
