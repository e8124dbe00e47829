-- The areas that a walk looks in, one batch after the other.
use Rattle.std.proofs.Common.{◌≡◌, ℕ, zero, suc, ◌+◌, ◌-◌, ◌<◌, ◌≤◌, Bool, true, false, cond, ◌||◌, ◌==◌, ◌++◌, Option, Some, None, List, []}
use Rattle.std.proofs.Common.{◌∷◌, length, take, drop, length-take, refl, sym, ap, subst, ◌∙◌, arith, IsSomeAnd, IfNone, IfSome}
use Rattle.std.proofs.lemmas.Bool.{false≢true}
use Rattle.std.proofs.lemmas.Bool.Decides.{nat_tests}
use Rattle.std.proofs.lemmas.List.{take-append-drop}
use Rattle.std.specs.List.{AllByRecursion, list_any}
use Rattle.std.specs.Prelude.{slice_get}
use Rattle.av_base.specs.Words.{how_many}
use Rattle.av_anon.specs.Spans.{is_of}
use Rattle.av_vma.specs.declared.area.Area.{Area}
use Rattle.av_interval.specs.Batch.{overlaps_past}
use Rattle.av_interval.specs.Search.{IsOrdered, overlaps}
use Rattle.av_interval.specs.declared.span.Span.{Span}
use Rattle.av_interval.proofs.BatchLemmas.{first_some}
use Rattle.av_rmap.specs.Looks.{ahead, behind}
use Rattle.av_rmap.specs.View.{View, AreSpanned}
use Rattle.av_rmap.specs.Walk.{areas_from, areas_of, holds}
use Rattle.av_rmap.specs.declared.looks.Looks.{Looks}
use Rattle.av_rmap.proofs.SpanLemmas.{AreSpans, are_spans, at-most-one, overlaps-holds}

-- ---- batches

cut_all : {X : Type 0} (n : ℕ) (xs : List X) → length (take n xs) < n → drop n xs ≡ []
cut_all zero xs h = absurd (omega (arith, h))
cut_all (suc n) [] h = refl
cut_all (suc n) (x ∷ xs) h = cut_all n xs (omega (arith, h))

-- past the last of the first overlaps are the others
past-last : (after : Option (ℕ × ℕ)) (i : ℕ) (xs : List Span) (ps qs : List (ℕ × ℕ)) → IsOrdered xs → overlaps_past after i xs ≡ ps ++ qs
    → 0 < length ps → overlaps_past (slice_get ps (length ps - 1)) i xs ≡ qs
past-last after i xs [] qs o e h = absurd (omega (arith, h))
past-last after i xs (p ∷ []) qs o e h = (first_some after i xs p qs o e).1
past-last after i xs (p ∷ q ∷ ps) qs o e h =
    ap (λ n. overlaps_past (slice_get (p ∷ q ∷ ps) n) i xs) one_less
    ∙ past-last (Some p) i xs (q ∷ ps) qs o (first_some after i xs p (q ∷ ps ++ qs) o e).1 (omega arith)
  where
    one_less : length (p ∷ q ∷ ps) - 1 ≡ suc (length (q ∷ ps) - 1)
    one_less = omega arith

-- a batch and what is behind it are all overlaps
pub with-behind : (after : Option (ℕ × ℕ)) (i : ℕ) (xs : List Span) (places : List (ℕ × ℕ)) (more : Bool) → IsOrdered xs
    → more ≡ (length places == 64) → places ≡ take 64 (overlaps_past after i xs)
    → places ++ behind more (slice_get places (length places - 1)) i xs ≡ overlaps_past after i xs
with-behind after i xs places more o m e = by more m
  where
    all : List (ℕ × ℕ)
    all = overlaps_past after i xs

    parts : all ≡ places ++ drop 64 all
    parts = sym (take-append-drop 64 all) ∙ ap (λ ps. ps ++ drop 64 all) (sym e)

    few : false ≡ (length places == 64) → length (take 64 all) < 64
    few h =
        let same = ap length e in let most = length-take 64 all in
        let not : length places ≡ 64 → ⊥ = grind (arith, nat_tests, h) in
        grind (arith, same, most, not)

    some : true ≡ (length places == 64) → 0 < length places
    some h = let whole : length places ≡ 64 = grind (arith, nat_tests, h) in omega (arith, whole)

    by : (b : Bool) → b ≡ (length places == 64) → places ++ behind b (slice_get places (length places - 1)) i xs ≡ all
    by true h = ap (λ ps. places ++ ps) (past-last after i xs places (drop 64 all) o parts (some h)) ∙ sym parts
    by false h = ap (λ ps. places ++ ps) (sym (cut_all 64 all (few h))) ∙ sym parts

pub areas-append : (ps qs : List (ℕ × ℕ)) → areas_of (ps ++ qs) ≡ areas_of ps ++ areas_of qs
areas-append [] qs = refl
areas-append (p ∷ ps) qs = ap (λ ns. p.1 ∷ ns) (areas-append ps qs)

-- a batch of which nothing was given yet
pub ahead-of : (looks : Looks) (view : View) (after : Option (ℕ × ℕ)) → looks.given ≡ 0
    → looks.last ≡ slice_get looks.places.items (length looks.places.items - 1) → looks.more ≡ (length looks.places.items == 64)
    → IsOrdered (view.spans looks.home.0) → looks.places.items ≡ take 64 (overlaps_past after looks.home.1 (view.spans looks.home.0))
    → ahead looks view ≡ areas_of (overlaps_past after looks.home.1 (view.spans looks.home.0))
ahead-of looks view after z l m o e =
    let xs = view.spans looks.home.0 in
    let i = looks.home.1 in
    ap (λ n. areas_of (drop n looks.places.items) ++ areas_of (behind looks.more looks.last i xs)) z
    ∙ ap (λ p. areas_of looks.places.items ++ areas_of (behind looks.more p i xs)) l
    ∙ sym (areas-append looks.places.items (behind looks.more (slice_get looks.places.items (length looks.places.items - 1)) i xs))
    ∙ ap areas_of (with-behind after i xs looks.places.items looks.more o m e)

-- behind a batch that was given, where there may be more
pub behind-all : (looks : Looks) (view : View) → drop looks.given looks.places.items ≡ [] → looks.more ≡ true
    → ahead looks view ≡ areas_of (overlaps_past looks.last looks.home.1 (view.spans looks.home.0))
behind-all looks view none more =
    let later = λ (b : Bool). areas_of (behind b looks.last looks.home.1 (view.spans looks.home.0)) in
    ap (λ ps. areas_of ps ++ later looks.more) none ∙ ap later more

-- one is given
pub gives-some : (was old new : Looks) (view : View) (r : Option ℕ) → ahead was view ≡ ahead old view → new ≡ record old { given = new.given }
    → IfSome r (λ area. areas_of (drop old.given old.places.items) ≡ area ∷ areas_of (drop new.given new.places.items))
    → IfSome r (λ area. ahead was view ≡ area ∷ ahead new view)
gives-some was old new view None same kept one = tt
gives-some was old new view (Some area) same kept one =
    let later = λ (l : Looks). areas_of (behind l.more l.last l.home.1 (view.spans l.home.0)) in
    same ∙ ap (λ ns. ns ++ later old) one ∙ sym (ap (λ (l : Looks). area ∷ (areas_of (drop new.given new.places.items) ++ later l)) kept)

-- none is left
pub gives-none : (was old : Looks) (view : View) (r : Option ℕ) → ahead was view ≡ ahead old view → old.given ≡ 0
    → old.more ≡ (length old.places.items == 64) → IfNone r (drop old.given old.places.items ≡ []) → IfNone r (ahead was view ≡ [])
gives-none was old view None same z m none =
    let empty : old.places.items ≡ [] = sym (ap (λ n. drop n old.places.items) z) ∙ none in
    let later = λ (b : Bool). areas_of (behind b old.last old.home.1 (view.spans old.home.0)) in
    same ∙ ap (λ ps. areas_of ps ++ later old.more) none ∙ ap later (m ∙ ap (λ ps. length ps == 64) empty)
gives-none was old view (Some area) same z m none = tt

-- ---- the areas

-- the area is there, and holds the index
abbrev pub IsHeld : View → ℕ → ℕ → Type 0
IsHeld view i a = IsSomeAnd (view.areas a) (λ area. holds i area ≡ true)

held-of : (view : View) (i : ℕ) (xs : List Span) → AreSpans view xs → AllByRecursion (IsHeld view i) (areas_of (overlaps_past None i xs))
held-of view i [] all = tt
held-of view i (x ∷ xs) all = by (overlaps i x) refl (held-of view i xs all.1)
  where
    by : (b : Bool) → overlaps i x ≡ b → AllByRecursion (IsHeld view i) (areas_of (overlaps_past None i xs))
        → AllByRecursion (IsHeld view i) (areas_of (cond b ((x.first, x.area) ∷ overlaps_past None i xs) (overlaps_past None i xs)))
    by true e rest = (
      subst (λ (o : Option Area). IsSomeAnd o (λ area. holds i area ≡ true)) (sym all.0.stands) (sym (overlaps-holds view x i all.0) ∙ e),
      rest,
    )
    by false e rest = rest

-- each holds the index
pub all-held : (view : View) (home : ℕ × ℕ) → AreSpanned view → AllByRecursion (IsHeld view home.1) (areas_from view home)
all-held view home spanned = held-of view home.1 (view.spans home.0) (are_spans view home.0 spanned)

-- there are as many as spans that overlap
pub as-many : (i : ℕ) (xs : List Span) → length (areas_of (overlaps_past None i xs)) ≡ how_many (overlaps i) xs
as-many i [] = refl
as-many i (x ∷ xs) = by (overlaps i x) (as-many i xs)
  where
    by : (b : Bool) → length (areas_of (overlaps_past None i xs)) ≡ how_many (overlaps i) xs
        → length (areas_of (cond b ((x.first, x.area) ∷ overlaps_past None i xs) (overlaps_past None i xs)))
        ≡ cond b 1 0 + how_many (overlaps i) xs
    by true h = omega (arith, h)
    by false h = omega (arith, h)

-- an area that holds the index stands among them as often as among the spans
pub often : (view : View) (i n : ℕ) (area : Area) → view.areas n ≡ Some area → holds i area ≡ true → (xs : List Span) → AreSpans view xs
    → how_many (λ a. a == n) (areas_of (overlaps_past None i xs)) ≡ how_many (is_of n) xs
often view i n area stands there [] all = refl
often view i n area stands there (x ∷ xs) all = by (overlaps i x) refl (x.area == n) refl (often view i n area stands there xs all.1)
  where
    others : List ℕ
    others = areas_of (overlaps_past None i xs)

    same_some : {p q : Area} → Some p ≡ Some q → p ≡ q
    same_some e = cc

    reaches : (x.area == n) ≡ true → overlaps i x ≡ true
    reaches e =
        let at : x.area ≡ n = grind (arith, nat_tests, e) in
        let it : all.0.area ≡ area = same_some (sym all.0.stands ∙ ap view.areas at ∙ stands) in
        overlaps-holds view x i all.0 ∙ ap (holds i) it ∙ there

    by : (b : Bool) → overlaps i x ≡ b → (c : Bool) → (x.area == n) ≡ c → how_many (λ a. a == n) others ≡ how_many (is_of n) xs
        → how_many (λ a. a == n) (areas_of (cond b ((x.first, x.area) ∷ overlaps_past None i xs) (overlaps_past None i xs)))
        ≡ cond c 1 0 + how_many (is_of n) xs
    by true e c e' h = ap (λ d. cond d 1 0 + how_many (λ a. a == n) others) e' ∙ ap (λ m. cond c 1 0 + m) h
    by false e true e' h = absurd (false≢true (sym e ∙ reaches e'))
    by false e false e' h = omega (arith, h)

-- none stands there more than once
pub once-each : (view : View) (home : ℕ × ℕ) → AreSpanned view → (n : ℕ) → how_many (λ a. a == n) (areas_from view home) ≤ 1
once-each view home spanned n = let some = no-more (view.spans home.0) in let one = at-most-one view home.0 n spanned in omega (arith, some, one)
  where
    no-more : (xs : List Span) → how_many (λ a. a == n) (areas_of (overlaps_past None home.1 xs)) ≤ how_many (is_of n) xs
    no-more [] = omega arith
    no-more (x ∷ xs) = by (overlaps home.1 x) (no-more xs)
      where
        by : (b : Bool) → how_many (λ a. a == n) (areas_of (overlaps_past None home.1 xs)) ≤ how_many (is_of n) xs
            → how_many (λ a. a == n) (areas_of (cond b ((x.first, x.area) ∷ overlaps_past None home.1 xs) (overlaps_past None home.1 xs)))
            ≤ cond (is_of n x) 1 0 + how_many (is_of n) xs
        by true h = omega (arith, h)
        by false h = omega (arith, h)

-- a test that an area passes is passed where it stands
pub any-where : (test : ℕ → Bool) (n : ℕ) → test n ≡ true → (areas : List ℕ) → 0 < how_many (λ a. a == n) areas → list_any test areas ≡ true
any-where test n passes [] h = absurd (omega (arith, h))
any-where test n passes (a ∷ areas) h = by (any-where test n passes areas) (a == n) refl h
  where
    either : (b : Bool) {c : Bool} → c ≡ true → (b || c) ≡ true
    either true h = refl
    either false h = h

    by : (0 < how_many (λ a. a == n) areas → list_any test areas ≡ true) → (b : Bool) → (a == n) ≡ b
        → 0 < cond b 1 0 + how_many (λ a. a == n) areas → (test a || list_any test areas) ≡ true
    by later true e h =
        let at : a ≡ n = grind (arith, nat_tests, e) in
        ap (λ b. b || list_any test areas) (ap test at ∙ passes)
    by later false e h = either (test a) (later (omega (arith, h)))
