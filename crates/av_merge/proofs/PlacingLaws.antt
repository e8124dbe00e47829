-- Which area is on a page: as the tree and the numbered areas say it, after one of them is put, taken out or changed.
use Rattle.std.proofs.Common.{◌≡◌, ◌≢◌, ℕ, ◌+◌, ◌-◌, ◌<◌, ◌≤◌, ◌==◌, true, false, cond, List, [], ◌∷◌, Option, Some, None, is_some, IfSome, IsSomeAnd, refl, sym, ap, subst, ◌∙◌, arith}
use Rattle.std.specs.Prelude.{option_and_then, IsSome}
use Rattle.std.proofs.lemmas.Bool.Decides.{nat_tests}
use Rattle.std.proofs.lemmas.Grind.{common_steps}
use Rattle.std.proofs.lemmas.Bool.{eqb-true, both_ways}
use Rattle.av_vma.specs.declared.area.Area.{Area}
use Rattle.av_vma.specs.Areas.{area_of}
use Rattle.av_vma.specs.Index.{first_of, past_of}
use Rattle.av_base.specs.Words.{within, with_at}
use Rattle.av_vmatree.specs.declared.span.Span.{Span}
use Rattle.av_vmatree.specs.Spans.{without_area, AreApart, AreDistinct, AreSpans, area_at, holds, span_of, is_page_taken, unless_area}
use Rattle.av_vmatree.proofs.Spans.{held, removed}
use Rattle.av_vma.specs.Pages.{IsWhole, has_page, with_area}
use Rattle.av_merge.specs.Pages.{pages_by}
use Rattle.av_merge.specs.Process.{AreAreasOf, IsAreaOf, KeepsOthers, StayOfOne, Stays}

-- ---- tests and bounds

pub within_parts : (a n x : ℕ) → within a n x ≡ true → (a ≤ x) × (x < a + n)
within_parts a n x h = (grind (arith, nat_tests), grind (arith, nat_tests))

pub within_from : (a n x : ℕ) → a ≤ x → x < a + n → within a n x ≡ true
within_from a n x low high = grind (arith, nat_tests)

pub holds_parts : (s : Span) (page : ℕ) → holds s page ≡ true → (s.from ≤ page) × (page < s.to)
holds_parts s page h = let k = within_parts s.from (s.to - s.from) page h in (k.0, (let low = k.0 in let high = k.1 in omega arith))

holds_from : (s : Span) (page : ℕ) → s.from ≤ page → page < s.to → holds s page ≡ true
holds_from s page low high = within_from s.from (s.to - s.from) page low (omega arith)

-- the area of a span has the span's pages
pub holds_is : (p : ℕ) (s : Span) (area : Area) (page : ℕ) → IsAreaOf p s area → holds s page ≡ has_page area page
holds_is p s area page is = ap (λ a. within a (s.to - a) page) is.from ∙ ap (λ b. within (first_of area) (b - first_of area) page) is.to

-- ---- a tree's pages and its spans

-- the spans after one begin past it
pub later_from : (t : Span) (spans : List Span) (n : ℕ) (s : Span) → AreApart (t ∷ spans) → span_of spans n ≡ Some s → t.to ≤ s.from
later_from t [] n s apart e = cc
later_from t (u ∷ spans) n s apart e = elim (n == u.area) as (λ b. cond b (Some u) (span_of spans n) ≡ Some s → t.to ≤ s.from) [
  | true ↦ λ e. let same : u ≡ s = cc in subst (λ (v : Span). t.to ≤ v.from) same apart.1.0
  | false ↦ λ e. later_from t spans n s (apart.0, apart.1.1, apart.2.2) e
] e

-- a span that is there holds its pages
pub at_span : (spans : List Span) (n : ℕ) (s : Span) (page : ℕ) → AreApart spans → span_of spans n ≡ Some s → s.from ≤ page →
    page < s.to → area_at spans page ≡ Some n
at_span [] n s page apart e low high = cc
at_span (t ∷ spans) n s page apart e low high = elim (n == t.area) as (λ b. (n == t.area) ≡ b → cond b (Some t) (span_of spans n) ≡ Some s →
    area_at (t ∷ spans) page ≡ Some n) [
      | true ↦ λ h e.
          let same : t ≡ s = cc in
          let here : holds t page ≡ true = subst (λ u. holds u page ≡ true) (sym same) (holds_from s page low high) in
          rw here (ap Some (sym (eqb-true n t.area h)))
      | false ↦ λ _ e.
          let after : t.to ≤ s.from = later_from t spans n s apart e in
          let out : holds t page ≡ false = grind (arith, nat_tests) in
          rw out (at_span spans n s page apart.2 e low high)
    ] refl e

-- ---- the area that is on a page

-- a page's area: its number, its span, and that it has the page
pub record IsOn (p : ℕ) (areas : ℕ → Option Area) (spans : List Span) (page : ℕ) (area : Area) : Type 0 where
  pub number : ℕ
  pub span : Span
  pub at : area_at spans page ≡ Some number
  pub span_is : span_of spans number ≡ Some span
  pub area_is : areas number ≡ Some area
  pub is : IsAreaOf p span area
  pub has : has_page area page ≡ true

of_some : {X : Type 0} (P : X → Type 0) (o : Option X) (x : X) → o ≡ Some x → IfSome o P → P x
of_some P o x e h = subst (λ o. IfSome o P) e h

pub of_some_and : {X : Type 0} (P : X → Type 0) (o : Option X) (x : X) → o ≡ Some x → IsSomeAnd o P → P x
of_some_and P o x e h = subst (λ o. IsSomeAnd o P) e h

-- the area with a number that the tree has
pub record IsIn (p : ℕ) (areas : ℕ → Option Area) (number : ℕ) (s : Span) : Type 0 where
  pub area : Area
  pub area_is : areas number ≡ Some area
  pub is : IsAreaOf p s area

pub area_in : (p : ℕ) (areas : ℕ → Option Area) (spans : List Span) (n : ℕ) (s : Span) → AreAreasOf p areas spans → span_of spans n ≡ Some s
    → IsIn p areas n s
area_in p areas spans n s stands e = each (areas n) refl (of_some (λ s. IsSomeAnd (areas n) (IsAreaOf p s)) (span_of spans n) s e (stands.used n))
  where
    each : (o : Option Area) → areas n ≡ o → IsSomeAnd o (IsAreaOf p s) → IsIn p areas n s
    each None e h = absurd h
    each (Some area) e h = record { area = area; area_is = e; is = h }

-- the span with a number that the tree has at a page
pub record IsSpanAt (spans : List Span) (page number : ℕ) : Type 0 where
  pub span : Span
  pub span_is : span_of spans number ≡ Some span
  pub holds : holds span page ≡ true

pub span_at : (spans : List Span) (page n : ℕ) → AreDistinct spans → area_at spans page ≡ Some n → IsSpanAt spans page n
span_at spans page n distinct e = each (span_of spans n) refl (of_some (λ n. IsSomeAnd (span_of spans n) (λ s. holds s page ≡ true))
    (area_at spans page) n e (held spans page distinct))
  where
    each : (o : Option Span) → span_of spans n ≡ o → IsSomeAnd o (λ s. holds s page ≡ true) → IsSpanAt spans page n
    each None e h = absurd h
    each (Some s) e h = record { span = s; span_is = e; holds = h }

pub is_on : (p : ℕ) (areas : ℕ → Option Area) (spans : List Span) (page : ℕ) (area : Area) → AreAreasOf p areas spans
    → pages_by areas spans page ≡ Some area →
    IsOn p areas spans page area
is_on p areas spans page area stands e = each (area_at spans page) refl e
  where
    each : (o : Option ℕ) → area_at spans page ≡ o → option_and_then areas o ≡ Some area → IsOn p areas spans page area
    each None at e = cc
    each (Some n) at e =
        let s = span_at spans page n stands.spans_are.distinct at in
        let is : IsAreaOf p s.span area = of_some_and (IsAreaOf p s.span) (areas n) area e
        (of_some (λ s. IsSomeAnd (areas n) (IsAreaOf p s)) (span_of spans n) s.span s.span_is (stands.used n)) in
        record {
          number = n;
          span = s.span;
          at = at;
          span_is = s.span_is;
          area_is = e;
          is = is;
          has = sym (holds_is p s.span area page is) ∙ s.holds;
        }

-- the number of a page's area is in use
pub used_at : (p : ℕ) (areas : ℕ → Option Area) (spans : List Span) (page n : ℕ) → AreAreasOf p areas spans → area_at spans page ≡ Some n
    → IsSome (areas n)
used_at p areas spans page n stands at =
    let s = span_at spans page n stands.spans_are.distinct at in
    let i = area_in p areas spans n s.span stands s.span_is in
    subst IsSome (sym i.area_is) refl

-- and its area is whole
pub whole_at : (p : ℕ) (areas : ℕ → Option Area) (spans : List Span) (page n : ℕ) (area : Area) → AreAreasOf p areas spans
    → area_at spans page ≡ Some n →
    areas n ≡ Some area → IsWhole area
whole_at p areas spans page n area stands at is = (is_on p areas spans page area stands (ap (option_and_then areas) at ∙ is)).is.whole

-- an area that is there is on each page that it has
pub on_span : (p : ℕ) (areas : ℕ → Option Area) (spans : List Span) (n : ℕ) (s : Span) (area : Area) (page : ℕ) → AreAreasOf p areas spans →
    span_of spans n ≡ Some s → areas n ≡ Some area → s.from ≤ page → page < s.to → pages_by areas spans page ≡ Some area
on_span p areas spans n s area page stands e is low high = ap (option_and_then areas) (at_span spans n s page stands.spans_are.apart e low high) ∙ is

-- an area that is on one of its pages is on all
pub one_area : (p : ℕ) (areas : ℕ → Option Area) (spans : List Span) (page other : ℕ) (area : Area) → AreAreasOf p areas spans →
    pages_by areas spans page ≡ Some area → has_page area other ≡ true → pages_by areas spans other ≡ Some area
one_area p areas spans page other area stands e has =
    let on = is_on p areas spans page area stands e in
    let k = holds_parts on.span other (holds_is p on.span area other on.is ∙ has) in
    on_span p areas spans on.number on.span area other stands on.span_is on.area_is k.0 k.1

-- a page is taken exactly where an area is on it
pub taken_is : (p : ℕ) (areas : ℕ → Option Area) (spans : List Span) (page : ℕ) → AreAreasOf p areas spans →
    is_some (pages_by areas spans page) ≡ is_page_taken spans page
taken_is p areas spans page stands = each (area_at spans page) refl
  where
    each : (o : Option ℕ) → area_at spans page ≡ o → is_some (option_and_then areas o) ≡ is_some o
    each None e = refl
    each (Some n) e = let s = span_at spans page n stands.spans_are.distinct e in ap is_some (area_in p areas spans n s.span stands s.span_is).area_is

-- ---- the pages without one area

pub at_rest : (spans : List Span) (n : ℕ) (s : Span) (page : ℕ) → AreSpans spans → span_of spans n ≡ Some s →
    area_at (without_area n spans) page ≡ unless_area n (area_at spans page)
at_rest spans n s page good there =
    let r = removed n s.from spans spans _ refl good (subst (λ o. IsSomeAnd o (λ t. t.from ≡ s.from)) (sym there) refl) refl in
    ap (λ l. area_at l page) (sym r.spans) ∙ r.pages page

-- ---- the areas of other processes

pub others_refl : (p : ℕ) (areas : ℕ → Option Area) → KeepsOthers p areas areas
others_refl p areas = record { stay = λ _ _ _ e. e; none_comes = λ _ _ _ e. e }

others_trans : (p : ℕ) (a b c : ℕ → Option Area) → KeepsOthers p a b → KeepsOthers p b c → KeepsOthers p a c
others_trans p a b c h k = record {
  stay = λ number area other e. k.stay number area other (h.stay number area other e);
  none_comes = λ number area other e. h.none_comes number area other (k.none_comes number area other e);
}

-- one call after another
pub stays_trans : (p : ℕ) (a b c : ℕ → Option Area) (before after : List Span) → Stays p a b before → Stays p b c after → Stays p a c after
stays_trans p a b c before after h k = record { areas = k.areas; others = others_trans p a b c h.others k.others }

-- so in the values of `Areas` and `Tree`
pub stays_then : (old mid new : List (Option Area)) (before between after : List Span) → StayOfOne old before mid between
    → StayOfOne mid between new after
    → StayOfOne old before new after
stays_then old mid new before between after h k p stands =
    let one = h p stands in
    stays_trans p (area_of old) (area_of mid) (area_of new) between after one (k p one.areas)

self : {X : Type 0} (n : ℕ) (x : X) (f : ℕ → X) → with_at n x f n ≡ x
self n x f = ap (λ b. cond b x (f n)) (same n)
  where
    same : (n : ℕ) → (n == n) ≡ true
    same n = grind (arith, nat_tests)

other_at : {X : Type 0} (n k : ℕ) (x : X) (f : ℕ → X) → k ≢ n → with_at n x f k ≡ f k
other_at n k x f apart = ap (λ b. cond b x (f k)) (differ n k apart)
  where
    differ : (n k : ℕ) → k ≢ n → (k == n) ≡ false
    differ n k apart = grind (arith, nat_tests)

differ : (f : ℕ → Option Area) (n k : ℕ) (area : Area) → f n ≡ None → f k ≡ Some area → k ≢ n
differ f n k area none some same = let e : f n ≡ f k = ap f (sym same) in cc

-- where a number has another area, or none, the pages of its span have that
pages_changed : (p n : ℕ) (s : Span) (areas : ℕ → Option Area) (spans : List Span) (x : Option Area) → AreAreasOf p areas spans
    → span_of spans n ≡ Some s →
    (page : ℕ) → pages_by (with_at n x areas) spans page ≡ cond (holds s page) x (pages_by areas spans page)
pages_changed p n s areas spans x stands there page = elim (holds s page) as (λ b. holds s page ≡ b →
    pages_by (with_at n x areas) spans page ≡ cond b x (pages_by areas spans page)) [
      | true ↦ λ h.
          let k = holds_parts s page h in
          ap (option_and_then (with_at n x areas)) (at_span spans n s page stands.spans_are.apart there k.0 k.1) ∙ self n x areas
      | false ↦ λ h. each h (area_at spans page) refl
    ] refl
  where
    each : holds s page ≡ false → (o : Option ℕ) → area_at spans page ≡ o → option_and_then (with_at n x areas) o ≡ option_and_then areas o
    each h None at = refl
    each h (Some k) at =
        let t = span_at spans page k stands.spans_are.distinct at in
        other_at n k x areas (λ same. let is : t.span ≡ s = out k t.span t.span_is same in both_ways _ h (ap (λ u. holds u page) (sym is) ∙ t.holds))
      where
        out : (k : ℕ) (t : Span) → span_of spans k ≡ Some t → k ≡ n → t ≡ s
        out k t e same = let e' : span_of spans k ≡ span_of spans n = ap (span_of spans) same in cc

-- ---- an area is put under a new number

module _ (p n : ℕ) (s : Span) (area : Area) (areas areas' : ℕ → Option Area) (spans spans' : List Span)
    (stands : AreAreasOf p areas spans) (unused : areas n ≡ None) (is : IsAreaOf p s area)
    (now : (k : ℕ) → areas' k ≡ with_at n (Some area) areas k)
    (kept : AreSpans spans') (spans_now : (k : ℕ) → span_of spans' k ≡ with_at n (Some s) (span_of spans) k)
    (pages_now : (page : ℕ) → area_at spans' page ≡ cond (holds s page) (Some n) (area_at spans page)) where
  pub put_stands : AreAreasOf p areas' spans'
  put_stands = grind (arith, common_steps)

  pub put_others : area.pid ≡ p → KeepsOthers p areas areas'
  put_others pid = grind (arith, common_steps)

  pub put_pages : (page : ℕ) → pages_by areas' spans' page ≡ with_area area (pages_by areas spans) page
  put_pages page =
      ap (option_and_then areas') (pages_now page ∙ ap (λ b. cond b (Some n) (area_at spans page)) (holds_is p s area page is))
      ∙ elim (has_page area page) as
      (λ b. option_and_then areas' (cond b (Some n) (area_at spans page)) ≡ cond b (Some area) (pages_by areas spans page)) [
        | true ↦ now n ∙ self n (Some area) areas
        | false ↦ each (area_at spans page) refl
      ]
    where
      each : (o : Option ℕ) → area_at spans page ≡ o → option_and_then areas' o ≡ option_and_then areas o
      each None at = refl
      each (Some k) at =
          let t = span_at spans page k stands.spans_are.distinct at in
          let i = area_in p areas spans k t.span stands t.span_is in
          now k ∙ other_at n k (Some area) areas (differ areas n k i.area unused i.area_is)

-- ---- an area's two parts are put in its place, the upper one under a new number

module _ (p n m : ℕ) (s t : Span) (lower upper : Area) (areas areas' : ℕ → Option Area) (spans spans' : List Span)
    (stands : AreAreasOf p areas spans) (there : IsSomeAnd (span_of spans n) (λ u. (u.from ≡ first_of lower) × (u.to ≡ past_of upper)))
    (unused : areas m ≡ None)
    (is_lower : IsAreaOf p s lower) (is_upper : IsAreaOf p t upper)
    (now : (k : ℕ) → areas' k ≡ with_at n (Some lower) (with_at m (Some upper) areas) k)
    (pages_now : (page : ℕ)
    → area_at spans' page ≡ cond (holds t page) (Some m) (cond (holds s page) (Some n) (unless_area n (area_at spans page)))) where
  -- the number that is in use is not the new one
  apart : m ≢ n
  apart same = each (span_of spans n) there (stands.used n)
    where
      each : (o : Option Span) → IsSomeAnd o (λ u. (u.from ≡ first_of lower) × (u.to ≡ past_of upper))
          → IfSome o (λ u. IsSomeAnd (areas n) (IsAreaOf p u)) → ⊥
      each None some used = absurd some
      each (Some u) some used = subst (λ o. IsSomeAnd o (IsAreaOf p u)) (ap areas (sym same) ∙ unused) used

  pub apart_pages : (page : ℕ) → pages_by areas' spans' page ≡ with_area upper (with_area lower (pages_by (with_at n None areas) spans)) page
  apart_pages page =
      ap (option_and_then areas') (pages_now page
      ∙ ap (λ b. cond b (Some m) (cond (holds s page) (Some n) (unless_area n (area_at spans page)))) (holds_is p t upper page is_upper)
      ∙ ap (λ b. cond (has_page upper page) (Some m) (cond b (Some n) (unless_area n (area_at spans page)))) (holds_is p s lower page is_lower))
      ∙ elim (has_page upper page) as
      (λ b. option_and_then areas' (cond b (Some m) (cond (has_page lower page) (Some n) (unless_area n (area_at spans page))))
      ≡ cond b (Some upper) (with_area lower (pages_by (with_at n None areas) spans) page)) [
        | true ↦ now m ∙ other_at n m (Some lower) (with_at m (Some upper) areas) apart ∙ self m (Some upper) areas
        | false ↦ elim (has_page lower page) as
            (λ b. option_and_then areas' (cond b (Some n) (unless_area n (area_at spans page))) ≡ cond b (Some lower)
            (pages_by (with_at n None areas) spans page)) [
              | true ↦ now n ∙ self n (Some lower) (with_at m (Some upper) areas)
              | false ↦ each (area_at spans page) refl
            ]
      ]
    where
      each : (o : Option ℕ) → area_at spans page ≡ o → option_and_then areas' (unless_area n o) ≡ option_and_then (with_at n None areas) o
      each None at = refl
      each (Some k) at =
          let u = span_at spans page k stands.spans_are.distinct at in
          let i = area_in p areas spans k u.span stands u.span_is in
          elim (k == n) as (λ b. (k == n) ≡ b → option_and_then areas' (cond b None (Some k)) ≡ cond b None (areas k)) [
            | true ↦ λ _. refl
            | false ↦ λ h.
                now k
                ∙ ap (λ b. cond b (Some lower) (with_at m (Some upper) areas k)) h
                ∙ other_at m k (Some upper) areas (differ areas m k i.area unused i.area_is)
          ] refl

-- ---- an area is taken out

module _ (p n : ℕ) (s : Span) (areas areas' : ℕ → Option Area) (spans spans' : List Span)
    (stands : AreAreasOf p areas spans) (there : span_of spans n ≡ Some s)
    (now : (k : ℕ) → areas' k ≡ with_at n None areas k)
    (kept : AreSpans spans') (spans_now : (k : ℕ) → span_of spans' k ≡ with_at n None (span_of spans) k)
    (pages_now : (page : ℕ) → area_at spans' page ≡ unless_area n (area_at spans page)) where
  pub take_stands : AreAreasOf p areas' spans'
  take_stands = grind (arith, common_steps)

  pub take_others : KeepsOthers p areas areas'
  take_others = grind (arith, common_steps)

  pub take_pages : (page : ℕ) → pages_by areas' spans' page ≡ pages_by (with_at n None areas) spans page
  take_pages page = grind (arith, common_steps)

-- without its area, a number's pages have none; the others stay
pub pages_without : (p n : ℕ) (s : Span) (areas : ℕ → Option Area) (spans : List Span) → AreAreasOf p areas spans
    → span_of spans n ≡ Some s → (page : ℕ) →
    pages_by (with_at n None areas) spans page ≡ cond (holds s page) None (pages_by areas spans page)
pages_without p n s areas spans stands there page = pages_changed p n s areas spans None stands there page

-- ---- another area on the same span

module _ (p n : ℕ) (s : Span) (area : Area) (areas areas' : ℕ → Option Area) (spans : List Span)
    (stands : AreAreasOf p areas spans) (there : span_of spans n ≡ Some s) (is : IsAreaOf p s area)
    (now : (k : ℕ) → areas' k ≡ with_at n (Some area) areas k) where
  pub change_stands : AreAreasOf p areas' spans
  change_stands = grind (arith, common_steps)

  pub change_others : KeepsOthers p areas areas'
  change_others = grind (arith, common_steps)

  pub change_pages : (page : ℕ) → pages_by areas' spans page ≡ with_area area (pages_by areas spans) page
  change_pages page =
      ap (λ f. pages_by f spans page) (λ i k. now k i)
      ∙ pages_changed p n s areas spans (Some area) stands there page
      ∙ ap (λ b. cond b (Some area) (pages_by areas spans page)) (holds_is p s area page is)
