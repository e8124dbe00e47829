-- Areas are taken out one after the other, from the lowest page of a range on.
use Rattle.std.proofs.Common.{◌≡◌, ℕ, ◌+◌, ◌-◌, ◌<◌, ◌≤◌, ◌==◌, inl, inr, nat_le, nat_lt, true, false, cond, List, [], ◌∷◌, length, Option, Some, None, option_map, IfSome, refl, sym, ap, subst, ◌∙◌, arith}
use Rattle.std.proofs.lemmas.Bool.Decides.{nat_tests}
use Rattle.std.proofs.lemmas.Bool.{both_ways, false_from_ne_true, eqb-true, leb-false, ltb-true, ltb-false, cases_lt}
use Rattle.av_vma.specs.declared.area.Area.{Area}
use Rattle.av_base.specs.Limits.{low_page, top_page}
use Rattle.av_base.specs.Words.{within, with_at}
use Rattle.av_vmatree.specs.declared.span.Span.{Span}
use Rattle.av_vmatree.specs.Spans.{AreApart, AreDistinct, AreSpans, area_after, area_at, first_from, holds, last_below, span_of, unless_area, without_area}
use Rattle.av_vmatree.proofs.Sides.{in_row}
use Rattle.av_vma.specs.Pages.{Pages, after_unmap, part_of, split_at, without_range}
use Rattle.av_vma.proofs.Laid.{has_parts}
use Rattle.av_merge.specs.Pages.{pages_by}
use Rattle.av_merge.specs.Process.{AreAreasOf, IsAreaOf, NoneCrosses, Stays}
use Rattle.av_merge.proofs.PlacingLaws.{area_in, holds_parts, is_on, on_span, later_from, others_refl, pages_without, stays_trans, take_others, take_pages, take_stands, within_from, within_parts}
use Rattle.av_merge.proofs.PlacingMaps.{laid_of}
use Rattle.av_merge.proofs.SplittingLaws.{none_by_last, none_starts, uncut}

-- ---- the next area above a page

pub record IsNext (spans : List Span) (page n : ℕ) : Type 0 where
  pub span : Span
  pub there : span_of spans n ≡ Some span
  pub above : page < span.from
  pub least : (k : ℕ) (t : Span) → span_of spans k ≡ Some t → page < t.from → span.from ≤ t.from

pub next_of : (spans : List Span) (page n : ℕ) → AreApart spans → AreDistinct spans → area_after spans page ≡ Some n → IsNext spans page n
next_of [] page n apart distinct e = cc
next_of (s ∷ spans) page n apart distinct e = elim (nat_lt page s.from) as (λ b. nat_lt page s.from ≡ b →
    cond b (Some s.area) (area_after spans page) ≡ Some n → IsNext (s ∷ spans) page n) [
      | true ↦ λ h e.
          let same : s.area ≡ n = cc in
          record {
            span = s;
            there = ap (λ b. cond b (Some s) (span_of spans n)) (equal n s.area (sym same));
            above = ltb-true page s.from h;
            least = λ k t is _. in_row (s.from ≤ t.from) s spans k t is (λ first. subst (λ (u : Span). s.from ≤ u.from) first (omega arith))
                (λ later. let past = later_from s spans k t apart later in let wide = apart.0 in omega arith);
          }
      | false ↦ λ h e.
          let r = next_of spans page n apart.2 distinct.1 e in
          record {
            span = r.span;
            there = ap (λ b. cond b (Some s) (span_of spans n)) (differ r) ∙ r.there;
            above = r.above;
            least = λ k t is above. in_row (r.span.from ≤ t.from) s spans k t is
                (λ first. absurd (below h (subst (λ (u : Span). page < u.from) (sym first) above)))
                (λ later. r.least k t later above);
          }
    ] refl e
  where
    equal : (a b : ℕ) → a ≡ b → (a == b) ≡ true
    equal a b same = grind (arith, nat_tests)

    below : nat_lt page s.from ≡ false → page < s.from → ⊥
    below h above = let k = ltb-false page s.from h in omega arith

    differ : IsNext spans page n → (n == s.area) ≡ false
    differ r = false_from_ne_true (n == s.area) (λ h. let same : span_of spans n ≡ span_of spans s.area = ap (span_of spans) (eqb-true n s.area h) in
        clash (sym (same ∙ distinct.0) ∙ r.there))
      where
        clash : {t : Span} → None ≡ Some t → ⊥
        clash e = cc

pub no_next : (spans : List Span) (page : ℕ) → area_after spans page ≡ None → (k : ℕ) (t : Span) → span_of spans k ≡ Some t → t.from ≤ page
no_next [] page e k t is = cc
no_next (s ∷ spans) page e k t is = elim (nat_lt page s.from) as (λ b. nat_lt page s.from ≡ b →
    cond b (Some s.area) (area_after spans page) ≡ None → t.from ≤ page) [
      | true ↦ λ h e. cc
      | false ↦ λ h e. in_row (t.from ≤ page) s spans k t is (λ first. subst (λ (u : Span). u.from ≤ page) first (ltb-false page s.from h))
          (λ later. no_next spans page e k t later)
    ] refl e

-- one less
pub fewer : (spans : List Span) (n : ℕ) (s : Span) → span_of spans n ≡ Some s → length (without_area n spans) < length spans
fewer [] n s e = cc
fewer (t ∷ spans) n s e = elim (t.area == n) as (λ b. (t.area == n) ≡ b → length (cond b spans (t ∷ without_area n spans)) < length (t ∷ spans)) [
  | true ↦ λ _. omega arith
  | false ↦ λ h. let k = fewer spans n s (ap (λ b. cond b (Some t) (span_of spans n)) (sym (turned h)) ∙ e) in omega arith
] refl
  where
    turned : (t.area == n) ≡ false → (n == t.area) ≡ false
    turned h = grind (arith, nat_tests)

-- ---- what has been taken out

-- some areas of a range are out, and all else is as it was
pub record AreTaken (from to : ℕ) (old : ℕ → Option Area) (before : List Span) (areas : ℕ → Option Area) (spans : List Span) : Type 0 where
  pub stands : (p : ℕ) → AreAreasOf p old before → Stays p old areas spans
  pub lower : NoneCrosses from spans
  pub upper : NoneCrosses to spans
  pub pages : (page : ℕ) → without_range from to (pages_by areas spans) page ≡ without_range from to (pages_by old before) page

none_fewer : (at n : ℕ) (spans spans' : List Span) → ((k : ℕ) → span_of spans' k ≡ with_at n None (span_of spans) k) →
    NoneCrosses at spans → NoneCrosses at spans'
none_fewer at n spans spans' now none k = subst (λ o. IfSome o (λ s. s.from < at → s.to ≤ at)) (sym (now k))
    (elim (k == n) as (λ b. IfSome (cond b None (span_of spans k)) (λ s. s.from < at → s.to ≤ at)) [ true ↦ tt | false ↦ none k ])

module _ (from to : ℕ) (old : ℕ → Option Area) (before : List Span) (areas : ℕ → Option Area) (spans : List Span) (p : ℕ)
    (first : AreAreasOf p old before)
    (so_far : AreTaken from to old before areas spans) where
  -- each area begins above page 0
  lowest : (k : ℕ) (t : Span) → span_of spans k ≡ Some t → 0 < t.from
  lowest k t e =
      let i = area_in p areas spans k t (so_far.stands p first).areas e in
      let low = i.is.whole.low in
      let from = i.is.from in
      omega arith

  -- no area that begins in the range is left
  pub all_taken : ((k : ℕ) (t : Span) → span_of spans k ≡ Some t → from - 1 < t.from → to ≤ t.from) → (page : ℕ) →
      pages_by areas spans page ≡ without_range from to (pages_by old before) page
  all_taken none page = elim (within from (to - from) page) as (λ b. within from (to - from) page ≡ b →
      cond b None (pages_by areas spans page) ≡ cond b None (pages_by old before page)
      → pages_by areas spans page ≡ cond b None (pages_by old before page)) [
        | true ↦ λ h _. each (within_parts from (to - from) page h) (pages_by areas spans page) refl
        | false ↦ λ _ e. e
      ] refl (so_far.pages page)
    where
      each : (from ≤ page) × (page < from + (to - from)) → (o : Option Area) → pages_by areas spans page ≡ o → o ≡ None
      each k None e = refl
      each k (Some area) e =
          let on = is_on p areas spans page area (so_far.stands p first).areas e in
          let some = lowest on.number on.span on.span_is in
          let low = (has_parts area page on.has).0 in
          let high = (has_parts area page on.has).1 in
          let least = on.is.from in
          let most = on.is.to in
          let past = subst (λ o. IfSome o (λ s. s.from < from → s.to ≤ from)) on.span_is (so_far.lower on.number) in
          let in_low = k.0 in
          let in_high = k.1 in
          absurd (elim (cases_lt on.span.from from) [
            | inl less ↦ (let out = past less in omega arith)
            | inr more ↦ (let out = none on.number on.span on.span_is (omega arith) in omega arith)
          ])

  -- the next one is taken out
  pub one_more : (n : ℕ) (areas' : ℕ → Option Area) (spans' : List Span) (next : IsNext spans (from - 1) n) → next.span.from < to →
      ((k : ℕ) → areas' k ≡ with_at n None areas k) → AreSpans spans' → ((k : ℕ) → span_of spans' k ≡ with_at n None (span_of spans) k) →
      ((page : ℕ) → area_at spans' page ≡ unless_area n (area_at spans page)) → AreTaken from to old before areas' spans'
  one_more n areas' spans' next high now kept spans_now pages_now = record {
    stands = λ q h.
        let stays = so_far.stands q h in
        stays_trans q old areas areas' spans spans' stays (record {
          areas = take_stands q n next.span areas areas' spans spans' stays.areas next.there now kept spans_now pages_now;
          others = take_others q n next.span areas areas' spans spans' stays.areas next.there now kept spans_now pages_now;
        });
    lower = none_fewer from n spans spans' spans_now so_far.lower;
    upper = none_fewer to n spans spans' spans_now so_far.upper;
    pages = λ page. elim (within from (to - from) page) as (λ b. within from (to - from) page ≡ b →
        cond b None (pages_by areas spans page) ≡ cond b None (pages_by old before page) →
        cond b None (pages_by areas' spans' page) ≡ cond b None (pages_by old before page)) [
          | true ↦ λ _ e. refl
          | false ↦ λ h e. outside page h ∙ e
        ] refl (so_far.pages page);
  }
    where
      stands' : AreAreasOf p areas spans
      stands' = (so_far.stands p first).areas

      outside : (page : ℕ) → within from (to - from) page ≡ false → pages_by areas' spans' page ≡ pages_by areas spans page
      outside page out =
          take_pages p n next.span areas areas' spans spans' stands' next.there now kept spans_now pages_now page
          ∙ pages_without p n next.span areas spans stands' next.there page
          ∙ ap (λ b. cond b None (pages_by areas spans page)) (false_from_ne_true (holds next.span page) (λ holds.
          let k = holds_parts next.span page holds in
          let least = k.0 in
          let most = k.1 in
          let above = next.above in
          let past = subst (λ o. IfSome o (λ s. s.from < to → s.to ≤ to)) next.there (so_far.upper n) in
          let end = past high in
          both_ways _ out (within_from from (to - from) page (omega arith) (omega arith))))

pub next_area : (p : ℕ) (areas : ℕ → Option Area) (spans : List Span) (page n : ℕ) (next : IsNext spans page n) (area : Area)
    → AreAreasOf p areas spans →
    areas n ≡ Some area → IsAreaOf p next.span area
next_area p areas spans page n next area stands e =
    let i = area_in p areas spans n next.span stands next.there in
    let same : i.area ≡ area = cc in
    subst (IsAreaOf p next.span) same i.is

-- ---- nothing lies in a range

-- where the first span from a page on begins past a range, so do all of these
pub all_past : (spans : List Span) (page to k : ℕ) (t : Span) → AreApart spans → IfSome (first_from spans page) (λ s. to ≤ s.from)
    → span_of spans k ≡ Some t → page ≤ t.from → to ≤ t.from
all_past [] page to k t apart first e above = cc
all_past (s ∷ spans) page to k t apart first e above = elim (nat_le page s.from) as (λ b. nat_le page s.from ≡ b →
    IfSome (cond b (Some s) (first_from spans page)) (λ s. to ≤ s.from) → to ≤ t.from) [
      | true ↦ λ _ first. in_row (to ≤ t.from) s spans k t e
          (λ same. subst (λ (u : Span). to ≤ u.from) same first)
          (λ later. let past = later_from s spans k t apart later in let wide = apart.0 in omega arith)
      | false ↦ λ h first. in_row (to ≤ t.from) s spans k t e
          (λ same. absurd (below h (subst (λ (u : Span). page ≤ u.from) (sym same) above)))
          (λ later. all_past spans page to k t apart.2 first later above)
    ] refl first
  where
    below : nat_le page s.from ≡ false → page ≤ s.from → ⊥
    below h above = let k = leb-false page s.from h in omega arith

-- an unmapping of it changes nothing
module _ (p from to : ℕ) (areas : ℕ → Option Area) (spans : List Span) (stands : AreAreasOf p areas spans) (forward : from ≤ to)
    (before : IfSome (last_below spans from) (λ s. s.to ≤ from)) (after : IfSome (first_from spans from) (λ s. to ≤ s.from)) where
  past : (k : ℕ) (t : Span) → span_of spans k ≡ Some t → from ≤ t.from → to ≤ t.from
  past k t e above = all_past spans from to k t stands.spans_are.apart after e above

  lower : NoneCrosses from spans
  lower = none_by_last spans from stands.spans_are.apart before

  upper : NoneCrosses to spans
  upper k = each (span_of spans k) refl (lower k)
    where
      each : (o : Option Span) → span_of spans k ≡ o → IfSome o (λ s. s.from < from → s.to ≤ from) → IfSome o (λ s. s.from < to → s.to ≤ to)
      each None e h = tt
      each (Some s) e h = λ low. elim (cases_lt s.from from) [
        | inl less ↦ (let end = h less in omega arith)
        | inr more ↦ (let high = past k s e more in absurd (omega arith))
      ]

  none_taken : AreTaken from to areas spans areas spans
  none_taken = record { stands = λ q h. record { areas = h; others = others_refl q areas }; lower = lower; upper = upper; pages = λ page. refl }

  pub unmap_of_none : (page : ℕ) → pages_by areas spans page ≡ after_unmap from to (pages_by areas spans) page
  unmap_of_none page =
      all_taken from to areas spans areas spans p stands none_taken (λ k t e above. past k t e (omega arith)) page
      ∙ ap (cond (within from (to - from) page) None) (whole to upper page ∙ ap (option_map (part_of to page)) (whole from lower page))
    where
      whole : (at : ℕ) → NoneCrosses at spans → (page : ℕ) → pages_by areas spans page ≡ split_at at (pages_by areas spans) page
      whole at none = uncut (pages_by areas spans) at (laid_of p areas spans stands) (none_starts p at areas spans stands none)

-- where all pages that a process may have are empty, no area is left
pub all_empty : (p : ℕ) (areas : ℕ → Option Area) (spans : List Span) (on : Pages) → AreAreasOf p areas spans →
    ((page : ℕ) → pages_by areas spans page ≡ without_range low_page top_page on page) → spans ≡ []
all_empty p areas [] on stands empty = refl
all_empty p areas (s ∷ spans) on stands empty =
    let there : span_of (s ∷ spans) s.area ≡ Some s = ap (λ b. cond b (Some s) (span_of spans s.area)) (same s.area) in
    let i = area_in p areas (s ∷ spans) s.area s stands there in
    let wide = stands.spans_are.apart.0 in
    let in_range = stands.spans_are.within.0 in
    let low = in_range.0 in
    let high = in_range.1 in
    let here : pages_by areas (s ∷ spans) s.from ≡ Some i.area =
    on_span p areas (s ∷ spans) s.area s i.area s.from stands there i.area_is (omega arith) wide in
    let none : without_range low_page top_page on s.from ≡ None = ap (λ b. cond b None (on s.from))
    (within_from low_page (top_page - low_page) s.from low (omega arith)) in
    let clash : Some i.area ≡ None = sym here ∙ empty s.from ∙ none in
    cc
  where
    same : (n : ℕ) → (n == n) ≡ true
    same n = grind (arith, nat_tests)
