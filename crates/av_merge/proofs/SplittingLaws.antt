-- A split, over pages alone: what it leaves, and where it changes nothing.
use Rattle.std.proofs.Common.{◌≡◌, ℕ, ◌+◌, ◌-◌, ◌*◌, ◌/◌, ◌<◌, ◌≤◌, max, min, nat_lt, true, false, cond, if◌then◌else◌, List, inl, inr, Option, Some, None, option_map, IfSome, IsSomeAnd, refl, sym, ap, subst, ◌∙◌, arith}
use Rattle.std.specs.Prelude.{option_and_then}
use Rattle.std.proofs.lemmas.Option.{same_Some}
use Rattle.std.proofs.lemmas.Bool.{both_ways, false_from_ne_true, ltb-true, ltb-false, cases_lt, lt-ltb, le-ltb}
use Rattle.av_vma.specs.declared.area.Area.{Area}
use Rattle.av_vma.specs.Index.{first_of, index_of, past_of}
use Rattle.av_base.specs.Words.{within, with_at}
use Rattle.av_vmatree.specs.declared.span.Span.{Span}
use Rattle.av_vmatree.specs.Spans.{AreApart, area_at, last_below, span_of, unless_area}
use Rattle.av_vmatree.proofs.Sides.{below_must}
use Rattle.av_vma.specs.Pages.{AreLaid, Pages, split_at, has_page, part_of, with_area, after_unmap, IsWhole}
use Rattle.av_vma.proofs.Split.{laid_split}
use Rattle.av_vma.proofs.Laid.{has_from, has_parts}
use Rattle.av_merge.specs.Pages.{pages_by}
use Rattle.av_merge.specs.Process.{AreAreasOf, IsAreaOf, NoneCrosses}
use Rattle.av_merge.proofs.PlacingLaws.{area_in, holds_is, holds_parts, is_on, on_span, pages_without, span_at, within_from, within_parts}
use Rattle.av_merge.proofs.PlacingMaps.{laid_of}

least : (a b : ℕ) → a ≤ b → min a b ≡ a
least a b h = omega arith

most : (a b : ℕ) → b ≤ a → max a b ≡ a
most a b h = omega arith

-- an area that a split doesn't cross is its own part
pub part_is : (at page : ℕ) (area : Area) → IsWhole area → has_page area page ≡ true → (first_of area < at → at < past_of area → ⊥) →
    part_of at page area ≡ area
part_is at page area whole has out =
    let low = (has_parts area page has).0 in
    let high = (has_parts area page has).1 in
    elim (nat_lt page at) as (λ b. nat_lt page at ≡ b → cond b (record area { end = min area.end (4096 * at) })
    (record area { start = max area.start (4096 * at); pgoff = area.pgoff + (at - first_of area) }) ≡ area) [
      | true ↦ λ h.
          let below : page < at = ltb-true page at h in
          let past : past_of area ≤ at = elim (cases_lt at (past_of area)) [ inl less ↦ absurd (out (omega arith) less) | inr more ↦ more ] in
          let same : min area.end (4096 * at) ≡ area.end = least area.end (4096 * at) (let e = whole.end in omega arith) in
          ap (λ n. record area { end = n }) same
      | false ↦ λ h.
          let above : at ≤ page = ltb-false page at h in
          let first : at ≤ first_of area = elim (cases_lt (first_of area) at) [ inl less ↦ absurd (out less (omega arith)) | inr more ↦ more ] in
          let same : max area.start (4096 * at) ≡ area.start = most area.start (4096 * at) (let e = whole.start in omega arith) in
          let offset : area.pgoff + (at - first_of area) ≡ area.pgoff = omega arith in
          ap (λ n. record area { start = n; pgoff = area.pgoff + (at - first_of area) }) same ∙ ap (λ n. record area { pgoff = n }) offset
    ] refl

-- where no area lies on both sides, a split changes nothing
pub uncut : (on : Pages) (at : ℕ) → AreLaid on → ((area : Area) → on at ≡ Some area → at ≤ first_of area) → (page : ℕ) → on page ≡ split_at at on page
uncut on at are none page = each (on page) refl
  where
    each : (o : Option Area) → on page ≡ o → o ≡ option_map (part_of at page) o
    each None e = refl
    each (Some area) e = ap Some (sym (part_is at page area (are.whole page area e) (are.here page area e) (λ low high.
        let there = none area (are.all page at area e (has_from area at (omega arith) high)) in
        omega arith)))

-- the two parts of an area that a split crosses
abbrev pub lower_of : ℕ → Area → Area
lower_of at area = record area { end = 4096 * at }

abbrev pub upper_of : ℕ → Area → Area
upper_of at area = record area { start = 4096 * at; pgoff = index_of area at }

page_of : (n : ℕ) → 4096 * n / 4096 ≡ n
page_of n = omega arith

-- pages without those of one area
abbrev pub without : Area → Pages → Pages
without area on page = if has_page area page then None else on page

-- where parts of an area are put in its place, the pages between them go
module _ (on : Pages) (from to : ℕ) (area : Area) (are : AreLaid on) (there : on from ≡ Some area) (below : first_of area < from)
    (forward : from ≤ to)
    (inside : to < past_of area) (page : ℕ) where
  upper_part : to ≤ page → part_of to page (part_of from page area) ≡ upper_of to area
  upper_part above =
      let start = (are.whole from area there).start in
      let same : max (max area.start (4096 * from)) (4096 * to) ≡ 4096 * to = omega arith in
      let offset : area.pgoff + (from - area.start / 4096) + (to - max area.start (4096 * from) / 4096) ≡ index_of area to = omega arith in
      rw (le-ltb page from (omega arith), le-ltb page to above) (λ i. record area { start = same i; pgoff = offset i })

  lower_part : page < from → part_of to page (part_of from page area) ≡ lower_of from area
  lower_part less =
      let end = (are.whole from area there).end in
      let in_area = inside in
      let same : min (min area.end (4096 * from)) (4096 * to) ≡ 4096 * from = omega arith in
      rw (lt-ltb page from less, lt-ltb page to (omega arith)) (ap (λ n. record area { end = n }) same)

  other_stays : (at : ℕ) → first_of area < at → at < past_of area → has_page area page ≡ false → (o : Option Area) → on page ≡ o →
      o ≡ option_map (part_of at page) o
  other_stays at low high out None e = refl
  other_stays at low high out (Some other) e = ap Some (sym (part_is at page other (are.whole page other e) (are.here page other e) (λ least most.
      let there' = are.all page at other e (has_from other at (omega arith) most) in
      let same : area ≡ other = same_Some area other (sym (are.all from at area there (has_from area at (omega arith) high)) ∙ there') in
      both_ways _ out (ap (λ a. has_page a page) same ∙ are.here page other e))))

  outside : has_page (upper_of to area) page ≡ false → has_page (lower_of from area) page ≡ false → without area on page ≡ after_unmap from to on page
  outside h k = elim (has_page area page) as (λ b. has_page area page ≡ b → cond b None (on page) ≡ after_unmap from to on page) [
    | true ↦ λ has.
        let low : first_of area ≤ page = (has_parts area page has).0 in
        let high : page < past_of area = (has_parts area page has).1 in
        let first : from ≤ page = elim (cases_lt page from) [
          | inl less ↦ absurd (both_ways _ k (has_from (lower_of from area) page low (let e = page_of from in omega arith)))
          | inr above ↦ above
        ] in
        let last : page < to = elim (cases_lt page to) [
          | inl less ↦ less
          | inr above ↦ absurd (both_ways _ h (has_from (upper_of to area) page (let e = page_of to in omega arith) high))
        ] in
        rw (within_from from (to - from) page first (omega arith)) refl
    | false ↦ λ out.
        let apart : within from (to - from) page ≡ false = false_from_ne_true _ (λ h. let k = within_parts from (to - from) page h in let low = k.0 in
        let high = k.1 in both_ways _ out (has_from area page (omega arith) (omega arith))) in
        rw apart (
        other_stays from below (omega arith) out (on page) refl
        ∙ ap (option_map (part_of from page)) (other_stays to (omega arith) inside out (on page) refl)
        ∙ swapped (on page) refl out
        )
  ] refl
    where
      swapped : (o : Option Area) → on page ≡ o → has_page area page ≡ false
          → option_map (part_of from page) (option_map (part_of to page) o) ≡ option_map
          (part_of to page) (option_map (part_of from page) o)
      swapped o e out =
          ap (option_map (part_of from page)) (sym (other_stays to (omega arith) inside out o e))
          ∙ sym (other_stays from below (omega arith) out o e)
          ∙ other_stays to (omega arith) inside out o e
          ∙ ap (option_map (part_of to page)) (other_stays from below (omega arith) out o e)

  pub cut_through : with_area (upper_of to area) (with_area (lower_of from area) (without area on)) page ≡ after_unmap from to on page
  cut_through =
      elim (has_page (upper_of to area) page) as (λ b. has_page (upper_of to area) page ≡ b →
      cond b (Some (upper_of to area)) (with_area (lower_of from area) (without area on) page) ≡ after_unmap from to on page) [
        | true ↦ λ h.
            let low : first_of (upper_of to area) ≤ page = (has_parts (upper_of to area) page h).0 in
            let high : page < past_of area = (has_parts (upper_of to area) page h).1 in
            let at_page : to ≤ page = (let e = page_of to in omega arith) in
            let here : on page ≡ Some area = are.all from page area there (has_from area page (omega arith) high) in
            let out : within from (to - from) page ≡ false =
            false_from_ne_true _ (λ h. let k = (within_parts from (to - from) page h).1 in omega arith) in
            rw (out, here) (ap Some (sym (upper_part at_page)))
        | false ↦ λ h. elim (has_page (lower_of from area) page) as (λ b. has_page (lower_of from area) page ≡ b →
            cond b (Some (lower_of from area)) (without area on page) ≡ after_unmap from to on page) [
              | true ↦ λ k.
                  let low : first_of area ≤ page = (has_parts (lower_of from area) page k).0 in
                  let high : page < past_of (lower_of from area) = (has_parts (lower_of from area) page k).1 in
                  let at_page : page < from = (let e = page_of from in omega arith) in
                  let here : on page ≡ Some area = are.all from page area there (has_from area page low (omega arith)) in
                  let out : within from (to - from) page ≡ false = false_from_ne_true _ (λ h. let k = (within_parts from (to - from) page h).0 in
                  omega arith) in
                  rw (out, here) (ap Some (sym (lower_part at_page)))
              | false ↦ λ k. outside h k
            ] refl
      ] refl

-- after a split, an area begins with the page
pub split_starts : (on : Pages) (at : ℕ) (area : Area) → split_at at on at ≡ Some area → at ≤ first_of area
split_starts on at area e = each (on at) e
  where
    each : (o : Option Area) → option_map (part_of at at) o ≡ Some area → at ≤ first_of area
    each None e = cc
    each (Some b) e =
        let same : record b { start = max b.start (4096 * at); pgoff = b.pgoff + (at - first_of b) } ≡ area =
        (let k : part_of at at b ≡ area = cc in rw (le-ltb at at (omega arith)) at k) in
        let start : max b.start (4096 * at) ≡ area.start = ap (λ (a : Area). a.start) same in
        omega arith

-- where no page goes, an area is split in two
pub only_cut : (at : ℕ) (on : Pages) → AreLaid on → (page : ℕ) → after_unmap at at on page ≡ split_at at on page
only_cut at on are page =
    ap (λ b. cond b None (split_at at (split_at at on) page)) none
    ∙ sym (uncut (split_at at on) at (laid_split at on are) (λ area e. split_starts on at area e) page)
  where
    none : within at (at - at) page ≡ false
    none = false_from_ne_true _ (λ h. let k = within_parts at (at - at) page h in let low = k.0 in let high = k.1 in omega arith)

-- ---- pages go from within an area

-- an area of the process that goes on past both ends of a range
pub record IsCrossed (p n from to : ℕ) (spans : List Span) (area : Area) : Type 0 where
  pub span : Span
  pub there : span_of spans n ≡ Some span
  pub is : IsAreaOf p span area
  pub low : first_of area < from
  pub high : to < past_of area

pub crossed : (p n from to : ℕ) (areas : ℕ → Option Area) (spans : List Span) (area : Area) → AreAreasOf p areas spans →
    IsSomeAnd (span_of spans n) (λ s. (s.from < from) × (to < s.to)) → areas n ≡ Some area → IsCrossed p n from to spans area
crossed p n from to areas spans area stands inside used = each (span_of spans n) refl inside (stands.used n)
  where
    each : (o : Option Span) → span_of spans n ≡ o → IsSomeAnd o (λ s. (s.from < from) × (to < s.to))
        → IfSome o (λ s. IsSomeAnd (areas n) (IsAreaOf p s)) →
        IsCrossed p n from to spans area
    each None e h k = absurd h
    each (Some s) e h k =
        let is : IsAreaOf p s area = subst (λ o. IsSomeAnd o (IsAreaOf p s)) used k in
        let low = h.0 in
        let high = h.1 in
        let first = is.from in
        let last = is.to in
        record { span = s; there = e; is = is; low = omega arith; high = omega arith }

module _ (p n from to : ℕ) (areas : ℕ → Option Area) (spans : List Span) (area : Area) (stands : AreAreasOf p areas spans)
    (used : areas n ≡ Some area)
    (forward : from ≤ to) (c : IsCrossed p n from to spans area) where
  pub parts_ends : IsSomeAnd (span_of spans n) (λ s. (s.from ≡ first_of (lower_of from area)) × (s.to ≡ past_of (upper_of to area)))
  parts_ends = subst (λ o. IsSomeAnd o (λ s. (s.from ≡ first_of (lower_of from area)) × (s.to ≡ past_of (upper_of to area)))) (sym c.there)
      (c.is.from, c.is.to)

  rest_is : (page : ℕ) → pages_by (with_at n None areas) spans page ≡ without area (pages_by areas spans) page
  rest_is page = pages_without p n c.span areas spans stands c.there page
      ∙ ap (λ b. cond b None (pages_by areas spans page)) (holds_is p c.span area page c.is)

  -- the two parts have been put
  pub split_pages : (areas' : ℕ → Option Area) (spans' : List Span) →
      ((page : ℕ) → pages_by areas' spans' page ≡ with_area (upper_of to area)
      (with_area (lower_of from area) (pages_by (with_at n None areas) spans)) page) →
      (page : ℕ) → pages_by areas' spans' page ≡ after_unmap from to (pages_by areas spans) page
  split_pages areas' spans' pages' page =
      pages' page
      ∙ ap (λ o. cond (has_page (upper_of to area) page) (Some (upper_of to area))
      (cond (has_page (lower_of from area) page) (Some (lower_of from area)) o))
      (rest_is page)
      ∙ cut_through (pages_by areas spans) from to area (laid_of p areas spans stands)
      (on_span p areas spans n c.span area from stands c.there used (let e = c.is.from in let low = c.low in omega arith) (let e = c.is.to in
      let high = c.high in omega arith)) c.low forward c.high page

  -- the numbers of what is left: the upper part's, and that of the area
  module _ (spans' : List Span) (number : ℕ)
      (numbers' : (page : ℕ) → area_at spans' page ≡ cond (has_page (upper_of to area) page) (Some number)
      (cond (has_page (lower_of from area) page) (Some n) (unless_area n (area_at spans page)))) where
    pub upper_number : area_at spans' to ≡ Some number
    upper_number = numbers' to ∙ ap (λ b. cond b (Some number) (cond (has_page (lower_of from area) to) (Some n) (unless_area n (area_at spans to))))
        (has_from (upper_of to area) to (let e = page_of to in omega arith) c.high)

    pub lower_number : (page : ℕ) → page < from → area_at spans page ≡ Some n → area_at spans' page ≡ Some n
    lower_number page below at =
        let t = span_at spans page n stands.spans_are.distinct at in
        let same : t.span ≡ c.span = same_Some t.span c.span (sym t.span_is ∙ c.there) in
        let first : c.span.from ≤ page = subst (λ (s : Span). s.from ≤ page) same (holds_parts t.span page t.holds).0 in
        let low = c.is.from in
        let middle = page_of from in
        let above = page_of to in
        let out : has_page (upper_of to area) page ≡ false = false_from_ne_true _ (λ has. let k : first_of (upper_of to area) ≤ page =
        (has_parts (upper_of to area) page has).0 in omega arith) in
        numbers' page
        ∙ ap (λ b. cond b (Some number) (cond (has_page (lower_of from area) page) (Some n) (unless_area n (area_at spans page)))) out
        ∙ ap (λ b. cond b (Some n) (unless_area n (area_at spans page))) (has_from (lower_of from area) page (omega arith) (omega arith))

-- ---- no area crosses

module _ (p at : ℕ) (areas : ℕ → Option Area) (spans : List Span) (stands : AreAreasOf p areas spans) where
  -- the area on the page begins with it exactly where none crosses
  pub none_from : ((area : Area) → pages_by areas spans at ≡ Some area → at ≤ first_of area) → NoneCrosses at spans
  none_from starts n = each (span_of spans n) refl
    where
      each : (o : Option Span) → span_of spans n ≡ o → IfSome o (λ s. s.from < at → s.to ≤ at)
      each None e = tt
      each (Some s) e = λ low. elim (cases_lt at s.to) [
        | inl high ↦
            let i = area_in p areas spans n s stands e in
            let first = starts i.area (on_span p areas spans n s i.area at stands e i.area_is (omega arith) high) in
            let from = i.is.from in
            absurd (omega arith)
        | inr past ↦ past
      ]

  pub none_starts : NoneCrosses at spans → (area : Area) → pages_by areas spans at ≡ Some area → at ≤ first_of area
  none_starts none area e =
      let on = is_on p areas spans at area stands e in
      let past = subst (λ o. IfSome o (λ s. s.from < at → s.to ≤ at)) on.span_is (none on.number) in
      let high : at < past_of area = (has_parts area at on.has).1 in
      let from = on.is.from in
      let to = on.is.to in
      elim (cases_lt on.span.from at) [ inl low ↦ (let k = past low in absurd (omega arith)) | inr first ↦ omega arith ]

-- where the last area that begins below a page doesn't go on past it, none crosses
pub none_by_last : (spans : List Span) (at : ℕ) → AreApart spans → IfSome (last_below spans at) (λ s. s.to ≤ at) → NoneCrosses at spans
none_by_last spans at apart past n = each (span_of spans n) refl
  where
    each : (o : Option Span) → span_of spans n ≡ o → IfSome o (λ s. s.from < at → s.to ≤ at)
    each None e = tt
    each (Some s) e = λ low. elim (cases_lt at s.to) [
      | inl high ↦ subst (λ o. IfSome o (λ s. s.to ≤ at)) (below_must spans n at s apart e low (omega arith)) past
      | inr over ↦ over
    ]

-- a split at another page makes none that crosses
pub cut_keeps : (on : Pages) (at page : ℕ) → ((area : Area) → on page ≡ Some area → page ≤ first_of area) → (area : Area) →
    split_at at on page ≡ Some area → page ≤ first_of area
cut_keeps on at page starts area e = each (on page) refl e
  where
    each : (o : Option Area) → on page ≡ o → option_map (part_of at page) o ≡ Some area → page ≤ first_of area
    each None is e = cc
    each (Some b) is e =
        let first = starts b is in
        elim (nat_lt page at) as (λ v. cond v (record b { end = min b.end (4096 * at) })
        (record b { start = max b.start (4096 * at); pgoff = b.pgoff + (at - first_of b) }) ≡ area → page ≤ first_of area) [
          | true ↦ λ same. let start : b.start ≡ area.start = ap (λ (a : Area). a.start) same in omega arith
          | false ↦ λ same. let start : max b.start (4096 * at) ≡ area.start = ap (λ (a : Area). a.start) same in omega arith
        ] (let k : part_of at page b ≡ area = cc in k)

-- where none crosses, a split at another page leaves none that crosses
pub none_after : (p at page : ℕ) (areas areas' : ℕ → Option Area) (spans spans' : List Span) → AreAreasOf p areas spans → AreAreasOf p areas' spans' →
    NoneCrosses page spans → ((q : ℕ) → pages_by areas' spans' q ≡ split_at at (pages_by areas spans) q) → NoneCrosses page spans'
none_after p at page areas areas' spans spans' stands stands' none pages =
    none_from p page areas' spans' stands' (λ area e. cut_keeps (pages_by areas spans) at page (none_starts p page areas spans stands none) area
    (sym (pages page) ∙ e))

-- ---- an area is split at a page of its own, or past one

-- the area that has a page, by its number
pub record IsFound (p n page : ℕ) (areas : ℕ → Option Area) (spans : List Span) (area : Area) : Type 0 where
  pub span : Span
  pub span_is : span_of spans n ≡ Some span
  pub is : IsAreaOf p span area
  pub here : pages_by areas spans page ≡ Some area
  pub low : first_of area ≤ page
  pub high : page < past_of area

pub found : (p n page : ℕ) (areas : ℕ → Option Area) (spans : List Span) (area : Area) → AreAreasOf p areas spans → area_at spans page ≡ Some n →
    areas n ≡ Some area → IsFound p n page areas spans area
found p n page areas spans area stands at used =
    let here : pages_by areas spans page ≡ Some area = ap (option_and_then areas) at ∙ used in
    let on = is_on p areas spans page area stands here in
    let same : n ≡ on.number = same_Some n on.number (sym at ∙ on.at) in
    record {
      span = on.span;
      span_is = ap (span_of spans) same ∙ on.span_is;
      is = on.is;
      here = here;
      low = (has_parts area page on.has).0;
      high = (has_parts area page on.has).1;
    }

pub found_inside : (p n at : ℕ) (areas : ℕ → Option Area) (spans : List Span) (area : Area) → IsFound p n at areas spans area → first_of area < at →
    IsSomeAnd (span_of spans n) (λ s. (s.from < at) × (at < s.to))
found_inside p n at areas spans area f below =
    let from = f.is.from in
    let to = f.is.to in
    let high = f.high in
    subst (λ o. IsSomeAnd o (λ s. (s.from < at) × (at < s.to))) (sym f.span_is) (omega arith, omega arith)

-- an area that begins with a page isn't split there
pub begins_uncut : (on : Pages) (at : ℕ) (area : Area) → AreLaid on → on at ≡ Some area → at ≤ first_of area → (page : ℕ)
    → on page ≡ split_at at on page
begins_uncut on at area laid here first = uncut on at laid (λ other e. subst (λ a. at ≤ first_of a) (same_Some area other (sym here ∙ e)) first)

-- nor is one that ends before it
pub ends_uncut : (on : Pages) (at : ℕ) (area : Area) → AreLaid on → 0 < at → on (at - 1) ≡ Some area → past_of area ≤ at →
    (page : ℕ) → on page ≡ split_at at on page
ends_uncut on at area laid some before past = uncut on at laid (λ other e. elim (cases_lt (first_of other) at) [
  | inr first ↦ first
  | inl below ↦
      let k = has_parts other at (laid.here at other e) in
      let high = k.1 in
      let same : area ≡ other =
      same_Some area other (sym before ∙ laid.all at (at - 1) other e (has_from other (at - 1) (omega arith) (omega arith))) in
      let far : at < past_of area = subst (λ a. at < past_of a) (sym same) high in
      absurd (omega arith)
])

-- an area that goes up to a page has the one before it
pub has_before : (p n at : ℕ) (areas : ℕ → Option Area) (spans : List Span) (area : Area) → AreAreasOf p areas spans →
    IsSomeAnd (span_of spans n) (λ s. (s.from < at) × (at ≤ s.to)) → areas n ≡ Some area → (0 < at) × (pages_by areas spans (at - 1) ≡ Some area)
has_before p n at areas spans area stands inside used = each (span_of spans n) refl inside
  where
    each : (o : Option Span) → span_of spans n ≡ o → IsSomeAnd o (λ s. (s.from < at) × (at ≤ s.to))
        → (0 < at) × (pages_by areas spans (at - 1) ≡ Some area)
    each None e h = absurd h
    each (Some s) e h = let low = h.0 in let high = h.1 in
        (omega arith, on_span p areas spans n s area (at - 1) stands e used (omega arith) (omega arith))

-- what begins with a page, after a split there, goes as far as what was on the page
pub goes_to : (p n from past : ℕ) (on : Pages) (areas : ℕ → Option Area) (spans : List Span) → AreAreasOf p areas spans → from < past →
    area_at spans from ≡ Some n → pages_by areas spans from ≡ split_at from on from → IsSomeAnd (on from) (λ area. past ≤ past_of area) →
    IsSomeAnd (span_of spans n) (λ s. (s.from < past) × (past ≤ s.to))
goes_to p n from past on areas spans stands some at is far = each (on from) refl far
  where
    each : (o : Option Area) → on from ≡ o → IsSomeAnd o (λ area. past ≤ past_of area)
        → IsSomeAnd (span_of spans n) (λ s. (s.from < past) × (past ≤ s.to))
    each None e h = absurd h
    each (Some area) e h =
        let part = record area { start = max area.start (4096 * from); pgoff = area.pgoff + (from - first_of area) } in
        let cut : part_of from from area ≡ part = rw (le-ltb from from (omega arith)) refl in
        let x = is_on p areas spans from part stands (is ∙ ap (option_map (part_of from from)) e ∙ ap Some cut) in
        let same : x.number ≡ n = same_Some x.number n (sym x.at ∙ at) in
        let low = (has_parts part from x.has).0 in
        let first = x.is.from in
        let last = x.is.to in
        subst (λ o. IsSomeAnd o (λ s. (s.from < past) × (past ≤ s.to))) (sym (ap (span_of spans) (sym same) ∙ x.span_is)) (omega arith, omega arith)
