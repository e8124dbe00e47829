-- A join of two areas of a process, in its tree and by number: the upper one goes, and the two as one are put in the lower one's place.
use Rattle.std.proofs.Common.{◌≡◌, ◌≢◌, ℕ, ◌-◌, ◌<◌, ◌≤◌, IsSomeAnd, true, false, cond, ◌&&◌, inl, inr, List, Option, Some, None, IfSome, option_map, is_some, Bool, length, refl, sym, ap, subst, ◌∙◌, arith}
use Rattle.std.specs.Prelude.{option_and_then}
use Rattle.std.proofs.lemmas.Bool.{eq-eqb, ne_eqb, both_ways}
use Rattle.std.proofs.lemmas.Option.{none-some, same_Some}
use Rattle.av_vma.specs.declared.area.Area.{Area}
use Rattle.av_vma.specs.Index.{first_of, past_of}
use Rattle.std.specs.Option.{option_or}
use Rattle.av_vma.specs.Join.{are_joinable}
use Rattle.av_interval.specs.declared.span.Span as interval
use Rattle.av_anon.specs.Anons.{Family, give_own, own_of, with_own}
use Rattle.av_anon.specs.Kin.{length_by}
use Rattle.av_anon.specs.Order.{IsInOrder}
use Rattle.av_anon.specs.Resize.{with_bounds}
use Rattle.av_base.specs.Words.{with_at}
use Rattle.av_vmatree.specs.declared.span.Span.{Span}
use Rattle.av_vmatree.specs.Spans.{AreSpans, IsFree, area_at, first_from, last_below, span_of, is_page_taken, unless_area, without_area}
use Rattle.av_vmatree.proofs.Sides.{all_wide, below_is, below_must, from_is, from_must}
use Rattle.av_vmatree.proofs.Spans.{all_found}
use Rattle.av_vma.specs.Pages.{Pages, has_page, do_join, joined_at, join_of, with_area, after_join, IsWhole, Lengths}
use Rattle.av_vma.proofs.Join.{join_is, left_pages, right_pages, joined_pages, joined_whole, tried_is}
use Rattle.av_vma.proofs.Laid.{has_from, has_parts}
use Rattle.av_merge.specs.Mapping.{DoDiffer, mapping, mapping_in}
use Rattle.av_merge.specs.Pages.{pages_by}
use Rattle.av_merge.specs.Process.{AreAreasOf, IsAreaOf, Stays}
use Rattle.av_merge.proofs.PlacingLaws.{IsOn, is_on, at_rest, at_span, change_others, change_stands, stays_trans, take_stands, take_others}
use Rattle.av_merge.proofs.Kin.{length_is}
use Rattle.av_merge.proofs.PlacingMaps.{laid_of}

module _ (len : Lengths) (p l r at : ℕ) (lower upper : Area) (areas : ℕ → Option Area) (spans : List Span)
    (stands : AreAreasOf p areas spans)
    (left_at : area_at spans (at - 1) ≡ Some l) (right_at : area_at spans at ≡ Some r)
    (lower_is : areas l ≡ Some lower) (upper_is : areas r ≡ Some upper)
    (joins : do_join len lower upper ≡ true) where
  before : pages_by areas spans (at - 1) ≡ Some lower
  before = ap (option_and_then areas) left_at ∙ lower_is

  after : pages_by areas spans at ≡ Some upper
  after = ap (option_and_then areas) right_at ∙ upper_is

  on_left : IsOn p areas spans (at - 1) lower
  on_left = is_on p areas spans (at - 1) lower stands before

  on_right : IsOn p areas spans at upper
  on_right = is_on p areas spans at upper stands after

  left_span : span_of spans l ≡ Some on_left.span
  left_span = ap (span_of spans) (same_Some l on_left.number (sym left_at ∙ on_left.at)) ∙ on_left.span_is

  right_span : span_of spans r ≡ Some on_right.span
  right_span = ap (span_of spans) (same_Some r on_right.number (sym right_at ∙ on_right.at)) ∙ on_right.span_is

  two : l ≢ r
  two same =
      let one : lower ≡ upper = same_Some lower upper (sym lower_is ∙ ap areas same ∙ upper_is) in
      let j = join_is len lower upper joins in
      let whole = on_left.is.whole in
      let start : upper.start ≡ lower.start = ap (λ (a : Area). a.start) (sym one) in
      omega arith

  pub join_whole : IsWhole (join_of lower upper)
  join_whole = joined_whole len lower upper on_left.is.whole on_right.is.whole joins

  -- where the lower area is, and where the upper one is
  at_left : (page : ℕ) → has_page lower page ≡ true → area_at spans page ≡ Some l
  at_left page h =
      let k = has_parts lower page h in
      at_span spans l on_left.span page stands.spans_are.apart left_span (subst (λ n. n ≤ page) (sym on_left.is.from) k.0)
      (subst (λ n. page < n) (sym on_left.is.to) k.1)

  at_right : (page : ℕ) → has_page upper page ≡ true → area_at spans page ≡ Some r
  at_right page h =
      let k = has_parts upper page h in
      at_span spans r on_right.span page stands.spans_are.apart right_span (subst (λ n. n ≤ page) (sym on_right.is.from) k.0)
      (subst (λ n. page < n) (sym on_right.is.to) k.1)

  -- the upper area begins with the page
  pub right_from : IsSomeAnd (span_of spans r) (λ s. s.from ≡ at)
  right_from =
      let left_has = has_parts lower (at - 1) on_left.has in
      let right_has = has_parts upper at on_right.has in
      let low : first_of upper ≤ at = right_has.0 in
      let high : at - 1 < past_of lower = left_has.1 in
      let j = join_is len lower upper joins in
      let from = on_right.is.from in
      let is : on_right.span.from ≡ at = omega arith in
      subst (λ o. IsSomeAnd o (λ s. s.from ≡ at)) (sym right_span) is

  -- the boundary lies within the two as one
  pub join_below : first_of (join_of lower upper) < at
  join_below =
      let left_has : first_of lower ≤ at - 1 = (has_parts lower (at - 1) on_left.has).0 in
      let low = on_left.is.whole.low in
      omega arith

  pub join_above : at < past_of (join_of lower upper)
  join_above = let right_has : at < past_of upper = (has_parts upper at on_right.has).1 in omega arith

  -- the pages of the upper one are those of the two as one, and the area of each other page stays
  pub upper_goes : (page : ℕ) → area_at spans page ≡ Some r → has_page (join_of lower upper) page ≡ true
  upper_goes page e = right_pages len lower upper on_left.is.whole on_right.is.whole joins page
      ((laid_of p areas spans stands).here page upper (ap (option_and_then areas) e ∙ upper_is))

  -- of the others each stays, and a page without an area has none
  other_stays : (page k : ℕ) → k ≢ r → area_at spans page ≡ Some k →
      cond (has_page (join_of lower upper) page) (Some l) (unless_area l (unless_area r (area_at spans page))) ≡ Some k
  other_stays page k apart e =
      elim (has_page (join_of lower upper) page) as (λ b. has_page (join_of lower upper) page ≡ b →
      cond b (Some l) (unless_area l (unless_area r (area_at spans page))) ≡ Some k) [
        | true ↦ λ h. elim (joined_pages len lower upper on_left.is.whole on_right.is.whole joins page h) [
          | inl g ↦ sym (at_left page g) ∙ e
          | inr g ↦ absurd (apart (same_Some k r (sym e ∙ at_right page g)))
        ]
        | false ↦ λ h.
            let not_left : k ≢ l = λ same. both_ways (has_page (join_of lower upper) page) h
            (left_pages len lower upper on_left.is.whole on_right.is.whole joins page
            ((laid_of p areas spans stands).here page lower (ap (option_and_then areas) e ∙ ap areas same ∙ lower_is))) in
            rw (e, ne_eqb k r apart, ne_eqb k l not_left) refl
      ] refl

  none_stays : (page : ℕ) → area_at spans page ≡ None →
      cond (has_page (join_of lower upper) page) (Some l) (unless_area l (unless_area r (area_at spans page))) ≡ None
  none_stays page e =
      elim (has_page (join_of lower upper) page) as (λ b. has_page (join_of lower upper) page ≡ b →
      cond b (Some l) (unless_area l (unless_area r (area_at spans page))) ≡ None) [
        | true ↦ λ h. elim (joined_pages len lower upper on_left.is.whole on_right.is.whole joins page h) [
          | inl g ↦ absurd (none-some l (sym e ∙ at_left page g))
          | inr g ↦ absurd (none-some r (sym e ∙ at_right page g))
        ]
        | false ↦ λ h. rw e refl
      ] refl

  pub others_stay : (page : ℕ) → area_at spans page ≢ Some r →
      cond (has_page (join_of lower upper) page) (Some l) (unless_area l (unless_area r (area_at spans page))) ≡ area_at spans page
  others_stay page apart = go (area_at spans page) refl
    where
      go : (o : Option ℕ) → area_at spans page ≡ o →
          cond (has_page (join_of lower upper) page) (Some l) (unless_area l (unless_area r (area_at spans page))) ≡ area_at spans page
      go None e = none_stays page e ∙ sym e
      go (Some k) e = other_stays page k (λ same. apart (e ∙ ap Some same)) e ∙ sym e

  -- the lower area has the anon_vma that either had, and the upper area has been taken out
  module _ (areas' : ℕ → Option Area) (spans' : List Span)
      (now : (k : ℕ) → areas' k ≡ with_at r None (with_at l (Some (record lower { anon = option_or lower.anon upper.anon })) areas) k)
      (kept : AreSpans spans') (spans_now : (k : ℕ) → span_of spans' k ≡ with_at r None (span_of spans) k)
      (pages_now : (page : ℕ) → area_at spans' page ≡ unless_area r (area_at spans page)) where
    left_now : span_of spans' l ≡ Some on_left.span
    left_now = spans_now l ∙ ap (λ b. cond b None (span_of spans l)) (ne_eqb l r two) ∙ left_span

    pub left_from : IsSomeAnd (span_of spans' l) (λ s. s.from ≡ first_of (join_of lower upper))
    left_from = subst (λ o. IsSomeAnd o (λ s. s.from ≡ first_of (join_of lower upper))) (sym left_now) on_left.is.from

    pub left_was : IsSomeAnd (areas' l) (λ old. join_of lower upper ≡ with_bounds lower.start upper.end lower.pgoff old)
    left_was =
        let here : areas' l ≡ Some (record lower { anon = option_or lower.anon upper.anon }) = now l ∙ rw (ne_eqb l r two, eq-eqb l l refl) refl in
        subst (λ o. IsSomeAnd o (λ old. join_of lower upper ≡ with_bounds lower.start upper.end lower.pgoff old)) (sym here) refl

    pub join_free : IsFree (is_page_taken (without_area l spans')) (first_of lower) (past_of upper)
    join_free page low high =
        ap is_some (at_rest spans' l on_left.span page kept left_now ∙ ap (unless_area l) (pages_now page))
        ∙ elim (joined_pages len lower upper on_left.is.whole on_right.is.whole joins page (has_from (join_of lower upper) page low high)) [
          | inl h ↦ rw (at_left page h, ne_eqb l r two, eq-eqb l l refl) refl
          | inr h ↦ rw (at_right page h, eq-eqb r r refl) refl
        ]

    -- the pages of neither stay
    rest : (page : ℕ) → has_page (join_of lower upper) page ≡ false → pages_by (with_at l None areas') spans' page ≡ pages_by areas spans page
    rest page out = ap (option_and_then (with_at l None areas')) (pages_now page) ∙ go (area_at spans page) refl
      where
        go : (o : Option ℕ) → area_at spans page ≡ o → option_and_then (with_at l None areas') (unless_area r o) ≡ option_and_then areas o
        go None e = refl
        go (Some k) e =
            let not_left : k ≢ l = λ same. both_ways (has_page (join_of lower upper) page) out
            (left_pages len lower upper on_left.is.whole on_right.is.whole joins page
            ((laid_of p areas spans stands).here page lower (ap (option_and_then areas) e ∙ ap areas same ∙ lower_is))) in
            let not_right : k ≢ r = λ same. both_ways (has_page (join_of lower upper) page) out
            (right_pages len lower upper on_left.is.whole on_right.is.whole joins page
            ((laid_of p areas spans stands).here page upper (ap (option_and_then areas) e ∙ ap areas same ∙ upper_is))) in
            rw (ne_eqb k r not_right, ne_eqb k l not_left) (now k ∙ ap (λ b. cond b None
            (with_at l (Some (record lower { anon = option_or lower.anon upper.anon })) areas k)) (ne_eqb k r not_right)
            ∙ ap (λ b. cond b (Some (record lower { anon = option_or lower.anon upper.anon })) (areas k)) (ne_eqb k l not_left))

    pub join_pages : (page : ℕ)
        → with_area (join_of lower upper) (pages_by (with_at l None areas') spans') page ≡ joined_at len at (pages_by areas spans) page
    join_pages page =
        elim (has_page (join_of lower upper) page) as (λ b. has_page (join_of lower upper) page ≡ b →
        cond b (Some (join_of lower upper)) (pages_by (with_at l None areas') spans' page) ≡ cond b (Some (join_of lower upper))
        (pages_by areas spans page)) [
          | true ↦ λ h. refl
          | false ↦ λ h. rest page h
        ] refl
        ∙ ap (λ b. cond (b && has_page (join_of lower upper) page) (Some (join_of lower upper)) (pages_by areas spans page)) (sym joins)
        ∙ sym (λ i. after_join len (before i) (after i) page (pages_by areas spans page))

    is_given : IsAreaOf p on_left.span (record lower { anon = option_or lower.anon upper.anon })
    is_given =
        let w = on_left.is.whole in
        record {
          process = on_left.is.process;
          whole = record { start = w.start; end = w.end; some = w.some; low = w.low; high = w.high; small = w.small };
          from = on_left.is.from;
          to = on_left.is.to;
        }

    stays_given : Stays p areas (with_at l (Some (record lower { anon = option_or lower.anon upper.anon })) areas) spans
    stays_given = record {
      areas = change_stands p l on_left.span (record lower { anon = option_or lower.anon upper.anon }) areas
          (with_at l (Some (record lower { anon = option_or lower.anon upper.anon })) areas) spans stands left_span is_given (λ k. refl);
      others = change_others p l on_left.span (record lower { anon = option_or lower.anon upper.anon }) areas
          (with_at l (Some (record lower { anon = option_or lower.anon upper.anon })) areas) spans stands left_span is_given (λ k. refl);
    }

    stays_taken : Stays p areas areas' spans'
    stays_taken = stays_trans p areas (with_at l (Some (record lower { anon = option_or lower.anon upper.anon })) areas) areas'
        spans spans' stays_given (record {
          areas = take_stands p r on_right.span (with_at l (Some (record lower { anon = option_or lower.anon upper.anon })) areas) areas' spans spans'
              stays_given.areas right_span now kept spans_now pages_now;
          others = take_others p r on_right.span (with_at l (Some (record lower { anon = option_or lower.anon upper.anon })) areas)
              areas' spans spans'
              stays_given.areas right_span now kept spans_now pages_now;
        })

    pub right_taken : AreAreasOf lower.pid areas' spans'
    right_taken = subst (λ q. AreAreasOf q areas' spans') (sym on_left.is.process) stays_taken.areas

    pub join_stays : (new : ℕ → Option Area) (spans'' : List Span) → Stays lower.pid areas' new spans'' → Stays p areas new spans''
    join_stays new spans'' h =
        stays_trans p areas areas' new spans' spans'' stays_taken (subst (λ q. Stays q areas' new spans'') on_left.is.process h)

-- what the areas are once the lower one has the anon_vma that either had, and the upper one is out
pub joined_now : (areas one two' : ℕ → Option Area) (l r : ℕ) (lower upper : Area) → areas l ≡ Some lower → areas r ≡ Some upper
    → ((k : ℕ) → one k ≡ give_own l (option_or (own_of (areas l)) (own_of (areas r))) areas k) → ((k : ℕ) → two' k ≡ with_at r None one k)
    → (k : ℕ) → two' k ≡ with_at r None (with_at l (Some (record lower { anon = option_or lower.anon upper.anon })) areas) k
joined_now areas one two' l r lower upper low up first second k =
    second k
    ∙ (λ i. with_at r None (λ q. first q i) k)
    ∙ (λ i. with_at r None (with_at l (with_own (option_or (own_of (low i)) (own_of (up i))) (low i)) areas) k)

-- the test of two areas, by how long their chains are found to be
pub test_is : (areas : ℕ → Option Area) (f : Family) (spans : ℕ → List interval.Span) (l r : ℕ) (lower upper : Area) (m n : ℕ) (b : Bool) →
    IsInOrder areas f spans → areas l ≡ Some lower → areas r ≡ Some upper
    → m ≡ cond (is_some lower.anon) (length (f.chain l)) 0 → n ≡ cond (is_some upper.anon) (length (f.chain r)) 0
    → b ≡ are_joinable lower m upper n →
    do_join (length_by areas f) lower upper ≡ b
test_is areas f spans l r lower upper m n b o low up first second is =
    let m' : length_by areas f lower.anon ≡ m = sym (first ∙ length_is areas f spans l lower o low) in
    let n' : length_by areas f upper.anon ≡ n = sym (second ∙ length_is areas f spans r upper o up) in
    (λ i. are_joinable lower (m' i) upper (n' i)) ∙ sym is

-- two areas that don't join stay
pub apart_stay : (len : Lengths) (at l r : ℕ) (areas : ℕ → Option Area) (spans : List Span) (lower upper : Area) → area_at spans (at - 1) ≡ Some l →
    area_at spans at ≡ Some r → areas l ≡ Some lower → areas r ≡ Some upper → do_join len lower upper ≡ false
    → (page : ℕ) → pages_by areas spans page ≡ joined_at len at (pages_by areas spans) page
apart_stay len at l r areas spans lower upper left right low up out page =
    let before : pages_by areas spans (at - 1) ≡ Some lower = ap (option_and_then areas) left ∙ low in
    let after : pages_by areas spans at ≡ Some upper = ap (option_and_then areas) right ∙ up in
    sym ((λ i. after_join len (before i) (after i) page (pages_by areas spans page))
    ∙ ap (λ b. cond (b && has_page (join_of lower upper) page) (Some (join_of lower upper)) (pages_by areas spans page)) out)

-- ---- a boundary that is left as it is

-- where the areas on its two sides don't join, trying a boundary changes nothing
pub not_joined : (len : Lengths) (at : ℕ) (on : Pages)
    → ((left right : Area) → on (at - 1) ≡ Some left → on at ≡ Some right → do_join len left right ≡ true →
    ⊥) → (page : ℕ) → on page ≡ joined_at len at on page
not_joined len at on apart page = elim (tried_is len at page on) [
  | inl t ↦ absurd (apart t.left t.right t.before t.after t.joins)
  | inr k ↦ sym k.is
]

-- the areas on the two sides of a boundary, where they join: one ends and the other begins there
pub record AreSides (at : ℕ) (spans : List Span) : Type 0 where
  pub left : Span
  pub right : Span
  pub below : last_below spans at ≡ Some left
  pub above : first_from spans at ≡ Some right
  pub ends : left.to ≡ at
  pub begins : right.from ≡ at

pub sides_of : (len : Lengths) (p at : ℕ) (areas : ℕ → Option Area) (spans : List Span) (left right : Area) → AreAreasOf p areas spans →
    pages_by areas spans (at - 1) ≡ Some left → pages_by areas spans at ≡ Some right → do_join len left right ≡ true → AreSides at spans
sides_of len p at areas spans left right stands before after joins =
    let l = is_on p areas spans (at - 1) left stands before in
    let r = is_on p areas spans at right stands after in
    let j = join_is len left right joins in
    let left_high : at - 1 < past_of left = (has_parts left (at - 1) l.has).1 in
    let right_low : first_of right ≤ at = (has_parts right at r.has).0 in
    let left_some : first_of left ≤ at - 1 = (has_parts left (at - 1) l.has).0 in
    let left_wide = l.is.whole.some in
    let low = l.is.whole.low in
    let left_from = l.is.from in
    let left_to = l.is.to in
    let right_from = r.is.from in
    let ends : l.span.to ≡ at = omega arith in
    let begins : r.span.from ≡ at = omega arith in
    record {
      left = l.span;
      right = r.span;
      below = below_must spans l.number at l.span stands.spans_are.apart l.span_is (omega arith) (omega arith);
      above = from_must spans r.number at r.span stands.spans_are.apart r.span_is begins;
      ends = ends;
      begins = begins;
    }

-- an area that ends at a page has the one before, and an area that begins with it has it
pub left_side : (spans : List Span) (at : ℕ) (s : Span) → AreSpans spans → 0 < at → last_below spans at ≡ Some s → s.to ≡ at →
    area_at spans (at - 1) ≡ Some s.area
left_side spans at s good some e ends =
    let k = below_is spans at s good.distinct e in
    let side = k.side in
    at_span spans s.area s (at - 1) good.apart k.there (omega arith) (omega arith)

pub right_side : (spans : List Span) (at : ℕ) (s : Span) → AreSpans spans → first_from spans at ≡ Some s → s.from ≡ at
    → area_at spans at ≡ Some s.area
right_side spans at s good e begins =
    let k = from_is spans at s good.distinct e in
    let wide : s.from < s.to = all_found (λ t. t.from < t.to) s.area spans s (all_wide spans good.apart) k.there in
    at_span spans s.area s at good.apart k.there (omega arith) (omega arith)

-- and the page before its end
pub last_side : (spans : List Span) (at past : ℕ) (s : Span) → AreSpans spans → at < past → first_from spans at ≡ Some s → s.from ≡ at → s.to ≡ past →
    area_at spans (past - 1) ≡ Some s.area
last_side spans at past s good some e begins ends =
    let k = from_is spans at s good.distinct e in
    at_span spans s.area s (past - 1) good.apart k.there (omega arith) (omega arith)

-- where pages are mapped with another protection or flags, their areas don't join
pub differ_apart : (len : Lengths) (at : ℕ) (on : Pages) → DoDiffer at on → (left right : Area) → on (at - 1) ≡ Some left → on at ≡ Some right →
    do_join len left right ≡ true → ⊥
differ_apart len at on differ left right before after joins =
    let j = join_is len left right joins in
    let first = subst (λ o. IfSome (option_map (mapping_in (at - 1)) o) (λ m. IfSome (mapping on at) (λ n. m.prot ≡ n.prot → m.flags ≡ n.flags → ⊥)))
    before differ in
    subst (λ o. IfSome (option_map (mapping_in at) o) (λ n. left.prot ≡ n.prot → left.flags ≡ n.flags → ⊥)) after first j.prot j.flags
