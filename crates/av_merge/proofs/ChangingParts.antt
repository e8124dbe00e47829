-- A part of an area is changed: it is split off at both ends, its area is changed, and is joined with its neighbours.
use Rattle.std.proofs.Common.{◌≡◌, ℕ, ◌-◌, ◌*◌, ◌/◌, ◌<◌, ◌≤◌, not, min, max, true, false, cond, List, Option, Some, None, Result, Ok, Err, OnOk, IfSome, IsSomeAnd, option_map, refl, sym, ap, subst, ◌∙◌, arith}
use Rattle.std.specs.Prelude.{option_and_then}
use Rattle.std.proofs.lemmas.Bool.{and_from, false_from_ne_true, false≢true, lt-ltb, le-ltb}
use Rattle.std.proofs.lemmas.Option.{same_Some}
use Rattle.av_vma.specs.declared.area.Area.{Area}
use Rattle.av_vma.specs.Index.{first_of, past_of}
use Rattle.av_vma.specs.Join.{same_flags, same_prot}
use Rattle.av_base.specs.Words.{within, with_at}
use Rattle.av_vmatree.specs.declared.span.Span.{Span}
use Rattle.av_vmatree.specs.Spans.{area_at, span_of}
use Rattle.av_merge.specs.Mapping.{DoDiffer, Mapping, mapping, mapping_in, mapping_with}
use Rattle.av_vma.specs.Pages.{AreLaid, Pages, alters, split_at, has_page, joined_around, joined_at, part_of, Effect, with_effect, with_effect_on, IsWhole, Lengths}
use Rattle.av_vma.proofs.Split.{laid_split}
use Rattle.av_vma.proofs.Laid.{has_from, has_parts}
use Rattle.av_merge.specs.Pages.{pages_by}
use Rattle.av_merge.specs.Process.{AreAreasOf, IsAreaOf, Stays}
use Rattle.av_merge.proofs.PlacingLaws.{IsOn, change_others, change_pages, change_stands, is_on, one_area, stays_trans, within_from, within_parts}
use Rattle.av_vma.proofs.Join.{flags_as_itself, same_as_itself}
use Rattle.av_interval.specs.declared.span.Span as interval
use Rattle.av_anon.specs.Anons.{Family}
use Rattle.av_anon.specs.Order.{IsInOrder}
use Rattle.av_merge.specs.Kin.{KeepsKin}
use Rattle.av_merge.proofs.Kin.{keeps_fields}
use Rattle.av_merge.proofs.Lengths.{AreAlike, around_alike}
use Rattle.av_merge.proofs.PlacingMaps.{changed_maps, split_maps, joined_maps, laid_of, part_maps_to}

-- what is left of an area that is split before its part and past it
record IsExact (from past : ℕ) (area : Area) : Type 0 where
  pub begins : first_of area ≡ from
  pub ends : past_of area ≡ past

part_is_exact : (from past : ℕ) (area : Area) → IsWhole area → first_of area ≤ from → from < past → past ≤ past_of area →
    IsExact from past (part_of past from (part_of from from area))
part_is_exact from past area whole low some high =
    rw (le-ltb from from (omega arith), lt-ltb from past some) (record {
      begins = first area.start (first_of area) whole.start low;
      ends = last area.end (past_of area) whole.end high;
    })
  where
    first : (start n : ℕ) → start ≡ 4096 * n → n ≤ from → max start (4096 * from) / 4096 ≡ from
    first start n is low = omega arith

    last : (end n : ℕ) → end ≡ 4096 * n → past ≤ n → min end (4096 * past) / 4096 ≡ past
    last end n is high = omega arith

-- the area that has a page, where one that goes far enough has
record IsFar (on : Pages) (from past : ℕ) : Type 0 where
  pub area : Area
  pub is : on from ≡ Some area
  pub far : past ≤ past_of area

far_one : (on : Pages) (from past : ℕ) → IsSomeAnd (on from) (λ area. past ≤ past_of area) → IsFar on from past
far_one on from past h = go (on from) refl h
  where
    go : (o : Option Area) → on from ≡ o → IsSomeAnd o (λ area. past ≤ past_of area) → IsFar on from past
    go None is h = absurd h
    go (Some area) is h = record { area = area; is = is; far = h }

differ_at : (at : ℕ) (on : Pages) (m n : Mapping) → mapping on (at - 1) ≡ Some m → mapping on at ≡ Some n →
    (m.prot ≡ n.prot → m.flags ≡ n.flags → ⊥) → DoDiffer at on
differ_at at on m n before after apart =
    subst (λ o. IfSome o (λ a. IfSome (mapping on at) (λ b. a.prot ≡ b.prot → a.flags ≡ b.flags → ⊥))) (sym before)
    (subst (λ o. IfSome o (λ b. m.prot ≡ b.prot → m.flags ≡ b.flags → ⊥)) (sym after) apart)

-- what an effect makes another isn't so already
not_so : (effect : Effect) (area : Area) → alters effect area ≡ true → effect.prot area.prot ≡ area.prot → effect.flags area.flags ≡ area.flags → ⊥
not_so effect area altered prot flags =
    let both = and_from (same_prot (effect.prot area.prot) area.prot) (same_flags (effect.flags area.flags) area.flags)
    (ap (λ q. same_prot q area.prot) prot ∙ same_as_itself area.prot) (ap (λ f. same_flags f area.flags) flags ∙ flags_as_itself area.flags) in
    false≢true (sym (ap not both) ∙ altered)

module _ (len : Lengths) (p from past number : ℕ) (effect : Effect) (area : Area) (areas two changed : ℕ → Option Area) (spans spans'' : List Span)
    (some : from < past)
    (inside : IsSomeAnd (pages_by areas spans from) (λ area. past ≤ past_of area))
    (stands : AreAreasOf p areas spans) (stays : Stays p areas two spans'')
    (cut : (page : ℕ) → pages_by two spans'' page ≡ split_at past (split_at from (pages_by areas spans)) page)
    (found : area_at spans'' from ≡ Some number) (used : two number ≡ Some area)
    (now : (k : ℕ) → changed k ≡ with_at number (Some (with_effect effect area)) two k) where
  here : pages_by two spans'' from ≡ Some area
  here = ap (option_and_then two) found ∙ used

  on : IsOn p two spans'' from area
  on = is_on p two spans'' from area stays.areas here

  there : span_of spans'' number ≡ Some on.span
  there = ap (span_of spans'') (same_Some number on.number (sym found ∙ on.at)) ∙ on.span_is

  whole : IsFar (pages_by areas spans) from past
  whole = far_one (pages_by areas spans) from past inside

  exact : IsExact from past area
  exact =
      let laid = laid_of p areas spans stands in
      let low = (has_parts whole.area from (laid.here from whole.area whole.is)).0 in
      subst (IsExact from past) (same_Some _ area (sym (ap (option_map (part_of past from)) (ap (option_map (part_of from from)) whole.is))
      ∙ sym (cut from) ∙ here))
      (part_is_exact from past whole.area (laid.whole from whole.area whole.is) low some whole.far)

  is : IsAreaOf p on.span (with_effect effect area)
  is =
      let w = on.is.whole in
      record {
        process = on.is.process;
        whole = record { start = w.start; end = w.end; some = w.some; low = w.low; high = w.high; small = w.small };
        from = on.is.from;
        to = on.is.to;
      }

  pub changed_stands : AreAreasOf p changed spans''
  changed_stands = change_stands p number on.span (with_effect effect area) two changed spans'' stays.areas there is now

  pub changed_stays : Stays p areas changed spans''
  changed_stays =
      stays_trans p areas two changed spans'' spans'' stays
      (record {
        areas = changed_stands;
        others =
            change_others p number on.span (with_effect effect area) two changed spans'' stays.areas there is now;
      })

  -- the part's area is that of its pages alone, and has the effect
  changed_pages : (page : ℕ)
      → pages_by changed spans'' page ≡ with_effect_on from past effect (split_at past (split_at from (pages_by areas spans))) page
  changed_pages page =
      change_pages p number on.span (with_effect effect area) two changed spans'' stays.areas there is now page
      ∙ ap (λ b. cond b (Some (with_effect effect area)) (pages_by two spans'' page)) bounds
      ∙ elim (within from (past - from) page) as (λ b. within from (past - from) page ≡ b →
      cond b (Some (with_effect effect area)) (pages_by two spans'' page) ≡ cond b (option_map (with_effect effect) (pages_by two spans'' page))
      (pages_by two spans'' page)) [
        | true ↦ λ h. sym (ap (option_map (with_effect effect)) (one_area p two spans'' from page area stays.areas here (bounds ∙ h)))
        | false ↦ λ h. refl
      ] refl
      ∙ ap (λ (o : Option Area). cond (within from (past - from) page) (option_map (with_effect effect) o) o) (cut page)
    where
      bounds : has_page area page ≡ within from (past - from) page
      bounds = λ i. within (exact.begins i) (exact.ends i - exact.begins i) page

  laid : AreLaid (pages_by areas spans)
  laid = laid_of p areas spans stands

  laid_after : AreLaid (pages_by changed spans'')
  laid_after = laid_of p changed spans'' changed_stands

  -- how each page is mapped when the part has the effect
  changed_mapping : (page : ℕ) → mapping (pages_by changed spans'') page ≡ cond (within from (past - from) page)
      (option_map (mapping_with effect) (mapping (pages_by areas spans) page)) (mapping (pages_by areas spans) page)
  changed_mapping page =
      ap (option_map (mapping_in page)) (changed_pages page)
      ∙ changed_maps from past effect (split_at past (split_at from (pages_by areas spans))) page
      ∙ ap (λ (m : Option Mapping). cond (within from (past - from) page) (option_map (mapping_with effect) m) m)
      (split_maps past (split_at from (pages_by areas spans)) (laid_split from (pages_by areas spans) laid) page
      ∙ split_maps from (pages_by areas spans) laid page)

  -- the area that the part is of, where the effect makes it another
  module _ (one : Area) (there : pages_by areas spans from ≡ Some one) (altered : alters effect one ≡ true) where
    low : first_of one ≤ from
    low = (has_parts one from (laid.here from one there)).0

    on_one : (page : ℕ) → first_of one ≤ page → page < past_of one → mapping (pages_by areas spans) page ≡ Some (mapping_in page one)
    on_one page least most = ap (option_map (mapping_in page)) (laid.all from page one there (has_from one page least most))

    -- in the part and beside it
    changed_in : (page : ℕ) → from ≤ page → page < past → page < past_of one →
        mapping (pages_by changed spans'') page ≡ Some (mapping_with effect (mapping_in page one))
    changed_in page least most inside =
        let least_of = low in
        changed_mapping page
        ∙ ap (λ b. cond b (option_map (mapping_with effect) (mapping (pages_by areas spans) page)) (mapping (pages_by areas spans) page))
        (within_from from (past - from) page least (omega arith))
        ∙ ap (option_map (mapping_with effect)) (on_one page (omega arith) inside)

    beside : (page : ℕ) → (from ≤ page → page < past → ⊥) → first_of one ≤ page → page < past_of one →
        mapping (pages_by changed spans'') page ≡ Some (mapping_in page one)
    beside page out least most =
        changed_mapping page
        ∙ ap (λ b. cond b (option_map (mapping_with effect) (mapping (pages_by areas spans) page)) (mapping (pages_by areas spans) page))
        (false_from_ne_true _ (λ h. let k = within_parts from (past - from) page h in let first = k.0 in let last = k.1 in out first (omega arith)))
        ∙ on_one page least most

    pub differs_below : first_of one < from → DoDiffer from (pages_by changed spans'')
    differs_below below =
        let high = (has_parts one from (laid.here from one there)).1 in
        differ_at from (pages_by changed spans'') (mapping_in (from - 1) one) (mapping_with effect (mapping_in from one))
        (beside (from - 1) (λ first last. omega arith) (omega arith) (omega arith))
        (changed_in from (omega arith) some high)
        (λ prot flags. not_so effect one altered (sym prot) (sym flags))

    pub differs_above : past < past_of one → DoDiffer past (joined_at len from (pages_by changed spans''))
    differs_above above =
        let least = low in
        differ_at past (joined_at len from (pages_by changed spans'')) (mapping_with effect (mapping_in (past - 1) one)) (mapping_in past one)
        (joined_maps len from (pages_by changed spans'') laid_after (past - 1) ∙ changed_in (past - 1) (omega arith) (omega arith) (omega arith))
        (joined_maps len from (pages_by changed spans'') laid_after past ∙ beside past (λ first last. omega arith) (omega arith) above)
        (not_so effect one altered)

  -- the area's own anon_vma and its linear indices stay
  pub changed_kin : (f : Family) (s : ℕ → List interval.Span) → IsInOrder two f s → KeepsKin two changed f f s
  changed_kin f s o = keeps_fields two changed f s number o area (with_effect effect area) used refl refl is.whole now

  pub part_pages : {T E : Type 0} (len' : Lengths) → AreAlike len len' (pages_by changed spans'') → (r : Result T E) (new : Pages) →
      OnOk r ((page : ℕ) → new page ≡ joined_around len from past (pages_by changed spans'') page) →
      OnOk r ((page : ℕ) → new page ≡ joined_around len' from past
      (with_effect_on from past effect (split_at past (split_at from (pages_by areas spans))))
      page)
  part_pages len' alike (Ok x) new h = λ page. h page ∙ around_alike len len' from past (pages_by changed spans'') alike page
      ∙ (λ i. joined_around len' from past (λ q. changed_pages q i) page)
  part_pages len' alike (Err e) new h = tt

  pub part_mapping : {T E : Type 0} (r : Result T E) (new : Pages) →
      OnOk r ((page : ℕ) → new page ≡ joined_around len from past (pages_by changed spans'') page) →
      OnOk r ((page : ℕ) → mapping new page ≡ cond (within from (past - from) page)
      (option_map (mapping_with effect) (mapping (pages_by areas spans) page))
      (mapping (pages_by areas spans) page))
  part_mapping (Ok x) new h = λ page. part_maps_to len from past effect (pages_by areas spans) (pages_by changed spans'') new
      laid laid_after changed_pages h page
  part_mapping (Err e) new h = tt
