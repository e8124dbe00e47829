-- How far the old range is mapped again that a move left: page by page, each like the page that moved from there.
use Rattle.std.proofs.Common.{◌≡◌, ℕ, suc, ◌+◌, ◌-◌, ◌<◌, ◌≤◌, min, true, false, cond, List, Option, Some, None, is_some, option_map, refl, sym, ap, subst, ◌∙◌, arith}
use Rattle.std.specs.Prelude.{option_and_then}
use Rattle.std.proofs.lemmas.Bool.{false_from_ne_true, both_ways}
use Rattle.std.proofs.lemmas.Bool.Decides.{nat_tests}
use Rattle.av_base.specs.Flags.{unlocked}
use Rattle.av_base.specs.Limits.{low_page, top_page}
use Rattle.av_base.specs.Words.{within}
use Rattle.av_base.specs.declared.flags.Flags.{Flags}
use Rattle.av_base.specs.declared.prot.Prot.{Prot}
use Rattle.av_vma.specs.declared.area.Area.{Area}
use Rattle.av_vma.specs.Gap.{IsRoom}
use Rattle.av_vma.specs.Index.{past_of}
use Rattle.av_vma.specs.Mremap.{pages_from, pages_left}
use Rattle.av_vma.specs.Pages.{Lengths, Pages, after_map, fresh_area, with_area}
use Rattle.av_vma.proofs.Laid.{fresh_has, has_area, has_from, has_parts, laid_fresh}
use Rattle.av_vma.proofs.LeftRuns.{left_run, left_then}
use Rattle.av_vma.proofs.Marks.{area_marks, marks}
use Rattle.av_vmatree.specs.declared.span.Span.{Span}
use Rattle.av_vmatree.specs.Spans.{IsFree, area_at, is_page_taken}
use Rattle.av_merge.specs.Mapping.{Mapping, mapping, mapping_in}
use Rattle.av_merge.specs.Pages.{pages_by}
use Rattle.av_merge.specs.Process.{AreAreasOf, Stays}
use Rattle.av_merge.proofs.Lengths.{AreAlike, map_alike}
use Rattle.av_merge.proofs.PlacingLaws.{is_on, one_area, others_refl, stays_trans, taken_is, within_parts}
use Rattle.av_merge.proofs.PlacingMaps.{around_maps, laid_of, placed_maps}

pub record IsLeft (len : Lengths) (p from page past like : ℕ) (old : ℕ → Option Area) (before : List Span) (areas : ℕ → Option Area)
    (spans : List Span) : Type 0 where
  pub least : from ≤ page
  pub most : page ≤ past
  pub stays : Stays p old areas spans
  pub others : (q : ℕ) → within from (page - from) q ≡ false → mapping (pages_by areas spans) q ≡ mapping (pages_by old before) q
  pub exact : pages_by areas spans ≡ pages_left len p (pages_from like from (pages_by old before)) from (page - from) (pages_by old before)

-- none of it is yet
pub left_none : (len : Lengths) (p from past like : ℕ) (old : ℕ → Option Area) (before : List Span) → AreAreasOf p old before → from ≤ past
    → IsLeft len p from from past like old before old before
left_none len p from past like old before stands forward = record {
  least = omega arith;
  most = forward;
  stays = record { areas = stands; others = others_refl p old };
  others = λ q out. refl;
  exact = (let none : 0 ≡ from - from = omega arith in
      ap (λ n. pages_left len p (pages_from like from (pages_by old before)) from n (pages_by old before)) none);
}

some_mapped : (on : Pages) (page : ℕ) → is_some (mapping on page) ≡ is_some (on page)
some_mapped on page = go (on page)
  where
    go : (o : Option Area) → is_some (option_map (mapping_in page) o) ≡ is_some o
    go None = refl
    go (Some area) = refl

mapped_marks : (on : Pages) (page : ℕ) (area : Area) → mapping on page ≡ Some (mapping_in page area) → marks on page ≡ Some (area_marks area)
mapped_marks on page area e = each (on page) e
  where
    each : (o : Option Area) → option_map (mapping_in page) o ≡ Some (mapping_in page area) → option_map area_marks o ≡ Some (area_marks area)
    each None e = absurd cc
    each (Some other) e = ap (option_map by) e
      where
        by : Mapping → Prot × Flags
        by m = (m.prot, m.flags)

module _ (len : Lengths) (p from page past like : ℕ) (old : ℕ → Option Area) (before : List Span) (areas : ℕ → Option Area) (spans : List Span)
    (stands : AreAreasOf p old before) (low : low_page ≤ from) (high : past ≤ top_page) (free : IsFree (is_page_taken before) from past)
    (mapped : (q : ℕ) → like ≤ q → q < like + (past - from) → is_page_taken before q ≡ true)
    (left : IsLeft len p from page past like old before areas spans) (more : page < past) where
  abbrev at : ℕ
  at = like + (page - from)

  mid : AreAreasOf p areas spans
  mid = left.stays.areas

  -- a page from which on is taken over is none of the range
  apart : (q : ℕ) → like ≤ q → q < like + (past - from) → within from (page - from) q ≡ false
  apart q least less = false_from_ne_true (within from (page - from) q) (λ h.
      let k = within_parts from (page - from) q h in
      let from_is = left.least in
      let first = k.0 in
      let last = k.1 in
      both_ways (is_page_taken before q) (free q first (omega arith)) (mapped q least less))

  still : (q : ℕ) → like ≤ q → q < like + (past - from) → mapping (pages_by areas spans) q ≡ mapping (pages_by old before) q
  still q least less = left.others q (apart q least less)

  pub like_taken : is_page_taken spans at ≡ true
  like_taken =
      let least = left.least in
      sym (taken_is p areas spans at mid) ∙ sym (some_mapped (pages_by areas spans) at) ∙ ap is_some (still at (omega arith) (omega arith))
      ∙ some_mapped (pages_by old before) at ∙ taken_is p old before at stands ∙ mapped at (omega arith) (omega arith)

  -- the range is free from the page on
  beyond : (q : ℕ) → page ≤ q → within from (page - from) q ≡ false
  beyond q least = let first = left.least in grind (arith, nat_tests)

  still_free : (q : ℕ) → page ≤ q → q < past → is_page_taken spans q ≡ false
  still_free q least less =
      let first = left.least in
      sym (taken_is p areas spans q mid) ∙ sym (some_mapped (pages_by areas spans) q) ∙ ap is_some (left.others q (beyond q least))
      ∙ some_mapped (pages_by old before) q ∙ taken_is p old before q stands ∙ free q (omega arith) less

  none_there : (q : ℕ) → page ≤ q → q < past → pages_by areas spans q ≡ None
  none_there q least less = none (pages_by areas spans q) (taken_is p areas spans q mid ∙ still_free q least less)
    where
      none : (o : Option Area) → is_some o ≡ false → o ≡ None
      none None e = refl
      none (Some area) e = absurd cc

  module _ (number : ℕ) (area : Area) (there : area_at spans at ≡ Some number) (is : areas number ≡ Some area) where
    here : pages_by areas spans at ≡ Some area
    here = ap (option_and_then areas) there ∙ is

    pub like_goes_on : at < past_of area
    like_goes_on = (has_parts area at (is_on p areas spans at area mid here).has).1

    pub like_high : past_of area ≤ top_page
    like_high = (is_on p areas spans at area mid here).is.whole.high

    abbrev end : ℕ
    end = min past (page + (past_of area - at))

    pub end_more : page < end
    end_more = let goes = like_goes_on in omega arith

    pub end_free : IsFree (is_page_taken spans) page end
    end_free q least less = still_free q least (let goes = like_goes_on in omega arith)

    -- the pages that the run is like
    alike : (q : ℕ) → page ≤ q → q < end → marks (pages_from like from (pages_by old before)) q ≡ Some (area_marks area)
    alike q least less =
        let first = left.least in
        let goes = like_goes_on in
        let begins = (has_parts area at (is_on p areas spans at area mid here).has).0 in
        let other = like + (q - from) in
        mapped_marks (pages_by old before) other area (sym (still other (omega arith) (omega arith))
        ∙ ap (option_map (mapping_in other)) (one_area p areas spans at other area mid here
        (has_from area other (omega arith) (omega arith))))

    room : IsRoom (has_area (pages_by areas spans)) (end - page) page
    room = record {
      lowest = let first = left.least in omega arith;
      highest = let goes = like_goes_on in omega arith;
      free = λ q least less. ap is_some (none_there q least (let goes = like_goes_on in omega arith));
    }

    abbrev fresh : Area
    fresh = fresh_area p page end area.prot (unlocked area.flags)

    left_next : (len' : Lengths) (areas' : ℕ → Option Area) (spans' : List Span) → len' None ≡ len None → AreAlike len' len (pages_by areas spans)
        → Stays p areas areas' spans'
        → ((q : ℕ) → pages_by areas' spans' q ≡ after_map len' p page end area.prot (unlocked area.flags) (pages_by areas spans) q)
        → IsLeft len p from end past like old before areas' spans'
    left_next len' areas' spans' none same stays now = record {
      least = let first = left.least in let some = end_more in omega arith;
      most = omega arith;
      stays = stays_trans p old areas areas' spans spans' left.stays stays;
      others = λ q out.
          ap (option_map (mapping_in q)) (now q)
          ∙ around_maps len' page end (with_area fresh (pages_by areas spans))
          (laid_fresh p page end area.prot (unlocked area.flags) (pages_by areas spans) end_more room (laid_of p areas spans mid)) q
          ∙ placed_maps fresh (pages_by areas spans) q
          ∙ ap (λ b. cond b (Some (mapping_in q fresh)) (mapping (pages_by areas spans) q))
          (fresh_has p page end area.prot (unlocked area.flags) q ∙ not_here q out)
          ∙ left.others q (nor_before q out);
      exact =
          let first = left.least in
          let goes = like_goes_on in
          let n = end - page - 1 in
          let all : page + suc n ≡ end = omega arith in
          let many : suc n ≡ end - page = omega arith in
          let begin : page ≡ from + (page - from) = omega arith in
          let sum : (page - from) + (end - page) ≡ end - from = omega arith in
          let was = pages_from like from (pages_by old before) in
          (λ i q. (now q ∙ map_alike len' len p page end area.prot (unlocked area.flags) (pages_by areas spans) none same q) i)
          ∙ ap (λ e. after_map len p page e area.prot (unlocked area.flags) (pages_by areas spans)) (sym all)
          ∙ sym (left_run len p was area.prot area.flags (pages_by areas spans) (laid_of p areas spans mid) page end (omega arith)
          (λ q least less. none_there q least (omega arith)) alike n (omega arith))
          ∙ ap (λ k. pages_left len p was page k (pages_by areas spans)) many
          ∙ (λ i. pages_left len p was (begin i) (end - page) (left.exact i))
          ∙ left_then len p was from (page - from) (end - page) (pages_by old before)
          ∙ ap (λ k. pages_left len p was from k (pages_by old before)) sum;
    }
      where
        inside : (a n q : ℕ) → a ≤ q → q < a + n → within a n q ≡ true
        inside a n q low high = grind (arith, nat_tests)

        not_here : (q : ℕ) → within from (end - from) q ≡ false → within page (end - page) q ≡ false
        not_here q out = let first = left.least in let some = end_more in false_from_ne_true (within page (end - page) q) (λ h.
            let k = within_parts page (end - page) q h in
            let low = k.0 in
            let high = k.1 in
            both_ways (within from (end - from) q) out (inside from (end - from) q (omega arith) (omega arith)))

        nor_before : (q : ℕ) → within from (end - from) q ≡ false → within from (page - from) q ≡ false
        nor_before q out = let first = left.least in let some = end_more in false_from_ne_true (within from (page - from) q) (λ h.
            let k = within_parts from (page - from) q h in
            let low = k.0 in
            let high = k.1 in
            both_ways (within from (end - from) q) out (inside from (end - from) q (omega arith) (omega arith)))

    -- by the values that the code has
    pub left_more : (past' : ℕ) → past' ≡ end → (flags : Flags) → flags ≡ unlocked area.flags → (len' : Lengths) (areas' : ℕ → Option Area)
        (spans' : List Span) → len' None ≡ len None → AreAlike len' len (pages_by areas spans) → Stays p areas areas' spans'
        → ((q : ℕ) → pages_by areas' spans' q ≡ after_map len' p page past' area.prot flags (pages_by areas spans) q)
        → IsLeft len p from past' past like old before areas' spans'
    left_more past' ends flags so len' areas' spans' none same stays now =
        subst (λ n. IsLeft len p from n past like old before areas' spans') (sym ends) (left_next len' areas' spans' none same stays
        (λ q. now q ∙ (λ i. after_map len' p page (ends i) area.prot (so i) (pages_by areas spans) q)))

-- at last all of it is
pub left_all : (len : Lengths) (p from page past like : ℕ) (old : ℕ → Option Area) (before : List Span) (areas : ℕ → Option Area) (spans : List Span)
    → IsLeft len p from page past like old before areas spans → past ≤ page → (q : ℕ)
    → pages_by areas spans q ≡ pages_left len p (pages_from like from (pages_by old before)) from (past - from) (pages_by old before) q
left_all len p from page past like old before areas spans left over q =
    let most = left.most in
    let same : page ≡ past = omega arith in
    ap (λ on. on q) left.exact ∙ ap (λ n. pages_left len p (pages_from like from (pages_by old before)) from (n - from) (pages_by old before) q) same
