-- How far a change has come: all pages before were mapped, and are as the change makes them, page by page.
use Rattle.std.proofs.Common.{◌≡◌, ℕ, zero, suc, ◌+◌, ◌-◌, ◌<◌, ◌≤◌, Bool, true, false, cond, List, Option, Some, None, is_some, option_map, refl, sym, ap, subst, ◌∙◌, inl, inr, arith}
use Rattle.std.specs.Prelude.{option_and_then, IsSome}
use Rattle.std.proofs.lemmas.Bool.{cases_lt, and_parts, not-false, cond-false}
use Rattle.std.proofs.lemmas.Bool.Decides.{nat_tests}
use Rattle.av_vma.specs.declared.area.Area.{Area}
use Rattle.av_vma.specs.Index.{past_of}
use Rattle.av_vma.specs.Join.{same_flags, same_prot}
use Rattle.av_base.specs.Words.{within}
use Rattle.av_vmatree.specs.declared.span.Span.{Span}
use Rattle.av_vmatree.specs.Spans.{area_at, is_page_taken}
use Rattle.av_merge.specs.Mapping.{IsRemapped, mapping, mapping_in, mapping_with}
use Rattle.av_vma.specs.Pages.{Effect, Pages, alters, alters_at, page_changed, part_changed, pages_changed, Lengths}
use Rattle.av_vma.proofs.Join.{flags_are, prot_is}
use Rattle.av_vma.proofs.Laid.{has_from, has_parts}
use Rattle.av_merge.specs.Pages.{GoesTo, pages_by}
use Rattle.av_merge.specs.Process.{AreAreasOf, Stays}
use Rattle.av_merge.proofs.PlacingLaws.{is_on, one_area, others_refl, stays_trans, taken_is}
use Rattle.av_merge.proofs.PlacingMaps.{laid_of}
use Rattle.av_merge.proofs.ChangingByPage.{page_by_page}

pub record IsDone (len : Lengths) (from page to : ℕ) (effect : Effect) (old new : ℕ → Option Area) (before spans : List Span) : Type 0 where
  pub stays : (p : ℕ) → AreAreasOf p old before → Stays p old new spans
  pub lowest : from ≤ page
  pub highest : page ≤ to
  pub all : (q : ℕ) → from ≤ q → q < page → is_page_taken before q ≡ true
  pub pages : IsRemapped from page effect (pages_by old before) (pages_by new spans)
  pub exact : pages_by new spans ≡ pages_changed len effect from (page - from) (pages_by old before)

-- an area that a change leaves as it was
record IsSo (effect : Effect) (area : Area) : Type 0 where
  pub prot : effect.prot area.prot ≡ area.prot
  pub flags : effect.flags area.flags ≡ area.flags

is_so : (effect : Effect) (area : Area) → alters effect area ≡ false → IsSo effect area
is_so effect area e =
    let both = and_parts (same_prot (effect.prot area.prot) area.prot) (same_flags (effect.flags area.flags) area.flags) (not-false _ e) in
    record { prot = prot_is (effect.prot area.prot) area.prot both.0; flags = flags_are (effect.flags area.flags) area.flags both.1 }

-- ---- pages in turn

-- some pages, and then some more
pub pages_then : (len : Lengths) (effect : Effect) (a m n : ℕ) (on : Pages) →
    pages_changed len effect (a + m) n (pages_changed len effect a m on) ≡ pages_changed len effect a (m + n) on
pages_then len effect a zero n on = (let first : a + 0 ≡ a = omega arith in let all : n ≡ 0 + n = omega arith in
    λ i. pages_changed len effect (first i) (all i) on)
pages_then len effect a (suc m) n on =
    let first : a + suc m ≡ (a + 1) + m = omega arith in
    let all : suc (m + n) ≡ suc m + n = omega arith in
    ap (λ c. pages_changed len effect c n (pages_changed len effect (a + 1) m (page_changed len effect a on))) first
    ∙ pages_then len effect (a + 1) m n (page_changed len effect a on)
    ∙ ap (λ c. pages_changed len effect a c on) all

-- pages that are so already stay
pub pages_stay : (len : Lengths) (effect : Effect) (a n : ℕ) (on : Pages) → ((q : ℕ) → a ≤ q → q < a + n → alters_at effect (on q) ≡ false) →
    pages_changed len effect a n on ≡ on
pages_stay len effect a zero on so = refl
pages_stay len effect a (suc n) on so =
    let first = cond-false (alters_at effect (on a)) _ on (so a (omega arith) (omega arith)) in
    ap (pages_changed len effect (a + 1) n) first
    ∙ pages_stay len effect (a + 1) n on (λ q low high. so q (omega arith) (omega arith))

-- ---- tests of ranges

pub in_none : (from page : ℕ) → within from (from - from) page ≡ false
in_none from page = grind (arith, nat_tests)

pub past_it : (from to page : ℕ) → to ≤ page → within from (to - from) page ≡ false
past_it from to page h = grind (arith, nat_tests)

pub two_ranges : (a b c page : ℕ) → a ≤ b → b ≤ c → within a (c - a) page ≡ cond (within b (c - b) page) true (within a (b - a) page)
two_ranges a b c page h k = grind (arith, nat_tests)

pub apart : (a b c page : ℕ) → within b (c - b) page ≡ true → within a (b - a) page ≡ false
apart a b c page h = grind (arith, nat_tests)

-- ---- steps

some_mapped : (on : Pages) (page : ℕ) → is_some (mapping on page) ≡ is_some (on page)
some_mapped on page = go (on page)
  where
    go : (o : Option Area) → is_some (option_map (mapping_in page) o) ≡ is_some o
    go None = refl
    go (Some area) = refl

pub done_first : (len : Lengths) (from to : ℕ) (effect : Effect) (areas : ℕ → Option Area) (spans : List Span) → from ≤ to →
    IsDone len from from to effect areas areas spans spans
done_first len from to effect areas spans forward = record {
  stays = λ p stands. record { areas = stands; others = others_refl p areas };
  lowest = omega arith;
  highest = forward;
  all = λ q low high. absurd (omega arith);
  pages = λ page. ap (λ b. cond b (option_map (mapping_with effect) (mapping (pages_by areas spans) page)) (mapping (pages_by areas spans) page))
      (sym (in_none from page));
  exact = (let none : 0 ≡ from - from = omega arith in ap (λ n. pages_changed len effect from n (pages_by areas spans)) none);
}

module _ (len : Lengths) (p from page to : ℕ) (effect : Effect) (old new : ℕ → Option Area) (before spans : List Span)
    (stands : AreAreasOf p old before) (done : IsDone len from page to effect old new before spans) where
  pub there : AreAreasOf p new spans
  there = (done.stays p stands).areas

  -- from the page on, nothing changed yet
  later : (q : ℕ) → page ≤ q → mapping (pages_by new spans) q ≡ mapping (pages_by old before) q
  later q low = done.pages q ∙ ap (λ b. cond b (option_map (mapping_with effect) (mapping (pages_by old before) q)) (mapping (pages_by old before) q))
      (past_it from page q low)

  later_taken : (q : ℕ) → page ≤ q → is_page_taken before q ≡ is_page_taken spans q
  later_taken q low =
      sym (taken_is p old before q stands)
      ∙ sym (some_mapped (pages_by old before) q)
      ∙ sym (ap is_some (later q low))
      ∙ some_mapped (pages_by new spans) q
      ∙ taken_is p new spans q there

  pub used_here : (n : ℕ) → area_at spans page ≡ Some n → IsSome (new n)
  used_here n at = sym (ap is_some (ap (option_and_then new) at)) ∙ taken_is p new spans page there ∙ ap is_some at

  -- the area that is found goes on past the page
  pub goes_on : (n : ℕ) (area : Area) → area_at spans page ≡ Some n → new n ≡ Some area → page < past_of area
  goes_on n area at is = (has_parts area page (is_on p new spans page area there (ap (option_and_then new) at ∙ is)).has).1

  pub reached_hole : page < to → area_at spans page ≡ None → GoesTo (is_page_taken before) from to page
  reached_hole less hole = record {
    lowest = done.lowest;
    highest = done.highest;
    all = done.all;
    end = λ _. later_taken page (omega arith) ∙ ap is_some hole;
  }

  pub reached_end : to ≤ page → GoesTo (is_page_taken before) from to to
  reached_end past =
      let highest = done.highest in
      let same : page ≡ to = omega arith in
      let lowest = done.lowest in
      record {
        lowest = omega arith;
        highest = omega arith;
        all = λ q low high. done.all q low (omega arith);
        end = λ less. absurd (omega arith);
      }

  pub exact_end : to ≤ page → pages_by new spans ≡ pages_changed len effect from (to - from) (pages_by old before)
  exact_end past =
      let highest = done.highest in
      let same : page ≡ to = omega arith in
      done.exact ∙ ap (λ n. pages_changed len effect from (n - from) (pages_by old before)) same

  pub pages_end : to ≤ page → IsRemapped from to effect (pages_by old before) (pages_by new spans)
  pages_end past =
      let highest = done.highest in
      let same : page ≡ to = omega arith in
      subst (λ n. IsRemapped from n effect (pages_by old before) (pages_by new spans)) same done.pages

  -- an area's pages from here on get the protection
  pub done_step : (past : ℕ) (area : Area) (next : ℕ → Option Area) (spans' : List Span) → pages_by new spans page ≡ Some area → page < past →
      past ≤ past_of area → past ≤ to → ((q : ℕ) → AreAreasOf q new spans → Stays q new next spans') →
      IsRemapped page past effect (pages_by new spans) (pages_by next spans') → pages_by next spans' ≡ pages_changed len effect page (past - page)
      (pages_by new spans) → IsDone len from past to effect old next before spans'
  done_step past area next spans' here less far high stays changed exact = record {
    stays = λ q is. let one = done.stays q is in stays_trans q old new next spans spans' one (stays q one.areas);
    lowest = let lowest = done.lowest in omega arith;
    highest = high;
    all = λ q low most. elim (cases_lt q page) [
      | inl early ↦ done.all q low early
      | inr late ↦
          let first = (has_parts area page (is_on p new spans page area there here).has).0 in
          later_taken q late ∙ sym (taken_is p new spans q there) ∙ ap is_some
          (one_area p new spans page q area there here (has_from area q (omega arith) (omega arith)))
    ];
    pages = λ q.
        changed q
        ∙ elim (within page (past - page) q) as (λ b. within page (past - page) q ≡ b →
        cond b (option_map (mapping_with effect) (mapping (pages_by new spans) q)) (mapping (pages_by new spans) q) ≡ cond
        (cond b true (within from (page - from) q)) (option_map (mapping_with effect) (mapping (pages_by old before) q))
        (mapping (pages_by old before) q)) [
          | true ↦ λ h. ap (option_map (mapping_with effect)) (done.pages q
              ∙ ap (λ b. cond b (option_map (mapping_with effect) (mapping (pages_by old before) q)) (mapping (pages_by old before) q))
              (apart from page past q h))
          | false ↦ λ h. done.pages q
        ] refl
        ∙ ap (λ b. cond b (option_map (mapping_with effect) (mapping (pages_by old before) q)) (mapping (pages_by old before) q))
        (sym (two_ranges from page past q done.lowest (omega arith)));
    exact =
        let lowest = done.lowest in
        let here : page ≡ from + (page - from) = omega arith in
        let all : (page - from) + (past - page) ≡ past - from = omega arith in
        exact
        ∙ (λ i. pages_changed len effect (here i) (past - page) (done.exact i))
        ∙ pages_then len effect from (page - from) (past - page) (pages_by old before)
        ∙ ap (λ n. pages_changed len effect from n (pages_by old before)) all;
  }

  -- where an area is so already, its pages need no change
  module _ (past : ℕ) (area : Area) (here : pages_by new spans page ≡ Some area) (far : past ≤ past_of area) (same : alters effect area ≡ false) where
    there_too : (q : ℕ) → page ≤ q → q < past → pages_by new spans q ≡ Some area
    there_too q low high =
        let first = (has_parts area page (is_on p new spans page area there here).has).0 in
        one_area p new spans page q area there here (has_from area q (omega arith) (omega arith))

    pub same_already : IsRemapped page past effect (pages_by new spans) (pages_by new spans)
    same_already q = elim (within page (past - page) q) as (λ b. within page (past - page) q ≡ b →
        mapping (pages_by new spans) q ≡ cond b (option_map (mapping_with effect) (mapping (pages_by new spans) q))
        (mapping (pages_by new spans) q)) [
          | true ↦ λ h.
              let low : page ≤ q = grind (arith, nat_tests) in
              let high : q < past = grind (arith, nat_tests) in
              let on = there_too q low high in
              let so = is_so effect area same in
              ap (option_map (mapping_in q)) on
              ∙ (λ i. Some (record (mapping_in q area) { prot = sym so.prot i; flags = sym so.flags i }))
              ∙ sym (ap (λ o. option_map (mapping_with effect) (option_map (mapping_in q) o)) on)
          | false ↦ λ h. refl
        ] refl

    pub same_exact : page ≤ past → pages_by new spans ≡ pages_changed len effect page (past - page) (pages_by new spans)
    same_exact le = sym (pages_stay len effect page (past - page) (pages_by new spans)
        (λ q low high. ap (alters_at effect) (there_too q low (omega arith)) ∙ same))

  -- a part of an area that was changed at once was changed page by page
  pub part_exact : (past : ℕ) (area : Area) → pages_by new spans page ≡ Some area → page < past → past ≤ past_of area → (b : Bool)
      → b ≡ alters effect area →
      b ≡ true → (next : Pages) → ((q : ℕ) → next q ≡ part_changed len page past effect (pages_by new spans) q) →
      next ≡ pages_changed len effect page (past - page) (pages_by new spans)
  part_exact past area here less far b is does next pages =
      let n = past - page - 1 in
      let all : page + suc n ≡ past = omega arith in
      let many : suc n ≡ past - page = omega arith in
      (λ i q. pages q i)
      ∙ ap (λ c. part_changed len page c effect (pages_by new spans)) (sym all)
      ∙ sym (page_by_page len effect (pages_by new spans) (laid_of p new spans there) page area here (sym is ∙ does) n (omega arith))
      ∙ ap (λ k. pages_changed len effect page k (pages_by new spans)) many
