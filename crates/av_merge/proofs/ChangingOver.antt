-- How far a change over all mapped pages of a range has come, past those that aren't mapped.
use Rattle.std.proofs.Common.{◌≡◌, ℕ, ◌+◌, ◌-◌, ◌<◌, ◌≤◌, ◌⊎◌, min, Bool, true, false, cond, List, [], ◌∷◌, Option, Some, None, is_some, option_map, IfSome, refl, sym, ap, subst, ◌∙◌, inl, inr, arith}
use Rattle.std.specs.Prelude.{nat_le}
use Rattle.std.specs.List.{AllByRecursion}
use Rattle.std.proofs.lemmas.Bool.{cases_lt, false≢true, leb-false}
use Rattle.std.proofs.lemmas.Bool.Decides.{nat_tests}
use Rattle.av_base.specs.Words.{within}
use Rattle.av_vma.specs.declared.area.Area.{Area}
use Rattle.av_vma.specs.Pages.{Effect, Lengths, alters_at, pages_changed}
use Rattle.av_vmatree.specs.declared.span.Span.{Span}
use Rattle.av_vmatree.specs.Spans.{AreApart, AreSpans, IsFree, area_at, first_from, holds, is_page_taken, span_of}
use Rattle.av_vmatree.proofs.Sides.{all_wide, from_is, in_row}
use Rattle.av_vmatree.proofs.Spans.{holds_above, holds_below, holds_here}
use Rattle.av_merge.specs.Mapping.{IsRemapped, mapping, mapping_in, mapping_with}
use Rattle.av_merge.specs.Pages.{GoesTo, pages_by}
use Rattle.av_merge.specs.Process.{AreAreasOf, Stays}
use Rattle.av_merge.proofs.ChangingReach.{apart, pages_stay, pages_then, past_it, two_ranges}
use Rattle.av_merge.proofs.Lengths.{AreAlike, pages_alike}
use Rattle.av_merge.proofs.PlacingLaws.{at_span, stays_trans, taken_is}

-- ---- the next page that is mapped

-- no area has a page that isn't taken
pub nobody : (spans : List Span) (page : ℕ) → is_page_taken spans page ≡ false → area_at spans page ≡ None
nobody spans page free = none (area_at spans page) free
  where
    none : (o : Option ℕ) → is_some o ≡ false → o ≡ None
    none None e = refl
    none (Some n) e = absurd cc

-- no page is taken below where all spans begin
free_below : (spans : List Span) (page : ℕ) → AllByRecursion (λ s. page < s.from) spans → area_at spans page ≡ None
free_below [] page above = refl
free_below (s ∷ spans) page above = rw (holds_below s page above.0) (free_below spans page above.1)

all_above : (spans : List Span) (page at : ℕ) → page < at → AllByRecursion (λ s. at ≤ s.from) spans → AllByRecursion (λ s. page < s.from) spans
all_above [] page at less all = tt
all_above (s ∷ spans) page at less all = ((let first = all.0 in omega (arith, first, less)), all_above spans page at less all.1)

-- nor from a page that isn't up to where the next span begins
pub free_to : (spans : List Span) (from page : ℕ) → AreApart spans → area_at spans from ≡ None → from ≤ page
    → IfSome (first_from spans from) (λ s. page < s.from) → area_at spans page ≡ None
free_to [] from page apart none low next = refl
free_to (s ∷ spans) from page apart none low next =
    by (λ none next. free_to spans from page apart.2 none low next) (nat_le from s.from) refl (holds s from) refl next none
  where
    by : (area_at spans from ≡ None → IfSome (first_from spans from) (λ s. page < s.from) → area_at spans page ≡ None)
        → (b : Bool) → nat_le from s.from ≡ b → (h : Bool) → holds s from ≡ h → IfSome (cond b (Some s) (first_from spans from)) (λ s. page < s.from)
        → cond h (Some s.area) (area_at spans from) ≡ None → area_at (s ∷ spans) page ≡ None
    by rest b e true here next none = absurd cc
    by rest true e false here next none =
        rw (holds_below s page next) (free_below spans page (all_above spans page s.to (let wide = apart.0 in omega arith) apart.1))
    by rest false e false here next none = rw (holds_above s page (ends (cases_lt from s.to))) (rest none next)
      where
        ends : (from < s.to) ⊎ (s.to ≤ from) → s.to ≤ page
        ends (inl more) = absurd (let below : s.from < from = leb-false from s.from e in
            false≢true (sym here ∙ holds_here s from (omega arith) more))
        ends (inr past) = omega arith

-- where that begins a page is
pub next_taken : (spans : List Span) (from to page : ℕ) (s : Span) → AreSpans spans → first_from spans from ≡ Some s → page ≡ min to s.from → page < to
    → is_page_taken spans page ≡ true
next_taken spans from to page s good is same less =
    let there = from_is spans from s good.distinct is in
    let begins : s.from ≡ page = omega arith in
    ap is_some (at_span spans s.area s page good.apart there.there (omega arith) (wide spans s (all_wide spans good.apart) there.there begins))
  where
    wide : (spans : List Span) (s : Span) → AllByRecursion (λ t. t.from < t.to) spans → span_of spans s.area ≡ Some s → s.from ≡ page → page < s.to
    wide [] s all there begins = absurd cc
    wide (t ∷ spans) s all there begins = in_row (page < s.to) t spans s.area s there
        (λ e. let some : t.from < t.to = all.0 in
        let ends : t.to ≡ s.to = ap (λ (u : Span). u.to) e in
        let starts : t.from ≡ s.from = ap (λ (u : Span). u.from) e in
        omega arith)
        (λ later. wide spans s all.1 later begins)

-- ---- how far it has come

pub record IsOver (len : Lengths) (from page to : ℕ) (effect : Effect) (old new : ℕ → Option Area) (before spans : List Span) : Type 0 where
  pub stays : (p : ℕ) → AreAreasOf p old before → Stays p old new spans
  pub lowest : from ≤ page
  pub highest : page ≤ to
  pub pages : IsRemapped from page effect (pages_by old before) (pages_by new spans)
  pub exact : pages_by new spans ≡ pages_changed len effect from (page - from) (pages_by old before)

-- after the first run of mapped pages
pub over_first : (len : Lengths) (from page to : ℕ) (effect : Effect) (old new : ℕ → Option Area) (before spans : List Span)
    → ((p : ℕ) → AreAreasOf p old before → Stays p old new spans)
    → GoesTo (is_page_taken before) from to page → IsRemapped from page effect (pages_by old before) (pages_by new spans)
    → ((q : ℕ) → pages_by new spans q ≡ pages_changed len effect from (page - from) (pages_by old before) q)
    → IsOver len from page to effect old new before spans
over_first len from page to effect old new before spans stays goes pages exact =
    record { stays = stays; lowest = goes.lowest; highest = goes.highest; pages = pages; exact = λ i q. exact q i }

module _ (len : Lengths) (p from page to : ℕ) (effect : Effect) (old new : ℕ → Option Area) (before spans : List Span)
    (stands : AreAreasOf p old before) (over : IsOver len from page to effect old new before spans) where
  pub over_there : AreAreasOf p new spans
  over_there = (over.stays p stands).areas

  pub over_stays : (next : ℕ → Option Area) (spans' : List Span) → ((q : ℕ) → AreAreasOf q new spans → Stays q new next spans')
      → (q : ℕ) → AreAreasOf q old before → Stays q old next spans'
  over_stays next spans' stays q is = let one = over.stays q is in stays_trans q old new next spans spans' one (stays q one.areas)

  pub over_ends : to ≤ page → IsOver len from to to effect old new before spans
  over_ends past =
      let highest = over.highest in
      let same : page ≡ to = omega arith in
      subst (λ n. IsOver len from n to effect old new before spans) same over

  -- pages that aren't mapped stay so, and then a run of mapped ones is changed
  module _ (mapped : ℕ) (low : page ≤ mapped) (high : mapped ≤ to) (free : IsFree (is_page_taken spans) page mapped) where
    none_there : (q : ℕ) → page ≤ q → q < mapped → pages_by new spans q ≡ None
    none_there q least less = none (pages_by new spans q) (taken_is p new spans q over_there ∙ free q least less)
      where
        none : (o : Option Area) → is_some o ≡ false → o ≡ None
        none None e = refl
        none (Some area) e = absurd cc

    over_hole : IsOver len from mapped to effect old new before spans
    over_hole = record {
      stays = over.stays;
      lowest = let lowest = over.lowest in omega arith;
      highest = high;
      pages = λ q. elim (within page (mapped - page) q) as (λ b. within page (mapped - page) q ≡ b → mapping (pages_by new spans) q
          ≡ cond (within from (mapped - from) q) (option_map (mapping_with effect) (mapping (pages_by old before) q)) (mapping (pages_by old before) q)) [
            | true ↦ λ h. hole q h
            | false ↦ λ h. over.pages q
                ∙ ap (λ b. cond b (option_map (mapping_with effect) (mapping (pages_by old before) q)) (mapping (pages_by old before) q)) (beside q h)
          ] refl;
      exact =
          let lowest = over.lowest in
          let here : page ≡ from + (page - from) = omega arith in
          let all : (page - from) + (mapped - page) ≡ mapped - from = omega arith in
          over.exact
          ∙ sym (pages_stay len effect page (mapped - page) (pages_changed len effect from (page - from) (pages_by old before))
          (λ q least less. ap (λ on. alters_at effect (on q)) (sym over.exact) ∙ ap (alters_at effect) (none_there q least (omega arith))))
          ∙ (λ i. pages_changed len effect (here i) (mapped - page) (pages_changed len effect from (page - from) (pages_by old before)))
          ∙ pages_then len effect from (page - from) (mapped - page) (pages_by old before)
          ∙ ap (λ n. pages_changed len effect from n (pages_by old before)) all;
    }
      where
        beside : (q : ℕ) → within page (mapped - page) q ≡ false → within from (page - from) q ≡ within from (mapped - from) q
        beside q h = let lowest = over.lowest in grind (arith, nat_tests)

        hole : (q : ℕ) → within page (mapped - page) q ≡ true → mapping (pages_by new spans) q
            ≡ cond (within from (mapped - from) q) (option_map (mapping_with effect) (mapping (pages_by old before) q)) (mapping (pages_by old before) q)
        hole q h =
            let lowest = over.lowest in
            let least : page ≤ q = grind (arith, nat_tests) in
            let less : q < mapped = grind (arith, nat_tests) in
            let now : mapping (pages_by new spans) q ≡ None = ap (option_map (mapping_in q)) (none_there q least less) in
            let was : mapping (pages_by old before) q ≡ None = sym (over.pages q
            ∙ ap (λ b. cond b (option_map (mapping_with effect) (mapping (pages_by old before) q)) (mapping (pages_by old before) q))
            (past_it from page q least)) ∙ now in
            now ∙ sym (ap (λ m. cond (within from (mapped - from) q) (option_map (mapping_with effect) m) m) was
            ∙ both (within from (mapped - from) q))
          where
            both : (b : Bool) → cond b (option_map (mapping_with effect) None) None ≡ None
            both true = refl
            both false = refl

    pub over_next : (past : ℕ) (len' : Lengths) (next : ℕ → Option Area) (spans' : List Span) → GoesTo (is_page_taken spans) mapped to past
        → ((q : ℕ) → AreAreasOf q new spans → Stays q new next spans') → AreAlike len' len (pages_by new spans)
        → IsRemapped mapped past effect (pages_by new spans) (pages_by next spans')
        → ((q : ℕ) → pages_by next spans' q ≡ pages_changed len' effect mapped (past - mapped) (pages_by new spans) q)
        → IsOver len from past to effect old next before spans'
    over_next past len' next spans' goes stays alike changed exact = record {
      stays = over_stays next spans' stays;
      lowest = let lowest = over_hole.lowest in let least = goes.lowest in omega arith;
      highest = goes.highest;
      pages = λ q.
          changed q
          ∙ elim (within mapped (past - mapped) q) as (λ b. within mapped (past - mapped) q ≡ b →
          cond b (option_map (mapping_with effect) (mapping (pages_by new spans) q)) (mapping (pages_by new spans) q) ≡ cond
          (cond b true (within from (mapped - from) q)) (option_map (mapping_with effect) (mapping (pages_by old before) q))
          (mapping (pages_by old before) q)) [
            | true ↦ λ h. ap (option_map (mapping_with effect)) (over_hole.pages q
                ∙ ap (λ b. cond b (option_map (mapping_with effect) (mapping (pages_by old before) q)) (mapping (pages_by old before) q))
                (apart from mapped past q h))
            | false ↦ λ h. over_hole.pages q
          ] refl
          ∙ ap (λ b. cond b (option_map (mapping_with effect) (mapping (pages_by old before) q)) (mapping (pages_by old before) q))
          (sym (two_ranges from mapped past q over_hole.lowest goes.lowest));
      exact =
          let lowest = over_hole.lowest in
          let least = goes.lowest in
          let here : mapped ≡ from + (mapped - from) = omega arith in
          let all : (mapped - from) + (past - mapped) ≡ past - from = omega arith in
          (λ i q. (exact q ∙ pages_alike len' len effect mapped (past - mapped) (pages_by new spans) alike q) i)
          ∙ (λ i. pages_changed len effect (here i) (past - mapped) (over_hole.exact i))
          ∙ pages_then len effect from (mapped - from) (past - mapped) (pages_by old before)
          ∙ ap (λ n. pages_changed len effect from n (pages_by old before)) all;
    }

    -- it goes on
    pub over_more : (past : ℕ) → page < to → (mapped < to → is_page_taken spans mapped ≡ true) → GoesTo (is_page_taken spans) mapped to past → page < past
    over_more past less taken goes = elim (cases_lt mapped past) [
      | inl more ↦ omega arith
      | inr none ↦
          let least = goes.lowest in
          let same : mapped ≡ past = omega arith in
          elim (cases_lt past to) [
            | inl early ↦ absurd (clash (sym (taken (omega arith)) ∙ ap (is_page_taken spans) same ∙ goes.end early))
            | inr late ↦ omega arith
          ]
    ]
      where
        clash : true ≡ false → ⊥
        clash e = cc
