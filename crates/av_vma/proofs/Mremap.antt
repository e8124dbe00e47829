-- Areas stay whole and on all of their pages where pages move and areas grow; and a boundary within
-- an area, or beside a free page, may be tried or not.
use Rattle.std.proofs.Common.{◌≡◌, ℕ, zero, suc, ◌+◌, ◌-◌, ◌*◌, ◌/◌, ◌^◌, ◌<◌, ◌≤◌, ◌⊎◌, inl, inr, min, Bool, true, false, cond, ◌||◌, Option, Some, None, is_some, nat_lt, option_map, IsSomeAnd, refl, sym, ap, subst, ◌∙◌, arith}
use Rattle.std.proofs.lemmas.Bool.{both_ways, cases_lt, false_from_ne_true, ltb-true, ltb-false, lt-ltb, le-ltb, false≢true}
use Rattle.std.proofs.lemmas.Bool.Decides.{nat_tests}
use Rattle.std.proofs.lemmas.Option.{none-some, same_Some}
use Rattle.av_base.specs.Limits.{low_page, top_page}
use Rattle.av_base.specs.Words.{within}
use Rattle.av_vma.specs.declared.area.Area.{Area}
use Rattle.av_vma.specs.Index.{first_of, index_of, past_of}
use Rattle.av_vma.specs.Mremap.{IsGrowth, IsMove, after_grow, after_move, after_resize, grown_to, joined_over, moved_area, moved_range}
use Rattle.av_vma.specs.Pages.{AreLaid, IsWhole, Lengths, Pages, after_unmap, split_at, do_join, has_page, joined_at, part_of, with_area, without_range}
use Rattle.av_vma.proofs.Split.{Splits, split_at_splits, laid_split, laid_unmapped, part_index, still_splits}
use Rattle.av_vma.proofs.Join.{join_is, laid_around, laid_joined, joined_pages, tried_is}
use Rattle.av_vma.proofs.Laid.{has_from, has_parts}

-- ---- ranges

pub in_range : (a n x : ℕ) → within a n x ≡ true → (a ≤ x) × (x < a + n)
in_range a n x h = (grind (arith, nat_tests), grind (arith, nat_tests))

pub is_in_range : (a n x : ℕ) → a ≤ x → x < a + n → within a n x ≡ true
is_in_range a n x low high = grind (arith, nat_tests)

pub out_of_range : (a n x : ℕ) → (a ≤ x → x < a + n → ⊥) → within a n x ≡ false
out_of_range a n x out = false_from_ne_true (within a n x) (λ h. let k = in_range a n x h in out k.0 k.1)

none_is : {A : Type 0} (o : Option A) → is_some o ≡ false → o ≡ None
none_is None e = refl
none_is (Some a) e = cc

still_some : {A B : Type 0} (f : A → B) (o : Option A) → is_some o ≡ true → is_some (option_map f o) ≡ true
still_some f None e = absurd (false≢true e)
still_some f (Some a) e = refl

-- ---- boundaries

module _ (len : Lengths) where
  -- a boundary within an area may be tried or not
  pub joined_inside : (at : ℕ) (on : Pages) (area : Area) → AreLaid on → on (at - 1) ≡ Some area → on at ≡ Some area → (page : ℕ)
      → joined_at len at on page ≡ on page
  joined_inside at on area laid before after page = elim (tried_is len at page on) [
    | inr k ↦ k.is
    | inl t ↦
        let left : t.left ≡ area = same_Some t.left area (sym t.before ∙ before) in
        let right : t.right ≡ area = same_Some t.right area (sym t.after ∙ after) in
        let joins : do_join len area area ≡ true = (λ i. do_join len (sym left i) (sym right i)) ∙ t.joins in
        let adjoin = (join_is len area area joins).adjoin in
        let whole = laid.whole at area after in
        let start = whole.start in
        let end = whole.end in
        let some = whole.some in
        absurd (omega arith)
  ]

  -- so may one beside a free page
  pub joined_beside : (at : ℕ) (on : Pages) → (on (at - 1) ≡ None) ⊎ (on at ≡ None) → (page : ℕ) → joined_at len at on page ≡ on page
  joined_beside at on free page = elim (tried_is len at page on) [
    | inr k ↦ k.is
    | inl t ↦ elim free [ inl e ↦ absurd (none-some t.left (sym e ∙ t.before)) | inr e ↦ absurd (none-some t.right (sym e ∙ t.after)) ]
  ]

  -- the boundaries within an area, from one of its pages to another, may be tried or not
  pub skipped : (d at r : ℕ) (on : Pages) (area : Area) → AreLaid on → ((page : ℕ) → at - 1 ≤ page → page < at + d → on page ≡ Some area)
      → (page : ℕ) → joined_over len at (d + r) on page ≡ joined_over len (at + d) r on page
  skipped zero at r on area laid inside page = λ i. joined_over len (at_is i) (n_is i) on page
    where
      at_is : at ≡ at + 0
      at_is = omega arith

      n_is : 0 + r ≡ r
      n_is = omega arith
  skipped (suc d) at r on area laid inside page =
      (λ i. joined_over len at (n_is i) on page)
      ∙ (λ i. joined_over len (suc at) (d + r)
      (λ q. joined_inside at on area laid (inside (at - 1) (omega arith) (omega arith)) (inside at (omega arith) (omega arith)) q i) page)
      ∙ skipped d (suc at) r on area laid (λ page low high. inside page (omega arith) (omega arith)) page
      ∙ (λ i. joined_over len (at_is i) r on page)
    where
      n_is : suc d + r ≡ suc (d + r)
      n_is = omega arith

      at_is : suc at + d ≡ at + suc d
      at_is = omega arith

  -- a page that is mapped stays so
  pub joined_some : (at : ℕ) (on : Pages) (page : ℕ) → is_some (on page) ≡ true → is_some (joined_at len at on page) ≡ true
  joined_some at on page some = elim (tried_is len at page on) [ inl t ↦ ap is_some t.is | inr k ↦ ap is_some k.is ∙ some ]

  -- where an area begins with a page, or none is there, it is so when a lower boundary has been tried
  pub joined_starts : (at page : ℕ) (on : Pages) → AreLaid on → at < page → ((area : Area) → on page ≡ Some area → page ≤ first_of area)
      → (area : Area) → joined_at len at on page ≡ Some area → page ≤ first_of area
  joined_starts at page on laid below starts area e = elim (tried_is len at page on) [
    | inr k ↦ starts area (sym k.is ∙ e)
    | inl t ↦
        let left = laid.whole (at - 1) t.left t.before in
        let right = laid.whole at t.right t.after in
        let on_left : first_of t.left ≤ at - 1 = (has_parts t.left (at - 1) (laid.here (at - 1) t.left t.before)).0 in
        let on_right : first_of t.right ≤ at = (has_parts t.right at (laid.here at t.right t.after)).0 in
        elim (joined_pages len t.left t.right left right t.joins page t.here) [
          | inl h ↦ (let k = starts t.left (laid.all (at - 1) page t.left t.before h) in absurd (omega arith))
          | inr h ↦ (let k = starts t.right (laid.all at page t.right t.after h) in absurd (omega arith))
        ]
  ]

  pub laid_over : (at n : ℕ) (on : Pages) → AreLaid on → AreLaid (joined_over len at n on)
  laid_over at zero on laid = laid
  laid_over at (suc n) on laid = laid_over (suc at) n (joined_at len at on) (laid_joined len at on laid)

-- ---- a range moves

-- an area is whole on other pages, too
pub whole_elsewhere : (from to : ℕ) (area : Area) → IsWhole area → from ≤ first_of area → low_page ≤ to → past_of area + to - from ≤ top_page
    → IsWhole (moved_area from to area)
whole_elsewhere from to area whole first low high =
    let some = whole.some in
    record { start = omega arith; end = omega arith; some = omega arith; low = omega arith; high = omega arith; small = by area.anon whole.small }
  where
    by : (own : Option ℕ) → area.pgoff + (past_of area - first_of area) ≤ 2 ^ 60
        → cond (is_some own) area.pgoff (first_of area + to - from)
        + ((4096 * (past_of area + to - from)) / 4096 - (4096 * (first_of area + to - from)) / 4096) ≤ 2 ^ 60
    by None small = omega arith
    by (Some own) small = let some = whole.some in omega arith

-- pages that may move: no area lies on both sides of an end of the old range, or of what of it moves, and the new range is free
pub record IsReady (from n k to : ℕ) (on : Pages) : Type 0 where
  pub laid : AreLaid on
  pub lower : Splits from on
  pub middle : Splits (from + k) on
  pub upper : Splits (from + n) on
  pub less : k ≤ n
  pub low : low_page ≤ to
  pub high : to + k ≤ top_page
  pub apart : (to + k ≤ from) ⊎ (from + n ≤ to)
  pub free : (page : ℕ) → to ≤ page → page < to + k → on page ≡ None

module _ (from n k to : ℕ) (on : Pages) (r : IsReady from n k to on) where
  -- an area on a page of the range lies in it
  pub record IsWithin (area : Area) : Type 0 where
    pub whole : IsWhole area
    pub first : from ≤ first_of area
    pub past : past_of area ≤ from + k

  pub inside : (page : ℕ) (area : Area) → on page ≡ Some area → from ≤ page → page < from + k → IsWithin area
  inside page area is least most =
      let whole = r.laid.whole page area is in
      let some = whole.some in
      record {
        whole = whole;
        first = elim (cases_lt (first_of area) from) [
          | inr above ↦ above
          | inl below ↦ absurd (both_ways _ (le-ltb page from least)
              (r.lower page (first_of area) area is (has_from area (first_of area) (omega arith) some) ∙ lt-ltb (first_of area) from below))
        ];
        past = elim (cases_lt (from + k) (past_of area)) [
          | inr below ↦ below
          | inl above ↦
              let last : has_page area (past_of area - 1) ≡ true = has_from area (past_of area - 1) (omega arith) (omega arith) in
              absurd (both_ways _ (le-ltb (past_of area - 1) (from + k) (omega arith))
              (sym (r.middle page (past_of area - 1) area is last) ∙ lt-ltb page (from + k) most))
        ];
      }

  whole_moved : (area : Area) → IsWithin area → IsWhole (moved_area from to area)
  whole_moved area w = let past = w.past in let high = r.high in whole_elsewhere from to area w.whole w.first r.low (omega arith)

  -- what is on a page of the new range, and on one of neither
  pub at_target : (page : ℕ) → to ≤ page → page < to + k → moved_range from n k to on page ≡ option_map (moved_area from to) (on (from + (page - to)))
  at_target page least most = ap
      (λ b. cond b (option_map (moved_area from to) (on (from + (page - to)))) (without_range from (from + n) on page))
      (is_in_range to k page least most)

  pub elsewhere : (page : ℕ) → within to k page ≡ false → within from (from + n - from) page ≡ false → moved_range from n k to on page ≡ on page
  elsewhere page out gone =
      ap (λ b. cond b (option_map (moved_area from to) (on (from + (page - to)))) (without_range from (from + n) on page)) out
      ∙ ap (λ b. cond b None (on page)) gone

  -- an area that moved
  pub record IsMoved (page : ℕ) (area : Area) : Type 0 where
    pub least : to ≤ page
    pub most : page < to + k
    pub was : Area
    pub there : on (from + (page - to)) ≡ Some was
    pub is : moved_area from to was ≡ area

  -- one that stayed where it is
  pub record IsStaying (page : ℕ) (area : Area) : Type 0 where
    pub there : on page ≡ Some area
    pub gone : within from (from + n - from) page ≡ false

  pub which : (page : ℕ) (area : Area) → moved_range from n k to on page ≡ Some area → IsMoved page area ⊎ IsStaying page area
  which page area = by (within to k page) refl (within from (from + n - from) page) refl
    where
      from_source : (o : Option Area) → on (from + (page - to)) ≡ o → (to ≤ page) × (page < to + k) → option_map (moved_area from to) o ≡ Some area
          → IsMoved page area
      from_source None is bounds e = absurd (none-some area e)
      from_source (Some was) is bounds e = record {
        least = bounds.0;
        most = bounds.1;
        was = was;
        there = is;
        is = same_Some
            (moved_area from to was) area e;
      }

      by : (b : Bool) → within to k page ≡ b → (c : Bool) → within from (from + n - from) page ≡ c
          → cond b (option_map (moved_area from to) (on (from + (page - to)))) (cond c None (on page)) ≡ Some area
          → IsMoved page area ⊎ IsStaying page area
      by true is c is' e = inl (from_source (on (from + (page - to))) refl (in_range to k page is) e)
      by false is true is' e = absurd (none-some area e)
      by false is false is' e = inr (record { there = e; gone = is' })

  within_moved : (page : ℕ) (area : Area) (m : IsMoved page area) → IsWithin m.was
  within_moved page area m = let least = m.least in let most = m.most in inside (from + (page - to)) m.was m.there (omega arith) (omega arith)

  -- the pages of an area that stays are outside of both ranges
  stays_out : (page other : ℕ) (area : Area) → IsStaying page area → has_page area other ≡ true → moved_range from n k to on other ≡ Some area
  stays_out page other area s has =
      let there : on other ≡ Some area = r.laid.all page other area s.there has in
      let one = r.lower page other area s.there has in
      let two = r.upper page other area s.there has in
      elsewhere other
      (out_of_range to k other (λ least most. none-some area (sym (r.free other least most) ∙ there)))
      (out_of_range from (from + n - from) other (λ least most.
      let low' : from ≤ page = ltb-false page from (one ∙ le-ltb other from least) in
      let high' : page < from + n = ltb-true page (from + n) (two ∙ lt-ltb other (from + n) (omega arith)) in
      both_ways _ s.gone (is_in_range from (from + n - from) page low' (omega arith))))
      ∙ there

  pub laid_moved : AreLaid (moved_range from n k to on)
  laid_moved = record {
    whole = λ page area e. elim (which page area e) [
      | inl m ↦ subst IsWhole m.is (whole_moved m.was (within_moved page area m))
      | inr s ↦ r.laid.whole page area s.there
    ];
    here = λ page area e. elim (which page area e) [
      | inl m ↦ subst (λ (a : Area). has_page a page ≡ true) m.is
          (here_moved page m.was (within_moved page area m) m.least (r.laid.here (from + (page - to)) m.was m.there))
      | inr s ↦ r.laid.here page area s.there
    ];
    all = λ page other area e has. elim (which page area e) [
      | inl m ↦ all_moved page other m.was area (within_moved page area m) m.is (r.laid.all (from + (page - to))) m.there has
      | inr s ↦ stays_out page other area s has
    ];
  }
    where
      here_moved : (page : ℕ) (was : Area) → IsWithin was → to ≤ page → has_page was (from + (page - to)) ≡ true
          → has_page (moved_area from to was) page ≡ true
      here_moved page was w least has =
          let k = has_parts was (from + (page - to)) has in
          let first = w.first in
          let some = w.whole.some in
          let low = k.0 in
          let high = k.1 in
          has_from (moved_area from to was) page (omega arith) (omega arith)

      all_moved : (page other : ℕ) (was area : Area) → IsWithin was → moved_area from to was ≡ area
          → ((other : ℕ) (area : Area) → on (from + (page - to)) ≡ Some area → has_page area other ≡ true → on other ≡ Some area)
          → on (from + (page - to)) ≡ Some was → has_page area other ≡ true → moved_range from n k to on other ≡ Some area
      all_moved page other was area w is all there has =
          let parts = has_parts (moved_area from to was) other (subst (λ (a : Area). has_page a other ≡ true) (sym is) has) in
          let low : (4096 * (first_of was + to - from)) / 4096 ≤ other = parts.0 in
          let high : other < (4096 * (past_of was + to - from)) / 4096 = parts.1 in
          let first = w.first in
          let past = w.past in
          let has' : has_page was (from + (other - to)) ≡ true = has_from was (from + (other - to)) (omega arith) (omega arith) in
          at_target other (omega arith) (omega arith) ∙ ap (option_map (moved_area from to)) (all (from + (other - to)) was there has') ∙ ap Some is

-- ---- areas move one after the other

same_test : (b c : Bool) → (b ≡ true → c ≡ true) → (c ≡ true → b ≡ true) → b ≡ c
same_test true c there back = sym (there refl)
same_test false true there back = back refl
same_test false false there back = refl

-- those below a page have moved, and the one that begins there moves now
module _ (from to page : ℕ) (on : Pages) (area : Area) (laid : AreLaid on) (is : on page ≡ Some area) (least : from ≤ page)
    (first : page ≤ first_of area)
    (apart : (to + (past_of area - from) ≤ from) ⊎ (past_of area ≤ to)) where
  begins : first_of area ≡ page
  begins = let low = (has_parts area page (laid.here page area is)).0 in omega arith

  wide : page < past_of area
  wide = (has_parts area page (laid.here page area is)).1

  abbrev before : Pages
  before = moved_range from (page - from) (page - from) to on

  -- the new place of its pages
  at_place : (q : ℕ) → has_page (moved_area from to area) q ≡ true
      → moved_range from (past_of area - from) (past_of area - from) to on q ≡ Some (moved_area from to area)
  at_place q has =
      let parts = has_parts (moved_area from to area) q has in
      let low : (4096 * (first_of area + to - from)) / 4096 ≤ q = parts.0 in
      let high : q < (4096 * (past_of area + to - from)) / 4096 = parts.1 in
      let begin = begins in
      let end = wide in
      ap (λ b. cond b (option_map (moved_area from to) (on (from + (q - to)))) (without_range from (from + (past_of area - from)) on q))
      (is_in_range to (past_of area - from) q (omega arith) (omega arith))
      ∙ ap (option_map (moved_area from to)) (laid.all page (from + (q - to)) area is (has_from area (from + (q - to)) (omega arith) (omega arith)))

  -- its old place
  at_old : (q : ℕ) → page ≤ q → q < past_of area → moved_range from (past_of area - from) (past_of area - from) to on q ≡ None
  at_old q low high =
      ap (λ b. cond b (option_map (moved_area from to) (on (from + (q - to)))) (without_range from (from + (past_of area - from)) on q))
      (out_of_range to (past_of area - from) q (λ above below. elim apart [ inl e ↦ omega arith | inr e ↦ omega arith ]))
      ∙ ap (λ b. cond b None (on q)) (is_in_range from (from + (past_of area - from) - from) q (omega arith) (omega arith))

  -- all other pages
  at_others : (q : ℕ) → has_page (moved_area from to area) q ≡ false → within (first_of area) (past_of area - first_of area) q ≡ false
      → before q ≡ moved_range from (past_of area - from) (past_of area - from) to on q
  at_others q out gone =
      (λ i. cond (target i) (option_map (moved_area from to) (on (from + (q - to)))) (cond (source i) None (on q)))
    where
      target : within to (page - from) q ≡ within to (past_of area - from) q
      target = same_test (within to (page - from) q) (within to (past_of area - from) q)
          (λ h. let begin = begins in let end = wide in let k = in_range to (page - from) q h in let low = k.0 in let high = k.1 in is_in_range to
          (past_of area - from) q low (omega arith))
          (λ h. let begin = begins in let end = wide in let k = in_range to
          (past_of area - from) q h in let low = k.0 in let high = k.1 in is_in_range to (page - from) q low
          (elim (cases_lt q (to + (page - from))) [
            | inl below ↦ below
            | inr above ↦ absurd (both_ways _ out (has_from (moved_area from to area) q (omega arith) (omega arith)))
          ]))

      source : within from (from + (page - from) - from) q ≡ within from (from + (past_of area - from) - from) q
      source = same_test (within from (from + (page - from) - from) q) (within from (from + (past_of area - from) - from) q)
          (λ h. let begin = begins in let end = wide in let k = in_range from (from + (page - from) - from) q h in let low = k.0 in let high = k.1 in
          is_in_range from (from + (past_of area - from) - from) q low (omega arith))
          (λ h. let begin = begins in let end = wide in let k = in_range from
          (from + (past_of area - from) - from) q h in let low = k.0 in let high = k.1 in
          is_in_range from (from + (page - from) - from) q low (elim (cases_lt q page) [
            | inl below ↦ omega arith
            | inr above ↦ absurd (both_ways _ gone (is_in_range (first_of area) (past_of area - first_of area) q (omega arith) (omega arith)))
          ]))

  pub moved_more : (q : ℕ) → with_area (moved_area from to area) (without_range (first_of area) (past_of area) before) q
      ≡ moved_range from (past_of area - from) (past_of area - from) to on q
  moved_more q = elim (has_page (moved_area from to area) q) as (λ b. has_page (moved_area from to area) q ≡ b
      → cond b (Some (moved_area from to area)) (without_range (first_of area) (past_of area) before q) ≡ moved_range from (past_of area - from)
      (past_of area - from) to on q) [
        | true ↦ λ has. sym (at_place q has)
        | false ↦ λ out. elim (within (first_of area) (past_of area - first_of area) q) as
            (λ b. within (first_of area) (past_of area - first_of area) q ≡ b
            → cond b None (before q) ≡ moved_range from (past_of area - from) (past_of area - from) to on q) [
              | true ↦ λ h.
                  let k = in_range (first_of area) (past_of area - first_of area) q h in
                  let low = k.0 in
                  let high = k.1 in
                  let begin = begins in
                  let end = wide in
                  sym (at_old q (omega arith) (omega arith))
              | false ↦ λ gone. at_others q out gone
            ] refl
      ] refl

-- where an area ends, none lies on both sides
pub starts_past : (page : ℕ) (on : Pages) (area : Area) → AreLaid on → on page ≡ Some area → (other : Area) → on (past_of area) ≡ Some other
    → past_of area ≤ first_of other
starts_past page on area laid is other there =
    let has = has_parts area page (laid.here page area is) in
    let low = has.0 in
    let high = has.1 in
    let above : past_of area < past_of other = (has_parts other (past_of area) (laid.here (past_of area) other there)).1 in
    elim (cases_lt (first_of other) (past_of area)) [
      | inr past ↦ past
      | inl below ↦
          let last = laid.all (past_of area) (past_of area - 1) other there (has_from other (past_of area - 1) (omega arith) (omega arith)) in
          let last' = laid.all page (past_of area - 1) area is (has_from area (past_of area - 1) (omega arith) (omega arith)) in
          let same : other ≡ area = same_Some other area (sym last ∙ last') in
          let clash : past_of area < past_of area = subst (λ (a : Area). past_of area < past_of a) same above in
          absurd (omega arith)
    ]

-- ---- an area grows

-- an area with another end
abbrev pub with_end : ℕ → Area → Area
with_end past area = record area { end = 4096 * past }

module _ (page past : ℕ) (area : Area) (on : Pages) (laid : AreLaid on) (is : on page ≡ Some area) (more : past_of area ≤ past)
    (high : past ≤ top_page)
    (free : (other : ℕ) → past_of area ≤ other → other < past → on other ≡ None) (small : area.pgoff + (past - first_of area) ≤ 2 ^ 60) where
  pub whole_grown : IsWhole (with_end past area)
  whole_grown =
      let whole = laid.whole page area is in
      let some = whole.some in
      record { start = whole.start; end = omega arith; some = omega arith; low = whole.low; high = omega arith; small = omega arith }

  -- it has the pages that it had, and free ones
  pub grown_pages : (other : ℕ) → has_page (with_end past area) other ≡ true → (has_page area other ≡ true) ⊎ (on other ≡ None)
  grown_pages other has =
      let parts = has_parts (with_end past area) other has in
      let low = parts.0 in
      let most : other < (4096 * past) / 4096 = parts.1 in
      elim (cases_lt other (past_of area)) [ inl below ↦ inl (has_from area other low below) | inr above ↦ inr (free other above (omega arith)) ]

  pub still_has : (other : ℕ) → has_page area other ≡ true → has_page (with_end past area) other ≡ true
  still_has other has =
      let parts = has_parts area other has in
      let most = parts.1 in
      has_from (with_end past area) other parts.0 (omega arith)

  pub laid_grown : AreLaid (with_area (with_end past area) on)
  laid_grown = record {
    whole = λ here a. by_whole here a (has_page (with_end past area) here);
    here = λ here a. by_here here a (has_page (with_end past area) here) refl;
    all = λ here other a. by_all here other a (has_page (with_end past area) here) refl;
  }
    where
      by_whole : (here : ℕ) (a : Area) (b : Bool) → cond b (Some (with_end past area)) (on here) ≡ Some a → IsWhole a
      by_whole here a true e = subst IsWhole (same_Some (with_end past area) a e) whole_grown
      by_whole here a false e = laid.whole here a e

      by_here : (here : ℕ) (a : Area) (b : Bool) → has_page (with_end past area) here ≡ b → cond b (Some (with_end past area)) (on here) ≡ Some a
          → has_page a here ≡ true
      by_here here a true h e = subst (λ (a : Area). has_page a here ≡ true) (same_Some (with_end past area) a e) h
      by_here here a false h e = laid.here here a e

      apart : (here other : ℕ) (a : Area) (b : Bool) → has_page (with_end past area) other ≡ b → has_page (with_end past area) here ≡ false
          → on here ≡ Some a → has_page a other ≡ true → cond b (Some (with_end past area)) (on other) ≡ Some a
      apart here other a false h none e has = laid.all here other a e has
      apart here other a true h none e has =
          let there = laid.all here other a e has in
          elim (grown_pages other h) [
            | inr out ↦ absurd (none-some a (sym out ∙ there))
            | inl in_old ↦
                let same : a ≡ area = same_Some a area (sym there ∙ laid.all page other area is in_old) in
                absurd (both_ways _ none (still_has here (subst (λ (a : Area). has_page a here ≡ true) same (laid.here here a e))))
          ]

      by_all : (here other : ℕ) (a : Area) (b : Bool) → has_page (with_end past area) here ≡ b → cond b (Some (with_end past area)) (on here) ≡ Some a
          → has_page a other ≡ true → with_area (with_end past area) on other ≡ Some a
      by_all here other a true h e has =
          let same = same_Some (with_end past area) a e in
          ap (λ b. cond b (Some (with_end past area)) (on other)) (subst (λ (a : Area). has_page a other ≡ true) (sym same) has) ∙ ap Some same
      by_all here other a false h e has = apart here other a (has_page (with_end past area) other) refl h e has

-- what is on a page, where something is of which this holds
pub record IsThere (o : Option Area) (P : Area → Type 0) : Type 0 where
  pub area : Area
  pub is : o ≡ Some area
  pub so : P area

pub is_there : (o : Option Area) (P : Area → Type 0) → IsSomeAnd o P → IsThere o P
is_there None P h = absurd h
is_there (Some area) P h = record { area = area; is = refl; so = h }

-- an area that may grow ends with the page from which it does
module _ (last past : ℕ) (on : Pages) (laid : AreLaid on) (g : IsGrowth last past on) where
  pub growing : IsThere (on last) (λ area. index_of area last + (past - last) ≤ 2 ^ 60)
  growing = is_there (on last) (λ area. index_of area last + (past - last) ≤ 2 ^ 60) g.small

  pub free_above : (page : ℕ) → last < page → page < past → on page ≡ None
  free_above page low high = none_is (on page) (g.free page low high)

  pub ends_there : (area : Area) → on last ≡ Some area → past_of area ≡ last + 1
  ends_there area is =
      let parts = has_parts area last (laid.here last area is) in
      let low = parts.0 in
      let high = parts.1 in
      let more = g.more in
      elim (cases_lt (last + 1) (past_of area)) [
        | inl above ↦ absurd (none-some area
            (sym (free_above (last + 1) (omega arith) (omega arith))
            ∙ laid.all last (last + 1) area is (has_from area (last + 1) (omega arith) above)))
        | inr below ↦ omega arith
      ]

  pub laid_growth : (area : Area) → on last ≡ Some area → AreLaid (with_area (with_end past area) on)
  laid_growth area is =
      let end = ends_there area is in
      let more = g.more in
      let parts = has_parts area last (laid.here last area is) in
      let low = parts.0 in
      let same : growing.area ≡ area = same_Some growing.area area (sym growing.is ∙ is) in
      let small : index_of area last + (past - last) ≤ 2 ^ 60 = subst (λ (a : Area). index_of a last + (past - last) ≤ 2 ^ 60) same growing.so in
      laid_grown last past area on laid is (omega arith) g.high (λ other least most. free_above other (omega arith) most) (omega arith)

  pub laid_after_grow : (len : Lengths) → AreLaid (after_grow len past (on last) on)
  laid_after_grow len =
      let a = growing.area in
      subst (λ o. AreLaid (after_grow len past o on)) (sym growing.is)
      (laid_around len (first_of a) past (with_area (with_end past a) on) (laid_growth a growing.is))

-- ---- the parts of a move

-- the linear index of a page by what is on it
abbrev pub index_at : ℕ → Option Area → Option ℕ
index_at page = option_map (λ area. index_of area page)

-- a split keeps it
pub index_split : (at : ℕ) (on : Pages) → AreLaid on → (page : ℕ) → index_at page (split_at at on page) ≡ index_at page (on page)
index_split at on laid page = by (on page) refl
  where
    by : (o : Option Area) → on page ≡ o → index_at page (option_map (part_of at page) o) ≡ index_at page o
    by None is = refl
    by (Some area) is = ap Some (part_index at page area (laid.whole page area is) (has_parts area page (laid.here page area is)).0)

-- what the parts of a range need so that it moves: n pages, of which k stand at the target then
module _ (from n to m : ℕ) (on : Pages) (laid : AreLaid on) (move : IsMove from n to m on) where
  abbrev stay : ℕ
  stay = min n m

  abbrev pub cleared : Pages
  cleared = after_unmap to (to + m) on

  abbrev pub parts : Pages
  parts = split_at (from + n) (split_at (from + stay) (split_at from cleared))

  laid_cleared : AreLaid cleared
  laid_cleared = laid_unmapped to (to + m) on laid

  laid_once : AreLaid (split_at from cleared)
  laid_once = laid_split from cleared laid_cleared

  laid_twice : AreLaid (split_at (from + stay) (split_at from cleared))
  laid_twice = laid_split (from + stay) (split_at from cleared) laid_once

  pub laid_parts : AreLaid parts
  laid_parts = laid_split (from + n) (split_at (from + stay) (split_at from cleared)) laid_twice

  lower : Splits from parts
  lower =
      still_splits from (from + n) (split_at (from + stay) (split_at from cleared)) laid_twice
      (still_splits from (from + stay) (split_at from cleared) laid_once (split_at_splits from cleared))

  middle : Splits (from + stay) parts
  middle = still_splits (from + stay) (from + n) (split_at (from + stay) (split_at from cleared)) laid_twice
      (split_at_splits (from + stay) (split_at from cleared))

  upper : Splits (from + n) parts
  upper = split_at_splits (from + n) (split_at (from + stay) (split_at from cleared))

  -- nothing is left at the target
  free_cleared : (page : ℕ) → to ≤ page → page < to + m → cleared page ≡ None
  free_cleared page low high = ap (λ b. cond b None (split_at (to + m) (split_at to on) page)) (is_in_range to (to + m - to) page low (omega arith))

  pub free_parts : (page : ℕ) → to ≤ page → page < to + m → parts page ≡ None
  free_parts page low high = λ i. option_map (part_of (from + n) page)
      (option_map (part_of (from + stay) page) (option_map (part_of from page) (free_cleared page low high i)))

  -- the old range is apart from it
  not_target : (page : ℕ) → from ≤ page → page < from + n → within to (to + m - to) page ≡ false
  not_target page least most = out_of_range to (to + m - to) page (λ low high. elim move.apart [ inl e ↦ omega arith | inr e ↦ omega arith ])

  -- each page of the old range has the linear index that it had
  pub index_parts : (page : ℕ) → from ≤ page → page < from + n → index_at page (parts page) ≡ index_at page (on page)
  index_parts page least most =
      index_split (from + n) (split_at (from + stay) (split_at from cleared)) laid_twice page
      ∙ index_split (from + stay) (split_at from cleared) laid_once page
      ∙ index_split from cleared laid_cleared page
      ∙ ap (λ b. index_at page (cond b None (split_at (to + m) (split_at to on) page))) (not_target page least most)
      ∙ index_split (to + m) (split_at to on) (laid_split to on laid) page
      ∙ index_split to on laid page

  -- and so it is still mapped
  pub mapped_parts : (page : ℕ) → from ≤ page → page < from + n → is_some (parts page) ≡ true
  mapped_parts page least most = by (parts page) (on page) (index_parts page least most) (move.mapped page least most)
    where
      by : (o o' : Option Area) → index_at page o ≡ index_at page o' → is_some o' ≡ true → is_some o ≡ true
      by (Some a) o' e some = refl
      by None None e some = some
      by None (Some a) e some = absurd (none-some (index_of a page) e)

  pub ready : IsReady from n stay to parts
  ready = let high = move.high in record {
    laid = laid_parts;
    lower = lower;
    middle = middle;
    upper = upper;
    less = omega arith;
    low = move.low;
    high = omega arith;
    apart = elim move.apart [ inl e ↦ inl (omega arith) | inr e ↦ inr e ];
    free = λ page low high. free_parts page low (omega arith);
  }

  pub laid_carried : AreLaid (moved_range from n stay to parts)
  laid_carried = laid_moved from n stay to parts ready

  -- the last page that stays
  abbrev last : ℕ
  last = from + stay - 1

  abbrev pub carried : Pages
  carried = moved_range from n stay to parts

  -- the area that grows at the target: it ends with the pages that moved, and those up to the end of the new range are free
  pub record IsLast (area : Area) : Type 0 where
    pub there : carried (to + stay - 1) ≡ Some area
    pub ends : past_of area ≡ to + stay
    pub free : (page : ℕ) → past_of area ≤ page → page < to + m → carried page ≡ None
    pub small : area.pgoff + (to + m - first_of area) ≤ 2 ^ 60

  -- the linear index of the last page stays small while the new range is filled
  last_small : (was : Area) → parts last ≡ Some was → index_of was last + (m - stay) < 2 ^ 60
  last_small was there =
      let one = is_there (on last) (λ area. index_of area last + (m - stay) < 2 ^ 60) move.small in
      let some = move.some in
      let more = move.more in
      let same : index_of was last ≡ index_of one.area last = same_Some (index_of was last) (index_of one.area last)
      (sym (ap (index_at last) there) ∙ index_parts last (omega arith) (omega arith) ∙ ap (index_at last) one.is) in
      subst (λ x. x + (m - stay) < 2 ^ 60) (sym same) one.so

  free_carried : (page : ℕ) → to + stay ≤ page → page < to + m → carried page ≡ None
  free_carried page low high =
      elsewhere from n stay to parts ready page (out_of_range to stay page (λ least most. omega arith))
      (out_of_range from (from + n - from) page (λ least most. elim move.apart [ inl e ↦ omega arith | inr e ↦ omega arith ]))
      ∙ free_parts page (omega arith) high

  from_source : (page : ℕ) (area was : Area) → page ≡ last → parts page ≡ Some was → moved_area from to was ≡ area
      → carried (to + stay - 1) ≡ Some area
      → IsLast area
  from_source page area was same there is here =
      let there' : parts last ≡ Some was = ap parts (sym same) ∙ there in
      let some = move.some in
      let more = move.more in
      let w = inside from n stay to parts ready last was there' (omega arith) (omega arith) in
      let first = w.first in
      let past = w.past in
      let wide = w.whole.some in
      let on_last = has_parts was last (laid_parts.here last was there') in
      let low : first_of was ≤ last = on_last.0 in
      let high : last < past_of was = on_last.1 in
      let ends : past_of (moved_area from to was) ≡ to + stay = omega arith in
      subst IsLast is (record {
        there = here ∙ ap Some (sym is);
        ends = ends;
        free = λ page low high. free_carried page (omega arith) high;
        small = by was.anon first low (last_small was there');
      })
    where
      by : (own : Option ℕ) → from ≤ first_of was → first_of was ≤ last → index_of was last + (m - stay) < 2 ^ 60
          → cond (is_some own) was.pgoff (first_of was + to - from) + (to + m - (4096 * (first_of was + to - from)) / 4096) ≤ 2 ^ 60
      by None first low small = let high = move.high in let some = move.some in let more = move.more in omega arith
      by (Some own) first low small = let some = move.some in let more = move.more in omega arith

  pub last_area : (area : Area) → carried (to + stay - 1) ≡ Some area → IsLast area
  last_area area is = elim (which from n stay to parts ready (to + stay - 1) area is) [
    | inl m ↦ from_source (from + (to + stay - 1 - to)) area m.was (let some = move.some in let more = move.more in omega arith) m.there m.is is
    | inr s ↦ absurd (none-some area
        (sym (free_parts (to + stay - 1) (let some = move.some in let more = move.more in omega arith)
        (let some = move.some in let more = move.more in omega arith)) ∙ s.there))
  ]

  -- there is one
  pub last_there : IsThere (carried (to + stay - 1)) IsLast
  last_there = by (carried (to + stay - 1)) refl
      (ap is_some (at_target from n stay to parts ready (to + stay - 1) (let some = move.some in let more = move.more in omega arith)
      (let some = move.some in let more = move.more in omega arith))
      ∙ still_some (moved_area from to) (parts (from + (to + stay - 1 - to)))
      (mapped_parts (from + (to + stay - 1 - to)) (omega arith) (let some = move.some in let more = move.more in omega arith)))
    where
      by : (o : Option Area) → carried (to + stay - 1) ≡ o → is_some o ≡ true → IsThere o IsLast
      by None is e = absurd (false≢true e)
      by (Some area) is e = record { area = area; is = refl; so = last_area area is }

  pub laid_with_range : AreLaid (grown_to (to + m) (carried (to + stay - 1)) carried)
  laid_with_range =
      let a = last_there.area in
      let l = last_there.so in
      let ends = l.ends in
      subst (λ o. AreLaid (grown_to (to + m) o carried)) (sym last_there.is)
      (laid_grown (to + stay - 1) (to + m) a carried laid_carried l.there (omega arith) move.high l.free l.small)

  -- areas stay laid where a range moves
  pub laid_after_move : (len : Lengths) → AreLaid (after_move len from n to m on)
  laid_after_move len = laid_over len to (suc m) (grown_to (to + m) (carried (to + stay - 1)) carried) laid_with_range

  -- the old range is of pages that a process may have
  pub old_high : from + n ≤ top_page
  old_high =
      let some = move.some in
      let one = is_there (on (from + n - 1)) (λ _. Unit {0}) (given (on (from + n - 1)) (move.mapped (from + n - 1) (omega arith) (omega arith))) in
      let high = (laid.whole (from + n - 1) one.area one.is).high in
      let past = (has_parts one.area (from + n - 1) (laid.here (from + n - 1) one.area one.is)).1 in
      omega arith
    where
      given : (o : Option Area) → is_some o ≡ true → IsSomeAnd o (λ _. Unit {0})
      given None e = absurd (false≢true e)
      given (Some area) e = tt

  -- without the end of the old range, where the new one is shorter
  abbrev pub shortened : Pages
  shortened = without_range (from + stay) (from + n) parts

  was_parts : (page : ℕ) (area : Area) → shortened page ≡ Some area → parts page ≡ Some area
  was_parts page area = by (within (from + stay) (from + n - (from + stay)) page)
    where
      by : (b : Bool) → cond b None (parts page) ≡ Some area → parts page ≡ Some area
      by true e = absurd (none-some area e)
      by false e = e

  -- the areas of what is left lie within it
  split_starts : (at page : ℕ) (area : Area) → Splits at parts → page ≡ at → parts page ≡ Some area → at ≤ first_of area
  split_starts at page area split same is = elim (cases_lt (first_of area) at) [
    | inr above ↦ above
    | inl below ↦
        let some = (laid_parts.whole page area is).some in
        let sides = split page (first_of area) area is (has_from area (first_of area) (omega arith) some) in
        absurd (both_ways _ (le-ltb page at (omega arith)) (sides ∙ lt-ltb (first_of area) at below))
  ]

  pub shortened_lower : (area : Area) → shortened from ≡ Some area → from ≤ first_of area
  shortened_lower area is = split_starts from from area lower refl (was_parts from area is)

  pub shortened_upper : (area : Area) → shortened (from + stay) ≡ Some area → from + stay ≤ first_of area
  shortened_upper area is = split_starts (from + stay) (from + stay) area middle refl (was_parts (from + stay) area is)

  pub shortened_mapped : (page : ℕ) → from ≤ page → page < from + stay → is_some (shortened page) ≡ true
  shortened_mapped page low high =
      ap (λ b. is_some (cond b None (parts page))) (out_of_range (from + stay) (from + n - (from + stay)) page (λ above below. omega arith))
      ∙ mapped_parts page low (omega arith)

  pub shortened_free : (page : ℕ) → to ≤ page → page < to + m → is_some (shortened page) ≡ false
  shortened_free page low high = by (within (from + stay) (from + n - (from + stay)) page)
    where
      by : (b : Bool) → is_some (cond b None (parts page)) ≡ false
      by true = refl
      by false = ap is_some (free_parts page low high)

  -- and all of it moves
  pub shortened_moves : (page : ℕ) → moved_range from (from + stay - from) (from + stay - from) to shortened page ≡ carried page
  shortened_moves page =
      (λ i. moved_range from (count i) (count i) to shortened page)
      ∙ elim (within to stay page) as (λ b. within to stay page ≡ b
      → cond b (option_map (moved_area from to) (shortened (from + (page - to)))) (without_range from (from + stay) shortened page)
      ≡ cond b (option_map (moved_area from to) (parts (from + (page - to)))) (without_range from (from + n) parts page)) [
        | true ↦ λ h.
            let k = in_range to stay page h in
            let low = k.0 in
            let high = k.1 in
            ap (λ b. option_map (moved_area from to) (cond b None (parts (from + (page - to)))))
            (out_of_range (from + stay) (from + n - (from + stay)) (from + (page - to)) (λ above below. omega arith))
        | false ↦ λ _. two_parts page
      ] refl
    where
      count : from + stay - from ≡ stay
      count = omega arith

      either : (a b c : Bool) (o : Option Area) → (a || b) ≡ c → cond a None (cond b None o) ≡ cond c None o
      either true b c o e = ap (λ c. cond c None o) e
      either false b c o e = ap (λ c. cond c None o) e

      two_parts : (page : ℕ) → without_range from (from + stay) shortened page ≡ without_range from (from + n) parts page
      two_parts page = either (within from (from + stay - from) page) (within (from + stay) (from + n - (from + stay)) page)
          (within from (from + n - from) page) (parts page)
          (grind (arith, nat_tests))

  -- the new range is filled then
  abbrev pub with_range : Pages
  with_range = grown_to (to + m) (carried (to + stay - 1)) carried

  with_range_is : (page : ℕ) → with_range page ≡ with_area (with_end (to + m) last_there.area) carried page
  with_range_is page = ap (λ o. grown_to (to + m) o carried page) last_there.is

  pub with_range_mapped : (page : ℕ) → to ≤ page → page < to + m → is_some (with_range page) ≡ true
  with_range_mapped page low high =
      ap is_some (with_range_is page) ∙ by (has_page (with_end (to + m) last_there.area) page) refl
    where
      by : (b : Bool) → has_page (with_end (to + m) last_there.area) page ≡ b
          → is_some (cond b (Some (with_end (to + m) last_there.area)) (carried page)) ≡ true
      by true has = refl
      by false out = elim (cases_lt page (to + stay)) [
        | inl below ↦ ap is_some (at_target from n stay to parts ready page low below)
            ∙ still_some (moved_area from to) (parts (from + (page - to))) (mapped_parts (from + (page - to)) (omega arith) (omega arith))
        | inr above ↦
            let ends = last_there.so.ends in
            let some = (laid_carried.whole (to + stay - 1) last_there.area last_there.so.there).some in
            absurd (both_ways _ out (has_from (with_end (to + m) last_there.area) page (omega arith) (omega arith)))
      ]

  -- and no area goes past its end
  pub with_range_upper : (area : Area) → with_range (to + m) ≡ Some area → to + m ≤ first_of area
  with_range_upper area is = by (has_page (with_end (to + m) last_there.area) (to + m)) refl (sym (with_range_is (to + m)) ∙ is)
    where
      above : (s : IsStaying from n stay to parts ready (to + m) area) → to + m ≤ first_of area
      above s = elim (cases_lt (first_of area) (to + m)) [
        | inr over ↦ over
        | inl below ↦
            let more = move.more in
            let high = (has_parts area (to + m) (laid_parts.here (to + m) area s.there)).1 in
            let there = laid_parts.all (to + m) (to + m - 1) area s.there (has_from area (to + m - 1) (omega arith) (omega arith)) in
            absurd (none-some area (sym (free_parts (to + m - 1) (omega arith) (omega arith)) ∙ there))
      ]

      by : (b : Bool) → has_page (with_end (to + m) last_there.area) (to + m) ≡ b
          → cond b (Some (with_end (to + m) last_there.area)) (carried (to + m)) ≡ Some area
          → to + m ≤ first_of area
      by true has e =
          let high : to + m < (4096 * (to + m)) / 4096 = (has_parts (with_end (to + m) last_there.area) (to + m) has).1 in
          absurd (omega arith)
      by false out e = elim (which from n stay to parts ready (to + m) area e) [
        | inl moved ↦ (let most = moved.most in absurd (omega arith))
        | inr s ↦ above s
      ]

-- ---- a range stays where it is

-- areas stay laid where it gets shorter or longer
pub laid_after_resize : (len : Lengths) (from n m : ℕ) (on : Pages) → AreLaid on → (n < m → IsGrowth (from + n - 1) (from + m) on)
    → AreLaid (after_resize len from n m on)
laid_after_resize len from n m on laid growth = by (nat_lt m n) (nat_lt n m) refl
  where
    by : (b c : Bool) → nat_lt n m ≡ c
        → AreLaid (cond b (after_unmap (from + m) (from + n) on) (cond c (after_grow len (from + m) (on (from + n - 1)) on) on))
    by true c is = laid_unmapped (from + m) (from + n) on laid
    by false true is = laid_after_grow (from + n - 1) (from + m) on laid (growth (ltb-true n m is)) len
    by false false is = laid
