-- Tables and directories without the entries of a range of pages.
use Rattle.std.proofs.Common.{◌≡◌, ◌≢◌, ℕ, ◌+◌, ◌-◌, ◌*◌, ◌/◌, ◌%◌, ◌<◌, ◌≤◌, List, [], ◌∷◌, ◌++◌, length, take, drop, slice_set, get_or, refl, sym, ap, subst, ◌∙◌, arith, inl, inr, cond, true, false, Bool, Some, None}
use Rattle.std.specs.Prelude.{nat_eq}
use Rattle.std.specs.List.{All, AllPairs, AllWithin, remove, remove_range}
use Rattle.std.specs.Map.{lookup}
use Rattle.std.proofs.lemmas.Bool.{cases_eq, cases_lt}
use Rattle.std.proofs.lemmas.Bool.Decides.{nat_tests}
use Rattle.std.proofs.lemmas.List.{length-append, length-drop, length-take-le, get_or_append_left, get_or-append_right, get_or-drop, get_or-take, take-append-drop}
use Rattle.std.proofs.lemmas.Nat.{div-add-mod', div_below, le-div, mod_below, mul-le}
use Rattle.av_base.specs.Words.{within}
use Rattle.av_pagetable.specs.declared.pte.Pte.{Pte}
use Rattle.av_pagetable.specs.declared.pte.Pte.TheVariants.{Empty}
use Rattle.av_pagetable.specs.Table.{HasSome, without_range}
use Rattle.av_pagetable.specs.Dir.{AreParts, entries, in_part, no_entry, part_of}
use Rattle.av_pagetable.proofs.DirParts.{gap, missed, passed, remove_here, remove_others, set_here, set_others}
use Rattle.av_pagetable.proofs.DirEntries.{next_row, no_part, part_is, same_part, starts_past, there}

-- ---- a table
test_inside : (from past page : ℕ) → from ≤ page → page < past → within from (past - from) page ≡ true
test_inside from past page low high = grind (arith, nat_tests)

test_below : (from past page : ℕ) → page < from → within from (past - from) page ≡ false
test_below from past page low = grind (arith, nat_tests)

test_past : (from past page : ℕ) → past ≤ page → within from (past - from) page ≡ false
test_past from past page high = grind (arith, nat_tests)

pub inside : (from past : ℕ) (table : ℕ → Pte) (page : ℕ) → from ≤ page → page < past → without_range from past table page ≡ Empty
inside from past table page low high = ap (λ b. cond b Empty (table page)) (test_inside from past page low high)

pub below : (from past : ℕ) (table : ℕ → Pte) (page : ℕ) → page < from → without_range from past table page ≡ table page
below from past table page low = ap (λ b. cond b Empty (table page)) (test_below from past page low)

pub behind : (from past : ℕ) (table : ℕ → Pte) (page : ℕ) → past ≤ page → without_range from past table page ≡ table page
behind from past table page high = ap (λ b. cond b Empty (table page)) (test_past from past page high)

-- page by page
pub by_pages : (from past : ℕ) (old new : ℕ → Pte) → ((page : ℕ) → from ≤ page → page < past → new page ≡ Empty)
    → ((page : ℕ) → page < from → new page ≡ old page)
    → ((page : ℕ) → past ≤ page → new page ≡ old page) → new ≡ without_range from past old
by_pages from past old new gone lower higher = λ i page. point page i
  where
    point : (page : ℕ) → new page ≡ without_range from past old page
    point page = elim (cases_lt page from) [
      | inl lt ↦ lower page lt ∙ sym (below from past old page lt)
      | inr ge ↦ elim (cases_lt page past) [
        | inl lt ↦ gone page ge lt ∙ sym (inside from past old page ge lt)
        | inr high ↦ higher page high ∙ sym (behind from past old page high)
      ]
    ]

-- no page is in an empty range
pub none_gone : (from past : ℕ) (table : ℕ → Pte) → past ≤ from → table ≡ without_range from past table
none_gone from past table order = by_pages from past table table (λ page low high. absurd (omega (arith, order, low, high))) (λ page low. refl) (λ page high. refl)

-- one range goes, and then the one behind it
pub joined : (from mid past : ℕ) (old new last : ℕ → Pte) → from ≤ mid → mid ≤ past → new ≡ without_range from mid old
    → last ≡ without_range mid past new → last ≡ without_range from past old
joined from mid past old new last low high one two = two ∙ ap (without_range mid past) one
    ∙ by_pages from past old (without_range mid past (without_range from mid old)) gone
    (λ page lt. below mid past (without_range from mid old) page (omega (arith, lt, low)) ∙ below from mid old page lt)
    (λ page ge. behind mid past (without_range from mid old) page ge ∙ behind from mid old page (omega (arith, ge, high)))
  where
    gone : (page : ℕ) → from ≤ page → page < past → without_range mid past (without_range from mid old) page ≡ Empty
    gone page first under = elim (cases_lt page mid) [
      | inl lt ↦ below mid past (without_range from mid old) page lt ∙ inside from mid old page first lt
      | inr ge ↦ inside mid past (without_range from mid old) page ge under
    ]

-- ---- pages by part and page there
-- a page between a part's first and last is one of that part
pub part_at : (q n span : ℕ) → 0 < span → n * span ≤ q → q < n * span + span → q / span ≡ n
part_at q n span some low high =
    let least : n ≤ q / span = le-div n q span some low in
    let most : q / span < n + 1 = div_below q span (n + 1) some (omega (arith, high, next_row n span)) in
    omega (arith, least, most)

pub page_of : (q n span : ℕ) → q / span ≡ n → q ≡ n * span + q % span
page_of q n span same = sym (div-add-mod' q span) ∙ ap (λ d. d * span + q % span) same

-- where a range of the pages of one part goes, it goes in the whole
in_one : (F F' : ℕ → ℕ → Pte) (span n from past : ℕ) → 0 < span → past ≤ span → ((j r : ℕ) → j ≢ n → F' j r ≡ F j r)
    → ((r : ℕ) → F' n r ≡ without_range from past (F n) r)
    → ◌≡◌ {A = ℕ → Pte} (λ q. F' (q / span) (q % span)) (without_range (n * span + from) (n * span + past) (λ q. F (q / span) (q % span)))
in_one F F' span n from past some under others here =
    by_pages (n * span + from) (n * span + past) (λ q. F (q / span) (q % span)) (λ q. F' (q / span) (q % span)) gone
    (λ q lt. kept q (λ same. below from past (F n) (q % span) (omega (arith, lt, page_of q n span same))))
    (λ q ge. kept q (λ same. behind from past (F n) (q % span) (omega (arith, ge, page_of q n span same))))
  where
    gone : (q : ℕ) → n * span + from ≤ q → q < n * span + past → F' (q / span) (q % span) ≡ Empty
    gone q low high =
        let same : q / span ≡ n = part_at q n span some (omega (arith, low)) (omega (arith, high, under)) in
        let page = page_of q n span same in
        ap (λ j. F' j (q % span)) same ∙ here (q % span)
        ∙ inside from past (F n) (q % span) (omega (arith, low, page)) (omega (arith, high, page))

    kept : (q : ℕ) → (q / span ≡ n → without_range from past (F n) (q % span) ≡ F n (q % span)) → F' (q / span) (q % span) ≡ F (q / span) (q % span)
    kept q outside = elim (cases_eq (q / span) n) [
      | inl same ↦ ap (λ j. F' j (q % span)) same ∙ here (q % span) ∙ outside same ∙ ap (λ j. F j (q % span)) (sym same)
      | inr apart ↦ others (q / span) (q % span) apart
    ]

-- where the parts of the numbers in a range go, their pages do
in_parts : (F F' : ℕ → ℕ → Pte) (span from past : ℕ) → 0 < span → ((j r : ℕ) → from ≤ j → j < past → F' j r ≡ Empty)
    → ((j r : ℕ) → j < from → F' j r ≡ F j r) → ((j r : ℕ) → past ≤ j → F' j r ≡ F j r)
    → ◌≡◌ {A = ℕ → Pte} (λ q. F' (q / span) (q % span)) (without_range (from * span) (past * span) (λ q. F (q / span) (q % span)))
in_parts F F' span from past some gone lower higher =
    by_pages (from * span) (past * span) (λ q. F (q / span) (q % span)) (λ q. F' (q / span) (q % span))
    (λ q low high. gone (q / span) (q % span) (le-div from q span some low) (div_below q span past some high))
    (λ q lt. lower (q / span) (q % span) (div_below q span from some lt))
    (λ q ge. higher (q / span) (q % span) (le-div past q span some ge))

-- what is left of a page's part goes, and then the parts behind it
pub rest_and_parts : (span from last : ℕ) (old mid new : ℕ → Pte) → 0 < span → from / span < last
    → mid ≡ without_range (from / span * span + from % span) (from / span * span + span) old
    → new ≡ without_range ((from / span + 1) * span) (last * span) mid → new ≡ without_range from (last * span) old
rest_and_parts span from last old mid new some less one two =
    let under = mod_below from span some in
    let page = div-add-mod' from span in
    let row = next_row (from / span) span in
    joined from ((from / span + 1) * span) (last * span) old mid new (omega (arith, under, page, row))
    (mul-le (from / span + 1) span last span (omega (arith, less)) (omega arith))
    (one ∙ ap (λ n. without_range n (from / span * span + span) old) page ∙ ap (λ n. without_range from n old) (sym row)) two

-- and then the first pages of the last part
pub then_first : (span from past : ℕ) (old mid new : ℕ → Pte) → 0 < span → from / span < past / span
    → mid ≡ without_range from (past / span * span) old
    → new ≡ without_range (past / span * span + 0) (past / span * span + past % span) mid → new ≡ without_range from past old
then_first span from past old mid new some less one two =
    let page = div-add-mod' past span in
    let first : past / span * span + 0 ≡ past / span * span = omega arith in
    joined from (past / span * span) past old mid new (starts_past from (past / span) span some less) (omega (arith, page)) one
    (two ∙ ap (λ n. without_range n (past / span * span + past % span) mid) first ∙ ap (λ n. without_range (past / span * span) n mid) page)

-- ---- one part loses a range
module _ {C : Type 0} (at : C → ℕ → Pte) (span : ℕ) (parts : List (ℕ × C)) (good : AreParts at span parts) (k : ℕ) (p : ℕ × C)
    (within : k < length parts)
    (is : p ≡ get_or parts k p)
    (from past : ℕ) (c : C) (some : 0 < span) (under : past ≤ span) (now : at c ≡ without_range from past (at p.1)) where
  low : p.0 < 512
  low = let h = good.below k p within in omega (arith, h, ap (λ part. part.0) is)

  pub cleared : entries at span (slice_set parts k (p.0, c)) ≡ without_range (p.0 * span + from) (p.0 * span + past) (entries at span parts)
  cleared =
      let new = slice_set parts k (p.0, c) in
      in_one (λ j. in_part at (part_of parts j)) (λ j. in_part at (part_of new j)) span p.0 from past some under
      (λ j r other. ap (λ o. in_part at o r) (same_part parts new j (set_others at span parts good k p within is (p.0, c) refl j other)))
      (λ r. ap (λ o. in_part at o r) (part_is new p.0 (Some c) low (set_here at span parts good k p within is (p.0, c) refl))
      ∙ (λ i. now i r) ∙ ap (λ o. without_range from past (in_part at o) r) (sym (there at span parts good k p within is)))

  -- a part that has lost its last entry is taken out
  pub emptied : ((q : ℕ) → at c q ≡ Empty)
      → entries at span (remove parts k) ≡ without_range (p.0 * span + from) (p.0 * span + past) (entries at span parts)
  emptied none =
      let new = remove parts k in
      in_one (λ j. in_part at (part_of parts j)) (λ j. in_part at (part_of new j)) span p.0 from past some under
      (λ j r other. ap (λ o. in_part at o r) (same_part parts new j (remove_others at span parts good k p within is j other)))
      (λ r. ap (λ o. in_part at o r) (no_part new p.0 (remove_here at span parts good k p within is))
      ∙ sym (none r) ∙ (λ i. now i r) ∙ ap (λ o. without_range from past (in_part at o) r) (sym (there at span parts good k p within is)))

-- a part that isn't there loses nothing
pub none_lost : {C : Type 0} (at : C → ℕ → Pte) (span : ℕ) (parts : List (ℕ × C)) (k n from past : ℕ) → 0 < span → past ≤ span
    → k ≤ length parts → AllWithin (λ part. part.0 < n) parts 0 k → AllWithin (λ part. n < part.0) parts k (length parts)
    → entries at span parts ≡ without_range (n * span + from) (n * span + past) (entries at span parts)
none_lost at span parts k n from past some under few lower higher =
    in_one (λ j. in_part at (part_of parts j)) (λ j. in_part at (part_of parts j)) span n from past some under (λ j r other. refl)
    (λ r. subst (λ o. in_part at o r ≡ without_range from past (in_part at o) r) (sym (no_part parts n (gap parts k n few lower higher)))
    (none r (within from (past - from) r)))
  where
    none : (r : ℕ) (b : Bool) → no_entry r ≡ cond b Empty (no_entry r)
    none r true = refl
    none r false = refl

-- ---- the parts between two places go
-- what comes last and doesn't have the number may be left out
ended : {C : Type 0} (xs ys : List (ℕ × C)) (n : ℕ) → lookup (nat_eq n) ys ≡ None → lookup (nat_eq n) (xs ++ ys) ≡ lookup (nat_eq n) xs
ended [] ys n none = none
ended (x ∷ xs) ys n none = ap (cond (nat_eq n x.0) (Some x.1)) (ended xs ys n none)

-- the place of the first part from a number on is no later than that from a higher one on
pub in_order : {C : Type 0} (parts : List (ℕ × C)) (a b from past : ℕ) → a ≤ length parts → from < past
    → AllWithin (λ part. part.0 < from) parts 0 a → AllWithin (λ part. past ≤ part.0) parts b (length parts) → a ≤ b
in_order [] a b from past within less lower higher = omega (arith, within)
in_order (p ∷ ps) a b from past within less lower higher = elim (cases_lt b a) [
  | inl lt ↦ let low = lower b p (omega arith) lt in let high = higher b p (omega arith) (omega (arith, lt, within)) in
      absurd (omega (arith, low, high, less))
  | inr ge ↦ ge
]

module _ {C : Type 0} (parts : List (ℕ × C)) (a b : ℕ) (order : a ≤ b) (within : b ≤ length parts) where
  long : length (remove_range parts a b) + (b - a) ≡ length parts
  long = let all = length-append (take a parts) (drop b parts) in
      let first = length-take-le a parts (omega (arith, order, within)) in
      let last = length-drop b parts in
      omega (arith, all, first, last, order, within)

  kept_below : (i : ℕ) (d : ℕ × C) → i < a → get_or (remove_range parts a b) i d ≡ get_or parts i d
  kept_below i d lt = let first = length-take-le a parts (omega (arith, order, within)) in
      get_or_append_left (take a parts) (drop b parts) d i (omega (arith, lt, first)) ∙ get_or-take a parts i d lt

  kept_above : (i : ℕ) (d : ℕ × C) → a ≤ i → get_or (remove_range parts a b) i d ≡ get_or parts (b + (i - a)) d
  kept_above i d ge =
      get_or-append_right (take a parts) (drop b parts) a i d (length-take-le a parts (omega (arith, order, within))) ge
      ∙ get_or-drop b parts (i - a) d

  all_kept : (P : ℕ × C → Type 0) → All P parts → All P (remove_range parts a b)
  all_kept P all i d high = let many = long in elim (cases_lt i a) [
    | inl lt ↦ subst P (sym (kept_below i d lt)) (all i d (omega (arith, lt, order, within)))
    | inr ge ↦ subst P (sym (kept_above i d ge)) (all (b + (i - a)) d (omega (arith, ge, high, many, order, within)))
  ]

  rising_kept : AllPairs (λ part later. part.0 < later.0) parts → AllPairs (λ part later. part.0 < later.0) (remove_range parts a b)
  rising_kept rising i j d lt high = let many = long in elim (cases_lt i a) [
    | inl one ↦ subst (λ part. part.0 < (get_or (remove_range parts a b) j d).0) (sym (kept_below i d one)) (elim (cases_lt j a) [
      | inl two ↦ subst (λ part. (get_or parts i d).0 < part.0) (sym (kept_below j d two)) (rising i j d lt (omega (arith, two, order, within)))
      | inr two ↦ subst (λ part. (get_or parts i d).0 < part.0) (sym (kept_above j d two))
          (rising i (b + (j - a)) d (omega (arith, one, two, order)) (omega (arith, two, high, many, order, within)))
    ])
    | inr one ↦ subst (λ part. part.0 < (get_or (remove_range parts a b) j d).0) (sym (kept_above i d one))
        (subst (λ part. (get_or parts (b + (i - a)) d).0 < part.0) (sym (kept_above j d (omega (arith, one, lt))))
        (rising (b + (i - a)) (b + (j - a)) d (omega (arith, one, lt)) (omega (arith, one, lt, high, many, order, within))))
  ]

  pub good_kept : (at : C → ℕ → Pte) (span : ℕ) → AreParts at span parts → AreParts at span (remove_range parts a b)
  good_kept at span good = record {
    rising = rising_kept good.rising;
    below = all_kept (λ part. part.0 < 512) good.below;
    full = all_kept (λ part. HasSome span (at part.1)) good.full;
  }

  gone : (n : ℕ) → AllWithin (λ part. part.0 ≢ n) parts 0 a → AllWithin (λ part. part.0 ≢ n) parts b (length parts)
      → lookup (nat_eq n) (remove_range parts a b) ≡ None
  gone n lower higher = passed parts (drop b parts) a n (omega (arith, order, within)) lower ∙ missed parts b n higher

  early : (n : ℕ) → AllWithin (λ part. part.0 ≢ n) parts a (length parts) → lookup (nat_eq n) (remove_range parts a b) ≡ lookup (nat_eq n) parts
  early n apart =
      ended (take a parts) (drop b parts) n (missed parts b n (λ i d low high. apart i d (omega (arith, order, low)) high))
      ∙ sym (ended (take a parts) (drop a parts) n (missed parts a n apart))
      ∙ ap (lookup (nat_eq n)) (take-append-drop a parts)

  late : (n : ℕ) → AllWithin (λ part. part.0 ≢ n) parts 0 b → lookup (nat_eq n) (remove_range parts a b) ≡ lookup (nat_eq n) parts
  late n apart =
      passed parts (drop b parts) a n (omega (arith, order, within)) (λ i d low high. apart i d low (omega (arith, high, order)))
      ∙ sym (passed parts (drop b parts) b n within apart)
      ∙ ap (lookup (nat_eq n)) (take-append-drop b parts)

  pub between_gone : (at : C → ℕ → Pte) (span from past : ℕ) → 0 < span
      → AllWithin (λ part. part.0 < from) parts 0 a → AllWithin (λ part. from ≤ part.0) parts a (length parts)
      → AllWithin (λ part. part.0 < past) parts 0 b → AllWithin (λ part. past ≤ part.0) parts b (length parts)
      → entries at span (remove_range parts a b) ≡ without_range (from * span) (past * span) (entries at span parts)
  between_gone at span from past some under_a over_a under_b over_b =
      let new = remove_range parts a b in
      in_parts (λ j. in_part at (part_of parts j)) (λ j. in_part at (part_of new j)) span from past some
      (λ j r low high. ap (λ o. in_part at o r) (no_part new j (gone j
      (λ i d first last e. let lt = under_a i d first last in omega (arith, lt, e, low))
      (λ i d first last e. let ge = over_b i d first last in omega (arith, ge, e, high)))))
      (λ j r lt. ap (λ o. in_part at o r) (same_part parts new j (early j
      (λ i d first last e. let ge = over_a i d first last in omega (arith, ge, e, lt)))))
      (λ j r ge. ap (λ o. in_part at o r) (same_part parts new j (late j
      (λ i d first last e. let lt = under_b i d first last in omega (arith, lt, e, ge)))))
