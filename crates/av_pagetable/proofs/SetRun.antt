-- Tables and directories in which the entries of a run are given to pages in a row.
use Rattle.std.proofs.Common.{◌≡◌, ◌≢◌, ℕ, ◌+◌, ◌-◌, ◌*◌, ◌/◌, ◌%◌, ◌<◌, ◌≤◌, List, [], ◌∷◌, length, take, drop, get_or, slice_set, refl, sym, ap, ◌∙◌, arith, inl, inr, cond, true, false, Bool, Some}
use Rattle.std.specs.List.{AllWithin, insert}
use Rattle.std.proofs.lemmas.Bool.{cases_eq, cases_lt}
use Rattle.std.proofs.lemmas.Bool.Decides.{nat_tests}
use Rattle.std.proofs.lemmas.List.{get_or-drop, get_or-take, length-drop, length-take-le}
use Rattle.av_base.specs.Words.{with_at, within}
use Rattle.av_pagetable.specs.declared.pte.Pte.{Pte}
use Rattle.av_pagetable.specs.declared.pte.Pte.TheVariants.{Empty, Zero, Here, Away}
use Rattle.av_pagetable.specs.Table.{HasSome, given_or, with_run}
use Rattle.av_pagetable.specs.Dir.{AreParts, entries, in_part, part_of}
use Rattle.av_pagetable.proofs.DirParts.{gap, insert_here, insert_others, set_here, set_others}
use Rattle.av_pagetable.proofs.DirEntries.{no_part, part_is, same_part, there, with_at_other, with_at_same}
use Rattle.av_pagetable.proofs.Ranges.{page_of, part_at}

-- ---- a table
test_inside : (from n page : ℕ) → from ≤ page → page < from + n → within from n page ≡ true
test_inside from n page low high = grind (arith, nat_tests)

test_below : (from n page : ℕ) → page < from → within from n page ≡ false
test_below from n page low = grind (arith, nat_tests)

test_past : (from n page : ℕ) → from + n ≤ page → within from n page ≡ false
test_past from n page high = grind (arith, nat_tests)

module _ (from n : ℕ) (run : List Pte) (table : ℕ → Pte) (page : ℕ) where
  pub inside : from ≤ page → page < from + n → with_run from n run table page ≡ given_or (get_or run (page - from) Empty) (table page)
  inside low high = ap (λ b. cond b (given_or (get_or run (page - from) Empty) (table page)) (table page)) (test_inside from n page low high)

  pub below : page < from → with_run from n run table page ≡ table page
  below low = ap (λ b. cond b (given_or (get_or run (page - from) Empty) (table page)) (table page)) (test_below from n page low)

  pub behind : from + n ≤ page → with_run from n run table page ≡ table page
  behind high = ap (λ b. cond b (given_or (get_or run (page - from) Empty) (table page)) (table page)) (test_past from n page high)

-- page by page
pub by_pages : (from n : ℕ) (run : List Pte) (old new : ℕ → Pte)
    → ((page : ℕ) → from ≤ page → page < from + n → new page ≡ given_or (get_or run (page - from) Empty) (old page))
    → ((page : ℕ) → page < from → new page ≡ old page) → ((page : ℕ) → from + n ≤ page → new page ≡ old page) → new ≡ with_run from n run old
by_pages from n run old new given lower higher = λ i page. point page i
  where
    point : (page : ℕ) → new page ≡ with_run from n run old page
    point page = elim (cases_lt page from) [
      | inl lt ↦ lower page lt ∙ sym (below from n run old page lt)
      | inr ge ↦ elim (cases_lt page (from + n)) [
        | inl lt ↦ given page ge lt ∙ sym (inside from n run old page ge lt)
        | inr high ↦ higher page high ∙ sym (behind from n run old page high)
      ]
    ]

-- no page is given an entry
pub none_given : (from : ℕ) (run : List Pte) (table : ℕ → Pte) → table ≡ with_run from 0 run table
none_given from run table = by_pages from 0 run table table (λ page low high. absurd (omega (arith, low, high))) (λ page low. refl) (λ page high. refl)

-- the first entries are given, and then those behind them
pub joined : (from i m : ℕ) (run part : List Pte) (old new last : ℕ → Pte) → ((k : ℕ) → k < m → get_or part k Empty ≡ get_or run (i + k) Empty)
    → new ≡ with_run from i run old → last ≡ with_run (from + i) m part new → last ≡ with_run from (i + m) run old
joined from i m run part old new last same one two = two ∙ ap (with_run (from + i) m part) one
    ∙ by_pages from (i + m) run old (with_run (from + i) m part (with_run from i run old)) given
    (λ page lt. below (from + i) m part (with_run from i run old) page (omega (arith, lt)) ∙ below from i run old page lt)
    (λ page ge. behind (from + i) m part (with_run from i run old) page (omega (arith, ge)) ∙ behind from i run old page (omega (arith, ge)))
  where
    given : (page : ℕ) → from ≤ page → page < from + (i + m)
        → with_run (from + i) m part (with_run from i run old) page ≡ given_or (get_or run (page - from) Empty) (old page)
    given page low high = elim (cases_lt page (from + i)) [
      | inl lt ↦ below (from + i) m part (with_run from i run old) page lt ∙ inside from i run old page low lt
      | inr ge ↦ inside (from + i) m part (with_run from i run old) page ge (omega (arith, high))
          ∙ ap (given_or (get_or part (page - (from + i)) Empty)) (behind from i run old page ge)
          ∙ ap (λ e. given_or e (old page)) (same (page - (from + i)) (omega (arith, ge, high)) ∙ ap (λ k. get_or run k Empty) (omega (arith, ge)))
    ]

-- one entry is given after those before it
pub one_more : (from k : ℕ) (run : List Pte) (old now new : ℕ → Pte) → now ≡ with_run from k run old
    → new ≡ with_run (from + k) 1 (get_or run k Empty ∷ []) now → new ≡ with_run from (k + 1) run old
one_more from k run old now new = joined from k 1 run (get_or run k Empty ∷ []) old now new same
  where
    same : (j : ℕ) → j < 1 → get_or (get_or run k Empty ∷ []) j Empty ≡ get_or run (k + j) Empty
    same j low =
        let first : j ≡ 0 = omega (arith, low) in
        let there : k ≡ k + j = omega (arith, low) in
        ap (λ j. get_or (get_or run k Empty ∷ []) j Empty) first ∙ ap (λ n. get_or run n Empty) there

given_some : (e own : Pte) → (e ≡ Empty → ⊥) → given_or e own ≡ e
given_some Empty own some = absurd (some refl)
given_some Zero own some = refl
given_some (Here f write seen) own some = refl
given_some (Away s) own some = refl

-- it is an entry
pub one_given : (page : ℕ) (e : Pte) (table : ℕ → Pte) → (e ≡ Empty → ⊥) → with_at page e table ≡ with_run page 1 (e ∷ []) table
one_given page e table some = by_pages page 1 (e ∷ []) table (with_at page e table)
    (λ q low high.
    let here : q ≡ page = omega (arith, low, high) in
    let first : 0 ≡ q - page = omega (arith, here) in
    ap (with_at page e table) here ∙ with_at_same page e table ∙ sym (given_some e (table q) some)
    ∙ ap (λ j. given_or (get_or (e ∷ []) j Empty) (table q)) first)
    (λ q lt. with_at_other page q e table (omega (arith, lt)))
    (λ q ge. with_at_other page q e table (omega (arith, ge)))

-- or it is none
pub hole_given : (page : ℕ) (e : Pte) (table : ℕ → Pte) → e ≡ Empty → table ≡ with_run page 1 (e ∷ []) table
hole_given page e table none = by_pages page 1 (e ∷ []) table table
    (λ q low high.
    let first : 0 ≡ q - page = omega (arith, low, high) in
    ap (λ e. given_or e (table q)) (sym none) ∙ ap (λ j. given_or (get_or (e ∷ []) j Empty) (table q)) first)
    (λ q lt. refl) (λ q ge. refl)

-- what stands behind the first entries is read as a part of the run
module _ (run : List Pte) (a b m : ℕ) (order : a ≤ b) (within : b ≤ length run) (few : m ≤ length (take (b - a) (drop a run))) where
  pub long : length (take (b - a) (drop a run)) ≡ b - a
  long = length-take-le (b - a) (drop a run) (omega (arith, length-drop a run, within))

  pub still_few : a + m ≤ length run
  still_few = omega (arith, few, long, order, within)

  pub then_part : (from : ℕ) (old new last : ℕ → Pte) → new ≡ with_run from a run old → last ≡ with_run (from + a) m (take (b - a) (drop a run)) new
      → last ≡ with_run from (a + m) run old
  then_part from old new last = joined from a m run (take (b - a) (drop a run)) old new last
      (λ k low. get_or-take (b - a) (drop a run) k Empty (omega (arith, low, few, long)) ∙ get_or-drop a run k Empty)

-- an entry that is given takes none away
own_stays : (e own : Pte) → given_or e own ≡ Empty → own ≡ Empty
own_stays Empty own none = none
own_stays Zero own none = cc
own_stays (Here f write seen) own none = cc
own_stays (Away s) own none = cc

pub bare_before : (from n : ℕ) (run : List Pte) (table : ℕ → Pte) (page : ℕ) → with_run from n run table page ≡ Empty → table page ≡ Empty
bare_before from n run table page = by (within from n page)
  where
    by : (b : Bool) → cond b (given_or (get_or run (page - from) Empty) (table page)) (table page) ≡ Empty → table page ≡ Empty
    by true none = own_stays (get_or run (page - from) Empty) (table page) none
    by false none = none

pub some_still : {C : Type 0} (at : C → ℕ → Pte) (span from n : ℕ) (run : List Pte) (c c' : C) → HasSome span (at c)
    → at c' ≡ with_run from n run (at c) → HasSome span (at c')
some_still at span from n run c c' had now none = had (λ q low. bare_before from n run (at c) q (sym (λ i. now i q) ∙ none q low))

-- ---- a directory
-- where pages of one part are given entries, they are given them in the whole
in_one : (F F' : ℕ → ℕ → Pte) (span number page n : ℕ) (run : List Pte) → 0 < span → page + n ≤ span → ((j r : ℕ) → j ≢ number → F' j r ≡ F j r)
    → ((r : ℕ) → F' number r ≡ with_run page n run (F number) r)
    → ◌≡◌ {A = ℕ → Pte} (λ q. F' (q / span) (q % span)) (with_run (number * span + page) n run (λ q. F (q / span) (q % span)))
in_one F F' span number page n run some under others here =
    by_pages (number * span + page) n run (λ q. F (q / span) (q % span)) (λ q. F' (q / span) (q % span)) given
    (λ q lt. kept q (λ same. below page n run (F number) (q % span) (omega (arith, lt, page_of q number span same))))
    (λ q ge. kept q (λ same. behind page n run (F number) (q % span) (omega (arith, ge, page_of q number span same))))
  where
    given : (q : ℕ) → number * span + page ≤ q → q < number * span + page + n
        → F' (q / span) (q % span) ≡ given_or (get_or run (q - (number * span + page)) Empty) (F (q / span) (q % span))
    given q low high =
        let same : q / span ≡ number = part_at q number span some (omega (arith, low)) (omega (arith, high, under)) in
        let at = page_of q number span same in
        ap (λ j. F' j (q % span)) same ∙ here (q % span)
        ∙ inside page n run (F number) (q % span) (omega (arith, low, at)) (omega (arith, high, at))
        ∙ ap (λ k. given_or (get_or run k Empty) (F number (q % span))) (omega (arith, low, at))
        ∙ ap (λ j. given_or (get_or run (q - (number * span + page)) Empty) (F j (q % span))) (sym same)

    kept : (q : ℕ) → (q / span ≡ number → with_run page n run (F number) (q % span) ≡ F number (q % span))
        → F' (q / span) (q % span) ≡ F (q / span) (q % span)
    kept q outside = elim (cases_eq (q / span) number) [
      | inl same ↦ ap (λ j. F' j (q % span)) same ∙ here (q % span) ∙ outside same ∙ ap (λ j. F j (q % span)) (sym same)
      | inr apart ↦ others (q / span) (q % span) apart
    ]

-- a part that is there
pub given : {C : Type 0} (at : C → ℕ → Pte) (span : ℕ) (parts : List (ℕ × C)) (good : AreParts at span parts) (k : ℕ) (p : ℕ × C)
    → k < length parts → p ≡ get_or parts k p → (page n : ℕ) (run : List Pte) (c : C) → 0 < span → page + n ≤ span
    → at c ≡ with_run page n run (at p.1)
    → entries at span (slice_set parts k (p.0, c)) ≡ with_run (p.0 * span + page) n run (entries at span parts)
given at span parts good k p within is page n run c some under now =
    let new = slice_set parts k (p.0, c) in
    in_one (λ j. in_part at (part_of parts j)) (λ j. in_part at (part_of new j)) span p.0 page n run some under
    (λ j r other. ap (λ o. in_part at o r) (same_part parts new j (set_others at span parts good k p within is (p.0, c) refl j other)))
    (λ r. ap (λ o. in_part at o r) (part_is new p.0 (Some c) low (set_here at span parts good k p within is (p.0, c) refl))
    ∙ (λ i. now i r) ∙ ap (λ o. with_run page n run (in_part at o) r) (sym (there at span parts good k p within is)))
  where
    low : p.0 < 512
    low = let h = good.below k p within in omega (arith, h, ap (λ part. part.0) is)

-- a part that isn't there: a new one is put in, or stays away where it has no entry
module _ {C : Type 0} (at : C → ℕ → Pte) (span : ℕ) (parts : List (ℕ × C)) (good : AreParts at span parts) (k number : ℕ) (within : k ≤ length parts)
    (lower : AllWithin (λ part. part.0 < number) parts 0 k) (higher : AllWithin (λ part. number < part.0) parts k (length parts))
    (low : number < 512)
    (page n : ℕ) (run : List Pte) (bare c : C) (some : 0 < span) (under : page + n ≤ span)
    (none : (q : ℕ) → at bare q ≡ Empty) (now : at c ≡ with_run page n run (at bare)) where
  there_none : (r : ℕ) → at c r ≡ with_run page n run (in_part at (part_of parts number)) r
  there_none r = (λ i. now i r) ∙ (λ i. with_run page n run (λ q. none q i) r)
      ∙ ap (λ o. with_run page n run (in_part at o) r) (sym (no_part parts number (gap parts k number within lower higher)))

  pub added : entries at span (insert parts k (number, c)) ≡ with_run (number * span + page) n run (entries at span parts)
  added =
      let new = insert parts k (number, c) in
      in_one (λ j. in_part at (part_of parts j)) (λ j. in_part at (part_of new j)) span number page n run some under
      (λ j r other. ap (λ o. in_part at o r) (same_part parts new j (insert_others at span parts good k (number, c) within lower higher j other)))
      (λ r. ap (λ o. in_part at o r) (part_is new number (Some c) low (insert_here at span parts good k (number, c) within lower higher))
      ∙ there_none r)

  pub left_out : ((q : ℕ) → at c q ≡ Empty) → entries at span parts ≡ with_run (number * span + page) n run (entries at span parts)
  left_out empty =
      in_one (λ j. in_part at (part_of parts j)) (λ j. in_part at (part_of parts j)) span number page n run some under (λ j r other. refl)
      (λ r. ap (λ o. in_part at o r) (no_part parts number (gap parts k number within lower higher)) ∙ sym (empty r) ∙ there_none r)
