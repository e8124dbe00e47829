-- The entries of a directory: after a change of one part, and the first from a page on.
use Rattle.std.proofs.Common.{◌≡◌, ◌≢◌, ℕ, ◌+◌, ◌*◌, ◌/◌, ◌%◌, ◌<◌, ◌≤◌, List, [], ◌∷◌, length, slice_set, get_or, refl, sym, ap, subst, ◌∙◌, arith, inl, inr, cond, true, false, Bool, ◌==◌, Option, Some, None, MatchOption, Result, Ok, Err, MatchResult, MatchBool}
use Rattle.std.specs.Prelude.{nat_lt, nat_eq, option_map}
use Rattle.std.specs.List.{AllWithin, HoldsAt, insert}
use Rattle.std.specs.Map.{lookup}
use Rattle.std.proofs.lemmas.Bool.{cases_eq, cases_lt}
use Rattle.std.proofs.lemmas.Bool.Decides.{nat_tests}
use Rattle.std.proofs.lemmas.List.{get_or_default}
use Rattle.std.proofs.lemmas.Nat.{div-add-mod', div-mul-add, mod-mul-add, mul-add-lt, div_below, le-div}
use Rattle.std.proofs.lemmas.Option.{slice_get_cases, slice_get_within, get_or_from_slice_get}
use Rattle.av_base.specs.Words.{with_at}
use Rattle.av_pagetable.specs.declared.pte.Pte.{Pte}
use Rattle.av_pagetable.specs.declared.pte.Pte.TheVariants.{Empty}
use Rattle.av_pagetable.specs.Table.{IsFirst, HasSome}
use Rattle.av_pagetable.specs.Dir.{no_entry, part_of, in_part, entries, entries_at, AreParts, IsFirstIn}
use Rattle.av_pagetable.proofs.DirParts.{found, set_here, set_others, insert_here, insert_others, gap}

test_true : (q k : ℕ) → q ≡ k → (q == k) ≡ true
test_true q k h = grind (arith, nat_tests)

test_false : (q k : ℕ) → q ≢ k → (q == k) ≡ false
test_false q k h = grind (arith, nat_tests)

less : (n m : ℕ) → n < m → nat_lt n m ≡ true
less n m h = grind (arith, nat_tests)

pub with_at_same : (k : ℕ) (x : Pte) (f : ℕ → Pte) → with_at k x f k ≡ x
with_at_same k x f = ap (λ b. cond b x (f k)) (test_true k k refl)

pub with_at_other : (k q : ℕ) (x : Pte) (f : ℕ → Pte) → q ≢ k → with_at k x f q ≡ f q
with_at_other k q x f ne = ap (λ b. cond b x (f q)) (test_false q k ne)

-- ---- pages by part and page there
page_from : (p q span : ℕ) → q / span ≡ p / span → q % span ≡ p % span → q ≡ p
page_from p q span d m = sym (div-add-mod' q span) ∙ ap (λ x. x * span + q % span) d ∙ ap (λ x. p / span * span + x) m ∙ div-add-mod' p span

start_le : (x span : ℕ) → x / span * span ≤ x
start_le x span = omega (arith, div-add-mod' x span)

-- a page from x on stands in the part of x or in a later one
later_part : (x y span : ℕ) → 0 < span → x ≤ y → x / span ≤ y / span
later_part x y span some h = le-div (x / span) y span some (omega (arith, h, start_le x span))

-- in the part of x it stands no earlier
later_there : (x y span : ℕ) → x ≤ y → x / span ≡ y / span → x % span ≤ y % span
later_there x y span h same = let e : x / span * span ≡ y / span * span = ap (λ d. d * span) same in
    omega (arith, h, e, div-add-mod' x span, div-add-mod' y span)

-- a part of a later number starts past the page
pub starts_past : (x n span : ℕ) → 0 < span → x / span < n → x ≤ n * span
starts_past x n span some h = elim (cases_lt (n * span) x) [
  | inl lt ↦ absurd (omega (arith, h, le-div n x span some (omega (arith, lt))))
  | inr ge ↦ omega (arith, ge)
]

pub next_row : (i span : ℕ) → (i + 1) * span ≡ i * span + span
next_row i span = grind arith

-- the part of a page before page q of part i
part_of_before : (i q x span : ℕ) → 0 < span → q < span → x < i * span + q → x / span ≤ i
part_of_before i q x span some under h =
    let below : x / span < i + 1 = div_below x span (i + 1) some (omega (arith, h, under, next_row i span)) in
    omega (arith, below)

there_before : (i q x span : ℕ) → x < i * span + q → x / span ≡ i → x % span < q
there_before i q x span h same = let e : x / span * span ≡ i * span = ap (λ d. d * span) same in omega (arith, h, e, div-add-mod' x span)

-- where one part changes at one page, the whole does
join : (F F' : ℕ → ℕ → Pte) (span p : ℕ) (e : Pte) → ((j r : ℕ) → j ≢ p / span → F' j r ≡ F j r) →
    ((r : ℕ) → F' (p / span) r ≡ with_at (p % span) e (F (p / span)) r)
    → ◌≡◌ {A = ℕ → Pte} (λ q. F' (q / span) (q % span)) (with_at p e (λ q. F (q / span) (q % span)))
join F F' span p e others here = λ i q. point q i
  where
    point : (q : ℕ) → F' (q / span) (q % span) ≡ with_at p e (λ q. F (q / span) (q % span)) q
    point q = elim (cases_eq q p) [
      | inl same ↦
          ap (λ q. F' (q / span) (q % span)) same ∙ here (p % span) ∙ with_at_same (p % span) e (F (p / span))
          ∙ sym (with_at_same p e (λ q. F (q / span) (q % span)))
          ∙ ap (with_at p e (λ q. F (q / span) (q % span))) (sym same)
      | inr other ↦
          elim (cases_eq (q / span) (p / span)) [
            | inl part ↦
                ap (λ j. F' j (q % span)) part ∙ here (q % span)
                ∙ with_at_other (p % span) (q % span) e (F (p / span)) (λ m. other (page_from p q span part m))
                ∙ ap (λ j. F j (q % span)) (sym part)
            | inr part ↦ others (q / span) (q % span) part
          ]
          ∙ sym (with_at_other p q e (λ q. F (q / span) (q % span)) other)
    ]

-- ---- parts by number
pub part_is : {C : Type 0} (parts : List (ℕ × C)) (n : ℕ) (o : Option C) → n < 512 → lookup (nat_eq n) parts ≡ o → part_of parts n ≡ o
part_is parts n o low is = ap (λ b. cond b (lookup (nat_eq n) parts) None) (less n 512 low) ∙ is

pub no_part : {C : Type 0} (parts : List (ℕ × C)) (n : ℕ) → lookup (nat_eq n) parts ≡ None → part_of parts n ≡ None
no_part {C = C} parts n none = ap (cond (nat_lt n 512) (lookup (nat_eq n) parts)) refl ∙ by (nat_lt n 512)
  where
    by : (b : Bool) → cond b (lookup (nat_eq n) parts) None ≡ None
    by true = none
    by false = refl

pub same_part : {C : Type 0} (parts parts' : List (ℕ × C)) (n : ℕ) → lookup (nat_eq n) parts' ≡ lookup (nat_eq n) parts
    → part_of parts' n ≡ part_of parts n
same_part parts parts' n is = ap (λ o. cond (nat_lt n 512) o None) is

module _ {C : Type 0} (at : C → ℕ → Pte) (span : ℕ) (parts : List (ℕ × C)) (good : AreParts at span parts) (k : ℕ) (p : ℕ × C)
    (within : k < length parts)
    (is : p ≡ get_or parts k p) where
  low : p.0 < 512
  low = let h = good.below k p within in omega (arith, h, ap (λ part. part.0) is)

  pub there : part_of parts p.0 ≡ Some p.1
  there = part_is parts p.0 (Some p.1) low (found at span parts good k p within is)

  -- the entries of the part, at its pages of the whole
  pub entries_there : (q : ℕ) → q < span → entries at span parts (p.0 * span + q) ≡ at p.1 q
  entries_there q under =
      ap (λ n. in_part at (part_of parts n) ((p.0 * span + q) % span)) (div-mul-add p.0 span q under)
      ∙ ap (in_part at (part_of parts p.0)) (mod-mul-add p.0 span q under)
      ∙ ap (λ o. in_part at o q) there

  pub entry_there : (page : ℕ) → p.0 ≡ page / span → entries at span parts page ≡ at p.1 (page % span)
  entry_there page here = ap (λ n. in_part at (part_of parts n) (page % span)) (sym here) ∙ ap (λ o. in_part at o (page % span)) there

  pub written : (page : ℕ) (e : Pte) (c : C) → p.0 ≡ page / span → at c ≡ with_at (page % span) e (at p.1) →
      entries at span (slice_set parts k (p.0, c)) ≡ with_at page e (entries at span parts)
  written page e c here now =
      join (λ j. in_part at (part_of parts j)) (λ j. in_part at (part_of (slice_set parts k (p.0, c)) j)) span page e
      (λ j r other. ap (λ o. in_part at o r) (same_part parts (slice_set parts k (p.0, c)) j
      (set_others at span parts good k p within is (p.0, c) refl j (λ e. other (e ∙ here)))))
      (λ r. subst (λ n. in_part at (part_of (slice_set parts k (p.0, c)) n) r ≡ with_at (page % span) e (in_part at (part_of parts n)) r) here
      (ap (λ o. in_part at o r) (part_is (slice_set parts k (p.0, c)) p.0 (Some c) low (set_here at span parts good k p within is (p.0, c) refl))
      ∙ (λ i. now i r) ∙ ap (λ o. with_at (page % span) e (in_part at o) r) (sym there)))

  pub stays : (c : C) → at c ≡ at p.1 → entries at span (slice_set parts k (p.0, c)) ≡ entries at span parts
  stays c now = λ i page. same (page / span) i (page % span)
    where
      same : (n : ℕ) → in_part at (part_of (slice_set parts k (p.0, c)) n) ≡ in_part at (part_of parts n)
      same n = elim (cases_eq n p.0) [
        | inl e ↦ subst (λ n. in_part at (part_of (slice_set parts k (p.0, c)) n) ≡ in_part at (part_of parts n)) (sym e)
            (ap (in_part at) (part_is (slice_set parts k (p.0, c)) p.0 (Some c) low (set_here at span parts good k p within is (p.0, c) refl))
            ∙ now ∙ ap (in_part at) (sym there))
        | inr ne ↦ ap (in_part at) (same_part parts (slice_set parts k (p.0, c)) n (set_others at span parts good k p within is (p.0, c) refl n ne))
      ]

  -- the first entry from a page of the part on, where the part has it
  pub first_here : (page q : ℕ) → 0 < span → p.0 ≡ page / span → IsFirst (at p.1) (page % span) span q →
      IsFirst (entries at span parts) page (span * 512) (p.0 * span + q)
  first_here page q some here first = record {
    from_there = let e : p.0 * span ≡ page / span * span = ap (λ d. d * span) here in omega (arith, e, div-add-mod' page span, first.from_there);
    below = mul-add-lt p.0 span q 512 low first.below;
    there = λ none. first.there (sym (entries_there q first.below) ∙ none);
    least = least;
  }
    where
      least : (x : ℕ) → page ≤ x → x < p.0 * span + q → entries at span parts x ≡ Empty
      least x from to =
          let one = later_part page x span some from in
          let two = part_of_before p.0 q x span some first.below to in
          let same : p.0 ≡ x / span = omega (arith, one, two, here) in
          entry_there x same ∙ first.least (x % span) (later_there page x span from (sym here ∙ same)) (there_before p.0 q x span to (sym same))

  -- and where an earlier page of the parts before has none
  pub first_later : (page q : ℕ) → 0 < span → page ≤ p.0 * span → ((x : ℕ) → page ≤ x → x / span < p.0 → entries at span parts x ≡ Empty) →
      IsFirst (at p.1) 0 span q
      → IsFirst (entries at span parts) page (span * 512) (p.0 * span + q)
  first_later page q some later none first = record {
    from_there = omega (arith, later);
    below = mul-add-lt p.0 span q 512 low first.below;
    there = λ none. first.there (sym (entries_there q first.below) ∙ none);
    least = least;
  }
    where
      least : (x : ℕ) → page ≤ x → x < p.0 * span + q → entries at span parts x ≡ Empty
      least x from to = elim (cases_eq (x / span) p.0) [
        | inl same ↦ entry_there x (sym same) ∙ first.least (x % span) (omega arith) (there_before p.0 q x span to same)
        | inr apart ↦ let two = part_of_before p.0 q x span some first.below to in none x from (omega (arith, two, apart))
      ]

-- a part is put in
pub added : {C : Type 0} (at : C → ℕ → Pte) (span : ℕ) (parts : List (ℕ × C)) (good : AreParts at span parts) (k n page : ℕ) (e : Pte) (c' : C) →
    k ≤ length parts
    → AllWithin (λ part. part.0 < n) parts 0 k → AllWithin (λ part. n < part.0) parts k (length parts) → n < 512 → n ≡ page / span
    → at c' ≡ with_at (page % span) e no_entry → entries at span (insert parts k (n, c')) ≡ with_at page e (entries at span parts)
added at span parts good k n page e c' within lower higher low here now =
    join (λ j. in_part at (part_of parts j)) (λ j. in_part at (part_of (insert parts k (n, c')) j)) span page e
    (λ j r other. ap (λ o. in_part at o r) (same_part parts (insert parts k (n, c')) j
    (insert_others at span parts good k (n, c') within lower higher j (λ e. other (e ∙ here)))))
    (λ r. subst (λ n'. in_part at (part_of (insert parts k (n, c')) n') r ≡ with_at (page % span) e (in_part at (part_of parts n')) r) here
    (ap (λ o. in_part at o r) (part_is (insert parts k (n, c')) n (Some c') low (insert_here at span parts good k (n, c') within lower higher))
    ∙ (λ i. now i r) ∙ ap (λ o. with_at (page % span) e (in_part at o) r)
    (sym (no_part parts n (gap parts k n within lower higher)))))

-- ---- the first entry from a page on
module _ {C : Type 0} (at : C → ℕ → Pte) (span : ℕ) (parts : List (ℕ × C)) (good : AreParts at span parts) (some : 0 < span) where
  -- the numbers from a place on lie above one that is below the first of them
  above : (m n : ℕ) (p : ℕ × C) → m < length parts → p ≡ get_or parts m p → n < p.0 → AllWithin (λ part. n < part.0) parts m (length parts)
  above m n p within is h i d low high = elim (cases_eq i m) [
    | inl e ↦ let at_m = ap (λ i. (get_or parts i d).0) e ∙ ap (λ part. part.0) (get_or_default parts m d p within ∙ sym is) in omega (arith, at_m, h)
    | inr ne ↦ let lt = good.rising m i d (omega (arith, low, ne)) high in let at_m =
        ap (λ part. part.0) (get_or_default parts m d p within ∙ sym is) in
        omega (arith, lt, at_m, h)
  ]

  pub not_there : (page k : ℕ) → k ≤ length parts → AllWithin (λ part. part.0 < page / span) parts 0 k
      → (x : ℕ) → page ≤ x → AllWithin (λ part. x / span < part.0) parts k (length parts) → entries at span parts x ≡ Empty
  not_there page k within lower x from higher =
      let later = later_part page x span some from in
      ap (λ o. in_part at o (x % span)) (no_part parts (x / span) (gap parts k (x / span) within (λ i d low high. let lt = lower i d low high in
      omega (arith, lt, later)) higher))

  pub not_later : (page k : ℕ) (p : ℕ × C) → k < length parts → p ≡ get_or parts k p → p.0 ≡ page / span
      → ((q : ℕ) → page % span ≤ q → at p.1 q ≡ Empty)
      → (x : ℕ) → page ≤ x → AllWithin (λ part. x / span < part.0) parts (k + 1) (length parts) → entries at span parts x ≡ Empty
  not_later page k p within is here none x from higher = elim (cases_eq (x / span) p.0) [
    | inl same ↦ entry_there at span parts good k p within is x (sym same) ∙ none (x % span) (later_there page x span from (sym here ∙ sym same))
    | inr apart ↦ ap (λ o. in_part at o (x % span)) (no_part parts (x / span)
        (gap parts (k + 1) (x / span) (omega (arith, within)) (λ i d low high. lower apart i d high) higher))
  ]
    where
      lower : x / span ≢ p.0 → (i : ℕ) (d : ℕ × C) → i < k + 1 → (get_or parts i d).0 < x / span
      lower differs i d high = elim (cases_eq i k) [
        | inl e ↦ let at_k = ap (λ i. (get_or parts i d).0) e ∙ ap (λ part. part.0) (get_or_default parts k d p within ∙ sym is) in
            omega (arith, at_k, here, later_part page x span some from, differs)
        | inr ne ↦ let lt = good.rising i k d (omega (arith, high, ne)) within in let at_k =
            ap (λ part. part.0) (get_or_default parts k d p within ∙ sym is) in
            omega (arith, lt, at_k, here, later_part page x span some from)
      ]

  pub from_place : (page m : ℕ) (r : Option ℕ) → ((x : ℕ) → page ≤ x → AllWithin (λ part. x / span < part.0) parts m (length parts) →
      entries at span parts x ≡ Empty)
      → ((p : ℕ × C) → m < length parts → p ≡ get_or parts m p → page ≤ p.0 * span)
      → MatchOption r ((q : ℕ) → 0 ≤ q → entries_at at parts m q ≡ Empty) (λ found. IsFirstIn at span parts m 0 found)
      → MatchOption r ((q : ℕ) → page ≤ q → entries at span parts q ≡ Empty) (λ found. IsFirst (entries at span parts) page (span * 512) found)
  from_place page m (Some page') passed later (p, q, is, found_is, first) =
      let within = slice_get_within parts m p is in
      let at_m = sym (get_or_from_slice_get parts m p p is) in
      subst (λ n. IsFirst (entries at span parts) page (span * 512) n) (sym found_is)
      (first_later at span parts good m p within at_m page q some (later p within at_m)
      (λ x from under. passed x from (above m (x / span) p within at_m under)) first)
  from_place page m None passed later none = elim (slice_get_cases parts m).1 [
    | inl (p, within, is, at_m) ↦ absurd (good.full m p within (λ q under. subst (λ (c : ℕ × C). at c.1 q ≡ Empty) (sym at_m)
        (ap (λ o. in_part at (option_map (λ part. part.1) o) q) (sym is) ∙ none q (omega arith))))
    | inr (past, is) ↦ λ x from. passed x from (λ i d low high. absurd (omega (arith, past, low, high)))
  ]

  -- a part of the page's number has it
  pub from_part : (page k page' : ℕ) → HoldsAt (λ part. part.0 ≡ page / span) parts k → IsFirstIn at span parts k (page % span) page' →
      IsFirst (entries at span parts) page (span * 512) page'
  from_part page k page' number (p, q, is, found_is, first) =
      let within = slice_get_within parts k p is in
      let at_k : p ≡ get_or parts k p = sym (get_or_from_slice_get parts k p p is) in
      subst (λ n. IsFirst (entries at span parts) page (span * 512) n) (sym found_is)
      (first_here at span parts good k p within at_k page q some (ap (λ part. part.0) at_k ∙ number p) first)

  -- it has none from the page on, so a later part has it
  pub after_part : (page k : ℕ) (r : Option ℕ) → k < length parts → HoldsAt (λ part. part.0 ≡ page / span) parts k →
      ((q : ℕ) → page % span ≤ q → entries_at at parts k q ≡ Empty)
      → MatchOption r ((q : ℕ) → 0 ≤ q → entries_at at parts (k + 1) q ≡ Empty) (λ found. IsFirstIn at span parts (k + 1) 0 found)
      → MatchOption r ((q : ℕ) → page ≤ q → entries at span parts q ≡ Empty) (λ found. IsFirst (entries at span parts) page (span * 512) found)
  after_part page k r within number none = elim (slice_get_cases parts k).1 [
    | inl (p, _, is, at_k) ↦ from_place page (k + 1) r
        (not_later page k p within (sym at_k) (ap (λ part. part.0) (sym at_k) ∙ number p)
        (λ q from. ap (λ o. in_part at (option_map (λ part. part.1) o) q) (sym is) ∙ none q from))
        (λ p' within' is'. let lt = good.rising k (k + 1) p' (omega arith) within' in
        starts_past page p'.0 span some (omega (arith, lt, number p', ap (λ part. part.0) is')))
    | inr (past, _) ↦ absurd (omega (arith, past, within))
  ]

  -- no part has the page's number
  pub after_gap : (page k : ℕ) (r : Option ℕ) → k ≤ length parts → AllWithin (λ part. part.0 < page / span) parts 0 k →
      AllWithin (λ part. page / span < part.0) parts k (length parts)
      → MatchOption r ((q : ℕ) → 0 ≤ q → entries_at at parts k q ≡ Empty) (λ found. IsFirstIn at span parts k 0 found)
      → MatchOption r ((q : ℕ) → page ≤ q → entries at span parts q ≡ Empty) (λ found. IsFirst (entries at span parts) page (span * 512) found)
  after_gap page k r within lower higher =
      from_place page k r (not_there page k within lower) (λ p within' is'. let lt = higher k p (omega arith) within' in
      starts_past page p.0 span some (omega (arith, lt, ap (λ part. part.0) is')))

  -- the first part has the first of all
  pub from_start : (r : Option ℕ) → MatchOption r ((q : ℕ) → 0 ≤ q → entries_at at parts 0 q ≡ Empty) (λ found. IsFirstIn at span parts 0 0 found)
      → MatchOption r ((q : ℕ) → 0 ≤ q → entries at span parts q ≡ Empty) (λ found. IsFirst (entries at span parts) 0 (span * 512) found)
  from_start r = from_place 0 0 r (not_there 0 0 (omega arith) (λ i d low high. absurd (omega (arith, low, high)))) (λ p within is. omega arith)

-- ---- a directory is empty exactly where it has no part
pub some_entry : {C : Type 0} (at : C → ℕ → Pte) (span : ℕ) (parts : List (ℕ × C)) → AreParts at span parts → 0 < length parts →
    HasSome (span * 512) (entries at span parts)
some_entry {C = C} at span parts good more none = elim (slice_get_cases parts 0).1 [
  | inl (p, within, is, at_0) ↦ good.full 0 p within (λ q under. subst (λ (c : ℕ × C). at c.1 q ≡ Empty) (sym at_0)
      (sym (entries_there at span parts good 0 p within (sym at_0) q under) ∙ none (p.0 * span + q)
      (mul-add-lt p.0 span q 512 (let h = good.below 0 p within in omega (arith, h, ap (λ part. part.0) at_0)) under)))
  | inr (past, is) ↦ omega (arith, past, more)
]

pub no_entries : {C : Type 0} (at : C → ℕ → Pte) (span : ℕ) (parts : List (ℕ × C)) → length parts ≡ 0 → (page : ℕ)
    → entries at span parts page ≡ Empty
no_entries at span [] none page = ap (λ o. in_part at o (page % span)) (no_part [] (page / span) refl)
no_entries at span (p ∷ ps) none page = absurd (omega (arith, none))

-- ---- a part keeps an entry
pub some_written : {C : Type 0} (at : C → ℕ → Pte) (span r : ℕ) (e : Pte) (f : ℕ → Pte) (c' : C) → r < span → (e ≡ Empty → ⊥) →
    at c' ≡ with_at r e f → HasSome span (at c')
some_written at span r e f c' under some now none = some (sym (with_at_same r e f) ∙ ap (λ f. f r) (sym now) ∙ none r under)

-- after a write that may have found no memory
pub some_either : {C A E : Type 0} (at : C → ℕ → Pte) (span r : ℕ) (e : Pte) (c c' : C) (result : Result A E) → HasSome span (at c) → r < span
    → (e ≡ Empty → ⊥)
    → MatchResult result (λ _. at c' ≡ with_at r e (at c)) (λ _. at c' ≡ at c) → HasSome span (at c')
some_either at span r e c c' (Ok x) had under some now = some_written at span r e (at c) c' under some now
some_either at span r e c c' (Err x) had under some now = λ none. had (λ q low. ap (λ f. f q) (sym now) ∙ none q low)

-- after a write that may not have been done
pub some_whether : {C : Type 0} (at : C → ℕ → Pte) (span r : ℕ) (e : Pte) (c c' : C) (done : Bool) → HasSome span (at c) → r < span
    → (e ≡ Empty → ⊥)
    → MatchBool done (at c' ≡ with_at r e (at c)) (at c' ≡ at c) → HasSome span (at c')
some_whether at span r e c c' true had under some now = some_written at span r e (at c) c' under some now
some_whether at span r e c c' false had under some now = λ none. had (λ q low. ap (λ f. f q) (sym now) ∙ none q low)

-- the part at a place is that of its number
pub part_there : {C : Type 0} (at : C → ℕ → Pte) (span : ℕ) (parts : List (ℕ × C)) → AreParts at span parts → (k : ℕ) (p : ℕ × C) →
    k < length parts → p ≡ get_or parts k p
    → (n : ℕ) → p.0 ≡ n → Some p.1 ≡ part_of parts n
part_there at span parts good k p within is n here = sym (there at span parts good k p within is) ∙ ap (part_of parts) here

-- where one would stand, there is none
pub part_absent : {C : Type 0} (parts : List (ℕ × C)) (k n : ℕ) → k ≤ length parts → AllWithin (λ part. part.0 < n) parts 0 k →
    AllWithin (λ part. n < part.0) parts k (length parts)
    → None ≡ part_of parts n
part_absent parts k n within lower higher = sym (no_part parts n (gap parts k n within lower higher))

-- where a part would stand, its pages have no entry
pub absent : {C : Type 0} (at : C → ℕ → Pte) (span : ℕ) (parts : List (ℕ × C)) (k n page : ℕ) → k ≤ length parts
    → AllWithin (λ part. part.0 < n) parts 0 k →
    AllWithin (λ part. n < part.0) parts k (length parts)
    → n ≡ page / span → entries at span parts page ≡ Empty
absent at span parts k n page within lower higher here = ap (λ n. in_part at (part_of parts n) (page % span)) (sym here)
    ∙ ap (λ o. in_part at o (page % span))
    (no_part parts n (gap parts k n within lower higher))
