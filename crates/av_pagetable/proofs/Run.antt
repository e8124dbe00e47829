-- A run of one page; the parts of a last table whose numbers stand side by side, which have the
-- entries of as many pages; and a walk over the parts that gathers a run with its holes.
use Rattle.std.proofs.Common.{◌≡◌, ℕ, zero, suc, ◌+◌, ◌-◌, ◌*◌, ◌<◌, ◌≤◌, List, length, get_or, replicate, slice_set, take, drop, refl, sym, ap, ◌∙◌, arith, inl, inr, get_or-set_same, get_or-set_other}
use Rattle.std.proofs.lemmas.List.{get_or-drop, get_or-take, get_or_default, length-drop, length-take-le, take_all}
use Rattle.std.proofs.lemmas.Bool.{cases_eq, cases_lt}
use Rattle.std.proofs.lemmas.Nat.{div-add-mod', mod_below}
use Rattle.std.specs.List.{AllPairs, AllWithin, HoldsAt}
use Rattle.av_pagetable.specs.declared.pte.Pte.{Pte}
use Rattle.av_pagetable.specs.declared.pte.Pte.TheVariants.{Empty}
use Rattle.av_pagetable.specs.Dir.{alone, count_from, entries, AreParts, AreSideBySide}
use Rattle.av_pagetable.specs.Table.{IsRun, ReachesLast, run_size}
use Rattle.av_pagetable.proofs.DirEntries.{absent, entries_there}

-- the part of an array that was read
pub run_taken : (table : ℕ → Pte) (page len : ℕ) (run : List Pte) → len ≤ length run → IsRun table page len run
    → (i : ℕ) → i < length (take len run) → get_or (take len run) i Empty ≡ table (page + i)
run_taken table page len run fits are i low =
    let under : i < len = omega (arith, low, length-take-le len run fits) in
    get_or-take len run i Empty under ∙ are i under

-- a page without an entry
pub one_empty : (table : ℕ → Pte) (page : ℕ) (run : List Pte) → 0 < length run → table page ≡ Empty → IsRun table page 1 (slice_set run 0 Empty)
one_empty table page run some none i low =
    let only : i ≡ 0 = omega (arith, low) in
    let here : page + i ≡ page = omega (arith, only) in
    ap (λ i. get_or (slice_set run 0 Empty) i Empty) only ∙ get_or-set_same run 0 Empty Empty some ∙ sym (ap table here ∙ none)

module _ (parts : List (ℕ × Pte)) (rising : AllPairs (λ part later. part.0 < later.0) parts) where
  -- numbers rise by one a place at least
  steps : (k n : ℕ) (d : ℕ × Pte) → k + n < length parts → (get_or parts k d).0 + n ≤ (get_or parts (k + n) d).0
  steps k zero d within = let same : (get_or parts (k + 0) d).0 ≡ (get_or parts k d).0 = ap (λ i. (get_or parts i d).0) (omega arith) in
      omega (arith, same)
  steps k (suc n) d within =
      let before = steps k n d (omega (arith, within)) in
      let lt = rising (k + n) (k + suc n) d (omega arith) within in
      omega (arith, before, lt)

  -- where the last of so many parts is that of the last page, none is missing
  pub none_missing : (page k n : ℕ) → k + n < length parts → HoldsAt (λ part. part.0 ≡ page) parts k
      → HoldsAt (λ part. part.0 ≡ page + n) parts (k + n)
      → (i : ℕ) → i < n + 1 → HoldsAt (λ part. part.0 ≡ page + i) parts (k + i)
  none_missing page k n many first last i under d =
      let up = steps k i d (omega (arith, many, under)) in
      let over = steps (k + i) (n - i) d (omega (arith, many, under)) in
      let end : (get_or parts (k + i + (n - i)) d).0 ≡ (get_or parts (k + n) d).0 = ap (λ j. (get_or parts j d).0) (omega (arith, under)) in
      let start = first d in
      let is = last d in
      omega (arith, up, over, end, start, is, under)

-- a page that is the number of no part
pub in_gap : (parts : List (ℕ × Pte)) (k page : ℕ) → k ≤ length parts → AllWithin (λ part. part.0 < page) parts 0 k
    → AllWithin (λ part. page < part.0) parts k (length parts) → entries alone 1 parts page ≡ Empty
in_gap parts k page within lower higher =
    absent alone 1 parts k page page within lower higher (omega (arith, div-add-mod' page 1, mod_below page 1 (omega arith)))

-- a page past the numbers of all parts
past_all : (parts : List (ℕ × Pte)) (page : ℕ) → AllWithin (λ part. part.0 < page) parts 0 (length parts) → entries alone 1 parts page ≡ Empty
past_all parts page lower = in_gap parts (length parts) page (omega arith) lower (λ i d low high. absurd (omega (arith, low, high)))

-- parts side by side from a place on
module _ (parts : List (ℕ × Pte)) (good : AreParts alone 1 parts) (page k len : ℕ) (side : AreSideBySide page parts k len) where
  -- where they are the last, a page behind theirs is past all numbers
  numbers_below : (i : ℕ) → k + len ≡ length parts → len ≤ i → AllWithin (λ part. part.0 < page + i) parts 0 (length parts)
  numbers_below i all past j d low high =
      let some = side.some in
      let last = k + (len - 1) in
      let up = steps parts good.rising j (last - j) d (omega (arith, high, some, all)) in
      let end : (get_or parts (j + (last - j)) d).0 ≡ (get_or parts last d).0 = ap (λ j. (get_or parts j d).0) (omega (arith, high, some, all)) in
      let is = side.numbers (len - 1) (omega (arith, some)) d in
      omega (arith, up, end, is, past, some)

  -- where they are fewer than a run has pages, they are the last
  pub side_reaches : len ≡ count_from parts k → ReachesLast (entries alone 1 parts) page len
  side_reaches count there i past under table =
      let within = side.within in
      past_all parts (page + i) (numbers_below i (omega (arith, count, within, past, under)) past)

module _ (parts : List (ℕ × Pte)) (good : AreParts alone 1 parts) (page k i : ℕ) (within : k + i < length parts)
    (number : HoldsAt (λ part. part.0 ≡ page + i) parts (k + i)) where
  pub under_512 : page + i < 512
  under_512 = let low = good.below (k + i) (0, Empty) within in let is = number (0, Empty) in omega (arith, low, is)

  pub run_there : entries alone 1 parts (page + i) ≡ (get_or parts (k + i) (0, Empty)).1
  run_there =
      let p = get_or parts (k + i) (0, Empty) in
      let at : page + i ≡ p.0 * 1 + 0 = omega (arith, number (0, Empty)) in
      ap (entries alone 1 parts) at ∙ entries_there alone 1 parts good (k + i) p within (get_or_default parts (k + i) (0, Empty) p within) 0 (omega arith)

-- ---- a walk that gathers a run
pub all_empty : (n i : ℕ) → get_or (replicate n Empty) i Empty ≡ Empty
all_empty zero i = refl
all_empty (suc n) zero = refl
all_empty (suc n) (suc i) = all_empty n i

-- the parts from a place on, as the walk goes over them
module _ (parts : List (ℕ × Pte)) (start i : ℕ) (under : i < length (take (length parts - start) (drop start parts))) where
  abbrev pub items : List (ℕ × Pte)
  items = take (length parts - start) (drop start parts)

  left : items ≡ drop start parts
  left = take_all (length parts - start) (drop start parts) (omega (arith, length-drop start parts))

  pub item_within : start + i < length parts
  item_within = omega (arith, under, ap length left, length-drop start parts)

  pub item_there : (d : ℕ × Pte) → get_or items i d ≡ get_or parts (start + i) (get_or items i d)
  item_there d = ap (λ l. get_or l i d) left ∙ get_or-drop start parts i d ∙ get_or_default parts (start + i) d (get_or items i d) item_within

-- the walk stands at a place: the parts before it have put in the entries of so many pages, and past these the run has none
pub record IsGathered (parts : List (ℕ × Pte)) (page place len : ℕ) (run : List Pte) : Type 0 where
  pub few : len ≤ run_size
  pub below : page + len ≤ 512
  pub lower : AllWithin (λ part. part.0 < page + len) parts 0 place
  pub higher : AllWithin (λ part. page + len ≤ part.0) parts place (length parts)
  pub done : (i : ℕ) → i < len → get_or run i Empty ≡ entries alone 1 parts (page + i)
  pub none : (i : ℕ) → i < run_size → len ≤ i → get_or run i Empty ≡ Empty

module _ (parts : List (ℕ × Pte)) (good : AreParts alone 1 parts) (page : ℕ) where
  -- at the start no part of a lower number is left, and the run has no entry
  pub at_start : (k : ℕ) (run : List Pte) → k < length parts → HoldsAt (λ part. part.0 ≡ page) parts k
      → ((i : ℕ) → get_or run i Empty ≡ Empty) → IsGathered parts page k 0 run
  at_start k run within number none = record {
    few = omega arith;
    below = let low = good.below k (0, Empty) within in let n = number (0, Empty) in omega (arith, low, n);
    lower = λ i d low high. let lt = good.rising i k d high within in let n = number d in omega (arith, lt, n);
    higher = λ i d low high. elim (cases_eq i k) [
      | inl e ↦ let same = ap (λ i. (get_or parts i d).0) e in let n = number d in omega (arith, same, n)
      | inr ne ↦ let lt = good.rising k i d (omega (arith, low, ne)) high in let n = number d in omega (arith, lt, n)
    ];
    done = λ i under. absurd (omega (arith, under));
    none = λ i under from. none i;
  }

  module _ (k len : ℕ) (run : List Pte) (w : IsGathered parts page k len run) where
    -- past the first part some entry is read
    pub some_read : (start : ℕ) → start < k → HoldsAt (λ part. part.0 ≡ page) parts start → 0 < len
    some_read start before number =
        let lt = w.lower start (0, Empty) (omega arith) before in let n = number (0, Empty) in omega (arith, lt, n)

    -- past the last part all are read
    pub reaches_end : length parts ≤ k → ReachesLast (entries alone 1 parts) page len
    reaches_end end some i past under table =
        past_all parts (page + i) (λ j d low high. let h = w.lower j d low (omega (arith, high, end)) in omega (arith, h, past))

    module _ (within : k < length parts) (p : ℕ × Pte) (there : p ≡ get_or parts k p) where
      number : (d : ℕ × Pte) → (get_or parts k d).0 ≡ p.0
      number d = ap (λ part. part.0) (get_or_default parts k d p within ∙ sym there)

      pub no_less : page + len ≤ p.0
      no_less = let h = w.higher k p (omega arith) within in let n = number p in omega (arith, h, n)

      from_here : AllWithin (λ part. p.0 ≤ part.0) parts k (length parts)
      from_here i d low high = elim (cases_eq i k) [
        | inl e ↦ let same = ap (λ i. (get_or parts i d).0) e in let n = number d in omega (arith, same, n)
        | inr ne ↦ let lt = good.rising k i d (omega (arith, low, ne)) high in let n = number d in omega (arith, lt, n)
      ]

      -- a page between the numbers of the parts before the place and from it on
      between : (x : ℕ) → page + len ≤ x → x < p.0 → entries alone 1 parts x ≡ Empty
      between x from to =
          in_gap parts k x (omega (arith, within)) (λ i d low high. let h = w.lower i d low high in omega (arith, h, from))
          (λ i d low high. let h = from_here i d low high in omega (arith, h, to))

      -- a part too far on for the run ends it
      pub reaches_far : page + run_size ≤ p.0 → ReachesLast (entries alone 1 parts) page len
      reaches_far far some i past under table = between (page + i) (omega (arith, past)) (omega (arith, under, far))

      here : (i : ℕ) → page + i ≡ p.0 → entries alone 1 parts (page + i) ≡ p.1
      here i e =
          let at : page + i ≡ p.0 * 1 + 0 = omega (arith, e) in
          ap (entries alone 1 parts) at ∙ entries_there alone 1 parts good k p within there 0 (omega arith)

      -- a part puts its entry in, past the holes before it
      pub one_more : (n : ℕ) → page + n ≡ p.0 → n < run_size → length run ≡ run_size
          → IsGathered parts page (k + 1) (n + 1) (slice_set run n p.1)
      one_more n is under long =
          let past = no_less in
          record {
            few = omega (arith, under);
            below = let low = good.below k p within in let m = number p in omega (arith, low, m, is);
            lower = λ i d low high. elim (cases_eq i k) [
              | inl e ↦ let same = ap (λ i. (get_or parts i d).0) e in let m = number d in omega (arith, same, m, is)
              | inr ne ↦ let lt = w.lower i d low (omega (arith, high, ne)) in omega (arith, lt, past, is)
            ];
            higher = λ i d low high. let lt = good.rising k i d (omega (arith, low)) high in let m = number d in omega (arith, lt, m, is);
            done = λ i low. elim (cases_eq i n) [
              | inl e ↦ ap (λ i. get_or (slice_set run n p.1) i Empty) e ∙ get_or-set_same run n p.1 Empty (omega (arith, under, long))
                  ∙ sym (here n is) ∙ ap (λ i. entries alone 1 parts (page + i)) (sym e)
              | inr ne ↦ get_or-set_other run n i p.1 Empty ne ∙ elim (cases_lt i len) [
                | inl lt ↦ w.done i lt
                | inr ge ↦ w.none i (omega (arith, low, under)) ge ∙ sym (between (page + i) (omega (arith, ge)) (omega (arith, low, ne, is)))
              ]
            ];
            none = λ i small high. get_or-set_other run n i p.1 Empty (λ e. omega (arith, e, high)) ∙ w.none i small (omega (arith, high, past, is));
          }
