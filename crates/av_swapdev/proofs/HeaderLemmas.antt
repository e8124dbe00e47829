-- What the tests of a header leave.
use Rattle.std.proofs.Common.{◌≡◌, ℕ, ◌+◌, ◌-◌, ◌<◌, ◌≤◌, min, eqb, ltb, ◌&&◌, Bool, true, false, cond, List, length, Option, Some, None, Result, Ok, Err, IfOk, refl, sym, ap, subst, ◌∙◌, arith, codes}
use Rattle.std.proofs.lemmas.Bool.Decides.{nat_tests}
use Rattle.std.specs.List.{list_any, ends_with}
use Rattle.av_swapdev.specs.declared.header.Order.{Order}
use Rattle.av_swapdev.specs.declared.header.Header.{Header}
use Rattle.av_swapdev.specs.declared.header.HeaderErr.{HeaderErr}
use Rattle.av_swapdev.specs.declared.header.HeaderErr.TheVariants.{Signature, LastPage, Short, TooManyBad, BadPage, NoSlot}
use Rattle.av_base.specs.Words.{is_in, within}
use Rattle.av_swapdev.specs.Header.{Layout, number_at, order_of, last_page, bad_count, numbers_at, all_named, area_pages, bad_of, slots_of, layout_of, is_out, with_slots, read_in, read_by, header_of, in_numbers, answer_of, IsHeaderOf, AddsUp}
use Rattle.av_swapdev.proofs.HeaderSlots.{in_bad, slots_and_bad}

passed : (b : Bool) (fault : HeaderErr) (rest : Result Layout HeaderErr) (header : Header) → answer_of (cond b (Err fault) rest) ≡ Ok header →
    (b ≡ false) × (answer_of rest ≡ Ok header)
passed true fault rest header e = absurd (cc)
passed false fault rest header e = (refl, e)

few : (n : ℕ) → ltb 637 n ≡ false → n ≤ 637
few n e = grind (arith, nat_tests)

-- what is known of the numbers of a header
record IsRead (order : Order) (page : List ℕ) (device : ℕ) (header : Header) : Type 0 where
  pages : header.pages ≡ area_pages order page
  few : bad_count order page ≤ 637
  adds_up : AddsUp header device

read_in_ok : (order : Order) (page : List ℕ) (device : ℕ) (header : Header) → answer_of (read_in order page device) ≡ Ok header →
    IsRead order page device header
read_in_ok order page device header e =
    let numbers_at = all_named order page in
    let layout = layout_of (area_pages order page) numbers_at in
    let bad = cond (list_any (is_out (last_page order page)) numbers_at) (Err BadPage) (with_slots layout) in
    let many = cond (ltb 637 (bad_count order page)) (Err TooManyBad) bad in
    let short = cond (ltb device (area_pages order page)) (Err Short) many in
    let behind_last = passed (eqb (last_page order page) 0) LastPage short header e in
    let behind_short = passed (ltb device (area_pages order page)) Short many header behind_last.1 in
    let behind_many = passed (ltb 637 (bad_count order page)) TooManyBad bad header behind_short.1 in
    let behind_bad = passed (list_any (is_out (last_page order page)) numbers_at) BadPage (with_slots layout) header behind_many.1 in
    let behind_slots = passed (eqb layout.slots 0) NoSlot (Ok layout) header behind_bad.1 in
    let same = of_ok layout header behind_slots.1 in
    let all = slots_and_bad (area_pages order page) numbers_at in
    record {
      pages = sym (ap (λ (h : Header). h.pages) same);
      few = few (bad_count order page) behind_many.0;
      adds_up = sums (area_pages order page) layout.slots (length layout.bad) device header (last_page order page) same refl all behind_slots.0
          behind_short.0;
    }
  where
    of_ok : (a : Layout) (b : Header) → answer_of (Ok a) ≡ Ok b → in_numbers a ≡ b
    of_ok a b e = cc

    sums : (pages slots bad device : ℕ) (header : Header) (last : ℕ) → record { pages = pages; slots = slots; bad = bad } ≡ header →
        pages ≡ min (last + 1) 1048576 → bad + slots ≡ pages - 1 → eqb slots 0 ≡ false → ltb device pages ≡ false → AddsUp header device
    sums pages slots bad device header last same size all some long =
        let pages_are = ap (λ (h : Header). h.pages) same in
        let slots_are = ap (λ (h : Header). h.slots) same in
        let bad_are = ap (λ (h : Header). h.bad) same in
        let has_slot : 0 < slots = grind (arith, nat_tests) in
        let fits : pages ≤ device = grind (arith, nat_tests) in
        record {
          all = omega (arith, pages_are, slots_are, bad_are);
          some = omega (arith, slots_are);
          fits = omega (arith, pages_are);
          most = omega (arith, pages_are);
        }

-- so does one that a page has on some device
read_ok : (page : List ℕ) (device : ℕ) (header : Header) → answer_of (header_of page device) ≡ Ok header →
    (order : Order) × (order_of page ≡ Some order) × IsRead order page device header
read_ok page device header e = signed (ends_with eqb page (codes "SWAPSPACE2")) e
  where
    by : (found : Option Order) → answer_of (read_by found page device) ≡ Ok header
        → (order : Order) × (found ≡ Some order) × IsRead order page device header
    by None h = absurd (cc)
    by (Some order) h = (order, refl, read_in_ok order page device header h)

    signed : (b : Bool) → answer_of (cond b (read_by (order_of page) page device) (Err Signature)) ≡ Ok header →
        (order : Order) × (order_of page ≡ Some order) × IsRead order page device header
    signed true h = by (order_of page) h
    signed false h = absurd (cc)

-- a header of a page has its numbers
pub header_is : (order : Order) (page : List ℕ) (header : Header) → order_of page ≡ Some order → IsHeaderOf page header →
    (header.pages ≡ area_pages order page) × (bad_count order page ≤ 637)
header_is order page header found of_page =
    let read = read_ok page of_page.0 header of_page.1 in
    let same : read.0 ≡ order = inside read.0 order (sym read.1 ∙ found) in
    (read.2.pages ∙ ap (λ o. area_pages o page) same, subst (λ o. bad_count o page ≤ 637) same read.2.few)
  where
    inside : (a b : Order) → Some a ≡ Some b → a ≡ b
    inside a b e = cc

-- what a page says on a device is the area of its numbers
kept : (b : Bool) (fault : HeaderErr) (rest : Result Layout HeaderErr) (layout : Layout) → cond b (Err fault) rest ≡ Ok layout → rest ≡ Ok layout
kept true fault rest layout e = absurd (cc)
kept false fault rest layout e = e

same_layout : (a b : Layout) (x y : Result Layout HeaderErr) → x ≡ Ok a → y ≡ Ok b → x ≡ y → b ≡ a
same_layout a b x y is_a is_b same = cc

pub layout_is : (order : Order) (page : List ℕ) (device : ℕ) (layout : Layout) → order_of page ≡ Some order → header_of page device ≡ Ok layout →
    layout ≡ layout_of (area_pages order page) (all_named order page)
layout_is order page device layout found e = signed (ends_with eqb page (codes "SWAPSPACE2")) e
  where
    read : read_in order page device ≡ Ok layout → layout ≡ layout_of (area_pages order page) (all_named order page)
    read h =
        let numbers_at = all_named order page in
        let it = layout_of (area_pages order page) numbers_at in
        let bad = cond (list_any (is_out (last_page order page)) numbers_at) (Err BadPage) (with_slots it) in
        let many = cond (ltb 637 (bad_count order page)) (Err TooManyBad) bad in
        let short = cond (ltb device (area_pages order page)) (Err Short) many in
        let behind_last = kept (eqb (last_page order page) 0) LastPage short layout h in
        let behind_short = kept (ltb device (area_pages order page)) Short many layout behind_last in
        let behind_many = kept (ltb 637 (bad_count order page)) TooManyBad bad layout behind_short in
        let behind_bad = kept (list_any (is_out (last_page order page)) numbers_at) BadPage (with_slots it) layout behind_many in
        same_layout it layout (Ok it) (Ok layout) refl refl (kept (eqb it.slots 0) NoSlot (Ok it) layout behind_bad)

    signed : (b : Bool) → cond b (read_by (order_of page) page device) (Err Signature) ≡ Ok layout →
        layout ≡ layout_of (area_pages order page) (all_named order page)
    signed true h = read (sym (ap (λ o. read_by o page device) found) ∙ h)
    signed false h = absurd (cc)

-- the bad pages of what a page says, by the numbers of a header that it has
pub bad_is : (order : Order) (page : List ℕ) (header : Header) (device : ℕ) (layout : Layout) → order_of page ≡ Some order → IsHeaderOf page header →
    header_of page device ≡ Ok layout → layout.bad ≡ bad_of header.pages (all_named order page)
bad_is order page header device layout found of_page ok =
    ap (λ (l : Layout). l.bad) (layout_is order page device layout found ok) ∙ ap (λ (n : ℕ). bad_of n (all_named order page))
    (sym (header_is order page header found of_page).0)

pub is_in_bad : (m : ℕ) (order : Order) (page : List ℕ) (header : Header) (device : ℕ) (layout : Layout) → order_of page ≡ Some order
    → IsHeaderOf page header →
    header_of page device ≡ Ok layout → is_in m layout.bad ≡ (within 1 (header.pages - 1) m && is_in m (all_named order page))
is_in_bad m order page header device layout found of_page ok =
    ap (is_in m) (bad_is order page header device layout found of_page ok) ∙ in_bad header.pages (all_named order page) m

skipped : (b : Bool) (x y : Result Layout HeaderErr) → b ≡ false → cond b x y ≡ y
skipped true x y e = absurd (cc)
skipped false x y e = refl

-- what is read where no test but the last finds a fault
read_in_is : (order : Order) (page : List ℕ) (device pages : ℕ) → pages ≡ area_pages order page → (last_page order page ≡ 0 → ⊥) → pages ≤ device →
    bad_count order page ≤ 637 → list_any (is_out (last_page order page)) (all_named order page) ≡ false →
    read_in order page device ≡ with_slots (layout_of pages (all_named order page))
read_in_is order page device pages e some long few inside =
    let not_zero : eqb (last_page order page) 0 ≡ false = grind (arith, nat_tests) in
    let not_short : ltb device (area_pages order page) ≡ false = grind (arith, nat_tests) in
    let not_many : ltb 637 (bad_count order page) ≡ false = grind (arith, nat_tests) in
    skipped _ _ _ not_zero ∙ skipped _ _ _ not_short ∙ skipped _ _ _ not_many ∙ skipped _ _ _ inside
    ∙ sym (ap (λ (p : ℕ). with_slots (layout_of p (all_named order page))) e)

-- the answer without a slot, and with some
no_slot : (layout : Layout) → layout.slots ≡ 0 → answer_of (with_slots layout) ≡ Err NoSlot
no_slot layout none = ap (λ (k : ℕ). answer_of (cond (eqb k 0) (Err NoSlot) (Ok layout))) none

some_slots : (layout : Layout) → (layout.slots ≡ 0 → ⊥) → answer_of (with_slots layout) ≡ Ok (in_numbers layout)
some_slots layout some = ap answer_of (skipped (eqb layout.slots 0) (Err NoSlot) (Ok layout) (grind (arith, nat_tests)))

pub of_page : (page : List ℕ) (device : ℕ) (result : Result Header HeaderErr) → result ≡ answer_of (header_of page device) →
    IfOk result (λ header. IsHeaderOf page header)
of_page page device (Ok header) e = (device, sym e)
of_page page device (Err fault) e = tt

pub adds_up : (page : List ℕ) (device : ℕ) (result : Result Header HeaderErr) → result ≡ answer_of (header_of page device) →
    IfOk result (λ header. AddsUp header device)
adds_up page device (Ok header) e = (read_ok page device header (sym e)).2.adds_up
adds_up page device (Err fault) e = tt

pub header_read : (order : Order) (page : List ℕ) (device : ℕ) → ends_with eqb page (codes "SWAPSPACE2") ≡ true → order_of page ≡ Some order →
    header_of page device ≡ read_in order page device
header_read order page device signed found = ap (λ (b : Bool). cond b (read_by (order_of page) page device) (Err Signature)) signed
    ∙ ap (λ o. read_by o page device) found

module _ (order : Order) (page : List ℕ) (device last pages count bad : ℕ)
    (last_is : last ≡ number_at order page 1028) (pages_is : pages ≡ min last 1048575 + 1) (count_is : count ≡ number_at order page 1032)
    (some : last ≡ 0 → ⊥) (long : pages ≤ device) (few : count ≤ 637) (inside : list_any (is_out last) (numbers_at order page 0 count) ≡ false)
    (bad_is : bad ≡ length (bad_of pages (numbers_at order page 0 count))) where
  pub together : bad + length (slots_of pages (numbers_at order page 0 count)) ≡ pages - 1
  together = let all = slots_and_bad pages (numbers_at order page 0 count) in omega arith

  read : answer_of (read_in order page device) ≡ answer_of (with_slots (layout_of pages (numbers_at order page 0 count)))
  read =
      let pages_are : pages ≡ area_pages order page = omega arith in
      let inside_all = sym (ap (λ (l : ℕ). list_any (is_out l) (numbers_at order page 0 count)) last_is
      ∙ ap (λ (n : ℕ). list_any (is_out (last_page order page)) (numbers_at order page 0 n)) count_is) ∙ inside in
      ap answer_of (read_in_is order page device pages pages_are (λ none. some (last_is ∙ none)) long (omega arith) inside_all
      ∙ sym (ap (λ (n : ℕ). with_slots (layout_of pages (numbers_at order page 0 n))) count_is))

  pub has_none : pages - 1 - bad ≡ 0 → Err NoSlot ≡ answer_of (read_in order page device)
  has_none none =
      let all = together in
      sym (read ∙ no_slot (layout_of pages (numbers_at order page 0 count)) (omega arith))

  pub has_some : (pages - 1 - bad ≡ 0 → ⊥) → Ok (record { pages = pages; slots = pages - 1 - bad; bad = bad }) ≡ answer_of (read_in order page device)
  has_some some =
      let all = together in
      let slots_are : length (slots_of pages (numbers_at order page 0 count)) ≡ pages - 1 - bad = omega arith in
      let numbers : in_numbers (layout_of pages (numbers_at order page 0 count)) ≡ record { pages = pages; slots = pages - 1 - bad; bad = bad } =
      λ i. record { pages = pages; slots = slots_are i; bad = sym bad_is i } in
      sym (read ∙ some_slots (layout_of pages (numbers_at order page 0 count)) (λ none. some (sym slots_are ∙ none))
      ∙ ap (λ (h : Header). Ok h) numbers)
