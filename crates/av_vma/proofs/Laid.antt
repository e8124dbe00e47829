-- Which pages an area has; areas stay whole and on all of their pages where one is put on free pages, and where one gets another anon_vma.
use Rattle.std.proofs.Common.{◌≡◌, ℕ, ◌+◌, ◌-◌, ◌*◌, ◌/◌, ◌<◌, ◌≤◌, Bool, true, false, cond, Option, Some, None, is_some, refl, sym, ap, subst, ◌∙◌, arith}
use Rattle.std.proofs.lemmas.Bool.{both_ways}
use Rattle.std.proofs.lemmas.Bool.Decides.{nat_tests}
use Rattle.std.proofs.lemmas.Option.{none-some, same_Some}
use Rattle.std.specs.Prelude.{unwrap_or}
use Rattle.av_base.specs.Words.{within}
use Rattle.av_base.specs.declared.flags.Flags.{Flags}
use Rattle.av_base.specs.declared.prot.Prot.{Prot}
use Rattle.av_vma.specs.declared.area.Area.{Area}
use Rattle.av_vma.specs.Gap.{IsRoom}
use Rattle.av_vma.specs.Index.{first_of, past_of}
use Rattle.av_vma.specs.Pages.{AreLaid, IsWhole, Lengths, Pages, after_prepare, fresh_area, has_page, loan_beside, with_anon, with_area}

-- ---- the pages of an area

-- an area has exactly the pages from its first to below the one past it
pub has_parts : (area : Area) (page : ℕ) → has_page area page ≡ true → (first_of area ≤ page) × (page < past_of area)
has_parts area page has = by (first_of area) (past_of area) page has
  where
    by : (from past page : ℕ) → within from (past - from) page ≡ true → (from ≤ page) × (page < past)
    by from past page h =
        let low : from ≤ page = grind (arith, nat_tests, h) in
        let high : page < from + (past - from) = grind (arith, nat_tests, h) in
        (low, omega arith)

pub has_from : (area : Area) (page : ℕ) → first_of area ≤ page → page < past_of area → has_page area page ≡ true
has_from area page low high = by (first_of area) (past_of area) page low high
  where
    by : (from past page : ℕ) → from ≤ page → page < past → within from (past - from) page ≡ true
    by from past page low high = let top : page < from + (past - from) = omega arith in grind (arith, nat_tests, low, top)

-- ---- an area on free pages

pub laid_placed : (area : Area) (on : Pages) → AreLaid on → IsWhole area → ((page : ℕ) → has_page area page ≡ true → on page ≡ None)
    → AreLaid (with_area area on)
laid_placed area on laid whole free = record {
  whole = λ page a. by_whole page a (has_page area page);
  here = λ page a. by_here page a (has_page area page) refl;
  all = λ page other a. by_all page other a (has_page area page) refl;
}
  where
    by_whole : (page : ℕ) (a : Area) (b : Bool) → cond b (Some area) (on page) ≡ Some a → IsWhole a
    by_whole page a true is = subst IsWhole (same_Some area a is) whole
    by_whole page a false is = laid.whole page a is

    by_here : (page : ℕ) (a : Area) (b : Bool) → has_page area page ≡ b → cond b (Some area) (on page) ≡ Some a → has_page a page ≡ true
    by_here page a true e is = subst (λ (a : Area). has_page a page ≡ true) (same_Some area a is) e
    by_here page a false e is = laid.here page a is

    of_other : (other : ℕ) (a : Area) (b : Bool) → has_page area other ≡ b → on other ≡ Some a → cond b (Some area) (on other) ≡ Some a
    of_other other a true e is = absurd (none-some a (sym (free other e) ∙ is))
    of_other other a false e is = is

    by_all : (page other : ℕ) (a : Area) (b : Bool) → has_page area page ≡ b → cond b (Some area) (on page) ≡ Some a → has_page a other ≡ true
        → with_area area on other ≡ Some a
    by_all page other a true e is has =
        let same = same_Some area a is in
        ap (λ b. cond b (Some area) (on other)) (subst (λ (a : Area). has_page a other ≡ true) (sym same) has) ∙ ap Some same
    by_all page other a false e is has = of_other other a (has_page area other) refl (laid.all page other a is has)

-- ---- a new area

-- whether a page has an area
abbrev pub has_area : Pages → ℕ → Bool
has_area on page = is_some (on page)

free_none : (on : Pages) (page : ℕ) → has_area on page ≡ false → on page ≡ None
free_none on page free = by (on page) free
  where
    by : (o : Option Area) → is_some o ≡ false → o ≡ None
    by None e = refl
    by (Some area) e = cc

-- its pages are those from one to below another
pub fresh_has : (p from past : ℕ) (prot : Prot) (flags : Flags) (page : ℕ) → has_page (fresh_area p from past prot flags) page ≡ within from (past - from) page
fresh_has p from past prot flags page = λ i. within (back from i) (back past i - back from i) page
  where
    back : (page : ℕ) → (4096 * page) / 4096 ≡ page
    back page = omega arith

-- there is room for it
module _ (p from past : ℕ) (prot : Prot) (flags : Flags) (on : Pages) (some : from < past) (room : IsRoom (has_area on) (past - from) from) where
  fresh_whole : IsWhole (fresh_area p from past prot flags)
  fresh_whole = let lowest = room.lowest in let highest = room.highest in record {
    start = omega arith;
    end = omega arith;
    some = omega arith;
    low = omega arith;
    high = omega arith;
    small = omega arith;
  }

  pub fresh_free : (page : ℕ) → has_page (fresh_area p from past prot flags) page ≡ true → on page ≡ None
  fresh_free page has =
      let parts = has_parts (fresh_area p from past prot flags) page has in
      let low : (4096 * from) / 4096 ≤ page = parts.0 in
      let high : page < (4096 * past) / 4096 = parts.1 in
      free_none on page (room.free page (omega arith) (omega arith))

  pub laid_fresh : AreLaid on → AreLaid (with_area (fresh_area p from past prot flags) on)
  laid_fresh laid = laid_placed (fresh_area p from past prot flags) on laid fresh_whole fresh_free

-- ---- another anon_vma

pub laid_with_own : (page : ℕ) (area : Area) (own : Option ℕ) (on : Pages) → AreLaid on → on page ≡ Some area
    → AreLaid (with_area (record area { anon = own }) on)
laid_with_own page area own on laid is = record {
  whole = λ here a. by_whole here a (has_page area here);
  here = λ here a. by_here here a (has_page area here) refl;
  all = λ here other a. by_all here other a (has_page area here) refl;
}
  where
    new : Area
    new = record area { anon = own }

    whole : IsWhole new
    whole = let w = laid.whole page area is in record { start = w.start; end = w.end; some = w.some; low = w.low; high = w.high; small = w.small }

    by_whole : (here : ℕ) (a : Area) (b : Bool) → cond b (Some new) (on here) ≡ Some a → IsWhole a
    by_whole here a true e = subst IsWhole (same_Some new a e) whole
    by_whole here a false e = laid.whole here a e

    by_here : (here : ℕ) (a : Area) (b : Bool) → has_page area here ≡ b → cond b (Some new) (on here) ≡ Some a → has_page a here ≡ true
    by_here here a true h e = subst (λ (a : Area). has_page a here ≡ true) (same_Some new a e) h
    by_here here a false h e = laid.here here a e

    apart : (here other : ℕ) (a : Area) (b : Bool) → has_page area other ≡ b → has_page area here ≡ false → on here ≡ Some a
        → has_page a other ≡ true → cond b (Some new) (on other) ≡ Some a
    apart here other a false h none e has = laid.all here other a e has
    apart here other a true h none e has =
        let same : a ≡ area = same_Some a area (sym (laid.all here other a e has) ∙ laid.all page other area is h) in
        absurd (both_ways (has_page area here) none (subst (λ (a : Area). has_page a here ≡ true) same (laid.here here a e)))

    by_all : (here other : ℕ) (a : Area) (b : Bool) → has_page area here ≡ b → cond b (Some new) (on here) ≡ Some a
        → has_page a other ≡ true → with_area new on other ≡ Some a
    by_all here other a true h e has =
        let same = same_Some new a e in
        ap (λ b. cond b (Some new) (on other)) (subst (λ (a : Area). has_page a other ≡ true) (sym same) has) ∙ ap Some same
    by_all here other a false h e has = apart here other a (has_page area other) refl h e has

-- the area of a page is prepared
pub laid_prepared : (len : Lengths) (next page : ℕ) (on : Pages) → AreLaid on → AreLaid (after_prepare len next page on)
laid_prepared len next page on laid = by (on page) refl
  where
    each : (area : Area) (b : Bool) → on page ≡ Some area
        → AreLaid (cond b on (with_area (record area { anon = Some (unwrap_or (loan_beside len on area) next) }) on))
    each area true is = laid
    each area false is = laid_with_own page area (Some (unwrap_or (loan_beside len on area) next)) on laid is

    by : (o : Option Area) → on page ≡ o → AreLaid (with_anon len next o on)
    by None is = laid
    by (Some area) is = each area (is_some area.anon) is
