-- A range that is mapped anew, page by page, as areas were there: areas stay whole and on all of their pages, no own anon_vma is new, pages keep their homes, and those of the range have the marks that they had, but aren't locked.
use Rattle.std.proofs.Common.{◌≡◌, ℕ, zero, suc, ◌+◌, ◌-◌, ◌<◌, ◌≤◌, inl, inr, Bool, true, false, cond, Option, Some, None, is_some, option_map, refl, sym, ap, subst, ◌∙◌, arith}
use Rattle.std.proofs.lemmas.Bool.{cases_lt, false≢true}
use Rattle.av_base.specs.Flags.{unlocked}
use Rattle.av_base.specs.Limits.{top_page}
use Rattle.av_base.specs.Words.{within}
use Rattle.av_base.specs.declared.flags.Flags.{Flags}
use Rattle.av_base.specs.declared.prot.Prot.{Prot}
use Rattle.av_vma.specs.declared.area.Area.{Area}
use Rattle.av_vma.specs.Gap.{IsRoom}
use Rattle.av_vma.specs.IndexBound.{AreIndicesBelow}
use Rattle.av_vma.specs.Mremap.{page_left, pages_left}
use Rattle.av_vma.specs.Pages.{AreLaid, Lengths, Pages}
use Rattle.av_vma.proofs.Homes.{KeepsHomes, homes_mapped, keeps_both}
use Rattle.av_vma.proofs.IndexBound.{indices_mapped}
use Rattle.av_vma.proofs.Join.{laid_mapped}
use Rattle.av_vma.proofs.Laid.{has_area}
use Rattle.av_vma.proofs.Marks.{area_marks, marks, marks_mapped}
use Rattle.av_vma.proofs.Mremap.{in_range, is_in_range, out_of_range}
use Rattle.av_vma.proofs.Owns.{AddsNoOwn, adds_neither, owns_mapped}

-- the marks of an area's page that stays behind
abbrev pub left_marks : Area → Prot × Flags
left_marks area = (area.prot, unlocked area.flags)

-- a page is free where it has no marks
free_marks : (on : Pages) (page : ℕ) → is_some (marks on page) ≡ has_area on page
free_marks on page = by (on page)
  where
    by : (o : Option Area) → is_some (option_map area_marks o) ≡ is_some o
    by None = refl
    by (Some area) = refl

no_marks : (on : Pages) (page : ℕ) → has_area on page ≡ false → marks on page ≡ None
no_marks on page free = by (on page) free
  where
    by : (o : Option Area) → is_some o ≡ false → option_map area_marks o ≡ None
    by None h = refl
    by (Some area) h = cc

-- ---- one page

module _ (len : Lengths) (p page : ℕ) (on : Pages) (laid : AreLaid on) (room : IsRoom (has_area on) 1 page) where
  room_here : IsRoom (has_area on) (page + 1 - page) page
  room_here = subst (λ n. IsRoom (has_area on) n page) width room
    where
      width : 1 ≡ page + 1 - page
      width = omega arith

  some : page < page + 1
  some = omega arith

  abbrev anew : Option Area → Pages
  anew o = page_left len p page o on

  laid_page : (o : Option Area) → AreLaid (anew o)
  laid_page None = laid
  laid_page (Some was) = laid_mapped len p page (page + 1) was.prot (unlocked was.flags) on laid some room_here

  owns_page : (o : Option Area) → AddsNoOwn on (anew o)
  owns_page None = λ other own has. (other, has)
  owns_page (Some was) = owns_mapped len p page (page + 1) was.prot (unlocked was.flags) on

  homes_page : (o : Option Area) → KeepsHomes on (anew o)
  homes_page None = λ other home is. is
  homes_page (Some was) = homes_mapped len p page (page + 1) was.prot (unlocked was.flags) on laid some room_here

  indices_page : (most : ℕ) → top_page ≤ most → AreIndicesBelow most on → (o : Option Area) → AreIndicesBelow most (anew o)
  indices_page most high h None = λ other area is. h other area is
  indices_page most high h (Some was) = indices_mapped len most p page (page + 1) was.prot (unlocked was.flags) on laid some room_here high h

  marks_page : (o : Option Area) (other : ℕ) → marks (anew o) other ≡ cond (within page 1 other) (option_map left_marks o) (marks on other)
  marks_page None other = by (within page 1 other) refl
    where
      by : (b : Bool) → within page 1 other ≡ b → marks on other ≡ cond b None (marks on other)
      by true i = let k = in_range page 1 other i in no_marks on other (room.free other k.0 k.1)
      by false i = refl
  marks_page (Some was) other = marks_mapped len p page (page + 1) was.prot (unlocked was.flags) on laid some room_here other
      ∙ ap (λ n. cond (within page n other) (Some (was.prot, unlocked was.flags)) (marks on other)) width
    where
      width : page + 1 - page ≡ 1
      width = omega arith

  -- there is room for the others still
  room_then : (n : ℕ) → IsRoom (has_area on) (suc n) page → (o : Option Area) → IsRoom (has_area (anew o)) n (page + 1)
  room_then n whole o = record {
    lowest = let low = whole.lowest in omega arith;
    highest = let high = whole.highest in omega arith;
    free = λ other least most. sym (free_marks (anew o) other) ∙ ap is_some (marks_page o other)
        ∙ ap (λ b. is_some (cond b (option_map left_marks o) (marks on other))) (out_of_range page 1 other (λ low high. omega (arith, least, high)))
        ∙ free_marks on other ∙ whole.free other (omega (arith, least)) (omega (arith, most));
  }

-- room for n pages is room for the first
first_of_room : (on : Pages) (n page : ℕ) → IsRoom (has_area on) (suc n) page → IsRoom (has_area on) 1 page
first_of_room on n page whole = record {
  lowest = whole.lowest;
  highest = let high = whole.highest in omega arith;
  free = λ other least most. whole.free other least (omega (arith, most));
}

-- ---- all pages

module _ (len : Lengths) (p : ℕ) (was : Pages) where
  pub laid_left : (from n : ℕ) (on : Pages) → AreLaid on → IsRoom (has_area on) n from → AreLaid (pages_left len p was from n on)
  laid_left from zero on laid room = laid
  laid_left from (suc n) on laid room =
      let first = first_of_room on n from room in
      laid_left (from + 1) n (page_left len p from (was from) on) (laid_page len p from on laid first (was from))
      (room_then len p from on laid first n room (was from))

  pub owns_left : (from n : ℕ) (on : Pages) → AreLaid on → IsRoom (has_area on) n from → AddsNoOwn on (pages_left len p was from n on)
  owns_left from zero on laid room = λ page own has. (page, has)
  owns_left from (suc n) on laid room =
      let first = first_of_room on n from room in
      let then = page_left len p from (was from) on in
      adds_neither on then (pages_left len p was (from + 1) n then) (owns_page len p from on laid first (was from))
      (owns_left (from + 1) n then (laid_page len p from on laid first (was from)) (room_then len p from on laid first n room (was from)))

  pub homes_left : (from n : ℕ) (on : Pages) → AreLaid on → IsRoom (has_area on) n from → KeepsHomes on (pages_left len p was from n on)
  homes_left from zero on laid room = λ page home is. is
  homes_left from (suc n) on laid room =
      let first = first_of_room on n from room in
      let then = page_left len p from (was from) on in
      keeps_both on then (pages_left len p was (from + 1) n then) (homes_page len p from on laid first (was from))
      (homes_left (from + 1) n then (laid_page len p from on laid first (was from)) (room_then len p from on laid first n room (was from)))

  pub indices_left : (most from n : ℕ) (on : Pages) → AreLaid on → IsRoom (has_area on) n from → top_page ≤ most → AreIndicesBelow most on
      → AreIndicesBelow most (pages_left len p was from n on)
  indices_left most from zero on laid room high h = λ page area is. h page area is
  indices_left most from (suc n) on laid room high h =
      let first = first_of_room on n from room in
      indices_left most (from + 1) n (page_left len p from (was from) on) (laid_page len p from on laid first (was from))
      (room_then len p from on laid first n room (was from)) high (indices_page len p from on laid first most high h (was from))

  -- the pages of the range have the marks that were there, but aren't locked, and all others keep theirs
  pub marks_left : (from n : ℕ) (on : Pages) → AreLaid on → IsRoom (has_area on) n from → (page : ℕ)
      → marks (pages_left len p was from n on) page ≡ cond (within from n page) (option_map left_marks (was page)) (marks on page)
  marks_left from zero on laid room page =
      sym (ap (λ b. cond b (option_map left_marks (was page)) (marks on page)) (out_of_range from 0 page (λ low high. omega (arith, low, high))))
  marks_left from (suc n) on laid room page =
      let first = first_of_room on n from room in
      marks_left (from + 1) n (page_left len p from (was from) on) (laid_page len p from on laid first (was from))
      (room_then len p from on laid first n room (was from)) page
      ∙ ap (λ x. cond (within (from + 1) n page) (option_map left_marks (was page)) x) (marks_page len p from on laid first (was from) page)
      ∙ by (within (from + 1) n page) (within from 1 page) refl refl
    where
      by : (b c : Bool) → within (from + 1) n page ≡ b → within from 1 page ≡ c
          → cond b (option_map left_marks (was page)) (cond c (option_map left_marks (was from)) (marks on page))
          ≡ cond (within from (suc n) page) (option_map left_marks (was page)) (marks on page)
      by true c i j = let k = in_range (from + 1) n page i in
          sym (ap (λ b. cond b (option_map left_marks (was page)) (marks on page)) (is_in_range from (suc n) page (omega arith) (omega arith)))
      by false true i j = let k = in_range from 1 page j in let e : from ≡ page = omega arith in
          ap (λ x. option_map left_marks (was x)) e
          ∙ sym (ap (λ b. cond b (option_map left_marks (was page)) (marks on page)) (is_in_range from (suc n) page (omega arith) (omega arith)))
      by false false i j =
          sym (ap (λ b. cond b (option_map left_marks (was page)) (marks on page)) (out_of_range from (suc n) page (λ low high. out low high)))
        where
          out : from ≤ page → page < from + suc n → ⊥
          out low high = elim (cases_lt page (from + 1)) [
            | inl below ↦ false≢true (sym j ∙ is_in_range from 1 page low below)
            | inr above ↦ false≢true (sym i ∙ is_in_range (from + 1) n page above (omega arith))
          ]
