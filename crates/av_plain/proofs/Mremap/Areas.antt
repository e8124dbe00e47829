-- The areas after an mremap: they stay whole and on all of their pages, no area has an own anon_vma
-- that none had, and pages that stay or move keep their
-- homes.
use Rattle.std.proofs.Common.{◌≡◌, ℕ, ◌+◌, ◌-◌, ◌<◌, ◌≤◌, min, Bool, true, false, cond, Option, Some, None, is_some, refl, sym, ap, subst, arith, ◌==◌}
use Rattle.av_base.specs.Limits.{low_page, top_page}
use Rattle.av_base.specs.Words.{within}
use Rattle.av_vma.specs.declared.area.Area.{Area}
use Rattle.av_vma.specs.Gap.{IsRoom}
use Rattle.av_vma.specs.IndexBound.{AreIndicesBelow}
use Rattle.av_vma.specs.Mremap.{IsGrowth, IsMove, after_move, after_resize}
use Rattle.av_vma.specs.Pages.{AreLaid, Lengths, Pages}
use Rattle.av_vma.proofs.IndexBound.{indices_after_move, indices_after_resize}
use Rattle.av_vma.proofs.Left.{homes_left, indices_left, laid_left, owns_left}
use Rattle.av_vma.proofs.Laid.{has_area, has_parts}
use Rattle.av_vma.proofs.Mremap.{laid_after_move, laid_after_resize}
use Rattle.av_vma.proofs.MremapHomes.{HomeGoes, home_after_move, home_not_moved, homes_after_resize, none_after_move}
use Rattle.av_vma.proofs.Owns.{AddsNoOwn, adds_neither, owns_after_move, owns_after_resize}
use Rattle.av_plain.specs.Mremap.{after_mremap, with_old_range}

-- n pages may become k: in place they grow over free pages, and elsewhere there is place for them
pub record IsRemap (from n to k : ℕ) (on : Pages) : Type 0 where
  pub grows : (to == from) ≡ true → n < k → IsGrowth (from + n - 1) (from + k) on
  pub moves : (to == from) ≡ false → IsMove from n to k on

-- ---- the old range is mapped again

module _ (long : Lengths) (p from n to k : ℕ) (on : Pages) (laid : AreLaid on) (move : IsMove from n to k on) where
  -- the areas once the range has moved
  abbrev pub then : Pages
  then = after_move long from n to k on

  pub laid_then : AreLaid then
  laid_then = laid_after_move from n to k on laid move long

  nonempty : from < from + n
  nonempty = let some = move.some in omega arith

  -- a mapped page is one that a process may have
  bounds : (page : ℕ) → from ≤ page → page < from + n → (low_page ≤ page) × (page < top_page)
  bounds page least most = by (on page) refl (move.mapped page least most)
    where
      by : (o : Option Area) → on page ≡ o → is_some o ≡ true → (low_page ≤ page) × (page < top_page)
      by None e h = cc
      by (Some area) e h =
          let whole = laid.whole page area e in
          let ends = has_parts area page (laid.here page area e) in
          let low = ends.0 in
          let high = ends.1 in
          let lowest = whole.low in
          let highest = whole.high in
          (omega arith, omega arith)

  pub room : IsRoom (has_area then) n from
  room =
      let first = bounds from (omega arith) nonempty in
      let final = bounds (from + n - 1) (let some = move.some in omega arith) (let some = move.some in omega arith) in
      let some = move.some in
      let high = final.1 in
      record {
        lowest = first.0;
        highest = omega arith;
        free = λ page least most. ap is_some (none_after_move long from n to k on laid move page least (omega arith));
      }

  abbrev again : Bool → Pages
  again stays = with_old_range long p on from n stays then

  laid_again : (stays : Bool) → AreLaid (again stays)
  laid_again false = laid_then
  laid_again true = laid_left long p on from n then laid_then room

  owns_again : (stays : Bool) → AddsNoOwn on (again stays)
  owns_again false = owns_after_move long from n to k on
  owns_again true = adds_neither on then (again true) (owns_after_move long from n to k on) (owns_left long p on from n then laid_then room)

  -- only what is mapped anew at the target raises linear indices
  indices_again : (most : ℕ) → top_page ≤ most → AreIndicesBelow most on → (stays : Bool) → AreIndicesBelow (most + top_page) (again stays)
  indices_again most high h false = indices_after_move long most high from n to k on laid move h
  indices_again most high h true = indices_left long p on (most + top_page) from n then laid_then room (omega arith)
      (indices_after_move long most high from n to k on laid move h)

  home_again : (stays : Bool) (page page' : ℕ) → HomeGoes on page then page' → HomeGoes on page (again stays) page'
  home_again false page page' goes home is = goes home is
  home_again true page page' goes home is = homes_left long p on from n then laid_then room page' home (goes home is)

-- ---- the whole

module _ (long : Lengths) (p from n to k : ℕ) (stays : Bool) (on : Pages) (laid : AreLaid on) (may : IsRemap from n to k on) where
  abbrev next : Pages
  next = after_mremap long p from n to k stays on

  in_place : (to == from) ≡ true → next ≡ after_resize long from n k on
  in_place here = ap (λ b. cond b (after_resize long from n k on) (with_old_range long p on from n stays (after_move long from n to k on))) here

  elsewhere : (to == from) ≡ false → next ≡ with_old_range long p on from n stays (after_move long from n to k on)
  elsewhere there = ap
      (λ b. cond b (after_resize long from n k on) (with_old_range long p on from n stays (after_move long from n to k on))) there

  pub laid_remapped : AreLaid next
  laid_remapped = by (to == from) refl
    where
      by : (b : Bool) → (to == from) ≡ b → AreLaid next
      by true here = subst AreLaid (sym (in_place here)) (laid_after_resize long from n k on laid (may.grows here))
      by false there = subst AreLaid (sym (elsewhere there)) (laid_again long p from n to k on laid (may.moves there) stays)

  pub owns_remapped : AddsNoOwn on next
  owns_remapped = by (to == from) refl
    where
      by : (b : Bool) → (to == from) ≡ b → AddsNoOwn on next
      by true here = subst (AddsNoOwn on) (sym (in_place here)) (owns_after_resize long from n k on)
      by false there = subst (AddsNoOwn on) (sym (elsewhere there)) (owns_again long p from n to k on laid (may.moves there) stays)

  -- linear indices rise by less than the pages that a process may have
  pub indices_remapped : (most : ℕ) → top_page ≤ most → AreIndicesBelow most on → AreIndicesBelow (most + top_page) next
  indices_remapped most high h = by (to == from) refl
    where
      by : (b : Bool) → (to == from) ≡ b → AreIndicesBelow (most + top_page) next
      by true here = subst (AreIndicesBelow (most + top_page)) (sym (in_place here))
          (indices_after_resize long most high from n k on laid (may.grows here) h)
      by false there = subst (AreIndicesBelow (most + top_page)) (sym (elsewhere there))
          (indices_again long p from n to k on laid (may.moves there) most high h stays)

  -- in place all but the pages past the k keep their homes
  pub home_in_place : (to == from) ≡ true → (page : ℕ) → within (from + k) (n - k) page ≡ false → HomeGoes on page next page
  home_in_place here page stays = subst (λ x. HomeGoes on page x page) (sym (in_place here))
      (homes_after_resize long from n k on laid (may.grows here) page stays)

  -- elsewhere a page of the new range has the home that it had in the old one, and one of neither range keeps its home
  pub home_elsewhere : (to == from) ≡ false → (page : ℕ) → to ≤ page → page < to + min n k → HomeGoes on (from + (page - to)) next page
  home_elsewhere there page least most = subst (λ x. HomeGoes on (from + (page - to)) x page) (sym (elsewhere there))
      (home_again long p from n to k on laid (may.moves there) stays (from + (page - to)) page
      (home_after_move long from n to k on laid (may.moves there) page least most))

  pub home_outside : (to == from) ≡ false → (page : ℕ) → within to k page ≡ false → within from n page ≡ false → HomeGoes on page next page
  home_outside there page out gone = subst (λ x. HomeGoes on page x page) (sym (elsewhere there))
      (home_again long p from n to k on laid (may.moves there) stays page page
      (home_not_moved long from n to k on laid (may.moves there) page out gone))
