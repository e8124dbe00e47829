-- Where areas move or grow it does not matter which of two lengths of chains is asked, where they say the same of the areas that there are.
use Rattle.std.proofs.Common.{◌≡◌, ℕ, zero, suc, ◌+◌, Option, Some, None, refl, sym, ap, subst, ◌∙◌}
use Rattle.av_base.specs.Flags.{unlocked}
use Rattle.av_vma.specs.declared.area.Area.{Area}
use Rattle.av_vma.specs.Index.{first_of}
use Rattle.av_vma.specs.Mremap.{after_grow, after_move, grown_to, page_left, pages_left}
use Rattle.av_vma.specs.Pages.{Lengths, Pages, after_map}
use Rattle.av_vma.proofs.Owns.{AddsNoOwn, HasOwn, full, owns_full, owns_grown, owns_mapped}
use Rattle.av_merge.proofs.Lengths.{AreAlike, around_alike, map_alike, over_alike}

-- lengths that are alike are so for areas that have no other own anon_vmas
alike_owns : (len len' : Lengths) (on now : Pages) → len None ≡ len' None → AreAlike len len' on → AddsNoOwn on now → AreAlike len len' now
alike_owns len len' on now none alike adds = record { same = λ page area is. by page area is area.anon refl }
  where
    at : (own : ℕ) (o : Option Area) → ((area : Area) → o ≡ Some area → len area.anon ≡ len' area.anon) → HasOwn own o
        → len (Some own) ≡ len' (Some own)
    at own None same has = absurd has
    at own (Some area) same has = ap len (sym has) ∙ same area refl ∙ ap len' has

    by : (page : ℕ) (area : Area) → now page ≡ Some area → (own : Option ℕ) → area.anon ≡ own → len area.anon ≡ len' area.anon
    by page area is None e = ap len e ∙ none ∙ sym (ap len' e)
    by page area is (Some own) e =
        let there = adds page own (subst (HasOwn own) (sym is) e) in
        ap len e ∙ at own (on there.0) (λ area. alike.same there.0 area) there.1 ∙ sym (ap len' e)

module _ (len len' : Lengths) (on : Pages) (none : len None ≡ len' None) (alike : AreAlike len len' on) where
  pub grow_alike : (past last page : ℕ) → after_grow len past (on last) on page ≡ after_grow len' past (on last) on page
  grow_alike past last page = by (on last) refl
    where
      by : (o : Option Area) → on last ≡ o → after_grow len past o on page ≡ after_grow len' past o on page
      by None is = refl
      by (Some area) is = around_alike len len' (first_of area) past (grown_to past (Some area) on)
          (alike_owns len len' on (grown_to past (Some area) on) none alike
          (subst (λ o. AddsNoOwn on (grown_to past o on)) is (owns_grown past last on))) page

  pub move_alike : (from n to m page : ℕ) → after_move len from n to m on page ≡ after_move len' from n to m on page
  move_alike from n to m =
      let on' = full from n to m on in
      over_alike len len' to (suc m) on' (alike_owns len len' on on' none alike (owns_full from n to m on))

-- nor where the old range is mapped again
module _ (len len' : Lengths) (p : ℕ) (was : Pages) (none : len None ≡ len' None) where
  page_alike : (page : ℕ) (o : Option Area) (on : Pages) → AreAlike len len' on → (q : ℕ) → page_left len p page o on q ≡ page_left len' p page o on q
  page_alike page None on alike q = refl
  page_alike page (Some area) on alike q = map_alike len len' p page (page + 1) area.prot (unlocked area.flags) on none alike q

  still_alike : (page : ℕ) (o : Option Area) (on : Pages) → AreAlike len len' on → AreAlike len len' (page_left len p page o on)
  still_alike page None on alike = alike
  still_alike page (Some area) on alike = alike_owns len len' on (after_map len p page (page + 1) area.prot (unlocked area.flags) on) none alike
      (owns_mapped len p page (page + 1) area.prot (unlocked area.flags) on)

  pub left_alike : (from n : ℕ) (on : Pages) → AreAlike len len' on → (q : ℕ) → pages_left len p was from n on q ≡ pages_left len' p was from n on q
  left_alike from zero on alike q = refl
  left_alike from (suc n) on alike q =
      left_alike (from + 1) n (page_left len p from (was from) on) (still_alike from (was from) on alike) q
      ∙ (λ i. pages_left len' p was (from + 1) n (λ o. page_alike from (was from) on alike o i) q)
