-- The areas by number are those of the pages.
use Rattle.std.proofs.Common.{◌≡◌, ◌≢◌, ℕ, true, List, Option, Some, None, is_some, IfSome, refl, sym, ap, subst, ◌∙◌}
use Rattle.std.proofs.lemmas.Bool.{false≢true}
use Rattle.std.specs.Prelude.{MatchOption}
use Rattle.av_vma.specs.declared.area.Area.{Area}
use Rattle.av_vma.specs.Areas.{area_of}
use Rattle.av_vma.specs.Pages.{has_page}
use Rattle.av_vmatree.specs.declared.span.Span.{Span}
use Rattle.av_vmatree.specs.Spans.{area_at, span_of}
use Rattle.av_merge.specs.Process.{AreAreasOf}
use Rattle.av_merge.proofs.PlacingLaws.{area_in, at_span, holds_is, holds_parts, is_on}
use Rattle.av_spaces.specs.Spaces.{AreNumbered, IsNumber, pages_of}
use Rattle.av_spaces.specs.Trees.{AreTrees, HasNone, Trees, all_spaces, spaces_by, tree_at}
use Rattle.av_spaces.proofs.Trees.{none_dead, pages_there}

some_is : {A : Type 0} (o : Option A) → is_some o ≡ true → (x : A) × (o ≡ Some x)
some_is None h = absurd (false≢true h)
some_is (Some x) h = (x, refl)

module _ (areas : List (Option Area)) (ts : Trees) (trees : AreTrees (area_of areas) ts) where
  -- the area of a page has a number
  number_there : (p page : ℕ) (A : Area) → pages_of (spaces_by (area_of areas) ts) p page ≡ Some A
      → (number : ℕ) × IsNumber (all_spaces areas ts) p page A number
  number_there p page A is = by (tree_at ts p) refl (trees p)
    where
      none_is : None ≡ Some A → (number : ℕ) × IsNumber (all_spaces areas ts) p page A number
      none_is e = cc

      by : (o : Option (List Span)) → tree_at ts p ≡ o → MatchOption o (HasNone p (area_of areas)) (AreAreasOf p (area_of areas))
          → (number : ℕ) × IsNumber (all_spaces areas ts) p page A number
      by None at none = none_is (none_dead (area_of areas) ts p (spaces_by (area_of areas) ts) (sym at) refl page ∙ is)
      by (Some spans) at has =
          let on = is_on p (area_of areas) spans page A has (sym (pages_there (area_of areas) ts p spans (spaces_by (area_of areas) ts) trees
          (sym at) refl page) ∙ is) in
          (on.number, record { at = on.area_is; process = on.is.process; here = on.has })

  -- the tree has an area of its process at each page that the area has
  tree_has : (p page n : ℕ) (A : Area) (spans : List Span) → AreAreasOf p (area_of areas) spans → IsNumber (all_spaces areas ts) p page A n
      → area_at spans page ≡ Some n
  tree_has p page n A spans has is =
      let s = some_is (span_of spans n)
      (subst (λ o. IfSome o (λ area. area.pid ≡ p → is_some (span_of spans n) ≡ true)) is.at (has.all n) is.process) in
      let there = area_in p (area_of areas) spans n s.0 has s.1 in
      let same : there.area ≡ A = same_area (sym there.area_is ∙ is.at) in
      let here = holds_parts s.0 page (holds_is p s.0 there.area page there.is ∙ ap (λ area. has_page area page) same ∙ is.here) in
      at_span spans n s.0 page has.spans_are.apart s.1 here.0 here.1
    where
      same_area : {B : Area} → Some B ≡ Some A → B ≡ A
      same_area e = cc

  one_number : (p page a b : ℕ) (A B : Area) → IsNumber (all_spaces areas ts) p page A a → IsNumber (all_spaces areas ts) p page B b → a ≡ b
  one_number p page a b A B is also = by (tree_at ts p) (trees p)
    where
      one : {o : Option ℕ} → o ≡ Some a → o ≡ Some b → a ≡ b
      one e d = cc

      by : (o : Option (List Span)) → MatchOption o (HasNone p (area_of areas)) (AreAreasOf p (area_of areas)) → a ≡ b
      by None none = absurd (subst (λ o. IfSome o (λ area. area.pid ≢ p)) is.at (none a) is.process)
      by (Some spans) has = one (tree_has p page a A spans has is) (tree_has p page b B spans has also)

  pub numbered_in : AreNumbered (all_spaces areas ts)
  numbered_in = record { numbers = number_there; apart = one_number }
