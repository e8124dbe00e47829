-- What splitting and joining keep: how each page is mapped, and that each area is on all of its pages.
use Rattle.std.proofs.Common.{◌≡◌, ℕ, ◌-◌, ◌≤◌, inl, inr, Bool, true, false, cond, List, Option, Some, None, option_map, refl, sym, ap, ◌∙◌}
use Rattle.av_vma.specs.declared.area.Area.{Area}
use Rattle.av_vma.specs.Index.{first_of}
use Rattle.av_base.specs.Words.{within}
use Rattle.av_vmatree.specs.declared.span.Span.{Span}
use Rattle.av_vma.specs.Pages.{AreLaid, Effect, IsWhole, Lengths, Pages, split_at, do_join, has_page, join_of, joined_around, joined_at, part_of, with_area, with_effect, with_effect_on, without_range}
use Rattle.av_merge.specs.Mapping.{Mapping, mapping, mapping_in, mapping_with}
use Rattle.av_merge.specs.Pages.{pages_by}
use Rattle.av_merge.specs.Process.{AreAreasOf}
use Rattle.av_vma.proofs.Split.{laid_split, of_part, part_index}
use Rattle.av_vma.proofs.Join.{join_index, join_is, laid_joined, joined_pages, tried_is}
use Rattle.av_vma.proofs.Laid.{has_parts}
use Rattle.av_merge.proofs.PlacingLaws.{is_on, one_area}

-- the areas of a process are laid
pub laid_of : (p : ℕ) (areas : ℕ → Option Area) (spans : List Span) → AreAreasOf p areas spans → AreLaid (pages_by areas spans)
laid_of p areas spans stands = record {
  whole = λ page area e. (is_on p areas spans page area stands e).is.whole;
  here = λ page area e. (is_on p areas spans page area stands e).has;
  all = λ page other area e h. one_area p areas spans page other area stands e h;
}

-- how a page is mapped by the area that it has, if it has one
abbrev mapping_of : ℕ → Option Area → Option Mapping
mapping_of page = option_map (mapping_in page)

-- ---- a split

part_maps : (at page : ℕ) (area : Area) → IsWhole area → first_of area ≤ page → mapping_in page (part_of at page area) ≡ mapping_in page area
part_maps at page area whole low =
    let prot = of_part at page area (λ area. area.prot) refl refl in
    let flags = of_part at page area (λ area. area.flags) refl refl in
    let index = part_index at page area whole low in
    λ i. record { prot = prot i; flags = flags i; index = index i }

-- a split keeps how each page is mapped
pub split_maps : (at : ℕ) (on : Pages) → AreLaid on → (page : ℕ) → mapping (split_at at on) page ≡ mapping on page
split_maps at on laid page = go (on page) refl
  where
    go : (o : Option Area) → on page ≡ o → mapping_of page (option_map (part_of at page) o) ≡ mapping_of page o
    go None is = refl
    go (Some area) is = ap Some (part_maps at page area (laid.whole page area is) (has_parts area page (laid.here page area is)).0)

-- ---- a join

module _ (len : Lengths) where
  left_maps : (left right : Area) → do_join len left right ≡ true → (page : ℕ) → mapping_in page (join_of left right) ≡ mapping_in page left
  left_maps left right e page = refl

  right_maps : (left right : Area) → IsWhole left → IsWhole right → do_join len left right ≡ true → (page : ℕ) → has_page right page ≡ true
      → mapping_in page (join_of left right) ≡ mapping_in page right
  right_maps left right l r e page has =
      let j = join_is len left right e in
      let index = join_index len left right l r e page has in
      λ i. record { prot = j.prot i; flags = j.flags i; index = index i }

  -- a join keeps how each page is mapped
  pub joined_maps : (at : ℕ) (on : Pages) → AreLaid on → (page : ℕ) → mapping (joined_at len at on) page ≡ mapping on page
  joined_maps at on laid page = elim (tried_is len at page on) [
    | inr k ↦ ap (mapping_of page) k.is
    | inl t ↦
        let l = laid.whole (at - 1) t.left t.before in
        let r = laid.whole at t.right t.after in
        elim (joined_pages len t.left t.right l r t.joins page t.here) [
          | inl has ↦ ap (mapping_of page) t.is ∙ ap Some (left_maps t.left t.right t.joins page)
              ∙ sym (ap (mapping_of page) (laid.all (at - 1) page t.left t.before has))
          | inr has ↦ ap (mapping_of page) t.is ∙ ap Some (right_maps t.left t.right l r t.joins page has)
              ∙ sym (ap (mapping_of page) (laid.all at page t.right t.after has))
        ]
  ]

  pub around_maps : (from past : ℕ) (on : Pages) → AreLaid on → (page : ℕ) → mapping (joined_around len from past on) page ≡ mapping on page
  around_maps from past on laid page = joined_maps past (joined_at len from on) (laid_joined len from on laid) page ∙ joined_maps from on laid page

-- ---- pages that go, come and get another protection

pub emptied_maps : (from past : ℕ) (on : Pages) (page : ℕ)
    → mapping (without_range from past on) page ≡ cond (within from (past - from) page) None (mapping on page)
emptied_maps from past on page = by (within from (past - from) page)
  where
    by : (b : Bool) → mapping_of page (cond b None (on page)) ≡ cond b None (mapping on page)
    by true = refl
    by false = refl

pub placed_maps : (area : Area) (on : Pages) (page : ℕ)
    → mapping (with_area area on) page ≡ cond (has_page area page) (Some (mapping_in page area)) (mapping on page)
placed_maps area on page = by (has_page area page)
  where
    by : (b : Bool) → mapping_of page (cond b (Some area) (on page)) ≡ cond b (Some (mapping_in page area)) (mapping on page)
    by true = refl
    by false = refl

pub changed_maps : (from past : ℕ) (effect : Effect) (on : Pages) (page : ℕ) → mapping (with_effect_on from past effect on) page
    ≡ cond (within from (past - from) page) (option_map (mapping_with effect) (mapping on page)) (mapping on page)
changed_maps from past effect on page = by (within from (past - from) page)
  where
    each : (o : Option Area) → mapping_of page (option_map (with_effect effect) o) ≡ option_map (mapping_with effect) (mapping_of page o)
    each None = refl
    each (Some area) = refl

    by : (b : Bool) → mapping_of page (cond b (option_map (with_effect effect) (on page)) (on page))
        ≡ cond b (option_map (mapping_with effect) (mapping on page)) (mapping on page)
    by true = each (on page)
    by false = refl

-- the splits at the two ends of a range keep how each page is mapped
splits_map : (from past : ℕ) (on : Pages) → AreLaid on → (page : ℕ) → mapping (split_at past (split_at from on)) page ≡ mapping on page
splits_map from past on laid page = split_maps past (split_at from on) (laid_split from on laid) page ∙ split_maps from on laid page

-- a range is emptied
pub split_out_maps : (from to : ℕ) (on : Pages) → AreLaid on → (page : ℕ)
    → mapping (without_range from to (split_at to (split_at from on))) page ≡ cond (within from (to - from) page) None (mapping on page)
split_out_maps from to on laid page =
    emptied_maps from to (split_at to (split_at from on)) page
    ∙ ap (cond (within from (to - from) page) None) (splits_map from to on laid page)

-- a part of an area gets a protection, and is joined with its neighbours
pub part_maps_to : (len : Lengths) (from past : ℕ) (effect : Effect) (on now new : Pages) → AreLaid on → AreLaid now
    → ((page : ℕ) → now page ≡ with_effect_on from past effect (split_at past (split_at from on)) page)
    → ((page : ℕ) → new page ≡ joined_around len from past now page)
    → (page : ℕ) → mapping new page ≡ cond (within from (past - from) page) (option_map (mapping_with effect) (mapping on page)) (mapping on page)
part_maps_to len from past effect on now new laid laid_after change joins page =
    ap (mapping_of page) (joins page)
    ∙ around_maps len from past now laid_after page
    ∙ ap (mapping_of page) (change page)
    ∙ changed_maps from past effect (split_at past (split_at from on)) page
    ∙ ap (λ (m : Option Mapping). cond (within from (past - from) page) (option_map (mapping_with effect) m) m) (splits_map from past on laid page)
