-- Splitting, joining, mapping, unmapping, changing, moving and growing give no area an own anon_vma that none had.
use Rattle.std.proofs.Common.{◌≡◌, ℕ, zero, suc, ◌+◌, ◌-◌, min, nat_lt, Bool, true, false, cond, Option, Some, None, IsSomeAnd, option_map, refl, sym, subst, ◌∙◌, inl, inr}
use Rattle.std.specs.Option.{option_or}
use Rattle.std.proofs.lemmas.Option.{none-some}
use Rattle.av_base.specs.Page.{address_of}
use Rattle.av_base.specs.Words.{within}
use Rattle.av_base.specs.declared.flags.Flags.{Flags}
use Rattle.av_base.specs.declared.prot.Prot.{Prot}
use Rattle.av_vma.specs.declared.area.Area.{Area}
use Rattle.av_vma.specs.Index.{first_of}
use Rattle.av_vma.specs.Mremap.{after_grow, after_move, after_resize, grown_to, joined_over, moved_area, moved_range}
use Rattle.av_vma.specs.Pages.{Effect, Lengths, Pages, after_map, after_unmap, alters_at, split_at, fresh_area, has_page, joined_around, joined_at, page_changed, pages_changed, part_changed, part_of, with_area, with_effect, with_effect_on, without_range}
use Rattle.av_vma.proofs.Split.{part_own}
use Rattle.av_vma.proofs.Join.{tried_is}

-- there is an area, with this own anon_vma
abbrev pub HasOwn : ℕ → Option Area → Type 0
HasOwn own o = IsSomeAnd o (λ area. area.anon ≡ Some own)

-- an area's own anon_vma is one that some area had
abbrev pub AddsNoOwn : Pages → Pages → Type 0
AddsNoOwn on on' = (page own : ℕ) → HasOwn own (on' page) → (other : ℕ) × HasOwn own (on other)

-- one change after another
pub adds_neither : (a b c : Pages) → AddsNoOwn a b → AddsNoOwn b c → AddsNoOwn a c
adds_neither a b c first second page own has = let there = second page own has in first there.0 own there.1

is_own : (o : Option Area) (area : Area) (own : ℕ) → o ≡ Some area → area.anon ≡ Some own → HasOwn own o
is_own o area own is has = subst (HasOwn own) (sym is) has

-- ---- split and unmap

pub owns_split : (at : ℕ) (on : Pages) → AddsNoOwn on (split_at at on)
owns_split at on page own has = (page, by (on page) has)
  where
    by : (o : Option Area) → HasOwn own (option_map (part_of at page) o) → HasOwn own o
    by None has = has
    by (Some area) has = sym (part_own at page area) ∙ has

owns_splits : (from past : ℕ) (on : Pages) → AddsNoOwn on (split_at past (split_at from on))
owns_splits from past on =
    adds_neither on (split_at from on) (split_at past (split_at from on)) (owns_split from on) (owns_split past (split_at from on))

owns_emptied : (from past : ℕ) (on : Pages) → AddsNoOwn on (without_range from past on)
owns_emptied from past on page own has = (page, by (within from (past - from) page) has)
  where
    by : (b : Bool) → HasOwn own (cond b None (on page)) → HasOwn own (on page)
    by true has = absurd has
    by false has = has

pub owns_unmapped : (from past : ℕ) (on : Pages) → AddsNoOwn on (after_unmap from past on)
owns_unmapped from past on =
    let cut = split_at past (split_at from on) in
    adds_neither on cut (after_unmap from past on) (owns_splits from past on) (owns_emptied from past cut)

-- ---- join

module _ (len : Lengths) where
  pub owns_joined : (at : ℕ) (on : Pages) → AddsNoOwn on (joined_at len at on)
  owns_joined at on page own has = elim (tried_is len at page on) [
    | inr k ↦ (page, subst (HasOwn own) k.is has)
    | inl t ↦
        let joined = subst (HasOwn own) t.is has in
        either t.left t.right t.before t.after t.left.anon refl joined
  ]
    where
      -- it is the first one's, or the second one's where the first has none
      either : (left right : Area) → on (at - 1) ≡ Some left → on at ≡ Some right → (o : Option ℕ) → left.anon ≡ o → option_or o right.anon ≡ Some own
          → (other : ℕ) × HasOwn own (on other)
      either left right before after None none joined = (at, is_own (on at) right own after joined)
      either left right before after (Some first) some joined = (at - 1, is_own (on (at - 1)) left own before (some ∙ joined))

  pub owns_around : (from past : ℕ) (on : Pages) → AddsNoOwn on (joined_around len from past on)
  owns_around from past on = adds_neither on (joined_at len from on) (joined_around len from past on)
      (owns_joined from on) (owns_joined past (joined_at len from on))

  -- ---- map

  owns_placed : (p from past : ℕ) (prot : Prot) (flags : Flags) (on : Pages) → AddsNoOwn on (with_area (fresh_area p from past prot flags) on)
  owns_placed p from past prot flags on page own has = (page, by (has_page (fresh_area p from past prot flags) page) has)
    where
      by : (b : Bool) → HasOwn own (cond b (Some (fresh_area p from past prot flags)) (on page)) → HasOwn own (on page)
      by true none = absurd (none-some own none)
      by false has = has

  pub owns_mapped : (p from past : ℕ) (prot : Prot) (flags : Flags) (on : Pages) → AddsNoOwn on (after_map len p from past prot flags on)
  owns_mapped p from past prot flags on =
      let new = with_area (fresh_area p from past prot flags) on in
      adds_neither on new (after_map len p from past prot flags on) (owns_placed p from past prot flags on) (owns_around from past new)

  -- ---- change

  module _ (effect : Effect) where
    owns_effect : (from past : ℕ) (on : Pages) → AddsNoOwn on (with_effect_on from past effect on)
    owns_effect from past on page own has = (page, by (within from (past - from) page) has)
      where
        each : (o : Option Area) → HasOwn own (option_map (with_effect effect) o) → HasOwn own o
        each None has = has
        each (Some area) has = has

        by : (b : Bool) → HasOwn own (cond b (option_map (with_effect effect) (on page)) (on page)) → HasOwn own (on page)
        by true has = each (on page) has
        by false has = has

    part_owns : (from past : ℕ) (on : Pages) → AddsNoOwn on (part_changed len from past effect on)
    part_owns from past on =
        let cut = split_at past (split_at from on) in
        let new = with_effect_on from past effect cut in
        adds_neither on new (part_changed len from past effect on) (adds_neither on cut new (owns_splits from past on) (owns_effect from past cut))
        (owns_around from past new)

    page_owns : (at : ℕ) (on : Pages) → AddsNoOwn on (page_changed len effect at on)
    page_owns at on page own = by (alters_at effect (on at))
      where
        by : (b : Bool) → HasOwn own ((cond b (part_changed len at (at + 1) effect on) on) page) → (other : ℕ) × HasOwn own (on other)
        by true has = part_owns at (at + 1) on page own has
        by false has = (page, has)

    pub owns_changed : (from n : ℕ) (on : Pages) → AddsNoOwn on (pages_changed len effect from n on)
    owns_changed from zero on page own has = (page, has)
    owns_changed from (suc n) on page own has =
        let new = page_changed len effect from on in
        let there = owns_changed (from + 1) n new page own has in
        page_owns from on there.0 own there.1

-- ---- move and grow

owns_moved : (from n k to : ℕ) (on : Pages) → AddsNoOwn on (moved_range from n k to on)
owns_moved from n k to on page own has = by (within to k page) has
  where
    there : (o : Option Area) → HasOwn own (option_map (moved_area from to) o) → HasOwn own o
    there None h = h
    there (Some area) h = h

    by : (b : Bool) → HasOwn own (cond b (option_map (moved_area from to) (on (from + (page - to)))) (without_range from (from + n) on page))
        → (other : ℕ) × HasOwn own (on other)
    by true h = (from + (page - to), there (on (from + (page - to))) h)
    by false h = owns_emptied from (from + n) on page own h

pub owns_grown : (past last : ℕ) (on : Pages) → AddsNoOwn on (grown_to past (on last) on)
owns_grown past last on page own has = by (on last) refl has
  where
    by : (o : Option Area) → on last ≡ o → HasOwn own (grown_to past o on page) → (other : ℕ) × HasOwn own (on other)
    by None is h = (page, h)
    by (Some area) is h = at (has_page (record area { end = address_of past }) page) h
      where
        at : (b : Bool) → HasOwn own (cond b (Some (record area { end = address_of past })) (on page)) → (other : ℕ) × HasOwn own (on other)
        at true h = (last, subst (HasOwn own) (sym is) h)
        at false h = (page, h)

-- the new range before its boundaries are tried
module _ (from n to m : ℕ) (on : Pages) where
  abbrev cleared : Pages
  cleared = after_unmap to (to + m) on

  abbrev once : Pages
  once = split_at from cleared

  abbrev twice : Pages
  twice = split_at (from + min n m) once

  abbrev parts : Pages
  parts = split_at (from + n) twice

  abbrev carried : Pages
  carried = moved_range from n (min n m) to parts

  abbrev pub full : Pages
  full = grown_to (to + m) (carried (to + min n m - 1)) carried

  owns_parts : AddsNoOwn on parts
  owns_parts = adds_neither on cleared parts (owns_unmapped to (to + m) on)
      (adds_neither cleared once parts (owns_split from cleared)
      (adds_neither once twice parts (owns_split (from + min n m) once) (owns_split (from + n) twice)))

  pub owns_full : AddsNoOwn on full
  owns_full = adds_neither on carried full (adds_neither on parts carried owns_parts (owns_moved from n (min n m) to parts))
      (owns_grown (to + m) (to + min n m - 1) carried)

module _ (len : Lengths) where
  owns_over : (at n : ℕ) (on : Pages) → AddsNoOwn on (joined_over len at n on)
  owns_over at zero on = λ page own has. (page, has)
  owns_over at (suc n) on = let once = joined_at len at on in
      adds_neither on once (joined_over len (suc at) n once) (owns_joined len at on) (owns_over (suc at) n once)

  owns_after_grow : (past last : ℕ) (on : Pages) → AddsNoOwn on (after_grow len past (on last) on)
  owns_after_grow past last on = by (on last) refl
    where
      by : (o : Option Area) → on last ≡ o → AddsNoOwn on (after_grow len past o on)
      by None is = λ page own has. (page, has)
      by (Some area) is = let grown = grown_to past (Some area) on in
          adds_neither on grown (after_grow len past (Some area) on) (subst (λ o. AddsNoOwn on (grown_to past o on)) is (owns_grown past last on))
          (owns_around len (first_of area) past grown)

  pub owns_after_resize : (from n m : ℕ) (on : Pages) → AddsNoOwn on (after_resize len from n m on)
  owns_after_resize from n m on = by (nat_lt m n) (nat_lt n m)
    where
      by : (b c : Bool) → AddsNoOwn on (cond b (after_unmap (from + m) (from + n) on) (cond c (after_grow len (from + m) (on (from + n - 1)) on) on))
      by true c = owns_unmapped (from + m) (from + n) on
      by false true = owns_after_grow (from + m) (from + n - 1) on
      by false false = λ page own has. (page, has)

  pub owns_after_move : (from n to m : ℕ) (on : Pages) → AddsNoOwn on (after_move len from n to m on)
  owns_after_move from n to m on = adds_neither on (full from n to m on) (after_move len from n to m on) (owns_full from n to m on)
      (owns_over to (suc m) (full from n to m on))
