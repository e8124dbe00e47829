-- Areas stay whole and on all of their pages through a split, and where a range that no area leaves is emptied or changed.
use Rattle.std.proofs.Common.{◌≡◌, ℕ, ◌+◌, ◌-◌, ◌*◌, ◌/◌, ◌<◌, ◌≤◌, min, max, Bool, true, false, cond, not, ◌&&◌, nat_lt, Option, Some, None, option_map, refl, sym, ap, subst, ◌∙◌, arith}
use Rattle.std.proofs.lemmas.Bool.{ltb-true, ltb-false, lt-ltb, le-ltb}
use Rattle.std.proofs.lemmas.Bool.Decides.{nat_tests}
use Rattle.std.proofs.lemmas.Option.{none-some, same_Some}
use Rattle.av_base.specs.Words.{within}
use Rattle.av_vma.specs.declared.area.Area.{Area}
use Rattle.av_vma.specs.Index.{first_of, index_of, past_of}
use Rattle.av_vma.specs.Pages.{AreLaid, Effect, IsWhole, Pages, after_unmap, split_at, has_page, part_of, with_effect, with_effect_on, without_range}
use Rattle.av_vma.proofs.Laid.{has_from, has_parts}

-- ---- a part of an area

abbrev lower_part : ℕ → Area → Area
lower_part at area = record area { end = min area.end (4096 * at) }

abbrev upper_part : ℕ → Area → Area
upper_part at area = record area { start = max area.start (4096 * at); pgoff = area.pgoff + (at - first_of area) }

-- what the lower and the upper part have as their area has it, each part has
pub of_part : {X : Type 0} (at page : ℕ) (area : Area) (f : Area → X) → f (lower_part at area) ≡ f area → f (upper_part at area) ≡ f area
    → f (part_of at page area) ≡ f area
of_part at page area f lower upper = by (nat_lt page at)
  where
    by : (b : Bool) → f (cond b (lower_part at area) (upper_part at area)) ≡ f area
    by true = lower
    by false = upper

-- its anon_vma is the area's
pub part_own : (at page : ℕ) (area : Area) → (part_of at page area).anon ≡ area.anon
part_own at page area = of_part at page area (λ area. area.anon) refl refl

-- a page has the linear index that it had
pub part_index : (at page : ℕ) (area : Area) → IsWhole area → first_of area ≤ page → index_of (part_of at page area) page ≡ index_of area page
part_index at page area whole low = by (nat_lt page at) refl
  where
    runs_on : (start first page pgoff : ℕ) → start ≡ 4096 * first → first ≤ page → at ≤ page
        → (page - max start (4096 * at) / 4096) + (pgoff + (at - start / 4096)) ≡ (page - start / 4096) + pgoff
    runs_on start first page pgoff is low high = omega arith

    by : (b : Bool) → nat_lt page at ≡ b → index_of (cond b (lower_part at area) (upper_part at area)) page ≡ index_of area page
    by true e = refl
    by false e = runs_on area.start (first_of area) page area.pgoff whole.start low (ltb-false page at e)

-- what is known of the part of an area on the page's side of a split
record IsPart (at page : ℕ) (area part : Area) : Type 0 where
  pub whole : IsWhole part
  pub here : has_page part page ≡ true
  pub all : (other : ℕ) → has_page part other ≡ true → (has_page area other ≡ true) × (part_of at other area ≡ part)

part_is : (at page : ℕ) (area : Area) → IsWhole area → has_page area page ≡ true → IsPart at page area (part_of at page area)
part_is at page area whole here =
    let on = has_parts area page here in
    let low : first_of area ≤ page = on.0 in
    let high : page < past_of area = on.1 in
    elim (nat_lt page at) as (λ b. nat_lt page at ≡ b → IsPart at page area (cond b (lower_part at area) (upper_part at area))) [
      | true ↦ λ e.
          let below : page < at = ltb-true page at e in
          record {
            whole = record { start = whole.start; end = omega arith; some = omega arith; low = whole.low; high = omega arith; small = omega arith };
            here = has_from (lower_part at area) page low (omega arith);
            all = λ other h.
                let parts = has_parts (lower_part at area) other h in
                let least : first_of area ≤ other = parts.0 in
                let most : other < min area.end (4096 * at) / 4096 = parts.1 in
                (has_from area other least (omega arith), rw (lt-ltb other at (omega arith)) refl);
          }
      | false ↦ λ e.
          let above : at ≤ page = ltb-false page at e in
          record {
            whole = record { start = omega arith; end = whole.end; some = omega arith; low = omega arith; high = whole.high; small = omega arith };
            here = has_from (upper_part at area) page (omega arith) high;
            all = λ other h.
                let parts = has_parts (upper_part at area) other h in
                let least : max area.start (4096 * at) / 4096 ≤ other = parts.0 in
                let most : other < past_of area = parts.1 in
                (has_from area other (omega arith) most, rw (le-ltb other at (omega arith)) refl);
          }
    ] refl

-- ---- a split

-- the area that a part is of
record IsOf (at page : ℕ) (on : Pages) (part : Area) : Type 0 where
  pub area : Area
  pub there : on page ≡ Some area
  pub is : part_of at page area ≡ part

part_of_one : (at page : ℕ) (on : Pages) (part : Area) → split_at at on page ≡ Some part → IsOf at page on part
part_of_one at page on part e = go (on page) refl e
  where
    go : (o : Option Area) → on page ≡ o → option_map (part_of at page) o ≡ Some part → IsOf at page on part
    go None is e = absurd (none-some part e)
    go (Some area) is e = record { area = area; there = is; is = same_Some (part_of at page area) part e }

known_part : (at : ℕ) (on : Pages) → AreLaid on → (page : ℕ) (part : Area) (e : split_at at on page ≡ Some part)
    → IsPart at page (part_of_one at page on part e).area part
known_part at on laid page part e =
    let one = part_of_one at page on part e in
    subst (IsPart at page one.area) one.is (part_is at page one.area (laid.whole page one.area one.there) (laid.here page one.area one.there))

pub laid_split : (at : ℕ) (on : Pages) → AreLaid on → AreLaid (split_at at on)
laid_split at on laid = record {
  whole = λ page part e. (known_part at on laid page part e).whole;
  here = λ page part e. (known_part at on laid page part e).here;
  all = λ page other part e h.
      let one = part_of_one at page on part e in
      let both = (known_part at on laid page part e).all other h in
      ap (option_map (part_of at other)) (laid.all page other one.area one.there both.0) ∙ ap Some both.1;
}

-- no area has pages on both sides
abbrev pub Splits : ℕ → Pages → Type 0
Splits at on = (page other : ℕ) (area : Area) → on page ≡ Some area → has_page area other ≡ true → nat_lt page at ≡ nat_lt other at

pub split_at_splits : (at : ℕ) (on : Pages) → Splits at (split_at at on)
split_at_splits at on page other part e h =
    let one = part_of_one at page on part e in
    by one.area (nat_lt page at) refl (subst (λ (a : Area). has_page a other ≡ true) (sym one.is) h)
  where
    by : (area : Area) (b : Bool) → nat_lt page at ≡ b → has_page (cond b (lower_part at area) (upper_part at area)) other ≡ true
        → nat_lt page at ≡ nat_lt other at
    by area true is h =
        let most : other < min area.end (4096 * at) / 4096 = (has_parts (lower_part at area) other h).1 in
        let below : other < at = omega (arith, most) in
        is ∙ sym (lt-ltb other at below)
    by area false is h =
        let least : max area.start (4096 * at) / 4096 ≤ other = (has_parts (upper_part at area) other h).0 in
        let above : at ≤ other = omega (arith, least) in
        is ∙ sym (le-ltb other at above)

-- another split leaves it so
pub still_splits : (at at' : ℕ) (on : Pages) → AreLaid on → Splits at on → Splits at (split_at at' on)
still_splits at at' on laid split page other part e h =
    let one = part_of_one at' page on part e in
    split page other one.area one.there ((known_part at' on laid page part e).all other h).0

-- ---- a range that no area leaves

module _ (from past : ℕ) (on : Pages) (laid : AreLaid on) (low : Splits from on) (high : Splits past on) where
  same_side : (page other : ℕ) (area : Area) → on page ≡ Some area → has_page area other ≡ true
      → within from (past - from) page ≡ within from (past - from) other
  same_side page other area e h = sides page ∙ (λ i. not (low page other area e h i) && high page other area e h i) ∙ sym (sides other)
    where
      sides : (x : ℕ) → within from (past - from) x ≡ (not (nat_lt x from) && nat_lt x past)
      sides x = grind (arith, nat_tests)

  -- what is in it goes
  pub laid_emptied : AreLaid (without_range from past on)
  laid_emptied = record {
    whole = λ page a e. laid.whole page a (before page (within from (past - from) page) a e);
    here = λ page a e. laid.here page a (before page (within from (past - from) page) a e);
    all = λ page other a e h. still page other a (within from (past - from) page) refl e h;
  }
    where
      before : (page : ℕ) (b : Bool) (a : Area) → cond b None (on page) ≡ Some a → on page ≡ Some a
      before page true a e = absurd (none-some a e)
      before page false a e = e

      still : (page other : ℕ) (a : Area) (b : Bool) → within from (past - from) page ≡ b → cond b None (on page) ≡ Some a → has_page a other ≡ true
          → without_range from past on other ≡ Some a
      still page other a true is e h = absurd (none-some a e)
      still page other a false is e h = ap (λ b. cond b None (on other)) (sym (same_side page other a e h) ∙ is) ∙ laid.all page other a e h

  -- what is in it gets another protection and other flags
  pub laid_changed : (effect : Effect) → AreLaid (with_effect_on from past effect on)
  laid_changed effect = record {
    whole = λ page a e. by_whole page a (within from (past - from) page) e;
    here = λ page a e. by_here page a (within from (past - from) page) e;
    all = λ page other a e h. by_all page other a (within from (past - from) page) refl e h;
  }
    where
      like : (area : Area) → IsWhole area → IsWhole (with_effect effect area)
      like area w = record { start = w.start; end = w.end; some = w.some; low = w.low; high = w.high; small = w.small }

      whole_of : (page : ℕ) (o : Option Area) → on page ≡ o → (a : Area) → option_map (with_effect effect) o ≡ Some a → IsWhole a
      whole_of page None is a e = absurd (none-some a e)
      whole_of page (Some area) is a e = subst IsWhole (same_Some (with_effect effect area) a e) (like area (laid.whole page area is))

      by_whole : (page : ℕ) (a : Area) (b : Bool) → cond b (option_map (with_effect effect) (on page)) (on page) ≡ Some a → IsWhole a
      by_whole page a true e = whole_of page (on page) refl a e
      by_whole page a false e = laid.whole page a e

      here_of : (page : ℕ) (o : Option Area) → on page ≡ o → (a : Area) → option_map (with_effect effect) o ≡ Some a → has_page a page ≡ true
      here_of page None is a e = absurd (none-some a e)
      here_of page (Some area) is a e =
          subst (λ (x : Area). has_page x page ≡ true) (same_Some (with_effect effect area) a e) (laid.here page area is)

      by_here : (page : ℕ) (a : Area) (b : Bool) → cond b (option_map (with_effect effect) (on page)) (on page) ≡ Some a → has_page a page ≡ true
      by_here page a true e = here_of page (on page) refl a e
      by_here page a false e = laid.here page a e

      all_of : (page other : ℕ) (o : Option Area) → on page ≡ o → (a : Area) → within from (past - from) page ≡ true
          → option_map (with_effect effect) o ≡ Some a → has_page a other ≡ true → with_effect_on from past effect on other ≡ Some a
      all_of page other None at a is e h = absurd (none-some a e)
      all_of page other (Some area) at a is e h =
          let same = same_Some (with_effect effect area) a e in
          let there : has_page area other ≡ true = subst (λ (x : Area). has_page x other ≡ true) (sym same) h in
          ap (λ b. cond b (option_map (with_effect effect) (on other)) (on other)) (sym (same_side page other area at there) ∙ is)
          ∙ ap (option_map (with_effect effect)) (laid.all page other area at there) ∙ e

      by_all : (page other : ℕ) (a : Area) (b : Bool) → within from (past - from) page ≡ b
          → cond b (option_map (with_effect effect) (on page)) (on page) ≡ Some a → has_page a other ≡ true
          → with_effect_on from past effect on other ≡ Some a
      by_all page other a true is e h = all_of page other (on page) refl a is e h
      by_all page other a false is e h = ap (λ b. cond b (option_map (with_effect effect) (on other)) (on other))
          (sym (same_side page other a e h) ∙ is) ∙ laid.all page other a e h

-- ---- a range that is split out

module _ (from past : ℕ) (on : Pages) (laid : AreLaid on) where
  pub laid_splits : AreLaid (split_at past (split_at from on))
  laid_splits = laid_split past (split_at from on) (laid_split from on laid)

  low_splits : Splits from (split_at past (split_at from on))
  low_splits = still_splits from past (split_at from on) (laid_split from on laid) (split_at_splits from on)

  -- it is unmapped
  pub laid_unmapped : AreLaid (after_unmap from past on)
  laid_unmapped = laid_emptied from past (split_at past (split_at from on)) laid_splits low_splits (split_at_splits past (split_at from on))

  -- it gets another protection and other flags
  pub laid_part : (effect : Effect) → AreLaid (with_effect_on from past effect (split_at past (split_at from on)))
  laid_part = laid_changed from past (split_at past (split_at from on)) laid_splits low_splits (split_at_splits past (split_at from on))
