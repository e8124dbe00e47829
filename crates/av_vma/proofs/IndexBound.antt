-- How high linear indices go after splits, joins and changes, and where a range of areas moves or grows.
use Rattle.std.proofs.Common.{◌≡◌, ℕ, zero, suc, ◌+◌, ◌-◌, ◌*◌, ◌/◌, ◌^◌, ◌<◌, ◌≤◌, inl, inr, min, max, nat_lt, Bool, true, false, cond, Option, Some, None, is_some, option_map, refl, sym, ap, subst, ◌∙◌, arith}
use Rattle.std.proofs.lemmas.Bool.{ltb-true, ltb-false}
use Rattle.std.proofs.lemmas.Option.{none-some, same_Some}
use Rattle.std.specs.Prelude.{unwrap_or}
use Rattle.av_base.specs.Limits.{top_page}
use Rattle.av_base.specs.Words.{within}
use Rattle.av_base.specs.declared.flags.Flags.{Flags}
use Rattle.av_base.specs.declared.prot.Prot.{Prot}
use Rattle.av_vma.specs.declared.area.Area.{Area}
use Rattle.av_vma.specs.Gap.{IsRoom}
use Rattle.av_vma.specs.IndexBound.{AreIndicesBelow}
use Rattle.av_vma.specs.Index.{first_of, index_of, past_of}
use Rattle.av_vma.specs.Mremap.{IsGrowth, IsMove, after_grow, after_move, after_resize, grown_to, joined_over, moved_range}
use Rattle.av_vma.specs.Pages.{AreLaid, Effect, IsWhole, Lengths, Pages, after_map, after_prepare, after_unmap, alters_at, split_at, fresh_area, has_page, join_of, joined_around, joined_at, loan_beside, page_changed, pages_changed, part_changed, part_of, with_anon, with_area, with_effect, with_effect_on, without_range}
use Rattle.av_vma.proofs.Split.{laid_split, laid_part, laid_unmapped}
use Rattle.av_vma.proofs.Join.{join_is, laid_joined, laid_page_changed, tried_is}
use Rattle.av_vma.proofs.Laid.{has_area, has_parts, laid_fresh}
use Rattle.av_vma.proofs.Mremap.{IsLast, IsReady, IsThere, carried, ends_there, growing, inside, laid_carried, laid_with_range, laid_growth, last_there, parts, ready, which, with_end}

-- a higher bound serves, too
pub indices_more : (a b : ℕ) (on : Pages) → a ≤ b → AreIndicesBelow a on → AreIndicesBelow b on
indices_more a b on less h page area is = let low = h page area is in omega (arith, low, less)

-- ---- split and unmap

part_below : (at page : ℕ) (area : Area) → IsWhole area → page < past_of area
    → index_of (part_of at page area) (past_of (part_of at page area)) ≤ index_of area (past_of area)
part_below at page area whole on_page = by (nat_lt page at) refl
  where
    by : (b : Bool) → nat_lt page at ≡ b
        → index_of (cond b (record area { end = min area.end (4096 * at) })
        (record area { start = max area.start (4096 * at); pgoff = area.pgoff + (at - first_of area) }))
        (past_of (cond b (record area { end = min area.end (4096 * at) })
        (record area { start = max area.start (4096 * at); pgoff = area.pgoff + (at - first_of area) })))
        ≤ index_of area (past_of area)
    by true is = omega arith
    by false is =
        let above : at ≤ page = ltb-false page at is in
        let start = whole.start in
        let end = whole.end in
        let some = whole.some in
        omega arith

pub indices_split : (most at : ℕ) (on : Pages) → AreLaid on → AreIndicesBelow most on → AreIndicesBelow most (split_at at on)
indices_split most at on laid h page part is = by (on page) refl is
  where
    by : (o : Option Area) → on page ≡ o → option_map (part_of at page) o ≡ Some part → index_of part (past_of part) ≤ most
    by None there e = absurd (none-some part e)
    by (Some area) there e =
        let low = part_below at page area (laid.whole page area there) (has_parts area page (laid.here page area there)).1 in
        let high = h page area there in
        let less : index_of (part_of at page area) (past_of (part_of at page area)) ≤ most = omega (arith, low, high) in
        subst (λ (a : Area). index_of a (past_of a) ≤ most) (same_Some (part_of at page area) part e) less

pub indices_emptied : (most from past : ℕ) (on : Pages) → AreIndicesBelow most on → AreIndicesBelow most (without_range from past on)
indices_emptied most from past on h page area is = by (within from (past - from) page) is
  where
    by : (b : Bool) → cond b None (on page) ≡ Some area → index_of area (past_of area) ≤ most
    by true e = absurd (none-some area e)
    by false e = h page area e

indices_splits : (most from past : ℕ) (on : Pages) → AreLaid on → AreIndicesBelow most on → AreIndicesBelow most (split_at past (split_at from on))
indices_splits most from past on laid h = indices_split most past (split_at from on) (laid_split from on laid) (indices_split most from on laid h)

pub indices_unmapped : (most from past : ℕ) (on : Pages) → AreLaid on → AreIndicesBelow most on → AreIndicesBelow most (after_unmap from past on)
indices_unmapped most from past on laid h =
    indices_emptied most from past (split_at past (split_at from on)) (indices_splits most from past on laid h)

-- ---- an area on pages

pub indices_placed : (most : ℕ) (area : Area) (on : Pages) → index_of area (past_of area) ≤ most → AreIndicesBelow most on
    → AreIndicesBelow most (with_area area on)
indices_placed most area on low h page other is = by (has_page area page) is
  where
    by : (b : Bool) → cond b (Some area) (on page) ≡ Some other → index_of other (past_of other) ≤ most
    by true e = subst (λ (a : Area). index_of a (past_of a) ≤ most) (same_Some area other e) low
    by false e = h page other e

-- ---- join

module _ (len : Lengths) where
  pub indices_joined : (most at : ℕ) (on : Pages) → AreLaid on → AreIndicesBelow most on → AreIndicesBelow most (joined_at len at on)
  indices_joined most at on laid h page area is = elim (tried_is len at page on) [
    | inr k ↦ h page area (sym k.is ∙ is)
    | inl t ↦
        let j = join_is len t.left t.right t.joins in
        let l = laid.whole (at - 1) t.left t.before in
        let r = laid.whole at t.right t.after in
        let adjoin = j.adjoin in
        let index = j.index in
        let some = l.some in
        let more = r.some in
        let high = h at t.right t.after in
        let less : index_of (join_of t.left t.right) (past_of (join_of t.left t.right)) ≤ most = omega (arith, adjoin, index, some, more, high) in
        subst (λ (a : Area). index_of a (past_of a) ≤ most) (same_Some (join_of t.left t.right) area (sym t.is ∙ is)) less
  ]

  pub indices_around : (most from past : ℕ) (on : Pages) → AreLaid on → AreIndicesBelow most on
      → AreIndicesBelow most (joined_around len from past on)
  indices_around most from past on laid h =
      indices_joined most past (joined_at len from on) (laid_joined len from on laid) (indices_joined most from on laid h)

  pub indices_over : (most at n : ℕ) (on : Pages) → AreLaid on → AreIndicesBelow most on → AreIndicesBelow most (joined_over len at n on)
  indices_over most at zero on laid h = λ page area is. h page area is
  indices_over most at (suc n) on laid h =
      indices_over most (suc at) n (joined_at len at on) (laid_joined len at on laid) (indices_joined most at on laid h)

-- ---- map, change and prepare

module _ (len : Lengths) where
  pub indices_mapped : (most p from past : ℕ) (prot : Prot) (flags : Flags) (on : Pages) → AreLaid on → from < past → IsRoom (has_area on) (past - from) from
      → top_page ≤ most
      → AreIndicesBelow most on → AreIndicesBelow most (after_map len p from past prot flags on)
  indices_mapped most p from past prot flags on laid some room high h =
      let fresh = fresh_area p from past prot flags in
      indices_around len most from past (with_area fresh on) (laid_fresh p from past prot flags on some room laid)
      (indices_placed most fresh on (let highest = room.highest in omega arith) h)

  indices_effect : (most from past : ℕ) (effect : Effect) (on : Pages) → AreIndicesBelow most on
      → AreIndicesBelow most (with_effect_on from past effect on)
  indices_effect most from past effect on h page area is = by (within from (past - from) page) (on page) refl is
    where
      by : (b : Bool) (o : Option Area) → on page ≡ o → cond b (option_map (with_effect effect) o) o ≡ Some area → index_of area (past_of area) ≤ most
      by b None there e = absurd (none (sym (flat b) ∙ e))
        where
          flat : (b : Bool) → cond b (option_map (with_effect effect) None) None ≡ None
          flat true = refl
          flat false = refl

          none : None ≡ Some area → ⊥
          none e = none-some area e
      by true (Some old) there e = subst (λ (a : Area). index_of a (past_of a) ≤ most) (same_Some (with_effect effect old) area e) (h page old there)
      by false (Some old) there e = h page area (there ∙ e)

  module _ (effect : Effect) where
    indices_page_changed : (most at : ℕ) (on : Pages) → AreLaid on → AreIndicesBelow most on → AreIndicesBelow most (page_changed len effect at on)
    indices_page_changed most at on laid h = by (alters_at effect (on at))
      where
        by : (b : Bool) → AreIndicesBelow most (cond b (part_changed len at (at + 1) effect on) on)
        by true = indices_around len most at (at + 1) (with_effect_on at (at + 1) effect (split_at (at + 1) (split_at at on)))
            (laid_part at (at + 1) on laid effect)
            (indices_effect most at (at + 1) effect (split_at (at + 1) (split_at at on)) (indices_splits most at (at + 1) on laid h))
        by false = h

    pub indices_changed : (most from n : ℕ) (on : Pages) → AreLaid on → AreIndicesBelow most on
        → AreIndicesBelow most (pages_changed len effect from n on)
    indices_changed most from zero on laid h = λ page area is. h page area is
    indices_changed most from (suc n) on laid h = indices_changed most (from + 1) n (page_changed len effect from on)
        (laid_page_changed len effect from on laid) (indices_page_changed most from on laid h)

  pub indices_prepared : (most next page : ℕ) (on : Pages) → AreIndicesBelow most on → AreIndicesBelow most (after_prepare len next page on)
  indices_prepared most next page on h = by (on page) refl
    where
      each : (area : Area) (b : Bool) → on page ≡ Some area
          → AreIndicesBelow most (cond b on (with_area (record area { anon = Some (unwrap_or (loan_beside len on area) next) }) on))
      each area true is = h
      each area false is = indices_placed most (record area { anon = Some (unwrap_or (loan_beside len on area) next) }) on (h page area is) h

      by : (o : Option Area) → on page ≡ o → AreIndicesBelow most (with_anon len next o on)
      by None is = h
      by (Some area) is = each area (is_some area.anon) is

-- ---- a range moves

-- an area without anon_vma has the linear indices of its new place
indices_carried : (most from n k to : ℕ) (on : Pages) → IsReady from n k to on → top_page ≤ most → AreIndicesBelow most on
    → AreIndicesBelow most (moved_range from n k to on)
indices_carried most from n k to on r high h page area is = elim (which from n k to on r page area is) [
  | inr s ↦ h page area s.there
  | inl m ↦
      let least = m.least in
      let below = m.most in
      let w = inside from n k to on r (from + (page - to)) m.was m.there (omega arith) (omega arith) in
      subst (λ (a : Area). index_of a (past_of a) ≤ most) m.is
      (by m.was m.was.anon w.first w.past w.whole.some (h (from + (page - to)) m.was m.there))
]
  where
    by : (was : Area) (own : Option ℕ) → from ≤ first_of was → past_of was ≤ from + k → first_of was < past_of was → index_of was (past_of was) ≤ most
        → ((4096 * (past_of was + to - from)) / 4096 - (4096 * (first_of was + to - from)) / 4096) + cond (is_some own) was.pgoff
        (first_of was + to - from) ≤ most
    by was None first past some low = let highest = r.high in omega (arith, first, past, some, highest, high)
    by was (Some own) first past some low = omega (arith, first, past, some, low)

-- only what an area grows by raises them
longer_below : (most past : ℕ) (area : Area) → past_of area ≤ past → past ≤ top_page → first_of area < past_of area
    → index_of area (past_of area) ≤ most
    → index_of (with_end past area) (past_of (with_end past area)) ≤ most + top_page
longer_below most past area more high some low = omega (arith, more, high, some, low)

module _ (len : Lengths) (most : ℕ) (high : top_page ≤ most) where
  more : (on : Pages) → AreIndicesBelow most on → AreIndicesBelow (most + top_page) on
  more on h = indices_more most (most + top_page) on (omega arith) h

  pub indices_after_move : (from n to m : ℕ) (on : Pages) (laid : AreLaid on) (move : IsMove from n to m on) → AreIndicesBelow most on
      → AreIndicesBelow (most + top_page) (after_move len from n to m on)
  indices_after_move from n to m on laid move h = subst (λ x. AreIndicesBelow (most + top_page) (joined_over len to (suc m) x)) (sym with_range_is)
      (indices_over len (most + top_page) to (suc m) with_range (subst AreLaid with_range_is (laid_with_range from n to m on laid move))
      (indices_placed (most + top_page) (with_end (to + m) one.area) gone_over
      (longer_below most (to + m) one.area (let ends = one.so.ends in omega arith) move.high some (low (to + min n m - 1) one.area one.is))
      (more gone_over low)))
    where
      clear : Pages
      clear = after_unmap to (to + m) on

      laid_clear : AreLaid clear
      laid_clear = laid_unmapped to (to + m) on laid

      laid_once : AreLaid (split_at from clear)
      laid_once = laid_split from clear laid_clear

      gone_over : Pages
      gone_over = carried from n to m on laid move

      pieces_low : AreIndicesBelow most (parts from n to m on laid move)
      pieces_low = indices_split most (from + n) (split_at (from + min n m) (split_at from clear))
          (laid_split (from + min n m) (split_at from clear) laid_once)
          (indices_split most (from + min n m) (split_at from clear) laid_once
          (indices_split most from clear laid_clear (indices_unmapped most to (to + m) on laid h)))

      low : AreIndicesBelow most gone_over
      low = indices_carried most from n (min n m) to (parts from n to m on laid move) (ready from n to m on laid move) high pieces_low

      one : IsThere (gone_over (to + min n m - 1)) (IsLast from n to m on laid move)
      one = last_there from n to m on laid move

      some : first_of one.area < past_of one.area
      some = ((laid_carried from n to m on laid move).whole (to + min n m - 1) one.area one.is).some

      with_range : Pages
      with_range = with_area (with_end (to + m) one.area) gone_over

      with_range_is : grown_to (to + m) (gone_over (to + min n m - 1)) gone_over ≡ with_range
      with_range_is = ap (λ o. grown_to (to + m) o gone_over) one.is

  -- ---- an area grows in place

  pub indices_after_grow : (last past : ℕ) (on : Pages) (laid : AreLaid on) (g : IsGrowth last past on) → AreIndicesBelow most on
      → AreIndicesBelow (most + top_page) (after_grow len past (on last) on)
  indices_after_grow last past on laid g h = subst (λ o. AreIndicesBelow (most + top_page) (after_grow len past o on)) (sym one.is)
      (indices_around len (most + top_page) (first_of one.area) past (with_area (with_end past one.area) on)
      (laid_growth last past on laid g one.area one.is)
      (indices_placed (most + top_page) (with_end past one.area) on
      (longer_below most past one.area is_more g.high (laid.whole last one.area one.is).some (h last one.area one.is)) (more on h)))
    where
      one : IsThere (on last) (λ area. index_of area last + (past - last) ≤ 2 ^ 60)
      one = growing last past on laid g

      is_more : past_of one.area ≤ past
      is_more = let ends = ends_there last past on laid g one.area one.is in let more = g.more in omega arith

  pub indices_after_resize : (from n m : ℕ) (on : Pages) (laid : AreLaid on) → (n < m → IsGrowth (from + n - 1) (from + m) on)
      → AreIndicesBelow most on
      → AreIndicesBelow (most + top_page) (after_resize len from n m on)
  indices_after_resize from n m on laid growth h = by (nat_lt m n) (nat_lt n m) refl
    where
      by : (b c : Bool) → nat_lt n m ≡ c
          → AreIndicesBelow (most + top_page)
          (cond b (after_unmap (from + m) (from + n) on) (cond c (after_grow len (from + m) (on (from + n - 1)) on) on))
      by true c is = more (after_unmap (from + m) (from + n) on) (indices_unmapped most (from + m) (from + n) on laid h)
      by false true is = indices_after_grow (from + n - 1) (from + m) on laid (growth (ltb-true n m is)) h
      by false false is = more on h
