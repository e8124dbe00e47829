-- The protections and flags of pages, through splits and joins, where an area gets another anon_vma, and where a range of areas moves or grows.
use Rattle.std.proofs.Common.{◌≡◌, ℕ, zero, suc, ◌+◌, ◌-◌, ◌*◌, ◌/◌, ◌^◌, ◌<◌, ◌≤◌, inl, inr, min, Bool, true, false, cond, Option, Some, None, option_map, refl, sym, ap, subst, ◌∙◌, arith}
use Rattle.std.proofs.lemmas.Bool.{cases_lt, false≢true}
use Rattle.av_base.specs.Words.{within}
use Rattle.av_base.specs.declared.flags.Flags.{Flags}
use Rattle.av_base.specs.declared.prot.Prot.{Prot}
use Rattle.av_vma.specs.declared.area.Area.{Area}
use Rattle.av_vma.specs.Gap.{IsRoom}
use Rattle.av_vma.specs.Index.{first_of, index_of, past_of}
use Rattle.av_vma.specs.Mremap.{IsGrowth, IsMove, after_grow, after_move, grown_to, joined_over, moved_area}
use Rattle.av_vma.specs.Pages.{AreLaid, Lengths, Pages, after_map, after_unmap, split_at, fresh_area, has_page, joined_around, joined_at, part_of, with_area}
use Rattle.av_vma.proofs.Split.{of_part}
use Rattle.av_vma.proofs.Join.{join_is, laid_joined, joined_pages, tried_is}
use Rattle.av_vma.proofs.Laid.{fresh_has, has_area, has_from, has_parts, laid_fresh}
use Rattle.av_vma.proofs.Mremap.{IsLast, IsThere, at_target, carried, elsewhere, ends_there, growing, is_in_range, laid_carried, laid_with_range, laid_growth, last_there, out_of_range, parts, ready, with_end}

-- what is said of an area's pages: their protection and their flags
abbrev pub area_marks : Area → Prot × Flags
area_marks area = (area.prot, area.flags)

-- and so of a page, where it has an area
abbrev pub marks : Pages → ℕ → Option (Prot × Flags)
marks on page = option_map area_marks (on page)

-- ---- split and join

-- a part has the protection of its area
pub marks_split : (at : ℕ) (on : Pages) (page : ℕ) → marks (split_at at on) page ≡ marks on page
marks_split at on page = by (on page)
  where
    by : (o : Option Area) → option_map area_marks (option_map (part_of at page) o) ≡ option_map area_marks o
    by None = refl
    by (Some area) = ap Some (of_part at page area area_marks refl refl)

pub marks_unmapped : (from past : ℕ) (on : Pages) (page : ℕ) → within from (past - from) page ≡ false
    → marks (after_unmap from past on) page ≡ marks on page
marks_unmapped from past on page stays = ap (λ b. option_map area_marks (cond b None (split_at past (split_at from on) page))) stays
    ∙ marks_split past (split_at from on) page ∙ marks_split from on page

module _ (len : Lengths) where
  -- a join keeps each page's protection
  pub marks_joined : (at : ℕ) (on : Pages) → AreLaid on → (page : ℕ) → marks (joined_at len at on) page ≡ marks on page
  marks_joined at on laid page = elim (tried_is len at page on) [
    | inr k ↦ ap (option_map area_marks) k.is
    | inl t ↦
        let l = laid.whole (at - 1) t.left t.before in
        let r = laid.whole at t.right t.after in
        elim (joined_pages len t.left t.right l r t.joins page t.here) [
          | inl h ↦ ap (option_map area_marks) t.is ∙ sym (ap (option_map area_marks) (laid.all (at - 1) page t.left t.before h))
          | inr h ↦ ap (option_map area_marks) t.is ∙ ap Some (let j = join_is len t.left t.right t.joins in let e : area_marks t.left ≡ area_marks t.right = λ i. (j.prot i, j.flags i) in e)
              ∙ sym (ap (option_map area_marks) (laid.all at page t.right t.after h))
        ]
  ]

  pub marks_over : (at n : ℕ) (on : Pages) → AreLaid on → (page : ℕ) → marks (joined_over len at n on) page ≡ marks on page
  marks_over at zero on laid page = refl
  marks_over at (suc n) on laid page = marks_over (suc at) n (joined_at len at on) (laid_joined len at on laid) page ∙ marks_joined at on laid page

  pub marks_around : (from past : ℕ) (on : Pages) → AreLaid on → (page : ℕ) → marks (joined_around len from past on) page ≡ marks on page
  marks_around from past on laid page = marks_joined past (joined_at len from on) (laid_joined len from on laid) page ∙ marks_joined from on laid page

-- ---- map

-- the pages that are mapped have the protection, and all others keep theirs
pub marks_mapped : (len : Lengths) (p from past : ℕ) (prot : Prot) (flags : Flags) (on : Pages) → AreLaid on → from < past → IsRoom (has_area on) (past - from) from
    → (page : ℕ)
    → marks (after_map len p from past prot flags on) page ≡ cond (within from (past - from) page) (Some (prot, flags)) (marks on page)
marks_mapped len p from past prot flags on laid some room page =
    marks_around len from past (with_area (fresh_area p from past prot flags) on) (laid_fresh p from past prot flags on some room laid) page
    ∙ ap (λ b. option_map area_marks (cond b (Some (fresh_area p from past prot flags)) (on page))) (fresh_has p from past prot flags page)
    ∙ by (within from (past - from) page)
  where
    by : (b : Bool) → option_map area_marks (cond b (Some (fresh_area p from past prot flags)) (on page)) ≡ cond b (Some (prot, flags)) (marks on page)
    by true = refl
    by false = refl

-- ---- another anon_vma

-- an area with another anon_vma has its protection
pub marks_with_own : (page : ℕ) (area : Area) (own : Option ℕ) (on : Pages) → AreLaid on → on page ≡ Some area
    → (other : ℕ) → marks (with_area (record area { anon = own }) on) other ≡ marks on other
marks_with_own page area own on laid is other = by (has_page area other) refl
  where
    by : (b : Bool) → has_page area other ≡ b → option_map area_marks (cond b (Some (record area { anon = own })) (on other)) ≡ marks on other
    by true h = sym (ap (option_map area_marks) (laid.all page other area is h))
    by false h = refl

-- ---- an area grows

-- the pages by which it grows have its protection
module _ (last past : ℕ) (area : Area) (on : Pages) (laid : AreLaid on) (is : on last ≡ Some area) where
  pub marks_longer : (page : ℕ) → past_of area ≤ page → page < past → marks (with_area (with_end past area) on) page ≡ Some (area_marks area)
  marks_longer page low high = ap (λ b. option_map area_marks (cond b (Some (with_end past area)) (on page)))
      (has_from (with_end past area) page (let some = (laid.whole last area is).some in omega arith) (omega arith))

  -- and all others the one that they had
  pub marks_not_longer : (page : ℕ) → (past_of area ≤ page → page < past → ⊥) → marks (with_area (with_end past area) on) page ≡ marks on page
  marks_not_longer page out = by (has_page (with_end past area) page) refl
    where
      by : (b : Bool) → has_page (with_end past area) page ≡ b → option_map area_marks (cond b (Some (with_end past area)) (on page)) ≡ marks on page
      by false h = refl
      by true h =
          let ends = has_parts (with_end past area) page h in
          elim (cases_lt page (past_of area)) [
            | inl below ↦ sym (ap (option_map area_marks) (laid.all last page area is (has_from area page ends.0 below)))
            | inr above ↦ absurd (out above (high ends.1))
          ]
        where
          high : page < (4096 * past) / 4096 → page < past
          high h = omega arith

module _ (len : Lengths) (last past : ℕ) (on : Pages) (laid : AreLaid on) (g : IsGrowth last past on) where
  grows : IsThere (on last) (λ area. index_of area last + (past - last) ≤ 2 ^ 60)
  grows = growing last past on laid g

  ends : past_of grows.area ≡ last + 1
  ends = ends_there last past on laid g grows.area grows.is

  grown : (page : ℕ) → marks (after_grow len past (on last) on) page ≡ marks (with_area (with_end past grows.area) on) page
  grown page = ap (λ o. marks (after_grow len past o on) page) grows.is
      ∙ marks_around len (first_of grows.area) past (with_area (with_end past grows.area) on)
      (laid_growth last past on laid g grows.area grows.is) page

  pub marks_grown : (page : ℕ) → last < page → page < past → marks (after_grow len past (on last) on) page ≡ marks on last
  marks_grown page low high = grown page ∙ marks_longer last past grows.area on laid grows.is page (let end = ends in omega arith) high
      ∙ sym (ap (option_map area_marks) grows.is)

  pub marks_not_grown : (page : ℕ) → (last < page → page < past → ⊥) → marks (after_grow len past (on last) on) page ≡ marks on page
  marks_not_grown page out = grown page
      ∙ marks_not_longer last past grows.area on laid grows.is page (λ low high. out (let end = ends in omega arith) high)

-- ---- a range moves

module _ (len : Lengths) (from n to m : ℕ) (on : Pages) (laid : AreLaid on) (move : IsMove from n to m on) where
  abbrev stay : ℕ
  stay = min n m

  abbrev pieces : Pages
  pieces = parts from n to m on laid move

  abbrev gone_over : Pages
  gone_over = carried from n to m on laid move

  marks_pieces : (page : ℕ) → within to m page ≡ false → marks pieces page ≡ marks on page
  marks_pieces page out =
      let clear = after_unmap to (to + m) on in
      marks_split (from + n) (split_at (from + stay) (split_at from clear)) page ∙ marks_split (from + stay) (split_at from clear) page
      ∙ marks_split from clear page
      ∙ marks_unmapped to (to + m) on page (ap (λ k. within to k page) width ∙ out)
    where
      width : to + m - to ≡ m
      width = omega arith

  last : IsThere (gone_over (to + stay - 1)) (IsLast from n to m on laid move)
  last = last_there from n to m on laid move

  abbrev with_range : Pages
  with_range = with_area (with_end (to + m) last.area) gone_over

  with_range_is : grown_to (to + m) (gone_over (to + stay - 1)) gone_over ≡ with_range
  with_range_is = ap (λ o. grown_to (to + m) o gone_over) last.is

  after : (page : ℕ) → marks (after_move len from n to m on) page ≡ marks with_range page
  after page = ap (λ x. marks (joined_over len to (suc m) x) page) with_range_is
      ∙ marks_over len to (suc m) with_range (subst AreLaid with_range_is (laid_with_range from n to m on laid move)) page

  not_filled : (page : ℕ) → (to + stay ≤ page → page < to + m → ⊥) → marks (after_move len from n to m on) page ≡ marks gone_over page
  not_filled page out = after page
      ∙ marks_not_longer (to + stay - 1) (to + m) last.area gone_over (laid_carried from n to m on laid move) last.is page
      (λ low high. out (let end = last.so.ends in omega arith) high)

  at_new : (page : ℕ) → to ≤ page → page < to + stay → marks gone_over page ≡ marks on (from + (page - to))
  at_new page least most = ap (option_map area_marks) (at_target from n stay to pieces (ready from n to m on laid move) page least most)
      ∙ same (pieces (from + (page - to)))
      ∙ marks_pieces (from + (page - to))
      (out_of_range to m (from + (page - to)) (λ low high. elim move.apart [ inl e ↦ omega arith | inr e ↦ omega arith ]))
    where
      same : (o : Option Area) → option_map area_marks (option_map (moved_area from to) o) ≡ option_map area_marks o
      same None = refl
      same (Some area) = refl

  -- a page of the new range has the protection that it had in the old one
  pub marks_moved : (page : ℕ) → to ≤ page → page < to + stay → marks (after_move len from n to m on) page ≡ marks on (from + (page - to))
  marks_moved page least most = not_filled page (λ low high. omega arith) ∙ at_new page least most

  -- past what came, that of the last page that did
  pub marks_filled : (page : ℕ) → to + stay ≤ page → page < to + m → marks (after_move len from n to m on) page ≡ marks on (from + stay - 1)
  marks_filled page low high = after page
      ∙ marks_longer (to + stay - 1) (to + m) last.area gone_over (laid_carried from n to m on laid move) last.is page
      (let end = last.so.ends in omega arith) high
      ∙ sym (ap (option_map area_marks) last.is)
      ∙ at_new (to + stay - 1) (let some = move.some in let more = move.more in omega arith)
      (let some = move.some in let more = move.more in omega arith)
      ∙ ap (marks on) back
    where
      back : from + (to + stay - 1 - to) ≡ from + stay - 1
      back = let some = move.some in let more = move.more in omega arith

  -- and one of neither range keeps its own
  pub marks_outside : (page : ℕ) → within to m page ≡ false → within from n page ≡ false → marks (after_move len from n to m on) page ≡ marks on page
  marks_outside page out gone = not_filled page (λ low high. absurd (false≢true (sym out ∙ is_in_range to m page (omega arith) high)))
      ∙ ap (option_map area_marks) (elsewhere from n stay to pieces (ready from n to m on laid move) page (less page out)
      (ap (λ k. within from k page) width ∙ gone))
      ∙ marks_pieces page out
    where
      width : from + n - from ≡ n
      width = omega arith

      less : (page : ℕ) → within to m page ≡ false → within to stay page ≡ false
      less page out = out_of_range to stay page (λ low high. absurd (false≢true (sym out ∙ is_in_range to m page low (omega arith))))
