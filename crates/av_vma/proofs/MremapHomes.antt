-- What a move and a growth of areas keep of the homes that frames have from pages; and that nothing is where nothing was, nor where a range stood.
use Rattle.std.proofs.Common.{◌≡◌, ℕ, zero, suc, ◌+◌, ◌-◌, ◌*◌, ◌/◌, ◌^◌, ◌<◌, ◌≤◌, inl, inr, min, nat_lt, Bool, true, false, cond, Option, Some, None, is_some, option_map, refl, sym, ap, subst, ◌∙◌, arith}
use Rattle.std.proofs.lemmas.Bool.{cases_lt, false≢true, ltb-true}
use Rattle.std.proofs.lemmas.Option.{none-some}
use Rattle.av_base.specs.Limits.{top_page}
use Rattle.av_base.specs.Words.{within}
use Rattle.av_vma.specs.declared.area.Area.{Area}
use Rattle.av_vma.specs.Index.{first_of, index_of, past_of}
use Rattle.av_vma.specs.Mremap.{IsGrowth, IsMove, after_grow, after_move, after_resize, grown_to, joined_over, moved_area, moved_range}
use Rattle.av_vma.specs.Pages.{AreLaid, Lengths, Pages, after_unmap, split_at, has_page, home_of, joined_around, joined_at, with_area, without_range}
use Rattle.av_vma.proofs.Split.{laid_split, laid_unmapped}
use Rattle.av_vma.proofs.Homes.{KeepsHomes, homes_around, homes_split, homes_joined, homes_unmapped, keeps_both}
use Rattle.av_vma.proofs.Join.{laid_joined, joined_pages, tried_is}
use Rattle.av_vma.proofs.Laid.{has_parts}
use Rattle.av_vma.proofs.Mremap.{IsLast, IsReady, at_target, carried, elsewhere, ends_there, free_above, grown_pages, growing, inside, is_in_range, laid_carried, laid_with_range, laid_growth, last_there, out_of_range, parts, ready, with_end}

-- ---- boundaries in turn

module _ (len : Lengths) where
  pub homes_over : (at n : ℕ) (on : Pages) → AreLaid on → KeepsHomes on (joined_over len at n on)
  homes_over at zero on laid page home is = is
  homes_over at (suc n) on laid page home is = homes_over (suc at) n (joined_at len at on) (laid_joined len at on laid) page home
      (homes_joined len at on laid page home is)

  -- a free page stays so
  pub none_joined : (at : ℕ) (on : Pages) → AreLaid on → (page : ℕ) → on page ≡ None → joined_at len at on page ≡ None
  none_joined at on laid page none = elim (tried_is len at page on) [
    | inr k ↦ k.is ∙ none
    | inl t ↦ elim (joined_pages len t.left t.right (laid.whole (at - 1) t.left t.before) (laid.whole at t.right t.after) t.joins page t.here) [
      | inl has ↦ absurd (none-some t.left (sym none ∙ laid.all (at - 1) page t.left t.before has))
      | inr has ↦ absurd (none-some t.right (sym none ∙ laid.all at page t.right t.after has))
    ]
  ]

  pub none_over : (at n : ℕ) (on : Pages) → AreLaid on → (page : ℕ) → on page ≡ None → joined_over len at n on page ≡ None
  none_over at zero on laid page none = none
  none_over at (suc n) on laid page none =
      none_over (suc at) n (joined_at len at on) (laid_joined len at on laid) page (none_joined at on laid page none)

-- ---- pages move

-- where one page of one state has a home another page of another has it
abbrev pub HomeGoes : Pages → ℕ → Pages → ℕ → Type 0
HomeGoes on page on' page' = (home : ℕ × ℕ) → home_of page (on page) ≡ Some home → home_of page' (on' page') ≡ Some home

module _ (from n k to : ℕ) (on : Pages) (r : IsReady from n k to on) where
  -- an area that has an own anon_vma keeps its pages' linear indices
  index_carried : (page own : ℕ) (area : Area) → from ≤ first_of area → to ≤ page → first_of area ≤ from + (page - to) → area.anon ≡ Some own
      → index_of (moved_area from to area) page ≡ index_of area (from + (page - to))
  index_carried page own area first least low e =
      ap (λ o. (page - (4096 * (first_of area + to - from)) / 4096) + cond (is_some o) area.pgoff (first_of area + to - from)) e ∙ omega arith

  home_carried : (page : ℕ) (area : Area) (home : ℕ × ℕ) → from ≤ first_of area → to ≤ page → first_of area ≤ from + (page - to)
      → home_of (from + (page - to)) (Some area) ≡ Some home → home_of page (Some (moved_area from to area)) ≡ Some home
  home_carried page area home first least low is = by area.anon refl is
    where
      by : (own : Option ℕ) → area.anon ≡ own → option_map (λ own. (own, index_of area (from + (page - to)))) own ≡ Some home
          → option_map (λ own. (own, index_of (moved_area from to area) page)) own ≡ Some home
      by None e is = is
      by (Some own) e is = ap (λ i. Some (own, i)) (index_carried page own area first least low e) ∙ is

  -- a page of the new range has the home that it had in the old one
  pub home_moved : (page : ℕ) → to ≤ page → page < to + k → HomeGoes on (from + (page - to)) (moved_range from n k to on) page
  home_moved page least most home is = ap (home_of page) (at_target from n k to on r page least most) ∙ by (on (from + (page - to))) refl is
    where
      by : (o : Option Area) → on (from + (page - to)) ≡ o → home_of (from + (page - to)) o ≡ Some home
          → home_of page (option_map (moved_area from to) o) ≡ Some home
      by None e is = is
      by (Some area) e is =
          let w = inside from n k to on r (from + (page - to)) area e (omega arith) (omega arith) in
          home_carried page area home w.first least (has_parts area (from + (page - to)) (r.laid.here (from + (page - to)) area e)).0 is

  -- and one of neither range keeps its home
  pub home_beside : (page : ℕ) → within to k page ≡ false → within from (from + n - from) page ≡ false
      → HomeGoes on page (moved_range from n k to on) page
  home_beside page out gone home is = ap (home_of page) (elsewhere from n k to on r page out gone) ∙ is

  -- nothing is left where the range stood
  pub none_left : (page : ℕ) → from ≤ page → page < from + n → moved_range from n k to on page ≡ None
  none_left page least most =
      ap (λ b. cond b (option_map (moved_area from to) (on (from + (page - to)))) (without_range from (from + n) on page))
      (out_of_range to k page (λ low high. elim r.apart [ inl e ↦ omega arith | inr e ↦ omega arith ]))
      ∙ ap (λ b. cond b None (on page)) (is_in_range from (from + n - from) page least (omega arith))

-- ---- an area grows

module _ (page past : ℕ) (area : Area) (on : Pages) (laid : AreLaid on) (is : on page ≡ Some area) (more : past_of area ≤ past)
    (high : past ≤ top_page)
    (free : (other : ℕ) → past_of area ≤ other → other < past → on other ≡ None) (small : area.pgoff + (past - first_of area) ≤ 2 ^ 60) where
  -- a page that it had keeps its home, and so do all others
  pub homes_grown : KeepsHomes on (with_area (with_end past area) on)
  homes_grown other home has_home = by (has_page (with_end past area) other) refl
    where
      by : (b : Bool) → has_page (with_end past area) other ≡ b → home_of other (cond b (Some (with_end past area)) (on other)) ≡ Some home
      by false h = has_home
      by true h = elim (grown_pages page past area on laid is more high free small other h) [
        | inl has ↦ sym (ap (home_of other) (laid.all page other area is has)) ∙ has_home
        | inr none ↦ absurd (none-some home (sym (ap (home_of other) none) ∙ has_home))
      ]

  -- a free page stays so, but for those by which it grows
  pub none_grown : (other : ℕ) → (past_of area ≤ other → other < past → ⊥) → on other ≡ None → with_area (with_end past area) on other ≡ None
  none_grown other out none = by (has_page (with_end past area) other) refl
    where
      has_below : (other : ℕ) → other < past_of area → first_of area ≤ other → has_page area other ≡ true
      has_below other below low = is_in_range (first_of area) (past_of area - first_of area) other low (omega arith)

      high_of : (other : ℕ) → other < (4096 * past) / 4096 → other < past
      high_of other h = omega arith

      by : (b : Bool) → has_page (with_end past area) other ≡ b → cond b (Some (with_end past area)) (on other) ≡ None
      by false h = none
      by true h = elim (grown_pages page past area on laid is more high free small other h) [
        | inl has ↦ absurd (none-some area (sym none ∙ laid.all page other area is has))
        | inr _ ↦
            let ends = has_parts (with_end past area) other h in
            elim (cases_lt other (past_of area)) [
              | inl below ↦ absurd (none-some area (sym none ∙ laid.all page other area is (has_below other below ends.0)))
              | inr above ↦ absurd (out above (high_of other ends.1))
            ]
      ]

-- ---- an area grows in place

module _ (len : Lengths) (last past : ℕ) (on : Pages) (laid : AreLaid on) (g : IsGrowth last past on) where
  -- what is asked of the area that grows
  abbrev grows : Area
  grows = (growing last past on laid g).area

  grows_is : on last ≡ Some grows
  grows_is = (growing last past on laid g).is

  ends : past_of grows ≡ last + 1
  ends = ends_there last past on laid g grows grows_is

  stays_small : grows.pgoff + (past - first_of grows) ≤ 2 ^ 60
  stays_small =
      let so = (growing last past on laid g).so in
      let low = (has_parts grows last (laid.here last grows grows_is)).0 in
      let more = g.more in
      omega arith

  is_more : past_of grows ≤ past
  is_more = let more = g.more in let end = ends in omega arith

  is_free : (other : ℕ) → past_of grows ≤ other → other < past → on other ≡ None
  is_free other least most = let end = ends in free_above last past on laid g other (omega arith) most

  abbrev longer : Pages
  longer = with_area (with_end past grows) on

  pub homes_after_grow : KeepsHomes on (after_grow len past (on last) on)
  homes_after_grow = subst (λ o. KeepsHomes on (after_grow len past o on)) (sym grows_is)
      (keeps_both on longer (joined_around len (first_of grows) past longer)
      (homes_grown last past grows on laid grows_is is_more g.high is_free stays_small)
      (homes_around len (first_of grows) past longer (laid_growth last past on laid g grows grows_is)))

-- n pages become m where they are: all but those past the m keep their homes
module _ (len : Lengths) (from n m : ℕ) (on : Pages) (laid : AreLaid on) (growth : n < m → IsGrowth (from + n - 1) (from + m) on) where
  pub homes_after_resize : (page : ℕ) → within (from + m) (n - m) page ≡ false → HomeGoes on page (after_resize len from n m on) page
  homes_after_resize page stays home is = by (nat_lt m n) (nat_lt n m) refl refl
    where
      width : from + n - (from + m) ≡ n - m
      width = omega arith

      by : (b c : Bool) → nat_lt m n ≡ b → nat_lt n m ≡ c
          → home_of page ((cond b (after_unmap (from + m) (from + n) on) (cond c (after_grow len (from + m) (on (from + n - 1)) on) on))
          page) ≡ Some home
      by true c e f = homes_unmapped (from + m) (from + n) on laid page (ap (λ k. within (from + m) k page) width ∙ stays) ∙ is
      by false true e f = homes_after_grow len (from + n - 1) (from + m) on laid (growth (ltb-true n m f)) page home is
      by false false e f = is

-- ---- a range moves

module _ (len : Lengths) (from n to m : ℕ) (on : Pages) (laid : AreLaid on) (move : IsMove from n to m on) where
  abbrev stay : ℕ
  stay = min n m

  -- the parts of areas once the target is free, and what moves with them
  abbrev pieces : Pages
  pieces = parts from n to m on laid move

  abbrev gone_over : Pages
  gone_over = carried from n to m on laid move

  laid_clear : AreLaid (after_unmap to (to + m) on)
  laid_clear = laid_unmapped to (to + m) on laid

  pieces_ready : IsReady from n stay to pieces
  pieces_ready = ready from n to m on laid move

  home_pieces : (page : ℕ) → within to m page ≡ false → home_of page (pieces page) ≡ home_of page (on page)
  home_pieces page out =
      let once = split_at from (after_unmap to (to + m) on) in
      let twice = split_at (from + stay) once in
      homes_split (from + n) twice (laid_split (from + stay) once (laid_split from (after_unmap to (to + m) on) laid_clear)) page
      ∙ homes_split (from + stay) once (laid_split from (after_unmap to (to + m) on) laid_clear) page
      ∙ homes_split from (after_unmap to (to + m) on) laid_clear page
      ∙ homes_unmapped to (to + m) on laid page (ap (λ k. within to k page) width ∙ out)
    where
      width : to + m - to ≡ m
      width = omega arith

  -- the last of them fills the new range
  abbrev last : Area
  last = (last_there from n to m on laid move).area

  last_is : gone_over (to + stay - 1) ≡ Some last
  last_is = (last_there from n to m on laid move).is

  so : IsLast from n to m on laid move last
  so = (last_there from n to m on laid move).so

  last_more : past_of last ≤ to + m
  last_more = let end = so.ends in omega arith

  abbrev with_range : Pages
  with_range = with_area (with_end (to + m) last) gone_over

  with_range_is : grown_to (to + m) (gone_over (to + stay - 1)) gone_over ≡ with_range
  with_range_is = ap (λ o. grown_to (to + m) o gone_over) last_is

  laid_full : AreLaid with_range
  laid_full = subst AreLaid with_range_is (laid_with_range from n to m on laid move)

  laid_gone : AreLaid gone_over
  laid_gone = laid_carried from n to m on laid move

  homes_with_range : KeepsHomes gone_over with_range
  homes_with_range = homes_grown (to + stay - 1) (to + m) last gone_over laid_gone last_is last_more move.high so.free so.small

  homes_last : KeepsHomes gone_over (after_move len from n to m on)
  homes_last = subst (λ x. KeepsHomes gone_over (joined_over len to (suc m) x)) (sym with_range_is)
      (keeps_both gone_over with_range (joined_over len to (suc m) with_range) homes_with_range (homes_over len to (suc m) with_range laid_full))

  -- a page of the new range has the home that it had in the old one
  pub home_after_move : (page : ℕ) → to ≤ page → page < to + stay → HomeGoes on (from + (page - to)) (after_move len from n to m on) page
  home_after_move page least most home is = homes_last page home
      (home_moved from n stay to pieces pieces_ready page least most home (home_pieces (from + (page - to)) out ∙ is))
    where
      out : within to m (from + (page - to)) ≡ false
      out = out_of_range to m (from + (page - to)) (λ low high. elim move.apart [ inl e ↦ omega arith | inr e ↦ omega arith ])

  -- and one of neither range keeps its home
  pub home_not_moved : (page : ℕ) → within to m page ≡ false → within from n page ≡ false → HomeGoes on page (after_move len from n to m on) page
  home_not_moved page out gone home is = homes_last page home
      (home_beside from n stay to pieces pieces_ready page (less page out) (ap (λ k. within from k page) width ∙ gone) home
      (home_pieces page out ∙ is))
    where
      width : from + n - from ≡ n
      width = omega arith

      less : (page : ℕ) → within to m page ≡ false → within to stay page ≡ false
      less page out = out_of_range to stay page (λ low high. absurd (false≢true (sym out ∙ is_in_range to m page low (omega arith))))

  -- nothing is left where the range stood
  pub none_after_move : (page : ℕ) → from ≤ page → page < from + n → after_move len from n to m on page ≡ None
  none_after_move page least most = ap (λ x. joined_over len to (suc m) x page) with_range_is
      ∙ none_over len to (suc m) with_range laid_full page
      (none_grown (to + stay - 1) (to + m) last gone_over laid_gone last_is last_more move.high so.free so.small page
      (λ low high. let end = so.ends in let some = move.some in let more = move.more in elim move.apart [ inl e ↦ omega arith | inr e ↦ omega arith ])
      (none_left from n stay to pieces pieces_ready page least most))
