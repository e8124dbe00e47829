-- Areas that stand on other pages and areas that grow, in the tree and by number.
use Rattle.std.proofs.Common.{◌≡◌, ℕ, suc, ◌+◌, ◌-◌, ◌*◌, ◌/◌, ◌^◌, ◌<◌, ◌≤◌, ◌⊎◌, inl, inr, min, Bool, true, false, cond, List, Option, Some, None, is_some, option_map, IsSomeAnd, refl, sym, ap, subst, ◌∙◌, arith}
use Rattle.std.specs.Prelude.{option_and_then}
use Rattle.std.proofs.lemmas.Bool.{both_ways, cases_lt, eq-eqb, false_from_ne_true}
use Rattle.std.proofs.lemmas.Option.{same_Some}
use Rattle.av_base.specs.Limits.{low_page, top_page}
use Rattle.av_base.specs.Words.{with_at, within}
use Rattle.av_interval.specs.declared.span.Span as interval
use Rattle.av_vma.specs.declared.area.Area.{Area}
use Rattle.av_vma.specs.Index.{first_of, past_of}
use Rattle.av_vma.specs.Mremap.{IsGrowth, IsMove, after_grow, after_move, grown_to, joined_over, moved_area, moved_range}
use Rattle.av_vma.specs.Pages.{AreLaid, IsWhole, Lengths, Pages, has_page, joined_around, joined_at, with_area, without_range}
use Rattle.av_vma.proofs.Mremap.{IsLast, carried, ends_there, with_range, with_range_mapped, with_range_upper, growing, joined_some, joined_starts, last_there, moved_more, out_of_range, shortened, shortened_free, shortened_lower, shortened_mapped, shortened_moves, shortened_upper, skipped, starts_past, whole_elsewhere, with_end}
use Rattle.av_vma.proofs.Laid.{has_from, has_parts}
use Rattle.av_anon.specs.Anons.{Family, own_of}
use Rattle.av_anon.specs.Order.{IsInOrder}
use Rattle.av_anon.specs.Spans.{span_at}
use Rattle.av_anon.proofs.Words.{with_at-here, with_at-twice}
use Rattle.av_vmatree.specs.declared.span.Span.{Span}
use Rattle.av_vmatree.specs.Spans.{AreSpans, IsFree, area_at, is_page_taken, span, span_of, unless_area, without_area}
use Rattle.av_merge.specs.Kin.{KeepsKin}
use Rattle.av_merge.specs.Pages.{pages_by}
use Rattle.av_merge.specs.Process.{AreAreasOf, IsAreaOf, NoneCrosses, Stays}
use Rattle.av_merge.proofs.SplittingLaws.{IsFound, found, none_from, none_starts}
use Rattle.av_merge.proofs.Kin.{keeps_bare, keeps_fields}
use Rattle.av_merge.proofs.Lengths.{AreAlike, around_later, over_alike}
use Rattle.av_merge.proofs.PlacingMaps.{laid_of}
use Rattle.av_merge.proofs.PlacingLaws.{at_rest, at_span, holds_is, one_area, others_refl, pages_without, put_others, put_pages, put_stands, stays_trans, take_others, take_pages, take_stands, taken_is}

-- ---- an area stands elsewhere

module _ (p n from to : ℕ) (areas : ℕ → Option Area) (spans : List Span) (area : Area) (stands : AreAreasOf p areas spans)
    (is : areas n ≡ Some area) (there : area_at spans (first_of area) ≡ Some n) (first : from ≤ first_of area) (low : low_page ≤ to)
    (high : past_of area + to - from ≤ top_page) (target : Area) (made : target ≡ moved_area from to area) where
  place : IsFound p n (first_of area) areas spans area
  place = found p n (first_of area) areas spans area stands there is

  pub begins : IsSomeAnd (span_of spans n) (λ s. s.from ≡ first_of area)
  begins = subst (λ o. IsSomeAnd o (λ s. s.from ≡ first_of area)) (sym place.span_is) place.is.from

  pub whole_target : IsWhole target
  whole_target = subst IsWhole (sym made) (whole_elsewhere from to area place.is.whole first low high)

  same_own : target.anon ≡ area.anon
  same_own = ap (λ (a : Area). a.anon) made

  same_span : (own : ℕ) → area.anon ≡ Some own → span_at n target ≡ span_at n area
  same_span own e =
      let some = place.is.whole.some in
      let offset : cond (is_some area.anon) area.pgoff (first_of area + to - from) ≡ area.pgoff
      = ap (λ o. cond (is_some o) area.pgoff (first_of area + to - from)) e in
      let wide : (4096 * (past_of area + to - from)) / 4096 -
      (4096 * (first_of area + to - from)) / 4096 ≡ past_of area - first_of area = omega arith in
      ap (span_at n) made ∙ (λ i. record { first = offset i; last = wide i + offset i - 1; area = n })

  -- its own anon_vma and its spans are the same
  pub keeps_elsewhere : (areas' : ℕ → Option Area) (f : Family) (trees : ℕ → List interval.Span) → IsInOrder areas f trees
      → ((k : ℕ) → areas' k ≡ with_at n (Some target) areas k) → KeepsKin areas areas' f f trees
  keeps_elsewhere areas' f trees o now = by area.anon refl
    where
      by : (own : Option ℕ) → area.anon ≡ own → KeepsKin areas areas' f f trees
      by None e = keeps_bare areas areas' f trees n o (Some target) (ap own_of is ∙ e) (same_own ∙ e)
          (λ A h. subst IsWhole (same_Some target A h) whole_target) now
      by (Some own) e = keeps_fields areas areas' f trees n o area target is same_own (same_span own e) whole_target now

  -- without it
  module _ (out : List Span) (kept_out : AreSpans out) (spans_out : (k : ℕ) → span_of out k ≡ with_at n None (span_of spans) k)
      (pages_out : (page : ℕ) → area_at out page ≡ unless_area n (area_at spans page)) where
    abbrev rest : ℕ → Option Area
    rest = with_at n None areas

    stays_out : (bare : ℕ → Option Area) → ((k : ℕ) → bare k ≡ with_at n None areas k) → Stays p areas bare out
    stays_out bare now = record {
      areas = take_stands p n place.span areas bare spans out stands place.span_is now kept_out spans_out pages_out;
      others = take_others p n place.span areas bare spans out stands place.span_is now kept_out spans_out pages_out;
    }

    -- it was changed, and taken out then
    pub stays_gone : (mid bare : ℕ → Option Area) → ((k : ℕ) → mid k ≡ with_at n (Some target) areas k) → ((k : ℕ) → bare k ≡ with_at n None mid k)
        → Stays p areas bare out
    stays_gone mid bare changed gone =
        stays_out bare (λ k. gone k ∙ (λ i. with_at n None (λ q. changed q i) k) ∙ with_at-twice n None (Some target) areas k)

    -- it stands on other pages
    module _ (areas' : ℕ → Option Area) (spans' : List Span) (now : (k : ℕ) → areas' k ≡ with_at n (Some target) areas k) (kept : AreSpans spans')
        (spans_now : (k : ℕ) → span_of spans' k ≡ with_at n (Some (span n (first_of target) (past_of target))) (span_of out) k)
        (pages_now : (page : ℕ) → area_at spans' page
        ≡ cond (within (first_of target) (past_of target - first_of target) page) (Some n) (area_at out page)) where
      back : (k : ℕ) → areas' k ≡ with_at n (Some target) rest k
      back k = now k ∙ sym (with_at-twice n (Some target) None areas k)

      is_target : IsAreaOf p (span n (first_of target) (past_of target)) target
      is_target = record { process = process; whole = whole_target; from = refl; to = refl }
        where
          process : target.pid ≡ p
          process = ap (λ (a : Area). a.pid) made ∙ place.is.process

      pub stays_elsewhere : Stays p areas areas' spans'
      stays_elsewhere =
          let gone = stays_out rest (λ k. refl) in
          stays_trans p areas rest areas' out spans' gone (record {
            areas = put_stands p n (span n (first_of target) (past_of target)) target rest areas' out spans' gone.areas
                (with_at-here n None areas) is_target back kept spans_now pages_now;
            others = put_others p n (span n (first_of target) (past_of target)) target rest areas' out spans' gone.areas
                (with_at-here n None areas) is_target back kept spans_now pages_now is_target.process;
          })

      pub pages_elsewhere : (page : ℕ) → pages_by areas' spans' page
          ≡ with_area (moved_area from to area) (without_range (first_of area) (past_of area) (pages_by areas spans)) page
      pages_elsewhere page =
          put_pages p n (span n (first_of target) (past_of target)) target rest areas' out spans' (stays_out rest (λ k. refl)).areas
          (with_at-here n None areas) is_target back kept spans_now pages_now page
          ∙ (λ i. with_area (made i) (λ q. without q i) page)
        where
          without : (q : ℕ) → pages_by rest out q ≡ without_range (first_of area) (past_of area) (pages_by areas spans) q
          without q =
              take_pages p n place.span areas rest spans out stands place.span_is (λ k. refl) kept_out spans_out pages_out q
              ∙ pages_without p n place.span areas spans stands place.span_is q
              ∙ ap (λ b. cond b None (pages_by areas spans q)) (holds_is p place.span area q place.is)

-- ---- an area gets longer

none_at : (spans : List Span) (page : ℕ) → is_page_taken spans page ≡ false → area_at spans page ≡ None
none_at spans page = by (area_at spans page)
  where
    by : (o : Option ℕ) → is_some o ≡ false → o ≡ None
    by None e = refl
    by (Some n) e = cc

module _ (p n last past : ℕ) (areas : ℕ → Option Area) (spans : List Span) (area : Area) (stands : AreAreasOf p areas spans)
    (at : area_at spans last ≡ Some n) (is : areas n ≡ Some area) (longer : past_of area ≤ past) where
  where_is : IsFound p n last areas spans area
  where_is = found p n last areas spans area stands at is

  -- its pages are its own or free
  pub grown_free : IsFree (is_page_taken spans) (past_of area) past
      → IsFree (is_page_taken (without_area n spans)) (first_of area) ((4096 * past) / 4096)
  grown_free free page low high =
      ap is_some (at_rest spans n where_is.span page stands.spans_are where_is.span_is)
      ∙ elim (cases_lt page (past_of area)) [
        | inl below ↦
            let from = where_is.is.from in
            let to = where_is.is.to in
            rw (at_span spans n where_is.span page stands.spans_are.apart where_is.span_is (omega arith) (omega arith), eq-eqb n n refl) refl
        | inr above ↦ ap (λ o. is_some (unless_area n o)) (none_at spans page (free page above (omega arith)))
      ]

  -- and it is on all of them
  pub grown_on : (areas' : ℕ → Option Area) (spans' : List Span)
      → ((page : ℕ) → pages_by areas' spans' page ≡ with_area (with_end past area) (pages_by (with_at n None areas) spans) page)
      → (page : ℕ) → pages_by areas' spans' page ≡ grown_to past (pages_by areas spans last) (pages_by areas spans) page
  grown_on areas' spans' now page =
      now page
      ∙ elim (has_page (with_end past area) page) as (λ b. has_page (with_end past area) page ≡ b
      → cond b (Some (with_end past area)) (pages_by (with_at n None areas) spans page) ≡ cond b (Some (with_end past area))
      (pages_by areas spans page)) [
        | true ↦ λ _. refl
        | false ↦ λ out.
            pages_without p n where_is.span areas spans stands where_is.span_is page
            ∙ ap (λ b. cond b None (pages_by areas spans page)) (holds_is p where_is.span area page where_is.is
            ∙ false_from_ne_true (has_page area page) (λ has. both_ways _ out (further page has)))
      ] refl
      ∙ (λ i. grown_to past (here i) (pages_by areas spans) page)
    where
      here : Some area ≡ pages_by areas spans last
      here = sym where_is.here

      further : (page : ℕ) → has_page area page ≡ true → has_page (with_end past area) page ≡ true
      further page has =
          let parts = has_parts area page has in
          let high = parts.1 in
          has_from (with_end past area) page parts.0 (omega arith)

-- one that ends there already is on all of them
pub grown_already : (last past : ℕ) (on : Pages) (area : Area) → AreLaid on → on last ≡ Some area → area.end ≡ 4096 * past
    → (page : ℕ) → on page ≡ grown_to past (on last) on page
grown_already last past on area laid is ends page =
    by (has_page area page) refl
    ∙ (λ i. with_area (record area { end = ends i }) on page)
    ∙ (λ i. grown_to past (sym is i) on page)
  where
    by : (b : Bool) → has_page area page ≡ b → on page ≡ cond b (Some area) (on page)
    by true has = laid.all last page area is has
    by false out = refl

-- where it may grow
module _ (p last past : ℕ) (areas : ℕ → Option Area) (spans : List Span) (stands : AreAreasOf p areas spans)
    (g : IsGrowth last past (pages_by areas spans)) where
  abbrev on : Pages
  on = pages_by areas spans

  laid : AreLaid on
  laid = laid_of p areas spans stands

  abbrev one : Area
  one = (growing last past on laid g).area

  one_is : on last ≡ Some one
  one_is = (growing last past on laid g).is

  ends : past_of one ≡ last + 1
  ends = ends_there last past on laid g one one_is

  pub grow_longer : IsSomeAnd (on last) (λ area. past_of area ≤ past)
  grow_longer = let more = g.more in let end = ends in
      subst (λ o. IsSomeAnd o (λ area. past_of area ≤ past)) (sym one_is) (omega arith)

  pub grow_free : IsSomeAnd (on last) (λ area. IsFree (is_page_taken spans) (past_of area) past)
  grow_free = subst (λ o. IsSomeAnd o (λ area. IsFree (is_page_taken spans) (past_of area) past)) (sym one_is)
      (λ page low high. let end = ends in sym (taken_is p areas spans page stands) ∙ g.free page (omega arith) high)

  pub grow_first : (first : ℕ) → IsSomeAnd (on last) (λ area. first ≡ first_of area) → (0 < first) × (first < past)
  grow_first first h =
      let same : first ≡ first_of one = subst (λ o. IsSomeAnd o (λ area. first ≡ first_of area)) one_is h in
      let low = (laid.whole last one one_is).low in
      let some = (laid.whole last one one_is).some in
      let more = g.more in
      let end = ends in
      (omega arith, omega arith)

  -- it grew, and was joined then
  pub grow_pages : (len len' : Lengths) (first : ℕ) (mid new : Pages) → IsSomeAnd (on last) (λ area. first ≡ first_of area)
      → AreAlike len' len mid → ((page : ℕ) → mid page ≡ grown_to past (on last) on page)
      → ((page : ℕ) → new page ≡ joined_around len' first past mid page) → (page : ℕ) → new page ≡ after_grow len past (on last) on page
  grow_pages len len' first mid new h alike grew joins page =
      let same : first ≡ first_of one = subst (λ o. IsSomeAnd o (λ area. first ≡ first_of area)) one_is h in
      around_later len len' first past mid (grown_to past (on last) on) new alike grew joins page
      ∙ (λ i. joined_around len (same i) past (grown_to past (one_is i) on) page)
      ∙ (λ i. after_grow len past (there i) on page)
    where
      there : Some one ≡ on last
      there = sym one_is

-- ---- boundaries are tried, by rising address

-- a boundary has been tried: the areas are on the same pages, and none lies on both sides of a later one where none did
module _ (p at past : ℕ) (len : Lengths) (areas areas' : ℕ → Option Area) (spans spans' : List Span) (stands : AreAreasOf p areas spans)
    (stands' : AreAreasOf p areas' spans') (now : (page : ℕ) → pages_by areas' spans' page ≡ joined_at len at (pages_by areas spans) page) where
  tried_mapped : (page : ℕ) → is_page_taken spans page ≡ true → is_page_taken spans' page ≡ true
  tried_mapped page some =
      sym (taken_is p areas' spans' page stands') ∙ ap is_some (now page)
      ∙ joined_some len at (pages_by areas spans) page (taken_is p areas spans page stands ∙ some)

  tried_crosses : at < past → NoneCrosses past spans → NoneCrosses past spans'
  tried_crosses below none = none_from p past areas' spans' stands' (λ area e.
      joined_starts len at past (pages_by areas spans) (laid_of p areas spans stands) below (none_starts p past areas spans stands none) area
      (sym (now past) ∙ e))

-- each boundary up to a page has been tried: those that are left make of the pages what all make of the first ones
pub record AreTried (len : Lengths) (from past at : ℕ) (old : ℕ → Option Area) (before : List Span) (areas : ℕ → Option Area)
    (spans : List Span) : Type 0 where
  pub least : from ≤ at
  pub most : at ≤ past
  pub stands : (p : ℕ) → AreAreasOf p old before → Stays p old areas spans
  pub upper : at < past → NoneCrosses past spans
  pub mapped : (page : ℕ) → from ≤ page → page < past → is_page_taken spans page ≡ true
  pub rest : (page : ℕ) → joined_over len (suc at) (past - at) (pages_by areas spans) page
      ≡ joined_over len from (suc (past - from)) (pages_by old before) page

-- the first one
pub tried_first : (len : Lengths) (p from past : ℕ) (old : ℕ → Option Area) (before : List Span) (areas : ℕ → Option Area) (spans : List Span)
    → AreAreasOf p old before → from ≤ past → NoneCrosses past before → ((page : ℕ) → from ≤ page → page < past → is_page_taken before page ≡ true)
    → ((p : ℕ) → AreAreasOf p old before → Stays p old areas spans)
    → ((page : ℕ) → pages_by areas spans page ≡ joined_at len from (pages_by old before) page)
    → AreTried len from past from old before areas spans
tried_first len p from past old before areas spans stands forward upper mapped stays now =
    let stands' = (stays p stands).areas in
    record {
      least = omega arith;
      most = forward;
      stands = stays;
      upper = λ below. tried_crosses p from past len old areas before spans stands stands' now below upper;
      mapped = λ page low high. tried_mapped p from past len old areas before spans stands stands' now page (mapped page low high);
      rest = λ page i. joined_over len (suc from) (past - from) (λ q. now q i) page;
    }

-- the next one is at the end of the area that begins with the last one
module _ (len : Lengths) (p from past at n : ℕ) (old : ℕ → Option Area) (before : List Span) (areas : ℕ → Option Area) (spans : List Span)
    (first : AreAreasOf p old before) (so_far : AreTried len from past at old before areas spans) (more : at < past)
    (area : Area) (there : area_at spans at ≡ Some n) (is : areas n ≡ Some area) where
  mid : AreAreasOf p areas spans
  mid = (so_far.stands p first).areas

  next_is : IsFound p n at areas spans area
  next_is = found p n at areas spans area mid there is

  pub goes_on : at < past_of area
  goes_on = next_is.high

  pub stops : past_of area ≤ past
  stops = elim (cases_lt past (past_of area)) [
    | inr below ↦ below
    | inl above ↦
        let low = next_is.low in
        let here : pages_by areas spans past ≡ Some area = one_area p areas spans at past area mid next_is.here
        (has_from area past (omega arith) above) in
        let start = none_starts p past areas spans mid (so_far.upper more) area here in
        absurd (omega arith)
  ]

  -- the boundaries within it may be passed over
  skip : (page : ℕ) → joined_over len (suc at) (past - at) (pages_by areas spans) page
      ≡ joined_over len (past_of area) (suc (past - past_of area)) (pages_by areas spans) page
  skip page =
      let on = goes_on in
      let off = stops in
      let n_is : past - at ≡ (past_of area - suc at) + suc (past - past_of area) = omega arith in
      let at_is : suc at + (past_of area - suc at) ≡ past_of area = omega arith in
      (λ i. joined_over len (suc at) (n_is i) (pages_by areas spans) page)
      ∙ skipped len (past_of area - suc at) (suc at) (suc (past - past_of area)) (pages_by areas spans) area (laid_of p areas spans mid)
      (λ q low high. let least = next_is.low in one_area p areas spans at q area mid next_is.here
      (has_from area q (omega arith) (omega arith))) page
      ∙ (λ i. joined_over len (at_is i) (suc (past - past_of area)) (pages_by areas spans) page)

  pub tried_next : (areas' : ℕ → Option Area) (spans' : List Span) → ((p : ℕ) → AreAreasOf p areas spans → Stays p areas areas' spans')
      → ((page : ℕ) → pages_by areas' spans' page ≡ joined_at len (past_of area) (pages_by areas spans) page)
      → AreTried len from past (past_of area) old before areas' spans'
  tried_next areas' spans' stays now =
      let stands' = (stays p mid).areas in
      let least = so_far.least in
      let on = goes_on in
      record {
        least = omega arith;
        most = stops;
        stands = λ q h. let one = so_far.stands q h in stays_trans q old areas areas' spans spans' one (stays q one.areas);
        upper = λ below. tried_crosses p (past_of area) past len areas areas' spans spans' mid stands' now below (so_far.upper more);
        mapped = λ page low high. tried_mapped p (past_of area) past len areas areas' spans spans' mid stands' now page (so_far.mapped page low high);
        rest = λ page. (λ i. joined_over len (suc (past_of area)) (past - past_of area) (λ q. now q i) page) ∙ sym (skip page) ∙ so_far.rest page;
      }

-- ---- areas stand elsewhere, one after the other

-- those below a page stand elsewhere, and all else is as it was
pub record AreRelocated (from past to page : ℕ) (old : ℕ → Option Area) (before : List Span) (areas : ℕ → Option Area)
    (spans : List Span) : Type 0 where
  pub least : from ≤ page
  pub most : page ≤ past
  pub stands : (p : ℕ) → AreAreasOf p old before → Stays p old areas spans
  pub starts : (area : Area) → pages_by old before page ≡ Some area → page ≤ first_of area
  pub pages : (q : ℕ) → pages_by areas spans q ≡ moved_range from (page - from) (page - from) to (pages_by old before) q

-- none does yet
pub relocated_none : (p from past to : ℕ) (old : ℕ → Option Area) (before : List Span) → AreAreasOf p old before → from ≤ past
    → NoneCrosses from before
    → AreRelocated from past to from old before old before
relocated_none p from past to old before stands forward lower = record {
  least = omega arith;
  most = forward;
  stands = λ q h. record { areas = h; others = others_refl q old };
  starts = none_starts p from old before stands lower;
  pages = λ q.
      let on = pages_by old before in
      let none : from - from ≡ 0 = omega arith in
      sym (ap (λ b. cond b (option_map (moved_area from to) (on (from + (q - to)))) (without_range from (from + (from - from)) on q))
      (out_of_range to (from - from) q (λ low high. omega arith))
      ∙ ap (λ b. cond b None (on q)) (out_of_range from (from + (from - from) - from) q (λ low high. omega arith)));
}

module _ (p from past to page n : ℕ) (old : ℕ → Option Area) (before : List Span) (areas : ℕ → Option Area) (spans : List Span)
    (first : AreAreasOf p old before) (high : to + (past - from) ≤ top_page) (apart : (to + (past - from) ≤ from) ⊎ (past ≤ to))
    (upper : NoneCrosses past before) (mapped : (page : ℕ) → from ≤ page → page < past → is_page_taken before page ≡ true)
    (free : IsFree (is_page_taken before) to (to + (past - from)))
    (so_far : AreRelocated from past to page old before areas spans) (more : page < past) where
  abbrev old_on : Pages
  old_on = pages_by old before

  stands_now : AreAreasOf p areas spans
  stands_now = (so_far.stands p first).areas

  -- outside of what has moved
  still : (q : ℕ) → (to ≤ q → q < to + (page - from) → ⊥) → (from ≤ q → q < page → ⊥) → pages_by areas spans q ≡ old_on q
  still q out gone =
      let least = so_far.least in
      so_far.pages q
      ∙ ap (λ b. cond b (option_map (moved_area from to) (old_on (from + (q - to)))) (without_range from (from + (page - from)) old_on q))
      (out_of_range to (page - from) q out)
      ∙ ap (λ b. cond b None (old_on q)) (out_of_range from (from + (page - from) - from) q (λ low high. gone low (omega arith)))

  same_here : pages_by areas spans page ≡ old_on page
  same_here = let least = so_far.least in
      still page (λ low high. elim apart [ inl e ↦ omega arith | inr e ↦ omega arith ]) (λ low high. omega arith)

  -- there is a next one
  pub relocated_more : is_page_taken spans page ≡ true
  relocated_more =
      sym (taken_is p areas spans page stands_now) ∙ ap is_some same_here
      ∙ taken_is p old before page first ∙ mapped page so_far.least more

  module _ (area : Area) (there : area_at spans page ≡ Some n) (is : areas n ≡ Some area) where
    was_there : old_on page ≡ Some area
    was_there = sym same_here ∙ ap (option_and_then areas) there ∙ is

    laid_old : AreLaid old_on
    laid_old = laid_of p old before first

    bounds : (first_of area ≡ page) × (page < past_of area)
    bounds =
        let start = so_far.starts area was_there in
        let has = has_parts area page (laid_old.here page area was_there) in
        let low = has.0 in
        (omega arith, has.1)

    pub next_first : from ≤ first_of area
    next_first = let least = so_far.least in let first = bounds.0 in omega arith

    pub next_past : past_of area ≤ past
    next_past = elim (cases_lt past (past_of area)) [
      | inr below ↦ below
      | inl above ↦
          let first' = bounds.0 in
          let here : old_on past ≡ Some area = laid_old.all page past area was_there (has_from area past (omega arith) above) in
          let start = none_starts p past old before first upper area here in
          absurd (omega arith)
    ]

    pub next_on : page < past_of area
    next_on = bounds.1

    pub next_there : area_at spans (first_of area) ≡ Some n
    next_there = ap (area_at spans) bounds.0 ∙ there

    pub next_high : past_of area + to - from ≤ top_page
    next_high = let end = next_past in let least = so_far.least in let wide = next_on in omega arith

    pub next_free : IsFree (is_page_taken spans) (first_of area + to - from) (past_of area + to - from)
    next_free q low less =
        let begin = bounds.0 in
        let end = next_past in
        let wide = next_on in
        let least = so_far.least in
        sym (taken_is p areas spans q stands_now)
        ∙ ap is_some (still q (λ low' high'. omega arith) (λ low' high'. elim apart [ inl e ↦ omega arith | inr e ↦ omega arith ]))
        ∙ taken_is p old before q first
        ∙ free q (omega arith) (omega arith)

    -- the next one stands elsewhere, too
    pub relocated_next : (areas' : ℕ → Option Area) (spans' : List Span) → ((p : ℕ) → AreAreasOf p areas spans → Stays p areas areas' spans')
        → ((q : ℕ) → pages_by areas' spans' q ≡ with_area (moved_area from to area)
        (without_range (first_of area) (past_of area) (pages_by areas spans)) q)
        → AreRelocated from past to (past_of area) old before areas' spans'
    relocated_next areas' spans' stays now =
        let least = so_far.least in
        let wide = next_on in
        let end = next_past in
        record {
          least = omega arith;
          most = next_past;
          stands = λ q h. let one = so_far.stands q h in stays_trans q old areas areas' spans spans' one (stays q one.areas);
          starts = starts_past page old_on area laid_old was_there;
          pages = λ q.
              now q
              ∙ (λ i. with_area (moved_area from to area) (without_range (first_of area) (past_of area) (λ x. so_far.pages x i)) q)
              ∙ moved_more from to page old_on area laid_old was_there so_far.least (so_far.starts area was_there)
              (elim apart [ inl e ↦ inl (omega arith) | inr e ↦ inr (omega arith) ]) q;
        }

-- ---- a range moves

module _ (p from n to m k : ℕ) (old : ℕ → Option Area) (before : List Span) (first : AreAreasOf p old before)
    (move : IsMove from n to m (pages_by old before)) (same : k ≡ min n m) where
  pub laid_first : AreLaid (pages_by old before)
  laid_first = laid_of p old before first

  -- the two ranges are cleared
  module _ (areas : ℕ → Option Area) (spans : List Span) (cleared : AreAreasOf p areas spans)
      (now : (page : ℕ) → pages_by areas spans page ≡ shortened from n to m (pages_by old before) laid_first move page) where
    pub range_lower : NoneCrosses from spans
    range_lower = none_from p from areas spans cleared
        (λ area e. shortened_lower from n to m (pages_by old before) laid_first move area (sym (now from) ∙ e))

    pub range_upper : NoneCrosses (from + k) spans
    range_upper = subst (λ x. NoneCrosses (from + x) spans) (sym same)
        (none_from p (from + min n m) areas spans cleared
        (λ area e. shortened_upper from n to m (pages_by old before) laid_first move area (sym (now (from + min n m)) ∙ e)))

    pub range_mapped : (page : ℕ) → from ≤ page → page < from + k → is_page_taken spans page ≡ true
    range_mapped page low high =
        sym (taken_is p areas spans page cleared) ∙ ap is_some (now page)
        ∙ shortened_mapped from n to m (pages_by old before) laid_first move page low (subst (λ x. page < from + x) same high)

    pub range_free : IsFree (is_page_taken spans) to (to + (from + k - from))
    range_free page low high =
        sym (taken_is p areas spans page cleared) ∙ ap is_some (now page)
        ∙ shortened_free from n to m (pages_by old before) laid_first move page low (omega arith)

    -- what is left of the old one stands at the new one
    module _ (areas' : ℕ → Option Area) (spans' : List Span) (relocated : AreAreasOf p areas' spans')
        (now' : (page : ℕ) → pages_by areas' spans' page ≡ moved_range from (from + k - from) (from + k - from) to (pages_by areas spans) page) where
      carried_now : (page : ℕ) → pages_by areas' spans' page ≡ carried from n to m (pages_by old before) laid_first move page
      carried_now page =
          now' page
          ∙ (λ i. moved_range from (from + same i - from) (from + same i - from) to (λ q. now q i) page)
          ∙ shortened_moves from n to m (pages_by old before) laid_first move page

      abbrev last_one : Area
      last_one = (last_there from n to m (pages_by old before) laid_first move).area

      so_last : IsLast from n to m (pages_by old before) laid_first move last_one
      so_last = (last_there from n to m (pages_by old before) laid_first move).so

      last_now : pages_by areas' spans' (to + k - 1) ≡ Some last_one
      last_now = ap (λ x. pages_by areas' spans' (to + x - 1)) same ∙ carried_now (to + min n m - 1) ∙ so_last.there

      pub last_longer : IsSomeAnd (pages_by areas' spans' (to + k - 1)) (λ area. past_of area ≤ to + m)
      last_longer = let ends = so_last.ends in subst (λ o. IsSomeAnd o (λ area. past_of area ≤ to + m)) (sym last_now) (omega arith)

      pub last_free : IsSomeAnd (pages_by areas' spans' (to + k - 1)) (λ area. IsFree (is_page_taken spans') (past_of area) (to + m))
      last_free = subst (λ o. IsSomeAnd o (λ area. IsFree (is_page_taken spans') (past_of area) (to + m))) (sym last_now)
          (λ page low high. sym (taken_is p areas' spans' page relocated) ∙ ap is_some (carried_now page ∙ so_last.free page low high))

      pub last_small : IsSomeAnd (pages_by areas' spans' (to + k - 1)) (λ area. area.pgoff + (to + m - first_of area) ≤ 2 ^ 60)
      last_small = subst (λ o. IsSomeAnd o (λ area. area.pgoff + (to + m - first_of area) ≤ 2 ^ 60)) (sym last_now) so_last.small

      -- the new one is filled
      module _ (areas'' : ℕ → Option Area) (spans'' : List Span) (grew : AreAreasOf p areas'' spans'')
          (now'' : (page : ℕ) → pages_by areas'' spans'' page ≡ grown_to (to + m) (pages_by areas' spans' (to + k - 1))
          (pages_by areas' spans') page) where
        with_range_now : (page : ℕ) → pages_by areas'' spans'' page ≡ with_range from n to m (pages_by old before) laid_first move page
        with_range_now page =
            now'' page
            ∙ (λ i. grown_to (to + m) (pages_by areas' spans' (to + same i - 1)) (pages_by areas' spans') page)
            ∙ (λ i. grown_to (to + m) (carried_now (to + min n m - 1) i) (λ q. carried_now q i) page)

        pub range_ends : NoneCrosses (to + m) spans''
        range_ends = none_from p (to + m) areas'' spans'' grew
            (λ area e. with_range_upper from n to m (pages_by old before) laid_first move area (sym (with_range_now (to + m)) ∙ e))

        pub range_filled : (page : ℕ) → to ≤ page → page < to + m → is_page_taken spans'' page ≡ true
        range_filled page low high =
            sym (taken_is p areas'' spans'' page grew) ∙ ap is_some (with_range_now page)
            ∙ with_range_mapped from n to m (pages_by old before) laid_first move page low high

        -- and each boundary has been tried
        pub range_moved : (len len' : Lengths) (new : Pages) → AreAlike len' len (pages_by areas'' spans'')
            → ((page : ℕ) → new page ≡ joined_over len' to (suc (to + m - to)) (pages_by areas'' spans'') page)
            → (page : ℕ) → new page ≡ after_move len from n to m (pages_by old before) page
        range_moved len len' new alike joins page =
            joins page
            ∙ over_alike len' len to (suc (to + m - to)) (pages_by areas'' spans'') alike page
            ∙ (λ i. joined_over len to (suc (count i)) (λ q. with_range_now q i) page)
          where
            count : to + m - to ≡ m
            count = omega arith
