-- After an mremap the areas are still on the pages that are mapped, with their protection and flags.
use Rattle.std.proofs.Common.{◌≡◌, ◌⊎◌, inl, inr, ℕ, ◌+◌, ◌-◌, ◌^◌, ◌<◌, ◌≤◌, min, nat_lt, ◌==◌, Bool, true, false, cond, Option, Some, None, is_some, option_map, IsSomeAnd, refl, sym, ap, ◌∙◌, arith}
use Rattle.std.proofs.lemmas.Bool.{cases_lt, false≢true, ltb-true, ltb-false}
use Rattle.std.proofs.lemmas.Bool.Decides.{nat_tests}
use Rattle.av_base.specs.Limits.{top_page}
use Rattle.av_base.specs.Page.{page_of, pages_of}
use Rattle.av_base.specs.Words.{within}
use Rattle.av_base.specs.Flags.{unlocked}
use Rattle.av_base.specs.declared.flags.Flags.{Flags}
use Rattle.av_base.specs.declared.prot.Prot.{Prot}
use Rattle.av_trace.specs.declared.mode.Mode.{Mode}
use Rattle.av_vma.specs.declared.area.Area.{Area}
use Rattle.av_vma.specs.IndexBound.{AreIndicesBelow}
use Rattle.av_vma.specs.Index.{index_of}
use Rattle.av_vma.specs.Mremap.{IsMove, after_grow, after_move, after_resize}
use Rattle.av_vma.specs.Pages.{AreLaid, Lengths, Pages, after_unmap, split_at}
use Rattle.av_vma.proofs.Laid.{has_parts}
use Rattle.av_vma.proofs.Mremap.{in_range as range_bounds, is_in_range, out_of_range}
use Rattle.av_vma.proofs.MremapHomes.{none_after_move}
use Rattle.av_vma.proofs.Marks.{area_marks, marks, marks_filled, marks_grown, marks_moved, marks_not_grown, marks_outside, marks_unmapped}
use Rattle.av_vma.proofs.Left.{left_marks, marks_left}
use Rattle.av_plain.specs.Mremap.{MovesTo, after_mremap, leaves_old, left_behind, with_old_range, marks_at, process_after_mremap}
use Rattle.av_plain.specs.World.{Page, Process, World, is_mapped, pages, wiped}
use Rattle.av_plain.proofs.Mremap.Areas.{IsRemap, laid_remapped, laid_then, room}
use Rattle.av_plain.proofs.Mremap.Legal.{highest, may-become, some, stays_bare, uniform-where}
use Rattle.av_plain.proofs.Refusal.{MayRemap}

-- ---- the pages after it, by their kinds

module _ (q : Process) (from n to m : ℕ) (stays : Bool) (page : ℕ) where
  abbrev now : Option Page
  now = process_after_mremap from n to m stays q page

  -- past what came there are zeros
  abbrev grown : Option Page
  grown = option_map wiped (q (from + n - 1))

  abbrev outside : Option Page
  outside = cond (within from n page) (left_behind stays (q page)) (q page)

  pub from_old : within to m page ≡ true → nat_lt (page - to) n ≡ true → now ≡ q (from + (page - to))
  from_old i j = ap (λ b. cond b (cond (nat_lt (page - to) n) (q (from + (page - to))) grown) outside) i
      ∙ ap (λ b. cond b (q (from + (page - to))) grown) j

  pub from_zeros : within to m page ≡ true → nat_lt (page - to) n ≡ false → now ≡ grown
  from_zeros i j = ap (λ b. cond b (cond (nat_lt (page - to) n) (q (from + (page - to))) grown) outside) i
      ∙ ap (λ b. cond b (q (from + (page - to))) grown) j

  pub from_left : within to m page ≡ false → within from n page ≡ true → now ≡ left_behind stays (q page)
  from_left i j = ap (λ b. cond b (cond (nat_lt (page - to) n) (q (from + (page - to))) grown) outside) i
      ∙ ap (λ b. cond b (left_behind stays (q page)) (q page)) j

  pub from_itself : within to m page ≡ false → within from n page ≡ false → now ≡ q page
  from_itself i j = ap (λ b. cond b (cond (nat_lt (page - to) n) (q (from + (page - to))) grown) outside) i
      ∙ ap (λ b. cond b (left_behind stays (q page)) (q page)) j

-- the protection and flags of a page
abbrev marks_in : Option Page → Option (Prot × Flags)
marks_in o = option_map (λ (x : Page). (x.prot, x.flags)) o

wiped_marks : (o : Option Page) → marks_in (option_map wiped o) ≡ marks_in o
wiped_marks None = refl
wiped_marks (Some x) = refl

-- what stays behind has the marks that the area's page has
behind_marks : (o : Option Area) (x : Option Page) → option_map area_marks o ≡ marks_in x
    → option_map left_marks o ≡ marks_in (left_behind true x)
behind_marks None None e = refl
behind_marks None (Some x) e = cc
behind_marks (Some area) None e = cc
behind_marks (Some area) (Some x) e = ap (option_map (λ (m : Prot × Flags). (m.0, unlocked m.1))) e

-- ---- linear indices

-- what grows stays below 2^60, where all linear indices are below a number that leaves room for the pages that a process may have
pub small-enough : (w : World) (p a old new : ℕ) (mode : Mode) (to most : ℕ) (may : MayRemap w p a old new mode)
    (goes : MovesTo (pages w p) (page_of a) (pages_of old) (pages_of new) mode (Some to)) (on : Pages) → AreLaid on
    → ((page : ℕ) → marks on page ≡ marks_at (pages w p) page) → AreIndicesBelow most on → most + top_page ≤ 2 ^ 60
    → ((to == page_of a) ≡ false) ⊎ (pages_of old < pages_of new)
    → IsSomeAnd (on (page_of a + min (pages_of old) (pages_of new) - 1))
    (λ area. index_of area (page_of a + min (pages_of old) (pages_of new) - 1) + (pages_of new - min (pages_of old) (pages_of new)) < 2 ^ 60)
small-enough w p a old new mode to most may goes on laid same low fits which =
    let u = uniform-where w p a old new mode to may goes which in
    let s = some w p a old new mode to may goes in
    let last = page_of a + min (pages_of old) (pages_of new) - 1 in
    by (on last) refl (mapped (on last) (pages w p last) (same last) (u.each last (omega (arith, s)) (omega (arith, s))))
  where
    high : to + pages_of new ≤ top_page
    high = highest w p a old new mode to may goes which

    mapped : (o : Option Area) (x : Option Page) → option_map area_marks o ≡ marks_in x
        → option_map (λ (x : Page). x.prot) x ≡ Some (uniform-where w p a old new mode to may goes which).prot → is_some o ≡ true
    mapped None None e h = cc
    mapped None (Some x) e h = cc
    mapped (Some area) x e h = refl

    by : (o : Option Area) → on (page_of a + min (pages_of old) (pages_of new) - 1) ≡ o
        → is_some o ≡ true
        → IsSomeAnd o (λ area. index_of area (page_of a + min (pages_of old) (pages_of new) - 1) +
        (pages_of new - min (pages_of old) (pages_of new)) < 2 ^ 60)
    by None e h = cc
    by (Some area) e h =
        let last = page_of a + min (pages_of old) (pages_of new) - 1 in
        let ends = has_parts area last (laid.here last area e) in
        let below = low last area e in
        let most_pages = high in
        omega (arith, ends, below, most_pages, fits)

-- ---- the areas

module _ (w : World) (p a old new : ℕ) (mode : Mode) (to : ℕ) (may : MayRemap w p a old new mode)
    (goes : MovesTo (pages w p) (page_of a) (pages_of old) (pages_of new) mode (Some to))
    (on : Pages) (laid : AreLaid on) (same : (page : ℕ) → marks on page ≡ marks_at (pages w p) page)
    (small : ((to == page_of a) ≡ false) ⊎ (pages_of old < pages_of new)
    → IsSomeAnd (on (page_of a + min (pages_of old) (pages_of new) - 1))
    (λ area. index_of area (page_of a + min (pages_of old) (pages_of new) - 1) + (pages_of new - min (pages_of old) (pages_of new)) < 2 ^ 60))
    (long : Lengths) where
  abbrev q : Process
  q = pages w p

  abbrev from : ℕ
  from = page_of a

  abbrev n : ℕ
  n = pages_of old

  abbrev m : ℕ
  m = pages_of new

  abbrev stays : Bool
  stays = leaves_old mode

  mapped_alike : (page : ℕ) → is_some (on page) ≡ is_mapped q page
  mapped_alike page = by (on page) (q page) (same page)
    where
      by : (o : Option Area) (x : Option Page) → option_map area_marks o ≡ marks_in x → is_some o ≡ is_some x
      by None None e = refl
      by None (Some x) e = cc
      by (Some area) None e = cc
      by (Some area) (Some x) e = refl

  pub becomes : IsRemap from n to m on
  becomes = may-become w p a old new mode to may goes on mapped_alike small

  -- ---- in place

  module _ (here : (to == from) ≡ true) where
    same_page : to ≡ from
    same_page = grind (arith, nat_tests, here)

    abbrev resized : Pages
    resized = after_resize long from n m on

    -- a page of neither change keeps its protection
    still : (page : ℕ) → (from + m ≤ page → page < from + n → ⊥) → (from + n ≤ page → page < from + m → ⊥) → marks resized page ≡ marks on page
    still page shorter longer = by (nat_lt m n) (nat_lt n m) refl
      where
        by : (b c : Bool) → nat_lt n m ≡ c
            → marks (cond b (after_unmap (from + m) (from + n) on) (cond c (after_grow long (from + m) (on (from + n - 1)) on) on))
            page ≡ marks on page
        by true c h = marks_unmapped (from + m) (from + n) on page (out_of_range (from + m) (from + n - (from + m)) page
            (λ low high. shorter low (omega (arith, low, high))))
        by false true h = marks_not_grown long (from + n - 1) (from + m) on laid (becomes.grows here (ltb-true n m h)) page
            (λ low high. longer (let s = some w p a old new mode to may goes in omega (arith, low, s)) high)
        by false false h = refl

    longer : (page : ℕ) → from + n ≤ page → page < from + m → marks resized page ≡ marks_at q (from + n - 1)
    longer page low high = by (nat_lt m n) (nat_lt n m) refl refl
      where
        more : n < m
        more = omega (arith, low, high)

        by : (b c : Bool) → nat_lt m n ≡ b → nat_lt n m ≡ c
            → marks (cond b (after_unmap (from + m) (from + n) on) (cond c (after_grow long (from + m) (on (from + n - 1)) on) on))
            page ≡ marks_at q (from + n - 1)
        by true c e h = absurd (let less = ltb-true m n e in let x = more in omega (arith, less, x))
        by false true e h = marks_grown long (from + n - 1) (from + m) on laid (becomes.grows here (ltb-true n m h)) page
            (let s = some w p a old new mode to may goes in omega (arith, s, low)) high ∙ same (from + n - 1)
        by false false e h = absurd (let less = ltb-false n m h in let x = more in omega (arith, less, x))

    shorter : (page : ℕ) → from + m ≤ page → page < from + n → marks resized page ≡ None
    shorter page low high = by (nat_lt m n) refl
      where
        by : (b : Bool) → nat_lt m n ≡ b
            → marks (cond b (after_unmap (from + m) (from + n) on)
            (cond (nat_lt n m) (after_grow long (from + m) (on (from + n - 1)) on) on)) page ≡ None
        by true e = ap (λ c. option_map area_marks (cond c None (split_at (from + n) (split_at (from + m) on) page)))
            (is_in_range (from + m) (from + n - (from + m)) page low (omega (arith, low, high)))
        by false e = absurd (let more = ltb-false m n e in omega (arith, more, low, high))

    marks_here : (page : ℕ) → marks resized page ≡ marks_at (process_after_mremap from n to m stays q) page
    marks_here page = by (within to m page) (within from n page) (nat_lt (page - to) n) refl refl refl
      where
        in_new : within to m page ≡ true → (from ≤ page) × (page < from + m)
        in_new i = let k = range_bounds to m page i in let e = same_page in (omega (arith, k, e), omega (arith, k, e))

        back : from ≤ page → from + (page - to) ≡ page
        back low = let e = same_page in omega (arith, low, e)

        by : (i j k : Bool) → within to m page ≡ i → within from n page ≡ j → nat_lt (page - to) n ≡ k
            → marks resized page ≡ marks_at (process_after_mremap from n to m stays q) page
        by true j true i f k =
            let b = in_new i in
            let less = ltb-true (page - to) n k in
            still page (λ low high. omega (arith, b, low)) (λ low high. let e = same_page in omega (arith, less, low, e)) ∙ same page
            ∙ ap (marks_at q) (sym (back b.0)) ∙ sym (ap marks_in (from_old q from n to m stays page i k))
        by true j false i f k =
            let b = in_new i in
            let more = ltb-false (page - to) n k in
            longer page (let e = same_page in omega (arith, more, e, b)) b.1
            ∙ sym (ap marks_in (from_zeros q from n to m stays page i k) ∙ wiped_marks (q (from + n - 1)))
        by false true k i f g =
            let b = range_bounds from n page f in
            shorter page (not_new i b.0) b.1
            ∙ sym (ap marks_in (from_left q from n to m stays page i f)
            ∙ ap (λ b. marks_in (left_behind b (q page))) (stays_bare w p a old new mode to may goes here))
          where
            not_new : within to m page ≡ false → from ≤ page → from + m ≤ page
            not_new i low = elim (cases_lt page (from + m)) [
              | inr above ↦ above
              | inl below ↦ absurd (let e = same_page in false≢true (sym i ∙ is_in_range to m page (omega (arith, low, e)) (omega (arith, below, e))))
            ]
        by false false k i f g = still page
            (λ low high. absurd (false≢true (sym f ∙ is_in_range from n page (omega (arith, low)) high)))
            (λ low high. absurd (let e = same_page in false≢true (sym i ∙ is_in_range to m page (omega (arith, low, e)) (omega (arith, high, e)))))
            ∙ same page ∙ sym (ap marks_in (from_itself q from n to m stays page i f))

  -- ---- elsewhere

  module _ (there : (to == from) ≡ false) where
    move : IsMove from n to m on
    move = becomes.moves there

    abbrev then : Pages
    then = after_move long from n to m on

    -- what is mapped again has the marks that it had, and no other page changes
    again : (b : Bool) (page : ℕ) → (within from n page ≡ true → marks (with_old_range long p on from n b then) page ≡ marks_in (left_behind b (q page)))
        × (within from n page ≡ false → marks (with_old_range long p on from n b then) page ≡ marks then page)
    again false page = (
      λ i. let b = range_bounds from n page i in ap (option_map area_marks) (none_after_move long from n to m on laid move page b.0 b.1),
      λ i. refl,
    )
    again true page = (
      λ i. mapped ∙ ap (λ b. cond b (option_map left_marks (on page)) (marks then page)) i ∙ behind_marks (on page) (q page) (same page),
      λ i. mapped ∙ ap (λ b. cond b (option_map left_marks (on page)) (marks then page)) i,
    )
      where
        mapped : marks (with_old_range long p on from n true then) page ≡ cond (within from n page) (option_map left_marks (on page)) (marks then page)
        mapped = marks_left long p on from n then (laid_then long p from n to m on laid move) (room long p from n to m on laid move) page

    marks_there : (page : ℕ) → marks (with_old_range long p on from n stays then) page ≡ marks_at (process_after_mremap from n to m stays q) page
    marks_there page = by (within to m page) (within from n page) (nat_lt (page - to) n) refl refl refl
      where
        keeps : within from n page ≡ false → marks (with_old_range long p on from n stays then) page ≡ marks then page
        keeps i = (again stays page).1 i

        apart : within to m page ≡ true → within from n page ≡ false
        apart i =
            let b = range_bounds to m page i in
            out_of_range from n page (λ low high. elim move.apart [ inl e ↦ omega (arith, e, b, low) | inr e ↦ omega (arith, e, b, high) ])

        by : (i j k : Bool) → within to m page ≡ i → within from n page ≡ j → nat_lt (page - to) n ≡ k
            → marks (with_old_range long p on from n stays then) page ≡ marks_at (process_after_mremap from n to m stays q) page
        by true j true i f k =
            let b = range_bounds to m page i in
            let less = ltb-true (page - to) n k in
            keeps (apart i) ∙ marks_moved long from n to m on laid move page b.0 (omega (arith, b, less)) ∙ same (from + (page - to))
            ∙ sym (ap marks_in (from_old q from n to m stays page i k))
        by true j false i f k =
            let b = range_bounds to m page i in
            let more = ltb-false (page - to) n k in
            let least : min n m ≡ n = omega (arith, b, more) in
            keeps (apart i) ∙ marks_filled long from n to m on laid move page (omega (arith, b, more)) b.1
            ∙ ap (λ k. marks on (from + k - 1)) least ∙ same (from + n - 1)
            ∙ sym (ap marks_in (from_zeros q from n to m stays page i k) ∙ wiped_marks (q (from + n - 1)))
        by false true k i f g = (again stays page).0 f ∙ sym (ap marks_in (from_left q from n to m stays page i f))
        by false false k i f g = keeps f ∙ marks_outside long from n to m on laid move page i f ∙ same page
            ∙ sym (ap marks_in (from_itself q from n to m stays page i f))

  -- ---- the whole

  pub laid_becomes : AreLaid (after_mremap long p from n to m stays on)
  laid_becomes = laid_remapped long p from n to m stays on laid becomes

  pub marks_become : (page : ℕ) → marks (after_mremap long p from n to m stays on) page ≡ marks_at (process_after_mremap from n to m stays q) page
  marks_become page = by (to == from) refl
    where
      by : (b : Bool) → (to == from) ≡ b
          → marks (cond b (after_resize long from n m on) (with_old_range long p on from n stays (after_move long from n to m on))) page
          ≡ marks_at (process_after_mremap from n to m stays q) page
      by true here = marks_here here page
      by false there = marks_there there page
