-- The areas of a process that lives have changed, once or twice: they are what the definitions make of them.
use Rattle.std.proofs.Common.{◌≡◌, ℕ, ◌+◌, ◌-◌, ◌<◌, ◌≤◌, Bool, true, false, cond, Option, Some, None, IfSome, is_some, option_map, refl, sym, ap, subst, ◌∙◌, arith, ◌==◌, nat_lt}
use Rattle.std.proofs.lemmas.Bool.Decides.{nat_tests}
use Rattle.av_base.specs.Limits.{low_page, top_page}
use Rattle.av_base.specs.Words.{with_at}
use Rattle.av_vma.specs.Mremap.{IsMove, after_grow, after_move, after_resize, pages_from, pages_left}
use Rattle.av_vma.specs.Pages.{AreLaid, Lengths, Pages, after_unmap, pages_in}
use Rattle.av_vma.proofs.LeftRuns.{left_by_marks}
use Rattle.av_vma.proofs.Marks.{area_marks, marks, marks_moved}
use Rattle.av_vma.specs.declared.area.Area.{Area}
use Rattle.av_anon.specs.declared.anons.Anons.{Anons as AnonSet}
use Rattle.av_merge.specs.Kin.{lengths}
use Rattle.av_merge.proofs.Lengths.{AreAlike}
use Rattle.av_merge.proofs.MremapLengths.{grow_alike, left_alike, move_alike}
use Rattle.av_spaces.specs.Kin.{AnonsFit, AnonsStay}
use Rattle.av_spaces.specs.Spaces.{AllSpaces, AreThese, IsChanged, Spaces, areas_of, is_taken, pages_of}
use Rattle.av_spaces.proofs.Kin.{stay_both, stay_same}
use Rattle.av_spaces.proofs.Rising.{laid}
use Rattle.av_plain.specs.Areas.{chain_length}
use Rattle.av_plain.specs.Mremap.{after_mremap, with_old_range}
use Rattle.av_plain.specs.Report.{AreApart}
use Rattle.av_plain.specs.Transcript.{State}
use Rattle.av_plain.proofs.Mremap.Areas.{room}
use Rattle.av_mem.specs.declared.mem.Mem.{Mem}
use Rattle.av_mem.specs.Mem.{ranges_of}
use Rattle.av_mem.proofs.AnonLaws.{lengths_alike}
use Rattle.av_mem.proofs.MemLaws.{all_apart}
use Rattle.av_mremap.specs.Areas.{HasAreas, HasRemap}

equal : (a b : ℕ) → (a == b) ≡ true → a ≡ b
equal a b h = grind (arith, nat_tests, h)

other : (a b : ℕ) → (a == b) ≡ false → a ≡ b → ⊥
other a b h e = grind (arith, nat_tests, h, e)

-- a page has marks exactly where it has an area
some_marks : (on : Pages) (page : ℕ) → is_some (marks on page) ≡ is_some (on page)
some_marks on page = by (on page)
  where
    by : (o : Option Area) → is_some (option_map area_marks o) ≡ is_some o
    by None = refl
    by (Some area) = refl

-- a process's areas are these, whatever these are called
same_on : (old : Spaces) (p : ℕ) (on on' : Pages) → ((page : ℕ) → on page ≡ on' page) → (q page : ℕ)
    → with_at p on (pages_of old) q page ≡ with_at p on' (pages_of old) q page
same_on old p on on' same q page = by (q == p)
  where
    by : (b : Bool) → (cond b on (pages_of old q)) page ≡ (cond b on' (pages_of old q)) page
    by true = same page
    by false = refl

-- ---- what areas and anon_vmas are before

module _ (k : Mem) (s : State) (held : HasAreas k s) where
  areas_there : (p page : ℕ) → pages_of k.spaces.processes p page ≡ s.areas p page
  areas_there p page = ap (λ (x : AllSpaces). pages_of x.processes p page) held.spaces
      ∙ held.keeps.stands.areas p page

  apart_there : (p : ℕ) → IfSome (ranges_of k.spaces.processes p) AreApart
  apart_there p = subst (λ (x : AllSpaces). IfSome (ranges_of x.processes p) AreApart)
      (sym held.spaces) (held.keeps.stands.parts.areas.apart p)

  fit_there : AnonsFit k.spaces k.anons
  fit_there = subst (λ (x : AllSpaces). AnonsFit x k.anons) (sym held.spaces)
      (subst (AnonsFit held.whole.spaces) (sym held.anons) held.keeps.anons)

  -- so are the lengths of chains once areas have changed
  alike_there : (spaces : AllSpaces) (anons : AnonSet) → AnonsStay k.spaces k.anons spaces anons
      → (p : ℕ)
      → AreAlike (lengths spaces.areas anons) (chain_length s.anons) (pages_of spaces.processes p)
  alike_there spaces anons stay = lengths_alike held.device held.whole s held.keeps spaces anons
      (subst (λ (x : AllSpaces). AnonsStay x held.whole.anons spaces anons) held.spaces
      (subst (λ (x : AnonSet). AnonsStay k.spaces x spaces anons) held.anons stay))

-- ---- one change

-- what a change of areas promises, said of all processes
module _ (old : Mem) (spaces : AllSpaces) (anons : AnonSet) (p : ℕ) (alive : is_some (areas_of old.spaces.processes p) ≡ true) where
  abbrev new : Mem
  new = record old { spaces = spaces; anons = anons }

  pub changed : (on : Pages) → IsChanged old.spaces.processes spaces.processes p (AreThese on) → AnonsStay old.spaces old.anons spaces anons
      → (on' : Pages) → ((page : ℕ) → on page ≡ on' page) → HasRemap old new p on'
  changed on h stay on' same = record {
    areas = λ q page. areas q page (q == p) refl ∙ same_on old.spaces.processes p on on' same q page;
    alive = λ q. lives q (q == p) refl;
    number = h.number;
    apart = all_apart spaces.processes h.rising;
    anons = stay;
  }
    where
      areas : (q page : ℕ) (b : Bool) → (q == p) ≡ b → pages_of spaces.processes q page ≡ with_at p on (pages_of old.spaces.processes) q page
      areas q page true e = ap (λ n. pages_of spaces.processes n page) (equal q p e) ∙ h.pages page
          ∙ ap (λ b. (cond b on (pages_of old.spaces.processes q)) page) (sym e)
      areas q page false e = ap (λ a. pages_in a page) (h.others q (other q p e))
          ∙ ap (λ b. (cond b on (pages_of old.spaces.processes q)) page) (sym e)

      lives : (q : ℕ) (b : Bool) → (q == p) ≡ b → is_some (areas_of spaces.processes q) ≡ is_some (areas_of old.spaces.processes q)
      lives q true e = ap (λ n. is_some (areas_of spaces.processes n)) (equal q p e) ∙ h.alive
          ∙ sym (ap (λ n. is_some (areas_of old.spaces.processes n)) (equal q p e) ∙ alive)
      lives q false e = ap is_some (h.others q (other q p e))

-- nothing has changed
pub unchanged : (old : Mem) (s : State) → HasAreas old s → (p : ℕ) → HasRemap old old p (s.areas p)
unchanged old s held p = record {
  areas = λ q page. by q page (q == p) refl;
  alive = λ q. refl;
  number = refl;
  apart = apart_there old s held;
  anons = stay_same old.spaces old.anons (fit_there old s held);
}
  where
    by : (q page : ℕ) (b : Bool) → (q == p) ≡ b → pages_of old.spaces.processes q page ≡ with_at p (s.areas p) (pages_of old.spaces.processes) q page
    by q page true e = areas_there old s held q page ∙ ap (λ n. s.areas n page) (equal q p e)
        ∙ ap (λ b. (cond b (s.areas p) (pages_of old.spaces.processes q)) page) (sym e)
    by q page false e = ap (λ b. (cond b (s.areas p) (pages_of old.spaces.processes q)) page) (sym e)

-- ---- the changes of an mremap

module _ (old : Mem) (s : State) (held : HasAreas old s) (p : ℕ) (alive : is_some (areas_of old.spaces.processes p) ≡ true) where
  abbrev on : Pages
  on = pages_of old.spaces.processes p

  abbrev len : Lengths
  len = chain_length s.anons

  -- the lengths that the kernel has
  abbrev was : Lengths
  was = lengths old.spaces.areas old.anons

  alike_before : AreAlike was len on
  alike_before = alike_there old s held old.spaces old.anons (stay_same old.spaces old.anons (fit_there old s held)) p

  module _ (spaces : AllSpaces) (anons : AnonSet) (stay : AnonsStay old.spaces old.anons spaces anons) (from n m : ℕ) where
    shrunk_is : nat_lt m n ≡ true → (page : ℕ) → after_unmap (from + m) (from + m + (n - m)) on page ≡ after_resize len from n m (s.areas p) page
    shrunk_is e page = (λ i. after_unmap (from + m) (past i) (λ o. areas_there old s held p o i) page)
        ∙ ap (λ b. (cond b (after_unmap (from + m) (from + n) (s.areas p))
        (cond (nat_lt n m) (after_grow len (from + m) (s.areas p (from + n - 1)) (s.areas p)) (s.areas p))) page) (sym e)
      where
        past : from + m + (n - m) ≡ from + n
        past = let less : m < n = grind (arith, nat_tests, e) in omega arith

    pub has_shrunk : m < n → IsChanged old.spaces.processes spaces.processes p (AreThese (after_unmap (from + m) (from + m + (n - m)) on))
        → HasRemap old (record old { spaces = spaces; anons = anons }) p (after_resize len from n m (s.areas p))
    has_shrunk less h = changed old spaces anons p alive (after_unmap (from + m) (from + m + (n - m)) on) h stay
        (after_resize len from n m (s.areas p))
        (shrunk_is (grind (arith, nat_tests, less)))

    grown_is : nat_lt m n ≡ false → nat_lt n m ≡ true → (page : ℕ)
        → after_grow was (from + m) (on (from + n - 1)) on page ≡ after_resize len from n m (s.areas p) page
    grown_is e f page = grow_alike was len on refl alike_before (from + m) (from + n - 1) page
        ∙ (λ i. after_grow len (from + m) (areas_there old s held p (from + n - 1) i) (λ o. areas_there old s held p o i) page)
        ∙ (λ i. (cond (sym e i) (after_unmap (from + m) (from + n) (s.areas p))
        (cond (sym f i) (after_grow len (from + m) (s.areas p (from + n - 1)) (s.areas p)) (s.areas p))) page)

    pub has_grown : n < m → IsChanged old.spaces.processes spaces.processes p (AreThese (after_grow was (from + m) (on (from + n - 1)) on))
        → HasRemap old (record old { spaces = spaces; anons = anons }) p (after_resize len from n m (s.areas p))
    has_grown more h = changed old spaces anons p alive (after_grow was (from + m) (on (from + n - 1)) on) h stay
        (after_resize len from n m (s.areas p))
        (grown_is (grind (arith, nat_tests, more)) (grind (arith, nat_tests, more)))

  -- two changes of the process
  both_changed : (mid now : Spaces) (a b : Pages → Type 0) → IsChanged old.spaces.processes mid p a → IsChanged mid now p b
      → IsChanged old.spaces.processes now p b
  both_changed mid now a b first second = record {
    others = λ q o. second.others q o ∙ first.others q o;
    alive = second.alive;
    pages = second.pages;
    number = second.number ∙ first.number;
    were_rising = first.were_rising;
    rising = second.rising;
  }

  module _ (spaces : AllSpaces) (anons : AnonSet) (stay : AnonsStay old.spaces old.anons spaces anons) (from n to m : ℕ)
      (move : IsMove from n to m on)
      (h : IsChanged old.spaces.processes spaces.processes p (AreThese (after_move was from n to m on))) where
    moved_is : (page : ℕ) → after_move was from n to m on page ≡ after_move len from n to m (s.areas p) page
    moved_is page = move_alike was len on refl alike_before from n to m page
        ∙ (λ i. after_move len from n to m (λ o. areas_there old s held p o i) page)

    -- which of the two the areas become
    elsewhere : (stays : Bool) → (to == from) ≡ false → (page : ℕ)
        → with_old_range len p (s.areas p) from n stays (after_move len from n to m (s.areas p)) page ≡ after_mremap len p from n to m stays
        (s.areas p) page
    elsewhere stays e page = ap (λ b. (cond b (after_resize len from n m (s.areas p))
        (with_old_range len p (s.areas p) from n stays (after_move len from n to m (s.areas p)))) page) (sym e)

    pub has_moved_areas : (to == from) ≡ false
        → HasRemap old (record old { spaces = spaces; anons = anons }) p (after_mremap len p from n to m false (s.areas p))
    has_moved_areas e = changed old spaces anons p alive (after_move was from n to m on) h stay (after_mremap len p from n to m false (s.areas p))
        (λ page. moved_is page ∙ elsewhere false e page)

    -- the old range is free then
    pub left_low : low_page ≤ from
    left_low = (room was p from n to m on (laid old.spaces.processes p h.were_rising) move).lowest

    pub left_high : from + n ≤ top_page
    left_high = let high = (room was p from n to m on (laid old.spaces.processes p h.were_rising) move).highest in omega arith

    pub left_free : (page : ℕ) → from ≤ page → page < from + n → is_taken spaces.processes p page ≡ false
    left_free page low high = ap is_some (h.pages page)
        ∙ (room was p from n to m on (laid old.spaces.processes p h.were_rising) move).free page low (omega arith)

    -- and the new one has the pages that moved
    moved_pages : pages_of spaces.processes p ≡ after_move len from n to m (s.areas p)
    moved_pages = λ i page. (h.pages page ∙ moved_is page) i

    laid_before : AreLaid (s.areas p)
    laid_before = subst AreLaid (λ i page. areas_there old s held p page i) (laid old.spaces.processes p h.were_rising)

    move_before : IsMove from n to m (s.areas p)
    move_before = subst (IsMove from n to m) (λ i page. areas_there old s held p page i) move

    pub target_taken : n ≤ m → (page : ℕ) → to ≤ page → page < to + n → is_taken spaces.processes p page ≡ true
    target_taken fits page low high =
        ap is_some (λ i. moved_pages i page) ∙ sym (some_marks (after_move len from n to m (s.areas p)) page)
        ∙ ap is_some (marks_moved len from n to m (s.areas p) laid_before move_before page low (omega arith))
        ∙ some_marks (s.areas p) (from + (page - to)) ∙ move_before.mapped (from + (page - to)) (omega arith) (omega arith)

    module _ (now : AllSpaces) (anons' : AnonSet) (stay' : AnonsStay spaces anons now anons') (fits : n ≤ m)
        (g : IsChanged spaces.processes now.processes p
        (AreThese (pages_left (lengths spaces.areas anons) p (pages_from to from (pages_of spaces.processes p)) from n (pages_of spaces.processes p)))) where
      -- each page of the old range is like the one that moved from there
      as_before : (page : ℕ) → from ≤ page → page < from + n
          → marks (pages_from to from (after_move len from n to m (s.areas p))) page ≡ marks (s.areas p) page
      as_before page low high =
          marks_moved len from n to m (s.areas p) laid_before move_before (to + (page - from)) (omega arith) (omega arith)
          ∙ ap (marks (s.areas p)) back
        where
          back : from + (to + (page - from) - to) ≡ page
          back = omega arith

      mapped_is : (page : ℕ) → pages_left (lengths spaces.areas anons) p (pages_from to from (pages_of spaces.processes p)) from n
          (pages_of spaces.processes p) page ≡ pages_left len p (s.areas p) from n (after_move len from n to m (s.areas p)) page
      mapped_is page = left_alike (lengths spaces.areas anons) len p (pages_from to from (pages_of spaces.processes p)) refl from n
          (pages_of spaces.processes p) (alike_there old s held spaces anons stay p) page
          ∙ (λ i. pages_left len p (pages_from to from (moved_pages i)) from n (moved_pages i) page)
          ∙ ap (λ on. on page) (left_by_marks len p (pages_from to from (after_move len from n to m (s.areas p))) (s.areas p) from n
          (after_move len from n to m (s.areas p)) as_before)

      pub has_left_areas : (to == from) ≡ false
          → HasRemap old (record old { spaces = now; anons = anons' }) p (after_mremap len p from n to m true (s.areas p))
      has_left_areas e = changed old now anons' p alive (pages_left (lengths spaces.areas anons) p (pages_from to from (pages_of spaces.processes p))
          from n (pages_of spaces.processes p))
          (both_changed spaces.processes now.processes _ _ h g) (stay_both old.spaces spaces now old.anons anons anons' stay stay')
          (after_mremap len p from n to m true (s.areas p)) (λ page. mapped_is page ∙ elsewhere true e page)

-- as many pages as before change nothing
pub unchanged_size : (old : Mem) (s : State) → HasAreas old s → (p from n m : ℕ) → n ≤ m → m ≤ n
    → HasRemap old old p (after_resize (chain_length s.anons) from n m (s.areas p))
unchanged_size old s held p from n m more less = subst (HasRemap old old p) (sym is) (unchanged old s held p)
  where
    not_less : (a b : ℕ) → b ≤ a → nat_lt a b ≡ false
    not_less a b h = grind (arith, nat_tests, h)

    is : after_resize (chain_length s.anons) from n m (s.areas p) ≡ s.areas p
    is = λ i. cond (not_less m n more i) (after_unmap (from + m) (from + n) (s.areas p))
        (cond (not_less n m less i) (after_grow (chain_length s.anons) (from + m) (s.areas p (from + n - 1)) (s.areas p)) (s.areas p))

-- where they stay they are resized
pub stays_here : (old new : Mem) (s : State) (p from n to m : ℕ) (stays : Bool) → to ≡ from
    → HasRemap old new p (after_resize (chain_length s.anons) from n m (s.areas p))
    → HasRemap old new p (after_mremap (chain_length s.anons) p from n to m stays (s.areas p))
stays_here old new s p from n to m stays here h = subst (HasRemap old new p) (sym is) h
  where
    same : (to == from) ≡ true
    same = grind (arith, nat_tests, here)

    is : after_mremap (chain_length s.anons) p from n to m stays (s.areas p) ≡ after_resize (chain_length s.anons) from n m (s.areas p)
    is = ap (λ b. cond b (after_resize (chain_length s.anons) from n m (s.areas p))
        (with_old_range (chain_length s.anons) p (s.areas p) from n stays (after_move (chain_length s.anons) from n to m (s.areas p)))) same

-- elsewhere
pub differs : (a b : ℕ) → (a ≡ b → ⊥) → (a == b) ≡ false
differs a b h = by (a == b) refl
  where
    by : (c : Bool) → (a == b) ≡ c → c ≡ false
    by true e = absurd (h (equal a b e))
    by false e = refl
