-- What a fork makes of areas: the child has each of the parent's that goes over, with an own anon_vma, and all others are as they were.
use Rattle.std.proofs.Common.{◌≡◌, ◌⊎◌, inl, inr, ℕ, ◌<◌, ◌≤◌, Bool, true, false, cond, not, ◌==◌, List, [], ◌∷◌, map, Option, Some, None, refl, sym, ap, subst, ◌∙◌, arith}
use Rattle.std.proofs.lemmas.Bool.Decides.{nat_tests}
use Rattle.av_base.specs.Words.{with_at}
use Rattle.std.specs.List.{AllByRecursion}
use Rattle.av_vma.specs.declared.area.Area.{Area}
use Rattle.av_vma.specs.Fork.{areas_to_fork, forked_area, own_to_fork}
use Rattle.av_vma.specs.Index.{first_of, past_of}
use Rattle.av_vma.specs.Pages.{has_page, pages_in, with_area}
use Rattle.av_vma.proofs.Laid.{has_parts}
use Rattle.av_plain.specs.Areas.{Anons, Rmap, none_on}
use Rattle.av_plain.specs.Fork.{AreForked, GoOver, GoesBy, own_of_child, with_child, with_child_area}
use Rattle.av_plain.specs.Report.{AreApart, range_of}
use Rattle.av_plain.proofs.Report.Areas.{behind, none_later, rest_apart, some_pages}

itself : (n : ℕ) → (n == n) ≡ true
itself n = grind (arith, nat_tests)

pub same : (a b : ℕ) → (a == b) ≡ true → a ≡ b
same a b h = grind (arith, nat_tests, h)

-- the area in the child, with this own anon_vma
abbrev pub in_child : ℕ → Area → Option ℕ → Area
in_child q area own = record (forked_area q area) { anon = own }

-- ---- one area

-- what one area that goes over leaves, with this own anon_vma and these anon_vmas
abbrev pub with_own : ℕ → Area → Option ℕ → Anons → Rmap → Rmap
with_own q area own anons r = record (with_child_area q own area r) { anons = anons }

-- what it goes over with
pub record GoesWith (q : ℕ) (area : Area) (r next : Rmap) : Type 0 where
  pub own : Option ℕ
  pub anons : Anons
  pub is : next ≡ with_own q area own anons r

pub goes-with : (q : ℕ) (area : Area) (r next : Rmap) → GoesBy (own_to_fork area) q area r next → GoesWith q area r next
goes-with q area r next = by (own_to_fork area)
  where
    by : (own : Option ℕ) → GoesBy own q area r next → GoesWith q area r next
    by None goes = record { own = None; anons = r.anons; is = goes }
    by (Some w) goes = record { own = Some (own_of_child r.anons goes.0); anons = with_child w goes.0 r.anons; is = goes.2 }

-- the areas then
pub with_own-others : (q : ℕ) (area : Area) (own : Option ℕ) (anons : Anons) (r : Rmap) (p page : ℕ) → (p == q) ≡ false →
    (with_own q area own anons r).areas p page ≡ r.areas p page
with_own-others q area own anons r p page other = ap (λ b. (cond b (with_area (in_child q area own) (r.areas q)) (r.areas p)) page) other

pub with_own-child : (q : ℕ) (area : Area) (own : Option ℕ) (anons : Anons) (r : Rmap) (page : ℕ)
    → (with_own q area own anons r).areas q page ≡ cond (has_page area page) (Some (in_child q area own)) (r.areas q page)
with_own-child q area own anons r page = ap (λ b. (cond b (with_area (in_child q area own) (r.areas q)) (r.areas q)) page) (itself q)

-- what one area leaves
pub record LeavesArea (q : ℕ) (area : Area) (r next : Rmap) : Type 0 where
  pub homes : next.homes ≡ r.homes
  pub others : (p page : ℕ) → (p == q) ≡ false → next.areas p page ≡ r.areas p page
  pub free : (page : ℕ) → has_page area page ≡ false → next.areas q page ≡ r.areas q page
  pub own : Option ℕ
  pub here : (page : ℕ) → has_page area page ≡ true → next.areas q page ≡ Some (in_child q area own)

pub area-leaves : (q : ℕ) (area : Area) (r next : Rmap) → GoesBy (own_to_fork area) q area r next → LeavesArea q area r next
area-leaves q area r next goes = let g = goes-with q area r next goes in subst (LeavesArea q area r) (sym g.is) (record {
  homes = refl;
  others = with_own-others q area g.own g.anons r;
  free = λ page out. with_own-child q area g.own g.anons r page ∙ ap (λ b. cond b (Some (in_child q area g.own)) (r.areas q page)) out;
  own = g.own;
  here = λ page has. with_own-child q area g.own g.anons r page ∙ ap (λ b. cond b (Some (in_child q area g.own)) (r.areas q page)) has;
})

-- ---- the areas in turn

-- none of these areas goes to the page of the process
abbrev pub IsLeft : ℕ → List Area → ℕ → ℕ → Type 0
IsLeft q areas p page = ((p == q) ≡ false) ⊎ (pages_in (Some areas) page ≡ None)

-- a page that none of several has, the first has not, nor the others
pub none_of : (area : Area) (areas : List Area) (page : ℕ) → pages_in (Some (area ∷ areas)) page ≡ None →
    (has_page area page ≡ false) × (pages_in (Some areas) page ≡ None)
none_of area areas page is = by (has_page area page) is
  where
    by : (b : Bool) → cond b (Some area) (pages_in (Some areas) page) ≡ None → (b ≡ false) × (pages_in (Some areas) page ≡ None)
    by true e = cc
    by false e = (refl, e)

pub first_left : (q : ℕ) (area : Area) (areas : List Area) (r next : Rmap) → LeavesArea q area r next → (p page : ℕ)
    → IsLeft q (area ∷ areas) p page →
    next.areas p page ≡ r.areas p page
first_left q area areas r next w p page (inl other) = w.others p page other
first_left q area areas r next w p page (inr none) = by (p == q) refl
  where
    by : (b : Bool) → (p == q) ≡ b → next.areas p page ≡ r.areas p page
    by true is = subst (λ p. next.areas p page ≡ r.areas p page) (sym (same p q is)) (w.free page (none_of area areas page none).0)
    by false is = w.others p page is

pub later_left : (q : ℕ) (area : Area) (areas : List Area) (p page : ℕ) → IsLeft q (area ∷ areas) p page → IsLeft q areas p page
later_left q area areas p page (inl other) = inl other
later_left q area areas p page (inr none) = inr (none_of area areas page none).1

-- no later area is on a page of the first
pub not_later : (area : Area) (areas : List Area) (page : ℕ) → AreApart (map range_of (area ∷ areas)) → has_page area page ≡ true →
    pages_in (Some areas) page ≡ None
not_later area areas page rise has = none_later area areas page rise (has_parts area page has).1

pub not_first : (area : Area) (areas : List Area) (page : ℕ) (a : Area) → AreApart (map range_of (area ∷ areas))
    → pages_in (Some areas) page ≡ Some a →
    has_page area page ≡ false
not_first area areas page a rise is = by (has_page area page) refl
  where
    never : pages_in (Some areas) page ≡ None → ⊥
    never none = cc

    by : (b : Bool) → has_page area page ≡ b → b ≡ false
    by true has = absurd (never (not_later area areas page rise has))
    by false has = refl

-- what they leave together: on all pages of an area the child has one
pub record LeavesAreas (q : ℕ) (areas : List Area) (r next : Rmap) : Type 0 where
  pub homes : next.homes ≡ r.homes
  pub left : (p page : ℕ) → IsLeft q areas p page → next.areas p page ≡ r.areas p page
  pub own : ℕ → Option ℕ
  pub here : (page : ℕ) (area : Area) → pages_in (Some areas) page ≡ Some area → next.areas q page ≡ Some (in_child q area (own page))
  pub one : (page other : ℕ) (area : Area) → pages_in (Some areas) page ≡ Some area → has_page area other ≡ true
      → next.areas q page ≡ next.areas q other

pub areas-leave : (q : ℕ) (areas : List Area) (r next : Rmap) → AreApart (map range_of areas) → GoOver q areas r next → LeavesAreas q areas r next
areas-leave q [] r next rise goes = subst (LeavesAreas q [] r) (sym goes)
    (record { homes = refl; left = λ p page _. refl; own = λ page. None; here = λ page area is. absurd cc; one = λ page other area is. absurd cc })
areas-leave q (area ∷ areas) r next rise (mid, first, later) =
    let w = area-leaves q area r mid first in
    let all = areas-leave q areas mid next (rest_apart (range_of area) (map range_of areas) rise) later in
    record {
      homes = all.homes ∙ w.homes;
      left = λ p page left. all.left p page (later_left q area areas p page left) ∙ first_left q area areas r mid w p page left;
      own = λ page. cond (has_page area page) w.own (all.own page);
      here = λ page a is. here w all page a (has_page area page) refl is;
      one = λ page other a is has. one w all page other a (has_page area page) refl is has;
    }
  where
    -- what the first area left is there still
    still : LeavesArea q area r mid → LeavesAreas q areas mid next → (w : Option ℕ) (page : ℕ) → has_page area page ≡ true →
        mid.areas q page ≡ Some (in_child q area w) → next.areas q page ≡ Some (in_child q area w)
    still w all own page has is = all.left q page (inr (not_later area areas page rise has)) ∙ is

    here : (w : LeavesArea q area r mid) (all : LeavesAreas q areas mid next) (page : ℕ) (a : Area) (b : Bool) → has_page area page ≡ b →
        cond b (Some area) (pages_in (Some areas) page) ≡ Some a
        → next.areas q page ≡ Some (in_child q a (cond b w.own (all.own page)))
    here w all page a true has is = let same_area : area ≡ a = cc in
        subst (λ a. next.areas q page ≡ Some (in_child q a w.own)) same_area (still w all w.own page has (w.here page has))
    here w all page a false has is = all.here page a is

    one : (w : LeavesArea q area r mid) (all : LeavesAreas q areas mid next) (page other : ℕ) (a : Area) (b : Bool) → has_page area page ≡ b →
        cond b (Some area) (pages_in (Some areas) page) ≡ Some a
        → has_page a other ≡ true → next.areas q page ≡ next.areas q other
    one w all page other a true has is there = let same_area : area ≡ a = cc in
        let has_too : has_page area other ≡ true = subst (λ a. has_page a other ≡ true) (sym same_area) there in
        still w all w.own page has (w.here page has) ∙ sym (still w all w.own other has_too (w.here other has_too))
    one w all page other a false has is there = all.one page other a is there

-- ---- the areas that go over

-- the area of a page that goes over
abbrev pub forked_at : Option Area → Option Area
forked_at None = None
forked_at (Some area) = cond area.flags.dont_fork None (Some area)

pub forked-area : (o : Option Area) (area : Area) → forked_at o ≡ Some area → o ≡ Some area
forked-area None area e = cc
forked-area (Some a) area e = by a.flags.dont_fork e
  where
    by : (b : Bool) → cond b None (Some a) ≡ Some area → Some a ≡ Some area
    by true e = cc
    by false e = e

apart_with : (a : Area) (areas : List Area) → first_of a < past_of a → AllByRecursion (λ b. past_of a ≤ first_of b) areas
    → AreApart (map range_of areas) → AreApart (map range_of (a ∷ areas))
apart_with a [] some behind rest = some
apart_with a (b ∷ areas) some behind rest = (some, behind.0, rest)

behind_fork : (a : Area) (areas : List Area) → AllByRecursion (λ b. past_of a ≤ first_of b) areas
    → AllByRecursion (λ b. past_of a ≤ first_of b) (areas_to_fork areas)
behind_fork a [] h = tt
behind_fork a (b ∷ areas) h = by (not b.flags.dont_fork) (behind_fork a areas h.1)
  where
    by : (c : Bool) → AllByRecursion (λ b. past_of a ≤ first_of b) (areas_to_fork areas)
        → AllByRecursion (λ b. past_of a ≤ first_of b) (cond c (b ∷ areas_to_fork areas) (areas_to_fork areas))
    by true rest = (h.0, rest)
    by false rest = rest

-- they are apart, too
pub fork-apart : (areas : List Area) → AreApart (map range_of areas) → AreApart (map range_of (areas_to_fork areas))
fork-apart [] h = tt
fork-apart (a ∷ areas) h = by (not a.flags.dont_fork) (fork-apart areas (rest_apart (range_of a) (map range_of areas) h))
  where
    by : (b : Bool) → AreApart (map range_of (areas_to_fork areas))
        → AreApart (map range_of (cond b (a ∷ areas_to_fork areas) (areas_to_fork areas)))
    by true rest = apart_with a (areas_to_fork areas) (some_pages (range_of a) (map range_of areas) h) (behind_fork a areas (behind a areas h)) rest
    by false rest = rest

pub pages-fork : (areas : List Area) (page : ℕ) → AreApart (map range_of areas)
    → pages_in (Some (areas_to_fork areas)) page ≡ forked_at (pages_in (Some areas) page)
pages-fork [] page h = refl
pages-fork (a ∷ areas) page h =
    by a.flags.dont_fork (has_page a page) refl refl (pages-fork areas page (rest_apart (range_of a) (map range_of areas) h))
  where
    by : (d b : Bool) → a.flags.dont_fork ≡ d → has_page a page ≡ b
        → pages_in (Some (areas_to_fork areas)) page ≡ forked_at (pages_in (Some areas) page)
        → pages_in (Some (cond (not d) (a ∷ areas_to_fork areas) (areas_to_fork areas))) page ≡ forked_at (cond b (Some a) (pages_in (Some areas) page))
    by false true e is rest = ap (λ b. cond b (Some a) (pages_in (Some (areas_to_fork areas)) page)) is ∙ sym (ap (λ d. cond d None (Some a)) e)
    by false false e is rest = ap (λ b. cond b (Some a) (pages_in (Some (areas_to_fork areas)) page)) is ∙ rest
    by true true e is rest = rest ∙ ap forked_at (not_later a areas page h is) ∙ sym (ap (λ d. cond d None (Some a)) e)
    by true false e is rest = rest

-- ---- the whole

-- the child has on each page the parent's area that goes over, as its own; of one area it has one on all pages. All others keep theirs
pub record ChildHas (p q : ℕ) (r next : Rmap) : Type 0 where
  pub homes : next.homes ≡ r.homes
  pub others : (k page : ℕ) → (k == q) ≡ false → next.areas k page ≡ r.areas k page
  pub none : (page : ℕ) → forked_at (r.areas p page) ≡ None → next.areas q page ≡ None
  pub own : ℕ → Option ℕ
  pub here : (page : ℕ) (area : Area) → forked_at (r.areas p page) ≡ Some area → next.areas q page ≡ Some (in_child q area (own page))
  pub one : (page other : ℕ) (area : Area) → forked_at (r.areas p page) ≡ Some area → has_page area other ≡ true
      → next.areas q page ≡ next.areas q other

-- before, the child has none
abbrev pub before : ℕ → Rmap → Rmap
before q r = record r { areas = with_at q none_on r.areas }

pub before-others : (q : ℕ) (r : Rmap) (p page : ℕ) → (p == q) ≡ false → (before q r).areas p page ≡ r.areas p page
before-others q r p page other = ap (λ b. (cond b none_on (r.areas p)) page) other

pub child-has : (p q : ℕ) (r next : Rmap) → AreForked p q r next → ChildHas p q r next
child-has p q r next (areas, rise, on, goes) =
    let all = areas-leave q (areas_to_fork areas) (before q r) next (fork-apart areas rise) goes in
    record {
      homes = all.homes;
      others = λ k page other. all.left k page (inl other) ∙ before-others q r k page other;
      none = λ page is. all.left q page (inr (over page ∙ is)) ∙ ap (λ b. (cond b none_on (r.areas q)) page) (itself q);
      own = all.own;
      here = λ page area is. all.here page area (over page ∙ is);
      one = λ page other area is. all.one page other area (over page ∙ is);
    }
  where
    over : (page : ℕ) → pages_in (Some (areas_to_fork areas)) page ≡ forked_at (r.areas p page)
    over page = pages-fork areas page rise ∙ ap forked_at (on page)
