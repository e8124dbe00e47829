-- What a change of each entry of a frame, one look after the other, makes of the entries.
use Rattle.std.proofs.Common.{◌≡◌, ℕ, suc, length, drop, get_or, ◌+◌, ◌<◌, ◌≤◌, ◌==◌, ◌&&◌, ◌||◌, Bool, true, false, cond, List, [], ◌∷◌, Option}
use Rattle.std.proofs.Common.{Some, None, refl, sym, ap, subst, ◌∙◌, arith, IsSomeAnd}
use Rattle.std.proofs.Math.Seq.{drop-cons}
use Rattle.std.proofs.lemmas.Bool.{false≢true}
use Rattle.std.proofs.lemmas.Bool.Decides.{nat_tests}
use Rattle.std.specs.List.{AllByRecursion, list_any}
use Rattle.av_base.specs.Items.{Item, is_item, same_item}
use Rattle.av_base.specs.Words.{how_many}
use Rattle.av_pagetable.specs.declared.pte.Pte.{Pte}
use Rattle.av_pagetable.specs.Entries.{with_entry}
use Rattle.av_vma.specs.Pages.{has_page}
use Rattle.av_vma.specs.declared.area.Area.{Area}
use Rattle.av_rmap.specs.Changed.{changed_in, changed_over, with_changed}
use Rattle.av_rmap.specs.Covered.{IsCovered, IsReached}
use Rattle.av_rmap.specs.Items.{AreCovered}
use Rattle.av_rmap.specs.View.{View, AreApart, AreSpanned}
use Rattle.av_rmap.specs.Walk.{areas_from, holds, names_frame, page_at, passes_in, walk_of}
use Rattle.av_rmap.proofs.Entries.{has-holds, holds-has, one-area}
use Rattle.av_rmap.proofs.LookLemmas.{none-here}
use Rattle.av_rmap.proofs.NextAreas.{IsHeld, all-held, any-where, once-each}

-- a change that may be made twice, and leaves each entry that doesn't name the frame
pub record IsOfFrame (f : ℕ) (change : Pte → Pte) : Type 0 where
  pub twice : (e : Pte) → change (change e) ≡ change e
  pub other : (e : Pte) → names_frame f e ≡ false → change e ≡ e

-- whether it is the area's page with the index
abbrev is_page : ℕ → Option Area → ℕ → ℕ → Bool
is_page i None p page = false
is_page i (Some area) p page = p == area.pid && page == page_at i area

same_some : {p q : Area} → Some p ≡ Some q → p ≡ q
same_some e = cc

-- ---- one look

module _ (change : Pte → Pte) (i : ℕ) where
  look-rest : (o : Option Area) (view : View) → changed_in change i o view ≡ record view { entry = (changed_in change i o view).entry }
  look-rest None view = refl
  look-rest (Some area) view = refl

  look-entry : (o : Option Area) (view : View) (p page : ℕ)
      → (changed_in change i o view).entry p page ≡ cond (is_page i o p page) (change (view.entry p page)) (view.entry p page)
  look-entry None view p page = refl
  look-entry (Some area) view p page = by (p == area.pid && page == page_at i area) refl
    where
      by : (b : Bool) → (p == area.pid && page == page_at i area) ≡ b
          → cond b (change (view.entry area.pid (page_at i area))) (view.entry p page) ≡ cond b (change (view.entry p page)) (view.entry p page)
      by true e =
          let first : p ≡ area.pid = grind (arith, nat_tests, e) in
          let second : page ≡ page_at i area = grind (arith, nat_tests, e) in
          λ n. change (view.entry (sym first n) (sym second n))
      by false e = refl

  -- areas, chains and spans stay
  pub rest-then : (before now new : View) (o : Option Area) → now ≡ record before { entry = now.entry } → new ≡ changed_in change i o now
      → new ≡ record before { entry = new.entry }
  rest-then before now new o rest is = subst (λ (v : View). v ≡ record before { entry = v.entry }) (sym is)
      (look-rest o now ∙ ap (λ (v : View). record v { entry = (changed_in change i o now).entry }) rest)

  -- a look that leaves its entry leaves all
  pub look-still : (area : Area) (view : View) → change (view.entry area.pid (page_at i area)) ≡ view.entry area.pid (page_at i area)
      → changed_in change i (Some area) view ≡ view
  look-still area view stays = λ n. record view { entry = λ p page. same p page n }
    where
      same : (p page : ℕ) → with_entry area.pid (page_at i area) (change (view.entry area.pid (page_at i area))) view.entry p page
          ≡ view.entry p page
      same p page = by (p == area.pid && page == page_at i area) refl
        where
          by : (b : Bool) → (p == area.pid && page == page_at i area) ≡ b
              → cond b (change (view.entry area.pid (page_at i area))) (view.entry p page) ≡ view.entry p page
          by true e =
              let first : p ≡ area.pid = grind (arith, nat_tests, e) in
              let second : page ≡ page_at i area = grind (arith, nat_tests, e) in
              stays ∙ (λ n. view.entry (sym first n) (sym second n))
          by false e = refl

  -- ---- one after the other

  over-rest : (areas : List ℕ) (view : View) → changed_over change i areas view ≡ record view { entry = (changed_over change i areas view).entry }
  over-rest [] view = refl
  over-rest (a ∷ areas) view =
      over-rest areas (changed_in change i (view.areas a) view)
      ∙ ap (λ (v : View). record v { entry = (changed_over change i areas (changed_in change i (view.areas a) view)).entry })
      (look-rest (view.areas a) view)

  over-entry : ((e : Pte) → change (change e) ≡ change e) → (areas : List ℕ) (view : View) (p page : ℕ)
      → (changed_over change i areas view).entry p page
      ≡ cond (list_any (λ a. is_page i (view.areas a) p page) areas) (change (view.entry p page)) (view.entry p page)
  over-entry twice [] view p page = refl
  over-entry twice (a ∷ areas) view p page =
      over-entry twice areas now p page
      ∙ ap (λ (v : View). cond (list_any (λ b. is_page i (v.areas b) p page) areas) (change (now.entry p page)) (now.entry p page))
      (look-rest (view.areas a) view)
      ∙ ap (λ e. cond later (change e) e) (look-entry (view.areas a) view p page)
      ∙ by (is_page i (view.areas a) p page) later
    where
      now : View
      now = changed_in change i (view.areas a) view

      later : Bool
      later = list_any (λ b. is_page i (view.areas b) p page) areas

      by : (b c : Bool) → cond c (change (cond b (change (view.entry p page)) (view.entry p page)))
          (cond b (change (view.entry p page)) (view.entry p page)) ≡ cond (b || c) (change (view.entry p page)) (view.entry p page)
      by true true = twice (view.entry p page)
      by true false = refl
      by false c = refl

-- so they do from one home
pub over-then : (change : Pte → Pte) (before now new : View) (home : ℕ × ℕ) (areas : List ℕ) → now ≡ record before { entry = now.entry }
    → new ≡ changed_over change home.1 areas now → new ≡ record before { entry = new.entry }
over-then change before now new home areas rest is = subst (λ (v : View). v ≡ record before { entry = v.entry }) (sym is)
    (over-rest change home.1 areas now ∙ ap (λ (v : View). record v { entry = (changed_over change home.1 areas now).entry }) rest)

-- ---- the looks that are left, where the changes are counted

-- the entry of the area's page is as it was
abbrev IsUntouched : ℕ → View → View → ℕ → Type 0
IsUntouched i before now a = (area : Area) → before.areas a ≡ Some area
    → now.entry area.pid (page_at i area) ≡ before.entry area.pid (page_at i area)

-- the areas that are left hold the index, each stands there once, with its entry as it was; and the looks that are left make of what stands now
-- what all make of what stood before
pub record IsUnderWay (change : Pte → Pte) (i : ℕ) (before now : View) (areas all : List ℕ) : Type 0 where
  pub held : AllByRecursion (IsHeld before i) areas
  pub once : (n : ℕ) → how_many (λ a. a == n) areas ≤ 1
  pub untouched : AllByRecursion (IsUntouched i before now) areas
  pub rest : now ≡ record before { entry = now.entry }
  pub changed : changed_over change i areas now ≡ changed_over change i all before

pub begin : (change : Pte → Pte) (view : View) (home : ℕ × ℕ) → AreSpanned view
    → IsUnderWay change home.1 view view (areas_from view home) (areas_from view home)
begin change view home spanned = record {
  held = all-held view home spanned;
  once = once-each view home spanned;
  untouched = same (areas_from view home);
  rest = refl;
  changed = refl;
}
  where
    same : (areas : List ℕ) → AllByRecursion (IsUntouched home.1 view view) areas
    same [] = tt
    same (a ∷ areas) = (λ area is. refl, same areas)

-- where the areas that are left are these
pub left-are : (change : Pte → Pte) (i : ℕ) (before now : View) (left areas all : List ℕ) → left ≡ areas
    → IsUnderWay change i before now left all → IsUnderWay change i before now areas all
left-are change i before now left areas all e h = subst (λ ns. IsUnderWay change i before now ns all) e h

module _ (change : Pte → Pte) (i : ℕ) (before now : View) (a : ℕ) (areas all : List ℕ) (h : IsUnderWay change i before now (a ∷ areas) all) where
  -- the area is there, now as before
  area-of : (area : Area) × (before.areas a ≡ Some area) × (holds i area ≡ true)
  area-of = by (before.areas a) refl h.held.0
    where
      by : (o : Option Area) → before.areas a ≡ o → IsSomeAnd o (λ area. holds i area ≡ true)
          → (area : Area) × (before.areas a ≡ Some area) × (holds i area ≡ true)
      by None e there = absurd there
      by (Some area) e there = (area, e, there)

  area-now : now.areas a ≡ before.areas a
  area-now = ap (λ (v : View). v.areas a) h.rest

  pub there-now : IsSomeAnd (now.areas a) (λ area. holds i area ≡ true)
  there-now = subst (λ o. IsSomeAnd o (λ area. holds i area ≡ true)) (sym area-now) h.held.0

  -- a test of its entry says now what it said before
  pub passes-before : (passes : Pte → Bool) → passes_in now passes i (now.areas a) ≡ passes_in before passes i (before.areas a)
  passes-before passes =
      let on = area-of in
      ap (passes_in now passes i) (area-now ∙ on.1)
      ∙ ap (λ e. holds i on.0 && passes e) (h.untouched.0 on.0 on.1)
      ∙ sym (ap (passes_in before passes i) on.1)

  -- one look more
  pub one-more : AreApart before → (new : View) → new ≡ changed_in change i (now.areas a) now → IsUnderWay change i before new areas all
  one-more apart new is = record {
    held = h.held.1;
    once = λ n. let o = h.once n in omega (arith, o);
    untouched = others areas none_here h.held.1 h.untouched.1;
    rest = rest-then change i before now new (now.areas a) h.rest is;
    changed = ap (changed_over change i areas) is ∙ h.changed;
  }
    where
      none_here : how_many (λ b. b == a) areas ≡ 0
      none_here =
          let o = h.once a in
          let itself : (a == a) ≡ true = grind (arith, nat_tests) in
          let first = ap (λ b. cond b 1 0 + how_many (λ b. b == a) areas) itself in
          omega (arith, o, first)

      -- the page of another area is another
      elsewhere : (b : ℕ) → (b == a) ≡ false → (area : Area) → before.areas b ≡ Some area → holds i area ≡ true
          → is_page i (now.areas a) area.pid (page_at i area) ≡ false
      elsewhere b ne area is there =
          let on = area-of in
          ap (λ o. is_page i o area.pid (page_at i area)) (area-now ∙ on.1)
          ∙ by (area.pid == on.0.pid && page_at i area == page_at i on.0) refl
        where
          by : (c : Bool) → (area.pid == area-of.0.pid && page_at i area == page_at i area-of.0) ≡ c → c ≡ false
          by false e = refl
          by true e =
              let on = area-of in
              let process : area.pid ≡ on.0.pid = grind (arith, nat_tests, e) in
              let page : page_at i area ≡ page_at i on.0 = grind (arith, nat_tests, e) in
              let same : b ≡ a = apart b a (page_at i area) area on.0 is on.1 process (holds-has area i there)
              (subst (λ x. has_page on.0 x ≡ true) (sym page) (holds-has on.0 i on.2)) in
              let one : (b == a) ≡ true = grind (arith, nat_tests, same) in
              absurd (false≢true (sym ne ∙ one))

      other : (b : ℕ) → (b == a) ≡ false → IsHeld before i b → IsUntouched i before now b → IsUntouched i before new b
      other b ne held untouched area at =
          ap (λ (v : View). v.entry area.pid (page_at i area)) is
          ∙ look-entry change i (now.areas a) now area.pid (page_at i area)
          ∙ ap (λ c. cond c (change (now.entry area.pid (page_at i area))) (now.entry area.pid (page_at i area)))
          (elsewhere b ne area at (subst (λ o. IsSomeAnd o (λ area. holds i area ≡ true)) at held))
          ∙ untouched area at

      others : (bs : List ℕ) → how_many (λ b. b == a) bs ≡ 0 → AllByRecursion (IsHeld before i) bs
          → AllByRecursion (IsUntouched i before now) bs → AllByRecursion (IsUntouched i before new) bs
      others [] none held untouched = tt
      others (b ∷ bs) none held untouched = (
        other b (not_it (b == a) none) held.0 untouched.0,
        others bs (omega (arith, none)) held.1 untouched.1,
      )
        where
          not_it : (c : Bool) → cond c 1 0 + how_many (λ m. m == a) bs ≡ 0 → c ≡ false
          not_it false e = refl
          not_it true e = absurd (omega (arith, e))

module _ {f : ℕ} {change : Pte → Pte} (of : IsOfFrame f change) where
  -- where nothing is left to find, the looks that are left change nothing
  still : (i : ℕ) (before now : View) → now ≡ record before { entry = now.entry } → (areas : List ℕ)
      → AllByRecursion (IsHeld before i) areas → AllByRecursion (IsUntouched i before now) areas
      → walk_of before (names_frame f) i areas ≡ [] → changed_over change i areas now ≡ now
  still i before now rest [] held untouched none = refl
  still i before now rest (a ∷ areas) held untouched none =
      ap (changed_over change i areas) (ap (λ o. changed_in change i o now) (ap (λ (v : View). v.areas a) rest)
      ∙ by (before.areas a) refl held.0 (none-here before (names_frame f) i a areas none).0)
      ∙ still i before now rest areas held.1 untouched.1 (none-here before (names_frame f) i a areas none).1
    where
      by : (o : Option Area) → before.areas a ≡ o → IsSomeAnd o (λ area. holds i area ≡ true) → passes_in before (names_frame f) i o ≡ false
          → changed_in change i o now ≡ now
      by None e there no_entry = absurd there
      by (Some area) e there no_entry =
          let same = untouched.0 area e in
          let unnamed = sym (ap (λ b. b && names_frame f (before.entry area.pid (page_at i area))) there) ∙ no_entry in
          look-still change i area now (ap change same ∙ of.other (before.entry area.pid (page_at i area)) unnamed ∙ sym same)

  pub done : (i : ℕ) (before now : View) (areas all : List ℕ) → IsUnderWay change i before now areas all
      → walk_of before (names_frame f) i areas ≡ [] → now ≡ changed_over change i all before
  done i before now areas all h none = sym (still i before now h.rest areas h.held h.untouched none) ∙ h.changed

-- ---- from one home after the other

pub left-with : (items : List Item) (n : ℕ) (x : Item) → n < length items → drop n items ≡ get_or items n x ∷ drop (n + 1) items
left-with items n x h = drop-cons items n x h ∙ ap (λ m. get_or items n x ∷ drop m items) next
  where
    next : suc n ≡ n + 1
    next = omega arith

-- one after the other those that are found from these homes
abbrev pub changed_from_all : (Pte → Pte) → List Item → View → View
changed_from_all change [] view = view
changed_from_all change (x ∷ homes) view = changed_from_all change homes (changed_over change x.1 (areas_from view x) view)

-- whether a look from one of them is at the page
abbrev is_found : View → List Item → ℕ → ℕ → Bool
is_found view [] p page = false
is_found view (x ∷ homes) p page =
    list_any (λ a. is_page x.1 (view.areas a) p page) (areas_from view x) || is_found view homes p page

-- one home more
pub from-then : (change : Pte → Pte) (now new whole : View) (left later : List Item) (x : Item) → left ≡ x ∷ later
    → new ≡ changed_over change x.1 (areas_from now x) now → changed_from_all change left now ≡ whole → changed_from_all change later new ≡ whole
from-then change now new whole left later x e is so_far =
    ap (changed_from_all change later) is ∙ sym (ap (λ homes. changed_from_all change homes now) e) ∙ so_far

either : (b : Bool) {c : Bool} → c ≡ true → (b || c) ≡ true
either true h = refl
either false h = h

-- a page that is reached from a home is found there
reached-found : (view : View) (x : Item) (p page : ℕ) → AreSpanned view → IsReached view x p page
    → list_any (λ a. is_page x.1 (view.areas a) p page) (areas_from view x) ≡ true
reached-found view x p page spanned r =
    any-where (λ a. is_page x.1 (view.areas a) p page) r.number (ap (λ o. is_page x.1 o p page) r.stands ∙ at) (areas_from view x)
    (some (how_many (λ a. a == r.number) (areas_from view x)) (one-area view x p page spanned r))
  where
    there : (holds x.1 r.area ≡ true) × (page_at x.1 r.area ≡ page)
    there = has-holds r.area page x.1 r.here r.index

    at : (p == r.area.pid && page == page_at x.1 r.area) ≡ true
    at = let of = r.of in let on = there.1 in grind (arith, nat_tests, of, on)

    some : (n : ℕ) → n ≡ 1 → 0 < n
    some n e = omega (arith, e)

item-found : (view : View) (x : Item) (p page : ℕ) → AreSpanned view → IsReached view x p page → (homes : List Item)
    → is_item x homes ≡ true → is_found view homes p page ≡ true
item-found view x p page spanned r [] h = absurd (false≢true h)
item-found view x p page spanned r (y ∷ ys) h = by (item-found view x p page spanned r ys) (same_item x y) refl h
  where
    by : (is_item x ys ≡ true → is_found view ys p page ≡ true) → (b : Bool) → same_item x y ≡ b → (b || is_item x ys) ≡ true
        → (list_any (λ a. is_page y.1 (view.areas a) p page) (areas_from view y) || is_found view ys p page) ≡ true
    by later true e h =
        let first : y.0 ≡ x.0 = grind (arith, nat_tests, e) in
        let second : y.1 ≡ x.1 = grind (arith, nat_tests, e) in
        ap (λ b. b || is_found view ys p page)
        ((λ n. list_any (λ a. is_page (second n) (view.areas a) p page) (areas_from view (first n, second n)))
        ∙ reached-found view x p page spanned r)
    by later false e h = either (list_any (λ a. is_page y.1 (view.areas a) p page) (areas_from view y)) (later h)

module _ {f : ℕ} {change : Pte → Pte} (of : IsOfFrame f change) where
  from-rest : (homes : List Item) (view : View)
      → changed_from_all change homes view ≡ record view { entry = (changed_from_all change homes view).entry }
  from-rest [] view = refl
  from-rest (x ∷ homes) view =
      let now = changed_over change x.1 (areas_from view x) view in
      from-rest homes now
      ∙ ap (λ (v : View). record v { entry = (changed_from_all change homes now).entry }) (over-rest change x.1 (areas_from view x) view)

  -- what is found, areas and spans alone say
  found-same : (homes : List Item) (old new : View) → new ≡ record old { entry = new.entry } → (p page : ℕ)
      → is_found new homes p page ≡ is_found old homes p page
  found-same homes old new rest p page = ap (λ (v : View). is_found v homes p page) rest ∙ same homes
    where
      same : (homes : List Item) → is_found (record old { entry = new.entry }) homes p page ≡ is_found old homes p page
      same [] = refl
      same (x ∷ homes) = ap (λ b. list_any (λ a. is_page x.1 (old.areas a) p page) (areas_from old x) || b) (same homes)

  from-entry : (homes : List Item) (view : View) (p page : ℕ) → (changed_from_all change homes view).entry p page
      ≡ cond (is_found view homes p page) (change (view.entry p page)) (view.entry p page)
  from-entry [] view p page = refl
  from-entry (x ∷ homes) view p page =
      from-entry homes now p page
      ∙ ap (λ b. cond b (change (now.entry p page)) (now.entry p page))
      (found-same homes view now (over-rest change x.1 (areas_from view x) view) p page)
      ∙ ap (λ e. cond (is_found view homes p page) (change e) e) (over-entry change x.1 of.twice (areas_from view x) view p page)
      ∙ by here (is_found view homes p page)
    where
      now : View
      now = changed_over change x.1 (areas_from view x) view

      here : Bool
      here = list_any (λ a. is_page x.1 (view.areas a) p page) (areas_from view x)

      by : (b c : Bool) → cond c (change (cond b (change (view.entry p page)) (view.entry p page)))
          (cond b (change (view.entry p page)) (view.entry p page)) ≡ cond (b || c) (change (view.entry p page)) (view.entry p page)
      by true true = of.twice (view.entry p page)
      by true false = refl
      by false c = refl

  -- where the homes cover the frame's entries, all are changed
  pub all-changed : (homes : List Item) (view : View) → AreSpanned view → AreCovered view (names_frame f) homes
      → changed_from_all change homes view ≡ with_changed change view
  all-changed homes view spanned covered =
      from-rest homes view
      ∙ (λ n. record view { entry = λ p page. (from-entry homes view p page ∙ each p page (names_frame f (view.entry p page)) refl) n })
    where
      each : (p page : ℕ) (b : Bool) → names_frame f (view.entry p page) ≡ b
          → cond (is_found view homes p page) (change (view.entry p page)) (view.entry p page) ≡ change (view.entry p page)
      each p page true named =
          let x = covered p page named in
          ap (λ b. cond b (change (view.entry p page)) (view.entry p page)) (item-found view x.0 p page spanned x.2 homes x.1)
      each p page false e = by (is_found view homes p page)
        where
          by : (b : Bool) → cond b (change (view.entry p page)) (view.entry p page) ≡ change (view.entry p page)
          by true = refl
          by false = sym (of.other (view.entry p page) e)

  -- so it is from one home
  pub home-changed : (home : ℕ × ℕ) (view : View) → AreSpanned view → IsCovered view (names_frame f) home
      → changed_over change home.1 (areas_from view home) view ≡ with_changed change view
  home-changed home view spanned covered =
      all-changed (home ∷ []) view spanned (λ p page named. (home, alone, covered p page named))
    where
      alone : is_item home (home ∷ []) ≡ true
      alone = grind (arith, nat_tests)
