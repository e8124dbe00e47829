use Rattle.std.proofs.Common.{◌≡◌, ◌≤◌, ℕ, Bool, true, false, cond, ◌==◌, ◌||◌, List, [], ◌∷◌, Option, Some, None, refl, sym, subst, arith}
use Rattle.std.proofs.lemmas.Bool.Decides.{nat_tests}
use Rattle.std.specs.List.{AllByRecursion}
use Rattle.std.specs.Prelude.{IfSome, IsSomeAnd}
use Rattle.av_base.specs.Words.{is_in, with_at}
use Rattle.av_vma.specs.declared.area.Area.{Area}
use Rattle.av_vma.specs.Pages.{Pages, has_page, pages_in}
use Rattle.av_plain.specs.Areas.{AnonVma, Anons, Areas, Rmap, no_anons, none_on, root_anon}
use Rattle.av_plain.specs.Fork.{IsIdle, own_of_child, with_child, with_child_area}
use Rattle.av_laws.specs.Areas.{area, area_of, family, four, one_root, rmap_with, root}
use Rattle.av_laws.specs.Examples.{read_write}
use Rattle.av_laws.specs.Flags.{wiped_off}
use Rattle.av_laws.specs.Forks.{four_deep, siblings, three_of_root, two_of_root}
use Rattle.av_laws.proofs.forks.forks_follow.Goals as goal

-- each area's own anon_vma is another
abbrev NoneOwns : ℕ → Option Area → Type 0
NoneOwns v o = IfSome o (λ (a : Area). a.anon ≡ Some v → ⊥)

none-in : (v : ℕ) (areas : List Area) → AllByRecursion (λ (a : Area). a.anon ≡ Some v → ⊥) areas → (page : ℕ)
    → NoneOwns v (pages_in (Some areas) page)
none-in v [] h page = tt
none-in v (a ∷ areas) h page = by (has_page a page) (none-in v areas h.1 page)
  where
    by : (b : Bool) → NoneOwns v (pages_in (Some areas) page) → NoneOwns v (cond b (Some a) (pages_in (Some areas) page))
    by true rest = h.0
    by false rest = rest

none-at : (v p : ℕ) (x : Pages) (on : Areas) → ((page : ℕ) → NoneOwns v (x page)) → ((q page : ℕ) → NoneOwns v (on q page)) → (q page : ℕ) →
    NoneOwns v (with_at p x on q page)
none-at v p x on here others q page = by (q == p)
  where
    by : (b : Bool) → NoneOwns v ((cond b x (on q)) page)
    by true = here page
    by false = others q page

differ : (a b : ℕ) → (a == b) ≡ false → Some a ≡ Some b → ⊥
differ a b h e = let same : a ≡ b = cc in grind (arith, nat_tests, h, same)

-- before the first area goes, process 1 alone has areas
abbrev start : List Area → Anons → Rmap
start areas anons = let r = rmap_with areas anons in record r { areas = with_at 2 none_on r.areas }

none-start : (v : ℕ) (areas : List Area) (anons : Anons) → AllByRecursion (λ (a : Area). a.anon ≡ Some v → ⊥) areas → (p page : ℕ) →
    NoneOwns v ((start areas anons).areas p page)
none-start v areas anons h = none-at v 2 none_on (rmap_with areas anons).areas (λ page. tt)
    (none-at v 1 (pages_in (Some areas)) (λ p page. None) (none-in v areas h) (λ p page. tt))

-- a root isn't
not-root : (r : Rmap) (v : ℕ) (anon : AnonVma) → r.anons.anon v ≡ Some anon → anon.root ≡ v → IsIdle r v → ⊥
not-root r v anon is root idle = subst (λ o. IsSomeAnd o (λ anon. anon.root ≡ v → ⊥)) is idle.below root

-- nor one that an area has as its own
not-active : (r : Rmap) (v p page : ℕ) (area : Area) → r.areas p page ≡ Some area → area.anon ≡ Some v → IsIdle r v → ⊥
not-active r v p page area on own idle = subst (λ o. NoneOwns v o) on (idle.free p page) own

-- what holds of each number of a list holds of one that is in it
among : (P : ℕ → Type 0) (vs : List ℕ) (v : ℕ) → is_in v vs ≡ true → AllByRecursion P vs → P v
among P [] v is h = cc
among P (a ∷ vs) v is h = by (v == a) refl is (λ later. among P vs v later h.1)
  where
    by : (b : Bool) → (v == a) ≡ b → (b || is_in v vs) ≡ true → (is_in v vs ≡ true → P v) → P v
    by true e is rest = let same : v ≡ a = grind (arith, nat_tests, e) in subst P (sym same) h.0
    by false e is rest = rest is

-- the member isn't idle
abbrev IsNot : Rmap → ℕ → Type 0
IsNot r v = IsIdle r v → ⊥

-- all but the root are 1 at the least
above-root : (r : Rmap) → r.anons.anon 0 ≡ Some root → (w : ℕ) → IsIdle r w → 1 ≤ w
above-root r is w idle = by (w == 0) refl
  where
    by : (b : Bool) → (w == 0) ≡ b → 1 ≤ w
    by true e = let same : w ≡ 0 = grind (arith, nat_tests, e) in absurd (not-root r 0 root is refl (subst (IsIdle r) same idle))
    by false e = grind (arith, nat_tests, e)

-- what an area leaves that goes with this member of its chain, or a new one
abbrev after_area : ℕ → Option ℕ → Area → Rmap → Rmap
after_area own reused area r = record (with_child_area 2 (Some (own_of_child r.anons reused)) area r) {
  anons = with_child own reused r.anons;
}

pub returns-clause-bare : goal.returns-clause-bare
returns-clause-bare c =
    let next = with_child_area 2 None (area 0x10 0x14 read_write) (start four no_anons) in
    (next, (four, omega arith, λ page. refl, (next, refl, refl)), refl, refl)

pub returns-clause-new_below_root : goal.returns-clause-new_below_root
returns-clause-new_below_root c =
    let old = start (area_of 0 0x10 0x14 ∷ []) one_root in
    let next = after_area 0 None (area_of 0 0x10 0x14) old in (
      next,
      (
        area_of 0 0x10 0x14 ∷ [],
        omega arith,
        λ page. refl,
        (next, (None, (λ v is. among (IsNot old) (0 ∷ []) v is (not-root old 0 (root_anon 0) refl refl, tt)), refl), refl),
      ),
      refl,
      refl,
    )

pub returns-clause-grandchild : goal.returns-clause-grandchild
returns-clause-grandchild c =
    let old = start (area_of 1 0x10 0x14 ∷ []) family in
    let next = after_area 1 None (area_of 1 0x10 0x14) old in (
      next,
      (
        area_of 1 0x10 0x14 ∷ [],
        omega arith,
        λ page. refl,
        (
          next,
          (
            None,
            (λ v is. among (IsNot old) (0 ∷ 1 ∷ []) v is
                (not-root old 0 root refl refl, (not-active old 1 1 0x10 (area_of 1 0x10 0x14) refl refl, tt))),
            refl,
          ),
          refl,
        ),
      ),
      refl,
      refl,
    )

pub returns-clause-of_two_children : goal.returns-clause-of_two_children
returns-clause-of_two_children c =
    let old = start (area_of 2 0x10 0x14 ∷ []) siblings in
    let next = after_area 2 None (area_of 2 0x10 0x14) old in (
      next,
      (
        area_of 2 0x10 0x14 ∷ [],
        omega arith,
        λ page. refl,
        (
          next,
          (
            None,
            (λ v is. among (IsNot old) (0 ∷ 1 ∷ 2 ∷ []) v is (
              not-root old 0 root refl refl,
              ((λ idle. let few = idle.few in omega (arith, few)), (not-active old 2 1 0x10 (area_of 2 0x10 0x14) refl refl, tt)),
            )),
            refl,
          ),
          refl,
        ),
      ),
      refl,
      refl,
    )

pub returns-clause-lowest_again : goal.returns-clause-lowest_again
returns-clause-lowest_again c =
    let old = start (area_of 3 0x10 0x14 ∷ []) four_deep in
    let next = after_area 3 (Some 1) (area_of 3 0x10 0x14) old in (
      next,
      (
        area_of 3 0x10 0x14 ∷ [],
        omega arith,
        λ page. refl,
        (
          next,
          (
            Some 1,
            (
              refl,
              record {
                few = omega arith;
                free = none-start 1 (area_of 3 0x10 0x14 ∷ []) four_deep (differ 3 1 refl, tt);
                below = λ e. omega (arith, e);
              },
              λ w is idle. above-root old refl w idle,
            ),
            refl,
          ),
          refl,
        ),
      ),
      refl,
      refl,
    )

pub returns-clause-two_in_turn : goal.returns-clause-two_in_turn
returns-clause-two_in_turn c =
    let old = start two_of_root one_root in
    let mid = after_area 0 None (area_of 0 0x10 0x12) old in
    let next = after_area 0 None (area_of 0 0x14 0x16) mid in (
      next,
      (
        two_of_root,
        (omega arith, omega arith, omega arith),
        λ page. refl,
        (
          mid,
          (None, (λ v is. among (IsNot old) (0 ∷ []) v is (not-root old 0 (root_anon 0) refl refl, tt)), refl),
          (
            next,
            (None, (λ v is. among (IsNot mid) (0 ∷ []) v is (not-root mid 0 (root_anon 0) refl refl, tt)), refl),
            refl,
          ),
        ),
      ),
      refl,
      refl,
    )

pub returns-clause-by_flags : goal.returns-clause-by_flags
returns-clause-by_flags c =
    let old = start three_of_root one_root in
    let mid = with_child_area 2 None (record (area_of 0 0x12 0x14) { flags = wiped_off }) old in
    let next = after_area 0 None (area_of 0 0x14 0x16) mid in (
      next,
      (
        three_of_root,
        (omega arith, omega arith, (omega arith, omega arith, omega arith)),
        λ page. refl,
        (
          mid,
          refl,
          (
            next,
            (None, (λ v is. among (IsNot mid) (0 ∷ []) v is (not-root mid 0 (root_anon 0) refl refl, tt)), refl),
            refl,
          ),
        ),
      ),
      refl,
      refl,
    )
