-- Which anon_vma an area of a child has again: by the kernel's counts the one that the definitions choose.
use Rattle.std.proofs.Common.{◌≡◌, ℕ, zero, suc, ◌<◌, ◌≤◌, ◌↔◌, Bool, true, false, cond, not, ◌&&◌, ◌||◌, ◌==◌, find, List, [], ◌∷◌, Option, Some, None, option_map, IfSome, IsSomeAnd, refl, sym, ap, subst, ◌∙◌, arith}
use Rattle.std.proofs.lemmas.Bool.{eqb-true, false≢true}
use Rattle.std.proofs.lemmas.Bool.Decides.{nat_tests}
use Rattle.std.specs.Option.{option_map_or}
use Rattle.std.specs.Prelude.{nat_lt}
use Rattle.av_base.specs.Words.{how_many, is_in}
use Rattle.std.specs.List.{range_with_len, AllByRecursion}
use Rattle.av_vma.specs.declared.area.Area.{Area}
use Rattle.av_vma.specs.Areas.{area_of}
use Rattle.av_anon.specs.declared.anons.Anons.{Anons as AnonSet}
use Rattle.av_anon.specs.declared.infos.Info.{Info}
use Rattle.av_anon.specs.Anons.{IsRising, family, own_of}
use Rattle.av_anon.specs.Fork.{is_idle, member_to_reuse}
use Rattle.av_anon.specs.Order.{is_child as is_child_in, owns}
use Rattle.av_anon.proofs.Choosing.{found_in}
use Rattle.av_anon.proofs.OrderLemmas.{how_many-below}
use Rattle.av_merge.specs.Forking.{Lineage}
use Rattle.av_merge.specs.Kin.{kin_in}
use Rattle.av_spaces.specs.Fork.{kin_of as kin_now}
use Rattle.av_spaces.specs.Kin.{AnonsFit, IsOwnedIn, info_of}
use Rattle.av_spaces.specs.Spaces.{AllSpaces, Spaces, pages_of as areas_on}
use Rattle.av_plain.specs.Areas.{AnonVma, Rmap, chain_by}
use Rattle.av_plain.specs.Fork.{IsIdle, IsReused, children, is_child}
use Rattle.av_plain.specs.Stands.{kin_of}

-- the chain of an area, by its own anon_vma
abbrev pub chain_in : Lineage → Option ℕ → List ℕ
chain_in k None = []
chain_in k (Some own) = k.chain own

-- the areas and anon_vmas that a fork goes by are those of the definitions
pub record Shows (spaces : Spaces) (k : Lineage) (r : Rmap) : Type 0 where
  pub areas : (p page : ℕ) → areas_on spaces p page ≡ r.areas p page
  pub next : k.next ≡ r.anons.next
  pub kin : (v : ℕ) → option_map kin_in (k.info v) ≡ option_map kin_of (r.anons.anon v)
  pub chains : (p page : ℕ) → IfSome (r.areas p page) (λ area. chain_in k area.anon ≡ chain_by r.anons area.anon)

-- ---- the first of a list that rises is the lowest

head_passes : (test : ℕ → Bool) (x : ℕ) (xs : List ℕ) (v : ℕ) → test x ≡ true → find test (x ∷ xs) ≡ Some v → x ≡ v
head_passes test x xs v is h = same (sym (ap (λ b. cond b (Some x) (find test xs)) is) ∙ h)
  where
    same : ◌≡◌ {A = Option ℕ} (Some x) (Some v) → x ≡ v
    same e = cc

head_fails : (test : ℕ → Bool) (x : ℕ) (xs : List ℕ) (o : Option ℕ) → test x ≡ false → find test (x ∷ xs) ≡ o → find test xs ≡ o
head_fails test x xs o is h = sym (ap (λ b. cond b (Some x) (find test xs)) is) ∙ h

none_passes : (test : ℕ → Bool) (xs : List ℕ) → find test xs ≡ None → (w : ℕ) → is_in w xs ≡ true → test w ≡ true → ⊥
none_passes test [] h w there passes = false≢true there
none_passes test (x ∷ xs) h w there passes = by (test x) refl (λ none later. none_passes test xs none w later passes)
  where
    no : ◌≡◌ {A = Option ℕ} (Some x) None → ⊥
    no e = cc

    by : (b : Bool) → test x ≡ b → (find test xs ≡ None → is_in w xs ≡ true → ⊥) → ⊥
    by true is rest = no (sym (ap (λ b. cond b (Some x) (find test xs)) is) ∙ h)
    by false is rest = at (w == x) refl there
      where
        at : (c : Bool) → (w == x) ≡ c → (c || is_in w xs) ≡ true → ⊥
        at true e there = false≢true (sym is ∙ ap test (sym (eqb-true w x e)) ∙ passes)
        at false e there = rest (head_fails test x xs None is h) there

above : (x : ℕ) (xs : List ℕ) → AllByRecursion (λ y. x < y) xs → (w : ℕ) → is_in w xs ≡ true → x < w
above x [] all w there = absurd (false≢true there)
above x (y ∷ ys) all w there = by (w == y) refl there (above x ys all.1 w)
  where
    by : (b : Bool) → (w == y) ≡ b → (b || is_in w ys) ≡ true → (is_in w ys ≡ true → x < w) → x < w
    by true e there rest = subst (λ n. x < n) (sym (eqb-true w y e)) all.0
    by false e there rest = rest there

lowest : (test : ℕ → Bool) (xs : List ℕ) (v : ℕ) → IsRising xs → find test xs ≡ Some v → (w : ℕ) → is_in w xs ≡ true → test w ≡ true → v ≤ w
lowest test [] v rising h w there passes = absurd (false≢true there)
lowest test (x ∷ xs) v rising h w there passes =
    by (test x) refl (w == x) refl there (λ later in_rest. lowest test xs v rising.1 later w in_rest passes)
  where
    by : (b : Bool) → test x ≡ b → (c : Bool) → (w == x) ≡ c → (c || is_in w xs) ≡ true → (find test xs ≡ Some v → is_in w xs ≡ true → v ≤ w) → v ≤ w
    by true is true e there rest = let first = head_passes test x xs v is h in let same = eqb-true w x e in omega (arith, first, same)
    by true is false e there rest = let first = head_passes test x xs v is h in let less = above x xs rising.0 w there in omega (arith, first, less)
    by false is true e there rest = absurd (false≢true (sym is ∙ ap test (sym (eqb-true w x e)) ∙ passes))
    by false is false e there rest = rest (head_fails test x xs (Some v) is h) there

found_passes : (test : ℕ → Bool) (xs : List ℕ) (v : ℕ) → find test xs ≡ Some v → test v ≡ true
found_passes test [] v h = absurd (no h)
  where
    no : ◌≡◌ {A = Option ℕ} None (Some v) → ⊥
    no e = cc
found_passes test (x ∷ xs) v h = by (test x) refl (found_passes test xs v)
  where
    by : (b : Bool) → test x ≡ b → (find test xs ≡ Some v → test v ≡ true) → test v ≡ true
    by true is rest = ap test (sym (head_passes test x xs v is h)) ∙ is
    by false is rest = rest (head_fails test x xs (Some v) is h)

-- ---- kin

-- an anon_vma's root, by its kin
abbrev root_by : Option (ℕ × ℕ) → ℕ
root_by None = 0
root_by (Some k) = k.0

-- ---- which members are idle

module _ (mid : AllSpaces) (a : AnonSet) (fit : AnonsFit mid a) (r : Rmap) (shows : Shows mid.processes (kin_now mid a) r) where
  -- as many have it as their parent
  child_same : (v u : ℕ) → is_child_in v (info_of a u) ≡ is_child v (r.anons.anon u)
  child_same v u = by (info_of a u) ∙ ap (child_of) (shows.kin u) ∙ sym (of (r.anons.anon u))
    where
      child_of : Option (ℕ × ℕ) → Bool
      child_of None = false
      child_of (Some k) = k.1 == v

      by : (o : Option Info) → is_child_in v o ≡ child_of (option_map kin_in o)
      by None = refl
      by (Some i) = refl

      of : (o : Option AnonVma) → is_child v o ≡ child_of (option_map kin_of o)
      of None = refl
      of (Some anon) = refl

  children_same : (v : ℕ) → how_many (λ u. is_child_in v (info_of a u)) (range_with_len 0 a.next) ≡ children r.anons v
  children_same v =
      how_many-below (λ u. is_child_in v (info_of a u)) (λ u. is_child v (r.anons.anon u)) 0 a.next (λ u _. child_same v u)
      ∙ ap (λ n. how_many (λ u. is_child v (r.anons.anon u)) (range_with_len 0 n)) shows.next

  -- an area has it as its own
  owned_at : (v p page : ℕ) (area : Area) → r.areas p page ≡ Some area → area.anon ≡ Some v → IsOwnedIn mid v
  owned_at v p page area is own = (p, page, subst (λ o. IsSomeAnd o (λ area. area.anon ≡ Some v)) (sym (shows.areas p page ∙ is)) own)

  owned_in : (v : ℕ) → IsOwnedIn mid v → IsIdle r v → ⊥
  owned_in v owned idle = by (r.areas owned.0 owned.1) (idle.free owned.0 owned.1)
      (subst (λ o. IsSomeAnd o (λ area. area.anon ≡ Some v)) (shows.areas owned.0 owned.1) owned.2)
    where
      by : (o : Option Area) → IfSome o (λ area. area.anon ≡ Some v → ⊥) → IsSomeAnd o (λ area. area.anon ≡ Some v) → ⊥
      by None free is = is
      by (Some area) free is = free is

  module _ (v : ℕ) (i : Info) (is : info_of a v ≡ Some i) where
    active_is : (1 ≤ i.active) ↔ IsOwnedIn mid v
    active_is = subst (λ o. IfSome o (λ i. (1 ≤ i.active) ↔ IsOwnedIn mid v)) is (fit.active v)

    few_is : i.children ≡ children r.anons v
    few_is = (fit.order.counted v i is).children ∙ children_same v

    kin_is : Some (i.root, i.parent) ≡ option_map kin_of (r.anons.anon v)
    kin_is = sym (ap (option_map kin_in) is) ∙ shows.kin v

    idle_by : nat_lt i.children 2 ≡ true → (i.active == 0) ≡ true → not (i.root == v) ≡ true → IsIdle r v
    idle_by few free below = record {
      few = let n = few_is in let less : i.children < 2 = grind (arith, nat_tests, few) in omega (arith, n, less);
      free = λ p page. free_at p page (r.areas p page) refl;
      below = below_at (r.anons.anon v) kin_is;
    }
      where
        free_at : (p page : ℕ) (o : Option Area) → r.areas p page ≡ o → IfSome o (λ area. area.anon ≡ Some v → ⊥)
        free_at p page None e = tt
        free_at p page (Some area) e = λ own. let some = active_is.1 (owned_at v p page area e own) in
            let none = eqb-true i.active 0 free in absurd (omega (arith, some, none))

        other : (n m : ℕ) → n ≡ m → not (m == v) ≡ true → n ≡ v → ⊥
        other n m e h at = grind (arith, nat_tests)

        below_at : (o : Option AnonVma) → Some (i.root, i.parent) ≡ option_map kin_of o → IsSomeAnd o (λ anon. anon.root ≡ v → ⊥)
        below_at None e = absurd cc
        below_at (Some anon) e = other anon.root i.root (sym (ap root_by e)) below

    idle_is : IsIdle r v → (nat_lt i.children 2 && (i.active == 0 && not (i.root == v))) ≡ true
    idle_is idle = all (nat_lt i.children 2) (i.active == 0) (not (i.root == v)) few (none i.active active_is.0)
        (below_at (r.anons.anon v) kin_is idle.below)
      where
        all : (a b c : Bool) → a ≡ true → b ≡ true → c ≡ true → (a && (b && c)) ≡ true
        all true true c p q s = s
        all true false c p q s = q
        all false b c p q s = p

        few : nat_lt i.children 2 ≡ true
        few = let n = few_is in let less : i.children < 2 = (let m = idle.few in omega (arith, n, m)) in grind (arith, nat_tests, less)

        none : (n : ℕ) → (1 ≤ n → IsOwnedIn mid v) → (n == 0) ≡ true
        none zero h = refl
        none (suc n) h = absurd (owned_in v (h (omega arith)) idle)

        other : (n m : ℕ) → n ≡ m → (n ≡ v → ⊥) → not (m == v) ≡ true
        other n m e h = grind (arith, nat_tests)

        below_at : (o : Option AnonVma) → Some (i.root, i.parent) ≡ option_map kin_of o → IsSomeAnd o (λ anon. anon.root ≡ v → ⊥)
            → not (i.root == v) ≡ true
        below_at None e h = absurd h
        below_at (Some anon) e h = other anon.root i.root (sym (ap root_by e)) h

  -- one that the kernel finds idle is idle, and the other way round
  idle_found : (v : ℕ) → is_idle v (info_of a v) ≡ true → IsIdle r v
  idle_found v h = by (info_of a v) refl h
    where
      parts : (a b c : Bool) → (a && (b && c)) ≡ true → (a ≡ true) × (b ≡ true) × (c ≡ true)
      parts true true c h = (refl, refl, h)
      parts true false c h = absurd (false≢true h)
      parts false b c h = absurd (false≢true h)

      by : (o : Option Info) → info_of a v ≡ o → is_idle v o ≡ true → IsIdle r v
      by None is h = absurd (false≢true h)
      by (Some i) is h = let p = parts (nat_lt i.children 2) (i.active == 0) (not (i.root == v)) h in idle_by v i is p.0 p.1 p.2

  found_where_idle : (v : ℕ) → IsIdle r v → is_idle v (info_of a v) ≡ true
  found_where_idle v idle = by (info_of a v) refl
    where
      gone : (o : Option AnonVma) → None ≡ option_map kin_of o → IsSomeAnd o (λ anon. anon.root ≡ v → ⊥) → ⊥
      gone None e h = h
      gone (Some anon) e h = cc

      by : (o : Option Info) → info_of a v ≡ o → is_idle v o ≡ true
      by None is = absurd (gone (r.anons.anon v) (sym (ap (option_map kin_in) is) ∙ shows.kin v) idle.below)
      by (Some i) is = idle_is v i is idle

  -- ---- the member that is had again

  chain_rises : (own : ℕ) → IsRising ((kin_now mid a).chain own)
  chain_rises own = by (find (λ b. owns own (own_of (area_of mid.areas b))) ((family a).users own))
    where
      by : (o : Option ℕ) → IsRising (option_map_or (family a).chain o [])
      by None = tt
      by (Some b) = (fit.order.chains b).rising

  pub is_reused : (own : ℕ) → (kin_now mid a).chain own ≡ chain_by r.anons (Some own)
      → IsReused r (chain_by r.anons (Some own)) (member_to_reuse (info_of a) ((kin_now mid a).chain own))
  is_reused own same = subst (λ xs. IsReused r xs (member_to_reuse (info_of a) ((kin_now mid a).chain own))) same
      (by ((kin_now mid a).chain own) (chain_rises own) (member_to_reuse (info_of a) ((kin_now mid a).chain own)) refl)
    where
      by : (xs : List ℕ) → IsRising xs → (o : Option ℕ) → member_to_reuse (info_of a) xs ≡ o → IsReused r xs o
      by xs rising None is = λ w there idle. none_passes (λ v. is_idle v (info_of a v)) xs is w there (found_where_idle w idle)
      by xs rising (Some v) is = (
        found_in (λ v. is_idle v (info_of a v)) xs v is,
        idle_found v (found_passes (λ v. is_idle v (info_of a v)) xs v is),
        λ w there idle. lowest (λ v. is_idle v (info_of a v)) xs v rising is w there (found_where_idle w idle),
      )
