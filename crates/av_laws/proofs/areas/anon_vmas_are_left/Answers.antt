use Rattle.std.proofs.Common.{◌≡◌, ℕ, Bool, true, false, ◌==◌, ◌||◌, [], ◌∷◌, Option, Some, None, refl, sym, subst, arith}
use Rattle.std.proofs.lemmas.Bool.{false≢true}
use Rattle.std.proofs.lemmas.Bool.Decides.{nat_tests}
use Rattle.std.specs.Prelude.{IfSome, IsSome, IsSomeAnd, if◌then◌else◌}
use Rattle.av_base.specs.Words.{is_in}
use Rattle.av_vma.specs.Pages.{has_page, pages_in}
use Rattle.av_vma.specs.declared.area.Area.{Area}
use Rattle.av_plain.specs.Areas.{AnonVma, Areas, IsLinked, chain_by, none_on}
use Rattle.av_laws.specs.Areas.{anons_of, area_of, areas_of, child, family, root}
use Rattle.av_laws.proofs.areas.anon_vmas_are_left.Goals as goal

-- the two pages of the root, and those of the child
abbrev first : Areas
first = areas_of (area_of 0 0x10 0x12 ∷ [])

abbrev second : Areas
second = areas_of (area_of 1 0x14 0x16 ∷ [])

-- each area of the first is of anon_vma 0
all_of_root : (p page : ℕ) → IfSome (first p page) (λ area. area.anon ≡ Some 0)
all_of_root p page = by (p == 1) (has_page (area_of 0 0x10 0x12) page)
  where
    here : (b : Bool) → IfSome (if b then Some (area_of 0 0x10 0x12) else None) (λ area. area.anon ≡ Some 0)
    here true = refl
    here false = tt

    by : (a b : Bool) → IfSome ((if a then pages_in (Some (area_of 0 0x10 0x12 ∷ [])) else none_on) page) (λ area. area.anon ≡ Some 0)
    by true b = here (has_page (area_of 0 0x10 0x12) page)
    by false b = tt

-- so no other one is linked
linked-root : (v : ℕ) → IsLinked family first v → v ≡ 0
linked-root v h = by (first h.0 h.1) (all_of_root h.0 h.1) h.2
  where
    by : (o : Option Area) → IfSome o (λ area. area.anon ≡ Some 0)
        → IsSomeAnd o (λ area. is_in v (chain_by family area.anon) ≡ true) → v ≡ 0
    by None own in_chain = absurd in_chain
    by (Some area) own in_chain =
        let e : ((v == 0) || false) ≡ true = subst (λ own. is_in v (chain_by family own) ≡ true) own in_chain in
        grind (arith, nat_tests, e)

-- what holds of anon_vma 0, and of 1 where it is there, holds of each that is
each : (P : ℕ → Type 0) (o : Option AnonVma) (v : ℕ) → P 0 → (IsSome o → P 1) → IsSome ((anons_of (Some root) o 2).anon v) → P v
each P o v h g = by (v == 0) (v == 1) refl refl
  where
    by : (a b : Bool) → (v == 0) ≡ a → (v == 1) ≡ b → IsSome (if a then Some root else (if b then o else None)) → P v
    by true b is is' there = let e : v ≡ 0 = grind (arith, nat_tests, is) in subst P (sym e) h
    by false true is is' there = let e : v ≡ 1 = grind (arith, nat_tests, is') in subst P (sym e) (g there)
    by false false is is' there = absurd (false≢true there)

pub returns-clause-child_goes : goal.returns-clause-child_goes
returns-clause-child_goes c = record {
  next = refl;
  there = λ v. each (IsLinked family first) None v (1, 0x10, refl) (λ none. absurd (false≢true none));
  linked = λ v h. subst (λ v. (anons_of (Some root) None 2).anon v ≡ family.anon v) (sym (linked-root v h)) refl;
}

pub returns-clause-both_stay : goal.returns-clause-both_stay
returns-clause-both_stay c = record {
  next = refl;
  there = λ v. each (IsLinked family second) (Some child) v (1, 0x14, refl) (λ some. (1, 0x14, refl));
  linked = λ v h. refl;
}
