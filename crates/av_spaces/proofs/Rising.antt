-- What follows from the order of a process's areas: each is on all of its pages and on no other.
use Rattle.std.proofs.Common.{◌≡◌, ℕ, ◌≤◌, Bool, true, false, cond, List, [], ◌∷◌, Option, Some, None, IfSome, refl, sym, ap, subst, ◌∙◌, arith}
use Rattle.std.proofs.lemmas.Bool.{false_from_ne_true}
use Rattle.std.proofs.lemmas.Option.{none-some, same_Some}
use Rattle.av_vma.specs.declared.area.Area.{Area}
use Rattle.av_vma.specs.Index.{first_of, past_of}
use Rattle.av_vma.specs.Pages.{AreLaid, has_page, pages_in}
use Rattle.av_vma.proofs.Laid.{has_parts}
use Rattle.av_spaces.specs.Spaces.{Spaces, IsOwn, AreRising, AllRising, areas_of, pages_of}

first_own : (p : ℕ) (a : Area) (areas : List Area) → AreRising p (a ∷ areas) → IsOwn p a
first_own p a [] h = h
first_own p a (b ∷ areas) h = h.0

rest_rising : (p : ℕ) (a : Area) (areas : List Area) → AreRising p (a ∷ areas) → AreRising p areas
rest_rising p a [] h = tt
rest_rising p a (b ∷ areas) h = h.2

-- what is known of the area on a page
record IsOn (p page : ℕ) (area : Area) : Type 0 where
  pub own : IsOwn p area
  pub has : has_page area page ≡ true

on_page : (p : ℕ) (areas : List Area) (page : ℕ) (area : Area) → AreRising p areas → pages_in (Some areas) page ≡ Some area → IsOn p page area
on_page p [] page area h is = cc
on_page p (a ∷ areas) page area h is = by (on_page p areas page area (rest_rising p a areas h)) (has_page a page) refl is
  where
    by : (pages_in (Some areas) page ≡ Some area → IsOn p page area) → (b : Bool) → has_page a page ≡ b →
        cond b (Some a) (pages_in (Some areas) page) ≡ Some area → IsOn p page area
    by later true e is = subst (IsOn p page) (same_Some a area is) (record { own = first_own p a areas h; has = e })
    by later false e is = later is

-- an area behind another begins past it
past_first : (p : ℕ) (a : Area) (areas : List Area) (page : ℕ) (area : Area) → AreRising p (a ∷ areas) → pages_in (Some areas) page ≡ Some area →
    past_of a ≤ first_of area
past_first p a [] page area h is = cc
past_first p a (b ∷ areas) page area h is = by (past_first p b areas page area h.2) (has_page b page) is
  where
    by : (pages_in (Some areas) page ≡ Some area → past_of b ≤ first_of area) → (c : Bool)
        → cond c (Some b) (pages_in (Some areas) page) ≡ Some area →
        past_of a ≤ first_of area
    by later true is = subst (λ (x : Area). past_of a ≤ first_of x) (same_Some b area is) h.1
    by later false is = let after = later is in let some = (first_own p b areas h.2).whole.some in let apart = h.1 in
        omega (arith, after, some, apart)

all_pages : (p : ℕ) (areas : List Area) (page other : ℕ) (area : Area) → AreRising p areas → pages_in (Some areas) page ≡ Some area →
    has_page area other ≡ true → pages_in (Some areas) other ≡ Some area
all_pages p [] page other area h is has = cc
all_pages p (a ∷ areas) page other area h is has =
    by (λ is. all_pages p areas page other area (rest_rising p a areas h) is has) (has_page a page) refl is
  where
    by : (pages_in (Some areas) page ≡ Some area → pages_in (Some areas) other ≡ Some area) → (b : Bool) → has_page a page ≡ b →
        cond b (Some a) (pages_in (Some areas) page) ≡ Some area → cond (has_page a other) (Some a) (pages_in (Some areas) other) ≡ Some area
    by later true e is = let same = same_Some a area is in ap (λ b. cond b (Some a) (pages_in (Some areas) other))
        (subst (λ (x : Area). has_page x other ≡ true) (sym same) has) ∙ ap Some same
    by later false e is =
        let after = past_first p a areas page area h is in
        let here = has_parts area other has in
        let not : has_page a other ≡ false = false_from_ne_true _ (λ yes. let there = has_parts a other yes in
        absurd (omega (arith, after, here.0, there.1))) in
        ap (λ b. cond b (Some a) (pages_in (Some areas) other)) not ∙ later is

pub laid_in : (p : ℕ) (areas : Option (List Area)) → IfSome areas (AreRising p) → AreLaid (pages_in areas)
laid_in p None h = record {
  whole = λ page area is. absurd (none-some area is);
  here = λ page area is. absurd (none-some area is);
  all = λ page other area is has. absurd (none-some area is);
}
laid_in p (Some areas) h = record {
  whole = λ page area is. (on_page p areas page area h is).own.whole;
  here = λ page area is. (on_page p areas page area h is).has;
  all = λ page other area is has. all_pages p areas page other area h is has;
}

-- the areas of each process are laid
pub laid : (s : Spaces) (p : ℕ) → AllRising s → AreLaid (pages_of s p)
laid s p rising = laid_in p (areas_of s p) (rising p)
