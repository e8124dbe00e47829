-- What the calls of the swap cache leave of the cache and the areas that are on.
use Rattle.std.proofs.Common.{◌≡◌, ℕ, ◌+◌, ◌≤◌, Bool, true, false, cond, Option, Some, None, is_some, sym, subst, ◌∙◌}
use Rattle.std.specs.FinMap.Entries.{find}
use Rattle.std.specs.Ordering.{nat_cmp}
use Rattle.std.specs.Prelude.{ℤ, List, IfSome, IsSomeAnd}
use Rattle.av_base.specs.declared.slot.Slot.{Slot}
use Rattle.av_swapdev.specs.declared.header.Header.{Header}
use Rattle.av_swapcache.proofs.Views.{areas_on}
use Rattle.av_swapcache.specs.Calls.{Answers}
use Rattle.av_swapcache.specs.Swap.{HasAreas, IsUncached, Shown, count_of, fresh, same_slot, with_slot}
use Rattle.av_swapcache.specs.declared.swap.SwapOn.{SwapOn}
use Rattle.av_swapcache.specs.declared.swap.SwapOn.TheVariants.{On, Busy, Io, Bad}
use Rattle.av_tests.specs.Swapcache.{IsIdle}

pub areas_kept : (sizes : ℕ → Option ℕ) (h now : Shown) → now.on ≡ h.on → HasAreas sizes h → HasAreas sizes now
areas_kept sizes h now e has = subst (λ on. (k : ℕ) → IfSome (find nat_cmp k on) (λ (a : Header). IsSomeAnd (sizes k) (λ n. a.pages ≤ n))) (sym e) has

pub spare_kept : (f : ℕ) (h now : Shown) → now.find ≡ h.find → IsUncached h f → IsUncached now f
spare_kept f h now e spare t is = spare t (sym (λ i. e i t) ∙ is)

-- another frame caches a slot, or none does
pub spare_changed : (f : ℕ) (x : Option ℕ) (s : Slot) (h now : Shown) → now.find ≡ with_slot s x h.find → (x ≡ Some f → ⊥) → IsUncached h f
    → IsUncached now f
spare_changed f x s h now e other spare t is = by (same_slot t s) (sym (λ i. e i t) ∙ is)
  where
    by : (b : Bool) → cond b x (h.find t) ≡ Some f → ⊥
    by true e = other e
    by false e = spare t e

-- frame 0 caches a slot, and no other frame did
pub spare_put : (s : Slot) (h now : Shown) → now.find ≡ with_slot s (Some 0) h.find → ((t : Slot) → h.find t ≡ None) → IsUncached now 1
spare_put s h now e none = spare_changed 1 (Some 0) s h now e other (λ t is. never (sym (none t) ∙ is))
  where
    other : ◌≡◌ {A = Option ℕ} (Some 0) (Some 1) → ⊥
    other e = cc

    never : ◌≡◌ {A = Option ℕ} None (Some 1) → ⊥
    never e = cc

-- no slot is in use where none was
pub unused_when_idle : (sizes : ℕ → Option ℕ) (h now : Shown) → IsIdle sizes h → now.find ≡ h.find → now.entries ≡ h.entries → (s : Slot)
    → count_of now s ≡ 0
unused_when_idle sizes h now idle f e s = λ i. unnamed i + cond (is_some (nowhere i)) 1 0
  where
    unnamed : now.entries s ≡ 0
    unnamed = (λ j. e j s) ∙ idle.unnamed s

    nowhere : now.find s ≡ None
    nowhere = (λ j. f j s) ∙ idle.uncached s

-- ---- an area that is turned on, where none is

on_areas : (told : Option (ℕ → ℕ → List ℕ)) (sizes : ℕ → Option ℕ) (k pages : ℕ) (priority : ℤ) (answer : SwapOn) (h now : Shown) → HasAreas sizes h
    → sizes k ≡ Some pages → Answers told k pages priority answer h now → HasAreas sizes now
on_areas told sizes k pages priority (On header) h now has there a = subst (λ x. HasAreas sizes x) (sym a.8)
    (areas_on sizes h k pages header priority a.3.bad has there a.6.fits)
on_areas told sizes k pages priority Busy h now has there a = subst (λ x. HasAreas sizes x) (sym a.1) has
on_areas told sizes k pages priority Io h now has there a = subst (λ x. HasAreas sizes x) (sym a.1) has
on_areas told sizes k pages priority (Bad fault) h now has there a = subst (λ x. HasAreas sizes x) (sym a.4) has

on_find : (told : Option (ℕ → ℕ → List ℕ)) (k pages : ℕ) (priority : ℤ) (answer : SwapOn) (h now : Shown) → Answers told k pages priority answer h now
    → now.find ≡ h.find
on_find told k pages priority (On header) h now a = λ i. (a.8 i).find
on_find told k pages priority Busy h now a = λ i. (a.1 i).find
on_find told k pages priority Io h now a = λ i. (a.1 i).find
on_find told k pages priority (Bad fault) h now a = λ i. (a.4 i).find

on_entries : (told : Option (ℕ → ℕ → List ℕ)) (k pages : ℕ) (priority : ℤ) (answer : SwapOn) (h now : Shown)
    → Answers told k pages priority answer h now
    → now.entries ≡ h.entries
on_entries told k pages priority (On header) h now a = λ i. (a.8 i).entries
on_entries told k pages priority Busy h now a = λ i. (a.1 i).entries
on_entries told k pages priority Io h now a = λ i. (a.1 i).entries
on_entries told k pages priority (Bad fault) h now a = λ i. (a.4 i).entries

pub on_idle : (told : Option (ℕ → ℕ → List ℕ)) (sizes after : ℕ → Option ℕ) (k pages : ℕ) (priority : ℤ) (answer : SwapOn) (h now : Shown)
    (n : ℕ) → h ≡ fresh n
    → after ≡ sizes → sizes k ≡ Some pages → Answers told k pages priority answer h now → IsIdle after now
on_idle told sizes after k pages priority answer h now n e same there a = record {
  areas = subst (λ x. HasAreas x now) (sym same)
      (on_areas told sizes k pages priority answer h now (subst (λ x. HasAreas sizes x) (sym e) (λ j. tt)) there a);
  uncached = λ s. (λ i. on_find told k pages priority answer h now a i s) ∙ (λ i. (e i).find s);
  unnamed = λ s. (λ i. on_entries told k pages priority answer h now a i s) ∙ (λ i. (e i).entries s);
}
