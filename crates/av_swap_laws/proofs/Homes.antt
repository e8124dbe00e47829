-- The home of a frame that takes the page of a slot goes by any page whose entry names the slot.
use Rattle.std.proofs.Common.{◌≡◌, ℕ, suc, Bool, true, false, cond, ◌||◌, List, [], ◌∷◌, length, Some, refl, sym, ap, subst, ◌∙◌, arith, ◌==◌, T}
use Rattle.std.proofs.lemmas.Bool.Decides.{nat_tests}
use Rattle.std.proofs.lemmas.Bool.{false≢true}
use Rattle.std.specs.Prelude.{IsSomeAnd}
use Rattle.std.specs.List.{list_any}
use Rattle.std.specs.FinMap.Entries.{is_sorted}
use Rattle.av_base.specs.Keys.{Key, key_cmp, same_key}
use Rattle.av_base.proofs.Keys.{same_key-is, same_key-itself}
use Rattle.av_base.specs.declared.slot.Slot.{Slot}
use Rattle.av_vma.specs.Index.{index_of}
use Rattle.av_vma.specs.Pages.{home_of}
use Rattle.av_plain.specs.Areas.{Rmap, at_root, home_for, root_of}
use Rattle.av_plain.specs.Covered.{AreSlotsCovered, IsOfSlot}
use Rattle.av_plain.specs.Ledger.{Ledger, keys_of_slot, names_slot, slot_entries}
use Rattle.av_plain.proofs.Covered.Slots.{Own, are-keys, at_area, home-is, keys-are, root-home, rooted-own}
use Rattle.av_plain.proofs.Ledger.Walk.{length-keys}

module _ (l : Ledger) (r : Rmap) (s : Slot) (k : Key) (sorted : T (is_sorted key_cmp l.entries)) (h : AreSlotsCovered l r)
    (names : IsOfSlot l s k) where
  -- the own anon_vma of the page's area
  mine : Own r k
  mine = let home = h.rooted s k k names names in rooted-own r k home.0 h.kin home.1

  -- the root of another page of the slot is that of this one
  at-root : (q : Key) → IsOfSlot l s q → at_root r.anons (home_of q.1 (r.areas q.0 q.1)) ≡ at_root r.anons (home_of k.1 (r.areas k.0 k.1))
  at-root q also = let home = h.rooted s q k also names in
      root-home r q (rooted-own r q home.0 h.kin home.1) home.0 home.1 ∙ sym (root-home r k mine home.0 home.2)

  home-by : home_for r (keys_of_slot l s) ≡ Some (cond (slot_entries l s == 1) mine.own (root_of r.anons mine.own), index_of mine.area k.1)
  home-by = by (keys_of_slot l s) (length-keys (names_slot s) l.entries) (keys-are l s k sorted names) (λ q is. are-keys l s q sorted is)
    where
      either : (b : Bool) → (b || false) ≡ true → b ≡ true
      either true e = refl
      either false e = e

      one : (n : ℕ) → 1 ≡ n → (n == 1) ≡ true
      one n e = grind (arith, nat_tests, e)

      more : (n m : ℕ) → suc (suc m) ≡ n → (n == 1) ≡ false
      more n m e = grind (arith, nat_tests, e)

      by : (ks : List Key) → length ks ≡ slot_entries l s → list_any (same_key k) ks ≡ true
          → ((q : Key) → list_any (same_key q) ks ≡ true → IsOfSlot l s q)
          → home_for r ks ≡ Some (cond (slot_entries l s == 1) mine.own (root_of r.anons mine.own), index_of mine.area k.1)
      by [] len is all = absurd (false≢true is)
      by (q ∷ []) len is all =
          ap (λ (q : Key). home_of q.1 (r.areas q.0 q.1)) (sym (same_key-is k q (either (same_key k q) is)))
          ∙ home-is r k mine
          ∙ sym (ap (λ b. Some (cond b mine.own (root_of r.anons mine.own), index_of mine.area k.1)) (one (slot_entries l s) len))
      by (q ∷ o ∷ ks) len is all =
          at-root q (all q (ap (λ b. b || list_any (same_key q) (o ∷ ks)) (same_key-itself q)))
          ∙ ap (at_root r.anons) (home-is r k mine)
          ∙ sym (ap (λ b. Some (cond b mine.own (root_of r.anons mine.own), index_of mine.area k.1)) (more (slot_entries l s) (length ks) len))

  -- said of the page's area
  pub home-any : IsSomeAnd (r.areas k.0 k.1) (λ area. IsSomeAnd area.anon (λ own.
      home_for r (keys_of_slot l s) ≡ Some (cond (slot_entries l s == 1) own (root_of r.anons own), index_of area k.1)))
  home-any = at_area r k mine (λ area. IsSomeAnd area.anon (λ own.
      home_for r (keys_of_slot l s) ≡ Some (cond (slot_entries l s == 1) own (root_of r.anons own), index_of area k.1)))
      (subst (λ o. IsSomeAnd o (λ own. home_for r (keys_of_slot l s)
      ≡ Some (cond (slot_entries l s == 1) own (root_of r.anons own), index_of mine.area k.1))) (sym mine.is_own) home-by)
