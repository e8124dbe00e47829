-- The home of a frame that takes the page of a slot, of what is served within a command: any page whose entry names the slot gives it.
use Rattle.std.proofs.Common.{◌≡◌, ℕ, ◌≤◌, ◌==◌, true, cond, T, Option, Some, None, refl, sym, ap, subst, ◌∙◌}
use Rattle.std.specs.FinMap.Entries.{is_sorted}
use Rattle.std.specs.Option.{option_map_or}
use Rattle.std.specs.Prelude.{IsSome, IsSomeAnd, option_map}
use Rattle.av_anon.specs.declared.infos.Info.{Info}
use Rattle.av_base.specs.Keys.{Key, key_cmp}
use Rattle.av_base.specs.declared.slot.Slot.{Slot}
use Rattle.av_pagetable.specs.declared.pte.Pte.{Pte}
use Rattle.av_pagetable.specs.declared.pte.Pte.TheVariants.{Away, Empty, Here, Zero}
use Rattle.av_pagetable.specs.Entries.{entry_at}
use Rattle.av_spaces.specs.Kin.{chain_by, info_of}
use Rattle.av_vma.specs.Index.{first_of, index_of}
use Rattle.av_vma.specs.Pages.{AreLaid, Pages, home_of}
use Rattle.av_vma.specs.declared.area.Area.{Area}
use Rattle.av_vma.proofs.Laid.{has_parts}
use Rattle.av_plain.specs.Areas.{AnonVma, Rmap, home_for, root_of}
use Rattle.av_plain.specs.Covered.{IsKin}
use Rattle.av_plain.specs.Device.{Device}
use Rattle.av_plain.specs.Ledger.{InSlot, Ledger, entry, keys_of_slot, names_slot, slot_entries}
use Rattle.av_plain.specs.Stands.{entry_of, kin_of}
use Rattle.av_plain.specs.World.{World}
use Rattle.av_plain.proofs.Sound.Counts.{slot-itself}
use Rattle.av_swap_laws.proofs.Homes.{home-any}
use Rattle.av_swap_laws.proofs.Parts.{none-some}
use Rattle.av_mem.specs.Cache.{home_by, root_in}
use Rattle.av_mem.specs.Mem.{Serves, anon_vma, plain}
use Rattle.av_mem.specs.declared.mem.Mem.{Mem}

-- the area of a page begins there or below
pub first-laid : (on : Pages) (page : ℕ) (area : Area) → AreLaid on → on page ≡ Some area → first_of area ≤ page
first-laid on page area laid is = (has_parts area page (laid.here page area is)).0

module _ (d : Device) (closing : Option ℕ) (k : Mem) (w : World) (r : Rmap) (l : Ledger) (h : Serves d closing k w r l) (q : Key) (s : Slot) where
  -- ---- an entry that is a slot

  pub entry-away : entry_at k.tables q.0 q.1 ≡ Away s → entry l q ≡ Some (InSlot s)
  entry-away there = sym (h.held.ledger.tables.entries q.0 q.1) ∙ ap (λ e. entry_of (plain e)) there

  pub away-is : entry l q ≡ Some (InSlot s) → entry_at k.tables q.0 q.1 ≡ Away s
  away-is at = by (entry_at k.tables q.0 q.1) (h.held.ledger.tables.entries q.0 q.1 ∙ at)
    where
      by : (e : Pte) → entry_of (plain e) ≡ Some (InSlot s) → e ≡ Away s
      by Empty is = cc
      by Zero is = cc
      by (Here f write was) is = cc
      by (Away t) is = cc

  -- ---- the home of a frame that takes the slot's page

  -- roots are as the definitions have them
  pub root-is : (v : ℕ) → root_in k v ≡ root_of r.anons v
  root-is v = by (info_of k.anons v) (r.anons.anon v) (h.anons.kin v)
    where
      by : (x : Option Info) (y : Option AnonVma)
          → option_map kin_of (option_map (anon_vma (chain_by k.spaces k.anons (Some v))) x) ≡ option_map kin_of y
          → option_map_or (λ (i : Info). i.root) x v ≡ option_map_or (λ (a : AnonVma). a.root) y v
      by None None e = refl
      by None (Some a) e = ap (λ (o : Option (ℕ × ℕ)). option_map_or (λ (p : ℕ × ℕ). p.0) o v) e
      by (Some i) None e = ap (λ (o : Option (ℕ × ℕ)). option_map_or (λ (p : ℕ × ℕ). p.0) o v) e
      by (Some i) (Some a) e = ap (λ (o : Option (ℕ × ℕ)). option_map_or (λ (p : ℕ × ℕ). p.0) o v) e

  module _ (sorted : T (is_sorted key_cmp l.entries)) (at : entry l q ≡ Some (InSlot s)) (home : Option (ℕ × ℕ))
      (is : home ≡ home_of q.1 (r.areas q.0 q.1)) where
    pub home-law : home_by k s home ≡ home_for r (keys_of_slot l s)
    home-law = ap (home_by k s) is ∙ sym (by (r.areas q.0 q.1) (home-any l r s q sorted h.held.covered.slots
        (subst (λ o. IsSomeAnd o (λ e. names_slot s e ≡ true)) (sym at) (slot-itself s))))
      where
        owned : (area : Area) (o : Option ℕ)
            → IsSomeAnd o (λ own. home_for r (keys_of_slot l s) ≡ Some (cond (slot_entries l s == 1) own (root_of r.anons own), index_of area q.1))
            → home_for r (keys_of_slot l s) ≡ home_by k s (option_map (λ own. (own, index_of area q.1)) o)
        owned area None x = absurd x
        owned area (Some own) x = x ∙ (λ i. Some (cond (sym (h.held.ledger.swap.counts s) i == 1) own (sym (root-is own) i), index_of area q.1))

        by : (o : Option Area) → IsSomeAnd o (λ area. IsSomeAnd area.anon (λ own.
            home_for r (keys_of_slot l s) ≡ Some (cond (slot_entries l s == 1) own (root_of r.anons own), index_of area q.1)))
            → home_for r (keys_of_slot l s) ≡ home_by k s (home_of q.1 o)
        by None x = absurd x
        by (Some area) x = owned area area.anon x

    -- the anon_vma of the page's area is there
    pub home-there : (x : ℕ × ℕ) → home ≡ Some x → IsSome (info_of k.anons x.0)
    home-there x e = by (info_of k.anons x.0) (r.anons.anon x.0) (h.anons.kin x.0)
        (h.held.covered.slots.kin q.0 q.1 x.0 (area (r.areas q.0 q.1) (sym is ∙ e)))
      where
        own : (index : ℕ) (o : Option ℕ) → option_map (λ own. (own, index)) o ≡ Some x → o ≡ Some x.0
        own index None e = absurd (none-some x e)
        own index (Some v) e = ap (option_map (λ (p : ℕ × ℕ). p.0)) e

        area : (o : Option Area) → home_of q.1 o ≡ Some x → IsSomeAnd o (λ area. area.anon ≡ Some x.0)
        area None e = absurd (none-some x e)
        area (Some a) e = own (index_of a q.1) a.anon e

        by : (i : Option Info) (y : Option AnonVma)
            → option_map kin_of (option_map (anon_vma (chain_by k.spaces k.anons (Some x.0))) i) ≡ option_map kin_of y
            → IsSomeAnd y (IsKin r.anons) → IsSome i
        by None None e kin = absurd kin
        by None (Some a) e kin = absurd (none-some (kin_of a) e)
        by (Some i) y e kin = refl
