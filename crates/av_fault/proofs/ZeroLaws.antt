-- A page gets the page of zeros, for a read.
use Rattle.std.proofs.Common.{◌≡◌, ℕ, true, false, cond, List, [], ◌∷◌, ◌++◌, Some, None, is_some, refl, sym, ap, subst, ◌∙◌}
use Rattle.av_base.specs.Keys.{Key}
use Rattle.av_base.proofs.Keys.{same_key-itself}
use Rattle.av_base.specs.Page.{address_of, page_of}
use Rattle.av_pagetable.specs.declared.pte.Pte.TheVariants.{Empty}
use Rattle.av_pagetable.specs.Entries.{entry_at}
use Rattle.av_trace.specs.declared.note.Note.{Note}
use Rattle.av_trace.specs.declared.note.Note.TheVariants.{Zeroed}
use Rattle.av_plain.specs.Areas.{Rmap}
use Rattle.av_plain.specs.Device.{Device}
use Rattle.av_plain.specs.Event.{Noted, Used, after_note, after_use_of}
use Rattle.av_plain.specs.Fault.{IsMade, drop_of_entry, need, sparing}
use Rattle.av_plain.specs.Ledger.{IsBlank, Ledger, Setting, Zero, entry}
use Rattle.av_plain.specs.Sound.{no_excuse}
use Rattle.av_plain.specs.World.{World, pages}
use Rattle.av_plain.proofs.Ledger.{entry-set}
use Rattle.av_plain.proofs.Load.{without-loads}
use Rattle.av_plain.proofs.Sound.Entries.{zeroed-kept}
use Rattle.av_swap_laws.specs.Steps.{view_zero}
use Rattle.av_swap_laws.proofs.Between.{blank-steps}
use Rattle.av_swap_laws.proofs.Locks.{locks-zeroed}
use Rattle.av_swap_laws.proofs.WholePages.{zero-steps}
use Rattle.av_mem.specs.declared.mem.Mem.{Mem}
use Rattle.av_mem.specs.Mem.{held_by, setting_by, view}
use Rattle.av_mem.specs.Steps.{KeepsParts}
use Rattle.av_mem.specs.Between.{HasDone, KeepsBetween}
use Rattle.av_fault.specs.Making.{HasMade, IsMapped}
use Rattle.av_fault.specs.declared.fault.Touched.TheVariants.{Zeros}
use Rattle.av_mem.proofs.Between.{fit-stays, to-amid, to-fit}
use Rattle.av_mem.proofs.LocksCome.{locks-left}
use Rattle.av_fault.proofs.Noted.{noted-unfailed}
use Rattle.av_fault.proofs.EntryLaws.{entry-is, mapped-is, page-back}
use Rattle.av_fault.proofs.Run.{run-done, run-none, run-then}
use Rattle.av_plain.proofs.Wrote.{device-itself, wrote-none}

-- the entry after the note
zero-there : (p a : ℕ) (l : Ledger) → entry (after_note (Zeroed p a) l) (p, page_of a) ≡ Some Zero
zero-there p a l = entry-set (p, page_of a) Zero l (p, page_of a)
    ∙ ap (λ b. cond b (Some Zero) (entry l (p, page_of a))) (same_key-itself (p, page_of a))

module _ (d : Device) (old new : Mem) (w : World) (r : Rmap) (l : Ledger) (h : KeepsBetween d old w r l) (parts : KeepsParts old new) (p : ℕ) where
  abbrev m : Setting
  m = setting_by d old

  -- the page of this address
  zero-done : (a : ℕ) → entry l (p, page_of a) ≡ None → is_some (pages w p (page_of a)) ≡ true → view new ≡ view_zero p (page_of a) (view old)
      → HasDone d d old new w r l (Noted (Zeroed p a) ∷ Used false (p, page_of a) ∷ [])
  zero-done a none mapped now =
      let here = held_by d old w r l in
      let v = view_zero p (page_of a) (view old) in
      let l' = after_note (Zeroed p a) l in
      let zeroed = record here { view = v; ledger = l' } in
      let run = run-then m here here zeroed [] (Noted (Zeroed p a)) (run-none m here (to-amid d old w r l h)) (tt, tt, mapped)
      (zero-steps m None here h.serves.held p a h.sound.in_order (subst IsBlank (sym none) tt))
      (record { world = sym (without-loads m w l (Noted (Zeroed p a) ∷ []) refl); view_areas = refl; view_anons = refl; areas = refl; anons = refl })
      (zeroed-kept m no_excuse l (p, page_of a) h.sound (subst IsBlank (sym none) tt)) in
      run-done d d old new w w r r l l' (Noted (Zeroed p a) ∷ Used false (p, page_of a) ∷ []) here v
      (run-then m here zeroed zeroed (Noted (Zeroed p a) ∷ []) (Used false (p, page_of a)) run tt
      (blank-steps m None zeroed run.amid.held p (page_of a) (subst IsBlank (sym (zero-there p a l)) tt))
      (record {
        world = sym (without-loads m w l' (Used false (p, page_of a) ∷ []) refl);
        view_areas = refl;
        view_anons = refl;
        areas = refl;
        anons = refl;
      })
      run.amid.sound)
      now refl refl (sym (without-loads m w l (Noted (Zeroed p a) ∷ Used false (p, page_of a) ∷ []) refl)) refl (device-itself d) (wrote-none d.history) parts.count
      (fit-stays d d old new (device-itself d) parts (to-fit d old w r l h))
      (locks-left parts w l' (λ g. h.serves.locks g ∙ sym (locks-zeroed w p a l g h.sound.in_order (subst IsBlank (sym none) tt))))

-- what the page has then
pub zero-made : (d : Device) (old new : Mem) (w : World) (r : Rmap) (l : Ledger) (k : Key) (before now : List Note) → KeepsBetween d old w r l
    → KeepsParts old new
    → IsMapped old k → entry_at old.tables k.0 k.1 ≡ Empty → view new ≡ view_zero k.0 k.1 (view old)
    → now ≡ before ++ Zeroed k.0 (address_of k.1) ∷ [] → HasMade d d old new w r l false false k before now Zeros
zero-made d old new w r l k before now h parts mapped empty seen notes =
    let m = setting_by d old in
    let note = Zeroed k.0 (address_of k.1) in
    let none = entry-is d old w r l h k Empty empty in
    let here : entry (after_note note l) k ≡ Some Zero = subst (λ page. entry (after_note note l) (k.0, page) ≡ Some Zero) (page-back k.1)
    (zero-there k.0 (address_of k.1) l) in
    record {
      added = note ∷ [];
      noted = noted-unfailed d before now (note ∷ []) notes refl;
      makes = record {
        making = note ∷ [];
        made = subst (λ o. IsMade m (sparing w) l k (need false l o) (note ∷ [])) (sym none) refl;
        whole = ap (λ o. note ∷ drop_of_entry m false false (after_note note l) o) (sym here);
      };
      ready = (ap (λ o. entry (after_use_of false k (after_note note l) o) k) here ∙ here, refl);
      done = subst (λ page. entry l (k.0, page) ≡ None → is_some (pages w k.0 page) ≡ true → view new ≡ view_zero k.0 page (view old)
          → HasDone d d old new w r l (Noted note ∷ Used false (k.0, page) ∷ [])) (page-back k.1)
          (zero-done d old new w r l h parts k.0 (address_of k.1))
          none (mapped-is d old w r l h k mapped.area) seen;
    }
