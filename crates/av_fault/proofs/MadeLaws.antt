-- A page that has its frame is used, and the slot of that is dropped where it is needed no more.
use Rattle.std.proofs.Common.{◌≡◌, ℕ, Bool, true, false, cond, List, [], ◌∷◌, ◌++◌, Some, refl, sym, ap, subst, ◌∙◌}
use Rattle.av_pagetable.specs.declared.pte.Pte.TheVariants.{Here}
use Rattle.av_pagetable.specs.Entries.{entry_at}
use Rattle.av_trace.specs.declared.note.Note.{Note}
use Rattle.av_plain.specs.Areas.{Rmap, rmap_after_all}
use Rattle.av_plain.specs.Device.{Device}
use Rattle.av_plain.specs.Event.{Used, after_all, note_events}
use Rattle.av_plain.specs.Fault.{CopyOnWrite, IsMade, Ready as NoNeed, drop_of_entry, drop_of_slot, asks_copy, need, sparing}
use Rattle.av_base.specs.Keys.{Key}
use Rattle.av_plain.specs.Ledger.{InFrame, Ledger, entry, slot_of}
use Rattle.av_plain.specs.Load.{with_loads}
use Rattle.av_plain.specs.Pass.{fails}
use Rattle.av_plain.specs.World.{World}
use Rattle.av_mem.specs.declared.mem.Mem.{Mem}
use Rattle.av_mem.specs.Mem.{setting_by}
use Rattle.av_mem.specs.Between.{HasDone}
use Rattle.av_fault.specs.Making.{HasMade}
use Rattle.av_fault.specs.declared.fault.Touched.TheVariants.{Ready}
use Rattle.av_mem.proofs.Done.{done-then}
use Rattle.av_fault.proofs.Noted.{noted-unfailed}
use Rattle.av_fault.proofs.DropLaws.{drops-unfailed}
use Rattle.av_fault.proofs.UsingLaws.{entry-here, own-here}

module _ (d : Device) (old mid new : Mem) (w : World) (r : Rmap) (l : Ledger) (k : Key) (f : ℕ) (seen write came : Bool)
    (before after added : List Note)
    (at : entry l k ≡ Some (InFrame f seen)) (drops : added ≡ drop_of_slot (setting_by d old) write came l (slot_of l f))
    (done : HasDone d d old mid w r l (note_events added)) where
  pub used-made : after ≡ before ++ added → need write l (entry l k) ≡ NoNeed
      → HasDone d d mid new (with_loads (setting_by d old) w l (note_events added)) (rmap_after_all l (note_events added) r)
      (after_all l (note_events added))
      (Used write k ∷ [])
      → (bit : Bool) → entry_at new.tables k.0 k.1 ≡ Here f bit true → (write ≡ true → bit ≡ true)
      → HasMade d d old new w r l write came k before after (Ready f)
  used-made notes no_need used bit there own =
      let whole = done-then d d d old mid new w r l (note_events added) (Used write k ∷ []) done used in
      let w' = with_loads (setting_by d old) w l (note_events added ++ Used write k ∷ []) in
      let r' = rmap_after_all l (note_events added ++ Used write k ∷ []) r in
      let l' = after_all l (note_events added ++ Used write k ∷ []) in
      record {
        added = added;
        noted = noted-unfailed d before after added notes (ap fails drops ∙ drops-unfailed (setting_by d old) write came l (slot_of l f));
        makes = record {
          making = [];
          made = subst (λ n. IsMade (setting_by d old) (sparing w) l k n []) (sym no_need) refl;
          whole = drops ∙ ap (drop_of_entry (setting_by d old) write came l) (sym at);
        };
        ready = (
          entry-here d new w' r' l' whole.between k f bit true there,
          λ written. own-here d new w' r' l' whole.between k f bit true there (own written),
        );
        done = whole;
      }

-- a read needs nothing where the page has a frame, nor does a write where others don't use it
pub read-needs : (l : Ledger) (k : Key) (f : ℕ) (seen : Bool) → entry l k ≡ Some (InFrame f seen) → need false l (entry l k) ≡ NoNeed
read-needs l k f seen at = ap (need false l) at

pub write-needs : (l : Ledger) (k : Key) (f : ℕ) (seen : Bool) → entry l k ≡ Some (InFrame f seen) → asks_copy l f ≡ false
    → need true l (entry l k) ≡ NoNeed
write-needs l k f seen at alone = ap (need true l) at ∙ ap (λ b. cond b (CopyOnWrite f) NoNeed) alone
