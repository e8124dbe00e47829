-- What stands of the memory system after a frame has gone over to another, and after the free ones are put in order.
use Rattle.std.proofs.Common.{◌≡◌, ℕ, ◌==◌, Bool, true, false, [], ◌∷◌, None, refl, sym, ap, subst, ◌∙◌, arith}
use Rattle.av_base.specs.Words.{renamed}
use Rattle.av_trace.specs.declared.note.Note.TheVariants.{Moved}
use Rattle.av_plain.specs.Areas.{Rmap, rmap_after_note}
use Rattle.av_plain.specs.Choice.{Chooses}
use Rattle.av_plain.specs.Device.{Device}
use Rattle.av_plain.specs.Event.{FreeSorted, Noted, after_note, with_places}
use Rattle.av_plain.specs.Ledger.{Ledger, Setting}
use Rattle.av_plain.specs.Sound.{IsSound, no_excuse, uses}
use Rattle.av_plain.specs.Stands.{View, free_of}
use Rattle.av_plain.specs.World.{World}
use Rattle.av_plain.proofs.Load.{without-loads}
use Rattle.av_plain.proofs.Sound.Counts.{same-is}
use Rattle.av_plain.proofs.Sound.Sharing.{renamed-kept, uses-go, uses-stay}
use Rattle.av_plain.proofs.Sound.There.{less}
use Rattle.av_plain.proofs.Wrote.{device-itself}
use Rattle.av_swap_laws.specs.Held.{Steps}
use Rattle.av_swap_laws.specs.Locks.{AreLocks}
use Rattle.av_swap_laws.proofs.Locks.{locks-moved}
use Rattle.av_mem.specs.Between.{KeepsBetween}
use Rattle.av_mem.specs.Mem.{held_by, locks_of, setting_by, view}
use Rattle.av_mem.specs.Steps.{KeepsBut, KeepsParts}
use Rattle.av_mem.specs.declared.mem.Mem.{Mem}
use Rattle.av_mem.proofs.ServesLaws.{serves-after, serves-note, setting-stays}
use Rattle.av_migrate.specs.Move.{MayMove, locks_moved, view_moved, view_ordered}
use Rattle.av_migrate.proofs.MoveSteps.{move-steps, order-steps}

module _ (d : Device) (old new : Mem) (from to : ℕ) (parts : KeepsBut (locks_moved from to (locks_of old)) old new) (w : World) (r : Rmap) (l : Ledger)
    (keeps : KeepsBetween d old w r l) where
  abbrev m : Setting
  m = setting_by d old

  same-setting : setting_by d new ≡ m
  same-setting = setting-stays old new parts d d (device-itself d)

  module _ (may : MayMove m l from to) (seen : view new ≡ view_moved from to (view old)) where
    move-step : Steps m None (Noted (Moved from to)) (held_by d old w r l)
        (held_by d new w (rmap_after_note l (Moved from to) r) (after_note (Moved from to) l))
    move-step = subst (λ (v : View). Steps m None (Noted (Moved from to)) (held_by d old w r l) (record {
      view = v;
      device = d;
      world = w;
      ledger = after_note (Moved from to) l;
      rmap = rmap_after_note l (Moved from to) r;
    })) (sym seen) (move-steps m None (held_by d old w r l) keeps.serves.held from to keeps.sound may)

    locks-go : AreLocks (locks_moved from to (locks_of old)) w (after_note (Moved from to) l)
    locks-go g = (λ i. locks_moved from to (λ h. keeps.serves.locks h i) g)
        ∙ sym (locks-moved w from to l g (let none = may.free in omega (arith, none)) (by (from == to) refl))
      where
        by : (b : Bool) → (from == to) ≡ b → b ≡ false
        by true e = let same = ap (uses l) (same-is from to e) in let none = may.free in let some = may.used in absurd (omega (arith, same, none, some))
        by false e = refl

    pub moved-between : KeepsBetween d new w (rmap_after_note l (Moved from to) r) (after_note (Moved from to) l)
    moved-between = record {
      sound = subst (λ m. IsSound m (with_places (renamed from to) l)) (sym same-setting)
          (renamed-kept m no_excuse l from to keeps.sound may.free may.used may.below);
      serves = serves-note old new d d None w w r l (Moved from to) parts (device-itself d) keeps.sound.in_order (
        tt,
        record {
          stays = λ g gone other. uses-stay m no_excuse l from to keeps.sound may.free may.used may.below g gone other;
          used = λ g is. uses-go m no_excuse l from to keeps.sound may.free may.used may.below g is;
        },
      ) tt tt (sym (without-loads m w l (Noted (Moved from to) ∷ []) refl)) locks-go keeps.serves move-step;
    }

    pub moved-chosen : Chooses m None l (Noted (Moved from to)) (free_of (view old)) (free_of (view new))
    moved-chosen = move-step.chosen

module _ (d : Device) (old new : Mem) (parts : KeepsParts old new) (w : World) (r : Rmap) (l : Ledger) (keeps : KeepsBetween d old w r l)
    (seen : view new ≡ view_ordered (view old)) where
  abbrev setting : Setting
  setting = setting_by d old

  order-step : Steps setting None FreeSorted (held_by d old w r l) (held_by d new w r l)
  order-step = subst (λ (v : View). Steps setting None FreeSorted (held_by d old w r l) (record {
    view = v;
    device = d;
    world = w;
    ledger = l;
    rmap = r;
  })) (sym seen) (order-steps setting None (held_by d old w r l) keeps.serves.held)

  pub ordered-between : KeepsBetween d new w r l
  ordered-between = record {
    sound = subst (λ m. IsSound m l) (sym (setting-stays old new parts d d (device-itself d))) keeps.sound;
    serves = serves-after old new parts d d None w w r r l FreeSorted (device-itself d) keeps.sound.in_order tt
        (less setting l l refl (λ s i. i)) keeps.serves.tidy keeps.serves.at_pages refl refl keeps.serves.locks
        keeps.serves order-step;
  }

  pub ordered-chosen : Chooses setting None l FreeSorted (free_of (view old)) (free_of (view new))
  ordered-chosen = order-step.chosen
