-- Events that are done, one after the other.
use Rattle.std.proofs.Common.{◌≡◌, Bool, true, false, cond, List, [], ◌∷◌, ◌++◌, None, is_some, refl, sym, ap, subst, ◌∙◌}
use Rattle.av_plain.specs.Areas.{Rmap, rmap_after_all}
use Rattle.av_plain.specs.Choice.{ChoosesAll}
use Rattle.av_plain.specs.Device.{Device, IsSameDevice, Wrote}
use Rattle.av_plain.specs.Event.{Event, after, after_all, notes_of}
use Rattle.av_plain.specs.Ledger.{Ledger, Setting}
use Rattle.av_plain.specs.Load.{after_load, after_loads, with_loads}
use Rattle.av_plain.specs.Stands.{free_of}
use Rattle.av_plain.specs.World.{World}
use Rattle.av_plain.proofs.Access.{after_all-append, chooses-append, notes_of-append}
use Rattle.av_plain.proofs.AreasLeft.{rmap_after_all-append}
use Rattle.av_mem.specs.declared.mem.Mem.{Mem}
use Rattle.av_mem.specs.Mem.{frame_count, held_by, locks_of, setting_by, view}
use Rattle.av_swap_laws.specs.Locks.{AreLocks}
use Rattle.av_mem.specs.Between.{HasDone, KeepsBetween}
use Rattle.av_mem.proofs.Amid.{Amid}
use Rattle.av_mem.proofs.Between.{PartsFit, of-amid, setting-stays}
use Rattle.av_plain.proofs.Wrote.{device-itself, device-on, wrote-none, wrote-notes}
use Rattle.av_plain.specs.Pass.{pages_written}

-- ---- the memories

after-loads-append : (w : World) (l : Ledger) (es fs : List Event) → after_loads w l (es ++ fs) ≡ after_loads (after_loads w l es) (after_all l es) fs
after-loads-append w l [] fs = refl
after-loads-append w l (e ∷ es) fs = after-loads-append (after_load l e w) (after l e) es fs

pub loads-append : (m : Setting) (w : World) (l : Ledger) (es fs : List Event)
    → with_loads m w l (es ++ fs) ≡ with_loads m (with_loads m w l es) (after_all l es) fs
loads-append m w l es fs = by (is_some m.headers)
  where
    by : (b : Bool) → cond b w (after_loads w l (es ++ fs)) ≡ cond b (cond b w (after_loads w l es))
        (after_loads (cond b w (after_loads w l es)) (after_all l es) fs)
    by true = refl
    by false = after-loads-append w l es fs

-- ---- what is done

-- what stands afterwards, and what was chosen, make it
pub done-by : (d d' : Device) (old new : Mem) (w w' : World) (r r' : Rmap) (l l' : Ledger) (events : List Event)
    → w' ≡ with_loads (setting_by d old) w l events → r' ≡ rmap_after_all l events r → l' ≡ after_all l events
    → IsSameDevice d d' → Wrote (pages_written (notes_of events)) d.history d'.history
    → frame_count new ≡ frame_count old → Amid (setting_by d old) (held_by d' new w' r' l') → PartsFit d' new
    → AreLocks (locks_of new) w' l' → ChoosesAll (setting_by d old) None l events (free_of (view old)) (free_of (view new)) → HasDone d d' old new w r l events
done-by d d' old new w w' r r' l l' events world rmap ledger same wrote count amid fit locks chosen = record {
  between = subst (λ x. KeepsBetween d' new x (rmap_after_all l events r) (after_all l events)) world
      (subst (λ x. KeepsBetween d' new w' x (after_all l events)) rmap (subst (KeepsBetween d' new w' r') ledger
      (of-amid d' new w' r' l' (subst (λ m. Amid m (held_by d' new w' r' l')) (sym (setting-stays d d' old new same count)) amid) fit locks)));
  free = chosen;
  same = same;
  wrote = wrote;
  count = count;
}

-- nothing yet
pub done-none : (d : Device) (k : Mem) (w : World) (r : Rmap) (l : Ledger) → KeepsBetween d k w r l → HasDone d d k k w r l []
done-none d k w r l h = record {
  between = subst (λ x. KeepsBetween d k x r l) (sym (by (is_some (setting_by d k).headers))) h;
  free = refl;
  same = device-itself d;
  wrote = wrote-none d.history;
  count = refl;
}
  where
    by : (b : Bool) → cond b w w ≡ w
    by true = refl
    by false = refl

module _ (d d' d'' : Device) (old mid new : Mem) (w : World) (r : Rmap) (l : Ledger) (es fs : List Event) (a : HasDone d d' old mid w r l es) where
  -- one setting
  same-setting : setting_by d' mid ≡ setting_by d old
  same-setting = setting-stays d d' old mid a.same a.count

  -- some events, and then others
  pub done-then : HasDone d' d'' mid new (with_loads (setting_by d old) w l es) (rmap_after_all l es r) (after_all l es) fs
      → HasDone d d'' old new w r l (es ++ fs)
  done-then b = record {
    between =
        subst (λ x. KeepsBetween d'' new x (rmap_after_all l (es ++ fs) r) (after_all l (es ++ fs)))
        (ap (λ m. with_loads m (with_loads (setting_by d old) w l es) (after_all l es) fs) same-setting
        ∙ sym (loads-append (setting_by d old) w l es fs))
        (subst (λ x. KeepsBetween d'' new (world_after fs) x (after_all l (es ++ fs))) (sym (rmap_after_all-append l es fs r))
        (subst (KeepsBetween d'' new (world_after fs) (rmap_after_all (after_all l es) fs (rmap_after_all l es r)))
        (sym (after_all-append l es fs)) b.between));
    free = chooses-append (setting_by d old) None l es fs (free_of (view old)) (free_of (view mid)) (free_of (view new)) a.free
        (subst (λ m. ChoosesAll m None (after_all l es) fs (free_of (view mid)) (free_of (view new))) same-setting b.free);
    same = device-on d d' d'' a.same b.same;
    wrote = subst (λ ns. Wrote (pages_written ns) d.history d''.history) (sym (notes_of-append es fs))
        (wrote-notes d.history d'.history d''.history (notes_of es) (notes_of fs) a.wrote b.wrote);
    count = b.count ∙ a.count;
  }
    where
      world_after : List Event → World
      world_after fs = with_loads (setting_by d' mid) (with_loads (setting_by d old) w l es) (after_all l es) fs
