-- What stands after a step of a merge, of the memory system.
use Rattle.std.proofs.Common.{◌≡◌, ℕ, ◌<◌, Bool, true, false, ◌==◌, [], ◌∷◌, Option, None, is_some, option_map, refl, sym, ap, subst, ◌∙◌, arith}
use Rattle.std.proofs.lemmas.Bool.{false≢true}
use Rattle.av_base.specs.Keys.{Key}
use Rattle.av_base.specs.Page.{address_of, page_of, page_size}
use Rattle.av_spaces.specs.Spaces.{pages_of}
use Rattle.av_trace.specs.declared.note.Note.TheVariants.{Joined, Shared}
use Rattle.av_vma.specs.Pages.{home_of}
use Rattle.av_plain.specs.Areas.{Rmap, at_root, rmap_after_note}
use Rattle.av_plain.specs.Device.{Device}
use Rattle.av_plain.specs.Event.{Noted, after_note}
use Rattle.av_plain.specs.Ledger.{InFrame, Ledger, Setting, is_merged, names_frame}
use Rattle.av_plain.specs.Load.{with_loads}
use Rattle.av_plain.specs.Sound.{IsSound, no_excuse, uses}
use Rattle.av_plain.specs.Stands.{View, entry_of, free_of}
use Rattle.av_plain.specs.World.{World}
use Rattle.av_plain.proofs.Ledger.{how_many-found}
use Rattle.av_plain.proofs.Ledger.NoSwap.{key_at-address}
use Rattle.av_plain.proofs.Load.{without-loads}
use Rattle.av_plain.proofs.Sound.Counts.{same-is, same-itself, slot_of-none}
use Rattle.av_plain.proofs.Sound.Sharing.{joined-kept, shared-kept}
use Rattle.av_plain.proofs.Wrote.{device-itself, wrote-none}
use Rattle.av_swap_laws.specs.Held.{Steps}
use Rattle.av_swap_laws.proofs.Cache.{once-of}
use Rattle.av_swap_laws.proofs.Locks.{locks-joined}
use Rattle.av_swap_laws.specs.Locks.{AreLocks}
use Rattle.av_mem.specs.declared.mem.Mem.{Mem}
use Rattle.av_mem.specs.Between.{HasDone, KeepsBetween}
use Rattle.av_mem.specs.Mem.{held_by, locks_of, plain, setting_by, view}
use Rattle.av_mem.specs.Steps.{KeepsParts}
use Rattle.av_mem.proofs.HomeLaws.{root-is}
use Rattle.av_mem.proofs.LockedLaws.{page-unlocked}
use Rattle.av_mem.proofs.ServesLaws.{locks-stay, serves-note, setting-stays}
use Rattle.av_ksm.specs.Join.{HasOwn, view_joined, view_shared}
use Rattle.av_ksm.specs.Joining.{HasShared, item_by}
use Rattle.av_ksm.proofs.JoinStep.{join-steps}
use Rattle.av_ksm.proofs.ShareStep.{merged-some, share-steps, unmerged-none}

-- ---- one event done

module _ (d : Device) (old new : Mem) (w : World) (r : Rmap) (l : Ledger) (h : KeepsBetween d old w r l) (parts : KeepsParts old new) where
  abbrev m : Setting
  m = setting_by d old

  -- the item of a home is at the root that the definitions have
  item-is : (k : Key) (x y : Option (ℕ × ℕ)) → x ≡ y → item_by old x ≡ at_root r.anons y
  item-is k x y same = λ i. option_map
      (λ (z : ℕ × ℕ). (root-is d None old w r l h.serves k (record { area = 0; page = 0 }) z.0 i, z.1)) (same i)

  -- ---- a frame is merged

  pub share-done : (k : Key) (f : ℕ) (seen : Bool) → HasOwn l k f seen → HasShared old new k f
      → HasDone d d old new w r l (Noted (Shared f) ∷ [])
  share-done k f seen own shared = record {
    between = subst (λ x. KeepsBetween d new x (rmap_after_note l (Shared f) r) (after_note (Shared f) l)) (sym still) (record {
      sound = subst (λ m. IsSound m (after_note (Shared f) l)) (sym (setting-stays old new parts d d (device-itself d)))
          (shared-kept m no_excuse l f h.sound (how_many-found (names_frame f) k l.entries (InFrame f shared.seen) here.names (same-itself f))
          (slot_of-none f l.cache own.uncached) (unmerged-none l f own.unmerged));
      serves = serves-note old new d d None w w r l (Shared f) parts (device-itself d) h.sound.in_order (tt, tt) tt tt (sym still)
          (locks-stay old new w l (Shared f) parts refl h.serves.locks) h.serves steps;
    });
    free = (free_of (view new), steps.chosen, refl);
    same = device-itself d;
    wrote = wrote-none d.history;
    count = parts.count;
  }
    where
      still : with_loads m w l (Noted (Shared f) ∷ []) ≡ w
      still = without-loads m w l (Noted (Shared f) ∷ []) refl

      here : HasOwn l k f shared.seen
      here = record {
        names = sym (h.serves.held.ledger.tables.entries k.0 k.1) ∙ ap (λ e. entry_of (plain e)) shared.there;
        unmerged = own.unmerged;
        uncached = own.uncached;
      }

      steps : Steps m None (Noted (Shared f)) (held_by d old w r l)
          (held_by d new w (rmap_after_note l (Shared f) r) (after_note (Shared f) l))
      steps = subst (λ (v : View). Steps m None (Noted (Shared f)) (held_by d old w r l)
          (record { view = v; device = d; world = w; ledger = after_note (Shared f) l; rmap = rmap_after_note l (Shared f) r }))
          (sym (shared.view ∙ ap (λ x. view_shared k.0 k.1 f shared.seen x (view old)) (item-is k _ _ (h.serves.held.homes f))))
          (share-steps m None (held_by d old w r l) h.serves.held k.0 k.1 f shared.seen h.sound.in_order (once-of m no_excuse l h.sound) here)

  -- ---- a page joins it

  module _ (p f g : ℕ) (seen : Bool) (merged : is_merged l f ≡ true)
      (same : (i : ℕ) → i < page_size → (view old).bytes f i ≡ (view old).bytes g i) (unlocked : locks_of old g ≡ 0) where
    -- at the page of an address
    abbrev JoinDone : ℕ → ℕ → Type 0
    JoinDone a page = HasOwn l (p, page) g seen
        → view new ≡ view_joined p page f g (item_by old (home_of page (pages_of old.spaces.processes p page))) (view old)
        → HasDone d d old new w r l (Noted (Joined p a f) ∷ [])

    join-done : (a : ℕ) → JoinDone a (page_of a)
    join-done a own is = record {
      between = subst (λ x. KeepsBetween d new x (rmap_after_note l (Joined p a f) r) (after_note (Joined p a f) l)) (sym still) (record {
        sound = subst (λ m. IsSound m (after_note (Joined p a f) l)) (sym (setting-stays old new parts d d (device-itself d)))
            (joined-kept m no_excuse l (p, page_of a) f g seen h.sound own.names apart (merged-some l f merged) (unmerged-none l g own.unmerged)
            (slot_of-none g l.cache own.uncached));
        serves = serves-note old new d d None w w r l (Joined p a f) parts (device-itself d) h.sound.in_order (tt, used)
            (h.serves.at_pages p (page_of a) (ap is_some own.names)) tt (sym still) locks-left h.serves steps;
      });
      free = (free_of (view new), steps.chosen, refl);
      same = device-itself d;
      wrote = wrote-none d.history;
      count = parts.count;
    }
      where
        still : with_loads m w l (Noted (Joined p a f) ∷ []) ≡ w
        still = without-loads m w l (Noted (Joined p a f) ∷ []) refl

        apart : (f == g) ≡ false
        apart = by (f == g) refl
          where
            by : (b : Bool) → (f == g) ≡ b → b ≡ false
            by true e = absurd (false≢true (sym own.unmerged ∙ ap (is_merged l) (sym (same-is f g e)) ∙ merged))
            by false e = refl

        -- the page isn't locked
        locks-left : AreLocks (locks_of old) w (after_note (Joined p a f) l)
        locks-left x = h.serves.locks x ∙ sym (locks-joined w p a f l x h.sound.in_order
            (page-unlocked w l p (page_of a) g seen h.sound.in_order (sym (h.serves.locks g) ∙ unlocked) own.names))

        used : 0 < uses l f
        used = let some = merged-some l f merged in let n = h.sound.merged f in omega (arith, some, n)

        below : g < m.frames
        below = let some = how_many-found (names_frame g) (p, page_of a) l.entries (InFrame g seen) own.names (same-itself g) in
            h.sound.in_range g (omega (arith, some))

        steps : Steps m None (Noted (Joined p a f)) (held_by d old w r l)
            (held_by d new w (rmap_after_note l (Joined p a f) r) (after_note (Joined p a f) l))
        steps = subst (λ (v : View). Steps m None (Noted (Joined p a f)) (held_by d old w r l)
            (record { view = v; device = d; world = w; ledger = after_note (Joined p a f) l; rmap = rmap_after_note l (Joined p a f) r }))
            (sym (is ∙ ap (λ x. view_joined p (page_of a) f g x (view old))
            (item-is (p, page_of a) _ _ (ap (home_of (page_of a)) (h.serves.are p (page_of a))))))
            (join-steps m None (held_by d old w r l) h.serves.held p a f g seen h.sound.in_order (once-of m no_excuse l h.sound) own merged below same)

    pub join-done-at : (page : ℕ) → JoinDone (address_of page) page
    join-done-at page = subst (JoinDone (address_of page)) (ap (λ (k : Key). k.1) (key_at-address (0, page))) (join-done (address_of page))
