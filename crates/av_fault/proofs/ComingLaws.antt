-- A page comes in whose entry names a slot: the slot's page is in a frame, and the entry names that.
use Rattle.std.proofs.Common.{◌≡◌, ℕ, ◌+◌, ◌-◌, ◌^◌, ◌<◌, Bool, true, false, cond, ◌==◌, ◌&&◌, List, [], ◌∷◌, ◌++◌, Option, Some, None, IfSome, is_some, refl, sym, ap, subst, ◌∙◌, arith}
use Rattle.std.specs.Prelude.{IsSome, MatchOption, Err, Ok, Result, option_map, slice_index}
use Rattle.av_base.specs.Keys.{Key}
use Rattle.av_base.proofs.Keys.{same_key-itself}
use Rattle.av_base.specs.Page.{address_of, page_of, page_size}
use Rattle.av_base.specs.Words.{is_in}
use Rattle.av_base.specs.declared.slot.Slot.{Slot}
use Rattle.av_io.specs.Count.{Rose, RoseBy}
use Rattle.av_pagetable.specs.declared.pte.Pte.{Pte}
use Rattle.av_pagetable.specs.declared.pte.Pte.TheVariants.{Away, Empty, Here, Zero}
use Rattle.av_pagetable.specs.Entries.{entry_at}
use Rattle.av_spaces.specs.Kin.{info_of}
use Rattle.av_spaces.specs.Spaces.{pages_of}
use Rattle.av_swapcache.specs.Swap.{HasAreas, IsUncached, shown as shown_swap}
use Rattle.av_trace.specs.declared.note.Note.{Note}
use Rattle.av_trace.specs.declared.note.Note.TheVariants.{Loaded, Mapped}
use Rattle.av_trace.specs.declared.reply.OutOf.{OutOf}
use Rattle.av_vma.specs.Pages.{home_of}
use Rattle.av_vma.specs.declared.area.Area.{Area}
use Rattle.av_plain.specs.Areas.{Rmap, rmap_after_all, rmap_after_note}
use Rattle.av_plain.specs.Choice.{ChoosesAll}
use Rattle.av_plain.specs.Device.{Device, IsSameDevice, as_told, Wrote}
use Rattle.av_plain.specs.Event.{Event, Noted, after_all, after_note, after_notes, key_at, note_events, set_entry, notes_of}
use Rattle.av_plain.specs.Fault.{ComesIn, need_of_slot, sparing}
use Rattle.av_plain.specs.Ledger.{InFrame, InSlot, Ledger, Setting, entry, frame_at, has_free, is_free}
use Rattle.av_plain.specs.Load.{with_loads}
use Rattle.av_plain.specs.Pass.{TakesFor, is_spared, pages_written}
use Rattle.av_plain.specs.Sound.{no_excuse, slots}
use Rattle.av_plain.specs.Stands.{Pte as Plain, View, entry_of, free_of}
use Rattle.av_plain.specs.World.{World, is_locked_page, pages}
use Rattle.av_plain.proofs.Access.{after_notes-append, note_events-all, note_events-append}
use Rattle.av_plain.proofs.Covered.Page.{fit-areas}
use Rattle.av_plain.proofs.Covered.Swap.{fit-seeks}
use Rattle.av_plain.proofs.Ledger.{entry-set}
use Rattle.av_plain.proofs.Ledger.NoSwap.{key_at-address, key_is}
use Rattle.av_plain.proofs.Load.{without-loads}
use Rattle.av_plain.proofs.Sound.Access.{load-kept}
use Rattle.av_plain.proofs.Sound.Counts.{frame_at-none, slot-itself}
use Rattle.av_plain.proofs.Sound.Pass.{seeks-kept}
use Rattle.av_plain.proofs.Sound.Steps.{is_steady}
use Rattle.av_swap_laws.specs.Held.{Held}
use Rattle.av_swap_laws.specs.Locks.{lock_count}
use Rattle.av_swap_laws.specs.Steps.{view_map}
use Rattle.av_swap_laws.proofs.Cache.{frame_at-into, uncached-frame}
use Rattle.av_swap_laws.proofs.From.{IsFirst, uncached-may_load}
use Rattle.av_swap_laws.proofs.Locks.{locks-loads, locks-mapped}
use Rattle.av_swap_laws.proofs.Parts.{named-slot}
use Rattle.av_swap_laws.proofs.Sound.{load-sound, map-sound}
use Rattle.av_mem.specs.declared.mem.Mem.{Mem}
use Rattle.av_mem.specs.Cache.{HasLoaded, home_by}
use Rattle.av_mem.specs.Locked.{AreFew, locks_more}
use Rattle.av_mem.specs.Mem.{HasLists, HasRoom, frame_count, held_by, locks_of, plain, setting_by, view}
use Rattle.av_mem.specs.Steps.{KeepsBut, KeepsParts}
use Rattle.av_mem.specs.Between.{WhateverStood, HasDone, IsBetween, KeepsBetween}
use Rattle.av_mem.proofs.ComingBack.{back-at, back-few, back-found, back-in_range, back-loaded, back-mapped, back-named, back-uncached, back-used, first-taken, seen-loaded, seen-mapped, view_loaded}
use Rattle.av_mem.proofs.HomeLaws.{away-is, entry-away, home-there}
use Rattle.av_fault.specs.Coming.{Comes, Fetches, HasCome}
use Rattle.av_fault.specs.Seek.{HasSought}
use Rattle.av_fault.specs.declared.fault.Stop.{Stop}
use Rattle.av_fault.specs.declared.fault.Stop.TheVariants.{Lost, Starved}
use Rattle.av_fault.specs.declared.seek.Got.{Got}
use Rattle.av_fault.specs.declared.seek.Got.TheVariants.{Frame, Out}
use Rattle.av_mem.proofs.Amid.{Amid}
use Rattle.av_mem.proofs.Between.{SaysAsMuch, between-some, bytes-move, fit-stays, setting-stays, to-amid, to-fit}
use Rattle.av_mem.proofs.Done.{done-by, done-none, done-then}
use Rattle.av_mem.proofs.LockedLaws.{locks-are-few}
use Rattle.av_mem.proofs.LocksCome.{locks-come, locks-left}
use Rattle.av_mem.proofs.ServesLaws.{locks-stay}
use Rattle.av_fault.proofs.Noted.{noted-more, noted-none}
use Rattle.av_fault.proofs.Run.{run-done, run-none, run-then}
use Rattle.av_fault.proofs.SeekLaws.{free-some}
use Rattle.av_plain.proofs.Wrote.{device-itself, device-on, wrote-none}

-- ---- the slot is cached already

pub come-cached : (d : Device) (k : Mem) (w : World) (r : Rmap) (l : Ledger) (s : Slot) (f : ℕ) (notes : List Note) → KeepsBetween d k w r l
    → (view k).find s ≡ Some f → HasCome (λ m w l added came. Fetches m w l s added came) d d k k w r l notes notes (Ok f)
come-cached d k w r l s f notes h cached = record {
  added = [];
  noted = noted-none d notes;
  comes = subst (λ o. MatchOption o
      (TakesFor (setting_by d k) (sparing w l None) l [] (Loaded s) × (frame_at l s ≡ Some f)) (λ cached. (◌≡◌ {A = List Note} [] []) × (f ≡ cached)))
      (sym cached ∙ h.serves.held.ledger.swap.finds s) (refl, refl);
  done = done-none d k w r l h;
}

-- ---- a frame was sought for the page

-- none is free
pub come-out : (d d1 : Device) (old mid : Mem) (w : World) (r : Rmap) (l : Ledger) (s : Slot) (out : OutOf) (before now : List Note)
    → KeepsBetween d old w r l → (view old).find s ≡ None → HasSought d d1 old mid w r l None before now (Out out)
    → HasCome (λ m w l added came. Fetches m w l s added came) d d1 old mid w r l before now (Err (Starved out))
come-out d d1 old mid w r l s out before now h absent sought = record {
  added = sought.added;
  noted = sought.noted;
  comes = (sym (h.serves.held.ledger.swap.finds s) ∙ absent, sought.seeks, sought.finds);
  done = sought.done;
}

-- one is
module _ (d d1 : Device) (old mid : Mem) (w : World) (r : Rmap) (l : Ledger) (q : Key) (s : Slot) (home : Option (ℕ × ℕ)) (before now : List Note)
    (h : KeepsBetween d old w r l) (there : entry_at old.tables q.0 q.1 ≡ Away s)
    (is : home ≡ home_of q.1 (pages_of old.spaces.processes q.0 q.1)) (absent : (view old).find s ≡ None)
    (sought : HasSought d d1 old mid w r l None before now Frame) where
  abbrev m : Setting
  m = setting_by d old

  abbrev m1 : Setting
  m1 = setting_by d1 mid

  abbrev sought_events : List Event
  sought_events = note_events sought.added

  abbrev w1 : World
  w1 = with_loads m w l sought_events

  abbrev r1 : Rmap
  r1 = rmap_after_all l sought_events r

  abbrev l1 : Ledger
  l1 = after_all l sought_events

  between : KeepsBetween d1 mid w1 r1 l1
  between = sought.done.between

  by_notes : l1 ≡ after_notes l sought.added
  by_notes = note_events-all l sought.added

  at_first : entry l q ≡ Some (InSlot s)
  at_first = entry-away d None old w r l h.serves q s there

  out_first : frame_at l s ≡ None
  out_first = sym (h.serves.held.ledger.swap.finds s) ∙ absent

  -- the entry names the slot still, and that is not cached yet
  at_now : entry l1 q ≡ Some (InSlot s)
  at_now = ap (λ x. entry x q) by_notes
      ∙ (seeks-kept m (sparing w l None) l sought.added h.sound sought.seeks).keeps.steady q
      (ap (is_steady (is_spared (sparing w l None))) at_first) ∙ at_first

  out_now : frame_at l1 s ≡ None
  out_now = uncached-frame s l1 (ap (λ x. slots x s) by_notes
      ∙ (seeks-kept m (sparing w l None) l sought.added h.sound sought.seeks).keeps.absent s (frame_at-none s l.cache out_first)
      (named-slot l q s at_first))

  home_now : home ≡ home_of q.1 (r1.areas q.0 q.1)
  home_now = is ∙ ap (home_of q.1) (h.serves.are q.0 q.1)
      ∙ sym (ap (λ (on : ℕ → ℕ → Option Area). home_of q.1 (on q.0 q.1))
      (fit-areas l r sought.added (fit-seeks m (sparing w l None) l sought.added sought.seeks)))

  -- ---- what the load asks for

  pub load-home : (x : ℕ × ℕ) → home ≡ Some x → IsSome (info_of mid.anons x.0)
  load-home = home-there d1 None mid w1 r1 l1 between.serves q s between.sound.in_order at_now home home_now

  pub load-named : 0 < (view mid).entries s
  load-named = back-named d1 None mid w1 r1 l1 no_excuse between.sound between.serves q s at_now

  pub load-absent : (view mid).find s ≡ None
  load-absent = between.serves.held.ledger.swap.finds s ∙ out_now

  pub load-uncached : (f : ℕ) → is_in f (view mid).free ≡ true → IsUncached (shown_swap mid.swap) f
  load-uncached = back-uncached d1 None mid w1 r1 l1 no_excuse between.sound between.serves q s at_now

  -- a frame is free
  pub load-finds : (view mid).free ≡ [] → ⊥
  load-finds = free-some d1 mid w1 r1 l1 between
      ((λ i. has_free (setting-stays d d1 old mid sought.done.same sought.done.count i) (by_notes i)) ∙ sought.finds)

  -- ---- the device did not give the page

  module _ (d2 : Device) (new : Mem) (same : IsSameDevice d1 d2) (asked : d2.history ≡ d1.history) (says : SaysAsMuch d1 d2) (seen : view new ≡ view mid)
      (parts : KeepsParts mid new) where
    moved : Amid m1 (held_by d2 new w1 r1 l1)
    moved =
        let a = to-amid d1 mid w1 r1 l1 between in
        subst (λ (v : View). Amid m1 (record { view = v; device = d2; world = w1; ledger = l1; rmap = r1 })) (sym seen) (record {
          sound = a.sound;
          held = record {
            ledger = a.held.ledger;
            bytes = bytes-move (view mid) d1 d2 w1 l1 says a.held.bytes;
            headers = a.held.headers;
            covered = a.held.covered;
            homes = a.held.homes;
            items = a.held.items;
          };
          areas = a.areas;
          are = a.are;
          anons = a.anons;
          tidy = a.tidy;
          at_pages = a.at_pages;
          there = a.there;
          areas_fit = a.areas_fit;
          free = a.free;
        })

    lost-done : HasDone d d2 old new w r l sought_events
    lost-done = done-by d d2 old new w w1 r r1 l l1 sought_events refl refl refl (device-on d d1 d2 sought.done.same same)
        (subst (λ h. Wrote (pages_written (notes_of sought_events)) d.history h) (sym asked) sought.done.wrote)
        (parts.count ∙ sought.done.count)
        (subst (λ m. Amid m (held_by d2 new w1 r1 l1)) (setting-stays d d1 old mid sought.done.same sought.done.count) moved)
        (fit-stays d1 d2 mid new same parts (to-fit d1 mid w1 r1 l1 between)) (locks-left parts w1 l1 between.serves.locks)
        (subst (λ (v : View). ChoosesAll m None l sought_events (free_of (view old)) (free_of v)) (sym seen) sought.done.free)

    pub come-lost : Rose d1.failures d2.failures
        → HasCome (λ m w l added came. Fetches m w l s added came) d d2 old new w r l before now (Err Lost)
    come-lost rose = record {
      added = sought.added;
      noted = record { notes = sought.noted.notes; failures = let before = sought.noted.failures in omega (arith, before, rose); failed = omega arith };
      comes = (out_first, sought.seeks, sought.finds);
      done = lost-done;
    }

  -- ---- the first free frame takes it

  module _ (new : Mem) (pages : Option (ℕ → ℕ → List ℕ)) (f : ℕ) (homed : Option (ℕ × ℕ)) (is_home : homed ≡ home_by mid s home)
      (load : HasLoaded mid new pages f s homed) (parts : KeepsParts mid new)
      (got : IfSome d1.pages (λ told. (i : ℕ) → i < page_size → slice_index load.page i ≡ slice_index (told s.area s.page) i)) where
    abbrev load_event : Event
    load_event = Noted (Loaded s f)

    abbrev held_sought : Held
    held_sought = held_by d1 mid w1 r1 l1

    first : IsFirst m1 l1 f load.left
    first = first-taken d1 None mid w1 r1 l1 no_excuse between.sound between.serves q s at_now out_now home home_now new pages f homed
        is_home load got

    abbrev view_now : View
    view_now = view_loaded d1 None mid w1 r1 l1 no_excuse between.sound between.serves q s at_now out_now home home_now new pages f homed
        is_home load got

    loads : HasDone d1 d1 mid new w1 r1 l1 (load_event ∷ [])
    loads =
        run-done d1 d1 mid new w1 (with_loads m1 w1 l1 (load_event ∷ [])) r1 (rmap_after_note l1 (Loaded s f) r1) l1 (after_note (Loaded s f) l1)
        (load_event ∷ []) held_sought view_now
        (run-then m1 held_sought held_sought
        (record {
          view = view_now;
          device = d1;
          world = with_loads m1 w1 l1 (load_event ∷ []);
          ledger = after_note (Loaded s f) l1;
          rmap =
              rmap_after_note l1 (Loaded s f) r1;
        })
        [] load_event (run-none m1 held_sought (to-amid d1 mid w1 r1 l1 between)) (named-slot l1 q s at_now, tt, tt)
        (back-loaded d1 None mid w1 r1 l1 no_excuse between.sound between.serves q s at_now out_now home home_now new pages f homed is_home load got)
        (record { world = refl; view_areas = refl; view_anons = refl; areas = refl; anons = refl })
        (load-sound m1 no_excuse l1 between.sound f s (uncached-may_load m1 no_excuse l1 between.sound f s out_now first.free)
        (named-slot l1 q s at_now) first.below))
        (seen-loaded d1 None mid w1 r1 l1 no_excuse between.sound between.serves q s at_now out_now home home_now new pages f homed is_home load got)
        refl refl refl refl (device-itself d1) (wrote-none d1.history) parts.count (fit-stays d1 d1 mid new (device-itself d1) parts (to-fit d1 mid w1 r1 l1 between))
        (λ g. locks-left parts w1 (after_note (Loaded s f) l1) (locks-stay mid new w1 l1 (Loaded s f) parts refl between.serves.locks) g
        ∙ sym (locks-loads m1 w1 l1 (after_note (Loaded s f) l1) (load_event ∷ []) g))

    abbrev added : List Note
    added = sought.added ++ Loaded s f ∷ []

    takes : TakesFor m (sparing w l None) l added (Loaded s)
    takes = record {
      sought = sought.added;
      frame = f;
      seeks = sought.seeks;
      in_range = subst (λ n. f < n) sought.done.count first.below;
      free = subst (λ x. is_free x f ≡ true) by_notes first.free;
      whole = refl;
    }

    cached_now : frame_at (after_notes l added) s ≡ Some f
    cached_now = ap (λ x. frame_at x s) (after_notes-append l sought.added (Loaded s f ∷ []))
        ∙ frame_at-into s f false (after_notes l sought.added) s ∙ ap (λ b. cond b (Some f) (frame_at (after_notes l sought.added) s)) (slot-itself s)

    pub come-loaded : (last : List Note) → last ≡ now ++ Loaded s f ∷ []
        → HasCome (λ m w l added came. Fetches m w l s added came) d d1 old new w r l before last (Ok f)
    come-loaded last ends = record {
      added = added;
      noted = noted-more d d1 before now last sought.added (Loaded s f) _ sought.noted ends refl;
      comes = subst (λ o. MatchOption o (TakesFor m (sparing w l None) l added (Loaded s) × (frame_at (after_notes l added) s ≡ Some f))
          (λ cached. (added ≡ []) × (f ≡ cached))) (sym out_first) (takes, cached_now);
      done = subst (HasDone d d1 old new w r l) (sym (note_events-append sought.added (Loaded s f ∷ [])))
          (done-then d d1 d1 old mid new w r l sought_events (load_event ∷ []) sought.done loads);
    }

-- what a device says of its failures, whether it tells its pages or not
pub told-rose : (told : Bool) (n : ℕ) (d d' : Device) → RoseBy n d.failures d'.failures
    → RoseBy n (as_told told d).failures (as_told told d').failures
told-rose true n d d' rose = rose
told-rose false n d d' rose = rose

-- and of what it was asked
pub told-asked : (told : Bool) (d d' : Device) → d'.history ≡ d.history → (as_told told d').history ≡ (as_told told d).history
told-asked true d d' asked = asked
told-asked false d d' asked = asked

-- what the load asks for, whatever the device tells
pub record IsToLoad (sizes : ℕ → Option ℕ) (mid : Mem) (s : Slot) (home : Option (ℕ × ℕ)) : Type 0 where
  pub anon : (x : ℕ × ℕ) → home ≡ Some x → IsSome (info_of mid.anons x.0)
  pub listed : HasLists mid
  pub named : 0 < (view mid).entries s
  pub absent : (view mid).find s ≡ None
  pub uncached : (f : ℕ) → is_in f (view mid).free ≡ true → IsUncached (shown_swap mid.swap) f
  pub finds : (view mid).free ≡ [] → ⊥
  pub fits : HasRoom mid
  pub areas : HasAreas sizes (shown_swap mid.swap)

pub to-load : (d d1 : Device) (old mid : Mem) (q : Key) (s : Slot) (home : Option (ℕ × ℕ)) (before now : List Note) (found : Got)
    → IsBetween d.sizes old
    → entry_at old.tables q.0 q.1 ≡ Away s → home ≡ home_of q.1 (pages_of old.spaces.processes q.0 q.1) → (view old).find s ≡ None
    → WhateverStood d d1 old (λ d d' w r l. HasSought d d' old mid w r l None before now found) → found ≡ Frame → IsToLoad d1.sizes mid s home
to-load d d1 old mid q s home before now found between there is absent does frame =
    let b = between-some d.sizes old (d.failures, d.history) between in
    let d0 = as_told false d in
    let d2 = as_told false d1 in
    let sought = subst (HasSought d0 d2 old mid b.0 b.1 b.2 None before now) frame (does false b.0 b.1 b.2 b.3) in
    record {
      anon = load-home d0 d2 old mid b.0 b.1 b.2 q s home before now b.3 there is absent sought;
      listed = sought.done.between.serves.lists;
      named = load-named d0 d2 old mid b.0 b.1 b.2 q s home before now b.3 there is absent sought;
      absent = load-absent d0 d2 old mid b.0 b.1 b.2 q s home before now b.3 there is absent sought;
      uncached = load-uncached d0 d2 old mid b.0 b.1 b.2 q s home before now b.3 there is absent sought;
      finds = load-finds d0 d2 old mid b.0 b.1 b.2 q s home before now b.3 there is absent sought;
      fits = sought.done.between.serves.swap.frames;
      areas = sought.done.between.serves.swap.on_device;
    }

-- ---- the entry names the frame then

-- what no entry of a table but a frame's shows
here-is : (k : Mem) (p page f : ℕ) → (view k).table p page ≡ Some (record { entry = InFrame f false; write = false })
    → entry_at k.tables p page ≡ Here f false false
here-is k p page f is = by (entry_at k.tables p page) is
  where
    by : (e : Pte) → plain e ≡ Some (record { entry = InFrame f false; write = false }) → e ≡ Here f false false
    by Empty is = cc
    by Zero is = let x = ap entry_of is in cc
    by (Here g write was) is = let x = ap entry_of is in let y = ap (option_map (λ (e : Plain). e.write)) is in cc
    by (Away t) is = let x = ap entry_of is in cc

pub map-here : (mid new : Mem) (q : Key) (s : Slot) (f : ℕ) → view new ≡ view_map q.0 q.1 f s (view mid)
    → entry_at new.tables q.0 q.1 ≡ Here f false false
map-here mid new q s f now = here-is new q.0 q.1 f (ap (λ (v : View). v.table q.0 q.1) now
    ∙ ap (λ b. cond b (Some (record { entry = InFrame f false; write = false })) ((view mid).table q.0 q.1))
    (sym (key_is q.0 q.1 q.0 q.1) ∙ same_key-itself q))

-- the page's entry names its slot still, and the frame caches that
pub record IsThere (l : Ledger) (q : Key) (s : Slot) (f : ℕ) : Type 0 where
  pub at : entry l q ≡ Some (InSlot s)
  pub cached : frame_at l s ≡ Some f

module _ (d d1 : Device) (old mid : Mem) (w : World) (r : Rmap) (l : Ledger) (q : Key) (s : Slot) (before now : List Note)
    (h : KeepsBetween d old w r l) (there : entry_at old.tables q.0 q.1 ≡ Away s) (f : ℕ)
    (came : HasCome (λ m w l added came. Fetches m w l s added came) d d1 old mid w r l before now (Ok f)) where
  abbrev fetched_events : List Event
  fetched_events = note_events came.added

  abbrev wf : World
  wf = with_loads (setting_by d old) w l fetched_events

  abbrev rf : Rmap
  rf = rmap_after_all l fetched_events r

  abbrev lf : Ledger
  lf = after_all l fetched_events

  abbrev mf : Setting
  mf = setting_by d1 mid

  fetched : KeepsBetween d1 mid wf rf lf
  fetched = came.done.between

  named_once : entry l q ≡ Some (InSlot s)
  named_once = entry-away d None old w r l h.serves q s there

  is_there : IsThere lf q s f
  is_there = subst (λ x. IsThere x q s f) (sym (note_events-all l came.added)) (by (frame_at l s) refl came.comes)
    where
      by : (o : Option ℕ) → frame_at l s ≡ o → MatchOption o
          (TakesFor (setting_by d old) (sparing w l None) l came.added (Loaded s) × (frame_at (after_notes l came.added) s ≡ Some f))
          (λ cached. (came.added ≡ []) × (f ≡ cached)) → IsThere (after_notes l came.added) q s f
      by None out c = record {
        at = (load-kept (setting_by d old) (sparing w) l s came.added h.sound out (named-slot l q s named_once) c.0).steady q s named_once;
        cached = c.1;
      }
      by (Some g) is c = subst (λ ns. IsThere (after_notes l ns) q s f) (sym c.0) (record { at = named_once; cached = is ∙ ap Some (sym c.1) })

  -- ---- what the map asks for

  pub map-in_range : f < frame_count mid
  map-in_range = back-in_range d1 None mid wf rf lf no_excuse fetched.sound fetched.serves q s is_there.at f is_there.cached

  pub map-names : entry_at mid.tables q.0 q.1 ≡ Away s
  map-names = away-is d1 None mid wf rf lf fetched.serves q s is_there.at

  pub map-cached : (view mid).find s ≡ Some f
  map-cached = back-found d1 None mid wf rf lf no_excuse fetched.sound fetched.serves q s is_there.at f is_there.cached

  pub map-named : 0 < (view mid).entries s
  map-named = back-named d1 None mid wf rf lf no_excuse fetched.sound fetched.serves q s is_there.at

  pub map-locks : AreFew mid
  map-locks = locks-are-few d1 None mid wf rf lf fetched.serves

  pub map-few : (view mid).maps f < 2 ^ 64 - 1
  map-few = back-few d1 None mid wf rf lf no_excuse fetched.sound fetched.serves q s is_there.at f is_there.cached

  -- ---- what it leaves

  module _ (new : Mem) (now_seen : view new ≡ view_map q.0 q.1 f s (view mid)) (parts : KeepsBut (locks_more mid q f (locks_of mid)) mid new) where
    abbrev note : Note
    note = Mapped q.0 (address_of q.1) f

    abbrev held_fetched : Held
    held_fetched = held_by d1 mid wf rf lf

    abbrev view_mapped : View
    view_mapped = view_map q.0 (page_of (address_of q.1)) f s (view mid)

    at_address : entry lf (key_at q.0 (address_of q.1)) ≡ Some (InSlot s)
    at_address = back-at d1 None mid wf rf lf no_excuse fetched.sound fetched.serves q s is_there.at f is_there.cached

    maps : HasDone d1 d1 mid new wf rf lf (Noted note ∷ [])
    maps = run-done d1 d1 mid new wf wf rf rf lf (after_note note lf) (Noted note ∷ []) held_fetched view_mapped
        (run-then mf held_fetched held_fetched (record held_fetched { view = view_mapped; ledger = after_note note lf }) [] (Noted note)
        (run-none mf held_fetched (to-amid d1 mid wf rf lf fetched)) (
          tt,
          back-used d1 None mid wf rf lf no_excuse fetched.sound fetched.serves q s is_there.at f is_there.cached,
          fetched.serves.at_pages q.0 (page_of (address_of q.1)) (ap is_some at_address),
        )
        (back-mapped d1 None mid wf rf lf no_excuse fetched.sound fetched.serves q s is_there.at f is_there.cached)
        (record { world = sym (without-loads mf wf lf (Noted note ∷ []) refl); view_areas = refl; view_anons = refl; areas = refl; anons = refl })
        (map-sound mf no_excuse lf fetched.sound q.0 (address_of q.1) f s at_address is_there.cached))
        (seen-mapped d1 None mid wf rf lf no_excuse fetched.sound fetched.serves q s is_there.at f is_there.cached new now_seen) refl refl
        (sym (without-loads mf wf lf (Noted note ∷ []) refl)) refl
        (device-itself d1) (wrote-none d1.history) parts.count (fit-stays d1 d1 mid new (device-itself d1) parts (to-fit d1 mid wf rf lf fetched))
        (locks-left parts wf (after_note note lf) (locks-come mid wf lf fetched.serves.areas fetched.serves.locks q f (after_note note lf)
        (λ g. locks-mapped wf q.0 (address_of q.1) f lf s g fetched.sound.in_order at_address
        ∙ ap (λ (o : Key). lock_count wf lf g + cond (is_locked_page (pages wf o.0 o.1) && g == f) 1 0) (key_at-address q))))

    comes_in : ComesIn (setting_by d old) (sparing w) l q (need_of_slot s (frame_at l s)) (came.added ++ note ∷ [])
    comes_in = by (frame_at l s) came.comes
      where
        by : (o : Option ℕ) → MatchOption o
            (TakesFor (setting_by d old) (sparing w l None) l came.added (Loaded s) × (frame_at (after_notes l came.added) s ≡ Some f))
            (λ cached. (came.added ≡ []) × (f ≡ cached))
            → ComesIn (setting_by d old) (sparing w) l q (need_of_slot s o) (came.added ++ note ∷ [])
        by None c = (came.added, f, c.0, c.1, refl)
        by (Some g) c = (λ i. c.0 i ++ Mapped q.0 (address_of q.1) (c.1 i) ∷ [])

    in_frame : entry (after_notes l (came.added ++ note ∷ [])) q ≡ Some (InFrame f false)
    in_frame = ap (λ x. entry x q) (after_notes-append l came.added (note ∷ []))
        ∙ ap (λ k. entry (set_entry k (InFrame f false) (after_notes l came.added)) q) (key_at-address q)
        ∙ entry-set q (InFrame f false) (after_notes l came.added) q
        ∙ ap (λ b. cond b (Some (InFrame f false)) (entry (after_notes l came.added) q)) (same_key-itself q)

    pub come-mapped : (last : List Note) → last ≡ now ++ note ∷ []
        → HasCome (λ m w l added came. Comes m w l q s added came) d d1 old new w r l before last (Ok f)
    come-mapped last ends = record {
      added = came.added ++ note ∷ [];
      noted = noted-more d d1 before now last came.added note _ came.noted ends refl;
      comes = (comes_in, in_frame);
      done = subst (HasDone d d1 old new w r l) (sym (note_events-append came.added (note ∷ [])))
          (done-then d d1 d1 old mid new w r l fetched_events (Noted note ∷ []) came.done maps);
    }

-- where the slot's page can't be had, nor does the page come in
pub come-stopped : (d d1 : Device) (old mid : Mem) (w : World) (r : Rmap) (l : Ledger) (q : Key) (s : Slot) (before now : List Note) (stop : Stop)
    → HasCome (λ m w l added came. Fetches m w l s added came) d d1 old mid w r l before now (Err stop)
    → HasCome (λ m w l added came. Comes m w l q s added came) d d1 old mid w r l before now (Err stop)
come-stopped d d1 old mid w r l q s before now stop came = record {
  added = came.added;
  noted = came.noted;
  comes = came.comes;
  done = came.done;
}

-- what the map asks for, whatever the device tells
pub record IsToMap (mid : Mem) (q : Key) (s : Slot) (f : ℕ) : Type 0 where
  pub in_range : f < frame_count mid
  pub names : entry_at mid.tables q.0 q.1 ≡ Away s
  pub cached : (view mid).find s ≡ Some f
  pub named : 0 < (view mid).entries s
  pub few : (view mid).maps f < 2 ^ 64 - 1
  pub locks : AreFew mid

pub to-map : (d d1 : Device) (old mid : Mem) (q : Key) (s : Slot) (before now : List Note) (f : ℕ) (end : Result ℕ Stop) → IsBetween d.sizes old
    → entry_at old.tables q.0 q.1 ≡ Away s
    → WhateverStood d d1 old (λ d d' w r l. HasCome (λ m w l added came. Fetches m w l s added came) d d' old mid w r l before now end) → end ≡ Ok f
    → IsToMap mid q s f
to-map d d1 old mid q s before now f end between there does is =
    let b = between-some d.sizes old (d.failures, d.history) between in
    let d0 = as_told false d in
    let d2 = as_told false d1 in
    let came = subst (HasCome (λ m w l added came. Fetches m w l s added came) d0 d2 old mid b.0 b.1 b.2 before now) is
    (does false b.0 b.1 b.2 b.3) in
    record {
      in_range = map-in_range d0 d2 old mid b.0 b.1 b.2 q s before now b.3 there f came;
      names = map-names d0 d2 old mid b.0 b.1 b.2 q s before now b.3 there f came;
      cached = map-cached d0 d2 old mid b.0 b.1 b.2 q s before now b.3 there f came;
      named = map-named d0 d2 old mid b.0 b.1 b.2 q s before now b.3 there f came;
      few = map-few d0 d2 old mid b.0 b.1 b.2 q s before now b.3 there f came;
      locks = map-locks d0 d2 old mid b.0 b.1 b.2 q s before now b.3 there f came;
    }
