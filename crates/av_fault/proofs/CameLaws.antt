-- A page whose entry is a slot is made ready: it came in, and was used or copied then; or it could not come in.
use Rattle.std.proofs.Common.{◌≡◌, inl, inr, ℕ, Bool, true, false, List, [], ◌∷◌, ◌++◌, Option, Some, None, refl, sym, ap, subst, ◌∙◌}
use Rattle.std.proofs.lemmas.List.{append_assoc}
use Rattle.std.proofs.lemmas.Result.{IfOk-weaker}
use Rattle.std.specs.Option.{option_map_or}
use Rattle.std.specs.Prelude.{Err, IfOk, Ok, Result, option_map}
use Rattle.std.specs.declared.alloc.AllocError.{AllocError}
use Rattle.av_base.specs.Keys.{Key}
use Rattle.av_base.specs.Page.{address_of}
use Rattle.av_base.specs.declared.flags.Flags.{Flags}
use Rattle.av_base.specs.declared.slot.Slot.{Slot}
use Rattle.av_pagetable.specs.declared.pte.Pte.TheVariants.{Away}
use Rattle.av_pagetable.specs.Entries.{entry_at}
use Rattle.av_spaces.specs.Spaces.{pages_of}
use Rattle.av_trace.specs.declared.note.Note.{Note}
use Rattle.av_trace.specs.declared.note.Note.TheVariants.{Loaded, Mapped}
use Rattle.av_vma.specs.Pages.{home_of}
use Rattle.av_vma.specs.declared.area.Area.{Area}
use Rattle.av_plain.specs.Areas.{Rmap, rmap_after_all, rmap_after_note}
use Rattle.av_plain.specs.Device.{Device, as_told}
use Rattle.av_plain.specs.Event.{Event, Noted, Used, after_all, after_notes, note_events}
use Rattle.av_plain.specs.Fault.{ComesIn, FindsNone, IsMade, Serves, SwapIn, Touches, drop_at, is_allowed, need, need_of_slot, sparing, was_slot}
use Rattle.av_plain.specs.Ledger.{InSlot, Ledger, Setting, entry, frame_at}
use Rattle.av_plain.specs.Load.{with_loads}
use Rattle.av_plain.specs.Stands.{prot_of}
use Rattle.av_plain.specs.World.{Page, World, is_locked_page, pages}
use Rattle.av_plain.proofs.Access.{after_all-append, after_notes-append, note_events-all, note_events-append, spares-alike}
use Rattle.av_plain.proofs.AreasLeft.{rmap_after_all-append}
use Rattle.av_plain.proofs.Covered.Page.{fit-areas}
use Rattle.av_plain.proofs.Covered.Swap.{fit-seeks}
use Rattle.av_plain.proofs.Sound.{flags-loads}
use Rattle.av_mem.specs.declared.mem.Mem.{Mem}
use Rattle.av_mem.specs.Mem.{ranges_of, setting_by}
use Rattle.av_mem.specs.Between.{WhateverStood, HasDone, IsBetween, KeepsBetween}
use Rattle.av_fault.specs.Coming.{Comes, HasCome}
use Rattle.av_fault.specs.Fault.{HasTouched, IsReady, end_of, is_permitted, touch_events}
use Rattle.av_fault.specs.Making.{HasMade, IsMadeBy, Makes}
use Rattle.av_fault.specs.declared.fault.Stop.{Stop}
use Rattle.av_fault.specs.declared.fault.Stop.TheVariants.{Denied, Lost, Starved}
use Rattle.av_fault.specs.declared.fault.Touched.{Touched}
use Rattle.av_fault.specs.declared.fault.Touched.TheVariants.{Ready, Stopped, Zeros}
use Rattle.av_mem.proofs.Between.{between-some, setting-stays}
use Rattle.av_mem.proofs.HomeLaws.{entry-away}
use Rattle.av_mem.proofs.Done.{done-then}
use Rattle.av_fault.proofs.Noted.{noted-then}
use Rattle.av_fault.proofs.TouchLaws.{allowed-as}

-- ---- what a page needs whose entry is a slot

needs-slot : (write : Bool) (l : Ledger) (k : Key) (s : Slot) → entry l k ≡ Some (InSlot s) → need write l (entry l k) ≡ need_of_slot s (frame_at l s)
needs-slot write l k s at = ap (need write l) at ∙ by write
  where
    by : (write : Bool) → need write l (Some (InSlot s)) ≡ need_of_slot s (frame_at l s)
    by true = refl
    by false = refl

is-slot : (s : Slot) (o : Option ℕ) → was_slot (need_of_slot s o) ≡ true
is-slot s None = refl
is-slot s (Some f) = refl

-- loads leave the same pages locked, so that a pass leaves the same frames alone
pub locked-loads : (m : Setting) (w : World) (l : Ledger) (events : List Event) (p page : ℕ)
    → is_locked_page (pages (with_loads m w l events) p page) ≡ is_locked_page (pages w p page)
locked-loads m w l events p page = by (pages (with_loads m w l events) p page) (pages w p page) (flags-loads m w l events p page)
  where
    by : (x y : Option Page) → option_map (λ (q : Page). q.flags) x ≡ option_map (λ (q : Page). q.flags) y → is_locked_page x ≡ is_locked_page y
    by None None e = refl
    by None (Some y) e = cc
    by (Some x) None e = cc
    by (Some x) (Some y) e = ap (λ (o : Option Flags). option_map_or (λ (f : Flags). f.locked) o false) e

sparing-loads : (m : Setting) (w : World) (l : Ledger) (events : List Event) → sparing (with_loads m w l events) ≡ sparing w
sparing-loads m w l events = spares-alike (with_loads m w l events) w (locked-loads m w l events)

-- what is made depends on the memories by what a pass leaves alone
makes-alike : (m : Setting) (w w' : World) (l : Ledger) (write came : Bool) (k : Key) (added : List Note) (touched : Touched)
    → sparing w ≡ sparing w' → Makes m w l write came k added touched → Makes m w' l write came k added touched
makes-alike m w w' l write came k added touched same = by touched
  where
    made : IsMadeBy m w l write came k added → IsMadeBy m w' l write came k added
    made x = record {
      making = x.making;
      made = subst (λ sp. IsMade m sp l k (need write l (entry l k)) x.making) same x.made;
      whole = x.whole;
    }

    by : (touched : Touched) → Makes m w l write came k added touched → Makes m w' l write came k added touched
    by (Ready f) x = made x
    by Zeros x = made x
    by (Stopped Denied) x = x
    by (Stopped Lost) x = x
    by (Stopped (Starved out)) x = subst (λ sp. FindsNone m sp l (need write l (entry l k)) added out) same x

-- ---- the page came in

module _ (d d' : Device) (old mid : Mem) (w : World) (r : Rmap) (l : Ledger) (k : Key) (s : Slot) (before amid : List Note) (f : ℕ)
    (at : entry l k ≡ Some (InSlot s)) (came : HasCome (λ m w l added came. Comes m w l k s added came) d d' old mid w r l before amid (Ok f)) where
  abbrev m : Setting
  m = setting_by d old

  abbrev come_events : List Event
  come_events = note_events came.added

  abbrev pub world_come : World
  world_come = with_loads m w l come_events

  abbrev pub rmap_come : Rmap
  rmap_come = rmap_after_all l come_events r

  abbrev pub ledger_come : Ledger
  ledger_come = after_all l come_events

  -- one more note that prepares no area
  areas-more : (notes : List Note) (note : Note) → ((l : Ledger) (r : Rmap) → (rmap_after_note l note r).areas ≡ r.areas)
      → (rmap_after_all l (note_events (notes ++ note ∷ [])) r).areas ≡ (rmap_after_all l (note_events notes) r).areas
  areas-more notes note still =
      ap (λ (x : Rmap). x.areas)
      (ap (λ es. rmap_after_all l es r) (note_events-append notes (note ∷ [])) ∙ rmap_after_all-append l (note_events notes) (Noted note ∷ []) r)
      ∙ still (after_all l (note_events notes)) (rmap_after_all l (note_events notes) r)

  areas-come : rmap_come.areas ≡ r.areas
  areas-come = by (frame_at l s) came.comes.0
    where
      by : (o : Option ℕ) → ComesIn m (sparing w) l k (need_of_slot s o) came.added → rmap_come.areas ≡ r.areas
      by None c = ap (λ ns. (rmap_after_all l (note_events ns) r).areas) c.4 ∙ areas-more c.0 (Mapped k.0 (address_of k.1) c.1) (λ l r. refl)
          ∙ ap (λ ns. (rmap_after_all l (note_events ns) r).areas) c.2.whole ∙ areas-more c.2.sought (Loaded s c.2.frame) (λ l r. refl)
          ∙ fit-areas l r c.2.sought (fit-seeks m (sparing w l None) l c.2.sought c.2.seeks)
      by (Some g) c = ap (λ ns. (rmap_after_all l (note_events ns) r).areas) c

  pub pages-come : KeepsBetween d old w r l → (p page : ℕ) → pages_of mid.spaces.processes p page ≡ pages_of old.spaces.processes p page
  pages-come h p page = came.done.between.serves.are p page ∙ ap (λ (on : ℕ → ℕ → Option Area). on p page) areas-come ∙ sym (h.serves.are p page)

  comes_in : (write : Bool) → ComesIn m (sparing w) l k (need write l (entry l k)) came.added
  comes_in write = subst (λ n. ComesIn m (sparing w) l k n came.added) (sym (needs-slot write l k s at)) came.comes.0

  -- and then it was made ready
  module _ (d'' : Device) (new : Mem) (write : Bool) (now : List Note) (touched : Touched) (allowed : is_allowed w write k ≡ true)
      (made : HasMade d' d'' mid new world_come rmap_come ledger_come write true k amid now touched) where
    abbrev ledger_noted : Ledger
    ledger_noted = after_notes l came.added

    abbrev added : List Note
    added = came.added ++ made.added

    makes_then : Makes m w ledger_noted write true k made.added touched
    makes_then = subst (λ x. Makes m w x write true k made.added touched) (note_events-all l came.added)
        (subst (λ m. Makes m w ledger_come write true k made.added touched) (setting-stays d d' old mid came.done.same came.done.count)
        (makes-alike (setting_by d' mid) world_come w ledger_come write true k made.added touched (sparing-loads m w l come_events) made.makes))

    serves : IsMadeBy m w ledger_noted write true k made.added → Serves m (sparing w) l write k added
    serves x = record {
      coming = came.added;
      making = x.making;
      whole = ap (λ ns. came.added ++ ns) x.whole
          ∙ sym (append_assoc came.added x.making (drop_at m write true (after_notes ledger_noted x.making) k))
          ∙ (λ i. came.added ++ x.making ++ drop_at m write (sym was i) (sym (after_notes-append l came.added x.making) i) k);
      comes_in = comes_in write;
      made = x.made;
    }
      where
        was : was_slot (need write l (entry l k)) ≡ true
        was = ap was_slot (needs-slot write l k s at) ∙ is-slot s (frame_at l s)

    touches_by : (t : Touched) → Makes m w ledger_noted write true k made.added t → Touches m w l write k added (end_of t)
    touches_by (Ready f) x = (allowed, serves x)
    touches_by Zeros x = (allowed, serves x)
    touches_by (Stopped Denied) x = absurd x
    touches_by (Stopped Lost) x = absurd x
    touches_by (Stopped (Starved out)) x =
        (allowed, record { coming = came.added; sought = made.added; whole = refl; before = inr (comes_in write); finds = x })

    events-are : (t : Touched) → come_events ++ touch_events write k made.added t ≡ touch_events write k added t
    events-are t = by t
      where
        used : come_events ++ (note_events made.added ++ Used write k ∷ []) ≡ note_events added ++ Used write k ∷ []
        used = sym (ap (λ es. es ++ Used write k ∷ []) (note_events-append came.added made.added)
            ∙ append_assoc come_events (note_events made.added) (Used write k ∷ []))

        by : (t : Touched) → come_events ++ touch_events write k made.added t ≡ touch_events write k added t
        by (Ready f) = used
        by Zeros = used
        by (Stopped stop) = sym (note_events-append came.added made.added)

    pub came-touched : HasTouched d d'' old new w r l write k before now touched
    came-touched = record {
      added = added;
      noted = noted-then d d' d'' before amid now came.added made.added _ _ _ came.noted made.noted;
      touches = touches_by touched makes_then;
      ready = subst (λ x. IsReady write x k touched)
          (sym (after_all-append l come_events (touch_events write k made.added touched)) ∙ ap (after_all l) (events-are touched)) made.ready;
      done = subst (HasDone d d'' old new w r l) (events-are touched)
          (done-then d d' d'' old mid new w r l come_events (touch_events write k made.added touched) came.done made.done);
    }

-- ---- it could not come in

pub stop-touched : (d d' : Device) (old new : Mem) (w : World) (r : Rmap) (l : Ledger) (k : Key) (s : Slot) (write : Bool)
    (before now : List Note) (stop : Stop)
    → entry l k ≡ Some (InSlot s) → is_allowed w write k ≡ true
    → HasCome (λ m w l added came. Comes m w l k s added came) d d' old new w r l before now (Err stop)
    → HasTouched d d' old new w r l write k before now (Stopped stop)
stop-touched d d' old new w r l k s write before now stop at allowed came = record {
  added = came.added;
  noted = came.noted;
  touches = by stop came.comes;
  ready = tt;
  done = came.done;
}
  where
    absent : frame_at l s ≡ None → need write l (entry l k) ≡ SwapIn s
    absent none = needs-slot write l k s at ∙ ap (need_of_slot s) none

    by : (stop : Stop) → Comes (setting_by d old) w l k s came.added (Err stop)
        → Touches (setting_by d old) w l write k came.added (end_of (Stopped stop))
    by Denied c = absurd c
    by Lost c = (allowed, record { slot = s; absent = absent c.0; seeks = c.1; frame = c.2 })
    by (Starved out) c = (
      allowed,
      record {
        coming = [];
        sought = came.added;
        whole = refl;
        before = inl refl;
        finds = subst (λ n. FindsNone (setting_by d old) (sparing w) l n came.added out) (sym (absent c.0))
            (record { wants = refl; seeks = c.1; none = c.2.0; numbers = c.2.1 });
      },
    )

-- ---- what stands when it has come in, whatever the device tells

pub record IsIn (sizes : ℕ → Option ℕ) (mid : Mem) (k : Key) (home : Option (ℕ × ℕ)) : Type 0 where
  pub between : IsBetween sizes mid
  pub is_home : home ≡ home_of k.1 (pages_of mid.spaces.processes k.0 k.1)

pub is-in : (d d1 : Device) (old mid : Mem) (k : Key) (s : Slot) (home : Option (ℕ × ℕ)) (before amid : List Note) (f : ℕ) (end : Result ℕ Stop)
    → IsBetween d.sizes old
    → entry_at old.tables k.0 k.1 ≡ Away s → home ≡ home_of k.1 (pages_of old.spaces.processes k.0 k.1)
    → WhateverStood d d1 old (λ d d' w r l. HasCome (λ m w l added came. Comes m w l k s added came) d d' old mid w r l before amid end) → end ≡ Ok f
    → IsIn d1.sizes mid k home
is-in d d1 old mid k s home before amid f end between there is does ok =
    let b = between-some d.sizes old (d.failures, d.history) between in
    let d0 = as_told false d in
    let d2 = as_told false d1 in
    let came = subst (HasCome (λ m w l added came. Comes m w l k s added came) d0 d2 old mid b.0 b.1 b.2 before amid) ok
    (does false b.0 b.1 b.2 b.3) in
    let at = entry-away d0 None old b.0 b.1 b.2 b.3.serves k s there in
    record {
      between = ((d1.failures, d1.history), _, _, _, came.done.between);
      is_home = is ∙ ap (home_of k.1) (sym (pages-come d0 d2 old mid b.0 b.1 b.2 k s before amid f at came b.3 k.0 k.1));
    }

-- ---- the whole, if memory was not wanting

pub came-does : (d d' d'' : Device) (old mid new : Mem) (write : Bool) (k : Key) (s : Slot) (before amid now : List Note) (f : ℕ)
    (end : Result ℕ Stop)
    (result : Result Touched AllocError) → entry_at old.tables k.0 k.1 ≡ Away s
    → is_permitted write (prot_of (ranges_of old.spaces.processes k.0) k.1) ≡ true
    → WhateverStood d d' old (λ d d' w r l. HasCome (λ m w l added came. Comes m w l k s added came) d d' old mid w r l before amid end) → end ≡ Ok f
    → IfOk result (λ touched. WhateverStood d' d'' mid (λ d' d'' w r l. HasMade d' d'' mid new w r l write true k amid now touched))
    → IfOk result (λ touched. WhateverStood d d'' old (λ d d'' w r l. HasTouched d d'' old new w r l write k before now touched))
came-does d d' d'' old mid new write k s before amid now f end result there permitted does ok = IfOk-weaker result _ _ (λ touched made told w r l h.
    let d0 = as_told told d in
    let d1 = as_told told d' in
    let came = subst (HasCome (λ m w l added came. Comes m w l k s added came) d0 d1 old mid w r l before amid) ok (does told w r l h) in
    came-touched d0 d1 old mid w r l k s before amid f (entry-away d0 None old w r l h.serves k s there) came (as_told told d'') new write now touched
    (allowed-as d0 old w r l h write k ∙ permitted) (made told _ _ _ came.done.between))

pub stop-does : (d d' : Device) (old new : Mem) (write : Bool) (k : Key) (s : Slot) (before now : List Note) (stop : Stop) (end : Result ℕ Stop)
    → entry_at old.tables k.0 k.1 ≡ Away s → is_permitted write (prot_of (ranges_of old.spaces.processes k.0) k.1) ≡ true
    → WhateverStood d d' old (λ d d' w r l. HasCome (λ m w l added came. Comes m w l k s added came) d d' old new w r l before now end) → end ≡ Err stop
    → WhateverStood d d' old (λ d d' w r l. HasTouched d d' old new w r l write k before now (Stopped stop))
stop-does d d' old new write k s before now stop end there permitted does err = λ told w r l h.
    let d0 = as_told told d in
    stop-touched d0 (as_told told d') old new w r l k s write before now stop (entry-away d0 None old w r l h.serves k s there)
    (allowed-as d0 old w r l h write k ∙ permitted)
    (subst (HasCome (λ m w l added came. Comes m w l k s added came) d0 (as_told told d') old new w r l before now) err (does told w r l h))
