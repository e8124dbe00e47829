-- A page is made ready: what its entry is and what was made of it are what the definitions ask for.
use Rattle.std.proofs.Common.{◌≡◌, inl, ℕ, ◌==◌, Bool, true, false, cond, not, ◌&&◌, List, [], ◌∷◌, ◌++◌, Option, Some, None, is_some, refl, sym, ap, subst, ◌∙◌}
use Rattle.std.proofs.lemmas.Bool.{false≢true}
use Rattle.std.proofs.lemmas.Result.{IfOk-weaker}
use Rattle.std.specs.Bool.{then_some}
use Rattle.std.specs.Prelude.{Err, IfOk, Ok, Result, option_map}
use Rattle.std.specs.declared.alloc.AllocError.{AllocError}
use Rattle.av_base.specs.Keys.{Key}
use Rattle.av_base.specs.declared.slot.Slot.{Slot}
use Rattle.av_pagetable.specs.declared.pte.Pte.{Pte}
use Rattle.av_pagetable.specs.declared.pte.Pte.TheVariants.{Here, Zero}
use Rattle.av_pagetable.specs.Entries.{entry_at}
use Rattle.av_spaces.specs.Spaces.{Spaces, pages_of}
use Rattle.av_trace.specs.declared.note.Note.{Note}
use Rattle.av_trace.specs.declared.note.Note.TheVariants.{Dropped}
use Rattle.av_vma.specs.declared.area.Area.{Area}
use Rattle.av_plain.specs.Areas.{Rmap, rmap_after_all}
use Rattle.av_plain.specs.Choice.{ChoosesAll, Free}
use Rattle.av_plain.specs.Device.{Device, IsSameDevice, as_told, setting_of}
use Rattle.av_plain.specs.Event.{Used, after_all, after_notes, after_use, after_use_of, when}
use Rattle.av_plain.specs.Fault.{ComesIn, CopyOnWrite, IsMade, Need, NewPage, Ready as ReadyNeed, Serves as ServesPage, Touches, ZeroPage, drop_at, drop_of_entry, drop_of_slot, is_allowed, asks_copy, need, permits, sparing, was_slot}
use Rattle.av_plain.specs.Ledger.{Entry, InFrame, InSlot, IsBlank, Ledger, Setting, Zero as ZeroEntry, entry, in_flight, slot_entries, slot_of}
use Rattle.av_plain.specs.Load.{with_loads}
use Rattle.av_plain.specs.Sound.{IsSound}
use Rattle.av_plain.specs.Stands.{entry_of, free_of, prot_of}
use Rattle.av_plain.specs.Transcript.{State, rmap_of}
use Rattle.av_plain.specs.World.{Page, World, pages}
use Rattle.av_plain.proofs.Device.{setting_same}
use Rattle.av_plain.proofs.Load.{without-loads}
use Rattle.av_swap_laws.proofs.Between.{blank-steps}
use Rattle.av_mem.specs.declared.mem.Mem.{Mem}
use Rattle.av_mem.specs.Mem.{Keeps, Serves, frame_count, held_by, plain, ranges_of, setting_by, view}
use Rattle.av_mem.proofs.LetGoLaws.{rest-none}
use Rattle.av_mem.proofs.MemLaws.{prot_on, prots_are}
use Rattle.av_mem.specs.Between.{WhateverStood, HasDone, KeepsBetween}
use Rattle.av_fault.specs.Fault.{HasTouched, IsTouched, MakesReady, end_of, is_permitted, touch_events}
use Rattle.av_fault.specs.Making.{HasMade, IsMadeBy, Makes}
use Rattle.av_fault.specs.declared.fault.Stop.TheVariants.{Denied, Lost, Starved}
use Rattle.av_fault.specs.declared.fault.Touched.{Touched}
use Rattle.av_fault.specs.declared.fault.Touched.TheVariants.{Ready, Stopped, Zeros}
use Rattle.av_mem.proofs.Between.{between-of, fit-stays, to-amid, to-fit}
use Rattle.av_fault.proofs.Noted.{noted-none}
use Rattle.av_fault.proofs.EntryLaws.{entry-is}
use Rattle.av_fault.proofs.Run.{run-done, run-none, run-then}
use Rattle.av_fault.proofs.UsingLaws.{entry-here}
use Rattle.av_plain.proofs.Wrote.{device-itself, device-told, wrote-none}

-- ---- areas

-- whether an access is permitted, by the area on the page
pub may-be : (s : Spaces) (p page : ℕ) (write : Bool) (o : Option Area) → o ≡ pages_of s p page
    → is_permitted write (option_map prot_on o) ≡ is_permitted write (prot_of (ranges_of s p) page)
may-be s p page write o is = ap (λ x. is_permitted write (option_map prot_on x)) is ∙ sym (ap (is_permitted write) (prots_are s p page))

-- something is there exactly under the test
pub some-then : {A : Type 0} (b : Bool) (x : A) → is_some (then_some b x) ≡ b
some-then true x = refl
some-then false x = refl

-- ---- what stands says of a page

module _ (d : Device) (k : Mem) (w : World) (r : Rmap) (l : Ledger) (h : KeepsBetween d k w r l) where
  -- the memories allow what the areas permit
  pub allowed-as : (write : Bool) (q : Key) → is_allowed w write q ≡ is_permitted write (prot_of (ranges_of k.spaces.processes q.0) q.1)
  allowed-as write q = by (pages w q.0 q.1) ∙ ap (is_permitted write) (sym (h.serves.areas.covers q.0 q.1))
    where
      by : (o : Option Page) → permits write o ≡ is_permitted write (option_map (λ (p : Page). p.prot) o)
      by None = refl
      by (Some page) = refl

-- ---- what is made is what the page is touched for

-- the entry is no slot
abbrev pub IsNoSlot : Option Entry → Type 0
IsNoSlot None = Unit {0}
IsNoSlot (Some ZeroEntry) = Unit {0}
IsNoSlot (Some (InFrame f seen)) = Unit {0}
IsNoSlot (Some (InSlot s)) = ⊥

module _ (m : Setting) (w : World) (l : Ledger) (write : Bool) (k : Key) where
  needs : (P : Need → Type 0) → P ReadyNeed → P ZeroPage → P NewPage → ((g : ℕ) → P (CopyOnWrite g)) → (o : Option Entry) → IsNoSlot o
      → P (need write l o)
  needs P a b c e o slotless = by write o slotless
    where
      shared : (g : ℕ) (x : Bool) → P (cond x (CopyOnWrite g) ReadyNeed)
      shared g true = e g
      shared g false = a

      by : (write : Bool) (o : Option Entry) → IsNoSlot o → P (need write l o)
      by false None slotless = b
      by true None slotless = c
      by false (Some ZeroEntry) slotless = a
      by true (Some ZeroEntry) slotless = c
      by false (Some (InFrame g seen)) slotless = a
      by true (Some (InFrame g seen)) slotless = shared g (asks_copy l g)
      by false (Some (InSlot s)) slotless = absurd slotless
      by true (Some (InSlot s)) slotless = absurd slotless

  pub makes-touches : (added : List Note) (touched : Touched) → IsNoSlot (entry l k) → is_allowed w write k ≡ true
      → Makes m w l write false k added touched
      → Touches m w l write k added (end_of touched)
  makes-touches added touched slotless allowed makes = by touched makes
    where
      serves : IsMadeBy m w l write false k added → ServesPage m (sparing w) l write k added
      serves made = record {
        coming = [];
        making = made.making;
        whole = made.whole ∙ sym (ap (λ b. made.making ++ drop_at m write b (after_notes l made.making) k)
            (needs (λ n. was_slot n ≡ false) refl refl refl (λ g. refl) (entry l k) slotless));
        comes_in = needs (λ n. ComesIn m (sparing w) l k n []) refl refl refl (λ g. refl) (entry l k) slotless;
        made = made.made;
      }

      by : (touched : Touched) → Makes m w l write false k added touched → Touches m w l write k added (end_of touched)
      by (Ready f) made = (allowed, serves made)
      by Zeros made = (allowed, serves made)
      by (Stopped Denied) made = absurd made
      by (Stopped Lost) made = absurd made
      by (Stopped (Starved out)) finds = (allowed, record { coming = []; sought = added; whole = refl; before = inl refl; finds = finds })

pub made-touched : (d d' : Device) (old new : Mem) (w : World) (r : Rmap) (l : Ledger) (write : Bool) (k : Key) (before now : List Note)
    (touched : Touched)
    → IsNoSlot (entry l k) → is_allowed w write k ≡ true → HasMade d d' old new w r l write false k before now touched
    → HasTouched d d' old new w r l write k before now touched
made-touched d d' old new w r l write k before now touched slotless allowed made = record {
  added = made.added;
  noted = made.noted;
  touches = makes-touches (setting_by d old) w l write k made.added touched slotless allowed made.makes;
  ready = made.ready;
  done = made.done;
}

-- so it is of a page whose entry is this one, if memory was not wanting
pub made-does : (d d' : Device) (old new : Mem) (write : Bool) (k : Key) (before now : List Note) (result : Result Touched AllocError) (e : Pte)
    → entry_at old.tables k.0 k.1 ≡ e → IsNoSlot (entry_of (plain e)) → is_permitted write (prot_of (ranges_of old.spaces.processes k.0) k.1) ≡ true
    → IfOk result (λ touched. WhateverStood d d' old (λ d d' w r l. HasMade d d' old new w r l write false k before now touched))
    → IfOk result (λ touched. WhateverStood d d' old (λ d d' w r l. HasTouched d d' old new w r l write k before now touched))
made-does d d' old new write k before now result e there slotless permitted = IfOk-weaker result _ _ (λ touched made told w r l h.
    let d0 = as_told told d in
    let at : entry l k ≡ entry_of (plain e) = entry-is d0 old w r l h k e there in
    made-touched d0 (as_told told d') old new w r l write k before now touched (subst IsNoSlot (sym at) slotless)
    (allowed-as d0 old w r l h write k ∙ permitted) (made told w r l h))

-- ---- a read of what is there

-- no read needs a slot less, unless the page came in
read-drops : (m : Setting) (l : Ledger) (o : Option Slot) → drop_of_slot m false false l o ≡ []
read-drops m l None = refl
read-drops m l (Some s) = by (not (in_flight l s)) (slot_entries l s == 0)
  where
    by : (a b : Bool) → when (a && b && false) (Dropped s) ≡ []
    by true true = refl
    by true false = refl
    by false b = refl

-- a page that has a frame, and one that has zeros
pub read-touched : (d : Device) (old new : Mem) (w : World) (r : Rmap) (l : Ledger) (k : Key) (f : ℕ) (write seen : Bool) (notes : List Note)
    → KeepsBetween d old w r l → is_allowed w false k ≡ true → entry_at old.tables k.0 k.1 ≡ Here f write seen
    → HasDone d d old new w r l (Used false k ∷ []) → entry_at new.tables k.0 k.1 ≡ Here f write true
    → HasTouched d d old new w r l false k notes notes (Ready f)
read-touched d old new w r l k f write seen notes h allowed there done here =
    let at : entry l k ≡ Some (InFrame f seen) = entry-here d old w r l h k f write seen there in
    made-touched d d old new w r l false k notes notes (Ready f) (subst IsNoSlot (sym at) tt) allowed (record {
      added = [];
      noted = noted-none d notes;
      makes = record {
        making = [];
        made = subst (λ o. IsMade (setting_by d old) (sparing w) l k (need false l o) []) (sym at) refl;
        whole = sym (ap (drop_of_entry (setting_by d old) false false l) at ∙ read-drops (setting_by d old) l (slot_of l f));
      };
      ready = (entry-here d new _ _ _ done.between k f write true here, λ is. absurd (false≢true is));
      done = done;
    })

pub zeros-touched : (d : Device) (old : Mem) (w : World) (r : Rmap) (l : Ledger) (k : Key) (notes : List Note)
    → KeepsBetween d old w r l → is_allowed w false k ≡ true → entry_at old.tables k.0 k.1 ≡ Zero
    → HasTouched d d old old w r l false k notes notes Zeros
zeros-touched d old w r l k notes h allowed there =
    let m = setting_by d old in
    let here = held_by d old w r l in
    let at : entry l k ≡ Some ZeroEntry = sym (h.serves.held.ledger.tables.entries k.0 k.1) ∙ ap (λ e. entry_of (plain e)) there in
    let same : after_use false k l ≡ l = ap (after_use_of false k l) at in
    made-touched d d old old w r l false k notes notes Zeros (subst IsNoSlot (sym at) tt) allowed (record {
      added = [];
      noted = noted-none d notes;
      makes = record {
        making = [];
        made = subst (λ o. IsMade m (sparing w) l k (need false l o) []) (sym at) refl;
        whole = sym (ap (drop_of_entry m false false l) at);
      };
      ready = (ap (λ x. entry x k) same ∙ at, refl);
      done = run-done d d old old w w r r l l (Used false k ∷ []) here (view old)
          (run-then m here here here [] (Used false k) (run-none m here (to-amid d old w r l h)) tt
          (blank-steps m None here h.serves.held k.0 k.1 (subst IsBlank (sym at) tt))
          (record { world = sym (without-loads m w l (Used false k ∷ []) refl); view_areas = refl; view_anons = refl; areas = refl; anons = refl })
          h.sound)
          refl refl refl (sym (without-loads m w l (Used false k ∷ []) refl)) refl (device-itself d) (wrote-none d.history) refl
          (fit-stays d d old old (device-itself d) (rest-none old).parts (to-fit d old w r l h)) h.serves.locks;
    })

-- ---- the whole

module _ (d d' : Device) (s : State) (old new : Mem) (write : Bool) (k : Key) (before now : List Note) (keeps : Keeps d old s) where
  pub is-touched : (touched : Touched) → HasTouched d d' old new s.world (rmap_of s) s.ledger write k before now touched
      → IsTouched d d' s new write k before now touched
  is-touched touched h =
      let same : setting_by d old ≡ setting_by d new = ap (λ n. setting_of n d) (sym h.done.count) in
      let events = touch_events write k h.added touched in
      record {
        added = h.added;
        noted = h.noted;
        touches = subst (λ m. Touches m s.world s.ledger write k h.added (end_of touched)) same h.touches;
        ready = h.ready;
        served = record {
          sound = subst (λ m. IsSound m (after_all s.ledger events)) (setting_same (frame_count new) d d' h.done.same) h.done.between.sound;
          serves = subst (λ m. Serves d' None new (with_loads m s.world s.ledger events) (rmap_after_all s.ledger events (rmap_of s))
              (after_all s.ledger events)) same h.done.between.serves;
          free = subst (λ m. ChoosesAll m None s.ledger events s.free (free_of (view new))) same
              (subst (λ (x : Free). ChoosesAll (setting_by d old) None s.ledger events x (free_of (view new))) keeps.stands.free h.done.free);
          wrote = h.done.wrote;
        };
      }

-- it was touched, or memory was wanting
pub is-ready : (told : Bool) (d d' : Device) (old new : Mem) (write : Bool) (k : Key) (before now : List Note) (result : Result Touched AllocError)
    → IfOk result (λ touched. WhateverStood d d' old (λ d d' w r l. HasTouched d d' old new w r l write k before now touched))
    → IsSameDevice d d' → frame_count new ≡ frame_count old → MakesReady (as_told told d) (as_told told d') old new write k before now result
is-ready told d d' old new write k before now result done same count = record {
  step = λ s keeps. by result done s keeps;
  same = device-told told d d' same;
  count = count;
}
  where
    by : (result : Result Touched AllocError)
        → IfOk result (λ touched. WhateverStood d d' old (λ d d' w r l. HasTouched d d' old new w r l write k before now touched))
        → (s : State) → Keeps (as_told told d) old s → IfOk result (IsTouched (as_told told d) (as_told told d') s new write k before now)
    by (Ok touched) done s keeps = is-touched (as_told told d) (as_told told d') s old new write k before now keeps touched
        (done told s.world (rmap_of s) s.ledger (between-of (as_told told d) old s keeps))
    by (Err e) done s keeps = tt
