-- The page of a slot is loaded, and the entry that names the slot names its frame: what the memory system with its device makes of both.
use Rattle.std.proofs.Common.{◌≡◌, ℕ, ◌+◌, ◌<◌, ◌≤◌, ◌==◌, ◌&&◌, Bool, true, false, cond, T, List, [], ◌∷◌, Option, Some, None, IfSome, is_some, refl, sym, ap, subst, ◌∙◌}
use Rattle.std.specs.FinMap.Entries.{is_sorted}
use Rattle.std.specs.Prelude.{Ok, Err, Result, slice_index}
use Rattle.std.specs.Result.{result_ok}
use Rattle.std.proofs.lemmas.Bool.{false≢true}
use Rattle.av_base.specs.Keys.{Key, key_cmp}
use Rattle.av_base.specs.Page.{address_of, page_of, page_size}
use Rattle.av_base.specs.declared.slot.Slot.{Slot}
use Rattle.av_io.specs.Count.{Rose}
use Rattle.av_io.specs.declared.failures.Failed.{Failed}
use Rattle.av_spaces.specs.Spaces.{pages_of}
use Rattle.av_swapcache.specs.Area.{counted}
use Rattle.av_trace.specs.declared.note.Note.TheVariants.{Loaded, Mapped}
use Rattle.av_vma.specs.Pages.{home_of}
use Rattle.av_plain.specs.Areas.{Rmap, rmap_after_note}
use Rattle.av_plain.specs.Choice.{ListsFree}
use Rattle.av_plain.specs.Device.{Device, IsSameDevice, as_told, Calls, Wrote, device_by}
use Rattle.av_plain.specs.Event.{Noted, after_note}
use Rattle.av_plain.specs.Ledger.{InSlot, Ledger, entry, is_free, slot_count, slot_entries}
use Rattle.av_plain.specs.Stands.{View}
use Rattle.av_plain.specs.World.{World, is_locked_page, pages}
use Rattle.av_plain.proofs.Ledger.NoSwap.{key_at-address}
use Rattle.av_swap_laws.specs.Held.{Steps}
use Rattle.av_swap_laws.specs.Locks.{AreLocks, lock_count}
use Rattle.av_swap_laws.specs.Steps.{view_map}
use Rattle.av_swap_laws.proofs.From.{first-is}
use Rattle.av_swap_laws.proofs.Locks.{locks-mapped}
use Rattle.av_swap_laws.proofs.Parts.{named-slot}
use Rattle.av_evict.specs.System.{Knows, Makes, Tells, any_slot}
use Rattle.av_mem.specs.Cache.{HasLoaded, Loads, home_by}
use Rattle.av_mem.specs.Locked.{locks_more}
use Rattle.av_mem.specs.Mem.{Serves, held_by, locks_of, setting_by, view}
use Rattle.av_mem.specs.Steps.{KeepsBut, KeepsParts}
use Rattle.av_mem.specs.declared.mem.Mem.{Mem}
use Rattle.av_mem.proofs.ComingBack.{back-at, back-loaded, back-mapped, back-used, got-told, seen-loaded, seen-mapped, seen-same, told-still}
use Rattle.av_mem.proofs.KeepsLaws.{serves-whenever}
use Rattle.av_mem.proofs.LocksCome.{locks-come}
use Rattle.av_mem.proofs.ServesLaws.{locks-stay}
use Rattle.av_reclaim.specs.Driver.{closing_of, view_of}
use Rattle.av_reclaim.proofs.FinishMakes.{none-moved}
use Rattle.av_reclaim.proofs.OneNote.{one-happened, one-still, world_with}
use Rattle.av_reclaim.proofs.ReadLaws.{free-first}
use Rattle.av_reclaim.proofs.StepMakes.{by-view, frame-found, same-world, stands-still}
use Rattle.av_swapoff.specs.System.{MayLoad, MayMap, load_notes}
use Rattle.av_plain.proofs.Wrote.{wrote-none, wrote-same, device-itself}

-- ---- what is in use

pub counts-as : (d : Device) (closing : Option ℕ) (k : Mem) (w : World) (r : Rmap) (l : Ledger) (s : Slot) → Serves d closing k w r l
    → counted ((view k).entries s) ((view k).find s) ≡ slot_count l s
counts-as d closing k w r l s h = (λ i. counted (h.held.ledger.swap.counts s i) (h.held.ledger.swap.finds s i))
    ∙ ap (λ b. slot_entries l s + cond b 1 0) (frame-found s l)

-- ---- an entry names the frame

-- which counts, where its page is locked
map-locks : (d : Device) (closing : Option ℕ) (k : Mem) (w : World) (r : Rmap) (l : Ledger) (q : Key) (s : Slot) (f : ℕ)
    → T (is_sorted key_cmp l.entries) → Serves d closing k w r l → entry l q ≡ Some (InSlot s)
    → AreLocks (locks_more k q f (locks_of k)) w (after_note (Mapped q.0 (address_of q.1) f) l)
map-locks d closing k w r l q s f sorted h named = locks-come k w l h.areas h.locks q f (after_note (Mapped q.0 (address_of q.1) f) l)
    (λ g. locks-mapped w q.0 (address_of q.1) f l s g sorted (ap (entry l) (key_at-address q) ∙ named)
    ∙ ap (λ (k : Key). lock_count w l g + cond (is_locked_page (pages w k.0 k.1) && g == f) 1 0) (key_at-address q))

pub map-makes : (names : List ℕ) (d : Device) (old new : Mem) (q : Key) (s : Slot) (f : ℕ) → view new ≡ view_map q.0 q.1 f s (view old)
    → KeepsBut (locks_more old q f (locks_of old)) old new → Makes (view_of names d old) (view_of names d new) (MayMap s f q) (Mapped q.0 (address_of q.1) f ∷ [])
map-makes names d old new q s f is parts = λ l sound stood may.
    one-still names d d old new l (Mapped q.0 (address_of q.1) f)
    (record { sound = sound; world = stood.0; rmap = stood.1; serves = stood.2 }) (record {
      parts = parts;
      same = device-itself d;
      lawful = (tt, back-used d (closing_of old) old stood.0 stood.1 l any_slot sound stood.2 q s may.named f may.cached);
      brings = λ w r c. c.at_pages q.0 (page_of (address_of q.1))
          (ap is_some (back-at d (closing_of old) old w r l any_slot sound c q s may.named f may.cached));
      still = tt;
      locks = λ w r c. map-locks d (closing_of old) old w r l q s f sound.in_order c may.named;
      failures = stands-still d.failures;
      wrote = wrote-none d.history;
    }) (λ w. same-world (is_some (setting_by d old).headers) w) (λ w r h. by-view d d old new l (Mapped q.0 (address_of q.1) f)
    (view_map q.0 (page_of (address_of q.1)) f s (view old)) w r
    (seen-mapped d (closing_of old) old w r l any_slot sound h q s may.named f may.cached new is)
    (back-mapped d (closing_of old) old w r l any_slot sound h q s may.named f may.cached))

-- ---- a page is loaded

-- the home of a page, in the words of the definitions
pub at-home : (d : Device) (closing : Option ℕ) (k : Mem) (w : World) (r : Rmap) (l : Ledger) (q : Key) (home : Option (ℕ × ℕ))
    → Serves d closing k w r l
    → home ≡ home_of q.1 (pages_of k.spaces.processes q.0 q.1) → home ≡ home_of q.1 (r.areas q.0 q.1)
at-home d closing k w r l q home h is = is ∙ ap (home_of q.1) (h.are q.0 q.1)

-- into the first free frame
load-frame : (names : List ℕ) (d : Device) (old new : Mem) (pages : Option (ℕ → ℕ → List ℕ)) (s : Slot) (f : ℕ) (homed : Option (ℕ × ℕ))
    → HasLoaded old new pages f s homed → Tells (view_of names d old) (λ l. (f < (setting_by d old).frames) × (is_free l f ≡ true))
load-frame names d old new pages s f homed load = λ l sound stood.
    let first = first-is (setting_by d old) l f load.left (subst (ListsFree (setting_by d old) l) load.first stood.2.free.frames) in
    (first.below, first.free)

loaded-makes : (names : List ℕ) (d : Device) (old new : Mem) (q : Key) (s : Slot) (f : ℕ) (home homed : Option (ℕ × ℕ))
    (pages : Option (ℕ → ℕ → List ℕ))
    → home ≡ home_of q.1 (pages_of old.spaces.processes q.0 q.1) → homed ≡ home_by old s home → (load : HasLoaded old new pages f s homed)
    → IfSome d.pages (λ told. (i : ℕ) → i < page_size → slice_index load.page i ≡ slice_index (told s.area s.page) i) → KeepsParts old new
    → Makes (view_of names d old) (view_of names d new) (MayLoad (setting_by d old) s q) (Loaded s f ∷ [])
loaded-makes names d old new q s f home homed pages at is load got parts = λ l sound stood may.
    one-happened names d d old new l (Loaded s f) (record { sound = sound; world = stood.0; rmap = stood.1; serves = stood.2 }) (record {
      parts = parts;
      same = device-itself d;
      lawful = (named-slot l q s may.named, tt);
      brings = λ w r c. tt;
      still = tt;
      locks = λ w r c. locks-stay old new w l (Loaded s f) parts refl c.locks;
      failures = stands-still d.failures;
      wrote = wrote-none d.history;
    }) (λ w r h. subst (λ (v : View). Steps (setting_by d old) (closing_of old) (Noted (Loaded s f)) (held_by d old w r l) (record {
      view = v;
      device = d;
      world = world_with d old w l (Loaded s f);
      ledger = after_note (Loaded s f) l;
      rmap = rmap_after_note l (Loaded s f) r;
    })) (sym (seen-loaded d (closing_of old) old w r l any_slot sound h q s may.named may.absent home
    (at-home d (closing_of old) old w r l q home h at)
    new pages f homed is load got))
    (back-loaded d (closing_of old) old w r l any_slot sound h q s may.named may.absent home (at-home d (closing_of old) old w r l q home h at)
    new pages f homed is load got))

-- a frame that a load gives is one that was free
abbrev AreFree : List ℕ → (Bool → Device) → Mem → Key → Slot → Option ℕ → Type 0
AreFree names device old q s result = IfSome result (λ f. (told : Bool) → Tells (view_of names (device told) old)
    (λ l. MayLoad (setting_by (device told) old) s q l → (f < (setting_by (device told) old).frames) × (is_free l f ≡ true)))

pub load-frames : (names : List ℕ) (device : Bool → Device) (old new : Mem) (q : Key) (s : Slot) (homed : Option (ℕ × ℕ))
    (pages : Option (ℕ → ℕ → List ℕ)) (failures failures' : ℕ) (o : Result ℕ Failed) (result : Option ℕ) → result ≡ result_ok o
    → Loads o old new pages s homed failures failures' → AreFree names device old q s result
load-frames names device old new q s homed pages failures failures' o result is load = subst (AreFree names device old q s) (sym is) (by o load)
  where
    by : (o : Result ℕ Failed) → Loads o old new pages s homed failures failures' → AreFree names device old q s (result_ok o)
    by (Ok f) load = λ told l sound stood may. load-frame names (device told) old new pages s f homed load.0 l sound stood
    by (Err e) load = tt

-- where it gives none, the device failed once more
pub load-lost : (told : Bool) (d d' : Device) (old new : Mem) (s : Slot) (homed : Option (ℕ × ℕ)) (o : Result ℕ Failed) (result : Option ℕ)
    → result ≡ result_ok o → Loads o old new d.pages s homed d.failures d'.failures → result ≡ None
    → Rose (as_told told d).failures (as_told told d').failures
load-lost told d d' old new s homed (Ok f) result is load none = absurd (given f (sym is ∙ none))
  where
    given : (f : ℕ) → Some f ≡ None → ⊥
    given f e = cc
load-lost told d d' old new s homed (Err e) result is load none = by told load.1
  where
    by : (told : Bool) → Rose d.failures d'.failures → Rose (as_told told d).failures (as_told told d').failures
    by true rose = rose
    by false rose = rose

-- with the device afterwards, which says of its pages what it said
module _ (names : List ℕ) (told : Bool) (d d' : Device) (sizes : d'.sizes ≡ d.sizes) (pages : d'.pages ≡ d.pages)
    (more : d.failures ≤ d'.failures) (asked : d'.history ≡ d.history) where
  same_told : IsSameDevice (as_told told d) (as_told told d')
  same_told = seen-same told d d' sizes pages more asked

  wrote_told : (told : Bool) → Wrote [] (as_told told d).history (as_told told d').history
  wrote_told true = wrote-same d.history d'.history asked
  wrote_told false = wrote-same d.history d'.history asked

  abbrev calls' : Calls
  calls' = (d'.failures, d'.history)

  -- it stands for as much, however often it failed
  moved : (k : Mem) (w : World) (r : Rmap) (l : Ledger) → Serves (as_told told d) (closing_of k) k w r l
      → Serves (as_told told d') (closing_of k) k w r l
  moved k w r l h = by told h
    where
      by : (told : Bool) → Serves (as_told told d) (closing_of k) k w r l → Serves (as_told told d') (closing_of k) k w r l
      by true h = subst (λ d'. Serves d' (closing_of k) k w r l) (λ i. device_by (sym sizes i) (sym pages i) calls')
          (serves-whenever d.sizes d.pages (d.failures, d.history) calls' (closing_of k) k w r l h)
      by false h = subst (λ d'. Serves d' (closing_of k) k w r l) (λ i. device_by (sym sizes i) None calls')
          (serves-whenever d.sizes None (d.failures, d.history) calls' (closing_of k) k w r l h)

  load-by : (old new : Mem) (q : Key) (s : Slot) (home homed : Option (ℕ × ℕ)) (o : Result ℕ Failed)
      → home ≡ home_of q.1 (pages_of old.spaces.processes q.0 q.1) → homed ≡ home_by old s home
      → Loads o old new d.pages s homed d.failures d'.failures
      → KeepsParts old new
      → Makes (view_of names (as_told told d) old) (view_of names (as_told told d') new) (MayLoad (setting_by (as_told told d) old) s q)
      (load_notes s (result_ok o))
  load-by old new q s home homed (Err e) at is loads parts = none-moved names (as_told told d) (as_told told d') old new
      (MayLoad (setting_by (as_told told d) old) s q) same_told (wrote_told told) (moved old) loads.0 parts
  load-by old new q s home homed (Ok f) at is loads parts =
      subst (λ x. Makes (view_of names (as_told told d) old) (view_of names x new) (MayLoad (setting_by (as_told told d) old) s q) (Loaded s f ∷ []))
      (sym (told-still told d d' sizes pages loads.1 asked))
      (loaded-makes names (as_told told d) old new q s f home homed d.pages at is loads.0 (got-told told d s loads.0.page loads.0.holds) parts)

  -- whatever it answered
  pub load-makes : (old new : Mem) (q : Key) (s : Slot) (home homed : Option (ℕ × ℕ)) (o : Result ℕ Failed) (result : Option ℕ)
      → result ≡ result_ok o → home ≡ home_of q.1 (pages_of old.spaces.processes q.0 q.1) → homed ≡ home_by old s home
      → Loads o old new d.pages s homed d.failures d'.failures → KeepsParts old new
      → Makes (view_of names (as_told told d) old) (view_of names (as_told told d') new) (MayLoad (setting_by (as_told told d) old) s q)
      (load_notes s result)
  load-makes old new q s home homed o result answers at is loads parts =
      subst (λ x. Makes (view_of names (as_told told d) old) (view_of names (as_told told d') new) (MayLoad (setting_by (as_told told d) old) s q)
      (load_notes s x))
      (sym answers) (load-by old new q s home homed o at is loads parts)

-- a frame is free
pub load-finds : (names : List ℕ) (d : Device) (old : Mem) (q : Key) (s : Slot) → Knows (view_of names d old) (MayLoad (setting_by d old) s q)
    → (view old).free ≡ [] → ⊥
load-finds names d old q s knows none = false≢true (sym (free-first (setting_by d old) knows.0 [] None refl
    (subst (ListsFree (setting_by d old) knows.0) none knows.2.2.free.frames)) ∙ knows.3.free)
