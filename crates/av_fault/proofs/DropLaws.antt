-- The slot of a frame is dropped where it is needed no more.
use Rattle.std.proofs.Common.{◌≡◌, ℕ, ◌<◌, ◌==◌, Bool, true, false, cond, not, ◌&&◌, nat_lt, List, [], ◌∷◌, ◌++◌, Option, Some, None, is_some, refl, sym, ap, ◌∙◌, arith}
use Rattle.std.proofs.lemmas.Bool.Decides.{nat_tests}
use Rattle.std.proofs.lemmas.List.{append-nil}
use Rattle.std.specs.List.{list_any}
use Rattle.av_base.specs.Words.{is_in}
use Rattle.av_base.specs.declared.slot.Slot.{Slot}
use Rattle.av_pagetable.specs.declared.pte.Pte.{Pte}
use Rattle.av_pagetable.specs.declared.pte.Pte.TheVariants.{Away, Empty, Here, Zero as ZeroPte}
use Rattle.av_pagetable.specs.Entries.{entry_at}
use Rattle.av_swapcache.specs.Swap.{is_flying, shown as shown_swap}
use Rattle.av_trace.specs.declared.note.Note.{Note}
use Rattle.av_trace.specs.declared.note.Note.TheVariants.{Dropped}
use Rattle.av_plain.specs.Areas.{Rmap}
use Rattle.av_plain.specs.Device.{Device}
use Rattle.av_plain.specs.Event.{Noted, after_note, after_notes, off_cache, when}
use Rattle.av_plain.specs.Fault.{drop_of_slot, asks_copy, is_unneeded}
use Rattle.av_plain.specs.Ledger.{Entry, InFrame, InSlot, Ledger, Setting, Zero as ZeroEntry, frame_at, in_flight, is_full, is_merged, map_count, same_slot, slot_entries, slot_of}
use Rattle.av_plain.specs.Pass.{fails}
use Rattle.av_plain.specs.Sound.{IsSound, flights, no_excuse}
use Rattle.av_plain.specs.Stands.{Pte as Plain, View}
use Rattle.av_plain.specs.World.{World}
use Rattle.av_plain.proofs.Load.{without-loads}
use Rattle.av_plain.proofs.Sound.Changes.{any-counts, drop-sound}
use Rattle.av_plain.proofs.Sound.Counts.{same-itself}
use Rattle.av_plain.proofs.Sound.Steps.{merged-dropped, settle-cache, settle-entries}
use Rattle.av_swap_laws.specs.Steps.{view_drop, view_freed, view_given_back, view_uncached}
use Rattle.av_swap_laws.proofs.Cache.{once-of, slot-frame, slot_of-off}
use Rattle.av_swap_laws.proofs.From.{cached-in_range, cached-there, unneeded-leaves}
use Rattle.av_swap_laws.proofs.Parts.{shared-less}
use Rattle.av_swap_laws.proofs.Whole.{drop-steps}
use Rattle.av_mem.specs.declared.mem.Mem.{Mem}
use Rattle.av_mem.specs.Mem.{held_by, plain, setting_by, view}
use Rattle.av_mem.specs.Steps.{KeepsParts}
use Rattle.av_mem.specs.Between.{HasDone, KeepsBetween}
use Rattle.av_fault.specs.Using.{HasDropped, HasDroppedFull}
use Rattle.av_mem.proofs.Between.{fit-stays, to-amid, to-fit}
use Rattle.av_mem.proofs.Done.{done-none}
use Rattle.av_mem.proofs.DropLaws.{dropped-table}
use Rattle.av_mem.proofs.LocksCome.{locks-left}
use Rattle.av_mem.proofs.ServesLaws.{locks-stay}
use Rattle.av_fault.proofs.Run.{run-done, run-none, run-then}
use Rattle.av_fault.proofs.SoughtLaws.{free-unmapped}
use Rattle.av_plain.proofs.Wrote.{device-itself, wrote-none}

-- ---- the view

-- what a drop leaves
dropped-areas : (f : ℕ) (s : Slot) (v : View) → (view_drop f s v).areas ≡ v.areas
dropped-areas f s v = by (v.maps f == 0) (v.entries s == 0)
  where
    by : (a b : Bool) → (cond b (view_given_back s (cond a (view_freed f (view_uncached f s v)) (view_uncached f s v)))
        (cond a (view_freed f (view_uncached f s v)) (view_uncached f s v))).areas ≡ v.areas
    by true true = refl
    by true false = refl
    by false true = refl
    by false false = refl

dropped-anons : (f : ℕ) (s : Slot) (v : View) → (view_drop f s v).anons ≡ v.anons
dropped-anons f s v = by (v.maps f == 0) (v.entries s == 0)
  where
    by : (a b : Bool) → (cond b (view_given_back s (cond a (view_freed f (view_uncached f s v)) (view_uncached f s v)))
        (cond a (view_freed f (view_uncached f s v)) (view_uncached f s v))).anons ≡ v.anons
    by true true = refl
    by true false = refl
    by false true = refl
    by false false = refl

-- entries that are seen alike are the same
abbrev back_of : Entry → Bool → Pte
back_of ZeroEntry write = ZeroPte
back_of (InFrame f seen) write = Here f write seen
back_of (InSlot s) write = Away s

abbrev back : Option Plain → Pte
back None = Empty
back (Some t) = back_of t.entry t.write

back-plain : (e : Pte) → back (plain e) ≡ e
back-plain Empty = refl
back-plain ZeroPte = refl
back-plain (Here f write seen) = refl
back-plain (Away s) = refl

same-entry : (x y : Pte) → plain x ≡ plain y → x ≡ y
same-entry x y e = sym (back-plain x) ∙ ap back e ∙ back-plain y

pub dropped-entries : (old new : Mem) (f : ℕ) (s : Slot) → view new ≡ view_drop f s (view old) → entry_at new.tables ≡ entry_at old.tables
dropped-entries old new f s now = λ i p page. same-entry (entry_at new.tables p page) (entry_at old.tables p page)
    (ap (λ (v : View). v.table p page) now ∙ ap (λ (t : ℕ → ℕ → Option Plain). t p page) (dropped-table f s (view old))) i

-- ---- whether it is needed

-- a write needs no slot that no entry names and that isn't in flight
unneeded-write : (m : Setting) (l : Ledger) (s : Slot) → is_unneeded m true false l s ≡ (not (in_flight l s) && slot_entries l s == 0)
unneeded-write m l s = by (not (in_flight l s)) (slot_entries l s == 0)
  where
    by : (a b : Bool) → (a && b && true) ≡ (a && b)
    by true true = refl
    by true false = refl
    by false b = refl

pub not-both : (a : Bool) (n : ℕ) → 0 < n → (a && n == 0) ≡ false
not-both true n some = grind (arith, nat_tests, some)
not-both false n some = refl

-- nor does a page that came in while swap is full
unneeded-full : (m : Setting) (l : Ledger) (s : Slot) → is_unneeded m false true l s ≡ (is_unneeded m true false l s && is_full m l)
unneeded-full m l s = by (not (in_flight l s)) (slot_entries l s == 0) (is_full m l)
  where
    by : (a b c : Bool) → (a && b && c) ≡ ((a && b && true) && c)
    by true true c = refl
    by true false c = refl
    by false b c = refl

drops-full : (m : Setting) (l : Ledger) (o : Option Slot) → is_full m l ≡ true → drop_of_slot m true false l o ≡ drop_of_slot m false true l o
drops-full m l None full = refl
drops-full m l (Some s) full = ap (λ b. when b (Dropped s)) (sym (unneeded-full m l s ∙ by (is_unneeded m true false l s) (is_full m l) full))
  where
    by : (a c : Bool) → c ≡ true → (a && c) ≡ a
    by true c e = e
    by false c e = refl

drops-unfull : (m : Setting) (l : Ledger) (o : Option Slot) → is_full m l ≡ false → [] ≡ drop_of_slot m false true l o
drops-unfull m l None full = refl
drops-unfull m l (Some s) full = ap (λ b. when b (Dropped s)) (sym (unneeded-full m l s ∙ by (is_unneeded m true false l s) (is_full m l) full))
  where
    by : (a c : Bool) → c ≡ false → (a && c) ≡ false
    by true c e = e
    by false c e = refl

-- ---- nothing is dropped

module _ (d : Device) (k : Mem) (w : World) (r : Rmap) (l : Ledger) (h : KeepsBetween d k w r l) (f : ℕ) (notes : List Note) where
  abbrev m : Setting
  m = setting_by d k

  -- the frame has no slot
  pub uncached-dropped : (view k).slot f ≡ None → HasDropped d k k w r l f notes notes false
  uncached-dropped none =
      let at = sym (h.serves.held.ledger.frames.slots f) ∙ none in
      record {
        added = [];
        notes = sym (append-nil notes);
        drops = ap (drop_of_slot m true false l) (sym at);
        done = done-none d k w r l h;
        cached = ap is_some (sym at);
      }

  -- its slot is needed
  pub needed-dropped : (s : Slot) → (view k).slot f ≡ Some s → (not (is_flying (shown_swap k.swap) s) && (view k).entries s == 0) ≡ false
      → HasDropped d k k w r l f notes notes true
  needed-dropped s cached needed =
      let at = sym (h.serves.held.ledger.frames.slots f) ∙ cached in
      let swap = h.serves.held.ledger.swap in
      let same : is_flying (shown_swap k.swap) s ≡ in_flight l s = ap (λ ts. list_any (same_slot s) ts) swap.flight in
      record {
        added = [];
        notes = sym (append-nil notes);
        drops = ap (λ b. when b (Dropped s)) (sym (unneeded-write m l s ∙ sym (λ i. not (same i) && swap.counts s i == 0) ∙ needed))
            ∙ ap (drop_of_slot m true false l) (sym at);
        done = done-none d k w r l h;
        cached = ap is_some (sym at);
      }

  -- swap isn't full
  pub unfull-dropped : is_full m l ≡ false → HasDroppedFull d k k w r l f notes notes
  unfull-dropped unfull = record {
    added = [];
    notes = sym (append-nil notes);
    drops = drops-unfull m l (slot_of l f) unfull;
    done = done-none d k w r l h;
  }

-- ---- a slot is dropped

module _ (d : Device) (old : Mem) (w : World) (r : Rmap) (l : Ledger) (h : KeepsBetween d old w r l) (f : ℕ) (s : Slot)
    (cached : (view old).slot f ≡ Some s) where
  at : slot_of l f ≡ Some s
  at = sym (h.serves.held.ledger.frames.slots f) ∙ cached

  there : frame_at l s ≡ Some f
  there = slot-frame l (once-of (setting_by d old) no_excuse l h.sound) f s at

  pub drop-find : (view old).find s ≡ Some f
  drop-find = h.serves.held.ledger.swap.finds s ∙ there

  pub drop-below : f < (setting_by d old).frames
  drop-below = cached-in_range (setting_by d old) no_excuse l h.sound f s there

  -- a frame that an entry names isn't free
  pub in-use : 0 < (view old).maps f → is_in f (view old).free ≡ false
  in-use some = by (is_in f (view old).free) refl
    where
      by : (b : Bool) → is_in f (view old).free ≡ b → b ≡ false
      by true is = let none = free-unmapped d old w r l h f is in absurd (omega (arith, some, none))
      by false is = refl

  module _ (new : Mem) (parts : KeepsParts old new) (now : view new ≡ view_drop f s (view old)) (landed : is_flying (shown_swap old.swap) s ≡ false)
      (unnamed : (view old).entries s ≡ 0) where
    abbrev setting : Setting
    setting = setting_by d old

    landed_now : in_flight l s ≡ false
    landed_now = ap (λ ts. list_any (same_slot s) ts) (sym h.serves.held.ledger.swap.flight) ∙ landed

    unneeded : is_unneeded setting true false l s ≡ true
    unneeded = unneeded-write setting l s ∙ (λ i. not (landed_now i) && none i == 0)
      where
        none : slot_entries l s ≡ 0
        none = sym (h.serves.held.ledger.swap.counts s) ∙ unnamed

    no_flight : flights l s ≡ 0
    no_flight = none (flights l s) (sym (any-counts (same_slot s) l.flight) ∙ landed_now)
      where
        none : (n : ℕ) → nat_lt 0 n ≡ false → n ≡ 0
        none n e = grind (arith, nat_tests, e)

    -- it has no slot then
    uncached : slot_of (after_note (Dropped s) l) f ≡ None
    uncached = ap (λ cs. slot_of (record l { cache = cs }) f) (settle-cache (frame_at l s) (off_cache s l))
        ∙ slot_of-off l (once-of setting no_excuse l h.sound) s f there f ∙ ap (λ b. cond b None (slot_of l f)) (same-itself f)

    drop-done : HasDone d d old new w r l (Noted (Dropped s) ∷ [])
    drop-done =
        let l' = after_note (Dropped s) l in
        let v = view_drop f s (view old) in
        let x = held_by d old w r l in
        run-done d d old new w w r r l l' (Noted (Dropped s) ∷ []) x v
        (run-then setting x x (record x { view = v; ledger = l' }) [] (Noted (Dropped s)) (run-none setting x (to-amid d old w r l h)) (tt, tt, tt)
        (drop-steps setting None x h.serves.held f s (once-of setting no_excuse l h.sound) there
        (cached-in_range setting no_excuse l h.sound f s there)
        (cached-there setting no_excuse l h.sound f s h.serves.there there) (unneeded-leaves setting true false l s unneeded))
        (record {
          world = sym (without-loads setting w l (Noted (Dropped s) ∷ []) refl);
          view_areas = dropped-areas f s (view old);
          view_anons = dropped-anons f s (view old);
          areas = refl;
          anons = refl;
        })
        (drop-sound setting l s h.sound no_flight))
        now refl refl (sym (without-loads setting w l (Noted (Dropped s) ∷ []) refl)) refl (device-itself d) (wrote-none d.history) parts.count
        (fit-stays d d old new (device-itself d) parts (to-fit d old w r l h))
        (locks-left parts w l' (locks-stay old new w l (Dropped s) parts refl h.serves.locks))

    pub has-dropped : (before after : List Note) → after ≡ before ++ Dropped s ∷ [] → HasDropped d old new w r l f before after false
    has-dropped before after notes = record {
      added = Dropped s ∷ [];
      notes = notes;
      drops = ap (λ b. when b (Dropped s)) (sym unneeded) ∙ ap (drop_of_slot setting true false l) (sym at);
      done = drop-done;
      cached = ap is_some (sym uncached);
    }

-- the same where swap is full
pub full-dropped : (d : Device) (old new : Mem) (w : World) (r : Rmap) (l : Ledger) (f : ℕ) (before after : List Note) (still : Bool)
    → is_full (setting_by d old) l ≡ true → HasDropped d old new w r l f before after still → HasDroppedFull d old new w r l f before after
full-dropped d old new w r l f before after still full x = record {
  added = x.added;
  notes = x.notes;
  drops = x.drops ∙ drops-full (setting_by d old) l (slot_of l f) full;
  done = x.done;
}

-- what others don't use they don't use then
pub dropped-alone : (m : Setting) (l : Ledger) (f : ℕ) → IsSound m l → asks_copy l f ≡ false
    → asks_copy (after_notes l (drop_of_slot m true false l (slot_of l f))) f ≡ false
dropped-alone m l f sound alone = by (slot_of l f) refl
  where
    uncached : (s : Slot) → slot_of l f ≡ Some s → slot_of (after_note (Dropped s) l) f ≡ None
    uncached s is =
        let once = once-of m no_excuse l sound in
        ap (λ cs. slot_of (record l { cache = cs }) f) (settle-cache (frame_at l s) (off_cache s l))
        ∙ slot_of-off l once s f (slot-frame l once f s is) f ∙ ap (λ b. cond b None (slot_of l f)) (same-itself f)

    same : (s : Slot) → map_count (after_note (Dropped s) l) f ≡ map_count l f
    same s = ap (λ es. map_count (record l { entries = es }) f) (settle-entries (frame_at l s) (off_cache s l))

    merged : (s : Slot) → is_merged (after_note (Dropped s) l) f ≡ is_merged l f
    merged s = any-counts (λ y. f == y) (after_note (Dropped s) l).merged ∙ ap (nat_lt 0) (merged-dropped l s sound.frames_once f)
        ∙ sym (any-counts (λ y. f == y) l.merged)

    at_slot : (s : Slot) → slot_of l f ≡ Some s → (b : Bool) → asks_copy (after_notes l (when b (Dropped s))) f ≡ false
    at_slot s is true = shared-less l (after_note (Dropped s) l) f (same s) (uncached s is) (merged s) alone
    at_slot s is false = alone

    by : (o : Option Slot) → slot_of l f ≡ o → asks_copy (after_notes l (drop_of_slot m true false l o)) f ≡ false
    by None is = alone
    by (Some s) is = at_slot s is (is_unneeded m true false l s)

-- no failure is told
pub drops-unfailed : (m : Setting) (write came : Bool) (l : Ledger) (o : Option Slot) → fails (drop_of_slot m write came l o) ≡ 0
drops-unfailed m write came l None = refl
drops-unfailed m write came l (Some s) = by (is_unneeded m write came l s)
  where
    by : (b : Bool) → fails (when b (Dropped s)) ≡ 0
    by true = refl
    by false = refl
