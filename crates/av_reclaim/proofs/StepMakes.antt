-- Frames that are kept or age, and slots whose writes begin or that are dropped.
use Rattle.std.proofs.Common.{◌≡◌, ℕ, ◌+◌, ◌≤◌, ◌<◌, min, ◌^◌, ◌-◌, ◌⊎◌, inl, inr, Bool, true, false, cond, ◌==◌, ◌&&◌, ◌||◌, nat_lt, List, [], ◌∷◌, Option, Some, None, is_some, option_map, refl, sym, ap, subst, ◌∙◌, arith}
use Rattle.std.proofs.lemmas.Bool.Decides.{nat_tests}
use Rattle.std.specs.List.{list_any}
use Rattle.std.specs.Prelude.{is_none}
use Rattle.av_base.specs.Words.{is_in}
use Rattle.av_base.specs.declared.slot.Slot.{Slot}
use Rattle.av_trace.specs.declared.note.Cause.{Cause}
use Rattle.av_trace.specs.declared.note.Cause.TheVariants.{Ksm, Locked, NoSlot, WriteStarted, Writeback}
use Rattle.av_trace.specs.declared.note.Note.{Note}
use Rattle.av_trace.specs.declared.note.Note.TheVariants.{Aged, Dropped, Kept, Started, Unmapped}
use Rattle.av_rmap.specs.Items.{is_merged as has_items}
use Rattle.av_plain.specs.Areas.{Rmap}
use Rattle.av_plain.specs.Device.{Device}
use Rattle.av_plain.specs.Event.{Noted, after_note}
use Rattle.av_plain.specs.Ledger.{Cached, Ledger, Setting, cached_by, frame_at, is_cached, map_count, same_slot, slot_entries, slot_of}
use Rattle.av_plain.specs.Sound.{IsSoundBut}
use Rattle.av_plain.specs.Stands.{View}
use Rattle.av_plain.specs.World.{World}
use Rattle.av_swap_laws.specs.Held.{Steps}
use Rattle.av_swap_laws.specs.May.{MayLeave}
use Rattle.av_swap_laws.specs.Steps.{view_drop, view_keep, view_start, view_to_active, view_to_head, view_unmap, view_unseen}
use Rattle.av_swap_laws.proofs.Cache.{cached-own, frame-slot, once-of, slot-frame}
use Rattle.av_swap_laws.proofs.Few.{together-few}
use Rattle.av_swap_laws.proofs.From.{cached-in_range, cached-there}
use Rattle.av_swap_laws.proofs.Locks.{locks-unmapped}
use Rattle.av_swap_laws.proofs.Whole.{age-steps, drop-steps, keep-steps, start-steps, unmap-steps}
use Rattle.av_swapcache.specs.Swap.{IsUncached, shown}
use Rattle.av_evict.specs.Steps.{IsUsed, MayDrop, MayStart, MayUnmap}
use Rattle.av_evict.specs.System.{Makes, Stays, any_slot}
use Rattle.av_mem.specs.Mem.{Serves, held_by, locks_of, setting_by, view}
use Rattle.av_mem.specs.Steps.{KeepsBut, KeepsParts}
use Rattle.av_mem.specs.declared.mem.Mem.{Mem}
use Rattle.av_mem.proofs.LockedLaws.{locked-told}
use Rattle.av_mem.proofs.ServesLaws.{locks-stay}
use Rattle.av_reclaim.specs.Driver.{closing_of, view_of}
use Rattle.av_reclaim.proofs.OneNote.{one-still, step-stays}
use Rattle.av_plain.proofs.Wrote.{wrote-none, device-itself}

-- ---- words on a step

pub same-world : (b : Bool) (w : World) → cond b w w ≡ w
same-world true w = refl
same-world false w = refl

-- a step of the memory system alone changes none of what stays
pub mem-stays : {counts : ℕ → ℕ} (names : List ℕ) (d : Device) (old new : Mem) → KeepsBut counts old new
    → Stays (view_of names d old) (view_of names d new)
mem-stays names d old new parts = step-stays names d d old new parts (device-itself d)

pub stands-still : (a : ℕ) → min (a + 0) (2 ^ 64 - 1) ≤ a
stands-still a = omega arith

-- what the memory system is seen as is this
pub by-view : (d d' : Device) (old new : Mem) (l : Ledger) (note : Note) (v : View) (w : World) (r : Rmap) → view new ≡ v
    → Steps (setting_by d old) (closing_of old) (Noted note) (held_by d old w r l)
    (record { view = v; device = d'; world = w; ledger = after_note note l; rmap = r })
    → Steps (setting_by d old) (closing_of old) (Noted note) (held_by d old w r l) (held_by d' new w r (after_note note l))
by-view d d' old new l note v w r is = subst (λ (v : View). Steps (setting_by d old) (closing_of old) (Noted note) (held_by d old w r l)
    (record { view = v; device = d'; world = w; ledger = after_note note l; rmap = r })) (sym is)

-- a slot that is cached has a frame
pub frame-found : (s : Slot) (l : Ledger) → is_some (frame_at l s) ≡ is_cached l s
frame-found s l = by l.cache
  where
    by : (cs : List Cached) → is_some (option_map (λ (c : Cached). c.frame) (cached_by (λ c. same_slot s c.slot) cs))
        ≡ list_any (λ (c : Cached). same_slot s c.slot) cs
    by [] = refl
    by (c ∷ cs) = one (same_slot s c.slot) (by cs)
      where
        one : (b : Bool)
            → is_some (option_map (λ (c : Cached). c.frame) (cached_by (λ c. same_slot s c.slot) cs)) ≡ list_any
            (λ (c : Cached). same_slot s c.slot) cs
            → is_some (option_map (λ (c : Cached). c.frame) (cond b (Some c) (cached_by (λ c. same_slot s c.slot) cs)))
            ≡ (b || list_any (λ (c : Cached). same_slot s c.slot) cs)
        one true h = refl
        one false h = h

-- the swap cache has it at the frame
pub found-there : (d : Device) (closing : Option ℕ) (k : Mem) (w : World) (r : Rmap) (l : Ledger) (f : ℕ) (s : Slot)
    → IsSoundBut (setting_by d k) any_slot l → Serves d closing k w r l → slot_of l f ≡ Some s → (view k).find s ≡ Some f
found-there d closing k w r l f s sound h at = h.held.ledger.swap.finds s ∙ slot-frame l (once-of (setting_by d k) any_slot l sound) f s at

-- and the frame is one of the machine's
pub cached-below : (m : Setting) (l : Ledger) (f : ℕ) (s : Slot) → IsSoundBut m any_slot l → slot_of l f ≡ Some s → f < m.frames
cached-below m l f s sound at = cached-in_range m any_slot l sound f s (slot-frame l (once-of m any_slot l sound) f s at)

-- ---- kept, or aged

-- for this cause
pub kept-as : (old new : Mem) (f : ℕ) (cause this : Cause) → cause ≡ this → view new ≡ view_keep f this (view old)
    → view new ≡ view_keep f cause (view old)
kept-as old new f cause this is at = at ∙ ap (λ c. view_keep f c (view old)) (sym is)

-- for one of two that it is at the head of inactive
pub kept-at : (old new : Mem) (f : ℕ) (cause : Cause) → (cause ≡ Writeback) ⊎ (cause ≡ WriteStarted) → view new ≡ view_to_head f (view old)
    → view new ≡ view_keep f cause (view old)
kept-at old new f cause (inl is) at = kept-as old new f cause Writeback is at
kept-at old new f cause (inr is) at = kept-as old new f cause WriteStarted is at

-- for one of three that it is at the head of active
pub kept-active : (old new : Mem) (f : ℕ) (cause : Cause) → (cause ≡ NoSlot) ⊎ (cause ≡ Locked) ⊎ (cause ≡ Ksm)
    → view new ≡ view_to_active f (view old) → view new ≡ view_keep f cause (view old)
kept-active old new f cause (inl is) at = kept-as old new f cause NoSlot is at
kept-active old new f cause (inr (inl is)) at = kept-as old new f cause Locked is at
kept-active old new f cause (inr (inr is)) at = kept-as old new f cause Ksm is at

pub keep-makes : (names : List ℕ) (d : Device) (old new : Mem) (f : ℕ) (cause : Cause) → view new ≡ view_keep f cause (view old) → KeepsParts old new
    → Makes (view_of names d old) (view_of names d new) (IsUsed f) (Kept f cause ∷ [])
keep-makes names d old new f cause is parts = λ l sound stood may. one-still names d d old new l (Kept f cause)
    (record { sound = sound; world = stood.0; rmap = stood.1; serves = stood.2 }) (record {
      parts = parts;
      same = device-itself d;
      lawful = (tt, tt);
      brings = λ w r c. tt;
      still = tt;
      locks = λ w r c. locks-stay old new w l (Kept f cause) parts refl c.locks;
      failures = stands-still d.failures;
      wrote = wrote-none d.history;
    }) (λ w. same-world (is_some (setting_by d old).headers) w) (λ w r h. by-view d d old new l (Kept f cause) (view_keep f cause (view old)) w r is
    (keep-steps (setting_by d old) (closing_of old) (held_by d old w r l) h.held f cause))

pub age-makes : (names : List ℕ) (d : Device) (old new : Mem) (f : ℕ) → view new ≡ view_to_head f (view_unseen f (view old)) → KeepsParts old new
    → Makes (view_of names d old) (view_of names d new) (IsUsed f) (Aged f ∷ [])
age-makes names d old new f is parts = λ l sound stood may. one-still names d d old new l (Aged f)
    (record { sound = sound; world = stood.0; rmap = stood.1; serves = stood.2 }) (record {
      parts = parts;
      same = device-itself d;
      lawful = (tt, tt);
      brings = λ w r c. tt;
      still = tt;
      locks = λ w r c. locks-stay old new w l (Aged f) parts refl c.locks;
      failures = stands-still d.failures;
      wrote = wrote-none d.history;
    }) (λ w. same-world (is_some (setting_by d old).headers) w)
    (λ w r h. by-view d d old new l (Aged f) (view_to_head f (view_unseen f (view old))) w r is
    (age-steps (setting_by d old) (closing_of old) (held_by d old w r l) h.held f))

-- ---- a write begins

pub start-makes : (names : List ℕ) (d : Device) (old new : Mem) (f : ℕ) (s : Slot) → view new ≡ view_start f s (view old)
    → KeepsParts old new → Makes (view_of names d old) (view_of names d new) (MayStart f s) (Started s ∷ [])
start-makes names d old new f s is parts = λ l sound stood may. let once = once-of (setting_by d old) any_slot l sound in
    one-still names d d old new l (Started s) (record { sound = sound; world = stood.0; rmap = stood.1; serves = stood.2 }) (record {
      parts = parts;
      same = device-itself d;
      lawful = (tt, tt);
      brings = λ w r c. tt;
      still = tt;
      locks = λ w r c. locks-stay old new w l (Started s) parts refl c.locks;
      failures = stands-still d.failures;
      wrote = wrote-none d.history;
    }) (λ w. same-world (is_some (setting_by d old).headers) w) (λ w r h. by-view d d old new l (Started s) (view_start f s (view old)) w r is
    (start-steps (setting_by d old) (closing_of old) (held_by d old w r l) h.held f s once (slot-frame l once f s may.cached)))

-- ---- a slot is dropped

-- what the loops know of a drop is what its law asks
may-leave : (l : Ledger) (f : ℕ) (s : Slot) → MayDrop f s l → MayLeave l s
may-leave l f s may = by (slot_entries l s == 0) refl
  where
    by : (b : Bool) → (slot_entries l s == 0) ≡ b → MayLeave l s
    by true e = let none : slot_entries l s ≡ 0 = grind (arith, nat_tests, e) in inl none
    by false e = inr ((may.kept e).1, may.landed)

pub drop-makes : (names : List ℕ) (d : Device) (old new : Mem) (f : ℕ) (s : Slot) → view new ≡ view_drop f s (view old)
    → KeepsParts old new → Makes (view_of names d old) (view_of names d new) (MayDrop f s) (Dropped s ∷ [])
drop-makes names d old new f s is parts = λ l sound stood may. let once = once-of (setting_by d old) any_slot l sound in
    let at = slot-frame l once f s may.cached in
    one-still names d d old new l (Dropped s) (record { sound = sound; world = stood.0; rmap = stood.1; serves = stood.2 }) (record {
      parts = parts;
      same = device-itself d;
      lawful = (tt, tt);
      brings = λ w r c. tt;
      still = tt;
      locks = λ w r c. locks-stay old new w l (Dropped s) parts refl c.locks;
      failures = stands-still d.failures;
      wrote = wrote-none d.history;
    }) (λ w. same-world (is_some (setting_by d old).headers) w) (λ w r h. by-view d d old new l (Dropped s) (view_drop f s (view old)) w r is
    (drop-steps (setting_by d old) (closing_of old) (held_by d old w r l) h.held f s once at
    (cached-below (setting_by d old) l f s sound may.cached) (cached-there (setting_by d old) any_slot l sound f s h.there at)
    (may-leave l f s may)))

-- its frame is not free
pub in-use : (d : Device) (closing : Option ℕ) (k : Mem) (w : World) (r : Rmap) (l : Ledger) (f : ℕ) (s : Slot)
    → IsSoundBut (setting_by d k) any_slot l → Serves d closing k w r l → slot_of l f ≡ Some s → is_in f (view k).free ≡ false
in-use d closing k w r l f s sound h at =
    h.held.ledger.frames.free f (cached-below (setting_by d k) l f s sound at)
    ∙ ap (λ o. (map_count l f == 0) && is_none o) at ∙ none (map_count l f == 0)
  where
    none : (b : Bool) → (b && false) ≡ false
    none true = refl
    none false = refl

-- ---- a frame of which no page is locked is unmapped

pub unmap-makes : (names : List ℕ) (d : Device) (old new : Mem) (f : ℕ) (s : Slot) → view new ≡ view_unmap f s (view old)
    → KeepsParts old new → nat_lt 0 (locks_of old f) ≡ false → Makes (view_of names d old) (view_of names d new) (MayUnmap f s) (Unmapped f ∷ [])
unmap-makes names d old new f s is parts unlocked = λ l sound stood may.
    one-still names d d old new l (Unmapped f) (record { sound = sound; world = stood.0; rmap = stood.1; serves = stood.2 }) (record {
      parts = parts;
      same = device-itself d;
      lawful = (tt, tt);
      brings = λ w r c. tt;
      still = tt;
      locks = λ w r c g. c.locks g ∙ sym (locks-unmapped w f l g (sym (locked-told (locks_of old) w l f c.locks) ∙ unlocked));
      failures = stands-still d.failures;
      wrote = wrote-none d.history;
    }) (λ w. same-world (is_some (setting_by d old).headers) w) (λ w r h. by-view d d old new l (Unmapped f) (view_unmap f s (view old)) w r is
    (unmap-steps (setting_by d old) (closing_of old) (held_by d old w r l) h.held f s (once-of (setting_by d old) any_slot l sound) may.cached))

-- it isn't merged, so it has no items
pub no-items : (d : Device) (closing : Option ℕ) (k : Mem) (w : World) (r : Rmap) (l : Ledger) (f : ℕ) (s : Slot)
    → IsSoundBut (setting_by d k) any_slot l → Serves d closing k w r l → slot_of l f ≡ Some s → has_items ((view k).items f) ≡ false
no-items d closing k w r l f s sound h at = let once = once-of (setting_by d k) any_slot l sound in
    ap has_items (h.held.items f ∙ ap (λ b. cond b (r.items f) []) (cached-own l once f s (slot-frame l once f s at)))

-- counts have room for all entries of the frame
pub names-few : (d : Device) (closing : Option ℕ) (k : Mem) (w : World) (r : Rmap) (l : Ledger) (f : ℕ) (s : Slot)
    → IsSoundBut (setting_by d k) any_slot l
    → Serves d closing k w r l → slot_of l f ≡ Some s → (view k).entries s + (view k).maps f < 2 ^ 32
names-few d closing k w r l f s sound h at =
    let few = together-few (setting_by d k) any_slot w l f s sound h.at_pages at in
    let most = h.tidy.few in
    let entries = h.held.ledger.swap.counts s in
    let maps = h.held.ledger.frames.maps f in
    omega (arith, few, most, entries, maps)

-- a frame that the ledger has in no slot is cached nowhere
pub put-uncached : (d : Device) (closing : Option ℕ) (k : Mem) (w : World) (r : Rmap) (l : Ledger) (f : ℕ) → IsSoundBut (setting_by d k) any_slot l
    → Serves d closing k w r l → slot_of l f ≡ None → IsUncached (shown k.swap) f
put-uncached d closing k w r l f sound h none s found =
    let at = frame-slot l (once-of (setting_by d k) any_slot l sound) f s (sym (h.held.ledger.swap.finds s) ∙ found) in
    clash s (sym none ∙ at)
  where
    clash : (s : Slot) → None ≡ Some s → ⊥
    clash s e = cc
