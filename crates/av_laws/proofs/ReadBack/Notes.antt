-- The notes of each command have numbers of 64 bits, where the ledger has them: each names frames of the machine, slots that are in use or may be
-- given, and mapped pages.
use Rattle.std.specs.List.{AllByRecursion, find, range_with_len}
use Rattle.std.specs.Prelude.{MatchBool, MatchOption, IsTrue}
use Rattle.std.proofs.Common.{◌≡◌, ◌⊎◌, inl, inr, ℕ, zero, suc, ◌+◌, ◌-◌, ◌<◌, ◌≤◌, min, Bool, true, false, cond, not, ◌&&◌, ◌==◌, nat_lt, List, [], ◌∷◌, ◌++◌, map, filter, reverse, Option, Some, None, is_none, refl, sym, ap, subst, ◌∙◌, arith}
use Rattle.av_base.specs.Keys.{Key}
use Rattle.av_base.specs.Page.{address_of}
use Rattle.av_base.specs.declared.slot.Slot.{Slot}
use Rattle.av_text.specs.Number.{IsWide}
use Rattle.av_trace.specs.Note.{IsNote, IsSlot}
use Rattle.av_trace.specs.Reply.{IfThere}
use Rattle.av_trace.specs.declared.note.Cause.{Cause}
use Rattle.av_trace.specs.declared.note.Cause.TheVariants.{WriteStarted}
use Rattle.av_trace.specs.declared.note.Note.{Note}
use Rattle.av_trace.specs.declared.note.Note.TheVariants.{Aged, Copied, Dropped, Kept, Loaded, Mapped, Moved, New, Put, Started, Unmapped}
use Rattle.av_trace.specs.declared.reply.OutOf.{OutOf}
use Rattle.av_plain.specs.Access.{Accesses, End, page_events}
use Rattle.av_plain.specs.Compact.{MovesDown, greatest_used, least_free, move_down}
use Rattle.av_plain.specs.Event.{Event, EntriesMoved, Used, Zapped, after_all, after_note, after_notes, after_use, after_zap, note_events, notes_of, when}
use Rattle.av_plain.specs.Fault.{ComesIn, CopyOnWrite, Denied, IsMade, Lost, MapCached, Need, NewPage, Ready, RunsOut, Serves, Sparing, Starved, Stop, SwapIn, Touches, ZeroPage, drop_at, drop_of_entry, drop_of_slot, is_allowed, is_locked, asks_copy, is_unneeded, need, need_of_slot, pinned_by, sparing, was_slot}
use Rattle.av_plain.specs.Ledger.{Entry, InFrame, InSlot, Ledger, Setting, Zero, entry, frame_at, has_free, has_free_slot, is_free, is_merged, is_on, is_open, is_orphan, is_usable, keys_of_slot, map_count, may_give, names_slot, size_of, slot_count, slot_of, slots_in_use}
use Rattle.av_plain.specs.Merge.{FrameBytes, candidate, candidate_by, hold_same, join_notes, may_merge, merge_notes, merged_like, merges, other_like, with_candidate}
use Rattle.av_plain.specs.Mremap.{range_zaps, remap_events}
use Rattle.av_plain.specs.Pass.{Completes, IsPass, IsSlotFor, Seeks, Spared, TakesFor, Turns, end_note, end_notes, frames_in_turn, has_turn, is_dirty, is_stuck, stays_cached, turn_notes, unmap_notes}
use Rattle.av_plain.specs.Reclaim.{Outcome, Outcomes, cause_of, leave_notes}
use Rattle.av_plain.specs.Swapoff.{Close, Empties, EndsAt, IsEmptied, map_notes, sparing_area}
use Rattle.av_plain.specs.World.{World, pages}
use Rattle.av_plain.specs.Zap.{keys_in, orphan_drop, slot_behind_key, zap_of, zaps_of}
use Rattle.av_plain.proofs.Access.{after_all-append, note_events-all, notes_of-append, notes_of-note_events}
use Rattle.av_plain.proofs.Mremap.{then_target}
use Rattle.av_laws.proofs.ReadBack.Wide.{IsWideEntry, IsWideKey, IsWideLedger, all-append, all-by, all-filter, all-map, all-reverse, wide-entry, wide-frame_at, wide-notes, wide-slot_of, wide-used, wide-zapped}

abbrev pub AreNotes : List Note → Type 0
AreNotes notes = AllByRecursion IsNote notes

notes-when : (b : Bool) (note : Note) → IsNote note → AreNotes (when b note)
notes-when true note fits = (fits, tt)
notes-when false note fits = tt

-- what may be there is
there : {A : Type 0} (P : A → Type 0) (o : Option A) (x : A) → o ≡ Some x → IfThere P o → P x
there P o x is h = subst (IfThere P) is h

-- the numbers of a range
all-between : (a n : ℕ) → AllByRecursion (λ x. (a ≤ x) × (x < a + n)) (range_with_len a n)
all-between a zero = tt
all-between a (suc n) = (
  (omega arith, omega arith),
  all-by (λ x. (a + 1 ≤ x) × (x < a + 1 + n)) (λ x. (a ≤ x) × (x < a + suc n))
      (λ x h. let low = h.0 in let high = h.1 in (omega (arith, low), omega (arith, high))) (range_with_len (a + 1) n) (all-between (a + 1) n),
)

-- the first slot of an area that is in use is one of its pages
first-below : (m : Setting) (l : Ledger) (k page : ℕ) (others : List ℕ) → slots_in_use m l k ≡ page ∷ others → page < size_of m k
first-below m l k page others is =
    let all = all-filter (λ x. (1 ≤ x) × (x < 1 + (size_of m k - 1)))
    (λ x. nat_lt 0 (slot_count l (record { area = k; page = x }))) (range_with_len 1 (size_of m k - 1)) (all-between 1 (size_of m k - 1)) in
    let first = (subst (AllByRecursion (λ x. (1 ≤ x) × (x < 1 + (size_of m k - 1)))) is all).0 in
    let low = first.0 in
    let high = first.1 in
    omega (arith, low, high)

-- ---- writes that end

end-fits : (failed : Bool) (s : Slot) → IsSlot s → IsNote (end_note failed s)
end-fits true s fits = fits
end-fits false s fits = fits

pub completes-fit : (l : Ledger) (ss : List Slot) (notes : List Note) → AllByRecursion IsSlot ss → Completes l ss notes → AreNotes notes
completes-fit l [] notes fits h = subst AreNotes (sym h) tt
completes-fit l (s ∷ ss) notes fits h = subst AreNotes (sym h.2) (all-append IsNote (end_notes l s h.0) h.1
    (end-fits h.0 s fits.0, notes-when (is_orphan (after_note (end_note h.0 s) l) s) (Dropped s) fits.0)
    (completes-fit (after_notes l (end_notes l s h.0)) ss h.1 fits.1 h.3))

-- ---- a frame goes to its slot

given-fits : (m : Setting) (closing : Option ℕ) (l : Ledger) (s : Slot) → IsWideLedger m l → may_give m closing l s ≡ true → IsSlot s
given-fits m closing l s wide h = wide.given s (by (is_on l s.area) (nat_lt 0 s.page) (nat_lt s.page (size_of m s.area)) (slot_count l s == 0)
    (is_usable m s) (is_open closing s.area) (has_free_slot m l s.area) h)
  where
    by : (a b c d e f g : Bool) → ((a && b && c && d && e) && f && g) ≡ true → (a && c) ≡ true
    by true true true d e f g h = refl
    by true true false d e f g h = cc
    by true false c d e f g h = cc
    by false b c d e f g h = cc

slot-for : (m : Setting) (sp : Spared) (l : Ledger) (f : ℕ) (s : Slot) → IsWideLedger m l → IsSlotFor m sp l f s → IsSlot s
slot-for m sp l f s wide for = by (slot_of l f) (wide-slot_of m l f wide) for
  where
    by : (o : Option Slot) → IfThere IsSlot o → MatchOption o (IsTrue (may_give m sp.closing l s)) (λ t. s ≡ t) → IsSlot s
    by None fits may = given-fits m sp.closing l s wide may
    by (Some t) fits same = subst IsSlot (sym same) fits

unmap-fits : (l : Ledger) (f : ℕ) (s : Slot) → IsWide f → IsSlot s → AreNotes (unmap_notes l f s)
unmap-fits l f s frame slot = all-append IsNote (when (is_none (slot_of l f)) (Put f s)) (when (not (map_count l f == 0)) (Unmapped f))
    (notes-when (is_none (slot_of l f)) (Put f s) (frame, slot)) (notes-when (not (map_count l f == 0)) (Unmapped f) frame)

turn-fits : (l : Ledger) (f : ℕ) (s : Slot) (failed : Bool) → IsWide f → IsSlot s → AreNotes (turn_notes l f s failed)
turn-fits l f s failed frame slot = all-append IsNote (unmap_notes l f s) (cond (is_dirty l f s) (Started s ∷ end_note failed s ∷ []) [])
    (unmap-fits l f s frame slot) (by (is_dirty l f s))
  where
    by : (b : Bool) → AreNotes (cond b (Started s ∷ end_note failed s ∷ []) [])
    by true = (slot, (end-fits failed s slot, tt))
    by false = tt

-- ---- the direct pass

-- the frames in turn, from any ledger on
abbrev Again : Setting → Spared → List ℕ → Type 0
Again m sp fs = (l : Ledger) (notes : List Note) → IsWideLedger m l → Turns m sp l fs notes → AreNotes notes

turns-fit : (m : Setting) (sp : Spared) (fs : List ℕ) → AllByRecursion IsWide fs → Again m sp fs
turns-fit m sp [] frames l notes wide h = subst AreNotes (sym h) tt
turns-fit m sp (f ∷ fs) frames l notes wide h = stuck (turns-fit m sp fs frames.1) (is_stuck m sp l f) h
  where
    stuck : Again m sp fs → (b : Bool) → MatchBool b (Turns m sp l fs notes)
        ((s : Slot) × (failed : Bool) × IsSlotFor m sp l f s × MatchBool (stays_cached l f s failed)
        ((rest : List Note) × (notes ≡ turn_notes l f s failed ++ rest) × Turns m sp (after_notes l (turn_notes l f s failed)) fs rest)
        (notes ≡ turn_notes l f s failed ++ Dropped s ∷ [])) → AreNotes notes
    stuck again true r = again l notes wide r
    stuck again false r = goes (stays_cached l f r.0 r.1) r.3
      where
        slot : IsSlot r.0
        slot = slot-for m sp l f r.0 wide r.2

        here : AreNotes (turn_notes l f r.0 r.1)
        here = turn-fits l f r.0 r.1 frames.0 slot

        goes : (b : Bool) → MatchBool b
            ((rest : List Note) × (notes ≡ turn_notes l f r.0 r.1 ++ rest) × Turns m sp (after_notes l (turn_notes l f r.0 r.1)) fs rest)
            (notes ≡ turn_notes l f r.0 r.1 ++ Dropped r.0 ∷ []) → AreNotes notes
        goes true q = subst AreNotes (sym q.1) (all-append IsNote (turn_notes l f r.0 r.1) q.0 here
            (again (after_notes l (turn_notes l f r.0 r.1)) q.0 (wide-notes m l (turn_notes l f r.0 r.1) here wide) q.2))
        goes false q = subst AreNotes (sym q) (all-append IsNote (turn_notes l f r.0 r.1) (Dropped r.0 ∷ []) here (slot, tt))

pub seeks-fit : (m : Setting) (sp : Spared) (l : Ledger) (notes : List Note) → IsWideLedger m l → Seeks m sp l notes → AreNotes notes
seeks-fit m sp l notes wide h = by (has_free m l) h
  where
    turned : (b : Bool) (now : Ledger) (turns : List Note) → IsWideLedger m now
        → MatchBool b (turns ≡ []) (Turns m sp now (frames_in_turn sp now) turns) → AreNotes turns
    turned true now turns is_wide q = subst AreNotes (sym q) tt
    turned false now turns is_wide q = turns-fit m sp (frames_in_turn sp now)
        (all-filter IsWide (has_turn sp now) (reverse now.inactive ++ reverse now.active)
        (all-append IsWide (reverse now.inactive) (reverse now.active) (all-reverse IsWide now.inactive is_wide.inactive)
        (all-reverse IsWide now.active is_wide.active))) now turns is_wide q

    by : (b : Bool) → MatchBool b (notes ≡ []) (IsPass m sp l notes) → AreNotes notes
    by true q = subst AreNotes (sym q) tt
    by false q =
        let done = completes-fit l l.flight q.0 wide.flight q.3 in
        subst AreNotes (sym q.2) (all-append IsNote q.0 q.1 done
        (turned (has_free m (after_notes l q.0)) (after_notes l q.0) q.1 (wide-notes m l q.0 done wide) q.4))

takes-fit : (m : Setting) (sp : Spared) (l : Ledger) (notes : List Note) (note : ℕ → Note) → IsWide m.frames → IsWideLedger m l
    → ((f : ℕ) → IsWide f → IsNote (note f)) → TakesFor m sp l notes note → AreNotes notes
takes-fit m sp l notes note frames wide each h = subst AreNotes (sym h.whole) (all-append IsNote h.sought (note h.frame ∷ [])
    (seeks-fit m sp l h.sought wide h.seeks) (each h.frame (let low = h.in_range in omega (arith, frames, low)), tt))

-- ---- a page is made ready

abbrev IsWideNeed : Need → Type 0
IsWideNeed (SwapIn s) = IsSlot s
IsWideNeed (MapCached f) = IsWide f
IsWideNeed Ready = Unit {0}
IsWideNeed ZeroPage = Unit {0}
IsWideNeed NewPage = Unit {0}
IsWideNeed (CopyOnWrite g) = Unit {0}

wide-need : (m : Setting) (l : Ledger) (write : Bool) (k : Key) → IsWideLedger m l → IsWideNeed (need write l (entry l k))
wide-need m l write k wide = by write (entry l k) (wide-entry m l k wide)
  where
    of_slot : (s : Slot) (o : Option ℕ) → IsSlot s → IfThere IsWide o → IsWideNeed (need_of_slot s o)
    of_slot s None slot frame = slot
    of_slot s (Some f) slot frame = frame

    shared : (b : Bool) (g : ℕ) → IsWideNeed (cond b (CopyOnWrite g) Ready)
    shared true g = tt
    shared false g = tt

    by : (write : Bool) (o : Option Entry) → IfThere IsWideEntry o → IsWideNeed (need write l o)
    by false None fits = tt
    by true None fits = tt
    by false (Some Zero) fits = tt
    by true (Some Zero) fits = tt
    by false (Some (InFrame g seen)) fits = tt
    by true (Some (InFrame g seen)) fits = shared (asks_copy l g) g
    by false (Some (InSlot s)) fits = of_slot s (frame_at l s) fits (wide-frame_at m l s wide)
    by true (Some (InSlot s)) fits = of_slot s (frame_at l s) fits (wide-frame_at m l s wide)

module _ (m : Setting) (frames : IsWide m.frames) where
  comes-fit : (sp : Sparing) (l : Ledger) (k : Key) (n : Need) (notes : List Note) → IsWideLedger m l → IsWideKey k → IsWideNeed n
      → ComesIn m sp l k n notes → AreNotes notes
  comes-fit sp l k (SwapIn s) notes wide key fits h =
      let loaded = takes-fit m (sp l None) l h.0 (Loaded s) frames wide (λ f frame. (fits, frame)) h.2 in
      let frame = there IsWide (frame_at (after_notes l h.0) s) h.1 h.3 (wide-frame_at m (after_notes l h.0) s (wide-notes m l h.0 loaded wide)) in
      subst AreNotes (sym h.4) (all-append IsNote h.0 (Mapped k.0 (address_of k.1) h.1 ∷ []) loaded ((key.0, key.1, frame), tt))
  comes-fit sp l k (MapCached f) notes wide key fits h = subst AreNotes (sym h) ((key.0, key.1, fits), tt)
  comes-fit sp l k Ready notes wide key fits h = subst AreNotes (sym h) tt
  comes-fit sp l k ZeroPage notes wide key fits h = subst AreNotes (sym h) tt
  comes-fit sp l k NewPage notes wide key fits h = subst AreNotes (sym h) tt
  comes-fit sp l k (CopyOnWrite g) notes wide key fits h = subst AreNotes (sym h) tt

  made-fits : (sp : Sparing) (l : Ledger) (k : Key) (n : Need) (notes : List Note) → IsWideLedger m l → IsWideKey k → IsMade m sp l k n notes
      → AreNotes notes
  made-fits sp l k Ready notes wide key h = subst AreNotes (sym h) tt
  made-fits sp l k ZeroPage notes wide key h = subst AreNotes (sym h) (key, tt)
  made-fits sp l k NewPage notes wide key h = takes-fit m (sp l None) l notes (New k.0 (address_of k.1)) frames wide
      (λ f frame. (key.0, key.1, frame)) h
  made-fits sp l k (CopyOnWrite g) notes wide key h = takes-fit m (sp l (Some g)) l notes (Copied k.0 (address_of k.1)) frames wide
      (λ f frame. (key.0, key.1, frame)) h
  made-fits sp l k (SwapIn s) notes wide key h = absurd h
  made-fits sp l k (MapCached f) notes wide key h = absurd h

  drop-fits : (l : Ledger) (write came : Bool) (k : Key) → IsWideLedger m l → AreNotes (drop_at m write came l k)
  drop-fits l write came k wide = by (entry l k)
    where
      of_slot : (o : Option Slot) → IfThere IsSlot o → AreNotes (drop_of_slot m write came l o)
      of_slot None fits = tt
      of_slot (Some s) fits = notes-when (is_unneeded m write came l s) (Dropped s) fits

      by : (o : Option Entry) → AreNotes (drop_of_entry m write came l o)
      by None = tt
      by (Some Zero) = tt
      by (Some (InFrame f seen)) = of_slot (slot_of l f) (wide-slot_of m l f wide)
      by (Some (InSlot s)) = tt

  serves-fit : (sp : Sparing) (l : Ledger) (write : Bool) (k : Key) (notes : List Note) → IsWideLedger m l → IsWideKey k
      → Serves m sp l write k notes → AreNotes notes
  serves-fit sp l write k notes wide key h =
      let l1 = after_notes l h.coming in
      let l2 = after_notes l (h.coming ++ h.making) in
      let coming = comes-fit sp l k (need write l (entry l k)) h.coming wide key (wide-need m l write k wide) h.comes_in in
      let making = made-fits sp l1 k (need write l1 (entry l1 k)) h.making (wide-notes m l h.coming coming wide) key h.made in
      let both = all-append IsNote h.coming h.making coming making in
      subst AreNotes (sym h.whole) (all-append IsNote (h.coming ++ h.making) (drop_at m write (was_slot (need write l (entry l k))) l2 k) both
      (drop-fits l2 write (was_slot (need write l (entry l k))) k (wide-notes m l (h.coming ++ h.making) both wide)))

  runs_out-fits : (sp : Sparing) (l : Ledger) (write : Bool) (k : Key) (notes : List Note) (out : OutOf) → IsWideLedger m l → IsWideKey k
      → RunsOut m sp l write k notes out → AreNotes notes
  runs_out-fits sp l write k notes out wide key h =
      let l1 = after_notes l h.coming in
      let coming = before h.before in
      subst AreNotes (sym h.whole) (all-append IsNote h.coming h.sought coming
      (seeks-fit m (sp l1 (pinned_by (need write l1 (entry l1 k)))) l1 h.sought (wide-notes m l h.coming coming wide) h.finds.seeks))
    where
      before : (h.coming ≡ []) ⊎ ComesIn m sp l k (need write l (entry l k)) h.coming → AreNotes h.coming
      before (inl e) = subst AreNotes (sym e) tt
      before (inr q) = comes-fit sp l k (need write l (entry l k)) h.coming wide key (wide-need m l write k wide) q

  touches-fit : (w : World) (l : Ledger) (write : Bool) (k : Key) (notes : List Note) (end : Option Stop) → IsWideLedger m l
      → (is_allowed w write k ≡ true → IsWideKey k) → Touches m w l write k notes end → AreNotes notes
  touches-fit w l write k notes None wide key h = serves-fit (sparing w) l write k notes wide (key h.0) h.1
  touches-fit w l write k notes (Some Denied) wide key h = subst AreNotes (sym h.1) tt
  touches-fit w l write k notes (Some (Starved out)) wide key h = runs_out-fits (sparing w) l write k notes out wide (key h.0) h.1
  touches-fit w l write k notes (Some Lost) wide key h = seeks-fit m (sparing w l None) l notes wide h.1.seeks

  -- ---- an access

  pub accesses-fit : (w : World) (p : ℕ) → ((write : Bool) (page : ℕ) → is_allowed w write (p, page) ≡ true → IsWideKey (p, page))
      → (l : Ledger) (pages : List (Bool × ℕ)) (events : List Event) (end : End) → IsWideLedger m l → Accesses m w l p pages events end
      → AreNotes (notes_of events)
  accesses-fit w p key l [] events end wide h = subst (λ es. AreNotes (notes_of es)) (sym h.0) tt
  accesses-fit w p key l (page ∷ pages) events end wide (inl h) =
      let k : Key = (p, page.1) in
      let first = touches-fit w l page.0 k h.0 None wide (key page.0 page.1) h.2 in
      let now = wide-used m page.0 k (after_notes l h.0) (key page.0 page.1 h.2.0) (wide-notes m l h.0 first wide) in
      let later = accesses-fit w p key (after_all l (page_events page.0 k h.0 None)) pages h.1 end
      (subst (IsWideLedger m) (sym (after_all-append l (note_events h.0) (Used page.0 k ∷ []) ∙ ap (after_use page.0 k) (note_events-all l h.0))) now)
      h.4 in
      subst (λ es. AreNotes (notes_of es)) (sym h.3) (subst AreNotes (sym (notes_of-append (page_events page.0 k h.0 None) h.1))
      (all-append IsNote (notes_of (page_events page.0 k h.0 None)) (notes_of h.1)
      (subst AreNotes (sym (notes_of-append (note_events h.0) (Used page.0 k ∷ []))) (all-append IsNote (notes_of (note_events h.0)) []
      (subst AreNotes (sym (notes_of-note_events h.0)) first) tt)) later))
  accesses-fit w p key l (page ∷ pages) events end wide (inr h) = subst (λ es. AreNotes (notes_of es)) (sym h.3)
      (subst AreNotes (sym (notes_of-note_events h.0)) (touches-fit w l page.0 (p, page.1) h.0 (Some h.1) wide (key page.0 page.1) h.2))

  -- ---- an area that goes off

  maps-fit : (ks : List Key) (f : ℕ) → AllByRecursion IsWideKey ks → IsWide f
      → AreNotes (map (λ (k : Key). Mapped k.0 (address_of k.1) f) ks)
  maps-fit ks f keys frame = all-map IsWideKey IsNote (λ (k : Key). Mapped k.0 (address_of k.1) f) (λ k key. (key.0, key.1, frame)) ks keys

  emptied-fits : (sp : Spared) (l : Ledger) (s : Slot) (notes : List Note) → IsWideLedger m l → IsSlot s → IsEmptied m sp l s notes → AreNotes notes
  emptied-fits sp l s notes wide slot h =
      let fetched = by (frame_at l s) (wide-frame_at m l s wide) h.fetches in
      let now = wide-notes m l h.fetched fetched.0 wide in
      let ks = keys_of_slot (after_notes l h.fetched) s in
      subst AreNotes (sym h.whole) (all-append IsNote h.fetched (map_notes (after_notes l h.fetched) s h.frame) fetched.0
      (all-append IsNote (map (λ (k : Key). Mapped k.0 (address_of k.1) h.frame) ks) (Dropped s ∷ [])
      (maps-fit ks h.frame (all-map _ IsWideKey (λ (e : Key × Entry). e.0) (λ e a. a.0)
      (filter (λ e. names_slot s e.1) (after_notes l h.fetched).entries)
      (all-filter _ (λ (e : Key × Entry). names_slot s e.1) (after_notes l h.fetched).entries now.entries)) fetched.1) (slot, tt)))
    where
      by : (o : Option ℕ) → IfThere IsWide o → MatchOption o
          (TakesFor m sp l h.fetched (Loaded s) × (frame_at (after_notes l h.fetched) s ≡ Some h.frame))
          (λ cached. (h.fetched ≡ []) × (h.frame ≡ cached)) → AreNotes h.fetched × IsWide h.frame
      by (Some g) frame q = (subst AreNotes (sym q.0) tt, subst IsWide (sym q.1) frame)
      by None frame q =
          let fits = takes-fit m sp l h.fetched (Loaded s) frames wide (λ f wide_frame. (slot, wide_frame)) q.0 in (
            fits,
            there IsWide (frame_at (after_notes l h.fetched) s) h.frame q.1
                (wide-frame_at m (after_notes l h.fetched) s (wide-notes m l h.fetched fits wide)),
          )

  -- each page of the area is a slot that can be said
  pub empties-fit : (w : World) (k : ℕ) → ((page : ℕ) → page < size_of m k → IsSlot (record { area = k; page = page }))
      → (l : Ledger) (pages : List ℕ) (notes : List Note) (end : Close) → IsWideLedger m l → Empties m w k l pages notes end → AreNotes notes
  empties-fit w k slot l [] notes end wide h = by (slots_in_use m l k) h
    where
      by : (pages : List ℕ) → EndsAt m (sparing_area w k l) k l pages notes end → AreNotes notes
      by [] h = subst AreNotes (sym h.0) tt
      by (page ∷ pages) h = seeks-fit m (sparing_area w k l) l notes wide h.1
  empties-fit w k slot l (page ∷ pages) notes end wide h =
      let here = emptied-fits (sparing_area w k l) l (record { area = k; page = page }) h.1 wide (slot page (first-below m l k page h.0 h.3)) h.5 in
      subst AreNotes (sym h.4) (all-append IsNote h.1 h.2 here
      (empties-fit w k slot (after_notes l h.1) pages h.2 end (wide-notes m l h.1 here wide) h.6))

-- ---- reclaim and age

outcome-fits : (m : Setting) (sp : Spared) (l : Ledger) (f : ℕ) (notes : List Note) → IsWideLedger m l → IsWide f → Outcome m sp l f notes
    → AreNotes notes
outcome-fits m sp l f notes wide frame h = by (cause_of m sp l f) h
  where
    left : (s : Slot) (b : Bool) → IsSlot s → AreNotes (cond b (Started s ∷ Kept f WriteStarted ∷ []) (Dropped s ∷ []))
    left s true slot = (slot, (frame, tt))
    left s false slot = (slot, tt)

    by : (o : Option Cause) → MatchOption o ((s : Slot) × IsSlotFor m sp l f s × (notes ≡ leave_notes l f s)) (λ cause. notes ≡ Kept f cause ∷ [])
        → AreNotes notes
    by None q =
        let slot = slot-for m sp l f q.0 wide q.1 in
        subst AreNotes (sym q.2) (all-append IsNote (unmap_notes l f q.0)
        (cond (is_dirty l f q.0) (Started q.0 ∷ Kept f WriteStarted ∷ []) (Dropped q.0 ∷ []))
        (unmap-fits l f q.0 frame slot) (left q.0 (is_dirty l f q.0) slot))
    by (Some cause) q = subst AreNotes (sym q) (frame, tt)

pub outcomes-fit : (m : Setting) (sp : Spared) (l : Ledger) (fs : List ℕ) (notes : List Note) → IsWideLedger m l → AllByRecursion IsWide fs
    → Outcomes m sp l fs notes → AreNotes notes
outcomes-fit m sp l [] notes wide frames h = subst AreNotes (sym h) tt
outcomes-fit m sp l (f ∷ fs) notes wide frames h =
    let here = outcome-fits m sp l f h.0 wide frames.0 h.3 in
    subst AreNotes (sym h.2) (all-append IsNote h.0 h.1 here
    (outcomes-fit m sp (after_notes l h.0) fs h.1 (wide-notes m l h.0 here wide) frames.1 h.4))

pub ages-fit : (fs : List ℕ) → AllByRecursion IsWide fs → AreNotes (map Aged fs)
ages-fit fs frames = all-map IsWide IsNote Aged (λ f frame. frame) fs frames

-- ---- entries that go

zap-drop : (m : Setting) (l : Ledger) (k : Key) → IsWideLedger m l
    → (orphans : List Note) × (zap_of l k ≡ Zapped k ∷ note_events orphans) × AreNotes orphans
zap-drop m l k wide = by (entry l k) (wide-entry m l k wide)
  where
    dropped : (o : Option Slot) → IfThere IsSlot o → (orphans : List Note)
        × ((Zapped k ∷ orphan_drop (after_zap k l) o) ≡ Zapped k ∷ note_events orphans) × AreNotes orphans
    dropped None fits = ([], refl, tt)
    dropped (Some s) fits = (when (is_orphan (after_zap k l) s) (Dropped s), refl, notes-when (is_orphan (after_zap k l) s) (Dropped s) fits)

    by : (o : Option Entry) → IfThere IsWideEntry o → (orphans : List Note)
        × ((Zapped k ∷ orphan_drop (after_zap k l) (slot_behind_key l o)) ≡ Zapped k ∷ note_events orphans) × AreNotes orphans
    by None fits = dropped None tt
    by (Some Zero) fits = dropped None tt
    by (Some (InFrame f seen)) fits = dropped (slot_of l f) (wide-slot_of m l f wide)
    by (Some (InSlot s)) fits = dropped (Some s) fits

wide-zap : (m : Setting) (l : Ledger) (k : Key) → IsWideLedger m l → IsWideLedger m (after_all l (zap_of l k))
wide-zap m l k wide =
    let d = zap-drop m l k wide in
    subst (λ es. IsWideLedger m (after_all l es)) (sym d.1)
    (subst (IsWideLedger m) (sym (note_events-all (after_zap k l) d.0)) (wide-notes m (after_zap k l) d.0 d.2 (wide-zapped m k l wide)))

pub wide-zaps : (m : Setting) (l : Ledger) (ks : List Key) → IsWideLedger m l → IsWideLedger m (after_all l (zaps_of l ks))
wide-zaps m l [] wide = wide
wide-zaps m l (k ∷ ks) wide = subst (IsWideLedger m) (sym (after_all-append l (zap_of l k) (zaps_of (after_all l (zap_of l k)) ks)))
    (wide-zaps m (after_all l (zap_of l k)) ks (wide-zap m l k wide))

pub zaps-fit : (m : Setting) (l : Ledger) (ks : List Key) → IsWideLedger m l → AreNotes (notes_of (zaps_of l ks))
zaps-fit m l [] wide = tt
zaps-fit m l (k ∷ ks) wide =
    let d = zap-drop m l k wide in
    subst AreNotes (sym (notes_of-append (zap_of l k) (zaps_of (after_all l (zap_of l k)) ks)))
    (all-append IsNote (notes_of (zap_of l k)) (notes_of (zaps_of (after_all l (zap_of l k)) ks))
    (subst (λ es. AreNotes (notes_of es)) (sym d.1) (subst AreNotes (sym (notes_of-note_events d.0)) d.2))
    (zaps-fit m (after_all l (zap_of l k)) ks (wide-zap m l k wide)))

-- an mremap
pub remap-fits : (m : Setting) (l : Ledger) (p from n to k : ℕ) → IsWideLedger m l → AreNotes (notes_of (remap_events l p from n to k))
remap-fits m l p from n to k wide = by (to == from)
  where
    target : Ledger
    target = then_target l p from n to k

    first : List Event
    first = range_zaps l p to k

    second : List Event
    second = range_zaps (then_target l p from n to k) p (from + k) (n - k)

    zapped : AreNotes (notes_of (first ++ second))
    zapped = subst AreNotes (sym (notes_of-append first second)) (all-append IsNote (notes_of first) (notes_of second)
        (zaps-fit m l (keys_in l p to k) wide)
        (zaps-fit m target (keys_in target p (from + k) (n - k)) (wide-zaps m l (keys_in l p to k) wide)))

    by : (b : Bool) → AreNotes (notes_of (cond b (range_zaps l p (from + k) (n - k)) ((first ++ second) ++ EntriesMoved p (min n k) from to ∷ [])))
    by true = zaps-fit m l (keys_in l p (from + k) (n - k)) wide
    by false = subst AreNotes (sym (notes_of-append (first ++ second) (EntriesMoved p (min n k) from to ∷ [])))
        (all-append IsNote (notes_of (first ++ second)) [] zapped tt)

-- ---- merging and compaction

found-all : (P : ℕ → Type 0) (p : ℕ → Bool) (xs : List ℕ) (y : ℕ) → AllByRecursion P xs → find p xs ≡ Some y → P y
found-all P p [] y all h = cc
found-all P p (x ∷ xs) y all h = by (p x) h (found-all P p xs y all.1)
  where
    by : (b : Bool) → cond b (Some x) (find p xs) ≡ Some y → (find p xs ≡ Some y → P y) → P y
    by true h rest = let e : x ≡ y = cc in subst P e all.0
    by false h rest = rest h

range-wide : (a n past : ℕ) → a + n ≤ past → IsWide past → AllByRecursion IsWide (range_with_len a n)
range-wide a zero past low wide = tt
range-wide a (suc n) past low wide = (omega (arith, low, wide), range-wide (a + 1) n past (omega (arith, low)) wide)

join-fits : (k : Key) (a b : Option ℕ) → IsWideKey k → IfThere IsWide a → IfThere IsWide b → AreNotes (join_notes k a b)
join-fits k (Some g) b key x y = ((key.0, key.1, x), tt)
join-fits k None (Some j) key x y = (y, ((key.0, key.1, y), tt))
join-fits k None None key x y = tt

pub merges-fit : (m : Setting) (held : FrameBytes) (w : World) (l : Ledger) (earlier : List ℕ) (ks : List Key) → IsWide m.frames
    → AllByRecursion IsWideKey ks → AllByRecursion IsWide earlier → IsWideLedger m l → AreNotes (merges m held w l earlier ks)
merges-fit m held w l earlier [] frames keys before wide = tt
merges-fit m held w l earlier (k ∷ ks) frames keys before wide =
    let here = turn (candidate w l k) in
    all-append IsNote (merge_notes m held l earlier k (candidate w l k)) _ here
    (merges-fit m held w (after_notes l (merge_notes m held l earlier k (candidate w l k))) (with_candidate earlier (candidate w l k)) ks frames keys.1
    (more (candidate w l k) refl) (wide-notes m l (merge_notes m held l earlier k (candidate w l k)) here wide))
  where
    like : (f : ℕ) (o : Option ℕ) → merged_like m held l f ≡ o → IfThere IsWide o
    like f None e = tt
    like f (Some g) e = found-all IsWide (λ g. is_merged l g && hold_same held g f) (range_with_len 0 m.frames) g
        (range-wide 0 m.frames m.frames (omega arith) frames) e

    other : (f : ℕ) (o : Option ℕ) → other_like held earlier f ≡ o → IfThere IsWide o
    other f None e = tt
    other f (Some j) e = found-all IsWide (λ h. not (h == f) && hold_same held h f) earlier j before e

    turn : (o : Option ℕ) → AreNotes (merge_notes m held l earlier k o)
    turn None = tt
    turn (Some f) = join-fits k (merged_like m held l f) (other_like held earlier f) keys.0
        (like f (merged_like m held l f) refl) (other f (other_like held earlier f) refl)

    named : (f : ℕ) (o : Option Entry) → IfThere IsWideEntry o
        → candidate_by w l k o ≡ Some f → IsWide f
    named f None a h = cc
    named f (Some Zero) a h = cc
    named f (Some (InSlot s)) a h = cc
    named f (Some (InFrame g seen)) a h = pick
        (may_merge (pages w k.0 k.1) && not (is_merged l g) && is_none (slot_of l g) && not (is_locked w l g)) h
      where
        pick : (b : Bool) → cond b (Some g) None ≡ Some f → IsWide f
        pick true h = let e : g ≡ f = cc in subst IsWide e a
        pick false h = cc

    more : (o : Option ℕ) → candidate w l k ≡ o → AllByRecursion IsWide (with_candidate earlier o)
    more None e = before
    more (Some f) e = all-append IsWide earlier (f ∷ []) before (named f (entry l k) (wide-entry m l k wide) e, tt)

pub moves-fit : (m : Setting) (l : Ledger) (notes : List Note) → IsWide m.frames → MovesDown m l notes → AreNotes notes
moves-fit m l [] frames h = tt
moves-fit m l (note ∷ notes) frames h =
    (by (least_free m l) refl (greatest_used m l) refl h.0, moves-fit m (after_note note l) notes frames h.1)
  where
    all : AllByRecursion IsWide (range_with_len 0 m.frames)
    all = range-wide 0 m.frames m.frames (omega arith) frames

    by : (a : Option ℕ) → least_free m l ≡ a → (b : Option ℕ) → greatest_used m l ≡ b → move_down a b ≡ Some note → IsNote note
    by None is b is' e = cc
    by (Some f) is None is' e = cc
    by (Some f) is (Some g) is' e = lower (nat_lt f g) e
      where
        low : IsWide f
        low = found-all IsWide (is_free l) (range_with_len 0 m.frames) f all is

        high : IsWide g
        high = found-all IsWide (λ f. not (is_free l f)) (reverse (range_with_len 0 m.frames)) g (all-reverse IsWide (range_with_len 0 m.frames) all) is'

        lower : (b : Bool) → cond b (Some (Moved g f)) None ≡ Some note → IsNote note
        lower true e = let same : Moved g f ≡ note = cc in subst IsNote same (high, low)
        lower false e = cc
