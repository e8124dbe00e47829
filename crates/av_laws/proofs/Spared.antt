-- No event unmaps a frame that is locked when a command begins: passes and reclaim leave those alone, and in each of them no further
-- frame becomes locked.
use Rattle.std.proofs.Common.{◌≡◌, ◌⊎◌, inl, inr, ℕ, ◌-◌, ◌+◌, Bool, true, false, cond, not, ◌&&◌, ◌||◌, ◌==◌, List, [], ◌∷◌, ◌++◌, map, filter, min, reverse, Option, Some, None, is_none, refl, sym, ap, subst, ◌∙◌}
use Rattle.std.specs.List.{AllByRecursion, list_any}
use Rattle.std.specs.Prelude.{MatchBool, MatchOption}
use Rattle.av_base.specs.Keys.{Key}
use Rattle.av_base.specs.Page.{address_of, page_of, pages_met, pages_of}
use Rattle.av_base.specs.declared.flags.Flag.{Flag}
use Rattle.av_base.specs.declared.slot.Slot.{Slot}
use Rattle.av_trace.specs.declared.command.Command.{Command}
use Rattle.av_trace.specs.declared.command.Command.TheVariants.{Compact, Merge, Spawn, Fork, Exit, Mmap, Mremap, Munmap, Mprotect, Madvise, Mlock, Munlock, Read, Write, Reclaim, Age, Complete, Swapon, Swapoff, Maps, Areas as AsksAreas, Rmap as AsksRmap, Entry as AsksEntry, Slot as AsksSlot, Stat}
use Rattle.av_trace.specs.declared.note.Cause.{Cause}
use Rattle.av_trace.specs.declared.note.Cause.TheVariants.{Ksm, Locked, NoSlot, Referenced, WriteStarted, Writeback}
use Rattle.av_trace.specs.declared.note.Note.{Note}
use Rattle.av_trace.specs.declared.note.Note.TheVariants.{Aged, Copied, Dropped, Failed, Kept, Loaded, Mapped, New, Put, Started, Unmapped, Written, Zeroed, Joined, Moved, Shared}
use Rattle.av_trace.specs.declared.place.Place.{Place}
use Rattle.av_trace.specs.declared.place.Place.TheVariants.{Auto, At, Fixed, NoReplace}
use Rattle.av_trace.specs.declared.reply.Answer.{Answer}
use Rattle.av_trace.specs.declared.reply.Answer.TheVariants.{Refused}
use Rattle.av_trace.specs.declared.reply.Errno.{Errno}
use Rattle.av_trace.specs.declared.reply.Errno.TheVariants.{Enomem}
use Rattle.av_trace.specs.declared.reply.Reply.{Reply}
use Rattle.av_trace.specs.declared.row.Row.{Row}
use Rattle.av_plain.specs.Access.{Accesses, End, page_events, pages_of_access}
use Rattle.av_plain.specs.Advice.{advice_events, flag_of_advice, pages_advised}
use Rattle.av_plain.specs.Event.{Event, EntriesMoved, FreeSorted, Noted, TurnedOn, Used, Zapped, after, after_all, after_note, after_notes, change_entries, if_some, note_events, off_cache, when}
use Rattle.av_plain.specs.Fault.{ComesIn, CopyOnWrite, Denied, IsMade, Lost, MapCached, Need, NewPage, Ready, Starved, Stop, SwapIn, Touches, ZeroPage, drop_at, drop_of_entry, drop_of_slot, is_locked, need, pinned_by, sparing, was_slot}
use Rattle.av_plain.specs.Ledger.{Entry, InFrame, InSlot, Ledger, Setting, SwapArea, Zero, entry, frame_at, has_free, is_merged, is_orphan, keys_of_slot, map_count, names_frame, slot_of, slots_in_use}
use Rattle.av_plain.specs.Lock.{BringsIn, accesses_of, with_lock}
use Rattle.av_plain.specs.Compact.{MovesDown}
use Rattle.av_plain.specs.Map.{zaps_for_place}
use Rattle.av_plain.specs.Merge.{FrameBytes, candidate, join_notes, merge_notes, merged_like, merges, other_like, with_candidate}
use Rattle.av_plain.specs.Mremap.{events_to, range_zaps}
use Rattle.av_plain.specs.Pass.{Completes, IsPass, IsSlotFor, Seeks, Spared, TakesFor, Turns, end_note, end_notes, frames_in_turn, has_turn, is_dirty, is_pinned, is_spared, is_stuck, stays_cached, turn_notes, unmap_notes}
use Rattle.av_plain.specs.Reclaim.{Outcome, Outcomes, cause_of, from_tail, is_in_writeback, is_referenced, leave_notes}
use Rattle.av_plain.specs.Refusal.{Refuses, refusal, tests}
use Rattle.av_plain.specs.Step.{Follows, IsLegal}
use Rattle.av_plain.specs.Swapoff.{Close, Closed, Empties, EndsAt, IsEmptied, NoRoom, Unread, map_notes, sparing_area, turn_off_events}
use Rattle.av_plain.specs.Swapon.{turn_on_events}
use Rattle.av_plain.specs.World.{World, is_locked_page, pages, pages_to_hole}
use Rattle.av_plain.specs.Zap.{keys_in, keys_of_process, orphan_drop, slot_behind_key, zap_of, zaps_of}
use Rattle.av_plain.proofs.Event.{to_slot, to_unseen}
use Rattle.av_plain.proofs.Sound.Frames.{IsMove, move-is}
use Rattle.av_plain.proofs.Sound.Pages.{AllBring, Brings, bring-completes, bring-turn, written-entries}
use Rattle.av_plain.proofs.Sound.Steps.{settle-entries}
use Rattle.av_plain.proofs.Sound.Swap.{bring-outcome}
use Rattle.av_plain.proofs.Sound.Swap.Area.{turn-on-events}
use Rattle.av_laws.specs.Locked.{AllSpareLocked, SparesLocked, memories_in, moves_frames}

-- nothing brings an entry
abbrev nowhere : Key → Bool
nowhere k = false

or_second : (a b : Bool) → (a || b) ≡ false → b ≡ false
or_second true b h = cc
or_second false b h = h

or_first : (a b : Bool) → (a || b) ≡ false → a ≡ false
or_first true b h = cc
or_first false b h = refl

or_false : (a b : Bool) → a ≡ false → b ≡ false → (a || b) ≡ false
or_false true b h g = cc
or_false false b h g = g

-- ---- notes that unmap nothing

abbrev pub IsQuiet : Note → Type 0
IsQuiet (Unmapped f) = ⊥
IsQuiet (Moved from to) = ⊥
IsQuiet note = Unit {0}

abbrev pub AreQuiet : List Note → Type 0
AreQuiet [] = Unit {0}
AreQuiet (note ∷ notes) = IsQuiet note × AreQuiet notes

quiet-append : (a b : List Note) → AreQuiet a → AreQuiet b → AreQuiet (a ++ b)
quiet-append [] b x y = y
quiet-append (note ∷ a) b x y = (x.0, quiet-append a b x.1 y)

quiet-when : (b : Bool) (note : Note) → IsQuiet note → AreQuiet (when b note)
quiet-when true note h = (h, tt)
quiet-when false note h = tt

pub quiet-completes : (l : Ledger) (ts : List Slot) (notes : List Note) → Completes l ts notes → AreQuiet notes
quiet-completes l [] notes c = subst AreQuiet (sym c) tt
quiet-completes l (t ∷ ts) notes c = subst AreQuiet (sym c.2) (quiet-append (end_notes l t c.0) c.1
    (one c.0, quiet-when (is_orphan (after_note (end_note c.0 t) l) t) (Dropped t) tt)
    (quiet-completes (after_notes l (end_notes l t c.0)) ts c.1 c.3))
  where
    one : (failed : Bool) → IsQuiet (end_note failed t)
    one true = tt
    one false = tt

quiet-drop : (m : Setting) (write came : Bool) (l : Ledger) (k : Key) → AreQuiet (drop_at m write came l k)
quiet-drop m write came l k = by (entry l k)
  where
    slot_one : (o : Option Slot) → AreQuiet (drop_of_slot m write came l o)
    slot_one None = tt
    slot_one (Some t) = quiet-when _ (Dropped t) tt

    by : (o : Option Entry) → AreQuiet (drop_of_entry m write came l o)
    by None = tt
    by (Some Zero) = tt
    by (Some (InFrame f seen)) = slot_one (slot_of l f)
    by (Some (InSlot t)) = tt

quiet-maps : (ks : List Key) (t : Slot) (f : ℕ) → AreQuiet (map (λ (k : Key). Mapped k.0 (address_of k.1) f) ks ++ Dropped t ∷ [])
quiet-maps [] t f = (tt, tt)
quiet-maps (k ∷ ks) t f = (tt, quiet-maps ks t f)

pub quiet-ages : (fs : List ℕ) → AreQuiet (map Aged fs)
quiet-ages [] = tt
quiet-ages (f ∷ fs) = (tt, quiet-ages fs)

-- notes by which no frame goes over to another
abbrev IsStill : Note → Type 0
IsStill (Moved from to) = ⊥
IsStill note = Unit {0}

abbrev AreStill : List Note → Type 0
AreStill [] = Unit {0}
AreStill (note ∷ notes) = IsStill note × AreStill notes

still-append : (a b : List Note) → AreStill a → AreStill b → AreStill (a ++ b)
still-append [] b x y = y
still-append (note ∷ a) b x y = (x.0, still-append a b x.1 y)

still-quiet : (notes : List Note) → AreQuiet notes → AreStill notes
still-quiet [] q = tt
still-quiet (note ∷ notes) q = (one note q.0, still-quiet notes q.1)
  where
    one : (note : Note) → IsQuiet note → IsStill note
    one (Moved from to) q = absurd q
    one note q = tt

still-unmap : (l : Ledger) (f : ℕ) (s : Slot) → AreStill (unmap_notes l f s)
still-unmap l f s = by (is_none (slot_of l f)) (not (map_count l f == 0))
  where
    by : (a b : Bool) → AreStill (when a (Put f s) ++ when b (Unmapped f))
    by true true = (tt, (tt, tt))
    by true false = (tt, tt)
    by false true = (tt, tt)
    by false false = tt

still-turn : (l : Ledger) (f : ℕ) (s : Slot) (failed : Bool) → AreStill (turn_notes l f s failed)
still-turn l f s failed = still-append (unmap_notes l f s) (cond (is_dirty l f s) (Started s ∷ end_note failed s ∷ []) [])
    (still-unmap l f s) (by (is_dirty l f s) failed)
  where
    by : (b failed : Bool) → AreStill (cond b (Started s ∷ end_note failed s ∷ []) [])
    by true true = (tt, (tt, tt))
    by true false = (tt, (tt, tt))
    by false failed = tt

still-outcome : (m : Setting) (sp : Spared) (l : Ledger) (f : ℕ) (notes : List Note) → Outcome m sp l f notes → AreStill notes
still-outcome m sp l f notes h = by (cause_of m sp l f) h
  where
    ending : (s : Slot) (b : Bool) → AreStill (cond b (Started s ∷ Kept f WriteStarted ∷ []) (Dropped s ∷ []))
    ending s true = (tt, (tt, tt))
    ending s false = (tt, tt)

    by : (o : Option Cause) → MatchOption o ((s : Slot) × IsSlotFor m sp l f s × (notes ≡ leave_notes l f s)) (λ cause. notes ≡ Kept f cause ∷ [])
        → AreStill notes
    by None q = subst AreStill (sym q.2) (still-append (unmap_notes l f q.0) _ (still-unmap l f q.0) (ending q.0 (is_dirty l f q.0)))
    by (Some cause) q = subst AreStill (sym q) (tt, tt)

-- an event unmaps no frame of a locked page, and none goes over to another
abbrev pub Spares : World → Ledger → Event → Type 0
Spares w l (Noted (Unmapped f)) = is_locked w l f ≡ false
Spares w l (Noted (Moved from to)) = ⊥
Spares w l event = Unit {0}

abbrev pub AllSpare : World → Ledger → List Event → Type 0
AllSpare w l [] = Unit {0}
AllSpare w l (e ∷ es) = Spares w l e × AllSpare w (after l e) es

spare-less : (w : World) (l : Ledger) (es : List Event) → AllSpare w l es → AllSpareLocked w l es
spare-less w l [] h = tt
spare-less w l (e ∷ es) h = (one e h.0, spare-less w (after l e) es h.1)
  where
    note : (n : Note) → Spares w l (Noted n) → SparesLocked w l (Noted n)
    note (Unmapped f) h = h
    note (Moved from to) h = absurd h
    note n h = tt

    one : (e : Event) → Spares w l e → SparesLocked w l e
    one (Noted n) h = note n h
    one e h = tt

-- a merge is quiet
pub quiet-merges : (m : Setting) (held : FrameBytes) (w : World) (l : Ledger) (earlier : List ℕ) (ks : List Key) → AreQuiet (merges m held w l earlier ks)
quiet-merges m held w l earlier [] = tt
quiet-merges m held w l earlier (k ∷ ks) =
    quiet-append (merge_notes m held l earlier k (candidate w l k)) _ (by (candidate w l k))
    (quiet-merges m held w (after_notes l (merge_notes m held l earlier k (candidate w l k))) (with_candidate earlier (candidate w l k)) ks)
  where
    joins : (a b : Option ℕ) → AreQuiet (join_notes k a b)
    joins (Some g) b = (tt, tt)
    joins None (Some j) = (tt, (tt, tt))
    joins None None = tt

    by : (o : Option ℕ) → AreQuiet (merge_notes m held l earlier k o)
    by None = tt
    by (Some f) = joins (merged_like m held l f) (other_like held earlier f)

module _ (w : World) where
  abbrev pub has_lock : Key → Bool
  has_lock k = is_locked_page (pages w k.0 k.1)

  abbrev any_lock : ℕ → List (Key × Entry) → Bool
  any_lock g es = list_any has_lock (map (λ e. e.0) (filter (λ e. names_frame g e.1) es))

  -- ---- what is locked grows only by an entry

  changed-unlocked : (g : ℕ) (c : Entry → Entry) → ((e : Entry) → names_frame g (c e) ≡ true → names_frame g e ≡ true) → (es : List (Key × Entry))
      → any_lock g es ≡ false → any_lock g (map (λ (e : Key × Entry). (e.0, c e.1)) es) ≡ false
  changed-unlocked g c fewer [] h = refl
  changed-unlocked g c fewer (e ∷ es) h = at (names_frame g e.1) (names_frame g (c e.1)) (fewer e.1) h (changed-unlocked g c fewer es)
    where
      was : List (Key × Entry)
      was = filter (λ e. names_frame g e.1) es

      now : List (Key × Entry)
      now = filter (λ e. names_frame g e.1) (map (λ (e : Key × Entry). (e.0, c e.1)) es)

      at : (a b : Bool) → (b ≡ true → a ≡ true) → list_any has_lock (map (λ e. e.0) (cond a (e ∷ was) was)) ≡ false
          → (list_any has_lock (map (λ e. e.0) was) ≡ false → list_any has_lock (map (λ e. e.0) now) ≡ false)
          → list_any has_lock (map (λ e. e.0) (cond b ((e.0, c e.1) ∷ now) now)) ≡ false
      at true true i h rest = or_false (has_lock e.0) (list_any has_lock (map (λ e. e.0) now))
          (or_first (has_lock e.0) (list_any has_lock (map (λ e. e.0) was)) h)
          (rest (or_second (has_lock e.0) (list_any has_lock (map (λ e. e.0) was)) h))
      at true false i h rest = rest (or_second (has_lock e.0) (list_any has_lock (map (λ e. e.0) was)) h)
      at false true i h rest = let no = i refl in cc
      at false false i h rest = rest h

  to_slot-fewer : (f : ℕ) (s : Slot) (g : ℕ) (e : Entry) → names_frame g (to_slot f s e) ≡ true → names_frame g e ≡ true
  to_slot-fewer f s g Zero h = h
  to_slot-fewer f s g (InSlot t) h = h
  to_slot-fewer f s g (InFrame i seen) h = by (f == i) h
    where
      by : (b : Bool) → names_frame g (cond b (InSlot s) (InFrame i seen)) ≡ true → (g == i) ≡ true
      by true h = cc
      by false h = h

  to_unseen-fewer : (f g : ℕ) (e : Entry) → names_frame g (to_unseen f e) ≡ true → names_frame g e ≡ true
  to_unseen-fewer f g Zero h = h
  to_unseen-fewer f g (InSlot t) h = h
  to_unseen-fewer f g (InFrame i seen) h = by (f == i) h
    where
      by : (b : Bool) → names_frame g (cond b (InFrame i false) (InFrame i seen)) ≡ true → (g == i) ≡ true
      by true h = h
      by false h = h

  unlocked-note : (l : Ledger) (note : Note) (g : ℕ) → IsStill note → Brings nowhere note → is_locked w l g ≡ false
      → is_locked w (after_note note l) g ≡ false
  unlocked-note l (Zeroed p a) g q b h = cc
  unlocked-note l (New p a f) g q b h = cc
  unlocked-note l (Copied p a f) g q b h = cc
  unlocked-note l (Mapped p a f) g q b h = cc
  unlocked-note l (Loaded s f) g q b h = h
  unlocked-note l (Put f s) g q b h = h
  unlocked-note l (Unmapped f) g q b h = by (slot_of l f)
    where
      by : (o : Option Slot) → is_locked w (if_some o (λ s. change_entries f (λ _. InSlot s)) l) g ≡ false
      by None = h
      by (Some s) = changed-unlocked g (to_slot f s) (to_slot-fewer f s g) l.entries h
  unlocked-note l (Started s) g q b h = h
  unlocked-note l (Written s) g q b h = ap (any_lock g) (written-entries l s) ∙ h
  unlocked-note l (Failed s) g q b h = h
  unlocked-note l (Dropped s) g q b h = ap (any_lock g) (settle-entries (frame_at l s) (off_cache s l)) ∙ h
  unlocked-note l (Kept f Writeback) g q b h = h
  unlocked-note l (Kept f WriteStarted) g q b h = h
  unlocked-note l (Kept f Referenced) g q b h = changed-unlocked g (to_unseen f) (to_unseen-fewer f g) l.entries h
  unlocked-note l (Kept f NoSlot) g q b h = h
  unlocked-note l (Kept f Locked) g q b h = h
  unlocked-note l (Kept f Ksm) g q b h = h
  unlocked-note l (Shared f) g q b h = h
  unlocked-note l (Joined p a f) g q b h = cc
  unlocked-note l (Moved from to) g q b h = absurd q
  unlocked-note l (Aged f) g q b h = changed-unlocked g (to_unseen f) (to_unseen-fewer f g) l.entries h

  unlocked-notes : (l : Ledger) (notes : List Note) (g : ℕ) → AreStill notes → AllBring nowhere notes → is_locked w l g ≡ false
      → is_locked w (after_notes l notes) g ≡ false
  unlocked-notes l [] g q b h = h
  unlocked-notes l (note ∷ notes) g q b h = unlocked-notes (after_note note l) notes g q.1 b.1 (unlocked-note l note g q.0 b.0 h)

  -- ---- notes that spare what is locked

  abbrev pub NotesSpare : Ledger → List Note → Type 0
  NotesSpare l [] = Unit {0}
  NotesSpare l (note ∷ notes) = Spares w l (Noted note) × NotesSpare (after_note note l) notes

  spare-append : (l : Ledger) (a b : List Note) → NotesSpare l a → NotesSpare (after_notes l a) b → NotesSpare l (a ++ b)
  spare-append l [] b x y = y
  spare-append l (note ∷ a) b x y = (x.0, spare-append (after_note note l) a b x.1 y)

  spare-is : (l : Ledger) (a b : List Note) → a ≡ b → NotesSpare l b → NotesSpare l a
  spare-is l a b e h = subst (NotesSpare l) (sym e) h

  pub spare-quiet : (l : Ledger) (notes : List Note) → AreQuiet notes → NotesSpare l notes
  spare-quiet l [] q = tt
  spare-quiet l (note ∷ notes) q = (one note q.0, spare-quiet (after_note note l) notes q.1)
    where
      one : (note : Note) → IsQuiet note → Spares w l (Noted note)
      one (Unmapped f) q = absurd q
      one (Moved from to) q = absurd q
      one note q = tt

  spare-unmap : (l : Ledger) (f : ℕ) (s : Slot) → is_locked w l f ≡ false → NotesSpare l (unmap_notes l f s)
  spare-unmap l f s h = by (is_none (slot_of l f)) (not (map_count l f == 0))
    where
      by : (a b : Bool) → NotesSpare l (when a (Put f s) ++ when b (Unmapped f))
      by true true = (tt, (h, tt))
      by true false = (tt, tt)
      by false true = (h, tt)
      by false false = tt

  spare-turn : (l : Ledger) (f : ℕ) (s : Slot) (failed : Bool) → is_locked w l f ≡ false → NotesSpare l (turn_notes l f s failed)
  spare-turn l f s failed h = spare-append l (unmap_notes l f s) (cond (is_dirty l f s) (Started s ∷ end_note failed s ∷ []) [])
      (spare-unmap l f s h) (spare-quiet (after_notes l (unmap_notes l f s)) _ (by (is_dirty l f s) failed))
    where
      by : (b failed : Bool) → AreQuiet (cond b (Started s ∷ end_note failed s ∷ []) [])
      by true true = (tt, (tt, tt))
      by true false = (tt, (tt, tt))
      by false failed = tt

  -- ---- a pass

  abbrev AreUnlocked : Ledger → List ℕ → Type 0
  AreUnlocked l fs = AllByRecursion (λ f. is_locked w l f ≡ false) fs

  unlocked-then : (l : Ledger) (notes : List Note) (fs : List ℕ) → AreStill notes → AllBring nowhere notes → AreUnlocked l fs
      → AreUnlocked (after_notes l notes) fs
  unlocked-then l notes [] q b h = tt
  unlocked-then l notes (f ∷ fs) q b h = (unlocked-notes l notes f q b h.0, unlocked-then l notes fs q b h.1)

  spare-turns : (m : Setting) (sp : Spared) (l : Ledger) (fs : List ℕ) (notes : List Note) → AreUnlocked l fs → Turns m sp l fs notes
      → NotesSpare l notes
  spare-turns m sp l [] notes h t = spare-is l notes [] t tt
  spare-turns m sp l (f ∷ fs) notes h t = by (is_stuck m sp l f) (spare-turns m sp l fs notes h.1) (λ l' rest un t. spare-turns m sp l' fs rest un t) t
    where
      by : (b : Bool) → (Turns m sp l fs notes → NotesSpare l notes)
          → ((l' : Ledger) (rest : List Note) → AreUnlocked l' fs → Turns m sp l' fs rest → NotesSpare l' rest) → MatchBool b (Turns m sp l fs notes)
          ((s : Slot) × (failed : Bool) × IsSlotFor m sp l f s × MatchBool (stays_cached l f s failed)
          ((rest : List Note) × (notes ≡ turn_notes l f s failed ++ rest) × Turns m sp (after_notes l (turn_notes l f s failed)) fs rest)
          (notes ≡ turn_notes l f s failed ++ Dropped s ∷ [])) → NotesSpare l notes
      by true stuck later t = stuck t
      by false stuck later t = goes (stays_cached l f t.0 t.1) t.3
        where
          turn : List Note
          turn = turn_notes l f t.0 t.1

          goes : (b : Bool) → MatchBool b
              ((rest : List Note) × (notes ≡ turn_notes l f t.0 t.1 ++ rest) × Turns m sp (after_notes l (turn_notes l f t.0 t.1)) fs rest)
              (notes ≡ turn_notes l f t.0 t.1 ++ Dropped t.0 ∷ []) → NotesSpare l notes
          goes true q = spare-is l notes (turn ++ q.0) q.1 (spare-append l turn q.0 (spare-turn l f t.0 t.1 h.0)
              (later (after_notes l turn) q.0 (unlocked-then l turn fs (still-turn l f t.0 t.1) (bring-turn nowhere l f t.0 t.1) h.1) q.2))
          goes false q = spare-is l notes (turn ++ Dropped t.0 ∷ []) q (spare-append l turn (Dropped t.0 ∷ []) (spare-turn l f t.0 t.1 h.0) (tt, tt))

  -- what is left alone has all locked frames
  abbrev Leaves : Spared → Ledger → Type 0
  Leaves sp l = (g : ℕ) → is_spared sp g ≡ false → is_locked w l g ≡ false

  leaves-sparing : (l : Ledger) (pinned : Option ℕ) → Leaves (sparing w l pinned) l
  leaves-sparing l pinned g h = or_second (is_pinned pinned g) (is_locked w l g) h

  leaves-area : (k : ℕ) (l : Ledger) → Leaves (sparing_area w k l) l
  leaves-area k l g h = h

  in_turn : (sp : Spared) (l : Ledger) → Leaves sp l → (fs : List ℕ) → AreUnlocked l (filter (has_turn sp l) fs)
  in_turn sp l leaves [] = tt
  in_turn sp l leaves (f ∷ fs) = by (is_spared sp f) (is_merged l f) refl (in_turn sp l leaves fs)
    where
      by : (b c : Bool) → is_spared sp f ≡ b → AreUnlocked l (filter (has_turn sp l) fs)
          → AreUnlocked l (cond (not b && not c) (f ∷ filter (has_turn sp l) fs) (filter (has_turn sp l) fs))
      by true c is rest = rest
      by false true is rest = rest
      by false false is rest = (leaves f is, rest)

  spare-seeks : (m : Setting) (sp : Spared) (l : Ledger) (notes : List Note) → Leaves sp l → Seeks m sp l notes → NotesSpare l notes
  spare-seeks m sp l notes leaves h = by (has_free m l) h
    where
      turned : (b : Bool) (now : Ledger) (turns : List Note) → Leaves sp now
          → MatchBool b (turns ≡ []) (Turns m sp now (frames_in_turn sp now) turns) → NotesSpare now turns
      turned true now turns leaves q = spare-is now turns [] q tt
      turned false now turns leaves q = spare-turns m sp now (frames_in_turn sp now) turns
          (in_turn sp now leaves (reverse now.inactive ++ reverse now.active)) q

      by : (b : Bool) → MatchBool b (notes ≡ []) (IsPass m sp l notes) → NotesSpare l notes
      by true q = spare-is l notes [] q tt
      by false q = spare-is l notes (q.0 ++ q.1) q.2 (spare-append l q.0 q.1 (spare-quiet l q.0 (quiet-completes l l.flight q.0 q.3))
          (turned (has_free m (after_notes l q.0)) (after_notes l q.0) q.1
          (λ g is. unlocked-notes l q.0 g (still-quiet q.0 (quiet-completes l l.flight q.0 q.3)) (bring-completes nowhere l l.flight q.0 q.3) (leaves g is)) q.4))

  spare-takes : (m : Setting) (sp : Spared) (l : Ledger) (notes : List Note) (note : ℕ → Note) → Leaves sp l → ((f : ℕ) → IsQuiet (note f))
      → TakesFor m sp l notes note → NotesSpare l notes
  spare-takes m sp l notes note leaves quiet h = spare-is l notes (h.sought ++ note h.frame ∷ []) h.whole
      (spare-append l h.sought (note h.frame ∷ []) (spare-seeks m sp l h.sought leaves h.seeks)
      (spare-quiet (after_notes l h.sought) (note h.frame ∷ []) (quiet h.frame, tt)))

  -- ---- a page

  spare-comes : (m : Setting) (l : Ledger) (k : Key) (n : Need) (notes : List Note) → ComesIn m (sparing w) l k n notes → NotesSpare l notes
  spare-comes m l k (SwapIn s) notes q = spare-is l notes (q.0 ++ Mapped k.0 (address_of k.1) q.1 ∷ []) q.4
      (spare-append l q.0 (Mapped k.0 (address_of k.1) q.1 ∷ [])
      (spare-takes m (sparing w l None) l q.0 (Loaded s) (leaves-sparing l None) (λ f. tt) q.2) (tt, tt))
  spare-comes m l k (MapCached f) notes q = spare-is l notes (Mapped k.0 (address_of k.1) f ∷ []) q (tt, tt)
  spare-comes m l k Ready notes q = spare-is l notes [] q tt
  spare-comes m l k ZeroPage notes q = spare-is l notes [] q tt
  spare-comes m l k NewPage notes q = spare-is l notes [] q tt
  spare-comes m l k (CopyOnWrite g) notes q = spare-is l notes [] q tt

  spare-made : (m : Setting) (l : Ledger) (k : Key) (n : Need) (notes : List Note) → IsMade m (sparing w) l k n notes → NotesSpare l notes
  spare-made m l k Ready notes q = spare-is l notes [] q tt
  spare-made m l k ZeroPage notes q = spare-is l notes (Zeroed k.0 (address_of k.1) ∷ []) q (tt, tt)
  spare-made m l k NewPage notes q = spare-takes m (sparing w l None) l notes (New k.0 (address_of k.1)) (leaves-sparing l None) (λ f. tt) q
  spare-made m l k (CopyOnWrite g) notes q =
      spare-takes m (sparing w l (Some g)) l notes (Copied k.0 (address_of k.1)) (leaves-sparing l (Some g)) (λ f. tt) q
  spare-made m l k (SwapIn s) notes q = absurd q
  spare-made m l k (MapCached f) notes q = absurd q

  pub spare-touches : (m : Setting) (l : Ledger) (write : Bool) (k : Key) (notes : List Note) (stop : Option Stop)
      → Touches m w l write k notes stop → NotesSpare l notes
  spare-touches m l write k notes None t =
      let h = t.1 in
      let now = after_notes l h.coming in
      let made = after_notes l (h.coming ++ h.making) in
      let drop = drop_at m write (was_slot (need write l (entry l k))) made k in
      spare-is l notes ((h.coming ++ h.making) ++ drop) h.whole (spare-append l (h.coming ++ h.making) drop
      (spare-append l h.coming h.making (spare-comes m l k (need write l (entry l k)) h.coming h.comes_in)
      (spare-made m now k (need write now (entry now k)) h.making h.made))
      (spare-quiet made drop (quiet-drop m write (was_slot (need write l (entry l k))) made k)))
  spare-touches m l write k notes (Some Denied) t = spare-is l notes [] t.1 tt
  spare-touches m l write k notes (Some (Starved out)) t =
      let h = t.1 in
      let now = after_notes l h.coming in
      spare-is l notes (h.coming ++ h.sought) h.whole (spare-append l h.coming h.sought (before h.coming h.before)
      (spare-seeks m (sparing w now (pinned_by (need write now (entry now k)))) now h.sought
      (leaves-sparing now (pinned_by (need write now (entry now k)))) h.finds.seeks))
    where
      before : (coming : List Note) → (coming ≡ []) ⊎ ComesIn m (sparing w) l k (need write l (entry l k)) coming → NotesSpare l coming
      before coming (inl e) = spare-is l coming [] e tt
      before coming (inr q) = spare-comes m l k (need write l (entry l k)) coming q
  spare-touches m l write k notes (Some Lost) t = spare-seeks m (sparing w l None) l notes (leaves-sparing l None) t.1.seeks

  -- ---- reclaim

  spare-outcome : (m : Setting) (sp : Spared) (l : Ledger) (f : ℕ) (notes : List Note) → ((g : ℕ) → sp.locked g ≡ false → is_locked w l g ≡ false)
      → Outcome m sp l f notes → NotesSpare l notes
  spare-outcome m sp l f notes leaves h = by (sp.locked f) refl h
    where
      rest : (o : Option Cause) → is_locked w l f ≡ false
          → MatchOption o ((s : Slot) × IsSlotFor m sp l f s × (notes ≡ leave_notes l f s)) (λ cause. notes ≡ Kept f cause ∷ []) → NotesSpare l notes
      rest None un q = spare-is l notes (leave_notes l f q.0) q.2 (spare-append l (unmap_notes l f q.0) _ (spare-unmap l f q.0 un)
          (spare-quiet (after_notes l (unmap_notes l f q.0)) _ (ending (is_dirty l f q.0))))
        where
          ending : (b : Bool) → AreQuiet (cond b (Started q.0 ∷ Kept f WriteStarted ∷ []) (Dropped q.0 ∷ []))
          ending true = (tt, (tt, tt))
          ending false = (tt, tt)
      rest (Some cause) un q = spare-is l notes (Kept f cause ∷ []) q (tt, tt)

      by : (b : Bool) → sp.locked f ≡ b
          → MatchOption (cond b (Some Locked) (cond (is_merged l f) (Some Ksm) (cond (is_in_writeback l (slot_of l f)) (Some Writeback)
          (cond (is_referenced l f) (Some Referenced) (cond (is_stuck m sp l f) (Some NoSlot) None)))))
          ((s : Slot) × IsSlotFor m sp l f s × (notes ≡ leave_notes l f s)) (λ cause. notes ≡ Kept f cause ∷ []) → NotesSpare l notes
      by true is q = spare-is l notes (Kept f Locked ∷ []) q (tt, tt)
      by false is q = rest _ (leaves f is) q

  pub spare-outcomes : (m : Setting) (sp : Spared) (l : Ledger) (fs : List ℕ) (notes : List Note)
      → ((g : ℕ) → sp.locked g ≡ false → is_locked w l g ≡ false) → Outcomes m sp l fs notes → NotesSpare l notes
  spare-outcomes m sp l [] notes leaves h = spare-is l notes [] h tt
  spare-outcomes m sp l (f ∷ fs) notes leaves h = spare-is l notes (h.0 ++ h.1) h.2
      (spare-append l h.0 h.1 (spare-outcome m sp l f h.0 leaves h.3)
      (spare-outcomes m sp (after_notes l h.0) fs h.1
      (λ g is. unlocked-notes l h.0 g (still-outcome m sp l f h.0 h.3) (bring-outcome nowhere m sp l f h.0 h.3) (leaves g is)) h.4))

  -- ---- a swapoff

  pub spare-fetched : (m : Setting) (k : ℕ) (l : Ledger) (s : Slot) (notes : List Note) (h : IsEmptied m (sparing_area w k l) l s notes)
      → NotesSpare l h.fetched
  spare-fetched m k l s notes h = by (frame_at l s) h.fetches
    where
      by : (o : Option ℕ) → MatchOption o
          (TakesFor m (sparing_area w k l) l h.fetched (Loaded s) × (frame_at (after_notes l h.fetched) s ≡ Some h.frame))
          (λ cached. (h.fetched ≡ []) × (h.frame ≡ cached)) → NotesSpare l h.fetched
      by (Some g) q = spare-is l h.fetched [] q.0 tt
      by None q = spare-takes m (sparing_area w k l) l h.fetched (Loaded s) (leaves-area k l) (λ f. tt) q.0

  pub spare-emptied : (m : Setting) (k : ℕ) (l : Ledger) (s : Slot) (notes : List Note) → IsEmptied m (sparing_area w k l) l s notes
      → NotesSpare l notes
  spare-emptied m k l s notes h = spare-is l notes (h.fetched ++ map_notes (after_notes l h.fetched) s h.frame) h.whole
      (spare-append l h.fetched (map_notes (after_notes l h.fetched) s h.frame) (spare-fetched m k l s notes h)
      (spare-quiet (after_notes l h.fetched) (map_notes (after_notes l h.fetched) s h.frame)
      (quiet-maps (keys_of_slot (after_notes l h.fetched) s) s h.frame)))

  pub spare-empties : (m : Setting) (k : ℕ) (l : Ledger) (ps : List ℕ) (notes : List Note) (end : Close) → Empties m w k l ps notes end
      → NotesSpare l notes
  spare-empties m k l [] notes end h = by (slots_in_use m l k) h
    where
      by : (ps : List ℕ) → EndsAt m (sparing_area w k l) k l ps notes end → NotesSpare l notes
      by [] h = spare-is l notes [] h.0 tt
      by (page ∷ ps) h = spare-seeks m (sparing_area w k l) l notes (leaves-area k l) h.1
  spare-empties m k l (page ∷ ps) notes end h = spare-is l notes (h.1 ++ h.2) h.4 (spare-append l h.1 h.2
      (spare-emptied m k l (record { area = k; page = page }) h.1 h.5) (spare-empties m k (after_notes l h.1) ps h.2 end h.6))

  -- ---- events

  all-spare : (l : Ledger) (a b : List Event) → AllSpare w l a → AllSpare w (after_all l a) b → AllSpare w l (a ++ b)
  all-spare l [] b x y = y
  all-spare l (e ∷ a) b x y = (x.0, all-spare (after l e) a b x.1 y)

  all-is : (l : Ledger) (a b : List Event) → a ≡ b → AllSpare w l b → AllSpare w l a
  all-is l a b e h = subst (AllSpare w l) (sym e) h

  spare-noted : (l : Ledger) (notes : List Note) → NotesSpare l notes → AllSpare w l (note_events notes)
  spare-noted l [] h = tt
  spare-noted l (note ∷ notes) h = (h.0, spare-noted (after_note note l) notes h.1)

  spare-zap : (l : Ledger) (k : Key) → AllSpare w l (zap_of l k)
  spare-zap l k = (tt, by (after l (Zapped k)) (slot_behind_key l (entry l k)))
    where
      by : (now : Ledger) (o : Option Slot) → AllSpare w (after l (Zapped k)) (orphan_drop now o)
      by now None = tt
      by now (Some s) = spare-noted (after l (Zapped k)) (when (is_orphan now s) (Dropped s))
          (spare-quiet (after l (Zapped k)) (when (is_orphan now s) (Dropped s)) (quiet-when (is_orphan now s) (Dropped s) tt))

  spare-zaps : (l : Ledger) (ks : List Key) → AllSpare w l (zaps_of l ks)
  spare-zaps l [] = tt
  spare-zaps l (k ∷ ks) = all-spare l (zap_of l k) (zaps_of (after_all l (zap_of l k)) ks) (spare-zap l k) (spare-zaps (after_all l (zap_of l k)) ks)

  spare-place : (l : Ledger) (p n : ℕ) (place : Place) → AllSpare w l (zaps_for_place l p n place)
  spare-place l p n Auto = tt
  spare-place l p n (At a) = tt
  spare-place l p n (Fixed a) = spare-zaps l (keys_in l p (page_of a) n)
  spare-place l p n (NoReplace a) = tt

  spare-remap : (l : Ledger) (p from n k : ℕ) (to : Option ℕ) → AllSpare w l (events_to l p from n to k)
  spare-remap l p from n k None = tt
  spare-remap l p from n k (Some to) = by (to == from)
    where
      target : List Event
      target = range_zaps l p to k

      tail : List Event
      tail = range_zaps (after_all l (range_zaps l p to k)) p (from + k) (n - k)

      by : (b : Bool) → AllSpare w l (cond b (range_zaps l p (from + k) (n - k))
          ((range_zaps l p to k ++ range_zaps (after_all l (range_zaps l p to k)) p (from + k) (n - k)) ++ EntriesMoved p (min n k) from to ∷ []))
      by true = spare-zaps l (keys_in l p (from + k) (n - k))
      by false = all-spare l (target ++ tail) (EntriesMoved p (min n k) from to ∷ [])
          (all-spare l target tail (spare-zaps l (keys_in l p to k)) (spare-zaps (after_all l target) (keys_in (after_all l target) p (from + k) (n - k))))
          (tt, tt)

  pub spare-accesses : (m : Setting) (l : Ledger) (p : ℕ) (ps : List (Bool × ℕ)) (es : List Event) (end : End) → Accesses m w l p ps es end
      → AllSpare w l es
  spare-accesses m l p [] es end h = all-is l es [] h.0 tt
  spare-accesses m l p (page ∷ ps) es end (inl h) =
      let here = page_events page.0 (p, page.1) h.0 None in
      all-is l es (here ++ h.1) h.3 (all-spare l here h.1
      (all-spare l (note_events h.0) (Used page.0 (p, page.1) ∷ [])
      (spare-noted l h.0 (spare-touches m l page.0 (p, page.1) h.0 None h.2)) (tt, tt))
      (spare-accesses m (after_all l here) p ps h.1 end h.4))
  spare-accesses m l p (page ∷ ps) es end (inr h) = all-is l es (note_events h.0) h.3
      (spare-noted l h.0 (spare-touches m l page.0 (p, page.1) h.0 (Some h.1) h.2))

  spare-on : (l : Ledger) (k : ℕ) (priority : Option ℕ) (answer : Answer) → AllSpare w l (turn_on_events k priority answer)
  spare-on l k priority answer = by (turn-on-events k priority answer)
    where
      by : (turn_on_events k priority answer ≡ []) ⊎ ((area : SwapArea) × (turn_on_events k priority answer ≡ TurnedOn k area ∷ []))
          → AllSpare w l (turn_on_events k priority answer)
      by (inl e) = all-is l (turn_on_events k priority answer) [] e tt
      by (inr (area, e)) = all-is l (turn_on_events k priority answer) (TurnedOn k area ∷ []) e (tt, tt)

  spare-off : (l : Ledger) (k : ℕ) (end : Close) → AllSpare w l (turn_off_events k end)
  spare-off l k Closed = (tt, tt)
  spare-off l k (NoRoom out) = tt
  spare-off l k Unread = tt

-- ---- commands

spare-follows : (m : Setting) (w : World) (l : Ledger) (command : Command) (es : List Event) (answer : Answer) (rows : List Row)
    → moves_frames command ≡ false → Follows m w l command es answer rows → AllSpare (memories_in w command) l es
spare-follows m w l (Spawn p) es answer rows still h = all-is w l es [] h.1 tt
spare-follows m w l (Fork p q) es answer rows still h = subst (AllSpare w l) (sym h.1) (tt, tt)
spare-follows m w l (Exit p) es answer rows still h = subst (AllSpare w l) (sym h.1) (spare-zaps w l (keys_of_process l p))
spare-follows m w l (Mmap p len prot place) es answer rows still h = subst (AllSpare w l) (sym h.3) (spare-place w l p (pages_of len) place)
spare-follows m w l (Munmap p a len) es answer rows still h =
    subst (AllSpare w l) (sym h.1) (spare-zaps w l (keys_in l p (page_of a) (pages_of len)))
spare-follows m w l (Mprotect p a len prot) es answer rows still h = all-is w l es [] h.1 tt
spare-follows m w l (Mremap p a old new mode) es answer rows still h =
    subst (AllSpare w l) (sym h.3) (spare-remap w l p (page_of a) (pages_of old) (pages_of new) h.0)
spare-follows m w l (Madvise p a len advice) es answer rows still h = subst (AllSpare w l) (sym h.1) (by (flag_of_advice advice))
  where
    by : (change : Option (Flag × Bool))
        → AllSpare w l (advice_events l p (page_of a) (pages_advised (pages w p) (page_of a) (pages_of len) change) change)
    by None = spare-zaps w l (keys_in l p (page_of a) (pages_advised (pages w p) (page_of a) (pages_of len) None))
    by (Some change) = (tt, tt)
spare-follows m w l (Mlock p a len) es answer rows still h = subst (AllSpare (with_lock true w p (page_of a) (pages_met a len)) l) (sym h.1)
    (tt, by (pages_to_hole (pages w p) (page_of a) (pages_met a len) == pages_met a len) h.3)
  where
    by : (b : Bool) → MatchBool b (BringsIn m w l p (page_of a) (pages_met a len) h.0 answer) ((h.0 ≡ []) × (answer ≡ Refused Enomem))
        → AllSpare (with_lock true w p (page_of a) (pages_met a len)) l h.0
    by true q = spare-accesses (with_lock true w p (page_of a) (pages_met a len)) m l p (accesses_of (pages w p) (page_of a) (pages_met a len)) h.0 q.0
        q.1
    by false q = subst (AllSpare (with_lock true w p (page_of a) (pages_met a len)) l) (sym q.0) tt
spare-follows m w l (Munlock p a len) es answer rows still h = subst (AllSpare w l) (sym h.1) (tt, tt)
spare-follows m w l (Read p a n) es answer rows still h = spare-accesses w m l p (pages_of_access false a n) es h.0 h.2
spare-follows m w l (Write p a bytes) es answer rows still h = spare-accesses w m l p _ es h.0 h.1
spare-follows m w l (Reclaim n) es answer rows still h = subst (AllSpare w l) (sym h.3)
    (spare-noted w l h.0 (spare-outcomes w m (sparing w l None) l (from_tail n l.inactive) h.0 (λ g un. un) h.1))
spare-follows m w l (Age n) es answer rows still h = subst (AllSpare w l) (sym h.1)
    (spare-noted w l (map Aged (from_tail n l.active)) (spare-quiet w l (map Aged (from_tail n l.active)) (quiet-ages (from_tail n l.active))))
spare-follows m w l (Complete n) es answer rows still h = subst (AllSpare w l) (sym h.3)
    (spare-noted w l h.0 (spare-quiet w l h.0 (quiet-completes l _ h.0 h.1)))
spare-follows m w l (Swapon k priority) es answer rows still h = subst (AllSpare w l) (sym h.1) (spare-on w l k priority answer)
spare-follows m w l (Swapoff k) es answer rows still h = subst (AllSpare w l) (sym h.whole)
    (all-spare w l (note_events (h.done ++ h.notes)) (turn_off_events k h.end)
    (spare-noted w l (h.done ++ h.notes) (spare-append w l h.done h.notes (spare-quiet w l h.done (quiet-completes l l.flight h.done h.completes))
    (spare-empties w m k (after_notes l h.done) h.pages h.notes h.end h.empties)))
    (spare-off w (after_all l (note_events (h.done ++ h.notes))) k h.end))
spare-follows m w l Merge es answer rows still h = subst (AllSpare w l) (sym h.2)
    (spare-noted w l _ (spare-quiet w l _ (quiet-merges m h.0 w l [] (map (λ e. e.0) l.entries))))
spare-follows m w l Compact es answer rows still h = cc
spare-follows m w l (Maps p) es answer rows still h = all-is w l es [] h.2 tt
spare-follows m w l (AsksAreas p) es answer rows still h = all-is w l es [] h.2 tt
spare-follows m w l (AsksRmap p a) es answer rows still h = all-is w l es [] h.1 tt
spare-follows m w l (AsksEntry p a) es answer rows still h = all-is w l es [] h.1 tt
spare-follows m w l (AsksSlot k page) es answer rows still h = all-is w l es [] h.1 tt
spare-follows m w l Stat es answer rows still h = all-is w l es [] h.1 tt

-- a compaction unmaps nothing
spare-moves : (m : Setting) (w : World) (l now : Ledger) (notes : List Note) → MovesDown m l notes
    → AllSpareLocked w now (note_events notes ++ FreeSorted ∷ [])
spare-moves m w l now [] h = (tt, tt)
spare-moves m w l now (note ∷ notes) h =
    (by (move-is m l note h.0), spare-moves m w (after_note note l) (after_note note now) notes h.1)
  where
    by : IsMove m l note → SparesLocked w now (Noted note)
    by v = subst (λ n. SparesLocked w now (Noted n)) (sym v.is) tt

compact-spares : (m : Setting) (w : World) (l : Ledger) (command : Command) (es : List Event) (answer : Answer) (rows : List Row)
    → moves_frames command ≡ true → Follows m w l command es answer rows → AllSpareLocked (memories_in w command) l es
compact-spares m w l Compact es answer rows is h = subst (AllSpareLocked w l) (sym h.2) (spare-moves m w l l h.0 h.1)
compact-spares m w l command es answer rows is h = cc

pub legal-spares : (m : Setting) (w : World) (l : Ledger) (command : Command) (reply : Reply) (es : List Event) → IsLegal m w l command reply es
    → AllSpareLocked (memories_in w command) l es
legal-spares m w l command reply es h = by (refusal (tests m w l command)) h.answer
  where
    follows : (b : Bool) → moves_frames command ≡ b → Follows m w l command es reply.answer reply.rows
        → AllSpareLocked (memories_in w command) l es
    follows true is x = compact-spares m w l command es reply.answer reply.rows is x
    follows false is x = spare-less (memories_in w command) l es (spare-follows m w l command es reply.answer reply.rows is x)

    by : (o : Option Errno) → MatchOption o (Follows m w l command es reply.answer reply.rows) (λ error. Refuses error es reply.answer reply.rows)
        → AllSpareLocked (memories_in w command) l es
    by None x = follows (moves_frames command) refl x
    by (Some error) x = subst (AllSpareLocked (memories_in w command) l) (sym x.1) tt
