-- The entry of a locked page goes on naming its frame, unless the page is copied, or its process's pages are taken away.
use Rattle.std.proofs.Common.{◌≡◌, ◌⊎◌, inl, inr, ℕ, suc, zero, ◌-◌, ◌+◌, ◌<◌, Bool, true, false, cond, not, ◌&&◌, ◌||◌, ◌==◌, T, List, [], ◌∷◌, ◌++◌, map, take, min, Option, Some, None, is_none, IsSomeAnd, option_map, refl, sym, ap, subst, ◌∙◌, arith}
use Rattle.std.proofs.lemmas.Bool.{false≢true}
use Rattle.std.proofs.lemmas.Bool.Decides.{nat_tests}
use Rattle.std.specs.FinMap.Entries.{find, is_sorted}
use Rattle.std.specs.List.{list_any}
use Rattle.std.specs.Option.{option_or}
use Rattle.std.specs.Prelude.{MatchBool, MatchOption, filter}
use Rattle.av_base.specs.Keys.{Key, key_cmp, same_key}
use Rattle.av_base.proofs.Keys.{same_key-is}
use Rattle.av_base.specs.Page.{address_of, page_of, pages_met, pages_of}
use Rattle.av_base.specs.Words.{within}
use Rattle.av_base.specs.declared.flags.Flag.{Flag}
use Rattle.av_base.specs.declared.slot.Slot.{Slot}
use Rattle.av_trace.specs.declared.command.Command.{Command}
use Rattle.av_trace.specs.declared.command.Command.TheVariants.{Compact, Merge, Spawn, Fork, Exit, Mmap, Mremap, Munmap, Mprotect, Madvise, Mlock, Munlock, Read, Write, Reclaim, Age, Complete, Swapon, Swapoff, Maps, Areas as AsksAreas, Rmap as AsksRmap, Entry as AsksEntry, Slot as AsksSlot, Stat}
use Rattle.av_trace.specs.declared.note.Cause.TheVariants.{Ksm, Locked, NoSlot, Referenced, WriteStarted, Writeback}
use Rattle.av_trace.specs.declared.note.Note.{Note}
use Rattle.av_trace.specs.declared.note.Note.TheVariants.{Aged, Copied, Dropped, Failed, Kept, Loaded, Mapped, New, Put, Started, Unmapped, Written, Zeroed, Joined, Moved, Shared}
use Rattle.av_trace.specs.declared.place.Place.{Place}
use Rattle.av_trace.specs.declared.place.Place.TheVariants.{Auto, At, Fixed, NoReplace}
use Rattle.av_trace.specs.declared.reply.Answer.{Answer}
use Rattle.av_trace.specs.declared.reply.Answer.TheVariants.{Refused}
use Rattle.av_trace.specs.declared.reply.Errno.{Errno}
use Rattle.av_trace.specs.declared.reply.Errno.TheVariants.{Enomem}
use Rattle.av_trace.specs.declared.reply.Reply.{Reply}
use Rattle.av_trace.specs.declared.row.Row.{Row}
use Rattle.av_plain.specs.Access.{Accesses, End, page_events, pages_of_access}
use Rattle.av_plain.specs.Advice.{advice_events, flag_of_advice, pages_advised}
use Rattle.av_plain.specs.Event.{Event, Forked, Noted, TurnedOn, Used, after_all, after_note, after_notes, after_use, after_use_of, change_entries, change_frame, if_some, key_at, note_events, notes_of, off_cache, set_entry, with_stale, without_seen}
use Rattle.av_plain.specs.Fault.{ComesIn, CopyOnWrite, Denied, IsMade, Lost, Ready, Serves, Starved, Stop, Touches, drop_at, drop_of_entry, drop_of_slot, is_locked, asks_copy, need, pinned_by, sparing, was_slot}
use Rattle.av_plain.specs.Fork.{inheritance}
use Rattle.av_plain.specs.Ledger.{Entry, InFrame, InSlot, Ledger, Setting, SwapArea, Zero, entry, frame_at, is_merged, keys_of_slot, names_frame, names_slot, slot_of, slots_in_use}
use Rattle.av_plain.specs.Lock.{BringsIn, accesses_of, with_lock}
use Rattle.av_plain.specs.Map.{zaps_for_place}
use Rattle.av_plain.specs.Merge.{FrameBytes, candidate, candidate_by, join_notes, may_merge, merge_notes, merged_like, merges, other_like, with_candidate}
use Rattle.av_plain.specs.Mremap.{events_to, remap_events}
use Rattle.av_plain.specs.Pass.{TakesFor}
use Rattle.av_plain.specs.Reclaim.{from_tail}
use Rattle.av_plain.specs.Refusal.{Refuses, refusal, tests}
use Rattle.av_plain.specs.Sound.{AllSound, count}
use Rattle.av_plain.specs.Step.{Follows, IsLegal}
use Rattle.av_plain.specs.Swapoff.{Close, Closed, Empties, EndsAt, IsEmptied, NoRoom, Unread, map_notes, sparing_area, turn_off_events}
use Rattle.av_plain.specs.Swapon.{turn_on_events}
use Rattle.av_plain.specs.World.{Process, World, is_locked_page, pages, pages_to_hole, pages_to_locked}
use Rattle.av_plain.specs.Zap.{keys_in, keys_of_process, zaps_of}
use Rattle.av_plain.proofs.Access.{after_all-append, after_notes-append, note_events-all, notes_of-append, notes_of-note_events}
use Rattle.av_plain.proofs.Event.{changed-by, entry-unmap, entry-unseen, to_slot, to_unseen}
use Rattle.av_plain.proofs.Fork.{entry-forked, handed}
use Rattle.av_plain.proofs.Ledger.{entry-set}
use Rattle.av_plain.proofs.Ledger.NoSwap.{key_at-address}
use Rattle.av_plain.proofs.Ledger.Walk.{keys-filter, passes}
use Rattle.av_plain.proofs.Mremap.{after-elsewhere, after-in_place, entry-moved, entry-then_tail, in_order-zaps, then_tail, then_target}
use Rattle.av_plain.proofs.Sound.Pages.{AllBring, Brings, bring-append, bring-completes, bring-is, bring-seeks, bring-takes, bring-when, touches-bring-at, written-entries}
use Rattle.av_plain.proofs.Sound.Steps.{settle-entries}
use Rattle.av_plain.proofs.Sound.Swap.{bring-ages, bring-outcomes}
use Rattle.av_plain.proofs.Sound.Swap.Area.{turn-on-events}
use Rattle.av_plain.proofs.Sound.Swap.Empty.{Empty, done-empty, emptied-hold, fetched-hold, first-used}
use Rattle.av_plain.proofs.Refusal.{may-fork}
use Rattle.av_plain.proofs.Sound.{no_entries}
use Rattle.av_plain.proofs.Zap.{entry-others, entry-range, in_range}
use Rattle.av_laws.specs.Locked.{is_copy_of, memories_in, moves_frames, takes_pages_of}
use Rattle.av_laws.proofs.Spared.{AreQuiet, NotesSpare, Spares, quiet-ages, quiet-completes, spare-emptied, spare-empties, spare-fetched, spare-outcomes, spare-quiet, spare-touches}

or_true : (a b : Bool) → b ≡ true → (a || b) ≡ true
or_true true b h = refl
or_true false b h = h

or_second : (a b : Bool) → (a || b) ≡ false → b ≡ false
or_second true b h = cc
or_second false b h = h

-- what holds of no item of two lists holds of none of either
none-parts : {X : Type 0} (test : X → Bool) (xs ys : List X) → list_any test (xs ++ ys) ≡ false
    → (list_any test xs ≡ false) × (list_any test ys ≡ false)
none-parts test [] ys h = (refl, h)
none-parts test (x ∷ xs) ys h = by (test x) (none-parts test xs ys) h
  where
    by : (b : Bool) → (list_any test (xs ++ ys) ≡ false → (list_any test xs ≡ false) × (list_any test ys ≡ false)) → (b || list_any test (xs ++ ys)) ≡ false → ((b || list_any test xs) ≡ false) × (list_any test ys ≡ false)
    by true rest h = cc
    by false rest h = rest h

-- before the first page that is locked none is
none_locked : (q : Process) (from n page : ℕ) → within from (pages_to_locked q from n) page ≡ true → is_locked_page (q page) ≡ false
none_locked q from zero page h = absurd (false≢true (grind (arith, nat_tests, h)))
none_locked q from (suc n) page h = by (is_locked_page (q from)) refl (λ i. none_locked q (from + 1) n page i) h
  where
    by : (b : Bool) → is_locked_page (q from) ≡ b
        → (within (from + 1) (pages_to_locked q (from + 1) n) page ≡ true → is_locked_page (q page) ≡ false) → within from (cond b 0 (pages_to_locked q (from + 1) n + 1)) page ≡ true
        → is_locked_page (q page) ≡ false
    by true is rest h = absurd (false≢true (grind (arith, nat_tests, h)))
    by false is rest h = at (page == from) refl
      where
        at : (c : Bool) → (page == from) ≡ c → is_locked_page (q page) ≡ false
        at true e = let same : page ≡ from = grind (arith, nat_tests, e) in ap (λ x. is_locked_page (q x)) same ∙ is
        at false e = rest (grind (arith, nat_tests, e, h))

-- ---- one key and its frame

module _ (k : Key) (f : ℕ) where
  abbrev IsHere : Ledger → Type 0
  IsHere l = IsSomeAnd (entry l k) (λ e. names_frame f e ≡ true)

  -- all keys but this one
  abbrev misses : Key → Bool
  misses q = not (same_key k q)

  same-here : (l l' : Ledger) → entry l' k ≡ entry l k → IsHere l → IsHere l'
  same-here l l' same h = subst (λ o. IsSomeAnd o (λ e. names_frame f e ≡ true)) (sym same) h

  -- the entry there is one of the frame
  found : (l : Ledger) → IsHere l → (seen : Bool) × (entry l k ≡ Some (InFrame f seen))
  found l h = by (entry l k) h
    where
      by : (o : Option Entry) → IsSomeAnd o (λ e. names_frame f e ≡ true) → (seen : Bool) × (o ≡ Some (InFrame f seen))
      by None h = absurd h
      by (Some Zero) h = absurd (false≢true h)
      by (Some (InSlot s)) h = absurd (false≢true h)
      by (Some (InFrame g seen)) h = let same : g ≡ f = grind (arith, nat_tests, h) in (seen, ap (λ g. Some (InFrame g seen)) same)

  set-stays : (l : Ledger) (q : Key) (e : Entry) → misses q ≡ true → IsHere l → IsHere (set_entry q e l)
  set-stays l q e other h = same-here l (set_entry q e l) (entry-set q e l k ∙ by (same_key k q) other) h
    where
      by : (b : Bool) → not b ≡ true → cond b (Some e) (entry l k) ≡ entry l k
      by true h = cc
      by false h = refl

  change-stays : (l : Ledger) (q : Key) (g : ℕ) → misses q ≡ true → IsHere l → IsHere (change_frame q g l)
  change-stays l q g other h = same-here (set_entry q (InFrame g false) l) (change_frame q g l) (changed-by (λ l. entry l k) (λ j l. refl) q g l)
      (set-stays l q (InFrame g false) other h)

  unseen-stays : (l : Ledger) (g : ℕ) → IsHere l → IsHere (change_entries g without_seen l)
  unseen-stays l g h = subst (λ o. IsSomeAnd o (λ e. names_frame f e ≡ true)) (sym (entry-unseen g l k)) (by (entry l k) h)
    where
      one : (b seen : Bool) (i : ℕ) → (f == i) ≡ true → names_frame f (cond b (InFrame i false) (InFrame i seen)) ≡ true
      one true seen i h = h
      one false seen i h = h

      by : (o : Option Entry) → IsSomeAnd o (λ e. names_frame f e ≡ true) → IsSomeAnd (option_map (to_unseen g) o) (λ e. names_frame f e ≡ true)
      by None h = h
      by (Some Zero) h = h
      by (Some (InSlot s)) h = h
      by (Some (InFrame i seen)) h = one (g == i) seen i h

  used-stays : (l : Ledger) (write : Bool) (q : Key) → IsHere l → IsHere (after_use write q l)
  used-stays l write q h = by write (entry l q) refl
    where
      set_here : (i : ℕ) (seen : Bool) → entry l q ≡ Some (InFrame i seen) → IsHere (set_entry q (InFrame i true) l)
      set_here i seen is = subst (λ o. IsSomeAnd o (λ e. names_frame f e ≡ true)) (sym (entry-set q (InFrame i true) l k)) (at (same_key k q) refl)
        where
          at : (b : Bool) → same_key k q ≡ b → IsSomeAnd (cond b (Some (InFrame i true)) (entry l k)) (λ e. names_frame f e ≡ true)
          at true e = subst (λ o. IsSomeAnd o (λ e. names_frame f e ≡ true)) (ap (entry l) (same_key-is k q e) ∙ is) h
          at false e = h

      stale : (o : Option Slot) (l' : Ledger) → IsHere l' → IsHere (if_some o (with_stale true) l')
      stale None l' h = h
      stale (Some s) l' h = h

      by : (write : Bool) (o : Option Entry) → entry l q ≡ o → IsHere (after_use_of write q l o)
      by write None is = h
      by write (Some Zero) is = h
      by write (Some (InSlot s)) is = h
      by false (Some (InFrame i seen)) is = set_here i seen is
      by true (Some (InFrame i seen)) is = stale (slot_of l i) _ (set_here i seen is)

  module _ (w : World) (locked : is_locked_page (pages w k.0 k.1) ≡ true) where
    abbrev has_lock : Key → Bool
    has_lock q = is_locked_page (pages w q.0 q.1)

    -- a locked page's frame is locked
    locked-named : (l : Ledger) → IsHere l → is_locked w l f ≡ true
    locked-named l here = go l.entries here
      where
        go : (es : List (Key × Entry)) → IsSomeAnd (find key_cmp k es) (λ e. names_frame f e ≡ true)
            → list_any has_lock (map (λ e. e.0) (filter (λ e. names_frame f e.1) es)) ≡ true
        go [] h = absurd h
        go (e ∷ es) h = at (same_key k e.0) refl h (go es)
          where
            rest : List (Key × Entry)
            rest = filter (λ e. names_frame f e.1) es

            with_first : (b : Bool) → b ≡ true → has_lock e.0 ≡ true → list_any has_lock (map (λ e. e.0) (cond b (e ∷ rest) rest)) ≡ true
            with_first true i first = ap (λ b. b || list_any has_lock (map (λ e. e.0) rest)) first
            with_first false i first = cc

            with_rest : (b : Bool) → list_any has_lock (map (λ e. e.0) rest) ≡ true
                → list_any has_lock (map (λ e. e.0) (cond b (e ∷ rest) rest)) ≡ true
            with_rest true r = or_true (has_lock e.0) (list_any has_lock (map (λ e. e.0) rest)) r
            with_rest false r = r

            at : (b : Bool) → same_key k e.0 ≡ b → IsSomeAnd (cond b (Some e.1) (find key_cmp k es)) (λ e. names_frame f e ≡ true)
                → (IsSomeAnd (find key_cmp k es) (λ e. names_frame f e ≡ true) → list_any has_lock (map (λ e. e.0) rest) ≡ true)
                → list_any has_lock (map (λ e. e.0) (cond (names_frame f e.1) (e ∷ rest) rest)) ≡ true
            at true is h later = with_first (names_frame f e.1) h (ap has_lock (sym (same_key-is k e.0 is)) ∙ locked)
            at false is h later = with_rest (names_frame f e.1) (later h)

    unmap-stays : (l : Ledger) (g : ℕ) → is_locked w l g ≡ false → IsHere l → IsHere (after_note (Unmapped g) l)
    unmap-stays l g free h = by (slot_of l g)
      where
        other : (g == f) ≡ true → ⊥
        other e = let same : g ≡ f = grind (arith, nat_tests, e) in
            false≢true (sym free ∙ ap (is_locked w l) same ∙ locked-named l h)

        one : (s : Slot) (b seen : Bool) (i : ℕ) → (g == i) ≡ b → (f == i) ≡ true → names_frame f (cond b (InSlot s) (InFrame i seen)) ≡ true
        one s true seen i e here = absurd (other (grind (arith, nat_tests, e, here)))
        one s false seen i e here = here

        at : (s : Slot) (o : Option Entry) → IsSomeAnd o (λ e. names_frame f e ≡ true)
            → IsSomeAnd (option_map (to_slot g s) o) (λ e. names_frame f e ≡ true)
        at s None h = h
        at s (Some Zero) h = h
        at s (Some (InSlot t)) h = h
        at s (Some (InFrame i seen)) h = one s (g == i) seen i refl h

        by : (o : Option Slot) → IsHere (if_some o (λ s. change_entries g (λ _. InSlot s)) l)
        by None = h
        by (Some s) = subst (λ o. IsSomeAnd o (λ e. names_frame f e ≡ true)) (sym (entry-unmap g s l k)) (at s (entry l k) h)

    note-stays : (l : Ledger) (note : Note) → Brings misses note → Spares w l (Noted note) → IsHere l → IsHere (after_note note l)
    note-stays l (Zeroed p a) b s h = set-stays l (key_at p a) Zero b h
    note-stays l (New p a g) b s h = set-stays l (key_at p a) (InFrame g false) b h
    note-stays l (Copied p a g) b s h = change-stays l (key_at p a) g b h
    note-stays l (Mapped p a g) b s h = set-stays l (key_at p a) (InFrame g false) b h
    note-stays l (Loaded t g) b s h = h
    note-stays l (Put g t) b s h = h
    note-stays l (Unmapped g) b s h = unmap-stays l g s h
    note-stays l (Started t) b s h = h
    note-stays l (Written t) b s h = same-here l (after_note (Written t) l) (ap (find key_cmp k) (written-entries l t)) h
    note-stays l (Failed t) b s h = h
    note-stays l (Dropped t) b s h =
        same-here l (after_note (Dropped t) l) (ap (find key_cmp k) (settle-entries (frame_at l t) (off_cache t l))) h
    note-stays l (Kept g Writeback) b s h = h
    note-stays l (Kept g WriteStarted) b s h = h
    note-stays l (Kept g Referenced) b s h = unseen-stays l g h
    note-stays l (Kept g NoSlot) b s h = h
    note-stays l (Kept g Locked) b s h = h
    note-stays l (Kept g Ksm) b s h = h
    note-stays l (Aged g) b s h = unseen-stays l g h
    note-stays l (Shared g) b s h = h
    note-stays l (Joined p a g) b s h = change-stays l (key_at p a) g b h
    note-stays l (Moved from to) b s h = absurd s

    notes-stay : (l : Ledger) (notes : List Note) → AllBring misses notes → NotesSpare w l notes → IsHere l → IsHere (after_notes l notes)
    notes-stay l [] b s h = h
    notes-stay l (note ∷ notes) b s h = notes-stay (after_note note l) notes b.1 s.1 (note-stays l note b.0 s.0 h)

    noted-stay : (l : Ledger) (notes : List Note) → AllBring misses notes → NotesSpare w l notes → IsHere l → IsHere (after_all l (note_events notes))
    noted-stay l notes b s h = subst IsHere (sym (note_events-all l notes)) (notes-stay l notes b s h)

    -- ---- a page that is accessed

    -- such a page needs nothing, or a copy
    needs : (write : Bool) (l : Ledger) → IsHere l → (need write l (entry l k) ≡ Ready) ⊎ ((g : ℕ) × (need write l (entry l k) ≡ CopyOnWrite g))
    needs write l h = by write (found l h)
      where
        copies : (b : Bool) → (cond b (CopyOnWrite f) Ready ≡ Ready) ⊎ ((g : ℕ) × (cond b (CopyOnWrite f) Ready ≡ CopyOnWrite g))
        copies true = inr (f, refl)
        copies false = inl refl

        by : (write : Bool) → (seen : Bool) × (entry l k ≡ Some (InFrame f seen))
            → (need write l (entry l k) ≡ Ready) ⊎ ((g : ℕ) × (need write l (entry l k) ≡ CopyOnWrite g))
        by false (seen, is) = inl (ap (need false l) is)
        by true (seen, is) = subst (λ n. (n ≡ Ready) ⊎ ((g : ℕ) × (n ≡ CopyOnWrite g))) (sym (ap (need true l) is)) (copies (asks_copy l f))

    -- so none comes in
    comes-none : (m : Setting) (write : Bool) (l : Ledger) (coming : List Note) → IsHere l
        → ComesIn m (sparing w) l k (need write l (entry l k)) coming → coming ≡ []
    comes-none m write l coming h c = by (needs write l h)
      where
        by : (need write l (entry l k) ≡ Ready) ⊎ ((g : ℕ) × (need write l (entry l k) ≡ CopyOnWrite g)) → coming ≡ []
        by (inl e) = subst (λ n. ComesIn m (sparing w) l k n coming) e c
        by (inr (g, e)) = subst (λ n. ComesIn m (sparing w) l k n coming) e c

    -- a copy is among the notes that end with it
    copied-there : (sought : List Note) (g : ℕ) (rest : List Note)
        → list_any (is_copy_of k) ((sought ++ Copied k.0 (address_of k.1) g ∷ []) ++ rest) ≡ true
    copied-there [] g rest = ap (λ b. b || list_any (is_copy_of k) rest) (here k.0 k.1)
      where
        here : (p page : ℕ) → (p == p && page_of (address_of page) == page) ≡ true
        here p page = let same : page_of (address_of page) ≡ page = omega arith in
            both (p == p) (page_of (address_of page) == page) (grind (arith, nat_tests)) (grind (arith, nat_tests, same))
          where
            both : (a b : Bool) → a ≡ true → b ≡ true → (a && b) ≡ true
            both true b x y = y
            both false b x y = cc
    copied-there (note ∷ sought) g rest = or_true (is_copy_of k note)
        (list_any (is_copy_of k) ((sought ++ Copied k.0 (address_of k.1) g ∷ []) ++ rest)) (copied-there sought g rest)

    drop-brings : (test : Key → Bool) (m : Setting) (write came : Bool) (l : Ledger) → AllBring test (drop_at m write came l k)
    drop-brings test m write came l = by (entry l k)
      where
        slot_one : (o : Option Slot) → AllBring test (drop_of_slot m write came l o)
        slot_one None = tt
        slot_one (Some t) = bring-when test _ (Dropped t) tt

        by : (o : Option Entry) → AllBring test (drop_of_entry m write came l o)
        by None = tt
        by (Some Zero) = tt
        by (Some (InFrame g seen)) = slot_one (slot_of l g)
        by (Some (InSlot t)) = tt

    serves-brings : (m : Setting) (l : Ledger) (write : Bool) (notes : List Note) → Serves m (sparing w) l write k notes
        → list_any (is_copy_of k) notes ≡ false → IsHere l → AllBring misses notes
    serves-brings m l write notes s uncopied h = by (needs write l h)
      where
        none : s.coming ≡ []
        none = comes-none m write l s.coming h s.comes_in

        drop : List Note
        drop = drop_at m write (was_slot (need write l (entry l k))) (after_notes l (s.coming ++ s.making)) k

        made : IsMade m (sparing w) l k (need write l (entry l k)) s.making
        made = subst (λ c. IsMade m (sparing w) (after_notes l c) k (need write (after_notes l c) (entry (after_notes l c) k)) s.making) none s.made

        whole : notes ≡ s.making ++ drop
        whole = s.whole ∙ ap (λ c. (c ++ s.making) ++ drop) none

        by : (need write l (entry l k) ≡ Ready) ⊎ ((g : ℕ) × (need write l (entry l k) ≡ CopyOnWrite g)) → AllBring misses notes
        by (inl e) =
            let nothing : s.making ≡ [] = subst (λ n. IsMade m (sparing w) l k n s.making) e made in
            bring-is misses notes drop (whole ∙ ap (λ c. c ++ drop) nothing)
            (drop-brings misses m write (was_slot (need write l (entry l k))) (after_notes l (s.coming ++ s.making)))
        by (inr (g, e)) =
            let takes : TakesFor m (sparing w l (Some g)) l s.making (Copied k.0 (address_of k.1)) =
            subst (λ n. IsMade m (sparing w) l k n s.making) e made in
            absurd (false≢true (sym uncopied ∙ ap (list_any (is_copy_of k)) (whole ∙ ap (λ c. c ++ drop) takes.whole)
            ∙ copied-there takes.sought takes.frame drop))

    touches-brings : (m : Setting) (l : Ledger) (write : Bool) (notes : List Note) (stop : Option Stop) → Touches m w l write k notes stop
        → list_any (is_copy_of k) notes ≡ false → IsHere l → AllBring misses notes
    touches-brings m l write notes None t uncopied h = serves-brings m l write notes t.1 uncopied h
    touches-brings m l write notes (Some Denied) t uncopied h = bring-is misses notes [] t.1 tt
    touches-brings m l write notes (Some (Starved out)) t uncopied h =
        let s = t.1 in
        bring-is misses notes (s.coming ++ s.sought) s.whole (bring-append misses s.coming s.sought
        (bring-is misses s.coming [] (before s.coming s.before) tt)
        (bring-seeks misses m (sparing w (after_notes l s.coming)
        (pinned_by (need write (after_notes l s.coming) (entry (after_notes l s.coming) k)))) (after_notes l s.coming) s.sought s.finds.seeks))
      where
        before : (coming : List Note) → (coming ≡ []) ⊎ ComesIn m (sparing w) l k (need write l (entry l k)) coming → coming ≡ []
        before coming (inl e) = e
        before coming (inr c) = comes-none m write l coming h c
    touches-brings m l write notes (Some Lost) t uncopied h = bring-seeks misses m (sparing w l None) l notes t.1.seeks

    page-stays : (m : Setting) (l : Ledger) (write : Bool) (q : Key) (notes : List Note) (stop : Option Stop) → Touches m w l write q notes stop
        → list_any (is_copy_of k) notes ≡ false → IsHere l → IsHere (after_notes l notes)
    page-stays m l write q notes stop t uncopied h = notes-stay l notes (by (same_key k q) refl) (spare-touches w m l write q notes stop t) h
      where
        by : (b : Bool) → same_key k q ≡ b → AllBring misses notes
        by true is = touches-brings m l write notes stop (subst (λ q. Touches m w l write q notes stop) (sym (same_key-is k q is)) t) uncopied h
        by false is = touches-bring-at misses m w l write q notes stop (λ allowed. ap not is) t

    pub accesses-stay : (m : Setting) (l : Ledger) (p : ℕ) (ps : List (Bool × ℕ)) (es : List Event) (end : End) → Accesses m w l p ps es end
        → list_any (is_copy_of k) (notes_of es) ≡ false → IsHere l → IsHere (after_all l es)
    accesses-stay m l p [] es end a uncopied h = subst (λ es. IsHere (after_all l es)) (sym a.0) h
    accesses-stay m l p (page ∷ ps) es end (inl a) uncopied h =
        let here = page_events page.0 (p, page.1) a.0 None in
        let parts = none-parts (is_copy_of k) a.0 (notes_of a.1)
        (sym (ap (list_any (is_copy_of k)) (ap notes_of a.3 ∙ notes_of-append here a.1 ∙ ap (λ ns. ns ++ notes_of a.1)
        (notes_of-append (note_events a.0) (Used page.0 (p, page.1) ∷ []) ∙ append-none (notes_of (note_events a.0)) ∙ notes_of-note_events a.0)))
        ∙ uncopied) in
        subst (λ es. IsHere (after_all l es)) (sym a.3) (subst IsHere (sym (after_all-append l here a.1))
        (accesses-stay m (after_all l here) p ps a.1 end a.4 parts.1
        (subst IsHere (sym (after_all-append l (note_events a.0) (Used page.0 (p, page.1) ∷ [])
        ∙ ap (after_use page.0 (p, page.1)) (note_events-all l a.0)))
        (used-stays (after_notes l a.0) page.0 (p, page.1) (page-stays m l page.0 (p, page.1) a.0 None a.2 parts.0 h)))))
      where
        append-none : (ns : List Note) → ns ++ [] ≡ ns
        append-none [] = refl
        append-none (n ∷ ns) = ap (λ ns. n ∷ ns) (append-none ns)
    accesses-stay m l p (page ∷ ps) es end (inr a) uncopied h =
        subst (λ es. IsHere (after_all l es)) (sym a.3) (subst IsHere (sym (note_events-all l a.0))
        (page-stays m l page.0 (p, page.1) a.0 (Some a.1) a.2
        (sym (ap (list_any (is_copy_of k)) (ap notes_of a.3 ∙ notes_of-note_events a.0)) ∙ uncopied) h))

    -- ---- a merge

    -- such a page is no candidate
    no-candidate : (l : Ledger) → IsHere l → candidate w l k ≡ None
    no-candidate l h = by (found l h)
      where
        off : (a : Bool) → cond (a && not (is_locked w l f)) (Some f) None ≡ None
        off a = ap (λ b. cond (a && not b) (Some f) None) (locked-named l h) ∙ none a
          where
            none : (a : Bool) → cond (a && false) (Some f) None ≡ None
            none true = refl
            none false = refl

        by : (seen : Bool) × (entry l k ≡ Some (InFrame f seen)) → candidate w l k ≡ None
        by (seen, is) = ap (candidate_by w l k) is
            ∙ off (may_merge (pages w k.0 k.1) && not (is_merged l f) && is_none (slot_of l f))

    join-brings : (q : Key) (a b : Option ℕ) → misses q ≡ true → AllBring misses (join_notes q a b)
    join-brings q (Some g) b other = (ap misses (key_at-address q) ∙ other, tt)
    join-brings q None (Some j) other = (tt, (ap misses (key_at-address q) ∙ other, tt))
    join-brings q None None other = tt

    turn-brings : (m : Setting) (held : FrameBytes) (l : Ledger) (earlier : List ℕ) (q : Key) → IsHere l
        → AllBring misses (merge_notes m held l earlier q (candidate w l q))
    turn-brings m held l earlier q h = by (same_key k q) refl
      where
        each : (o : Option ℕ) → misses q ≡ true → AllBring misses (merge_notes m held l earlier q o)
        each None other = tt
        each (Some g) other = join-brings q (merged_like m held l g) (other_like held earlier g) other

        by : (b : Bool) → same_key k q ≡ b → AllBring misses (merge_notes m held l earlier q (candidate w l q))
        by true is = subst (λ o. AllBring misses (merge_notes m held l earlier q o))
            (sym (ap (candidate w l) (sym (same_key-is k q is)) ∙ no-candidate l h)) tt
        by false is = each (candidate w l q) (ap not is)

    pub merges-stay : (m : Setting) (held : FrameBytes) (l : Ledger) (earlier : List ℕ) (ks : List Key) → IsHere l
        → IsHere (after_notes l (merges m held w l earlier ks))
    merges-stay m held l earlier [] h = h
    merges-stay m held l earlier (q ∷ ks) h =
        let c = candidate w l q in
        let here = merge_notes m held l earlier q c in
        subst IsHere (sym (after_notes-append l here (merges m held w (after_notes l here) (with_candidate earlier c) ks)))
        (merges-stay m held (after_notes l here) (with_candidate earlier c) ks
        (notes-stay l here (turn-brings m held l earlier q h) (spare-quiet w l here (quiet c)) h))
      where
        joins : (a b : Option ℕ) → AreQuiet (join_notes q a b)
        joins (Some g) b = (tt, tt)
        joins None (Some j) = (tt, (tt, tt))
        joins None None = tt

        quiet : (o : Option ℕ) → AreQuiet (merge_notes m held l earlier q o)
        quiet None = tt
        quiet (Some g) = joins (merged_like m held l g) (other_like held earlier g)

    -- ---- a swapoff

    -- entries of a slot are others
    maps-bring : (l : Ledger) (t : Slot) (g : ℕ) → T (is_sorted key_cmp l.entries) → IsHere l → AllBring misses (map_notes l t g)
    maps-bring l t g sorted h = go (keys_of_slot l t) apart
      where
        apart : list_any (same_key k) (keys_of_slot l t) ≡ false
        apart = keys-filter (names_slot t) l.entries k sorted ∙ by (found l h)
          where
            by : (seen : Bool) × (entry l k ≡ Some (InFrame f seen)) → passes (names_slot t) (entry l k) ≡ false
            by (seen, is) = ap (passes (names_slot t)) is

        go : (ks : List Key) → list_any (same_key k) ks ≡ false
            → AllBring misses (map (λ (q : Key). Mapped q.0 (address_of q.1) g) ks ++ Dropped t ∷ [])
        go [] none = (tt, tt)
        go (q ∷ ks) none = (at (same_key k q) refl none, go ks (or_second (same_key k q) (list_any (same_key k) ks) none))
          where
            at : (b : Bool) → same_key k q ≡ b → (b || list_any (same_key k) ks) ≡ false → misses (key_at q.0 (address_of q.1)) ≡ true
            at true is none = cc
            at false is none = ap misses (key_at-address q) ∙ ap not is

    empties-stay : (m : Setting) (a : ℕ) (l : Ledger) (ps : List ℕ) (notes : List Note) (end : Close) → Empty m w l → Empties m w a l ps notes end
        → IsHere l → AllBring misses notes
    empties-stay m a l [] notes end e x h = by (slots_in_use m l a) x
      where
        by : (ps : List ℕ) → EndsAt m (sparing_area w a l) a l ps notes end → AllBring misses notes
        by [] x = bring-is misses notes [] x.0 tt
        by (page ∷ ps) x = bring-seeks misses m (sparing_area w a l) l notes x.1
    empties-stay m a l (page ∷ ps) notes end e x h = bring-is misses notes (x.1 ++ x.2) x.4 (bring-append misses x.1 x.2 here
        (empties-stay m a (after_notes l x.1) ps x.2 end (emptied-hold m w (sparing_area w a l) l t x.1 e used x.5) x.6
        (notes-stay l x.1 here (spare-emptied-here) h)))
      where
        t : Slot
        t = record { area = a; page = page }

        used : 0 < count l (record { area = a; page = page })
        used = first-used m l a page x.0 x.3

        em : IsEmptied m (sparing_area w a l) l (record { area = a; page = page }) x.1
        em = x.5

        fetched : AllBring misses em.fetched
        fetched = by (frame_at l t) em.fetches
          where
            by : (o : Option ℕ) → MatchOption o
                (TakesFor m (sparing_area w a l) l em.fetched (Loaded t) × (frame_at (after_notes l em.fetched) t ≡ Some em.frame))
                (λ cached. (em.fetched ≡ []) × (em.frame ≡ cached)) → AllBring misses em.fetched
            by (Some g) q = bring-is misses em.fetched [] q.0 tt
            by None q = bring-takes misses m (sparing_area w a l) l em.fetched (Loaded t) (λ g. tt) q.0

        spare-emptied-here : NotesSpare w l x.1
        spare-emptied-here = spare-emptied w m a l t x.1 x.5

        spared : NotesSpare w l em.fetched
        spared = spare-fetched w m a l t x.1 x.5

        now : Ledger
        now = after_notes l em.fetched

        here : AllBring misses x.1
        here = bring-is misses x.1 (em.fetched ++ map_notes (after_notes l em.fetched) t em.frame) em.whole
            (bring-append misses em.fetched (map_notes (after_notes l em.fetched) t em.frame) fetched
            (maps-bring (after_notes l em.fetched) t em.frame
            (fetched-hold m w (sparing_area w a l) l t em.frame em.fetched e used em.fetches).empty.holds.sound.in_order
            (notes-stay l em.fetched fetched spared h)))

  -- ---- pages that go

  range-stays : (l : Ledger) (p from n : ℕ) → in_range p from n k ≡ false → IsHere l → IsHere (after_all l (zaps_of l (keys_in l p from n)))
  range-stays l p from n out h = same-here l (after_all l (zaps_of l (keys_in l p from n)))
      (entry-range l p from n k.0 k.1 ∙ ap (λ b. cond b None (entry l k)) out) h

  out_of_range : (p from n : ℕ) → (k.0 == p) ≡ false → in_range p from n k ≡ false
  out_of_range p from n other = ap (λ b. b && within from n k.1) other

  place-stays : (l : Ledger) (p n : ℕ) (place : Place) → (k.0 == p) ≡ false → IsHere l → IsHere (after_all l (zaps_for_place l p n place))
  place-stays l p n Auto other h = h
  place-stays l p n (At a) other h = h
  place-stays l p n (Fixed a) other h = range-stays l p (page_of a) n (out_of_range p (page_of a) n other) h
  place-stays l p n (NoReplace a) other h = h

  remap-stays : (l : Ledger) (p from n m : ℕ) (to : Option ℕ) → T (is_sorted key_cmp l.entries) → (k.0 == p) ≡ false → IsHere l
      → IsHere (after_all l (events_to l p from n to m))
  remap-stays l p from n m None sorted other h = h
  remap-stays l p from n m (Some to) sorted other h = by (to == from) refl
    where
      tail : Ledger
      tail = then_tail l p from n to m

      there : entry (then_tail l p from n to m) k ≡ entry l k
      there = entry-then_tail l p from n to m k.0 k.1
          ∙ (λ i. cond (out_of_range p (from + m) (n - m) other i) None (cond (out_of_range p to m other i) None (entry l k)))

      in_order : T (is_sorted key_cmp (then_tail l p from n to m).entries)
      in_order = in_order-zaps (keys_in (then_target l p from n to m) p (from + m) (n - m)) (then_target l p from n to m)
          (in_order-zaps (keys_in l p to m) l sorted)

      by : (b : Bool) → (to == from) ≡ b → IsHere (after_all l (remap_events l p from n to m))
      by true is = subst IsHere (sym (after-in_place l p from n to m is))
          (range-stays l p (from + m) (n - m) (out_of_range p (from + m) (n - m) other) h)
      by false is = subst IsHere (sym (after-elsewhere l p from n to m is))
          (subst (λ o. IsSomeAnd o (λ e. names_frame f e ≡ true))
          (sym (entry-moved tail p (min n m) from to in_order k
          ∙ (λ i. option_or (cond (out_of_range p to (min n m) other i) (entry tail (p, k.1 - to + from)) None)
          (cond (not (out_of_range p from (min n m) other i)) (entry tail k) None)) ∙ there)) h)

-- ---- commands

module _ (m : Setting) (w : World) (l : Ledger) (s : AllSound m w l) (k : Key) (f : ℕ) where
  abbrev NamesIt : Ledger → Type 0
  NamesIt l = IsSomeAnd (entry l k) (λ e. names_frame f e ≡ true)

  turned : (p : ℕ) → (p == k.0) ≡ false → (k.0 == p) ≡ false
  turned p e = grind (arith, nat_tests, e)

  at-events : (es fs : List Event) → es ≡ fs → NamesIt (after_all l fs) → NamesIt (after_all l es)
  at-events es fs e h = subst (λ es. NamesIt (after_all l es)) (sym e) h

  follows-stays : (command : Command) (es : List Event) (answer : Answer) (rows : List Row) → refusal (tests m w l command) ≡ None
      → Follows m w l command es answer rows → is_locked_page (pages (memories_in w command) k.0 k.1) ≡ true → takes_pages_of k.0 command ≡ false
      → moves_frames command ≡ false → list_any (is_copy_of k) (notes_of es) ≡ false → NamesIt l → NamesIt (after_all l es)
  follows-stays (Spawn p) es answer rows fine x locked keeps still uncopied h = at-events es [] x.1 h
  follows-stays (Fork p q) es answer rows fine x locked keeps still uncopied h = at-events es (Forked p q goes ∷ []) x.1
      (subst (λ o. IsSomeAnd o (λ e. names_frame f e ≡ true)) (sym (entry-forked p q goes l k s.ledger.in_order)) (child (k.0 == q) refl))
    where
      goes : List ℕ
      goes = inheritance (pages w p) l p

      child : (b : Bool) → (k.0 == q) ≡ b
          → IsSomeAnd (option_or (cond b (option_map without_seen (handed goes p l k.1)) None) (entry l k)) (λ e. names_frame f e ≡ true)
      child false is = h
      child true is = absurd (none (entry l k) (ap (λ r. entry l (r, k.1)) (grind (arith, nat_tests, is))
          ∙ no_entries w l q s.at_pages (may-fork m w l p q fine).child k.1) h)
        where
          none : (o : Option Entry) → o ≡ None → IsSomeAnd o (λ e. names_frame f e ≡ true) → ⊥
          none None e h = h
          none (Some x) e h = cc
  follows-stays (Exit p) es answer rows fine x locked keeps still uncopied h = at-events es (zaps_of l (keys_of_process l p)) x.1
      (same-here k f l (after_all l (zaps_of l (keys_of_process l p))) (entry-others l p k.0 k.1 (turned p keeps)) h)
  follows-stays (Mmap p len prot place) es answer rows fine x locked keeps still uncopied h = at-events es (zaps_for_place l p (pages_of len) place) x.3
      (place-stays k f l p (pages_of len) place (turned p keeps) h)
  follows-stays (Munmap p a len) es answer rows fine x locked keeps still uncopied h =
      at-events es (zaps_of l (keys_in l p (page_of a) (pages_of len))) x.1
      (range-stays k f l p (page_of a) (pages_of len) (out_of_range k f p (page_of a) (pages_of len) (turned p keeps)) h)
  follows-stays (Mprotect p a len prot) es answer rows fine x locked keeps still uncopied h = at-events es [] x.1 h
  follows-stays (Mremap p a old new mode) es answer rows fine x locked keeps still uncopied h =
      at-events es (events_to l p (page_of a) (pages_of old) x.0 (pages_of new)) x.3
      (remap-stays k f l p (page_of a) (pages_of old) (pages_of new) x.0 s.ledger.in_order (turned p keeps) h)
  follows-stays (Madvise p a len advice) es answer rows fine x locked keeps still uncopied h =
      at-events es (these (flag_of_advice advice)) x.1 (by (flag_of_advice advice))
    where
      these : Option (Flag × Bool) → List Event
      these change = advice_events l p (page_of a) (pages_advised (pages w p) (page_of a) (pages_of len) change) change

      n : ℕ
      n = pages_to_locked (pages w p) (page_of a) (pages_of len)

      outside : (b c : Bool) → (k.0 == p) ≡ b → within (page_of a) n k.1 ≡ c → (b && c) ≡ false
      outside true true i j =
          let same : k.0 ≡ p = grind (arith, nat_tests, i) in
          absurd (false≢true (sym (none_locked (pages w p) (page_of a) (pages_of len) k.1 j)
          ∙ ap (λ r. is_locked_page (pages w r k.1)) (sym same) ∙ locked))
      outside true false i j = refl
      outside false c i j = refl

      by : (change : Option (Flag × Bool)) → NamesIt (after_all l (these change))
      by None = range-stays k f l p (page_of a) n (outside (k.0 == p) (within (page_of a) n k.1) refl refl) h
      by (Some change) = h
  follows-stays (Mlock p a len) es answer rows fine x locked keeps still uncopied h =
      subst (λ es. NamesIt (after_all l es)) (sym x.1) (by (pages_to_hole (pages w p) (page_of a) (pages_met a len) == pages_met a len) x.3)
    where
      by : (b : Bool) → MatchBool b (BringsIn m w l p (page_of a) (pages_met a len) x.0 answer) ((x.0 ≡ []) × (answer ≡ Refused Enomem))
          → NamesIt (after_all l x.0)
      by true q = accesses-stay k f (with_lock true w p (page_of a) (pages_met a len)) locked m l p
          (accesses_of (pages w p) (page_of a) (pages_met a len)) x.0 q.0 q.1 (sym (ap (λ es. list_any (is_copy_of k) (notes_of es)) x.1) ∙ uncopied) h
      by false q = subst (λ es. NamesIt (after_all l es)) (sym q.0) h
  follows-stays (Munlock p a len) es answer rows fine x locked keeps still uncopied h = at-events es (_ ∷ []) x.1 h
  follows-stays (Read p a n) es answer rows fine x locked keeps still uncopied h =
      accesses-stay k f w locked m l p (pages_of_access false a n) es x.0 x.2 uncopied h
  follows-stays (Write p a bytes) es answer rows fine x locked keeps still uncopied h = accesses-stay k f w locked m l p _ es x.0 x.1 uncopied h
  follows-stays (Reclaim n) es answer rows fine x locked keeps still uncopied h = at-events es (note_events x.0) x.3
      (noted-stay k f w locked l x.0 (bring-outcomes (misses k f) m (sparing w l None) l (from_tail n l.inactive) x.0 x.1)
      (spare-outcomes w m (sparing w l None) l (from_tail n l.inactive) x.0 (λ g un. un) x.1) h)
  follows-stays (Age n) es answer rows fine x locked keeps still uncopied h = at-events es (note_events (map Aged (from_tail n l.active))) x.1
      (noted-stay k f w locked l (map Aged (from_tail n l.active)) (bring-ages (misses k f) (from_tail n l.active))
      (spare-quiet w l (map Aged (from_tail n l.active)) (quiet-ages (from_tail n l.active))) h)
  follows-stays (Complete n) es answer rows fine x locked keeps still uncopied h = at-events es (note_events x.0) x.3
      (noted-stay k f w locked l x.0 (bring-completes (misses k f) l (take n l.flight) x.0 x.1)
      (spare-quiet w l x.0 (quiet-completes l (take n l.flight) x.0 x.1)) h)
  follows-stays (Swapon a priority) es answer rows fine x locked keeps still uncopied h = at-events es (turn_on_events a priority answer) x.1
      (by (turn-on-events a priority answer))
    where
      by : (turn_on_events a priority answer ≡ []) ⊎ ((area : SwapArea) × (turn_on_events a priority answer ≡ TurnedOn a area ∷ []))
          → NamesIt (after_all l (turn_on_events a priority answer))
      by (inl e) = at-events (turn_on_events a priority answer) [] e h
      by (inr (area, e)) = at-events (turn_on_events a priority answer) (TurnedOn a area ∷ []) e h
  follows-stays (Swapoff a) es answer rows fine x locked keeps still uncopied h =
      at-events es (note_events (x.done ++ x.notes) ++ turn_off_events a x.end) x.whole
      (subst NamesIt (sym (after_all-append l (note_events (x.done ++ x.notes)) (turn_off_events a x.end) ∙
      ap (λ l'. after_all l' (turn_off_events a x.end)) (note_events-all l (x.done ++ x.notes) ∙ after_notes-append l x.done x.notes)))
      (closed x.end (notes-stay k f w locked now x.notes (empties-stay k f w locked m a now x.pages x.notes x.end
      (done-empty m w l x.done s x.completes) x.empties done) (spare-empties w m a now x.pages x.notes x.end x.empties) done)))
    where
      now : Ledger
      now = after_notes l x.done

      done : NamesIt (after_notes l x.done)
      done = notes-stay k f w locked l x.done (bring-completes (misses k f) l l.flight x.done x.completes)
          (spare-quiet w l x.done (quiet-completes l l.flight x.done x.completes)) h

      closed : (end : Close) → NamesIt (after_notes (after_notes l x.done) x.notes)
          → NamesIt (after_all (after_notes (after_notes l x.done) x.notes) (turn_off_events a end))
      closed Closed h = h
      closed (NoRoom out) h = h
      closed Unread h = h
  follows-stays Merge es answer rows fine x locked keeps still uncopied h = at-events es (note_events (merges m x.0 w l [] (map (λ e. e.0) l.entries))) x.2
      (subst NamesIt (sym (note_events-all l (merges m x.0 w l [] (map (λ e. e.0) l.entries))))
      (merges-stay k f w locked m x.0 l [] (map (λ e. e.0) l.entries) h))
  follows-stays Compact es answer rows fine x locked keeps still uncopied h = cc
  follows-stays (Maps p) es answer rows fine x locked keeps still uncopied h = at-events es [] x.2 h
  follows-stays (AsksAreas p) es answer rows fine x locked keeps still uncopied h = at-events es [] x.2 h
  follows-stays (AsksRmap p a) es answer rows fine x locked keeps still uncopied h = at-events es [] x.1 h
  follows-stays (AsksEntry p a) es answer rows fine x locked keeps still uncopied h = at-events es [] x.1 h
  follows-stays (AsksSlot a page) es answer rows fine x locked keeps still uncopied h = at-events es [] x.1 h
  follows-stays Stat es answer rows fine x locked keeps still uncopied h = at-events es [] x.1 h

pub legal-stays : (m : Setting) (w : World) (l : Ledger) (command : Command) (reply : Reply) (es : List Event) (k : Key) (f : ℕ) → AllSound m w l
    → IsLegal m w l command reply es → is_locked_page (pages (memories_in w command) k.0 k.1) ≡ true
    → takes_pages_of k.0 command ≡ false → moves_frames command ≡ false → list_any (is_copy_of k) reply.notes ≡ false
    → IsSomeAnd (entry l k) (λ e. names_frame f e ≡ true) → IsSomeAnd (entry (after_all l es) k) (λ e. names_frame f e ≡ true)
legal-stays m w l command reply es k f s h locked keeps still uncopied here = by (refusal (tests m w l command)) refl h.answer
  where
    by : (o : Option Errno) → refusal (tests m w l command) ≡ o
        → MatchOption o (Follows m w l command es reply.answer reply.rows) (λ error. Refuses error es reply.answer reply.rows)
        → IsSomeAnd (entry (after_all l es) k) (λ e. names_frame f e ≡ true)
    by None fine x = follows-stays m w l s k f command es reply.answer reply.rows fine x locked keeps still
        (sym (ap (list_any (is_copy_of k)) h.notes) ∙ uncopied) here
    by (Some error) fine x = subst (λ es. IsSomeAnd (entry (after_all l es) k) (λ e. names_frame f e ≡ true)) (sym x.1) here
