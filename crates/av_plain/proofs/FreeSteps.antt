-- After each step what is free is listed as the ledger has it, frames and slots: a page is taken where its slot is in use, and only slots are free.
use Rattle.std.proofs.Common.{◌≡◌, ◌⊎◌, inl, inr, ℕ, ◌+◌, ◌-◌, min, Bool, true, false, cond, List, [], ◌∷◌, length, map, take, Option, Some, None, refl, sym, ap, subst, ◌∙◌, ◌==◌, ◌++◌}
use Rattle.std.specs.Prelude.{MatchOption}
use Rattle.av_base.specs.Keys.{Key}
use Rattle.av_base.specs.declared.slot.Slot.{Slot}
use Rattle.av_base.specs.Page.{page_of, pages_of}
use Rattle.av_trace.specs.declared.command.Command.{Command}
use Rattle.av_trace.specs.declared.command.Command.TheVariants.{Spawn, Fork, Exit, Mmap, Mremap, Munmap, Mprotect, Madvise, Mlock, Munlock, Read, Write, Reclaim, Age, Complete, Swapon, Swapoff, Maps, Areas as AsksAreas, Rmap as AsksRmap, Entry as AsksEntry, Slot as AsksSlot, Stat}
use Rattle.av_trace.specs.declared.place.Place.TheVariants.{Auto, At, Fixed, NoReplace}
use Rattle.av_trace.specs.declared.reply.Errno.{Errno}
use Rattle.av_trace.specs.declared.reply.Errno.TheVariants.{Ebusy, Einval}
use Rattle.av_plain.specs.Device.{AreLayouts}
use Rattle.av_plain.specs.Fault.{sparing}
use Rattle.av_plain.specs.Reclaim.{from_tail}
use Rattle.av_plain.specs.Swapoff.{Close, Closed, NoRoom, TurnsOff, Unread, sparing_area, turn_off_events}
use Rattle.av_plain.specs.Swapon.{TurnsOn, turn_on_events}
use Rattle.av_plain.proofs.Sound.Swap.{lawful-ages, lawful-outcomes, to-sound}
use Rattle.av_plain.proofs.Sound.Swap.Area.{turn-on-events}
use Rattle.av_plain.proofs.Sound.Swap.Empty.{done-empty, empties-hold, lawful-empties}
use Rattle.av_trace.specs.declared.reply.Reply.{Reply}
use Rattle.av_trace.specs.declared.note.Note.{Note}
use Rattle.av_trace.specs.declared.note.Note.TheVariants.{Aged, Dropped}
use Rattle.av_plain.specs.Access.{Accesses, End, page_events, pages_of_access}
use Rattle.av_plain.specs.Choice.{ChoosesAll, Free, ListsAll, ListsSlots}
use Rattle.av_base.specs.declared.flags.Flag.{Flag}
use Rattle.av_base.specs.declared.flags.Flag.TheVariants as flags
use Rattle.av_plain.specs.Advice.{advice_events, flag_of_advice, pages_advised}
use Rattle.av_plain.specs.Lock.{BringsIn, Locks, accesses_of, with_lock}
use Rattle.av_plain.specs.Event.{Event, FlagSet, Forked, EntriesMoved, TurnedOff, TurnedOn, Used, Zapped, after, after_all, after_move, after_notes, after_use, after_zap, note_events, when}
use Rattle.av_plain.specs.Fault.{Stop, Touches}
use Rattle.av_plain.specs.Fork.{inheritance}
use Rattle.av_plain.specs.Ledger.{Ledger, Setting, SwapArea, entry, is_on, is_orphan, size_of, slots_in_use}
use Rattle.av_plain.specs.Refusal.{Refuses, no_device_at, refusal, tests}
use Rattle.av_plain.specs.Sound.{AllSound, IsSound}
use Rattle.av_plain.specs.Step.{Follows, IsLegal, closing_swap_area}
use Rattle.av_plain.specs.Transcript.{IsStep, State}
use Rattle.av_plain.specs.World.{World, lives}
use Rattle.av_plain.specs.Zap.{keys_in, keys_of_process, orphan_drop, slot_behind_key, zap_of, zaps_of}
use Rattle.av_plain.proofs.Access.{after_all-append, after_notes-append, note_events-all}
use Rattle.av_plain.proofs.Fork.{child_ledger}
use Rattle.av_plain.proofs.Refusal.{may-fork}
use Rattle.av_plain.proofs.Sound.{no_entries}
use Rattle.av_plain.proofs.Sound.Access.{page_events-kept, touches-kept}
use Rattle.av_plain.specs.Mremap.{events_to, range_zaps, remap_events}
use Rattle.av_plain.proofs.Mremap.{then_tail, then_target}
use Rattle.av_plain.proofs.Sound.Mremap.{free_target, tail-kept, target-kept}
use Rattle.av_plain.proofs.Sound.There.{AreLawful, lawful-append, lawful-completes, lawful-touches}
use Rattle.av_plain.proofs.Sound.Zap.{zap_of-kept}
use Rattle.av_plain.proofs.Zap.{in_order-after_zap}
use Rattle.av_plain.proofs.Choice.{chosen-first}
use Rattle.av_plain.proofs.FreeFrames.{step-lists_free}
use Rattle.av_plain.proofs.FreeLists.{IsLawfulEvent, event-tracks}
use Rattle.av_plain.proofs.FreeSlots.{TracksSlots, from_tracks, notes-tracks, to_tracks}
use Rattle.av_trace.specs.declared.reply.Answer.TheVariants.{Refused}
use Rattle.av_trace.specs.declared.reply.Errno.TheVariants.{Enomem}
use Rattle.av_base.specs.Page.{pages_met}
use Rattle.av_plain.specs.World.{pages, pages_to_hole}
use Rattle.std.specs.Prelude.{MatchBool}
use Rattle.av_plain.specs.Event.{FreeSorted}
use Rattle.av_plain.specs.Merge.{merges}
use Rattle.av_plain.specs.Compact.{Compacts}
use Rattle.av_trace.specs.declared.command.Command.TheVariants.{Compact, Merge}
use Rattle.av_plain.proofs.Sound.Frames.{lawful-merges, lawful-moves, moves-hold}
use Rattle.av_plain.proofs.Sound.Swap.{of-sound}

-- ---- a page, and an access

page-tracks : (m : Setting) (w : World) (l : Ledger) (write : Bool) (k : Key) (notes : List Note) (end : Option Stop) (free free' : Free)
    → IsSound m l
    → Touches m w l write k notes end
    → ChoosesAll m None l (page_events write k notes end) free free' → TracksSlots m l free.slots
    → TracksSlots m (after_all l (page_events write k notes end)) free'.slots
page-tracks m w l write k notes (Some stop) free free' s q c h = subst (λ x. TracksSlots m x free'.slots) (sym (note_events-all l notes))
    (notes-tracks m None l notes free free' s.in_order (lawful-touches m w l write k notes (Some stop) s q) c h)
page-tracks m w l write k notes None free free' s q c h =
    let p = chosen-first m None l (note_events notes) (Used write k ∷ []) free free' c in
    let now = after_notes l notes in
    let first = notes-tracks m None l notes free p.0 s.in_order (lawful-touches m w l write k notes None s q) p.1 h in
    let last = subst (λ x. ChoosesAll m None x (Used write k ∷ []) p.0 free') (note_events-all l notes) p.2 in
    subst (λ x. TracksSlots m x free'.slots) (sym (after_all-append l (note_events notes) (Used write k ∷ [])
    ∙ ap (after_use write k) (note_events-all l notes)))
    (subst (λ (f : Free). TracksSlots m (after_use write k now) f.slots) (sym last.2)
    (event-tracks m None now (Used write k) p.0 last.0 (touches-kept m w l write k notes None s q).in_order tt last.1 first))

accesses-tracks : (m : Setting) (w : World) (l : Ledger) (p : ℕ) (ps : List (Bool × ℕ)) (es : List Event) (end : End) (free free' : Free)
    → IsSound m l
    → Accesses m w l p ps es end
    → ChoosesAll m None l es free free' → TracksSlots m l free.slots → TracksSlots m (after_all l es) free'.slots
accesses-tracks m w l p [] es end free free' s q c h = subst (λ es. TracksSlots m (after_all l es) free'.slots) (sym q.0)
    (subst (λ (f : Free). TracksSlots m l f.slots) (sym (subst (λ es. ChoosesAll m None l es free free') q.0 c)) h)
accesses-tracks m w l p (page ∷ ps) es end free free' s (inl q) c h =
    let here = page_events page.0 (p, page.1) q.0 None in
    let both = chosen-first m None l here q.1 free free' (subst (λ es. ChoosesAll m None l es free free') q.3 c) in
    let s1 = page_events-kept m l page.0 (p, page.1) q.0 None (touches-kept m w l page.0 (p, page.1) q.0 None s q.2) in
    let first = page-tracks m w l page.0 (p, page.1) q.0 None free both.0 s q.2 both.1 h in
    subst (λ es. TracksSlots m (after_all l es) free'.slots) (sym q.3)
    (subst (λ x. TracksSlots m x free'.slots) (sym (after_all-append l here q.1))
    (accesses-tracks m w (after_all l here) p ps q.1 end both.0 free' s1 q.4 both.2 first))
accesses-tracks m w l p (page ∷ ps) es end free free' s (inr q) c h =
    subst (λ es. TracksSlots m (after_all l es) free'.slots) (sym q.3)
    (page-tracks m w l page.0 (p, page.1) q.0 (Some q.1) free free' s q.2 (subst (λ es. ChoosesAll m None l es free free') q.3 c) h)

-- ---- entries taken away

zap-tracks : (m : Setting) (l : Ledger) (k : Key) (free free' : Free) → IsSound m l → ChoosesAll m None l (zap_of l k) free free'
    → TracksSlots m l free.slots
    → TracksSlots m (after_all l (zap_of l k)) free'.slots
zap-tracks m l k free free' s c h =
    drop (slot_behind_key l (entry l k)) c.2 (event-tracks m None l (Zapped k) free c.0 s.in_order tt c.1 h)
  where
    dropped : (t : Slot) (b : Bool) → ChoosesAll m None (after_zap k l) (note_events (when b (Dropped t))) c.0 free'
        → TracksSlots m (after_zap k l) c.0.slots
        → TracksSlots m (after_all (after_zap k l) (note_events (when b (Dropped t)))) free'.slots
    dropped t true d f = notes-tracks m None (after_zap k l) (Dropped t ∷ []) c.0 free' (in_order-after_zap k l s.in_order) (tt, tt) d f
    dropped t false d f = subst (λ (f : Free). TracksSlots m (after_zap k l) f.slots) (sym d) f

    drop : (o : Option Slot) → ChoosesAll m None (after_zap k l) (orphan_drop (after_zap k l) o) c.0 free' → TracksSlots m (after_zap k l) c.0.slots
        → TracksSlots m (after_all (after_zap k l) (orphan_drop (after_zap k l) o)) free'.slots
    drop None d f = subst (λ (f : Free). TracksSlots m (after_zap k l) f.slots) (sym d) f
    drop (Some t) d f = dropped t (is_orphan (after_zap k l) t) d f

zaps-tracks : (m : Setting) (l : Ledger) (ks : List Key) (free free' : Free) → IsSound m l → ChoosesAll m None l (zaps_of l ks) free free'
    → TracksSlots m l free.slots → TracksSlots m (after_all l (zaps_of l ks)) free'.slots
zaps-tracks m l [] free free' s c h = subst (λ (f : Free). TracksSlots m l f.slots) (sym c) h
zaps-tracks m l (k ∷ ks) free free' s c h =
    let both = chosen-first m None l (zap_of l k) (zaps_of (after_all l (zap_of l k)) ks) free free' c in
    subst (λ x. TracksSlots m x free'.slots) (sym (after_all-append l (zap_of l k) (zaps_of (after_all l (zap_of l k)) ks)))
    (zaps-tracks m (after_all l (zap_of l k)) ks both.0 free' (zap_of-kept m l k s) both.2 (zap-tracks m l k free both.0 s both.1 h))

-- ---- entries that go over

fork-tracks : (m : Setting) (l : Ledger) (p q : ℕ) (goes : List ℕ) (free free' : Free) → IsSound m l → ((page : ℕ) → entry l (q, page) ≡ None)
    → ChoosesAll m None l (Forked p q goes ∷ []) free free' → TracksSlots m l free.slots → TracksSlots m (child_ledger p q goes l) free'.slots
fork-tracks m l p q goes free free' s none c h = subst (λ (f : Free). TracksSlots m (child_ledger p q goes l) f.slots) (sym c.2)
    (event-tracks m None l (Forked p q goes) free c.0 s.in_order (s, none) c.1 h)

-- ---- entries that move

remap-tracks : (m : Setting) (l : Ledger) (p from n to k : ℕ) (free free' : Free) → IsSound m l
    → ChoosesAll m None l (remap_events l p from n to k) free free' → TracksSlots m l free.slots
    → TracksSlots m (after_all l (remap_events l p from n to k)) free'.slots
remap-tracks m l p from n to k free free' s c h = by (to == from) c
  where
    target : Ledger
    target = then_target l p from n to k

    tail : Ledger
    tail = then_tail l p from n to k

    target_zaps : List Event
    target_zaps = range_zaps l p to k

    tail_zaps : List Event
    tail_zaps = range_zaps target p (from + k) (n - k)

    move : List Event
    move = EntriesMoved p (min n k) from to ∷ []

    by : (b : Bool) → ChoosesAll m None l (cond b (range_zaps l p (from + k) (n - k)) ((target_zaps ++ tail_zaps) ++ move)) free free'
        → TracksSlots m (after_all l (cond b (range_zaps l p (from + k) (n - k)) ((target_zaps ++ tail_zaps) ++ move))) free'.slots
    by true c = zaps-tracks m l (keys_in l p (from + k) (n - k)) free free' s c h
    by false c =
        let two = chosen-first m None l (target_zaps ++ tail_zaps) move free free' c in
        let one = chosen-first m None l target_zaps tail_zaps free two.0 two.1 in
        let first = zaps-tracks m l (keys_in l p to k) free one.0 s one.1 h in
        let second = zaps-tracks m target (keys_in target p (from + k) (n - k)) one.0 two.0 (target-kept m l p from n to k s) one.2 first in
        let last = subst (λ x. ChoosesAll m None x move two.0 free') (after_all-append l target_zaps tail_zaps) two.2 in
        let kept = tail-kept m l p from n to k s in
        subst (λ x. TracksSlots m x free'.slots) (sym (after_all-append l (target_zaps ++ tail_zaps) move ∙ ap (after_move p (min n k) from to)
        (after_all-append l target_zaps tail_zaps)))
        (subst (λ (f : Free). TracksSlots m (after_move p (min n k) from to tail) f.slots) (sym last.2)
        (event-tracks m None tail (EntriesMoved p (min n k) from to) two.0 last.0 kept.in_order (kept, free_target m l p from n to k s)
        last.1 second))

-- ---- a step

legal-tracks : (m : Setting) (w : World) (l : Ledger) (command : Command) (reply : Reply) (es : List Event) (free free' : Free) → AllSound m w l
    → AreLayouts m → IsLegal m w l command reply es
    → ChoosesAll m (closing_swap_area command) l es free free' → TracksSlots m l free.slots → TracksSlots m (after_all l es) free'.slots
legal-tracks m w l command reply es free free' sound layouts legal chosen h = by (refusal (tests m w l command)) refl legal.answer
  where
    s : IsSound m l
    s = sound.ledger

    forks : (p q : ℕ) (goes : List ℕ) → lives w q ≡ false → es ≡ Forked p q goes ∷ [] → ChoosesAll m None l es free free'
        → TracksSlots m (after_all l es) free'.slots
    forks p q goes dead e c = subst (λ es. TracksSlots m (after_all l es) free'.slots) (sym e)
        (fork-tracks m l p q goes free free' s (no_entries w l q sound.at_pages dead) (subst (λ es. ChoosesAll m None l es free free') e c) h)

    none : (closing : Option ℕ) → es ≡ [] → ChoosesAll m closing l es free free' → TracksSlots m (after_all l es) free'.slots
    none closing e c = subst (λ es. TracksSlots m (after_all l es) free'.slots) (sym e)
        (subst (λ (f : Free). TracksSlots m l f.slots) (sym (subst (λ es. ChoosesAll m closing l es free free') e c)) h)

    noted : (closing : Option ℕ) (notes : List Note) → es ≡ note_events notes → AreLawful m closing l notes → ChoosesAll m closing l es free free'
        → TracksSlots m (after_all l es) free'.slots
    noted closing notes e lawful c = subst (λ es. TracksSlots m (after_all l es) free'.slots) (sym e)
        (subst (λ x. TracksSlots m x free'.slots) (sym (note_events-all l notes))
        (notes-tracks m closing l notes free free' s.in_order lawful (subst (λ es. ChoosesAll m closing l es free free') e c) h))

    these : (ks : List Key) → es ≡ zaps_of l ks → ChoosesAll m None l es free free' → TracksSlots m (after_all l es) free'.slots
    these ks e c = subst (λ es. TracksSlots m (after_all l es) free'.slots) (sym e)
        (zaps-tracks m l ks free free' s (subst (λ es. ChoosesAll m None l es free free') e c) h)

    moves : (p from n k : ℕ) (to : Option ℕ) → es ≡ events_to l p from n to k → ChoosesAll m None l es free free'
        → TracksSlots m (after_all l es) free'.slots
    moves p from n k None e c = none None e c
    moves p from n k (Some to) e c = subst (λ es. TracksSlots m (after_all l es) free'.slots) (sym e)
        (remap-tracks m l p from n to k free free' s (subst (λ es. ChoosesAll m None l es free free') e c) h)

    second : (a b c : Bool) → cond a (Some Einval) (cond b (Some Ebusy) (cond c (Some Einval) None)) ≡ None → b ≡ false
    second true b c h = cc
    second false true c h = cc
    second false false c h = refl

    switched : (e : Event) → IsLawfulEvent m None l e → ChoosesAll m None l (e ∷ []) free free' → TracksSlots m (after l e) free'.slots
    switched e lawful c = subst (λ (f : Free). TracksSlots m (after l e) f.slots) (sym c.2) (event-tracks m None l e free c.0 s.in_order lawful c.1 h)

    turns_on : (k : ℕ) (priority : Option ℕ) → is_on l k ≡ false → TurnsOn m k priority es reply.answer reply.rows
        → (turn_on_events k priority reply.answer ≡ []) ⊎ ((area : SwapArea) × (turn_on_events k priority reply.answer ≡ TurnedOn k area ∷ []))
        → ChoosesAll m None l es free free' → TracksSlots m (after_all l es) free'.slots
    turns_on k priority off q (inl i) c = none None (q.1 ∙ i) c
    turns_on k priority off q (inr (area, i)) c = subst (λ es. TracksSlots m (after_all l es) free'.slots) (sym (q.1 ∙ i))
        (switched (TurnedOn k area) (layouts, off) (subst (λ es. ChoosesAll m None l es free free') (q.1 ∙ i) c))

    closes : (l' : Ledger) (k : ℕ) (end : Close) (mid : Free) → AllSound m w l' → (end ≡ Closed → slots_in_use m l' k ≡ [])
        → ChoosesAll m (Some k) l' (turn_off_events k end) mid free' → TracksSlots m l' mid.slots
        → TracksSlots m (after_all l' (turn_off_events k end)) free'.slots
    closes l' k Closed mid s' empty c h = subst (λ (f : Free). TracksSlots m (after l' (TurnedOff k)) f.slots) (sym c.2)
        (event-tracks m (Some k) l' (TurnedOff k) mid c.0 s'.ledger.in_order (empty refl) c.1 h)
    closes l' k (NoRoom out) mid s' empty c h = subst (λ (f : Free). TracksSlots m l' f.slots) (sym c) h
    closes l' k Unread mid s' empty c h = subst (λ (f : Free). TracksSlots m l' f.slots) (sym c) h

    turns_off : (k : ℕ) → TurnsOff m w l k es reply.answer reply.rows → ChoosesAll m (Some k) l es free free'
        → TracksSlots m (after_all l es) free'.slots
    turns_off k q c =
        let notes = q.done ++ q.notes in
        let now = after_notes l q.done in
        let sp = sparing_area w k now in
        let empty = done-empty m w l q.done sound q.completes in
        let emptied = empties-hold m w k now q.pages q.notes q.end empty q.empties in
        let lawful = lawful-append m (Some k) l q.done q.notes (lawful-completes m sp l l.flight q.done q.completes)
        (lawful-empties m w k now q.pages q.notes q.end empty q.empties) in
        let both = chosen-first m (Some k) l (note_events notes) (turn_off_events k q.end) free free'
        (subst (λ es. ChoosesAll m (Some k) l es free free') q.whole c) in
        let first = notes-tracks m (Some k) l notes free both.0 s.in_order lawful both.1 h in
        let same = note_events-all l notes in
        let split = after_notes-append l q.done q.notes in
        let kept = subst (AllSound m w) (sym split) (to-sound m w l (after_notes now q.notes) sound emptied.holds) in
        subst (λ es. TracksSlots m (after_all l es) free'.slots) (sym q.whole)
        (subst (λ x. TracksSlots m x free'.slots) (sym (after_all-append l (note_events notes) (turn_off_events k q.end)
        ∙ ap (λ x. after_all x (turn_off_events k q.end)) same))
        (closes (after_notes l notes) k q.end both.0 kept (λ e. ap (λ x. slots_in_use m x k) split ∙ emptied.none e)
        (subst (λ x. ChoosesAll m (Some k) x (turn_off_events k q.end) both.0 free') same both.2) first))

    flagged : (p from n : ℕ) (flag : Flag) (set : Bool) → es ≡ FlagSet p from n flag set ∷ [] → ChoosesAll m None l es free free'
        → TracksSlots m (after_all l es) free'.slots
    flagged p from n flag set e c =
        let first = subst (λ es. ChoosesAll m None l es free free') e c in
        subst (λ es. TracksSlots m (after_all l es) free'.slots) (sym e) (subst (λ (f : Free). TracksSlots m l f.slots) (sym first.2)
        (event-tracks m None l (FlagSet p from n flag set) free first.0 s.in_order tt first.1 h))

    advises : (p from n : ℕ) (change : Option (Flag × Bool)) → es ≡ advice_events l p from n change → ChoosesAll m None l es free free'
        → TracksSlots m (after_all l es) free'.slots
    advises p from n None e c = these (keys_in l p from n) e c
    advises p from n (Some change) e c = flagged p from n change.0 change.1 e c

    locks : (p from n : ℕ) → Locks m w l p from n es reply.answer reply.rows → ChoosesAll m None l es free free'
        → TracksSlots m (after_all l es) free'.slots
    locks p from n q c =
        let k = pages_to_hole (pages w p) from n in
        let first = subst (λ es. ChoosesAll m None l es free free') q.1 c in
        subst (λ es. TracksSlots m (after_all l es) free'.slots) (sym q.1)
        (by (k == n) first.0 (event-tracks m None l (FlagSet p from k flags.Locked true) free first.0 s.in_order tt first.1 h) first.2 q.3)
      where
        by : (b : Bool) (mid : Free) → TracksSlots m l mid.slots → ChoosesAll m None l q.0 mid free'
            → MatchBool b (BringsIn m w l p from n q.0 reply.answer) ((q.0 ≡ []) × (reply.answer ≡ Refused Enomem))
            → TracksSlots m (after_all l q.0) free'.slots
        by true mid h c r = accesses-tracks m (with_lock true w p from n) l p (accesses_of (pages w p) from n) q.0 r.0 mid free' s r.1 c h
        by false mid h c r = subst (λ es. TracksSlots m (after_all l es) free'.slots) (sym r.0)
            (subst (λ (f : Free). TracksSlots m l f.slots) (sym (subst (λ es. ChoosesAll m None l es mid free') r.0 c)) h)

    compacts : Compacts m l es reply.answer reply.rows → ChoosesAll m None l es free free' → TracksSlots m (after_all l es) free'.slots
    compacts q c =
        let both = chosen-first m None l (note_events q.0) (FreeSorted ∷ []) free free' (subst (λ es. ChoosesAll m None l es free free') q.2 c) in
        let first = notes-tracks m None l q.0 free both.0 s.in_order (lawful-moves m l q.0 q.1) both.1 h in
        let same = note_events-all l q.0 in
        let last = subst (λ x. ChoosesAll m None x (FreeSorted ∷ []) both.0 free') same both.2 in
        let now = after_notes l q.0 in
        let holds = moves-hold m w l q.0 (of-sound m w l sound) q.1 in
        subst (λ es. TracksSlots m (after_all l es) free'.slots) (sym q.2)
        (subst (λ x. TracksSlots m x free'.slots) (sym (after_all-append l (note_events q.0) (FreeSorted ∷ []) ∙ same))
        (subst (λ (f : Free). TracksSlots m now f.slots) (sym last.2)
        (event-tracks m None now FreeSorted both.0 last.0 holds.sound.in_order tt last.1 first)))

    follows : (command : Command) → refusal (tests m w l command) ≡ None → Follows m w l command es reply.answer reply.rows
        → ChoosesAll m (closing_swap_area command) l es free free' → TracksSlots m (after_all l es) free'.slots
    follows (Spawn p) fine q c = none None q.1 c
    follows (Fork p child) fine q c = forks p child (inheritance (pages w p) l p) (may-fork m w l p child fine).child q.1 c
    follows (Exit p) fine q c = these (keys_of_process l p) q.1 c
    follows (Mmap p len prot Auto) fine q c = none None q.3 c
    follows (Mmap p len prot (At a)) fine q c = none None q.3 c
    follows (Mmap p len prot (Fixed a)) fine q c = these (keys_in l p (page_of a) (pages_of len)) q.3 c
    follows (Mmap p len prot (NoReplace a)) fine q c = none None q.3 c
    follows (Munmap p a len) fine q c = these (keys_in l p (page_of a) (pages_of len)) q.1 c
    follows (Mprotect p a len prot) fine q c = none None q.1 c
    follows (Mremap p a old new mode) fine q c = moves p (page_of a) (pages_of old) (pages_of new) q.0 q.3 c
    follows (Madvise p a len advice) fine q c =
        advises p (page_of a) (pages_advised (pages w p) (page_of a) (pages_of len) (flag_of_advice advice)) (flag_of_advice advice) q.1 c
    follows (Mlock p a len) fine q c = locks p (page_of a) (pages_met a len) q c
    follows (Munlock p a len) fine q c = flagged p (page_of a) (pages_to_hole (pages w p) (page_of a) (pages_met a len)) flags.Locked false q.1 c
    follows (Read p a n) fine q c = accesses-tracks m w l p (pages_of_access false a n) es q.0 free free' s q.2 c h
    follows (Write p a bytes) fine q c = accesses-tracks m w l p (pages_of_access true a (length bytes)) es q.0 free free' s q.1 c h
    follows (Reclaim n) fine q c = noted None q.0 q.3 (lawful-outcomes m (sparing w l None) l (from_tail n l.inactive) q.0 q.1) c
    follows (Age n) fine q c = noted None (map Aged (from_tail n l.active)) q.1 (lawful-ages m l (from_tail n l.active)) c
    follows (Complete n) fine q c = noted None q.0 q.3 (lawful-completes m (sparing w l None) l (take n l.flight) q.0 q.1) c
    follows (Swapon k priority) fine q c =
        turns_on k priority (second (no_device_at m k) (is_on l k) (size_of m k == 0) fine) q (turn-on-events k priority reply.answer) c
    follows (Swapoff k) fine q c = turns_off k q c
    follows Merge fine q c = noted None (merges m q.0 w l [] (map (λ e. e.0) l.entries)) q.2
        (lawful-merges m q.0 w l [] (map (λ e. e.0) l.entries)) c
    follows Compact fine q c = compacts q c
    follows (Maps p) fine q c = none None q.2 c
    follows (AsksAreas p) fine q c = none None q.2 c
    follows (AsksRmap p a) fine q c = none None q.1 c
    follows (AsksEntry p a) fine q c = none None q.1 c
    follows (AsksSlot k page) fine q c = none None q.1 c
    follows Stat fine q c = none None q.1 c

    by : (o : Option Errno) → refusal (tests m w l command) ≡ o → MatchOption o (Follows m w l command es reply.answer reply.rows)
        (λ error. Refuses error es reply.answer reply.rows)
        → TracksSlots m (after_all l es) free'.slots
    by None fine q = follows command fine q chosen
    by (Some error) fine q = none (closing_swap_area command) q.1 chosen

pub step-lists_slots : (m : Setting) (old : State) (command : Command) (reply : Reply) (new : State) → AreLayouts m → AllSound m old.world old.ledger
    → ListsSlots m old.ledger old.free.slots
    → IsStep m old command reply new → ListsSlots m new.ledger new.free.slots
step-lists_slots m old command reply new layouts s h step = subst (λ l. ListsSlots m l new.free.slots) (sym step.ledger)
    (from_tracks m (after_all old.ledger step.events) new.free.slots
    (legal-tracks m old.world old.ledger command reply step.events old.free new.free s layouts step.legal step.free
    (to_tracks m old.ledger old.free.slots s.in_areas s.areas_fit h)))

-- both
pub step-lists : (m : Setting) (old : State) (command : Command) (reply : Reply) (new : State) → AreLayouts m → AllSound m old.world old.ledger
    → ListsAll m old.ledger old.free → IsStep m old command reply new → ListsAll m new.ledger new.free
step-lists m old command reply new layouts s h step = record {
  frames = step-lists_free m old command reply new s h.frames step;
  slots = step-lists_slots m old command reply new layouts s h.slots step;
}
