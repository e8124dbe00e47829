-- A reply tells its events: two lists of events by which one reply is legal are one.
use Rattle.std.proofs.Common.{◌≡◌, inl, inr, ℕ, ◌*◌, Bool, true, false, List, [], ◌∷◌, ◌++◌, Option, Some, None, refl, sym, ap, subst, ◌∙◌, arith, append-nil}
use Rattle.std.specs.Prelude.{MatchBool, MatchOption, ◌==◌, map}
use Rattle.std.proofs.lemmas.List.{append_cancel_left}
use Rattle.av_base.specs.Page.{address_of, page_of, pages_met, pages_of}
use Rattle.av_trace.specs.declared.command.Command.{Command}
use Rattle.av_trace.specs.declared.command.Command.TheVariants.{Spawn, Fork, Exit, Mmap, Mremap, Munmap, Mprotect, Madvise, Mlock, Munlock, Merge, Compact, Read, Write, Maps, Areas as AsksAreas, Rmap as AsksRmap, Entry as AsksEntry, Stat, Reclaim, Age, Complete, Swapon, Swapoff, Slot as AsksSlot}
use Rattle.av_trace.specs.declared.note.Note.{Note}
use Rattle.av_trace.specs.declared.reply.Errno.{Errno}
use Rattle.av_trace.specs.declared.reply.Errno.TheVariants.{Enomem}
use Rattle.av_trace.specs.declared.reply.Answer.{Answer}
use Rattle.av_trace.specs.declared.reply.Answer.TheVariants.{MapAt, Refused}
use Rattle.av_trace.specs.declared.reply.Reply.{Reply}
use Rattle.av_trace.specs.declared.row.Row.{Row}
use Rattle.av_plain.specs.World.{World, pages, pages_to_hole}
use Rattle.av_base.specs.Keys.{Key}
use Rattle.av_plain.specs.Ledger.{Ledger, Setting}
use Rattle.av_plain.specs.Lock.{BringsIn, Locks, accesses_of, lock_event, with_lock}
use Rattle.av_plain.specs.Merge.{merges}
use Rattle.av_plain.specs.Event.{Event, FreeSorted, Used, after_all, note_events, notes_of}
use Rattle.av_plain.specs.Fault.{Stop}
use Rattle.av_plain.specs.Access.{Accesses, End, Stopped, page_events, pages_of_access}
use Rattle.av_plain.specs.Mremap.{events_to}
use Rattle.av_plain.specs.Place.{IsMapAt}
use Rattle.av_plain.specs.Refusal.{Refuses, refusal, tests}
use Rattle.av_plain.specs.Step.{Follows, IsLegal}
use Rattle.av_plain.proofs.Access.{notes_of-append, notes_of-note_events}
use Rattle.std.specs.Prelude.{take}
use Rattle.av_plain.specs.Fault.{sparing}
use Rattle.av_plain.specs.Reclaim.{from_tail}
use Rattle.av_plain.specs.Swapoff.{Close, Closed, NoRoom, TurnsOff, Unread, turn_off_events}
use Rattle.av_audit_laws.proofs.ToldPage.{touches-told}
use Rattle.av_audit_laws.proofs.ToldPass.{completes-told}
use Rattle.av_audit_laws.proofs.ToldSwap.{off-told, outcomes-told}

-- ---- accesses

-- the notes of a page that is served are among those of the access
pub served-notes : (write : Bool) (k : Key) (notes : List Note) (later : List Event)
    → notes_of (page_events write k notes None ++ later) ≡ notes ++ notes_of later
served-notes write k notes later =
    notes_of-append (page_events write k notes None) later
    ∙ ap (λ ns. ns ++ notes_of later) (notes_of-append (note_events notes) (Used write k ∷ []) ∙ append-nil (notes_of (note_events notes))
    ∙ notes_of-note_events notes)

stopped-notes : (notes : List Note) → notes_of (note_events notes) ≡ notes ++ []
stopped-notes notes = notes_of-note_events notes ∙ sym (append-nil notes)

pub accesses-told : (m : Setting) (w : World) (l : Ledger) (p : ℕ) (ps : List (Bool × ℕ)) (es fs : List Event)
    (end end' : End) → Accesses m w l p ps es end → Accesses m w l p ps fs end' → notes_of es ≡ notes_of fs
    → (es ≡ fs) × (end ≡ end')
accesses-told m w l p [] es fs end end' h g e = (h.0 ∙ sym g.0, h.1 ∙ sym g.1)
accesses-told m w l p (page ∷ ps) es fs end end' (inl h) (inl g) e =
    let split : h.0 ++ notes_of h.1 ≡ g.0 ++ notes_of g.1 =
    sym (ap notes_of h.3 ∙ served-notes page.0 (p, page.1) h.0 h.1) ∙ e
    ∙ (ap notes_of g.3 ∙ served-notes page.0 (p, page.1) g.0 g.1) in
    let one = touches-told m w l page.0 (p, page.1) h.0 g.0 (notes_of h.1) (notes_of g.1) None None h.2 g.2 tt tt split in
    let here = page_events page.0 (p, page.1) h.0 None in
    let moved : page_events page.0 (p, page.1) g.0 None ≡ here = ap (λ ns. page_events page.0 (p, page.1) ns None) (sym one.0) in
    let later = append_cancel_left h.0 (notes_of h.1) (notes_of g.1)
    (subst (λ ns. h.0 ++ notes_of h.1 ≡ ns ++ notes_of g.1) (sym one.0) split) in
    let rest = accesses-told m w (after_all l here) p ps h.1 g.1 end end' h.4
    (subst (λ v. Accesses m w (after_all l v) p ps g.1 end') moved g.4) later in
    (h.3 ∙ (λ i. sym moved i ++ rest.0 i) ∙ sym g.3, rest.1)
accesses-told m w l p (page ∷ ps) es fs end end' (inl h) (inr g) e =
    let split : h.0 ++ notes_of h.1 ≡ g.0 ++ [] =
    sym (ap notes_of h.3 ∙ served-notes page.0 (p, page.1) h.0 h.1) ∙ e
    ∙ (ap notes_of g.3 ∙ stopped-notes g.0) in
    absurd (differ (touches-told m w l page.0 (p, page.1) h.0 g.0 (notes_of h.1) [] None (Some g.1) h.2 g.2 tt refl split).1)
  where
    differ : None ≡ Some g.1 → ⊥
    differ e = cc
accesses-told m w l p (page ∷ ps) es fs end end' (inr h) (inl g) e =
    let split : h.0 ++ [] ≡ g.0 ++ notes_of g.1 =
    sym (ap notes_of h.3 ∙ stopped-notes h.0) ∙ e
    ∙ (ap notes_of g.3 ∙ served-notes page.0 (p, page.1) g.0 g.1) in
    absurd (differ (touches-told m w l page.0 (p, page.1) h.0 g.0 [] (notes_of g.1) (Some h.1) None h.2 g.2 refl tt split).1)
  where
    differ : Some h.1 ≡ None → ⊥
    differ e = cc
accesses-told m w l p (page ∷ ps) es fs end end' (inr h) (inr g) e =
    let split : h.0 ++ [] ≡ g.0 ++ [] =
    sym (ap notes_of h.3 ∙ stopped-notes h.0) ∙ e ∙ (ap notes_of g.3 ∙ stopped-notes g.0) in
    let one = touches-told m w l page.0 (p, page.1) h.0 g.0 [] [] (Some h.1) (Some g.1) h.2 g.2 refl refl split in
    (h.3 ∙ ap note_events one.0 ∙ sym g.3, h.4 ∙ ap (Stopped page.1) (inner one.1) ∙ sym g.4)
  where
    inner : {s t : Stop} → Some s ≡ Some t → s ≡ t
    inner e = cc

-- ---- a command

-- an answer tells the place
place-told : (to to' : Option ℕ) (answer : Answer) → IsMapAt answer to → IsMapAt answer to' → to ≡ to'
place-told None None answer h g = refl
place-told None (Some page) answer h g = absurd (differ (sym h ∙ g))
  where
    differ : Refused Enomem ≡ MapAt (address_of page) → ⊥
    differ e = cc
place-told (Some page) None answer h g = absurd (differ (sym h ∙ g))
  where
    differ : MapAt (address_of page) ≡ Refused Enomem → ⊥
    differ e = cc
place-told (Some page) (Some other) answer h g = ap Some (one (inner (sym h ∙ g)))
  where
    inner : {a b : ℕ} → MapAt a ≡ MapAt b → a ≡ b
    inner e = cc

    one : 4096 * page ≡ 4096 * other → page ≡ other
    one e = omega (arith, e)

-- notes as events are the notes
noted : (a b : List Note) (es fs : List Event) → es ≡ note_events a → fs ≡ note_events b → notes_of es ≡ notes_of fs
    → a ++ [] ≡ b ++ []
noted a b es fs h g e = append-nil a ∙ sym (notes_of-note_events a) ∙ sym (ap notes_of h) ∙ e ∙ ap notes_of g
    ∙ notes_of-note_events b ∙ sym (append-nil b)

-- events that are notes are told by them
note-told : (a b : List Note) (es fs : List Event) → es ≡ note_events a → fs ≡ note_events b → notes_of es ≡ notes_of fs
    → es ≡ fs
note-told a b es fs h g e =
    h ∙ ap note_events (sym (notes_of-note_events a) ∙ sym (ap notes_of h) ∙ e ∙ ap notes_of g ∙ notes_of-note_events b) ∙ sym g

-- that the free frames are put in order is no note
sorted-notes : (a : List Note) → notes_of (note_events a ++ FreeSorted ∷ []) ≡ a
sorted-notes a = notes_of-append (note_events a) (FreeSorted ∷ []) ∙ append-nil (notes_of (note_events a))
    ∙ notes_of-note_events a

sorted-told : (a b : List Note) (es fs : List Event) → es ≡ note_events a ++ FreeSorted ∷ []
    → fs ≡ note_events b ++ FreeSorted ∷ [] → notes_of es ≡ notes_of fs → a ≡ b
sorted-told a b es fs h g e = sym (sorted-notes a) ∙ sym (ap notes_of h) ∙ e ∙ ap notes_of g ∙ sorted-notes b

-- an mlock's event is no note, and pages that come in tell theirs
locks-told : (m : Setting) (w : World) (l : Ledger) (p from n : ℕ) (es fs : List Event) (answer : Answer) (rows : List Row)
    → Locks m w l p from n es answer rows → Locks m w l p from n fs answer rows → notes_of es ≡ notes_of fs → es ≡ fs
locks-told m w l p from n es fs answer rows h g e =
    h.1 ∙ ap (λ coming. lock_event true (pages w p) p from n ∷ coming)
    (by (pages_to_hole (pages w p) from n == n) h.3 g.3) ∙ sym g.1
  where
    told : notes_of h.0 ≡ notes_of g.0
    told = sym (ap notes_of h.1) ∙ e ∙ ap notes_of g.1

    by : (whole : Bool)
        → MatchBool whole (BringsIn m w l p from n h.0 answer) ((h.0 ≡ []) × (answer ≡ Refused Enomem))
        → MatchBool whole (BringsIn m w l p from n g.0 answer) ((g.0 ≡ []) × (answer ≡ Refused Enomem))
        → h.0 ≡ g.0
    by true i j = (accesses-told m (with_lock true w p from n) l p (accesses_of (pages w p) from n) h.0 g.0
        i.0 j.0 i.1 j.1 told).0
    by false i j = i.0 ∙ sym j.0

-- that an area goes off is no note
silent : (k : ℕ) (end : Close) → notes_of (turn_off_events k end) ≡ []
silent k Closed = refl
silent k (NoRoom out) = refl
silent k Unread = refl

follows-told : (m : Setting) (w : World) (l : Ledger) (command : Command) (es fs : List Event) (answer : Answer)
    (rows : List Row) → Follows m w l command es answer rows → Follows m w l command fs answer rows
    → notes_of es ≡ notes_of fs → es ≡ fs
follows-told m w l (Spawn p) es fs answer rows h g e = h.1 ∙ sym g.1
follows-told m w l (Fork p q) es fs answer rows h g e = h.1 ∙ sym g.1
follows-told m w l (Exit p) es fs answer rows h g e = h.1 ∙ sym g.1
follows-told m w l (Mmap p len prot place) es fs answer rows h g e = h.3 ∙ sym g.3
follows-told m w l (Munmap p a len) es fs answer rows h g e = h.1 ∙ sym g.1
follows-told m w l (Mprotect p a len prot) es fs answer rows h g e = h.1 ∙ sym g.1
follows-told m w l (Mremap p a old new mode) es fs answer rows h g e =
    h.3 ∙ ap (λ to. events_to l p (page_of a) (pages_of old) to (pages_of new)) (place-told h.0 g.0 answer h.2 g.2)
    ∙ sym g.3
follows-told m w l (Madvise p a len advice) es fs answer rows h g e = h.1 ∙ sym g.1
follows-told m w l (Mlock p a len) es fs answer rows h g e = locks-told m w l p (page_of a) (pages_met a len) es fs answer rows h g e
follows-told m w l (Munlock p a len) es fs answer rows h g e = h.1 ∙ sym g.1
follows-told m w l (Read p a n) es fs answer rows h g e =
    (accesses-told m w l p (pages_of_access false a n) es fs h.0 g.0 h.2 g.2 e).0
follows-told m w l (Write p a bytes) es fs answer rows h g e =
    (accesses-told m w l p (pages_of_access true a _) es fs h.0 g.0 h.1 g.1 e).0
follows-told m w l (Maps p) es fs answer rows h g e = h.2 ∙ sym g.2
follows-told m w l (AsksAreas p) es fs answer rows h g e = h.2 ∙ sym g.2
follows-told m w l (AsksRmap p a) es fs answer rows h g e = h.1 ∙ sym g.1
follows-told m w l (AsksEntry p a) es fs answer rows h g e = h.1 ∙ sym g.1
follows-told m w l (AsksSlot k page) es fs answer rows h g e = h.1 ∙ sym g.1
follows-told m w l Stat es fs answer rows h g e = h.1 ∙ sym g.1
follows-told m w l (Reclaim n) es fs answer rows h g e =
    h.3 ∙ ap note_events (outcomes-told m (sparing w l None) l (from_tail n l.inactive) h.0 g.0 [] [] h.1 g.1
    (noted h.0 g.0 es fs h.3 g.3 e)) ∙ sym g.3
follows-told m w l (Age n) es fs answer rows h g e = h.1 ∙ sym g.1
follows-told m w l (Complete n) es fs answer rows h g e =
    h.3 ∙ ap note_events (completes-told l (take n l.flight) h.0 g.0 [] [] h.1 g.1 (noted h.0 g.0 es fs h.3 g.3 e))
    ∙ sym g.3
follows-told m w l Merge es fs answer rows h g e =
    note-told (merges m h.0 w l [] (map (λ e. e.0) l.entries)) (merges m g.0 w l [] (map (λ e. e.0) l.entries)) es fs h.2 g.2 e
follows-told m w l Compact es fs answer rows h g e =
    h.2 ∙ ap (λ ns. note_events ns ++ FreeSorted ∷ []) (sorted-told h.0 g.0 es fs h.2 g.2 e) ∙ sym g.2
follows-told m w l (Swapon k priority) es fs answer rows h g e = h.1 ∙ sym g.1
follows-told m w l (Swapoff k) es fs answer rows h g e =
    let off = off-told k h.end g.end (sym h.answered ∙ g.answered) in
    let all : (h : TurnsOff m w l k es answer rows) → notes_of es ≡ h.done ++ h.notes = λ h.
    ap notes_of h.whole ∙ notes_of-append (note_events (h.done ++ h.notes)) (turn_off_events k h.end)
    ∙ ap (λ r. notes_of (note_events (h.done ++ h.notes)) ++ r) (silent k h.end)
    ∙ append-nil (notes_of (note_events (h.done ++ h.notes))) ∙ notes_of-note_events (h.done ++ h.notes) in
    let all' : (g : TurnsOff m w l k fs answer rows) → notes_of fs ≡ g.done ++ g.notes = λ g.
    ap notes_of g.whole ∙ notes_of-append (note_events (g.done ++ g.notes)) (turn_off_events k g.end)
    ∙ ap (λ r. notes_of (note_events (g.done ++ g.notes)) ++ r) (silent k g.end)
    ∙ append-nil (notes_of (note_events (g.done ++ g.notes))) ∙ notes_of-note_events (g.done ++ g.notes) in
    let same = sym (all h) ∙ e ∙ all' g in
    h.whole ∙ (λ i. note_events (same i) ++ off i) ∙ sym g.whole

pub legal-told : (m : Setting) (w : World) (l : Ledger) (command : Command) (reply : Reply) (es fs : List Event)
    → IsLegal m w l command reply es → IsLegal m w l command reply fs → es ≡ fs
legal-told m w l command reply es fs h g = by (refusal (tests m w l command)) h.answer g.answer
  where
    by : (o : Option Errno)
        → MatchOption o (Follows m w l command es reply.answer reply.rows) (λ error. Refuses error es reply.answer reply.rows)
        → MatchOption o (Follows m w l command fs reply.answer reply.rows) (λ error. Refuses error fs reply.answer reply.rows)
        → es ≡ fs
    by None p q = follows-told m w l command es fs reply.answer reply.rows p q (sym h.notes ∙ g.notes)
    by (Some error) p q = p.1 ∙ sym q.1
