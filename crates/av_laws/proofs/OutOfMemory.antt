-- The numbers of an out-of-memory are all frames.
use Rattle.std.proofs.Common.{◌≡◌, ◌⊎◌, inl, inr, ℕ, zero, suc, ◌+◌, ◌<◌, ◌≤◌, Bool, true, false, cond, not, List, [], ◌∷◌, length, Option, Some, None, is_none, is_some, refl, sym, ap, subst, arith, ◌==◌, if◌then◌else◌, ◌&&◌, ◌||◌, nat_lt}
use Rattle.std.proofs.lemmas.Bool.Decides.{nat_tests}
use Rattle.std.specs.Prelude.{IfSome, MatchBool, MatchOption}
use Rattle.av_trace.specs.declared.command.Command.{Command}
use Rattle.av_trace.specs.declared.command.Command.TheVariants.{Compact, Merge, Spawn, Fork, Exit, Mmap, Mremap, Munmap, Mprotect, Madvise, Mlock, Munlock, Read, Write, Reclaim, Age, Complete, Swapon, Swapoff, Maps, Areas as AsksAreas, Rmap as AsksRmap, Entry as AsksEntry, Slot as AsksSlot, Stat}
use Rattle.av_trace.specs.declared.reply.Errno.{Errno}
use Rattle.av_trace.specs.declared.reply.Errno.TheVariants.{Einval, Eio, Enomem}
use Rattle.av_trace.specs.declared.reply.Reply.{Reply}
use Rattle.av_trace.specs.declared.row.Row.{Row}
use Rattle.av_trace.specs.declared.reply.Answer.{Answer}
use Rattle.av_trace.specs.declared.reply.Answer.TheVariants.{Done, NoFrame, Refused, Oom, SlotBad}
use Rattle.av_base.specs.Keys.{Key}
use Rattle.av_base.specs.Page.{address_of, page_of, pages_met, pages_of}
use Rattle.av_base.specs.Words.{how_many}
use Rattle.std.specs.List.{range_with_len}
use Rattle.av_base.specs.declared.slot.Slot.{Slot}
use Rattle.av_trace.specs.declared.note.Note.{Note}
use Rattle.av_trace.specs.declared.reply.OutOf.{OutOf}
use Rattle.av_plain.specs.Access.{Accesses, End, Stopped, Whole, bytes_before, page_events, pages_of_access, read_answer, stop_answer, write_answer}
use Rattle.av_plain.specs.Advice.{flag_of_advice, pages_advised}
use Rattle.av_plain.specs.Lock.{BringsIn, accesses_of, with_lock}
use Rattle.av_plain.specs.Event.{Event, after_all, after_notes}
use Rattle.av_plain.specs.Fault.{ComesIn, CopyOnWrite, Denied, Lost, Ready, RunsOut, Starved, Stop, Touches, asks_copy, need, need_of_slot, pinned_by, sparing}
use Rattle.av_plain.specs.Ledger.{Entry, InFrame, InSlot, Ledger, Setting, Zero, entry, frame_at, has_free, is_merged, is_usable, names_frame, slot_of, slots_in_use}
use Rattle.av_plain.specs.Pass.{Spared, is_pinned, out_of}
use Rattle.av_plain.specs.Place.{IsMapAt}
use Rattle.av_plain.specs.Refusal.{Refuses, low, refusal, tests}
use Rattle.av_plain.specs.Report.{MayBeNoSlot, count_answer, entry_answer, slot_answer, walk_answer}
use Rattle.av_plain.specs.Swapoff.{Close, Closed, Empties, EndsAt, NoRoom, Unread, close_answer, sparing_area}
use Rattle.av_plain.specs.Swapon.{IsByHeader, header_answer}
use Rattle.av_swapdev.specs.Header.{Layout}
use Rattle.av_plain.specs.Sound.{AllSound, IsSound}
use Rattle.av_plain.specs.Step.{Follows, IsLegal}
use Rattle.av_plain.specs.World.{World, pages, pages_to_hole}
use Rattle.av_plain.proofs.Ledger.{how_many-found}
use Rattle.av_plain.proofs.Ledger.NoSwap.{itself}
use Rattle.av_plain.proofs.Sound.Access.{comes-kept, page_events-kept, touches-kept}

abbrev pub AddUp : Setting → OutOf → Type 0
AddUp m out = out.pinned + out.locked + out.ksm + out.noslot + out.fault ≡ m.frames

-- ---- counted

-- a frame is pinned, else locked, else merged, else not cached, else cached
parts : (pinned locked : ℕ → Bool) (l : Ledger) (fs : List ℕ) → how_many pinned fs + how_many (λ f. not (pinned f) && locked f) fs
    + how_many (λ f. not (pinned f || locked f) && is_merged l f) fs
    + how_many (λ f. not (pinned f || locked f) && not (is_merged l f) && is_none (slot_of l f)) fs
    + how_many (λ f. not (pinned f || locked f) && not (is_merged l f) && is_some (slot_of l f)) fs ≡ length fs
parts pinned locked l [] = refl
parts pinned locked l (f ∷ fs) = each (pinned f) (locked f) (is_merged l f) (slot_of l f) _ _ _ _ _ _ (parts pinned locked l fs)
  where
    each : (p k g : Bool) (o : Option Slot) (a b c d e n : ℕ) → a + b + c + d + e ≡ n → (cond p 1 0 + a) + (cond (not p && k) 1 0 + b)
        + (cond (not (p || k) && g) 1 0 + c) + (cond (not (p || k) && not g && is_none o) 1 0 + d)
        + (cond (not (p || k) && not g && is_some o) 1 0 + e) ≡ suc n
    each true k g o a b c d e n h = omega (arith, h)
    each false true g o a b c d e n h = omega (arith, h)
    each false false true o a b c d e n h = omega (arith, h)
    each false false false None a b c d e n h = omega (arith, h)
    each false false false (Some t) a b c d e n h = omega (arith, h)

length-numbers : (a n : ℕ) → length (range_with_len a n) ≡ n
length-numbers a zero = refl
length-numbers a (suc n) = ap suc (length-numbers (a + 1) n)

none-above : (g a n : ℕ) → g < a → how_many (λ f. g == f) (range_with_len a n) ≡ 0
none-above g a zero h = refl
none-above g a (suc n) h = by (g == a) refl (none-above g (a + 1) n (omega (arith, h)))
  where
    by : (b : Bool) → (g == a) ≡ b → how_many (λ f. g == f) (range_with_len (a + 1) n) ≡ 0
        → cond b 1 0 + how_many (λ f. g == f) (range_with_len (a + 1) n) ≡ 0
    by true is rest = absurd (grind (arith, nat_tests, is, h))
    by false is rest = omega (arith, rest)

-- a frame in range is one
once : (g a n : ℕ) → a ≤ g → g < a + n → how_many (λ f. g == f) (range_with_len a n) ≡ 1
once g a zero low high = absurd (omega (arith, low, high))
once g a (suc n) low high = by (g == a) refl (λ above. once g (a + 1) n above (omega (arith, high)))
  where
    by : (b : Bool) → (g == a) ≡ b → (a + 1 ≤ g → how_many (λ f. g == f) (range_with_len (a + 1) n) ≡ 1) → cond b 1 0 + how_many (λ f. g == f)
        (range_with_len (a + 1) n) ≡ 1
    by true is rest = let z = none-above g (a + 1) n (grind (arith, nat_tests, is)) in omega (arith, z)
    by false is rest = let e = rest (grind (arith, nat_tests, is, low)) in omega (arith, e)

none-pinned : (fs : List ℕ) → how_many (is_pinned None) fs ≡ 0
none-pinned [] = refl
none-pinned (f ∷ fs) = let e = none-pinned fs in omega (arith, e)

pub numbers-add : (m : Setting) (sp : Spared) (now : Ledger) → IfSome sp.pinned (λ g. g < m.frames) → AddUp m (out_of m sp now)
numbers-add m sp now below = by sp.pinned below
  where
    b : length (range_with_len 0 m.frames) ≡ m.frames
    b = length-numbers 0 m.frames

    by : (pinned : Option ℕ) → IfSome pinned (λ g. g < m.frames)
        → AddUp m (out_of m (record { pinned = pinned; locked = sp.locked; closing = sp.closing }) now)
    by None below =
        let a = parts (is_pinned None) sp.locked now (range_with_len 0 m.frames) in
        let c = none-pinned (range_with_len 0 m.frames) in omega (arith, a, b, c)
    by (Some g) below =
        let a = parts (is_pinned (Some g)) sp.locked now (range_with_len 0 m.frames) in
        let c = once g 0 m.frames (omega arith) (omega (arith, below)) in omega (arith, a, b, c)

-- ---- the pinned frame is one of the machine's

pinned-below : (m : Setting) (l : Ledger) (write : Bool) (k : Key) → IsSound m l → IfSome (pinned_by (need write l (entry l k))) (λ g. g < m.frames)
pinned-below m l write k s = by write (entry l k) refl
  where
    below : (g : ℕ) (seen : Bool) → entry l k ≡ Some (InFrame g seen) → g < m.frames
    below g seen is = s.in_range g (let found = how_many-found (names_frame g) k l.entries (InFrame g seen) is (itself g) in omega (arith, found))

    shared : (g : ℕ) (b : Bool) → g < m.frames → IfSome (pinned_by (cond b (CopyOnWrite g) Ready)) (λ g. g < m.frames)
    shared g true h = h
    shared g false h = tt

    slot : (t : Slot) (o : Option ℕ) → IfSome (pinned_by (need_of_slot t o)) (λ g. g < m.frames)
    slot t None = tt
    slot t (Some f) = tt

    by : (write : Bool) (o : Option Entry) → entry l k ≡ o → IfSome (pinned_by (need write l o)) (λ g. g < m.frames)
    by false None is = tt
    by true None is = tt
    by false (Some Zero) is = tt
    by true (Some Zero) is = tt
    by false (Some (InFrame g seen)) is = tt
    by true (Some (InFrame g seen)) is = shared g (asks_copy l g) (below g seen is)
    by false (Some (InSlot t)) is = slot t (frame_at l t)
    by true (Some (InSlot t)) is = slot t (frame_at l t)

runs_out-adds : (m : Setting) (w : World) (l : Ledger) (write : Bool) (k : Key) (notes : List Note) (out : OutOf) → IsSound m l →
    RunsOut m (sparing w) l write k notes out → AddUp m out
runs_out-adds m w l write k notes out s h =
    let l1 = after_notes l h.coming in
    subst (AddUp m) (sym h.finds.numbers) (numbers-add m (sparing w l1 (pinned_by (need write l1 (entry l1 k)))) (after_notes l1 h.sought)
    (pinned-below m l1 write k (before h.before)))
  where
    before : (h.coming ≡ []) ⊎ ComesIn m (sparing w) l k (need write l (entry l k)) h.coming → IsSound m (after_notes l h.coming)
    before (inl e) = subst (λ ns. IsSound m (after_notes l ns)) (sym e) s
    before (inr q) = comes-kept m (sparing w) l write k h.coming s q

-- ---- an access, and a reply

-- where an access ends for want of a frame, its numbers add up
abbrev pub StopAdds : Setting → Stop → Type 0
StopAdds m Denied = Unit {0}
StopAdds m (Starved out) = AddUp m out
StopAdds m Lost = Unit {0}

abbrev pub EndAdds : Setting → End → Type 0
EndAdds m Whole = Unit {0}
EndAdds m (Stopped page stop) = StopAdds m stop

touches-add : (m : Setting) (w : World) (l : Ledger) (write : Bool) (k : Key) (notes : List Note) (stop : Stop) → IsSound m l →
    Touches m w l write k notes (Some stop) → StopAdds m stop
touches-add m w l write k notes Denied s h = tt
touches-add m w l write k notes (Starved out) s h = runs_out-adds m w l write k notes out s h.1
touches-add m w l write k notes Lost s h = tt

accesses-add : (m : Setting) (w : World) (l : Ledger) (p : ℕ) (pages : List (Bool × ℕ)) (events : List Event) (end : End) → IsSound m l →
    Accesses m w l p pages events end → EndAdds m end
accesses-add m w l p [] events end s h = subst (EndAdds m) (sym h.1) tt
accesses-add m w l p (page ∷ pages) events end s (inl h) =
    accesses-add m w (after_all l (page_events page.0 (p, page.1) h.0 None)) p pages h.1 end
    (page_events-kept m l page.0 (p, page.1) h.0 None (touches-kept m w l page.0 (p, page.1) h.0 None s h.2)) h.4
accesses-add m w l p (page ∷ pages) events end s (inr h) = subst (EndAdds m) (sym h.4) (touches-add m w l page.0 (p, page.1) h.0 h.1 s h.2)

-- the numbers of an answer, if it is one of want of a frame
abbrev AnswerAdds : Setting → Answer → Type 0
AnswerAdds m (Oom k out shown) = AddUp m out
AnswerAdds m (NoFrame out) = AddUp m out
AnswerAdds m answer = Unit {0}

stop-adds : (m : Setting) (stop : Stop) (k : ℕ) (shown : List ℕ) → StopAdds m stop → AnswerAdds m (stop_answer stop k shown)
stop-adds m Denied k shown adds = tt
stop-adds m (Starved out) k shown adds = adds
stop-adds m Lost k shown adds = tt

read-adds : (m : Setting) (a : ℕ) (end : End) (shown : List ℕ) → EndAdds m end → AnswerAdds m (read_answer a end shown)
read-adds m a Whole shown adds = tt
read-adds m a (Stopped page stop) shown adds = stop-adds m stop (bytes_before a page) shown adds

write-adds : (m : Setting) (a : ℕ) (end : End) → EndAdds m end → AnswerAdds m (write_answer a end)
write-adds m a Whole adds = tt
write-adds m a (Stopped page stop) adds = stop-adds m stop (bytes_before a page) [] adds

walk-adds : (m : Setting) (l : Ledger) (e : Option Entry) → AnswerAdds m (walk_answer l e)
walk-adds m l None = tt
walk-adds m l (Some Zero) = tt
walk-adds m l (Some (InFrame f seen)) = tt
walk-adds m l (Some (InSlot s)) = tt

entry-adds : (m : Setting) (l : Ledger) (e : Option Entry) → AnswerAdds m (entry_answer l e)
entry-adds m l None = tt
entry-adds m l (Some Zero) = tt
entry-adds m l (Some (InFrame f seen)) = tt
entry-adds m l (Some (InSlot s)) = tt

swapon-adds : (m : Setting) (k : ℕ) (answer : Answer) → (answer ≡ Refused Eio) ⊎ IsByHeader m.headers k answer → AnswerAdds m answer
swapon-adds m k answer (inl e) = subst (AnswerAdds m) (sym e) tt
swapon-adds m k answer (inr h) = by m.headers h
  where
    of_header : (o : Option Layout) → AnswerAdds m (header_answer o)
    of_header None = tt
    of_header (Some layout) = tt

    by : (o : Option (ℕ → Option Layout)) → IsByHeader o k answer → AnswerAdds m answer
    by (Some headers) e = subst (AnswerAdds m) (sym e) (of_header (headers k))
    by None (inl e) = subst (AnswerAdds m) (sym e) tt
    by None (inr h) = subst (AnswerAdds m) (sym h.3) tt

-- where a swapoff ends for want of a frame
abbrev pub CloseAdds : Setting → Close → Type 0
CloseAdds m Closed = Unit {0}
CloseAdds m (NoRoom out) = AddUp m out
CloseAdds m Unread = Unit {0}

ends-add : (m : Setting) (w : World) (k : ℕ) (l : Ledger) (pages : List ℕ) (notes : List Note) (end : Close) →
    EndsAt m (sparing_area w k l) k l pages notes end → CloseAdds m end
ends-add m w k l [] notes end h = subst (CloseAdds m) (sym h.1) tt
ends-add m w k l (page ∷ pages) notes end h = subst (CloseAdds m) (sym h.2) (by (has_free m (after_notes l notes)))
  where
    by : (b : Bool) → CloseAdds m (if b then Unread else NoRoom (out_of m (sparing_area w k l) (after_notes l notes)))
    by true = tt
    by false = numbers-add m (sparing_area w k l) (after_notes l notes) tt

empties-add : (m : Setting) (w : World) (k : ℕ) (l : Ledger) (pages : List ℕ) (notes : List Note) (end : Close) →
    Empties m w k l pages notes end → CloseAdds m end
empties-add m w k l [] notes end h = ends-add m w k l (slots_in_use m l k) notes end h
empties-add m w k l (page ∷ pages) notes end h = empties-add m w k (after_notes l h.1) pages h.2 end h.6

close-adds : (m : Setting) (end : Close) → CloseAdds m end → AnswerAdds m (close_answer end)
close-adds m Closed adds = tt
close-adds m (NoRoom out) adds = adds
close-adds m Unread adds = tt

slot-adds : (m : Setting) (l : Ledger) (s : Slot) (answer : Answer) → MatchOption m.headers ((answer ≡ count_answer l s) ⊎ MayBeNoSlot l s answer)
    (λ headers. answer ≡ slot_answer m l s) → AnswerAdds m answer
slot-adds m l s answer h = by m.headers h
  where
    told : (b : Bool) → AnswerAdds m (if b then count_answer l s else SlotBad s)
    told true = tt
    told false = tt

    by : (o : Option (ℕ → Option Layout)) → MatchOption o ((answer ≡ count_answer l s) ⊎ MayBeNoSlot l s answer)
        (λ headers. answer ≡ slot_answer m l s) → AnswerAdds m answer
    by (Some headers) e = subst (AnswerAdds m) (sym e) (told (is_usable m s))
    by None (inl e) = subst (AnswerAdds m) (sym e) tt
    by None (inr (unused, inl e)) = subst (AnswerAdds m) (sym e) tt
    by None (inr (unused, inr e)) = subst (AnswerAdds m) (sym e) tt

follows-add : (m : Setting) (w : World) (l : Ledger) (command : Command) (events : List Event) (answer : Answer) (rows : List Row) → IsSound m l →
    Follows m w l command events answer rows → AnswerAdds m answer
follows-add m w l (Spawn p) events answer rows s h = subst (AnswerAdds m) (sym h.0) tt
follows-add m w l (Fork p q) events answer rows s h = subst (AnswerAdds m) (sym h.0) tt
follows-add m w l (Exit p) events answer rows s h = subst (AnswerAdds m) (sym h.0) tt
follows-add m w l (Mmap p len prot place) events answer rows s h = by h.0 h.2
  where
    by : (to : Option ℕ) → IsMapAt answer to → AnswerAdds m answer
    by None e = subst (AnswerAdds m) (sym e) tt
    by (Some page) e = subst (AnswerAdds m) (sym e) tt
follows-add m w l (Munmap p a len) events answer rows s h = subst (AnswerAdds m) (sym h.0) tt
follows-add m w l (Mprotect p a len prot) events answer rows s h =
    subst (AnswerAdds m) (sym h.0) (by (pages_to_hole (pages w p) (page_of a) (pages_of len) == pages_of len))
  where
    by : (b : Bool) → AnswerAdds m (if b then Done else Refused Enomem)
    by true = tt
    by false = tt
follows-add m w l (Mremap p a old new mode) events answer rows s h = by h.0 h.2
  where
    by : (to : Option ℕ) → IsMapAt answer to → AnswerAdds m answer
    by None e = subst (AnswerAdds m) (sym e) tt
    by (Some page) e = subst (AnswerAdds m) (sym e) tt
follows-add m w l (Madvise p a len advice) events answer rows s h = subst (AnswerAdds m) (sym h.0)
    (by (nat_lt (pages_advised (pages w p) (page_of a) (pages_of len) (flag_of_advice advice)) (pages_of len))
    (pages_to_hole (pages w p) (page_of a) (pages_of len) == pages_of len))
  where
    by : (b c : Bool) → AnswerAdds m (if b then Refused Einval else (if c then Done else Refused Enomem))
    by true c = tt
    by false true = tt
    by false false = tt
follows-add m w l (Mlock p a len) events answer rows s h = by (pages_to_hole (pages w p) (page_of a) (pages_met a len) == pages_met a len) h.3
  where
    by : (b : Bool) → MatchBool b (BringsIn m w l p (page_of a) (pages_met a len) h.0 answer) ((h.0 ≡ []) × (answer ≡ Refused Enomem))
        → AnswerAdds m answer
    by true q = subst (AnswerAdds m) (sym q.2) (write-adds m (address_of (page_of a)) q.0
        (accesses-add m (with_lock true w p (page_of a) (pages_met a len)) l p (accesses_of (pages w p) (page_of a) (pages_met a len)) h.0 q.0 s q.1))
    by false q = subst (AnswerAdds m) (sym q.1) tt
follows-add m w l (Munlock p a len) events answer rows s h = subst (AnswerAdds m) (sym h.0)
    (by (pages_to_hole (pages w p) (page_of a) (pages_met a len) == pages_met a len))
  where
    by : (b : Bool) → AnswerAdds m (if b then Done else Refused Enomem)
    by true = tt
    by false = tt
follows-add m w l (Read p a n) events answer rows s h = subst (AnswerAdds m) (sym h.4)
    (read-adds m a h.0 h.1 (accesses-add m w l p (pages_of_access false a n) events h.0 s h.2))
follows-add m w l (Write p a bytes) events answer rows s h = subst (AnswerAdds m) (sym h.2)
    (write-adds m a h.0 (accesses-add m w l p (pages_of_access true a (length bytes)) events h.0 s h.1))
follows-add m w l (Reclaim n) events answer rows s h = subst (AnswerAdds m) (sym h.2) tt
follows-add m w l (Age n) events answer rows s h = subst (AnswerAdds m) (sym h.0) tt
follows-add m w l (Complete n) events answer rows s h = subst (AnswerAdds m) (sym h.2) tt
follows-add m w l (Swapon k priority) events answer rows s h = swapon-adds m k answer h.0
follows-add m w l (Swapoff k) events answer rows s h = subst (AnswerAdds m) (sym h.answered) (close-adds m h.end
    (empties-add m w k (after_notes l h.done) h.pages h.notes h.end h.empties))
follows-add m w l Merge events answer rows s h = subst (AnswerAdds m) (sym h.3) tt
follows-add m w l Compact events answer rows s h = subst (AnswerAdds m) (sym h.3) tt
follows-add m w l (Maps p) events answer rows s h = subst (AnswerAdds m) (sym h.0) tt
follows-add m w l (AsksAreas p) events answer rows s h = subst (AnswerAdds m) (sym h.0) tt
follows-add m w l (AsksRmap p a) events answer rows s h = subst (AnswerAdds m) (sym h.0) (walk-adds m l (entry l (p, page_of a)))
follows-add m w l (AsksEntry p a) events answer rows s h = subst (AnswerAdds m) (sym h.0) (entry-adds m l (entry l (p, page_of a)))
follows-add m w l (AsksSlot k page) events answer rows s h = slot-adds m l (record { area = k; page = page }) answer h.0
follows-add m w l Stat events answer rows s h = subst (AnswerAdds m) (sym h.0) tt

legal-numbers : (m : Setting) (w : World) (l : Ledger) (command : Command) (reply : Reply) (events : List Event) → AllSound m w l →
    IsLegal m w l command reply events → AnswerAdds m reply.answer
legal-numbers m w l command reply events s legal = by (refusal (tests m w l command)) legal.answer
  where
    by : (o : Option Errno)
        → MatchOption o (Follows m w l command events reply.answer reply.rows) (λ error. Refuses error events reply.answer reply.rows) →
        AnswerAdds m reply.answer
    by None h = follows-add m w l command events reply.answer reply.rows s.ledger h
    by (Some error) h = subst (AnswerAdds m) (sym h.0) tt

pub legal-adds : (m : Setting) (w : World) (l : Ledger) (command : Command) (reply : Reply) (events : List Event) (k : ℕ) (out : OutOf)
    (shown : List ℕ)
    → AllSound m w l → IsLegal m w l command reply events → reply.answer ≡ Oom k out shown → out.pinned + out.locked + out.ksm + out.noslot + out.fault ≡ m.frames
legal-adds m w l command reply events k out shown s legal is = subst (AnswerAdds m) is (legal-numbers m w l command reply events s legal)

pub close-adds-up : (m : Setting) (w : World) (l : Ledger) (command : Command) (reply : Reply) (events : List Event) (out : OutOf)
    → AllSound m w l → IsLegal m w l command reply events → reply.answer ≡ NoFrame out → out.pinned + out.locked + out.ksm + out.noslot + out.fault ≡ m.frames
close-adds-up m w l command reply events out s legal is = subst (AnswerAdds m) is (legal-numbers m w l command reply events s legal)
