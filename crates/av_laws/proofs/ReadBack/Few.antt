-- A step makes few anon_vmas: one for each page that gets a frame, and one for each area of a parent.
use Rattle.std.specs.List.{AllByRecursion, range_with_len}
use Rattle.std.proofs.Common.{◌≡◌, ◌⊎◌, inl, inr, ℕ, zero, suc, ◌+◌, ◌-◌, ◌*◌, ◌≤◌, min, Bool, true, false, cond, List, [], ◌∷◌, ◌++◌, length, map, not, nat_lt, take, Option, Some, None, append-nil, refl, sym, ap, subst, ◌∙◌, arith, ◌==◌, if◌then◌else◌}
use Rattle.std.proofs.lemmas.List.{length-append}
use Rattle.std.specs.Prelude.{MatchBool, MatchOption, filter}
use Rattle.av_base.specs.Keys.{Key}
use Rattle.av_base.specs.Limits.{most_locked, top_page}
use Rattle.av_base.specs.Page.{address_of, page_of, pages_met, pages_of, place_in_page}
use Rattle.av_base.specs.Words.{how_many, with_at}
use Rattle.av_base.specs.declared.slot.Slot.{Slot}
use Rattle.av_trace.specs.Command.{IsInRange}
use Rattle.av_trace.specs.declared.command.Command.{Command}
use Rattle.av_trace.specs.declared.command.Command.TheVariants.{Compact, Merge, Spawn, Fork, Exit, Mmap, Mremap, Munmap, Mprotect, Madvise, Mlock, Munlock, Read, Write, Reclaim, Age, Complete, Swapon, Swapoff, Maps, Areas as AsksAreas, Rmap as AsksRmap, Entry as AsksEntry, Slot as AsksSlot, Stat}
use Rattle.av_trace.specs.declared.note.Note.{Note}
use Rattle.av_trace.specs.declared.note.Note.TheVariants.{Aged, Copied, Dropped, Failed, Kept, Loaded, Mapped, New, Put, Started, Unmapped, Written, Zeroed, Joined, Moved, Shared}
use Rattle.av_trace.specs.declared.place.Place.TheVariants.{Auto, At, Fixed, NoReplace}
use Rattle.av_trace.specs.declared.reply.Errno.{Errno}
use Rattle.av_trace.specs.declared.reply.Errno.TheVariants.{Einval, Enomem, Esrch}
use Rattle.av_trace.specs.declared.reply.Answer.{Answer}
use Rattle.av_trace.specs.declared.reply.Answer.TheVariants.{Refused}
use Rattle.av_trace.specs.declared.reply.OutOf.{OutOf}
use Rattle.av_trace.specs.declared.reply.Reply.{Reply}
use Rattle.av_vma.specs.Index.{first_of, past_of}
use Rattle.av_vma.specs.Pages.{AreLaid, makes_anon, pages_in}
use Rattle.av_vma.specs.Fork.{areas_to_fork, own_to_fork}
use Rattle.av_vma.specs.declared.area.Area.{Area}
use Rattle.av_plain.specs.Access.{Accesses, End, pages_of_access}
use Rattle.av_base.specs.declared.flags.Flag.{Flag}
use Rattle.std.proofs.lemmas.Bool.Decides.{nat_tests}
use Rattle.av_plain.specs.Advice.{advice_events, flag_of_advice, pages_advised}
use Rattle.av_plain.specs.Lock.{BringsIn, access_of, accesses_of, with_lock}
use Rattle.av_plain.specs.Areas.{Anons, Rmap, chain_length, none_on, prepare_page, rmap_after_all, with_root}
use Rattle.av_plain.specs.Event.{Event, EntriesMoved, FreeSorted, Noted, TurnedOn, Used, Zapped, after, after_all, after_note, after_notes, note_events, notes_of, when}
use Rattle.av_plain.specs.Fault.{ComesIn, CopyOnWrite, Denied, IsMade, Lost, MapCached, Need, NewPage, Ready, RunsOut, Serves, Sparing, Starved, Stop, SwapIn, Touches, ZeroPage, drop_at, drop_of_entry, drop_of_slot, is_unneeded, need, pinned_by, sparing, was_slot}
use Rattle.av_plain.specs.Fork.{AreForked, GoOver, GoesBy}
use Rattle.av_plain.specs.Ledger.{Entry, InFrame, InSlot, Ledger, Setting, SwapArea, Zero, entry, frame_at, is_orphan, keys_of_slot, slot_of, slots_in_use}
use Rattle.av_plain.specs.Compact.{MovesDown}
use Rattle.av_plain.specs.Merge.{FrameBytes, candidate, join_notes, merge_notes, merged_like, merges, other_like, with_candidate}
use Rattle.av_plain.proofs.Sound.Frames.{move-is}
use Rattle.av_plain.specs.Mremap.{events_to, range_zaps, remap_events}
use Rattle.av_plain.specs.Pass.{Seeks, Spared, TakesFor}
use Rattle.av_plain.specs.Refusal.{Refuses, locks_too_many, ends_too_high, refusal, tests}
use Rattle.av_plain.specs.Report.{AreApart, range_of}
use Rattle.av_plain.specs.Swapoff.{Close, Closed, Empties, EndsAt, IsEmptied, NoRoom, Unread, map_notes, sparing_area, turn_off_events}
use Rattle.av_plain.specs.Swapon.{turn_on_events}
use Rattle.av_plain.specs.Step.{Follows, IsLegal}
use Rattle.av_plain.specs.Transcript.{IsStep, State, rmap_of}
use Rattle.av_plain.specs.World.{Page, Process, World, allows, lives, pages, pages_to_hole}
use Rattle.av_plain.specs.Zap.{keys_in, orphan_drop, slot_behind_key, zap_of, zaps_of}
use Rattle.av_plain.proofs.Access.{notes_of-append, notes_of-note_events}
use Rattle.av_plain.proofs.AreasLeft.{prepare_event, prepare_events, prepare_note, rmap_after_all-notes}
use Rattle.av_plain.proofs.Ledger.{how_many-append}
use Rattle.av_plain.proofs.Sound.Swap.Area.{turn-on-events}
use Rattle.av_plain.proofs.Report.Areas.{all_from, on_first}
use Rattle.av_plain.proofs.Sound.Pages.{AllBring, Brings, bring-completes, bring-seeks}
use Rattle.av_plain.proofs.Sound.Swap.{bring-ages, bring-outcomes}
use Rattle.av_plain.specs.Reclaim.{from_tail}
use Rattle.av_plain.proofs.Transcript.{IsFork, IsPlain, next-cases}
use Rattle.av_laws.specs.Covered.{CoverBelow}
use Rattle.av_laws.proofs.Covered.{later-laid}

-- ---- notes that prepare an area

abbrev is_new : Note → Bool
is_new (New p a f) = true
is_new note = false

abbrev news : List Note → ℕ
news notes = how_many is_new notes

-- notes that bring no entry aren't among them
none-new : (notes : List Note) → AllBring (λ k. false) notes → news notes ≡ 0
none-new [] h = refl
none-new (note ∷ notes) h = one note h.0 (none-new notes h.1)
  where
    one : (note : Note) → Brings (λ k. false) note → news notes ≡ 0 → news (note ∷ notes) ≡ 0
    one (Zeroed p a) h rest = omega (arith, rest)
    one (New p a f) h rest = cc
    one (Copied p a f) h rest = omega (arith, rest)
    one (Mapped p a f) h rest = omega (arith, rest)
    one (Loaded s f) h rest = omega (arith, rest)
    one (Put f s) h rest = omega (arith, rest)
    one (Unmapped f) h rest = omega (arith, rest)
    one (Started s) h rest = omega (arith, rest)
    one (Written s) h rest = omega (arith, rest)
    one (Failed s) h rest = omega (arith, rest)
    one (Dropped s) h rest = omega (arith, rest)
    one (Kept f c) h rest = omega (arith, rest)
    one (Aged f) h rest = omega (arith, rest)
    one (Shared f) h rest = omega (arith, rest)
    one (Joined p a f) h rest = omega (arith, rest)
    one (Moved from to) h rest = omega (arith, rest)

seeks-new : (m : Setting) (sp : Spared) (l : Ledger) (notes : List Note) → Seeks m sp l notes → news notes ≡ 0
seeks-new m sp l notes h = none-new notes (bring-seeks (λ k. false) m sp l notes h)

two-new : (a b : List Note) (i j : ℕ) → news a ≤ i → news b ≤ j → news (a ++ b) ≤ i + j
two-new a b i j x y = let all = how_many-append is_new a b in omega (arith, all, x, y)

same-new : (a b : List Note) (i : ℕ) → a ≡ b → news b ≤ i → news a ≤ i
same-new a b i e h = subst (λ (ns : List Note). news ns ≤ i) (sym e) h

takes-new : (m : Setting) (sp : Spared) (l : Ledger) (notes : List Note) (note : ℕ → Note) (i : ℕ) → ((f : ℕ) → news (note f ∷ []) ≤ i)
    → TakesFor m sp l notes note → news notes ≤ i
takes-new m sp l notes note i h takes =
    let none = seeks-new m sp l takes.sought takes.seeks in
    let both = two-new takes.sought (note takes.frame ∷ []) 0 i (omega (arith, none)) (h takes.frame) in
    same-new notes (takes.sought ++ note takes.frame ∷ []) i takes.whole (omega (arith, both))

-- ---- a page

comes-new : (m : Setting) (sp : Sparing) (l : Ledger) (k : Key) (n : Need) (notes : List Note) → ComesIn m sp l k n notes → news notes ≤ 0
comes-new m sp l k (SwapIn s) notes q =
    same-new notes (q.0 ++ Mapped k.0 (address_of k.1) q.1 ∷ []) 0 q.4
    (two-new q.0 (Mapped k.0 (address_of k.1) q.1 ∷ []) 0 0 (takes-new m (sp l None) l q.0 (Loaded s) 0 (λ f. omega arith) q.2) (omega arith))
comes-new m sp l k (MapCached f) notes q = same-new notes (Mapped k.0 (address_of k.1) f ∷ []) 0 q (omega arith)
comes-new m sp l k Ready notes q = same-new notes [] 0 q (omega arith)
comes-new m sp l k ZeroPage notes q = same-new notes [] 0 q (omega arith)
comes-new m sp l k NewPage notes q = same-new notes [] 0 q (omega arith)
comes-new m sp l k (CopyOnWrite g) notes q = same-new notes [] 0 q (omega arith)

made-new : (m : Setting) (sp : Sparing) (l : Ledger) (k : Key) (n : Need) (notes : List Note) → IsMade m sp l k n notes → news notes ≤ 1
made-new m sp l k Ready notes q = same-new notes [] 1 q (omega arith)
made-new m sp l k ZeroPage notes q = same-new notes (Zeroed k.0 (address_of k.1) ∷ []) 1 q (omega arith)
made-new m sp l k NewPage notes q = takes-new m (sp l None) l notes (New k.0 (address_of k.1)) 1 (λ f. omega arith) q
made-new m sp l k (CopyOnWrite g) notes q = takes-new m (sp l (Some g)) l notes (Copied k.0 (address_of k.1)) 1 (λ f. omega arith) q
made-new m sp l k (SwapIn s) notes q = absurd q
made-new m sp l k (MapCached f) notes q = absurd q

drop-new : (m : Setting) (write came : Bool) (l : Ledger) (k : Key) → news (drop_at m write came l k) ≤ 0
drop-new m write came l k = by (entry l k)
  where
    one : (t : Slot) (b : Bool) → news (when b (Dropped t)) ≤ 0
    one t true = omega arith
    one t false = omega arith

    slot : (o : Option Slot) → news (drop_of_slot m write came l o) ≤ 0
    slot None = omega arith
    slot (Some t) = one t (is_unneeded m write came l t)

    by : (o : Option Entry) → news (drop_of_entry m write came l o) ≤ 0
    by None = omega arith
    by (Some Zero) = omega arith
    by (Some (InFrame f seen)) = slot (slot_of l f)
    by (Some (InSlot t)) = omega arith

serves-new : (m : Setting) (sp : Sparing) (l : Ledger) (write : Bool) (k : Key) (notes : List Note) → Serves m sp l write k notes → news notes ≤ 1
serves-new m sp l write k notes h =
    let now = after_notes l h.coming in
    let made = after_notes l (h.coming ++ h.making) in
    let came = was_slot (need write l (entry l k)) in
    same-new notes ((h.coming ++ h.making) ++ drop_at m write came made k) 1 h.whole
    (two-new (h.coming ++ h.making) (drop_at m write came made k) 1 0
    (two-new h.coming h.making 0 1 (comes-new m sp l k (need write l (entry l k)) h.coming h.comes_in)
    (made-new m sp now k (need write now (entry now k)) h.making h.made))
    (drop-new m write came made k))

runs_out-new : (m : Setting) (sp : Sparing) (l : Ledger) (write : Bool) (k : Key) (notes : List Note) (out : OutOf) →
    RunsOut m sp l write k notes out → news notes ≤ 1
runs_out-new m sp l write k notes out h =
    let now = after_notes l h.coming in
    same-new notes (h.coming ++ h.sought) 1 h.whole
    (two-new h.coming h.sought 0 1 (before h.before)
    (let none = seeks-new m (sp now (pinned_by (need write now (entry now k)))) now h.sought h.finds.seeks in omega (arith, none)))
  where
    before : (h.coming ≡ []) ⊎ ComesIn m sp l k (need write l (entry l k)) h.coming → news h.coming ≤ 0
    before (inl e) = same-new h.coming [] 0 e (omega arith)
    before (inr c) = comes-new m sp l k (need write l (entry l k)) h.coming c

touches-new : (m : Setting) (w : World) (l : Ledger) (write : Bool) (k : Key) (notes : List Note) (end : Option Stop) →
    Touches m w l write k notes end → news notes ≤ 1
touches-new m w l write k notes None h = serves-new m (sparing w) l write k notes h.1
touches-new m w l write k notes (Some Denied) h = same-new notes [] 1 h.1 (omega arith)
touches-new m w l write k notes (Some (Starved out)) h = runs_out-new m (sparing w) l write k notes out h.1
touches-new m w l write k notes (Some Lost) h = let none = seeks-new m (sparing w l None) l notes h.1.seeks in omega (arith, none)

-- ---- an access

accesses-new : (m : Setting) (w : World) (l : Ledger) (p : ℕ) (ps : List (Bool × ℕ)) (es : List Event) (end : End) → Accesses m w l p ps es end
    → news (notes_of es) ≤ length ps
accesses-new m w l p [] es end h = subst (λ (es : List Event). news (notes_of es) ≤ 0) (sym h.0) (omega arith)
accesses-new m w l p (page ∷ ps) es end (inl h) =
    let here = note_events h.0 ++ Used page.0 (p, page.1) ∷ [] in
    let told : notes_of here ≡ h.0 = notes_of-append (note_events h.0) (Used page.0 (p, page.1) ∷ []) ∙ append-nil (notes_of (note_events h.0))
    ∙ notes_of-note_events h.0 in
    let all = same-new (notes_of es) (h.0 ++ notes_of h.1) (1 + length ps)
    (ap notes_of h.3 ∙ notes_of-append here h.1 ∙ ap (λ ns. ns ++ notes_of h.1) told)
    (two-new h.0 (notes_of h.1) 1 (length ps) (touches-new m w l page.0 (p, page.1) h.0 None h.2)
    (accesses-new m w (after_all l here) p ps h.1 end h.4)) in
    omega (arith, all)
accesses-new m w l p (page ∷ ps) es end (inr h) =
    let one = touches-new m w l page.0 (p, page.1) h.0 (Some h.1) h.2 in
    let all = same-new (notes_of es) h.0 1 (ap notes_of h.3 ∙ notes_of-note_events h.0) one in
    omega (arith, all)

length-numbers : (a n : ℕ) → length (range_with_len a n) ≡ n
length-numbers a zero = refl
length-numbers a (suc n) = let rest = length-numbers (a + 1) n in omega (arith, rest)

length-pages : (write : Bool) (pages : List ℕ) → length {A = Bool × ℕ} (map (λ (page : ℕ). (write, page)) pages) ≡ length pages
length-pages write [] = refl
length-pages write (page ∷ pages) = let rest = length-pages write pages in omega (arith, rest)

few-pages : (write : Bool) (a n : ℕ) → n ≤ 4096 → length (pages_of_access write a n) ≤ 8192
few-pages write a n h =
    let count : ℕ = cond (n == 0) 0 (pages_of (place_in_page a + n)) in
    let same = length-pages write (range_with_len (page_of a) count) in
    let all = length-numbers (page_of a) count in
    let some = by (n == 0) in
    omega (arith, same, all, some)
  where
    by : (b : Bool) → cond b 0 (pages_of (place_in_page a + n)) ≤ 8192
    by true = omega arith
    by false = omega (arith, h)

-- those that are locked
few-locked : (q : Process) (from n : ℕ) → length (accesses_of q from n) ≤ n
few-locked q from zero = omega arith
few-locked q from (suc n) =
    let rest = few-locked q (from + 1) n in
    let sum = length-append (access_of from (q from)) (accesses_of q (from + 1) n) in
    let first = one (q from) in
    omega (arith, rest, sum, first)
  where
    one : (o : Option Page) → length (access_of from o) ≤ 1
    one None = omega arith
    one (Some x) = by (allows true x.prot) (allows false x.prot)
      where
        by : (b c : Bool) → length {A = Bool × ℕ} (if b then (true, from) ∷ [] else (if c then (false, from) ∷ [] else [])) ≤ 1
        by true c = omega arith
        by false true = omega arith
        by false false = omega arith

-- ---- entries that go or move, and slots that are emptied

-- the areas that events prepare
abbrev prepared : List Event → ℕ
prepared es = news (notes_of es)

two-events : (a b : List Event) → prepared a ≤ 0 → prepared b ≤ 0 → prepared (a ++ b) ≤ 0
two-events a b x y = same-new (notes_of (a ++ b)) (notes_of a ++ notes_of b) 0 (notes_of-append a b) (two-new (notes_of a) (notes_of b) 0 0 x y)

note-events : (notes : List Note) → news notes ≤ 0 → prepared (note_events notes) ≤ 0
note-events notes h = same-new (notes_of (note_events notes)) notes 0 (notes_of-note_events notes) h

zap-new : (l : Ledger) (k : Key) → prepared (zap_of l k) ≤ 0
zap-new l k = by (slot_behind_key l (entry l k))
  where
    one : (t : Slot) (b : Bool) → prepared (note_events (when b (Dropped t))) ≤ 0
    one t true = omega arith
    one t false = omega arith

    by : (o : Option Slot) → prepared (Zapped k ∷ orphan_drop (after l (Zapped k)) o) ≤ 0
    by None = omega arith
    by (Some t) = one t (is_orphan (after l (Zapped k)) t)

zaps-new : (l : Ledger) (ks : List Key) → prepared (zaps_of l ks) ≤ 0
zaps-new l [] = omega arith
zaps-new l (k ∷ ks) = two-events (zap_of l k) (zaps_of (after_all l (zap_of l k)) ks) (zap-new l k) (zaps-new (after_all l (zap_of l k)) ks)

remap-new : (l : Ledger) (p from n to k : ℕ) → prepared (remap_events l p from n to k) ≤ 0
remap-new l p from n to k = by (to == from)
  where
    target : List Event
    target = range_zaps l p to k

    tail : List Event
    tail = range_zaps (after_all l target) p (from + k) (n - k)

    by : (b : Bool) → prepared (cond b (range_zaps l p (from + k) (n - k)) ((target ++ tail) ++ EntriesMoved p (min n k) from to ∷ [])) ≤ 0
    by true = zaps-new l (keys_in l p (from + k) (n - k))
    by false = two-events (target ++ tail) (EntriesMoved p (min n k) from to ∷ [])
        (two-events target tail (zaps-new l (keys_in l p to k))
        (zaps-new (after_all l target) (keys_in (after_all l target) p (from + k) (n - k)))) (omega arith)

maps-new : (s : Slot) (f : ℕ) (ks : List Key) → news (map (λ (k : Key). Mapped k.0 (address_of k.1) f) ks ++ Dropped s ∷ []) ≤ 0
maps-new s f [] = omega arith
maps-new s f (k ∷ ks) = let rest = maps-new s f ks in omega (arith, rest)

emptied-new : (m : Setting) (sp : Spared) (l : Ledger) (s : Slot) (notes : List Note) → IsEmptied m sp l s notes → news notes ≤ 0
emptied-new m sp l s notes h = same-new notes (h.fetched ++ map_notes (after_notes l h.fetched) s h.frame) 0 h.whole
    (two-new h.fetched (map_notes (after_notes l h.fetched) s h.frame) 0 0 (by (frame_at l s) h.fetches)
    (maps-new s h.frame (keys_of_slot (after_notes l h.fetched) s)))
  where
    by : (o : Option ℕ) → MatchOption o (TakesFor m sp l h.fetched (Loaded s) × (frame_at (after_notes l h.fetched) s ≡ Some h.frame))
        (λ cached. (h.fetched ≡ []) × (h.frame ≡ cached)) → news h.fetched ≤ 0
    by None takes = takes-new m sp l h.fetched (Loaded s) 0 (λ f. omega arith) takes.0
    by (Some f) none = same-new h.fetched [] 0 none.0 (omega arith)

ends-new : (m : Setting) (sp : Spared) (k : ℕ) (l : Ledger) (pages : List ℕ) (notes : List Note) (end : Close) → EndsAt m sp k l pages notes end
    → news notes ≤ 0
ends-new m sp k l [] notes end h = same-new notes [] 0 h.0 (omega arith)
ends-new m sp k l (page ∷ pages) notes end h = let none = seeks-new m sp l notes h.1 in omega (arith, none)

empties-new : (m : Setting) (w : World) (k : ℕ) (l : Ledger) (pages : List ℕ) (notes : List Note) (end : Close) → Empties m w k l pages notes end
    → news notes ≤ 0
empties-new m w k l [] notes end h = ends-new m (sparing_area w k l) k l (slots_in_use m l k) notes end h
empties-new m w k l (page ∷ pages) notes end h = same-new notes (h.1 ++ h.2) 0 h.4
    (two-new h.1 h.2 0 0 (emptied-new m (sparing_area w k l) l (record { area = k; page = page }) h.1 h.5) (empties-new m w k (after_notes l h.1) pages h.2 end h.6))

off-new : (k : ℕ) (end : Close) → prepared (turn_off_events k end) ≤ 0
off-new k Closed = omega arith
off-new k (NoRoom out) = omega arith
off-new k Unread = omega arith

on-new : (k : ℕ) (priority : Option ℕ) (answer : Answer) → prepared (turn_on_events k priority answer) ≤ 0
on-new k priority answer = by (turn-on-events k priority answer)
  where
    by : (turn_on_events k priority answer ≡ []) ⊎ ((area : SwapArea) × (turn_on_events k priority answer ≡ TurnedOn k area ∷ []))
        → prepared (turn_on_events k priority answer) ≤ 0
    by (inl e) = same-new (notes_of (turn_on_events k priority answer)) [] 0 (ap notes_of e) (omega arith)
    by (inr e) = same-new (notes_of (turn_on_events k priority answer)) [] 0 (ap notes_of e.1) (omega arith)

-- ---- merging and compaction

join-new : (k : Key) (a b : Option ℕ) → news (join_notes k a b) ≡ 0
join-new k (Some g) b = refl
join-new k None (Some h) = refl
join-new k None None = refl

merges-new : (m : Setting) (held : FrameBytes) (w : World) (l : Ledger) (earlier : List ℕ) (ks : List Key) → news (merges m held w l earlier ks) ≤ 0
merges-new m held w l earlier [] = omega arith
merges-new m held w l earlier (k ∷ ks) =
    two-new (merge_notes m held l earlier k (candidate w l k)) _ 0 0 (let none = by (candidate w l k) in omega (arith, none))
    (merges-new m held w (after_notes l (merge_notes m held l earlier k (candidate w l k))) (with_candidate earlier (candidate w l k)) ks)
  where
    by : (o : Option ℕ) → news (merge_notes m held l earlier k o) ≡ 0
    by None = refl
    by (Some f) = join-new k (merged_like m held l f) (other_like held earlier f)

moves-new : (m : Setting) (l : Ledger) (notes : List Note) → MovesDown m l notes → news notes ≤ 0
moves-new m l [] h = omega arith
moves-new m l (note ∷ notes) h = two-new (note ∷ []) notes 0 0
    (let v = move-is m l note h.0 in subst (λ n. news (n ∷ []) ≤ 0) (sym v.is) (omega arith)) (moves-new m (after_note note l) notes h.1)

-- ---- a legal reply

legal-new : (m : Setting) (w : World) (l : Ledger) (command : Command) (reply : Reply) (es : List Event) → IsInRange command
    → IsLegal m w l command reply es → news (notes_of es) ≤ 16384
legal-new m w l command reply es fit legal = by (refusal (tests m w l command)) refl legal.answer
  where
    quiet : (fs : List Event) → es ≡ fs → notes_of fs ≡ [] → news (notes_of es) ≤ 16384
    quiet fs e q = same-new (notes_of es) [] 16384 (ap notes_of e ∙ q) (omega arith)

    quietly : (fs : List Event) → es ≡ fs → prepared fs ≤ 0 → news (notes_of es) ≤ 16384
    quietly fs e few = same-new (notes_of es) (notes_of fs) 16384 (ap notes_of e) (omega (arith, few))

    these : (ks : List Key) → es ≡ zaps_of l ks → news (notes_of es) ≤ 16384
    these ks e = quietly (zaps_of l ks) e (zaps-new l ks)

    accessed : (p : ℕ) (write : Bool) (a n : ℕ) (end : End) → n ≤ 4096 → Accesses m w l p (pages_of_access write a n) es end
        → news (notes_of es) ≤ 16384
    accessed p write a n end few h =
        let here = accesses-new m w l p (pages_of_access write a n) es end h in
        let short = few-pages write a n few in omega (arith, here, short)

    noted : (notes : List Note) → es ≡ note_events notes → AllBring (λ k. false) notes → news (notes_of es) ≤ 16384
    noted notes e bring = let none = none-new notes bring in same-new (notes_of es) notes 16384 (ap notes_of e ∙ notes_of-note_events notes)
        (omega (arith, none))

    few_pages : (b d e : Bool) → cond (not b) (Some Esrch) (cond d (Some Einval) (cond e (Some Enomem) None)) ≡ None → e ≡ false
    few_pages false d e h = cc
    few_pages true true e h = cc
    few_pages true false true h = cc
    few_pages true false false h = refl

    few_met : (n : ℕ) → nat_lt most_locked n ≡ false → n ≤ 16384
    few_met n h = grind (arith, nat_tests, h)

    follows : (command : Command) → IsInRange command → refusal (tests m w l command) ≡ None
        → Follows m w l command es reply.answer reply.rows → news (notes_of es) ≤ 16384
    follows (Spawn p) fit fine q = quiet [] q.1 refl
    follows (Fork p c) fit fine q = quiet _ q.1 refl
    follows (Exit p) fit fine q = these _ q.1
    follows (Mmap p len prot Auto) fit fine q = quiet [] q.3 refl
    follows (Mmap p len prot (At a)) fit fine q = quiet [] q.3 refl
    follows (Mmap p len prot (Fixed a)) fit fine q = these _ q.3
    follows (Mmap p len prot (NoReplace a)) fit fine q = quiet [] q.3 refl
    follows (Munmap p a len) fit fine q = these _ q.1
    follows (Mprotect p a len prot) fit fine q = quiet [] q.1 refl
    follows (Mremap p a old new mode) fit fine q = moves q.0 q.3
      where
        moves : (to : Option ℕ) → es ≡ events_to l p (page_of a) (pages_of old) to (pages_of new) → news (notes_of es) ≤ 16384
        moves None e = quiet [] e refl
        moves (Some to) e = quietly _ e (remap-new l p (page_of a) (pages_of old) to (pages_of new))
    follows (Madvise p a len advice) fit fine q = told (flag_of_advice advice) q.1
      where
        told : (change : Option (Flag × Bool))
            → es ≡ advice_events l p (page_of a) (pages_advised (pages w p) (page_of a) (pages_of len) change) change → news (notes_of es) ≤ 16384
        told None e = these _ e
        told (Some change) e = quiet _ e refl
    follows (Mlock p a len) fit fine q = locks (pages_to_hole (pages w p) (page_of a) (pages_met a len) == pages_met a len) q.3
      where
        coming : news (notes_of q.0) ≤ 16384 → news (notes_of es) ≤ 16384
        coming h = same-new (notes_of es) (notes_of q.0) 16384 (ap notes_of q.1) h

        locks : (b : Bool) → MatchBool b (BringsIn m w l p (page_of a) (pages_met a len) q.0 reply.answer)
            ((q.0 ≡ []) × (reply.answer ≡ Refused Enomem)) → news (notes_of es) ≤ 16384
        locks true h =
            let here = accesses-new m (with_lock true w p (page_of a) (pages_met a len)) l p
            (accesses_of (pages w p) (page_of a) (pages_met a len)) q.0 h.0 h.1 in
            let short = few-locked (pages w p) (page_of a) (pages_met a len) in
            let few = few_met (pages_met a len) (few_pages (lives w p) (ends_too_high a len) (locks_too_many a len) fine) in
            coming (omega (arith, here, short, few))
        locks false h = coming (same-new (notes_of q.0) [] 16384 (ap notes_of h.0) (omega arith))
    follows (Munlock p a len) fit fine q = quiet _ q.1 refl
    follows (Read p a n) fit fine q = accessed p false a n q.0 fit.2.most q.2
    follows (Write p a bytes) fit fine q = accessed p true a (length bytes) q.0 fit.2.0.most q.1
    follows (Reclaim n) fit fine q = noted q.0 q.3 (bring-outcomes (λ k. false) m (sparing w l None) l (from_tail n l.inactive) q.0 q.1)
    follows (Age n) fit fine q = noted (map Aged (from_tail n l.active)) q.1 (bring-ages (λ k. false) (from_tail n l.active))
    follows (Complete n) fit fine q = noted q.0 q.3 (bring-completes (λ k. false) l (take n l.flight) q.0 q.1)
    follows (Swapon k priority) fit fine q = quietly (turn_on_events k priority reply.answer) q.1 (on-new k priority reply.answer)
    follows (Swapoff k) fit fine q = quietly (note_events (q.done ++ q.notes) ++ turn_off_events k q.end) q.whole
        (two-events (note_events (q.done ++ q.notes)) (turn_off_events k q.end)
        (note-events (q.done ++ q.notes) (two-new q.done q.notes 0 0 (completed q.done (bring-completes (λ k. false) l l.flight q.done q.completes))
        (empties-new m w k (after_notes l q.done) q.pages q.notes q.end q.empties)))
        (off-new k q.end))
      where
        completed : (notes : List Note) → AllBring (λ k. false) notes → news notes ≤ 0
        completed notes bring = let none = none-new notes bring in omega (arith, none)
    follows Merge fit fine q = quietly (note_events (merges m q.0 w l [] (map (λ e. e.0) l.entries))) q.2
        (note-events (merges m q.0 w l [] (map (λ e. e.0) l.entries)) (merges-new m q.0 w l [] (map (λ e. e.0) l.entries)))
    follows Compact fit fine q = quietly (note_events q.0 ++ FreeSorted ∷ []) q.2
        (two-events (note_events q.0) (FreeSorted ∷ []) (note-events q.0 (moves-new m l q.0 q.1)) (omega arith))
    follows (Maps p) fit fine q = quiet [] q.2 refl
    follows (AsksAreas p) fit fine q = quiet [] q.2 refl
    follows (AsksRmap p a) fit fine q = quiet [] q.1 refl
    follows (AsksEntry p a) fit fine q = quiet [] q.1 refl
    follows (AsksSlot k page) fit fine q = quiet [] q.1 refl
    follows Stat fit fine q = quiet [] q.1 refl

    by : (o : Option Errno) → refusal (tests m w l command) ≡ o → MatchOption o (Follows m w l command es reply.answer reply.rows)
        (λ error. Refuses error es reply.answer reply.rows)
        → news (notes_of es) ≤ 16384
    by None is q = follows command fit is q
    by (Some error) is q = quiet [] q.1 refl

-- ---- how many are made

page-few : (p page : ℕ) (r : Rmap) → (prepare_page p page r).anons.next ≤ suc r.anons.next
page-few p page r = by (makes_anon (chain_length r.anons) (r.areas p) (r.areas p page))
  where
    by : (b : Bool) → (if b then with_root r.anons else r.anons).next ≤ suc r.anons.next
    by true = omega arith
    by false = omega arith

events-few : (es : List Event) (r : Rmap) → (prepare_events es r).anons.next ≤ r.anons.next + prepared es
events-few [] r = omega arith
events-few (e ∷ es) r = one e (events-few es (prepare_event e r))
  where
    note : (n : Note) → (prepare_events es (prepare_note n r)).anons.next ≤ (prepare_note n r).anons.next + prepared es
        → (prepare_events es (prepare_note n r)).anons.next ≤ r.anons.next + prepared (Noted n ∷ es)
    note (New p a f) h = let here = page-few p (page_of a) r in omega (arith, h, here)
    note n h = omega (arith, h)

    one : (e : Event) → (prepare_events es (prepare_event e r)).anons.next ≤ (prepare_event e r).anons.next + prepared es
        → (prepare_events es (prepare_event e r)).anons.next ≤ r.anons.next + prepared (e ∷ es)
    one (Noted n) h = note n h
    one e h = h

goes-few : (own : Option ℕ) (q : ℕ) (area : Area) (r next : Rmap) → GoesBy own q area r next → next.anons.next ≤ suc r.anons.next
goes-few None q area r next goes = let same = ap (λ (x : Rmap). x.anons.next) goes in omega (arith, same)
goes-few (Some own) q area r next (None, none, goes) = let same = ap (λ (x : Rmap). x.anons.next) goes in omega (arith, same)
goes-few (Some own) q area r next (Some v, one, goes) = let same = ap (λ (x : Rmap). x.anons.next) goes in omega (arith, same)

over-few : (q : ℕ) (areas : List Area) (r next : Rmap) → GoOver q areas r next → next.anons.next ≤ r.anons.next + length areas
over-few q [] r next goes = let same = ap (λ (x : Rmap). x.anons.next) goes in omega (arith, same)
over-few q (area ∷ areas) r next (mid, first, later) =
    let one = goes-few (own_to_fork area) q area r mid first in
    let rest = over-few q areas mid next later in
    omega (arith, one, rest)

-- areas that are apart are no more than the pages below the top
apart-few : (a : Area) (areas : List Area) → AreApart (map range_of (a ∷ areas)) → AllByRecursion (λ (a : Area). past_of a ≤ top_page) (a ∷ areas)
    → first_of a + length (a ∷ areas) ≤ top_page
apart-few a [] h high = let below = high.0 in omega (arith, h, below)
apart-few a (b ∷ areas) h high =
    let rest = apart-few b areas h.2 high.1 in
    let some = h.0 in
    let beside = h.1 in
    omega (arith, rest, some, beside)

fork-few : (p q : ℕ) (r next : Rmap) → AreLaid (r.areas p) → AreForked p q r next → next.anons.next ≤ r.anons.next + top_page
fork-few p q r next laid (areas, rise, on, goes) =
    let all = over-few q (areas_to_fork areas) (record r { areas = with_at q none_on r.areas }) next goes in
    let fewer = filter-few (λ (a : Area). not a.flags.dont_fork) areas in
    let few = count areas rise (all_from (λ (a : Area). pages_in (Some areas) (first_of a) ≡ Some a) (λ (a : Area). past_of a ≤ top_page)
    (λ a is. (laid.whole (first_of a) a (sym (on (first_of a)) ∙ is)).high) areas (on_first areas rise)) in
    omega (arith, all, fewer, few)
  where
    filter-few : (test : Area → Bool) (areas : List Area) → length (filter test areas) ≤ length areas
    filter-few test [] = omega arith
    filter-few test (a ∷ areas) = one (test a) (filter-few test areas)
      where
        one : (b : Bool) → length (filter test areas) ≤ length areas → length (cond b (a ∷ filter test areas) (filter test areas)) ≤ suc (length areas)
        one true h = omega (arith, h)
        one false h = omega (arith, h)

    count : (areas : List Area) → AreApart (map range_of areas) → AllByRecursion (λ (a : Area). past_of a ≤ top_page) areas → length areas ≤ top_page
    count [] h high = omega arith
    count (a ∷ areas) h high = let few = apart-few a areas h high in omega (arith, few)

-- a step of a command of the grammar makes fewer than twice as many as a process may have pages
pub step-few : (m : Setting) (most : ℕ) (old : State) (command : Command) (reply : Reply) (new : State) → top_page ≤ most
    → CoverBelow most old.world old.areas → IsInRange command → IsStep m old command reply new
    → new.anons.next ≤ old.anons.next + 2 * top_page
step-few m most old command reply new high covers fit step = by (next-cases later old.world command reply.answer (rmap_of new) step.rmap)
  where
    later : Rmap
    later = rmap_after_all old.ledger step.events (rmap_of old)

    prepared : later.anons.next ≤ old.anons.next + 16384
    prepared =
        let same = ap (λ (a : Anons). a.next) (rmap_after_all-notes old.ledger step.events (rmap_of old) (rmap_of old)
        (record { areas = refl; anons = refl })).anons in
        let few = events-few step.events (rmap_of old) in
        let notes = legal-new m old.world old.ledger command reply step.events fit step.legal in
        omega (arith, same, few, notes)

    by : IsPlain later old.world command reply.answer (rmap_of new) ⊎ IsFork later command reply.answer (rmap_of new)
        → new.anons.next ≤ old.anons.next + 2 * top_page
    by (inl plain) = let same = plain.is.anons.next in omega (arith, same, prepared)
    by (inr fork) =
        let all = fork-few fork.parent fork.child later (rmap_of new) (later-laid m most old step.events high covers fork.parent) fork.forked in
        omega (arith, all, prepared)
