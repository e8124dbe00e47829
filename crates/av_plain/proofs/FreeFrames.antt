-- In a run the list of free frames has each free frame of the machine once: a frame comes into use only where a note takes it.
use Rattle.std.proofs.Common.{◌≡◌, ◌⊎◌, inl, inr, ℕ, zero, suc, ◌+◌, ◌-◌, min, ◌<◌, ◌≤◌, Bool, true, false, cond, not, ◌&&◌, if◌then◌else◌, nat_lt, nat_le, T, List, [], ◌∷◌, ◌++◌, length, map, take, Option, Some, None, is_none, refl, sym, ap, subst, ◌∙◌, arith, ◌==◌}
use Rattle.std.proofs.lemmas.Bool.Decides.{nat_tests}
use Rattle.std.specs.Prelude.{MatchBool, MatchOption}
use Rattle.std.specs.FinMap.Entries.{is_sorted}
use Rattle.av_trace.specs.declared.command.Command.{Command}
use Rattle.av_trace.specs.declared.command.Command.TheVariants.{Spawn, Fork, Exit, Mmap, Mremap, Munmap, Mprotect, Madvise, Mlock, Munlock, Read, Write, Reclaim as AsksReclaim, Age, Complete, Swapon, Swapoff, Maps, Areas as AsksAreas, Rmap as AsksRmap, Entry as AsksEntry, Slot as AsksSlot, Stat}
use Rattle.av_trace.specs.declared.place.Place.TheVariants.{Auto, At, Fixed, NoReplace}
use Rattle.av_trace.specs.declared.reply.Errno.{Errno}
use Rattle.av_trace.specs.declared.reply.Reply.{Reply}
use Rattle.av_base.specs.Keys.{Key, key_cmp}
use Rattle.av_base.proofs.Without.{count-without}
use Rattle.av_base.proofs.Keys.{same_key-itself}
use Rattle.av_base.specs.Page.{address_of, page_of, pages_of}
use Rattle.av_base.specs.Words.{how_many, is_in, renamed, within}
use Rattle.std.specs.List.{range_with_len}
use Rattle.av_base.specs.declared.slot.Slot.{Slot}
use Rattle.av_trace.specs.declared.note.Cause.TheVariants.{Locked, NoSlot, Referenced, WriteStarted, Writeback}
use Rattle.av_trace.specs.declared.note.Note.{Note}
use Rattle.av_trace.specs.declared.note.Note.TheVariants.{Aged, Copied, Dropped, Failed, Kept, Loaded, Mapped, New, Put, Started, Unmapped, Written, Zeroed}
use Rattle.av_plain.specs.Access.{Accesses, End, page_events, pages_of_access}
use Rattle.av_plain.specs.Choice.{ChoosesAll, Free, ListsFree, frame_in, frame_in_note, new_free}
use Rattle.av_base.specs.declared.flags.Flag.{Flag}
use Rattle.av_base.specs.declared.flags.Flag.TheVariants as flags
use Rattle.av_plain.specs.Advice.{advice_events, flag_of_advice, pages_advised}
use Rattle.av_plain.specs.Lock.{BringsIn, Locks, accesses_of, with_lock}
use Rattle.av_plain.specs.Event.{Event, FlagSet, Forked, EntriesMoved, TurnedOff, TurnedOn, Used, after, after_all, after_move, after_note, after_notes, after_use, after_use_of, after_zap, change_entries, if_some, key_at, note_events, off_cache, put_all, set_entry, when, with_stale}
use Rattle.av_plain.specs.Fault.{ComesIn, CopyOnWrite, Denied, IsMade, Lost, MapCached, Need, NewPage, Ready, RunsOut, Serves, Sparing, Starved, Stop, SwapIn, Touches, ZeroPage, drop_at, drop_of_entry, drop_of_slot, asks_copy, is_unneeded, need, need_of_slot, pinned_by, sparing, was_slot}
use Rattle.av_plain.specs.Fork.{inheritance}
use Rattle.av_plain.specs.Ledger.{Cached, Entry, InFrame, InSlot, Ledger, Setting, SwapArea, Zero, entry, first_ledger, frame_at, has_free, is_free, is_orphan, keys_of_slot, map_count, names_frame, slot_of, slots_in_use}
use Rattle.av_plain.specs.Pass.{Completes, IsPass, IsSlotFor, Seeks, Spared, TakesFor, Turns, end_note, end_notes, frames_in_turn, is_dirty, is_stuck, stays_cached, turn_notes, unmap_notes}
use Rattle.av_plain.specs.Refusal.{Refuses, refusal, tests}
use Rattle.av_plain.specs.Sound.{AllSound, IsSound, count, flights, holders, uses}
use Rattle.av_plain.specs.Step.{Follows, IsLegal, closing_swap_area}
use Rattle.av_plain.specs.Transcript.{Exchange, IsRun, IsStep, State, at_first}
use Rattle.av_plain.specs.World.{World, lives}
use Rattle.av_plain.specs.Mremap.{events_to, range_zaps, remap_events}
use Rattle.av_plain.specs.Zap.{keys_in, keys_of_process, orphan_drop, slot_behind_key, zap_of, zaps_of}
use Rattle.av_plain.proofs.Choice.{ChoosesFrames, frames-chosen, frames-first}
use Rattle.av_plain.proofs.Access.{after_all-append, note_events-all}
use Rattle.av_plain.proofs.Event.{map_count-unseen, put_all-only}
use Rattle.av_plain.proofs.Fork.{copies, child_ledger, going, forked-is, frames-grow}
use Rattle.av_plain.proofs.Ledger.{entry-set, how_many-append, how_many-found, map_count-set}
use Rattle.av_plain.proofs.Ledger.Order.{weight}
use Rattle.av_plain.proofs.Refusal.{may-fork}
use Rattle.av_plain.proofs.Sound.{first-sound, no_entries, step-sound}
use Rattle.av_plain.proofs.Sound.Access.{comes-kept, page_events-kept, touches-kept}
use Rattle.av_plain.proofs.Sound.Cache.{frames_left}
use Rattle.av_plain.proofs.Sound.Changes.{any-counts, free-is}
use Rattle.av_plain.proofs.Sound.Counts.{frame_at-some, pair-frame, same-is}
use Rattle.av_plain.proofs.Mremap.{others_of, shifted, then_tail, then_target}
use Rattle.av_plain.proofs.Sound.Mremap.{frames-stay, free_target, tail-kept, target-kept}
use Rattle.av_plain.proofs.Sound.Pages.{settle-entries}
use Rattle.av_plain.proofs.Sound.Reclaim.{inactive-ready, outcome-kept}
use Rattle.av_plain.proofs.Sound.Swap.Area.{turn-on-events}
use Rattle.av_plain.proofs.Sound.Swap.Empty.{Empty, done-empty, emptied-hold, fetched-hold, first-used, map_all}
use Rattle.av_plain.specs.Reclaim.{Outcomes, cause_of, from_tail, leave_notes}
use Rattle.av_plain.specs.Swapoff.{Close, Closed, Empties, EndsAt, IsEmptied, IsFetched, NoRoom, TurnsOff, Unread, map_notes, sparing_area, turn_off_events}
use Rattle.av_plain.specs.Swapon.{turn_on_events}
use Rattle.av_trace.specs.declared.note.Cause.{Cause}
use Rattle.av_plain.proofs.Sound.Pass.{AreReady, TurnKept, alike-uses, all-ready, count-filter, ready-first, ready-rest, turn-kept}
use Rattle.av_plain.proofs.Sound.Steps.{alike-end_note, alike-started, alike-with_stale, all_landed, completes-kept, holders-dropped}
use Rattle.av_plain.proofs.Sound.There.{sorted-note}
use Rattle.av_plain.proofs.Sound.Zap.{zap_of-kept}
use Rattle.av_plain.proofs.Zap.{in_order-after_zap, map_count-after_zap, same_swap-after_zap}
use Rattle.av_trace.specs.declared.reply.Answer.TheVariants.{Refused}
use Rattle.av_trace.specs.declared.reply.Errno.TheVariants.{Enomem}
use Rattle.av_base.specs.Page.{pages_met}
use Rattle.av_plain.specs.World.{pages, pages_to_hole}
use Rattle.av_plain.specs.Ledger.{free_frames, is_merged}
use Rattle.av_plain.specs.Event.{FreeSorted}
use Rattle.av_plain.specs.Merge.{FrameBytes, candidate, hold_same, join_notes, merge_notes, merged_like, merges, other_like, with_candidate}
use Rattle.av_plain.specs.Compact.{Compacts, MovesDown}
use Rattle.av_plain.specs.Choice.{TakesFrame, TakesOut, sorts_free, takes_any}
use Rattle.av_trace.specs.declared.note.Note.TheVariants.{Joined, Moved, Shared}
use Rattle.av_trace.specs.declared.note.Cause.TheVariants.{Ksm, Locked}
use Rattle.av_trace.specs.declared.command.Command.TheVariants.{Compact, Merge}
use Rattle.av_plain.proofs.Event.{changed-by}
use Rattle.av_plain.proofs.Sound.Frames.{AreBefore, IsMove, found-is, move-is, other-waits, turned}
use Rattle.av_plain.proofs.Sound.Pass.{AreUnmerged, all-unmerged, unmerged-first, unmerged-rest}
use Rattle.av_plain.proofs.Sound.Swap.{Holds, of-sound}
use Rattle.std.specs.Prelude.{reverse}
use Rattle.av_plain.specs.Event.{Noted}
use Rattle.av_plain.specs.Choice.{ChoosesFrame}
use Rattle.av_plain.specs.Sound.{no_excuse}
use Rattle.av_plain.specs.Event.{with_places}
use Rattle.av_plain.proofs.Sound.Frames.{move-holds}
use Rattle.av_plain.proofs.Sound.Sharing.{uses-go, uses-stay}

-- ---- the numbers of a range, each once

once : (g a n : ℕ) → how_many (λ x. g == x) (range_with_len a n) ≡ cond (nat_le a g && nat_lt g (a + n)) 1 0
once g a zero = out (nat_le a g && nat_lt g (a + 0)) (grind (arith, nat_tests))
  where
    out : (b : Bool) → b ≡ false → ◌≡◌ {A = ℕ} 0 (cond b 1 0)
    out true e = cc
    out false e = refl
once g a (suc n) = by (g == a) refl _ (once g (a + 1) n)
  where
    ends : (b c d : Bool) → c ≡ (not b && d) → (b ≡ true → d ≡ true) → (k : ℕ) → k ≡ cond c 1 0 → cond b 1 0 + k ≡ cond d 1 0
    ends true c true e h k z = let z' = z ∙ ap (λ x. cond x 1 0) e in omega (arith, z')
    ends true c false e h k z = absurd (never (h refl))
      where
        never : ◌≡◌ {A = Bool} false true → ⊥
        never e = cc
    ends false c d e h k z = plus k ∙ z ∙ ap (λ x. cond x 1 0) e
      where
        plus : (n : ℕ) → 0 + n ≡ n
        plus n = omega arith

    by : (b : Bool) → (g == a) ≡ b → (k : ℕ) → k ≡ cond (nat_le (a + 1) g && nat_lt g ((a + 1) + n)) 1 0 →
        cond b 1 0 + k ≡ cond (nat_le a g && nat_lt g (a + suc n)) 1 0
    by true is k e = ends true (nat_le (a + 1) g && nat_lt g ((a + 1) + n)) (nat_le a g && nat_lt g (a + suc n)) (grind (arith, nat_tests, is))
        (λ _. grind (arith, nat_tests, is)) k e
    by false is k e = ends false (nat_le (a + 1) g && nat_lt g ((a + 1) + n)) (nat_le a g && nat_lt g (a + suc n)) (grind (arith, nat_tests, is))
        (λ i. grind (arith, nat_tests, is, i)) k e

-- ---- the list after one event

abbrev pub is_listed : Setting → Ledger → ℕ → Bool
is_listed m l g = (uses l g == 0) && nat_lt g m.frames

abbrev pub Lists : Setting → Ledger → List ℕ → Type 0
Lists m l free = (g : ℕ) → how_many (λ x. g == x) free ≡ cond (is_listed m l g) 1 0

abbrev is_that : Option ℕ → ℕ → Bool
is_that None g = false
is_that (Some f) g = g == f

-- a frame without uses stays so, unless it is taken; and then it has one
pub record Steady (l l' : Ledger) (taken : Option ℕ) : Type 0 where
  stays : (g : ℕ) → uses l g ≡ 0 → is_that taken g ≡ false → uses l' g ≡ 0
  taken_used : (g : ℕ) → is_that taken g ≡ true → 0 < uses l' g

not_zero : (n : ℕ) → 0 < n → (n == 0) ≡ false
not_zero n h = grind (arith, nat_tests, h)

at_most : (b : Bool) → cond b 1 0 ≤ 1
at_most true = omega arith
at_most false = omega arith

differ : {x : Bool} → false ≡ x → x ≡ true → ⊥
differ h i = cc

-- what is left of the free frames once one is taken, if any
abbrev pub IsLeft : Option ℕ → List ℕ → List ℕ → Type 0
IsLeft taken free rest = (g : ℕ) → how_many (λ x. g == x) free ≡ cond (is_that taken g) 1 0 + how_many (λ x. g == x) rest

lists-left : (m : Setting) (l l' : Ledger) (taken : Option ℕ) (free rest : List ℕ) → IsLeft taken free rest →
    Steady l l' taken → Lists m l free → Lists m l' (new_free m l l' ++ rest)
lists-left m l l' taken free rest left steady h g =
    let a = how_many-append (λ x. g == x) (new_free m l l') rest in
    let b = count-filter (λ f. is_free l' f && not (is_free l f)) g (range_with_len 0 m.frames) in
    let c = once g 0 m.frames in
    let d = h g in
    by (is_free l' g) (is_free l g) (nat_lt g m.frames) (is_that taken g) _ _ _ _ _ (uses l g) (uses l' g) (free-is l' g) (free-is l g) a b
    (c ∙ ap {B = ℕ} (λ x. cond x 1 0) (plain g m.frames)) d (left g) (steady.stays g) (steady.taken_used g)
  where
    plain : (g n : ℕ) → (nat_le 0 g && nat_lt g (0 + n)) ≡ nat_lt g n
    plain g n = grind (arith, nat_tests)

    by : (v u n t : Bool) (all new nums old k : ℕ) (count count' : ℕ) → v ≡ (count' == 0) → u ≡ (count == 0) → all ≡ new + k
        → new ≡ cond (v && not u) nums 0 →
        nums ≡ cond n 1 0 → old ≡ cond ((count == 0) && n) 1 0 → old ≡ cond t 1 0 + k
        → (count ≡ 0 → t ≡ false → count' ≡ 0) → (t ≡ true → 0 < count') → all ≡ cond ((count' == 0) && n) 1 0
    by v u n true all new nums old k count count' hv hu a b c d e stays used =
        let z = used refl in
        let w = ap {B = ℕ} (λ x. cond (x && n) 1 0) (not_zero count' z) in
        let v0 : v ≡ false = hv ∙ not_zero count' z in
        let new0 : new ≡ 0 = b ∙ ap {B = ℕ} (λ x. cond (x && not u) nums 0) v0 in
        let most = at_most ((count == 0) && n) in
        omega (arith, a, d, e, new0, w, most)
    by true true n false all new nums old k count count' hv hu a b c d e stays used =
        let w = ap {B = ℕ} (λ x. cond (x && n) 1 0) (sym hv) in
        let y = ap {B = ℕ} (λ x. cond (x && n) 1 0) (sym hu) in
        omega (arith, a, b, d, e, w, y)
    by true false n false all new nums old k count count' hv hu a b c d e stays used =
        let w = ap {B = ℕ} (λ x. cond (x && n) 1 0) (sym hv) in
        let y = ap {B = ℕ} (λ x. cond (x && n) 1 0) (sym hu) in
        omega (arith, a, b, c, d, e, w, y)
    by false true n false all new nums old k count count' hv hu a b c d e stays used =
        let z : count ≡ 0 = grind (arith, nat_tests, hu) in
        let z' = stays z refl in
        absurd (differ hv (grind (arith, nat_tests, z')))
    by false false n false all new nums old k count count' hv hu a b c d e stays used =
        let w = ap {B = ℕ} (λ x. cond (x && n) 1 0) (sym hv) in
        let y = ap {B = ℕ} (λ x. cond (x && n) 1 0) (sym hu) in
        omega (arith, a, b, d, e, w, y)

pub lists-event : (m : Setting) (l l' : Ledger) (taken : Option ℕ) (free rest : List ℕ) → MatchOption taken (free ≡ rest) (λ f. free ≡ f ∷ rest) →
    Steady l l' taken → Lists m l free → Lists m l' (new_free m l l' ++ rest)
lists-event m l l' taken free rest first steady h = lists-left m l l' taken free rest (λ g. left g taken first) steady h
  where
    left : (g : ℕ) (o : Option ℕ) → MatchOption o (free ≡ rest) (λ f. free ≡ f ∷ rest) →
        how_many (λ x. g == x) free ≡ cond (is_that o g) 1 0 + how_many (λ x. g == x) rest
    left g None e = ap (how_many (λ x. g == x)) e ∙ omega arith
    left g (Some f) e = ap (how_many (λ x. g == x)) e

-- all free frames of the machine, rising
sorted-lists : (m : Setting) (l : Ledger) → Lists m l (free_frames m l)
sorted-lists m l g = count-filter (is_free l) g (range_with_len 0 m.frames) ∙ by (is_free l g) (free-is l g) _ (once g 0 m.frames
    ∙ ap {B = ℕ} (λ x. cond x 1 0) (plain g m.frames))
  where
    plain : (g n : ℕ) → (nat_le 0 g && nat_lt g (0 + n)) ≡ nat_lt g n
    plain g n = grind (arith, nat_tests)

    by : (b : Bool) → b ≡ (uses l g == 0) → (n : ℕ) → n ≡ cond (nat_lt g m.frames) 1 0 → cond b n 0 ≡ cond ((uses l g == 0) && nat_lt g m.frames) 1 0
    by true e n h = h ∙ ap {B = ℕ} (λ b. cond (b && nat_lt g m.frames) 1 0) e
    by false e n h = ap {B = ℕ} (λ b. cond (b && nat_lt g m.frames) 1 0) e

-- after any event
pub chosen-lists : (m : Setting) (l : Ledger) (e : Event) (free free' : List ℕ) → (sorts_free e ≡ false → Steady l (after l e) (frame_in e))
    → ChoosesFrame m l e free free' → Lists m l free → Lists m (after l e) free'
chosen-lists m l e free free' steady c h = by (sorts_free e) refl c
  where
    -- the frame that is taken stands once in the list
    out : (f : ℕ) (rest : List ℕ) → TakesOut f free rest → IsLeft (Some f) free rest
    out f rest q g = parts (g == f) refl _ (ap (how_many (λ x. g == x)) q.1 ∙ count-without f g free)
      where
        once_only : (n : ℕ) (b : Bool) → n ≡ cond b 1 0 → nat_lt 0 n ≡ true → n ≡ 1
        once_only n true e i = e
        once_only n false e i = grind (arith, nat_tests, e, i)

        there : how_many (λ x. f == x) free ≡ 1
        there = once_only _ ((uses l f == 0) && nat_lt f m.frames) (h f) (sym (any-counts (λ x. f == x) free) ∙ q.0)

        parts : (b : Bool) → (g == f) ≡ b → (n : ℕ) → n ≡ cond b 0 (how_many (λ x. g == x) free)
            → how_many (λ x. g == x) free ≡ cond b 1 0 + n
        parts true is n e = let s = ap (λ y. how_many (λ x. y == x) free) (same-is g f is) in let t = there in omega (arith, e, s, t)
        parts false is n e = omega (arith, e)

    left : (b : Bool) (o : Option ℕ) (rest : List ℕ) → MatchOption o (free ≡ rest) (λ f. MatchBool b (TakesOut f free rest) (free ≡ f ∷ rest))
        → IsLeft o free rest
    left b None rest e = λ g. ap (how_many (λ x. g == x)) e ∙ omega arith
    left true (Some f) rest q = out f rest q
    left false (Some f) rest e = λ g. ap (how_many (λ x. g == x)) e

    by : (b : Bool) → sorts_free e ≡ b → MatchBool b (free' ≡ free_frames m (after l e)) (TakesFrame m l e free free') → Lists m (after l e) free'
    by true is c = subst (Lists m (after l e)) (sym c) (sorted-lists m (after l e))
    by false is c = subst (Lists m (after l e)) (sym c.2)
        (lists-left m l (after l e) (frame_in e) free c.0 (left (takes_any e) (frame_in e) c.0 c.1) (steady is) h)

-- ---- what each note does to the uses of frames

-- the condition at each note: a frame that an entry or a slot comes to name without being taken is in use
pub record GoesOver (from to : ℕ) (l : Ledger) : Type 0 where
  pub stays : (g : ℕ) → uses l g ≡ 0 → (g == to) ≡ false → uses (with_places (renamed from to) l) g ≡ 0
  pub used : (g : ℕ) → (g == to) ≡ true → 0 < uses (with_places (renamed from to) l) g

abbrev pub IsHeld : Ledger → Note → Type 0
IsHeld l (Mapped p a f) = 0 < uses l f
IsHeld l (Put f s) = 0 < uses l f
IsHeld l (Joined p a f) = 0 < uses l f
IsHeld l (Moved from to) = GoesOver from to l
IsHeld l note = Unit {0}

abbrev pub AreHeld : Ledger → List Note → Type 0
AreHeld l [] = Unit {0}
AreHeld l (note ∷ notes) = IsHeld l note × AreHeld (after_note note l) notes

set-steady : (l l' : Ledger) (k : Key) (f : ℕ) (seen : Bool) → T (is_sorted key_cmp l.entries) →
    ((g : ℕ) → uses l' g ≡ uses (set_entry k (InFrame f seen) l) g) → Steady l l' (Some f)
set-steady l l' k f seen sorted same = record {
  stays = λ g gone other. let e = same g in let a = map_count-set k (InFrame f seen) l g sorted in let b = flag (g == f) other in
      omega (arith, gone, e, a, b);
  taken_used = λ g is. let e = same g in let n = how_many-found (names_frame g) k (set_entry k (InFrame f seen) l).entries (InFrame f seen)
      (entry-set k (InFrame f seen) l k ∙ ap (λ b. cond b (Some (InFrame f seen)) (entry l k)) (same_key-itself k)) is in omega (arith, e, n);
}
  where
    flag : (b : Bool) → b ≡ false → ◌≡◌ {A = ℕ} (cond b 1 0) 0
    flag true e = cc
    flag false e = refl

-- no frame is taken, and none comes into use
pub fewer-steady : (l l' : Ledger) → ((g : ℕ) → uses l g ≡ 0 → uses l' g ≡ 0) → Steady l l' None
fewer-steady l l' h = record { stays = λ g gone other. h g gone; taken_used = λ g is. cc }

pub note-steady : (l : Ledger) (note : Note) → T (is_sorted key_cmp l.entries) → IsHeld l note → Steady l (after_note note l) (frame_in_note note)
note-steady l (Zeroed p a) sorted h = fewer-steady l _ (λ g gone. let e = map_count-set (key_at p a) Zero l g sorted in omega (arith, gone, e))
note-steady l (New p a f) sorted h = set-steady l (after_note (New p a f) l) (key_at p a) f false sorted (λ g. refl)
note-steady l (Copied p a f) sorted h = set-steady l (after_note (Copied p a f) l) (key_at p a) f false sorted
    (λ g. changed-by (λ l. uses l g) (λ j l. refl) (key_at p a) f l)
note-steady l (Loaded s f) sorted h = record { stays = λ g gone other. by (g == f) other g gone; taken_used = λ g is. some (g == f) is g }
  where
    by : (b : Bool) → b ≡ false → (g : ℕ) → uses l g ≡ 0 → map_count l g + (cond b 1 0 + holders l g) ≡ 0
    by true e g gone = cc
    by false e g gone = omega (arith, gone)

    some : (b : Bool) → b ≡ true → (g : ℕ) → 0 < map_count l g + (cond b 1 0 + holders l g)
    some true e g = omega arith
    some false e g = cc
note-steady l (Mapped p a f) sorted h = fewer-steady l _ (λ g gone. let e = map_count-set (key_at p a) (InFrame f false) l g sorted in
    by g _ _ (g == f) refl gone e)
  where
    by : (g n w : ℕ) (b : Bool) → (g == f) ≡ b → uses l g ≡ 0 → n + w ≡ map_count l g + cond b 1 0 → n + holders l g ≡ 0
    by g n w true is gone e = let z = ap (uses l) (same-is g f is) in absurd (omega (arith, gone, z, h))
    by g n w false is gone e = omega (arith, gone, e)
note-steady l (Put f s) sorted h = fewer-steady l _ (λ g gone. by g (g == f) refl gone)
  where
    by : (g : ℕ) (b : Bool) → (g == f) ≡ b → uses l g ≡ 0 → map_count l g + (cond b 1 0 + holders l g) ≡ 0
    by g true is gone = let z = ap (uses l) (same-is g f is) in absurd (omega (arith, gone, z, h))
    by g false is gone = omega (arith, gone)
note-steady l (Unmapped f) sorted h = fewer-steady l _ (by (slot_of l f))
  where
    by : (o : Option Slot) → (g : ℕ) → uses l g ≡ 0 → uses (if_some o (λ s. change_entries f (λ _. InSlot s)) l) g ≡ 0
    by None g gone = gone
    by (Some t) g gone = less (g == f) _ (frames_left t f l g (g == f) refl)
      where
        less : (b : Bool) (n : ℕ) → n ≡ cond b 0 (map_count l g) → n + holders l g ≡ 0
        less true n e = omega (arith, gone, e)
        less false n e = omega (arith, gone, e)
note-steady l (Started s) sorted h = fewer-steady l _ (λ g gone. alike-uses l (after_note (Started s) l) (alike-started l s) g ∙ gone)
note-steady l (Written s) sorted h = fewer-steady l _ (λ g gone. alike-uses l (after_note (Written s) l) (alike-end_note l false s) g ∙ gone)
note-steady l (Failed s) sorted h = fewer-steady l _ (λ g gone. alike-uses l (after_note (Failed s) l) (alike-end_note l true s) g ∙ gone)
note-steady l (Dropped s) sorted h = fewer-steady l _ (λ g gone. let a =
    ap (λ es. map_count (record l { entries = es }) g) (settle-entries (frame_at l s) (off_cache s l)) in
    let b = holders-dropped l s g in omega (arith, gone, a, b))
note-steady l (Kept f Writeback) sorted h = fewer-steady l _ (λ g gone. gone)
note-steady l (Kept f WriteStarted) sorted h = fewer-steady l _ (λ g gone. gone)
note-steady l (Kept f Referenced) sorted h = fewer-steady l _ (λ g gone. let e = map_count-unseen f l g in omega (arith, e, gone))
note-steady l (Kept f NoSlot) sorted h = fewer-steady l _ (λ g gone. gone)
note-steady l (Kept f Locked) sorted h = fewer-steady l _ (λ g gone. gone)
note-steady l (Kept f Ksm) sorted h = fewer-steady l _ (λ g gone. gone)
note-steady l (Shared f) sorted h = fewer-steady l _ (λ g gone. gone)
note-steady l (Moved from to) sorted h = record { stays = λ g gone other. h.stays g gone other; taken_used = λ g is. h.used g is }
note-steady l (Joined p a f) sorted h = fewer-steady l _ (λ g gone. changed-by (λ l. uses l g) (λ j l. refl) (key_at p a) f l
    ∙ (let e = map_count-set (key_at p a) (InFrame f false) l g sorted in by g _ _ (g == f) refl gone e))
  where
    by : (g n w : ℕ) (b : Bool) → (g == f) ≡ b → uses l g ≡ 0 → n + w ≡ map_count l g + cond b 1 0 → n + holders l g ≡ 0
    by g n w true is gone e = let z = ap (uses l) (same-is g f is) in absurd (omega (arith, gone, z, h))
    by g n w false is gone e = omega (arith, gone, e)
note-steady l (Aged f) sorted h = fewer-steady l _ (λ g gone. let e = map_count-unseen f l g in omega (arith, e, gone))

-- ---- several notes

pub notes-lists : (m : Setting) (l : Ledger) (notes : List Note) (free free' : List ℕ)
    → T (is_sorted key_cmp l.entries) → AreHeld l notes
    → ChoosesFrames m l (note_events notes) free free' → Lists m l free
    → Lists m (after_notes l notes) free'
notes-lists m l [] free free' sorted held c h = subst (Lists m l) (sym c) h
notes-lists m l (note ∷ notes) free free' sorted held c h =
    notes-lists m (after_note note l) notes c.0 free' (sorted-note l note sorted) held.1 c.2
    (chosen-lists m l (Noted note) free c.0 (λ _. note-steady l note sorted held.0) c.1 h)

held-append : (l : Ledger) (a b : List Note) → AreHeld l a → AreHeld (after_notes l a) b → AreHeld l (a ++ b)
held-append l [] b x y = y
held-append l (note ∷ a) b x y = (x.0, held-append (after_note note l) a b x.1 y)

held-is : (l : Ledger) (a b : List Note) → a ≡ b → AreHeld l b → AreHeld l a
held-is l a b e h = subst (AreHeld l) (sym e) h

-- ---- a pass

held-completes : (l : Ledger) (ts : List Slot) (notes : List Note) → Completes l ts notes → AreHeld l notes
held-completes l [] notes c = held-is l notes [] c tt
held-completes l (t ∷ ts) notes c =
    held-is l notes _ c.2 (held-append l (end_notes l t c.0) c.1 (one l c.0 (is_orphan (after_note (end_note c.0 t) l) t))
    (held-completes (after_notes l (end_notes l t c.0)) ts c.1 c.3))
  where
    one : (l : Ledger) (failed b : Bool) → AreHeld l (end_note failed t ∷ when b (Dropped t))
    one l true true = (tt, (tt, tt))
    one l true false = (tt, tt)
    one l false true = (tt, (tt, tt))
    one l false false = (tt, tt)

held-unmap : (l : Ledger) (f : ℕ) (t : Slot) → 0 < uses l f → AreHeld l (unmap_notes l f t)
held-unmap l f t in_use = held-append l (when (is_none (slot_of l f)) (Put f t)) _ (put (is_none (slot_of l f))) (unmaps _ (not (map_count l f == 0)))
  where
    put : (b : Bool) → AreHeld l (when b (Put f t))
    put true = (in_use, tt)
    put false = tt

    unmaps : (l : Ledger) (b : Bool) → AreHeld l (when b (Unmapped f))
    unmaps l true = (tt, tt)
    unmaps l false = tt

held-turn : (l : Ledger) (f : ℕ) (t : Slot) (failed : Bool) → 0 < uses l f → AreHeld l (turn_notes l f t failed)
held-turn l f t failed in_use = held-append l (unmap_notes l f t) _ (held-unmap l f t in_use) (writes _ (is_dirty l f t))
  where
    ends : (l : Ledger) (failed : Bool) → IsHeld l (end_note failed t)
    ends l true = tt
    ends l false = tt

    writes : (l : Ledger) (b : Bool) → AreHeld l (if b then Started t ∷ end_note failed t ∷ [] else [])
    writes l true = (tt, (ends (after_note (Started t) l) failed, tt))
    writes l false = tt

held-turns : (m : Setting) (sp : Spared) (l : Ledger) (fs : List ℕ) (notes : List Note) → IsSound m l → ((r : Slot) → flights l r ≡ 0)
    → AreReady l fs → AreUnmerged l fs →
    Turns m sp l fs notes → AreHeld l notes
held-turns m sp l [] notes s grounded ready unmerged r = held-is l notes [] r tt
held-turns m sp l (f ∷ fs) notes s grounded ready unmerged r =
    stuck (λ l' ns s' g' r' u' t'. held-turns m sp l' fs ns s' g' r' u' t') (is_stuck m sp l f) r
  where
    stuck : ((l' : Ledger) (ns : List Note) → IsSound m l' → ((r : Slot) → flights l' r ≡ 0) → AreReady l' fs → AreUnmerged l' fs
        → Turns m sp l' fs ns → AreHeld l' ns)
        → (b : Bool) → MatchBool b (Turns m sp l fs notes)
        ((t : Slot) × (failed : Bool) × IsSlotFor m sp l f t × MatchBool (stays_cached l f t failed)
        ((rest : List Note) × (notes ≡ turn_notes l f t failed ++ rest) × Turns m sp (after_notes l (turn_notes l f t failed)) fs rest)
        (notes ≡ turn_notes l f t failed ++ Dropped t ∷ [])) → AreHeld l notes
    stuck again true r = again l notes s grounded (ready-rest l l f fs (λ g other. refl) ready) (unmerged-rest l l f fs refl unmerged) r
    stuck again false r = goes (stays_cached l f r.0 r.1) r.3
      where
        here : TurnKept m l f r.0 (after_notes l (turn_notes l f r.0 r.1))
        here = turn-kept m sp l f r.0 r.1 s grounded r.2 (unmerged-first l f fs unmerged) (ready-first l f fs ready)

        goes : (b : Bool) → MatchBool b
            ((rest : List Note) × (notes ≡ turn_notes l f r.0 r.1 ++ rest) × Turns m sp (after_notes l (turn_notes l f r.0 r.1)) fs
            rest) (notes ≡ turn_notes l f r.0 r.1 ++ Dropped r.0 ∷ []) → AreHeld l notes
        goes true q = held-is l notes _ q.1 (held-append l (turn_notes l f r.0 r.1) q.0 (held-turn l f r.0 r.1 (ready-first l f fs ready))
            (again (after_notes l (turn_notes l f r.0 r.1)) q.0 here.sound here.grounded
            (ready-rest l (after_notes l (turn_notes l f r.0 r.1)) f fs here.others ready)
            (unmerged-rest l (after_notes l (turn_notes l f r.0 r.1)) f fs here.merged_same unmerged) q.2))
        goes false q = held-is l notes _ q (held-append l (turn_notes l f r.0 r.1) (Dropped r.0 ∷ [])
            (held-turn l f r.0 r.1 (ready-first l f fs ready)) (tt, tt))

held-seeks : (m : Setting) (sp : Spared) (l : Ledger) (notes : List Note) → IsSound m l → Seeks m sp l notes → AreHeld l notes
held-seeks m sp l notes s r = by (has_free m l) r
  where
    pass : (b : Bool) (now : Ledger) (ns : List Note) → IsSound m now → ((r : Slot) → flights now r ≡ 0) →
        MatchBool b (ns ≡ []) (Turns m sp now (frames_in_turn sp now) ns) → AreHeld now ns
    pass true now ns s g q = held-is now ns [] q tt
    pass false now ns s g q = held-turns m sp now (frames_in_turn sp now) ns s g (all-ready m sp now s)
        (all-unmerged sp now (reverse now.inactive ++ reverse now.active)) q

    by : (b : Bool) → MatchBool b (notes ≡ []) (IsPass m sp l notes) → AreHeld l notes
    by true q = held-is l notes [] q tt
    by false q =
        let now = after_notes l q.0 in
        let done = completes-kept m l l.flight q.0 s q.3 in
        held-is l notes (q.0 ++ q.1) q.2 (held-append l q.0 q.1 (held-completes l l.flight q.0 q.3)
        (pass (has_free m now) now q.1 done.sound (all_landed m l now done) q.4))

-- ---- a page

held-takes : (m : Setting) (sp : Spared) (l : Ledger) (notes : List Note) (note : ℕ → Note) → IsSound m l
    → ((l : Ledger) (f : ℕ) → IsHeld l (note f)) →
    TakesFor m sp l notes note → AreHeld l notes
held-takes m sp l notes note s h t = held-is l notes _ t.whole (held-append l t.sought (note t.frame ∷ []) (held-seeks m sp l t.sought s t.seeks)
    (h (after_notes l t.sought) t.frame, tt))

held-comes : (m : Setting) (sp : Sparing) (l : Ledger) (write : Bool) (k : Key) (notes : List Note) → IsSound m l →
    ComesIn m sp l k (need write l (entry l k)) notes → AreHeld l notes
held-comes m sp l write k notes s h = by write (entry l k) h
  where
    cached : (l : Ledger) (t : Slot) (f : ℕ) → frame_at l t ≡ Some f → 0 < uses l f
    cached l t f is = let p = frame_at-some f t l.cache is in let q = pair-frame t f l.cache in omega (arith, p, q)

    none : notes ≡ [] → AreHeld l notes
    none e = held-is l notes [] e tt

    slot_in : (t : Slot) (o : Option ℕ) → frame_at l t ≡ o → ComesIn m sp l k (need_of_slot t o) notes → AreHeld l notes
    slot_in t None is q = held-is l notes _ q.4 (held-append l q.0 _ (held-takes m (sp l None) l q.0 (Loaded t) s (λ l f. tt) q.2)
        (cached (after_notes l q.0) t q.1 q.3, tt))
    slot_in t (Some f) is q = held-is l notes _ q (cached l t f is, tt)

    ready : (b : Bool) (g : ℕ) → ComesIn m sp l k (cond b (CopyOnWrite g) Ready) notes → notes ≡ []
    ready true g q = q
    ready false g q = q

    by : (write : Bool) (o : Option Entry) → ComesIn m sp l k (need write l o) notes → AreHeld l notes
    by false None q = none q
    by true None q = none q
    by false (Some Zero) q = none q
    by true (Some Zero) q = none q
    by false (Some (InFrame g seen)) q = none q
    by true (Some (InFrame g seen)) q = none (ready (asks_copy l g) g q)
    by false (Some (InSlot t)) q = slot_in t (frame_at l t) refl q
    by true (Some (InSlot t)) q = slot_in t (frame_at l t) refl q

held-made : (m : Setting) (sp : Sparing) (l : Ledger) (k : Key) (n : Need) (notes : List Note) → IsSound m l → IsMade m sp l k n notes
    → AreHeld l notes
held-made m sp l k Ready notes s q = held-is l notes [] q tt
held-made m sp l k ZeroPage notes s q = held-is l notes _ q (tt, tt)
held-made m sp l k NewPage notes s q = held-takes m (sp l None) l notes (New k.0 (address_of k.1)) s (λ l f. tt) q
held-made m sp l k (CopyOnWrite g) notes s q = held-takes m (sp l (Some g)) l notes (Copied k.0 (address_of k.1)) s (λ l f. tt) q
held-made m sp l k (SwapIn t) notes s q = absurd q
held-made m sp l k (MapCached f) notes s q = absurd q

held-drop_at : (m : Setting) (l : Ledger) (write came : Bool) (k : Key) → AreHeld l (drop_at m write came l k)
held-drop_at m l write came k = by (entry l k)
  where
    dropped : (b : Bool) (t : Slot) → AreHeld l (when b (Dropped t))
    dropped true t = (tt, tt)
    dropped false t = tt

    one : (o : Option Slot) → AreHeld l (drop_of_slot m write came l o)
    one None = tt
    one (Some t) = dropped (is_unneeded m write came l t) t

    by : (o : Option Entry) → AreHeld l (drop_of_entry m write came l o)
    by None = tt
    by (Some Zero) = tt
    by (Some (InFrame f seen)) = one (slot_of l f)
    by (Some (InSlot t)) = tt

held-touches : (m : Setting) (w : World) (l : Ledger) (write : Bool) (k : Key) (notes : List Note) (end : Option Stop) → IsSound m l →
    Touches m w l write k notes end → AreHeld l notes
held-touches m w l write k notes None s q = serves q.1
  where
    serves : Serves m (sparing w) l write k notes → AreHeld l notes
    serves h =
        let l1 = after_notes l h.coming in
        let s1 = comes-kept m (sparing w) l write k h.coming s h.comes_in in
        let l2 = after_notes l (h.coming ++ h.making) in
        held-is l notes _ h.whole (held-append l (h.coming ++ h.making) _
        (held-append l h.coming h.making (held-comes m (sparing w) l write k h.coming s h.comes_in)
        (held-made m (sparing w) l1 k (need write l1 (entry l1 k)) h.making s1 h.made))
        (held-drop_at m l2 write (was_slot (need write l (entry l k))) k))
held-touches m w l write k notes (Some Denied) s q = held-is l notes [] q.1 tt
held-touches m w l write k notes (Some (Starved out)) s q = runs_out q.1
  where
    runs_out : RunsOut m (sparing w) l write k notes out → AreHeld l notes
    runs_out h = held-is l notes _ h.whole (by h.before)
      where
        by : (h.coming ≡ []) ⊎ ComesIn m (sparing w) l k (need write l (entry l k)) h.coming → AreHeld l (h.coming ++ h.sought)
        by (inl e) = held-append l h.coming h.sought (held-is l h.coming [] e tt)
            (held-seeks m (sparing w (after_notes l h.coming) (pinned_by (need write (after_notes l h.coming) (entry (after_notes l h.coming) k))))
            (after_notes l h.coming) h.sought (subst (λ ns. IsSound m (after_notes l ns)) (sym e) s) h.finds.seeks)
        by (inr x) = held-append l h.coming h.sought (held-comes m (sparing w) l write k h.coming s x)
            (held-seeks m (sparing w (after_notes l h.coming) (pinned_by (need write (after_notes l h.coming) (entry (after_notes l h.coming) k))))
            (after_notes l h.coming) h.sought (comes-kept m (sparing w) l write k h.coming s x) h.finds.seeks)
held-touches m w l write k notes (Some Lost) s q = held-seeks m (sparing w l None) l notes s q.1.seeks

-- ---- a use, and an access

pub used-steady : (l : Ledger) (write : Bool) (k : Key) → T (is_sorted key_cmp l.entries) → Steady l (after_use write k l) None
used-steady l write k sorted = by write (entry l k) refl
  where
    seen : (f : ℕ) (was : Bool) → entry l k ≡ Some (InFrame f was) → (g : ℕ) → uses l g ≡ 0 → uses (set_entry k (InFrame f true) l) g ≡ 0
    seen f was here g gone = let a = ap (λ o. map_count (set_entry k (InFrame f true) l) g + weight (names_frame g) o) (sym here)
        ∙ map_count-set k (InFrame f true) l g sorted in omega (arith, gone, a)

    stale : (f : ℕ) (was : Bool) → entry l k ≡ Some (InFrame f was) → (o : Option Slot) →
        Steady l (if_some o (with_stale true) (set_entry k (InFrame f true) l)) None
    stale f was here None = fewer-steady l _ (seen f was here)
    stale f was here (Some t) =
        fewer-steady l _ (λ g gone. alike-uses (set_entry k (InFrame f true) l) (with_stale true t (set_entry k (InFrame f true) l))
        (alike-with_stale (set_entry k (InFrame f true) l) true t) g ∙ seen f was here g gone)

    by : (write : Bool) (o : Option Entry) → entry l k ≡ o → Steady l (after_use_of write k l o) None
    by write None is = fewer-steady l l (λ g gone. gone)
    by write (Some Zero) is = fewer-steady l l (λ g gone. gone)
    by write (Some (InSlot t)) is = fewer-steady l l (λ g gone. gone)
    by false (Some (InFrame f was)) is = stale f was is None
    by true (Some (InFrame f was)) is = stale f was is (slot_of l f)

page-lists : (m : Setting) (w : World) (l : Ledger) (write : Bool) (k : Key) (notes : List Note)
    (end : Option Stop) (free free' : List ℕ) → IsSound m l → Touches m w l write k notes end
    → ChoosesFrames m l (page_events write k notes end) free free'
    → Lists m l free → Lists m (after_all l (page_events write k notes end)) free'
page-lists m w l write k notes (Some stop) free free' s q c h = subst (λ x. Lists m x free') (sym (note_events-all l notes))
    (notes-lists m l notes free free' s.in_order (held-touches m w l write k notes (Some stop) s q) c h)
page-lists m w l write k notes None free free' s q c h =
    let p = frames-first m l (note_events notes) (Used write k ∷ []) free free' c in
    let now = after_notes l notes in
    let first = notes-lists m l notes free p.0 s.in_order (held-touches m w l write k notes None s q) p.1 h in
    let last = subst (λ x. ChoosesFrames m x (Used write k ∷ []) p.0 free')
    (note_events-all l notes) p.2 in
    subst (λ x. Lists m x free') (sym (after_all-append l (note_events notes) (Used write k ∷ []) ∙ ap (after_use write k) (note_events-all l notes)))
    (subst (Lists m (after_use write k now)) (sym (last.2 ∙ last.1.2))
    (lists-event m now (after_use write k now) None p.0 last.1.0 last.1.1
    (used-steady now write k (touches-kept m w l write k notes None s q).in_order) first))

accesses-lists : (m : Setting) (w : World) (l : Ledger) (p : ℕ) (ps : List (Bool × ℕ))
    (es : List Event) (end : End) (free free' : List ℕ) → IsSound m l → Accesses m w l p ps es end
    → ChoosesFrames m l es free free' → Lists m l free → Lists m (after_all l es) free'
accesses-lists m w l p [] es end free free' s q c h = subst (λ es. Lists m (after_all l es) free')
    (sym q.0) (subst (Lists m l) (sym (subst (λ es. ChoosesFrames m l es free free') q.0 c)) h)
accesses-lists m w l p (page ∷ ps) es end free free' s (inl q) c h =
    let here = page_events page.0 (p, page.1) q.0 None in
    let both = frames-first m l here q.1 free free'
    (subst (λ es. ChoosesFrames m l es free free') q.3 c) in
    let s1 = page_events-kept m l page.0 (p, page.1) q.0 None (touches-kept m w l page.0 (p, page.1) q.0 None s q.2) in
    let first = page-lists m w l page.0 (p, page.1) q.0 None free both.0 s q.2 both.1 h in
    subst (λ es. Lists m (after_all l es) free') (sym q.3) (subst (λ x. Lists m x free') (sym (after_all-append l here q.1))
    (accesses-lists m w (after_all l here) p ps q.1 end both.0 free' s1 q.4 both.2 first))
accesses-lists m w l p (page ∷ ps) es end free free' s (inr q) c h =
    subst (λ es. Lists m (after_all l es) free') (sym q.3)
    (page-lists m w l page.0 (p, page.1) q.0 (Some q.1) free free' s q.2
    (subst (λ es. ChoosesFrames m l es free free') q.3 c) h)

-- ---- entries taken away

pub zap-steady : (l : Ledger) (k : Key) → T (is_sorted key_cmp l.entries) → Steady l (after_zap k l) None
zap-steady l k sorted = fewer-steady l _ (λ g gone. let a = map_count-after_zap k l g sorted in
    let b = ap (how_many (λ (c : Cached). g == c.frame)) (same_swap-after_zap k l).cache in omega (arith, gone, a, b))

zap-lists : (m : Setting) (l : Ledger) (k : Key) (free free' : List ℕ) → IsSound m l
    → ChoosesFrames m l (zap_of l k) free free' → Lists m l free
    → Lists m (after_all l (zap_of l k)) free'
zap-lists m l k free free' s c h =
    let now = after_zap k l in
    let first = subst (Lists m now) (sym c.1.2) (lists-event m l now None free c.1.0 c.1.1 (zap-steady l k s.in_order) h) in
    drop (slot_behind_key l (entry l k)) c.2 first
  where
    dropped : (t : Slot) (b : Bool)
        → ChoosesFrames m (after_zap k l) (note_events (when b (Dropped t))) c.0 free'
        → Lists m (after_zap k l) c.0
        → Lists m (after_all (after_zap k l) (note_events (when b (Dropped t)))) free'
    dropped t true d f = notes-lists m (after_zap k l) (Dropped t ∷ []) c.0 free' (in_order-after_zap k l s.in_order) (tt, tt) d f
    dropped t false d f = subst (Lists m (after_zap k l)) (sym d) f

    drop : (o : Option Slot)
        → ChoosesFrames m (after_zap k l) (orphan_drop (after_zap k l) o) c.0 free'
        → Lists m (after_zap k l) c.0
        → Lists m (after_all (after_zap k l) (orphan_drop (after_zap k l) o)) free'
    drop None d f = subst (Lists m (after_zap k l)) (sym d) f
    drop (Some t) d f = dropped t (is_orphan (after_zap k l) t) d f

zaps-lists : (m : Setting) (l : Ledger) (ks : List Key) (free free' : List ℕ) → IsSound m l
    → ChoosesFrames m l (zaps_of l ks) free free' → Lists m l free
    → Lists m (after_all l (zaps_of l ks)) free'
zaps-lists m l [] free free' s c h = subst (Lists m l) (sym c) h
zaps-lists m l (k ∷ ks) free free' s c h =
    let both = frames-first m l (zap_of l k) (zaps_of (after_all l (zap_of l k)) ks) free free' c in
    subst (λ x. Lists m x free') (sym (after_all-append l (zap_of l k) (zaps_of (after_all l (zap_of l k)) ks)))
    (zaps-lists m (after_all l (zap_of l k)) ks both.0 free' (zap_of-kept m l k s) both.2 (zap-lists m l k free both.0 s both.1 h))

-- ---- entries that go over

-- no frame comes into use
pub fork-steady : (m : Setting) (l : Ledger) (p q : ℕ) (goes : List ℕ) → IsSound m l → ((page : ℕ) → entry l (q, page) ≡ None)
    → Steady l (child_ledger p q goes l) None
fork-steady m l p q goes s none = subst (λ l'. Steady l l' None) (sym (forked-is p q goes l ∙ put_all-only (copies p q (going goes l.entries)) l))
    (fewer-steady l (record l { entries = (put_all (copies p q (going goes l.entries)) l).entries })
    (λ g gone. let a = (frames-grow p q goes l s.in_order none g).count in
    let b = (frames-grow p q goes l s.in_order none g).few in omega (arith, gone, a, b)))

fork-lists : (m : Setting) (l : Ledger) (p q : ℕ) (goes : List ℕ) (free free' : List ℕ) → IsSound m l → ((page : ℕ) → entry l (q, page) ≡ None)
    → ChoosesFrames m l (Forked p q goes ∷ []) free free' → Lists m l free → Lists m (child_ledger p q goes l) free'
fork-lists m l p q goes free free' s none c h = subst (Lists m (child_ledger p q goes l)) (sym (c.2 ∙ c.1.2))
    (lists-event m l (child_ledger p q goes l) None free c.1.0 c.1.1 (fork-steady m l p q goes s none) h)

-- ---- flags

-- a flag that is set leaves all
flag-lists : (m : Setting) (l : Ledger) (p from n : ℕ) (flag : Flag) (set : Bool) (es : List Event) (free free' : List ℕ)
    → ChoosesFrames m l (FlagSet p from n flag set ∷ es) free free' → Lists m l free
    → (mid : List ℕ) × Lists m l mid × ChoosesFrames m l es mid free'
flag-lists m l p from n flag set es free free' c h = (
  c.0,
  subst (Lists m l) (sym c.1.2) (lists-event m l l None free c.1.0 c.1.1 (fewer-steady l l (λ g gone. gone)) h),
  c.2,
)

-- ---- entries that move

-- no frame comes into use
pub move-steady : (m : Setting) (l : Ledger) (p n from to : ℕ) → IsSound m l
    → ((page : ℕ) → within to n page ≡ true → within from n page ≡ false → entry l (p, page) ≡ None) → Steady l (after_move p n from to l) None
move-steady m l p n from to s free = subst (λ l'. Steady l l' None) (sym (put_all-only (shifted p n from to l.entries) others))
    (fewer-steady l (record l { entries = (put_all (shifted p n from to l.entries) others).entries })
    (λ g gone. let a = frames-stay m l p n from to s free g in omega (arith, gone, a)))
  where
    others : Ledger
    others = record l { entries = others_of p from n l.entries }

remap-lists : (m : Setting) (l : Ledger) (p from n to k : ℕ) (free free' : List ℕ) → IsSound m l
    → ChoosesFrames m l (remap_events l p from n to k) free free' → Lists m l free
    → Lists m (after_all l (remap_events l p from n to k)) free'
remap-lists m l p from n to k free free' s c h = by (to == from) c
  where
    target : Ledger
    target = then_target l p from n to k

    tail : Ledger
    tail = then_tail l p from n to k

    target_zaps : List Event
    target_zaps = range_zaps l p to k

    tail_zaps : List Event
    tail_zaps = range_zaps target p (from + k) (n - k)

    move : List Event
    move = EntriesMoved p (min n k) from to ∷ []

    by : (b : Bool) → ChoosesFrames m l (cond b (range_zaps l p (from + k) (n - k)) ((target_zaps ++ tail_zaps) ++ move)) free free'
        → Lists m (after_all l (cond b (range_zaps l p (from + k) (n - k)) ((target_zaps ++ tail_zaps) ++ move))) free'
    by true c = zaps-lists m l (keys_in l p (from + k) (n - k)) free free' s c h
    by false c =
        let two = frames-first m l (target_zaps ++ tail_zaps) move free free' c in
        let one = frames-first m l target_zaps tail_zaps free two.0 two.1 in
        let first = zaps-lists m l (keys_in l p to k) free one.0 s one.1 h in
        let second = zaps-lists m target (keys_in target p (from + k) (n - k)) one.0 two.0 (target-kept m l p from n to k s) one.2 first in
        let last = subst (λ x. ChoosesFrames m x move two.0 free') (after_all-append l target_zaps tail_zaps) two.2 in
        subst (λ x. Lists m x free') (sym (after_all-append l (target_zaps ++ tail_zaps) move ∙ ap (after_move p (min n k) from to)
        (after_all-append l target_zaps tail_zaps)))
        (subst (Lists m (after_move p (min n k) from to tail)) (sym (last.2 ∙ last.1.2))
        (lists-event m tail (after_move p (min n k) from to tail) None two.0 last.1.0 last.1.1
        (move-steady m tail p (min n k) from to (tail-kept m l p from n to k s) (free_target m l p from n to k s)) second))

-- ---- reclaim, age and complete

held-leave : (l : Ledger) (f : ℕ) (t : Slot) → 0 < uses l f → AreHeld l (leave_notes l f t)
held-leave l f t in_use = held-append l (unmap_notes l f t) _ (held-unmap l f t in_use) (writes _ (is_dirty l f t))
  where
    writes : (l : Ledger) (b : Bool) → AreHeld l (if b then Started t ∷ Kept f WriteStarted ∷ [] else Dropped t ∷ [])
    writes l true = (tt, (tt, tt))
    writes l false = (tt, tt)

held-outcomes : (m : Setting) (sp : Spared) (l : Ledger) (fs : List ℕ) (notes : List Note) → IsSound m l → AreReady l fs → Outcomes m sp l fs notes →
    AreHeld l notes
held-outcomes m sp l [] notes s ready h = held-is l notes [] h tt
held-outcomes m sp l (f ∷ fs) notes s ready h =
    let in_use = ready-first l f fs ready in
    let here = outcome-kept m sp l f h.0 s in_use h.3 in
    held-is l notes (h.0 ++ h.1) h.2 (held-append l h.0 h.1 (by (cause_of m sp l f) in_use h.3)
    (held-outcomes m sp (after_notes l h.0) fs h.1 here.sound (ready-rest l (after_notes l h.0) f fs here.others ready) h.4))
  where
    by : (o : Option Cause) → 0 < uses l f
        → MatchOption o ((t : Slot) × IsSlotFor m sp l f t × (h.0 ≡ leave_notes l f t)) (λ cause. h.0 ≡ Kept f cause ∷ []) →
        AreHeld l h.0
    by None in_use q = held-is l h.0 (leave_notes l f q.0) q.2 (held-leave l f q.0 in_use)
    by (Some cause) in_use q = held-is l h.0 (Kept f cause ∷ []) q (tt, tt)

held-ages : (l : Ledger) (fs : List ℕ) → AreHeld l (map Aged fs)
held-ages l [] = tt
held-ages l (f ∷ fs) = (tt, held-ages (after_note (Aged f) l) fs)

-- ---- swapoff

held-maps : (l : Ledger) (f : ℕ) (t : Slot) (ks : List Key) → 0 < holders l f → AreHeld l (map_all ks f ++ Dropped t ∷ [])
held-maps l f t [] held = (tt, tt)
held-maps l f t (k ∷ ks) held = (omega (arith, held), held-maps (after_note (Mapped k.0 (address_of k.1) f) l) f t ks held)

held-fetched : (m : Setting) (sp : Spared) (l : Ledger) (t : Slot) (f : ℕ) (notes : List Note) → IsSound m l → IsFetched m sp l t f notes
    → AreHeld l notes
held-fetched m sp l t f notes s h = by (frame_at l t) h
  where
    by : (o : Option ℕ) → MatchOption o (TakesFor m sp l notes (Loaded t) × (frame_at (after_notes l notes) t ≡ Some f))
        (λ g. (notes ≡ []) × (f ≡ g)) →
        AreHeld l notes
    by None q = held-takes m sp l notes (Loaded t) s (λ l f. tt) q.0
    by (Some g) q = held-is l notes [] q.0 tt

held-emptied : (m : Setting) (w : World) (sp : Spared) (l : Ledger) (t : Slot) (notes : List Note) → Empty m w l → 0 < count l t →
    IsEmptied m sp l t notes → AreHeld l notes
held-emptied m w sp l t notes e used h =
    let l1 = after_notes l h.fetched in
    let f = fetched-hold m w sp l t h.frame h.fetched e used h.fetches in
    held-is l notes _ h.whole (held-append l h.fetched (map_notes l1 t h.frame) (held-fetched m sp l t h.frame h.fetched e.holds.sound h.fetches)
    (held-maps l1 h.frame t (keys_of_slot l1 t) (let p = pair-frame t h.frame l1.cache in let q = f.pair in omega (arith, p, q))))

held-ends : (m : Setting) (sp : Spared) (k : ℕ) (l : Ledger) (pages : List ℕ) (notes : List Note) (end : Close) → IsSound m l →
    EndsAt m sp k l pages notes end → AreHeld l notes
held-ends m sp k l [] notes end s h = held-is l notes [] h.0 tt
held-ends m sp k l (page ∷ pages) notes end s h = held-seeks m sp l notes s h.1

held-empties : (m : Setting) (w : World) (k : ℕ) (l : Ledger) (pages : List ℕ) (notes : List Note) (end : Close) → Empty m w l →
    Empties m w k l pages notes end → AreHeld l notes
held-empties m w k l [] notes end e h = held-ends m (sparing_area w k l) k l (slots_in_use m l k) notes end e.holds.sound h
held-empties m w k l (page ∷ pages) notes end e h =
    let used = first-used m l k page h.0 h.3 in
    held-is l notes (h.1 ++ h.2) h.4 (held-append l h.1 h.2 (held-emptied m w (sparing_area w k l) l (record { area = k; page = page }) h.1 e used h.5)
    (held-empties m w k (after_notes l h.1) pages h.2 end (emptied-hold m w (sparing_area w k l) l (record { area = k; page = page }) h.1 e used h.5) h.6))

-- areas that are turned on or off leave frames alone
switch-lists : (m : Setting) (l l' : Ledger) (e : Event) (free free' : List ℕ) → after l e ≡ l' → frame_in e ≡ None
    → ((g : ℕ) → uses l' g ≡ uses l g) →
    ChoosesFrames m l (e ∷ []) free free' → Lists m l free → Lists m l' free'
switch-lists m l l' e free free' is none same c h = subst (λ x. Lists m x free') is
    (subst (Lists m (after l e)) (sym c.2) (chosen-lists m l e free c.0
    (λ _. subst (Steady l (after l e)) (sym none) (fewer-steady l (after l e) (λ g gone. ap (λ x. uses x g) is ∙ same g ∙ gone))) c.1 h))

-- ---- merge and compact

module _ (m : Setting) (held : FrameBytes) (w : World) where
  held-joins : (l : Ledger) (k : Key) (earlier : List ℕ) → IsSound m l → AreBefore held l earlier
      → AreHeld l (merge_notes m held l earlier k (candidate w l k))
  held-joins l k earlier s before = by (candidate w l k)
    where
      some : (n : ℕ) → nat_lt 0 n ≡ true → 0 < n
      some n e = grind (arith, nat_tests, e)

      first : (a b : Bool) → (a && b) ≡ true → a ≡ true
      first true b h = refl
      first false b h = cc

      joins : (f : ℕ) (a : Option ℕ) → merged_like m held l f ≡ a → (b : Option ℕ) → other_like held earlier f ≡ b → AreHeld l (join_notes k a b)
      joins f (Some g) is b is' =
          let t = first (is_merged l g) _ (found-is (λ g. is_merged l g && hold_same held g f) (range_with_len 0 m.frames) g is).0 in
          let n = some _ (sym (any-counts (λ y. g == y) l.merged) ∙ t) in
          let c = s.merged g in (omega (arith, n, c), tt)
      joins f None is (Some j) is' = let u = (other-waits m held l f j earlier s before is is').waits.named in (tt, (omega (arith, u), tt))
      joins f None is None is' = tt

      by : (o : Option ℕ) → AreHeld l (merge_notes m held l earlier k o)
      by None = tt
      by (Some f) = joins f (merged_like m held l f) refl (other_like held earlier f) refl

  held-merges : (l : Ledger) (earlier : List ℕ) (ks : List Key) → Holds m w l → AreBefore held l earlier → AreHeld l (merges m held w l earlier ks)
  held-merges l earlier [] h before = tt
  held-merges l earlier (k ∷ ks) h before =
      let here = merge_notes m held l earlier k (candidate w l k) in
      let x = turned m held w l k earlier h before in
      held-append l here (merges m held w (after_notes l here) (with_candidate earlier (candidate w l k)) ks)
      (held-joins l k earlier h.sound before) (held-merges (after_notes l here) (with_candidate earlier (candidate w l k)) ks x.holds x.before)

held-moves : (m : Setting) (w : World) (l : Ledger) (notes : List Note) → Holds m w l → MovesDown m l notes → AreHeld l notes
held-moves m w l [] s h = tt
held-moves m w l (note ∷ notes) s h =
    let v = move-is m l note h.0 in
    (subst (IsHeld l) (sym v.is) (one v), held-moves m w (after_note note l) notes (move-holds m w l note s h.0) h.1)
  where
    one : (v : IsMove m l note) → GoesOver v.from v.to l
    one v = record {
      stays = λ g gone other. uses-stay m no_excuse l v.from v.to s.sound v.free v.used v.below g gone other;
      used = λ g is. uses-go m no_excuse l v.from v.to s.sound v.free v.used v.below g is;
    }

-- ---- a step, and a run

legal-lists : (m : Setting) (w : World) (l : Ledger) (command : Command) (reply : Reply)
    (es : List Event) (free free' : List ℕ) → AllSound m w l → IsLegal m w l command reply es
    → ChoosesFrames m l es free free' → Lists m l free → Lists m (after_all l es) free'
legal-lists m w l command reply es free free' sound legal c h = by (refusal (tests m w l command)) refl legal.answer
  where
    s : IsSound m l
    s = sound.ledger

    forks : (p q : ℕ) (goes : List ℕ) → lives w q ≡ false → es ≡ Forked p q goes ∷ [] → Lists m (after_all l es) free'
    forks p q goes dead e = subst (λ es. Lists m (after_all l es) free') (sym e)
        (fork-lists m l p q goes free free' s (no_entries w l q sound.at_pages dead) (subst (λ es. ChoosesFrames m l es free free') e c) h)

    none : es ≡ [] → Lists m (after_all l es) free'
    none e = subst (λ es. Lists m (after_all l es) free') (sym e)
        (subst (Lists m l) (sym (subst (λ es. ChoosesFrames m l es free free') e c)) h)

    these : (ks : List Key) → es ≡ zaps_of l ks → Lists m (after_all l es) free'
    these ks e = subst (λ es. Lists m (after_all l es) free') (sym e)
        (zaps-lists m l ks free free' s (subst (λ es. ChoosesFrames m l es free free') e c) h)

    moves : (p from n k : ℕ) (to : Option ℕ) → es ≡ events_to l p from n to k → Lists m (after_all l es) free'
    moves p from n k None e = none e
    moves p from n k (Some to) e = subst (λ es. Lists m (after_all l es) free') (sym e)
        (remap-lists m l p from n to k free free' s (subst (λ es. ChoosesFrames m l es free free') e c) h)

    noted : (notes : List Note) → es ≡ note_events notes → AreHeld l notes → Lists m (after_all l es) free'
    noted notes e held = subst (λ es. Lists m (after_all l es) free') (sym e) (subst (λ x. Lists m x free') (sym (note_events-all l notes))
        (notes-lists m l notes free free' s.in_order held (subst (λ es. ChoosesFrames m l es free free') e c) h))

    turns_on : (k : ℕ) (priority : Option ℕ) → es ≡ turn_on_events k priority reply.answer → (turn_on_events k priority reply.answer ≡ [])
        ⊎ ((area : SwapArea) × (turn_on_events k priority reply.answer ≡ TurnedOn k area ∷ [])) → Lists m (after_all l es) free'
    turns_on k priority e (inl i) = none (e ∙ i)
    turns_on k priority e (inr (area, i)) = subst (λ es. Lists m (after_all l es) free') (sym (e ∙ i))
        (switch-lists m l (after l (TurnedOn k area)) (TurnedOn k area) free free' refl refl (λ g. refl)
        (subst (λ es. ChoosesFrames m l es free free') (e ∙ i) c) h)

    closes : (l' : Ledger) (k : ℕ) (end : Close) (mid : List ℕ) → ChoosesFrames m l' (turn_off_events k end) mid free' → Lists m l' mid →
        Lists m (after_all l' (turn_off_events k end)) free'
    closes l' k Closed mid c h = switch-lists m l' (after l' (TurnedOff k)) (TurnedOff k) mid free' refl refl (λ g. refl) c h
    closes l' k (NoRoom out) mid c h = subst (Lists m l') (sym c) h
    closes l' k Unread mid c h = subst (Lists m l') (sym c) h

    turns_off : (k : ℕ) → TurnsOff m w l k es reply.answer reply.rows → Lists m (after_all l es) free'
    turns_off k q =
        let notes = q.done ++ q.notes in
        let now = after_notes l q.done in
        let empty = done-empty m w l q.done sound q.completes in
        let held = held-append l q.done q.notes (held-completes l l.flight q.done q.completes)
        (held-empties m w k now q.pages q.notes q.end empty q.empties) in
        let both = frames-first m l (note_events notes) (turn_off_events k q.end) free free'
        (subst (λ es. ChoosesFrames m l es free free') q.whole c) in
        let first = notes-lists m l notes free both.0 s.in_order held both.1 h in
        let same = note_events-all l notes in
        subst (λ es. Lists m (after_all l es) free') (sym q.whole)
        (subst (λ x. Lists m x free') (sym (after_all-append l (note_events notes) (turn_off_events k q.end)
        ∙ ap (λ x. after_all x (turn_off_events k q.end)) same))
        (closes (after_notes l notes) k q.end both.0 (subst (λ x. ChoosesFrames m x (turn_off_events k q.end) both.0 free') same both.2) first))

    flagged : (p from n : ℕ) (flag : Flag) (set : Bool) → es ≡ FlagSet p from n flag set ∷ [] → Lists m (after_all l es) free'
    flagged p from n flag set e =
        let first = flag-lists m l p from n flag set [] free free' (subst (λ es. ChoosesFrames m l es free free') e c) h in
        subst (λ es. Lists m (after_all l es) free') (sym e) (subst (Lists m l) (sym first.2) first.1)

    advises : (p from n : ℕ) (change : Option (Flag × Bool)) → es ≡ advice_events l p from n change → Lists m (after_all l es) free'
    advises p from n None e = these (keys_in l p from n) e
    advises p from n (Some change) e = flagged p from n change.0 change.1 e

    locks : (p from n : ℕ) → Locks m w l p from n es reply.answer reply.rows → Lists m (after_all l es) free'
    locks p from n q =
        let k = pages_to_hole (pages w p) from n in
        let first = flag-lists m l p from k flags.Locked true q.0 free free' (subst (λ es. ChoosesFrames m l es free free') q.1 c) h in
        subst (λ es. Lists m (after_all l es) free') (sym q.1) (by (k == n) first.0 first.1 first.2 q.3)
      where
        by : (b : Bool) (mid : List ℕ) → Lists m l mid → ChoosesFrames m l q.0 mid free'
            → MatchBool b (BringsIn m w l p from n q.0 reply.answer) ((q.0 ≡ []) × (reply.answer ≡ Refused Enomem))
            → Lists m (after_all l q.0) free'
        by true mid h c r = accesses-lists m (with_lock true w p from n) l p (accesses_of (pages w p) from n) q.0 r.0 mid free' s r.1 c h
        by false mid h c r = subst (λ es. Lists m (after_all l es) free') (sym r.0)
            (subst (Lists m l) (sym (subst (λ es. ChoosesFrames m l es mid free') r.0 c)) h)

    compacts : Compacts m l es reply.answer reply.rows → Lists m (after_all l es) free'
    compacts q =
        let both = frames-first m l (note_events q.0) (FreeSorted ∷ []) free free' (subst (λ es. ChoosesFrames m l es free free') q.2 c) in
        let first = notes-lists m l q.0 free both.0 s.in_order (held-moves m w l q.0 (of-sound m w l sound) q.1) both.1 h in
        let same = note_events-all l q.0 in
        subst (λ es. Lists m (after_all l es) free') (sym q.2)
        (subst (λ x. Lists m x free') (sym (after_all-append l (note_events q.0) (FreeSorted ∷ []) ∙ same))
        (switch-lists m (after_notes l q.0) (after_notes l q.0) FreeSorted both.0 free' refl refl (λ g. refl)
        (subst (λ x. ChoosesFrames m x (FreeSorted ∷ []) both.0 free') same both.2) first))

    follows : (command : Command) → refusal (tests m w l command) ≡ None → Follows m w l command es reply.answer reply.rows
        → Lists m (after_all l es) free'
    follows (Spawn p) fine q = none q.1
    follows (Fork p c) fine q = forks p c (inheritance (pages w p) l p) (may-fork m w l p c fine).child q.1
    follows (Exit p) fine q = these (keys_of_process l p) q.1
    follows (Mmap p len prot Auto) fine q = none q.3
    follows (Mmap p len prot (At a)) fine q = none q.3
    follows (Mmap p len prot (Fixed a)) fine q = these (keys_in l p (page_of a) (pages_of len)) q.3
    follows (Mmap p len prot (NoReplace a)) fine q = none q.3
    follows (Munmap p a len) fine q = these (keys_in l p (page_of a) (pages_of len)) q.1
    follows (Mprotect p a len prot) fine q = none q.1
    follows (Mremap p a old new mode) fine q = moves p (page_of a) (pages_of old) (pages_of new) q.0 q.3
    follows (Madvise p a len advice) fine q =
        advises p (page_of a) (pages_advised (pages w p) (page_of a) (pages_of len) (flag_of_advice advice)) (flag_of_advice advice) q.1
    follows (Mlock p a len) fine q = locks p (page_of a) (pages_met a len) q
    follows (Munlock p a len) fine q = flagged p (page_of a) (pages_to_hole (pages w p) (page_of a) (pages_met a len)) flags.Locked false q.1
    follows (Read p a n) fine q = accesses-lists m w l p (pages_of_access false a n) es q.0 free free' s q.2 c h
    follows (Write p a bytes) fine q = accesses-lists m w l p (pages_of_access true a (length bytes)) es q.0 free free' s q.1 c h
    follows (AsksReclaim n) fine q = noted q.0 q.3 (held-outcomes m (sparing w l None) l (from_tail n l.inactive) q.0 s (inactive-ready m l n s) q.1)
    follows (Age n) fine q = noted (map Aged (from_tail n l.active)) q.1 (held-ages l (from_tail n l.active))
    follows (Complete n) fine q = noted q.0 q.3 (held-completes l (take n l.flight) q.0 q.1)
    follows (Swapon k priority) fine q = turns_on k priority q.1 (turn-on-events k priority reply.answer)
    follows (Swapoff k) fine q = turns_off k q
    follows Merge fine q = noted (merges m q.0 w l [] (map (λ e. e.0) l.entries)) q.2
        (held-merges m q.0 w l [] (map (λ e. e.0) l.entries) (of-sound m w l sound) (λ j in_list. cc))
    follows Compact fine q = compacts q
    follows (Maps p) fine q = none q.2
    follows (AsksAreas p) fine q = none q.2
    follows (AsksRmap p a) fine q = none q.1
    follows (AsksEntry p a) fine q = none q.1
    follows (AsksSlot k page) fine q = none q.1
    follows Stat fine q = none q.1

    by : (o : Option Errno) → refusal (tests m w l command) ≡ o → MatchOption o (Follows m w l command es reply.answer reply.rows)
        (λ error. Refuses error es reply.answer reply.rows) → Lists m (after_all l es) free'
    by None fine q = follows command fine q
    by (Some error) fine q = none q.1

run-lists : (m : Setting) (old : State) (es : List Exchange) (new : State)
    → AllSound m old.world old.ledger → Lists m old.ledger old.free.frames → IsRun m old es new
    → Lists m new.ledger new.free.frames
run-lists m old [] new s h q = subst (λ (x : State). Lists m x.ledger x.free.frames) (sym q) h
run-lists m old (e ∷ es) new s h q =
    let step = q.1 in
    let chosen = frames-chosen m (closing_swap_area e.command) old.ledger step.events old.free q.0.free
    step.free in
    let next = subst (λ x. Lists m x q.0.free.frames) (sym step.ledger)
    (legal-lists m old.world old.ledger e.command e.reply step.events old.free.frames
    q.0.free.frames s step.legal chosen h) in
    run-lists m q.0 es new (step-sound m old e.command e.reply q.0 s step) next q.2

first-lists : (m : Setting) → Lists m first_ledger (range_with_len 0 m.frames)
first-lists m g = once g 0 m.frames ∙ ap (λ b. cond b 1 0) (plain g m.frames)
  where
    plain : (g n : ℕ) → (nat_le 0 g && nat_lt g (0 + n)) ≡ nat_lt g n
    plain g n = grind (arith, nat_tests)

pub to_lists : (m : Setting) (l : Ledger) (free : List ℕ) → ListsFree m l free → Lists m l free
to_lists m l free h f = h f ∙ ap (λ b. cond (b && nat_lt f m.frames) 1 0) (free-is l f)

pub from_lists : (m : Setting) (l : Ledger) (free : List ℕ) → Lists m l free → ListsFree m l free
from_lists m l free h f = h f ∙ ap (λ b. cond (b && nat_lt f m.frames) 1 0) (sym (free-is l f))

pub first-lists_free : (m : Setting) → ListsFree m first_ledger (range_with_len 0 m.frames)
first-lists_free m = from_lists m first_ledger (range_with_len 0 m.frames) (first-lists m)

pub step-lists_free : (m : Setting) (old : State) (command : Command) (reply : Reply) (new : State)
    → AllSound m old.world old.ledger → ListsFree m old.ledger old.free.frames
    → IsStep m old command reply new
    → ListsFree m new.ledger new.free.frames
step-lists_free m old command reply new s h step =
    let chosen = frames-chosen m (closing_swap_area command) old.ledger step.events old.free new.free
    step.free in
    subst (λ l. ListsFree m l new.free.frames) (sym step.ledger)
    (from_lists m (after_all old.ledger step.events) new.free.frames
    (legal-lists m old.world old.ledger command reply step.events old.free.frames new.free.frames
    s step.legal chosen (to_lists m old.ledger old.free.frames h)))

-- the same after one page of an access
pub page-lists_free : (m : Setting) (w : World) (l : Ledger) (write : Bool) (k : Key) (notes : List Note) (end : Option Stop)
    (closing : Option ℕ) (free free' : Free) → IsSound m l → Touches m w l write k notes end
    → ChoosesAll m closing l (page_events write k notes end) free free' → ListsFree m l free.frames
    → ListsFree m (after_all l (page_events write k notes end)) free'.frames
page-lists_free m w l write k notes end closing free free' s touches chosen h =
    let events = page_events write k notes end in
    from_lists m (after_all l events) free'.frames
    (page-lists m w l write k notes end free.frames free'.frames s touches
    (frames-chosen m closing l events free free' chosen) (to_lists m l free.frames h))

pub run-lists_free : (m : Setting) (es : List Exchange) (new : State) → IsRun m (at_first m) es new
    → ListsFree m new.ledger new.free.frames
run-lists_free m es new q = from_lists m new.ledger new.free.frames
    (run-lists m (at_first m) es new (first-sound m) (first-lists m) q)

-- so a frame of the machine is in the list where it is free
pub lists-is_in : (m : Setting) (l : Ledger) (free : List ℕ) (f : ℕ) → ListsFree m l free → f < m.frames → is_in f free ≡ is_free l f
lists-is_in m l free f h below = any-counts (λ g. f == g) free ∙ by (is_free l f) (nat_lt f m.frames) (grind (arith, nat_tests, below)) _ (h f)
  where
    by : (a b : Bool) → b ≡ true → (n : ℕ) → n ≡ cond (a && b) 1 0 → nat_lt 0 n ≡ a
    by true true e n h = grind (arith, nat_tests, h)
    by true false e n h = cc
    by false b e n h = grind (arith, nat_tests, h)
