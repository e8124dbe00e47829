-- A command that doesn't use the device tells of no failure of one, whatever is on: what it takes away leaves only drops, and no test refuses it so.
use Rattle.std.specs.List.{AllByRecursion}
use Rattle.std.specs.Prelude.{MatchOption, unwrap_or, if◌then◌else◌}
use Rattle.std.proofs.Common.{◌≡◌, ◌⊎◌, inl, inr, ℕ, ◌+◌, ◌-◌, min, Bool, true, false, cond, not, List, [], ◌∷◌, ◌++◌, map, Option, Some, None, is_none, refl, sym, ap, subst, ◌∙◌, arith, ◌==◌}
use Rattle.av_base.specs.Keys.{Key}
use Rattle.av_base.specs.Page.{page_of, pages_of}
use Rattle.av_base.specs.declared.slot.Slot.{Slot}
use Rattle.av_swapdev.specs.Header.{Layout}
use Rattle.av_trace.specs.declared.command.Command.{Command}
use Rattle.av_trace.specs.declared.command.Command.TheVariants.{Spawn, Fork, Exit, Mmap, Mremap, Munmap, Mprotect, Madvise, Mlock, Munlock, Read, Write, Reclaim, Age, Complete, Swapon, Swapoff, Maps, Areas as AsksAreas, Rmap as AsksRmap, Entry as AsksEntry, Slot as AsksSlot, Stat}
use Rattle.av_trace.specs.declared.place.Place.{Place}
use Rattle.av_trace.specs.declared.place.Place.TheVariants.{Auto, At, Fixed, NoReplace}
use Rattle.av_trace.specs.declared.note.Cause.{Cause}
use Rattle.av_trace.specs.declared.note.Cause.TheVariants.{WriteStarted}
use Rattle.av_trace.specs.declared.note.Note.{Note}
use Rattle.av_trace.specs.declared.note.Note.TheVariants.{Aged, Dropped, Kept, Put, Started, Unmapped}
use Rattle.av_trace.specs.declared.reply.Answer.{Answer}
use Rattle.av_trace.specs.declared.reply.Answer.TheVariants.{Done, Refused, SlotBad}
use Rattle.av_trace.specs.declared.reply.Errno.{Errno}
use Rattle.av_trace.specs.declared.reply.Errno.TheVariants.{Enomem, Eperm}
use Rattle.av_trace.specs.declared.reply.Reply.{Reply}
use Rattle.av_trace.specs.declared.row.Row.{Row}
use Rattle.av_plain.specs.Event.{Event, EntriesMoved, Zapped, after, after_all, after_notes, note_events, notes_of, when}
use Rattle.av_plain.specs.Fault.{sparing}
use Rattle.av_plain.specs.Ledger.{Entry, InFrame, InSlot, Ledger, Setting, Zero, entry, is_orphan, is_usable, map_count, slot_of}
use Rattle.av_plain.specs.Map.{zaps_for_place}
use Rattle.av_plain.specs.Mremap.{events_to, range_zaps}
use Rattle.av_plain.specs.Pass.{IsSlotFor, Spared, is_dirty, pages_written}
use Rattle.av_plain.proofs.Wrote.{ends, fails-ended, is_end, written-ended}
use Rattle.av_plain.specs.Place.{IsMapAt}
use Rattle.av_plain.specs.Reclaim.{Outcomes, cause_of, from_tail, leave_notes}
use Rattle.av_plain.specs.Refusal.{Refuses, Tests, refusal, tests}
use Rattle.av_plain.specs.Report.{MayBeNoSlot, count_answer, entry_answer, slot_answer, walk_answer}
use Rattle.av_plain.specs.Step.{Follows, IsLegal, causes, failed_frames, failure_answers, uses_device}
use Rattle.av_plain.specs.World.{World, pages, pages_to_hole}
use Rattle.av_plain.specs.Zap.{keys_in, keys_of_process, orphan_drop, slot_behind_key, zap_of, zaps_of}
use Rattle.av_plain.proofs.Access.{notes_of-append, notes_of-note_events}
use Rattle.av_plain.proofs.Ledger.{how_many-append}
use Rattle.av_base.specs.declared.flags.Flag.{Flag}
use Rattle.av_plain.specs.Advice.{advice_events, flag_of_advice, pages_advised}
use Rattle.av_base.specs.Page.{pages_met}
use Rattle.av_trace.specs.declared.reply.Errno.TheVariants.{Einval}
use Rattle.std.proofs.Common.{nat_lt}
use Rattle.av_plain.specs.Event.{FreeSorted}
use Rattle.av_plain.specs.Merge.{FrameBytes, candidate, join_notes, merge_notes, merged_like, merges, other_like, with_candidate}
use Rattle.av_plain.specs.Compact.{MovesDown}
use Rattle.av_trace.specs.declared.command.Command.TheVariants.{Compact, Merge}
use Rattle.av_plain.proofs.Sound.Frames.{move-is}
use Rattle.av_plain.specs.Event.{after_note}

-- ---- replies that tell of no failure

-- the answer tells of no failure
pub record IsFaultless (answer : Answer) : Type 0 where
  pub told : failure_answers answer ≡ 0
  pub failed : failed_frames answer ≡ 0

-- and no note does
pub record Faultless (events : List Event) (answer : Answer) : Type 0 where
  pub notes : ends (notes_of events) ≡ 0
  pub answered : IsFaultless answer

-- so it is with an answer that is known
pub is-faultless : (answer answer' : Answer) → answer ≡ answer' → IsFaultless answer' → IsFaultless answer
is-faultless answer answer' e h = subst IsFaultless (sym e) h

pub no-ends : (notes : List Note) → AllByRecursion (λ note. is_end note ≡ false) notes → ends notes ≡ 0
no-ends [] h = refl
no-ends (note ∷ notes) h = let rest = no-ends notes h.1 in by (is_end note) h.0 rest
  where
    by : (b : Bool) → b ≡ false → ends notes ≡ 0 → cond b 1 0 + ends notes ≡ 0
    by true e rest = cc
    by false e rest = omega (arith, rest)

-- ---- entries that go

both : (xs ys : List Note) → ends xs ≡ 0 → ends ys ≡ 0 → ends (xs ++ ys) ≡ 0
both xs ys a b = let e = how_many-append is_end xs ys in omega (arith, a, b, e)

pub both-events : (es fs : List Event) → ends (notes_of es) ≡ 0 → ends (notes_of fs) ≡ 0 → ends (notes_of (es ++ fs)) ≡ 0
both-events es fs a b = ap ends (notes_of-append es fs) ∙ both (notes_of es) (notes_of fs) a b

zap-faultless : (l : Ledger) (k : Key) → ends (notes_of (zap_of l k)) ≡ 0
zap-faultless l k = by (slot_behind_key l (entry l k))
  where
    gone : Ledger
    gone = after l (Zapped k)

    dropped : (b : Bool) (s : Slot) → ends (notes_of (note_events (when b (Dropped s)))) ≡ 0
    dropped true s = refl
    dropped false s = refl

    by : (o : Option Slot) → ends (notes_of (orphan_drop gone o)) ≡ 0
    by None = refl
    by (Some s) = dropped (is_orphan gone s) s

pub zaps-faultless : (l : Ledger) (ks : List Key) → ends (notes_of (zaps_of l ks)) ≡ 0
zaps-faultless l [] = refl
zaps-faultless l (k ∷ ks) = both-events (zap_of l k) (zaps_of (after_all l (zap_of l k)) ks) (zap-faultless l k)
    (zaps-faultless (after_all l (zap_of l k)) ks)

advice-faultless : (l : Ledger) (p from n : ℕ) (change : Option (Flag × Bool)) → ends (notes_of (advice_events l p from n change)) ≡ 0
advice-faultless l p from n None = zaps-faultless l (keys_in l p from n)
advice-faultless l p from n (Some change) = refl

place-faultless : (l : Ledger) (p n : ℕ) (place : Place) → ends (notes_of (zaps_for_place l p n place)) ≡ 0
place-faultless l p n Auto = refl
place-faultless l p n (At a) = refl
place-faultless l p n (Fixed a) = zaps-faultless l (keys_in l p (page_of a) n)
place-faultless l p n (NoReplace a) = refl

remap-faultless : (l : Ledger) (p from n : ℕ) (to : Option ℕ) (k : ℕ) → ends (notes_of (events_to l p from n to k)) ≡ 0
remap-faultless l p from n None k = refl
remap-faultless l p from n (Some to) k = by (to == from)
  where
    by : (b : Bool) → ends (notes_of (cond b (range_zaps l p (from + k) (n - k))
        ((range_zaps l p to k ++ range_zaps (after_all l (range_zaps l p to k)) p (from + k) (n - k)) ++ EntriesMoved p (min n k) from to ∷ []))) ≡ 0
    by true = zaps-faultless l (keys_in l p (from + k) (n - k))
    by false = both-events (range_zaps l p to k ++ range_zaps (after_all l (range_zaps l p to k)) p (from + k) (n - k))
        (EntriesMoved p (min n k) from to ∷ [])
        (both-events (range_zaps l p to k) (range_zaps (after_all l (range_zaps l p to k)) p (from + k) (n - k))
        (zaps-faultless l (keys_in l p to k))
        (zaps-faultless (after_all l (range_zaps l p to k)) (keys_in (after_all l (range_zaps l p to k)) p (from + k) (n - k)))) refl

-- ---- answers

mapped-faultless : (answer : Answer) (to : Option ℕ) → IsMapAt answer to → IsFaultless answer
mapped-faultless answer None e = is-faultless answer _ e (record { told = refl; failed = refl })
mapped-faultless answer (Some page) e = is-faultless answer _ e (record { told = refl; failed = refl })

walk-faultless : (l : Ledger) (e : Option Entry) → IsFaultless (walk_answer l e)
walk-faultless l None = record { told = refl; failed = refl }
walk-faultless l (Some Zero) = record { told = refl; failed = refl }
walk-faultless l (Some (InFrame f seen)) = record { told = refl; failed = refl }
walk-faultless l (Some (InSlot s)) = record { told = refl; failed = refl }

entry-faultless : (l : Ledger) (e : Option Entry) → IsFaultless (entry_answer l e)
entry-faultless l None = record { told = refl; failed = refl }
entry-faultless l (Some Zero) = record { told = refl; failed = refl }
entry-faultless l (Some (InFrame f seen)) = record { told = refl; failed = refl }
entry-faultless l (Some (InSlot s)) = record { told = refl; failed = refl }

slot-faultless : (m : Setting) (l : Ledger) (s : Slot) (answer : Answer) →
    MatchOption m.headers ((answer ≡ count_answer l s) ⊎ MayBeNoSlot l s answer) (λ headers. answer ≡ slot_answer m l s) → IsFaultless answer
slot-faultless m l s answer = by m.headers (is_usable m s)
  where
    by : (o : Option (ℕ → Option Layout)) (b : Bool) → MatchOption o ((answer ≡ count_answer l s) ⊎ MayBeNoSlot l s answer)
        (λ headers. answer ≡ (if b then count_answer l s else SlotBad s)) → IsFaultless answer
    by None b (inl e) = is-faultless answer _ e (record { told = refl; failed = refl })
    by None b (inr (none, inl e)) = is-faultless answer _ e (record { told = refl; failed = refl })
    by None b (inr (none, inr e)) = is-faultless answer _ e (record { told = refl; failed = refl })
    by (Some headers) true e = is-faultless answer _ e (record { told = refl; failed = refl })
    by (Some headers) false e = is-faultless answer _ e (record { told = refl; failed = refl })

-- ---- frames that are reclaimed or aged

-- reclaim ends no write
leave-faultless : (l : Ledger) (f : ℕ) (t : Slot) → ends (leave_notes l f t) ≡ 0
leave-faultless l f t = by (is_none (slot_of l f)) (not (map_count l f == 0)) (is_dirty l f t)
  where
    by : (a b c : Bool) → ends
        ((when a (Put f t) ++ when b (Unmapped f)) ++ (if c then Started t ∷ Kept f WriteStarted ∷ [] else Dropped t ∷ [])) ≡ 0
    by true true true = refl
    by true true false = refl
    by true false true = refl
    by true false false = refl
    by false true true = refl
    by false true false = refl
    by false false true = refl
    by false false false = refl

pub outcomes-faultless : (m : Setting) (sp : Spared) (l : Ledger) (fs : List ℕ) (notes : List Note) → Outcomes m sp l fs notes → ends notes ≡ 0
outcomes-faultless m sp l [] notes h = ap ends h
outcomes-faultless m sp l (f ∷ fs) notes h = ap ends h.2 ∙ how_many-append is_end h.0 h.1
    ∙ (λ i. by (cause_of m sp l f) h.3 i + outcomes-faultless m sp (after_notes l h.0) fs h.1 h.4 i)
  where
    by : (o : Option Cause) → MatchOption o ((t : Slot) × IsSlotFor m sp l f t × (h.0 ≡ leave_notes l f t)) (λ cause. h.0 ≡ Kept f cause ∷ []) →
        ends h.0 ≡ 0
    by None q = ap ends q.2 ∙ leave-faultless l f q.0
    by (Some cause) q = ap ends q

pub ages-faultless : (fs : List ℕ) → ends (map Aged fs) ≡ 0
ages-faultless [] = refl
ages-faultless (f ∷ fs) = ap (λ n. 0 + n) (ages-faultless fs)

pub merges-faultless : (m : Setting) (held : FrameBytes) (w : World) (l : Ledger) (earlier : List ℕ) (ks : List Key)
    → ends (merges m held w l earlier ks) ≡ 0
merges-faultless m held w l earlier [] = refl
merges-faultless m held w l earlier (k ∷ ks) =
    let here = merge_notes m held l earlier k (candidate w l k) in
    how_many-append is_end here (merges m held w (after_notes l here) (with_candidate earlier (candidate w l k)) ks)
    ∙ (λ i. by (candidate w l k) i + merges-faultless m held w (after_notes l here) (with_candidate earlier (candidate w l k)) ks i)
  where
    joins : (a b : Option ℕ) → ends (join_notes k a b) ≡ 0
    joins (Some g) b = refl
    joins None (Some j) = refl
    joins None None = refl

    by : (o : Option ℕ) → ends (merge_notes m held l earlier k o) ≡ 0
    by None = refl
    by (Some f) = joins (merged_like m held l f) (other_like held earlier f)

moves-faultless : (m : Setting) (l : Ledger) (notes : List Note) → MovesDown m l notes → ends notes ≡ 0
moves-faultless m l [] h = refl
moves-faultless m l (note ∷ notes) h =
    (λ i. one i + moves-faultless m (after_note note l) notes h.1 i)
  where
    one : ◌≡◌ {A = ℕ} (cond (is_end note) 1 0) 0
    one = ap {B = ℕ} (λ n. cond (is_end n) 1 0) (move-is m l note h.0).is

sorted-faultless : (notes : List Note) → ends (notes_of (note_events notes ++ FreeSorted ∷ [])) ≡ ends notes
sorted-faultless [] = refl
sorted-faultless (note ∷ notes) = ap (λ n. cond (is_end note) 1 0 + n) (sorted-faultless notes)

-- ---- a command

pub unused-follows : (m : Setting) (w : World) (l : Ledger) (command : Command) (events : List Event) (answer : Answer) (rows : List Row) →
    uses_device command ≡ false → Follows m w l command events answer rows → Faultless events answer
unused-follows m w l (Spawn p) events answer rows un h =
    record { notes = ap (λ es. ends (notes_of es)) h.1; answered = is-faultless answer _ h.0 (record { told = refl; failed = refl }) }
unused-follows m w l (Fork p q) events answer rows un h =
    record { notes = ap (λ es. ends (notes_of es)) h.1; answered = is-faultless answer _ h.0 (record { told = refl; failed = refl }) }
unused-follows m w l (Exit p) events answer rows un h = record {
  notes = ap (λ es. ends (notes_of es)) h.1 ∙ zaps-faultless l (keys_of_process l p);
  answered = is-faultless answer _ h.0 (record { told = refl; failed = refl });
}
unused-follows m w l (Mmap p len prot place) events answer rows un h = record {
  notes = ap (λ es. ends (notes_of es)) h.3 ∙ place-faultless l p (pages_of len) place;
  answered = mapped-faultless answer h.0 h.2;
}
unused-follows m w l (Munmap p a len) events answer rows un h = record {
  notes = ap (λ es. ends (notes_of es)) h.1 ∙ zaps-faultless l (keys_in l p (page_of a) (pages_of len));
  answered = is-faultless answer _ h.0 (record { told = refl; failed = refl });
}
unused-follows m w l (Mprotect p a len prot) events answer rows un h = record {
  notes = ap (λ es. ends (notes_of es)) h.1;
  answered = is-faultless answer _ h.0 (by (pages_to_hole (pages w p) (page_of a) (pages_of len) == pages_of len));
}
  where
    by : (b : Bool) → IsFaultless (if b then Done else Refused Enomem)
    by true = record { told = refl; failed = refl }
    by false = record { told = refl; failed = refl }
unused-follows m w l (Mremap p a old new mode) events answer rows un h = record {
  notes = ap (λ es. ends (notes_of es)) h.3 ∙ remap-faultless l p (page_of a) (pages_of old) h.0 (pages_of new);
  answered = mapped-faultless answer h.0 h.2;
}
unused-follows m w l (Madvise p a len advice) events answer rows un h = record {
  notes = ap (λ es. ends (notes_of es)) h.1 ∙ advice-faultless l p (page_of a)
      (pages_advised (pages w p) (page_of a) (pages_of len) (flag_of_advice advice)) (flag_of_advice advice);
  answered = is-faultless answer _ h.0 (by
      (nat_lt (pages_advised (pages w p) (page_of a) (pages_of len) (flag_of_advice advice)) (pages_of len))
      (pages_to_hole (pages w p) (page_of a) (pages_of len) == pages_of len));
}
  where
    by : (b c : Bool) → IsFaultless (if b then Refused Einval else (if c then Done else Refused Enomem))
    by true c = record { told = refl; failed = refl }
    by false true = record { told = refl; failed = refl }
    by false false = record { told = refl; failed = refl }
unused-follows m w l (Mlock p a len) events answer rows un h = cc
unused-follows m w l (Munlock p a len) events answer rows un h = record {
  notes = ap (λ es. ends (notes_of es)) h.1;
  answered = is-faultless answer _ h.0 (by (pages_to_hole (pages w p) (page_of a) (pages_met a len) == pages_met a len));
}
  where
    by : (b : Bool) → IsFaultless (if b then Done else Refused Enomem)
    by true = record { told = refl; failed = refl }
    by false = record { told = refl; failed = refl }
unused-follows m w l (Read p a n) events answer rows un h = cc
unused-follows m w l (Write p a bytes) events answer rows un h = cc
unused-follows m w l (Reclaim n) events answer rows un h = record {
  notes = ap (λ es. ends (notes_of es)) h.3 ∙ ap ends (notes_of-note_events h.0)
      ∙ outcomes-faultless m (sparing w l None) l (from_tail n l.inactive) h.0 h.1;
  answered = is-faultless answer _ h.2 (record { told = refl; failed = refl });
}
unused-follows m w l (Age n) events answer rows un h = record {
  notes = ap (λ es. ends (notes_of es)) h.1 ∙ ap ends (notes_of-note_events (map Aged (from_tail n l.active)))
      ∙ ages-faultless (from_tail n l.active);
  answered = is-faultless answer _ h.0 (record { told = refl; failed = refl });
}
unused-follows m w l (Complete n) events answer rows un h = cc
unused-follows m w l (Swapon k priority) events answer rows un h = cc
unused-follows m w l (Swapoff k) events answer rows un h = cc
unused-follows m w l Merge events answer rows un h = record {
  notes = ap (λ es. ends (notes_of es)) h.2 ∙ ap ends (notes_of-note_events (merges m h.0 w l [] (map (λ e. e.0) l.entries)))
      ∙ merges-faultless m h.0 w l [] (map (λ e. e.0) l.entries);
  answered = is-faultless answer _ h.3 (record { told = refl; failed = refl });
}
unused-follows m w l Compact events answer rows un h = record {
  notes = ap (λ es. ends (notes_of es)) h.2 ∙ sorted-faultless h.0 ∙ moves-faultless m l h.0 h.1;
  answered = is-faultless answer _ h.3 (record { told = refl; failed = refl });
}
unused-follows m w l (Maps p) events answer rows un h =
    record { notes = ap (λ es. ends (notes_of es)) h.2; answered = is-faultless answer _ h.0 (record { told = refl; failed = refl }) }
unused-follows m w l (AsksAreas p) events answer rows un h =
    record { notes = ap (λ es. ends (notes_of es)) h.2; answered = is-faultless answer _ h.0 (record { told = refl; failed = refl }) }
unused-follows m w l (AsksRmap p a) events answer rows un h =
    record { notes = ap (λ es. ends (notes_of es)) h.1; answered = is-faultless answer _ h.0 (walk-faultless l (entry l (p, page_of a))) }
unused-follows m w l (AsksEntry p a) events answer rows un h =
    record { notes = ap (λ es. ends (notes_of es)) h.1; answered = is-faultless answer _ h.0 (entry-faultless l (entry l (p, page_of a))) }
unused-follows m w l (AsksSlot k page) events answer rows un h = record {
  notes = ap (λ es. ends (notes_of es)) h.1;
  answered = slot-faultless m l (record { area = k; page = page }) answer h.0;
}
unused-follows m w l Stat events answer rows un h =
    record { notes = ap (λ es. ends (notes_of es)) h.1; answered = is-faultless answer _ h.0 (record { told = refl; failed = refl }) }

-- ---- refusals

-- no test leads to EIO
abbrev AreMild : Tests → Type 0
AreMild tests = AllByRecursion (λ (t : Bool × Errno). failure_answers (Refused t.1) ≡ 0) tests

mild-refusal : (ts : Tests) (error : Errno) → AreMild ts → refusal ts ≡ Some error → failure_answers (Refused error) ≡ 0
mild-refusal [] error h e = cc
mild-refusal (t ∷ ts) error h e = by t.0 e (mild-refusal ts error h.1)
  where
    by : (b : Bool) → (if b then Some t.1 else refusal ts) ≡ Some error → (refusal ts ≡ Some error → failure_answers (Refused error) ≡ 0) →
        failure_answers (Refused error) ≡ 0
    by true e rest = ap (λ o. failure_answers (Refused (unwrap_or o Eperm))) (sym e) ∙ h.0
    by false e rest = rest e

tests-mild : (m : Setting) (w : World) (l : Ledger) (command : Command) → AreMild (tests m w l command)
tests-mild m w l (Spawn p) = (refl, (refl, tt))
tests-mild m w l (Fork p q) = (refl, (refl, (refl, tt)))
tests-mild m w l (Exit p) = (refl, tt)
tests-mild m w l (Mmap p len prot Auto) = (refl, (refl, (refl, tt)))
tests-mild m w l (Mmap p len prot (At a)) = (refl, (refl, (refl, tt)))
tests-mild m w l (Mmap p len prot (Fixed a)) = (refl, (refl, (refl, (refl, (refl, (refl, tt))))))
tests-mild m w l (Mmap p len prot (NoReplace a)) = (refl, (refl, (refl, (refl, (refl, (refl, (refl, tt)))))))
tests-mild m w l (Munmap p a len) = (refl, (refl, tt))
tests-mild m w l (Mprotect p a len prot) = (refl, (refl, (refl, tt)))
tests-mild m w l (Mremap p a old new mode) = (refl, (refl, (refl, (refl, (refl, (refl, tt))))))
tests-mild m w l (Madvise p a len advice) = (refl, (refl, tt))
tests-mild m w l (Mlock p a len) = (refl, (refl, (refl, tt)))
tests-mild m w l (Munlock p a len) = (refl, (refl, tt))
tests-mild m w l (Read p a n) = (refl, tt)
tests-mild m w l (Write p a bytes) = (refl, tt)
tests-mild m w l (Reclaim n) = tt
tests-mild m w l (Age n) = tt
tests-mild m w l Merge = tt
tests-mild m w l Compact = tt
tests-mild m w l (Complete n) = tt
tests-mild m w l (Swapon k priority) = (refl, (refl, (refl, tt)))
tests-mild m w l (Swapoff k) = (refl, tt)
tests-mild m w l (Maps p) = (refl, tt)
tests-mild m w l (AsksAreas p) = (refl, tt)
tests-mild m w l (AsksRmap p a) = (refl, (refl, tt))
tests-mild m w l (AsksEntry p a) = (refl, (refl, tt))
tests-mild m w l (AsksSlot k page) = (refl, (refl, tt))
tests-mild m w l Stat = tt

-- no write ends, and no answer tells of a failure, where the command does neither unless it is refused
faultless-reply : (m : Setting) (w : World) (l : Ledger) (command : Command) (reply : Reply) (events : List Event) →
    (refusal (tests m w l command) ≡ None → Follows m w l command events reply.answer reply.rows → Faultless events reply.answer) →
    IsLegal m w l command reply events → Faultless events reply.answer
faultless-reply m w l command reply events follows legal = by (refusal (tests m w l command)) refl legal.answer
  where
    by : (o : Option Errno) → refusal (tests m w l command) ≡ o → MatchOption o (Follows m w l command events reply.answer reply.rows)
        (λ error. Refuses error events reply.answer reply.rows) → Faultless events reply.answer
    by None is h = follows is h
    by (Some error) is h = record {
      notes = ap (λ es. ends (notes_of es)) h.1;
      answered = is-faultless reply.answer _ h.0
          (record { told = mild-refusal (tests m w l command) error (tests-mild m w l command) is; failed = refl });
    }

-- so a reply has no causes
pub faultless-causes : (m : Setting) (w : World) (l : Ledger) (command : Command) (reply : Reply) (events : List Event) →
    (refusal (tests m w l command) ≡ None → Follows m w l command events reply.answer reply.rows → Faultless events reply.answer) →
    IsLegal m w l command reply events → causes reply ≡ 0
faultless-causes m w l command reply events follows legal =
    let f = faultless-reply m w l command reply events follows legal in
    let a = fails-ended reply.notes (ap ends legal.notes ∙ f.notes) in
    let b = f.answered.told in
    let c = f.answered.failed in
    grind (arith, a, b, c)

pub unused-causes : (m : Setting) (w : World) (l : Ledger) (command : Command) (reply : Reply) (events : List Event) → uses_device command ≡ false →
    IsLegal m w l command reply events → causes reply ≡ 0
unused-causes m w l command reply events un legal =
    faultless-causes m w l command reply events (λ fine. unused-follows m w l command events reply.answer reply.rows un) legal

-- nor does it write to the device
pub unused-writes : (m : Setting) (w : World) (l : Ledger) (command : Command) (reply : Reply) (events : List Event) → uses_device command ≡ false →
    IsLegal m w l command reply events → pages_written reply.notes ≡ []
unused-writes m w l command reply events un legal =
    let f = faultless-reply m w l command reply events (λ fine. unused-follows m w l command events reply.answer reply.rows un) legal in
    written-ended reply.notes (ap ends legal.notes ∙ f.notes)
