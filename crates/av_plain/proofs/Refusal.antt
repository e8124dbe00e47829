-- A command that is refused changes nothing, but for those that end midway.
use Rattle.std.proofs.Common.{◌≡◌, ℕ, Bool, true, false, cond, not, List, [], Option, Some, None, is_some, refl, sym, ap, subst, ◌∙◌, if◌then◌else◌}
use Rattle.std.specs.Option.{option_map_or}
use Rattle.std.specs.Prelude.{◌||◌, MatchOption, length, nat_le}
use Rattle.av_trace.specs.declared.command.Command.{Command}
use Rattle.av_trace.specs.declared.command.Command.TheVariants.{Spawn, Fork, Exit, Mmap, Mremap, Munmap, Mprotect, Madvise, Mlock, Munlock, Read, Write, Reclaim, Age, Complete, Swapon, Swapoff, Maps, Areas as AsksAreas, Rmap as AsksRmap, Entry as AsksEntry, Slot as AsksSlot, Stat}
use Rattle.av_trace.specs.declared.mode.Mode.{Mode}
use Rattle.av_trace.specs.declared.place.Place.{Place}
use Rattle.av_trace.specs.declared.place.Place.TheVariants.{Auto, At, Fixed, NoReplace}
use Rattle.av_trace.specs.declared.reply.Errno.{Errno}
use Rattle.av_trace.specs.declared.reply.Errno.TheVariants.{Eperm, Esrch, Eio, Eagain, Enomem, Efault, Ebusy, Eexist, Einval}
use Rattle.av_trace.specs.declared.row.Row.{Row}
use Rattle.av_trace.specs.declared.reply.Reply.{Reply}
use Rattle.av_trace.specs.declared.reply.Answer.{Answer}
use Rattle.av_trace.specs.declared.reply.Answer.TheVariants.{Done, Refused}
use Rattle.av_base.specs.Limits.{most_processes}
use Rattle.av_base.specs.Page.{is_on_page, page_of, pages_met, pages_of}
use Rattle.av_base.specs.declared.prot.Prot.{Prot}
use Rattle.av_base.specs.Words.{with_at}
use Rattle.av_vma.specs.Pages.{Lengths}
use Rattle.av_plain.specs.Areas.{Areas, areas_to_hole, next_areas}
use Rattle.av_plain.specs.Advice.{flag_of_advice, with_advice}
use Rattle.av_plain.specs.Lock.{with_lock}
use Rattle.av_plain.specs.Access.{End, Stopped, Whole, bytes_before, read_answer, stop_answer, write_answer}
use Rattle.av_plain.specs.Event.{Event, after_all}
use Rattle.av_plain.specs.Fault.{Denied, Lost, Starved, Stop}
use Rattle.av_plain.specs.Ledger.{Entry, InFrame, InSlot, Ledger, Setting, Zero, entry}
use Rattle.av_plain.specs.Load.{with_loads}
use Rattle.av_plain.specs.Map.{with_prot_to_hole, zaps_for_place}
use Rattle.av_plain.specs.Mremap.{events_to, have_prot, is_in_place, target_of}
use Rattle.av_plain.specs.Place.{Goes, IsMapAt}
use Rattle.av_plain.specs.Refusal.{Refuses, is_bad_range, locks_too_many, ends_too_high, are_bad_lengths, is_below_low, may_end_midway, is_no_target, is_tail_too_high, lacks_pages, refusal, tests, wraps}
use Rattle.av_plain.specs.Report.{entry_answer, walk_answer}
use Rattle.av_plain.specs.Step.{Follows, IsLegal, next, next_world}
use Rattle.av_plain.specs.World.{Page, Process, World, lives, pages}
use Rattle.av_trace.specs.declared.command.Command.TheVariants.{Compact, Merge}

-- without events nothing is loaded
pub loads-none : (m : Setting) (w : World) (l : Ledger) (events : List Event) → events ≡ [] → with_loads m w l events ≡ w
loads-none m w l events none = ap (with_loads m w l) none ∙ elim (is_some m.headers) as (λ b. (if b then w else w) ≡ w) [ true ↦ refl | false ↦ refl ]

-- an mprotect is refused with ENOMEM by its tests only where its pages do not end below 2^64
wraps-told : (m : Setting) (w : World) (l : Ledger) (p a len : ℕ) (prot : Prot) →
    refusal (tests m w l (Mprotect p a len prot)) ≡ Some Enomem → wraps a len ≡ true
wraps-told m w l p a len prot is = by (lives w p) (is_on_page a) (wraps a len) is
  where
    by : (b c d : Bool) → cond (not b) (Some Esrch) (cond (not c) (Some Einval) (cond d (Some Enomem) None)) ≡ Some Enomem → d ≡ true
    by false c d is = cc
    by true false d is = cc
    by true true true is = refl
    by true true false is = cc

-- what a fork that isn't refused has: a parent, no child yet, and room for it
pub record MayFork (w : World) (p q : ℕ) : Type 0 where
  pub parent : lives w p ≡ true
  pub child : lives w q ≡ false
  pub room : nat_le most_processes (length w) ≡ false

pub may-fork : (m : Setting) (w : World) (l : Ledger) (p q : ℕ) → refusal (tests m w l (Fork p q)) ≡ None → MayFork w p q
may-fork m w l p q is = let h = by (lives w p) (lives w q) (nat_le most_processes (length w)) is in record { parent = h.0; child = h.1; room = h.2 }
  where
    by : (a b c : Bool) → cond (not a) (Some Esrch) (cond b (Some Eexist) (cond c (Some Eagain) None)) ≡ None → (a ≡ true) × (b ≡ false) × (c ≡ false)
    by false b c h = cc
    by true true c h = cc
    by true false true h = cc
    by true false false h = (refl, refl, refl)

-- what an mremap that isn't refused by its tests has
pub record MayRemap (w : World) (p a old new : ℕ) (mode : Mode) : Type 0 where
  pub living : lives w p ≡ true
  pub on_page : is_on_page a ≡ true
  pub lengths : are_bad_lengths old new mode ≡ false
  pub target : is_no_target a (pages_of old) (pages_of new) (target_of mode) ≡ false
  pub has_pages : lacks_pages (pages w p) (page_of a) (pages_of old) (pages_of new) mode ≡ false
  pub tail : is_tail_too_high a (pages_of old) (pages_of new) mode ≡ false
  pub low : is_below_low (target_of mode) ≡ false

pub may-remap : (m : Setting) (w : World) (l : Ledger) (p a old new : ℕ) (mode : Mode) → refusal (tests m w l (Mremap p a old new mode)) ≡ None
    → MayRemap w p a old new mode
may-remap m w l p a old new mode is =
    let h = by (lives w p) (is_on_page a) (are_bad_lengths old new mode) (is_no_target a (pages_of old) (pages_of new) (target_of mode))
    (lacks_pages (pages w p) (page_of a) (pages_of old) (pages_of new) mode) (is_tail_too_high a (pages_of old) (pages_of new) mode)
    (is_below_low (target_of mode)) is in
    record { living = h.0; on_page = h.1; lengths = h.2; target = h.3; has_pages = h.4; tail = h.5; low = h.6 }
  where
    by : (b c d e f g h : Bool) → cond (not b) (Some Esrch) (cond (not c || d) (Some Einval)
        (cond e (Some Einval) (cond f (Some Efault) (cond g (Some Einval) (cond h (Some Eperm) None))))) ≡ None
        → (b ≡ true) × (c ≡ true) × (d ≡ false) × (e ≡ false) × (f ≡ false) × (g ≡ false) × (h ≡ false)
    by false c d e f g h is = cc
    by true false d e f g h is = cc
    by true true true e f g h is = cc
    by true true false true f g h is = cc
    by true true false false true g h is = cc
    by true true false false false true h is = cc
    by true true false false false false true is = cc
    by true true false false false false false is = (refl, refl, refl, refl, refl, refl, refl)

-- the first page is mapped
pub first-mapped : (q : Process) (from n k : ℕ) (mode : Mode) → lacks_pages q from n k mode ≡ false → is_some (q from) ≡ true
first-mapped q from n k mode h = by (is_in_place mode n k) (q from) h
  where
    by : (b : Bool) (o : Option Page) → not (cond b (is_some o) (option_map_or (λ (x : Page). have_prot q x.prot from n) o false)) ≡ false
        → is_some o ≡ true
    by true None h = cc
    by false None h = cc
    by b (Some x) h = refl

-- which test it was
bad-told : (b c : Bool) → cond (not b) (Some Esrch) (cond c (Some Einval) None) ≡ Some Einval → c ≡ true
bad-told false c h = cc
bad-told true true h = refl
bad-told true false h = cc

no-enomem : (b c : Bool) → cond (not b) (Some Esrch) (cond c (Some Einval) None) ≡ Some Enomem → ⊥
no-enomem false c h = cc
no-enomem true true h = cc
no-enomem true false h = cc

many-told : (b c d : Bool) → cond (not b) (Some Esrch) (cond c (Some Einval) (cond d (Some Enomem) None)) ≡ Some Enomem → d ≡ true
many-told false c d h = cc
many-told true true d h = cc
many-told true false true h = refl
many-told true false false h = cc

-- a command that is refused by its tests leaves any memories as they are
pub refused-next : (m : Setting) (w now : World) (l : Ledger) (command : Command) (error : Errno) → refusal (tests m w l command) ≡ Some error →
    next now command (Refused error) ≡ now
refused-next m w now l (Spawn p) error is = refl
refused-next m w now l (Fork p q) error is = refl
refused-next m w now l (Exit p) error is = refl
refused-next m w now l (Mmap p len prot place) error is = refl
refused-next m w now l (Munmap p a len) error is = refl
refused-next m w now l (Mprotect p a len prot) Enomem is = ap (λ b. if b then now else with_prot_to_hole now p (page_of a) (pages_of len) prot)
    (wraps-told m w l p a len prot is)
refused-next m w now l (Mprotect p a len prot) Eperm is = refl
refused-next m w now l (Mprotect p a len prot) Esrch is = refl
refused-next m w now l (Mprotect p a len prot) Eio is = refl
refused-next m w now l (Mprotect p a len prot) Eagain is = refl
refused-next m w now l (Mprotect p a len prot) Efault is = refl
refused-next m w now l (Mprotect p a len prot) Ebusy is = refl
refused-next m w now l (Mprotect p a len prot) Eexist is = refl
refused-next m w now l (Mprotect p a len prot) Einval is = refl
refused-next m w now l (Mremap p a old new mode) error is = refl
refused-next m w now l (Madvise p a len advice) Eperm is = refl
refused-next m w now l (Madvise p a len advice) Esrch is = refl
refused-next m w now l (Madvise p a len advice) Eio is = refl
refused-next m w now l (Madvise p a len advice) Eagain is = refl
refused-next m w now l (Madvise p a len advice) Enomem is = absurd (no-enomem (lives w p) (is_bad_range a len) is)
refused-next m w now l (Madvise p a len advice) Efault is = refl
refused-next m w now l (Madvise p a len advice) Ebusy is = refl
refused-next m w now l (Madvise p a len advice) Eexist is = refl
refused-next m w now l (Madvise p a len advice) Einval is = ap
    (λ b. if b then now else with_advice now p (page_of a) (pages_of len) (flag_of_advice advice)) (bad-told (lives w p) (is_bad_range a len) is)
refused-next m w now l (Mlock p a len) Eperm is = refl
refused-next m w now l (Mlock p a len) Esrch is = refl
refused-next m w now l (Mlock p a len) Eio is = refl
refused-next m w now l (Mlock p a len) Eagain is = refl
refused-next m w now l (Mlock p a len) Enomem is = ap (λ b. if b then now else with_lock true now p (page_of a) (pages_met a len))
    (many-told (lives w p) (ends_too_high a len) (locks_too_many a len) is)
refused-next m w now l (Mlock p a len) Efault is = refl
refused-next m w now l (Mlock p a len) Ebusy is = refl
refused-next m w now l (Mlock p a len) Eexist is = refl
refused-next m w now l (Mlock p a len) Einval is = refl
refused-next m w now l (Munlock p a len) Eperm is = refl
refused-next m w now l (Munlock p a len) Esrch is = refl
refused-next m w now l (Munlock p a len) Eio is = refl
refused-next m w now l (Munlock p a len) Eagain is = refl
refused-next m w now l (Munlock p a len) Enomem is = absurd (no-enomem (lives w p) (ends_too_high a len) is)
refused-next m w now l (Munlock p a len) Efault is = refl
refused-next m w now l (Munlock p a len) Ebusy is = refl
refused-next m w now l (Munlock p a len) Eexist is = refl
refused-next m w now l (Munlock p a len) Einval is = refl
refused-next m w now l (Read p a n) error is = refl
refused-next m w now l (Write p a bytes) error is = refl
refused-next m w now l (Reclaim n) error is = refl
refused-next m w now l (Age n) error is = refl
refused-next m w now l (Complete n) error is = refl
refused-next m w now l (Swapon k priority) error is = refl
refused-next m w now l (Swapoff k) error is = refl
refused-next m w now l (Maps p) error is = refl
refused-next m w now l (AsksAreas p) error is = refl
refused-next m w now l (AsksRmap p a) error is = refl
refused-next m w now l (AsksEntry p a) error is = refl
refused-next m w now l (AsksSlot k page) error is = refl
refused-next m w now l Stat error is = refl
refused-next m w now l Merge error is = refl
refused-next m w now l Compact error is = refl

-- and the areas
pub refused-areas : (m : Setting) (w : World) (l : Ledger) (long : Lengths) (on : Areas) (command : Command) (error : Errno) →
    refusal (tests m w l command) ≡ Some error → next_areas long on w command (Refused error) ≡ on
refused-areas m w l long on (Spawn p) error is = refl
refused-areas m w l long on (Fork p q) error is = refl
refused-areas m w l long on (Exit p) error is = refl
refused-areas m w l long on (Mmap p len prot place) error is = refl
refused-areas m w l long on (Munmap p a len) error is = refl
refused-areas m w l long on (Mprotect p a len prot) Enomem is = ap
    (λ b. if b then on else with_at p (areas_to_hole long w p (page_of a) (pages_of len) prot (on p)) on) (wraps-told m w l p a len prot is)
refused-areas m w l long on (Mprotect p a len prot) Eperm is = refl
refused-areas m w l long on (Mprotect p a len prot) Esrch is = refl
refused-areas m w l long on (Mprotect p a len prot) Eio is = refl
refused-areas m w l long on (Mprotect p a len prot) Eagain is = refl
refused-areas m w l long on (Mprotect p a len prot) Efault is = refl
refused-areas m w l long on (Mprotect p a len prot) Ebusy is = refl
refused-areas m w l long on (Mprotect p a len prot) Eexist is = refl
refused-areas m w l long on (Mprotect p a len prot) Einval is = refl
refused-areas m w l long on (Mremap p a old new mode) error is = refl
refused-areas m w l long on (Madvise p a len advice) error is = refl
refused-areas m w l long on (Mlock p a len) error is = refl
refused-areas m w l long on (Munlock p a len) error is = refl
refused-areas m w l long on (Read p a n) error is = refl
refused-areas m w l long on (Write p a bytes) error is = refl
refused-areas m w l long on (Reclaim n) error is = refl
refused-areas m w l long on (Age n) error is = refl
refused-areas m w l long on (Complete n) error is = refl
refused-areas m w l long on (Swapon k priority) error is = refl
refused-areas m w l long on (Swapoff k) error is = refl
refused-areas m w l long on (Maps p) error is = refl
refused-areas m w l long on (AsksAreas p) error is = refl
refused-areas m w l long on (AsksRmap p a) error is = refl
refused-areas m w l long on (AsksEntry p a) error is = refl
refused-areas m w l long on (AsksSlot k page) error is = refl
refused-areas m w l long on Stat error is = refl
refused-areas m w l long on Merge error is = refl
refused-areas m w l long on Compact error is = refl

-- ---- a refusal that no test gives

pub no-refusal : {e : Errno} {answer : Answer} → answer ≡ Refused e → answer ≡ Done → ⊥
no-refusal e d = cc

-- a read or write that stops is no refusal
stops-refused : (stop : Stop) (k : ℕ) (shown : List ℕ) (error : Errno) → Refused error ≡ stop_answer stop k shown → ⊥
stops-refused Denied k shown error h = cc
stops-refused (Starved out) k shown error h = cc
stops-refused Lost k shown error h = cc

read-refused : (a : ℕ) (end : End) (shown : List ℕ) (error : Errno) → Refused error ≡ read_answer a end shown → ⊥
read-refused a Whole shown error h = cc
read-refused a (Stopped page stop) shown error h = stops-refused stop (bytes_before a page) shown error h

pub write-refused : (a : ℕ) (end : End) (error : Errno) → Refused error ≡ write_answer a end → ⊥
write-refused a Whole error h = cc
write-refused a (Stopped page stop) error h = stops-refused stop (bytes_before a page) [] error h

walk-refused : (l : Ledger) (e : Option Entry) (error : Errno) → Refused error ≡ walk_answer l e → ⊥
walk-refused l None error h = cc
walk-refused l (Some Zero) error h = cc
walk-refused l (Some (InFrame f seen)) error h = cc
walk-refused l (Some (InSlot s)) error h = cc

entry-refused : (l : Ledger) (e : Option Entry) (error : Errno) → Refused error ≡ entry_answer l e → ⊥
entry-refused l None error h = cc
entry-refused l (Some Zero) error h = cc
entry-refused l (Some (InFrame f seen)) error h = cc
entry-refused l (Some (InSlot s)) error h = cc

-- no place is found only where nothing is taken away for one
no_place-clears : (q : Process) (l : Ledger) (p n : ℕ) (place : Place) → Goes q n place None → zaps_for_place l p n place ≡ []
no_place-clears q l p n Auto goes = refl
no_place-clears q l p n (At a) goes = refl
no_place-clears q l p n (Fixed a) goes = cc
no_place-clears q l p n (NoReplace a) goes = cc

-- a command that ends as it began, or is done, has no events then, and leaves any memories as they are
follows-refused : (m : Setting) (w now : World) (l : Ledger) (command : Command) (events : List Event) (error : Errno) (rows : List Row) →
    may_end_midway command ≡ false
    → Follows m w l command events (Refused error) rows → (events ≡ []) × (next now command (Refused error) ≡ now)
follows-refused m w now l (Spawn p) events error rows other h = absurd (no-refusal refl h.0)
follows-refused m w now l (Fork p q) events error rows other h = absurd (no-refusal refl h.0)
follows-refused m w now l (Exit p) events error rows other h = absurd (no-refusal refl h.0)
follows-refused m w now l (Mmap p len prot place) events error rows other h = (h.3 ∙ by h.0 h.1 h.2, refl)
  where
    by : (to : Option ℕ) → Goes (pages w p) (pages_of len) place to → IsMapAt (Refused error) to → zaps_for_place l p (pages_of len) place ≡ []
    by None goes e = no_place-clears (pages w p) l p (pages_of len) place goes
    by (Some page) goes e = cc
follows-refused m w now l (Mremap p a old new mode) events error rows other h = (h.3 ∙ by h.0 h.2, refl)
  where
    by : (to : Option ℕ) → IsMapAt (Refused error) to → events_to l p (page_of a) (pages_of old) to (pages_of new) ≡ []
    by None e = refl
    by (Some page) e = cc
follows-refused m w now l (Munmap p a len) events error rows other h = absurd (no-refusal refl h.0)
follows-refused m w now l (Mprotect p a len prot) events error rows other h = cc
follows-refused m w now l (Madvise p a len advice) events error rows other h = cc
follows-refused m w now l (Mlock p a len) events error rows other h = cc
follows-refused m w now l (Munlock p a len) events error rows other h = cc
follows-refused m w now l (Read p a n) events error rows other h = absurd (read-refused a h.0 h.1 error h.4)
follows-refused m w now l (Write p a bytes) events error rows other h = absurd (write-refused a h.0 error h.2)
follows-refused m w now l (Reclaim n) events error rows other h = absurd (no-refusal refl h.2)
follows-refused m w now l (Age n) events error rows other h = absurd (no-refusal refl h.0)
follows-refused m w now l (Complete n) events error rows other h = absurd (no-refusal refl h.2)
follows-refused m w now l (Swapon k priority) events error rows other h = (h.1, refl)
follows-refused m w now l (Swapoff k) events error rows other h = cc
follows-refused m w now l (Maps p) events error rows other h = cc
follows-refused m w now l (AsksAreas p) events error rows other h = cc
follows-refused m w now l (AsksRmap p a) events error rows other h = absurd (walk-refused l (entry l (p, page_of a)) error h.0)
follows-refused m w now l (AsksEntry p a) events error rows other h = absurd (entry-refused l (entry l (p, page_of a)) error h.0)
follows-refused m w now l (AsksSlot k page) events error rows other h = (h.1, refl)
follows-refused m w now l Stat events error rows other h = cc
follows-refused m w now l Merge events error rows other h = let e = h.3 in cc
follows-refused m w now l Compact events error rows other h = let e = h.3 in cc

-- ---- the law

-- what is legal and refused
pub refused-by : (m : Setting) (w : World) (l : Ledger) (command : Command) (reply : Reply) (events : List Event) (error : Errno) (P : Type 0) →
    IsLegal m w l command reply events → reply.answer ≡ Refused error
    → (refusal (tests m w l command) ≡ Some error → events ≡ [] → P) →
    (refusal (tests m w l command) ≡ None → Follows m w l command events (Refused error) reply.rows → P) → P
refused-by m w l command reply events error P legal is told met = by (refusal (tests m w l command)) refl legal.answer
  where
    by : (o : Option Errno) → refusal (tests m w l command) ≡ o → MatchOption o (Follows m w l command events reply.answer reply.rows)
        (λ error. Refuses error events reply.answer reply.rows) → P
    by None e h = met e (subst (λ a. Follows m w l command events a reply.rows) is h)
    by (Some other) e h = let same : other ≡ error = (let both = sym h.0 ∙ is in cc) in told (e ∙ ap Some same) h.1

-- a command that one of its tests refuses leaves the memories and the ledger
pub refused-tested : (m : Setting) (w : World) (l : Ledger) (command : Command) (reply : Reply) (events : List Event) (error : Errno) →
    refusal (tests m w l command) ≡ Some error → IsLegal m w l command reply events
    → (reply.answer ≡ Refused error) × (next_world m w l events command reply.answer ≡ w) × (after_all l events ≡ l)
refused-tested m w l command reply events error is legal =
    let told = subst (λ o. MatchOption o (Follows m w l command events reply.answer reply.rows)
    (λ error. Refuses error events reply.answer reply.rows)) is legal.answer in (
      told.0,
      ap (next (with_loads m w l events) command) told.0 ∙ refused-next m w (with_loads m w l events) l command error is ∙ loads-none m w l events told.1,
      ap (after_all l) told.1,
    )

-- so does one that ends before it did anything
pub refused-nothing : (m : Setting) (w : World) (l : Ledger) (command : Command) (reply : Reply) (events : List Event) (error : Errno) →
    may_end_midway command ≡ false → IsLegal m w l command reply events → reply.answer ≡ Refused error
    → (next_world m w l events command reply.answer ≡ w) × (after_all l events ≡ l)
refused-nothing m w l command reply events error other legal is =
    let both = refused-by m w l command reply events error
    ((events ≡ []) × (next (with_loads m w l events) command (Refused error) ≡ with_loads m w l events))
    legal is
    (λ e none. (none, refused-next m w (with_loads m w l events) l command error e))
    (λ e h. follows-refused m w (with_loads m w l events) l command events error reply.rows other h) in
    (ap (next (with_loads m w l events) command) is ∙ both.1 ∙ loads-none m w l events both.0, ap (after_all l) both.0)

-- after a swapoff the memories are as its loads leave them
pub refused-swapoff : (m : Setting) (w : World) (l : Ledger) (k : ℕ) (reply : Reply) (events : List Event) →
    next_world m w l events (Swapoff k) reply.answer ≡ with_loads m w l events
refused-swapoff m w l k reply events = refl
