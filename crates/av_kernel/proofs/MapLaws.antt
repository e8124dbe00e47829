-- Commands on ranges of pages: what they leave of the pages, the entries and the areas.
use Rattle.std.proofs.Common.{◌≡◌, inl, inr, Ok, Err, ℕ, ◌+◌, ◌-◌, ◌<◌, ◌≤◌, Bool, true, false, cond, not, ◌&&◌, ◌||◌, List, [], Option, Some, None, is_some, option_map, Result, refl, sym, ap, subst, ◌∙◌, arith, ◌==◌, nat_lt}
use Rattle.std.proofs.lemmas.Bool.Decides.{nat_tests}
use Rattle.std.proofs.lemmas.Bool.{false≢true}
use Rattle.std.proofs.lemmas.List.{append-nil}
use Rattle.std.specs.Prelude.{MatchOption, OnOk}
use Rattle.av_base.specs.Flags.{no_flags}
use Rattle.av_base.specs.declared.flags.Flags.{Flags}
use Rattle.av_base.specs.declared.prot.Prot.{Prot}
use Rattle.av_base.specs.Words.{with_at, within}
use Rattle.av_vmatree.specs.Spans.{IsFree}
use Rattle.av_merge.specs.Pages.{GoesTo}
use Rattle.av_trace.specs.declared.command.Command.{Command}
use Rattle.av_trace.specs.declared.command.Command.TheVariants.{Mmap, Munmap, Mprotect}
use Rattle.av_trace.specs.declared.place.Place.{Place}
use Rattle.av_trace.specs.declared.place.Place.TheVariants.{Auto, At, Fixed, NoReplace}
use Rattle.av_trace.specs.declared.reply.Errno.{Errno}
use Rattle.av_trace.specs.declared.reply.Errno.TheVariants.{Esrch, Enomem, Einval}
use Rattle.av_trace.specs.declared.note.Note.{Note}
use Rattle.av_trace.specs.declared.reply.Reply.{Reply}
use Rattle.av_trace.specs.declared.reply.Answer.{Answer}
use Rattle.av_trace.specs.declared.reply.Answer.TheVariants.{Done, MapAt, Refused}
use Rattle.av_trace.specs.Reply.{answer_only}
use Rattle.av_pagetable.specs.Entries.{has}
use Rattle.av_plain.specs.Device.{Device}
use Rattle.av_plain.specs.Fork.{IsRmapNext}
use Rattle.av_plain.specs.World.{is_locked_page, lives, Process, Page, zeros, pages, is_mapped, pages_to_hole, set_process, with_pages, with_prot_on, with_prot}
use Rattle.av_base.specs.Page.{page_of, pages_of, address_of, is_on_page}
use Rattle.av_plain.specs.Ledger.{Ledger, Entry, Setting, entry}
use Rattle.av_plain.specs.Event.{Event, after_all, notes_of}
use Rattle.av_plain.specs.Sound.{IsSound}
use Rattle.av_plain.specs.Zap.{keys_in, zaps_of}
use Rattle.av_plain.specs.Refusal.{tests, place_tests, refusal, is_too_long, wraps, top, Refuses}
use Rattle.av_plain.specs.Step.{closing_swap_area, IsLegal, Follows, next}
use Rattle.av_plain.specs.Place.{Goes}
use Rattle.av_plain.specs.Map.{zaps_for_place, with_prot_to_hole}
use Rattle.av_plain.specs.Mremap.{marks_at}
use Rattle.av_anon.specs.declared.anons.Anons.{Anons as AnonSet}
use Rattle.av_merge.specs.Kin.{lengths}
use Rattle.av_merge.proofs.Lengths.{map_alike}
use Rattle.av_spaces.specs.Kin.{AnonsStay}
use Rattle.av_spaces.proofs.Kin.{stay_both, stay_same}
use Rattle.av_mem.proofs.AnonLaws.{are_left, lengths_alike}
use Rattle.av_plain.proofs.AreasLeft.{rmap_after_all-zaps}
use Rattle.av_plain.proofs.Covered.Swap.{Reach}
use Rattle.av_plain.proofs.Covered.Zaps.{zaps-reach}
use Rattle.av_plain.specs.Areas.{Rmap, rmap_after_all}
use Rattle.av_plain.specs.Areas.{areas_to_hole, chain_length, next_areas, with_room}
use Rattle.av_plain.specs.Choice.{ChoosesAll}
use Rattle.av_plain.specs.Report.{ShowsAreas}
use Rattle.av_plain.specs.Transcript.{State, rmap_of}
use Rattle.av_plain.specs.Stands.{AreasAre, IsKept, View, free_of}
use Rattle.av_plain.specs.World.{Holds}
use Rattle.av_vma.specs.Pages.{Pages, home_of, after_map, pages_changed, to_prot, after_unmap}
use Rattle.av_plain.proofs.World.Ranges.{is-pages_to_hole}
use Rattle.av_plain.proofs.Zap.{entry-range}
use Rattle.av_mem.specs.declared.mem.Mem.{Mem}
use Rattle.av_spaces.specs.Spaces.{AllSpaces, Spaces, areas_of, is_taken, pages_of as areas_on}
use Rattle.av_plain.proofs.Transcript.{is_fork, next-plain}
use Rattle.av_kernel.specs.Map.{marks_on, set_on, GetsAreas, GetsMarks, HomesStay, AreUnmapped}
use Rattle.av_kernel.proofs.MapMarks.{marks_kept, marks_there, page_marks}
use Rattle.av_swap_laws.specs.Locks.{AreLocks, lock_count}
use Rattle.av_swap_laws.specs.LockRange.{lock_count_in}
use Rattle.av_swap_laws.proofs.LockRange.{range-unlocked}
use Rattle.av_mem.specs.Locked.{locks_in}
use Rattle.av_mem.specs.Mem.{locks_of, ranges_of, setting_by, view, frame_count, Keeps, IsSteady, HasLedger}
use Rattle.av_mem.specs.Steps.{KeepsRest, KeepsSwap}
use Rattle.av_kernel.proofs.LockedRanges.{IsRecounted, counted-off, counts-kept, locks-kept, range-gone, range-told, recounted-zapped}
use Rattle.av_mem.specs.Zap.{HasZapped}
use Rattle.av_place.specs.Place.{protect_tests, IsProcess, IsPlaced, AreToUnmap}
use Rattle.av_step.specs.Step.{StepsBeside}
use Rattle.av_mem.proofs.StayLaws.{anons-stay, spaces-stay}
use Rattle.av_mem.proofs.MemLaws.{lives_is, alive_is, taken_has, mapped_is}
use Rattle.av_place.proofs.PlaceLaws.{page_back, IsSuited, suited}
use Rattle.av_step.proofs.CacheLeft.{KeepsCached, cached-itself, zaps-cached}
use Rattle.av_step.proofs.StepLaws.{areas_kept, is_number, moved_on, noted, reach_of, refused, state_after, stays_orderly, changed, swap_alike, swap_itself}
use Rattle.av_kernel.proofs.ChangeLaws.{AreChanged, anons_left, change-steps, prot_effect}
use Rattle.av_kernel.proofs.MapSteps.{areas_changed, areas_so, re_areas, tables_kept, unplaced}
use Rattle.av_step.proofs.Loads.{place-loads, world_as}
use Rattle.av_plain.proofs.Load.{loads_nothing, zaps-load_nothing}
use Rattle.std.specs.List.{list_all}

-- ---- pages and their areas
-- a page is taken exactly where it is mapped

pub taken_is : {d : Device} (k : Mem) (s : State) (p : ℕ) → Keeps d k s → IsProcess k.spaces.processes p (pages s.world p)
taken_is {d} k s p keeps page = taken_has k.spaces.processes p page ∙ ap is_some (keeps.stands.parts.areas.covers p page)
    ∙ mapped_is (pages s.world p page)

-- a place suits the pages of a process, whatever the kernel stands for
pub suits : (k : Mem) → IsSteady k → (p n page : ℕ) (place : Place)
    → ((q : Process) → IsProcess k.spaces.processes p q → IsPlaced q n place (Ok page)) →
    IsSuited k.spaces.processes p n page place
suits k steady p n page place placed =
    let same = taken_is k steady.1 p steady.2 in
    suited k.spaces.processes p (pages steady.1.world p) same n page place (placed (pages steady.1.world p) same)

-- the same pages change twice
pub twice_changed : (s t u : Spaces) (p page n : ℕ) (x y : Option (Prot × Flags)) → GetsMarks s t p (set_on page n x (marks_on (areas_on s p))) →
    GetsMarks t u p (set_on page n y (marks_on (areas_on t p)))
    → GetsMarks s u p (set_on page n y (marks_on (areas_on s p)))
twice_changed s t u p page n x y first second = record {
  others = λ q other. second.others q other ∙ first.others q other;
  alive = second.alive;
  pages = λ o. second.pages o ∙ by o (within page n o) refl;
  number = second.number ∙ first.number;
  apart = second.apart;
}
  where
    by : (o : ℕ) (b : Bool) → within page n o ≡ b → cond b y (marks_on (areas_on t p) o) ≡ cond b y (marks_on (areas_on s p) o)
    by o true e = refl
    by o false e = first.pages o ∙ ap (λ b. cond b x (marks_on (areas_on s p) o)) e

-- the areas of the same process change twice
twice_placed : (s t u : Spaces) (p : ℕ) (change : Pages → Pages) (on : Pages) → GetsAreas s t p on → GetsAreas t u p (change (areas_on t p)) →
    GetsAreas s u p (change on)
twice_placed s t u p change on first second q page = second q page ∙ by (q == p) refl
  where
    itself : (p : ℕ) → (p == p) ≡ true
    itself p = grind (arith, nat_tests)

    own : (o : ℕ) → areas_on t p o ≡ on o
    own o = first p o ∙ ap (λ b. (cond b on (areas_on s p)) o) (itself p)

    by : (b : Bool) → (q == p) ≡ b → (cond b (change (areas_on t p)) (areas_on t q)) page ≡ (cond b (change on) (areas_on s q)) page
    by true e = λ i. change (λ o. own o i) page
    by false e = first q page ∙ ap (λ b. (cond b on (areas_on s q)) page) e

-- ---- the pages of a range go

pub on_ok : {A E : Type 0} {P Q : Type 0} (r : Result A E) → (P → Q) → OnOk r P → OnOk r Q
on_ok (Ok x) f h = f h
on_ok (Err e) f h = tt

pub both_ok : {A E : Type 0} {P Q S : Type 0} (r : Result A E) → (P → Q → S) → OnOk r P → OnOk r Q → OnOk r S
both_ok (Ok x) f h g = f h g
both_ok (Err e) f h g = tt

-- their entries are counted no more and have gone, and then their areas
pub are_unmapped : {d : Device} (old off mid : Mem) (spaces : AllSpaces) (anons : AnonSet) (p page n : ℕ) (l : Ledger) (before notes : List Note) →
    IsRecounted old off → ((f : ℕ) → locks_of old f ≡ locks_of off f + locks_in old p page (page + n - page) f)
    → HasZapped d off mid l (zaps_of l (keys_in l p page (page + n - page))) before notes → KeepsRest off mid
    → GetsMarks mid.spaces.processes spaces.processes p (set_on page n None (marks_on (areas_on mid.spaces.processes p))) →
    GetsAreas mid.spaces.processes spaces.processes p (after_unmap page (page + n) (areas_on mid.spaces.processes p))
    → AnonsStay mid.spaces mid.anons spaces anons → HomesStay mid.spaces.processes spaces.processes p page n
    → AreUnmapped d old (moved_on mid mid.tables spaces anons) p page n (after_unmap page (page + n) (areas_on old.spaces.processes p)) l
    (zaps_of l (keys_in l p page n)) before notes
are_unmapped {d} old off mid spaces anons p page n l before notes same counts zapped rest gone areas anons_stay stay =
    let t = recounted-zapped d old off same mid l (zaps_of l (keys_in l p page (page + n - page))) before notes zapped in
    record {
      taken = subst (λ x. HasZapped d old (moved_on mid mid.tables spaces anons) l (zaps_of l (keys_in l p page x)) before notes) size
          (record { stands = stays_orderly d mid mid.tables spaces anons _ refl t.stands; notes = t.notes; free = t.free; items = t.items });
      spaces = subst (λ (x : AllSpaces). GetsMarks x.processes spaces.processes p (set_on page n None (marks_on (areas_on x.processes p))))
          same_spaces gone;
      areas = subst (λ (x : AllSpaces). GetsAreas x.processes spaces.processes p (after_unmap page (page + n) (areas_on x.processes p)))
          same_spaces areas;
      anons = subst (λ (x : AllSpaces). AnonsStay x old.anons spaces anons) same_spaces
          (subst (λ a. AnonsStay mid.spaces a spaces anons) (anons-stay rest.parts ∙ ap (λ (k : Mem). k.anons) same.rest) anons_stay);
      stay = subst (λ (x : AllSpaces). HomesStay x.processes spaces.processes p page n) same_spaces stay;
      locks = λ f. counts f ∙ (λ i. sym rest.parts.locks i f + locks_in old p page (size i) f);
      processes = rest.parts.processes ∙ ap (λ (k : Mem). has k.tables) same.rest;
      bytes = rest.bytes ∙ ap (λ (v : View). v.bytes) same.seen;
      homes = rest.homes ∙ ap (λ (v : View). v.homes) same.seen;
      swap = swap_alike off mid old (moved_on mid mid.tables spaces anons) (sym (ap (λ (k : Mem). k.swap) same.rest)) refl rest.parts.swap;
    }
  where
    size : page + n - page ≡ n
    size = omega arith

    same_spaces : mid.spaces ≡ old.spaces
    same_spaces = spaces-stay rest.parts ∙ ap (λ (k : Mem). k.spaces) same.rest

-- pages that are free count none
free-uncounted : {d : Device} (k : Mem) (s : State) (p page n : ℕ) → Keeps d k s → IsFree (is_taken k.spaces.processes p) page (page + n) → (f : ℕ)
    → lock_count_in s.world s.ledger p page n f ≡ 0
free-uncounted k s p page n keeps free f =
    range-unlocked s.world s.ledger p page n f (λ at inside. unlocked (pages s.world p at) (unmapped at inside))
  where
    unmapped : (at : ℕ) → within page n at ≡ true → is_mapped (pages s.world p) at ≡ false
    unmapped at inside =
        let low : page ≤ at = grind (arith, nat_tests, inside) in
        let high : at < page + n = grind (arith, nat_tests, inside) in
        sym (taken_is k s p keeps at) ∙ free at low high

    unlocked : (o : Option Page) → is_some o ≡ false → is_locked_page o ≡ false
    unlocked None h = refl
    unlocked (Some x) h = cc

left_alone : (d : Device) (k : Mem) → IsSteady k → (p page n : ℕ) (l : Ledger) (notes : List Note) → HasLedger d k l →
    is_some (areas_of k.spaces.processes p) ≡ true → IsFree (is_taken k.spaces.processes p) page (page + n)
    → AreUnmapped d k k p page n (areas_on k.spaces.processes p) l [] notes notes
left_alone d k steady p page n l notes stands alive free = record {
  taken = record { stands = stands; notes = sym (append-nil notes); free = refl; items = λ items are. are };
  spaces = record {
    others = λ q other. refl;
    alive = alive;
    pages = λ o. by o (within page n o) refl;
    number = refl;
    apart = steady.2.stands.parts.areas.apart;
  };
  areas = unplaced k.spaces.processes p;
  anons = stay_same k.spaces k.anons steady.2.anons;
  stay = λ at home outside is. is;
  locks = λ f.
      let none = range-told k steady.1 steady.2 p page n f ∙ free-uncounted k steady.1 p page n steady.2 free f in
      omega (arith, none);
  processes = refl;
  bytes = refl;
  homes = refl;
  swap = swap_itself k;
}
  where
    none : (o : Option (Prot × Flags)) → is_some o ≡ false → o ≡ None
    none None e = refl
    none (Some x) e = cc

    by : (o : ℕ) (b : Bool) → within page n o ≡ b
        → marks_on (areas_on k.spaces.processes p) o ≡ cond b None (marks_on (areas_on k.spaces.processes p) o)
    by o true e =
        let low : page ≤ o = grind (arith, nat_tests, e) in
        let high : o < page + n = grind (arith, nat_tests, e) in
        none (marks_on (areas_on k.spaces.processes p) o) (marks_there (areas_on k.spaces.processes p) o ∙ free o low high)
    by o false e = refl

-- where a mapping isn't to be at a fixed place, its pages are free, and nothing goes
pub nothing_there : (d : Device) (k : Mem) → IsSteady k → (p page n : ℕ) (place : Place) (l : Ledger) (notes : List Note) → HasLedger d k l →
    is_some (areas_of k.spaces.processes p) ≡ true → AreToUnmap (is_taken k.spaces.processes p) page n place → ((a : ℕ) → place ≡ Fixed a → ⊥)
    → AreUnmapped d k k p page n (with_room n place (areas_on k.spaces.processes p)) l (zaps_for_place l p n place) notes notes
nothing_there d k steady p page n Auto l notes stands alive free other = left_alone d k steady p page n l notes stands alive free
nothing_there d k steady p page n (At a) l notes stands alive free other = left_alone d k steady p page n l notes stands alive free
nothing_there d k steady p page n (Fixed a) l notes stands alive free other = absurd (other a refl)
nothing_there d k steady p page n (NoReplace a) l notes stands alive free other = left_alone d k steady p page n l notes stands alive free

-- the process lives on, and none of the pages is taken
pub unmapped_lives : {d : Device} (old new : Mem) (p page n : ℕ) (on : Pages) (l : Ledger) (events : List Event) (before notes : List Note) →
    AreUnmapped d old new p page n on l events before notes → is_some (areas_of new.spaces.processes p) ≡ true
unmapped_lives {d} old new p page n on l events before notes h = h.spaces.alive

pub unmapped_free : {d : Device} (old new : Mem) (p page n : ℕ) (on : Pages) (l : Ledger) (events : List Event) (before notes : List Note) →
    AreUnmapped d old new p page n on l events before notes → IsFree (is_taken new.spaces.processes p) page (page + n)
unmapped_free {d} old new p page n on l events before notes h o low high =
    let inside : within page n o ≡ true = grind (arith, nat_tests, low, high) in
    sym (marks_there (areas_on new.spaces.processes p) o) ∙ ap is_some (h.spaces.pages o ∙ ap (λ b. cond b None (marks_on (areas_on old.spaces.processes p) o)) inside)

-- what goes where a mapping makes room leaves areas, anon_vmas and homes
place-silent : (l : Ledger) (p n : ℕ) (place : Place) (r : Rmap) → rmap_after_all l (zaps_for_place l p n place) r ≡ r
place-silent l p n Auto r = refl
place-silent l p n (At a) r = refl
place-silent l p n (Fixed a) r = rmap_after_all-zaps l (keys_in l p (page_of a) n) l r
place-silent l p n (NoReplace a) r = refl

-- what is covered stays so, and what is cached
place-reach : (l : Ledger) (p n : ℕ) (place : Place) (r : Rmap) → Reach l r → Reach (after_all l (zaps_for_place l p n place)) r
place-reach l p n Auto r h = h
place-reach l p n (At a) r h = h
place-reach l p n (Fixed a) r h = zaps-reach l r (keys_in l p (page_of a) n) h
place-reach l p n (NoReplace a) r h = h

place-cached : (m : Setting) (l : Ledger) (p n : ℕ) (place : Place) → IsSound m l → KeepsCached l (after_all l (zaps_for_place l p n place))
place-cached m l p n Auto sound = cached-itself l
place-cached m l p n (At a) sound = cached-itself l
place-cached m l p n (Fixed a) sound = zaps-cached m l (keys_in l p (page_of a) n) sound
place-cached m l p n (NoReplace a) sound = cached-itself l

-- ---- the pages of a range are replaced

module _ {d : Device} (old new : Mem) (s : State) (command : Command) (reply : Reply) (p page n : ℕ) (o : Option Page) (on : Pages)
    (events : List Event)
    (before notes : List Note) (keeps : Keeps d old s) (alive : is_some (ranges_of old.spaces.processes p) ≡ true)
    (same_count : frame_count new ≡ frame_count old)
    (taken : HasZapped d old new s.ledger events before notes) (cached : KeepsCached s.ledger (after_all s.ledger events))
    (reach : Reach (after_all s.ledger events) (rmap_of s)) (swap : KeepsSwap old new) (entries : (q at : ℕ) →
    entry (after_all s.ledger events) (q, at) ≡ cond (q == p && within page n at) None (entry s.ledger (q, at)))
    (blank : Holds o (λ _. 0)) (spaces : GetsMarks old.spaces.processes new.spaces.processes p
    (set_on page n (option_map page_marks o) (marks_on (areas_on old.spaces.processes p))))
    (areas : AreasAre (view new) (with_at p on s.areas)) (stay : AnonsStay old.spaces old.anons new.spaces new.anons)
    (processes : has new.tables ≡ has old.tables) (bytes : (view new).bytes ≡ (view old).bytes)
    (homes : (view new).homes ≡ (view old).homes) (home_stay : HomesStay old.spaces.processes new.spaces.processes p page n)
    (silent : rmap_after_all s.ledger events (rmap_of s) ≡ rmap_of s)
    (off : (f : ℕ) → locks_of old f ≡ locks_of new f + locks_in old p page n f)
    (gone : (f : ℕ) → lock_count s.world (after_all s.ledger events) f + lock_count_in s.world s.ledger p page n f ≡ lock_count s.world s.ledger f) where
  covered : (at : ℕ) → set_on page n (option_map page_marks o) (marks_on (areas_on old.spaces.processes p)) at
      ≡ marks_at (with_pages (pages s.world p) page n (λ _. o)) at
  covered at = by (within page n at)
    where
      by : (b : Bool) → cond b (option_map page_marks o) (marks_on (areas_on old.spaces.processes p) at)
          ≡ option_map page_marks (cond b o (pages s.world p at))
      by true = refl
      by false = marks_kept old s keeps p at

  kept : (at : ℕ) → IsKept (view old) d s.ledger (entry (after_all s.ledger events) (p, at)) (with_pages (pages s.world p) page n (λ _. o) at)
  kept at = subst (λ e. IsKept (view old) d s.ledger e (with_pages (pages s.world p) page n (λ _. o) at))
      (sym (entries p at ∙ ap (λ b. cond (b && within page n at) None (entry s.ledger (p, at))) (itself p))) (by (within page n at))
    where
      itself : (p : ℕ) → (p == p) ≡ true
      itself p = grind (arith, nat_tests)

      by : (b : Bool) → IsKept (view old) d s.ledger (cond b None (entry s.ledger (p, at))) (cond b o (pages s.world p at))
      by true = blank
      by false = keeps.stands.parts.bytes.kept p at

  itself : (p : ℕ) → (p == p) ≡ true
  itself p = grind (arith, nat_tests)

  -- an entry that is left stands outside of the range
  left_outside : (at : ℕ) → is_some (entry (after_all s.ledger events) (p, at)) ≡ true → within page n at ≡ false
  left_outside at there = by (within page n at) refl
      (sym (ap is_some (entries p at ∙ ap (λ b. cond (b && within page n at) None (entry s.ledger (p, at))) (itself p))) ∙ there)
    where
      by : (b : Bool) → within page n at ≡ b → is_some (cond b None (entry s.ledger (p, at))) ≡ true → within page n at ≡ false
      by true e there = absurd (false≢true there)
      by false e there = e

  -- so no page with an entry has another lock
  counted : AreLocks (locks_of new) (set_process s.world p (with_pages (pages s.world p) page n (λ _. o))) (after_all s.ledger events)
  counted = counted-off old s keeps new p page n (set_process s.world p (with_pages (pages s.world p) page n (λ _. o))) (after_all s.ledger events) off
      (λ f. ap (λ c. c + lock_count_in s.world s.ledger p page n f)
      (locks-kept s.world p (with_pages (pages s.world p) page n (λ _. o)) (after_all s.ledger events) f
      (λ at there. ap (λ b. is_locked_page (cond b o (pages s.world p at))) (left_outside at there))) ∙ gone f)

  home : (at : ℕ) (home : ℕ × ℕ) → is_some (entry (after_all s.ledger events) (p, at)) ≡ true → home_of at (s.areas p at) ≡ Some home
      → home_of at (on at) ≡ Some home
  home at h there is = sym (ap (home_of at) (own_area at)) ∙ home_stay at h (left_outside at there) (ap (home_of at) (keeps.stands.areas p at) ∙ is)
    where
      own_area : (at : ℕ) → areas_on new.spaces.processes p at ≡ on at
      own_area at = areas p at ∙ ap (λ b. (cond b on (s.areas p)) at) (itself p)

  pub replaced-steps : is_fork command ≡ false → closing_swap_area command ≡ None
      → IsLegal (setting_by d old) s.world s.ledger command reply events
      → list_all loads_nothing events ≡ true
      → set_process s.world p (with_pages (pages s.world p) page n (λ _. o)) ≡ next s.world command reply.answer
      → with_at p on s.areas ≡ next_areas (chain_length s.anons) s.areas s.world command reply.answer
      → ShowsAreas s.areas s.anons command reply.answer reply.rows → StepsBeside d old new s command reply
  replaced-steps plain open_all legal loads world areas_next shows =
      let now : Process = with_pages (pages s.world p) page n (λ _. o) in
      changed old new s p now on (after_all s.ledger events) keeps stay same_count swap taken.stands bytes homes
      (taken.items s.items keeps.stands.items) (λ q at other. entries q at ∙ ap (λ b. cond (b && within page n at) None (entry s.ledger (q, at))) other) cached kept reach home
      counted command reply
      (record {
        events = events;
        legal = legal;
        world = world ∙ world_as (setting_by d old) s.world s.ledger events command reply.answer loads;
        ledger = refl;
        free = subst (λ closing. ChoosesAll (setting_by d old) closing s.ledger events s.free (free_of (view new))) (sym open_all)
            (subst (λ free. ChoosesAll (setting_by d old) None s.ledger events free (free_of (view new))) keeps.stands.free taken.free);
        rmap =
            subst (λ r. IsRmapNext r s.world command reply.answer
            (rmap_of (state_after s p now on (after_all s.ledger events) (free_of (view new)) new.anons)))
            (sym silent) (next-plain (rmap_of s) s.world command reply.answer _ plain
            (record { areas = areas_next; anons = are_left d old s keeps new.spaces new.anons stay (with_at p on s.areas) areas; homes = refl; items = refl }));
        shows = shows;
      })
      areas
      (areas_changed old new s p now (set_on page n (option_map page_marks o) (marks_on (areas_on old.spaces.processes p)))
      keeps alive spaces covered)
      (tables_kept old new s p now (set_on page n (option_map page_marks o) (marks_on (areas_on old.spaces.processes p)))
      keeps alive spaces covered processes)

-- ---- what is refused

-- the process lives
pub lived : {d : Device} (k : Mem) (s : State) (p : ℕ) → Keeps d k s → is_some (areas_of k.spaces.processes p) ≡ true → (rest : Option Errno) →
    cond (not (lives s.world p)) (Some Esrch) rest ≡ rest
lived {d} k s p keeps alive rest = ap (λ b. cond (not b) (Some Esrch) rest) (sym (lives_is d k s keeps p) ∙ alive)

pub munmap-refused : {d : Device} (k : Mem) (s : State) (p a len : ℕ) → Keeps d k s → is_some (areas_of k.spaces.processes p) ≡ true →
    (not (is_on_page a) || len == 0 || nat_lt top (a + len)) ≡ true → refusal (tests (setting_by d k) s.world s.ledger (Munmap p a len)) ≡ Some Einval
munmap-refused {d} k s p a len keeps alive none =
    lived k s p keeps alive (cond (not (is_on_page a) || len == 0 || nat_lt top (a + len)) (Some Einval) None)
    ∙ ap (λ b. cond b (Some Einval) None) none

pub mprotect-refused : {d : Device} (k : Mem) (s : State) (p a len : ℕ) (prot : Prot) (error : Errno) → Keeps d k s
    → is_some (areas_of k.spaces.processes p) ≡ true →
    refusal (protect_tests a len) ≡ Some error → refusal (tests (setting_by d k) s.world s.ledger (Mprotect p a len prot)) ≡ Some error
mprotect-refused {d} k s p a len prot error keeps alive is = lived k s p keeps alive (refusal (protect_tests a len)) ∙ is

module _ {d : Device} (k : Mem) (s : State) (p len : ℕ) (prot : Prot) (place : Place) (keeps : Keeps d k s)
    (alive : is_some (areas_of k.spaces.processes p) ≡ true) where
  pub mmap-tests-first : (len == 0) ≡ true → refusal (tests (setting_by d k) s.world s.ledger (Mmap p len prot place)) ≡ Some Einval
  mmap-tests-first none = lived k s p keeps alive _ ∙ ap (λ b. cond b (Some Einval)
      (cond (is_too_long len) (Some Enomem) (refusal (place_tests (pages s.world p) (pages_of len) place)))) none

  pub mmap-tests-second : (len == 0) ≡ false → is_too_long len ≡ true →
      refusal (tests (setting_by d k) s.world s.ledger (Mmap p len prot place)) ≡ Some Enomem
  mmap-tests-second some long = lived k s p keeps alive _ ∙ ap (λ b. cond b (Some Einval)
      (cond (is_too_long len) (Some Enomem) (refusal (place_tests (pages s.world p) (pages_of len) place)))) some
      ∙ ap (λ b. cond b (Some Enomem) (refusal (place_tests (pages s.world p) (pages_of len) place))) long

-- ---- munmap

module _ {d : Device} (old new : Mem) (s : State) (p a len : ℕ) (keeps : Keeps d old s) (alive : is_some (ranges_of old.spaces.processes p) ≡ true)
    (valid : (not (is_on_page a) || len == 0 || nat_lt top (a + len)) ≡ false)
    (same_count : frame_count new ≡ frame_count old) (before notes : List Note)
    (unmapped : AreUnmapped d old new p (page_of a) (pages_of len)
    (after_unmap (page_of a) (page_of a + pages_of len) (areas_on old.spaces.processes p)) s.ledger
    (zaps_of s.ledger (keys_in s.ledger p (page_of a) (pages_of len))) before notes) where
  abbrev munmap_events : List Event
  munmap_events = zaps_of s.ledger (keys_in s.ledger p (page_of a) (pages_of len))

  munmap-allowed : refusal (tests (setting_by d old) s.world s.ledger (Munmap p a len)) ≡ None
  munmap-allowed = ap (λ b. cond (not b) (Some Esrch) (cond (not (is_on_page a) || len == 0 || nat_lt top (a + len)) (Some Einval) None))
      (sym (lives_is d old s keeps p) ∙ sym (alive_is old.spaces.processes p) ∙ alive) ∙ ap (λ b. cond b (Some Einval) None) valid

  pub munmap-steps : StepsBeside d old new s (Munmap p a len) (noted Done (notes_of munmap_events))
  munmap-steps =
      let ks = keys_in s.ledger p (page_of a) (pages_of len) in
      let events = munmap_events in
      replaced-steps old new s (Munmap p a len) (noted Done (notes_of events)) p (page_of a) (pages_of len) None
      (after_unmap (page_of a) (page_of a + pages_of len) (s.areas p)) events before notes keeps alive same_count unmapped.taken
      (zaps-cached (setting_by d old) s.ledger ks keeps.stands.sound.ledger) (zaps-reach s.ledger (rmap_of s) ks (reach_of old s keeps)) unmapped.swap
      (λ q at. entry-range s.ledger p (page_of a) (pages_of len) q at) tt unmapped.spaces
      (areas_so old new s p (after_unmap (page_of a) (page_of a + pages_of len)) keeps unmapped.areas) unmapped.anons unmapped.processes
      unmapped.bytes unmapped.homes unmapped.stay (rmap_after_all-zaps s.ledger ks s.ledger (rmap_of s))
      unmapped.locks (λ f. range-gone s.world s.ledger p (page_of a) (pages_of len) f) refl refl
      (record {
        answer = subst (λ o. MatchOption o (Follows (setting_by d old) s.world s.ledger (Munmap p a len) events Done [])
            (λ e. Refuses e events Done []))
            (sym munmap-allowed) (refl, refl, refl);
        notes = refl;
      })
      (zaps-load_nothing s.ledger ks) refl refl tt

-- ---- mmap

module _ {d : Device} (old : Mem) (s : State) (p len : ℕ) (prot : Prot) (place : Place) (keeps : Keeps d old s)
    (alive : is_some (ranges_of old.spaces.processes p) ≡ true)
    (some : (len == 0) ≡ false) (fits : is_too_long len ≡ false) where
  -- the tests of its place are left
  mmap-tests : refusal (tests (setting_by d old) s.world s.ledger (Mmap p len prot place)) ≡ refusal
      (place_tests (pages s.world p) (pages_of len) place)
  mmap-tests = ap (λ b. cond (not b) (Some Esrch) (cond (len == 0) (Some Einval)
      (cond (is_too_long len) (Some Enomem) (refusal (place_tests (pages s.world p) (pages_of len) place)))))
      (sym (lives_is d old s keeps p) ∙ sym (alive_is old.spaces.processes p) ∙ alive)
      ∙ ap (λ b. cond b (Some Einval) (cond (is_too_long len) (Some Enomem) (refusal (place_tests (pages s.world p) (pages_of len) place)))) some
      ∙ ap (λ b. cond b (Some Enomem) (refusal (place_tests (pages s.world p) (pages_of len) place))) fits

  -- the pages go nowhere
  pub mmap-refused : (error : Errno) → IsPlaced (pages s.world p) (pages_of len) place (Err error) →
      StepsBeside d old old s (Mmap p len prot place) (answer_only (Refused error))
  mmap-refused error (inl is) = refused old s (Mmap p len prot place) error keeps (mmap-tests ∙ is)
  mmap-refused error (inr h) = record {
    next = s;
    step = record {
      events = [];
      legal = record {
        answer = subst (λ o. MatchOption o (Follows (setting_by d old) s.world s.ledger (Mmap p len prot place) [] (Refused error) [])
            (λ e. Refuses e [] (Refused error) [])) (sym (mmap-tests ∙ h.0))
            (None, h.1, ap Refused h.2, sym (none_unmapped_for place h.1), refl);
        notes = refl;
      };
      world = world_as (setting_by d old) s.world s.ledger [] (Mmap p len prot place) (Refused error) refl;
      ledger = refl;
      free = refl;
      rmap = areas_kept old s (Mmap p len prot place) (Refused error) keeps refl;
      shows = tt;
    };
    keeps = keeps;
  }
    where
      none_unmapped_for : (x : Place) → Goes (pages s.world p) (pages_of len) x None → zaps_for_place s.ledger p (pages_of len) x ≡ []
      none_unmapped_for Auto goes = refl
      none_unmapped_for (At a) goes = refl
      none_unmapped_for (Fixed a) goes = cc
      none_unmapped_for (NoReplace a) goes = cc

  -- pages that are not mapped have no entries
  nothing_mapped : (page n q at : ℕ) → IsFree (is_taken old.spaces.processes p) page (page + n) →
      entry s.ledger (q, at) ≡ cond (q == p && within page n at) None (entry s.ledger (q, at))
  nothing_mapped page n q at free = by (q == p) (within page n at) refl refl (entry s.ledger (q, at)) refl
    where
      by : (b c : Bool) → (q == p) ≡ b → within page n at ≡ c → (o : Option Entry) → entry s.ledger (q, at) ≡ o → o ≡ cond (b && c) None o
      by false c e f o is = refl
      by true false e f o is = refl
      by true true e f None is = refl
      by true true e f (Some x) is =
          let there = keeps.stands.sound.at_pages p at (ap is_some (ap (λ n. entry s.ledger (n, at)) (sym (is_number q p e)) ∙ is)) in
          let low : page ≤ at = grind (arith, nat_tests, f) in
          let high : at < page + n = grind (arith, nat_tests, f) in
          absurd (false≢true (sym (free at low high) ∙ taken_is old s p keeps at ∙ there))

  none_there : (page n f : ℕ) → IsFree (is_taken old.spaces.processes p) page (page + n) →
      lock_count s.world s.ledger f + lock_count_in s.world s.ledger p page n f ≡ lock_count s.world s.ledger f
  none_there page n f free = let none = free-uncounted old s p page n keeps free f in omega (arith, none)

  -- what is unmapped are the entries of the pages
  entry-unmapped : (x : Place) (page n q at : ℕ) → AreToUnmap (is_taken old.spaces.processes p) page n x →
      entry (after_all s.ledger (zaps_for_place s.ledger p n x)) (q, at) ≡ cond (q == p && within page n at) None (entry s.ledger (q, at))
  entry-unmapped Auto page n q at free = nothing_mapped page n q at free
  entry-unmapped (At a) page n q at free = nothing_mapped page n q at free
  entry-unmapped (Fixed a) page n q at there = entry-range s.ledger p (page_of a) n q at
      ∙ ap (λ x. cond (q == p && within x n at) None (entry s.ledger (q, at))) (sym there)
  entry-unmapped (NoReplace a) page n q at free = nothing_mapped page n q at free

  -- so many fewer entries of locked pages are counted
  locks-unmapped : (x : Place) (page n f : ℕ) → AreToUnmap (is_taken old.spaces.processes p) page n x →
      lock_count s.world (after_all s.ledger (zaps_for_place s.ledger p n x)) f + lock_count_in s.world s.ledger p page n f ≡ lock_count s.world s.ledger f
  locks-unmapped Auto page n f free = none_there page n f free
  locks-unmapped (At a) page n f free = none_there page n f free
  locks-unmapped (Fixed a) page n f there = ap (λ x. lock_count s.world (after_all s.ledger (zaps_for_place s.ledger p n (Fixed a))) f
      + lock_count_in s.world s.ledger p x n f) there ∙ range-gone s.world s.ledger p (page_of a) n f
  locks-unmapped (NoReplace a) page n f free = none_there page n f free

  module _ (mid : Mem) (spaces : AllSpaces) (anons : AnonSet) (page : ℕ) (placed : IsPlaced (pages s.world p) (pages_of len) place (Ok page))
      (clear : AreToUnmap (is_taken old.spaces.processes p) page (pages_of len) place)
      (same_count : frame_count mid ≡ frame_count old) (before notes : List Note) (unmapped : AreUnmapped d old mid p page (pages_of len)
      (with_room (pages_of len) place (areas_on old.spaces.processes p)) s.ledger (zaps_for_place s.ledger p (pages_of len) place) before notes)
      (given : GetsMarks mid.spaces.processes spaces.processes p
      (set_on page (pages_of len) (Some (prot, no_flags)) (marks_on (areas_on mid.spaces.processes p))))
      (areas : GetsAreas mid.spaces.processes spaces.processes p (after_map (lengths mid.spaces.areas mid.anons) p page (page + pages_of len) prot no_flags
      (areas_on mid.spaces.processes p)))
      (stay : AnonsStay mid.spaces mid.anons spaces anons) (given_homes : HomesStay mid.spaces.processes spaces.processes p page (pages_of len)) where
    alike : (q : ℕ) → after_map (lengths mid.spaces.areas mid.anons) p page (page + pages_of len) prot no_flags (areas_on mid.spaces.processes p) q ≡ after_map
        (chain_length s.anons) p page (page + pages_of len) prot no_flags (areas_on mid.spaces.processes p) q
    alike = map_alike (lengths mid.spaces.areas mid.anons) (chain_length s.anons) p page (page + pages_of len) prot no_flags
        (areas_on mid.spaces.processes p) refl
        (lengths_alike d old s keeps mid.spaces mid.anons unmapped.anons p)

    pub mmap-steps : StepsBeside d old (moved_on mid mid.tables spaces anons) s (Mmap p len prot place)
        (noted (MapAt (address_of page)) (notes_of (zaps_for_place s.ledger p (pages_of len) place)))
    mmap-steps =
        let events = zaps_for_place s.ledger p (pages_of len) place in
        let new = moved_on mid mid.tables spaces anons in
        let t = unmapped.taken in
        replaced-steps old new s (Mmap p len prot place) (noted (MapAt (address_of page)) (notes_of events)) p page (pages_of len)
        (Some (zeros prot)) (after_map (chain_length s.anons) p page (page + pages_of len) prot no_flags (with_room (pages_of len) place (s.areas p)))
        events before notes keeps alive same_count
        (record { stands = stays_orderly d mid mid.tables spaces anons (after_all s.ledger events) refl t.stands; notes = t.notes; free = t.free; items = t.items })
        (place-cached (setting_by d old) s.ledger p (pages_of len) place keeps.stands.sound.ledger)
        (place-reach s.ledger p (pages_of len) place (rmap_of s) (reach_of old s keeps)) (swap_alike old mid old new refl refl unmapped.swap)
        (λ q at. entry-unmapped place page (pages_of len) q at clear) (λ i below. refl)
        (twice_changed old.spaces.processes mid.spaces.processes spaces.processes p page (pages_of len) None (Some (prot, no_flags)) unmapped.spaces given)
        (areas_so old (moved_on mid mid.tables spaces anons) s p (λ on. after_map (chain_length s.anons) p page (page + pages_of len) prot no_flags
        (with_room (pages_of len) place on)) keeps
        (twice_placed old.spaces.processes mid.spaces.processes spaces.processes p
        (after_map (chain_length s.anons) p page (page + pages_of len) prot no_flags)
        (with_room (pages_of len) place (areas_on old.spaces.processes p)) unmapped.areas
        (re_areas mid.spaces.processes spaces.processes p _ _ alike areas)))
        (stay_both old.spaces mid.spaces spaces old.anons mid.anons anons unmapped.anons stay) unmapped.processes unmapped.bytes unmapped.homes
        (λ at home outside is. given_homes at home outside (unmapped.stay at home outside is))
        (place-silent s.ledger p (pages_of len) place (rmap_of s))
        unmapped.locks (λ f. locks-unmapped place page (pages_of len) f clear)
        refl refl
        (record {
          answer = subst (λ o. MatchOption o (Follows (setting_by d old) s.world s.ledger (Mmap p len prot place) events (MapAt (address_of page)) [])
              (λ e. Refuses e events (MapAt (address_of page)) [])) (sym (mmap-tests ∙ placed.0))
              (Some page, placed.1, refl, refl, refl);
          notes = refl;
        })
        (place-loads s.ledger p (pages_of len) place)
        (ap (λ x. set_process s.world p (with_pages (pages s.world p) x (pages_of len) (λ _. Some (zeros prot)))) (sym (page_back page)))
        (ap (λ x. with_at p (after_map (chain_length s.anons) p x (x + pages_of len) prot no_flags (with_room (pages_of len) place (s.areas p))) s.areas)
        (sym (page_back page)))
        tt

-- ---- mprotect

-- so many pages are mapped before the first that isn't
pub leads : {d : Device} (k : Mem) (s : State) (p from n reached : ℕ) → Keeps d k s
    → GoesTo (is_taken k.spaces.processes p) from (from + n) reached → pages_to_hole (pages s.world p) from n ≡ reached - from
leads k s p from n reached keeps reaches = is-pages_to_hole (pages s.world p) from n (reached - from) (record {
  most = let high = reaches.highest in omega (arith, high);
  mapped = λ page low high. sym (taken_is k s p keeps page) ∙ reaches.all page low (let least = reaches.lowest in omega (arith, high, least));
  ends = λ less. let least = reaches.lowest in
      let end : from + (reached - from) ≡ reached = omega (arith, least) in
      ap (is_mapped (pages s.world p)) end ∙ sym (taken_is k s p keeps reached) ∙ reaches.end (omega (arith, less, least));
})

module _ {d : Device} (old : Mem) (spaces : AllSpaces) (anons : AnonSet) (s : State) (p a len reached : ℕ) (prot : Prot) (keeps : Keeps d old s)
    (alive : is_some (ranges_of old.spaces.processes p) ≡ true) (passed : refusal (protect_tests a len) ≡ None)
    (reaches : GoesTo (is_taken old.spaces.processes p) (page_of a) (page_of a + pages_of len) reached)
    (are : AreChanged old spaces anons p (page_of a) (reached - page_of a) (to_prot prot)) where
  mprotect-allowed : refusal (tests (setting_by d old) s.world s.ledger (Mprotect p a len prot)) ≡ None
  mprotect-allowed = lived old s p keeps (sym (alive_is old.spaces.processes p) ∙ alive) (refusal (protect_tests a len)) ∙ passed

  in_reach : wraps a len ≡ false
  in_reach = by (is_on_page a) (wraps a len) passed
    where
      by : (b c : Bool) → cond (not b) (Some Einval) (cond c (Some Enomem) None) ≡ None → c ≡ false
      by false c h = cc
      by true true h = cc
      by true false h = refl

  led : pages_to_hole (pages s.world p) (page_of a) (pages_of len) ≡ reached - page_of a
  led = leads old s p (page_of a) (pages_of len) reached keeps reaches

  protected-steps : (answer : Answer)
      → answer ≡ (cond (pages_to_hole (pages s.world p) (page_of a) (pages_of len) == pages_of len) Done (Refused Enomem))
      → set_process s.world p (with_prot_on (pages s.world p) (page_of a) (reached - page_of a) prot) ≡ next s.world (Mprotect p a len prot) answer
      → with_at p (pages_changed (chain_length s.anons) (to_prot prot) (page_of a) (reached - page_of a) (s.areas p)) s.areas ≡ next_areas
      (chain_length s.anons) s.areas s.world (Mprotect p a len prot) answer
      → StepsBeside d old (moved_on old old.tables spaces anons) s (Mprotect p a len prot) (answer_only answer)
  protected-steps answer is world areas_next =
      change-steps old spaces anons s p (page_of a) (reached - page_of a) (to_prot prot) (with_prot prot) keeps alive (prot_effect prot) are
      (moved_on old old.tables spaces anons) (record { seen = refl; rest = refl })
      (counts-kept old s keeps p (page_of a) (reached - page_of a) (with_prot prot) (λ x. refl))
      (Mprotect p a len prot) (answer_only answer)
      (record {
        events = [];
        legal = record {
          answer = subst (λ o. MatchOption o (Follows (setting_by d old) s.world s.ledger (Mprotect p a len prot) [] answer [])
              (λ e. Refuses e [] answer [])) (sym mprotect-allowed) (is, refl, refl);
          notes = refl;
        };
        world = world ∙ world_as (setting_by d old) s.world s.ledger [] (Mprotect p a len prot) answer refl;
        ledger = refl;
        free = keeps.stands.free;
        rmap = next-plain (rmap_of s) s.world (Mprotect p a len prot) answer _ refl
            (record {
              areas = areas_next;
              anons = anons_left old spaces anons s p (page_of a) (reached - page_of a) (to_prot prot) (with_prot prot) keeps alive (prot_effect prot) are;
              homes = refl;
              items = refl;
            });
        shows = tt;
      })

  -- all pages were mapped
  pub mprotect-steps : page_of a + pages_of len ≤ reached
      → StepsBeside d old (moved_on old old.tables spaces anons) s (Mprotect p a len prot) (answer_only Done)
  mprotect-steps whole =
      let high = reaches.highest in
      let size : reached - page_of a ≡ pages_of len = omega (arith, whole, high) in
      protected-steps Done (sym (ap (λ b. cond b Done (Refused Enomem)) (equal _ _ (led ∙ size))))
      (ap (λ k. set_process s.world p (with_prot_on (pages s.world p) (page_of a) k prot)) size)
      (ap (λ k. with_at p (pages_changed (chain_length s.anons) (to_prot prot) (page_of a) k (s.areas p)) s.areas) (sym led))
    where
      equal : (k n : ℕ) → k ≡ n → (k == n) ≡ true
      equal k n e = grind (arith, nat_tests, e)

  -- a page before the end was not
  pub mprotect-stops : reached < page_of a + pages_of len → StepsBeside d old (moved_on old old.tables spaces anons) s (Mprotect p a len prot)
      (answer_only (Refused Enomem))
  mprotect-stops less =
      let low = reaches.lowest in
      let fewer : reached - page_of a < pages_of len = omega (arith, less, low) in
      protected-steps (Refused Enomem) (sym (ap (λ b. cond b Done (Refused Enomem)) (differ _ _ _ led fewer)))
      (ap (λ k. set_process s.world p (with_prot_on (pages s.world p) (page_of a) k prot)) (sym led)
      ∙ sym (ap (λ b. cond b s.world (with_prot_to_hole s.world p (page_of a) (pages_of len) prot)) in_reach))
      (ap (λ k. with_at p (pages_changed (chain_length s.anons) (to_prot prot) (page_of a) k (s.areas p)) s.areas) (sym led)
      ∙ sym (ap (λ b. cond b s.areas (with_at p (areas_to_hole (chain_length s.anons) s.world p (page_of a) (pages_of len) prot (s.areas p)) s.areas))
      in_reach))
    where
      differ : (k m n : ℕ) → k ≡ m → m < n → (k == n) ≡ false
      differ k m n e h = grind (arith, nat_tests, e, h)
