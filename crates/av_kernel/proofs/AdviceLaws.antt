-- What madvise leaves of pages, entries and areas.
use Rattle.std.proofs.Common.{◌≡◌, ℕ, zero, suc, ◌+◌, ◌-◌, ◌<◌, ◌≤◌, Bool, true, false, cond, not, ◌&&◌, List, [], ◌∷◌, Option, Some, None, is_some, option_map, refl, sym, ap, subst, ◌∙◌, arith, ◌==◌, nat_lt}
use Rattle.std.proofs.lemmas.Bool.{false≢true}
use Rattle.std.proofs.lemmas.Bool.Decides.{nat_tests}
use Rattle.std.specs.Option.{option_map_or}
use Rattle.std.specs.Prelude.{MatchOption}
use Rattle.av_base.specs.Page.{page_of, pages_of}
use Rattle.av_base.specs.Words.{with_at, within}
use Rattle.av_base.specs.Flags.{with_flag}
use Rattle.av_base.specs.declared.flags.Flag.{Flag}
use Rattle.av_base.specs.declared.flags.Flag.TheVariants.{DontFork, Locked, Mergeable, WipeOnFork}
use Rattle.av_base.specs.declared.flags.Flags.{Flags}
use Rattle.av_vma.specs.declared.area.Area.{Area}
use Rattle.av_vma.specs.Pages.{to_flag}
use Rattle.av_anon.specs.declared.anons.Anons.{Anons as AnonSet}
use Rattle.av_merge.specs.Pages.{GoesTo}
use Rattle.av_spaces.specs.Kin.{AnonsStay}
use Rattle.av_spaces.specs.Spaces.{AllSpaces, areas_of, is_taken, pages_of as areas_on}
use Rattle.av_spaces.proofs.Kin.{stay_same}
use Rattle.av_swap_laws.proofs.Free.{chooses-nothing}
use Rattle.av_trace.specs.declared.advice.Advice.{Advice}
use Rattle.av_trace.specs.declared.advice.Advice.TheVariants as advices
use Rattle.av_trace.specs.declared.advice.Advice.TheVariants.{DoFork, DontNeed, KeepOnFork, Unmergeable}
use Rattle.av_trace.specs.declared.command.Command.TheVariants.{Madvise}
use Rattle.av_trace.specs.declared.note.Note.{Note}
use Rattle.av_trace.specs.declared.reply.Answer.{Answer}
use Rattle.av_trace.specs.declared.reply.Answer.TheVariants.{Done, Refused}
use Rattle.av_trace.specs.declared.reply.Errno.TheVariants.{Einval, Enomem}
use Rattle.av_trace.specs.Reply.{answer_only}
use Rattle.av_trace.specs.declared.row.Row.{Row}
use Rattle.av_plain.specs.Advice.{advice_answer, advice_events, flag_of_advice, pages_advised, with_advice}
use Rattle.av_plain.specs.Choice.{ChoosesAll}
use Rattle.av_plain.specs.Device.{Device}
use Rattle.av_plain.specs.Fork.{IsRmapNext}
use Rattle.av_plain.specs.Event.{Event, FlagSet, after_all, notes_of}
use Rattle.av_plain.specs.Ledger.{entry}
use Rattle.av_plain.specs.Mremap.{marks_at}
use Rattle.av_plain.specs.Refusal.{Refuses, is_bad_range, refusal, tests}
use Rattle.av_plain.specs.Stands.{IsKept, free_of}
use Rattle.av_plain.specs.Step.{Follows, next}
use Rattle.av_plain.specs.Transcript.{State, rmap_of}
use Rattle.av_plain.specs.World.{Holds, Page, Process, World, is_locked_page, pages, pages_to_locked, set_process, wiped, with_change_on, with_page_flag}
use Rattle.av_plain.specs.Zap.{keys_in, zaps_of}
use Rattle.av_plain.proofs.AreasLeft.{rmap_after_all-zaps}
use Rattle.av_plain.proofs.Covered.Zaps.{zaps-reach}
use Rattle.av_plain.proofs.Load.{zaps-load_nothing}
use Rattle.av_plain.proofs.Transcript.{next-plain}
use Rattle.av_plain.proofs.Zap.{entry-range}
use Rattle.av_mem.specs.declared.mem.Mem.{Mem}
use Rattle.av_swap_laws.specs.Locks.{AreLocks}
use Rattle.av_swap_laws.proofs.Locks.{locks-range}
use Rattle.av_mem.specs.Mem.{locks_of, setting_by, view, Keeps}
use Rattle.av_mem.specs.Steps.{KeepsRest}
use Rattle.av_mem.specs.Zap.{HasZapped}
use Rattle.av_mem.proofs.AnonLaws.{are_left}
use Rattle.av_mem.proofs.MemLaws.{alive_is}
use Rattle.av_mem.proofs.StayLaws.{anons-stay, spaces-stay}
use Rattle.av_place.specs.Advice.{is_unlocked}
use Rattle.av_step.specs.Step.{StepsBeside}
use Rattle.av_step.proofs.CacheLeft.{zaps-cached}
use Rattle.av_step.proofs.Loads.{world_as}
use Rattle.av_step.proofs.StepLaws.{changed, is_number, moved_on, noted, reach_of, state_after}
use Rattle.av_kernel.specs.Map.{GetsAreas, GetsMarks, marks_on}
use Rattle.av_kernel.proofs.ChangeLaws.{AreChanged, anons_left, change-steps, flag_effect}
use Rattle.av_kernel.proofs.LockedRanges.{counts-kept, locks-kept}
use Rattle.av_kernel.proofs.MapLaws.{leads, lived}
use Rattle.av_kernel.proofs.MapMarks.{marks_kept, page_marks}
use Rattle.av_kernel.proofs.MapSteps.{areas_changed, areas_so, tables_kept, unplaced}

-- ---- what is refused

pub madvise-refused : {d : Device} (k : Mem) (s : State) (p a len : ℕ) (advice : Advice) → Keeps d k s
    → is_some (areas_of k.spaces.processes p) ≡ true
    → is_bad_range a len ≡ true → refusal (tests (setting_by d k) s.world s.ledger (Madvise p a len advice)) ≡ Some Einval
madvise-refused k s p a len advice keeps alive bad =
    lived k s p keeps alive (cond (is_bad_range a len) (Some Einval) None) ∙ ap (λ b. cond b (Some Einval) None) bad

madvise-allowed : {d : Device} (k : Mem) (s : State) (p a len : ℕ) (advice : Advice) → Keeps d k s
    → is_some (areas_of k.spaces.processes p) ≡ true
    → is_bad_range a len ≡ false → refusal (tests (setting_by d k) s.world s.ledger (Madvise p a len advice)) ≡ None
madvise-allowed k s p a len advice keeps alive good =
    lived k s p keeps alive (cond (is_bad_range a len) (Some Einval) None) ∙ ap (λ b. cond b (Some Einval) None) good

abbrev no_rows : List Row
no_rows = []

-- ---- how far it goes

-- the answer by the first page that is locked and the first that isn't mapped, as the kernel has it
abbrev pub answer_at : ℕ → ℕ → ℕ → Answer
answer_at locked hole past = cond (nat_lt locked past) (Refused Einval) (cond (hole == past) Done (Refused Enomem))

-- and as the definitions have it, who count the pages
counted : (from n locked hole : ℕ) → from ≤ locked → from ≤ hole
    → answer_at locked hole (from + n) ≡ cond (nat_lt (locked - from) n) (Refused Einval) (cond (hole - from == n) Done (Refused Enomem))
counted from n locked hole low high =
    λ i. cond (less i) (Refused Einval) (cond (whole i) Done (Refused Enomem))
  where
    less : nat_lt locked (from + n) ≡ nat_lt (locked - from) n
    less = grind (arith, nat_tests, low)

    whole : (hole == from + n) ≡ (hole - from == n)
    whole = grind (arith, nat_tests, high)

-- the memories after it, however far it went
next-advised : (w : World) (p a len : ℕ) (advice : Advice) (locked hole : Bool) → is_bad_range a len ≡ false
    → next w (Madvise p a len advice) (cond locked (Refused Einval) (cond hole Done (Refused Enomem)))
    ≡ with_advice w p (page_of a) (pages_of len) (flag_of_advice advice)
next-advised w p a len advice true hole good = ap (λ b. cond b w (with_advice w p (page_of a) (pages_of len) (flag_of_advice advice))) good
next-advised w p a len advice false true good = refl
next-advised w p a len advice false false good = refl

-- no test of pages before k holds, and where k is less than n it holds there: so many are not locked
locked-leads : (q : Process) (from n k : ℕ) → k ≤ n → ((o : ℕ) → from ≤ o → o < from + k → is_locked_page (q o) ≡ false)
    → (k < n → is_locked_page (q (from + k)) ≡ true) → pages_to_locked q from n ≡ k
locked-leads q from zero k most unlocked ends = omega (arith, most)
locked-leads q from (suc n) zero most unlocked ends =
    ap (λ b. cond b 0 (pages_to_locked q (from + 1) n + 1))
    (ap (λ o. is_locked_page (q o)) (let same : from ≡ from + 0 = omega arith in same) ∙ ends (omega arith))
locked-leads q from (suc n) (suc k) most unlocked ends =
    ap (λ b. cond b 0 (pages_to_locked q (from + 1) n + 1)) (unlocked from (omega arith) (omega arith))
    ∙ ap (λ m. m + 1) (locked-leads q (from + 1) n k (omega (arith, most)) (λ o low high. unlocked o (omega (arith, low)) (omega (arith, high)))
    (λ less. ap (λ o. is_locked_page (q o)) (let same : from + 1 + k ≡ from + suc k = omega arith in same) ∙ ends (omega (arith, less))))
    ∙ (let same : k + 1 ≡ suc k = omega arith in same)

-- a page is locked as its area is
unlocked_is : {d : Device} (k : Mem) (s : State) (p page : ℕ) → Keeps d k s
    → is_locked_page (pages s.world p page) ≡ not (is_unlocked k.spaces.processes p page)
unlocked_is k s p page keeps = by (areas_on k.spaces.processes p page) (pages s.world p page) (keeps.stands.parts.areas.flags p page)
  where
    twice : (b : Bool) → b ≡ not (not b)
    twice true = refl
    twice false = refl

    by : (o : Option Area) (x : Option Page) → option_map (λ (area : Area). area.flags) o ≡ option_map (λ (x : Page). x.flags) x
        → is_locked_page x ≡ not (option_map_or (λ (area : Area). not area.flags.locked) o true)
    by None None e = refl
    by None (Some x) e = cc
    by (Some area) None e = cc
    by (Some area) (Some x) e = let same : area.flags ≡ x.flags = cc in ap (λ (flags : Flags). flags.locked) (sym same) ∙ twice area.flags.locked

unlocked-leads : {d : Device} (k : Mem) (s : State) (p from n locked : ℕ) → Keeps d k s
    → GoesTo (is_unlocked k.spaces.processes p) from (from + n) locked → pages_to_locked (pages s.world p) from n ≡ locked - from
unlocked-leads k s p from n locked keeps goes = locked-leads (pages s.world p) from n (locked - from)
    (let high = goes.highest in omega (arith, high))
    (λ o low high. unlocked_is k s p o keeps ∙ ap not (goes.all o low (let least = goes.lowest in omega (arith, high, least))))
    (λ less. let least = goes.lowest in
    let end : from + (locked - from) ≡ locked = omega (arith, least) in
    ap (λ o. is_locked_page (pages s.world p o)) end ∙ unlocked_is k s p locked keeps ∙ ap not (goes.end (omega (arith, less, least))))

-- ---- a flag is set, or cleared

-- no advice is about the lock
abbrev is_lock : Flag → Bool
is_lock DontFork = false
is_lock WipeOnFork = false
is_lock Locked = true
is_lock Mergeable = false

abbrev about_lock : Option (Flag × Bool) → Bool
about_lock None = false
about_lock (Some change) = is_lock change.0

no_lock : (advice : Advice) → about_lock (flag_of_advice advice) ≡ false
no_lock DontNeed = refl
no_lock advices.DontFork = refl
no_lock DoFork = refl
no_lock advices.WipeOnFork = refl
no_lock KeepOnFork = refl
no_lock advices.Mergeable = refl
no_lock Unmergeable = refl

lock-kept : (advice : Advice) (flag : Flag) (set : Bool) → flag_of_advice advice ≡ Some (flag, set) → (f : Flags)
    → (with_flag flag set f).locked ≡ f.locked
lock-kept advice DontFork set about f = refl
lock-kept advice WipeOnFork set about f = refl
lock-kept advice Mergeable set about f = refl
lock-kept advice Locked set about f = absurd (false≢true (sym (no_lock advice) ∙ ap about_lock about))

module _ {d : Device} (old : Mem) (spaces : AllSpaces) (anons : AnonSet) (s : State) (p a len hole : ℕ) (advice : Advice) (flag : Flag) (set : Bool)
    (keeps : Keeps d old s) (alive : is_some (areas_of old.spaces.processes p) ≡ true) (good : is_bad_range a len ≡ false)
    (about : flag_of_advice advice ≡ Some (flag, set))
    (reaches : GoesTo (is_taken old.spaces.processes p) (page_of a) (page_of a + pages_of len) hole)
    (are : AreChanged old spaces anons p (page_of a) (pages_of len) (to_flag flag set)) where
  flag_answer : answer_at (page_of a + pages_of len) hole (page_of a + pages_of len)
      ≡ advice_answer (pages s.world p) (page_of a) (pages_of len) (Some (flag, set))
  flag_answer =
      let least = reaches.lowest in
      counted (page_of a) (pages_of len) (page_of a + pages_of len) hole (omega arith) least
      ∙ (let all : page_of a + pages_of len - page_of a ≡ pages_of len = omega arith in
      λ i. cond (nat_lt (all i) (pages_of len)) (Refused Einval)
      (cond (sym (leads old s p (page_of a) (pages_of len) hole keeps reaches) i == pages_of len) Done (Refused Enomem)))

  pub flag-steps : StepsBeside d old (moved_on old old.tables spaces anons) s (Madvise p a len advice)
      (answer_only (answer_at (page_of a + pages_of len) hole (page_of a + pages_of len)))
  flag-steps =
      let from = page_of a in
      let n = pages_of len in
      let answer = answer_at (from + n) hole (from + n) in
      let events = FlagSet p from n flag set ∷ [] in
      change-steps old spaces anons s p from n (to_flag flag set) (with_page_flag flag set) keeps (alive_is old.spaces.processes p ∙ alive)
      (flag_effect flag set) are (moved_on old old.tables spaces anons) (record { seen = refl; rest = refl })
      (counts-kept old s keeps p from n (with_page_flag flag set) (λ x. lock-kept advice flag set about x.flags))
      (Madvise p a len advice) (answer_only answer)
      (record {
        events = events;
        legal = record {
          answer = subst (λ o. MatchOption o (Follows (setting_by d old) s.world s.ledger (Madvise p a len advice) events answer [])
              (λ e. Refuses e events answer [])) (sym (madvise-allowed old s p a len advice keeps alive good))
              (subst (λ change. (answer ≡ advice_answer (pages s.world p) from n change)
              × (events ≡ advice_events s.ledger p from (pages_advised (pages s.world p) from n change) change) × (no_rows ≡ []))
              (sym about) (flag_answer, refl, refl));
          notes = refl;
        };
        world = sym (next-advised s.world p a len advice (nat_lt (from + n) (from + n)) (hole == from + n) good
            ∙ ap (λ change. with_advice s.world p from n change) about)
            ∙ world_as (setting_by d old) s.world s.ledger events (Madvise p a len advice) answer refl;
        ledger = refl;
        free = subst (λ free. ChoosesAll (setting_by d old) None s.ledger events free (free_of (view old))) keeps.stands.free (
          free_of (view old),
          chooses-nothing (setting_by d old) None s.ledger (FlagSet p from n flag set) (free_of (view old))
              (record { frames = λ g used. used; slots = λ t used. used }) refl refl refl refl,
          refl,
        );
        rmap = next-plain _ s.world (Madvise p a len advice) answer _ refl
            (record {
              areas = refl;
              anons = anons_left old spaces anons s p from n (to_flag flag set) (with_page_flag flag set) keeps (alive_is old.spaces.processes p ∙ alive)
                  (flag_effect flag set) are;
              homes = refl;
              items = refl;
            });
        shows = tt;
      })

-- ---- what is in pages goes

-- the same areas as before
stays : {d : Device} (k : Mem) (s : State) (p : ℕ) → Keeps d k s → is_some (areas_of k.spaces.processes p) ≡ true
    → GetsMarks k.spaces.processes k.spaces.processes p (marks_on (areas_on k.spaces.processes p))
stays k s p keeps alive =
    record { others = λ q other. refl; alive = alive; pages = λ page. refl; number = refl; apart = keeps.stands.parts.areas.apart }

-- areas that are put where they are
put_back : (s : State) (p : ℕ) → with_at p (s.areas p) s.areas ≡ s.areas
put_back s p = λ i q. by q (q == p) refl i
  where
    by : (q : ℕ) (b : Bool) → (q == p) ≡ b → cond b (s.areas p) (s.areas q) ≡ s.areas q
    by q true e = ap s.areas (sym (is_number q p e))
    by q false e = refl

module _ {d : Device} (old new : Mem) (s : State) (p a len locked hole : ℕ) (advice : Advice) (before notes : List Note)
    (keeps : Keeps d old s) (alive : is_some (areas_of old.spaces.processes p) ≡ true) (good : is_bad_range a len ≡ false)
    (about : flag_of_advice advice ≡ None)
    (unlocked : GoesTo (is_unlocked old.spaces.processes p) (page_of a) (page_of a + pages_of len) locked)
    (reaches : GoesTo (is_taken old.spaces.processes p) (page_of a) (page_of a + pages_of len) hole)
    (taken : HasZapped d old new s.ledger (zaps_of s.ledger (keys_in s.ledger p (page_of a) (locked - page_of a))) before notes)
    (rest : KeepsRest old new) where
  abbrev n : ℕ
  n = locked - page_of a

  abbrev pub zapped_events : List Event
  zapped_events = zaps_of s.ledger (keys_in s.ledger p (page_of a) n)

  abbrev given_up : Process
  given_up = with_change_on (pages s.world p) (page_of a) n wiped

  many : pages_to_locked (pages s.world p) (page_of a) (pages_of len) ≡ n
  many = unlocked-leads old s p (page_of a) (pages_of len) locked keeps unlocked

  ends : answer_at locked hole (page_of a + pages_of len) ≡ advice_answer (pages s.world p) (page_of a) (pages_of len) None
  ends =
      let low = unlocked.lowest in
      let least = reaches.lowest in
      counted (page_of a) (pages_of len) locked hole low least
      ∙ (λ i. cond (nat_lt (sym many i) (pages_of len)) (Refused Einval)
      (cond (sym (leads old s p (page_of a) (pages_of len) hole keeps reaches) i == pages_of len) Done (Refused Enomem)))

  entries : (q page : ℕ) → entry (after_all s.ledger zapped_events) (q, page) ≡ cond (q == p && within (page_of a) n page) None (entry s.ledger (q, page))
  entries q page = entry-range s.ledger p (page_of a) n q page

  -- a page that is given up has zeros, and no entry
  kept : (page : ℕ) → IsKept (view old) d s.ledger (entry (after_all s.ledger zapped_events) (p, page)) (given_up page)
  kept page = subst (λ e. IsKept (view old) d s.ledger e (given_up page))
      (sym (entries p page ∙ ap (λ b. cond (b && within (page_of a) n page) None (entry s.ledger (p, page))) (itself p))) (by (within (page_of a) n page))
    where
      itself : (p : ℕ) → (p == p) ≡ true
      itself p = grind (arith, nat_tests)

      zeros_in : (o : Option Page) → Holds (option_map wiped o) (λ _. 0)
      zeros_in None = tt
      zeros_in (Some x) = λ i below. refl

      by : (b : Bool) → IsKept (view old) d s.ledger (cond b None (entry s.ledger (p, page))) (cond b (option_map wiped (pages s.world p page)) (pages s.world p page))
      by true = zeros_in (pages s.world p page)
      by false = keeps.stands.parts.bytes.kept p page

  covered : (page : ℕ) → marks_on (areas_on old.spaces.processes p) page ≡ marks_at given_up page
  covered page = marks_kept old s keeps p page ∙ by (within (page_of a) n page)
    where
      so : (o : Option Page) → option_map page_marks o ≡ option_map page_marks (option_map wiped o)
      so None = refl
      so (Some x) = refl

      by : (b : Bool) → marks_at (pages s.world p) page ≡ option_map page_marks (cond b (option_map wiped (pages s.world p page)) (pages s.world p page))
      by true = so (pages s.world p page)
      by false = refl

  -- none of these pages is locked
  counts_now : AreLocks (locks_of new) (set_process s.world p given_up) (after_all s.ledger zapped_events)
  counts_now f = ap (λ (locks : ℕ → ℕ). locks f) rest.parts.locks ∙ keeps.locks f
      ∙ sym (locks-kept s.world p given_up (after_all s.ledger zapped_events) f (λ page there. same page (within (page_of a) n page) (pages s.world p page))
      ∙ locks-range s.world p (page_of a) n s.ledger f off)
    where
      same : (page : ℕ) (b : Bool) (o : Option Page) → is_locked_page (cond b (option_map wiped o) o) ≡ is_locked_page o
      same page true None = refl
      same page true (Some x) = refl
      same page false o = refl

      off : (page : ℕ) → within (page_of a) n page ≡ true → is_locked_page (pages s.world p page) ≡ false
      off page inside =
          let least = unlocked.lowest in
          let low : page_of a ≤ page = grind (arith, nat_tests, inside) in
          let high : page < page_of a + n = grind (arith, nat_tests, inside) in
          unlocked_is old s p page keeps ∙ ap not (unlocked.all page low (omega (arith, high, least)))

  pub give_up-steps : StepsBeside d old new s (Madvise p a len advice)
      (noted (answer_at locked hole (page_of a + pages_of len)) (notes_of zapped_events))
  give_up-steps =
      let from = page_of a in
      let ks = keys_in s.ledger p from n in
      let answer = answer_at locked hole (from + pages_of len) in
      let same = spaces-stay rest.parts in
      let ranges = alive_is old.spaces.processes p ∙ alive in
      let marks = marks_on (areas_on old.spaces.processes p) in
      let stay = subst (λ (x : AllSpaces). AnonsStay old.spaces old.anons x new.anons) (sym same)
      (subst (AnonsStay old.spaces old.anons old.spaces) (sym (anons-stay rest.parts)) (stay_same old.spaces old.anons keeps.anons)) in
      let areas = areas_so old new s p (λ on. on) keeps
      (subst (λ (x : AllSpaces). GetsAreas old.spaces.processes x.processes p (areas_on old.spaces.processes p)) (sym same) (unplaced old.spaces.processes p)) in
      let spaces = subst (λ (x : AllSpaces). GetsMarks old.spaces.processes x.processes p marks) (sym same) (stays old s p keeps alive) in
      changed old new s p given_up (s.areas p) (after_all s.ledger zapped_events)
      keeps stay rest.parts.count rest.parts.swap taken.stands rest.bytes rest.homes (taken.items s.items keeps.stands.items)
      (λ q page other. entries q page ∙ ap (λ b. cond (b && within from n page) None (entry s.ledger (q, page))) other)
      (zaps-cached (setting_by d old) s.ledger ks keeps.stands.sound.ledger) kept (zaps-reach s.ledger (rmap_of s) ks (reach_of old s keeps))
      (λ page h there is. is) counts_now
      (Madvise p a len advice) (noted answer (notes_of zapped_events))
      (record {
        events = zapped_events;
        legal = record {
          answer = subst (λ o. MatchOption o (Follows (setting_by d old) s.world s.ledger (Madvise p a len advice) zapped_events answer [])
              (λ e. Refuses e zapped_events answer [])) (sym (madvise-allowed old s p a len advice keeps alive good))
              (subst (λ change. (answer ≡ advice_answer (pages s.world p) from (pages_of len) change)
              × (zapped_events ≡ advice_events s.ledger p from (pages_advised (pages s.world p) from (pages_of len) change) change) × (no_rows ≡ []))
              (sym about) (ends, ap (λ m. zaps_of s.ledger (keys_in s.ledger p from m)) (sym many), refl));
          notes = refl;
        };
        world = ap (λ m. set_process s.world p (with_change_on (pages s.world p) from m wiped)) (sym many)
            ∙ sym (next-advised s.world p a len advice (nat_lt locked (from + pages_of len)) (hole == from + pages_of len) good
            ∙ ap (λ change. with_advice s.world p from (pages_of len) change) about)
            ∙ world_as (setting_by d old) s.world s.ledger zapped_events (Madvise p a len advice) answer (zaps-load_nothing s.ledger ks);
        ledger = refl;
        free = subst (λ free. ChoosesAll (setting_by d old) None s.ledger zapped_events free (free_of (view new))) keeps.stands.free taken.free;
        rmap = subst (λ r. IsRmapNext r s.world (Madvise p a len advice) answer
            (rmap_of (state_after s p given_up (s.areas p) (after_all s.ledger zapped_events) (free_of (view new)) new.anons)))
            (sym (rmap_after_all-zaps s.ledger ks s.ledger (rmap_of s)))
            (next-plain (rmap_of s) s.world (Madvise p a len advice) answer _ refl (record {
              areas = put_back s p;
              anons = are_left d old s keeps new.spaces new.anons stay (with_at p (s.areas p) s.areas) areas;
              homes = refl;
              items = refl;
            }));
        shows = tt;
      })
      areas (areas_changed old new s p given_up marks keeps ranges spaces covered)
      (tables_kept old new s p given_up marks keeps ranges spaces covered rest.parts.processes)
