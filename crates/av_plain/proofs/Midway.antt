-- What a command has changed that is refused in its midst, or that ends there: an mprotect, an mlock or a munlock at a hole, a madvise at a hole or a
-- locked page, an mlock that has no frame for a page or can't read it.
use Rattle.std.proofs.Common.{◌≡◌, ◌⊎◌, inl, inr, ℕ, zero, suc, ◌+◌, ◌<◌, ◌≤◌, Bool, true, false, cond, ◌&&◌, nat_lt, List, [], ◌∷◌, Option, Some, None, option_map, refl, sym, ap, subst, ◌∙◌, arith, ◌==◌, if◌then◌else◌, not, MatchBool}
use Rattle.std.proofs.lemmas.Bool.Decides.{nat_tests}
use Rattle.std.specs.Ordering.{eq_by_cmp, nat_cmp}
use Rattle.std.specs.List.{list_all}
use Rattle.std.specs.Prelude.{MatchOption}
use Rattle.av_base.specs.Page.{address_of, is_on_page, page_of, pages_met, pages_of}
use Rattle.av_base.specs.Words.{within}
use Rattle.av_base.specs.declared.flags.Flag.{Flag}
use Rattle.av_base.specs.declared.flags.Flag.TheVariants.{Locked}
use Rattle.av_base.specs.declared.prot.Prot.{Prot}
use Rattle.av_trace.specs.declared.advice.Advice.{Advice}
use Rattle.av_trace.specs.declared.advice.Advice.TheVariants.{DontNeed}
use Rattle.av_trace.specs.declared.command.Command.{Command}
use Rattle.av_trace.specs.declared.command.Command.TheVariants.{Madvise, Mlock, Mprotect, Munlock}
use Rattle.av_trace.specs.declared.reply.Answer.TheVariants.{Done, Refused}
use Rattle.av_trace.specs.declared.reply.Errno.{Errno}
use Rattle.av_trace.specs.declared.reply.Errno.TheVariants.{Einval, Enomem, Esrch}
use Rattle.av_trace.specs.declared.reply.Reply.{Reply}
use Rattle.av_plain.specs.Access.{End, Stopped, Whole, write_answer}
use Rattle.av_plain.specs.Advice.{advice_events, advised, flag_of_advice, pages_advised, with_advice}
use Rattle.av_plain.specs.Event.{Event, after_all}
use Rattle.av_plain.specs.Fault.{Denied, Lost, Starved}
use Rattle.av_plain.specs.Ledger.{Ledger, Setting, entry}
use Rattle.av_plain.specs.Load.{with_loads}
use Rattle.av_plain.specs.Lock.{BringsIn, lock_event, with_lock}
use Rattle.av_plain.specs.Map.{StopsAtHole, with_prot_to_hole}
use Rattle.av_plain.specs.Refusal.{Refuses, ends_too_high, is_bad_range, locks_too_many, refusal, tests, wraps}
use Rattle.av_plain.specs.Step.{Follows, IsLegal, next, next_world}
use Rattle.av_plain.specs.World.{ChangesOnly, Page, Process, World, is_locked_page, is_mapped, lives, pages, pages_to_hole, pages_to_locked, set_process, wiped, with_change_on, with_page_flag, with_prot}
use Rattle.av_plain.specs.Zap.{keys_in}
use Rattle.av_plain.proofs.Load.{loads_nothing, without-loads, zaps-load_nothing}
use Rattle.av_plain.proofs.Refusal.{loads-none, write-refused}
use Rattle.av_plain.proofs.Sound.{lives-loads, map_count-loads}
use Rattle.av_plain.proofs.World.{lives-set, pages-set}
use Rattle.av_plain.proofs.World.Ranges.{pages_to_hole-most}
use Rattle.av_plain.proofs.Zap.{entry-range}

-- ---- pages of a range are changed

-- so it is where the process lives
pub changes-only : (w : World) (p from n : ℕ) (change : Page → Page) → lives w p ≡ true
    → ChangesOnly w p from n change (set_process w p (with_change_on (pages w p) from n change))
changes-only w p from n change alive = record {
  here = λ page inside. pages-set w p new p page ∙ ap (λ b. cond b (new page) (pages w p page)) (itself p)
      ∙ ap (λ b. cond b (option_map change (pages w p page)) (pages w p page)) inside;
  others = λ q page apart. pages-set w p new q page ∙ other q page apart (eq_by_cmp nat_cmp q p) refl;
  living = λ q. lives-set w p new q ∙ lived q (eq_by_cmp nat_cmp q p) refl;
}
  where
    new : ℕ → Option Page
    new = with_change_on (pages w p) from n change

    itself : (p : ℕ) → eq_by_cmp nat_cmp p p ≡ true
    itself p = grind (arith, nat_tests)

    one : (q : ℕ) → eq_by_cmp nat_cmp q p ≡ true → q ≡ p
    one q is = grind (arith, nat_tests, is)

    other : (q page : ℕ) → (q ≡ p → within from n page ≡ false) → (b : Bool) → eq_by_cmp nat_cmp q p ≡ b
        → cond b (with_change_on (pages w p) from n change page) (pages w q page) ≡ pages w q page
    other q page apart false is = refl
    other q page apart true is = let same = one q is in
        ap (λ b. cond b (option_map change (pages w p page)) (pages w p page)) (apart same) ∙ ap (λ x. pages w x page) (sym same)

    lived : (q : ℕ) (b : Bool) → eq_by_cmp nat_cmp q p ≡ b → cond b true (lives w q) ≡ lives w q
    lived q false is = refl
    lived q true is = sym (ap (lives w) (one q is) ∙ alive)

-- ---- where no test refuses the command

follows-of : (m : Setting) (w : World) (l : Ledger) (command : Command) (reply : Reply) (events : List Event) → refusal (tests m w l command) ≡ None
    → IsLegal m w l command reply events → Follows m w l command events reply.answer reply.rows
follows-of m w l command reply events none legal = subst
    (λ o. MatchOption o (Follows m w l command events reply.answer reply.rows) (λ error. Refuses error events reply.answer reply.rows)) none legal.answer

-- the process lives
alive : (b : Bool) (rest : Option Errno) → cond (not b) (Some Esrch) rest ≡ None → b ≡ true
alive true rest h = refl
alive false rest h = cc

-- ENOMEM is answered where not all pages are mapped
hole-met : (k n : ℕ) (error : Errno) → k ≤ n → Refused error ≡ (if k == n then Done else Refused Enomem) → (error ≡ Enomem) × (k < n)
hole-met k n error most told = by (k == n) refl told
  where
    by : (b : Bool) → (k == n) ≡ b → Refused error ≡ (if b then Done else Refused Enomem) → (error ≡ Enomem) × (k < n)
    by true is told = cc
    by false is told = (inner told, grind (arith, nat_tests, is, most))
      where
        inner : Refused error ≡ Refused Enomem → error ≡ Enomem
        inner e = cc

-- ---- an mprotect

mprotect-tests : (b c d : Bool) → cond (not b) (Some Esrch) (cond (not c) (Some Einval) (cond d (Some Enomem) None)) ≡ None → (b ≡ true) × (d ≡ false)
mprotect-tests true true false h = (refl, refl)
mprotect-tests true true true h = cc
mprotect-tests true false d h = cc
mprotect-tests false c d h = cc

pub mprotect-stops : (m : Setting) (w : World) (l : Ledger) (p a len : ℕ) (prot : Prot) (reply : Reply) (events : List Event) (error : Errno)
    → refusal (tests m w l (Mprotect p a len prot)) ≡ None → IsLegal m w l (Mprotect p a len prot) reply events → reply.answer ≡ Refused error
    → StopsAtHole w p (page_of a) (pages_of len) (with_prot prot) error (next_world m w l events (Mprotect p a len prot) reply.answer)
    × (after_all l events ≡ l)
mprotect-stops m w l p a len prot reply events error none legal is =
    let h = follows-of m w l (Mprotect p a len prot) reply events none legal in
    let t = mprotect-tests (lives w p) (is_on_page a) (wraps a len) none in
    let met = hole-met (pages_to_hole (pages w p) (page_of a) (pages_of len)) (pages_of len) error
    (pages_to_hole-most (pages w p) (page_of a) (pages_of len)) (sym is ∙ h.0) in (
      record {
        error_is = met.0;
        hole = met.1;
        changes = subst (ChangesOnly w p (page_of a) (pages_to_hole (pages w p) (page_of a) (pages_of len)) (with_prot prot))
            (sym ((λ i. next (loads-none m w l events h.1 i) (Mprotect p a len prot) ((is ∙ ap Refused met.0) i))
            ∙ ap (λ b. if b then w else with_prot_to_hole w p (page_of a) (pages_of len) prot) t.1))
            (changes-only w p (page_of a) (pages_to_hole (pages w p) (page_of a) (pages_of len)) (with_prot prot) t.0);
      },
      ap (after_all l) h.1,
    )

-- ---- a munlock

pub munlock-stops : (m : Setting) (w : World) (l : Ledger) (p a len : ℕ) (reply : Reply) (events : List Event) (error : Errno)
    → refusal (tests m w l (Munlock p a len)) ≡ None → IsLegal m w l (Munlock p a len) reply events → reply.answer ≡ Refused error
    → StopsAtHole w p (page_of a) (pages_met a len) (with_page_flag Locked false) error (next_world m w l events (Munlock p a len) reply.answer)
    × (after_all l events ≡ l)
munlock-stops m w l p a len reply events error none legal is =
    let h = follows-of m w l (Munlock p a len) reply events none legal in
    let met = hole-met (pages_to_hole (pages w p) (page_of a) (pages_met a len)) (pages_met a len) error
    (pages_to_hole-most (pages w p) (page_of a) (pages_met a len)) (sym is ∙ h.0) in (
      record {
        error_is = met.0;
        hole = met.1;
        changes = subst (ChangesOnly w p (page_of a) (pages_to_hole (pages w p) (page_of a) (pages_met a len)) (with_page_flag Locked false))
            (sym (λ i. next (without-loads m w l events (ap (list_all loads_nothing) h.1) i) (Munlock p a len) ((is ∙ ap Refused met.0) i)))
            (changes-only w p (page_of a) (pages_to_hole (pages w p) (page_of a) (pages_met a len)) (with_page_flag Locked false)
            (alive (lives w p) _ none));
      },
      ap (after_all l) h.1,
    )

-- ---- an mlock

mlock-tests : (b c d : Bool) → cond (not b) (Some Esrch) (cond c (Some Einval) (cond d (Some Enomem) None)) ≡ None → (b ≡ true) × (d ≡ false)
mlock-tests true false false h = (refl, refl)
mlock-tests true false true h = cc
mlock-tests true true d h = cc
mlock-tests false c d h = cc

pub mlock-stops : (m : Setting) (w : World) (l : Ledger) (p a len : ℕ) (reply : Reply) (events : List Event) (error : Errno)
    → refusal (tests m w l (Mlock p a len)) ≡ None → IsLegal m w l (Mlock p a len) reply events → reply.answer ≡ Refused error
    → StopsAtHole w p (page_of a) (pages_met a len) (with_page_flag Locked true) error (next_world m w l events (Mlock p a len) reply.answer)
    × (after_all l events ≡ l)
mlock-stops m w l p a len reply events error none legal is =
    let h = follows-of m w l (Mlock p a len) reply events none legal in
    let t = mlock-tests (lives w p) (ends_too_high a len) (locks_too_many a len) none in
    by t.0 t.1 h.0 h.1 (pages_to_hole (pages w p) (page_of a) (pages_met a len) == pages_met a len) refl h.3
  where
    inner : Refused error ≡ Refused Enomem → error ≡ Enomem
    inner e = cc

    fewer : (k n : ℕ) → k ≤ n → (k == n) ≡ false → k < n
    fewer k n most is = grind (arith, nat_tests, is, most)

    by : lives w p ≡ true → locks_too_many a len ≡ false → (coming : List Event) → events ≡ lock_event true (pages w p) p (page_of a) (pages_met a len) ∷ coming
        → (b : Bool) → (pages_to_hole (pages w p) (page_of a) (pages_met a len) == pages_met a len) ≡ b
        → MatchBool b (BringsIn m w l p (page_of a) (pages_met a len) coming reply.answer) ((coming ≡ []) × (reply.answer ≡ Refused Enomem))
        → StopsAtHole w p (page_of a) (pages_met a len) (with_page_flag Locked true) error (next_world m w l events (Mlock p a len) reply.answer)
        × (after_all l events ≡ l)
    by lived few coming at true all brings = absurd (write-refused (address_of (page_of a)) brings.0 error (sym is ∙ brings.2))
    by lived few coming at false hole ends =
        let told : error ≡ Enomem = inner (sym is ∙ ends.1) in
        let alone : events ≡ lock_event true (pages w p) p (page_of a) (pages_met a len) ∷ [] =
        at ∙ ap (λ es. lock_event true (pages w p) p (page_of a) (pages_met a len) ∷ es) ends.0 in (
          record {
            error_is = told;
            hole = fewer _ _ (pages_to_hole-most (pages w p) (page_of a) (pages_met a len)) hole;
            changes = subst (ChangesOnly w p (page_of a) (pages_to_hole (pages w p) (page_of a) (pages_met a len)) (with_page_flag Locked true))
                (sym ((λ i. next (without-loads m w l events (ap (list_all loads_nothing) alone) i) (Mlock p a len) (ends.1 i))
                ∙ ap (λ b. if b then w else with_lock true w p (page_of a) (pages_met a len)) few))
                (changes-only w p (page_of a) (pages_to_hole (pages w p) (page_of a) (pages_met a len)) (with_page_flag Locked true) lived);
          },
          ap (after_all l) alone,
        )

-- as many pages are mapped after loads
hole-same : (q r : Process) (from n : ℕ) → ((page : ℕ) → is_mapped q page ≡ is_mapped r page) → pages_to_hole q from n ≡ pages_to_hole r from n
hole-same q r from zero h = refl
hole-same q r from (suc n) h = λ i. cond (h from i) (hole-same q r (from + 1) n h i + 1) 0

-- what an access answers is no refusal, so the range is locked
next-locked : (now : World) (p a len first : ℕ) (end : End)
    → next now (Mlock p a len) (write_answer first end) ≡ with_lock true now p (page_of a) (pages_met a len)
next-locked now p a len first Whole = refl
next-locked now p a len first (Stopped page Denied) = refl
next-locked now p a len first (Stopped page (Starved out)) = refl
next-locked now p a len first (Stopped page Lost) = refl

-- an mlock that isn't refused locks all of its pages, whether it has brought them in or not
pub mlock-locks : (m : Setting) (w : World) (l : Ledger) (p a len : ℕ) (reply : Reply) (events : List Event)
    → IsLegal m w l (Mlock p a len) reply events → ((error : Errno) → reply.answer ≡ Refused error → ⊥)
    → (pages_to_hole (pages w p) (page_of a) (pages_met a len) ≡ pages_met a len)
    × ChangesOnly (with_loads m w l events) p (page_of a) (pages_met a len) (with_page_flag Locked true)
    (next_world m w l events (Mlock p a len) reply.answer)
mlock-locks m w l p a len reply events legal unrefused = by (refusal (tests m w l (Mlock p a len))) refl legal.answer
  where
    now : World
    now = with_loads m w l events

    same : pages_to_hole (pages (with_loads m w l events) p) (page_of a) (pages_met a len) ≡ pages_to_hole (pages w p) (page_of a) (pages_met a len)
    same = hole-same (pages (with_loads m w l events) p) (pages w p) (page_of a) (pages_met a len) (map_count-loads m w l events p)

    as_many : (k n : ℕ) → (k == n) ≡ true → k ≡ n
    as_many k n is = grind (arith, nat_tests, is)

    locked : lives w p ≡ true → (coming : List Event) (b : Bool) → (pages_to_hole (pages w p) (page_of a) (pages_met a len) == pages_met a len) ≡ b
        → MatchBool b (BringsIn m w l p (page_of a) (pages_met a len) coming reply.answer) ((coming ≡ []) × (reply.answer ≡ Refused Enomem))
        → (pages_to_hole (pages w p) (page_of a) (pages_met a len) ≡ pages_met a len)
        × ChangesOnly (with_loads m w l events) p (page_of a) (pages_met a len) (with_page_flag Locked true)
        (next_world m w l events (Mlock p a len) reply.answer)
    locked lived coming false hole ends = absurd (unrefused Enomem ends.1)
    locked lived coming true all brings =
        let whole = as_many _ _ all in (
          whole,
          subst (ChangesOnly (with_loads m w l events) p (page_of a) (pages_met a len) (with_page_flag Locked true))
              (sym (ap (next (with_loads m w l events) (Mlock p a len)) brings.2 ∙ next-locked (with_loads m w l events) p a len (address_of (page_of a)) brings.0
              ∙ ap (λ n. set_process (with_loads m w l events) p
              (with_change_on (pages (with_loads m w l events) p) (page_of a) n (with_page_flag Locked true))) (same ∙ whole)))
              (changes-only (with_loads m w l events) p (page_of a) (pages_met a len) (with_page_flag Locked true) (lives-loads m w l events p ∙ lived)),
        )

    by : (o : Option Errno) → refusal (tests m w l (Mlock p a len)) ≡ o
        → MatchOption o (Follows m w l (Mlock p a len) events reply.answer reply.rows) (λ error. Refuses error events reply.answer reply.rows)
        → (pages_to_hole (pages w p) (page_of a) (pages_met a len) ≡ pages_met a len)
        × ChangesOnly (with_loads m w l events) p (page_of a) (pages_met a len) (with_page_flag Locked true)
        (next_world m w l events (Mlock p a len) reply.answer)
    by (Some error) is told = absurd (unrefused error told.0)
    by None is h = locked (alive (lives w p) _ is) h.0 (pages_to_hole (pages w p) (page_of a) (pages_met a len) == pages_met a len) refl h.3

-- ---- a madvise

-- its test
madvise-fine : (b c : Bool) → cond (not b) (Some Esrch) (cond c (Some Einval) None) ≡ None → (b ≡ true) × (c ≡ false)
madvise-fine true false h = (refl, refl)
madvise-fine true true h = cc
madvise-fine false c h = cc

-- what an advice makes of its pages, by what it is about
next-advised : (now : World) (p a len : ℕ) (advice : Advice) (error : Errno) → is_bad_range a len ≡ false → (b : Bool)
    → error ≡ (if b then Einval else Enomem)
    → next now (Madvise p a len advice) (Refused error) ≡ with_advice now p (page_of a) (pages_of len) (flag_of_advice advice)
next-advised now p a len advice error good true is = ap (λ e. next now (Madvise p a len advice) (Refused e)) is
    ∙ ap (λ b. if b then now else with_advice now p (page_of a) (pages_of len) (flag_of_advice advice)) good
next-advised now p a len advice error good false is = ap (λ e. next now (Madvise p a len advice) (Refused e)) is

-- it ends before a locked page, or goes over a hole
advice-ends : (k n h : ℕ) (error : Errno) → h ≤ n → k ≤ n
    → Refused error ≡ (if nat_lt k n then Refused Einval else (if h == n then Done else Refused Enomem))
    → (error ≡ (if nat_lt k n then Einval else Enomem)) × (((error ≡ Einval) × (k < n)) ⊎ ((error ≡ Enomem) × (k ≡ n) × (h < n)))
advice-ends k n h error most below told = by (nat_lt k n) refl told
  where
    inner : {x y : Errno} → Refused x ≡ Refused y → x ≡ y
    inner e = cc

    less : nat_lt k n ≡ true → k < n
    less is = grind (arith, nat_tests, is)

    all : nat_lt k n ≡ false → k ≡ n
    all is = grind (arith, nat_tests, is, below)

    by : (b : Bool) → nat_lt k n ≡ b → Refused error ≡ (if b then Refused Einval else (if h == n then Done else Refused Enomem))
        → (error ≡ (if b then Einval else Enomem)) × (((error ≡ Einval) × (k < n)) ⊎ ((error ≡ Enomem) × (k ≡ n) × (h < n)))
    by true is told = let e = inner told in (e, inl (e, less is))
    by false is told = let met = hole-met h n error most told in (met.0, inr (met.0, all is, met.1))

pages_to_locked-most : (q : Process) (from n : ℕ) → pages_to_locked q from n ≤ n
pages_to_locked-most q from zero = omega arith
pages_to_locked-most q from (suc n) = by (is_locked_page (q from)) (pages_to_locked-most q (from + 1) n)
  where
    by : (b : Bool) → pages_to_locked q (from + 1) n ≤ n → cond b 0 (pages_to_locked q (from + 1) n + 1) ≤ suc n
    by true h = omega (arith, h)
    by false h = omega (arith, h)

pages_advised-most : (q : Process) (from n : ℕ) (change : Option (Flag × Bool)) → pages_advised q from n change ≤ n
pages_advised-most q from n None = pages_to_locked-most q from n
pages_advised-most q from n (Some change) = omega arith

-- a madvise that is refused in its midst, by what it is about
record IsAdvised (w : World) (l : Ledger) (p from n : ℕ) (change : Option (Flag × Bool)) (error : Errno) (now : World) (events : List Event) : Type 0 where
  ends : ((error ≡ Einval) × (pages_advised (pages w p) from n change < n))
      ⊎ ((error ≡ Enomem) × (pages_advised (pages w p) from n change ≡ n) × (pages_to_hole (pages w p) from n < n))
  changes : ChangesOnly w p from (pages_advised (pages w p) from n change) (advised change) now
  events_are : events ≡ advice_events l p from (pages_advised (pages w p) from n change) change

madvise-ends : (m : Setting) (w : World) (l : Ledger) (p a len : ℕ) (advice : Advice) (reply : Reply) (events : List Event) (error : Errno)
    → refusal (tests m w l (Madvise p a len advice)) ≡ None → IsLegal m w l (Madvise p a len advice) reply events → reply.answer ≡ Refused error
    → IsAdvised w l p (page_of a) (pages_of len) (flag_of_advice advice) error (next_world m w l events (Madvise p a len advice) reply.answer) events
madvise-ends m w l p a len advice reply events error none legal is =
    let h = follows-of m w l (Madvise p a len advice) reply events none legal in
    let t = madvise-fine (lives w p) (is_bad_range a len) none in
    let ends = advice-ends (pages_advised (pages w p) (page_of a) (pages_of len) (flag_of_advice advice)) (pages_of len)
    (pages_to_hole (pages w p) (page_of a) (pages_of len)) error (pages_to_hole-most (pages w p) (page_of a) (pages_of len))
    (pages_advised-most (pages w p) (page_of a) (pages_of len) (flag_of_advice advice)) (sym is ∙ h.0) in
    record {
      ends = ends.1;
      changes = subst (ChangesOnly w p (page_of a) (pages_advised (pages w p) (page_of a) (pages_of len) (flag_of_advice advice)) (advised (flag_of_advice advice)))
          (sym ((λ i. next (without-loads m w l events (ap (list_all loads_nothing) h.1 ∙ quiet (flag_of_advice advice)) i) (Madvise p a len advice) (is i))
          ∙ next-advised w p a len advice error t.1
          (nat_lt (pages_advised (pages w p) (page_of a) (pages_of len) (flag_of_advice advice)) (pages_of len)) ends.0))
          (changes-only w p (page_of a) (pages_advised (pages w p) (page_of a) (pages_of len) (flag_of_advice advice)) (advised (flag_of_advice advice)) t.0);
      events_are = h.1;
    }
  where
    quiet : (change : Option (Flag × Bool))
        → list_all loads_nothing (advice_events l p (page_of a) (pages_advised (pages w p) (page_of a) (pages_of len) change) change) ≡ true
    quiet None = zaps-load_nothing l (keys_in l p (page_of a) (pages_to_locked (pages w p) (page_of a) (pages_of len)))
    quiet (Some change) = refl

-- one about a flag met a hole, and has changed all pages that are mapped
pub madvise-flags : (m : Setting) (w : World) (l : Ledger) (p a len : ℕ) (advice : Advice) (flag : Flag) (set : Bool) (reply : Reply) (events : List Event)
    (error : Errno) → flag_of_advice advice ≡ Some (flag, set)
    → refusal (tests m w l (Madvise p a len advice)) ≡ None → IsLegal m w l (Madvise p a len advice) reply events → reply.answer ≡ Refused error
    → (error ≡ Enomem) × (pages_to_hole (pages w p) (page_of a) (pages_of len) < pages_of len)
    × ChangesOnly w p (page_of a) (pages_of len) (with_page_flag flag set) (next_world m w l events (Madvise p a len advice) reply.answer)
    × (after_all l events ≡ l)
madvise-flags m w l p a len advice flag set reply events error about none legal is =
    by (subst (λ change. IsAdvised w l p (page_of a) (pages_of len) change error (next_world m w l events (Madvise p a len advice) reply.answer) events)
    about (madvise-ends m w l p a len advice reply events error none legal is))
  where
    ended : (n h : ℕ) → ((error ≡ Einval) × (n < n)) ⊎ ((error ≡ Enomem) × (n ≡ n) × (h < n)) → (error ≡ Enomem) × (h < n)
    ended n h (inl x) = let less = x.1 in absurd (omega (arith, less))
    ended n h (inr x) = (x.0, x.2)

    by : IsAdvised w l p (page_of a) (pages_of len) (Some (flag, set)) error (next_world m w l events (Madvise p a len advice) reply.answer) events
        → (error ≡ Enomem) × (pages_to_hole (pages w p) (page_of a) (pages_of len) < pages_of len)
        × ChangesOnly w p (page_of a) (pages_of len) (with_page_flag flag set) (next_world m w l events (Madvise p a len advice) reply.answer)
        × (after_all l events ≡ l)
    by x = let e = ended _ _ x.ends in (e.0, e.1, x.changes, ap (after_all l) x.events_are)

-- `dontneed` met a locked page or a hole; the pages before the one, or all, are zeros and have no entry
pub dontneed-ends : (m : Setting) (w : World) (l : Ledger) (p a len : ℕ) (reply : Reply) (events : List Event) (error : Errno)
    → refusal (tests m w l (Madvise p a len DontNeed)) ≡ None → IsLegal m w l (Madvise p a len DontNeed) reply events → reply.answer ≡ Refused error
    → (((error ≡ Einval) × (pages_to_locked (pages w p) (page_of a) (pages_of len) < pages_of len))
    ⊎ ((error ≡ Enomem) × (pages_to_locked (pages w p) (page_of a) (pages_of len) ≡ pages_of len)
    × (pages_to_hole (pages w p) (page_of a) (pages_of len) < pages_of len)))
    × ChangesOnly w p (page_of a) (pages_to_locked (pages w p) (page_of a) (pages_of len)) wiped (next_world m w l events (Madvise p a len DontNeed) reply.answer)
    × ((q page : ℕ) → entry (after_all l events) (q, page)
    ≡ (if q == p && within (page_of a) (pages_to_locked (pages w p) (page_of a) (pages_of len)) page then None else entry l (q, page)))
dontneed-ends m w l p a len reply events error none legal is =
    let x = madvise-ends m w l p a len DontNeed reply events error none legal is in (
      x.ends,
      x.changes,
      λ q page. ap (λ es. entry (after_all l es) (q, page)) x.events_are
          ∙ entry-range l p (page_of a) (pages_to_locked (pages w p) (page_of a) (pages_of len)) q page,
    )
