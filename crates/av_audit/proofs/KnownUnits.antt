-- Units whose reply is known before they are read, and the memories after them.
use Rattle.std.proofs.Common.{◌≡◌, ℕ, ◌+◌, ◌<◌, ◌≤◌, ◌^◌, Bool, true, false, cond, List, [], Option, Some, None, refl, sym, ap, subst, ◌∙◌, arith}
use Rattle.std.specs.Prelude.{◌∷◌, ◌==◌, IfSome, MatchBool, MatchOption, is_some, nat_lt, not}
use Rattle.std.specs.List.{AllByRecursion}
use Rattle.std.proofs.lemmas.Bool.{eqb-true}
use Rattle.std.proofs.lemmas.Bool.Decides.{nat_tests}
use Rattle.av_base.specs.Limits.{top_page}
use Rattle.av_base.specs.Page.{address_of, is_on_page, page_of, pages_met, pages_of}
use Rattle.av_base.specs.declared.flags.Flag.{Flag}
use Rattle.av_base.specs.declared.prot.Prot.{Prot}
use Rattle.av_vma.specs.Gap.{IsGap}
use Rattle.av_trace.specs.declared.advice.Advice.{Advice}
use Rattle.av_trace.specs.declared.command.Command.{Command}
use Rattle.av_trace.specs.declared.command.Command.TheVariants.{Madvise, Mmap, Mprotect, Munlock}
use Rattle.av_trace.specs.declared.place.Place.{Place}
use Rattle.av_trace.specs.declared.place.Place.TheVariants.{Auto, At, Fixed, NoReplace}
use Rattle.av_trace.specs.declared.reply.Answer.{Answer}
use Rattle.av_trace.specs.declared.reply.Answer.TheVariants.{Done, Refused}
use Rattle.av_trace.specs.declared.reply.Errno.{Errno}
use Rattle.av_trace.specs.declared.reply.Errno.TheVariants.{Einval, Enomem, Esrch}
use Rattle.av_trace.specs.Note.{IsNote}
use Rattle.av_trace.specs.Reply.{IsReply}
use Rattle.av_plain.specs.Advice.{advice_answer, advice_events, flag_of_advice, pages_advised, with_advice}
use Rattle.av_plain.specs.Event.{Event, notes_of}
use Rattle.av_plain.specs.Ledger.{Ledger, Setting}
use Rattle.av_plain.specs.Lock.{lock_event, with_lock}
use Rattle.av_plain.specs.Map.{hole_answer, with_prot_to_hole, zaps_for_place}
use Rattle.av_plain.specs.Place.{Goes, IsMapAt, is_room}
use Rattle.av_plain.specs.Refusal.{Refuses, Tests, ends_too_high, is_bad_range, is_too_long, place_tests, refusal, tests, wraps}
use Rattle.av_plain.specs.Step.{Follows, next, next_world}
use Rattle.av_plain.specs.World.{Process, World, is_mapped, lives, pages, pages_to_hole, pages_to_locked, set_process, with_prot_on}
use Rattle.av_plain.specs.Zap.{keys_in, zaps_of}
use Rattle.av_audit_judge.specs.Says.{SaysOnly}
use Rattle.av_audit_judge.proofs.KnownLaws.{AnswersOnly, known-verdict}
use Rattle.av_audit_world.specs.Memories.{IsWorld}
use Rattle.av_audit_world.specs.declared.memories.Memories.{Memories}
use Rattle.av_audit.specs.Known.{SaysEvents, map_answer, reply_of}
use Rattle.av_audit.specs.Judge.{IsLeftAt, LeavesLedger}
use Rattle.av_audit.proofs.JudgeLaws.{loads-told}

-- a command that has one reply, by these events
pub known-said : (m : Setting) (w : World) (l : Ledger) (command : Command) (answer : Answer) (events : List Event) (unit : List ℕ)
    (legal : Bool) (l' : Ledger) (memories : Memories) → is_some m.headers ≡ true
    → AnswersOnly m w l command (reply_of answer events) events → IsReply (reply_of answer events)
    → SaysEvents l answer events unit legal l' → (legal ≡ true → IsWorld memories (next w command answer))
    → IsLeftAt m w l command unit legal l' memories
known-said m w l command answer events unit true l' memories told only form says at = (
  next_world m w l events command answer,
  (
    reply_of answer events,
    events,
    record {
      form = form;
      text = says.says;
      legal = record {
        answer = subst (λ o. MatchOption o (Follows m w l command events answer [])
            (λ error. Refuses error events answer [])) (sym only.no_test) only.does;
        notes = refl;
      };
    },
    refl,
    says.after,
  ),
  subst (λ v. IsWorld memories (next v command answer)) (sym (loads-told m w l events told)) (at refl),
)
known-said m w l command answer events unit false l' memories told only form says at = λ u.
    known-verdict m w l l' command (reply_of answer events) events unit false only form says.after says.says
    u.0 u.1 u.2.form u.2.text u.2.legal

-- ---- tests

pub no-first : (b : Bool) (error : Errno) (rest : Tests) → refusal ((b, error) ∷ rest) ≡ None → (b ≡ false) × (refusal rest ≡ None)
no-first true error rest h = cc
no-first false error rest h = (refl, h)

not-false : (b : Bool) → not b ≡ false → b ≡ true
not-false true h = refl
not-false false h = cc

-- where nothing refuses a command whose first test is that, the process lives
pub first-lives : (w : World) (p : ℕ) (rest : Tests) → refusal ((not (lives w p), Esrch) ∷ rest) ≡ None
    → (lives w p ≡ true) × (refusal rest ≡ None)
first-lives w p rest h = let f = no-first (not (lives w p)) Esrch rest h in (not-false (lives w p) f.0, f.1)

-- ---- a hole

-- an answer that says whether there was a hole
pub hole-form : (q : Process) (from n : ℕ) (events : List Event) → AllByRecursion IsNote (notes_of events)
    → IsReply (reply_of (hole_answer q from n) events)
hole-form q from n events fit = by (pages_to_hole q from n == n)
  where
    by : (b : Bool) → IsReply (reply_of (cond b Done (Refused Enomem)) events)
    by true = record { answer = tt; rest = (fit, refl) }
    by false = record { answer = tt; rest = (fit, refl) }

pub mprotect-only : (m : Setting) (w : World) (l : Ledger) (p a len : ℕ) (prot : Prot) → refusal (tests m w l (Mprotect p a len prot)) ≡ None
    → AnswersOnly m w l (Mprotect p a len prot) (reply_of (hole_answer (pages w p) (page_of a) (pages_of len)) []) []
mprotect-only m w l p a len prot none = record { no_test = none; only = λ es answer rows h. h; does = (refl, refl, refl); notes = refl }

pub mprotect-next : (w : World) (p a len : ℕ) (prot : Prot) → wraps a len ≡ false
    → next w (Mprotect p a len prot) (hole_answer (pages w p) (page_of a) (pages_of len)) ≡ with_prot_to_hole w p (page_of a) (pages_of len) prot
mprotect-next w p a len prot fits = by (pages_to_hole (pages w p) (page_of a) (pages_of len) == pages_of len) refl
  where
    by : (b : Bool) → (pages_to_hole (pages w p) (page_of a) (pages_of len) == pages_of len) ≡ b
        → next w (Mprotect p a len prot) (cond b Done (Refused Enomem)) ≡ with_prot_to_hole w p (page_of a) (pages_of len) prot
    by true is = ap (λ k. set_process w p (with_prot_on (pages w p) (page_of a) k prot))
        (sym (eqb-true (pages_to_hole (pages w p) (page_of a) (pages_of len)) (pages_of len) is))
    by false is = ap (λ b. cond b w (with_prot_to_hole w p (page_of a) (pages_of len) prot)) fits

pub munlock-only : (m : Setting) (w : World) (l : Ledger) (p a len : ℕ) → refusal (tests m w l (Munlock p a len)) ≡ None
    → AnswersOnly m w l (Munlock p a len)
    (reply_of (hole_answer (pages w p) (page_of a) (pages_met a len)) (lock_event false (pages w p) p (page_of a) (pages_met a len) ∷ []))
    (lock_event false (pages w p) p (page_of a) (pages_met a len) ∷ [])
munlock-only m w l p a len none = record { no_test = none; only = λ es answer rows h. h; does = (refl, refl, refl); notes = refl }

pub munlock-next : (w : World) (p a len : ℕ)
    → next w (Munlock p a len) (hole_answer (pages w p) (page_of a) (pages_met a len)) ≡ with_lock false w p (page_of a) (pages_met a len)
munlock-next w p a len = by (pages_to_hole (pages w p) (page_of a) (pages_met a len) == pages_met a len)
  where
    by : (b : Bool) → next w (Munlock p a len) (cond b Done (Refused Enomem)) ≡ with_lock false w p (page_of a) (pages_met a len)
    by true = refl
    by false = refl

-- ---- advice

pub advice-only : (m : Setting) (w : World) (l : Ledger) (p a len : ℕ) (advice : Advice) → refusal (tests m w l (Madvise p a len advice)) ≡ None
    → (change : Option (Flag × Bool)) → flag_of_advice advice ≡ change
    → AnswersOnly m w l (Madvise p a len advice)
    (reply_of (advice_answer (pages w p) (page_of a) (pages_of len) change)
    (advice_events l p (page_of a) (pages_advised (pages w p) (page_of a) (pages_of len) change) change))
    (advice_events l p (page_of a) (pages_advised (pages w p) (page_of a) (pages_of len) change) change)
advice-only m w l p a len advice none change is = subst
    (λ change. AnswersOnly m w l (Madvise p a len advice)
    (reply_of (advice_answer (pages w p) (page_of a) (pages_of len) change)
    (advice_events l p (page_of a) (pages_advised (pages w p) (page_of a) (pages_of len) change) change))
    (advice_events l p (page_of a) (pages_advised (pages w p) (page_of a) (pages_of len) change) change)) is
    (record { no_test = none; only = λ es answer rows h. h; does = (refl, refl, refl); notes = refl })

pub advice-next : (w : World) (p a len : ℕ) (advice : Advice) (change : Option (Flag × Bool)) → flag_of_advice advice ≡ change
    → is_bad_range a len ≡ false
    → next w (Madvise p a len advice) (advice_answer (pages w p) (page_of a) (pages_of len) change) ≡ with_advice w p (page_of a) (pages_of len) change
advice-next w p a len advice change is fits =
    by (nat_lt (pages_advised (pages w p) (page_of a) (pages_of len) change) (pages_of len))
    (pages_to_hole (pages w p) (page_of a) (pages_of len) == pages_of len)
    ∙ ap (with_advice w p (page_of a) (pages_of len)) is
  where
    by : (b d : Bool) → next w (Madvise p a len advice) (cond b (Refused Einval) (cond d Done (Refused Enomem)))
        ≡ with_advice w p (page_of a) (pages_of len) (flag_of_advice advice)
    by true d = ap (λ b. cond b w (with_advice w p (page_of a) (pages_of len) (flag_of_advice advice))) fits
    by false true = refl
    by false false = refl

pub advice-form : (q : Process) (from n : ℕ) (change : Option (Flag × Bool)) (events : List Event) → AllByRecursion IsNote (notes_of events)
    → IsReply (reply_of (advice_answer q from n change) events)
advice-form q from n change events fit = by (nat_lt (pages_advised q from n change) n) (pages_to_hole q from n == n)
  where
    by : (b d : Bool) → IsReply (reply_of (cond b (Refused Einval) (cond d Done (Refused Enomem))) events)
    by true d = record { answer = tt; rest = (fit, refl) }
    by false true = record { answer = tt; rest = (fit, refl) }
    by false false = record { answer = tt; rest = (fit, refl) }

-- ---- a place

pub gap-one : (is_taken : ℕ → Bool) (n : ℕ) (to to' : Option ℕ) → IsGap is_taken n to → IsGap is_taken n to' → to ≡ to'
gap-one is_taken n None None h g = refl
gap-one is_taken n None (Some page) h g = absurd (h page g.0)
gap-one is_taken n (Some page) None h g = absurd (g page h.0)
gap-one is_taken n (Some page) (Some other) h g = ap Some (let a = h.1 other g.0 in let b = g.1 page h.0 in omega (arith, a, b))

goes-one : (q : Process) (n : ℕ) (place : Place) (to to' : Option ℕ) → Goes q n place to → Goes q n place to' → to ≡ to'
goes-one q n Auto to to' h g = gap-one (is_mapped q) n to to' h g
goes-one q n (At a) to to' h g = by (is_room q n (page_of a)) h g
  where
    by : (b : Bool) → MatchBool b (to ≡ Some (page_of a)) (IsGap (is_mapped q) n to) →
        MatchBool b (to' ≡ Some (page_of a)) (IsGap (is_mapped q) n to') → to ≡ to'
    by true h g = h ∙ sym g
    by false h g = gap-one (is_mapped q) n to to' h g
goes-one q n (Fixed a) to to' h g = h ∙ sym g
goes-one q n (NoReplace a) to to' h g = h ∙ sym g

pub map-is : (to : Option ℕ) (answer : Answer) → IsMapAt answer to → answer ≡ map_answer to
map-is None answer h = h
map-is (Some page) answer h = h

pub is-map : (to : Option ℕ) → IsMapAt (map_answer to) to
is-map None = refl
is-map (Some page) = refl

pub mmap-only : (m : Setting) (w : World) (l : Ledger) (p len : ℕ) (prot : Prot) (place : Place) (to : Option ℕ)
    → refusal (tests m w l (Mmap p len prot place)) ≡ None → Goes (pages w p) (pages_of len) place to
    → AnswersOnly m w l (Mmap p len prot place) (reply_of (map_answer to) (zaps_for_place l p (pages_of len) place))
    (zaps_for_place l p (pages_of len) place)
mmap-only m w l p len prot place to none goes = record {
  no_test = none;
  only = λ es answer rows h. (
    map-is h.0 answer h.2 ∙ ap map_answer (goes-one (pages w p) (pages_of len) place h.0 to h.1 goes),
    h.3,
    h.4,
  );
  does = (to, goes, is-map to, refl, refl);
  notes = refl;
}

pub mmap-form : (to : Option ℕ) (n : ℕ) (events : List Event) → IfSome to (λ page. page + n ≤ top_page) → AllByRecursion IsNote (notes_of events)
    → IsReply (reply_of (map_answer to) events)
mmap-form None n events fits fit = record { answer = tt; rest = (fit, refl) }
mmap-form (Some page) n events fits fit = record { answer = wide page n fits; rest = (fit, refl) }
  where
    wide : (page n : ℕ) → page + n ≤ top_page → address_of page < 2 ^ 64
    wide page n h = omega (arith, h)

-- only a fixed place takes entries away
pub no-zaps : (l : Ledger) (p n : ℕ) (place : Place) → ((a : ℕ) → place ≡ Fixed a → ⊥) → zaps_for_place l p n place ≡ []
no-zaps l p n Auto h = refl
no-zaps l p n (At a) h = refl
no-zaps l p n (Fixed a) h = absurd (h a refl)
no-zaps l p n (NoReplace a) h = refl

-- an answer without events
pub says-alone : (l : Ledger) (answer : Answer) (events : List Event) (unit : List ℕ) (legal : Bool) → events ≡ []
    → SaysOnly legal unit answer → SaysEvents l answer events unit legal l
says-alone l answer events unit legal none says = subst (λ es. SaysEvents l answer es unit legal l) (sym none)
    (record { says = says; form = tt; after = refl })

pub page-again : (page : ℕ) → page_of (address_of page) ≡ page
page-again page = omega arith

-- ---- commands

pub mprotect-lives : (m : Setting) (w : World) (l : Ledger) (p a len : ℕ) (prot : Prot) → refusal (tests m w l (Mprotect p a len prot)) ≡ None
    → lives w p ≡ true
mprotect-lives m w l p a len prot none = (first-lives w p ((not (is_on_page a), Einval) ∷ (wraps a len, Enomem) ∷ []) none).0

pub munlock-lives : (m : Setting) (w : World) (l : Ledger) (p a len : ℕ) → refusal (tests m w l (Munlock p a len)) ≡ None → lives w p ≡ true
munlock-lives m w l p a len none = (first-lives w p ((ends_too_high a len, Einval) ∷ []) none).0

pub madvise-lives : (m : Setting) (w : World) (l : Ledger) (p a len : ℕ) (advice : Advice) → refusal (tests m w l (Madvise p a len advice)) ≡ None
    → lives w p ≡ true
madvise-lives m w l p a len advice none = (first-lives w p ((is_bad_range a len, Einval) ∷ []) none).0

pub mmap-lives : (m : Setting) (w : World) (l : Ledger) (p len : ℕ) (prot : Prot) (place : Place) → refusal (tests m w l (Mmap p len prot place)) ≡ None
    → lives w p ≡ true
mmap-lives m w l p len prot place none =
    (first-lives w p ((len == 0, Einval) ∷ (is_too_long len, Enomem) ∷ place_tests (pages w p) (pages_of len) place) none).0

mprotect-fits : (m : Setting) (w : World) (l : Ledger) (p a len : ℕ) (prot : Prot) → refusal (tests m w l (Mprotect p a len prot)) ≡ None
    → wraps a len ≡ false
mprotect-fits m w l p a len prot none =
    let f = first-lives w p ((not (is_on_page a), Einval) ∷ (wraps a len, Enomem) ∷ []) none in
    let g = no-first (not (is_on_page a)) Einval ((wraps a len, Enomem) ∷ []) f.1 in
    (no-first (wraps a len) Enomem [] g.1).0

pub mprotect-said : (m : Setting) (w : World) (l : Ledger) (p a len : ℕ) (prot : Prot) (unit : List ℕ) (legal : Bool) (memories : Memories)
    (answer : Answer) → is_some m.headers ≡ true → refusal (tests m w l (Mprotect p a len prot)) ≡ None
    → answer ≡ hole_answer (pages w p) (page_of a) (pages_of len) → SaysOnly legal unit answer
    → (legal ≡ true → IsWorld memories (with_prot_to_hole w p (page_of a) (pages_of len) prot))
    → LeavesLedger m w l (Mprotect p a len prot) unit legal memories
mprotect-said m w l p a len prot unit legal memories answer told none is says at =
    known-said m w l (Mprotect p a len prot) (hole_answer (pages w p) (page_of a) (pages_of len)) [] unit legal l memories told
    (mprotect-only m w l p a len prot none) (hole-form (pages w p) (page_of a) (pages_of len) [] tt)
    (record { says = subst (SaysOnly legal unit) is says; form = tt; after = refl })
    (λ yes. subst (IsWorld memories) (sym (mprotect-next w p a len prot (mprotect-fits m w l p a len prot none))) (at yes))

pub munlock-said : (m : Setting) (w : World) (l : Ledger) (p a len : ℕ) (unit : List ℕ) (legal : Bool) (memories : Memories)
    (answer : Answer) → is_some m.headers ≡ true → refusal (tests m w l (Munlock p a len)) ≡ None
    → answer ≡ hole_answer (pages w p) (page_of a) (pages_met a len) → SaysOnly legal unit answer
    → (legal ≡ true → IsWorld memories (with_lock false w p (page_of a) (pages_met a len)))
    → LeavesLedger m w l (Munlock p a len) unit legal memories
munlock-said m w l p a len unit legal memories answer told none is says at =
    known-said m w l (Munlock p a len) (hole_answer (pages w p) (page_of a) (pages_met a len))
    (lock_event false (pages w p) p (page_of a) (pages_met a len) ∷ []) unit legal l memories told
    (munlock-only m w l p a len none) (hole-form (pages w p) (page_of a) (pages_met a len)
    (lock_event false (pages w p) p (page_of a) (pages_met a len) ∷ []) tt)
    (record { says = subst (SaysOnly legal unit) is says; form = tt; after = refl })
    (λ yes. subst (IsWorld memories) (sym (munlock-next w p a len)) (at yes))

advice-fits : (m : Setting) (w : World) (l : Ledger) (p a len : ℕ) (advice : Advice) → refusal (tests m w l (Madvise p a len advice)) ≡ None
    → is_bad_range a len ≡ false
advice-fits m w l p a len advice none = (no-first (is_bad_range a len) Einval [] (first-lives w p ((is_bad_range a len, Einval) ∷ []) none).1).0

pub flag-said : (m : Setting) (w : World) (l : Ledger) (p a len : ℕ) (advice : Advice) (flag : Flag) (set : Bool) (unit : List ℕ) (legal : Bool)
    (memories : Memories) (answer : Answer) → is_some m.headers ≡ true → flag_of_advice advice ≡ Some (flag, set)
    → refusal (tests m w l (Madvise p a len advice)) ≡ None
    → answer ≡ hole_answer (pages w p) (page_of a) (pages_of len) → SaysOnly legal unit answer
    → (legal ≡ true → IsWorld memories (with_advice w p (page_of a) (pages_of len) (Some (flag, set))))
    → LeavesLedger m w l (Madvise p a len advice) unit legal memories
flag-said m w l p a len advice flag set unit legal memories answer told change none is says at =
    let whole : advice_answer (pages w p) (page_of a) (pages_of len) (Some (flag, set)) ≡ hole_answer (pages w p) (page_of a) (pages_of len) =
    ap (λ b. cond b (Refused Einval) (hole_answer (pages w p) (page_of a) (pages_of len))) (not-less (pages_of len)) in
    known-said m w l (Madvise p a len advice) (advice_answer (pages w p) (page_of a) (pages_of len) (Some (flag, set)))
    (advice_events l p (page_of a) (pages_of len) (Some (flag, set))) unit legal l memories told
    (advice-only m w l p a len advice none (Some (flag, set)) change)
    (advice-form (pages w p) (page_of a) (pages_of len) (Some (flag, set)) (advice_events l p (page_of a) (pages_of len) (Some (flag, set))) tt)
    (record { says = subst (SaysOnly legal unit) (is ∙ sym whole) says; form = tt; after = refl })
    (λ yes. subst (IsWorld memories) (sym (advice-next w p a len advice (Some (flag, set)) change (advice-fits m w l p a len advice none))) (at yes))
  where
    not-less : (n : ℕ) → nat_lt n n ≡ false
    not-less n = grind (arith, nat_tests)

pub dontneed-said : (m : Setting) (w : World) (l l' : Ledger) (p a len : ℕ) (advice : Advice) (unit : List ℕ) (legal : Bool)
    (memories : Memories) → is_some m.headers ≡ true → flag_of_advice advice ≡ None
    → refusal (tests m w l (Madvise p a len advice)) ≡ None
    → SaysEvents l (advice_answer (pages w p) (page_of a) (pages_of len) None)
    (zaps_of l (keys_in l p (page_of a) (pages_to_locked (pages w p) (page_of a) (pages_of len)))) unit legal l'
    → (legal ≡ true → IsWorld memories (with_advice w p (page_of a) (pages_of len) None))
    → IsLeftAt m w l (Madvise p a len advice) unit legal l' memories
dontneed-said m w l l' p a len advice unit legal memories told change none says at =
    known-said m w l (Madvise p a len advice) (advice_answer (pages w p) (page_of a) (pages_of len) None)
    (zaps_of l (keys_in l p (page_of a) (pages_to_locked (pages w p) (page_of a) (pages_of len)))) unit legal l' memories told
    (advice-only m w l p a len advice none None change)
    (advice-form (pages w p) (page_of a) (pages_of len) None
    (zaps_of l (keys_in l p (page_of a) (pages_to_locked (pages w p) (page_of a) (pages_of len)))) says.form)
    says
    (λ yes. subst (IsWorld memories) (sym (advice-next w p a len advice None change (advice-fits m w l p a len advice none))) (at yes))

pub mmap-said : (m : Setting) (w : World) (l l' : Ledger) (p len : ℕ) (prot : Prot) (place : Place) (to : Option ℕ) (unit : List ℕ)
    (legal : Bool) (memories : Memories) → is_some m.headers ≡ true → IfSome to (λ page. page + pages_of len ≤ top_page)
    → refusal (tests m w l (Mmap p len prot place)) ≡ None → Goes (pages w p) (pages_of len) place to
    → SaysEvents l (map_answer to) (zaps_for_place l p (pages_of len) place) unit legal l'
    → (legal ≡ true → IsWorld memories (next w (Mmap p len prot place) (map_answer to)))
    → IsLeftAt m w l (Mmap p len prot place) unit legal l' memories
mmap-said m w l l' p len prot place to unit legal memories told fits none goes says at =
    known-said m w l (Mmap p len prot place) (map_answer to) (zaps_for_place l p (pages_of len) place) unit legal l' memories told
    (mmap-only m w l p len prot place to none goes)
    (mmap-form to (pages_of len) (zaps_for_place l p (pages_of len) place) fits says.form) says at

-- what isn't legal leaves nothing to say of
pub differ : false ≡ true → ⊥
differ e = cc
