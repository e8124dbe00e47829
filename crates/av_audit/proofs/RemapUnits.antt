-- Units of `mremap`, and the pages after it.
use Rattle.std.proofs.Common.{◌≡◌, ℕ, ◌+◌, ◌-◌, ◌<◌, ◌≤◌, ◌^◌, Bool, true, false, cond, List, Option, Some, None, refl, sym, ap, subst, ◌∙◌}
use Rattle.std.proofs.Common.{arith, nat_le, nat_lt}
use Rattle.std.specs.Prelude.{◌∷◌, ◌||◌, ◌&&◌, IfSome, MatchBool, [], is_some, not, option_map, ◌*◌}
use Rattle.std.specs.List.{AllByRecursion}
use Rattle.std.proofs.lemmas.Bool.Decides.{nat_tests}
use Rattle.av_base.specs.Limits.{top_page}
use Rattle.av_base.specs.Page.{address_of, is_on_page, page_of, pages_of}
use Rattle.av_base.specs.Words.{within}
use Rattle.av_vma.specs.Gap.{IsGap}
use Rattle.av_trace.specs.Note.{IsNote}
use Rattle.av_trace.specs.Reply.{IsReply}
use Rattle.av_trace.specs.declared.command.Command.TheVariants.{Mremap}
use Rattle.av_trace.specs.declared.mode.Mode.{Mode}
use Rattle.av_trace.specs.declared.mode.Mode.TheVariants.{Plain, MayMove, Fixed, DontUnmap}
use Rattle.av_trace.specs.declared.reply.Errno.TheVariants.{Efault, Einval, Eperm}
use Rattle.av_plain.specs.Event.{Event, notes_of}
use Rattle.av_plain.specs.Ledger.{Ledger, Setting}
use Rattle.av_plain.specs.Mremap.{MovesTo, events_to, left_behind, leaves_old, may_stay, process_after_mremap, target_of}
use Rattle.av_plain.specs.Refusal.{Tests, are_bad_lengths, is_below_low, is_no_target, is_tail_too_high, lacks_pages, mremap_tests, overlap}
use Rattle.av_plain.specs.Refusal.{refusal, tests, top}
use Rattle.av_plain.specs.Step.{next}
use Rattle.av_plain.specs.World.{Process, World, is_mapped, lives, meets, pages, set_process, wiped}
use Rattle.av_audit_judge.proofs.KnownLaws.{AnswersOnly}
use Rattle.av_audit_world.specs.Memories.{IsWorld}
use Rattle.av_audit_world.specs.Remap.{IsBelowTop}
use Rattle.av_audit_world.specs.declared.memories.Memories.{Memories}
use Rattle.av_audit_world.proofs.WorldLaws.{world-top}
use Rattle.av_audit.specs.Known.{SaysEvents, map_answer, reply_of}
use Rattle.av_audit.specs.Judge.{IsLeftAt}
use Rattle.av_audit.proofs.KnownUnits.{differ, first-lives, gap-one, is-map, known-said, map-is, no-first, page-again}

-- ---- tests

target-fits : (m : Setting) (w : World) (l : Ledger) (p a old new : ℕ) (mode : Mode) → refusal (tests m w l (Mremap p a old new mode)) ≡ None
    → is_no_target a (pages_of old) (pages_of new) (target_of mode) ≡ false
target-fits m w l p a old new mode none =
    let q = pages w p in
    let rest : Tests = (lacks_pages q (page_of a) (pages_of old) (pages_of new) mode, Efault)
    ∷ (is_tail_too_high a (pages_of old) (pages_of new) mode, Einval) ∷ (is_below_low (target_of mode), Eperm) ∷ [] in
    let second : Tests = (is_no_target a (pages_of old) (pages_of new) (target_of mode), Einval) ∷ rest in
    (no-first (is_no_target a (pages_of old) (pages_of new) (target_of mode)) Einval rest
    (no-first (not (is_on_page a) || are_bad_lengths old new mode) Einval second
    (first-lives w p (mremap_tests q a old new mode) none).1).1).0

pub mremap-lives : (m : Setting) (w : World) (l : Ledger) (p a old new : ℕ) (mode : Mode) → refusal (tests m w l (Mremap p a old new mode)) ≡ None
    → lives w p ≡ true
mremap-lives m w l p a old new mode none = (first-lives w p (mremap_tests (pages w p) a old new mode) none).0

-- ---- where the pages go

moves-one : (q : Process) (from n m : ℕ) (mode : Mode) (to to' : Option ℕ) → MovesTo q from n m mode to → MovesTo q from n m mode to' → to ≡ to'
moves-one q from n m Plain to to' h g = h ∙ sym g
moves-one q from n m MayMove to to' h g = by (may_stay q from n m) h g
  where
    by : (b : Bool) → MatchBool b (to ≡ Some from) (IsGap (is_mapped q) m to) → MatchBool b (to' ≡ Some from) (IsGap (is_mapped q) m to') → to ≡ to'
    by true h g = h ∙ sym g
    by false h g = gap-one (is_mapped q) m to to' h g
moves-one q from n m (Fixed b) to to' h g = h ∙ sym g
moves-one q from n m (DontUnmap (Some b)) to to' h g = h ∙ sym g
moves-one q from n m (DontUnmap None) to to' h g = gap-one (is_mapped q) m to to' h g

-- only pages that stay, and aren't more, may be at the top or above
abbrev AtTop : ℕ → ℕ → ℕ → ℕ → Type 0
AtTop from n to m = (page : ℕ) → to ≤ page → page < to + m → top_page ≤ page → (to ≡ from) × (m ≤ n)

low-enough : (from n to m : ℕ) → to + m ≤ top_page → AtTop from n to m
low-enough from n to m fits page above below high = absurd (omega (arith, fits, below, high))

stay-enough : (q : Process) (from n to m : ℕ) → may_stay q from n m ≡ true → to ≡ from → AtTop from n to m
stay-enough q from n to m may is = by (nat_le m n) refl may
  where
    fewer : nat_le m n ≡ true → m ≤ n
    fewer e = grind (arith, nat_tests)

    low : nat_le (from + m) top_page ≡ true → from + m ≤ top_page
    low e = grind (arith, nat_tests, e)

    fits : (x b : Bool) → nat_le (from + m) top_page ≡ x → (x && b) ≡ true → from + m ≤ top_page
    fits true b e h = low e
    fits false b e h = absurd (differ h)

    by : (b : Bool) → nat_le m n ≡ b → (b || (nat_le (from + m) top_page && not (meets q (from + n) (m - n)))) ≡ true → AtTop from n to m
    by true e h = λ page above below high. (is, fewer e)
    by false e h = low-enough from n to m (let f = fits (nat_le (from + m) top_page) (not (meets q (from + n) (m - n))) refl h in omega (arith, is, f))

target-enough : (a b from n m : ℕ) → is_no_target a n m (Some b) ≡ false → AtTop from n (page_of b) m
target-enough a b from n m h = low-enough from n (page_of b) m (by (not (is_on_page b)) (nat_lt top (b + address_of m)) (overlap a n b m) refl h)
  where
    fits : nat_lt top (b + address_of m) ≡ false → b + 4096 * m ≤ 4096 * top_page
    fits e = grind (arith, nat_tests, e)

    by : (x y z : Bool) → nat_lt top (b + address_of m) ≡ y → (x || y || z) ≡ false → page_of b + m ≤ top_page
    by x false z e g = let f = fits e in omega (arith, f)
    by true true z e g = absurd (differ (sym g))
    by false true z e g = absurd (differ (sym g))

some-is : (a b : ℕ) → Some a ≡ Some b → a ≡ b
some-is a b h = cc

not-none : (a : ℕ) → Some a ≡ None → ⊥
not-none a h = cc

at-top : (q : Process) (a n m : ℕ) (mode : Mode) (to : ℕ) → is_no_target a n m (target_of mode) ≡ false
    → MovesTo q (page_of a) n m mode (Some to) → AtTop (page_of a) n to m
at-top q a n m Plain to target goes = by (may_stay q (page_of a) n m) refl goes
  where
    by : (b : Bool) → may_stay q (page_of a) n m ≡ b → Some to ≡ cond b (Some (page_of a)) None → AtTop (page_of a) n to m
    by true e h = stay-enough q (page_of a) n to m e (some-is to (page_of a) h)
    by false e h = absurd (not-none to h)
at-top q a n m MayMove to target goes = by (may_stay q (page_of a) n m) refl goes
  where
    by : (b : Bool) → may_stay q (page_of a) n m ≡ b → MatchBool b (Some to ≡ Some (page_of a)) (IsGap (is_mapped q) m (Some to))
        → AtTop (page_of a) n to m
    by true e h = stay-enough q (page_of a) n to m e (some-is to (page_of a) h)
    by false e h = low-enough (page_of a) n to m h.0.highest
at-top q a n m (Fixed b) to target goes = λ page above below high.
    let is = some-is to (page_of b) goes in
    let t = target-enough a b (page_of a) n m target page (omega (arith, is, above)) (omega (arith, is, below)) high in
    (is ∙ t.0, t.1)
at-top q a n m (DontUnmap (Some b)) to target goes = λ page above below high.
    let is = some-is to (page_of b) goes in
    let t = target-enough a b (page_of a) n m target page (omega (arith, is, above)) (omega (arith, is, below)) high in
    (is ∙ t.0, t.1)
at-top q a n m (DontUnmap None) to target goes = low-enough (page_of a) n to m goes.0.highest

below-top : (q : Process) (from n to m : ℕ) (stays : Bool) → IsBelowTop q → AtTop from n to m → IsBelowTop (process_after_mremap from n to m stays q)
below-top q from n to m stays below at page high = by (within to m page) (within from n page) refl
  where
    above : within to m page ≡ true → to ≤ page
    above e = grind (arith, nat_tests, e)

    under : within to m page ≡ true → page < to + m
    under e = grind (arith, nat_tests, e)

    first : within to m page ≡ true → m ≤ n → nat_lt (page - to) n ≡ true
    first e h = grind (arith, nat_tests, e, h)

    back : to ≡ from → to ≤ page → from + (page - to) ≡ page
    back e h = omega (arith, e, h)

    none : (b c : Bool) → cond b (left_behind c None) None ≡ None
    none true true = refl
    none true false = refl
    none false c = refl

    by : (a b : Bool) → within to m page ≡ a
        → cond a (cond (nat_lt (page - to) n) (q (from + (page - to))) (option_map wiped (q (from + n - 1))))
        (cond b (left_behind stays (q page)) (q page)) ≡ None
    by true b e =
        let t = at page (above e) (under e) high in
        ap (λ x. cond x (q (from + (page - to))) (option_map wiped (q (from + n - 1)))) (first e t.1)
        ∙ ap q (back t.0 (above e)) ∙ below page high
    by false b e = ap (λ p. cond b (left_behind stays p) p) (below page high) ∙ none b stays

pub pages-below : (m : Setting) (w : World) (l : Ledger) (p a old new : ℕ) (mode : Mode) (memories : Memories) (to : Option ℕ) → IsWorld memories w
    → refusal (tests m w l (Mremap p a old new mode)) ≡ None → MovesTo (pages w p) (page_of a) (pages_of old) (pages_of new) mode to
    → IfSome to (λ to. IsBelowTop (process_after_mremap (page_of a) (pages_of old) to (pages_of new) (leaves_old mode) (pages w p)))
pages-below m w l p a old new mode memories None is none goes = tt
pages-below m w l p a old new mode memories (Some to) is none goes =
    below-top (pages w p) (page_of a) (pages_of old) to (pages_of new) (leaves_old mode) (λ page high. world-top memories w p page is high)
    (at-top (pages w p) a (pages_of old) (pages_of new) mode to (target-fits m w l p a old new mode none) goes)

-- ---- units

mremap-only : (m : Setting) (w : World) (l : Ledger) (p a old new : ℕ) (mode : Mode) (to : Option ℕ)
    → refusal (tests m w l (Mremap p a old new mode)) ≡ None → MovesTo (pages w p) (page_of a) (pages_of old) (pages_of new) mode to
    → AnswersOnly m w l (Mremap p a old new mode) (reply_of (map_answer to) (events_to l p (page_of a) (pages_of old) to (pages_of new)))
    (events_to l p (page_of a) (pages_of old) to (pages_of new))
mremap-only m w l p a old new mode to none goes = record {
  no_test = none;
  only = λ es answer rows h.
      let one = moves-one (pages w p) (page_of a) (pages_of old) (pages_of new) mode h.0 to h.1 goes in (
        map-is h.0 answer h.2 ∙ ap map_answer one,
        h.3 ∙ ap (λ to. events_to l p (page_of a) (pages_of old) to (pages_of new)) one,
        h.4,
      );
  does = (to, goes, is-map to, refl, refl);
  notes = refl;
}

mremap-form : (to : Option ℕ) (events : List Event) → IfSome to (λ page. page < 2 ^ 52) → AllByRecursion IsNote (notes_of events)
    → IsReply (reply_of (map_answer to) events)
mremap-form None events low fit = record { answer = tt; rest = (fit, refl) }
mremap-form (Some page) events low fit = record { answer = wide page low; rest = (fit, refl) }
  where
    wide : (page : ℕ) → page < 2 ^ 52 → address_of page < 2 ^ 64
    wide page h = omega (arith, h)

pub mremap-said : (m : Setting) (w : World) (l l' : Ledger) (p a old new : ℕ) (mode : Mode) (to : Option ℕ) (unit : List ℕ)
    (legal : Bool) (memories : Memories) → is_some m.headers ≡ true → IfSome to (λ page. page < 2 ^ 52)
    → refusal (tests m w l (Mremap p a old new mode)) ≡ None → MovesTo (pages w p) (page_of a) (pages_of old) (pages_of new) mode to
    → SaysEvents l (map_answer to) (events_to l p (page_of a) (pages_of old) to (pages_of new)) unit legal l'
    → (legal ≡ true → IsWorld memories (next w (Mremap p a old new mode) (map_answer to)))
    → IsLeftAt m w l (Mremap p a old new mode) unit legal l' memories
mremap-said m w l l' p a old new mode to unit legal memories told low none goes says at =
    known-said m w l (Mremap p a old new mode) (map_answer to) (events_to l p (page_of a) (pages_of old) to (pages_of new)) unit legal l' memories told
    (mremap-only m w l p a old new mode to none goes)
    (mremap-form to (events_to l p (page_of a) (pages_of old) to (pages_of new)) low says.form) says at

-- ---- memories

-- where the pages are those after it, these are the next memories
pub remap-next : (memories : Memories) (w : World) (p a old new : ℕ) (mode : Mode) (o : Option ℕ) (to n m : ℕ) (stays : Bool) → o ≡ Some to
    → n ≡ pages_of old → m ≡ pages_of new → stays ≡ leaves_old mode
    → (IsBelowTop (process_after_mremap (page_of a) n to m stays (pages w p))
    → IsWorld memories (set_process w p (process_after_mremap (page_of a) n to m stays (pages w p))))
    → IfSome o (λ to. IsBelowTop (process_after_mremap (page_of a) (pages_of old) to (pages_of new) (leaves_old mode) (pages w p)))
    → IsWorld memories (next w (Mremap p a old new mode) (map_answer o))
remap-next memories w p a old new mode o to n m stays is hn hm hs h = subst
    (λ o. IfSome o (λ to. IsBelowTop (process_after_mremap (page_of a) (pages_of old) to (pages_of new) (leaves_old mode) (pages w p)))
    → IsWorld memories (next w (Mremap p a old new mode) (map_answer o))) (sym is)
    (λ below. subst (λ to. IsWorld memories (set_process w p (process_after_mremap (page_of a) (pages_of old) to (pages_of new) (leaves_old mode) (pages w p))))
    (sym (page-again to))
    (subst (IsWorld memories) (λ i. set_process w p (process_after_mremap (page_of a) (hn i) to (hm i) (hs i) (pages w p)))
    (h (subst IsBelowTop (λ i. process_after_mremap (page_of a) (sym hn i) to (sym hm i) (sym hs i) (pages w p)) below))))
