-- Units of commands that have one reply.
use Rattle.std.proofs.Common.{◌≡◌, ℕ, Bool, true, false, cond, List, [], Some, None, refl, sym, ap, subst, ◌∙◌}
use Rattle.std.specs.Prelude.{◌+◌, ◌∷◌, ◌||◌, ◌==◌, MatchOption, is_some, nat_lt, not}
use Rattle.av_trace.specs.declared.command.Command.{Command}
use Rattle.av_trace.specs.declared.command.Command.TheVariants.{Munmap, Spawn}
use Rattle.av_trace.specs.declared.reply.Errno.{Errno}
use Rattle.av_trace.specs.declared.reply.Errno.TheVariants.{Einval, Esrch}
use Rattle.av_base.specs.Page.{is_on_page}
use Rattle.av_trace.specs.declared.reply.Answer.{Answer}
use Rattle.av_trace.specs.declared.reply.Answer.TheVariants.{Done, Refused}
use Rattle.av_trace.specs.declared.reply.Reply.{Reply}
use Rattle.av_trace.specs.declared.row.Row.{Row}
use Rattle.av_trace.specs.Print.{text_of}
use Rattle.av_trace.specs.Reply.{IsReply, answer_only}
use Rattle.av_plain.specs.Event.{Event, notes_of}
use Rattle.av_plain.specs.Ledger.{Ledger, Setting}
use Rattle.av_plain.specs.Load.{after_loads, with_loads}
use Rattle.av_plain.specs.Refusal.{Refuses, refusal, tests, top}
use Rattle.av_plain.specs.Step.{Follows, IsLegal, next, next_world}
use Rattle.av_plain.specs.World.{World, lives, no_pages, set_process}
use Rattle.av_plain.specs.Sound.{AllSound}
use Rattle.av_plain.proofs.Refusal.{refused-next}
use Rattle.av_plain.proofs.Sound.{soundness-stays}
use Rattle.av_audit_laws.specs.Unit.{Leaves}
use Rattle.av_audit_book.specs.Book.{ledger_of}
use Rattle.av_audit_book.specs.Machine.{setting_of}
use Rattle.av_audit_book.specs.declared.book.Book.{Book}
use Rattle.av_audit_judge.specs.Says.{SaysOnly}
use Rattle.av_audit_judge.specs.Verdict.{IsVerdict}
use Rattle.av_audit_world.specs.Memories.{IsWorld}
use Rattle.av_audit_world.specs.declared.memories.Memories.{Memories}
use Rattle.av_audit.specs.Judge.{IsLeft, IsLeftAt, IsRight, LeavesLedger, verdict_of}
use Rattle.av_audit.specs.declared.auditor.Verdict.{Verdict}
use Rattle.av_audit.specs.declared.auditor.Auditor.{Auditor}

-- where devices tell their pages nothing is forgotten
pub loads-told : (m : Setting) (w : World) (l : Ledger) (es : List Event) → is_some m.headers ≡ true → with_loads m w l es ≡ w
loads-told m w l es told = ap (λ b. cond b w (after_loads w l es)) told

-- a command has this answer alone, and nothing happens
pub record IsPlain (m : Setting) (w : World) (l : Ledger) (command : Command) (answer : Answer) : Type 0 where
  pub legal : IsLegal m w l command (answer_only answer) []
  pub only : (reply : Reply) (events : List Event) → IsLegal m w l command reply events
      → reply ≡ answer_only answer

-- where these are the next memories, this is what is said
pub plain-leaves : (m : Setting) (w : World) (l : Ledger) (command : Command) (unit : List ℕ) (answer : Answer)
    (legal : Bool) (new : Memories) → IsPlain m w l command answer → SaysOnly legal unit answer
    → IsReply (answer_only answer)
    → (legal ≡ true → IsWorld new (next_world m w l [] command answer))
    → LeavesLedger m w l command unit legal new
plain-leaves m w l command unit answer true new h says form at = (
  next_world m w l [] command answer,
  (answer_only answer, [], record { form = form; text = says; legal = h.legal }, refl, refl),
  at refl,
)
plain-leaves m w l command unit answer false new h says form at = λ u.
    says (u.2.text ∙ ap text_of (h.only u.0 u.1 u.2.legal))

same-reply : (reply : Reply) (answer : Answer) → reply.answer ≡ answer → reply.notes ≡ [] → reply.rows ≡ []
    → reply ≡ answer_only answer
same-reply reply answer a n r = λ i. record { answer = a i; notes = n i; rows = r i }

-- ---- a refusal

refused-plain : (m : Setting) (w : World) (l : Ledger) (command : Command) (error : Errno)
    → refusal (tests m w l command) ≡ Some error → IsPlain m w l command (Refused error)
refused-plain m w l command error is = record {
  legal = record {
    answer = subst (λ o. MatchOption o (Follows m w l command [] (Refused error) [])
        (λ e. Refuses e [] (Refused error) [])) (sym is) (refl, refl, refl);
    notes = refl;
  };
  only = λ reply events h. only reply events h.notes
      (subst (λ o. MatchOption o (Follows m w l command events reply.answer reply.rows)
      (λ e. Refuses e events reply.answer reply.rows)) is h.answer);
}
  where
    only : (reply : Reply) (events : List Event) → reply.notes ≡ notes_of events
        → Refuses error events reply.answer reply.rows → reply ≡ answer_only (Refused error)
    only reply events notes h = same-reply reply (Refused error) h.0 (notes ∙ ap notes_of h.1) h.2

pub refused-leaves : (m : Setting) (w : World) (l : Ledger) (command : Command) (unit : List ℕ) (error : Errno) (legal : Bool)
    (memories : Memories) → is_some m.headers ≡ true → refusal (tests m w l command) ≡ Some error
    → SaysOnly legal unit (Refused error) → IsWorld memories w → LeavesLedger m w l command unit legal memories
refused-leaves m w l command unit error legal memories told is says at =
    let stays : next_world m w l [] command (Refused error) ≡ w =
    ap (λ v. next v command (Refused error)) (loads-told m w l [] told) ∙ refused-next m w w l command error is in
    plain-leaves m w l command unit (Refused error) legal memories (refused-plain m w l command error is) says
    (record { answer = tt; rest = (tt, refl) }) (λ _. subst (IsWorld memories) (sym stays) at)

-- ---- a command that isn't refused, and has one answer without events

followed-plain : (m : Setting) (w : World) (l : Ledger) (command : Command) (answer : Answer)
    → refusal (tests m w l command) ≡ None → Follows m w l command [] answer []
    → ((events : List Event) (other : Answer) (rows : List Row) → Follows m w l command events other rows
    → (other ≡ answer) × (events ≡ []) × (rows ≡ []))
    → IsPlain m w l command answer
followed-plain m w l command answer is does one = record {
  legal = record {
    answer = subst (λ o. MatchOption o (Follows m w l command [] answer [])
        (λ e. Refuses e [] answer [])) (sym is) does;
    notes = refl;
  };
  only = λ reply events h. only reply events h.notes
      (subst (λ o. MatchOption o (Follows m w l command events reply.answer reply.rows)
      (λ e. Refuses e events reply.answer reply.rows)) is h.answer);
}
  where
    only : (reply : Reply) (events : List Event) → reply.notes ≡ notes_of events
        → Follows m w l command events reply.answer reply.rows → reply ≡ answer_only answer
    only reply events notes h =
        let same = one events reply.answer reply.rows h in
        same-reply reply answer same.0 (notes ∙ ap notes_of same.1) same.2

pub spawn-leaves : (m : Setting) (w : World) (l : Ledger) (p : ℕ) (unit : List ℕ) (legal : Bool) (new : Memories)
    → is_some m.headers ≡ true → refusal (tests m w l (Spawn p)) ≡ None → SaysOnly legal unit Done
    → (legal ≡ true → IsWorld new (set_process w p no_pages)) → LeavesLedger m w l (Spawn p) unit legal new
spawn-leaves m w l p unit legal new told is says now =
    plain-leaves m w l (Spawn p) unit Done legal new
    (followed-plain m w l (Spawn p) Done is (refl, refl, refl) (λ events other rows h. h)) says
    (record { answer = tt; rest = (tt, refl) })
    (λ yes. subst (λ v. IsWorld new (set_process v p no_pages)) (sym (loads-told m w l [] told)) (now yes))

-- ---- what the auditor says

-- memories and ledger that a legal unit leaves are sound
leaves-sound : (m : Setting) (w : World) (l : Ledger) (command : Command) (unit : List ℕ) (w' : World) (l' : Ledger)
    → AllSound m w l → Leaves m w l command unit w' l' → AllSound m w' l'
leaves-sound m w l command unit w' l' sound h =
    subst (λ w'. AllSound m w' l') (sym h.3)
    (subst (AllSound m (next_world m w l h.1 command h.0.answer)) (sym h.4)
    (soundness-stays m w l command h.0 h.1 sound h.2.legal))

pub left-right : (m : Setting) (w : World) (l : Ledger) (command : Command) (unit : List ℕ) (legal : Bool) (new : Auditor)
    → m ≡ setting_of new.machine → AllSound m w l → IsLeft m w l command unit legal new.memories new.book
    → IsRight m w l command unit (verdict_of legal) new
left-right m w l command unit true new same sound h = (
  h.0,
  ledger_of new.book,
  h.1,
  record {
    world = h.2;
    ledger = refl;
    sound = subst (λ m. AllSound m h.0 (ledger_of new.book)) same
        (leaves-sound m w l command unit h.0 (ledger_of new.book) sound h.1);
  },
)
left-right m w l command unit false new same sound h = h

-- what is said of one command is said of the same
pub right-is : (m : Setting) (w : World) (l : Ledger) (command other : Command) (unit : List ℕ) (verdict answer : Verdict) (new : Auditor)
    → other ≡ command → answer ≡ verdict → IsRight m w l command unit verdict new → IsRight m w l other unit answer new
right-is m w l command other unit verdict answer new c v h =
    subst (λ c. IsRight m w l c unit answer new) (sym c) (subst (λ v. IsRight m w l command unit v new) (sym v) h)

-- a refusal leaves all
pub refused-left : (m : Setting) (w : World) (book : Book) (command : Command) (unit : List ℕ) (error : Errno) (legal : Bool)
    (memories : Memories) → is_some m.headers ≡ true → refusal (tests m w (ledger_of book) command) ≡ Some error
    → SaysOnly legal unit (Refused error) → IsWorld memories w → IsLeft m w (ledger_of book) command unit legal memories book
refused-left m w book command unit error legal memories told is says at =
    refused-leaves m w (ledger_of book) command unit error legal memories told is says at

-- a command that answers ok alone
pub done-left : (m : Setting) (w next' : World) (l : Ledger) (command : Command) (unit : List ℕ) (memories : Memories) (book : Book)
    → is_some m.headers ≡ true → refusal (tests m w l command) ≡ None
    → ((es : List Event) (answer : Answer) (rows : List Row) → Follows m w l command es answer rows → answer ≡ Done)
    → next w command Done ≡ next' → IsVerdict m w l command unit true (ledger_of book) → IsWorld memories next'
    → IsLeft m w l command unit true memories book
done-left m w next' l command unit memories book told none done after h at =
    let follows = subst (λ o. MatchOption o (Follows m w l command h.events h.reply.answer h.reply.rows)
    (λ error. Refuses error h.events h.reply.answer h.reply.rows)) none h.legal.answer in
    let answer = done h.events h.reply.answer h.reply.rows follows in
    let same : next_world m w l h.events command h.reply.answer ≡ next' =
    (λ i. next (loads-told m w l h.events told i) command (answer i)) ∙ after in (
      next_world m w l h.events command h.reply.answer,
      (h.reply, h.events, record { form = h.form; text = h.text; legal = h.legal }, refl, h.after),
      subst (IsWorld memories) (sym same) at,
    )

pub not-left : (m : Setting) (w : World) (l l' : Ledger) (command : Command) (unit : List ℕ) (memories : Memories) (book : Book)
    → IsVerdict m w l command unit false l' → IsLeft m w l command unit false memories book
not-left m w l l' command unit memories book h = λ u. h u.0 u.1 u.2.form u.2.text u.2.legal

-- a command that changes no memories
pub book-left : (m : Setting) (w : World) (l : Ledger) (command : Command) (unit : List ℕ) (legal : Bool) (memories : Memories)
    (book : Book) → is_some m.headers ≡ true → ((v : World) (answer : Answer) → next v command answer ≡ v)
    → IsVerdict m w l command unit legal (ledger_of book) → IsWorld memories w → IsLeft m w l command unit legal memories book
book-left m w l command unit true memories book told stays h at = (
  w,
  (
    h.reply,
    h.events,
    record { form = h.form; text = h.text; legal = h.legal },
    sym (stays (with_loads m w l h.events) h.reply.answer ∙ loads-told m w l h.events told),
    h.after,
  ),
  at,
)
book-left m w l command unit false memories book told stays h at = λ u. h u.0 u.1 u.2.form u.2.text u.2.legal

-- what isn't refused is asked of a process that lives
pub alive : (m : Setting) (w : World) (l : Ledger) (p a len : ℕ) → refusal (tests m w l (Munmap p a len)) ≡ None → lives w p ≡ true
alive m w l p a len h = by (lives w p) h
  where
    by : (b : Bool) → refusal ((not b, Esrch) ∷ (not (is_on_page a) || len == 0 || nat_lt top (a + len), Einval) ∷ []) ≡ None → b ≡ true
    by true e = refl
    by false e = cc

-- what is left by one command is left by the same
pub left-is : {command other : Command} (m : Setting) (w : World) (l l' : Ledger) (unit : List ℕ) (legal : Bool) (memories : Memories)
    → other ≡ command → IsLeftAt m w l command unit legal l' memories → IsLeftAt m w l other unit legal l' memories
left-is {command} {other} m w l l' unit legal memories same h =
    subst (λ c. IsLeftAt m w l c unit legal l' memories) (sym same) h
