-- Units of `swapon`, which changes no memories.
use Rattle.std.proofs.Common.{◌≡◌, ◌⊎◌, inl, inr, ℕ, true, false, List, [], Some, None, Option, refl, sym, ap, subst, ◌∙◌}
use Rattle.std.specs.Prelude.{MatchOption, is_some}
use Rattle.av_trace.specs.declared.command.Command.TheVariants.{Swapon}
use Rattle.av_trace.specs.declared.reply.Answer.{Answer}
use Rattle.av_trace.specs.declared.reply.Answer.TheVariants.{Refused}
use Rattle.av_trace.specs.declared.reply.Errno.TheVariants.{Eio}
use Rattle.av_trace.specs.declared.reply.Reply.{Reply}
use Rattle.av_trace.specs.Print.{text_of}
use Rattle.av_trace.specs.Reply.{Follow, IsAnswer, answer_only}
use Rattle.av_plain.specs.Event.{Event, after_all, notes_of}
use Rattle.av_plain.specs.Ledger.{Ledger, Setting}
use Rattle.av_plain.specs.Refusal.{Refuses, refusal, tests}
use Rattle.av_plain.specs.Step.{Follows}
use Rattle.av_plain.specs.Swapon.{IsByHeader, TurnsOn, header_answer, turn_on_events}
use Rattle.av_plain.specs.World.{World}
use Rattle.av_swapdev.specs.Header.{Layout}
use Rattle.av_audit_book.specs.Book.{ledger_of}
use Rattle.av_audit_book.specs.declared.book.Book.{Book}
use Rattle.av_audit_judge.specs.Says.{SaysOnly}
use Rattle.av_audit_world.specs.Memories.{IsWorld}
use Rattle.av_audit_world.specs.declared.memories.Memories.{Memories}
use Rattle.av_audit.specs.Judge.{IsLeft}
use Rattle.av_audit.proofs.JudgeLaws.{loads-told}

-- ---- swapon

silent : (k : ℕ) (priority : Option ℕ) (o : Option Layout) → notes_of (turn_on_events k priority (header_answer o)) ≡ []
silent k priority None = refl
silent k priority (Some h) = refl

alone : (o : Option Layout) → Follow (header_answer o) [] []
alone None = (tt, refl)
alone (Some h) = (tt, refl)

module _ (m : Setting) (headers : ℕ → Option Layout) (are : m.headers ≡ Some headers) (w : World) (k : ℕ) (priority : Option ℕ)
    (l : Ledger) (none : refusal (tests m w l (Swapon k priority)) ≡ None) where
  told : is_some m.headers ≡ true
  told = ap is_some are

  followed : (events : List Event) (answer : Answer) → TurnsOn m k priority events answer []
      → MatchOption (refusal (tests m w l (Swapon k priority))) (Follows m w l (Swapon k priority) events answer [])
      (λ error. Refuses error events answer [])
  followed events answer h = subst (λ o. MatchOption o (TurnsOn m k priority events answer [])
      (λ error. Refuses error events answer [])) (sym none) h

  -- page 0 can't be read
  pub unread-left : (unit : List ℕ) (memories : Memories) (book : Book) → ledger_of book ≡ l → SaysOnly true unit (Refused Eio)
      → IsWorld memories w → IsLeft m w l (Swapon k priority) unit true memories book
  unread-left unit memories book same says at = (
    w,
    (
      answer_only (Refused Eio),
      [],
      record {
        form = record { answer = tt; rest = (tt, refl) };
        text = says;
        legal = record { answer = followed [] (Refused Eio) (inl refl, refl, refl); notes = refl };
      },
      sym (loads-told m w l [] told),
      same,
    ),
    at,
  )

  -- its header is answered
  pub read-left : (unit : List ℕ) (memories : Memories) (new : Book) (answer : Answer) → answer ≡ header_answer (headers k)
      → IsAnswer answer → SaysOnly true unit answer → ledger_of new ≡ after_all l (turn_on_events k priority answer)
      → IsWorld memories w → IsLeft m w l (Swapon k priority) unit true memories new
  read-left unit memories new answer is fits says after at = (
    w,
    (
      answer_only answer,
      turn_on_events k priority answer,
      record {
        form = record { answer = fits; rest = subst (λ a. Follow a [] []) (sym is) (alone (headers k)) };
        text = says;
        legal = record {
          answer = followed (turn_on_events k priority answer) answer
              (inr (subst (λ o. IsByHeader o k answer) (sym are) is), refl, refl);
          notes = sym (ap (λ a. notes_of (turn_on_events k priority a)) is ∙ silent k priority (headers k));
        };
      },
      sym (loads-told m w l (turn_on_events k priority answer) told),
      after,
    ),
    at,
  )

  -- neither
  pub not-on : (unit : List ℕ) (memories : Memories) (new : Book) (answer : Answer) → answer ≡ header_answer (headers k)
      → SaysOnly false unit (Refused Eio) → SaysOnly false unit answer → IsLeft m w l (Swapon k priority) unit false memories new
  not-on unit memories new answer is eio other u =
      let reply = u.0 in
      let h : TurnsOn m k priority u.1 reply.answer reply.rows =
      subst (λ o. MatchOption o (TurnsOn m k priority u.1 reply.answer reply.rows)
      (λ error. Refuses error u.1 reply.answer reply.rows)) none u.2.legal.answer in
      by reply u.1 h.0 h.1 h.2 u.2.legal.notes u.2.text
    where
      same : (reply : Reply) (answer : Answer) → reply.answer ≡ answer → reply.notes ≡ [] → reply.rows ≡ [] → reply ≡ answer_only answer
      same reply answer a n r = λ i. record { answer = a i; notes = n i; rows = r i }

      by : (reply : Reply) (events : List Event) → (reply.answer ≡ Refused Eio) ⊎ IsByHeader m.headers k reply.answer
          → events ≡ turn_on_events k priority reply.answer → reply.rows ≡ [] → reply.notes ≡ notes_of events → unit ≡ text_of reply → ⊥
      by reply events (inl e) es rows notes text =
          eio (text ∙ ap text_of (same reply (Refused Eio) e
          (notes ∙ ap notes_of es ∙ ap (λ a. notes_of (turn_on_events k priority a)) e) rows))
      by reply events (inr e) es rows notes text =
          let header : reply.answer ≡ header_answer (headers k) = subst (λ o. IsByHeader o k reply.answer) are e in
          other (text ∙ ap text_of (same reply answer (header ∙ sym is)
          (notes ∙ ap notes_of es ∙ ap (λ a. notes_of (turn_on_events k priority a)) header ∙ silent k priority (headers k)) rows))
