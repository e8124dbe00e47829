-- Units of swapoff: a first line that its notes tell.
use Rattle.std.proofs.Common.{◌≡◌, ℕ, Bool, true, false, not, List, [], ◌∷◌, ◌++◌, Some, None, refl, sym, ap, subst, ◌∙◌, append-nil}
use Rattle.std.specs.Prelude.{is_some}
use Rattle.std.specs.List.{AllByRecursion}
use Rattle.av_trace.specs.declared.command.Command.TheVariants.{Swapoff}
use Rattle.av_trace.specs.declared.note.Note.{Note}
use Rattle.av_trace.specs.declared.reply.Answer.{Answer}
use Rattle.av_trace.specs.declared.reply.Answer.TheVariants.{Refused}
use Rattle.av_trace.specs.declared.reply.Errno.TheVariants.{Einval}
use Rattle.av_trace.specs.Note.{IsNote}
use Rattle.av_trace.specs.Print.{notes_text}
use Rattle.av_trace.specs.Reply.{IsAnswer}
use Rattle.av_plain.specs.Event.{Event, after_all, note_events, notes_of}
use Rattle.av_plain.specs.Ledger.{Ledger, Setting, is_on}
use Rattle.av_plain.specs.Refusal.{refusal}
use Rattle.av_plain.specs.Swapoff.{Close, Closed, NoRoom, TurnsOff, Unread, close_answer, turn_off_events}
use Rattle.av_plain.specs.World.{World}
use Rattle.av_plain.proofs.Access.{after_all-append, note_events-all, notes_of-append, notes_of-note_events}
use Rattle.av_audit_book.specs.Book.{ledger_of}
use Rattle.av_audit_book.specs.declared.book.Book.{Book}
use Rattle.av_audit_judge.specs.Notes.{lacks}
use Rattle.av_audit_judge.specs.Says.{SaysOnly}
use Rattle.av_audit_world.specs.Memories.{IsWorld}
use Rattle.av_audit_world.specs.declared.memories.Memories.{Memories}
use Rattle.av_audit_access.specs.Access.{AreTold}
use Rattle.av_audit_swapoff.specs.Close.{Closes, IsWhole}
use Rattle.av_audit_swapoff.proofs.CloseLaws.{closes-one}
use Rattle.av_audit.specs.Access.{IsFirstLine}
use Rattle.av_audit.specs.Judge.{IsLeft}
use Rattle.av_audit.proofs.EndLaws.{HasNotes, IsEnding, IsTelling, follows-by, legal-by, no-unit, tells-by, tells-left, tells-no-end, tells-no-line}
use Rattle.av_audit.proofs.JudgeLaws.{refused-left}

-- the events of a swapoff that ends so
abbrev Offs : Setting → World → Ledger → ℕ → Close → List Event → Type 0
Offs m w l k close es = (notes : List Note) × Closes m w k l close notes × (es ≡ note_events notes ++ turn_off_events k close)

abbrev OffTo : Close → Answer → Type 0
OffTo close answer = answer ≡ close_answer close

-- its notes
off-notes : (k : ℕ) (notes : List Note) (close : Close) → notes_of (note_events notes ++ turn_off_events k close) ≡ notes
off-notes k notes close = notes_of-append (note_events notes) (turn_off_events k close)
    ∙ (λ i. notes_of-note_events notes i ++ silent close i) ∙ append-nil notes
  where
    silent : (close : Close) → notes_of (turn_off_events k close) ≡ []
    silent Closed = refl
    silent (NoRoom out) = refl
    silent Unread = refl

follow-notes : (close : Close) → HasNotes (close_answer close)
follow-notes Closed notes rows = (λ h. h, λ h. h)
follow-notes (NoRoom out) notes rows = (λ h. h, λ h. h)
follow-notes Unread notes rows = (λ h. h, λ h. h)

off-telling : (m : Setting) (w : World) (l : Ledger) (k : ℕ) → IsTelling (Offs m w l k) OffTo
off-telling m w l k = record {
  one = λ end end' es fs x y h g p q e.
      let same = sym (off-notes k h.0 end) ∙ ap notes_of (sym h.2) ∙ e ∙ ap notes_of g.2 ∙ off-notes k g.0 end' in
      p ∙ ap close_answer (closes-one m w k l h.0 g.0 end end' same h.1 g.1) ∙ sym q;
  notes = λ end answer g. subst HasNotes (sym g) (follow-notes end);
}

on-not-refused : (l : Ledger) (k : ℕ) → is_on l k ≡ true → refusal ((not (is_on l k), Einval) ∷ []) ≡ None
on-not-refused l k h = ap (λ b. refusal ((not b, Einval) ∷ [])) h

off-refused : (l : Ledger) (k : ℕ) → is_on l k ≡ false → refusal ((not (is_on l k), Einval) ∷ []) ≡ Some Einval
off-refused l k h = ap (λ b. refusal ((not b, Einval) ∷ [])) h

off-ending : (m : Setting) (w : World) (l : Ledger) (k : ℕ) → is_on l k ≡ true → IsEnding m w l (Swapoff k) (Offs m w l k) OffTo
off-ending m w l k on = record {
  into = λ end es answer h g. legal-by m w l (Swapoff k) answer es (on-not-refused l k on) (record {
    done = h.1.0;
    pages = h.1.3.0;
    notes = h.1.1;
    end = end;
    completes = h.1.2;
    empties = h.1.3.1;
    whole = h.2 ∙ ap (λ ns. note_events ns ++ turn_off_events k end) h.1.4;
    answered = g;
    no_rows = refl;
  });
  out = λ reply es h.
      let t : TurnsOff m w l k es reply.answer reply.rows = follows-by m w l (Swapoff k) reply es (on-not-refused l k on) h in
      (t.end, (t.done ++ t.notes, (t.done, t.notes, t.completes, (t.pages, t.empties), refl), t.whole), t.answered, t.no_rows);
}

module _ (m : Setting) (w : World) (k : ℕ) (unit : List ℕ) (told : is_some m.headers ≡ true) where
  pub swapoff-refused : (legal : Bool) (memories : Memories) (book : Book) → is_on (ledger_of book) k ≡ false
      → SaysOnly legal unit (Refused Einval) → IsWorld memories w → IsLeft m w (ledger_of book) (Swapoff k) unit legal memories book
  swapoff-refused legal memories book off says at =
      refused-left m w book (Swapoff k) unit Einval legal memories told (off-refused (ledger_of book) k off) says at

  pub swapoff-no-line : (l : Ledger) (memories : Memories) (book : Book) → is_on l k ≡ true → lacks 10 unit ≡ true
      → IsLeft m w l (Swapoff k) unit false memories book
  swapoff-no-line l memories book on none =
      no-unit m w l l (Swapoff k) (Offs m w l k) OffTo unit (off-ending m w l k on) (tells-no-line (Offs m w l k) OffTo l l unit none)

  pub swapoff-no-end : (l l' : Ledger) (memories : Memories) (book : Book) (first rest : List ℕ) → is_on l k ≡ true → IsFirstLine unit first rest
      → IsWhole (Closes m w k l) l rest None l' → IsLeft m w l (Swapoff k) unit false memories book
  swapoff-no-end l l' memories book first rest on is none =
      no-unit m w l l' (Swapoff k) (Offs m w l k) OffTo unit (off-ending m w l k on)
      (tells-no-end (Offs m w l k) OffTo (off-telling m w l k) l l' unit first rest is
      (λ end es h form text.
      let notes = ap notes_of h.2 ∙ off-notes k h.0 end in
      none end h.0 h.1 (record {
        form = subst (AllByRecursion IsNote) notes form;
        text = text ∙ ap notes_text notes ∙ sym (append-nil (notes_text h.0));
      })))

  pub swapoff-left : (l l1 : Ledger) (memories : Memories) (book : Book) (first rest : List ℕ) (close : Close) (answer : Answer) (legal : Bool)
      → is_on l k ≡ true → IsWorld memories w → IsFirstLine unit first rest → IsWhole (Closes m w k l) l rest (Some close) l1
      → ledger_of book ≡ after_all l1 (turn_off_events k close) → answer ≡ close_answer close → IsAnswer answer → SaysOnly legal first answer
      → IsLeft m w l (Swapoff k) unit legal memories book
  swapoff-left l l1 memories book first rest close answer legal on at is h after answers fits says =
      tells-left m w l (Swapoff k) (Offs m w l k) OffTo unit memories book legal told (off-ending m w l k on)
      (tells-by (Offs m w l k) OffTo (off-telling m w l k) l (ledger_of book) unit first rest is legal close answer t answers fits says)
      (λ t so. at)
    where
      t : AreTold (Offs m w l k close) l rest (ledger_of book)
      t = record {
        events = note_events h.notes ++ turn_off_events k close;
        lawful = (h.notes, h.lawful, refl);
        form = subst (AllByRecursion IsNote) (sym (off-notes k h.notes close)) h.stand.form;
        text = h.stand.text ∙ append-nil (notes_text h.notes) ∙ ap notes_text (sym (off-notes k h.notes close));
        after = after ∙ ap (λ n. after_all n (turn_off_events k close)) (h.after ∙ sym (note_events-all l h.notes))
            ∙ sym (after_all-append l (note_events h.notes) (turn_off_events k close));
      }
