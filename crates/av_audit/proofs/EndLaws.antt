-- Units of a first line and notes, of a command that is answered by where its accesses end.
use Rattle.std.proofs.Common.{◌≡◌, ℕ, Bool, true, false, not, List, [], ◌∷◌, ◌++◌, length, Some, None, is_some, take, refl, sym, ap, subst}
use Rattle.std.proofs.Common.{◌∙◌, append-nil, append_assoc}
use Rattle.std.specs.Prelude.{MatchOption, codes}
use Rattle.std.specs.List.{AllByRecursion}
use Rattle.av_trace.specs.declared.command.Command.{Command}
use Rattle.av_trace.specs.declared.command.Command.TheVariants.{Read, Write}
use Rattle.av_trace.specs.declared.note.Note.{Note}
use Rattle.av_trace.specs.declared.reply.Answer.{Answer}
use Rattle.av_trace.specs.declared.reply.Answer.TheVariants.{Done}
use Rattle.av_trace.specs.declared.reply.Errno.TheVariants.{Esrch}
use Rattle.av_trace.specs.declared.reply.Reply.{Reply}
use Rattle.av_trace.specs.declared.row.Row.{Row}
use Rattle.av_trace.specs.Note.{IsNote}
use Rattle.av_trace.specs.Print.{notes_text, rows_text, text_of, whole_line}
use Rattle.av_trace.specs.Reply.{Follow, IsAnswer, IsReply, answer_line, answer_only}
use Rattle.av_trace.proofs.PlainWords.{no_newline}
use Rattle.av_trace.proofs.PrintLaws.{same_reply}
use Rattle.av_trace.proofs.ReplyLaws.{answer_line-is}
use Rattle.av_trace.proofs.Split.{first_line}
use Rattle.av_plain.specs.Access.{Accesses, End, Reads, Stopped, Whole, bytes_served, first_bytes, pages_of_access, read_answer, write_answer}
use Rattle.av_plain.specs.Event.{Event, notes_of}
use Rattle.av_plain.specs.Fault.{Denied, Lost, Starved}
use Rattle.av_plain.specs.Ledger.{Ledger, Setting}
use Rattle.av_plain.specs.Refusal.{Refuses, no_process, refusal, tests}
use Rattle.av_plain.specs.Step.{Follows, IsLegal, next, next_world}
use Rattle.av_plain.specs.World.{World, lives, pages}
use Rattle.av_command_laws.specs.Claimed.{IsClaimed}
use Rattle.av_command_laws.proofs.OneReads.{one-read}
use Rattle.av_audit_laws.specs.Unit.{IsUnit}
use Rattle.av_audit_laws.proofs.ToldReply.{accesses-told}
use Rattle.av_audit_book.specs.Book.{ledger_of}
use Rattle.av_audit_book.specs.declared.book.Book.{Book}
use Rattle.av_audit_judge.specs.Notes.{lacks}
use Rattle.av_audit_judge.specs.Says.{SaysOnly}
use Rattle.av_audit_judge.proofs.NoteLaws.{lacks-not, lacks-same}
use Rattle.av_audit_world.specs.Memories.{IsWorld}
use Rattle.av_audit_world.specs.declared.memories.Memories.{Memories}
use Rattle.av_audit_access.specs.Access.{AreTold}
use Rattle.av_audit.specs.Access.{IsFirstLine, IsTold, Tells}
use Rattle.av_audit.specs.Known.{reply_of}
use Rattle.av_audit.specs.Judge.{IsLeft}
use Rattle.av_audit.proofs.JudgeLaws.{loads-told}

-- ---- texts

-- what follows the answer is notes
abbrev pub HasNotes : Answer → Type 0
HasNotes answer = (notes : List Note) (rows : List Row)
    → (Follow answer notes rows → AllByRecursion IsNote notes × (rows ≡ []))
    × (AllByRecursion IsNote notes × (rows ≡ []) → Follow answer notes rows)

-- notes are told by their text
notes-one : (a b : List Note) → AllByRecursion IsNote a → AllByRecursion IsNote b → notes_text a ≡ notes_text b → a ≡ b
notes-one a b h g e = ap (λ (r : Reply). r.notes) (same_reply (reply_of a) (reply_of b) (fits a h) (fits b g)
    (ap (λ t. (whole_line (codes "ok") ++ t) ++ []) e))
  where
    reply_of : List Note → Reply
    reply_of notes = record { answer = Done; notes = notes; rows = [] }

    fits : (notes : List Note) → AllByRecursion IsNote notes → IsReply (reply_of notes)
    fits notes h = record { answer = tt; rest = (h, refl) }

-- a text is a first line and notes
unit-parts : (unit first rest : List ℕ) (reply : Reply) → IsFirstLine unit first rest → unit ≡ text_of reply → IsAnswer reply.answer
    → reply.rows ≡ [] → (first ≡ whole_line (answer_line reply.answer)) × (rest ≡ notes_text reply.notes)
unit-parts unit first rest reply h text fits none =
    let line = answer_line reply.answer in
    let whole : whole_line h.0 ++ rest ≡ whole_line line ++ notes_text reply.notes =
    append_assoc h.0 (10 ∷ []) rest ∙ sym h.1.whole ∙ text
    ∙ ap (λ rows. (whole_line line ++ notes_text reply.notes) ++ rows_text rows) none
    ∙ append-nil (whole_line line ++ notes_text reply.notes) in
    let parts = first_line h.0 line rest (notes_text reply.notes) (lacks-same 10 h.0 ∙ h.1.alone)
    (no_newline (answer_line-is reply.answer fits)) whole in
    (h.2 ∙ ap whole_line parts.0, parts.1)

-- an answer alone is its line
pub only-line : (answer : Answer) → text_of (answer_only answer) ≡ whole_line (answer_line answer)
only-line answer = append-nil (whole_line (answer_line answer) ++ []) ∙ append-nil (whole_line (answer_line answer))

-- ---- ends

-- the notes of lawful events tell the answer, and what follows the answer is notes
pub record IsTelling {X : Type 0} (Lawful : X → List Event → Type 0) (Answers : X → Answer → Type 0) : Type 0 where
  pub one : (end end' : X) (es fs : List Event) (x y : Answer) → Lawful end es → Lawful end' fs → Answers end x → Answers end' y
      → notes_of es ≡ notes_of fs → x ≡ y
  pub notes : (end : X) (answer : Answer) → Answers end answer → HasNotes answer

module _ {X : Type 0} (Lawful : X → List Event → Type 0) (Answers : X → Answer → Type 0) (telling : IsTelling Lawful Answers) (l l' : Ledger)
    (unit first rest : List ℕ) (is : IsFirstLine unit first rest) where
  -- the unit of such an end, with its answer
  abbrev pub tells-answer : (end : X) (answer : Answer) → AreTold (Lawful end) l rest l' → Answers end answer → IsAnswer answer
      → SaysOnly true first answer → Tells Lawful Answers l unit true l'
  tells-answer end answer t given fits says = record {
    end = end;
    events = t.events;
    answer = answer;
    lawful = t.lawful;
    answers = given;
    form = record { answer = fits; rest = (telling.notes end answer given (notes_of t.events) []).1 (t.form, refl) };
    text = is.1.whole ∙ sym (append_assoc is.0 (10 ∷ []) rest)
        ∙ (λ i. (sym is.2 ∙ says ∙ only-line answer) i ++ t.text i)
        ∙ sym (append-nil (whole_line (answer_line answer) ++ notes_text (notes_of t.events)));
    after = t.after;
  }

  form-of : (end : X) (es : List Event) (answer : Answer) → Answers end answer → IsReply (reply_of answer es) → AllByRecursion IsNote (notes_of es)
  form-of end es answer given form = ((telling.notes end answer given (notes_of es) []).0 form.rest).0

  -- no notes that tell no end
  pub tells-no-end : ((end : X) (es : List Event) → Lawful end es → AllByRecursion IsNote (notes_of es) → rest ≡ notes_text (notes_of es) → ⊥)
      → Tells Lawful Answers l unit false l'
  tells-no-end none = λ end es answer lawful given form text.
      none end es lawful (form-of end es answer given form)
      (unit-parts unit first rest (reply_of answer es) is text form.answer refl).1

  -- nor another first line than that of the answer
  pub tells-no-answer : (end : X) (answer : Answer) → AreTold (Lawful end) l rest l' → Answers end answer
      → SaysOnly false first answer → Tells Lawful Answers l unit false l'
  tells-no-answer end answer t given says = λ end' es other lawful given' form text.
      let parts = unit-parts unit first rest (reply_of other es) is text form.answer refl in
      let same = notes-one (notes_of t.events) (notes_of es) t.form (form-of end' es other given' form) (sym t.text ∙ parts.1) in
      let answers = telling.one end end' t.events es answer other t.lawful lawful given given' same in
      says (parts.0 ∙ ap (λ a. whole_line (answer_line a)) (sym answers) ∙ sym (only-line answer))

  -- by whether the first line is that of the answer
  abbrev pub tells-by : (legal : Bool) (end : X) (answer : Answer) → AreTold (Lawful end) l rest l' → Answers end answer → IsAnswer answer
      → SaysOnly legal first answer → Tells Lawful Answers l unit legal l'
  tells-by true end answer t given fits says = tells-answer end answer t given fits says
  tells-by false end answer t given fits says = tells-no-answer end answer t given says

-- a text has a newline
pub tells-no-line : {X : Type 0} (Lawful : X → List Event → Type 0) (Answers : X → Answer → Type 0) (l l' : Ledger) (unit : List ℕ) → lacks 10 unit ≡ true
    → Tells Lawful Answers l unit false l'
tells-no-line Lawful Answers l l' unit none = λ end es answer lawful given form text.
    let line = answer_line answer in
    let rest = notes_text (notes_of es) ++ [] in
    let whole : unit ≡ line ++ 10 ∷ rest = text ∙ append_assoc (whole_line line) (notes_text (notes_of es)) []
    ∙ append_assoc line (10 ∷ []) rest in
    lacks-not 10 line rest (subst (λ u. lacks 10 u ≡ true) whole none)

-- ---- commands

-- a command whose replies are told by where accesses end
pub record IsEnding {X : Type 0} (m : Setting) (w : World) (l : Ledger) (command : Command) (Lawful : X → List Event → Type 0)
    (Answers : X → Answer → Type 0) : Type 0 where
  pub into : (end : X) (es : List Event) (answer : Answer) → Lawful end es → Answers end answer → IsLegal m w l command (reply_of answer es) es
  pub out : (reply : Reply) (es : List Event) → IsLegal m w l command reply es
      → (end : X) × Lawful end es × Answers end reply.answer × (reply.rows ≡ [])

-- what isn't told is no unit of it
pub no-unit : {X : Type 0} (m : Setting) (w : World) (l l' : Ledger) (command : Command) (Lawful : X → List Event → Type 0) (Answers : X → Answer → Type 0)
    (unit : List ℕ) → IsEnding m w l command Lawful Answers → Tells Lawful Answers l unit false l' → IsUnit m w l command unit → ⊥
no-unit m w l l' command Lawful Answers unit ending none u =
    let o = ending.out u.0 u.1 u.2.legal in
    let same : u.0 ≡ reply_of u.0.answer u.1 = λ i. record { answer = u.0.answer; notes = u.2.legal.notes i; rows = o.3 i } in
    none o.0 u.1 u.0.answer o.1 o.2 (subst IsReply same u.2.form) (u.2.text ∙ ap text_of same)

-- and what is told is one, and leaves these memories
pub told-left : {X : Type 0} (m : Setting) (w : World) (l : Ledger) (command : Command) (Lawful : X → List Event → Type 0) (Answers : X → Answer → Type 0)
    (unit : List ℕ) (memories : Memories) (book : Book) → is_some m.headers ≡ true → IsEnding m w l command Lawful Answers
    → (t : IsTold Lawful Answers l unit (ledger_of book)) → IsWorld memories (next w command t.answer)
    → IsLeft m w l command unit true memories book
told-left m w l command Lawful Answers unit memories book told ending t at = (
  next_world m w l t.events command t.answer,
  (
    reply_of t.answer t.events,
    t.events,
    record { form = t.form; text = t.text; legal = ending.into t.end t.events t.answer t.lawful t.answers },
    refl,
    t.after,
  ),
  subst (λ v. IsWorld memories (next v command t.answer)) (sym (loads-told m w l t.events told)) at,
)

pub tells-left : {X : Type 0} (m : Setting) (w : World) (l : Ledger) (command : Command) (Lawful : X → List Event → Type 0) (Answers : X → Answer → Type 0)
    (unit : List ℕ) (memories : Memories) (book : Book) (legal : Bool) → is_some m.headers ≡ true → IsEnding m w l command Lawful Answers
    → Tells Lawful Answers l unit legal (ledger_of book)
    → ((t : IsTold Lawful Answers l unit (ledger_of book)) → legal ≡ true → IsWorld memories (next w command t.answer))
    → IsLeft m w l command unit legal memories book
tells-left m w l command Lawful Answers unit memories book true told ending t at =
    told-left m w l command Lawful Answers unit memories book told ending t (at t refl)
tells-left m w l command Lawful Answers unit memories book false told ending none at =
    no-unit m w l (ledger_of book) command Lawful Answers unit ending none

-- ---- reads and writes

-- a read that ends so answers the bytes that were served
abbrev pub ReadsTo : World → ℕ → ℕ → ℕ → End → Answer → Type 0
ReadsTo w p a n end answer =
    (shown : List ℕ) × Reads (pages w p) a (bytes_served a n end) shown × (answer ≡ read_answer a end shown)

abbrev pub WritesTo : ℕ → End → Answer → Type 0
WritesTo a end answer = answer ≡ write_answer a end

read-notes : (a : ℕ) (end : End) (shown : List ℕ) → HasNotes (read_answer a end shown)
read-notes a Whole shown notes rows = (λ h. h, λ h. h)
read-notes a (Stopped page Denied) shown notes rows = (λ h. h, λ h. h)
read-notes a (Stopped page (Starved out)) shown notes rows = (λ h. h, λ h. h)
read-notes a (Stopped page Lost) shown notes rows = (λ h. h, λ h. h)

pub write-notes : (a : ℕ) (end : End) → HasNotes (write_answer a end)
write-notes a Whole notes rows = (λ h. h, λ h. h)
write-notes a (Stopped page Denied) notes rows = (λ h. h, λ h. h)
write-notes a (Stopped page (Starved out)) notes rows = (λ h. h, λ h. h)
write-notes a (Stopped page Lost) notes rows = (λ h. h, λ h. h)

-- what isn't refused follows its command
pub legal-by : (m : Setting) (w : World) (l : Ledger) (command : Command) (answer : Answer) (es : List Event)
    → refusal (tests m w l command) ≡ None → Follows m w l command es answer [] → IsLegal m w l command (reply_of answer es) es
legal-by m w l command answer es none h = record {
  answer = subst (λ o. MatchOption o (Follows m w l command es answer []) (λ error. Refuses error es answer [])) (sym none) h;
  notes = refl;
}

pub follows-by : (m : Setting) (w : World) (l : Ledger) (command : Command) (reply : Reply) (es : List Event)
    → refusal (tests m w l command) ≡ None → IsLegal m w l command reply es → Follows m w l command es reply.answer reply.rows
follows-by m w l command reply es none h =
    subst (λ o. MatchOption o (Follows m w l command es reply.answer reply.rows) (λ error. Refuses error es reply.answer reply.rows)) none h.answer

-- the pages of an access, as they end
abbrev pub Ending : Setting → World → Ledger → ℕ → Bool → ℕ → ℕ → End → List Event → Type 0
Ending m w l p write a n end es = Accesses m w l p (pages_of_access write a n) es end

pub read-ending : (m : Setting) (w : World) (l : Ledger) (p a n : ℕ) → refusal (tests m w l (Read p a n)) ≡ None
    → is_some m.headers ≡ true → IsEnding m w l (Read p a n) (Ending m w l p false a n) (ReadsTo w p a n)
read-ending m w l p a n none told = record {
  into = λ end es answer h g. legal-by m w l (Read p a n) answer es none (
    end,
    g.0,
    h,
    subst (λ v. Reads (pages v p) a (bytes_served a n end) g.0) (sym (loads-told m w l es told)) g.1,
    g.2,
    refl,
  );
  out = λ reply es h.
      let f = follows-by m w l (Read p a n) reply es none h in
      (f.0, f.2, (f.1, subst (λ v. Reads (pages v p) a (bytes_served a n f.0) f.1) (loads-told m w l es told) f.3, f.4), f.5);
}

pub read-telling : (m : Setting) (w : World) (l : Ledger) (p a n : ℕ) → IsClaimed w → IsTelling (Ending m w l p false a n) (ReadsTo w p a n)
read-telling m w l p a n claimed = record {
  one = λ end end' es fs x y h k g i e.
      let same = (accesses-told m w l p (pages_of_access false a n) es fs end end' h k e).1 in
      let j : ReadsTo w p a n end y = subst (λ e. ReadsTo w p a n e y) (sym same) i in
      let shown = one-read m w l p a n es end g.0 j.0 claimed h g.1 j.1 in
      g.2 ∙ ap (read_answer a end) shown ∙ sym j.2;
  notes = λ end answer g. subst HasNotes (sym g.2) (read-notes a end g.0);
}

pub write-ending : (m : Setting) (w : World) (l : Ledger) (p a : ℕ) (bytes : List ℕ) → refusal (tests m w l (Write p a bytes)) ≡ None
    → IsEnding m w l (Write p a bytes) (Ending m w l p true a (length bytes)) (WritesTo a)
write-ending m w l p a bytes none = record {
  into = λ end es answer h g. legal-by m w l (Write p a bytes) answer es none (end, h, g, refl);
  out = λ reply es h. follows-by m w l (Write p a bytes) reply es none h;
}

pub write-telling : (m : Setting) (w : World) (l : Ledger) (p a n : ℕ) → IsTelling (Ending m w l p true a n) (WritesTo a)
write-telling m w l p a n = record {
  one = λ end end' es fs x y h k g i e.
      let same = (accesses-told m w l p (pages_of_access true a n) es fs end end' h k e).1 in
      g ∙ ap (write_answer a) same ∙ sym i;
  notes = λ end answer g. subst HasNotes (sym g) (write-notes a end);
}

-- ---- what is said of a unit

-- a process that doesn't live is refused
pub dead-refused : (w : World) (p : ℕ) → lives w p ≡ false → refusal (no_process w p ∷ []) ≡ Some Esrch
dead-refused w p h = ap (λ b. refusal ((not b, Esrch) ∷ [])) h

pub alive-not-refused : (w : World) (p : ℕ) → lives w p ≡ true → refusal (no_process w p ∷ []) ≡ None
alive-not-refused w p h = ap (λ b. refusal ((not b, Esrch) ∷ [])) h

-- what a write stores, by where it ends
pub first-stored : (a : ℕ) (end : End) (bytes : List ℕ) → first_bytes (write_answer a end) bytes ≡ take (bytes_served a (length bytes) end) bytes
first-stored a Whole bytes = all bytes
  where
    all : (xs : List ℕ) → xs ≡ take (length xs) xs
    all [] = refl
    all (x ∷ xs) = ap (λ r. x ∷ r) (all xs)
first-stored a (Stopped page Denied) bytes = refl
first-stored a (Stopped page (Starved out)) bytes = refl
first-stored a (Stopped page Lost) bytes = refl
