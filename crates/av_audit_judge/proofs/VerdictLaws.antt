-- Commands that answer `ok` and tell the rest by notes.
use Rattle.std.proofs.Common.{◌≡◌, ℕ, Bool, true, false, Some, None, List, [], ◌∷◌, ◌++◌, length, map, take, refl, sym, ap, subst, ◌∙◌, append-nil, arith}
use Rattle.std.specs.Prelude.{MatchOption, ◌==◌}
use Rattle.std.specs.List.{AllByRecursion}
use Rattle.std.proofs.lemmas.Bool.{eqb-true}
use Rattle.av_text.specs.Word.{after}
use Rattle.av_trace.specs.declared.command.Command.{Command}
use Rattle.av_trace.specs.declared.command.Command.TheVariants.{Age, Complete, Reclaim}
use Rattle.av_trace.specs.declared.note.Note.{Note}
use Rattle.av_trace.specs.declared.note.Note.TheVariants.{Aged}
use Rattle.av_trace.specs.declared.reply.Answer.{Answer}
use Rattle.av_trace.specs.declared.reply.Answer.TheVariants.{Done}
use Rattle.av_trace.specs.declared.reply.Reply.{Reply}
use Rattle.av_trace.specs.declared.row.Row.{Row}
use Rattle.av_trace.specs.Note.{IsNote}
use Rattle.av_trace.specs.Print.{notes_text, text_of}
use Rattle.av_trace.specs.Reply.{IsReply}
use Rattle.av_plain.specs.Event.{Event, note_events, notes_of}
use Rattle.av_plain.specs.Fault.{sparing}
use Rattle.av_plain.specs.Ledger.{Ledger, Setting}
use Rattle.av_plain.specs.Pass.{Completes, Spared}
use Rattle.av_plain.specs.Reclaim.{Outcomes, from_tail}
use Rattle.av_plain.specs.Refusal.{Refuses, refusal, tests}
use Rattle.av_plain.specs.Step.{Follows, IsLegal}
use Rattle.av_plain.specs.World.{World}
use Rattle.av_plain.proofs.Access.{note_events-all, notes_of-note_events}
use Rattle.av_audit_judge.specs.Finds.{Reads, Stand}
use Rattle.av_audit_judge.specs.Verdict.{IsVerdict}
use Rattle.av_audit_judge.proofs.Finds.{Told, stand-one}
use Rattle.av_audit_judge.proofs.NoteLaws.{off-none, off-some}
use Rattle.av_audit_laws.proofs.ToldPass.{completes-told}
use Rattle.av_audit_laws.proofs.ToldSwap.{outcomes-told}

-- a command that is never refused, answers `ok`, and does what lawful notes tell
pub record AnswersOk (m : Setting) (w : World) (l : Ledger) (command : Command) (Lawful : List Note → Type 0) : Type 0 where
  pub no_test : refusal (tests m w l command) ≡ None
  pub does : (es : List Event) (answer : Answer) (rows : List Row) → Follows m w l command es answer rows
      → (notes : List Note) × Lawful notes × (answer ≡ Done) × (es ≡ note_events notes) × (rows ≡ [])
  pub is_done : (notes : List Note) → Lawful notes → Follows m w l command (note_events notes) Done []
  pub told : Told Lawful

abbrev pub said : List Note → Reply
said notes = record { answer = Done; notes = notes; rows = [] }

text-said : (notes : List Note) → text_of (said notes) ≡ 111 ∷ 107 ∷ 10 ∷ notes_text notes
text-said notes = ap (λ t. 111 ∷ 107 ∷ 10 ∷ t) (append-nil (notes_text notes))

-- what is legal is said so
legal-said : (m : Setting) (w : World) (l : Ledger) (command : Command) (Lawful : List Note → Type 0) (reply : Reply) (events : List Event)
    → AnswersOk m w l command Lawful → IsReply reply → IsLegal m w l command reply events
    → (notes : List Note) × Lawful notes × AllByRecursion IsNote notes × (reply ≡ said notes)
legal-said m w l command Lawful reply events ok form legal =
    let done = ok.does events reply.answer reply.rows
    (subst (λ o. MatchOption o (Follows m w l command events reply.answer reply.rows)
    (λ error. Refuses error events reply.answer reply.rows)) ok.no_test legal.answer) in
    let notes : reply.notes ≡ done.0 = legal.notes ∙ ap notes_of done.3 ∙ notes_of-note_events done.0 in
    let same : reply ≡ said done.0 = λ i. record { answer = done.2 i; notes = notes i; rows = done.4 i } in
    (done.0, done.1, (subst IsReply same form).rest.0, same)

pub ok-yes : (m : Setting) (w : World) (l l' : Ledger) (command : Command) (Lawful : List Note → Type 0) (unit rest left : List ℕ)
    → AnswersOk m w l command Lawful → Some rest ≡ after (111 ∷ 107 ∷ 10 ∷ []) unit → left ≡ []
    → Reads Lawful l rest true l' left → IsVerdict m w l command unit true l'
ok-yes m w l l' command Lawful unit rest left ok e none f = record {
  reply = said f.notes;
  events = note_events f.notes;
  form = record { answer = tt; rest = (f.stand.form, refl) };
  text = off-some (111 ∷ 107 ∷ 10 ∷ []) unit rest e
      ∙ ap (λ t. 111 ∷ 107 ∷ 10 ∷ t) (f.stand.text ∙ ap (λ r. notes_text f.notes ++ r) none);
  legal = record {
    answer = subst (λ o. MatchOption o (Follows m w l command (note_events f.notes) Done [])
        (λ error. Refuses error (note_events f.notes) Done [])) (sym ok.no_test) (ok.is_done f.notes f.lawful);
    notes = sym (notes_of-note_events f.notes);
  };
  after = f.after ∙ sym (note_events-all l f.notes);
}

pub ok-unanswered : (m : Setting) (w : World) (l l' : Ledger) (command : Command) (Lawful : List Note → Type 0) (unit : List ℕ)
    → AnswersOk m w l command Lawful → None ≡ after (111 ∷ 107 ∷ 10 ∷ []) unit → IsVerdict m w l command unit false l'
ok-unanswered m w l l' command Lawful unit ok none reply events form text legal =
    let s = legal-said m w l command Lawful reply events ok form legal in
    off-none (111 ∷ 107 ∷ 10 ∷ []) unit none (notes_text s.0) (text ∙ ap text_of s.3 ∙ text-said s.0)

tail-of : {a b : List ℕ} → 111 ∷ 107 ∷ 10 ∷ a ≡ 111 ∷ 107 ∷ 10 ∷ b → a ≡ b
tail-of e = cc

stands : (unit rest : List ℕ) (notes : List Note) → unit ≡ 111 ∷ 107 ∷ 10 ∷ rest → unit ≡ text_of (said notes) → AllByRecursion IsNote notes
    → Stand rest notes []
stands unit rest notes is text form = record {
  form = form;
  text = tail-of (sym is ∙ text ∙ text-said notes) ∙ sym (append-nil (notes_text notes));
}

pub ok-unlawful : (m : Setting) (w : World) (l l1 l' : Ledger) (command : Command) (Lawful : List Note → Type 0) (unit rest left : List ℕ)
    → AnswersOk m w l command Lawful → Some rest ≡ after (111 ∷ 107 ∷ 10 ∷ []) unit
    → Reads Lawful l rest false l1 left → IsVerdict m w l command unit false l'
ok-unlawful m w l l1 l' command Lawful unit rest left ok e none reply events form text legal =
    let s = legal-said m w l command Lawful reply events ok form legal in
    none s.0 [] s.1 (stands unit rest s.0 (off-some (111 ∷ 107 ∷ 10 ∷ []) unit rest e) (text ∙ ap text_of s.3) s.2)

pub ok-more : (m : Setting) (w : World) (l l' : Ledger) (command : Command) (Lawful : List Note → Type 0) (unit rest left : List ℕ)
    → AnswersOk m w l command Lawful → Some rest ≡ after (111 ∷ 107 ∷ 10 ∷ []) unit → (left ≡ [] → ⊥)
    → Reads Lawful l rest true l' left → IsVerdict m w l command unit false l'
ok-more m w l l' command Lawful unit rest left ok e some f reply events form text legal =
    let s = legal-said m w l command Lawful reply events ok form legal in
    some (stand-one Lawful rest f.notes s.0 left [] ok.told f.lawful s.1 f.stand
    (stands unit rest s.0 (off-some (111 ∷ 107 ∷ 10 ∷ []) unit rest e) (text ∙ ap text_of s.3) s.2)).1

-- ---- the three

pub complete-ok : (m : Setting) (w : World) (l : Ledger) (n : ℕ) → AnswersOk m w l (Complete n) (Completes l (take n l.flight))
complete-ok m w l n = record {
  no_test = refl;
  does = λ es answer rows h. h;
  is_done = λ notes h. (notes, h, refl, refl, refl);
  told = completes-told l (take n l.flight);
}

pub reclaim-ok : (m : Setting) (w : World) (l : Ledger) (n : ℕ) (sp : Spared) → sp ≡ sparing w l None
    → AnswersOk m w l (Reclaim n) (Outcomes m sp l (from_tail n l.inactive))
reclaim-ok m w l n sp same = record {
  no_test = refl;
  does = λ es answer rows h. (h.0, subst (λ s. Outcomes m s l fs h.0) (sym same) h.1, h.2, h.3, h.4);
  is_done = λ notes h. (notes, subst (λ s. Outcomes m s l fs notes) same h, refl, refl, refl);
  told = outcomes-told m sp l fs;
}
  where
    fs : List ℕ
    fs = from_tail n l.inactive

pub age-ok : (m : Setting) (w : World) (l : Ledger) (n : ℕ) → AnswersOk m w l (Age n) (λ ns. ns ≡ map Aged (from_tail n l.active))
age-ok m w l n = record {
  no_test = refl;
  does = λ es answer rows h. (map Aged (from_tail n l.active), refl, h.0, h.1, h.2);
  is_done = λ notes h. (refl, ap note_events h, refl);
  told = λ a b x y h g e. h ∙ sym g;
}

-- nothing may be left behind the notes
pub ok-end : (m : Setting) (w : World) (l l' : Ledger) (command : Command) (Lawful : List Note → Type 0) (unit rest left : List ℕ) (over : Bool)
    → AnswersOk m w l command Lawful → Some rest ≡ after (111 ∷ 107 ∷ 10 ∷ []) unit → over ≡ (length left == 0)
    → Reads Lawful l rest true l' left → IsVerdict m w l command unit over l'
ok-end m w l l' command Lawful unit rest left true ok e is f = ok-yes m w l l' command Lawful unit rest left ok e (none left (sym is)) f
  where
    none : (t : List ℕ) → (length t == 0) ≡ true → t ≡ []
    none [] h = refl
    none (b ∷ t) h = absurd (let e = eqb-true (length (b ∷ t)) 0 h in omega (arith, e))
ok-end m w l l' command Lawful unit rest left false ok e is f = ok-more m w l l' command Lawful unit rest left ok e (some left (sym is)) f
  where
    some : (t : List ℕ) → (length t == 0) ≡ false → t ≡ [] → ⊥
    some [] h e = cc
    some (b ∷ t) h e = cc
