-- The units of a run's text are the texts of its replies.
use Rattle.std.proofs.Common.{◌≡◌, ◌∙◌, ℕ, ◌==◌, Bool, ◌&&◌, not, cond, true, false, refl}
use Rattle.std.proofs.Common.{sym, ap, subst, arith, List, [], ◌∷◌, ◌++◌, map, append-nil, append_assoc}
use Rattle.std.specs.List.{AllByRecursion, flat_map}
use Rattle.std.proofs.lemmas.Bool.{and_from, and_parts}
use Rattle.av_text.specs.Word.{field}
use Rattle.av_trace.specs.declared.note.Note.{Note}
use Rattle.av_trace.specs.declared.reply.Answer.{Answer}
use Rattle.av_trace.specs.declared.reply.Answer.TheVariants as answers
use Rattle.av_trace.specs.declared.reply.Reply.{Reply}
use Rattle.av_trace.specs.declared.row.Row.{Row}
use Rattle.av_trace.specs.Note.{IsNote, note_line}
use Rattle.av_trace.specs.Print.{notes_text, rows_text, text_of, whole_line}
use Rattle.av_trace.specs.Reply.{Follow, IsReply, answer_line}
use Rattle.av_trace.specs.Row.{IsAreaRow, IsEntry, IsRun, row_line}
use Rattle.av_trace.proofs.NoteLaws.{note_line-is, note_of}
use Rattle.av_trace.proofs.PlainWords.{IsLineOf, LineReader, no_newline}
use Rattle.av_trace.proofs.ReplyLaws.{answer_line-is}
use Rattle.av_trace.proofs.RowLaws.{area_line-is, area_of, entry_line-is, entry_of, run_line-is, run_of}
use Rattle.av_trace.proofs.Split.{lacks, lacks-cons}
use Rattle.av_plain.specs.Transcript.{Exchange, text_of_run}
use Rattle.av_audit_input.specs.Unit.{IsOne, begins_unit, begins_with_space, ends_line, onto_first, units_of}
use Rattle.av_audit_input.proofs.UnitLaws.{part-one, last-first, whole-first}

not_true : (b : Bool) → not b ≡ true → b ≡ false
not_true true e = absurd cc
not_true false e = refl

never : ◌≡◌ {A = Bool} false true → ⊥
never e = cc

and_false : (b : Bool) → (b && false) ≡ false
and_false true = refl
and_false false = refl

-- ---- one line

line-one : (l : List ℕ) → lacks 10 l ≡ true → IsOne (whole_line l)
line-one [] h = refl
line-one (b ∷ l) h =
    let p = and_parts (not (b == 10)) (lacks 10 l) h in
    let rest = units_of (whole_line l) in
    ap (λ t. cond (t && not (begins_with_space (whole_line l))) ((b ∷ []) ∷ rest) (onto_first b rest)) (not_true (b == 10) p.0)
    ∙ ap (onto_first b) (line-one l p.1)

line-ends : (l : List ℕ) → ends_line (whole_line l) ≡ true
line-ends [] = refl
line-ends (b ∷ []) = refl
line-ends (b ∷ c ∷ l) = line-ends (c ∷ l)

ends-behind : (s t : List ℕ) → ends_line t ≡ true → ends_line (s ++ t) ≡ true
ends-behind [] t h = h
ends-behind (b ∷ []) [] h = absurd (never h)
ends-behind (b ∷ []) (c ∷ t) h = h
ends-behind (b ∷ c ∷ s) t h = ends-behind (c ∷ s) t h

-- ---- a line, and lines behind it that begin with a space

-- whole lines that are one unit
pub record AreOne (bytes : List ℕ) : Type 0 where
  pub one : IsOne bytes
  pub ends : ends_line bytes ≡ true

with-line : (bytes l : List ℕ) → AreOne bytes → lacks 10 l ≡ true → AreOne (bytes ++ whole_line (field l))
with-line bytes l h none =
    let spaced : lacks 10 (field l) ≡ true = lacks-cons 10 32 l (λ e. omega arith) none in
    record {
      one = part-one bytes (whole_line (field l)) h.one (line-one (field l) spaced) (and_false (ends_line bytes));
      ends = ends-behind bytes (whole_line (field l)) (line-ends (field l));
    }

-- none of their lines has a newline
abbrev Lack : {A : Type 0} → (A → List ℕ) → List A → Type 0
Lack text xs = AllByRecursion (λ x. lacks 10 (text x) ≡ true) xs

with-lines : {A : Type 0} (text : A → List ℕ) (bytes : List ℕ) (xs : List A) → AreOne bytes → Lack text xs
    → AreOne (bytes ++ flat_map (λ x. whole_line (field (text x))) xs)
with-lines text bytes [] h none = subst AreOne (sym (append-nil bytes)) h
with-lines text bytes (x ∷ xs) h none =
    let l = whole_line (field (text x)) in
    subst AreOne (append_assoc bytes l (flat_map (λ x. whole_line (field (text x))) xs))
    (with-lines text (bytes ++ l) xs (with-line bytes (text x) h none.0) none.1)

-- ---- a reply

lack-all : {A : Type 0} (read : LineReader A) (text : A → List ℕ) (Fits : A → Type 0) → ((x : A) → Fits x → IsLineOf read (text x) x)
    → (xs : List A) → AllByRecursion Fits xs → Lack text xs
lack-all read text Fits is [] all = tt
lack-all read text Fits is (x ∷ xs) all = (no_newline (is x all.0), lack-all read text Fits is xs all.1)

lack-none : {A : Type 0} (text : A → List ℕ) (xs : List A) → xs ≡ [] → Lack text xs
lack-none text xs e = subst (Lack text) (sym e) tt

follow-lack : (answer : Answer) (ns : List Note) (rs : List Row) → Follow answer ns rs → Lack note_line ns × Lack row_line rs
follow-lack (answers.Runs n) ns rs h = (lack-none note_line ns h.0, lack-all run_of row_line IsRun run_line-is rs h.2)
follow-lack (answers.AreaList n) ns rs h = (lack-none note_line ns h.0, lack-all area_of row_line IsAreaRow area_line-is rs h.2)
follow-lack (answers.Walk frame maps) ns rs h = (lack-none note_line ns h.0, lack-all entry_of row_line IsEntry entry_line-is rs h.2)
follow-lack answer ns rs h = (lack-all note_of note_line IsNote note_line-is ns h.0, lack-none row_line rs h.1)

text-one : (reply : Reply) → IsReply reply → AreOne (text_of reply)
text-one reply h =
    let line = answer_line reply.answer in
    let lack = follow-lack reply.answer reply.notes reply.rows h.rest in
    let first : AreOne (whole_line line) =
    record { one = line-one line (no_newline (answer_line-is reply.answer h.answer)); ends = line-ends line } in
    with-lines row_line (whole_line line ++ notes_text reply.notes) reply.rows
    (with-lines note_line (whole_line line) reply.notes first lack.0) lack.1

-- the line of an answer begins with a letter
begins-line : (answer : Answer) (rest : List ℕ) → begins_unit (whole_line (answer_line answer) ++ rest) ≡ true
begins-line answers.Done rest = refl
begins-line (answers.MapAt address) rest = refl
begins-line (answers.«Data» bytes) rest = refl
begins-line (answers.Refused error) rest = refl
begins-line (answers.Segv served shown) rest = refl
begins-line (answers.Bus served shown) rest = refl
begins-line (answers.Oom served out shown) rest = refl
begins-line (answers.On slots bad) rest = refl
begins-line (answers.NoFrame out) rest = refl
begins-line (answers.Runs n) rest = refl
begins-line (answers.AreaList n) rest = refl
begins-line (answers.Walk frame maps) rest = refl
begins-line answers.NoWalk rest = refl
begins-line answers.EntryEmpty rest = refl
begins-line answers.EntryZero rest = refl
begins-line (answers.EntryFrame frame seen slot merged) rest = refl
begins-line (answers.EntrySlot slot frame) rest = refl
begins-line (answers.SlotBad slot) rest = refl
begins-line (answers.SlotCount slot count frame) rest = refl
begins-line (answers.Counted totals) rest = refl

begins-text : (reply : Reply) (rest : List ℕ) → begins_unit (text_of reply ++ rest) ≡ true
begins-text reply rest =
    let line = whole_line (answer_line reply.answer) in
    ap begins_unit (append_assoc (line ++ notes_text reply.notes) (rows_text reply.rows) rest
    ∙ append_assoc line (notes_text reply.notes) (rows_text reply.rows ++ rest))
    ∙ begins-line reply.answer (notes_text reply.notes ++ (rows_text reply.rows ++ rest))

-- ---- a run

pub units-run : (es : List Exchange) → AllByRecursion (λ (e : Exchange). IsReply e.reply) es
    → units_of (text_of_run es) ≡ map (λ (e : Exchange). text_of e.reply) es
units-run [] all = refl
units-run (e ∷ []) all = last-first (text_of e.reply) (text-one e.reply all.0).one
units-run (e ∷ f ∷ es) all =
    let unit = text_of e.reply in
    let rest = text_of_run (f ∷ es) in
    let is = text-one e.reply all.0 in
    whole-first unit rest is.one (and_from (ends_line unit) (begins_unit rest) is.ends (begins-text f.reply (text_of_run es)))
    ∙ ap (λ us. unit ∷ us) (units-run (f ∷ es) all.1)
