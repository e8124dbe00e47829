-- The texts of replies, one behind the other, are read back: a reply's first line begins with no space, and each other one does.
use Rattle.std.proofs.Common.{Bool, true, false, not, ◌≡◌, ℕ, List, [], ◌∷◌, ◌++◌, map, refl, sym, ap, subst, ◌∙◌, ◌==◌, append_assoc, append-nil, arith}
use Rattle.std.specs.List.{AllByRecursion, flat_map}
use Rattle.av_trace.specs.declared.note.Note.{Note}
use Rattle.av_trace.specs.declared.reply.Answer.{Answer}
use Rattle.av_trace.specs.declared.reply.Answer.TheVariants as answers
use Rattle.av_trace.specs.declared.reply.Reply.{Reply}
use Rattle.av_trace.specs.declared.row.Row.{Row}
use Rattle.av_trace.specs.Note.{IsNote, note_line}
use Rattle.av_trace.specs.Print.{notes_text, rows_text, text_of, whole_line}
use Rattle.av_trace.specs.Reply.{Follow, IsReply, answer_line}
use Rattle.av_trace.specs.Row.{IsAreaRow, IsEntry, IsRun, row_line}
use Rattle.av_text.specs.Word.{field}
use Rattle.av_trace.proofs.NoteLaws.{note_line-is, note_of}
use Rattle.av_trace.proofs.PlainWords.{IsLineOf, LineReader, no_newline, one_line}
use Rattle.av_trace.proofs.ReplyLaws.{answer_line-is}
use Rattle.av_trace.proofs.RowLaws.{area_line-is, area_of, entry_line-is, entry_of, run_line-is, run_of}
use Rattle.av_trace.proofs.Split.{first_line, lacks, lacks-cons}
use Rattle.av_plain.specs.Transcript.{Exchange, text_of_run}

-- there is a first byte, and it is no space
abbrev begins : List ℕ → Bool
begins [] = false
begins (b ∷ bytes) = not (b == 32)

-- or there is none
abbrev starts : List ℕ → Bool
starts [] = true
starts (b ∷ bytes) = begins (b ∷ bytes)

starts-of : (bytes : List ℕ) → begins bytes ≡ true → starts bytes ≡ true
starts-of [] h = refl
starts-of (b ∷ bytes) h = h

never : ◌≡◌ {A = Bool} false true → ⊥
never h = cc

-- ---- the lines after the first

abbrev after_space : {A : Type 0} → (A → List ℕ) → List A → List ℕ
after_space text xs = flat_map (λ x. whole_line (field (text x))) xs

same_lines : {A : Type 0} (read : LineReader A) (text : A → List ℕ) (Fits : A → Type 0) → ((x : A) → Fits x → IsLineOf read (text x) x)
    → (xs ys : List A) (s t : List ℕ) → AllByRecursion Fits xs → AllByRecursion Fits ys → starts s ≡ true → starts t ≡ true
    → after_space text xs ++ s ≡ after_space text ys ++ t → (xs ≡ ys) × (s ≡ t)
same_lines read text Fits is [] [] s t all others here there e = (refl, e)
same_lines read text Fits is [] (y ∷ ys) s t all others here there e = absurd (never (sym (ap starts e) ∙ here))
same_lines read text Fits is (x ∷ xs) [] s t all others here there e = absurd (never (ap starts e ∙ there))
same_lines read text Fits is (x ∷ xs) (y ∷ ys) s t all others here there e =
    let a = is x all.0 in
    let b = is y others.0 in
    let left : lacks 10 (field (text x)) ≡ true = lacks-cons 10 32 (text x) (λ h. omega arith) (no_newline a) in
    let right : lacks 10 (field (text y)) ≡ true = lacks-cons 10 32 (text y) (λ h. omega arith) (no_newline b) in
    let parts = first_line (field (text x)) (field (text y)) (after_space text xs ++ s) (after_space text ys ++ t) left right
    (sym (append_assoc (whole_line (field (text x))) (after_space text xs) s) ∙ e
    ∙ append_assoc (whole_line (field (text y))) (after_space text ys) t) in
    let first : field (text x) ≡ field (text y) = parts.0 in
    let texts : text x ≡ text y = cc in
    let same = one_line a b texts in
    let rest = same_lines read text Fits is xs ys s t all.1 others.1 here there parts.1 in
    ((λ i. same i ∷ rest.0 i), rest.1)

-- what follows an answer, and what comes behind it
record AreSame (ns ms : List Note) (rs qs : List Row) (s t : List ℕ) : Type 0 where
  notes : ns ≡ ms
  rows : rs ≡ qs
  rest : s ≡ t

only_notes : (ns ms : List Note) (rs qs : List Row) (s t : List ℕ) → AllByRecursion IsNote ns → AllByRecursion IsNote ms → rs ≡ [] → qs ≡ []
    → starts s ≡ true → starts t ≡ true → (notes_text ns ++ rows_text rs) ++ s ≡ (notes_text ms ++ rows_text qs) ++ t → AreSame ns ms rs qs s t
only_notes ns ms rs qs s t all others none none' here there e =
    let left = ap (λ (r : List Row). (notes_text ns ++ rows_text r) ++ s) none ∙ ap (λ bytes. bytes ++ s) (append-nil (notes_text ns)) in
    let right = ap (λ (r : List Row). (notes_text ms ++ rows_text r) ++ t) none' ∙ ap (λ bytes. bytes ++ t) (append-nil (notes_text ms)) in
    let both = same_lines note_of note_line IsNote note_line-is ns ms s t all others here there (sym left ∙ e ∙ right) in
    record { notes = both.0; rows = none ∙ sym none'; rest = both.1 }

only_rows : (read : LineReader Row) (Fits : Row → Type 0) → ((row : Row) → Fits row → IsLineOf read (row_line row) row)
    → (ns ms : List Note) (rs qs : List Row) (s t : List ℕ) → ns ≡ [] → ms ≡ [] → AllByRecursion Fits rs → AllByRecursion Fits qs
    → starts s ≡ true → starts t ≡ true → (notes_text ns ++ rows_text rs) ++ s ≡ (notes_text ms ++ rows_text qs) ++ t → AreSame ns ms rs qs s t
only_rows read Fits is ns ms rs qs s t none none' all others here there e =
    let left = ap (λ (n : List Note). (notes_text n ++ rows_text rs) ++ s) none in
    let right = ap (λ (n : List Note). (notes_text n ++ rows_text qs) ++ t) none' in
    let both = same_lines read row_line Fits is rs qs s t all others here there (sym left ∙ e ∙ right) in
    record { notes = none ∙ sym none'; rows = both.0; rest = both.1 }

same_rest : (answer : Answer) (ns ms : List Note) (rs qs : List Row) (s t : List ℕ) → Follow answer ns rs → Follow answer ms qs
    → starts s ≡ true → starts t ≡ true → (notes_text ns ++ rows_text rs) ++ s ≡ (notes_text ms ++ rows_text qs) ++ t → AreSame ns ms rs qs s t
same_rest (answers.Runs n) ns ms rs qs s t h k = only_rows run_of IsRun run_line-is ns ms rs qs s t h.0 k.0 h.2 k.2
same_rest (answers.AreaList n) ns ms rs qs s t h k = only_rows area_of IsAreaRow area_line-is ns ms rs qs s t h.0 k.0 h.2 k.2
same_rest (answers.Walk frame maps) ns ms rs qs s t h k = only_rows entry_of IsEntry entry_line-is ns ms rs qs s t h.0 k.0 h.2 k.2
same_rest answer ns ms rs qs s t h k = only_notes ns ms rs qs s t h.0 k.0 h.1 k.1

-- ---- replies

-- the line of an answer begins with a letter
begins-line : (answer : Answer) (rest : List ℕ) → begins (whole_line (answer_line answer) ++ rest) ≡ true
begins-line answers.Done rest = refl
begins-line (answers.MapAt address) rest = refl
begins-line (answers.«Data» bytes) rest = refl
begins-line (answers.Refused error) rest = refl
begins-line (answers.Segv served shown) rest = refl
begins-line (answers.Bus served shown) rest = refl
begins-line (answers.Oom served out shown) rest = refl
begins-line (answers.On slots bad) rest = refl
begins-line (answers.NoFrame out) rest = refl
begins-line (answers.Runs n) rest = refl
begins-line (answers.AreaList n) rest = refl
begins-line (answers.Walk frame maps) rest = refl
begins-line answers.NoWalk rest = refl
begins-line answers.EntryEmpty rest = refl
begins-line answers.EntryZero rest = refl
begins-line (answers.EntryFrame frame seen slot merged) rest = refl
begins-line (answers.EntrySlot slot frame) rest = refl
begins-line (answers.SlotBad slot) rest = refl
begins-line (answers.SlotCount slot count frame) rest = refl
begins-line (answers.Counted totals) rest = refl

abbrev after_line : Reply → List ℕ
after_line reply = notes_text reply.notes ++ rows_text reply.rows

-- a reply's text and what comes behind it
split-text : (reply : Reply) (rest : List ℕ) → text_of reply ++ rest ≡ whole_line (answer_line reply.answer) ++ (after_line reply ++ rest)
split-text reply rest =
    let line = whole_line (answer_line reply.answer) in
    ap (λ bytes. bytes ++ rest) (append_assoc line (notes_text reply.notes) (rows_text reply.rows)) ∙ append_assoc line (after_line reply) rest

begins-text : (reply : Reply) (rest : List ℕ) → begins (text_of reply ++ rest) ≡ true
begins-text reply rest = ap begins (split-text reply rest) ∙ begins-line reply.answer (after_line reply ++ rest)

starts-run : (es : List Exchange) → starts (text_of_run es) ≡ true
starts-run [] = refl
starts-run (e ∷ es) = starts-of (text_of_run (e ∷ es)) (begins-text e.reply (text_of_run es))

abbrev AreReplies : List Exchange → Type 0
AreReplies es = AllByRecursion (λ (e : Exchange). IsReply e.reply) es

pub same-replies : (es fs : List Exchange) → AreReplies es → AreReplies fs → text_of_run es ≡ text_of_run fs
    → map (λ (e : Exchange). e.reply) es ≡ map (λ (e : Exchange). e.reply) fs
same-replies [] [] h k e = refl
same-replies [] (f ∷ fs) h k e = absurd (never (ap begins e ∙ begins-text f.reply (text_of_run fs)))
same-replies (d ∷ es) [] h k e = absurd (never (sym (ap begins e) ∙ begins-text d.reply (text_of_run es)))
same-replies (d ∷ es) (f ∷ fs) h k e =
    let a = d.reply in
    let b = f.reply in
    let left = answer_line-is a.answer h.0.answer in
    let right = answer_line-is b.answer k.0.answer in
    let parts = first_line (answer_line a.answer) (answer_line b.answer) (after_line a ++ text_of_run es) (after_line b ++ text_of_run fs)
    (no_newline left) (no_newline right) (sym (split-text a (text_of_run es)) ∙ e ∙ split-text b (text_of_run fs)) in
    let answer = one_line left right parts.0 in
    let follows = subst (λ (x : Answer). Follow x b.notes b.rows) (sym answer) k.0.rest in
    let rest = same_rest a.answer a.notes b.notes a.rows b.rows (text_of_run es) (text_of_run fs) h.0.rest follows (starts-run es) (starts-run fs)
    parts.1 in
    let later = same-replies es fs h.1 k.1 rest.rest in
    λ i. record { answer = answer i; notes = rest.notes i; rows = rest.rows i } ∷ later i
