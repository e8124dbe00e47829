-- A reply's text is read back line by line, so it is the text of one reply only.
use Rattle.std.proofs.Common.{true, ◌≡◌, ℕ, List, [], ◌∷◌, ◌++◌, refl, sym, ap, subst, ◌∙◌, append_assoc, append-nil, arith}
use Rattle.std.specs.List.{flat_map, AllByRecursion}
use Rattle.av_trace.specs.declared.note.Note.{Note}
use Rattle.av_trace.specs.declared.reply.Answer.{Answer}
use Rattle.av_trace.specs.declared.reply.Answer.TheVariants as answers
use Rattle.av_trace.specs.declared.reply.Reply.{Reply}
use Rattle.av_trace.specs.declared.row.Row.{Row}
use Rattle.av_trace.specs.Note.{note_line, IsNote}
use Rattle.av_trace.specs.Print.{whole_line, notes_text, rows_text, text_of}
use Rattle.av_trace.specs.Reply.{answer_line, Follow, IsReply}
use Rattle.av_trace.specs.Row.{row_line, IsRun, IsAreaRow, IsEntry}
use Rattle.av_text.specs.Word.{field}
use Rattle.av_trace.proofs.NoteLaws.{note_of, note_line-is}
use Rattle.av_trace.proofs.PlainWords.{LineReader, IsLineOf, one_line, no_newline}
use Rattle.av_trace.proofs.ReplyLaws.{answer_line-is}
use Rattle.av_trace.proofs.RowLaws.{run_of, run_line-is, area_of, area_line-is, entry_of, entry_line-is}
use Rattle.av_trace.proofs.Split.{lacks, lacks-cons, first_line}

-- ---- the lines after the first

abbrev after_space : {A : Type 0} → (A → List ℕ) → List A → List ℕ
after_space text xs = flat_map (λ x. whole_line (field (text x))) xs

same_lines : {A : Type 0} (read : LineReader A) (text : A → List ℕ) (Fits : A → Type 0) → ((x : A) → Fits x → IsLineOf read (text x) x) →
    (xs ys : List A) → AllByRecursion Fits xs → AllByRecursion Fits ys → after_space text xs ≡ after_space text ys → xs ≡ ys
same_lines read text Fits is [] [] all others e = refl
same_lines read text Fits is [] (y ∷ ys) all others e = absurd cc
same_lines read text Fits is (x ∷ xs) [] all others e = absurd cc
same_lines read text Fits is (x ∷ xs) (y ∷ ys) all others e =
    let a = is x all.0 in
    let b = is y others.0 in
    let left : lacks 10 (field (text x)) ≡ true = lacks-cons 10 32 (text x) (λ h. omega arith) (no_newline a) in
    let right : lacks 10 (field (text y)) ≡ true = lacks-cons 10 32 (text y) (λ h. omega arith) (no_newline b) in
    let parts = first_line (field (text x)) (field (text y)) (after_space text xs) (after_space text ys) left right e in
    let first : field (text x) ≡ field (text y) = parts.0 in
    let texts : text x ≡ text y = cc in
    let same = one_line a b texts in
    let rest = same_lines read text Fits is xs ys all.1 others.1 parts.1 in
    λ i. same i ∷ rest i

-- what follows an answer: notes
only_notes : (ns ms : List Note) (rs qs : List Row) → AllByRecursion IsNote ns → AllByRecursion IsNote ms → rs ≡ [] → qs ≡ [] →
    notes_text ns ++ rows_text rs ≡ notes_text ms ++ rows_text qs → (ns ≡ ms) × (rs ≡ qs)
only_notes ns ms rs qs all others none none' e =
    let left : notes_text ns ≡ notes_text ns ++ rows_text rs = sym (append-nil (notes_text ns))
    ∙ ap (λ (r : List Row). notes_text ns ++ rows_text r) (sym none) in
    let right : notes_text ms ++ rows_text qs ≡ notes_text ms = ap (λ (r : List Row). notes_text ms ++ rows_text r) none'
    ∙ append-nil (notes_text ms) in
    (same_lines note_of note_line IsNote note_line-is ns ms all others (left ∙ e ∙ right), none ∙ sym none')

-- or rows of one kind
only_rows : (read : LineReader Row) (Fits : Row → Type 0) → ((row : Row) → Fits row → IsLineOf read (row_line row) row) →
    (ns ms : List Note) (rs qs : List Row) → ns ≡ [] → ms ≡ [] → AllByRecursion Fits rs → AllByRecursion Fits qs →
    notes_text ns ++ rows_text rs ≡ notes_text ms ++ rows_text qs → (ns ≡ ms) × (rs ≡ qs)
only_rows read Fits is ns ms rs qs none none' all others e =
    let left : rows_text rs ≡ notes_text ns ++ rows_text rs = ap (λ (n : List Note). notes_text n ++ rows_text rs) (sym none) in
    let right : notes_text ms ++ rows_text qs ≡ rows_text qs = ap (λ (n : List Note). notes_text n ++ rows_text qs) none' in
    (none ∙ sym none', same_lines read row_line Fits is rs qs all others (left ∙ e ∙ right))

same_rest : (answer : Answer) (ns ms : List Note) (rs qs : List Row) → Follow answer ns rs → Follow answer ms qs →
    notes_text ns ++ rows_text rs ≡ notes_text ms ++ rows_text qs → (ns ≡ ms) × (rs ≡ qs)
same_rest (answers.Runs n) ns ms rs qs h k e = only_rows run_of IsRun run_line-is ns ms rs qs h.0 k.0 h.2 k.2 e
same_rest (answers.AreaList n) ns ms rs qs h k e = only_rows area_of IsAreaRow area_line-is ns ms rs qs h.0 k.0 h.2 k.2 e
same_rest (answers.Walk frame maps) ns ms rs qs h k e = only_rows entry_of IsEntry entry_line-is ns ms rs qs h.0 k.0 h.2 k.2 e
same_rest answer ns ms rs qs h k e = only_notes ns ms rs qs h.0 k.0 h.1 k.1 e

pub same_reply : (a b : Reply) → IsReply a → IsReply b → text_of a ≡ text_of b → a ≡ b
same_reply a b h k e =
    let left = answer_line-is a.answer h.answer in
    let right = answer_line-is b.answer k.answer in
    let whole = sym (append_assoc (whole_line (answer_line a.answer)) (notes_text a.notes) (rows_text a.rows)) ∙ e
    ∙ append_assoc (whole_line (answer_line b.answer)) (notes_text b.notes) (rows_text b.rows) in
    let parts = first_line (answer_line a.answer) (answer_line b.answer) (notes_text a.notes ++ rows_text a.rows)
    (notes_text b.notes ++ rows_text b.rows)
    (no_newline left) (no_newline right) whole in
    let answer = one_line left right parts.0 in
    let follows = subst (λ (x : Answer). Follow x b.notes b.rows) (sym answer) k.rest in
    let rest = same_rest a.answer a.notes b.notes a.rows b.rows h.rest follows parts.1 in
    λ i. record { answer = answer i; notes = rest.0 i; rows = rest.1 i }
