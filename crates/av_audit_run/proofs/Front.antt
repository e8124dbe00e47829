-- The lines in front of the mark are one list, and so is what comes behind it; so what is found of
-- an input is found of these.
use Rattle.std.proofs.Common.{◌≡◌, ◌∙◌, ℕ, true, refl, sym, ap, subst, List, [], ◌∷◌, ◌++◌, append-nil, append_assoc, ◌⊎◌, inl, inr, Some}
use Rattle.std.specs.Prelude.{option_to_list}
use Rattle.std.specs.List.{AllByRecursion}
use Rattle.std.proofs.lemmas.List.Elements.{All-head, All-tail}
use Rattle.av_trace.proofs.Split.{first_line, lacks, lacks-cons}
use Rattle.av_trace.proofs.LineLaws.{says_one}
use Rattle.av_trace.specs.declared.command.Command.{Command}
use Rattle.av_plain.specs.Ledger.{Setting}
use Rattle.av_ports.specs.Line.{HasNoNewline, IsNoNewline}
use Rattle.av_ports.specs.Ports.{PortsView}
use Rattle.av_audit_input.specs.Trace.{AreLines, AreSaid, IsTrace, IsTraceLine, all_lines, mark}
use Rattle.av_audit_input.specs.Unit.{units_of}
use Rattle.av_audit_input.proofs.TraceLaws.{lines-more}
use Rattle.av_audit_run.specs.Transcript.{Audits, IsFinding, IsFront}
use Rattle.av_audit_run.specs.declared.transcript.Finding.{Finding}
use Rattle.av_audit_run.proofs.Findings.{audit-of}

-- lines of a trace
abbrev AreGood : List (List ℕ) → Type 0
AreGood lines = AllByRecursion IsTraceLine lines

-- lines and the mark, each with its newline
abbrev pub marked : List (List ℕ) → List ℕ
marked lines = all_lines (lines ++ mark ∷ [])

lacks-newline : (bytes : List ℕ) → HasNoNewline bytes → lacks 10 bytes ≡ true
lacks-newline [] h = refl
lacks-newline (b ∷ bytes) h =
    lacks-cons 10 b bytes (All-head IsNoNewline b bytes h) (lacks-newline bytes (All-tail IsNoNewline b bytes h))

-- ---- lines in front

-- the first of some lines are these, and this comes behind them
pub record Begin (lines front : List (List ℕ)) (behind rest : List ℕ) : Type 0 where
  pub others : List (List ℕ)
  pub are : lines ≡ front ++ others
  pub rest_is : rest ≡ marked others ++ behind

pub begin : (lines front : List (List ℕ)) (behind rest : List ℕ) → AreGood lines → AreGood front
    → marked lines ++ behind ≡ all_lines front ++ rest → Begin lines front behind rest
begin lines [] behind rest all good e = record { others = lines; are = refl; rest_is = sym e }
begin [] (y ∷ front) behind rest all good e =
    let first = first_line mark y behind (all_lines front ++ rest) refl (lacks-newline y good.0.is_line.one)
    (sym (append_assoc (mark ++ 10 ∷ []) [] behind) ∙ e ∙ append_assoc (y ++ 10 ∷ []) (all_lines front) rest) in
    absurd (good.0.unmarked (sym first.0))
begin (x ∷ lines) (y ∷ front) behind rest all good e =
    let first = first_line x y (marked lines ++ behind) (all_lines front ++ rest) (lacks-newline x all.0.is_line.one)
    (lacks-newline y good.0.is_line.one)
    (sym (append_assoc (x ++ 10 ∷ []) (marked lines) behind) ∙ e ∙ append_assoc (y ++ 10 ∷ []) (all_lines front) rest) in
    let b = begin lines front behind rest all.1 good.1 first.1 in
    record { others = b.others; are = λ i. first.0 i ∷ b.are i; rest_is = b.rest_is }

pub good-behind : (front others : List (List ℕ)) → AreGood (front ++ others) → AreGood others
good-behind [] others all = all
good-behind (x ∷ front) others all = good-behind front others all.1

-- ---- the mark

no-bytes : (lines : List (List ℕ)) (behind : List ℕ) → [] ≡ marked lines ++ behind → ⊥
no-bytes [] behind e = cc
no-bytes ([] ∷ lines) behind e = cc
no-bytes ((b ∷ x) ∷ lines) behind e = cc

no-newline : (bytes : List ℕ) → [] ≡ bytes ++ 10 ∷ [] → ⊥
no-newline [] e = cc
no-newline (b ∷ bytes) e = cc

-- where the mark comes next, no line does
mark-next : (others : List (List ℕ)) (behind rest : List ℕ) → AreGood others → (mark ++ 10 ∷ []) ++ rest ≡ marked others ++ behind
    → (others ≡ []) × (rest ≡ behind)
mark-next [] behind rest all e = (refl, same e)
  where
    same : (mark ++ 10 ∷ []) ++ rest ≡ marked [] ++ behind → rest ≡ behind
    same e = cc
mark-next (x ∷ others) behind rest all e =
    let first = first_line mark x rest (marked others ++ behind) refl (lacks-newline x all.0.is_line.one)
    (e ∙ append_assoc (x ++ 10 ∷ []) (marked others) behind) in
    absurd (all.0.unmarked (sym first.0))

module _ (lines front : List (List ℕ)) (all : AreGood lines) (good : AreGood front) where
  -- lines, the mark and what comes behind it are one way
  behind-mark : (behind rest : List ℕ) → marked lines ++ behind ≡ all_lines front ++ ((mark ++ 10 ∷ []) ++ rest)
      → (front ≡ lines) × (rest ≡ behind)
  behind-mark behind rest e =
      let b = begin lines front behind ((mark ++ 10 ∷ []) ++ rest) all good e in
      let next = mark-next b.others behind rest (good-behind front b.others (subst AreGood b.are all)) b.rest_is in
      (sym (b.are ∙ ap (λ (ls : List (List ℕ)). front ++ ls) next.0 ∙ append-nil front), next.1)

  -- they are no lines alone
  not-lines : (behind : List ℕ) → marked lines ++ behind ≡ all_lines front → ⊥
  not-lines behind e =
      let b = begin lines front behind [] all good (e ∙ sym (append-nil (all_lines front))) in
      no-bytes b.others behind b.rest_is

  with-newline : (behind bytes : List ℕ) → marked lines ++ behind ≡ bytes → marked lines ++ (behind ++ 10 ∷ []) ≡ bytes ++ 10 ∷ []
  with-newline behind bytes e = sym (append_assoc (marked lines) behind (10 ∷ [])) ∙ ap (λ bytes. bytes ++ 10 ∷ []) e

  -- nor the mark without its newline
  not-unended : (behind : List ℕ) → marked lines ++ behind ≡ all_lines front ++ mark → ⊥
  not-unended behind e =
      let same = behind-mark (behind ++ 10 ∷ []) [] (with-newline behind (all_lines front ++ mark) e
      ∙ append_assoc (all_lines front) mark (10 ∷ [])
      ∙ ap (λ bytes. all_lines front ++ bytes) (sym (append-nil (mark ++ 10 ∷ [])))) in
      no-newline behind same.1

  -- a trace that is read of them is theirs, and so is the transcript
  pub front-one : (behind bytes transcript : List ℕ) → marked lines ++ behind ≡ bytes ++ transcript → IsFront front bytes transcript
      → (front ≡ lines) × (transcript ≡ behind)
  front-one behind bytes transcript e (inl is) =
      behind-mark behind transcript
      (e ∙ ap (λ bytes. bytes ++ transcript) (is ∙ lines-more front mark) ∙ append_assoc (all_lines front) (mark ++ 10 ∷ []) transcript)
  front-one behind bytes transcript e (inr (are, none)) =
      absurd (by are (e ∙ ap (λ rest. bytes ++ rest) none ∙ append-nil bytes))
    where
      by : AreLines front bytes ⊎ (bytes ≡ all_lines front ++ mark) → marked lines ++ behind ≡ bytes → ⊥
      by (inl (inl is)) e = not-lines behind (e ∙ is)
      by (inl (inr is)) e = not-lines (behind ++ 10 ∷ []) (with-newline behind bytes e ∙ is)
      by (inr is) e = not-unended behind (e ∙ is)

-- ---- what is found

said-once : (lines : List (List ℕ)) (cs ds : List Command) → AreSaid lines cs → AreSaid lines ds → cs ≡ ds
said-once [] cs ds h g = h ∙ sym g
said-once (line ∷ lines) cs ds h g =
    let one = says_one line h.0 g.0 h.3 g.3 in
    let rest = said-once lines h.1 g.1 h.4 g.4 in
    h.2 ∙ (λ i. option_to_list (one i) ++ rest i) ∙ sym g.2

-- an audit of lines, the mark and a transcript finds that of these
pub found : (lines : List (List ℕ)) (commands : List Command) (transcript : List ℕ) (finding : Finding) (m : Setting) (old new : PortsView)
    → IsTrace lines commands → old.source.left ≡ Some (marked lines ++ transcript) → Audits finding m old new
    → IsFinding finding m commands (units_of transcript)
found lines commands transcript finding m old new trace left h =
    let of = audit-of finding m old new (marked lines ++ transcript) h left in
    let same = front-one lines of.lines trace.good of.trace.good transcript of.bytes of.transcript of.content_is of.front in
    let said = said-once lines of.commands commands (subst (λ ls. AreSaid ls of.commands) same.0 of.trace.says) trace.says in
    subst (λ cs. IsFinding finding m cs (units_of transcript)) said
    (subst (λ bytes. IsFinding finding m of.commands (units_of bytes)) same.1 of.finds)
