-- A trace of good lines is done, or memory runs out; and what is done writes its transcript.
use Rattle.std.proofs.Common.{eqb, ◌≡◌, ◌≢◌, ℕ, ◌<◌, ◌≤◌, List, [], ◌∷◌, ◌++◌, length, take, drop, Option, Some, None, length-take-le, refl, sym, ap, subst}
use Rattle.std.proofs.Common.{◌∙◌, append_assoc, append-nil, arith, inl, inr, length-append}
use Rattle.std.specs.Prelude.{All, unwrap_or, option_map, IfSome}
use Rattle.std.specs.List.{AllByRecursion}
use Rattle.std.specs.Option.{option_to_list}
use Rattle.std.proofs.lemmas.Bool.{cond-true, cond-false, ne_eqb, cases_eq, eq-eqb}
use Rattle.std.proofs.lemmas.Option.{same_Some}
use Rattle.std.proofs.lemmas.List.{take-append-drop}
use Rattle.std.proofs.lemmas.List.Elements.{All-head, All-tail}
use Rattle.av_kernel.specs.Machine.{Machine}
use Rattle.av_replay.specs.declared.status.Status.{Status}
use Rattle.av_replay.specs.declared.status.Status.TheVariants as statuses
use Rattle.av_io.specs.Source.{SourceView, Took, HasEnded}
use Rattle.av_ports.specs.Line.{IsLine, IsNoNewline, HasNoNewline}
use Rattle.av_replay.specs.Turn.{IsBad, StandsNext}
use Rattle.av_ports.specs.Ports.{PortsView, IsAtEnd}
use Rattle.av_plain.specs.Transcript.{text_of_run}
use Rattle.av_replay.specs.Replay.{most_lines, all_lines, done_lines, Transcribes, Replays, Run, Headline}
use Rattle.av_replay.specs.Trace.{onto_first, lines_of, IsGood, IsComplete, WritesTranscript}

lines_of-other : (b : ℕ) (bytes : List ℕ) → b ≢ 10 → lines_of (b ∷ bytes) ≡ onto_first b (lines_of bytes)
lines_of-other b bytes ne = cond-false _ _ _ (ne_eqb b 10 ne)

lines_of-line : (line more : List ℕ) → HasNoNewline line → lines_of (line ++ 10 ∷ more) ≡ line ∷ lines_of more
lines_of-line [] more none = refl
lines_of-line (b ∷ line) more none =
    lines_of-other b (line ++ 10 ∷ more) (All-head IsNoNewline b line none)
    ∙ ap (onto_first b) (lines_of-line line more (All-tail IsNoNewline b line none))

pub lines_of-joined : (lines : List (List ℕ)) (more : List ℕ) → AllByRecursion IsLine lines
    → lines_of (all_lines lines ++ more) ≡ lines ++ lines_of more
lines_of-joined [] more all = refl
lines_of-joined (line ∷ lines) more all =
    ap lines_of (append_assoc (line ++ 10 ∷ []) (all_lines lines) more ∙ append_assoc line (10 ∷ []) (all_lines lines ++ more))
    ∙ lines_of-line line (all_lines lines ++ more) all.0.one
    ∙ ap (λ (ls : List (List ℕ)). line ∷ ls) (lines_of-joined lines more all.1)

pub lines_of-last : (line : List ℕ) → HasNoNewline line → 0 < length line → lines_of line ≡ line ∷ []
lines_of-last [] none some = absurd (omega arith)
lines_of-last (b ∷ []) none some = lines_of-other b [] (All-head IsNoNewline b [] none)
lines_of-last (b ∷ d ∷ line) none some =
    lines_of-other b (d ∷ line) (All-head IsNoNewline b (d ∷ line) none)
    ∙ ap (onto_first b) (lines_of-last (d ∷ line) (All-tail IsNoNewline b (d ∷ line) none) (omega arith))

-- a text without newline stands in its first line
pub record First (size : ℕ) (lines : List (List ℕ)) : Type 0 where
  pub line : List ℕ
  pub others : List (List ℕ)
  pub are : lines ≡ line ∷ others
  pub long : size ≤ length line

first_onto : (b : ℕ) (lines : List (List ℕ)) → First 1 (onto_first b lines)
first_onto b [] = record { line = b ∷ []; others = []; are = refl; long = omega arith }
first_onto b (line ∷ lines) = record { line = b ∷ line; others = lines; are = refl; long = omega arith }

pub starts_long : (bytes more : List ℕ) → HasNoNewline bytes → 0 < length bytes → First (length bytes) (lines_of (bytes ++ more))
starts_long [] more none some = absurd (omega arith)
starts_long (b ∷ []) more none some = rw (lines_of-other b more (All-head IsNoNewline b [] none)) (first_onto b (lines_of more))
starts_long (b ∷ d ∷ bytes) more none some =
    let f = starts_long (d ∷ bytes) more (All-tail IsNoNewline b (d ∷ bytes) none) (omega arith) in
    let are : lines_of (b ∷ d ∷ (bytes ++ more)) ≡ (b ∷ f.line) ∷ f.others =
    lines_of-other b (d ∷ (bytes ++ more)) (All-head IsNoNewline b (d ∷ bytes) none)
    ∙ ap (onto_first b) f.are in
    record { line = b ∷ f.line; others = f.others; are = are; long = omega (arith, f.long) }

pub some_line : (bytes : List ℕ) → 0 < length bytes → 0 < length (lines_of bytes)
some_line [] some = absurd (omega arith)
some_line (b ∷ bytes) some =
    elim (cases_eq b 10) [
      | inl e ↦ rw (cond-true (eqb b 10) ([] ∷ lines_of bytes) (onto_first b (lines_of bytes)) (eq-eqb b 10 e)) (omega arith)
      | inr ne ↦ let f = first_onto b (lines_of bytes) in rw (lines_of-other b bytes ne, f.are) (omega arith)
    ]

-- what the source told is what was taken and what is left
pub record Told (content taken : List ℕ) (left' : Option (List ℕ)) : Type 0 where
  pub more : List ℕ
  pub left_is : left' ≡ Some more
  pub parts : content ≡ taken ++ more

pub told : (content taken : List ℕ) (left' : Option (List ℕ)) → Took (Some content) left' taken → Told content taken left'
told content taken None took = absurd cc
told content taken (Some more) took = record { more = more; left_is = refl; parts = same_Some _ _ took }

member : (lines : List (List ℕ)) (line : List ℕ) (others : List (List ℕ)) → All IsGood (lines ++ line ∷ others) → IsGood line
member [] line others all = All-head IsGood line others all
member (x ∷ lines) line others all = member lines line others (All-tail IsGood x (lines ++ line ∷ others) all)

-- the lines that were done, and those that are left
pub split : (lines : List (List ℕ)) (rest content more : List ℕ) → AllByRecursion IsLine lines → content ≡ (all_lines lines ++ rest) ++ more →
    lines_of content ≡ lines ++ lines_of (rest ++ more)
split lines rest content more all e = ap lines_of (e ∙ append_assoc (all_lines lines) rest more) ∙ lines_of-joined lines (rest ++ more) all

-- the first of the other lines is good
first_good : (lines : List (List ℕ)) (rest content more line : List ℕ) (others : List (List ℕ)) → AllByRecursion IsLine lines →
    content ≡ (all_lines lines ++ rest) ++ more → All IsGood (lines_of content) → lines_of (rest ++ more) ≡ line ∷ others → IsGood line
first_good lines rest content more line others all e good are =
    member lines line others (subst (λ (ls : List (List ℕ)). All IsGood ls)
    (split lines rest content more all e ∙ ap (λ (ls : List (List ℕ)). lines ++ ls) are) good)

pub ended_is_nil : (left' : Option (List ℕ)) (more : List ℕ) → left' ≡ Some more → HasEnded left' → more ≡ []
ended_is_nil None more e ended = absurd cc
ended_is_nil (Some rest) more e ended = sym (same_Some _ _ e) ∙ ended

-- the first of some lines
pub record IsFirst (line : List ℕ) (lines : List (List ℕ)) : Type 0 where
  pub others : List (List ℕ)
  pub are : lines ≡ line ∷ others

-- the line that stands next is the first of those that are left
pub line_next : (line rest more : List ℕ) (source : SourceView) → source.left ≡ Some more → IsLine line → StandsNext line rest source
    → IsFirst line (lines_of (rest ++ more))
line_next line rest more source left is (inl newline) = record {
  others = lines_of (newline.0 ++ more);
  are = ap (λ (r : List ℕ). lines_of (r ++ more)) newline.1 ∙ ap lines_of (append_assoc line (10 ∷ newline.0) more)
      ∙ lines_of-line line (newline.0 ++ more) is.one;
}
line_next line rest more source left is (inr last) = record {
  others = [];
  are = ap lines_of (ap (λ (m : List ℕ). rest ++ m) (ended_is_nil source.left more left last.2.ended) ∙ append-nil rest ∙ last.0)
      ∙ lines_of-last line is.one last.1;
}

-- the first of some lines, which isn't good
pub record FirstIsBad (lines : List (List ℕ)) : Type 0 where
  pub line : List ℕ
  pub others : List (List ℕ)
  pub are : lines ≡ line ∷ others
  pub bad : IsGood line → ⊥

pub bad_next : (rest more : List ℕ) (source : SourceView) → source.left ≡ Some more → IsBad rest source → FirstIsBad (lines_of (rest ++ more))
bad_next rest more source left (inl long) =
    let front = take 8449 rest in
    let len : length front ≡ 8449 = length-take-le 8449 rest (omega (arith, long.long)) in
    let parts : rest ++ more ≡ front ++ (drop 8449 rest ++ more) = ap (λ (r : List ℕ). r ++ more) (sym (take-append-drop 8449 rest))
    ∙ append_assoc front (drop 8449 rest) more in
    let f = starts_long front (drop 8449 rest ++ more) long.one (omega (arith, len)) in
    record { line = f.line; others = f.others; are = ap lines_of parts ∙ f.are; bad = λ good. omega (arith, good.is_line.short, f.long, len) }
bad_next rest more source left (inr (line, is, nothing, stands)) =
    let next = line_next line rest more source left is stands in
    record { line = line; others = next.others; are = next.are; bad = λ good. nothing good.said good.says }

pub not_bad : (lines : List (List ℕ)) (rest content : List ℕ) (source : SourceView) → AllByRecursion IsLine lines →
    Took (Some content) source.left (all_lines lines ++ rest) → All IsGood (lines_of content) → IsBad rest source → ⊥
not_bad lines rest content source all took good bad =
    let t = told content (all_lines lines ++ rest) source.left took in
    let next = bad_next rest t.more source t.left_is bad in
    next.bad (first_good lines rest content t.more next.line next.others all t.parts good next.are)

pub not_many : (lines : List (List ℕ)) (rest content : List ℕ) (left' : Option (List ℕ)) → AllByRecursion IsLine lines →
    Took (Some content) left' (all_lines lines ++ rest) → length (lines_of content) ≤ most_lines → length lines ≡ most_lines → 0 < length rest → ⊥
not_many lines rest content left' all took few many one =
    let t = told content (all_lines lines ++ rest) left' took in
    let some = some_line (rest ++ t.more) (omega (arith, length-append rest t.more)) in
    omega (arith, ap length (split lines rest content t.more all t.parts), length-append lines (lines_of (rest ++ t.more)), some)

-- what was read, where no last line without newline was done
pub read_is : (left left' : Option (List ℕ)) (content taken rest : List ℕ) (last : Option (List ℕ)) → left ≡ Some content → last ≡ None →
    Took left left' (taken ++ (unwrap_or last [] ++ rest)) → Took (Some content) left' (taken ++ rest)
read_is left left' content taken rest last e none took =
    subst (λ (l : Option (List ℕ)). Took l left' (taken ++ rest)) e
    (subst (λ (o : Option (List ℕ)). Took left left' (taken ++ (unwrap_or o [] ++ rest))) none took)

pub complete : (n : ℕ) (status : Status) (old new : PortsView) (kernel : Option Machine) → Headline n status old new kernel
    → IsComplete status old new
complete n statuses.Done old new kernel h content e trace no_read no_write = inl refl
complete n statuses.Memory old new kernel h content e trace no_read no_write = inr refl
complete n statuses.Usage old new kernel h content e trace no_read no_write = absurd h.ends.0
complete n statuses.AttachFault old new kernel h content e trace no_read no_write = absurd h.ends.0
complete n (statuses.Illegal number) old new kernel h content e trace no_read no_write = absurd h.ends.0
complete n statuses.TooLong old new kernel h content e trace no_read no_write = absurd h.ends.0
complete n statuses.ReadFault old new kernel h content e trace no_read no_write = absurd (no_read h.ends.2.failures)
complete n statuses.WriteFault old new kernel h content e trace no_read no_write = absurd (no_write h.ends.1)
complete n (statuses.BadLine number) old new kernel h content e trace no_read no_write =
    let stops = h.ends.0 in
    absurd (not_bad h.run.lines h.rest content new.source h.replays.lines
    (read_is old.source.left new.source.left content (all_lines h.run.lines) h.rest h.run.last e stops.0 h.replays.read) trace.good stops.3)
complete n statuses.TooMany old new kernel h content e trace no_read no_write =
    let stops = h.ends.0 in
    absurd (not_many h.run.lines h.rest content new.source.left h.replays.lines
    (read_is old.source.left new.source.left content (all_lines h.run.lines) h.rest h.run.last e stops.0 h.replays.read) trace.few stops.1 stops.2)

-- a last line that had no newline, where there is one
lines_of-end : (last : Option (List ℕ)) (rest : List ℕ) (source : SourceView)
    → IfSome last (λ line. IsLine line × (0 < length line) × (rest ≡ []) × IsAtEnd source)
    → lines_of (unwrap_or last []) ≡ option_to_list last
lines_of-end None rest source last = refl
lines_of-end (Some line) rest source last = lines_of-last line last.0.one last.1

-- where nothing is left, the lines that were done are those of all that the source told
pub all_done : (frames : ℕ) (old new : PortsView) (run : Run) (rest written content : List ℕ) → Replays frames old new run rest written →
    rest ≡ [] → IsAtEnd new.source → old.source.left ≡ Some content → lines_of content ≡ done_lines run
all_done frames old new run rest written content r none end e =
    let taken = all_lines run.lines ++ (unwrap_or run.last [] ++ rest) in
    let t = told content taken new.source.left (subst (λ (l : Option (List ℕ)). Took l new.source.left taken) e r.read) in
    let nil = ended_is_nil new.source.left t.more t.left_is end.ended in
    let same : (unwrap_or run.last [] ++ rest) ++ t.more ≡ unwrap_or run.last [] =
    ap (λ (m : List ℕ). (unwrap_or run.last [] ++ rest) ++ m) nil ∙ append-nil (unwrap_or run.last [] ++ rest)
    ∙ ap (λ (m : List ℕ). unwrap_or run.last [] ++ m) none ∙ append-nil (unwrap_or run.last []) in
    split run.lines (unwrap_or run.last [] ++ rest) content t.more r.lines t.parts
    ∙ ap (λ (bytes : List ℕ). run.lines ++ lines_of bytes) same
    ∙ ap (λ (ls : List (List ℕ)). run.lines ++ ls) (lines_of-end run.last rest new.source r.last)

-- a run's transcript, where these are the lines that were done and that was written
pub written_of : (frames : ℕ) (old new : PortsView) (run : Run) (rest written before : List ℕ) (lines : List (List ℕ)) →
    Replays frames old new run rest written → done_lines run ≡ lines → written ≡ text_of_run run.transcript → old.sink.held ≡ Some before
    → WritesTranscript frames old.device lines before new.sink.held
written_of frames old new run rest written before lines r are text held = record {
  transcript = run.transcript;
  does = record {
    state = run.state;
    commands = subst (λ (ls : List (List ℕ)). Transcribes ls run.transcript) are r.commands;
    legal = r.legal;
  };
  wrote = r.wrote ∙ ap (option_map (λ (text : List ℕ). text ++ written)) held
      ∙ ap (λ (text : List ℕ). Some (before ++ text)) text;
}

pub writes_transcript : (n : ℕ) (old new : PortsView) (kernel : Option Machine) (content before : List ℕ) → Headline n statuses.Done old new kernel
    → old.source.left ≡ Some content → old.sink.held ≡ Some before → WritesTranscript n old.device (lines_of content) before new.sink.held
writes_transcript n old new kernel content before h left held =
    let ends = h.ends in
    let lines = all_done n old new h.run h.rest h.written content h.replays ends.0.0 ends.0.1 left in
    written_of n old new h.run h.rest h.written before (lines_of content) h.replays (sym lines) ends.1 held
