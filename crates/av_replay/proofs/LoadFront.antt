-- The lines of a load that a replay did.
use Rattle.std.proofs.Common.{◌≡◌, ℕ, ◌+◌, ◌<◌, List, [], ◌∷◌, ◌++◌, length, length-append, Option, Some, None, refl, sym, ap, ◌∙◌, append_assoc, append-nil}
use Rattle.std.proofs.Common.{arith, inl, inr}
use Rattle.std.specs.Prelude.{unwrap_or, IfSome}
use Rattle.std.specs.Option.{option_to_list}
use Rattle.std.specs.List.{AllByRecursion}
use Rattle.av_io.specs.Source.{HasEnded, SourceView, Took}
use Rattle.av_ports.specs.Line.{IsLine}
use Rattle.av_replay.specs.Replay.{all_lines}
use Rattle.av_replay.specs.Trace.{lines_of}
use Rattle.av_replay.specs.Turn.{StandsNext}
use Rattle.av_replay.proofs.Traces.{IsFirst, line_next, lines_of-joined, lines_of-last, told, ended_is_nil}

-- lines are read again as they were
pub same : (lines : List (List ℕ)) → AllByRecursion IsLine lines → lines ≡ lines_of (all_lines lines)
same lines all = sym (ap lines_of (sym (append-nil (all_lines lines))) ∙ lines_of-joined lines [] all ∙ append-nil lines)

-- no line stands next where nothing is left
none_next : (line rest : List ℕ) (source : SourceView) → rest ≡ [] → StandsNext line rest source → ⊥
none_next line rest source none (inl newline) =
    let some : length rest ≡ length line + length (10 ∷ newline.0) = ap length newline.1 ∙ length-append line (10 ∷ newline.0) in
    omega (arith, some, ap length none)
none_next line rest source none (inr last) = omega (arith, ap length last.0, ap length none, last.1)

-- the lines of a load that were done, and the others; there is none where the input was read to its end
pub record Front (load done : List (List ℕ)) (rest : List ℕ) (left' : Option (List ℕ)) : Type 0 where
  pub others : List (List ℕ)
  pub are : load ≡ done ++ others
  pub all : rest ≡ [] → HasEnded left' → others ≡ []
  pub next : (line : List ℕ) (source : SourceView) → source.left ≡ left' → IsLine line → StandsNext line rest source → IsFirst line others

pub front : (load lines : List (List ℕ)) (last : Option (List ℕ)) (rest : List ℕ) (left' : Option (List ℕ)) → AllByRecursion IsLine load
    → AllByRecursion IsLine lines →
    Took (Some (all_lines load)) left' (all_lines lines ++ (unwrap_or last [] ++ rest)) →
    IfSome last (λ line. IsLine line × (0 < length line) × (rest ≡ []) × HasEnded left') → Front load (lines ++ option_to_list last) rest left'
front load lines None rest left' every all took ended =
    let t = told (all_lines load) (all_lines lines ++ rest) left' took in
    record {
      others = lines_of (rest ++ t.more);
      are = same load every ∙ ap lines_of (t.parts ∙ append_assoc (all_lines lines) rest t.more) ∙ lines_of-joined lines (rest ++ t.more) all
          ∙ ap (λ (ls : List (List ℕ)). ls ++ lines_of (rest ++ t.more)) (sym (append-nil lines));
      all = λ none end. ap (λ (r : List ℕ). lines_of (r ++ t.more)) none ∙ ap lines_of (ended_is_nil left' t.more t.left_is end);
      next = λ line source left is stands. line_next line rest t.more source (left ∙ t.left_is) is stands;
    }
front load lines (Some line) rest left' every all took last =
    let t = told (all_lines load) (all_lines lines ++ (line ++ rest)) left' took in
    let more = ended_is_nil left' t.more t.left_is last.3 in
    let text : (line ++ rest) ++ t.more ≡ line = ap (λ (r : List ℕ). (line ++ r) ++ t.more) last.2 ∙ ap (λ (m : List ℕ). (line ++ []) ++ m) more
    ∙ append-nil (line ++ []) ∙ append-nil line in
    record {
      others = [];
      are = same load every
          ∙ ap lines_of (t.parts ∙ append_assoc (all_lines lines) (line ++ rest) t.more ∙ ap (λ (r : List ℕ). all_lines lines ++ r) text)
          ∙ lines_of-joined lines line all ∙ ap (λ (ls : List (List ℕ)). lines ++ ls) (lines_of-last line last.0.one last.1)
          ∙ sym (append-nil (lines ++ line ∷ []));
      all = λ none end. refl;
      next = λ line source left is stands. absurd (none_next line rest source last.2 stands);
    }
