use Rattle.std.proofs.Common.{◌≡◌, ◌∷◌, [], List, ℕ, ◌++◌, append_assoc, ap, ◌∙◌}
use Rattle.std.specs.Prelude.{codes, Result, Ok, Err}
use Rattle.std.specs.List.{flat_map}
use Rattle.av_text.specs.Word.{Adds, field, line}
use Rattle.av_trace.specs.Reply.{out_words}
use Rattle.av_trace.proofs.reply.no_frame_line.Goals as goal

-- one piece, and then another
two_pieces : {T E : Type 0} (r : Result T E) (old mid new first second : List ℕ) → mid ≡ old ++ first → Adds r mid new second
    → Adds r old new (first ++ second)
two_pieces (Ok x) old mid new first second e h = h ∙ ap (λ t. t ++ second) e ∙ append_assoc old first second
two_pieces (Err x) old mid new first second e h = tt

pub returns : goal.returns
returns c = two_pieces c.add_out.result c.args.text.now c.word_line.new.text c.add_out.new.text (line (codes "err") (codes "ENOMEM" ∷ []))
    (flat_map field (out_words c.args.out)) c.in_ok-word_line.ensures c.add_out.ensures
