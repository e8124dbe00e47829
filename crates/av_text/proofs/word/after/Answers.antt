use Rattle.std.proofs.lemmas.Bool.Decides.{Decides-eqb}
use Rattle.std.proofs.lemmas.Slice.Eq.{strip_prefix_is}
use Rattle.av_text.proofs.WordLaws.{after_is}
use Rattle.av_text.proofs.word.after.Goals as goal

pub returns : goal.returns
returns c = after_is c.args.front.now c.args.bytes.now c.strip_prefix.result
    (strip_prefix_is Decides-eqb c.args.bytes.now c.args.front.now c.strip_prefix.result c.strip_prefix.ensures.cases)
