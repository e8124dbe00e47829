use Rattle.av_plain.proofs.Choice.Giving.{gives-first}
use Rattle.av_plain.proofs.choices.the_greatest_priority_gives.Goals as goal

pub returns : goal.returns
returns c = gives-first
