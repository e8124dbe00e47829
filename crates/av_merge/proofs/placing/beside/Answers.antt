use Rattle.std.proofs.Common.{◌∙◌, ◌≤◌, ap, arith}
use Rattle.av_merge.specs.Pages.{beginning_at, ending_at}
use Rattle.av_merge.proofs.Beside.{beginning_is, ending_is}
use Rattle.av_merge.proofs.placing.beside.Goals as goal

pub returns-clause-below : goal.returns-clause-below
returns-clause-below c =
    let here : c.args.from ≤ c.args.from = omega arith in
    c.ending.ensures ∙ ap (ending_at c.args.from) c.around-below.ensures.below
    ∙ ending_is c.args.tree.now c.args.from c.requires.spans c.requires.low (c.requires.free c.args.from here c.requires.some)

pub returns-clause-above : goal.returns-clause-above
returns-clause-above c =
    c.beginning.ensures ∙ ap (beginning_at c.args.to) c.around-below.ensures.above
    ∙ beginning_is c.args.tree.now c.args.from c.args.to c.requires.spans c.requires.some c.requires.free
