use Rattle.std.proofs.Common.{sym, ◌∙◌}
use Rattle.av_replay.proofs.Works.{next-line, no-bytes, process-begins}
use Rattle.av_replay.proofs.work.WorkSource.make_line.Goals as goal

pub returns-then-not-self-clause-same : goal.returns-then-not-self-clause-same
returns-then-not-self-clause-same g c =
    let s = c.args.self.now in
    process-begins s.lines s.number s.draws s.rest.now s.is_begun c.if-not-self.true
    (no-bytes s.rest.now (sym c.is_empty.ensures ∙ c.if-not-is_empty.false))

pub returns-then-self-gt0-clause-same : goal.returns-then-self-gt0-clause-same
returns-then-self-gt0-clause-same g c =
    let s = c.args.self.now in
    let drawn = c.draw_line-number.ensures in
    next-line s.lines s.number _ _ _ s.draws s.rest.now s.is_begun c.if-not-self.false c.if-self-gt0.true drawn.draws drawn.number
    c.template_of-self.ensures (no-bytes s.rest.now (sym c.is_empty.ensures ∙ c.if-not-is_empty.false))
