use Rattle.av_audit_area.proofs.WordLaws.{cut-not, cut-same}
use Rattle.av_audit_area.proofs.words.piece.Goals as goal

pub returns-in-None-clause-cut : goal.returns-in-None-clause-cut
returns-in-None-clause-cut c = λ first others none is.
    absurd (cut-not c.args.byte c.args.bytes.now first others c.in-None.ensures.none is)

pub returns-in-Some-clause-cut : goal.returns-in-Some-clause-cut
returns-in-Some-clause-cut c = λ first others none is.
    cut-same c.args.byte c.args.bytes.now c.in-Some.first.now c.in-Some.others.now first others c.in-Some.ensures.found none is

pub returns-in-Some-clause-all : goal.returns-in-Some-clause-all
returns-in-Some-clause-all c = λ none.
    absurd (cut-not c.args.byte c.args.bytes.now c.in-Some.first.now c.in-Some.others.now none c.in-Some.ensures.found.whole)
