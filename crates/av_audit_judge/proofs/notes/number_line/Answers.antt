use Rattle.std.proofs.Common.{◌-◌, sym, subst}
use Rattle.av_text.specs.Number.{IsNumberIn}
use Rattle.av_audit_judge.proofs.NoteLaws.{number-no-line, number-none}
use Rattle.av_audit_judge.proofs.notes.number_line.Goals as goal

pub returns-in-None : goal.returns-in-None
returns-in-None c = number-no-line c.args.bound c.args.bytes.now c.in-None.ensures.none

pub returns-in-None-number_in : goal.returns-in-None-number_in
returns-in-None-number_in c =
    let none = c.in-None-number_in.ensures.none in
    number-none c.args.bound c.args.bytes.now c.in-Some.word.now c.in-Some.rest.now c.requires c.ranges.bound.fits c.in-Some.ensures.found
    (λ n fits. none n (subst (λ b. IsNumberIn 0 (b - 1) n) (sym c.from.ensures) fits))
