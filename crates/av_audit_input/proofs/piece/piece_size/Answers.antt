use Rattle.std.proofs.Common.{inl}
use Rattle.std.proofs.lemmas.Bool.{eqb-true}
use Rattle.av_audit_input.proofs.UnitLaws.{ends-with}
use Rattle.av_audit_input.proofs.piece.piece_size.Goals as goal

pub returns-in-Some-clause-whole : goal.returns-in-Some-clause-whole
returns-in-Some-clause-whole c =
    inl (ends-with c.args.bytes.now c.in-Some.size c.in-Some.ensures.0.high
    (eqb-true _ 10 c.in-Some.ensures.1))
