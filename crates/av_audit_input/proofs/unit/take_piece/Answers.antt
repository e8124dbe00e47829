use Rattle.std.proofs.Common.{take, drop, sym, arith}
use Rattle.std.proofs.lemmas.List.{take-append-drop}
use Rattle.av_audit_input.proofs.UnitLaws.{is-piece}
use Rattle.av_audit_input.proofs.unit.take_piece.Goals as goal

pub returns-then-size-extent-clause-err : goal.returns-then-size-extent-clause-err
returns-then-size-extent-clause-err c =
    let ahead = c.args.pending.now in
    let size = c.piece_size-size.result in
    let e = c.piece_size-size.ensures in
    let is = c.as_slice-ahead.ensures.is in
    let piece = is-piece size ahead e.some (rw is at e.within) (rw is at e.one) in
    (take size ahead, drop size ahead, piece.0, sym (take-append-drop size ahead), omega (arith, piece.1, c.if-size-extent.true))
