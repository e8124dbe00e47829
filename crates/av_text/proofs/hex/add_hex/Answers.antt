use Rattle.std.proofs.Common.{◌++◌, ◌<◌, ap, ◌∙◌, arith}
use Rattle.std.proofs.lemmas.Result.{on_ok_weaker}
use Rattle.av_text.proofs.HexLaws.{IsWritten, more_room, room_for_two, written_next, written_two, written_last}
use Rattle.std.proofs.Common.{List, ℕ}
use Rattle.av_text.proofs.hex.add_hex.Goals as goal
use Rattle.av_text.proofs.hex.add_hex.Goals.{then-rest-ge16, else-rest-ge16}

pub bounds-digits-at : goal.bounds-digits-at
bounds-digits-at c = c.loop-rest.invariant.within

pub overflow_sub-digits : goal.overflow_sub-digits
overflow_sub-digits c =
    let room = room_for_two c.loop-rest.rest c.loop-rest.at c.loop-rest-test.true c.loop-rest.invariant.room in omega arith

pub bounds-digits-at-in-loop-rest : goal.bounds-digits-at-in-loop-rest
bounds-digits-at-in-loop-rest c = let within = c.loop-rest.invariant.within in omega arith

pub overflow_sub-at : goal.overflow_sub-at
overflow_sub-at c =
    let room = room_for_two c.loop-rest.rest c.loop-rest.at c.loop-rest-test.true c.loop-rest.invariant.room in omega arith

pub loop-rest-preserved : goal.loop-rest-preserved
loop-rest-preserved c =
    let room = room_for_two c.loop-rest.rest c.loop-rest.at c.loop-rest-test.true c.loop-rest.invariant.room in
    written_two c.args.n c.loop-rest.rest c.loop-rest.at c.loop-rest.digits _ _ c.loop-rest-test.true (omega arith)
    room c.pair_in_table-high.ensures.high c.pair_in_table-high.ensures.low c.loop-rest.invariant

pub returns : goal.returns
returns c =
    let w : IsWritten c.args.n c.if-rest-ge16.rest c.if-rest-ge16.at c.if-rest-ge16.digits =
    elim c.if-rest-ge16.branch [
      | then-rest-ge16 w ↦
          let room = more_room c.loop-rest.rest c.loop-rest.at w.if-rest-ge16.true c.loop-rest.invariant.room in
          rw (w.digits-is, w.at-is, w.rest-is) (written_next c.args.n c.loop-rest.rest c.loop-rest.at _ c.loop-rest.digits w.table_digit.result
          w.if-rest-ge16.true (omega arith) (omega (arith, room)) w.table_digit.ensures c.loop-rest.invariant)
      | else-rest-ge16 w ↦ rw (w.digits-is, w.at-is, w.rest-is) c.loop-rest.invariant
    ] in
    let small : c.if-rest-ge16.rest < 16 =
    elim c.if-rest-ge16.branch [
      | then-rest-ge16 w ↦ omega (arith, w.rest-is, c.loop-rest-test.false)
      | else-rest-ge16 w ↦ omega (arith, w.rest-is, w.if-rest-ge16.false)
    ] in
    on_ok_weaker c.append.result (λ e. e ∙ ap (λ (t : List ℕ). c.args.text.now ++ t)
    (written_last c.args.n c.if-rest-ge16.rest c.if-rest-ge16.at c.if-rest-ge16.digits c.table_digit-2.result small c.table_digit-2.ensures w)) c.append.ensures.ok
