use Rattle.std.proofs.Common.{◌≡◌, ◌∙◌, true, false, sym, arith, subst}
use Rattle.std.proofs.lemmas.Bool.{false≢true}
use Rattle.std.proofs.lemmas.Result.{err_from_is_err_and}
use Rattle.av_ports.proofs.Times.{unfailed_then}
use Rattle.av_ports.specs.Ports.{undone}
use Rattle.av_audit_input.specs.Unit.{is_whole, StopsUnit}
use Rattle.av_audit_input.proofs.InputLaws.{fails-open, is-open-then, only-then}
use Rattle.av_audit_input.proofs.ReadUnit.{whole-unit, piece-open, took-on, untaken, with-piece}
use Rattle.av_audit_input.proofs.unit.read_unit.Goals as goal

pub returns-in_err-has_more-clause-only : goal.returns-in_err-has_more-clause-only
returns-in_err-has_more-clause-only g c = only-then _ _ _ c.loop-unit.invariant.only c.has_more.ensures.only

pub returns-in_err-has_more-clause-fails : goal.returns-in_err-has_more-clause-fails
returns-in_err-has_more-clause-fails g c =
    let p = err_from_is_err_and c.from_residual.result c.from_residual.ensures.1 in
    rw (p.1, p.2) (fails-open c.args.extent.now.ended c.loop-unit.extent.ended c.loop-unit.pending (g.P.Ports.view c.args.ports.now)
    (g.P.Ports.view c.loop-unit.ports) (g.P.Ports.view c.has_more.new.ports) c.in_err-has_more.field-0.0
    c.loop-unit.invariant.stays c.loop-unit.invariant.unfailed (λ ended. absurd (false≢true (c.in_err-has_more.ensures.over ended)))
    c.in_err-has_more.ensures.fails)

pub returns-then-is_whole-clause-taken : goal.returns-then-is_whole-clause-taken
returns-then-is_whole-clause-taken g c =
    let was = c.loop-unit.invariant in
    let old = g.P.Ports.view c.args.ports.now in
    let mid = g.P.Ports.view c.loop-unit.ports in
    let now = g.P.Ports.view c.has_more.new.ports in
    let unit = c.loop-unit.unit.items in
    let ahead = c.has_more.new.pending in
    let whole : is_whole unit ahead ≡ true = (λ i. is_whole (sym c.deref.ensures.value i) (sym c.as_slice.ensures.is i))
    ∙ sym c.is_whole.ensures ∙ c.if-is_whole.true in
    let more = rw c.if-branch.true at c.in_ok-has_more.ensures.more in
    let took = took-on (undone c.args.pending.now old) (undone c.loop-unit.pending mid) (undone ahead now) unit was.took c.has_more.ensures.same in
    let f = whole-unit unit c.args.pending.now ahead old now was.part took whole more in
    (f.0, omega (arith, was.counts, c.has_more.ensures.left), f.1)

pub returns-then-is_whole-clause-only : goal.returns-then-is_whole-clause-only
returns-then-is_whole-clause-only g c = only-then _ _ _ c.loop-unit.invariant.only c.has_more.ensures.only

pub loop-unit-preserved : goal.loop-unit-preserved
loop-unit-preserved g c =
    let was = c.loop-unit.invariant in
    let old = g.P.Ports.view c.args.ports.now in
    let mid = g.P.Ports.view c.loop-unit.ports in
    let now = g.P.Ports.view c.has_more.new.ports in
    let unit = c.loop-unit.unit.items in
    let ahead = c.has_more.new.pending in
    let not : is_whole unit ahead ≡ false = (λ i. is_whole (sym c.deref.ensures.value i) (sym c.as_slice.ensures.is i))
    ∙ sym c.is_whole.ensures ∙ c.if-is_whole.false in
    let more = rw c.if-branch.true at c.in_ok-has_more.ensures.more in
    let took = took-on (undone c.args.pending.now old) (undone c.loop-unit.pending mid) (undone ahead now) unit was.took c.has_more.ensures.same in
    let w = with-piece c.has_more.new.extent.left c.take_piece.new.extent.left unit c.take_piece.new.unit.items c.args.pending.now ahead
    c.take_piece.new.pending old now was.part took not c.in_ok-take_piece.ensures.ok in
    record {
      part = w.0;
      took = w.1;
      counts = omega (arith, was.counts, c.has_more.ensures.left, w.2);
      stays = piece-open c.args.extent.now.ended c.has_more.new.extent.ended c.take_piece.new.extent.ended ahead c.take_piece.new.pending old now
          (is-open-then c.args.extent.now.ended c.loop-unit.extent.ended c.has_more.new.extent.ended c.loop-unit.pending ahead old mid now
          was.stays c.in_ok-has_more.ensures.stays) more c.take_piece.ensures.ended;
      only = only-then _ _ _ was.only c.has_more.ensures.only;
      unfailed = unfailed_then _ _ _ was.unfailed c.in_ok-has_more.ensures.fails;
      kept = c.has_more.ensures.kept ∙ was.kept;
    }

pub returns-in_err-take_piece-clause-stops : goal.returns-in_err-take_piece-clause-stops
returns-in_err-take_piece-clause-stops g c =
    let was = c.loop-unit.invariant in
    let old = g.P.Ports.view c.args.ports.now in
    let mid = g.P.Ports.view c.loop-unit.ports in
    let now = g.P.Ports.view c.has_more.new.ports in
    let unit = c.loop-unit.unit.items in
    let ahead = c.has_more.new.pending in
    let e = c.in_err-take_piece.field-0.0 in
    let not : is_whole unit ahead ≡ false = (λ i. is_whole (sym c.deref.ensures.value i) (sym c.as_slice.ensures.is i))
    ∙ sym c.is_whole.ensures ∙ c.if-is_whole.false in
    let took = took-on (undone c.args.pending.now old) (undone c.loop-unit.pending mid) (undone ahead now) unit was.took c.has_more.ensures.same in
    let p = err_from_is_err_and c.from_residual-in_err-take_piece.result c.from_residual-in_err-take_piece.ensures.1 in
    let stops = untaken e c.args.extent.now.left c.has_more.new.extent.left unit c.args.pending.now ahead old now was.part took
    (omega (arith, was.counts, c.has_more.ensures.left)) c.has_more.ensures.near not c.in_err-take_piece.ensures.err in
    let before = undone c.args.pending.now old in
    let there = subst (λ u. StopsUnit e c.args.extent.now.left u before ahead now) (sym c.in_err-take_piece.ensures.same_unit) stops in
    rw (p.1, p.2) (subst (λ a. StopsUnit e c.args.extent.now.left c.take_piece.new.unit.items before a now)
    (sym c.in_err-take_piece.ensures.same) there)

pub returns-in_err-take_piece-clause-only : goal.returns-in_err-take_piece-clause-only
returns-in_err-take_piece-clause-only g c = only-then _ _ _ c.loop-unit.invariant.only c.has_more.ensures.only

pub returns-clause-only : goal.returns-clause-only
returns-clause-only g c = only-then _ _ _ c.loop-unit.invariant.only c.has_more.ensures.only
