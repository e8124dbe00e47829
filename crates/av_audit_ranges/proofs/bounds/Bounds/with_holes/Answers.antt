use Rattle.std.proofs.Common.{◌≡◌, ◌-◌, arith, subst, sym, ◌∙◌}
use Rattle.std.specs.Prelude.{IfSome}
use Rattle.av_audit_ranges.specs.Holes.{AreHolesBut}
use Rattle.av_audit_ranges.specs.Ranges.{is_mapped}
use Rattle.av_audit_ranges.proofs.HolesLaws.{all-holes, ok-holds, with-hole, with-none}
use Rattle.av_audit_ranges.proofs.bounds.Bounds.with_holes.Goals as goal

pub loop-at-init : goal.loop-at-init
loop-at-init c =
    let order = c.requires.order in
    record {
      low = omega arith;
      high = order;
      below = λ less free. c.requires.below;
      holes = subst (λ o. IfSome o (AreHolesBut (is_mapped c.args.self.now) c.args.from c.args.end)) c.in_ok-holes.was c.requires.holes;
    }

pub piece-next-requires-clause-low : goal.piece-next-requires-clause-low
piece-next-requires-clause-low c =
    let low = c.loop-at.invariant.low in
    let least = c.requires.low in
    omega (arith, low, least)

pub piece-next-requires-clause-below : goal.piece-next-requires-clause-below
piece-next-requires-clause-below c = c.loop-at.invariant.below c.loop-at-test.true

pub loop-at-preserved-in_ok-ok : goal.loop-at-preserved-in_ok-ok
loop-at-preserved-in_ok-ok c =
    let p = c.piece-next.ensures in
    let at = c.loop-at.at in
    let next = c.piece-next.result.0 in
    let low = c.loop-at.invariant.low in
    let above = p.above in
    record {
      low = omega (arith, low, above);
      high = p.most;
      below = p.next;
      holes = with-hole (is_mapped c.args.self.now) at next above c.args.end c.loop-at.holes c.put.new.self p.most
          (p.hole c.if-is_free.true (next - at) (omega (arith, above)))
          (ok-holds c.put.result c.in_ok-ok.field-0 (sym c.ok.ensures.value ∙ c.in_ok-ok.was) c.put.ensures.ok) c.loop-at.invariant.holes;
    }

pub loop-at-preserved : goal.loop-at-preserved
loop-at-preserved c =
    let p = c.piece-next.ensures in
    let low = c.loop-at.invariant.low in
    let above = p.above in
    record {
      low = omega (arith, low, above);
      high = p.most;
      below = p.next;
      holes = with-none (is_mapped c.args.self.now) c.loop-at.at c.piece-next.result.0 above c.args.end c.loop-at.holes
          (p.taken c.if-is_free.false) c.loop-at.invariant.holes;
    }

pub returns : goal.returns
returns c =
    let high = c.loop-at.invariant.high in
    let over = c.loop-at-test.false in
    let here : c.loop-at.at ≡ c.args.end = omega (arith, high, over) in
    all-holes (is_mapped c.args.self.now) c.args.end c.loop-at.holes
    (subst (λ x. AreHolesBut (is_mapped c.args.self.now) x c.args.end c.loop-at.holes) here c.loop-at.invariant.holes)
