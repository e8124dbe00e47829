use Rattle.std.proofs.Common.{◌≡◌, true, arith, subst, sym}
use Rattle.av_audit_ranges.specs.Holes.{IsLongest, is_noted}
use Rattle.av_audit_ranges.proofs.HolesLaws.{before-shorter, last-ends, no-both, none-gives, shorter-before, shorter-than}
use Rattle.av_audit_ranges.proofs.holes.Holes.longest.Goals as goal

pub returns-in_err-length : goal.returns-in_err-length
returns-in_err-length c = none-gives _ c.from_residual.result c.from_residual.ensures (λ other noted less.
    absurd (no-both (subst (λ hs. is_noted hs other ≡ true) (sym c.self.view_is) noted)
    ((c.range.ensures.in_range tt).5 c.in_err-length.ensures.steps.0 other (tt, before-shorter other c.args.fewer less))))

pub returns-then-length-n : goal.returns-then-length-n
returns-then-length-n c = λ other noted less.
    let r = c.range.ensures.in_range tt in
    let k = c.in_ok-length.field-0.now in
    let small = c.if-length-n.true in
    let last = r.4 k _ c.in_ok-length.ensures.steps other (tt, before-shorter other c.args.fewer less)
    (subst (λ hs. is_noted hs other ≡ true) (sym c.self.view_is) noted) in
    shorter-than k other c.args.n last small

pub returns : goal.returns
returns c =
    let r = c.range.ensures.in_range tt in
    let k = c.in_ok-length.field-0.now in
    let long = c.if-length-n.false in
    let is = r.3 k _ c.in_ok-length.ensures.steps in
    subst (λ hs. IsLongest hs c.args.n c.args.fewer k) c.self.view_is (record {
      noted = is.1;
      long = omega (arith, long);
      short = shorter-before k c.args.fewer is.0.1;
      fits = (c.self.invariant k is.1).1;
      last = λ other noted less low.
          last-ends k other (r.4 k _ c.in_ok-length.ensures.steps other (tt, before-shorter other c.args.fewer less) noted) low;
    })
