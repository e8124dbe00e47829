use Rattle.std.proofs.Common.{◌≡◌, ℕ, Bool, ◌+◌, ◌-◌, ◌<◌, ◌≤◌, arith, sym, ap, refl, ◌∙◌}
use Rattle.av_audit_ranges.specs.Ranges.{marks_at}
use Rattle.av_audit_world.specs.Kinds.{is_kind, pages_before}
use Rattle.av_audit_world.proofs.KindLaws.{before-further}
use Rattle.av_audit_world.proofs.space.Space.before.Goals as goal

pub loop-at-preserved : goal.loop-at-preserved
loop-at-preserved c =
    let at = c.loop-at.at in
    let to = c.same_up_to-at.result in
    let end = c.args.from + c.args.n in
    let test : ℕ → Bool = λ page. is_kind c.args.kind (marks_at c.args.self.now.ranges page) in
    let low = c.loop-at.invariant.low in
    let above = c.same_up_to-at.ensures.above in
    let most = c.same_up_to-at.ensures.most in record {
      low = omega (arith, low, above);
      high = most;
      end = refl;
      same = c.loop-at.invariant.same
          ∙ ap (λ x. (at - c.args.from) + x) (before-further test at end to above most
          (ap (is_kind c.args.kind) (sym c.marks.ensures) ∙ sym c.has.ensures ∙ c.if-has.false)
          (λ q from under. ap (is_kind c.args.kind) (c.same_up_to-at.ensures.same q from under)))
          ∙ added c.args.from at to (pages_before test to (end - to)) low above;
    }
  where
    added : (from at to x : ℕ) → from ≤ at → at < to → (at - from) + ((to - at) + x) ≡ (to - from) + x
    added from at to x a b = omega (arith, a, b)
