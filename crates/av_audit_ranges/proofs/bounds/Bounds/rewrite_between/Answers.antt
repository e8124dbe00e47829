use Rattle.std.proofs.Common.{arith, sym, ap, ◌∙◌}
use Rattle.av_audit_ranges.specs.Marks.{marks_of_rewrite}
use Rattle.av_audit_ranges.specs.Ranges.{bound_at}
use Rattle.av_audit_ranges.proofs.MarksLaws.{below-run, next-bound, rewrite-step, tight-step}
use Rattle.av_audit_ranges.proofs.bounds.Bounds.rewrite_between.Goals as goal

pub loop-at-preserved : goal.loop-at-preserved
loop-at-preserved c =
    let old = bound_at c.args.self.now in
    let now = bound_at c.loop-at.self in
    let new = bound_at c.say.new.self in
    let at = c.loop-at.at in
    let next = c.next_up_to-next.result in
    let low = c.loop-at.invariant.low in
    let above = c.next_up_to-next.ensures.above in
    let none = c.next_up_to-next.ensures.none in
    let rest = c.loop-at.invariant.rest in
    let others = c.say.ensures.others in
    record {
      low = omega (arith, low, above);
      high = c.next_up_to-next.ensures.most;
      bound = next-bound old now next c.args.end c.next_up_to-next.ensures.most
          (rest next (omega (arith, above))) c.next_up_to-next.ensures.bound c.requires.end;
      below = sym (below-run new at next above (λ q a b. others q (λ e. omega (arith, e, a)) ∙ none q a b)
          ∙ c.say.ensures.at);
      done = rewrite-step old now new c.args.from at next (marks_of_rewrite c.args.rewrite) low c.loop-at.invariant.bound rest
          c.loop-at.invariant.done none others
          (c.say.ensures.at ∙ c.of-marks.ensures ∙ ap (marks_of_rewrite c.args.rewrite) c.run-old.ensures.marks);
      before = λ q a. others q (λ e. omega (arith, e, a, low)) ∙ c.loop-at.invariant.before q a;
      tight = tight-step c.loop-at.self c.say.new.self c.args.from at next c.loop-at.invariant.tight c.say.ensures.tight others none;
      rest = λ q a. others q (λ e. omega (arith, e, a, above)) ∙ rest q (omega (arith, a, above));
    }
