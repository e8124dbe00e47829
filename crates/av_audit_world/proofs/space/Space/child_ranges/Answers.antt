use Rattle.std.proofs.Common.{ap, sym, ◌∙◌}
use Rattle.std.specs.Prelude.{option_and_then}
use Rattle.av_audit_ranges.specs.Ranges.{marks_at}
use Rattle.av_audit_world.specs.Child.{marks_of_child}
use Rattle.av_audit_world.proofs.ChildLaws.{made-further, made-none}
use Rattle.av_audit_world.proofs.space.Space.child_ranges.Goals as goal

pub loop-at-preserved : goal.loop-at-preserved
loop-at-preserved c =
    let said = marks_at c.args.self.now.ranges in record {
      high = c.same_up_to-at.ensures.most;
      made = made-further (marks_at c.loop-at.made) (marks_at c.put.new.self) said c.loop-at.at c.same_up_to-at.result
          c.same_up_to-at.ensures.above c.same_up_to-at.ensures.same c.loop-at.invariant.made c.in-Some.marks
          (ap (option_and_then marks_of_child) (sym c.marks.ensures) ∙ sym c.marks_for_child.ensures ∙ c.in-Some.is) c.in_ok-put.ensures.ok;
    }

pub loop-at-preserved-in_default : goal.loop-at-preserved-in_default
loop-at-preserved-in_default c =
    let made = marks_at c.loop-at.made in
    let said = marks_at c.args.self.now.ranges in record {
      high = c.same_up_to-at.ensures.most;
      made = made-none made made said c.loop-at.at c.same_up_to-at.result c.same_up_to-at.ensures.above c.same_up_to-at.ensures.same
          c.loop-at.invariant.made
          (ap (option_and_then marks_of_child) (sym c.marks.ensures) ∙ sym c.marks_for_child.ensures ∙ c.in_default.is);
    }
