use Rattle.std.proofs.Common.{ap, is_some, sym}
use Rattle.std.specs.Prelude.{false}
use Rattle.av_audit_ranges.specs.Ranges.{bound_at, is_mapped}
use Rattle.av_audit_ranges.proofs.HolesLaws.{index-same}
use Rattle.av_audit_ranges.proofs.MarksLaws.{marks-none, tight-none}
use Rattle.av_audit_ranges.proofs.ranges.Ranges.new.Goals as goal

pub invariant_of-result : goal.invariant_of-result
invariant_of-result c = record {
  top = λ q high. marks-none (bound_at c.new.result) q (λ p low. c.new.ensures p);
  tight = λ q. tight-none c.new.result q (c.new.ensures q);
  index = index-same (λ page. false) (is_mapped c.new.result) c.one_hole.result
      (λ q. ap is_some (sym (marks-none (bound_at c.new.result) q (λ p low. c.new.ensures p)))) c.one_hole.ensures;
}

pub returns : goal.returns
returns c = λ page. marks-none (bound_at c.new.result) page (λ p low. c.new.ensures p)
