use Rattle.std.proofs.Common.{false, cond, sym, ap, ◌∙◌}
use Rattle.std.specs.BTreeMap.{is_at}
use Rattle.std.specs.Ordering.{nat_cmp}
use Rattle.av_base.specs.Words.{is_in}
use Rattle.av_audit_book.proofs.MergedLaws.{none-without, without-is}
use Rattle.av_audit_book.proofs.merged.MergedFrames.remove.Goals as goal

pub returns-then-not-contains : goal.returns-then-not-contains
returns-then-not-contains c =
    sym (none-without c.args.frame c.args.self.now (sym c.contains.ensures ∙ c.if-not-contains.true))

pub invariant_of-self : goal.invariant_of-self
invariant_of-self c = λ f. c.remove-2.ensures.updates.0 f ∙ ap (cond (is_at (nat_cmp c.args.frame) f) false) (c.self.invariant f)
    ∙ sym (without-is c.self.inside.frames f c.args.frame) ∙ ap (is_in f) (sym c.remove.ensures)
