use Rattle.std.proofs.Common.{ap, subst}
use Rattle.std.specs.BTreeMap.{is_at}
use Rattle.av_base.specs.Keys.{key_cmp}
use Rattle.av_audit_index.specs.Keys.{AreRising, list_of}
use Rattle.av_audit_index.proofs.KeysLaws.{left-rises, one-rises}
use Rattle.av_audit_index.proofs.keys.Keys.remove.Goals as goal

pub invariant_of-self-in-One : goal.invariant_of-self-in-One
invariant_of-self-in-One c = left-rises _ _ (is_at (key_cmp c.args.key)) (one-rises c.in-One.first) c.without_one-kept.ensures.kept

pub invariant_of-self-in-Two : goal.invariant_of-self-in-Two
invariant_of-self-in-Two c =
    left-rises _ _ (is_at (key_cmp c.args.key)) (subst AreRising (ap list_of c.in-Two.is) c.self.invariant) c.without_two-kept.ensures.kept

pub returns-in-One-clause-rising : goal.returns-in-One-clause-rising
returns-in-One-clause-rising c = (
  subst AreRising c.self.view_is c.self.invariant,
  left-rises _ _ (is_at (key_cmp c.args.key)) (one-rises c.in-One.first) c.without_one-kept.ensures.kept,
)

pub returns-in-Two-clause-rising : goal.returns-in-Two-clause-rising
returns-in-Two-clause-rising c = (
  subst AreRising c.self.view_is c.self.invariant,
  left-rises _ _ (is_at (key_cmp c.args.key)) (subst AreRising (ap list_of c.in-Two.is) c.self.invariant) c.without_two-kept.ensures.kept,
)
