use Rattle.std.proofs.Common.{ap, subst}
use Rattle.av_audit_index.specs.Keys.{AreRising, list_of}
use Rattle.av_audit_index.proofs.KeysLaws.{one-rises, put-rises, two-rise}
use Rattle.av_audit_index.proofs.keys.Keys.insert.Goals as goal

pub invariant_of-self : goal.invariant_of-self
invariant_of-self c = one-rises (c.args.key, c.args.seen)

pub returns-in-Empty-clause-rising : goal.returns-in-Empty-clause-rising
returns-in-Empty-clause-rising c = (subst AreRising c.self.view_is c.self.invariant, one-rises (c.args.key, c.args.seen))

pub invariant_of-self-in-One : goal.invariant_of-self-in-One
invariant_of-self-in-One c = put-rises _ _ c.args.key c.args.seen (one-rises c.in-One.first) c.beside_one-kept.ensures.kept

pub returns-in-One-clause-rising : goal.returns-in-One-clause-rising
returns-in-One-clause-rising c = (
  subst AreRising c.self.view_is c.self.invariant,
  put-rises _ _ c.args.key c.args.seen (one-rises c.in-One.first) c.beside_one-kept.ensures.kept,
)

pub beside_two-requires : goal.beside_two-requires
beside_two-requires c = two-rise c.in-Two.first c.in-Two.second (subst AreRising (ap list_of c.in-Two.is) c.self.invariant)

pub invariant_of-self-in-Two : goal.invariant_of-self-in-Two
invariant_of-self-in-Two c =
    put-rises _ _ c.args.key c.args.seen (subst AreRising (ap list_of c.in-Two.is) c.self.invariant) c.in_ok-kept-in-Two.ensures.0

pub returns-in_ok-kept-in-Two-clause-rising : goal.returns-in_ok-kept-in-Two-clause-rising
returns-in_ok-kept-in-Two-clause-rising c = (
  subst AreRising c.self.view_is c.self.invariant,
  put-rises _ _ c.args.key c.args.seen (subst AreRising (ap list_of c.in-Two.is) c.self.invariant) c.in_ok-kept-in-Two.ensures.0,
)
