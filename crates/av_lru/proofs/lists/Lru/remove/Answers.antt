use Rattle.av_lru.proofs.Steps.{stays, before_in, after_in, is_some, left}
use Rattle.av_lru.proofs.lists.Lru.remove.Goals as goal

pub skip-requires-clause-before_in : goal.skip-requires-clause-before_in
skip-requires-clause-before_in c =
    before_in _ _ _ _ c.self.invariant _ c.self.view_is c.args.frame c.requires _ c.index.ensures c.in-Some.which c.in-Some.is

pub skip-requires-clause-after_in : goal.skip-requires-clause-after_in
skip-requires-clause-after_in c =
    after_in _ _ _ _ c.self.invariant _ c.self.view_is c.args.frame c.requires _ c.index.ensures c.in-Some.which c.in-Some.is

pub down-requires : goal.down-requires
down-requires c = is_some _ _ _ _ c.self.invariant _ c.self.view_is c.args.frame c.requires _ c.index.ensures c.in-Some.which c.in-Some.is

pub invariant_of-self : goal.invariant_of-self
invariant_of-self c = (left _ _ _ _ c.self.invariant _ c.self.view_is c.args.frame c.requires _ c.index.ensures c.in-Some.which c.in-Some.is _ _ _
    c.skip.ensures.next_len c.skip.ensures.prev_len c.skip.ensures.next c.skip.ensures.prev c.down.ensures).whole

pub returns-in-Some : goal.returns-in-Some
returns-in-Some c = (left _ _ _ _ c.self.invariant _ c.self.view_is c.args.frame c.requires _ c.index.ensures c.in-Some.which c.in-Some.is _ _ _
    c.skip.ensures.next_len c.skip.ensures.prev_len c.skip.ensures.next c.skip.ensures.prev c.down.ensures).seen

pub returns-in_default : goal.returns-in_default
returns-in_default c = stays _ _ _ _ c.self.invariant _ c.self.view_is c.args.frame c.requires _ c.index.ensures c.in_default.is
