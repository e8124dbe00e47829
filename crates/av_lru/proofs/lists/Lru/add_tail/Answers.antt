use Rattle.std.proofs.Common.{◌∙◌}
use Rattle.av_lru.proofs.Steps.{last_in, not_head, not_last, has_room, pushed}
use Rattle.av_lru.proofs.lists.Lru.add_tail.Goals as goal

pub splice-requires-clause-before_in : goal.splice-requires-clause-before_in
splice-requires-clause-before_in c =
    last_in _ _ _ _ c.self.invariant _ c.self.view_is c.args.which c.args.frame _ _ c.requires.in_range c.requires.not_active
    c.requires.not_inactive (c.len.ensures ∙ c.self.inside.places.ok.0) c.head-head.ensures _ c.index-last.ensures

pub splice-requires-clause-apart : goal.splice-requires-clause-apart
splice-requires-clause-apart c = (
  not_last _ _ _ _ c.self.invariant _ c.self.view_is c.args.which c.args.frame _ _ c.requires.in_range c.requires.not_active c.requires.not_inactive
      (c.len.ensures ∙ c.self.inside.places.ok.0) c.head-head.ensures _ c.index-last.ensures,
  not_head _ _ _ _ c.self.invariant _ c.self.view_is c.args.which c.args.frame _ _ c.requires.in_range c.requires.not_active c.requires.not_inactive
      (c.len.ensures ∙ c.self.inside.places.ok.0) c.head-head.ensures,
)

pub up-requires : goal.up-requires
up-requires c = has_room _ _ _ _ c.self.invariant _ c.self.view_is c.args.which c.args.frame _ _ c.requires.in_range c.requires.not_active
    c.requires.not_inactive (c.len.ensures ∙ c.self.inside.places.ok.0) c.head-head.ensures

pub invariant_of-self : goal.invariant_of-self
invariant_of-self c = (pushed _ _ _ _ c.self.invariant _ c.self.view_is c.args.which c.args.frame _ _ c.requires.in_range c.requires.not_active
    c.requires.not_inactive (c.len.ensures ∙ c.self.inside.places.ok.0) c.head-head.ensures _ c.index-last.ensures _ _ _ c.splice.ensures.next_len
    c.splice.ensures.prev_len c.splice.ensures.inserts c.up.ensures).whole

pub returns : goal.returns
returns c = (pushed _ _ _ _ c.self.invariant _ c.self.view_is c.args.which c.args.frame _ _ c.requires.in_range c.requires.not_active
    c.requires.not_inactive
    (c.len.ensures ∙ c.self.inside.places.ok.0) c.head-head.ensures _ c.index-last.ensures _ _ _ c.splice.ensures.next_len c.splice.ensures.prev_len
    c.splice.ensures.inserts c.up.ensures).seen
