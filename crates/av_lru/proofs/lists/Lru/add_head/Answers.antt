use Rattle.std.proofs.Common.{◌∙◌}
use Rattle.av_lru.proofs.Steps.{first_in, not_head, not_first, has_room, fronted}
use Rattle.av_lru.proofs.lists.Lru.add_head.Goals as goal

pub splice-requires-clause-after_in : goal.splice-requires-clause-after_in
splice-requires-clause-after_in c =
    first_in _ _ _ _ c.self.invariant _ c.self.view_is c.args.which c.args.frame _ _ c.requires.in_range c.requires.not_active
    c.requires.not_inactive (c.len.ensures ∙ c.self.inside.places.ok.0) c.head-head.ensures _ c.index-first.ensures

pub splice-requires-clause-apart : goal.splice-requires-clause-apart
splice-requires-clause-apart c = (
  not_head _ _ _ _ c.self.invariant _ c.self.view_is c.args.which c.args.frame _ _ c.requires.in_range c.requires.not_active c.requires.not_inactive
      (c.len.ensures ∙ c.self.inside.places.ok.0) c.head-head.ensures,
  not_first _ _ _ _ c.self.invariant _ c.self.view_is c.args.which c.args.frame _ _ c.requires.in_range c.requires.not_active c.requires.not_inactive
      (c.len.ensures ∙ c.self.inside.places.ok.0) c.head-head.ensures _ c.index-first.ensures,
)

pub up-requires : goal.up-requires
up-requires c = has_room _ _ _ _ c.self.invariant _ c.self.view_is c.args.which c.args.frame _ _ c.requires.in_range c.requires.not_active
    c.requires.not_inactive (c.len.ensures ∙ c.self.inside.places.ok.0) c.head-head.ensures

pub invariant_of-self : goal.invariant_of-self
invariant_of-self c = (fronted _ _ _ _ c.self.invariant _ c.self.view_is c.args.which c.args.frame _ _ c.requires.in_range c.requires.not_active
    c.requires.not_inactive (c.len.ensures ∙ c.self.inside.places.ok.0) c.head-head.ensures _ c.index-first.ensures _ _ _ c.splice.ensures.next_len
    c.splice.ensures.prev_len c.splice.ensures.inserts c.up.ensures).whole

pub returns : goal.returns
returns c = (fronted _ _ _ _ c.self.invariant _ c.self.view_is c.args.which c.args.frame _ _ c.requires.in_range c.requires.not_active
    c.requires.not_inactive
    (c.len.ensures ∙ c.self.inside.places.ok.0) c.head-head.ensures _ c.index-first.ensures _ _ _ c.splice.ensures.next_len c.splice.ensures.prev_len
    c.splice.ensures.inserts c.up.ensures).seen
