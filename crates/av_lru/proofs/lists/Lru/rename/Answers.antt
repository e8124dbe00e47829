use Rattle.av_lru.proofs.Steps.{keeps_place, before_below, after_below, not_before, not_after, gives}
use Rattle.av_lru.proofs.lists.Lru.rename.Goals as goal

pub splice-requires-clause-before_in : goal.splice-requires-clause-before_in
splice-requires-clause-before_in c = before_below _ _ _ _ c.self.invariant _ c.self.view_is c.args.from c.requires.in_range.0 _ c.index.ensures c.args.to
    c.requires.in_range.1 c.requires.not_active c.requires.not_inactive c.in-Some.which c.in-Some.is _ _ c.index-before.ensures
    c.index-after.ensures

pub splice-requires-clause-after_in : goal.splice-requires-clause-after_in
splice-requires-clause-after_in c = after_below _ _ _ _ c.self.invariant _ c.self.view_is c.args.from c.requires.in_range.0 _ c.index.ensures c.args.to
    c.requires.in_range.1 c.requires.not_active c.requires.not_inactive c.in-Some.which c.in-Some.is _ _ c.index-before.ensures
    c.index-after.ensures

pub splice-requires-clause-apart : goal.splice-requires-clause-apart
splice-requires-clause-apart c = (
  not_before _ _ _ _ c.self.invariant _ c.self.view_is c.args.from c.requires.in_range.0 _ c.index.ensures c.args.to
      c.requires.in_range.1 c.requires.not_active c.requires.not_inactive c.in-Some.which c.in-Some.is _ _ c.index-before.ensures
      c.index-after.ensures,
  not_after _ _ _ _ c.self.invariant _ c.self.view_is c.args.from c.requires.in_range.0 _ c.index.ensures c.args.to
      c.requires.in_range.1 c.requires.not_active c.requires.not_inactive c.in-Some.which c.in-Some.is _ _ c.index-before.ensures
      c.index-after.ensures,
)

pub invariant_of-self : goal.invariant_of-self
invariant_of-self c = (gives _ _ _ _ c.self.invariant _ c.self.view_is c.args.from c.requires.in_range.0 _ c.index.ensures c.args.to
    c.requires.in_range.1 c.requires.not_active c.requires.not_inactive c.in-Some.which c.in-Some.is _ _ c.index-before.ensures
    c.index-after.ensures _ _ c.splice.ensures.next_len c.splice.ensures.prev_len c.splice.ensures.inserts).whole

pub returns-in-Some : goal.returns-in-Some
returns-in-Some c = (gives _ _ _ _ c.self.invariant _ c.self.view_is c.args.from c.requires.in_range.0 _ c.index.ensures c.args.to
    c.requires.in_range.1 c.requires.not_active c.requires.not_inactive c.in-Some.which c.in-Some.is _ _ c.index-before.ensures
    c.index-after.ensures _ _ c.splice.ensures.next_len c.splice.ensures.prev_len c.splice.ensures.inserts).seen

pub returns-in_default : goal.returns-in_default
returns-in_default c = keeps_place _ _ _ _ c.self.invariant _ c.self.view_is c.args.from c.requires.in_range.0 _ c.index.ensures c.args.to c.in_default.is
