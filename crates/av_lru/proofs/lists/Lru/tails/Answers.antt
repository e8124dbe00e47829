use Rattle.std.proofs.Common.{◌++◌, ◌∙◌, ap}
use Rattle.av_lru.proofs.Steps.{way_within, way_small, tails_are}
use Rattle.av_lru.proofs.lists.Lru.tails.Goals as goal

pub follow_back-requires-clause-within : goal.follow_back-requires-clause-within
follow_back-requires-clause-within c =
    way_within _ _ _ _ c.self.invariant _ c.self.view_is c.args.which _ _ _ _ _ (c.len.ensures ∙ c.self.inside.places.ok.0)
    c.head-head.ensures c.len-2.ensures.count c.min-steps.ensures

pub follow_back-requires-clause-small : goal.follow_back-requires-clause-small
follow_back-requires-clause-small c =
    way_small _ _ _ _ c.self.invariant _ c.self.view_is c.args.which _ _ _ _ _ (c.len.ensures ∙ c.self.inside.places.ok.0)
    c.head-head.ensures c.len-2.ensures.count c.min-steps.ensures

pub returns-clause-items : goal.returns-clause-items
returns-clause-items c = c.follow_back.ensures.items ∙ ap (λ xs. c.args.found.now.items ++ xs)
    (tails_are _ _ _ _ c.self.invariant _ c.self.view_is c.args.which _ _ _ _ _ (c.len.ensures ∙ c.self.inside.places.ok.0) c.head-head.ensures
    c.len-2.ensures.count c.min-steps.ensures)
