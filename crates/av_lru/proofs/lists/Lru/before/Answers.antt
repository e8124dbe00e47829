use Rattle.std.proofs.Common.{◌∙◌, arith}
use Rattle.av_lru.specs.declared.lists.Which.TheVariants.{Active, Inactive}
use Rattle.av_lru.proofs.Steps.{listed_in, before_is}
use Rattle.av_lru.proofs.lists.Lru.before.Goals as goal

pub index-requires : goal.index-requires
index-requires c =
    let a = listed_in _ _ _ _ c.self.invariant _ c.self.view_is c.args.frame c.requires in
    let b = c.self.invariant.prev in
    let d = c.self.inside.links.prev.ok.0 in
    omega (arith, a, b, d)

pub returns-clause-active : goal.returns-clause-active
returns-clause-active c inside =
    before_is _ _ _ _ c.self.invariant _ c.self.view_is Active c.args.frame _ _ _ (c.len.ensures ∙ c.self.inside.places.ok.0)
    c.index.ensures c.frame_at.ensures inside

pub returns-clause-inactive : goal.returns-clause-inactive
returns-clause-inactive c inside =
    before_is _ _ _ _ c.self.invariant _ c.self.view_is Inactive c.args.frame _ _ _ (c.len.ensures ∙ c.self.inside.places.ok.0)
    c.index.ensures c.frame_at.ensures inside
