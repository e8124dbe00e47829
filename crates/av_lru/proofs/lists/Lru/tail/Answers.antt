use Rattle.std.proofs.Common.{◌∙◌, sym, ap}
use Rattle.av_lru.specs.Links.{head_of}
use Rattle.av_lru.proofs.Steps.{tail_is}
use Rattle.av_lru.proofs.lists.Lru.tail.Goals as goal

pub returns : goal.returns
returns c = tail_is _ _ _ _ c.self.invariant _ c.self.view_is c.args.which _ _ _ _ (c.len.ensures ∙ c.self.inside.places.ok.0)
    (c.head.ensures ∙ ap (λ n. head_of n c.args.which) (c.len-2.ensures ∙ sym c.len.ensures)) c.index.ensures c.frame_at.ensures
