use Rattle.std.proofs.Common.{None, ap, get_or, is_some, length, subst, ◌≡◌, ◌∙◌}
use Rattle.std.specs.List.{range_with_len}
use Rattle.av_base.specs.Words.{how_many}
use Rattle.av_frames.specs.Store.{Store}
use Rattle.av_base.proofs.Counted.{count-places}
use Rattle.av_frames.proofs.frames.Frames.cached_len.Goals as goal

pub returns : goal.returns
returns c = subst (λ (v : Store). c.cached_len.result ≡ how_many (λ f. is_some (get_or v.slots f None)) (range_with_len 0 (length v.bytes))) c.self.view_is
    (c.cached_len.ensures ∙ count-places is_some c.self.inside.locks.slots None
    ∙ ap (λ n. how_many (λ f. is_some (get_or c.self.inside.locks.slots f None)) (range_with_len 0 n)) c.self.invariant.slots)
