use Rattle.std.proofs.Common.{None, [], ◌∷◌, ◌++◌, ◌∙◌, ap}
use Rattle.std.proofs.lemmas.List.{replicate-append-replicate}
use Rattle.av_swapcache.proofs.areas.Areas.new.Goals as goal

pub loop-area-preserved : goal.loop-area-preserved
loop-area-preserved c = c.in_ok-push.ensures.items ∙ ap (λ areas. areas ++ None ∷ []) c.loop-area.invariant
    ∙ replicate-append-replicate c.loop-area.area 1 None
