use Rattle.std.proofs.Common.{List, cond, false, ap, ◌∙◌}
use Rattle.std.specs.BTreeMap.{is_at}
use Rattle.av_audit_queue.specs.Places.{Place, place_cmp, stands}
use Rattle.av_audit_queue.proofs.places.Places.take.Goals as goal

pub returns : goal.returns
returns c = λ k r. c.remove.ensures.updates.0 (k, r)
    ∙ ap (λ (ps : List Place). cond (is_at (place_cmp (c.args.name, c.args.rank)) (k, r)) false (stands ps k r)) c.self.view_is
