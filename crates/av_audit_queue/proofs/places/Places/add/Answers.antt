use Rattle.std.proofs.Common.{List, cond, true, ap, ◌∙◌}
use Rattle.std.specs.BTreeMap.{is_at}
use Rattle.av_audit_queue.specs.Places.{Place, place_cmp, stands}
use Rattle.av_audit_queue.proofs.places.Places.add.Goals as goal

pub returns-clause-ok : goal.returns-clause-ok
returns-clause-ok c = λ k r. c.in_ok-insert.ensures.updates.0 (k, r)
    ∙ ap (λ (ps : List Place). cond (is_at (place_cmp (c.args.name, c.args.rank)) (k, r)) true (stands ps k r)) c.self.view_is
