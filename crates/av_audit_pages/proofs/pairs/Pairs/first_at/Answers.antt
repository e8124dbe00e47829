use Rattle.std.specs.Prelude.{◌==◌}
use Rattle.av_audit_pages.proofs.PlacedLaws.{at-frame, first-from}
use Rattle.av_audit_pages.specs.Pairs.{frame_key}
use Rattle.av_audit_pages.specs.declared.entries.Cached.{Cached}
use Rattle.av_audit_pages.proofs.pairs.Pairs.first_at.Goals as goal

pub returns-clause-first : goal.returns-clause-first
returns-clause-first c = first-from frame_key (λ (t : Cached). c.args.frame == t.frame) c.name.result (at-frame c.args.frame c.name.result c.name.ensures)
    c.self.inside.pairs.entries c.args.self.now c.self.inside.frames c.self.view_is c.self.invariant.by_frame
    0 c.first.result c.at.result c.first.ensures c.at.ensures
