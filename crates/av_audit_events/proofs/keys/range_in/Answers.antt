use Rattle.std.proofs.Common.{◌==◌, filter, ap, ◌∙◌}
use Rattle.std.specs.Prelude.{◌&&◌}
use Rattle.av_base.specs.Keys.{Key}
use Rattle.av_base.specs.Words.{within}
use Rattle.av_audit_pages.specs.declared.entries.Entry.{Entry}
use Rattle.av_audit_events.proofs.KeyLaws.{of-pages}
use Rattle.av_audit_events.proofs.keys.range_in.Goals as goal

pub returns : goal.returns
returns c = ap (filter (λ (e : Key × Entry). e.0.0 == c.args.process)) (c.range.ensures.between tt)
    ∙ of-pages c.args.process c.entries.result.now.entries c.args.from c.args.n
    ∙ ap (filter (λ (e : Key × Entry). e.0.0 == c.args.process && within c.args.from c.args.n e.0.1)) c.entries.ensures
