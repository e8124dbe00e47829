use Rattle.std.proofs.Common.{ap, ◌∙◌}
use Rattle.std.specs.Prelude.{slice_get}
use Rattle.av_audit_pages.proofs.IndexLaws.{slots-used}
use Rattle.av_audit_pages.proofs.pages.Pages.least_used.Goals as goal

pub returns : goal.returns
returns c =
    c.least.ensures.least
    ∙ ap (λ pages. slice_get pages 0)
    (slots-used _ _ _ c.self.invariant c.slots.result.now c.slots.ensures c.args.area c.least.ensures.rising _ c.self.view_is c.args.pages)
