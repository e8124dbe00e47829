use Rattle.std.proofs.Common.{ap, length, ◌∙◌}
use Rattle.av_audit_pages.proofs.IndexLaws.{slots-used}
use Rattle.av_audit_pages.proofs.pages.Pages.slots_used.Goals as goal

pub returns : goal.returns
returns c =
    c.len_within.ensures.len
    ∙ ap length (slots-used _ _ _ c.self.invariant c.slots.result.now c.slots.ensures c.args.area c.len_within.ensures.rising _ c.self.view_is c.args.pages)
