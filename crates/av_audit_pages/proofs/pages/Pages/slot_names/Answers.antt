use Rattle.std.proofs.Common.{ap, ◌∙◌}
use Rattle.av_base.specs.Keys.{Key}
use Rattle.av_base.specs.Words.{how_many}
use Rattle.av_plain.specs.Ledger.{Entry as PlainEntry, names_slot}
use Rattle.av_audit_pages.specs.Entries.{entries_of}
use Rattle.av_audit_pages.specs.Pages.{Content}
use Rattle.av_audit_pages.proofs.IndexLaws.{slot-names}
use Rattle.av_audit_pages.proofs.pages.Pages.slot_names.Goals as goal

pub returns-clause-names : goal.returns-clause-names
returns-clause-names c =
    c.names.ensures.names
    ∙ slot-names _ _ _ c.self.invariant c.slots.result.now c.slots.ensures c.args.slot.area c.names.ensures.rising c.args.slot.page
    ∙ ap (λ (p : Content). how_many (λ (e : Key × PlainEntry). names_slot c.args.slot e.1) (entries_of p.entries)) c.self.view_is
