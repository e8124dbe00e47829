use Rattle.std.proofs.Common.{ap, filter, ◌∙◌}
use Rattle.std.specs.Map.{keys_of}
use Rattle.std.proofs.lemmas.Result.{IfOk-weaker}
use Rattle.av_plain.specs.Ledger.{names_slot}
use Rattle.av_audit_pages.specs.Entries.{entry_of}
use Rattle.av_audit_pages.specs.Pages.{Content}
use Rattle.av_audit_pages.proofs.IndexLaws.{slot-listed}
use Rattle.av_audit_pages.proofs.pages.Pages.keys_of_slot.Goals as goal

pub returns : goal.returns
returns c = IfOk-weaker c.keys.result _ _ (λ keys is. is
    ∙ slot-listed _ _ _ c.self.invariant c.slots.result.now c.slots.ensures c.args.slot.area c.keys.ensures.rising c.args.slot.page
    ∙ ap (λ (p : Content). keys_of (filter (λ e. names_slot c.args.slot (entry_of e.1)) p.entries)) c.self.view_is) c.keys.ensures.keys
