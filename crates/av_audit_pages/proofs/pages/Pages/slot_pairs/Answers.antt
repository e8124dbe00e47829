use Rattle.std.proofs.Common.{ap, map, ◌∙◌}
use Rattle.av_base.specs.Words.{how_many}
use Rattle.av_plain.specs.Ledger.{Cached as PlainCached, same_slot}
use Rattle.av_audit_pages.specs.Entries.{cached_of}
use Rattle.av_audit_pages.specs.Pages.{Content}
use Rattle.av_audit_pages.specs.SlotHolders.{slot_pairs_at}
use Rattle.av_audit_pages.specs.declared.slot_holders.SlotHolders.{SlotHolders}
use Rattle.av_audit_pages.proofs.pages.Pages.slot_pairs.Goals as goal

pub returns : goal.returns
returns c =
    c.pairs.ensures ∙ ap (λ (h : SlotHolders). slot_pairs_at h c.args.slot) c.slots.ensures ∙ c.self.invariant.pairs.slots c.args.slot
    ∙ ap (λ (p : Content). how_many (λ (t : PlainCached). same_slot c.args.slot t.slot) (map cached_of p.cache)) c.self.view_is
