use Rattle.std.proofs.Common.{◌==◌, ℕ, filter, ap, ◌∙◌}
use Rattle.std.specs.BTreeMap.Range.{range_contains}
use Rattle.std.specs.declared.ops.Bound.TheVariants.{Excluded, Included}
use Rattle.av_base.specs.Keys.{Key, key_cmp}
use Rattle.av_audit_pages.specs.declared.entries.Entry.{Entry}
use Rattle.av_audit_events.proofs.KeyLaws.{of-last, of-process}
use Rattle.av_audit_events.proofs.keys.range_of.Goals as goal

pub returns-in-None : goal.returns-in-None
returns-in-None c =
    let own = filter (λ (e : Key × Entry). e.0.0 == c.args.process) in
    ap own (c.range.ensures.between tt) ∙ of-last c.args.process c.entries-entries.result.now.entries ∙ ap own c.entries-entries.ensures

pub returns-in-Some : goal.returns-in-Some
returns-in-Some c =
    let es = c.entries-entries.result.now.entries in
    let own = filter (λ (e : Key × Entry). e.0.0 == c.args.process) in
    let below = λ (next : ℕ). own (filter (λ (e : Key × Entry). range_contains key_cmp (Included (c.args.process, 0)) (Excluded (next, 0)) e.0) es) in
    ap own (c.range-in-Some.ensures.between tt) ∙ ap below c.in-Some.ensures.1 ∙ of-process c.args.process es ∙ ap own c.entries-entries.ensures
