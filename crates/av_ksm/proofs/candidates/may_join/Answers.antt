use Rattle.std.proofs.Common.{is_some, sym, ap, ◌∙◌}
use Rattle.av_ksm.proofs.CandidateLaws.{join-unlocked}
use Rattle.av_ksm.proofs.candidates.may_join.Goals as goal

pub returns : goal.returns
returns c = λ d w r l h. join-unlocked d c.args.mem.now w r l h c.args.frame (sym c.is_merged.ensures ∙ c.if-is_merged.false)
    (ap is_some (sym c.slot.ensures) ∙ sym c.is_some.ensures ∙ c.if-is_some.false) c.is_locked.result c.is_locked.ensures
