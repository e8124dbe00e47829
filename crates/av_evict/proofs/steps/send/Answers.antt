use Rattle.std.proofs.Common.{Bool, ap, Some, false, ℕ, ◌∙◌}
use Rattle.av_evict.specs.Steps.{GetsSlot, IsCachedAt, IsSent, IsUnmapped, MaySend}
use Rattle.av_evict.proofs.SystemLaws.{gives-at, gives-then}
use Rattle.av_evict.proofs.StepLaws.{put-cached, sent-both}
use Rattle.av_evict.proofs.steps.send.Goals as goal

pub unmap-requires-clause-cached : goal.unmap-requires-clause-cached
unmap-requires-clause-cached g c =
    let k = g.S.System.view c.args.system.now false in
    let f = c.args.frame in
    gives-at _ _ _ _ (MaySend f) (IsCachedAt f c.in-Some.slot) (GetsSlot k.setting k.closing f (Some c.in-Some.slot)) c.requires.may
    (rw c.in-Some.is at (c.in_ok-slot.ensures.gives false))
    (λ l ns sound ready put after. put-cached k.setting k.closing l f c.in-Some.slot ns put)

pub unmap-requires-clause-unlocked : goal.unmap-requires-clause-unlocked
unmap-requires-clause-unlocked g c = ap (λ (test : ℕ → Bool). test c.args.frame) (c.in_ok-slot.ensures.stays false).locked ∙ c.requires.unlocked

pub returns-clause-gives : goal.returns-clause-gives
returns-clause-gives g c = λ told.
    let k = g.S.System.view c.args.system.now told in
    let f = c.args.frame in
    gives-then _ _ _ _ _ _ (MaySend f) (IsCachedAt f c.in-Some.slot) (GetsSlot k.setting k.closing f (Some c.in-Some.slot)) (IsUnmapped f)
    (IsSent k.setting k.closing f (Some c.in-Some.slot))
    (rw c.in-Some.is at (c.in_ok-slot.ensures.gives told)) (c.in_ok-unmap.ensures.gives told)
    (λ l ns sound ready put after. put-cached k.setting k.closing l f c.in-Some.slot ns put)
    (λ l ns ms sound ready put un. sent-both k.setting k.closing l f c.in-Some.slot ns ms put un)
