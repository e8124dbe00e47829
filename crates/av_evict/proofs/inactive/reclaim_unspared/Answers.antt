use Rattle.std.proofs.Common.{◌∷◌, [], Some, None, false}
use Rattle.av_trace.specs.declared.note.Cause.TheVariants.{NoSlot}
use Rattle.av_trace.specs.declared.note.Note.TheVariants.{Kept}
use Rattle.av_plain.specs.Reclaim.{Outcome}
use Rattle.av_evict.specs.Inactive.{GoesOut, IsSentIdle}
use Rattle.av_evict.specs.Steps.{IsUsed, MaySend, closes}
use Rattle.av_evict.specs.System.{Adds}
use Rattle.av_evict.proofs.InactiveLaws.{GoesOn, goes-on, outcome-sent, outcome-stuck, sent-idle, stuck-used}
use Rattle.av_evict.proofs.SystemLaws.{gives-at, gives-then}
use Rattle.av_evict.proofs.inactive.reclaim_unspared.Goals as goal

pub returns-in_default-clause-gives : goal.returns-in_default-clause-gives
returns-in_default-clause-gives g c = λ told.
    let k = g.S.System.view c.args.system.now told in
    let f = c.args.frame in
    gives-then _ _ _ _ _ _ (MaySend f) (IsUsed f) (GoesOn k.setting k.closing f None) (Adds (Kept f NoSlot ∷ []))
    (λ l ns. Outcome k.setting (closes k.closing) l f ns)
    (goes-on _ _ _ _ _ _ f None _ (c.is_in_writeback.ensures told) c.if-is_in_writeback.false (c.keep_referenced.ensures.stays told).stays
    (rw c.if-branch.false at (c.in_ok-keep_referenced.ensures.gives told)) (rw c.in_default.is at (c.in_ok-slot.ensures.gives told)))
    (c.in_ok-keep-2.ensures.gives told)
    (λ l ns sound used on after. stuck-used k.setting k.closing l f ns used.used on)
    (λ l ns ms sound used on is. outcome-stuck k.setting k.closing l f ns ms on is)

pub write_or_drop-requires : goal.write_or_drop-requires
write_or_drop-requires g c =
    let k = g.S.System.view c.args.system.now false in
    let f = c.args.frame in
    let s = c.in-Some.slot in
    gives-at _ _ _ _ (MaySend f) (IsSentIdle f s) (GoesOn k.setting k.closing f (Some s)) c.requires.may
    (goes-on _ _ _ _ _ _ f (Some s) _ (c.is_in_writeback.ensures false) c.if-is_in_writeback.false (c.keep_referenced.ensures.stays false).stays
    (rw c.if-branch.false at (c.in_ok-keep_referenced.ensures.gives false)) (rw c.in-Some.is at (c.in_ok-slot.ensures.gives false)))
    (λ l ns sound used on after. sent-idle k.setting k.closing l f s ns sound used.used on)

pub returns-clause-gives : goal.returns-clause-gives
returns-clause-gives g c = λ told.
    let k = g.S.System.view c.args.system.now told in
    let f = c.args.frame in
    let s = c.in-Some.slot in
    gives-then _ _ _ _ _ _ (MaySend f) (IsSentIdle f s) (GoesOn k.setting k.closing f (Some s)) (GoesOut f s)
    (λ l ns. Outcome k.setting (closes k.closing) l f ns)
    (goes-on _ _ _ _ _ _ f (Some s) _ (c.is_in_writeback.ensures told) c.if-is_in_writeback.false (c.keep_referenced.ensures.stays told).stays
    (rw c.if-branch.false at (c.in_ok-keep_referenced.ensures.gives told)) (rw c.in-Some.is at (c.in_ok-slot.ensures.gives told)))
    (c.in_ok-write_or_drop.ensures.gives told)
    (λ l ns sound used on after. sent-idle k.setting k.closing l f s ns sound used.used on)
    (λ l ns ms sound used on out. outcome-sent k.setting k.closing l f s ns ms on out)
