use Rattle.std.proofs.Common.{[], rules, true}
use Rattle.av_plain.specs.Device.{as_told, seen_by}
use Rattle.av_plain.specs.Fault.{sparing}
use Rattle.av_plain.specs.Pass.{Seeks}
use Rattle.av_evict.specs.Pass.{IsEnd}
use Rattle.av_mem.specs.Mem.{setting_by}
use Rattle.av_reclaim.proofs.CommandLaws.{added, count-lent, is-at, next-lent, same-lent}
use Rattle.av_reclaim.proofs.commands.seek.Goals as goal

pub seek-requires : goal.seek-requires
seek-requires g c = is-at [] (seen_by g.D.SwapDev.sizes g.D.SwapDev.pages g.D.SwapDev.failures g.D.SwapDev.history c.args.dev.now)
    c.args.mem.now c.requires

pub returns-clause-seeks : goal.returns-clause-seeks
returns-clause-seeks g c = λ told.
    let m = setting_by (as_told told (seen_by g.D.SwapDev.sizes g.D.SwapDev.pages g.D.SwapDev.failures g.D.SwapDev.history c.args.dev.now)) c.args.mem.now in
    added _ _ _ _ _ _ _ _ _ _ c.args.pinned
    (λ spared l notes. Seeks m spared l notes × IsEnd m spared c.in_ok-end.end l notes)
    (λ m w l added. Seeks m (sparing w l c.args.pinned) l added × IsEnd m (sparing w l c.args.pinned) c.in_ok-end.end l added)
    (λ w l notes asked. asked) (c.in_ok-end.ensures.seeks told) (λ e. (search rules, search rules))

pub returns-clause-next : goal.returns-clause-next
returns-clause-next g c = next-lent _ _ _ _ _ _ (c.in_ok-end.ensures.stays true).stays c.in_ok-end.end _ (λ e. search rules)
    (c.in_ok-end.ensures.next true)

pub returns-clause-same : goal.returns-clause-same
returns-clause-same g c = same-lent _ _ _ _ _ _ (c.in_ok-end.ensures.stays true).stays _ (λ e. search rules)

pub returns-clause-count : goal.returns-clause-count
returns-clause-count g c = count-lent _ _ _ _ _ _ (c.in_ok-end.ensures.stays true).stays _ (λ e. search rules)

pub returns-in_err-end-clause-same : goal.returns-in_err-end-clause-same
returns-in_err-end-clause-same g c = same-lent _ _ _ _ _ _ (c.in_err-end.ensures.stays true).stays _ (λ e. search rules)

pub returns-in_err-end-clause-count : goal.returns-in_err-end-clause-count
returns-in_err-end-clause-count g c = count-lent _ _ _ _ _ _ (c.in_err-end.ensures.stays true).stays _ (λ e. search rules)
