use Rattle.std.proofs.Common.{◌∷◌, []}
use Rattle.av_trace.specs.declared.note.Note.TheVariants.{Dropped}
use Rattle.av_evict.specs.Steps.{MayDrop}
use Rattle.av_evict.proofs.SystemLaws.{makes-gives}
use Rattle.av_evict.proofs.StepLaws.{drop-may}
use Rattle.av_evict.proofs.steps.drop_slot.Goals as goal

pub returns-clause-gives : goal.returns-clause-gives
returns-clause-gives g c =
    λ told. makes-gives _ _ _ _ (MayDrop c.args.frame c.args.slot) (Dropped c.args.slot ∷ []) (c.drop_slot.ensures.makes told) c.in_ok-push.ensures.ok
    (λ l sound stands may. drop-may _ l c.args.frame c.args.slot sound may)
