use Rattle.std.proofs.Common.{◌∷◌, []}
use Rattle.av_trace.specs.declared.note.Note.TheVariants.{Started}
use Rattle.av_evict.specs.Steps.{MayStart}
use Rattle.av_evict.proofs.SystemLaws.{makes-gives}
use Rattle.av_evict.proofs.StepLaws.{start-sound}
use Rattle.av_evict.proofs.steps.start.Goals as goal

pub returns-clause-gives : goal.returns-clause-gives
returns-clause-gives g c =
    λ told. makes-gives _ _ _ _ (MayStart c.args.frame c.args.slot) (Started c.args.slot ∷ []) (c.start.ensures.makes told) c.in_ok-push.ensures.ok
    (λ l sound stands may. start-sound _ l c.args.frame c.args.slot sound may)
