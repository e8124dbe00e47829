use Rattle.std.proofs.Common.{◌∷◌, []}
use Rattle.av_trace.specs.declared.note.Note.TheVariants.{Kept}
use Rattle.av_evict.specs.Steps.{IsUsed}
use Rattle.av_evict.proofs.SystemLaws.{makes-gives}
use Rattle.av_evict.proofs.StepLaws.{keep-sound}
use Rattle.av_evict.proofs.steps.keep.Goals as goal

pub returns-clause-gives : goal.returns-clause-gives
returns-clause-gives g c = λ told. makes-gives _ _ _ _ (IsUsed c.args.frame) (Kept c.args.frame c.args.cause ∷ []) (c.keep.ensures.makes told)
    c.in_ok-push.ensures.ok (λ l sound stands used. keep-sound _ l c.args.frame c.args.cause sound used)
