use Rattle.std.proofs.Common.{◌∷◌, []}
use Rattle.av_trace.specs.declared.note.Note.TheVariants.{Aged}
use Rattle.av_evict.specs.Steps.{IsUsed}
use Rattle.av_evict.proofs.SystemLaws.{makes-gives}
use Rattle.av_evict.proofs.StepLaws.{age-sound}
use Rattle.av_evict.proofs.steps.age_one.Goals as goal

pub returns-clause-gives : goal.returns-clause-gives
returns-clause-gives g c =
    λ told. makes-gives _ _ _ _ (IsUsed c.args.frame) (Aged c.args.frame ∷ []) (c.age.ensures.makes told) c.in_ok-push.ensures.ok
    (λ l sound stands used. age-sound _ l c.args.frame sound used)
