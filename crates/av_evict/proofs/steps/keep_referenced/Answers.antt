use Rattle.std.proofs.Common.{◌∷◌, [], ◌∙◌, sym, ap}
use Rattle.av_trace.specs.declared.note.Cause.TheVariants.{Referenced}
use Rattle.av_trace.specs.declared.note.Note.TheVariants.{Kept}
use Rattle.av_evict.specs.Steps.{IsUsed, KeepsReferenced, referenced_notes}
use Rattle.av_evict.specs.System.{Adds}
use Rattle.av_evict.proofs.SystemLaws.{gives-as, loose, makes-gives}
use Rattle.av_evict.proofs.StepLaws.{keep-sound}
use Rattle.av_evict.proofs.steps.keep_referenced.Goals as goal

pub returns-in_ok-push-clause-gives : goal.returns-in_ok-push-clause-gives
returns-in_ok-push-clause-gives g c = λ told.
    let f = c.args.frame in
    gives-as _ _ _ _ (IsUsed f) (IsUsed f) (Adds (Kept f Referenced ∷ [])) (KeepsReferenced f c.keep_referenced-seen.result)
    (makes-gives _ _ _ _ (IsUsed f) (Kept f Referenced ∷ []) (rw c.if-seen.true at (c.keep_referenced-seen.ensures.makes told))
    c.in_ok-push.ensures.ok (λ l sound stands used. keep-sound _ l f Referenced sound used))
    (λ l sound stands used. used)
    (λ l ns sound stands used is.
    (c.keep_referenced-seen.ensures.is told l (loose _ _ l sound) stands, is ∙ ap (referenced_notes f) (sym c.if-seen.true)))
