use Rattle.std.proofs.Common.{◌∷◌, [], ◌∙◌, sym, ap, false}
use Rattle.av_trace.specs.declared.note.Note.TheVariants.{Unmapped}
use Rattle.av_plain.specs.Event.{when}
use Rattle.av_evict.specs.System.{Adds}
use Rattle.av_evict.specs.Steps.{IsCachedAt, IsUnmapped, MayUnmap}
use Rattle.av_evict.proofs.SystemLaws.{gives-as, loose, makes-gives}
use Rattle.av_evict.proofs.StepLaws.{cached-below, mapped-unmap, unmap-notes, unmap-sound}
use Rattle.av_evict.proofs.steps.unmap.Goals as goal

pub is_mapped-requires : goal.is_mapped-requires
is_mapped-requires g c = cached-below _ c.requires.cached.0 c.args.frame c.args.slot c.requires.cached.1 c.requires.cached.3

pub unmap-requires-clause-may : goal.unmap-requires-clause-may
unmap-requires-clause-may g c =
    let at = c.requires.cached in
    let know = loose _ _ at.0 at.1 in
    (at.0, know, at.2, mapped-unmap at.0 c.args.frame c.args.slot _ (c.is_mapped.ensures false at.0 know at.2) c.if-is_mapped.true at.3)

pub returns-in_ok-push-clause-gives : goal.returns-in_ok-push-clause-gives
returns-in_ok-push-clause-gives g c = λ told.
    let f = c.args.frame in
    let s = c.args.slot in
    gives-as _ _ _ _ (MayUnmap f s) (IsCachedAt f s) (Adds (Unmapped f ∷ [])) (IsUnmapped f)
    (makes-gives _ _ _ _ (MayUnmap f s) (Unmapped f ∷ []) (c.in_ok-unmap.ensures.makes told) c.in_ok-push.ensures.ok
    (λ l sound stands may. unmap-sound _ l f s sound may.cached))
    (λ l sound stands ready. mapped-unmap l f s _ (c.is_mapped.ensures told l (loose _ _ l sound) stands) c.if-is_mapped.true ready)
    (λ l ns sound stands ready is. unmap-notes l f _ ns (c.is_mapped.ensures told l (loose _ _ l sound) stands)
    (is ∙ ap (λ b. when b (Unmapped f)) (sym c.if-is_mapped.true)))
