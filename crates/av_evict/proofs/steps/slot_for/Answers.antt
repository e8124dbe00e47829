use Rattle.std.proofs.Common.{◌∷◌, [], ◌∙◌, sym, subst, None, Some, append-nil, false}
use Rattle.av_trace.specs.declared.note.Note.TheVariants.{Put}
use Rattle.av_evict.specs.Steps.{GetsSlot, MayPut, MaySend, put_notes}
use Rattle.av_evict.specs.System.{Adds}
use Rattle.av_evict.proofs.StepLaws.{put-never, put-now, put-sound, send-may_put}
use Rattle.av_evict.proofs.SystemLaws.{gives-as, loose, makes-gives}
use Rattle.av_evict.proofs.steps.slot_for.Goals as goal

pub slot-requires : goal.slot-requires
slot-requires g c = c.requires.1.in_range c.args.frame c.requires.3.used

pub put-requires : goal.put-requires
put-requires g c =
    let at = c.requires in
    let know = loose _ _ at.0 at.1 in
    (at.0, know, at.2, send-may_put at.0 c.args.frame at.3 (sym c.in_default.is ∙ c.slot.ensures false at.0 know at.2))

pub returns-in_default-put-clause-gives : goal.returns-in_default-put-clause-gives
returns-in_default-put-clause-gives g c = λ told.
    let k = g.S.System.view c.args.system.now told in
    let f = c.args.frame in
    gives-as _ _ c.args.notes.now c.args.notes.now (MayPut f) (MaySend f) (Adds (put_notes f None)) (GetsSlot k.setting k.closing f None)
    (makes-gives _ _ _ _ (MayPut f) (put_notes f None) (c.in_default-put.ensures.puts told) (sym (append-nil _)) (λ l sound stands may. sound))
    (λ l sound stands used. send-may_put l f used (sym c.in_default.is ∙ c.slot.ensures told l (loose _ _ l sound) stands))
    (λ l ns sound stands used is.
    let know = loose _ _ l sound in
    let out = sym c.in_default.is ∙ c.slot.ensures told l know stands in
    let may = send-may_put l f used out in
    subst (GetsSlot k.setting k.closing f None l) (sym is)
    (put-never k.setting k.closing l f out (c.in_default-put.ensures.slot told l know stands may)))

pub returns-clause-gives : goal.returns-clause-gives
returns-clause-gives g c = λ told.
    let k = g.S.System.view c.args.system.now told in
    let f = c.args.frame in
    let s = c.in-Some-put.slot in
    gives-as _ _ _ _ (MayPut f) (MaySend f) (Adds (Put f s ∷ [])) (GetsSlot k.setting k.closing f (Some s))
    (makes-gives _ _ _ _ (MayPut f) (Put f s ∷ []) (c.in-Some-put.ensures.puts told) c.in_ok-push.ensures.ok
    (λ l sound stands may. put-sound k.setting k.closing l f s sound may (c.in-Some-put.ensures.slot told l (loose _ _ l sound) stands may)))
    (λ l sound stands used. send-may_put l f used (sym c.in_default.is ∙ c.slot.ensures told l (loose _ _ l sound) stands))
    (λ l ns sound stands used is.
    let know = loose _ _ l sound in
    let out = sym c.in_default.is ∙ c.slot.ensures told l know stands in
    let may = send-may_put l f used out in
    subst (GetsSlot k.setting k.closing f (Some s) l) (sym is)
    (put-now k.setting k.closing l f s out (c.in-Some-put.ensures.slot told l know stands may)))
