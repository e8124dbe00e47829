use Rattle.std.proofs.Common.{sym, ap, ◌∙◌, ◌∷◌, [], ◌++◌, true, false, None, append-nil}
use Rattle.std.proofs.lemmas.List.{append_assoc}
use Rattle.av_trace.specs.declared.note.Note.TheVariants.{Dropped}
use Rattle.av_plain.specs.Event.{after_note}
use Rattle.av_plain.specs.Pass.{end_note}
use Rattle.av_evict.specs.Steps.{EndsFirst}
use Rattle.av_evict.specs.System.{Adds, Always}
use Rattle.av_evict.proofs.StepLaws.{ended-cached, ended-loose, ends-first, orphan-may_drop, orphan-notes}
use Rattle.av_evict.proofs.SystemLaws.{at-knows, happened-then, gives-as, loose, makes-gives}
use Rattle.av_evict.proofs.steps.finish_first.Goals as goal

pub finish-requires : goal.finish-requires
finish-requires g c = at-knows (g.S.System.view c.args.system.now false) Always c.requires

pub returns-in_default-clause-gives : goal.returns-in_default-clause-gives
returns-in_default-clause-gives g c = λ told.
    gives-as _ _ c.args.notes.now c.args.notes.now Always Always (Adds []) (EndsFirst None)
    (makes-gives _ _ _ _ Always [] (c.in_default.ensures.ends told) (sym (append-nil _)) (λ l sound stands ready. sound))
    (λ l sound stands ready. ready)
    (λ l ns sound stands ready is. (c.in_default.ensures.first told l (loose _ _ l sound) stands, is))

pub is_orphan-requires : goal.is_orphan-requires
is_orphan-requires g c =
    let f = c.in-Some.end.frame in
    let s = c.in-Some.end.slot in
    let failed = c.in-Some.end.failed in
    let l = c.requires.0 in
    let ends = c.in-Some.ensures.ends false l (loose _ _ l c.requires.1) c.requires.2 tt in (
      after_note (end_note failed s) l,
      ended-loose _ _ l s failed c.requires.1 ends,
      ends.stands,
      ended-cached _ l f s failed c.requires.1 (c.in-Some.ensures.first false l (loose _ _ l c.requires.1) c.requires.2).1,
    )

pub drop_slot-requires : goal.drop_slot-requires
drop_slot-requires g c =
    let f = c.in-Some.end.frame in
    let s = c.in-Some.end.slot in
    let failed = c.in-Some.end.failed in
    let l = c.requires.0 in
    let ends = c.in-Some.ensures.ends false l (loose _ _ l c.requires.1) c.requires.2 tt in
    let mid = ended-loose _ _ l s failed c.requires.1 ends in (
      after_note (end_note failed s) l,
      mid,
      ends.stands,
      orphan-may_drop _ f s (ended-cached _ l f s failed c.requires.1 (c.in-Some.ensures.first false l (loose _ _ l c.requires.1) c.requires.2).1)
          (sym (c.is_orphan.ensures false _ mid ends.stands) ∙ c.if-is_orphan.true),
    )

pub returns-else-is_orphan-clause-gives : goal.returns-else-is_orphan-clause-gives
returns-else-is_orphan-clause-gives g c = λ told l sound stands ready.
    let f = c.in-Some.end.frame in
    let s = c.in-Some.end.slot in
    let failed = c.in-Some.end.failed in
    let ends = c.in-Some.ensures.ends told l (loose _ _ l sound) stands tt in
    let mid = ended-loose _ _ l s failed sound ends in
    ends-first _ _ c.args.notes.now _ l c.in-Some.end (end_note failed s ∷ []) sound (c.in-Some.ensures.first told l (loose _ _ l sound) stands)
    (c.in_ok-push.ensures.ok ∙ ap (λ n. c.args.notes.now ++ n ∷ []) c.end_note.ensures)
    (orphan-notes l s failed false (sym c.if-is_orphan.false ∙ c.is_orphan.ensures told _ mid ends.stands)) ends

pub returns-in_ok-push-2-clause-gives : goal.returns-in_ok-push-2-clause-gives
returns-in_ok-push-2-clause-gives g c = λ told l sound stands ready.
    let f = c.in-Some.end.frame in
    let s = c.in-Some.end.slot in
    let failed = c.in-Some.end.failed in
    let ends = c.in-Some.ensures.ends told l (loose _ _ l sound) stands tt in
    let mid = ended-loose _ _ l s failed sound ends in
    let orphan = sym (c.is_orphan.ensures told _ mid ends.stands) ∙ c.if-is_orphan.true in
    let drops = c.drop_slot.ensures.makes told _ mid ends.stands (orphan-may_drop _ f s (ended-cached _ l f s failed sound (c.in-Some.ensures.first told l (loose _ _ l sound) stands).1) orphan) in
    ends-first _ _ c.args.notes.now _ l c.in-Some.end (end_note failed s ∷ Dropped s ∷ []) sound
    (c.in-Some.ensures.first told l (loose _ _ l sound) stands)
    (c.in_ok-push-2.ensures.ok ∙ ap (λ ns. ns ++ Dropped s ∷ []) (c.in_ok-push.ensures.ok ∙ ap (λ n. c.args.notes.now ++ n ∷ []) c.end_note.ensures)
    ∙ append_assoc c.args.notes.now (end_note failed s ∷ []) (Dropped s ∷ []))
    (orphan-notes l s failed true (sym orphan)) (happened-then _ _ _ l (end_note failed s ∷ []) (Dropped s ∷ []) ends drops)
