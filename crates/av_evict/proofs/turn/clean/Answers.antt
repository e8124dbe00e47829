use Rattle.std.proofs.Common.{◌∷◌, [], ◌∙◌, sym, false}
use Rattle.av_trace.specs.declared.note.Note.TheVariants.{Started}
use Rattle.av_plain.specs.Pass.{end_note}
use Rattle.av_evict.specs.System.{Adds}
use Rattle.av_evict.specs.Turn.{IsCleaned, IsSentTo}
use Rattle.av_evict.proofs.SystemLaws.{gives-as, gives-none, loose}
use Rattle.av_evict.proofs.TurnLaws.{cleaned-none, cleaned-some, sent-below}
use Rattle.av_evict.proofs.turn.clean.Goals as goal

pub is_dirty-requires : goal.is_dirty-requires
is_dirty-requires g c = let at = c.requires in sent-below _ at.0 c.args.frame c.args.slot at.1 at.3

pub write-requires : goal.write-requires
write-requires g c = c.requires

pub returns-then-not-is_dirty-clause-gives : goal.returns-then-not-is_dirty-clause-gives
returns-then-not-is_dirty-clause-gives g c = λ told.
    gives-none _ c.args.notes.now (IsSentTo c.args.frame c.args.slot) (IsCleaned c.args.slot false)
    (λ l sound stands at. cleaned-none l c.args.slot
    (sym c.if-not-is_dirty.true ∙ c.is_dirty.ensures told l (loose _ _ l sound) stands c.args.slot at.cached))

pub returns-clause-gives : goal.returns-clause-gives
returns-clause-gives g c = λ told.
    let s = c.args.slot in
    let f = c.args.frame in
    let failed = c.in_ok-failed.failed in
    gives-as _ _ _ _ (IsSentTo f s) (IsSentTo f s) (Adds (Started s ∷ end_note failed s ∷ [])) (IsCleaned s failed) (c.in_ok-failed.ensures.gives told)
    (λ l sound stands at. at)
    (λ l ns sound stands at is. cleaned-some l s failed ns
    (sym c.if-not-is_dirty.false ∙ c.is_dirty.ensures told l (loose _ _ l sound) stands s at.cached) is)
