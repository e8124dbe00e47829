use Rattle.std.proofs.Common.{◌≡◌, ◌∷◌, [], ◌∙◌, sym, true, false}
use Rattle.av_trace.specs.declared.note.Cause.TheVariants.{WriteStarted}
use Rattle.av_trace.specs.declared.note.Note.TheVariants.{Dropped, Kept, Started}
use Rattle.av_plain.specs.Ledger.{is_stale}
use Rattle.av_evict.specs.System.{Adds}
use Rattle.av_evict.specs.Inactive.{GoesOut, IsSentIdle}
use Rattle.av_evict.specs.Steps.{IsUsed, MayDrop, MayStart}
use Rattle.av_evict.proofs.SystemLaws.{gives-as, gives-at, gives-then, loose}
use Rattle.av_evict.proofs.InactiveLaws.{begun-clean, begun-stale, idle-may_drop, idle-may_start, idle-started, idle-used}
use Rattle.av_evict.proofs.inactive.write_or_drop.Goals as goal

pub is_dirty-dirty-requires : goal.is_dirty-dirty-requires
is_dirty-dirty-requires g c = c.requires.1.in_range c.args.frame (idle-used c.requires.0 c.args.frame c.args.slot c.requires.3)

pub start-requires : goal.start-requires
start-requires g c = let at = c.requires in (at.0, at.1, at.2, idle-may_start at.0 c.args.frame c.args.slot at.3)

pub keep-requires-clause-used : goal.keep-requires-clause-used
keep-requires-clause-used g c =
    let f = c.args.frame in
    let s = c.args.slot in
    gives-at _ _ _ _ (IsSentIdle f s) (IsUsed f) (Adds (Started s ∷ [])) c.requires
    (gives-as _ _ _ _ (MayStart f s) (IsSentIdle f s) (Adds (Started s ∷ [])) (Adds (Started s ∷ [])) (c.in_ok-start.ensures.gives false)
    (λ l sound stands at. idle-may_start l f s at) (λ l ns sound stands at is. is))
    (λ l ns sound at is after. idle-started l f s ns at is)

pub returns-then-dirty-clause-gives : goal.returns-then-dirty-clause-gives
returns-then-dirty-clause-gives g c = λ told.
    let f = c.args.frame in
    let s = c.args.slot in
    gives-then _ _ _ _ _ _ (IsSentIdle f s) (IsUsed f) (λ l ns. (true ≡ is_stale l s) × (ns ≡ Started s ∷ [])) (Adds (Kept f WriteStarted ∷ []))
    (GoesOut f s)
    (gives-as _ _ _ _ (MayStart f s) (IsSentIdle f s) (Adds (Started s ∷ [])) (λ l ns. (true ≡ is_stale l s) × (ns ≡ Started s ∷ []))
    (c.in_ok-start.ensures.gives told)
    (λ l sound stands at. idle-may_start l f s at)
    (λ l ns sound stands at is. (sym c.if-dirty.true ∙ c.is_dirty-dirty.ensures told l (loose _ _ l sound) stands s at.cached, is)))
    (c.in_ok-keep.ensures.gives told)
    (λ l ns sound at is after. idle-started l f s ns at is.1)
    (λ l ns ms sound at is kept. begun-stale l f s ns ms is.0 is.1 kept)

pub drop_slot-requires : goal.drop_slot-requires
drop_slot-requires g c =
    let at = c.requires in (
      at.0,
      at.1,
      at.2,
      idle-may_drop at.0 c.args.frame c.args.slot at.3
          (sym c.if-dirty.false ∙ c.is_dirty-dirty.ensures false at.0 (loose _ _ at.0 at.1) at.2 c.args.slot at.3.cached),
    )

pub returns-clause-gives : goal.returns-clause-gives
returns-clause-gives g c = λ told.
    let k = g.S.System.view c.args.system.now told in
    let f = c.args.frame in
    let s = c.args.slot in
    gives-as _ _ _ _ (MayDrop f s) (IsSentIdle f s) (Adds (Dropped s ∷ [])) (GoesOut f s) (c.in_ok-drop_slot.ensures.gives told)
    (λ l sound stands at. idle-may_drop l f s at
    (sym c.if-dirty.false ∙ c.is_dirty-dirty.ensures told l (loose _ _ l sound) stands s at.cached))
    (λ l ns sound stands at is. begun-clean l f s ns
    (sym c.if-dirty.false ∙ c.is_dirty-dirty.ensures told l (loose _ _ l sound) stands s at.cached) is)
