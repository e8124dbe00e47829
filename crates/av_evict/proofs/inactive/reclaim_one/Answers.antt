use Rattle.std.proofs.Common.{[], None, false, sym, ◌∙◌, ◌∷◌}
use Rattle.av_trace.specs.declared.note.Cause.TheVariants.{Ksm, Locked}
use Rattle.av_trace.specs.declared.note.Note.TheVariants.{Kept}
use Rattle.av_plain.specs.Reclaim.{Outcome}
use Rattle.av_evict.specs.Steps.{IsUsed, MaySend, closes}
use Rattle.av_evict.specs.System.{Adds, spares}
use Rattle.av_evict.proofs.InactiveLaws.{outcome-locked, outcome-merged, outcome-unlocked}
use Rattle.av_evict.proofs.SystemLaws.{gives-as, loose}
use Rattle.av_evict.proofs.inactive.reclaim_one.Goals as goal

pub is_locked-requires-clause-in_range : goal.is_locked-requires-clause-in_range
is_locked-requires-clause-in_range g c = let at = c.requires in at.1.in_range c.args.frame at.3

pub is_locked-requires-clause-stands : goal.is_locked-requires-clause-stands
is_locked-requires-clause-stands g c = let at = c.requires in (at.0, loose _ _ at.0 at.1, at.2, tt)

pub is_merged-requires-clause-in_range : goal.is_merged-requires-clause-in_range
is_merged-requires-clause-in_range g c = let at = c.requires in at.1.in_range c.args.frame at.3

pub is_merged-requires-clause-stands : goal.is_merged-requires-clause-stands
is_merged-requires-clause-stands g c = let at = c.requires in (at.0, loose _ _ at.0 at.1, at.2, tt)

pub reclaim_unspared-requires-clause-may : goal.reclaim_unspared-requires-clause-may
reclaim_unspared-requires-clause-may g c = let at = c.requires in (
  at.0,
  at.1,
  at.2,
  record {
    used = at.3;
    unmerged = sym (c.is_merged.ensures false at.0 (loose _ _ at.0 at.1) at.2) ∙ c.if-is_merged.false;
  },
)

pub reclaim_unspared-requires-clause-unlocked : goal.reclaim_unspared-requires-clause-unlocked
reclaim_unspared-requires-clause-unlocked g c = sym (c.is_locked.ensures false) ∙ c.if-is_locked.false

pub returns-then-is_locked-clause-gives : goal.returns-then-is_locked-clause-gives
returns-then-is_locked-clause-gives g c = λ told.
    let k = g.S.System.view c.args.system.now told in
    let f = c.args.frame in
    gives-as _ _ _ _ (IsUsed f) (IsUsed f) (Adds (Kept f Locked ∷ [])) (λ l ns. Outcome k.setting (spares k None) l f ns)
    (c.in_ok-keep.ensures.gives told) (λ l sound stands used. used)
    (λ l ns sound stands used is. outcome-locked k.setting (spares k None) l f ns (sym c.if-is_locked.true ∙ c.is_locked.ensures told) is)

pub returns-then-is_merged-clause-gives : goal.returns-then-is_merged-clause-gives
returns-then-is_merged-clause-gives g c = λ told.
    let k = g.S.System.view c.args.system.now told in
    let f = c.args.frame in
    gives-as _ _ _ _ (IsUsed f) (IsUsed f) (Adds (Kept f Ksm ∷ [])) (λ l ns. Outcome k.setting (spares k None) l f ns)
    (c.in_ok-keep-2.ensures.gives told) (λ l sound stands used. used)
    (λ l ns sound stands used is. outcome-merged k.setting (spares k None) l f ns (sym (c.is_locked.ensures told) ∙ c.if-is_locked.false)
    (sym c.if-is_merged.true ∙ c.is_merged.ensures told l (loose _ _ l sound) stands) is)

pub returns-clause-gives : goal.returns-clause-gives
returns-clause-gives g c = λ told.
    let k = g.S.System.view c.args.system.now told in
    let f = c.args.frame in
    gives-as _ _ _ _ (MaySend f) (IsUsed f) (λ l ns. Outcome k.setting (closes k.closing) l f ns) (λ l ns. Outcome k.setting (spares k None) l f ns)
    (c.in_ok-reclaim_unspared.ensures.gives told)
    (λ l sound stands used. record {
      used = used;
      unmerged = sym (c.is_merged.ensures told l (loose _ _ l sound) stands) ∙ c.if-is_merged.false;
    })
    (λ l ns sound stands used out. outcome-unlocked k.setting (spares k None) l f ns (sym (c.is_locked.ensures told) ∙ c.if-is_locked.false) out)
