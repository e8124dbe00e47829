use Rattle.std.proofs.Common.{None, sym, false}
use Rattle.av_plain.specs.Event.{after_notes}
use Rattle.av_plain.specs.Pass.{Seeks}
use Rattle.av_plain.proofs.Ledger.NoSwap.{has_free-some}
use Rattle.av_evict.specs.Pass.{IsEnd}
use Rattle.av_evict.specs.System.{Always, spares}
use Rattle.av_evict.specs.declared.pass.SeekEnd.TheVariants.{Frame}
use Rattle.av_evict.proofs.SystemLaws.{gives-as, gives-at, gives-so, gives-then, loose}
use Rattle.av_swapoff.specs.Slot.{FetchesBy, IsLoaded, MayFetch}
use Rattle.av_swapoff.specs.System.{MayLoad}
use Rattle.av_swapoff.proofs.SlotLaws.{IsLoadedBy, Missing, fetched-missing, missing-may_load}
use Rattle.av_swapoff.proofs.slot.fetch.Goals as goal

pub load-requires : goal.load-requires
load-requires g c =
    let k = g.S.System.view c.args.system.now false in
    let mid = g.S.System.view c.seek.new.system false in
    let s = c.args.slot in
    let u = c.args.user in
    let f = c.in-Frame.field-0 in
    gives-at _ _ _ _ (MayFetch s u) (MayLoad mid.setting s u) (Missing k mid s) c.requires
    (gives-as _ _ _ _ Always (MayFetch s u) (Missing k mid s) (Missing k mid s)
    (gives-so _ _ _ _ Always (λ l ns. Seeks k.setting (spares k None) l ns × IsEnd k.setting (spares k None) (Frame f) l ns) (Missing k mid s)
    (rw c.in-Frame.is at (c.in_ok-end.ensures.seeks false))
    (λ l ns sound stands q goes after. record {
      sought = record { absent = sym (c.in_default.ensures false l (loose _ _ l sound) stands); seeks = q.0 };
      free = has_free-some k.setting (after_notes l ns) f q.1.0 q.1.1;
      same = goes.happened.stays.setting;
      rose = goes.happened.failures;
    }))
    (λ l sound stands may. tt) (λ l ns sound stands may q. q))
    (λ l ns sound may q after. missing-may_load k mid l s u ns sound may q)

pub returns-in_ok-loaded-in-Frame-clause-gives : goal.returns-in_ok-loaded-in-Frame-clause-gives
returns-in_ok-loaded-in-Frame-clause-gives g c = λ told.
    let k = g.S.System.view c.args.system.now told in
    let mid = g.S.System.view c.seek.new.system told in
    let new = g.S.System.view c.load.new.system told in
    let s = c.args.slot in
    let u = c.args.user in
    let f = c.in-Frame.field-0 in
    let loaded = c.in_ok-loaded-in-Frame.loaded in
    let fetched = c.fetched_by.result in
    gives-then _ _ _ _ _ _ (MayFetch s u) (MayLoad mid.setting s u) (Missing k mid s) (IsLoadedBy mid new s loaded) (FetchesBy k new s fetched)
    (gives-as _ _ _ _ Always (MayFetch s u) (Missing k mid s) (Missing k mid s)
    (gives-so _ _ _ _ Always (λ l ns. Seeks k.setting (spares k None) l ns × IsEnd k.setting (spares k None) (Frame f) l ns) (Missing k mid s)
    (rw c.in-Frame.is at (c.in_ok-end.ensures.seeks told))
    (λ l ns sound stands q goes after. record {
      sought = record { absent = sym (c.in_default.ensures told l (loose _ _ l sound) stands); seeks = q.0 };
      free = has_free-some k.setting (after_notes l ns) f q.1.0 q.1.1;
      same = goes.happened.stays.setting;
      rose = goes.happened.failures;
    }))
    (λ l sound stands may. tt) (λ l ns sound stands may q. q))
    (gives-so _ _ _ _ (MayLoad mid.setting s u) (IsLoaded mid.setting s loaded) (IsLoadedBy mid new s loaded)
    (c.in_ok-loaded-in-Frame.ensures.gives told)
    (λ l ns sound stands q goes after. record { is = q; rose = goes.happened.failures }))
    (λ l ns sound may q after. missing-may_load k mid l s u ns sound may q)
    (λ l ns ms sound may q is. fetched-missing k mid new l s loaded fetched ns ms c.fetched_by.ensures
    (λ none. c.in_ok-loaded-in-Frame.ensures.cause none told) q is)
