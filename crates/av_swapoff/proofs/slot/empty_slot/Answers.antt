use Rattle.std.proofs.Common.{None, false}
use Rattle.av_plain.specs.Pass.{fails}
use Rattle.av_evict.specs.System.{spares}
use Rattle.av_evict.proofs.SystemLaws.{gives-at, gives-so, gives-then}
use Rattle.av_swapoff.specs.Empty.{EmptiesSlot, EmptiesSlotBy}
use Rattle.av_swapoff.specs.Slot.{FetchesBy, IsIn, MapsBack, MayFetch}
use Rattle.av_swapoff.specs.declared.slot.FetchEnd.TheVariants.{In}
use Rattle.av_swapoff.proofs.SlotLaws.{emptied-both, fetched-in, rose-plain}
use Rattle.av_swapoff.proofs.slot.empty_slot.Goals as goal

pub map_back-requires : goal.map_back-requires
map_back-requires g c =
    let k = g.S.System.view c.args.system.now false in
    let mid = g.S.System.view c.fetch.new.system false in
    let s = c.args.slot in
    let u = c.args.user in
    let f = c.in-In.frame in
    gives-at _ _ _ _ (MayFetch s u) (IsIn s f) (FetchesBy k mid s (In f)) c.requires (rw c.in-In.is at (c.in_ok-fetched.ensures.gives false))
    (λ l ns sound may q after. fetched-in k.setting (spares k None) l s u f ns sound may q.0)

pub returns-in_ok-map_back-in-In-clause-gives : goal.returns-in_ok-map_back-in-In-clause-gives
returns-in_ok-map_back-in-In-clause-gives g c = λ told.
    let k = g.S.System.view c.args.system.now told in
    let mid = g.S.System.view c.fetch.new.system told in
    let new = g.S.System.view c.map_back.new.system told in
    let s = c.args.slot in
    let u = c.args.user in
    let f = c.in-In.frame in
    gives-so _ _ _ _ (MayFetch s u) (EmptiesSlot k.setting (spares k None) s None) (EmptiesSlotBy k new s None)
    (gives-then _ _ _ _ _ _ (MayFetch s u) (IsIn s f) (FetchesBy k mid s (In f)) (MapsBack s f) (EmptiesSlot k.setting (spares k None) s None)
    (rw c.in-In.is at (c.in_ok-fetched.ensures.gives told)) (c.in_ok-map_back-in-In.ensures.gives told)
    (λ l ns sound may q after. fetched-in k.setting (spares k None) l s u f ns sound may q.0)
    (λ l ns ms sound may q back. emptied-both k.setting (spares k None) l s f ns ms q.0 back))
    (λ l ns sound stands q goes after. (q, rose-plain (fails ns) k.failures new.failures goes.happened.failures))
