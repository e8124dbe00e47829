use Rattle.std.proofs.Common.{false, sym, ◌∙◌}
use Rattle.av_evict.proofs.SystemLaws.{gives-as, loose}
use Rattle.av_swapoff.specs.Empty.{EmptiesPageBy, EmptiesSlotBy, MayEmpty}
use Rattle.av_swapoff.specs.Slot.{MayFetch}
use Rattle.av_swapoff.proofs.EmptyLaws.{emptied-page, page-fetch, page-user}
use Rattle.av_swapoff.proofs.empty.empty_page.Goals as goal

pub unreachable-requires : goal.unreachable-requires
unreachable-requires g c =
    let at = c.requires in
    page-user at.0 c.args.slot c.args.user c.in_default.is
    (sym c.if-not-is_in_use.false ∙ c.is_in_use.ensures false at.0 (loose _ _ at.0 at.1) at.2) at.3

pub returns-clause-gives : goal.returns-clause-gives
returns-clause-gives g c = λ told.
    let k = g.S.System.view c.args.system.now told in
    let new = g.S.System.view c.empty_slot.new.system told in
    let s = c.args.slot in
    let u = c.in-Some.user in
    let end = c.in_ok-stuck.stuck in
    gives-as _ _ _ _ (MayFetch s u) (MayEmpty s c.args.user) (EmptiesSlotBy k new s end) (EmptiesPageBy k new s end)
    (c.in_ok-stuck.ensures.gives told)
    (λ l sound stands may. page-fetch l s c.args.user u c.in-Some.is
    (sym c.if-not-is_in_use.false ∙ c.is_in_use.ensures told l (loose _ _ l sound) stands) may)
    (λ l ns sound stands may did. emptied-page k new l s end ns
    (page-fetch l s c.args.user u c.in-Some.is (sym c.if-not-is_in_use.false ∙ c.is_in_use.ensures told l (loose _ _ l sound) stands) may).used did)
