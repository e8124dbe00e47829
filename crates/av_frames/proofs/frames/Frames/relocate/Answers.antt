use Rattle.std.proofs.Common.{◌∷◌, ap, ◌∙◌}
use Rattle.av_base.specs.Words.{is_in, without}
use Rattle.av_frames.specs.Free.{FreeFrames}
use Rattle.av_frames.specs.Store.{Shown, Store, shown}
use Rattle.av_frames.specs.contracts.frames.Frames.{the_view}
use Rattle.av_frames.proofs.Shown.{absent_without, relocates}
use Rattle.av_frames.proofs.frames.Frames.relocate.Goals as goal

pub give-requires-clause-not_free : goal.give-requires-clause-not_free
give-requires-clause-not_free c =
    let out = ap (λ (q : FreeFrames). shown (record (the_view c.self.inside) { free = q.items })) c.take_out.ensures
    ∙ ap (λ (v : Store). record (shown v) { free = without c.args.to v.free }) c.self.view_is in
    ap (λ (s : Shown). is_in c.args.from s.free)
    (relocates c.args.from c.args.to _ _ _ _ _ _ _ _ _ _ _ _ _ _ _ _ out c.copy.ensures c.home.ensures c.set_home.ensures c.dirty.ensures
    c.set_dirty.ensures c.maps.ensures c.set_maps.ensures c.set_maps-2.ensures
    c.locks.ensures c.set_locks.ensures c.set_locks-2.ensures c.slot.ensures c.set_slot.ensures c.set_slot-2.ensures)
    ∙ absent_without c.args.from c.args.to _ c.requires.not_free

pub returns : goal.returns
returns c =
    let out = ap (λ (q : FreeFrames). shown (record (the_view c.self.inside) { free = q.items })) c.take_out.ensures
    ∙ ap (λ (v : Store). record (shown v) { free = without c.args.to v.free }) c.self.view_is in
    c.give.ensures
    ∙ ap (λ (s : Shown). record s { free = c.args.from ∷ s.free })
    (relocates c.args.from c.args.to _ _ _ _ _ _ _ _ _ _ _ _ _ _ _ _ out c.copy.ensures c.home.ensures c.set_home.ensures c.dirty.ensures
    c.set_dirty.ensures c.maps.ensures c.set_maps.ensures c.set_maps-2.ensures
    c.locks.ensures c.set_locks.ensures c.set_locks-2.ensures c.slot.ensures c.set_slot.ensures c.set_slot-2.ensures)
