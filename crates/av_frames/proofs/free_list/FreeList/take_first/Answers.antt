use Rattle.std.proofs.Common.{◌≡◌, Some, refl, sym, ap, ◌∙◌}
use Rattle.av_frames.specs.Free.{listed}
use Rattle.av_frames.specs.Store.{first_of}
use Rattle.av_frames.proofs.Free.{first-goes, in_range_listed, once_listed}
use Rattle.av_frames.proofs.free_list.FreeList.take_first.Goals as goal

pub returns : goal.returns
returns c =
    let s = c.self.inside in
    let f = c.in_ok-frame.frame in
    let first : first_of (listed s.places.items s.queue.items) ≡ Some f =
    ap (λ ps. first_of (listed ps s.queue.items)) (sym c.deref.ensures.value) ∙ sym c.in_ok-frame.ensures in
    let goes = first-goes f (listed s.places.items s.queue.items) first (once_listed _ _ _ _ c.self.invariant f) in
    rw c.take_out.ensures (rw (← c.self.view_is) (goes.0, in_range_listed _ _ _ _ c.self.invariant f goes.1, goes.2, refl))
