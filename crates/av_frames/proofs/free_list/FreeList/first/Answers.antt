use Rattle.std.proofs.Common.{◌≡◌, rules, sym, ap, ◌∙◌}
use Rattle.av_frames.specs.Free.{FreeFrames}
use Rattle.av_frames.specs.Store.{first_of}
use Rattle.av_frames.proofs.Free.{all_listed}
use Rattle.av_frames.proofs.free_list.FreeList.first.Goals as goal

pub returns : goal.returns
returns c =
    let front : c.copied.result ≡ first_of c.self.inside.queue.items = search rules in
    front ∙ ap first_of (sym (all_listed _ _ _ _ c.self.invariant c.if-self-gt0.false)) ∙ ap (λ (v : FreeFrames). first_of v.items) c.self.view_is
