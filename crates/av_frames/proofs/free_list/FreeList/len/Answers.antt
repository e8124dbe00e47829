use Rattle.std.proofs.Common.{◌≡◌, ℕ, ◌≤◌, ◌<◌, ◌==◌, true, subst}
use Rattle.av_base.specs.Words.{how_many, is_in}
use Rattle.av_frames.specs.Free.{FreeFrames}
use Rattle.av_frames.proofs.Free.{once_listed, in_range_listed}
use Rattle.av_frames.proofs.free_list.FreeList.len.Goals as goal

pub returns-clause-once : goal.returns-clause-once
returns-clause-once c = subst (λ (v : FreeFrames). (f : ℕ) → how_many (λ g. f == g) v.items ≤ 1) c.self.view_is (once_listed _ _ _ _ c.self.invariant)

pub returns-clause-in_range : goal.returns-clause-in_range
returns-clause-in_range c = subst (λ (v : FreeFrames). (f : ℕ) → is_in f v.items ≡ true → f < v.count) c.self.view_is
    (in_range_listed _ _ _ _ c.self.invariant)
