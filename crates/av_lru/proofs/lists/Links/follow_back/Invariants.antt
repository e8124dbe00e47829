use Rattle.std.proofs.Common.{◌≡◌, ◌++◌, vec_capacity}
use Rattle.std.specs.Prelude.{slice_index}
use Rattle.av_lru.specs.Links.{walk, after_links}
use Rattle.av_lru.proofs.lists.Links.follow_back.Given as goal

abbrev pub invariant-loop-step : goal.invariant-loop-step
invariant-loop-step l =
    (l.found.items ≡ l.initial.found.items ++ walk (slice_index l.self.prev.items) l._step l.from)
    × (l.at ≡ after_links (slice_index l.self.prev.items) l._step l.from)
    × (vec_capacity l.found ≡ vec_capacity l.initial.found)
