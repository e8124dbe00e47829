use Rattle.std.proofs.Common.{◌≡◌, ℕ, ◌≤◌, length, take}
use Rattle.av_base.specs.Words.{how_many}
use Rattle.av_frames.specs.Store.{shown}
use Rattle.av_rmap.specs.Walk.{names_frame}
use Rattle.av_mem.specs.Locked.{IsCounted}
use Rattle.av_mem.proofs.locked.count_each.Given as goal

abbrev pub invariant-loop-entry : goal.invariant-loop-entry
invariant-loop-entry l = record {
  within : l.entry-index ≤ length l.run;
  locks : (f : ℕ) → IsCounted l.way ((shown l.initial.frames).locks f) ((shown l.frames).locks f)
      (how_many (names_frame f) (take l.entry-index l.run));
  rest : shown l.frames ≡ record (shown l.initial.frames) { locks = (shown l.frames).locks };
}
