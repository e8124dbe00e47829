use Rattle.std.proofs.Common.{◌≤◌, sym, ◌∙◌, subst}
use Rattle.av_lru.proofs.Steps.{long, within_frames, apart_is, in_frames}
use Rattle.av_lru.proofs.lists.Lru.len.Goals as goal

pub returns-clause-count : goal.returns-clause-count
returns-clause-count c = c.of.ensures ∙ sym (long _ _ _ _ c.self.invariant _ c.self.view_is c.args.which)

pub returns-clause-within : goal.returns-clause-within
returns-clause-within c =
    subst (λ n. n ≤ c.args.self.now.frames) (sym c.of.ensures) (within_frames _ _ _ _ c.self.invariant _ c.self.view_is c.args.which)

pub returns-clause-apart : goal.returns-clause-apart
returns-clause-apart c = apart_is _ _ _ _ c.self.invariant _ c.self.view_is c.args.which

pub returns-clause-in_range : goal.returns-clause-in_range
returns-clause-in_range c = in_frames _ _ _ _ c.self.invariant _ c.self.view_is c.args.which
