use Rattle.std.proofs.Common.{[], rules, true}
use Rattle.av_reclaim.proofs.CommandLaws.{count-lent, same-lent}
use Rattle.av_swapoff.proofs.CommandLaws.{has-emptied, is-at}
use Rattle.av_swapoff.proofs.command.empty_area.Goals as goal

pub empty-requires-clause-sound : goal.empty-requires-clause-sound
empty-requires-clause-sound g c = is-at [] _ c.args.area c.args.mem.now c.requires

pub empty-requires-clause-closing : goal.empty-requires-clause-closing
empty-requires-clause-closing g c = λ told. c.requires.3.serves.swap.closed

pub returns-clause-emptied : goal.returns-clause-emptied
returns-clause-emptied g c = λ told. has-emptied _ _ _ _ _ _ _ _ c.args.area _ _ c.in_ok-end.end (c.in_ok-end.ensures.gives told)
    (λ e. (search rules, search rules))

pub returns-clause-same : goal.returns-clause-same
returns-clause-same g c = same-lent _ _ _ _ _ _ (c.in_ok-end.ensures.stays true) _ (λ e. search rules)

pub returns-clause-count : goal.returns-clause-count
returns-clause-count g c = count-lent _ _ _ _ _ _ (c.in_ok-end.ensures.stays true) _ (λ e. search rules)

pub returns-in_err-end-clause-same : goal.returns-in_err-end-clause-same
returns-in_err-end-clause-same g c = same-lent _ _ _ _ _ _ (c.in_err-end.ensures.stays true) _ (λ e. search rules)

pub returns-in_err-end-clause-count : goal.returns-in_err-end-clause-count
returns-in_err-end-clause-count g c = count-lent _ _ _ _ _ _ (c.in_err-end.ensures.stays true) _ (λ e. search rules)
