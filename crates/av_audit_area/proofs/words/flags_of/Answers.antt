use Rattle.av_audit_area.proofs.WordLaws.{flags-same}
use Rattle.av_audit_area.proofs.words.flags_of.Goals as goal

pub returns : goal.returns
returns c = λ flags is. flags-same flags c.args.words.now is c.flag_at-dont_fork.result.0 c.flag_at-wipe_on_fork.result.0
    c.flag_at-locked.result.0 c.flag_at-mergeable.result.0 c.flag_at-dont_fork.result.1.now c.flag_at-wipe_on_fork.result.1.now
    c.flag_at-locked.result.1.now c.flag_at-mergeable.result.1.now c.flag_at-dont_fork.ensures c.flag_at-wipe_on_fork.ensures
    c.flag_at-locked.ensures c.flag_at-mergeable.ensures
