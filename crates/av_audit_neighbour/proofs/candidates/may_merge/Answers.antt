use Rattle.std.proofs.Common.{ap, sym, arith, ◌≤◌}
use Rattle.std.proofs.lemmas.Bool.Decides.{nat_tests}
use Rattle.av_base.specs.Limits.{top_page}
use Rattle.av_plain.specs.Merge.{may_merge}
use Rattle.av_audit_neighbour.proofs.CandidateLaws.{none-above}
use Rattle.av_audit_neighbour.proofs.candidates.may_merge.Goals as goal

pub returns-then-key-ge-TOP_PAGE-clause-may : goal.returns-then-key-ge-TOP_PAGE-clause-may
returns-then-key-ge-TOP_PAGE-clause-may c = λ w h.
    let high : top_page ≤ c.args.key.1 = grind (arith, nat_tests, c.if-key-ge-TOP_PAGE.true) in
    ap may_merge (sym (none-above c.args.memories.now w c.args.key h high))
