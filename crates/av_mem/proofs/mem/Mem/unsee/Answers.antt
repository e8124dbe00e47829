use Rattle.std.proofs.Common.{sym, ap, ◌∙◌, rules}
use Rattle.av_mem.specs.declared.mem.Mem.{Mem}
use Rattle.av_mem.proofs.ChainLaws.{none-seen, unseen-still, unseen-view}
use Rattle.av_mem.proofs.mem.Mem.unsee.Goals as goal

pub returns-then-not-may_be_seen-clause-unseen : goal.returns-then-not-may_be_seen-clause-unseen
returns-then-not-may_be_seen-clause-unseen c = sym (unseen-still c.args.self.now c.args.frame (c.may_be_seen.ensures (search rules)))

pub mark_unseen-requires : goal.mark_unseen-requires
mark_unseen-requires c = none-seen c.args.self.now c.clear-seen.new.self c.args.frame c.clear-seen.ensures.entries

pub returns-clause-unseen : goal.returns-clause-unseen
returns-clause-unseen c =
    let still = c.mark_unseen.ensures.entries in
    unseen-view c.args.self.now (record c.clear-seen.new.self { tables = c.mark_unseen.new.self }) c.args.frame
    (ap (λ (k : Mem). record k { tables = c.mark_unseen.new.self }) c.clear-seen.ensures.rest) (still ∙ c.clear-seen.ensures.entries)
