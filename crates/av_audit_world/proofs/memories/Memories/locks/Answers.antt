use Rattle.std.proofs.Common.{None, Some, sym, ◌∙◌}
use Rattle.av_audit_world.proofs.LockLaws.{locks-is, noted-locks, unnoted}
use Rattle.av_audit_world.proofs.memories.Memories.locks.Goals as goal

pub returns-then-not-contains-clause-kept : goal.returns-then-not-contains-clause-kept
returns-then-not-contains-clause-kept c =
    sym (unnoted c.args.self.now (c.args.number, c.args.page) (sym c.contains.ensures ∙ c.if-not-contains.true))

pub returns-then-not-contains-clause-pages : goal.returns-then-not-contains-clause-pages
returns-then-not-contains-clause-pages c = λ w h.
    sym (unnoted c.args.self.now (c.args.number, c.args.page) (sym c.contains.ensures ∙ c.if-not-contains.true))
    ∙ locks-is c.args.self.now w h (c.args.number, c.args.page)

pub returns-in-None-clause-kept : goal.returns-in-None-clause-kept
returns-in-None-clause-kept c =
    noted-locks c.args.self.now (c.args.number, c.args.page) None (sym c.contains.ensures ∙ c.if-not-contains.false) c.in-None.ensures.kept

pub returns-in-Some-clause-kept : goal.returns-in-Some-clause-kept
returns-in-Some-clause-kept c =
    noted-locks c.args.self.now (c.args.number, c.args.page) (Some c.in-Some.marks) (sym c.contains.ensures ∙ c.if-not-contains.false)
    c.in-Some.ensures.kept
