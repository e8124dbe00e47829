use Rattle.std.proofs.Common.{None, ap, sym, ◌∙◌}
use Rattle.std.specs.Prelude.{option_and_then}
use Rattle.av_plain.specs.World.{is_locked_page, pages}
use Rattle.av_audit_ranges.specs.Marks.{is_locked}
use Rattle.av_audit_ranges.specs.Ranges.{marks_at}
use Rattle.av_audit_world.specs.Locks.{locks_page}
use Rattle.av_audit_world.specs.declared.space.Space.{Space}
use Rattle.av_audit_world.proofs.LockLaws.{locks-is, noted-locks, same-run, unnoted}
use Rattle.av_audit_world.proofs.WorldLaws.{found, no-pages, spaces-find}
use Rattle.av_audit_world.proofs.memories.Memories.next_locked.Goals as goal

pub returns-then-not-contains-clause-kept : goal.returns-then-not-contains-clause-kept
returns-then-not-contains-clause-kept c = λ page low.
    unnoted c.args.self.now (c.args.number, page) (sym c.contains.ensures ∙ c.if-not-contains.true)

pub returns-then-not-contains-clause-pages : goal.returns-then-not-contains-clause-pages
returns-then-not-contains-clause-pages c = λ w h page low. sym (locks-is c.args.self.now w h (c.args.number, page))
    ∙ unnoted c.args.self.now (c.args.number, page) (sym c.contains.ensures ∙ c.if-not-contains.true)

pub returns-in-None-clause-kept : goal.returns-in-None-clause-kept
returns-in-None-clause-kept c = λ page low. sym (noted-locks c.args.self.now (c.args.number, page) None
    (sym c.contains.ensures ∙ c.if-not-contains.false) (ap (option_and_then (λ (s : Space). marks_at s.ranges page)) c.in-None.ensures.value))

pub returns-in-None-clause-pages : goal.returns-in-None-clause-pages
returns-in-None-clause-pages c = λ w h page low. ap (λ q. is_locked_page (q page))
    (no-pages _ w c.args.number (spaces-find c.args.self.now.spaces.entries w c.args.number h.spaces) (sym c.in-None.ensures.value))

pub returns-in-Some-clause-kept : goal.returns-in-Some-clause-kept
returns-in-Some-clause-kept c = same-run (λ page. is_locked (marks_at c.in-Some.space.now.ranges page))
    (λ page. locks_page c.args.self.now (c.args.number, page)) c.args.from c.next_locked.result
    (λ page. noted-locks c.args.self.now (c.args.number, page) (marks_at c.in-Some.space.now.ranges page)
    (sym c.contains.ensures ∙ c.if-not-contains.false) (ap (option_and_then (λ (s : Space). marks_at s.ranges page)) c.in-Some.ensures.value))
    c.next_locked.ensures.kept

pub returns-in-Some-clause-pages : goal.returns-in-Some-clause-pages
returns-in-Some-clause-pages c = λ w h. c.next_locked.ensures.pages (pages w c.args.number)
    (found _ w c.args.number c.in-Some.space.now (spaces-find c.args.self.now.spaces.entries w c.args.number h.spaces) (sym c.in-Some.ensures.value)).1
