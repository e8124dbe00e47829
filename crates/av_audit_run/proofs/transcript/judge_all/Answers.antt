use Rattle.std.proofs.Common.{◌≡◌, ◌+◌, drop, length, sym, subst, ◌∙◌, arith, take_all}
use Rattle.std.proofs.lemmas.Result.{err_from_is_err_and}
use Rattle.av_ports.proofs.Times.{unfailed_then}
use Rattle.av_audit.specs.Swap.{FitsWords}
use Rattle.av_audit_input.proofs.InputLaws.{is-open-then, only-then}
use Rattle.av_audit_input.specs.Script.{AreLinesOf}
use Rattle.av_audit_run.proofs.JudgeAll.{all-legal, at-place, missing, next-command, none-else, on-machine, breaks, some-command, too-many, verdict-ends}
use Rattle.av_audit_run.proofs.JudgeAll.{verdict-goes, verdict-legal, wants-memory}
use Rattle.av_audit_run.proofs.transcript.judge_all.Goals as goal

pub returns-in_err-read_unit-clause-stops : goal.returns-in_err-read_unit-clause-stops
returns-in_err-read_unit-clause-stops g c =
    let p = err_from_is_err_and c.from_residual.result c.from_residual.ensures.1 in
    rw (p.1, p.2) (λ commands h. breaks (c.loop-index.invariant.legal commands h).1 c.in_err-read_unit.field-0.0 c.read_unit.new.unit.items
    c.read_unit.new.pending (g.P.Ports.view c.read_unit.new.ports) c.in_err-read_unit.ensures.stops)

pub returns-in_err-read_unit-clause-only : goal.returns-in_err-read_unit-clause-only
returns-in_err-read_unit-clause-only g c = only-then _ _ _ c.loop-index.invariant.only c.read_unit.ensures.only

pub returns-then-not-branch-clause-judges : goal.returns-then-not-branch-clause-judges
returns-then-not-branch-clause-judges g c commands h =
    let r = c.in_ok-read_unit.ensures in
    let none = rw c.if-not-branch.true at r.taken in
    let is = at-place commands c.loop-index.index (omega (arith, h.count, c.loop-index-test.true)) in
    missing (c.loop-index.invariant.legal commands h).1 c.read_unit.new.pending (g.P.Ports.view c.read_unit.new.ports) none.2
    (r.stays.ended (r.none c.if-not-branch.true)) is.2

pub returns-then-not-branch-clause-only : goal.returns-then-not-branch-clause-only
returns-then-not-branch-clause-only g c = only-then _ _ _ c.loop-index.invariant.only c.read_unit.ensures.only

pub returns-in_err-verdict-clause-stops : goal.returns-in_err-verdict-clause-stops
returns-in_err-verdict-clause-stops g c =
    let p = err_from_is_err_and c.from_residual-in_err-verdict.result c.from_residual-in_err-verdict.ensures.1 in
    let takes = rw c.if-not-branch.false at c.in_ok-read_unit.ensures.taken in
    rw (p.1, p.2) (λ commands h. wants-memory (c.loop-index.invariant.legal commands h).1 c.read_unit.new.extent.left
    c.read_unit.new.unit.items c.read_unit.new.pending (g.P.Ports.view c.read_unit.new.ports) takes c.read_unit.ensures.near)

pub returns-in_err-verdict-clause-only : goal.returns-in_err-verdict-clause-only
returns-in_err-verdict-clause-only g c = only-then _ _ _ c.loop-index.invariant.only c.read_unit.ensures.only

pub returns-in_err-size-clause-stops : goal.returns-in_err-size-clause-stops
returns-in_err-size-clause-stops g c =
    let p = err_from_is_err_and c.from_residual-in_err-size.result c.from_residual-in_err-size.ensures.1 in
    let takes = rw c.if-not-branch.false at c.in_ok-read_unit.ensures.taken in
    rw (p.1, p.2) (λ commands h. wants-memory (c.loop-index.invariant.legal commands h).1 c.read_unit.new.extent.left
    c.read_unit.new.unit.items c.read_unit.new.pending (g.P.Ports.view c.read_unit.new.ports) takes c.read_unit.ensures.near)

pub returns-in_err-size-clause-only : goal.returns-in_err-size-clause-only
returns-in_err-size-clause-only g c = only-then _ _ _ c.loop-index.invariant.only c.read_unit.ensures.only

pub returns-in_default-clause-judges : goal.returns-in_default-clause-judges
returns-in_default-clause-judges g c commands h =
    let inv = c.loop-index.invariant.legal commands h in
    absurd (some-command commands c.loop-index.index c.loop-index.rest.now c.in_ok-size.size c.first_command.new.command inv.0
    (omega (arith, h.count, c.loop-index-test.true)) c.in_ok-size.ensures.first
    (none-else c.first_command.new.command c.in_default.not-Some))

pub returns-in_default-clause-only : goal.returns-in_default-clause-only
returns-in_default-clause-only g c = only-then _ _ _ c.loop-index.invariant.only c.read_unit.ensures.only

pub returns-in-Some-finding_at-clause-judges : goal.returns-in-Some-finding_at-clause-judges
returns-in-Some-finding_at-clause-judges g c commands held =
    let inv = c.loop-index.invariant in
    let legal = inv.legal commands held in
    let h = legal.1 in
    let takes = rw c.if-not-branch.false at c.in_ok-read_unit.ensures.taken in
    let is = next-command commands c.loop-index.index c.loop-index.rest.now c.in_ok-size.size c.first_command.new.command c.in-Some.next legal.0
    (omega (arith, held.count, c.loop-index-test.true)) c.in_ok-size.ensures.first c.in-Some.is in
    let verdict = c.in_ok-verdict.verdict in
    verdict-ends c.read_unit.new.extent.left c.read_unit.new.pending (g.P.Ports.view c.read_unit.new.ports) h takes is.1 c.judge.new.self verdict
    c.read_unit.ensures.near
    (on-machine h.world h.ledger c.in-Some.next verdict c.judge.new.self inv.machine c.as_slice.ensures.value
    (c.in_ok-verdict.ensures.going inv.going h.world h.ledger h.is_at)) (sym c.finding_at.ensures ∙ c.in-Some-finding_at.is)

pub returns-in-Some-finding_at-clause-only : goal.returns-in-Some-finding_at-clause-only
returns-in-Some-finding_at-clause-only g c = only-then _ _ _ c.loop-index.invariant.only c.read_unit.ensures.only

pub loop-index-preserved : goal.loop-index-preserved
loop-index-preserved g c =
    let inv = c.loop-index.invariant in
    let takes = rw c.if-not-branch.false at c.in_ok-read_unit.ensures.taken in
    let verdict = c.in_ok-verdict.verdict in
    let legal = verdict-legal verdict (c.loop-index.index + 1) (sym c.finding_at.ensures ∙ c.in-None.is) in
    record {
      machine = c.judge.ensures.machine ∙ inv.machine;
      going = c.in_ok-verdict.ensures.goes_on legal;
      legal = λ commands held.
          let old = inv.legal commands held in
          let h = old.1 in
          let is = next-command commands c.loop-index.index c.loop-index.rest.now c.in_ok-size.size c.first_command.new.command c.in-Some.next old.0
          (omega (arith, held.count, c.loop-index-test.true)) c.in_ok-size.ensures.first c.in-Some.is in (
            subst (λ l. AreLinesOf l (drop (c.loop-index.index + 1) commands)) (sym c.behind-rest.ensures) is.2,
            verdict-goes c.read_unit.new.extent.left c.read_unit.new.pending (g.P.Ports.view c.read_unit.new.ports) h takes is.1 c.judge.new.self verdict
                (on-machine h.world h.ledger c.in-Some.next verdict c.judge.new.self inv.machine c.as_slice.ensures.value
                (c.in_ok-verdict.ensures.going inv.going h.world h.ledger h.is_at)) legal,
          );
      stays = is-open-then c.args.extent.now.ended c.loop-index.extent.ended c.read_unit.new.extent.ended c.loop-index.pending
          c.read_unit.new.pending (g.P.Ports.view c.args.ports.now) (g.P.Ports.view c.loop-index.ports) (g.P.Ports.view c.read_unit.new.ports)
          inv.stays c.in_ok-read_unit.ensures.stays;
      only = only-then _ _ _ inv.only c.read_unit.ensures.only;
      unfailed = unfailed_then _ _ _ inv.unfailed c.in_ok-read_unit.ensures.fails;
      kept = c.read_unit.ensures.kept ∙ inv.kept;
    }

pub returns-in_err-read_unit-2-clause-stops : goal.returns-in_err-read_unit-2-clause-stops
returns-in_err-read_unit-2-clause-stops g c =
    let p = err_from_is_err_and c.from_residual-in_err-read_unit-2.result c.from_residual-in_err-read_unit-2.ensures.1 in
    rw (p.1, p.2) (λ commands h. breaks (c.loop-index.invariant.legal commands h).1 c.in_err-read_unit-2.field-0.0 c.read_unit-2.new.unit.items
    c.read_unit-2.new.pending (g.P.Ports.view c.read_unit-2.new.ports) c.in_err-read_unit-2.ensures.stops)

pub returns-in_err-read_unit-2-clause-only : goal.returns-in_err-read_unit-2-clause-only
returns-in_err-read_unit-2-clause-only g c = only-then _ _ _ c.loop-index.invariant.only c.read_unit-2.ensures.only

pub returns-then-branch-clause-judges : goal.returns-then-branch-clause-judges
returns-then-branch-clause-judges g c commands h =
    let takes = rw c.if-branch.true at c.in_ok-read_unit-2.ensures.taken in
    let all : c.loop-index.index ≡ length commands = omega (arith, h.count, c.loop-index.auto.index-end, c.loop-index-test.false) in
    rw h.count (too-many c.read_unit-2.new.extent.left c.read_unit-2.new.pending (g.P.Ports.view c.read_unit-2.new.ports)
    (c.loop-index.invariant.legal commands h).1 takes c.read_unit-2.ensures.near all)

pub returns-then-branch-clause-only : goal.returns-then-branch-clause-only
returns-then-branch-clause-only g c = only-then _ _ _ c.loop-index.invariant.only c.read_unit-2.ensures.only

pub returns-clause-judges : goal.returns-clause-judges
returns-clause-judges g c commands h =
    let r = c.in_ok-read_unit-2.ensures in
    let none = rw c.if-branch.false at r.taken in
    let all = take_all c.loop-index.index commands (omega (arith, h.count, c.loop-index.auto.index-end, c.loop-index-test.false)) in
    all-legal (c.loop-index.invariant.legal commands h).1 c.read_unit-2.new.pending (g.P.Ports.view c.read_unit-2.new.ports) none.2
    (r.stays.ended (r.none c.if-branch.false)) all

pub returns-clause-only : goal.returns-clause-only
returns-clause-only g c = only-then _ _ _ c.loop-index.invariant.only c.read_unit-2.ensures.only

pub judge-requires : goal.judge-requires
judge-requires g c = subst FitsWords (sym c.loop-index.invariant.machine) c.requires.words
