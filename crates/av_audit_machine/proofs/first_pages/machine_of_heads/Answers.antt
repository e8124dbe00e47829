use Rattle.std.proofs.Common.{subst, arith, take_all}
use Rattle.av_audit_book.specs.declared.machine.Machine.{Machine}
use Rattle.av_audit_machine.proofs.FirstPageLaws.{AreReadFrom, read-next, said-counted, said-named, said-setting}
use Rattle.av_audit_machine.proofs.first_pages.machine_of_heads.Goals as goal

pub loop-head-preserved : goal.loop-head-preserved
loop-head-preserved c =
    read-next c.args.heads.now c.loop-head.head-index _ c.loop-head.read.items _ _ c.loop-head-test.true c.loop-head.invariant
    c.in_ok-head_read.ensures c.in_ok-push.ensures.items

pub returns-clause-setting : goal.returns-clause-setting
returns-clause-setting c =
    let machine : Machine = record { frames = c.args.frames; heads = c.loop-head.read } in
    let all = take_all c.loop-head.head-index c.args.heads.now (omega (arith, c.loop-head-test.false)) in
    said-setting c.args.heads.now machine (subst (λ hs. AreReadFrom hs machine.heads.items) all c.loop-head.invariant)

pub returns-clause-named : goal.returns-clause-named
returns-clause-named c =
    let machine : Machine = record { frames = c.args.frames; heads = c.loop-head.read } in
    let all = take_all c.loop-head.head-index c.args.heads.now (omega (arith, c.loop-head-test.false)) in
    said-named c.args.heads.now machine (subst (λ hs. AreReadFrom hs machine.heads.items) all c.loop-head.invariant) c.requires

pub returns-clause-counted : goal.returns-clause-counted
returns-clause-counted c =
    let machine : Machine = record { frames = c.args.frames; heads = c.loop-head.read } in
    let all = take_all c.loop-head.head-index c.args.heads.now (omega (arith, c.loop-head-test.false)) in
    said-counted c.args.heads.now machine (subst (λ hs. AreReadFrom hs machine.heads.items) all c.loop-head.invariant)
