use Rattle.std.proofs.Common.{◌%◌, ap, sym, ◌∙◌, arith}
use Rattle.std.proofs.lemmas.Bool.{cond-true, cond-false, eq-eqb, ne_eqb, lt-ltb, le-ltb}
use Rattle.av_base.specs.declared.prot.Prot.{Prot}
use Rattle.av_trace.specs.declared.command.Command.TheVariants as commands
use Rattle.av_replay.specs.Work.{address_of}
use Rattle.av_replay.proofs.Templates.{whole, write-is, read-is, fork-is, exit-is, reclaim-is, age-is, complete-is, mprotect-read, mprotect-write, munmap-is}
use Rattle.av_replay.proofs.Templates.{mmap-is, by-kind, write-kind, read-kind}
use Rattle.av_replay.proofs.template.template_of.Goals as goal

pub returns-in-9 : goal.returns-in-9
returns-in-9 c =
    let d = c.args.draws.now in
    fork-is d c.requires ∙ by-kind d c.requires 9 c.in-9.is

pub returns-in-10 : goal.returns-in-10
returns-in-10 c =
    let d = c.args.draws.now in
    read-is d c.requires ∙ ap (λ p. whole (commands.Read p (address_of d.page) 1)) c.if-draws-eq1.true
    ∙ ap whole (sym (cond-true _ _ _ (eq-eqb d.process 1 c.if-draws-eq1.true))) ∙ by-kind d c.requires 10 c.in-10.is

pub returns-in-10-2 : goal.returns-in-10-2
returns-in-10-2 c =
    let d = c.args.draws.now in
    exit-is d c.requires ∙ ap whole (sym (cond-false _ _ _ (ne_eqb d.process 1 c.if-draws-eq1.false))) ∙ by-kind d c.requires 10 c.in-10.is

pub returns-in-11 : goal.returns-in-11
returns-in-11 c =
    let d = c.args.draws.now in
    reclaim-is d c.requires ∙ by-kind d c.requires 11 c.in-11.is

pub returns-in-12 : goal.returns-in-12
returns-in-12 c =
    let d = c.args.draws.now in
    age-is d c.requires ∙ by-kind d c.requires 12 c.in-12.is

pub returns-in-13 : goal.returns-in-13
returns-in-13 c =
    let d = c.args.draws.now in
    complete-is d c.requires ∙ by-kind d c.requires 13 c.in-13.is

pub returns-in-14 : goal.returns-in-14
returns-in-14 c =
    let d = c.args.draws.now in
    mprotect-read d c.requires
    ∙ ap (λ (prot : Prot). whole (commands.Mprotect d.process (address_of d.page) 4096 prot))
    (sym (cond-true _ _ _ (eq-eqb (d.value % 2) 0 c.if-draws-eq0.true)))
    ∙ by-kind d c.requires 14 c.in-14.is

pub returns-in-14-2 : goal.returns-in-14-2
returns-in-14-2 c =
    let d = c.args.draws.now in
    mprotect-write d c.requires
    ∙ ap (λ (prot : Prot). whole (commands.Mprotect d.process (address_of d.page) 4096 prot))
    (sym (cond-false _ _ _ (ne_eqb (d.value % 2) 0 c.if-draws-eq0.false)))
    ∙ by-kind d c.requires 14 c.in-14.is

pub returns-in-0-to-4 : goal.returns-in-0-to-4
returns-in-0-to-4 c =
    let d = c.args.draws.now in
    write-is d c.requires ∙ ap whole (sym (write-kind d.kind d.process (address_of d.page) d.value (omega (arith, c.in-0-to-4))))

pub returns-in-5-to-8 : goal.returns-in-5-to-8
returns-in-5-to-8 c =
    let d = c.args.draws.now in
    read-is d c.requires
    ∙ ap whole (sym (read-kind d.kind d.process (address_of d.page) d.value (omega (arith, c.in-5-to-8)) (omega (arith, c.in-5-to-8))))

pub returns-in_default : goal.returns-in_default
returns-in_default c =
    let d = c.args.draws.now in
    munmap-is d c.requires ∙ ap whole (sym (cond-true _ _ _ (lt-ltb d.value 64 c.if-draws-lt64.true)))
    ∙ by-kind d c.requires 15 (omega (arith, c.in_default, c.requires.kind))

pub returns-in_default-2 : goal.returns-in_default-2
returns-in_default-2 c =
    let d = c.args.draws.now in
    mmap-is d c.requires ∙ ap whole (sym (cond-false _ _ _ (le-ltb d.value 64 c.if-draws-lt64.false)))
    ∙ by-kind d c.requires 15 (omega (arith, c.in_default, c.requires.kind))
