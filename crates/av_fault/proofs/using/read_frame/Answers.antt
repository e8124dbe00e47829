use Rattle.std.proofs.Common.{◌≡◌, ◌∙◌, true, ap, refl, subst}
use Rattle.av_pagetable.specs.Entries.{entry_at, with_entry}
use Rattle.av_pagetable.specs.declared.pte.Pte.TheVariants.{Here}
use Rattle.av_mem.specs.Mem.{plain, view}
use Rattle.av_mem.proofs.LetGoLaws.{rest-none, rest-tables}
use Rattle.av_mem.proofs.MemLaws.{entry_put_in}
use Rattle.av_fault.proofs.UsingLaws.{read-done, seen-again, set-here}
use Rattle.av_fault.proofs.using.read_frame.Goals as goal

pub returns-then-not-seen-clause-read : goal.returns-then-not-seen-clause-read
returns-then-not-seen-clause-read c = λ d w r l h.
    let old = c.args.mem.now in
    let new = record old { tables = c.change.new.self } in
    read-done d old new w r l h c.args.key c.args.frame c.args.write c.args.seen c.requires
    (entry_put_in old new c.args.key.0 c.args.key.1 (Here c.args.frame c.args.write true)
    (subst (λ e. entry_at c.change.new.self ≡ with_entry c.args.key.0 c.args.key.1 e (entry_at old.tables)) c.accessed_entry.ensures
    c.change.ensures.sets)
    refl refl refl refl refl refl)
    (rest-tables old c.change.new.self c.change.ensures.processes).parts

pub returns-then-not-seen-clause-here : goal.returns-then-not-seen-clause-here
returns-then-not-seen-clause-here c =
    set-here c.args.key.0 c.args.key.1 c.accessed_entry.result (entry_at c.args.mem.now.tables) (entry_at c.change.new.self) c.change.ensures.sets
    ∙ c.accessed_entry.ensures

pub returns-else-not-seen-clause-read : goal.returns-else-not-seen-clause-read
returns-else-not-seen-clause-read c = λ d w r l h.
    let k = c.args.mem.now in
    read-done d k k w r l h c.args.key c.args.frame c.args.write c.args.seen c.requires
    (seen-again c.args.key.0 c.args.key.1 c.args.frame c.args.write (view k)
    (ap plain (c.requires ∙ ap (Here c.args.frame c.args.write) c.if-not-seen.false)))
    (rest-none k).parts
