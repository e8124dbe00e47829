use Rattle.std.proofs.Common.{refl}
use Rattle.av_pagetable.specs.declared.pte.Pte.TheVariants.{Zero}
use Rattle.av_mem.proofs.LetGoLaws.{rest-tables}
use Rattle.av_mem.proofs.MemLaws.{entry_put_in}
use Rattle.av_fault.proofs.ZeroLaws.{zero-made}
use Rattle.av_fault.proofs.making.make_zero.Goals as goal

pub returns-clause-made : goal.returns-clause-made
returns-clause-made c = λ d w r l h.
    let old = c.args.mem.now in
    let new = record old { tables = c.set.new.self } in
    let key = c.args.key in
    zero-made d old new w r l key c.args.notes.now c.push.new.self h (rest-tables old c.set.new.self c.in_ok-set.ensures.processes).parts
    c.requires.mapped c.requires.bare
    (entry_put_in old new key.0 key.1 Zero c.in_ok-set.ensures.sets refl refl refl refl refl refl) c.in_ok-push.ensures.ok
