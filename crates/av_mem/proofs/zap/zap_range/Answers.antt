use Rattle.std.proofs.Common.{refl}
use Rattle.av_mem.specs.declared.mem.Mem.{Mem}
use Rattle.av_mem.proofs.ZapLaws.{range-bare, range-gone}
use Rattle.av_mem.proofs.zap.zap_range.Goals as goal

pub returns-clause-zapped : goal.returns-clause-zapped
returns-clause-zapped c = λ d l stands.
    let a = c.args in
    let now = c.let_go_range.new.mem in
    let new : Mem = record now { tables = c.clear_range.new.self } in
    range-gone d a.mem.now now new l a.process a.notes.now c.let_go_range.new.notes c.in_ok-let_go_range.ensures.tables refl a.from a.past
    (c.in_ok-let_go_range.ensures.goes d l stands) c.clear_range.ensures.clears

pub returns-then-not-has_entry-clause-zapped : goal.returns-then-not-has_entry-clause-zapped
returns-then-not-has_entry-clause-zapped c = λ d l stands.
    range-bare d c.args.mem.now l c.args.process c.args.from c.args.past c.args.notes.now stands (c.has_entry.ensures c.if-not-has_entry.true)
