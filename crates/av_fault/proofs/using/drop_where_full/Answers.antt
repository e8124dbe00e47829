use Rattle.std.proofs.Common.{sym, ◌∙◌}
use Rattle.av_fault.proofs.DropLaws.{full-dropped, unfull-dropped}
use Rattle.av_fault.proofs.FullLaws.{full-is}
use Rattle.av_fault.proofs.using.drop_where_full.Goals as goal

pub returns-then-not-full-clause-dropped : goal.returns-then-not-full-clause-dropped
returns-then-not-full-clause-dropped c = λ d w r l h.
    unfull-dropped d c.args.mem.now w r l h c.args.frame c.args.notes.now
    (sym (full-is d c.args.mem.now w r l h) ∙ sym c.full.ensures ∙ c.if-not-full.true)

pub returns-clause-dropped : goal.returns-clause-dropped
returns-clause-dropped c = λ d w r l h.
    full-dropped d c.args.mem.now c.drop_unneeded.new.mem w r l c.args.frame c.args.notes.now c.drop_unneeded.new.notes c.in_ok-_cached._cached
    (sym (full-is d c.args.mem.now w r l h) ∙ sym c.full.ensures ∙ c.if-not-full.false) (c.in_ok-_cached.ensures.dropped d w r l h)
