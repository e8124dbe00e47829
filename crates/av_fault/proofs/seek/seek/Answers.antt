use Rattle.std.proofs.Common.{subst}
use Rattle.av_fault.proofs.SeekLaws.{HasEnded, sought-frame, sought-out}
use Rattle.av_fault.proofs.seek.seek.Goals as goal

pub returns-in-Frame-clause-sought : goal.returns-in-Frame-clause-sought
returns-in-Frame-clause-sought g c = λ told w r l h.
    sought-frame _ _ c.args.mem.now c.seek.new.mem w r l c.args.pinned c.args.notes.now c.seek.new.notes c.in-Frame.field-0
    (subst (HasEnded _ _ c.args.mem.now c.seek.new.mem w r l c.args.pinned c.args.notes.now c.seek.new.notes) c.in-Frame.is
    (c.in_ok-seek.ensures.seeks told w r l h))

pub returns-in-Out-clause-sought : goal.returns-in-Out-clause-sought
returns-in-Out-clause-sought g c = λ told w r l h.
    sought-out _ _ c.args.mem.now c.seek.new.mem w r l c.args.pinned c.args.notes.now c.seek.new.notes c.in-Out.out
    (subst (HasEnded _ _ c.args.mem.now c.seek.new.mem w r l c.args.pinned c.args.notes.now c.seek.new.notes) c.in-Out.is
    (c.in_ok-seek.ensures.seeks told w r l h))
