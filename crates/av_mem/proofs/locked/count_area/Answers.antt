use Rattle.std.proofs.Common.{◌≤◌, arith, subst, sym}
use Rattle.av_vma.specs.Index.{past_of}
use Rattle.av_mem.specs.Locked.{IsCounted, MayCount, is_lock_at}
use Rattle.av_mem.specs.Mem.{locks_of}
use Rattle.av_mem.proofs.LockRuns.{area-behind, counted-none, locked-area, may-fewer, part-few}
use Rattle.av_mem.proofs.LockRuns.{unlocked-area}
use Rattle.av_mem.proofs.locked.count_area.Goals as goal

pub count_entries-requires-clause-may : goal.count_entries-requires-clause-may
count_entries-requires-clause-may c = λ f.
    let a = c.args in
    let k = a.mem.now in
    let area = c.in-Some.area in
    let found = c.in-Some.ensures in
    let end = c.min-end.result in
    let on = area-behind k a.process a.from area found.laid (sym found.area) in
    let within : end ≤ past_of area = omega (arith, c.min-end.ensures) in
    let some : a.from ≤ end = omega (arith, c.min-end.ensures, on, c.requires.some) in
    let high : end ≤ a.past = omega (arith, c.min-end.ensures) in
    subst (MayCount a.way (locks_of k f))
    (locked-area k a.process a.from area found.laid (sym found.area) end within c.if-area.true f)
    (may-fewer a.way _ _ _ (c.requires.may f)
    (part-few (is_lock_at k f a.process) a.from end a.past some high))

pub returns-then-area-clause-goes_on : goal.returns-then-area-clause-goes_on
returns-then-area-clause-goes_on c =
    let a = c.args in
    let found = c.in-Some.ensures in
    let on = area-behind a.mem.now a.process a.from c.in-Some.area found.laid (sym found.area) in
    (omega (arith, c.min-end.ensures, on, c.requires.some), omega (arith, c.min-end.ensures))

pub returns-then-area-clause-locks : goal.returns-then-area-clause-locks
returns-then-area-clause-locks c = λ f.
    let a = c.args in
    let k = a.mem.now in
    let area = c.in-Some.area in
    let found = c.in-Some.ensures in
    let end = c.min-end.result in
    let within : end ≤ past_of area = omega (arith, c.min-end.ensures) in
    subst (IsCounted a.way (locks_of k f) (locks_of c.count_entries.new.mem f)) (sym
    (locked-area k a.process a.from area found.laid (sym found.area) end within c.if-area.true f))
    (c.count_entries.ensures.locks f)

pub returns-else-area-clause-goes_on : goal.returns-else-area-clause-goes_on
returns-else-area-clause-goes_on c =
    let a = c.args in
    let found = c.in-Some.ensures in
    let on = area-behind a.mem.now a.process a.from c.in-Some.area found.laid (sym found.area) in
    (omega (arith, c.min-end.ensures, on, c.requires.some), omega (arith, c.min-end.ensures))

pub returns-else-area-clause-locks : goal.returns-else-area-clause-locks
returns-else-area-clause-locks c = λ f.
    let a = c.args in
    let k = a.mem.now in
    let area = c.in-Some.area in
    let found = c.in-Some.ensures in
    let end = c.min-end.result in
    let within : end ≤ past_of area = omega (arith, c.min-end.ensures) in
    subst (IsCounted a.way (locks_of k f) (locks_of k f)) (sym
    (unlocked-area k a.process a.from area found.laid (sym found.area) end within c.if-area.false
    f)) (counted-none a.way (locks_of k f))
