use Rattle.std.proofs.Common.{◌+◌, ◌-◌, ◌≤◌, ◌∙◌, ap, arith, refl, subst, sym, take}
use Rattle.av_frames.specs.Store.{shown}
use Rattle.av_pagetable.specs.Entries.{entry_at}
use Rattle.av_rmap.specs.Walk.{names_frame}
use Rattle.av_mem.specs.Entries.{AreWithin}
use Rattle.av_mem.specs.Locked.{IsCounted, names_in}
use Rattle.av_mem.specs.Mem.{locks_of}
use Rattle.av_mem.specs.declared.mem.Mem.{Mem}
use Rattle.av_mem.proofs.LockRuns.{counted-then, may-then, names-end, none-yet, part-few, run-below}
use Rattle.av_mem.proofs.LockRuns.{run-counted, same-view, taken}
use Rattle.av_mem.proofs.locked.count_entries.Goals as goal

pub loop-page-init : goal.loop-page-init
loop-page-init c =
    let a = c.args in
    record {
      long = refl;
      low = omega arith;
      all = omega arith;
      locks = λ f. none-yet a.way (locks_of a.mem.now f)
          (λ q. names_frame f (entry_at a.mem.now.tables a.process q)) a.from;
      same = refl;
      rest = refl;
    }

pub count_each-requires-clause-in_range : goal.count_each-requires-clause-in_range
count_each-requires-clause-in_range c =
    let k = c.loop-page.mem in
    let page = c.in-Some.page in
    let read = c.read_run-read in
    let len = c.min-len.result in
    let few : len ≤ read.result = omega (arith, c.min-len.ensures) in
    run-below k c.args.process page len (take len read.new.run)
    (subst AreWithin (sym c.loop-page.invariant.same) c.requires.within)
    (taken (entry_at k.tables c.args.process) page read.result len read.new.run
    read.ensures.entries read.array_long read.ensures.few few)

pub count_each-requires-clause-may : goal.count_each-requires-clause-may
count_each-requires-clause-may c = λ f.
    let a = c.args in
    let k = c.loop-page.mem in
    let i = c.loop-page.invariant in
    let low = i.low in
    let page = c.in-Some.page in
    let up = c.in-Some.ensures.from_there in
    let read = c.read_run-read in
    let len = c.min-len.result in
    let few : len ≤ read.result = omega (arith, c.min-len.ensures) in
    let within : page + len ≤ a.past = omega (arith, c.min-len.ensures, c.if-page-past.false) in
    may-then a.way _ _ _ _ _ (i.locks f) (c.requires.may f)
    (subst (λ n. n ≤ names_in a.mem.now a.process a.from (a.past - a.from) f)
    (sym (run-counted a.mem.now k i.rest a.process a.from c.loop-page.next low page len
    (take len read.new.run) up c.in-Some.ensures.least
    (taken (entry_at k.tables a.process) page read.result len read.new.run
    read.ensures.entries read.array_long read.ensures.few few) f))
    (part-few (λ q. names_frame f (entry_at a.mem.now.tables a.process q)) a.from (page + len)
    a.past (omega (arith, low, up)) within))

pub loop-page-preserved : goal.loop-page-preserved
loop-page-preserved c =
    let a = c.args in
    let k = c.loop-page.mem in
    let i = c.loop-page.invariant in
    let low = i.low in
    let page = c.in-Some.page in
    let up = c.in-Some.ensures.from_there in
    let read = c.read_run-read in
    let len = c.min-len.result in
    let few : len ≤ read.result = omega (arith, c.min-len.ensures) in
    let within : page + len ≤ a.past = omega (arith, c.min-len.ensures, c.if-page-past.false) in
    let new = c.count_each.new.frames in
    record {
      long = read.array_long;
      low = omega (arith, low, up);
      all = omega (arith, low, up, within);
      locks = λ f. subst (IsCounted a.way (locks_of a.mem.now f) ((shown new).locks f))
          (run-counted a.mem.now k i.rest a.process a.from c.loop-page.next low page len
          (take len read.new.run) up c.in-Some.ensures.least
          (taken (entry_at k.tables a.process) page read.result len read.new.run
          read.ensures.entries read.array_long read.ensures.few few) f)
          (counted-then a.way _ _ _ _ _ (i.locks f) (c.count_each.ensures.locks f));
      same = same-view k new c.count_each.ensures.rest ∙ i.same;
      rest = ap (λ (k : Mem). record k { frames = new }) i.rest;
    }

pub returns-then-page-past-clause-locks : goal.returns-then-page-past-clause-locks
returns-then-page-past-clause-locks c = λ f.
    let a = c.args in
    let k = c.loop-page.mem in
    let i = c.loop-page.invariant in
    subst (IsCounted a.way (locks_of a.mem.now f) (locks_of k f))
    (names-end a.mem.now k i.rest a.process a.from c.loop-page.next i.low a.past i.all
    (λ q low high. c.in-Some.ensures.least q low (omega (arith, low, high, c.if-page-past.true)))
    f) (i.locks f)

pub returns-clause-locks : goal.returns-clause-locks
returns-clause-locks c = λ f.
    let a = c.args in
    let k = c.loop-page.mem in
    let i = c.loop-page.invariant in
    subst (IsCounted a.way (locks_of a.mem.now f) (locks_of k f))
    (names-end a.mem.now k i.rest a.process a.from c.loop-page.next i.low a.past i.all
    (λ q low high. c.in_default.ensures q low) f) (i.locks f)
