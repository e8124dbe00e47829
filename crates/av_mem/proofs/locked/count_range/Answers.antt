use Rattle.std.proofs.Common.{◌-◌, ◌≤◌, ◌∙◌, ap, arith, refl, subst, sym}
use Rattle.av_vma.specs.Areas.{area_of, is_locked}
use Rattle.av_mem.specs.Locked.{IsCounted, is_lock_at, locks_in}
use Rattle.av_mem.specs.Mem.{locks_of}
use Rattle.av_mem.specs.Entries.{AreWithin}
use Rattle.av_mem.specs.declared.mem.Mem.{Mem}
use Rattle.av_mem.proofs.LockRuns.{counted-none, counted-then, locks-end, may-then, none-locked}
use Rattle.av_mem.proofs.LockRuns.{none-yet, piece-counted}
use Rattle.av_mem.proofs.locked.count_range.Goals as goal

pub returns-then-not-any_locked-clause-locks : goal.returns-then-not-any_locked-clause-locks
returns-then-not-any_locked-clause-locks c = λ f.
    let a = c.args in
    let k = a.mem.now in
    subst (IsCounted a.way (locks_of k f) (locks_of k f))
    (sym (none-locked k c.by_number.ensures.numbered (λ number.
    ap (λ areas. is_locked (area_of areas number)) (sym c.by_number.ensures.areas)
    ∙ c.if-not-any_locked.ensures number) a.process a.from (a.past - a.from) f))
    (counted-none a.way (locks_of k f))

pub loop-page-init : goal.loop-page-init
loop-page-init c =
    let a = c.args in
    record {
      low = omega arith;
      all = omega arith;
      locks = λ f. none-yet a.way (locks_of a.mem.now f) (is_lock_at a.mem.now f a.process) a.from;
      same = refl;
      rest = refl;
    }

pub count_area-next-requires-clause-within : goal.count_area-next-requires-clause-within
count_area-next-requires-clause-within c =
    subst AreWithin (sym c.loop-page.invariant.same) c.requires.within

pub count_area-next-requires-clause-may : goal.count_area-next-requires-clause-may
count_area-next-requires-clause-may c = λ f.
    let a = c.args in
    let k = c.loop-page.mem in
    let i = c.loop-page.invariant in
    let page = c.in-Some.page in
    may-then a.way _ _ _ _ _ (i.locks f) (c.requires.may f)
    (subst (λ n. n ≤ locks_in a.mem.now a.process a.from (a.past - a.from) f)
    (sym (piece-counted a.mem.now k i.rest a.process a.from c.loop-page.next i.low page a.past
    c.in-Some.ensures.from_there (omega (arith, c.if-page-past.false)) c.in-Some.ensures.least f))
    (omega arith))

pub loop-page-preserved : goal.loop-page-preserved
loop-page-preserved c =
    let a = c.args in
    let k = c.loop-page.mem in
    let i = c.loop-page.invariant in
    let low = i.low in
    let first = c.in-Some.ensures in
    let up = first.from_there in
    let area = c.count_area-next in
    let on = area.ensures.goes_on.0 in
    let within = area.ensures.goes_on.1 in
    record {
      low = omega (arith, low, up, on);
      all = omega (arith, low, up, on, within);
      locks = λ f. subst (IsCounted a.way (locks_of a.mem.now f) (locks_of area.new.mem f))
          (piece-counted a.mem.now k i.rest a.process a.from c.loop-page.next low c.in-Some.page
          area.result up (omega (arith, on)) first.least f)
          (counted-then a.way _ _ _ _ _ (i.locks f) (area.ensures.locks f));
      same = area.ensures.view ∙ i.same;
      rest = area.ensures.rest ∙ ap (λ (k : Mem). record k { frames = area.new.mem.frames }) i.rest;
    }

pub returns-then-page-past-clause-locks : goal.returns-then-page-past-clause-locks
returns-then-page-past-clause-locks c = λ f.
    let a = c.args in
    let k = c.loop-page.mem in
    let i = c.loop-page.invariant in
    subst (IsCounted a.way (locks_of a.mem.now f) (locks_of k f))
    (locks-end a.mem.now k i.rest a.process a.from c.loop-page.next i.low a.past i.all
    (λ q low high. c.in-Some.ensures.least q low (omega (arith, low, high, c.if-page-past.true)))
    f) (i.locks f)

pub returns-clause-locks : goal.returns-clause-locks
returns-clause-locks c = λ f.
    let a = c.args in
    let k = c.loop-page.mem in
    let i = c.loop-page.invariant in
    subst (IsCounted a.way (locks_of a.mem.now f) (locks_of k f))
    (locks-end a.mem.now k i.rest a.process a.from c.loop-page.next i.low a.past i.all
    (λ q low high. c.in_default.ensures q low) f) (i.locks f)
