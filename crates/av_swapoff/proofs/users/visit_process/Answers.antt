use Rattle.std.proofs.Common.{◌≡◌, ◌+◌, ◌≤◌, length, refl, sym, ap, arith, take}
use Rattle.std.proofs.lemmas.List.{length-take-le}
use Rattle.av_pagetable.specs.Entries.{entry_at}
use Rattle.av_pagetable.proofs.Run.{run_taken}
use Rattle.av_base.specs.Keys.{Key}
use Rattle.av_mem.specs.Mem.{plain, view}
use Rattle.av_swapoff.proofs.VisitLaws.{Before, InRun, run-last, run-split, visits-all, visits-none, visits-then}
use Rattle.av_swapoff.proofs.users.visit_process.Goals as goal

pub loop-page-init : goal.loop-page-init
loop-page-init c = record {
  long = refl;
  visits = visits-none (view c.args.mem.now) c.args.area c.args.users.now (Before c.args.mem.now c.args.area c.args.process 0)
      (λ k h. let low = h.1 in omega (arith, low));
}

pub visit_run-requires : goal.visit_run-requires
visit_run-requires c =
    let read = c.read_run-len in
    let first = c.in-Some.ensures in
    let fits : read.result ≤ length read.new.run = omega (arith, read.ensures.few, read.array_long) in
    let long = length-take-le read.result read.new.run fits in
    record {
      below = omega (arith, first.below, long, read.ensures.few);
      within = c.requires;
      there = λ k below. ap plain (sym (run_taken (entry_at c.args.mem.now.tables c.args.process) c.in-Some.page read.result read.new.run fits
          read.ensures.entries k below));
    }

pub loop-page-preserved : goal.loop-page-preserved
loop-page-preserved c =
    let k = c.args.mem.now in
    let read = c.read_run-len in
    let fits : read.result ≤ length read.new.run = omega (arith, read.ensures.few, read.array_long) in
    let long = length-take-le read.result read.new.run fits in
    let run = take read.result read.new.run in
    record {
      long = read.array_long;
      visits = visits-then (view k) c.args.area (Before k c.args.area c.args.process c.loop-page.next)
          (InRun k c.args.area c.args.process c.in-Some.page (length run))
          (Before k c.args.area c.args.process (c.in-Some.page + read.result)) _ _ _
          (λ slot q here uses. run-split k c.args.area c.args.process c.loop-page.next c.in-Some.page (length run) c.in-Some.ensures slot q
          (here.0, (let below = here.1 in omega (arith, below, long))) uses) c.loop-page.invariant.visits
          c.visit_run.ensures;
    }

pub returns : goal.returns
returns c =
    let k = c.args.mem.now in
    visits-all (view k) c.args.area (Before k c.args.area c.args.process c.loop-page.next) (λ (q : Key). q.0 ≡ c.args.process) _ _
    (run-last k c.args.area c.args.process c.loop-page.next c.in_default.ensures) c.loop-page.invariant.visits
