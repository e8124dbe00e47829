use Rattle.std.proofs.Common.{◌∙◌, ap, refl, sym}
use Rattle.av_pagetable.specs.Entries.{entry_at}
use Rattle.av_spaces.specs.Spaces.{pages_of}
use Rattle.av_mem.specs.declared.mem.Mem.{Mem}
use Rattle.av_fork.specs.Entries.{entry_goes_over}
use Rattle.av_fork.proofs.EntriesLeft.{left-all, left-none, left-out, left-over}
use Rattle.av_fork.proofs.entries.leave_out.Goals as goal

pub loop-page-init : goal.loop-page-init
loop-page-init c = record {
  left = left-none (pages_of c.args.mem.now.spaces.processes c.args.parent) c.args.child (entry_at c.args.mem.now.tables);
  processes = refl;
  rest = refl;
}

pub loop-page-preserved-then-goes : goal.loop-page-preserved-then-goes
loop-page-preserved-then-goes c =
    let a = c.args in
    let i = c.loop-page.invariant in
    let first = c.in-Some.ensures in
    let run = c.run_from-goes.ensures in
    record {
      left = left-over (pages_of a.mem.now.spaces.processes a.parent) a.child c.loop-page.next (entry_at a.mem.now.tables) (entry_at c.loop-page.mem.tables)
          i.left c.in-Some.page c.run_from-goes.result.1 first.from_there run.further first.least
          (λ o low high. ap (λ (m : Mem). entry_goes_over (pages_of m.spaces.processes a.parent o)) (sym i.rest) ∙ run.alike o low high ∙ c.if-goes.true);
      processes = i.processes;
      rest = i.rest;
    }

pub loop-page-preserved : goal.loop-page-preserved
loop-page-preserved c =
    let a = c.args in
    let i = c.loop-page.invariant in
    let first = c.in-Some.ensures in
    let run = c.run_from-goes.ensures in
    let cleared = c.clear_range.ensures in
    record {
      left = cleared.clears ∙ left-out (pages_of a.mem.now.spaces.processes a.parent) a.child c.loop-page.next (entry_at a.mem.now.tables)
          (entry_at c.loop-page.mem.tables) i.left c.in-Some.page c.run_from-goes.result.1 first.from_there run.further first.least
          (λ o low high. ap (λ (m : Mem). entry_goes_over (pages_of m.spaces.processes a.parent o)) (sym i.rest) ∙ run.alike o low high ∙ c.if-goes.false);
      processes = cleared.processes ∙ i.processes;
      rest = ap (λ (m : Mem). record m { tables = c.clear_range.new.self }) i.rest;
    }

pub returns-clause-left : goal.returns-clause-left
returns-clause-left c =
    let a = c.args in
    left-all (pages_of a.mem.now.spaces.processes a.parent) a.child c.loop-page.next (entry_at a.mem.now.tables) (entry_at c.loop-page.mem.tables)
    c.loop-page.invariant.left c.in_default.ensures
