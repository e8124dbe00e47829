use Rattle.std.proofs.Common.{ℕ, ◌+◌, ◌≤◌, ◌∙◌, ap, arith, length, refl, sym, subst, take}
use Rattle.std.proofs.lemmas.List.{length-take-le}
use Rattle.av_base.specs.Words.{with_at}
use Rattle.av_pagetable.specs.Entries.{entry_at}
use Rattle.av_pagetable.specs.Table.{read_only}
use Rattle.av_pagetable.specs.declared.pte.Pte.{Pte}
use Rattle.av_pagetable.proofs.Run.{run_taken}
use Rattle.av_mem.specs.Entries.{IsInUse}
use Rattle.av_mem.specs.Mem.{view}
use Rattle.av_mem.specs.Steps.{KeepsRest}
use Rattle.av_mem.proofs.LetGoLaws.{rest-tables, rest-then}
use Rattle.av_fork.specs.Entries.{left_in}
use Rattle.av_fork.proofs.EntriesViews.{all-seen, areas_on, fork_view, forked-child, in-use-seen, none-seen, room-now, run-seen}
use Rattle.av_fork.proofs.entries.fork_entries.Goals as goal

pub loop-page-init : goal.loop-page-init
loop-page-init c =
    let a = c.args in
    let old = a.mem.now in
    let new = c.leave_out.new.mem in
    let protects = c.write_protect.ensures.protects
    ∙ ap (λ (t : ℕ → ℕ → Pte). with_at {X = ℕ → Pte} a.parent (λ o. read_only (t a.parent o)) t) c.in_ok-copy.ensures.copies in
    let tables = c.leave_out.ensures.left
    ∙ ap (λ (t : ℕ → ℕ → Pte). with_at {X = ℕ → Pte} a.child (left_in (areas_on old a.parent) (t a.child)) t) protects in
    let processes = c.leave_out.ensures.processes ∙ c.write_protect.ensures.processes ∙ c.in_ok-copy.ensures.processes in
    record {
      long = refl;
      view = ap view c.leave_out.ensures.rest ∙ none-seen old a.parent a.child new.tables tables;
      tables = tables;
      rest = subst (KeepsRest old) (sym c.leave_out.ensures.rest) (rest-tables old new.tables processes);
    }

pub count_each_for_child-requires-clause-used : goal.count_each_for_child-requires-clause-used
count_each_for_child-requires-clause-used c = λ i low.
    let a = c.args in
    let now = c.loop-page.mem in
    let v = c.loop-page.invariant in
    let o = c.requires.orderly in
    let read = c.read_run-len in
    let at = c.in-Some.page + i in
    let fits : read.result ≤ length read.new.run = omega (arith, read.ensures.few, read.array_long) in
    subst (IsInUse now)
    (sym (run_taken (entry_at now.tables a.child) c.in-Some.page read.result read.new.run fits read.ensures.entries i low
    ∙ ap (λ (t : ℕ → ℕ → Pte). t a.child at) v.tables
    ∙ forked-child (areas_on a.mem.now a.parent) a.parent a.child (entry_at a.mem.now.tables) c.requires.empty at))
    (in-use-seen a.mem.now a.parent a.child o.0 o.1 o.2 now c.loop-page.next v.view v.rest.parts.count at)

pub count_each_for_child-requires-clause-room : goal.count_each_for_child-requires-clause-room
count_each_for_child-requires-clause-room c =
    let a = c.args in
    let o = c.requires.orderly in
    let read = c.read_run-len in
    let long = length-take-le read.result read.new.run (omega (arith, read.ensures.few, read.array_long)) in
    let room = room-now a.mem.now a.parent a.child o.0 o.1 o.2 c.loop-page.mem c.loop-page.next c.loop-page.invariant.view
    c.requires.few c.requires.few_slots (length (take read.result read.new.run)) (omega (arith, long, read.ensures.few)) in
    record { maps = room.maps; entries = room.entries }

pub loop-page-preserved : goal.loop-page-preserved
loop-page-preserved c =
    let a = c.args in
    let now = c.loop-page.mem in
    let v = c.loop-page.invariant in
    let page = c.in-Some.page in
    let read = c.read_run-len in
    let table = entry_at now.tables a.child in
    let fits : read.result ≤ length read.new.run = omega (arith, read.ensures.few, read.array_long) in
    record {
      long = read.array_long;
      view = run-seen a.mem.now a.parent a.child now c.count_each_for_child.new.mem table c.loop-page.next page (take read.result read.new.run)
          (λ o. ap (λ (t : ℕ → ℕ → Pte). t a.child o) v.tables
          ∙ forked-child (areas_on a.mem.now a.parent) a.parent a.child (entry_at a.mem.now.tables) c.requires.empty o)
          c.in-Some.ensures (run_taken table page read.result read.new.run fits read.ensures.entries)
          v.view c.in_ok-count_each_for_child.ensures.counts
          ∙ ap (λ n. fork_view a.mem.now a.parent a.child (page + n)) (length-take-le read.result read.new.run fits);
      tables = c.in_ok-count_each_for_child.ensures.tables ∙ v.tables;
      rest = rest-then v.rest c.in_ok-count_each_for_child.ensures.rest;
    }

pub returns-clause-forks : goal.returns-clause-forks
returns-clause-forks c = λ d pages l stands flags.
    let a = c.args in
    let v = c.loop-page.invariant in
    let h = all-seen a.mem.now a.parent a.child d l stands c.loop-page.mem c.loop-page.next v.view pages flags c.requires.empty v.rest.parts
    v.tables c.in_default.ensures in
    record { stands = h.stands; free = h.free; items = h.items }

pub returns-in_err-count_each_for_child-clause-rest : goal.returns-in_err-count_each_for_child-clause-rest
returns-in_err-count_each_for_child-clause-rest c = rest-then c.loop-page.invariant.rest c.in_err-count_each_for_child.ensures.rest
