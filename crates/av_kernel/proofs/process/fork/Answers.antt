use Rattle.std.proofs.Common.{◌*◌, ◌≤◌, sym, ◌∙◌, ap, subst}
use Rattle.av_base.specs.Limits.{most_processes, top_page}
use Rattle.av_frames.specs.Store.{shown}
use Rattle.av_trace.specs.declared.command.Command.TheVariants.{Fork}
use Rattle.av_trace.specs.declared.reply.Errno.TheVariants.{Esrch}
use Rattle.av_pagetable.specs.Entries.{has}
use Rattle.av_pagetable.proofs.Entries.{none_there}
use Rattle.av_mem.specs.declared.mem.Mem.{Mem}
use Rattle.av_plain.specs.World.{pages}
use Rattle.av_swapcache.specs.Swap.{shown as shown_swap}
use Rattle.av_step.proofs.StepLaws.{answers, orderly, refuses, refuses-as, refuses-by, dead_first, wants-by}
use Rattle.av_kernel.proofs.ProcessLaws.{absent, no_table}
use Rattle.av_kernel.proofs.ForkLaws.{entries_few, flags_left, fork-steps, fork_is, has_table, slots_few, still_orderly}
use Rattle.av_kernel.proofs.process.fork.Goals as goal

pub returns-in_err-check_lives : goal.returns-in_err-check_lives
returns-in_err-check_lives c =
    refuses-as c.args.mem.now c.args.mem.now (Fork c.args.parent c.args.child) Esrch c.args.reply.now c.from_residual.result
    c.in_err-check_lives.field-0.0
    c.from_residual.ensures c.in_err-check_lives.ensures.1
    (refuses c.args.mem.now (Fork c.args.parent c.args.child) Esrch
    (λ d s keeps. dead_first c.args.mem.now s c.args.parent _ keeps c.in_err-check_lives.ensures.0))

pub returns-in_err-check_new : goal.returns-in_err-check_new
returns-in_err-check_new c =
    refuses-by c.args.mem.now c.args.mem.now (Fork c.args.parent c.args.child) c.in_err-check_new.field-0.0 c.args.reply.now
    c.from_residual-in_err-check_new.result c.from_residual-in_err-check_new.ensures
    (refuses c.args.mem.now (Fork c.args.parent c.args.child) c.in_err-check_new.field-0.0
    (λ d s keeps. fork_is c.args.mem.now s c.args.parent c.args.child keeps c.in_ok-check_lives.ensures ∙ c.in_err-check_new.ensures))

pub fork_areas-requires-clause-dead : goal.fork_areas-requires-clause-dead
fork_areas-requires-clause-dead c = absent c.args.mem.now.spaces.processes c.args.child c.in_ok-check_new.ensures

pub returns-in_err-fork_areas : goal.returns-in_err-fork_areas
returns-in_err-fork_areas c = wants-by c.args.mem.now c.fork_areas.new.mem (Fork c.args.parent c.args.child) c.args.reply.now
    c.from_residual-in_err-fork_areas.result c.from_residual-in_err-fork_areas.ensures
    (ap (λ (k : Mem). (shown k.frames).count) c.fork_areas.ensures.rest)

pub spawn-requires : goal.spawn-requires
spawn-requires c = ap (λ (k : Mem). has k.tables c.args.child) c.fork_areas.ensures.rest
    ∙ no_table c.args.mem.now c.requires.steady.1 c.args.child c.requires.steady.2
    (absent c.args.mem.now.spaces.processes c.args.child c.in_ok-check_new.ensures)

pub returns-in_err-spawn : goal.returns-in_err-spawn
returns-in_err-spawn c =
    wants-by c.args.mem.now (record c.fork_areas.new.mem { tables = c.spawn.new.self }) (Fork c.args.parent c.args.child) c.args.reply.now
    c.from_residual-in_err-spawn.result c.from_residual-in_err-spawn.ensures (ap (λ (k : Mem). (shown k.frames).count) c.fork_areas.ensures.rest)

pub fork_entries-requires-clause-orderly : goal.fork_entries-requires-clause-orderly
fork_entries-requires-clause-orderly c =
    let k = c.args.mem.now in (
      c.requires.steady.0,
      c.requires.steady.1.ledger,
      still_orderly c.requires.steady.0 k c.fork_areas.new.mem c.spawn.new.self c.requires.steady.1.ledger c.fork_areas.ensures.rest
          c.in_ok-spawn.ensures.entries (orderly k c.requires.steady.1 c.requires.steady.2),
    )

pub fork_entries-requires-clause-few : goal.fork_entries-requires-clause-few
fork_entries-requires-clause-few c f =
    let k = c.args.mem.now in
    let steady = c.requires.steady in
    subst (λ (k : Mem). (shown k.frames).maps f ≤ most_processes * top_page) (sym c.fork_areas.ensures.rest)
    (entries_few k c.fork_areas.new.mem steady.1 c.args.parent c.args.child steady.2
    (absent k.spaces.processes c.args.child c.in_ok-check_new.ensures) (c.in_ok-fork_areas.ensures.forks steady.0 steady.1 steady.2) f)

pub fork_entries-requires-clause-few_slots : goal.fork_entries-requires-clause-few_slots
fork_entries-requires-clause-few_slots c s = subst (λ (k : Mem). (shown_swap k.swap).entries s ≤ most_processes) (sym c.fork_areas.ensures.rest)
    (slots_few c.args.mem.now c.requires.steady.1 c.requires.steady.2 s)

pub fork_entries-requires-clause-there : goal.fork_entries-requires-clause-there
fork_entries-requires-clause-there c = has_table c.fork_areas.new.mem c.spawn.new.self c.args.child c.in_ok-spawn.ensures.processes

pub fork_entries-requires-clause-empty : goal.fork_entries-requires-clause-empty
fork_entries-requires-clause-empty c page =
    ap (λ t. t c.args.child page) c.in_ok-spawn.ensures.entries
    ∙ none_there c.fork_areas.new.mem.tables c.args.child page
    (ap (λ (k : Mem). has k.tables c.args.child) c.fork_areas.ensures.rest
    ∙ no_table c.args.mem.now c.requires.steady.1 c.args.child c.requires.steady.2
    (absent c.args.mem.now.spaces.processes c.args.child c.in_ok-check_new.ensures))

pub returns-in_err-fork_entries : goal.returns-in_err-fork_entries
returns-in_err-fork_entries c =
    wants-by c.args.mem.now c.fork_entries.new.mem (Fork c.args.parent c.args.child) c.args.reply.now c.from_residual-in_err-fork_entries.result
    c.from_residual-in_err-fork_entries.ensures
    (c.fork_entries.ensures.rest.parts.count ∙ ap (λ (k : Mem). (shown k.frames).count) c.fork_areas.ensures.rest)

pub returns : goal.returns
returns c = record {
  count = c.fork_entries.ensures.rest.parts.count ∙ ap (λ (k : Mem). (shown k.frames).count) c.fork_areas.ensures.rest;
  step = λ d s keeps.
      let k = c.args.mem.now in
      let gone = c.fork_areas.new.mem in
      let areas = c.fork_areas.ensures in
      let shown = c.in_ok-fork_areas.ensures.forks d s keeps in
      answers c.args.reply.now c.answer_with.new.reply c.requires.cleared c.answer_with.ensures
      (fork-steps k gone c.fork_entries.new.mem c.spawn.new.self s c.args.parent c.args.child keeps c.in_ok-check_lives.ensures
      c.in_ok-check_new.ensures
      areas.rest shown
      c.in_ok-spawn.ensures.processes (c.in_ok-fork_entries.ensures.forks d (pages s.world c.args.parent) s.ledger
      (still_orderly d k gone c.spawn.new.self s.ledger areas.rest c.in_ok-spawn.ensures.entries (orderly k s keeps))
      (flags_left k gone c.spawn.new.self s c.args.parent c.args.child keeps c.in_ok-check_lives.ensures
      (absent k.spaces.processes c.args.child c.in_ok-check_new.ensures) shown))
      c.fork_entries.ensures.rest);
}
