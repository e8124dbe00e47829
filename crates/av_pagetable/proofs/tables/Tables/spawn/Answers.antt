use Rattle.std.proofs.Common.{◌∙◌, Some}
use Rattle.std.proofs.lemmas.Result.{err_from_is_err_and}
use Rattle.av_base.specs.Words.{with_at}
use Rattle.av_pagetable.proofs.Entries.{table_put, processes_put, entries_put, processes_kept, entries_kept, bare_spawned}
use Rattle.av_pagetable.proofs.MarkLaws.{unseen-same}
use Rattle.av_pagetable.proofs.tables.Tables.spawn.Goals as goal

pub returns-in_err-make_place-clause-processes : goal.returns-in_err-make_place-clause-processes
returns-in_err-make_place-clause-processes g c =
    let p = err_from_is_err_and c.from_residual-in_err-make_place.result c.from_residual-in_err-make_place.ensures.1 in
    rw p.1 (processes_kept _ _ c.make_place.ensures.same)

pub returns-in_err-make_place-clause-entries : goal.returns-in_err-make_place-clause-entries
returns-in_err-make_place-clause-entries g c = entries_kept g.T.Table.at _ _ c.make_place.ensures.same

pub returns-clause-processes : goal.returns-clause-processes
returns-clause-processes g c =
    let put = table_put c.make_place.new.tables.items c.args.process (Some c.in_ok-table.table) c.in_ok-make_place.ensures.place in
    processes_put _ _ c.args.process (Some c.in_ok-table.table)
    (put ∙ (λ i. with_at c.args.process (Some c.in_ok-table.table) (c.make_place.ensures.same i)))

pub returns-clause-entries : goal.returns-clause-entries
returns-clause-entries g c =
    let put = table_put c.make_place.new.tables.items c.args.process (Some c.in_ok-table.table) c.in_ok-make_place.ensures.place in
    entries_put g.T.Table.at _ _ c.args.process (Some c.in_ok-table.table)
    (put ∙ (λ i. with_at c.args.process (Some c.in_ok-table.table) (c.make_place.ensures.same i)))
    ∙ bare_spawned g.T.Table.at c.args.self.now c.args.process c.in_ok-table.table c.requires c.in_ok-table.ensures

pub invariant_of-self : goal.invariant_of-self
invariant_of-self g c = record {
  unseen = unseen-same _ _ c.args.self.now.unseen _ (entries_kept g.T.Table.at _ _ c.make_place.ensures.same);
}

pub invariant_of-self-2 : goal.invariant_of-self-2
invariant_of-self-2 g c =
    let put = table_put c.make_place.new.tables.items c.args.process (Some c.in_ok-table.table) c.in_ok-make_place.ensures.place in
    record {
      unseen = unseen-same _ _ c.args.self.now.unseen _
          (entries_put g.T.Table.at _ _ c.args.process (Some c.in_ok-table.table)
          (put ∙ (λ i. with_at c.args.process (Some c.in_ok-table.table) (c.make_place.ensures.same i)))
          ∙ bare_spawned g.T.Table.at c.args.self.now c.args.process c.in_ok-table.table c.requires c.in_ok-table.ensures);
    }
