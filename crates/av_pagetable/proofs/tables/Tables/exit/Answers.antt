use Rattle.std.proofs.Common.{None, refl}
use Rattle.av_pagetable.proofs.Entries.{entries_put, place_there, table_put}
use Rattle.av_pagetable.proofs.MarkLaws.{unseen-table}
use Rattle.av_pagetable.proofs.tables.Tables.exit.Goals as goal

pub invariant_of-self : goal.invariant_of-self
invariant_of-self g c =
    let items = c.args.self.now.tables.items.items in
    record {
      unseen = unseen-table _ _ c.args.self.now.unseen _ c.args.process _
          (entries_put g.T.Table.at _ _ c.args.process None (table_put items c.args.process None (place_there items c.args.process c.requires)))
          (λ f marked o. refl);
    }
