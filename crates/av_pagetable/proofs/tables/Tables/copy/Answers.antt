use Rattle.std.proofs.Common.{◌∙◌, ℕ, ap}
use Rattle.av_pagetable.specs.Seen.{names_seen}
use Rattle.av_pagetable.specs.declared.pte.Pte.{Pte}
use Rattle.av_base.specs.Words.{with_at}
use Rattle.av_pagetable.specs.Entries.{entry_by}
use Rattle.av_pagetable.proofs.Entries.{same_processes, table_one}
use Rattle.av_pagetable.proofs.MarkLaws.{unseen-child, unseen-table}
use Rattle.av_pagetable.proofs.tables.Tables.copy.Goals as goal

pub returns-in-Some-clause-copies : goal.returns-in-Some-clause-copies
returns-in-Some-clause-copies g c =
    table_one _ _ c.args.to _ (rw c.in-Some.is at (c.of_mut.follows.holds c.in_ok-child.child))
    ∙ ap (λ t. with_at c.args.to t (entry_by g.T.Table.at c.args.self.now)) c.in_ok-child.ensures

pub returns-in-Some-clause-processes : goal.returns-in-Some-clause-processes
returns-in-Some-clause-processes g c = same_processes g.T.Table.at c.args.self.now.tables.items.items (c.of_mut.follows.lender c.in_ok-child.child).items.items c.args.to _ _
    (rw c.in-Some.is at (c.of_mut.follows.holds c.in_ok-child.child)) c.in-Some.ensures.value

pub invariant_of-self : goal.invariant_of-self
invariant_of-self g c = record {
  unseen = unseen-table _ _ c.args.self.now.unseen _ c.args.to _
      (table_one _ _ c.args.to _ (rw c.in-Some.is at (c.of_mut.follows.holds c.in_ok-child.child)))
      (λ f marked o. ap (λ (t : ℕ → Pte). names_seen f (t o)) c.in_ok-child.ensures ∙ unseen-child f _);
}
