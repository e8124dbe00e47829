use Rattle.std.proofs.Common.{◌∙◌, ℕ, ap, refl}
use Rattle.av_pagetable.specs.Seen.{names_seen}
use Rattle.av_pagetable.specs.declared.pte.Pte.{Pte}
use Rattle.av_base.specs.Words.{with_at}
use Rattle.av_pagetable.specs.Entries.{entry_by}
use Rattle.av_pagetable.specs.declared.pte.Pte.TheVariants.{Empty}
use Rattle.av_pagetable.proofs.Entries.{none_applied, none_changed, same_entries, same_processes, table_one}
use Rattle.av_pagetable.proofs.MarkLaws.{unseen-same, unseen-table}
use Rattle.av_pagetable.proofs.tables.Tables.clear.Goals as goal

pub returns-in-Some-clause-clears : goal.returns-in-Some-clause-clears
returns-in-Some-clause-clears g c =
    table_one _ _ c.args.process _ (rw c.in-Some.is at (c.of_mut.follows.holds c.clear.new.self))
    ∙ ap (λ t. with_at c.args.process t (entry_by g.T.Table.at c.args.self.now)) c.clear.ensures

pub returns-in-Some-clause-processes : goal.returns-in-Some-clause-processes
returns-in-Some-clause-processes g c = same_processes g.T.Table.at c.args.self.now.tables.items.items (c.of_mut.follows.lender c.clear.new.self).items.items c.args.process _ _
    (rw c.in-Some.is at (c.of_mut.follows.holds c.clear.new.self)) c.in-Some.ensures.value

pub returns-in_default-clause-clears : goal.returns-in_default-clause-clears
returns-in_default-clause-clears g c = none_applied (λ e. Empty) refl _ _ c.args.process c.in_default.ensures.value c.of_mut.follows.holds-at-none

pub returns-in_default-clause-processes : goal.returns-in_default-clause-processes
returns-in_default-clause-processes g c = none_changed g.T.Table.at c.args.self.now.tables.items.items c.of_mut.follows.lender-at-none.items.items c.of_mut.follows.holds-at-none

pub invariant_of-self : goal.invariant_of-self
invariant_of-self g c = record {
  unseen = unseen-table _ _ c.args.self.now.unseen _ c.args.process _
      (table_one _ _ c.args.process _ (rw c.in-Some.is at (c.of_mut.follows.holds c.clear.new.self)))
      (λ f marked o. ap (λ (t : ℕ → Pte). names_seen f (t o)) c.clear.ensures);
}

pub invariant_of-self-in_default : goal.invariant_of-self-in_default
invariant_of-self-in_default g c = record {
  unseen = unseen-same _ _ c.args.self.now.unseen _ (same_entries _ _ c.of_mut.follows.holds-at-none);
}
