use Rattle.std.proofs.Common.{◌∙◌, ℕ, ap}
use Rattle.av_pagetable.specs.Seen.{names_seen}
use Rattle.av_pagetable.specs.declared.pte.Pte.{Pte}
use Rattle.av_pagetable.specs.Table.{without_range}
use Rattle.av_base.specs.Words.{with_at}
use Rattle.av_pagetable.specs.Entries.{at_page, entry_by}
use Rattle.av_pagetable.proofs.Entries.{none_changed, none_ranged, same_entries, same_processes, table_one}
use Rattle.av_pagetable.proofs.MarkLaws.{unseen-ranged, unseen-same, unseen-table}
use Rattle.av_pagetable.proofs.tables.Tables.clear_range.Goals as goal

pub returns-in-Some-clause-clears : goal.returns-in-Some-clause-clears
returns-in-Some-clause-clears g c =
    table_one _ _ c.args.process _ (rw c.in-Some.is at (c.of_mut.follows.holds c.clear_range.new.self))
    ∙ ap (λ t. with_at c.args.process t (entry_by g.T.Table.at c.args.self.now))
    (c.clear_range.ensures ∙ (λ i. without_range c.args.from c.args.past (at_page (c.in-Some.ensures.value i))))

pub returns-in-Some-clause-processes : goal.returns-in-Some-clause-processes
returns-in-Some-clause-processes g c = same_processes g.T.Table.at c.args.self.now.tables.items.items (c.of_mut.follows.lender c.clear_range.new.self).items.items c.args.process _ _
    (rw c.in-Some.is at (c.of_mut.follows.holds c.clear_range.new.self)) c.in-Some.ensures.value

pub returns-in_default-clause-clears : goal.returns-in_default-clause-clears
returns-in_default-clause-clears g c = none_ranged c.args.from c.args.past _ _ c.args.process c.in_default.ensures.value c.of_mut.follows.holds-at-none

pub returns-in_default-clause-processes : goal.returns-in_default-clause-processes
returns-in_default-clause-processes g c = none_changed g.T.Table.at c.args.self.now.tables.items.items c.of_mut.follows.lender-at-none.items.items c.of_mut.follows.holds-at-none

pub invariant_of-self : goal.invariant_of-self
invariant_of-self g c = record {
  unseen = unseen-table _ _ c.args.self.now.unseen _ c.args.process _
      (table_one _ _ c.args.process _ (rw c.in-Some.is at (c.of_mut.follows.holds c.clear_range.new.self)))
      (λ f marked o. ap (λ (t : ℕ → Pte). names_seen f (t o))
      (c.clear_range.ensures ∙ (λ i. without_range c.args.from c.args.past (at_page (c.in-Some.ensures.value i))))
      ∙ unseen-ranged f c.args.from c.args.past (entry_by g.T.Table.at c.args.self.now c.args.process) o
      (c.args.self.now.unseen f marked c.args.process o));
}

pub invariant_of-self-in_default : goal.invariant_of-self-in_default
invariant_of-self-in_default g c = record {
  unseen = unseen-same _ _ c.args.self.now.unseen _ (same_entries _ _ c.of_mut.follows.holds-at-none);
}
