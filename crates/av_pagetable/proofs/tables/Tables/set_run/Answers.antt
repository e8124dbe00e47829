use Rattle.std.proofs.Common.{◌∙◌, ℕ, ap}
use Rattle.av_base.specs.Words.{with_at}
use Rattle.av_pagetable.specs.Entries.{at_page, entry_by}
use Rattle.av_pagetable.specs.Seen.{names_seen}
use Rattle.av_pagetable.specs.Table.{with_run}
use Rattle.av_pagetable.specs.declared.pte.Pte.{Pte}
use Rattle.av_pagetable.proofs.Entries.{same_processes, table_one}
use Rattle.av_pagetable.proofs.MarkLaws.{unseen-run, unseen-table}
use Rattle.av_pagetable.proofs.tables.Tables.set_run.Goals as goal

pub returns-in-Some-clause-sets : goal.returns-in-Some-clause-sets
returns-in-Some-clause-sets g c =
    let set = c.set_run.ensures in
    record {
      many = set.many;
      few = set.few;
      all = set.all;
      is = table_one _ _ c.args.process _ (rw c.in-Some.is at (c.of_mut.follows.holds c.set_run.new.self))
          ∙ ap (λ t. with_at c.args.process t (entry_by g.T.Table.at c.args.self.now))
          (set.is ∙ (λ i. with_run c.args.page set.many c.args.run.now (at_page (c.in-Some.ensures.value i))));
    }

pub returns-in-Some-clause-processes : goal.returns-in-Some-clause-processes
returns-in-Some-clause-processes g c = same_processes g.T.Table.at c.args.self.now.tables.items.items (c.of_mut.follows.lender c.set_run.new.self).items.items c.args.process _ _
    (rw c.in-Some.is at (c.of_mut.follows.holds c.set_run.new.self)) c.in-Some.ensures.value

pub invariant_of-self : goal.invariant_of-self
invariant_of-self g c =
    let set = c.set_run.ensures in
    let old = entry_by g.T.Table.at c.args.self.now in
    record {
      unseen = unseen-table old _ (λ f marked. c.args.self.now.unseen f (c.unmark_all.ensures f marked).0) _ c.args.process _
          (table_one _ _ c.args.process _ (rw c.in-Some.is at (c.of_mut.follows.holds c.set_run.new.self)))
          (λ f marked o. ap (λ (t : ℕ → Pte). names_seen f (t o))
          (set.is ∙ (λ i. with_run c.args.page set.many c.args.run.now (at_page (c.in-Some.ensures.value i))))
          ∙ unseen-run f c.args.page set.many c.args.run.now (old c.args.process) o set.few (c.unmark_all.ensures f marked).1
          (c.args.self.now.unseen f (c.unmark_all.ensures f marked).0 c.args.process o));
    }
