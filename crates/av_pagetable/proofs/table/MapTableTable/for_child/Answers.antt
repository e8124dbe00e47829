use Rattle.std.proofs.Common.{◌∙◌, ap, arith, refl}
use Rattle.av_base.specs.Words.{with_at}
use Rattle.av_pagetable.specs.Dir.{no_entry}
use Rattle.av_pagetable.specs.Table.{child_entry, entry_in}
use Rattle.av_pagetable.proofs.Pass.{one_passed}
use Rattle.av_pagetable.proofs.table.MapTableTable.for_child.Goals as goal

pub loop-page-init : goal.loop-page-init
loop-page-init c = record {
  within = omega arith;
  passed = record { before = λ q low. absurd (omega (arith, low)); after = λ q low. ap (λ t. t q) c.in_ok-child.ensures };
}

pub loop-page-preserved : goal.loop-page-preserved
loop-page-preserved c =
    let i = c.loop-page.invariant in
    let first = entry_in c.args.self.now.entries in
    let table = entry_in c.loop-page.child.entries in
    let page = c.in-Some.page in
    let is = c.in-Some.ensures in
    record {
      within = let below = is.below in omega (arith, below);
      passed = one_passed child_entry refl first no_entry table c.loop-page.next i.passed (entry_in c.set.new.self.entries) page is.from_there
          (c.in_ok-set.ensures ∙ ap (λ e. with_at page e table) (c.for_child.ensures ∙ ap child_entry c.get.ensures)) is.least (λ q low less. refl);
    }
