use Rattle.std.proofs.Common.{◌≡◌, ℕ, ◌<◌, ◌≤◌, ◌∙◌, ap, arith, refl, sym}
use Rattle.av_base.specs.Words.{with_at}
use Rattle.av_pagetable.specs.declared.pte.Pte.TheVariants.{Empty}
use Rattle.av_pagetable.specs.Table.{entry_in, read_only}
use Rattle.av_pagetable.proofs.Pass.{one_passed}
use Rattle.av_pagetable.proofs.table.MapTableTable.write_protect.Goals as goal

pub loop-page-preserved : goal.loop-page-preserved
loop-page-preserved c =
    let i = c.loop-page.invariant in
    let first = entry_in c.args.self.now.entries in
    let table = entry_in c.loop-page.self.entries in
    let page = c.in-Some.page in
    let is = c.in-Some.ensures in
    let least : (q : ℕ) → c.loop-page.next ≤ q → q < page → first q ≡ Empty = λ q low less. sym (i.passed.after q low) ∙ is.least q low less in
    record {
      within = let below = is.below in omega (arith, below);
      passed = one_passed read_only refl first first table c.loop-page.next i.passed (entry_in c.change.new.self.entries) page is.from_there
          (c.change.ensures ∙ ap (λ e. with_at page e table) (c.read_only.ensures ∙ ap read_only (c.get.ensures ∙ i.passed.after page is.from_there)))
          least least;
    }
