use Rattle.std.proofs.Common.{◌+◌, ◌-◌, sym, subst, ap, ◌∙◌, arith}
use Rattle.av_pagetable.specs.Dir.{alone, entries, AreParts}
use Rattle.av_pagetable.specs.Table.{ReachesLast}
use Rattle.av_pagetable.specs.declared.pte.Pte.TheVariants.{Empty}
use Rattle.av_pagetable.proofs.Run.{in_gap, one_empty, run_there, side_reaches, under_512}
use Rattle.av_pagetable.proofs.dir.Dir+Pte.read_run.Goals as goal

pub returns-in_default-clause-entries : goal.returns-in_default-clause-entries
returns-in_default-clause-entries c =
    let gap = c.in_default.ensures in
    one_empty (entries alone 1 c.args.self.now) c.args.page c.args.run.now (omega (arith, c.told-run))
    (in_gap c.args.self.now c.in_default.field-0 c.args.page gap.0 gap.1 gap.2)

pub returns-in_default-clause-reaches : goal.returns-in_default-clause-reaches
returns-in_default-clause-reaches c = λ there i past under table.
    let gap = c.in_default.ensures in
    absurd (there (in_gap c.args.self.now c.in_default.field-0 c.args.page gap.0 gap.1 gap.2))

pub returns-in-Some-clause-below : goal.returns-in-Some-clause-below
returns-in-Some-clause-below c =
    let parts = c.as_slice-parts.result.now in
    let good : AreParts alone 1 parts = subst (λ v. AreParts alone 1 v) (sym c.as_slice-parts.ensures) c.self.invariant in
    let side = c.in-Some.ensures.1 in
    let some = side.some in
    let within = side.within in
    let last = c.in-Some.len - 1 in
    let low = under_512 parts good c.args.page c.in-Ok.start last (omega (arith, some, within)) (side.numbers last (omega (arith, some))) in
    omega (arith, low, some)

pub returns-in-Some-clause-entries : goal.returns-in-Some-clause-entries
returns-in-Some-clause-entries c = λ i under.
    let parts = c.as_slice-parts.result.now in
    let good : AreParts alone 1 parts = subst (λ v. AreParts alone 1 v) (sym c.as_slice-parts.ensures) c.self.invariant in
    let side = c.in-Some.ensures.1 in
    let within = side.within in
    c.copy_entries.ensures i under (0, Empty)
    ∙ sym (run_there parts good c.args.page c.in-Ok.start i (omega (arith, under, within)) (side.numbers i under))
    ∙ ap (λ v. entries alone 1 v (c.args.page + i)) (c.as_slice-parts.ensures ∙ c.self.view_is)

pub returns-in-Some-clause-reaches : goal.returns-in-Some-clause-reaches
returns-in-Some-clause-reaches c =
    let parts = c.as_slice-parts.result.now in
    let good : AreParts alone 1 parts = subst (λ v. AreParts alone 1 v) (sym c.as_slice-parts.ensures) c.self.invariant in
    subst (λ v. ReachesLast (entries alone 1 v) c.args.page c.in-Some.len) (c.as_slice-parts.ensures ∙ c.self.view_is)
    (side_reaches parts good c.args.page c.in-Ok.start c.in-Some.len c.in-Some.ensures.1 c.in-Some.ensures.0)
