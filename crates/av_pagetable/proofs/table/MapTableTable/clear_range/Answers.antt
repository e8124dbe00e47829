use Rattle.std.proofs.Common.{◌≡◌, ℕ, ◌<◌, ◌≤◌, arith, inl, inr}
use Rattle.std.proofs.lemmas.Bool.{cases_lt}
use Rattle.av_pagetable.specs.declared.pte.Pte.TheVariants.{Empty}
use Rattle.av_pagetable.specs.Table.{entry_in}
use Rattle.av_pagetable.proofs.Ranges.{by_pages}
use Rattle.av_pagetable.proofs.table.MapTableTable.clear_range.Goals as goal

pub returns-then-page-past : goal.returns-then-page-past
returns-then-page-past c =
    let i = c.loop-page.invariant in
    let is = c.in-Some.ensures in
    let now = entry_in c.loop-page.self.entries in
    let gone : (q : ℕ) → c.args.from ≤ q → q < c.args.past → now q ≡ Empty = λ q low high. elim (cases_lt q c.loop-page.next) [
      | inl lt ↦ i.gone q low lt
      | inr ge ↦ is.least q ge (omega (arith, high, c.if-page-past.true))
    ] in
    by_pages c.args.from c.args.past (entry_in c.args.self.now.entries) now gone i.lower i.behind

pub returns : goal.returns
returns c =
    let i = c.loop-page.invariant in
    let now = entry_in c.loop-page.self.entries in
    let gone : (q : ℕ) → c.args.from ≤ q → q < c.args.past → now q ≡ Empty = λ q low high. elim (cases_lt q c.loop-page.next) [
      | inl lt ↦ i.gone q low lt
      | inr ge ↦ c.in_default.ensures q ge
    ] in
    by_pages c.args.from c.args.past (entry_in c.args.self.now.entries) now gone i.lower i.behind
