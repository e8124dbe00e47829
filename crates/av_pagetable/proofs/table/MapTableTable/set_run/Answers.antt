use Rattle.std.proofs.Common.{rules, ◌≡◌, ◌+◌, ◌∙◌, arith, get_or}
use Rattle.av_pagetable.specs.Table.{entry_in}
use Rattle.av_pagetable.specs.declared.pte.Pte.TheVariants.{Empty}
use Rattle.av_pagetable.proofs.SetRun.{hole_given, one_given, one_more}
use Rattle.av_pagetable.proofs.table.MapTableTable.set_run.Goals as goal

pub returns-in_err-set : goal.returns-in_err-set
returns-in_err-set c = record {
  many = c.loop-i.i;
  few = omega (arith, c.loop-i-test.true);
  all = search rules;
  is = c.in_err-set.ensures ∙ c.loop-i.invariant;
}

pub loop-i-preserved-then-eq : goal.loop-i-preserved-then-eq
loop-i-preserved-then-eq c =
    let i = c.loop-i.i in
    let run = c.args.run.now in
    let now = entry_in c.loop-i.self.entries in
    let none : get_or run i Empty ≡ Empty = search rules in
    one_more c.args.page i run (entry_in c.args.self.now.entries) now now c.loop-i.invariant (hole_given (c.args.page + i) (get_or run i Empty) now none)

pub loop-i-preserved : goal.loop-i-preserved
loop-i-preserved c =
    let i = c.loop-i.i in
    let run = c.args.run.now in
    let now = entry_in c.loop-i.self.entries in
    let some : get_or run i Empty ≡ Empty → ⊥ = search rules in
    one_more c.args.page i run (entry_in c.args.self.now.entries) now (entry_in c.set.new.self.entries) c.loop-i.invariant
    (c.in_ok-set.ensures ∙ one_given (c.args.page + i) (get_or run i Empty) now some)
