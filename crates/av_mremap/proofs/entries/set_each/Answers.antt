use Rattle.std.proofs.Common.{ℕ, Bool, ◌≡◌, ◌+◌, ◌<◌, ◌∙◌, ap, arith, get_or, length, rules}
use Rattle.av_vma.proofs.Mremap.{is_in_range}
use Rattle.av_pagetable.specs.Entries.{entry_at}
use Rattle.av_pagetable.specs.declared.pte.Pte.TheVariants.{Empty}
use Rattle.av_mem.specs.declared.mem.Mem.{Mem}
use Rattle.av_mem.proofs.LetGoLaws.{rest-tables, rest-then}
use Rattle.av_mremap.proofs.EntriesTables.{none_more, one_written}
use Rattle.av_mremap.proofs.entries.set_each.Goals as goal

pub loop-i-preserved-then-eq : goal.loop-i-preserved-then-eq
loop-i-preserved-then-eq c =
    let a = c.args in
    let i = c.loop-i.i in
    let v = c.loop-i.invariant in
    let low : i < length a.run.now = omega (arith, c.loop-i-test.true) in
    let none : get_or a.run.now i Empty ≡ Empty = search rules in
    record {
      written = v.written ∙ none_more a.process a.page a.run.now (entry_at a.mem.now.tables) i none
          (c.requires.bare (a.page + i) (is_in_range a.page (length a.run.now) (a.page + i) (omega arith) (omega (arith, low))));
      stay = v.stay;
      rest = v.rest;
    }

pub set-requires-clause-there : goal.set-requires-clause-there
set-requires-clause-there c = ap (λ (has : ℕ → Bool). has c.args.process) c.loop-i.invariant.rest.parts.processes ∙ c.requires.there

pub loop-i-preserved : goal.loop-i-preserved
loop-i-preserved c =
    let a = c.args in
    let i = c.loop-i.i in
    let v = c.loop-i.invariant in
    record {
      written = c.in_ok-set.ensures.sets
          ∙ one_written a.process a.page a.run.now (entry_at a.mem.now.tables) i (entry_at c.loop-i.mem.tables) v.written;
      stay = ap (λ (k : Mem). record k { tables = c.set.new.self }) v.stay;
      rest = rest-then v.rest (rest-tables c.loop-i.mem c.set.new.self c.in_ok-set.ensures.processes);
    }
