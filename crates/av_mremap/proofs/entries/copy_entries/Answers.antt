use Rattle.std.proofs.Common.{ℕ, Bool, true, ◌≡◌, ◌+◌, ◌-◌, ◌≤◌, ◌<◌, ◌∙◌, ap, arith, get_or, length, refl, subst, take}
use Rattle.std.proofs.lemmas.List.{length-take-le}
use Rattle.av_base.specs.Words.{within}
use Rattle.av_pagetable.specs.Entries.{entry_at}
use Rattle.av_pagetable.specs.declared.pte.Pte.TheVariants.{Empty}
use Rattle.av_pagetable.proofs.Run.{run_taken}
use Rattle.av_mem.specs.declared.mem.Mem.{Mem}
use Rattle.av_mem.proofs.LetGoLaws.{rest-none, rest-then}
use Rattle.av_mremap.specs.Entries.{with_run}
use Rattle.av_mremap.proofs.EntriesTables.{all_copied, bare_still, none_yet, run_copied}
use Rattle.av_mremap.proofs.entries.copy_entries.Goals as goal

pub loop-page-init : goal.loop-page-init
loop-page-init c =
    let a = c.args in
    record {
      long = refl;
      copying = none_yet (entry_at a.mem.now.tables) a.process a.pages a.from a.to c.requires.apart c.requires.bare;
      stay = refl;
      rest = rest-none a.mem.now;
    }

pub set_each-requires-clause-there : goal.set_each-requires-clause-there
set_each-requires-clause-there c = ap (λ (has : ℕ → Bool). has c.args.process) c.loop-page.invariant.rest.parts.processes ∙ c.requires.there

pub set_each-requires-clause-below : goal.set_each-requires-clause-below
set_each-requires-clause-below c =
    let a = c.args in
    let read = c.read_run-read in
    let len = c.min-len.result in
    let fits : len ≤ length read.new.run = omega (arith, c.min-len.ensures, read.ensures.few, read.array_long) in
    let long = length-take-le len read.new.run fits in
    omega (arith, long, c.min-len.ensures, c.if-page-past.false, c.requires.new_range, c.loop-page.invariant.copying.low, c.in-Some.ensures.from_there)

pub set_each-requires-clause-bare : goal.set_each-requires-clause-bare
set_each-requires-clause-bare c = λ other inside.
    let a = c.args in
    let i = c.loop-page.invariant in
    let read = c.read_run-read in
    let len = c.min-len.result in
    let page = c.in-Some.page in
    let fits : len ≤ length read.new.run = omega (arith, c.min-len.ensures, read.ensures.few, read.array_long) in
    bare_still (entry_at a.mem.now.tables) a.process a.pages a.from a.to c.requires.apart c.requires.bare (entry_at c.loop-page.mem.tables)
    c.loop-page.next i.copying (a.from + a.pages) page (page - a.from + a.to) len refl refl c.in-Some.ensures.from_there
    (omega (arith, c.min-len.ensures, c.if-page-past.false)) other
    (subst (λ n. within (page - a.from + a.to) n other ≡ true) (length-take-le len read.new.run fits) inside)

pub loop-page-preserved : goal.loop-page-preserved
loop-page-preserved c =
    let a = c.args in
    let i = c.loop-page.invariant in
    let read = c.read_run-read in
    let len = c.min-len.result in
    let page = c.in-Some.page in
    let now = entry_at c.loop-page.mem.tables in
    let few : len ≤ read.result = omega (arith, c.min-len.ensures) in
    let fits : len ≤ length read.new.run = omega (arith, few, read.ensures.few, read.array_long) in
    let run = take len read.new.run in
    let long : length run ≡ len = length-take-le len read.new.run fits in
    let are : (k : ℕ) → k < len → get_or run k Empty ≡ now a.process (page + k) = λ k low. run_taken (now a.process) page len read.new.run fits
    (λ n under. read.ensures.entries n (omega (arith, under, few))) k (omega (arith, low, long)) in
    record {
      long = read.array_long;
      copying = run_copied (entry_at a.mem.now.tables) a.process a.pages a.from a.to c.requires.apart c.requires.bare now
          c.loop-page.next i.copying (a.from + a.pages) page (page - a.from + a.to) len refl refl c.in-Some.ensures.from_there
          (omega (arith, c.min-len.ensures, c.if-page-past.false)) (entry_at c.set_each.new.mem.tables) run c.in-Some.ensures.least are
          (c.in_ok-set_each.ensures.sets ∙ ap (λ n. with_run a.process (page - a.from + a.to) n run now) long);
      stay = c.in_ok-set_each.ensures.stay ∙ ap (λ (k : Mem). record k { tables = c.set_each.new.mem.tables }) i.stay;
      rest = rest-then i.rest c.in_ok-set_each.ensures.rest;
    }

pub returns-then-page-past-clause-entries : goal.returns-then-page-past-clause-entries
returns-then-page-past-clause-entries c =
    let a = c.args in
    all_copied (entry_at a.mem.now.tables) a.process a.pages a.from a.to c.requires.apart c.requires.bare (entry_at c.loop-page.mem.tables)
    c.loop-page.next c.loop-page.invariant.copying (a.from + a.pages) refl
    (λ q low high. c.in-Some.ensures.least q low (omega (arith, high, c.if-page-past.true)))

pub returns-clause-entries : goal.returns-clause-entries
returns-clause-entries c =
    let a = c.args in
    all_copied (entry_at a.mem.now.tables) a.process a.pages a.from a.to c.requires.apart c.requires.bare (entry_at c.loop-page.mem.tables)
    c.loop-page.next c.loop-page.invariant.copying (a.from + a.pages) refl (λ q low high. c.in_default.ensures q low)

pub returns-in_err-set_each-clause-stay : goal.returns-in_err-set_each-clause-stay
returns-in_err-set_each-clause-stay c = c.set_each.ensures.stay
    ∙ ap (λ (k : Mem). record k { tables = c.set_each.new.mem.tables }) c.loop-page.invariant.stay

pub returns-in_err-set_each-clause-rest : goal.returns-in_err-set_each-clause-rest
returns-in_err-set_each-clause-rest c = rest-then c.loop-page.invariant.rest c.set_each.ensures.rest
