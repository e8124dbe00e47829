use Rattle.std.proofs.Common.{◌≡◌, ◌+◌, ◌-◌, ◌≤◌, ◌∙◌, ap, arith, length, take, refl, subst, sym}
use Rattle.std.proofs.lemmas.List.{length-take-le}
use Rattle.av_pagetable.specs.Entries.{entry_at}
use Rattle.av_pagetable.proofs.Run.{run_taken}
use Rattle.av_mem.specs.Entries.{LetsGo}
use Rattle.av_mem.specs.Mem.{plain, view}
use Rattle.av_mem.proofs.LetGoLaws.{none-yet, rest-none, rest-then}
use Rattle.av_mem.proofs.ZapLaws.{goes-on, has-entries, run-more}
use Rattle.av_mem.proofs.zap.let_go_range.Goals as goal

pub loop-page-init : goal.loop-page-init
loop-page-init c =
    let a = c.args in
    let none : a.from - a.from ≡ 0 = omega arith in
    record {
      long = refl;
      low = omega arith;
      all = omega arith;
      goes = λ d first stands. subst (λ n. LetsGo d a.mem.now a.mem.now (view a.mem.now).table first a.process a.from n a.notes.now a.notes.now)
          (sym none)
          (none-yet d a.mem.now (view a.mem.now).table first a.process a.from a.notes.now stands);
      tables = refl;
      rest = rest-none a.mem.now;
    }

pub let_go_each-requires : goal.let_go_each-requires
let_go_each-requires c =
    let a = c.args in
    let i = c.loop-page.invariant in
    let o = c.requires.orderly in
    let first = c.in-Some.ensures in
    let read = c.read_run-read in
    let len = c.min-len.result in
    let table = entry_at c.loop-page.mem.tables a.process in
    let few : len ≤ read.result = omega (arith, c.min-len.ensures) in
    let fits : len ≤ length read.new.run = omega (arith, few, read.ensures.few, read.array_long) in
    let h = has-entries o.0 a.mem.now c.loop-page.mem o.1 a.process a.from c.loop-page.next a.notes.now c.loop-page.notes o.2 i.rest.parts i.low
    (i.goes o.0 o.1 o.2) i.tables c.in-Some.page first.from_there first.least (take len read.new.run)
    (λ k below. ap plain (sym (run_taken table c.in-Some.page len read.new.run fits
    (λ n under. read.ensures.entries n (omega (arith, under, few))) k below))) in
    record {
      there = record {
        device = h.device;
        ledger = h.ledger;
        table = h.table;
        process = h.process;
        page = h.page;
        stands = h.stands;
        there = h.there;
      };
    }

pub loop-page-preserved : goal.loop-page-preserved
loop-page-preserved c =
    let a = c.args in
    let i = c.loop-page.invariant in
    let first = c.in-Some.ensures in
    let up = first.from_there in
    let read = c.read_run-read in
    let len = c.min-len.result in
    let table = entry_at c.loop-page.mem.tables a.process in
    let few : len ≤ read.result = omega (arith, c.min-len.ensures) in
    let within : c.in-Some.page + len ≤ a.past = omega (arith, c.min-len.ensures, c.if-page-past.false) in
    let fits : len ≤ length read.new.run = omega (arith, few, read.ensures.few, read.array_long) in
    let run = take len read.new.run in
    let low = i.low in
    record {
      long = read.array_long;
      low = omega (arith, low, up);
      all = omega (arith, low, up, within);
      goes = λ d l stands. subst (λ n. LetsGo d a.mem.now c.let_go_each.new.mem (view a.mem.now).table l a.process a.from ((c.in-Some.page + n) - a.from)
          a.notes.now c.let_go_each.new.notes)
          (length-take-le len read.new.run fits)
          (run-more d a.mem.now c.loop-page.mem l a.process a.from c.loop-page.next a.notes.now c.loop-page.notes stands i.rest.parts i.low
          (i.goes d l stands) i.tables c.in-Some.page up first.least run
          (λ k below. ap plain (sym (run_taken table c.in-Some.page len read.new.run fits
          (λ n under. read.ensures.entries n (omega (arith, under, few))) k below)))
          c.let_go_each.new.mem c.let_go_each.new.notes (length run)
          (λ l table q other stands there. let g = c.in_ok-let_go_each.ensures.goes d l table q other stands there in
          record { stands = g.stands; notes = g.notes; free = g.free; items = g.items }));
      tables = c.in_ok-let_go_each.ensures.tables ∙ i.tables;
      rest = rest-then i.rest c.in_ok-let_go_each.ensures.rest;
    }

pub returns-then-page-past-clause-goes : goal.returns-then-page-past-clause-goes
returns-then-page-past-clause-goes c = λ d l stands.
    let a = c.args in
    let i = c.loop-page.invariant in
    let next = c.loop-page.next in
    subst (λ n. LetsGo d a.mem.now c.loop-page.mem (view a.mem.now).table l a.process a.from n a.notes.now c.loop-page.notes) i.all
    (goes-on d a.mem.now c.loop-page.mem l a.process a.from next a.notes.now c.loop-page.notes stands i.rest.parts i.low (i.goes d l stands) i.tables
    (a.past - next) (λ q low high. c.in-Some.ensures.least q low (omega (arith, low, high, c.if-page-past.true))))

pub returns-clause-goes : goal.returns-clause-goes
returns-clause-goes c = λ d l stands.
    let a = c.args in
    let i = c.loop-page.invariant in
    let next = c.loop-page.next in
    subst (λ n. LetsGo d a.mem.now c.loop-page.mem (view a.mem.now).table l a.process a.from n a.notes.now c.loop-page.notes) i.all
    (goes-on d a.mem.now c.loop-page.mem l a.process a.from next a.notes.now c.loop-page.notes stands i.rest.parts i.low (i.goes d l stands) i.tables
    (a.past - next) (λ q low high. c.in_default.ensures q low))
