use Rattle.std.proofs.Common.{◌≡◌, ◌+◌, ◌<◌, ◌∙◌, arith, length, refl, subst}
use Rattle.av_mem.specs.Entries.{LetsGo, without_pages}
use Rattle.av_mem.proofs.LetGoLaws.{more-go, none-yet, rest-none, rest-then}
use Rattle.av_mem.proofs.PagesGone.{still-there}
use Rattle.av_mem.proofs.zap.let_go_each.Goals as goal

pub loop-entry-init : goal.loop-entry-init
loop-entry-init c = record {
  within = omega arith;
  goes = λ d first table p page stands has. none-yet d c.args.mem.now table first p page c.args.notes.now stands;
  tables = refl;
  rest = rest-none c.args.mem.now;
}

pub let_go-requires : goal.let_go-requires
let_go-requires c =
    let r = c.requires.there in
    let i = c.loop-entry.entry-index in
    let low : i < length c.args.run.now = omega (arith, c.loop-entry-test.true) in
    record {
      there = record {
        device = r.device;
        ledger = _;
        table = without_pages r.process r.page i r.table;
        process = r.process;
        page = r.page + i;
        stands = (c.loop-entry.invariant.goes r.device r.ledger r.table r.process r.page r.stands r.there).stands;
        there = still-there r.table r.process r.page i (r.page + i) (omega arith) ∙ r.there i low;
      };
    }

pub loop-entry-preserved : goal.loop-entry-preserved
loop-entry-preserved c =
    let i = c.loop-entry.entry-index in
    let low : i < length c.args.run.now = omega (arith, c.loop-entry-test.true) in
    let v = c.loop-entry.invariant in
    record {
      within = omega (arith, low);
      goes = λ d first table p page stands has.
          let g = v.goes d first table p page stands has in
          more-go d c.args.mem.now c.loop-entry.mem c.let_go.new.mem table first p page i 1 c.args.notes.now c.loop-entry.notes c.let_go.new.notes
          stands v.rest.parts g (c.in_ok-let_go.ensures.goes d _ (without_pages p page i table) p (page + i) g.stands
          (still-there table p page i (page + i) (omega arith) ∙ has i low));
      tables = c.in_ok-let_go.ensures.tables ∙ v.tables;
      rest = rest-then v.rest c.in_ok-let_go.ensures.rest;
    }

pub returns-in_err-let_go-clause-tables : goal.returns-in_err-let_go-clause-tables
returns-in_err-let_go-clause-tables c = c.let_go.ensures.tables ∙ c.loop-entry.invariant.tables

pub returns-in_err-let_go-clause-rest : goal.returns-in_err-let_go-clause-rest
returns-in_err-let_go-clause-rest c = rest-then c.loop-entry.invariant.rest c.let_go.ensures.rest

pub returns-clause-goes : goal.returns-clause-goes
returns-clause-goes c = λ d l table p page stands has.
    let v = c.loop-entry.invariant in
    let within = v.within in
    let all : c.loop-entry.entry-index ≡ length c.args.run.now = omega (arith, within, c.loop-entry-test.false) in
    subst (λ n. LetsGo d c.args.mem.now c.loop-entry.mem table l p page n c.args.notes.now c.loop-entry.notes) all (v.goes d l table p page stands
    has)
