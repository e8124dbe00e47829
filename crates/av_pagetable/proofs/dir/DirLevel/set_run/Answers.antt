use Rattle.std.proofs.Common.{rules, ◌≡◌, ◌+◌, ◌-◌, ◌*◌, ◌/◌, ◌%◌, ◌≤◌, ap, arith, drop, length, take, ◌∙◌}
use Rattle.std.proofs.lemmas.Nat.{div-add-mod'}
use Rattle.av_pagetable.specs.Dir.{entries}
use Rattle.av_pagetable.specs.Table.{with_run}
use Rattle.av_pagetable.proofs.SetRun.{long, still_few, then_part}
use Rattle.av_pagetable.proofs.dir.DirLevel.set_run.Goals as goal

pub returns-in_err-set_in : goal.returns-in_err-set_in
returns-in_err-set_in g c =
    let C = g.C.Level in
    let run = c.args.run.now in
    let done = c.loop-done.done in
    let past = done + c.min-len.result in
    let set = c.set_in.ensures in
    let order : done ≤ past = omega arith in
    let within : past ≤ length run = omega (arith, c.min-len.ensures, c.loop-done-test.true) in
    let from = c.args.page + done in
    let page : from / C.span * C.span + from % C.span ≡ from = div-add-mod' from C.span in
    record {
      many = done + set.many;
      few = still_few run done past set.many order within set.few;
      all = search rules;
      is = then_part run done past set.many order within set.few c.args.page (entries C.at C.span c.args.self.now)
          (entries C.at C.span c.loop-done.self) (entries C.at C.span c.set_in.new.self) c.loop-done.invariant.given
          (rw c.span-span.ensures.is at set.is
          ∙ ap (λ n. with_run n set.many (take (past - done) (drop done run)) (entries C.at C.span c.loop-done.self)) page);
    }

pub loop-done-preserved : goal.loop-done-preserved
loop-done-preserved g c =
    let C = g.C.Level in
    let run = c.args.run.now in
    let done = c.loop-done.done in
    let past = done + c.min-len.result in
    let set = c.in_ok-set_in.ensures in
    let order : done ≤ past = omega arith in
    let within : past ≤ length run = omega (arith, c.min-len.ensures, c.loop-done-test.true) in
    let from = c.args.page + done in
    let page : from / C.span * C.span + from % C.span ≡ from = div-add-mod' from C.span in
    record {
      within = within;
      given = then_part run done past set.many order within set.few c.args.page (entries C.at C.span c.args.self.now)
          (entries C.at C.span c.loop-done.self) (entries C.at C.span c.set_in.new.self) c.loop-done.invariant.given
          (rw c.span-span.ensures.is at set.is
          ∙ ap (λ n. with_run n set.many (take (past - done) (drop done run)) (entries C.at C.span c.loop-done.self)) page)
          ∙ ap (λ n. with_run c.args.page n run (entries C.at C.span c.args.self.now))
          (omega (arith, set.all, long run done past set.many order within set.few));
    }
