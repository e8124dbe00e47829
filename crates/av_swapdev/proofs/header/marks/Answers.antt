use Rattle.std.proofs.Common.{◌≡◌, ℕ, ◌+◌, ◌*◌, ◌-◌, ◌<◌, ◌||◌, eqb, Bool, true, false, cond, length, get_or, ap, sym, ◌∙◌, arith}
use Rattle.std.proofs.Math.ListN.{length-set}
use Rattle.std.proofs.lemmas.Bool.Decides.{nat_tests}
use Rattle.std.specs.declared.vec.Vec.{Vec}
use Rattle.std.specs.declared.alloc.Global.{Global}
use Rattle.av_base.specs.Words.{is_in}
use Rattle.av_swapdev.specs.Header.{number_at, numbers_at}
use Rattle.av_swapdev.proofs.HeaderNamed.{mark_passed}
use Rattle.av_swapdev.proofs.DevicePages.{get_set}
use Rattle.av_swapdev.proofs.header.marks.Goals as goal
use Rattle.av_swapdev.proofs.header.marks.Goals.{then-bad-pages, else-bad-pages}

pub loop-place-preserved : goal.loop-place-preserved
loop-place-preserved c =
    let f : ℕ → ℕ = λ i. number_at c.args.order c.args.page.now (1536 + 4 * i) in
    let old = c.loop-place.marks.items in
    let bad = c.bad_at-bad.result in
    record {
      len = elim c.if-bad-pages.branch [
        | then-bad-pages w ↦ ap (λ (v : Vec Bool Global). length v.items) w.marks-is ∙ length-set old bad true ∙ c.loop-place.invariant.len
        | else-bad-pages w ↦ ap (λ (v : Vec Bool Global). length v.items) w.marks-is ∙ c.loop-place.invariant.len
      ];
      named = λ m below.
          let whole = is_in m (numbers_at c.args.order c.args.page.now 0 c.args.count) in
          let rest = is_in m (numbers_at c.args.order c.args.page.now (c.loop-place.place + 1) (c.args.count - (c.loop-place.place + 1))) in
          let passed = mark_passed f c.loop-place.place c.args.count m bad (get_or old m false) whole c.loop-place-test.true c.bad_at-bad.ensures
          (c.loop-place.invariant.named m below) in
          elim c.if-bad-pages.branch [
            | then-bad-pages w ↦
                let within : bad < length old = omega (arith, c.loop-place.invariant.len, w.if-bad-pages.true) in
                ap (λ (v : Vec Bool Global). get_or v.items m false || rest) w.marks-is ∙ ap (λ (t : Bool). t || rest)
                (get_set old bad m true false within) ∙ passed
            | else-bad-pages w ↦
                let above = w.if-bad-pages.false in
                let other : eqb m bad ≡ false = grind (arith, nat_tests) in
                ap (λ (v : Vec Bool Global). get_or v.items m false || rest) w.marks-is
                ∙ sym (ap (λ (t : Bool). cond t true (get_or old m false) || rest) other) ∙ passed
          ];
    }
