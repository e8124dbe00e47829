use Rattle.std.proofs.Common.{◌≡◌, ℕ, ◌≤◌, ◌+◌, ◌-◌, length, ap, ◌*◌, true, false, sym, ◌∙◌, refl, arith}
use Rattle.av_swapdev.specs.Header.{number_at, numbers_at}
use Rattle.av_swapdev.proofs.HeaderNamed.{bad_passed, distinct_of}
use Rattle.av_swapdev.proofs.HeaderSlots.{length-bad}
use Rattle.av_swapdev.proofs.header.count_bad.Goals as goal
use Rattle.av_swapdev.proofs.header.count_bad.Goals.{then-is_behind_header+then-not-is_named, else-is_behind_header, else-is_behind_header-via-then-is_behind_header+else-not-is_named, else-is_behind_header-via-else-is_behind_header}

pub loop-place-preserved : goal.loop-place-preserved
loop-place-preserved c =
    let f : ℕ → ℕ = λ i. number_at c.args.order c.args.page.now (1536 + 4 * i) in
    elim c.if-is_behind_header.branch [
      | then-is_behind_header+then-not-is_named w ↦
          let step = bad_passed c.args.pages f c.loop-place.place c.args.count c.loop-place.distinct _ c.bad_at-bad.result true false
          c.loop-place-test.true
          c.bad_at-bad.ensures (sym c.is_behind_header.ensures ∙ w.if-is_behind_header.true) (sym w.is_named.ensures ∙ w.if-not-is_named.true)
          c.loop-place.invariant.sum in
          record { sum = omega (arith, step); few = omega arith }
      | else-is_behind_header w ↦ elim w.else-is_behind_header.branch [
        | else-is_behind_header-via-then-is_behind_header+else-not-is_named w' ↦
            let step = bad_passed c.args.pages f c.loop-place.place c.args.count c.loop-place.distinct _ c.bad_at-bad.result true true
            c.loop-place-test.true
            c.bad_at-bad.ensures (sym c.is_behind_header.ensures ∙ w'.if-is_behind_header.true) (sym w'.is_named.ensures ∙ w'.if-not-is_named.false)
            c.loop-place.invariant.sum in
            record { sum = omega (arith, step); few = omega arith }
        | else-is_behind_header-via-else-is_behind_header w' ↦
            let step = bad_passed c.args.pages f c.loop-place.place c.args.count c.loop-place.distinct _ c.bad_at-bad.result false _
            c.loop-place-test.true
            c.bad_at-bad.ensures (sym c.is_behind_header.ensures ∙ w'.if-is_behind_header.false) refl c.loop-place.invariant.sum in
            record { sum = omega (arith, step); few = omega arith }
      ]
    ]

pub returns : goal.returns
returns c =
    let all = length-bad c.args.pages (numbers_at c.args.order c.args.page.now 0 c.args.count) in
    let none : c.args.count - c.loop-place.place ≡ 0 = omega arith in
    let ended : length (distinct_of c.args.pages
    (numbers_at c.args.order c.args.page.now c.loop-place.place (c.args.count - c.loop-place.place))) ≡ 0 =
    ap (λ (n : ℕ). length (distinct_of c.args.pages (numbers_at c.args.order c.args.page.now c.loop-place.place n))) none in
    omega (arith, all, ended, c.loop-place.invariant.sum)
