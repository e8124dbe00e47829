use Rattle.std.proofs.Common.{◌≡◌, ℕ, ◌*◌, ◌+◌, get_or, sym, ◌∙◌, arith, rules}
use Rattle.av_text.specs.Number.{worth}
use Rattle.av_text.proofs.NumberLaws.{at_no_digit, at_digit, at_no_byte, sure_more, sure_fits, sum_is}
use Rattle.av_text.proofs.number.digits.Goals as goal

pub returns-in_default : goal.returns-in_default
returns-in_default c = sym (at_no_byte c.args.base c.loop-place.value c.loop-place.rest.now (omega arith)) ∙ c.loop-place.invariant.same

pub returns-then-base-digit : goal.returns-then-base-digit
returns-then-base-digit c =
    let none = c.digit_in-digit.ensures.none c.if-base-digit.true in
    sym (at_no_digit c.args.base c.loop-place.value c.loop-place.rest.now c.in-len1-up.len_at_least none) ∙ c.loop-place.invariant.same

pub overflow_mul-value : goal.overflow_mul-value
overflow_mul-value c =
    let base : c.from.result ≡ c.args.base = search rules in
    let fits = sure_fits c.loop-place._place c.loop-place.value c.from.result c.digit_in-digit.result
    (omega arith) (omega arith) (omega arith) c.loop-place.invariant.small in
    omega arith

pub overflow_add-value : goal.overflow_add-value
overflow_add-value c =
    let base : c.from.result ≡ c.args.base = search rules in
    let digit : c.from-in-loop-place.result ≡ c.digit_in-digit.result = search rules in
    let fits = sure_fits c.loop-place._place c.loop-place.value c.from.result c.from-in-loop-place.result
    (omega arith) (omega arith) (omega arith) c.loop-place.invariant.small in
    omega arith

pub loop-place-preserved : goal.loop-place-preserved
loop-place-preserved c =
    let base : c.from.result ≡ c.args.base = search rules in
    let digit : c.from-in-loop-place.result ≡ c.digit_in-digit.result = search rules in
    let d : ℕ = worth (get_or c.loop-place.rest.now 0 0) in
    let is : c.digit_in-digit.result ≡ d = c.digit_in-digit.ensures.digit c.if-base-digit.false in
    let fits = sure_fits c.loop-place._place c.loop-place.value c.from.result c.from-in-loop-place.result
    (omega arith) (omega arith) (omega arith) c.loop-place.invariant.small in
    let value = sum_is c.loop-place.value c.args.base c.from.result (c.loop-place.value * c.from.result) c.from-in-loop-place.result d
    (c.loop-place.value * c.from.result + c.from-in-loop-place.result) base (search rules) (digit ∙ is) (search rules) in
    record {
      same = at_digit c.args.base c.loop-place.value (c.loop-place.value * c.from.result + c.from-in-loop-place.result) c.loop-place.rest.now
          c.in-len1-up.len_at_least (omega arith) value fits ∙ c.loop-place.invariant.same;
      small = sure_more c.loop-place._place c.loop-place.value c.from.result c.from-in-loop-place.result (omega arith) (omega arith)
          c.loop-place.invariant.small;
    }
