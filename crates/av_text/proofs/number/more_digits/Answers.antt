use Rattle.std.proofs.Common.{◌≡◌, ℕ, ◌*◌, ◌+◌, ◌^◌, ◌≤◌, None, get_or, sym, ◌∙◌, arith, rules}
use Rattle.av_text.specs.Number.{worth, digits_from}
use Rattle.av_text.proofs.NumberLaws.{at_no_digit, at_too_large, at_digit, at_no_byte, product_large, sum_large, sum_is}
use Rattle.av_text.proofs.number.more_digits.Goals as goal

pub returns-then-base-digit : goal.returns-then-base-digit
returns-then-base-digit c =
    sym (at_no_digit c.args.base c.loop-rest.value c.loop-rest.rest.now c.in-len1-up.len_at_least (omega arith)) ∙ c.loop-rest.invariant

pub returns-in_err-checked_mul : goal.returns-in_err-checked_mul
returns-in_err-checked_mul c =
    let d : ℕ = worth (get_or c.loop-rest.rest.now 0 0) in
    let large : 2 ^ 64 ≤ c.loop-rest.value * c.args.base + d = product_large c.loop-rest.value c.args.base c.from.result d
    (search rules) c.in_err-checked_mul.ensures in
    let none : digits_from c.args.base c.args.so_far c.args.bytes.now ≡ None =
    sym c.loop-rest.invariant ∙ at_too_large c.args.base c.loop-rest.value c.loop-rest.rest.now c.in-len1-up.len_at_least (omega arith) large in
    rw c.from_residual.ensures (sym none)

pub returns-in_err-value : goal.returns-in_err-value
returns-in_err-value c =
    let d : ℕ = worth (get_or c.loop-rest.rest.now 0 0) in
    let large : 2 ^ 64 ≤ c.loop-rest.value * c.args.base + d =
    sum_large c.loop-rest.value c.args.base c.from.result c.in_ok-checked_mul.field-0 c.from-in-len1-up.result d (search rules)
    c.in_ok-checked_mul.ensures.1
    (search rules) c.in_err-value.ensures in
    let none : digits_from c.args.base c.args.so_far c.args.bytes.now ≡ None =
    sym c.loop-rest.invariant ∙ at_too_large c.args.base c.loop-rest.value c.loop-rest.rest.now c.in-len1-up.len_at_least (omega arith) large in
    rw c.from_residual-in_err-value.ensures (sym none)

pub loop-rest-preserved : goal.loop-rest-preserved
loop-rest-preserved c =
    let d : ℕ = worth (get_or c.loop-rest.rest.now 0 0) in
    let value : c.in_ok-value.value ≡ c.loop-rest.value * c.args.base + d =
    sum_is c.loop-rest.value c.args.base c.from.result c.in_ok-checked_mul.field-0 c.from-in-len1-up.result d c.in_ok-value.value
    (search rules) c.in_ok-checked_mul.ensures.1 (search rules) c.in_ok-value.ensures.1 in
    at_digit c.args.base c.loop-rest.value c.in_ok-value.value c.loop-rest.rest.now c.in-len1-up.len_at_least (omega arith) value
    (omega (arith, c.in_ok-value.ensures)) ∙ c.loop-rest.invariant

pub returns : goal.returns
returns c = sym (at_no_byte c.args.base c.loop-rest.value c.loop-rest.rest.now (omega arith)) ∙ c.loop-rest.invariant
