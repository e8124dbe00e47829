use Rattle.std.proofs.Common.{ℕ, List, [], ◌≡◌, ◌∙◌, sym, ap, length, arith, eqb}
use Rattle.av_text.proofs.NumberLaws.{in-found, in-none, in-same}
use Rattle.av_text.proofs.number.number_in.Goals as goal
use Rattle.av_text.proofs.number.number_in.Goals.{else-is_empty-via-then-is_empty+then-low-n+else-n-high, else-is_empty-via-then-is_empty+else-low-n, else-is_empty-via-else-is_empty}

pub returns-in_err-n-clause-none : goal.returns-in_err-n-clause-none
returns-in_err-n-clause-none c =
    rw c.from_residual.ensures
    (λ n within is. in-none c.args.low c.args.high n c.args.word.now (omega arith) within is (rw c.in_err-n.was at c.number.ensures))

pub returns-then-n-high-clause-found : goal.returns-then-n-high-clause-found
returns-then-n-high-clause-found c =
    in-found c.args.low c.args.high c.in_ok-n.n c.args.word.now c.in_ok-n.rest.now c.in_ok-n.ensures (sym c.is_empty.ensures ∙ c.if-is_empty.true)
    c.if-low-n.true c.if-n-high.true

pub returns-else-is_empty-clause-none : goal.returns-else-is_empty-clause-none
returns-else-is_empty-clause-none c = λ n within is.
    let same = in-same c.args.low c.args.high n c.in_ok-n.n c.args.word.now c.in_ok-n.rest.now (omega arith) within is c.in_ok-n.ensures in
    let number = same.0 in
    let empty : c.is_empty.result ≡ eqb (length {A = ℕ} []) 0 = c.is_empty.ensures ∙ ap (λ (t : List ℕ). eqb (length t) 0) same.1 in
    elim c.else-is_empty.branch [
      | else-is_empty-via-then-is_empty+then-low-n+else-n-high w ↦ omega (arith, within.most)
      | else-is_empty-via-then-is_empty+else-low-n w ↦ omega (arith, within.least)
      | else-is_empty-via-else-is_empty w ↦ cc
    ]
