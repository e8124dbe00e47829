use Rattle.std.proofs.Common.{◌++◌, List, [], ◌∷◌, ℕ, ◌+◌, ◌/◌, ap, ◌∙◌, arith}
use Rattle.std.proofs.lemmas.Result.{on_ok_weaker}
use Rattle.av_text.proofs.NumberLaws.{spelled_one, spelled_two, spelled_three, spelled_four}
use Rattle.av_text.proofs.number.add_short.Goals as goal

pub returns-then-n-lt10 : goal.returns-then-n-lt10
returns-then-n-lt10 c =
    on_ok_weaker c.append.result (λ e. e ∙ ap (λ (t : List ℕ). c.args.text.now ++ t) (spelled_one c.args.n (omega arith))) c.append.ensures.ok

pub returns-then-n-lt100 : goal.returns-then-n-lt100
returns-then-n-lt100 c =
    let p = c.two_digits-tens.ensures in
    on_ok_weaker c.append-then-n-lt100.result (λ e. e ∙ ap (λ (t : List ℕ). c.args.text.now ++ t)
    ((λ j. p.tens j ∷ p.ones j ∷ []) ∙ spelled_two c.args.n (omega arith) (omega arith))) c.append-then-n-lt100.ensures.ok

pub returns-then-n-lt1000 : goal.returns-then-n-lt1000
returns-then-n-lt1000 c =
    let p = c.two_digits-tens-2.ensures in
    on_ok_weaker c.append-then-n-lt1000.result (λ e. e ∙ ap (λ (t : List ℕ). c.args.text.now ++ t)
    ((λ j. (48 + c.args.n / 100) ∷ p.tens j ∷ p.ones j ∷ []) ∙ spelled_three c.args.n (omega arith) (omega arith))) c.append-then-n-lt1000.ensures.ok

pub returns : goal.returns
returns c =
    let p = c.two_digits-tens-2.ensures in
    let q = c.two_digits-thousands.ensures in
    on_ok_weaker c.append-2.result (λ e. e ∙ ap (λ (t : List ℕ). c.args.text.now ++ t)
    ((λ j. q.tens j ∷ q.ones j ∷ p.tens j ∷ p.ones j ∷ []) ∙ spelled_four c.args.n (omega arith) (omega arith))) c.append-2.ensures.ok
