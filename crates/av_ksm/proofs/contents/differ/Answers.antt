use Rattle.std.proofs.Common.{◌≡◌, ◌∙◌, below_more, arith, get_or, length, sym}
use Rattle.std.proofs.lemmas.Bool.Decides.{nat_tests}
use Rattle.std.proofs.lemmas.List.{ext_get_or}
use Rattle.av_ksm.proofs.OrderLaws.{no-difference}
use Rattle.av_ksm.proofs.contents.differ.Goals as goal

pub loop-i-preserved : goal.loop-i-preserved
loop-i-preserved c = λ none.
    let n = no-difference c.loop-i.differences (get_or c.args.x.now c.loop-i.i 0) (get_or c.args.y.now c.loop-i.i 0) none in
    below_more _ _ (c.loop-i.invariant n.0) n.1

pub returns : goal.returns
returns c = λ same.
    let long : length c.args.x.now ≡ length c.args.y.now = c.told-x ∙ sym c.told-y in
    let none : c.loop-i.differences ≡ 0 = grind (arith, nat_tests, same) in
    let end = c.loop-i-test.false in
    let told = c.told-x in
    ext_get_or 0 c.args.x.now c.args.y.now long (λ k low. c.loop-i.invariant none k (omega arith))
