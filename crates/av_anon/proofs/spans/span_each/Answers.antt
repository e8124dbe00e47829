use Rattle.std.proofs.Common.{◌≡◌, ◌+◌, ◌<◌, ◌∷◌, ◌++◌, [], cond, length, take, get_or, refl, sym, ap, ◌∙◌, subst, arith}
use Rattle.std.proofs.lemmas.List.{take_more}
use Rattle.av_arena.specs.Order.{with_entry}
use Rattle.av_interval.specs.Span.{key, triple}
use Rattle.av_interval.specs.Spans.{IsNew, triples}
use Rattle.av_anon.specs.Spans.{spans_with}
use Rattle.av_anon.proofs.Words.{each_more, absent_before, in_list, take_all}
use Rattle.av_anon.proofs.spans.span_each.Goals as goal

pub loop-anon-init : goal.loop-anon-init
loop-anon-init c = λ v. refl

pub add-requires : goal.add-requires
add-requires c =
    let xs = c.args.anons.now in
    let k = c.loop-anon.anon-index in
    let x = get_or xs k 0 in
    let old = triples c.args.spans.now in
    let lt : k < length xs = omega arith in
    let same : triples c.loop-anon.spans x ≡ old x = c.loop-anon.invariant x
    ∙ ap (λ b. cond b (with_entry key (triple c.args.first c.args.last c.args.area) (old x)) (old x)) (absent_before xs k c.requires.rising lt) in
    record { other = subst (IsNew c.args.area) (sym same) (c.requires.new x (in_list xs k lt)) }

pub loop-anon-preserved : goal.loop-anon-preserved
loop-anon-preserved c = λ v.
    let xs = c.args.anons.now in
    let k = c.loop-anon.anon-index in
    let x = get_or xs k 0 in
    let s = triple c.args.first c.args.last c.args.area in
    let old = triples c.args.spans.now in
    let lt : k < length xs = omega arith in
    let more : take (k + 1) xs ≡ take k xs ++ x ∷ [] = take_more xs k 0 lt in
    each_more (with_entry key s) old (triples c.loop-anon.spans) (triples c.add.new.self) (take k xs) x (absent_before xs k c.requires.rising lt)
    c.loop-anon.invariant c.in_ok-add.ensures.spans v ∙ ap (λ ys. spans_with ys s old v) (sym more)

pub returns : goal.returns
returns c = λ v. c.loop-anon.invariant v
    ∙ ap (λ ys. spans_with ys (triple c.args.first c.args.last c.args.area) (triples c.args.spans.now) v)
    (take_all c.args.anons.now c.loop-anon.anon-index (omega arith))
