use Rattle.std.proofs.Common.{◌≡◌, ◌+◌, ◌<◌, ◌∷◌, ◌++◌, [], IsSome, cond, length, take, get_or, refl, sym, ap, ◌∙◌, subst, arith}
use Rattle.std.proofs.lemmas.List.{take_more}
use Rattle.av_arena.specs.Order.{entry_at, without_key}
use Rattle.av_interval.specs.Span.{key, key_of}
use Rattle.av_interval.specs.Spans.{triples}
use Rattle.av_anon.specs.Spans.{spans_without}
use Rattle.av_anon.proofs.Words.{each_more, absent_before, in_list, take_all}
use Rattle.av_anon.proofs.spans.unspan_each.Goals as goal

pub loop-anon-init : goal.loop-anon-init
loop-anon-init c = λ v. refl

pub remove-requires : goal.remove-requires
remove-requires c =
    let xs = c.args.anons.now in
    let k = c.loop-anon.anon-index in
    let x = get_or xs k 0 in
    let n = key_of c.args.first c.args.area in
    let old = triples c.args.spans.now in
    let lt : k < length xs = omega arith in
    let same : triples c.loop-anon.spans x ≡ old x = c.loop-anon.invariant x
    ∙ ap (λ b. cond b (without_key key n (old x)) (old x)) (absent_before xs k c.requires.rising lt) in
    record { there = subst (λ ys. IsSome (entry_at key n ys)) (sym same) (c.requires.there x (in_list xs k lt)) }

pub loop-anon-preserved : goal.loop-anon-preserved
loop-anon-preserved c = λ v.
    let xs = c.args.anons.now in
    let k = c.loop-anon.anon-index in
    let x = get_or xs k 0 in
    let n = key_of c.args.first c.args.area in
    let old = triples c.args.spans.now in
    let lt : k < length xs = omega arith in
    let more : take (k + 1) xs ≡ take k xs ++ x ∷ [] = take_more xs k 0 lt in
    each_more (without_key key n) old (triples c.loop-anon.spans) (triples c.remove.new.self) (take k xs) x (absent_before xs k c.requires.rising lt)
    c.loop-anon.invariant c.remove.ensures v ∙ ap (λ ys. spans_without ys n old v) (sym more)

pub returns : goal.returns
returns c = λ v. c.loop-anon.invariant v
    ∙ ap (λ ys. spans_without ys (key_of c.args.first c.args.area) (triples c.args.spans.now) v) (take_all c.args.anons.now c.loop-anon.anon-index
    (omega arith))
