use Rattle.std.proofs.Common.{◌≡◌, ℕ, ◌+◌, ◌<◌, Bool, true, false, ◌∷◌, ◌++◌, [], List, IsSome, cond, length, take, get_or, refl, sym, ap, ◌∙◌, subst, arith}
use Rattle.std.proofs.lemmas.List.{take_more}
use Rattle.av_base.specs.Words.{is_in}
use Rattle.av_arena.specs.Order.{entry_at, with_entry, without_key}
use Rattle.av_interval.specs.Span.{key, key_of, triple}
use Rattle.av_interval.specs.Spans.{triples}
use Rattle.av_interval.specs.declared.span.Span.{Span}
use Rattle.av_anon.proofs.Words.{each_more, absent_before, in_list, take_all}
use Rattle.av_anon.proofs.spans.respan_each.Goals as goal

-- out and in again, or neither
both : (b : Bool) (x : Span) (k : ℕ) (xs : List Span) → cond b (with_entry key x (without_key key k xs)) xs
    ≡ cond b (with_entry key x (cond b (without_key key k xs) xs)) (cond b (without_key key k xs) xs)
both true x k xs = refl
both false x k xs = refl

pub loop-anon-init : goal.loop-anon-init
loop-anon-init c = λ v. refl

pub resize-requires : goal.resize-requires
resize-requires c =
    let xs = c.args.anons.now in
    let k = c.loop-anon.anon-index in
    let x = get_or xs k 0 in
    let n = key_of c.args.first c.args.area in
    let s = triple c.args.first c.args.last c.args.area in
    let old = triples c.args.spans.now in
    let lt : k < length xs = omega arith in
    let same : triples c.loop-anon.spans x ≡ old x = c.loop-anon.invariant x
    ∙ ap (λ b. cond b (with_entry key s (without_key key n (old x))) (old x)) (absent_before xs k c.requires.rising lt) in
    record { there = subst (λ ys. IsSome (entry_at key n ys)) (sym same) (c.requires.there x (in_list xs k lt)) }

pub loop-anon-preserved : goal.loop-anon-preserved
loop-anon-preserved c = λ v.
    let xs = c.args.anons.now in
    let k = c.loop-anon.anon-index in
    let x = get_or xs k 0 in
    let n = key_of c.args.first c.args.area in
    let s = triple c.args.first c.args.last c.args.area in
    let old = triples c.args.spans.now in
    let lt : k < length xs = omega arith in
    let more : take (k + 1) xs ≡ take k xs ++ x ∷ [] = take_more xs k 0 lt in
    each_more (λ ys. with_entry key s (without_key key n ys)) old (triples c.loop-anon.spans) (triples c.resize.new.self) (take k xs) x
    (absent_before xs k c.requires.rising lt)
    c.loop-anon.invariant c.resize.ensures v ∙ ap (λ ys. cond (is_in v ys) (with_entry key s (without_key key n (old v))) (old v)) (sym more)

pub returns : goal.returns
returns c = λ v.
    let xs = c.args.anons.now in
    let n = key_of c.args.first c.args.area in
    let s = triple c.args.first c.args.last c.args.area in
    let old = triples c.args.spans.now in
    c.loop-anon.invariant v
    ∙ ap (λ ys. cond (is_in v ys) (with_entry key s (without_key key n (old v))) (old v)) (take_all xs c.loop-anon.anon-index (omega arith))
    ∙ both (is_in v xs) s n (old v)
