use Rattle.std.proofs.Common.{◌≡◌, ℕ, ◌-◌, ◌≤◌, ◌<◌, ◌^◌, length, ap, ◌∙◌, arith}
use Rattle.std.proofs.lemmas.Iterator.Consumers.{YieldsList-from_rest, count_from_yields_List}
use Rattle.std.specs.BTreeSet.{contains}
use Rattle.std.specs.Ordering.{nat_cmp}
use Rattle.av_audit_book.proofs.CountLaws.{below-counted, few-counted}
use Rattle.av_audit_book.proofs.merged.len_below.Goals as goal

fits : (k m n : ℕ) → k ≡ m → m ≤ n → n < 2 ^ 32 → k < 2 ^ 32
fits k m n same few below = omega (arith, same, few, below)

abbrev counted : (len count : ℕ) (all left : ℕ) → len ≡ all → count ≡ left → len - count ≡ all - left
counted len count all left whole part = λ i. whole i - part i

pub overflow_cast-result : goal.overflow_cast-result
overflow_cast-result c =
    let r = c.range.result in
    let part = count_from_yields_List r _ c.count.ensures.ran (YieldsList-from_rest r (λ i. r)) ∙ ap length (c.range.ensures.between tt) in
    let all = counted _ _ _ _ c.len.ensures.len part ∙ below-counted c.args.numbers.now c.args.n c.len.ensures.ordered in
    record { fits = fits _ _ c.args.n all (few-counted (contains nat_cmp c.args.numbers.now) c.args.n) c.ranges.n.fits }

pub returns : goal.returns
returns c =
    let r = c.range.result in
    let part = count_from_yields_List r _ c.count.ensures.ran (YieldsList-from_rest r (λ i. r)) ∙ ap length (c.range.ensures.between tt) in
    counted _ _ _ _ c.len.ensures.len part ∙ below-counted c.args.numbers.now c.args.n c.len.ensures.ordered
