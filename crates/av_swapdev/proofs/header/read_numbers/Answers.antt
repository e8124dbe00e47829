use Rattle.std.proofs.Common.{ℕ, ◌+◌, ap, sym, ◌∙◌, arith}
use Rattle.av_swapdev.proofs.HeaderLemmas.{together, has_none, has_some}
use Rattle.av_swapdev.proofs.header.read_numbers.Goals as goal

pub overflow_sub-slots-2 : goal.overflow_sub-slots-2
overflow_sub-slots-2 c =
    let all = together c.args.order c.args.page.now c.args.device_pages c.number-last.result (c.min-pages.result + 1) c.number-count.result
    c.count_bad-bad.result c.number-last.ensures (ap (λ (n : ℕ). n + 1) c.min-pages.ensures) c.number-count.ensures c.if-last-eq0.false
    c.if-device_pages-pages.false c.if-count-gt-MOST_BAD.false (sym c.has_wrong.ensures ∙ c.if-has_wrong.false) c.count_bad-bad.ensures in
    omega (arith, all)

pub returns-then-slots-eq0 : goal.returns-then-slots-eq0
returns-then-slots-eq0 c =
    has_none c.args.order c.args.page.now c.args.device_pages c.number-last.result (c.min-pages.result + 1) c.number-count.result
    c.count_bad-bad.result
    c.number-last.ensures (ap (λ (n : ℕ). n + 1) c.min-pages.ensures) c.number-count.ensures c.if-last-eq0.false c.if-device_pages-pages.false
    c.if-count-gt-MOST_BAD.false (sym c.has_wrong.ensures ∙ c.if-has_wrong.false) c.count_bad-bad.ensures c.if-slots-eq0.true

pub returns : goal.returns
returns c =
    has_some c.args.order c.args.page.now c.args.device_pages c.number-last.result (c.min-pages.result + 1) c.number-count.result
    c.count_bad-bad.result
    c.number-last.ensures (ap (λ (n : ℕ). n + 1) c.min-pages.ensures) c.number-count.ensures c.if-last-eq0.false c.if-device_pages-pages.false
    c.if-count-gt-MOST_BAD.false (sym c.has_wrong.ensures ∙ c.if-has_wrong.false) c.count_bad-bad.ensures c.if-slots-eq0.false
