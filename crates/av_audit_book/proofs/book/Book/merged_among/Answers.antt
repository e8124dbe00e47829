use Rattle.std.proofs.Common.{ℕ, ◌≡◌, ◌≤◌, ◌<◌, ◌^◌, ◌&&◌, length, ap, ◌∙◌, arith, rules, tests}
use Rattle.std.specs.Prelude.{filter}
use Rattle.std.specs.BTreeSet.{contains}
use Rattle.std.specs.Ordering.{nat_cmp}
use Rattle.std.proofs.lemmas.Iterator.Consumers.{YieldsList-from_filter, YieldsList-from_rest, count_from_yields_List}
use Rattle.av_plain.specs.Ledger.{is_merged}
use Rattle.av_audit_book.specs.Book.{ledger_of}
use Rattle.av_audit_book.proofs.CountLaws.{below-passing, few-counted}
use Rattle.av_audit_book.proofs.book.Book.merged_among.Goals as goal

fits : (k m n : ℕ) → k ≡ m → m ≤ n → n < 2 ^ 32 → k < 2 ^ 32
fits k m n same few below = omega (arith, same, few, below)

pub overflow_cast-result : goal.overflow_cast-result
overflow_cast-result c =
    let merged = is_merged (ledger_of c.args.self.now) in
    let passed = count_from_yields_List c.filter.result _ c.count.ensures.ran
    (YieldsList-from_filter _ merged (YieldsList-from_rest c.range.result cc) c.filter.ensures.closure (λ x r q k. search (rules, tests))) in
    let all = passed ∙ ap (λ xs. length (filter merged xs)) (c.range.ensures.between tt)
    ∙ below-passing merged c.args.frames.now c.args.n c.range.ensures.ordered in
    record { fits = fits _ _ c.args.n all (few-counted (λ f. contains nat_cmp c.args.frames.now f && merged f) c.args.n) c.ranges.n.fits }

pub returns : goal.returns
returns c =
    let merged = is_merged (ledger_of c.args.self.now) in
    let passed = count_from_yields_List c.filter.result _ c.count.ensures.ran
    (YieldsList-from_filter _ merged (YieldsList-from_rest c.range.result cc) c.filter.ensures.closure (λ x r q k. search (rules, tests))) in
    passed ∙ ap (λ xs. length (filter merged xs)) (c.range.ensures.between tt)
    ∙ below-passing merged c.args.frames.now c.args.n c.range.ensures.ordered
