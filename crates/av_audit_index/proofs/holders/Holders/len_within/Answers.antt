use Rattle.std.proofs.Common.{◌≡◌, ℕ, ◌-◌, ◌<◌, ◌≤◌, ◌^◌, arith, sym, ◌∙◌}
use Rattle.std.proofs.lemmas.Iterator.Consumers.{YieldsList-from_rest, count_from_yields_List}
use Rattle.av_audit_index.proofs.HoldersLaws.{rise}
use Rattle.av_audit_index.proofs.UsedLaws.{all-count, few-used, range-count}
use Rattle.av_audit_index.proofs.holders.Holders.len_within.Goals as goal

fits : (n u from end : ℕ) → n ≡ u → u ≤ end - from → end < 2 ^ 32 → n < 2 ^ 32
fits n u from end same few below = omega (arith, same, few, below)

-- ---- where all lie there

pub overflow_cast-result : goal.overflow_cast-result
overflow_cast-result c =
    let all = sym c.are_within.ensures ∙ c.if-are_within.true in
    let count = c.len.ensures.len ∙ all-count _ _ c.self.view_is c.self.invariant c.args.from c.args.end all in
    let few = few-used c.args.self.now c.args.from c.args.end in
    record { fits = fits _ _ c.args.from c.args.end count few c.ranges.end.fits }

pub returns-then-are_within-clause-len : goal.returns-then-are_within-clause-len
returns-then-are_within-clause-len c =
    let all = sym c.are_within.ensures ∙ c.if-are_within.true in
    c.len.ensures.len ∙ all-count _ _ c.self.view_is c.self.invariant c.args.from c.args.end all

-- ---- where some don't

pub overflow_cast-result-2 : goal.overflow_cast-result-2
overflow_cast-result-2 c =
    let r = c.range.result in
    let yields = count_from_yields_List r _ c.count.ensures.ran (YieldsList-from_rest r (λ i. r)) in
    let count = yields ∙ range-count _ _ c.self.view_is c.self.invariant c.args.from c.args.end _ (c.range.ensures.between tt) in
    let few = few-used c.args.self.now c.args.from c.args.end in
    record { fits = fits _ _ c.args.from c.args.end count few c.ranges.end.fits }

pub returns-clause-len : goal.returns-clause-len
returns-clause-len c =
    let r = c.range.result in
    let yields = count_from_yields_List r _ c.count.ensures.ran (YieldsList-from_rest r (λ i. r)) in
    yields ∙ range-count _ _ c.self.view_is c.self.invariant c.args.from c.args.end _ (c.range.ensures.between tt)

pub returns-then-from-end-clause-rising : goal.returns-then-from-end-clause-rising
returns-then-from-end-clause-rising c = rise _ _ c.self.view_is c.self.invariant

pub returns-then-are_within-clause-rising : goal.returns-then-are_within-clause-rising
returns-then-are_within-clause-rising c = rise _ _ c.self.view_is c.self.invariant

pub returns-clause-rising : goal.returns-clause-rising
returns-clause-rising c = rise _ _ c.self.view_is c.self.invariant
