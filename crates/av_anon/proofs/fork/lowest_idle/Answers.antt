use Rattle.std.proofs.Common.{◌≡◌, suc, ◌+◌, ◌<◌, cond, true, false, length, drop, get_or, sym, ap, ◌∙◌, Some, arith, drop-cons}
use Rattle.av_anon.specs.Fork.{is_idle, member_to_reuse}
use Rattle.av_anon.specs.Infos.{info_in}
use Rattle.av_anon.proofs.Words.{drop_all}
use Rattle.av_anon.proofs.fork.lowest_idle.Goals as goal

pub loop-anon-preserved : goal.loop-anon-preserved
loop-anon-preserved c =
    let xs = c.args.anons.now in
    let k = c.loop-anon.anon-index in
    let x = get_or xs k 0 in
    let info = info_in c.args.infos.now in
    let lt : k < length xs = omega arith in
    let one : suc k ≡ k + 1 = omega arith in
    let busy : is_idle x (info x) ≡ false = sym c.may_be_reused.ensures ∙ c.if-may_be_reused.false in
    c.loop-anon.invariant ∙ ap (member_to_reuse info) (drop-cons xs k 0 lt) ∙ ap (λ b. cond b (Some x) (member_to_reuse info (drop (suc k) xs))) busy
    ∙ ap (λ n. member_to_reuse info (drop n xs)) one

pub returns-then-may_be_reused : goal.returns-then-may_be_reused
returns-then-may_be_reused c =
    let xs = c.args.anons.now in
    let k = c.loop-anon.anon-index in
    let x = get_or xs k 0 in
    let info = info_in c.args.infos.now in
    let lt : k < length xs = omega arith in
    let idle : is_idle x (info x) ≡ true = sym c.may_be_reused.ensures ∙ c.if-may_be_reused.true in
    sym (c.loop-anon.invariant ∙ ap (member_to_reuse info) (drop-cons xs k 0 lt)
    ∙ ap (λ b. cond b (Some x) (member_to_reuse info (drop (suc k) xs))) idle)

pub returns : goal.returns
returns c = sym (c.loop-anon.invariant
    ∙ ap (member_to_reuse (info_in c.args.infos.now)) (drop_all c.args.anons.now c.loop-anon.anon-index (omega arith)))
