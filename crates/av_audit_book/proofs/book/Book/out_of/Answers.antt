use Rattle.std.proofs.Common.{◌≡◌, ◌-◌, cond, arith, rules}
use Rattle.std.specs.Prelude.{is_some}
use Rattle.std.specs.List.{range_with_len}
use Rattle.av_base.specs.Words.{how_many}
use Rattle.av_audit_book.specs.Book.{ledger_of}
use Rattle.av_audit_book.specs.Spared.{spared_of}
use Rattle.av_audit_book.proofs.ShortageLaws.{cached-counted, held-all, locked-counted, locked_alone, merged-counted}
use Rattle.av_audit_book.proofs.ShortageLaws.{merged_alone, slotless_alone}
use Rattle.av_audit_book.proofs.book.Book.out_of.Goals as goal

pub overflow_sub-locked : goal.overflow_sub-locked
overflow_sub-locked c =
    let l = ledger_of c.args.self.now in
    let sp = spared_of c.args.spared.now l in
    let n = c.args.machine.now.frames in
    let p = c.pinned_below-pinned.ensures in
    let k = locked-counted sp l n c.in_ok-alone.alone c.in_ok-alone.ensures _ _ c.len_below.ensures p in
    omega (arith, k)

pub overflow_sub-ksm : goal.overflow_sub-ksm
overflow_sub-ksm c =
    let l = ledger_of c.args.self.now in
    let sp = spared_of c.args.spared.now l in
    let n = c.args.machine.now.frames in
    let m = merged-counted sp l n c.in_ok-alone.alone c.in_ok-alone.ensures _ _ c.len_below-2.ensures c.merged_among.ensures in
    omega (arith, m)

pub overflow_sub-result : goal.overflow_sub-result
overflow_sub-result c =
    let l = ledger_of c.args.self.now in
    let sp = spared_of c.args.spared.now l in
    let n = c.args.machine.now.frames in
    let all = held-all sp l n in
    let p = c.pinned_below-pinned.ensures in
    omega (arith, all, p)

pub overflow_sub-result-2 : goal.overflow_sub-result-2
overflow_sub-result-2 c =
    let l = ledger_of c.args.self.now in
    let sp = spared_of c.args.spared.now l in
    let n = c.args.machine.now.frames in
    let all = held-all sp l n in
    let p = c.pinned_below-pinned.ensures in
    let k = locked-counted sp l n c.in_ok-alone.alone c.in_ok-alone.ensures _ _ c.len_below.ensures p in
    omega (arith, all, p, k)

pub overflow_sub-result-3 : goal.overflow_sub-result-3
overflow_sub-result-3 c =
    let l = ledger_of c.args.self.now in
    let sp = spared_of c.args.spared.now l in
    let n = c.args.machine.now.frames in
    let all = held-all sp l n in
    let p = c.pinned_below-pinned.ensures in
    let k = locked-counted sp l n c.in_ok-alone.alone c.in_ok-alone.ensures _ _ c.len_below.ensures p in
    let m = merged-counted sp l n c.in_ok-alone.alone c.in_ok-alone.ensures _ _ c.len_below-2.ensures c.merged_among.ensures in
    omega (arith, all, p, k, m)

pub overflow_sub-result-4 : goal.overflow_sub-result-4
overflow_sub-result-4 c =
    let l = ledger_of c.args.self.now in
    let sp = spared_of c.args.spared.now l in
    let n = c.args.machine.now.frames in
    let all = held-all sp l n in
    let p = c.pinned_below-pinned.ensures in
    let k = locked-counted sp l n c.in_ok-alone.alone c.in_ok-alone.ensures _ _ c.len_below.ensures p in
    let m = merged-counted sp l n c.in_ok-alone.alone c.in_ok-alone.ensures _ _ c.len_below-2.ensures c.merged_among.ensures in
    let f = cached-counted sp l n c.in_ok-alone.alone c.in_ok-alone.ensures c.in_ok-cached.cached _ c.in_ok-cached.ensures c.len_below-fault.ensures in
    omega (arith, all, p, k, m, f)

pub returns : goal.returns
returns c =
    let l = ledger_of c.args.self.now in
    let sp = spared_of c.args.spared.now l in
    let n = c.args.machine.now.frames in
    let all = held-all sp l n in
    let p = c.pinned_below-pinned.ensures in
    let k = locked-counted sp l n c.in_ok-alone.alone c.in_ok-alone.ensures _ _ c.len_below.ensures p in
    let m = merged-counted sp l n c.in_ok-alone.alone c.in_ok-alone.ensures _ _ c.len_below-2.ensures c.merged_among.ensures in
    let f = cached-counted sp l n c.in_ok-alone.alone c.in_ok-alone.ensures c.in_ok-cached.cached _ c.in_ok-cached.ensures c.len_below-fault.ensures in
    let one : c.from.result ≡ cond (is_some c.args.spared.now.pinned) 1 0 = search rules in
    let locked : c.len_below.result - c.pinned_below-pinned.result ≡ how_many (locked_alone sp) (range_with_len 0 n) = omega (arith, k) in
    let merged : c.len_below-2.result - c.merged_among.result ≡ how_many (merged_alone sp l) (range_with_len 0 n) = omega (arith, m) in
    let rest : n - c.pinned_below-pinned.result - (c.len_below.result - c.pinned_below-pinned.result) - (c.len_below-2.result - c.merged_among.result)
    - c.len_below-fault.result ≡ how_many (slotless_alone sp l) (range_with_len 0 n) = omega (arith, all, p, k, m, f) in
    λ i. record { pinned = one i; noslot = rest i; fault = f i; locked = locked i; ksm = merged i }
