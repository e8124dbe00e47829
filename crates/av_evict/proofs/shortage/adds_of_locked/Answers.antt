use Rattle.std.proofs.Common.{None, arith, false}
use Rattle.av_evict.specs.System.{any_slot, spares}
use Rattle.av_evict.proofs.CountLaws.{are-counts}
use Rattle.av_evict.proofs.shortage.adds_of_locked.Goals as goal

pub overflow_sub-result : goal.overflow_sub-result
overflow_sub-result g c =
    let k = g.S.System.view c.args.system.now false in
    let at = c.requires in
    let some = (are-counts k.setting any_slot (spares k None) at.0 at.1).some_held in
    let n = c.locked_len-locked.ensures false in
    let fault = c.locked_cached_len-fault.ensures false at.0 at.1 at.2 in
    omega (arith, some, n, fault)

pub overflow_sub-result-2 : goal.overflow_sub-result-2
overflow_sub-result-2 g c =
    let k = g.S.System.view c.args.system.now false in
    let at = c.requires in
    let some = (are-counts k.setting any_slot (spares k None) at.0 at.1).some_held in
    let n = c.locked_len-locked.ensures false in
    let fault = c.locked_cached_len-fault.ensures false at.0 at.1 at.2 in
    let ksm = c.locked_merged_len-ksm.ensures false at.0 at.1 at.2 in
    omega (arith, some, n, fault, ksm)
