use Rattle.std.proofs.Common.{arith, rules, ap, false, refl}
use Rattle.av_trace.specs.declared.reply.OutOf.{OutOf}
use Rattle.av_evict.specs.Standing.{locked_adds, pinned_adds}
use Rattle.av_evict.specs.System.{any_slot, spares}
use Rattle.av_evict.proofs.CountLaws.{are-counts, counts-are}
use Rattle.av_evict.proofs.shortage.out_of.Goals as goal

pub overflow_sub-rest : goal.overflow_sub-rest
overflow_sub-rest g c =
    let k = g.S.System.view c.args.system.now false in
    let at = c.requires in
    let are = are-counts k.setting any_slot (spares k c.args.pinned) at.0 at.1 in
    let some = are.some in
    let n = c.frames.ensures false in
    let merged = c.merged_len-merged.ensures false at.0 at.1 at.2 in
    omega (arith, some, n, merged)

pub overflow_sub-rest-2 : goal.overflow_sub-rest-2
overflow_sub-rest-2 g c =
    let k = g.S.System.view c.args.system.now false in
    let at = c.requires in
    let are = are-counts k.setting any_slot (spares k c.args.pinned) at.0 at.1 in
    let some = are.some in
    let n = c.frames.ensures false in
    let merged = c.merged_len-merged.ensures false at.0 at.1 at.2 in
    let cached = c.cached_len-cached.ensures false at.0 at.1 at.2 in
    omega (arith, some, n, merged, cached)

pub overflow_sub-result : goal.overflow_sub-result
overflow_sub-result g c =
    let k = g.S.System.view c.args.system.now false in
    let at = c.requires in
    let are = are-counts k.setting any_slot (spares k c.args.pinned) at.0 at.1 in
    let some = are.some_noslot in
    let whole = are.some in
    let n = c.frames.ensures false in
    let merged = c.merged_len-merged.ensures false at.0 at.1 at.2 in
    let cached = c.cached_len-cached.ensures false at.0 at.1 at.2 in
    let held = ap (λ (o : OutOf). o.noslot) {y = locked_adds k.setting k.locked at.0} (c.adds_of_locked-held.ensures false at.0 at.1 at.2) in
    omega (arith, some, whole, n, merged, cached, held)

pub overflow_sub-result-2 : goal.overflow_sub-result-2
overflow_sub-result-2 g c =
    let k = g.S.System.view c.args.system.now false in
    let at = c.requires in
    let are = are-counts k.setting any_slot (spares k c.args.pinned) at.0 at.1 in
    let some = are.some_noslot in
    let whole = are.some in
    let n = c.frames.ensures false in
    let merged = c.merged_len-merged.ensures false at.0 at.1 at.2 in
    let cached = c.cached_len-cached.ensures false at.0 at.1 at.2 in
    let held = ap (λ (o : OutOf). o.noslot) {y = locked_adds k.setting k.locked at.0} (c.adds_of_locked-held.ensures false at.0 at.1 at.2) in
    let less = ap (λ (o : OutOf). o.noslot) {y = pinned_adds k.setting (spares k c.args.pinned) at.0} (c.adds_of_pinned-less.ensures false at.0 at.1 at.2) in
    omega (arith, some, whole, n, merged, cached, held, less)

pub overflow_sub-result-3 : goal.overflow_sub-result-3
overflow_sub-result-3 g c =
    let k = g.S.System.view c.args.system.now false in
    let at = c.requires in
    let are = are-counts k.setting any_slot (spares k c.args.pinned) at.0 at.1 in
    let some = are.some_fault in
    let cached = c.cached_len-cached.ensures false at.0 at.1 at.2 in
    let held = ap (λ (o : OutOf). o.fault) {y = locked_adds k.setting k.locked at.0} (c.adds_of_locked-held.ensures false at.0 at.1 at.2) in
    omega (arith, some, cached, held)

pub overflow_sub-result-4 : goal.overflow_sub-result-4
overflow_sub-result-4 g c =
    let k = g.S.System.view c.args.system.now false in
    let at = c.requires in
    let are = are-counts k.setting any_slot (spares k c.args.pinned) at.0 at.1 in
    let some = are.some_fault in
    let cached = c.cached_len-cached.ensures false at.0 at.1 at.2 in
    let held = ap (λ (o : OutOf). o.fault) {y = locked_adds k.setting k.locked at.0} (c.adds_of_locked-held.ensures false at.0 at.1 at.2) in
    let less = ap (λ (o : OutOf). o.fault) {y = pinned_adds k.setting (spares k c.args.pinned) at.0} (c.adds_of_pinned-less.ensures false at.0 at.1 at.2) in
    omega (arith, some, cached, held, less)

pub overflow_sub-result-5 : goal.overflow_sub-result-5
overflow_sub-result-5 g c =
    let k = g.S.System.view c.args.system.now false in
    let at = c.requires in
    let are = are-counts k.setting any_slot (spares k c.args.pinned) at.0 at.1 in
    let some = are.some_locked in
    let held = ap (λ (o : OutOf). o.locked) {y = locked_adds k.setting k.locked at.0} (c.adds_of_locked-held.ensures false at.0 at.1 at.2) in
    let less = ap (λ (o : OutOf). o.locked) {y = pinned_adds k.setting (spares k c.args.pinned) at.0} (c.adds_of_pinned-less.ensures false at.0 at.1 at.2) in
    omega (arith, some, held, less)

pub overflow_sub-result-6 : goal.overflow_sub-result-6
overflow_sub-result-6 g c =
    let k = g.S.System.view c.args.system.now false in
    let at = c.requires in
    let are = are-counts k.setting any_slot (spares k c.args.pinned) at.0 at.1 in
    let some = are.some_ksm in
    let merged = c.merged_len-merged.ensures false at.0 at.1 at.2 in
    let held = ap (λ (o : OutOf). o.ksm) {y = locked_adds k.setting k.locked at.0} (c.adds_of_locked-held.ensures false at.0 at.1 at.2) in
    omega (arith, some, merged, held)

pub overflow_sub-result-7 : goal.overflow_sub-result-7
overflow_sub-result-7 g c =
    let k = g.S.System.view c.args.system.now false in
    let at = c.requires in
    let are = are-counts k.setting any_slot (spares k c.args.pinned) at.0 at.1 in
    let some = are.some_ksm in
    let merged = c.merged_len-merged.ensures false at.0 at.1 at.2 in
    let held = ap (λ (o : OutOf). o.ksm) {y = locked_adds k.setting k.locked at.0} (c.adds_of_locked-held.ensures false at.0 at.1 at.2) in
    let less = ap (λ (o : OutOf). o.ksm) {y = pinned_adds k.setting (spares k c.args.pinned) at.0} (c.adds_of_pinned-less.ensures false at.0 at.1 at.2) in
    omega (arith, some, merged, held, less)

pub returns : goal.returns
returns g c = λ told l sound stands.
    let k = g.S.System.view c.args.system.now told in
    counts-are k.setting (spares k c.args.pinned) l _ _ _ _ _ _
    (are-counts k.setting any_slot (spares k c.args.pinned) l sound)
    (c.frames.ensures told) (c.merged_len-merged.ensures told l sound stands) (c.cached_len-cached.ensures told l sound stands)
    (c.adds_of_locked-held.ensures told l sound stands)
    (c.adds_of_pinned-less.ensures told l sound stands) (search rules) refl refl refl refl
