use Rattle.std.proofs.Common.{◌+◌, arith, vec_len}
use Rattle.av_audit_world.proofs.BytesLaws.{shown-more}
use Rattle.av_audit_world.proofs.bytes.show.Goals as goal

pub returns : goal.returns
returns c =
    let old = c.args.shown.now in
    let mid = c.extend_from_slice.new.self in
    let from = c.min.ensures in
    let to = c.min-2.ensures in
    shown-more old.items mid.items c.resize.new.self.items c.args.kept.now c.args.at c.args.len
    c.min.result c.min-2.result (c.len.result + c.args.len) (vec_len mid) from to
    c.in_ok-extend_from_slice.ensures.items c.in_ok-resize.ensures.items
    (let o = mid.ok.0 in omega (arith, o))
    (let o = old.ok.0 in let l = c.len.ensures in omega (arith, o, l))
