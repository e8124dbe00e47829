use Rattle.std.proofs.Common.{◌+◌, ◌-◌, sym}
use Rattle.av_vma.proofs.Laid.{has_parts}
use Rattle.av_place.proofs.mremap.check_indices.Goals as goal

pub index-requires-clause-first : goal.index-requires-clause-first
index-requires-clause-first c =
    let last = c.args.from + c.args.pages - 1 in
    (has_parts c.in-Some.area last (c.in-Some.ensures.laid.here last c.in-Some.area (sym c.in-Some.ensures.area))).0
