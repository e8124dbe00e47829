use Rattle.std.proofs.Common.{◌+◌, ◌-◌, ◌<◌, length, ap, arith}
use Rattle.std.proofs.lemmas.List.{get_or_default}
use Rattle.av_pagetable.specs.declared.pte.Pte.TheVariants.{Empty}
use Rattle.av_pagetable.proofs.Run.{none_missing}
use Rattle.av_pagetable.proofs.dir.side_by_side.Goals as goal

pub returns-then-from-page : goal.returns-then-from-page
returns-then-from-page c =
    let parts = c.args.parts.now in
    let k = c.args.start in
    let n = c.min-most.result - 1 in
    let start = c.requires.within in (
      omega arith,
      record {
        some = omega (arith, start);
        few = omega arith;
        within = omega (arith, start);
        numbers = λ i under.
            let many : k + n < length parts = omega (arith, start, under) in
            none_missing parts c.requires.rising c.args.page k n many c.requires.first
            (λ d. let same = ap (λ part. part.0) (get_or_default parts (k + n) d (0, Empty) many) in omega (arith, same))
            i (omega (arith, under));
      },
    )
