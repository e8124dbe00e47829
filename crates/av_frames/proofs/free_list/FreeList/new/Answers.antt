use Rattle.std.proofs.Common.{arith}
use Rattle.std.proofs.lemmas.List.{length-replicate}
use Rattle.av_frames.specs.declared.free_list.Place.TheVariants.{Free}
use Rattle.av_frames.proofs.Free.{listed_fresh, whole_fresh}
use Rattle.av_frames.proofs.free_list.FreeList.new.Goals as goal

pub invariant_of-result : goal.invariant_of-result
invariant_of-result c = rw (c.in_ok-all_numbers.ensures.0, c.in_ok-fill.ensures) (whole_fresh c.args.count _ (omega arith) c.in_ok-all_numbers.ensures.2)

pub returns : goal.returns
returns c = rw (c.in_ok-all_numbers.ensures.0, c.in_ok-fill.ensures)
    (λ k. record { count = length-replicate c.args.count Free k; items = listed_fresh c.args.count k })
