use Rattle.std.proofs.Common.{◌≡◌, ℕ, ◌<◌, ◌≤◌, length}
use Rattle.std.specs.Prelude.{slice_index}
use Rattle.av_base.specs.Page.{page_size}
use Rattle.av_audit_neighbour.proofs.contents.up_to_last.Given as goal

abbrev pub invariant-loop-n : goal.invariant-loop-n
invariant-loop-n l = record {
  fits : l.n ≤ length l.bytes;
  page : l.n ≤ page_size;
  zeros : (i : ℕ) → l.n ≤ i → i < page_size → slice_index l.bytes i ≡ 0;
}

abbrev pub decreases-loop-n : goal.decreases-loop-n
decreases-loop-n l = l.n
