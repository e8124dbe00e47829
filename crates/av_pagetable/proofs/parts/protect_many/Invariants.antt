use Rattle.std.proofs.Common.{◌≡◌, ◌≤◌, ◌<◌, ℕ, length, get_or}
use Rattle.av_pagetable.specs.Images.{AreImages}
use Rattle.av_pagetable.specs.Table.{read_only}
use Rattle.av_pagetable.proofs.parts.protect_many.Given as goal

abbrev pub invariant-loop-place : goal.invariant-loop-place
invariant-loop-place g l = record {
  many : length l.parts ≡ length l.initial.parts;
  within : l.place ≤ length l.initial.parts;
  images : AreImages g.C.Level.at read_only l.place l.initial.parts l.parts;
  others : (i : ℕ) (d : ℕ × g.row.C.Denot) → l.place ≤ i → i < length l.initial.parts → get_or l.parts i d ≡ get_or l.initial.parts i d;
}
