use Rattle.std.proofs.Common.{◌≡◌, ℕ, ◌-◌, ◌<◌, ◌≤◌, Some}
use Rattle.av_spaces.specs.Spaces.{pages_of}
use Rattle.av_place.specs.Mremap.{prots}
use Rattle.av_place.proofs.mremap.have_prot.Given as goal

abbrev pub invariant-loop-page : goal.invariant-loop-page
invariant-loop-page l = record {
  low : l.from ≤ l.page;
  each : (o : ℕ) → l.from ≤ o → o < l.page → prots (pages_of l.spaces.processes l.process) o ≡ Some l.prot;
}

abbrev pub decreases-loop-page : goal.decreases-loop-page
decreases-loop-page l = l.past - l.page
