use Rattle.std.proofs.Common.{◌≡◌, ◌++◌, ◌+◌, ◌-◌, ◌<◌, map, length}
use Rattle.std.specs.Prelude.{◌^◌}
use Rattle.std.specs.List.{AllByRecursion}
use Rattle.av_audit_events.proofs.remap.at_pages.Given as goal

abbrev pub invariant-loop-rest : goal.invariant-loop-rest
invariant-loop-rest l = record {
  fits : AllByRecursion (λ e. e.0.1 - l.from + l.to < 2 ^ 64) l.rest;
  left : l.made.items ++ map (λ e. ((e.0.0, e.0.1 - l.from + l.to), e.1)) l.rest
      ≡ map (λ e. ((e.0.0, e.0.1 - l.from + l.to), e.1)) l.entries;
}

abbrev pub decreases-loop-rest : goal.decreases-loop-rest
decreases-loop-rest l = length l.rest
