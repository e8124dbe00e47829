use Rattle.std.proofs.Common.{◌≡◌, ℕ, ◌-◌, ◌^◌, ◌<◌, ◌≤◌, Bool}
use Rattle.std.specs.List.{AllByRecursion}
use Rattle.av_audit.specs.Access.{turns_of}
use Rattle.av_audit.proofs.accessing.turns.Given as goal

abbrev pub invariant-loop-page : goal.invariant-loop-page
invariant-loop-page l = record {
  low : l.from ≤ l.page;
  high : l.page ≤ l.page-end;
  end : l.page-end ≤ 2 ^ 52;
  pages : l.made.items ≡ turns_of l.write l.from (l.page - l.from);
  below : AllByRecursion (λ (x : Bool × ℕ). x.1 < 2 ^ 52) l.made.items;
}
