use Rattle.std.proofs.Common.{◌≡◌, map}
use Rattle.std.specs.Prelude.{◌==◌}
use Rattle.av_base.specs.Words.{how_many}
use Rattle.av_audit_pages.specs.Entries.{changed_pair}
use Rattle.av_audit_pages.specs.declared.changes.PairChange.TheVariants.{Frame}
use Rattle.av_audit_pages.specs.declared.entries.Cached.{Cached}
use Rattle.av_audit_pages.proofs.pages.Pages.rename.Given as goal

abbrev pub invariant-loop : goal.invariant-loop
invariant-loop l = record {
  entries : l.self.entries ≡ l.fn.self.entries;
  alike : map (changed_pair (Frame l.from l.to)) l.self.cache ≡ map (changed_pair (Frame l.from l.to)) l.fn.self.cache;
}

abbrev pub decreases-loop : goal.decreases-loop
decreases-loop l = how_many (λ (c : Cached). l.from == c.frame) l.self.cache
