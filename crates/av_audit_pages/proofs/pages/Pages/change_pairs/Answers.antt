use Rattle.std.proofs.Common.{map, subst, sym, List}
use Rattle.std.specs.Map.{values_of}
use Rattle.av_audit_pages.specs.Entries.{cached_of}
use Rattle.av_audit_pages.specs.Index.{CountsPairs}
use Rattle.av_audit_pages.specs.declared.entries.Cached.{Cached}
use Rattle.av_audit_pages.proofs.PairLaws.{stale-counts}
use Rattle.av_audit_pages.proofs.pages.Pages.change_pairs.Goals as goal

pub invariant_of-self : goal.invariant_of-self
invariant_of-self c = record {
  rising = c.self.invariant.rising;
  tells = c.self.invariant.tells;
  pairs = subst (λ (cs : List Cached). CountsPairs c.self.inside.index (map cached_of cs)) (sym c.set_stale.ensures)
      (stale-counts _ (values_of c.self.inside.cache) c.in-Stale.slot c.in-Stale.stale c.self.invariant.pairs);
}
