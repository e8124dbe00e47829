use Rattle.std.proofs.Common.{map, subst, sym, List, ℕ}
use Rattle.std.specs.Map.{values_of}
use Rattle.av_audit_pages.specs.Entries.{cached_of}
use Rattle.av_audit_pages.specs.Index.{CountsPairs}
use Rattle.av_audit_pages.specs.declared.entries.Cached.{Cached}
use Rattle.av_audit_pages.proofs.IndexLaws.{keys-kept, keys-twice}
use Rattle.av_audit_pages.proofs.PairLaws.{pair-more, pair-undone, room}
use Rattle.av_audit_pages.proofs.pages.Pages.into_cache.Goals as goal

pub hold-requires : goal.hold-requires
hold-requires c = room _ c.self.inside.cache c.self.invariant.pairs c.len.ensures.fits

pub invariant_of-self-in-Ok : goal.invariant_of-self-in-Ok
invariant_of-self-in-Ok c = record {
  rising = c.self.invariant.rising;
  tells = λ k. keys-kept _ _ k _ c.hold.ensures.keys (c.self.invariant.tells k);
  pairs = subst (λ (cs : List Cached). CountsPairs c.hold.new.self (map cached_of cs)) (sym c.in-Ok.ensures.ok)
      (pair-more _ _ _ (cached_of c.args.pair) c.self.invariant.pairs c.in_ok-hold.ensures.ok);
}

pub invariant_of-self-in-Err : goal.invariant_of-self-in-Err
invariant_of-self-in-Err c = record {
  rising = c.self.invariant.rising;
  tells = λ k. keys-kept _ _ k _ (keys-twice _ _ _ c.hold.ensures.keys c.drop_pair.ensures.keys) (c.self.invariant.tells k);
  pairs = subst (λ (es : List (ℕ × Cached)). CountsPairs c.drop_pair.new.self (map cached_of (values_of es))) (sym c.in-Err.ensures.err)
      (pair-undone _ _ _ _ (cached_of c.args.pair) c.self.invariant.pairs c.in_ok-hold.ensures.ok c.drop_pair.ensures.pairs);
}
