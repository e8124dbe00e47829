use Rattle.std.proofs.Common.{◌≡◌, ◌<◌, ℕ, List, map, ap, subst, sym, ◌∙◌}
use Rattle.std.specs.BTreeMap.{is_at}
use Rattle.std.specs.Map.{set_value, values_of}
use Rattle.std.specs.Ordering.{nat_cmp}
use Rattle.std.specs.Prelude.{◌==◌}
use Rattle.av_base.specs.Words.{how_many}
use Rattle.av_audit_pages.specs.Entries.{cached_of, changed_pair}
use Rattle.av_audit_pages.specs.Index.{CountsPairs}
use Rattle.av_audit_pages.specs.Pages.{Content}
use Rattle.av_audit_pages.specs.Pairs.{IsFirstFrom}
use Rattle.av_audit_pages.specs.declared.changes.PairChange.TheVariants.{Frame}
use Rattle.av_audit_pages.specs.declared.entries.Cached.{Cached}
use Rattle.av_audit_pages.proofs.IndexLaws.{keys-kept, keys-twice}
use Rattle.av_audit_pages.proofs.PairLaws.{pair-put, room}
use Rattle.av_audit_pages.proofs.TurnLaws.{frame-alike, frame-done, frame-fewer}
use Rattle.av_audit_pages.proofs.pages.Pages.rename_first.Goals as goal

pub returns-in_default-clause-last : goal.returns-in_default-clause-last
returns-in_default-clause-last c =
    let first = subst (IsFirstFrom (λ (t : Cached). c.args.from == t.frame) c.self.inside.cache 0) c.in_default.is c.first_at.ensures.first in
    subst (λ (p : Content). map (changed_pair (Frame c.args.from c.args.to)) p.cache ≡ p.cache) c.self.view_is
    (frame-done c.args.from c.args.to c.self.inside.cache c.first_at.ensures.rising first)

pub hold-requires : goal.hold-requires
hold-requires c = room _ c.self.inside.cache c.self.invariant.pairs c.len.ensures.fits

pub invariant_of-self-in-Ok : goal.invariant_of-self-in-Ok
invariant_of-self-in-Ok c =
    let first = subst (IsFirstFrom (λ (t : Cached). c.args.from == t.frame) c.self.inside.cache 0) c.in-Some.is c.first_at.ensures.first in
    record {
      rising = c.self.invariant.rising;
      tells = λ k. keys-kept _ _ k _ (keys-twice _ _ _ c.hold.ensures.keys c.drop_pair.ensures.keys) (c.self.invariant.tells k);
      pairs = subst (λ (es : List (ℕ × Cached)). CountsPairs c.drop_pair.new.self (map cached_of (values_of es))) (sym c.in-Ok.ensures.ok)
          (pair-put _ _ _ c.self.inside.cache c.in-Some.rank c.in-Some.pair (record c.in-Some.pair { frame = c.args.to }) c.self.invariant.pairs first.there
          c.in_ok-hold.ensures.ok c.drop_pair.ensures.pairs);
    }

pub returns-in-Ok-clause-rest : goal.returns-in-Ok-clause-rest
returns-in-Ok-clause-rest c =
    let first = subst (IsFirstFrom (λ (t : Cached). c.args.from == t.frame) c.self.inside.cache 0) c.in-Some.is c.first_at.ensures.first in
    ap (λ (es : List (ℕ × Cached)). map (changed_pair (Frame c.args.from c.args.to)) (values_of es)) c.in-Ok.ensures.ok
    ∙ frame-alike c.args.from c.args.to c.self.inside.cache c.in-Some.rank c.in-Some.pair first
    ∙ ap (λ (p : Content). map (changed_pair (Frame c.args.from c.args.to)) p.cache) c.self.view_is

pub returns-in-Ok-clause-fewer : goal.returns-in-Ok-clause-fewer
returns-in-Ok-clause-fewer c =
    let first = subst (IsFirstFrom (λ (t : Cached). c.args.from == t.frame) c.self.inside.cache 0) c.in-Some.is c.first_at.ensures.first in
    subst (λ (es : List (ℕ × Cached)). how_many (λ (t : Cached). c.args.from == t.frame) (values_of es)
    < how_many (λ (t : Cached). c.args.from == t.frame) c.args.self.now.cache) (sym c.in-Ok.ensures.ok)
    (subst (λ (p : Content). how_many (λ (t : Cached). c.args.from == t.frame)
    (values_of (set_value (is_at (nat_cmp c.in-Some.rank)) c.self.inside.cache (record c.in-Some.pair { frame = c.args.to })))
    < how_many (λ (t : Cached). c.args.from == t.frame) p.cache) c.self.view_is
    (frame-fewer c.args.from c.args.to c.self.inside.cache c.in-Some.rank c.in-Some.pair first c.requires))
