use Rattle.std.proofs.Common.{◌≡◌, ◌<◌, ℕ, List, filter, length, map, not, ap, subst, sym, ◌∙◌}
use Rattle.std.specs.BTreeMap.{is_at}
use Rattle.std.specs.Map.{remove_entry, values_of}
use Rattle.std.specs.Ordering.{nat_cmp}
use Rattle.av_plain.specs.Ledger.{same_slot}
use Rattle.av_audit_pages.specs.Entries.{cached_of}
use Rattle.av_audit_pages.specs.Index.{CountsPairs}
use Rattle.av_audit_pages.specs.Pages.{Content}
use Rattle.av_audit_pages.specs.Pairs.{IsFirstFrom}
use Rattle.av_audit_pages.specs.declared.entries.Cached.{Cached}
use Rattle.av_audit_pages.proofs.IndexLaws.{keys-kept}
use Rattle.av_audit_pages.proofs.PairLaws.{pair-gone}
use Rattle.av_audit_pages.proofs.TurnLaws.{slot-fewer, slot-goes, slot-gone}
use Rattle.av_audit_pages.proofs.pages.Pages.drop_first.Goals as goal

pub returns-in_default-clause-last : goal.returns-in_default-clause-last
returns-in_default-clause-last c =
    let first = subst (IsFirstFrom (λ (t : Cached). same_slot c.args.slot t.slot) c.self.inside.cache 0) c.in_default.is c.first_of.ensures.first in
    subst (λ (p : Content). filter (λ (t : Cached). not (same_slot c.args.slot t.slot)) p.cache ≡ p.cache) c.self.view_is
    (slot-gone c.args.slot c.self.inside.cache c.first_of.ensures.rising first)

pub invariant_of-self : goal.invariant_of-self
invariant_of-self c =
    let first = subst (IsFirstFrom (λ (t : Cached). same_slot c.args.slot t.slot) c.self.inside.cache 0) c.in-Some.is c.first_of.ensures.first in
    record {
      rising = c.self.invariant.rising;
      tells = λ k. keys-kept _ _ k _ c.drop_pair.ensures.keys (c.self.invariant.tells k);
      pairs = subst (λ (es : List (ℕ × Cached)). CountsPairs c.drop_pair.new.self (map cached_of (values_of es))) (sym c.take.ensures)
          (pair-gone _ _ c.self.inside.cache c.in-Some.rank c.in-Some.pair c.self.invariant.pairs first.there c.drop_pair.ensures.pairs);
    }

pub returns-clause-others : goal.returns-clause-others
returns-clause-others c =
    let first = subst (IsFirstFrom (λ (t : Cached). same_slot c.args.slot t.slot) c.self.inside.cache 0) c.in-Some.is c.first_of.ensures.first in
    ap (λ (es : List (ℕ × Cached)). filter (λ (t : Cached). not (same_slot c.args.slot t.slot)) (values_of es)) c.take.ensures
    ∙ slot-goes c.args.slot c.self.inside.cache c.in-Some.rank c.in-Some.pair first
    ∙ ap (λ (p : Content). filter (λ (t : Cached). not (same_slot c.args.slot t.slot)) p.cache) c.self.view_is

pub returns-clause-fewer : goal.returns-clause-fewer
returns-clause-fewer c =
    let first = subst (IsFirstFrom (λ (t : Cached). same_slot c.args.slot t.slot) c.self.inside.cache 0) c.in-Some.is c.first_of.ensures.first in
    subst (λ (es : List (ℕ × Cached)). length (values_of es) < length c.args.self.now.cache) (sym c.take.ensures)
    (subst (λ (p : Content). length (values_of (remove_entry (is_at (nat_cmp c.in-Some.rank)) c.self.inside.cache)) < length p.cache) c.self.view_is
    (slot-fewer c.args.slot c.self.inside.cache c.in-Some.rank c.in-Some.pair first))
