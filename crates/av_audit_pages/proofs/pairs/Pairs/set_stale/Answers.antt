use Rattle.std.proofs.Common.{◌≡◌, ◌+◌, ℕ, List, Some, true, map, ap, arith, refl, subst, sym, ◌∙◌}
use Rattle.std.specs.BTreeMap.{is_at}
use Rattle.std.specs.Map.{keys_of, values_of}
use Rattle.std.specs.Ordering.{nat_cmp}
use Rattle.std.specs.Prelude.{option_map}
use Rattle.std.proofs.lemmas.Map.{keys-set_value}
use Rattle.av_plain.specs.Ledger.{same_slot}
use Rattle.av_audit_queue.specs.Line.{member_at}
use Rattle.av_audit_pages.specs.Entries.{changed_pair}
use Rattle.av_audit_pages.specs.declared.changes.PairChange.TheVariants.{Stale}
use Rattle.av_audit_pages.specs.declared.entries.Cached.{Cached}
use Rattle.av_audit_pages.proofs.PlacedLaws.{HoldsBefore, at-some, fewer-left, holds-next, met-there, others-stay, stale-once, stay-set}
use Rattle.av_audit_pages.proofs.RankLaws.{all-stay, one-alike}
use Rattle.av_audit_pages.proofs.pairs.Pairs.set_stale.Goals as goal

pub loop-first-init : goal.loop-first-init
loop-first-init c =
    let s = c.args.slot in
    let es = c.args.self.now in
    let change = changed_pair (Stale s c.args.stale) in
    record {
      rising = c.first_of-first.ensures.rising;
      there = met-there (λ t. same_slot s t.slot) es 0 _ c.first_of-first.ensures.first;
      before = holds-next (λ t. same_slot s t.slot) es 0 (λ r. option_map change (member_at es r) ≡ member_at es r) _ c.first_of-first.ensures.first
          (λ r h. absurd (omega (arith, h))) (others-stay s c.args.stale es);
      alike = refl;
    }

pub loop-first-preserved : goal.loop-first-preserved
loop-first-preserved c =
    let s = c.args.slot in
    let es = c.loop-first.self in
    let fs = c.set_stale_at.new.self in
    let rank = c.in-Some.rank in
    let change = changed_pair (Stale s c.args.stale) in
    let met = at-some (λ (e : ℕ × Cached). (member_at es e.0 ≡ Some e.1) × (same_slot s e.1.slot ≡ true)) _ _ c.in-Some.is c.loop-first.invariant.there in
    record {
      rising = c.next_of-first.ensures.rising;
      there = met-there (λ t. same_slot s t.slot) fs (rank + 1) _ c.next_of-first.ensures.next;
      before = holds-next (λ t. same_slot s t.slot) fs (rank + 1) (λ r. option_map change (member_at fs r) ≡ member_at fs r) _ c.next_of-first.ensures.next
          (stay-set s c.args.stale es fs rank c.in-Some.pair c.set_stale_at.ensures met.0
          (subst (HoldsBefore (λ r. option_map change (member_at es r) ≡ member_at es r)) c.in-Some.is c.loop-first.invariant.before))
          (others-stay s c.args.stale fs);
      alike = ap (λ (gs : List (ℕ × Cached)). map change (values_of gs)) c.set_stale_at.ensures
          ∙ one-alike change es rank c.in-Some.pair (record c.in-Some.pair { stale = c.args.stale }) met.0
          (stale-once s c.args.stale c.in-Some.pair met.1)
          ∙ c.loop-first.invariant.alike;
    }

pub loop-first-smaller : goal.loop-first-smaller
loop-first-smaller c =
    let s = c.args.slot in
    let es = c.loop-first.self in
    let met = at-some (λ (e : ℕ × Cached). (member_at es e.0 ≡ Some e.1) × (same_slot s e.1.slot ≡ true)) _ _ c.in-Some.is c.loop-first.invariant.there in
    fewer-left (λ t. same_slot s t.slot) es c.set_stale_at.new.self c.in-Some.rank c.in-Some.pair _ _ c.in-Some.is met.0
    (ap (keys_of {X = Cached}) c.set_stale_at.ensures ∙ keys-set_value (is_at (nat_cmp c.in-Some.rank)) es _) c.next_of-first.ensures.next

pub returns : goal.returns
returns c =
    let es = c.loop-first.self in
    let change = changed_pair (Stale c.args.slot c.args.stale) in
    sym (all-stay change es c.loop-first.invariant.rising
    (subst (HoldsBefore (λ r. option_map change (member_at es r) ≡ member_at es r)) c.in_default.is c.loop-first.invariant.before))
    ∙ c.loop-first.invariant.alike
