use Rattle.std.proofs.Common.{◌≡◌, ◌+◌, ◌&&◌, ℕ, Some, true, false, arith, refl, subst, sym}
use Rattle.av_plain.specs.Ledger.{same_slot}
use Rattle.av_audit_queue.specs.Line.{member_at}
use Rattle.av_audit_queue.proofs.QueueLaws.{none-passes}
use Rattle.av_audit_pages.specs.Pairs.{passes_at}
use Rattle.av_audit_pages.specs.declared.entries.Cached.{Cached}
use Rattle.av_audit_pages.proofs.PlacedLaws.{HoldsBefore, at-some, fewer-left, fresh-at, holds-next, met-there, others-fresh, stale-found}
use Rattle.av_audit_pages.proofs.pairs.Pairs.is_stale.Goals as goal

pub loop-first-init : goal.loop-first-init
loop-first-init c =
    let s = c.args.slot in
    let es = c.args.self.now in
    record {
      there = met-there (λ t. same_slot s t.slot) es 0 _ c.first_of-first.ensures.first;
      before = holds-next (λ t. same_slot s t.slot) es 0 (λ r. passes_at (λ t. same_slot s t.slot && t.stale) es r ≡ false) _ c.first_of-first.ensures.first
          (λ r h. absurd (omega (arith, h))) (others-fresh s es);
    }

pub loop-first-preserved : goal.loop-first-preserved
loop-first-preserved c =
    let s = c.args.slot in
    let es = c.args.self.now in
    let rank = c.in-Some.rank in
    let met = at-some (λ (e : ℕ × Cached). (member_at es e.0 ≡ Some e.1) × (same_slot s e.1.slot ≡ true)) _ _ c.in-Some.is c.loop-first.invariant.there in
    record {
      there = met-there (λ t. same_slot s t.slot) es (rank + 1) _ c.next_of-first.ensures.next;
      before = holds-next (λ t. same_slot s t.slot) es (rank + 1) (λ r. passes_at (λ t. same_slot s t.slot && t.stale) es r ≡ false) _
          c.next_of-first.ensures.next
          (fresh-at s es rank c.in-Some.pair met.0 c.if-pair.false
          (subst (HoldsBefore (λ r. passes_at (λ t. same_slot s t.slot && t.stale) es r ≡ false)) c.in-Some.is c.loop-first.invariant.before))
          (others-fresh s es);
    }

pub loop-first-smaller : goal.loop-first-smaller
loop-first-smaller c =
    let s = c.args.slot in
    let es = c.args.self.now in
    let met = at-some (λ (e : ℕ × Cached). (member_at es e.0 ≡ Some e.1) × (same_slot s e.1.slot ≡ true)) _ _ c.in-Some.is c.loop-first.invariant.there in
    fewer-left (λ t. same_slot s t.slot) es es c.in-Some.rank c.in-Some.pair _ _ c.in-Some.is met.0 refl c.next_of-first.ensures.next

pub returns : goal.returns
returns c =
    let s = c.args.slot in
    let es = c.args.self.now in
    sym (none-passes (λ t. same_slot s t.slot && t.stale) es c.first_of-first.ensures.rising
    (subst (HoldsBefore (λ r. passes_at (λ t. same_slot s t.slot && t.stale) es r ≡ false)) c.in_default.is c.loop-first.invariant.before))

pub returns-then-pair : goal.returns-then-pair
returns-then-pair c =
    let s = c.args.slot in
    let es = c.args.self.now in
    let met = at-some (λ (e : ℕ × Cached). (member_at es e.0 ≡ Some e.1) × (same_slot s e.1.slot ≡ true)) _ _ c.in-Some.is c.loop-first.invariant.there in
    sym (stale-found s es c.in-Some.rank c.in-Some.pair met.0 met.1 c.if-pair.true)
