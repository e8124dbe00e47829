-- Where a count of failures did not rise, no failure shows in what it counts.
use Rattle.std.specs.List.{AllByRecursion}
use Rattle.std.specs.Prelude.{max, min}
use Rattle.std.proofs.lemmas.List.Sums.{sum_by-cons}
use Rattle.std.proofs.Common.{◌≡◌, ℕ, zero, suc, ◌+◌, ◌-◌, ◌^◌, ◌<◌, ◌≤◌, List, [], ◌∷◌, arith, sym, ◌∙◌, refl}
use Rattle.av_io.specs.Count.{Rose, RoseBy}
use Rattle.av_trace.specs.declared.reply.Reply.{Reply}
use Rattle.av_plain.specs.Pass.{fails}
use Rattle.av_plain.specs.Step.{causes, failed_frames, failure_answers}
use Rattle.av_plain.specs.Transcript.{Exchange, causes_of}
use Rattle.av_laws.specs.Determined.{ShowNoFailures, ShowsNoFailure}

within-none : (n before now : ℕ) → RoseBy n before now → (Rose before now → ⊥) → n ≡ 0
within-none n before now by not = zero-of n (λ some. not (least n before now some by))
  where
    zero-of : (n : ℕ) → (0 < n → ⊥) → n ≡ 0
    zero-of zero h = refl
    zero-of (suc n) h = absurd (h (omega arith))

    least : (n before now : ℕ) → 0 < n → min (before + n) (2 ^ 64 - 1) ≤ now
        → min (before + 1) (2 ^ 64 - 1) ≤ now
    least n before now some h = omega (arith, some, h)

none-each : (es : List Exchange) → causes_of es ≡ 0
    → AllByRecursion (λ (e : Exchange). causes e.reply ≡ 0) es
none-each [] h = tt
none-each (e ∷ es) h =
    let parts = both (causes e.reply) (causes_of es)
    (sym (sum_by-cons (λ (e : Exchange). causes e.reply) e es) ∙ h) in
    (parts.0, none-each es parts.1)
  where
    both : (a b : ℕ) → a + b ≡ 0 → (a ≡ 0) × (b ≡ 0)
    both a b h = (omega (arith, h), omega (arith, h))

pub none-within : (es : List Exchange) (before now : ℕ) → RoseBy (causes_of es) before now
    → (Rose before now → ⊥) → AllByRecursion (λ (e : Exchange). causes e.reply ≡ 0) es
none-within es before now by not = none-each es (within-none (causes_of es) before now by not)

-- a reply without causes is faultless
faultless : (reply : Reply) → causes reply ≡ 0 → ShowsNoFailure reply
faultless reply h = record {
  writes = first (fails reply.notes) (failed_frames reply.answer)
      (failure_answers reply.answer) h;
  answer = last (fails reply.notes) (failed_frames reply.answer)
      (failure_answers reply.answer) h;
}
  where
    first : (a b c : ℕ) → max a b + c ≡ 0 → a ≡ 0
    first a b c h = omega (arith, h)

    last : (a b c : ℕ) → max a b + c ≡ 0 → c ≡ 0
    last a b c h = omega (arith, h)

faultless-each : (es : List Exchange) → AllByRecursion (λ (e : Exchange). causes e.reply ≡ 0) es
    → ShowNoFailures es
faultless-each [] h = tt
faultless-each (e ∷ es) h = (faultless e.reply h.0, faultless-each es h.1)

pub faultless-within : (es : List Exchange) (before now : ℕ) → RoseBy (causes_of es) before now
    → (Rose before now → ⊥) → ShowNoFailures es
faultless-within es before now by not = faultless-each es (none-within es before now by not)
