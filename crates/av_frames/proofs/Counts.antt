-- How many numbers below n pass a test, after it changes at one of them.
use Rattle.std.proofs.Common.{◌≡◌, ℕ, zero, suc, ◌+◌, ◌^◌, ◌<◌, ◌≤◌, Bool, false, cond, ap, refl, arith}
use Rattle.std.specs.List.{range_with_len}
use Rattle.av_base.specs.Words.{how_many}
use Rattle.av_base.proofs.Counted.{count-most}
use Rattle.av_frames.proofs.Numbers.{length-numbers}

-- tests that agree from a on
agree : (p q : ℕ → Bool) (a n : ℕ) → ((g : ℕ) → a ≤ g → q g ≡ p g) → how_many q (range_with_len a n) ≡ how_many p (range_with_len a n)
agree p q a zero same = refl
agree p q a (suc n) same = both _ _ _ _ (ap (λ b. cond b 1 0) (same a (omega arith))) (agree p q (a + 1) n (λ g le. same g (omega (arith, le))))
  where
    both : (a b c d : ℕ) → a ≡ b → c ≡ d → a + c ≡ b + d
    both a b c d h i = omega (arith, h, i)

-- none passes a test that is false everywhere
pub none : (p : ℕ → Bool) (n a : ℕ) → ((g : ℕ) → p g ≡ false) → 0 ≡ how_many p (range_with_len a n)
none p zero a not = refl
none p (suc n) a not = let rest = none p n (a + 1) not in let first = ap {B = ℕ} (λ b. cond b 1 0) (not a) in omega (arith, rest, first)

changed-from : (p q : ℕ → Bool) (a n i f : ℕ) → f ≡ a + i → i < n → ((g : ℕ) → (g ≡ f → ⊥) → q g ≡ p g)
    → how_many q (range_with_len a n) + cond (p f) 1 0 ≡ how_many p (range_with_len a n) + cond (q f) 1 0
changed-from p q a zero i f e h same = absurd (omega (arith, h))
changed-from p q a (suc n) zero f e h same =
    let here : f ≡ a = omega (arith, e) in
    let rest = agree p q (a + 1) n (λ g le. same g (λ is. omega (arith, le, is, here))) in
    let old = ap {B = ℕ} (λ g. cond (p g) 1 0) here in
    let new = ap {B = ℕ} (λ g. cond (q g) 1 0) here in
    omega (arith, rest, old, new)
changed-from p q a (suc n) (suc i) f e h same =
    let rest = changed-from p q (a + 1) n i f (omega (arith, e)) (omega (arith, h)) same in
    let first = ap {B = ℕ} (λ b. cond b 1 0) (same a (λ is. omega (arith, e, is))) in
    omega (arith, rest, first)

some-from : (p : ℕ → Bool) (a n i f : ℕ) → f ≡ a + i → i < n → cond (p f) 1 0 ≤ how_many p (range_with_len a n)
some-from p a zero i f e h = absurd (omega (arith, h))
some-from p a (suc n) zero f e h =
    let here : f ≡ a = omega (arith, e) in
    let one = ap {B = ℕ} (λ g. cond (p g) 1 0) here in
    omega (arith, one)
some-from p a (suc n) (suc i) f e h =
    let rest = some-from p (a + 1) n i f (omega (arith, e)) (omega (arith, h)) in
    omega (arith, rest)

-- what is known of a count, of which a number was, or wasn't, and is, or isn't
pub record IsRecounted (was is : Bool) (old new : ℕ) : Type 0 where
  pub some : cond was 1 0 ≤ old
  pub few : old + cond is 1 0 < 2 ^ 32 + cond was 1 0
  pub set : new + cond was 1 0 ≡ old + cond is 1 0

pub recounted : (p q : ℕ → Bool) (f n : ℕ) (was is : Bool) (old : ℕ) → f < n → n < 2 ^ 32 → old ≡ how_many p (range_with_len 0 n)
    → was ≡ p f → is ≡ q f → ((g : ℕ) → (g ≡ f → ⊥) → q g ≡ p g) → IsRecounted was is old (how_many q (range_with_len 0 n))
recounted p q f n was is old below few count before after same = record {
  some = let some = some-from p 0 n f f zero_plus below in omega (arith, some, count, at_p);
  few = let most = count-most q (range_with_len 0 n) in let len = length-numbers 0 n in omega (arith, set, most, len, few);
  set = set;
}
  where
    zero_plus : f ≡ 0 + f
    zero_plus = omega arith

    at_p : ◌≡◌ {A = ℕ} (cond was 1 0) (cond (p f) 1 0)
    at_p = ap (λ b. cond b 1 0) before

    at_q : ◌≡◌ {A = ℕ} (cond is 1 0) (cond (q f) 1 0)
    at_q = ap (λ b. cond b 1 0) after

    set : how_many q (range_with_len 0 n) + cond was 1 0 ≡ old + cond is 1 0
    set = let changed = changed-from p q 0 n f f zero_plus below same in omega (arith, changed, count, at_p, at_q)
