-- Flags as bits: to set one that isn't set adds it, and to test one is to ask for its binary digit.
use Rattle.std.proofs.Common.{◌≡◌, ℕ, zero, suc, ◌+◌, ◌*◌, ◌/◌, ◌%◌, ◌<◌, ◌==◌, ltb, not, Bool, true, false, cond, bit_and, bit_or, refl, ap, ◌∙◌, arith}
use Rattle.std.proofs.lemmas.Nat.{or_disjoint, and_le_r}
use Rattle.std.proofs.lemmas.Nat.Bits.{and_pow}
use Rattle.av_swapmap.specs.Digits.{with_more, byte_of, cached_of}

pub flag_test : (byte : ℕ) → not (bit_and byte 64 == 0) ≡ cached_of byte
flag_test byte = ap (λ x. not (x == 0)) (and_pow byte 6) ∙ digit (byte / 64 % 2) (omega arith)
  where
    digit : (x : ℕ) → x < 2 → not (x * 64 == 0) ≡ (x == 1)
    digit zero h = refl
    digit (suc zero) h = refl
    digit (suc (suc x)) h = absurd (omega (arith, h))

-- a byte without the flag of the swap cache
bare : (n : ℕ) (b : Bool) → n < 63 → (n + cond b 0 128) / 64 % 2 * 64 ≡ 0
bare n true h = omega arith
bare n false h = omega arith

under : (n : ℕ) → n % 63 < 63
under n = omega arith

pub flag_set : (count : ℕ) (cached : Bool) → bit_or (with_more 63 count) (cond cached 64 0) ≡ byte_of count cached
flag_set count true = or_disjoint (with_more 63 count) 64 (and_pow (with_more 63 count) 6 ∙ bare (count % 63) (ltb count 63) (under count))
flag_set count false = or_disjoint (with_more 63 count) 0 (none (with_more 63 count))
  where
    none : (a : ℕ) → bit_and a 0 ≡ 0
    none a = let low = and_le_r a 0 in omega (arith, low)
