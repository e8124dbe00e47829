-- The byte and the digits of a count stand for that count.
use Rattle.std.proofs.Common.{◌≡◌, ℕ, ◌+◌, ◌*◌, ◌/◌, ◌%◌, ◌^◌, ◌<◌, ◌==◌, ltb, Bool, true, false, cond, List, [], ◌∷◌, Some, None, refl, ap, ◌∙◌, arith}
use Rattle.std.proofs.lemmas.Bool.Decides.{nat_tests}
use Rattle.av_swapmap.specs.Digits.{with_more, byte_of, digit_of, further_of, first_of, cached_of, value_of, count_of}

-- a flag of 128 is no part of a digit to base 128
plain_digit : (n : ℕ) → with_more 128 n % 128 ≡ n % 128
plain_digit n = elim (ltb n 128) as (λ b. (n % 128 + cond b 0 128) % 128 ≡ n % 128) [ true ↦ omega arith | false ↦ omega arith ]

four_digits : (m : ℕ) → m < 0x10000000 → m / 1 % 128 + 128 * ((m / 128) % 128 + 128 * ((m / 16384) % 128 + 128 * ((m / 2097152) % 128 + 0))) ≡ m
four_digits m h = omega arith

pub value_is : (n : ℕ) → n < 2 ^ 32 → value_of (digit_of n 1 ∷ digit_of n 2 ∷ digit_of n 3 ∷ digit_of n 4 ∷ []) ≡ n / 63
value_is n h =
    rw (plain_digit (n / 63 / 1), plain_digit (n / 63 / 128), plain_digit (n / 63 / 16384), plain_digit (n / 63 / 2097152))
    (four_digits (n / 63) (omega arith))

first_byte : (n : ℕ) (b c : Bool) → n < 63 → (n + cond b 0 128 + cond c 64 0) % 64 ≡ n
first_byte n b c h = elim b as (λ b. (n + cond b 0 128 + cond c 64 0) % 64 ≡ n) [
  | true ↦ elim c as (λ c. (n + 0 + cond c 64 0) % 64 ≡ n) [ true ↦ omega arith | false ↦ omega arith ]
  | false ↦ elim c as (λ c. (n + 128 + cond c 64 0) % 64 ≡ n) [ true ↦ omega arith | false ↦ omega arith ]
]

first_flag : (n : ℕ) (b c : Bool) → n < 63 → cached_of (n + cond b 0 128 + cond c 64 0) ≡ c
first_flag n b c h = elim b as (λ b. cached_of (n + cond b 0 128 + cond c 64 0) ≡ c) [
  | true ↦ elim c as (λ c. cached_of (n + 0 + cond c 64 0) ≡ c) [ true ↦ grind (arith, nat_tests) | false ↦ grind (arith, nat_tests) ]
  | false ↦ elim c as (λ c. cached_of (n + 128 + cond c 64 0) ≡ c) [ true ↦ grind (arith, nat_tests) | false ↦ grind (arith, nat_tests) ]
]

first_good : (n : ℕ) (b c : Bool) → n < 63 → ((n + cond b 0 128 + cond c 64 0) == 63) ≡ false
first_good n b c h = elim b as (λ b. ((n + cond b 0 128 + cond c 64 0) == 63) ≡ false) [
  | true ↦ elim c as (λ c. ((n + 0 + cond c 64 0) == 63) ≡ false) [ true ↦ grind (arith, nat_tests) | false ↦ grind (arith, nat_tests) ]
  | false ↦ elim c as (λ c. ((n + 128 + cond c 64 0) == 63) ≡ false) [ true ↦ grind (arith, nat_tests) | false ↦ grind (arith, nat_tests) ]
]

under : (n : ℕ) → n % 63 < 63
under n = omega arith

-- the byte of a count is not that of a bad slot
pub good_byte : (n : ℕ) (c : Bool) → (byte_of n c == 63) ≡ false
good_byte n c = first_good (n % 63) (ltb n 63) c (under n)

-- it says whether the slot is cached
pub byte_cached : (n : ℕ) (c : Bool) → cached_of (byte_of n c) ≡ c
byte_cached n c = first_flag (n % 63) (ltb n 63) c (under n)

-- and it has the first digit
pub byte_first : (n : ℕ) (c : Bool) → first_of (byte_of n c) ≡ n % 63
byte_first n c = ap (λ b. cond b 0 (byte_of n c % 64)) (good_byte n c) ∙ first_byte (n % 63) (ltb n 63) c (under n)

whole : (n : ℕ) → n % 63 + 63 * (n / 63) ≡ n
whole n = omega arith

small : (n : ℕ) → n < 63 → n % 63 ≡ n
small n h = omega arith

-- byte and continuation digits of a count stand for that count
pub count_is : (n : ℕ) (c : Bool) → n < 2 ^ 32 → count_of (byte_of n c) (further_of n) ≡ n
count_is n c h = split (ltb n 63) refl
  where
    split : (b : Bool) → ltb n 63 ≡ b
        → count_of (byte_of n c) (cond b None (Some (digit_of n 1 ∷ digit_of n 2 ∷ digit_of n 3 ∷ digit_of n 4 ∷ []))) ≡ n
    split true e = let low : n < 63 = grind (arith, nat_tests) in byte_first n c ∙ small n low
    split false e = ap (λ x. x + 63 * value_of (digit_of n 1 ∷ digit_of n 2 ∷ digit_of n 3 ∷ digit_of n 4 ∷ [])) (byte_first n c)
        ∙ ap (λ x. n % 63 + 63 * x) (value_is n h) ∙ whole n

-- the digits' worth, whether or not they are kept
pub worth_is : (n : ℕ) (c : Bool) → n < 2 ^ 32 → byte_of n c % 64 + 63 * value_of (digit_of n 1 ∷ digit_of n 2 ∷ digit_of n 3 ∷ digit_of n 4 ∷ []) ≡ n
worth_is n c h = ap (λ x. x + 63 * value_of (digit_of n 1 ∷ digit_of n 2 ∷ digit_of n 3 ∷ digit_of n 4 ∷ []))
    (first_byte (n % 63) (ltb n 63) c (under n))
    ∙ ap (λ x. n % 63 + 63 * x) (value_is n h) ∙ whole n

pub never_bad : (n : ℕ) (c : Bool) → byte_of n c ≡ 63 → ⊥
never_bad n c h = let good = good_byte n c in grind (arith, nat_tests, good)

-- a count that needs no continuation digits
pub needs_none : (n : ℕ) → None ≡ further_of n → n < 63
needs_none n is = split (ltb n 63) refl
  where
    clash : {xs : List ℕ} → None ≡ Some xs → ⊥
    clash h = cc

    split : (b : Bool) → ltb n 63 ≡ b → n < 63
    split true e = grind (arith, nat_tests)
    split false e = absurd (clash (is ∙ ap (λ t. cond t None (Some (digit_of n 1 ∷ digit_of n 2 ∷ digit_of n 3 ∷ digit_of n 4 ∷ []))) e))
