-- A count as digits d0, d1, ..: it is d0 + 63 d1 + 63 * 128 d2 + .., with d0 below 63 and the
-- others below 128.
use Rattle.std.specs.Prelude.{ℕ, ◌+◌, ◌-◌, ◌*◌, ◌/◌, ◌%◌, ◌^◌, Bool, nat_lt, ◌==◌, if◌then◌else◌}
use Rattle.std.specs.Prelude.{List, [], ◌∷◌, Option, Some, None}

-- the last digit of a number to a base, plus 128 where the number has more digits
abbrev pub with_more : ℕ → ℕ → ℕ
with_more base n = n % base + (if nat_lt n base then 0 else 128)

-- the byte of a slot that isn't bad: its first digit, 128 where a further one follows, 64 where
-- the swap cache holds the slot
abbrev pub byte_of : ℕ → Bool → ℕ
byte_of count cached = with_more 63 count + (if cached then 64 else 0)

-- continuation digit i, from 1 on, plus 128 where a further one follows; 0 past the last
abbrev pub digit_of : ℕ → ℕ → ℕ
digit_of count i = with_more 128 (count / 63 / 128 ^ (i - 1))

-- the continuation digits of a count below 2 ^ 32, where it has any
abbrev pub further_of : ℕ → Option (List ℕ)
further_of count = if nat_lt count 63 then None
    else Some (digit_of count 1 ∷ digit_of count 2 ∷ digit_of count 3 ∷ digit_of count 4 ∷ [])

-- the first digit in a byte; a bad slot, whose byte is 63, has none
abbrev pub first_of : ℕ → ℕ
first_of byte = if byte == 63 then 0 else byte % 64

-- whether a byte says that the swap cache holds the slot
abbrev pub cached_of : ℕ → Bool
cached_of byte = byte / 64 % 2 == 1

-- the number that continuation digits stand for, lowest first
abbrev pub value_of : List ℕ → ℕ
value_of [] = 0
value_of (d ∷ ds) = d % 128 + 128 * value_of ds

-- the count that a byte and continuation digits stand for
abbrev pub count_of : ℕ → Option (List ℕ) → ℕ
count_of byte None = first_of byte
count_of byte (Some digits) = first_of byte + 63 * value_of digits
