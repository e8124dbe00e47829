-- Numbers in digits of base 10 or 16, below 2 ^ 64 and without a leading zero.
use Rattle.std.specs.Prelude.{ℕ, ◌≤◌, ◌<◌, ◌+◌, ◌-◌, ◌*◌, ◌^◌, nat_le, nat_lt, Bool, false, not}
use Rattle.std.specs.Prelude.{◌==◌, ◌&&◌, ◌||◌, if◌then◌else◌, List, [], ◌∷◌, Some, None}
use Rattle.av_text.specs.Word.{◌>>=◌, Reader, after, both}

-- a number from low to high
pub record IsNumberIn (low high n : ℕ) : Type 0 where
  pub least : low ≤ n
  pub most : n ≤ high

-- a process number
abbrev pub IsProcess : ℕ → Type 0
IsProcess p = IsNumberIn 1 32767 p

-- a number of 64 bits
abbrev pub IsWide : ℕ → Type 0
IsWide n = n < 2 ^ 64

-- ---- reading

-- what a digit is worth, 0 to 9 or a to f; 255 where the byte is no digit
unfoldable pub worth : ℕ → ℕ
worth c =
    if nat_le 48 c && nat_le c 57 then c - 48
    else (if nat_le 97 c && nat_le c 102 then c - 87 else 255)

-- a digit of this base
abbrev pub is_digit : ℕ → ℕ → Bool
is_digit base c = nat_lt (worth c) base

-- there is a first digit, and it is no zero before another one
unfoldable pub starts_number : ℕ → List ℕ → Bool
starts_number base [] = false
starts_number base (c ∷ []) = is_digit base c
starts_number base (c ∷ d ∷ bytes) = is_digit base c && (not (c == 48) || not (is_digit base d))

-- the number whose first digits are n, and what follows its digits
unfoldable pub digits_from : ℕ → ℕ → Reader ℕ
digits_from base n [] = Some (n, [])
digits_from base n (c ∷ bytes) =
    if is_digit base c
    then (if nat_lt (n * base + worth c) (2 ^ 64) then digits_from base (n * base + worth c) bytes
    else None)
    else Some (n, c ∷ bytes)

-- the number in front of bytes
unfoldable pub number_from : ℕ → Reader ℕ
number_from base bytes = if starts_number base bytes then digits_from base 0 bytes else None

-- a number after a space
unfoldable pub number_at : ℕ → Reader ℕ
number_at base bytes = after (32 ∷ []) bytes >>= λ word. number_from base word

-- a number from low to high, after a space
unfoldable pub decimal_at : ℕ → ℕ → Reader ℕ
decimal_at low high bytes = do
  n ← number_at 10 bytes
  if nat_le low n.0 && nat_le n.0 high then Some n else None

-- a process number
abbrev pub process_at : Reader ℕ
process_at bytes = decimal_at 1 32767 bytes

-- a length
abbrev pub len_at : Reader ℕ
len_at bytes = decimal_at 0 (2 ^ 64 - 1) bytes

-- an address
abbrev pub address_at : Reader ℕ
address_at bytes = number_at 16 bytes

-- a process number, and an address
abbrev pub entry_at : Reader (ℕ × ℕ)
entry_at bytes = both process_at address_at bytes
