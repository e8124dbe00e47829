-- Addresses and bytes in lower-case hexadecimal digits.
use Rattle.std.specs.Prelude.{ℕ, ◌+◌, ◌*◌, ◌/◌, ◌%◌, ◌<◌, nat_le, nat_lt, Bool, false, ◌&&◌}
use Rattle.std.specs.Prelude.{if◌then◌else◌, List, [], ◌∷◌, length, Option, Some, None}
use Rattle.std.specs.List.{flat_map, AllByRecursion}
use Rattle.std.specs.Fmt.{digits, digit_glyph}
use Rattle.av_base.specs.Page.{page_size}
use Rattle.av_text.specs.Word.{◌>>=◌, Reader, after}
use Rattle.av_text.specs.Number.{IsNumberIn, worth}

-- a number, without a leading zero
abbrev pub hex : ℕ → List ℕ
hex n = digits 16 false n

-- the two digits of a byte
abbrev pub byte_text : ℕ → List ℕ
byte_text b = digit_glyph false (b / 16) ∷ digit_glyph false (b % 16) ∷ []

-- two digits for each byte
abbrev pub hex_text : List ℕ → List ℕ
hex_text bytes = flat_map byte_text bytes

-- a byte's value
abbrev pub IsByte : ℕ → Type 0
IsByte b = b < 256

-- bytes
abbrev pub AreBytes : List ℕ → Type 0
AreBytes bytes = AllByRecursion IsByte bytes

-- what `write` stores: at least one byte, and at most a page
abbrev pub IsData : List ℕ → Type 0
IsData bytes = IsNumberIn 1 page_size (length bytes) × AreBytes bytes

-- ---- reading

-- two digits
abbrev pub is_pair : ℕ → ℕ → Bool
is_pair high low = nat_lt (worth high) 16 && nat_lt (worth low) 16

-- the byte of two digits
abbrev pub pair : ℕ → ℕ → ℕ
pair high low = 16 * worth high + worth low

-- the bytes that pairs of digits spell
unfoldable pub pairs_of : List ℕ → Option (List ℕ)
pairs_of [] = Some []
pairs_of (h ∷ []) = None
pairs_of (h ∷ l ∷ rest) =
    if is_pair h l then (pairs_of rest >>= λ others. Some (pair h l ∷ others)) else None

-- 1 to 4096 bytes, two digits each
unfoldable pub data_of : List ℕ → Option (List ℕ)
data_of word =
    if nat_le 2 (length word) && nat_le (length word) (2 * page_size) then pairs_of word else None

-- what `write` stores: after a space, the rest of the line
unfoldable pub data_at : Reader (List ℕ)
data_at bytes = do
  word ← after (32 ∷ []) bytes
  found ← data_of word
  Some (found, [])
