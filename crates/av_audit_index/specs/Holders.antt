-- What holds each number.
use Rattle.std.specs.Prelude.{ℕ, ◌-◌, ◌<◌, ◌≡◌, Bool, nat_lt, List, [], filter, Option, Some}
use Rattle.std.specs.BTreeMap.{is_at}
use Rattle.std.specs.List.{range_with_len}
use Rattle.std.specs.List.Sorted.{IsStrictlySortedBy}
use Rattle.std.specs.Map.{keys_of, lookup}
use Rattle.std.specs.Option.{option_map_or}
use Rattle.std.specs.Ordering.{nat_cmp}
use Rattle.av_base.specs.Keys.{Key, key_cmp}
use Rattle.av_audit_index.specs.Holding.{Holding, uses_of}

-- what holds a number, if anything does
abbrev pub holding_at : List (ℕ × Holding) → ℕ → Option Holding
holding_at holders n = lookup (is_at (nat_cmp n)) holders

-- the keys of a number, each with whether it is seen
abbrev pub keys_at : List (ℕ × Holding) → ℕ → List (Key × Bool)
keys_at holders n = option_map_or (λ (h : Holding). h.keys) (holding_at holders n) []

-- whether a key of a number is seen, if the number has the key
abbrev pub seen_at : List (ℕ × Holding) → ℕ → Key → Option Bool
seen_at holders n k = lookup (is_at (key_cmp k)) (keys_at holders n)

-- how many cached pairs have a number
abbrev pub pairs_at : List (ℕ × Holding) → ℕ → ℕ
pairs_at holders n = option_map_or (λ (h : Holding). h.pairs) (holding_at holders n) 0

-- how often a number is named, or cached
abbrev pub uses_at : List (ℕ × Holding) → ℕ → ℕ
uses_at holders n = option_map_or uses_of (holding_at holders n) 0

-- the numbers from one on and below another that are used
abbrev pub used_within : List (ℕ × Holding) → ℕ → ℕ → List ℕ
used_within holders from end =
    filter (λ n. nat_lt 0 (uses_at holders n)) (range_with_len from (end - from))

-- the keys of each number rise
abbrev pub KeysRise : List (ℕ × Holding) → Type 0
KeysRise holders = (n : ℕ) → IsStrictlySortedBy key_cmp (keys_of (keys_at holders n))

-- the numbers rise, and the keys of each, and each that is there is used
pub record AreHolders (holders : List (ℕ × Holding)) : Type 0 where
  pub rising : IsStrictlySortedBy nat_cmp (keys_of holders)
  pub keys_rise : KeysRise holders
  pub used : (n : ℕ) (h : Holding) → holding_at holders n ≡ Some h → 0 < uses_of h
