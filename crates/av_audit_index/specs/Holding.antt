-- What holds one number.
use Rattle.std.specs.Prelude.{◌≡◌, ℕ, ◌+◌, Bool, List, length}
use Rattle.av_base.specs.Keys.{Key}
use Rattle.av_base.specs.Words.{how_many}

-- the keys of the entries that name it, and how many cached pairs have it
pub record Holding : Type 0 where
  pub keys : List (Key × Bool)
  pub pairs : ℕ

-- whether the key is seen
abbrev pub is_seen : Key × Bool → Bool
is_seen e = e.1

-- how often the number is named, or cached
abbrev pub uses_of : Holding → ℕ
uses_of h = length h.keys + h.pairs

-- so many of the keys are seen
pub record IsCounted (keys : List (Key × Bool)) (seen : ℕ) : Type 0 where
  pub count : seen ≡ how_many is_seen keys
