-- The command line's words.
use Rattle.std.specs.Prelude.{◌≡◌, ℕ, ◌≤◌, ◌^◌, ◌-◌, ◌==◌, Bool, false, true, not, List, [], ◌∷◌}
use Rattle.std.specs.Prelude.{◌++◌, codes, length}
use Rattle.std.specs.List.{list_all}
use Rattle.std.specs.Fmt.{decimal}
use Rattle.av_base.specs.Limits.{most_frames}
use Rattle.av_text.specs.Number.{IsNumberIn}
use Rattle.av_words.specs.declared.words.Asked.{Asked}
use Rattle.av_words.specs.declared.words.Asked.TheVariants as asked

-- so many swap areas may be named
abbrev pub most_names : ℕ
most_names = 8

-- so many lines may be asked for
abbrev pub most_load : ℕ
most_load = 1000000

-- a name is not empty and doesn't begin with a minus sign
abbrev pub is_name : List ℕ → Bool
is_name [] = false
is_name (b ∷ word) = not (b == 45)

-- `run` and how many frames there are; `work`, a seed, how many lines, and how many frames; or
-- `audit` and how many frames
abbrev pub words_of : Asked → List (List ℕ)
words_of (asked.Run frames) = codes "run" ∷ decimal frames ∷ []
words_of (asked.Work seed lines frames) =
    codes "work" ∷ decimal seed ∷ decimal lines ∷ decimal frames ∷ []
words_of (asked.Audit frames) = codes "audit" ∷ decimal frames ∷ []

-- the numbers are in range
abbrev pub IsInRange : Asked → Type 0
IsInRange (asked.Run frames) = IsNumberIn 1 most_frames frames
IsInRange (asked.Work seed lines frames) =
    IsNumberIn 0 (2 ^ 64 - 1) seed × IsNumberIn 1 most_load lines
    × IsNumberIn 1 most_frames frames
IsInRange (asked.Audit frames) = IsNumberIn 1 most_frames frames

-- the names of swap areas: not too many, and each may be one
pub record AreNames (names : List (List ℕ)) : Type 0 where
  pub few : length names ≤ most_names
  pub named : list_all is_name names ≡ true

-- the words ask for this, and then name swap areas
pub record IsForm (words : List (List ℕ)) (asked : Asked) (names : List (List ℕ)) : Type 0 where
  pub words_are : words ≡ words_of asked ++ names
  pub within : IsInRange asked
  pub are_names : AreNames names

-- the words are of no form
abbrev pub HasNoForm : List (List ℕ) → Type 0
HasNoForm words = (asked : Asked) (names : List (List ℕ)) → IsForm words asked names → ⊥
