-- What is told of a source, and what a read changes.
use Rattle.std.specs.Prelude.{◌≡◌, ℕ, ◌<◌, ◌≤◌, ◌==◌, Bool, List, [], ◌++◌, length, take, Option}
use Rattle.std.specs.Prelude.{option_map, IfSome}
use Rattle.av_io.specs.Count.{one_more}

-- what is left, where it is told; whether the source has told its end: of its reads that had room
-- and did not fail, the last gave nothing; how often it was read, and how often that failed
pub record SourceView : Type 0 where
  pub left : Option (List ℕ)
  pub has_told_end : Bool
  pub reads : ℕ
  pub failures : ℕ

-- with these bytes in front, where what follows is told
abbrev pub in_front : List ℕ → Option (List ℕ) → Option (List ℕ)
in_front bytes left = option_map (λ rest. bytes ++ rest) left

-- these bytes were taken from the front of what was left
abbrev pub Took : Option (List ℕ) → Option (List ℕ) → List ℕ → Type 0
Took before now bytes = before ≡ in_front bytes now

-- nothing is left, where that is told
abbrev pub HasEnded : Option (List ℕ) → Type 0
HasEnded left = IfSome left (λ rest. rest ≡ [])

-- a read took n bytes, which stand in front of the buffer. None is the end of the input, where
-- there is room.
pub record Gives (old new : SourceView) (n : ℕ) (into : List ℕ) : Type 0 where
  pub within : n ≤ length into
  pub bytes : Took old.left new.left (take n into)
  pub ended : 0 < length into → n ≡ 0 → HasEnded new.left
  pub told : 0 < length into → new.has_told_end ≡ (n == 0)
  pub no_room : length into ≡ 0 → new.has_told_end ≡ old.has_told_end
  pub reads : new.reads ≡ one_more old.reads
  pub unfailed : new.failures ≡ old.failures

-- a read took nothing, and that was counted
pub record GivesNothing (old new : SourceView) : Type 0 where
  pub left : new.left ≡ old.left
  pub untold : new.has_told_end ≡ old.has_told_end
  pub reads : new.reads ≡ one_more old.reads
  pub failures : new.failures ≡ one_more old.failures
