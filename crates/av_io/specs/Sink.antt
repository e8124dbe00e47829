-- What is told of a sink, and what a write and a flush change.
use Rattle.std.specs.Prelude.{◌≡◌, ℕ, ◌<◌, ◌≤◌, List, [], ◌++◌, length, take, Option, None}
use Rattle.std.specs.Prelude.{option_map, Bool, true, false, Result, Ok, Err}
use Rattle.av_io.specs.declared.sink.SinkErr.{SinkErr}
use Rattle.av_io.specs.declared.sink.SinkErr.TheVariants.{Failed, Memory}
use Rattle.av_io.specs.Count.{one_more}

-- what the sink holds, where it is told; what it keeps back; how often a flush handed that on; how
-- often a call failed, and whether the last one did
pub record SinkView : Type 0 where
  pub held : Option (List ℕ)
  pub kept_back : List ℕ
  pub flushes : ℕ
  pub failures : ℕ
  pub last_failed : Bool

-- these bytes were added at the end of what was held
abbrev pub Gained : Option (List ℕ) → Option (List ℕ) → List ℕ → Type 0
Gained before now bytes = now ≡ option_map (λ text. text ++ bytes) before

-- a write added the first n bytes of a piece, at least one where there is one
pub record Takes (old new : SinkView) (n : ℕ) (piece : List ℕ) : Type 0 where
  pub within : n ≤ length piece
  pub some : 0 < length piece → 0 < n
  pub bytes : Gained old.held new.held (take n piece)
  pub flushes : new.flushes ≡ old.flushes
  pub unfailed : new.failures ≡ old.failures
  pub served : new.last_failed ≡ false

-- the call failed, and that was counted
pub record HasFailed (old new : SinkView) : Type 0 where
  pub failures : new.failures ≡ one_more old.failures
  pub told : new.last_failed ≡ true

-- a write added nothing: the sink failed, or memory ran out
pub record TakesNothing (old new : SinkView) (error : SinkErr) : Type 0 where
  pub held : new.held ≡ old.held
  pub flushes : new.flushes ≡ old.flushes
  pub failed : error ≡ Failed → HasFailed old new
  pub memory : error ≡ Memory → (new.failures ≡ old.failures) × (new.last_failed ≡ false)

-- a flush handed on all that was kept back
pub record HandsOn (old new : SinkView) : Type 0 where
  pub held : new.held ≡ old.held
  pub all : new.kept_back ≡ []
  pub flushes : new.flushes ≡ one_more old.flushes
  pub unfailed : new.failures ≡ old.failures
  pub served : new.last_failed ≡ false

-- a flush failed. A sink that tells what it holds doesn't fail so.
pub record KeepsBack (old new : SinkView) : Type 0 where
  pub held : new.held ≡ old.held
  pub untold : old.held ≡ None
  pub flushes : new.flushes ≡ old.flushes
  pub failed : HasFailed old new

-- whether a write failed: want of memory is no failure of the sink
abbrev pub is_failure : Result ℕ SinkErr → Bool
is_failure (Ok n) = false
is_failure (Err Failed) = true
is_failure (Err Memory) = false
