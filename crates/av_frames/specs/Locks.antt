-- How many entries of locked pages name each frame, beside the slot at which it is cached.
use Rattle.std.specs.Prelude.{◌≡◌, ℕ, ◌^◌, ◌<◌, ◌&&◌, Bool, List, length, slice_index}
use Rattle.std.specs.Prelude.{slice_index_or, Option, None, is_some, nat_lt}
use Rattle.std.specs.List.{range_with_len}
use Rattle.av_base.specs.declared.slot.Slot.{Slot}
use Rattle.av_base.specs.Words.{how_many}

-- both by frame
pub record LocksAndSlots : Type 0 where
  pub locks : List ℕ
  pub slots : List (Option Slot)

-- whether an entry of a locked page names the frame
abbrev pub is_locked : LocksAndSlots → ℕ → Bool
is_locked a f = nat_lt 0 (slice_index a.locks f)

-- whether it is one of these that are in the swap cache
abbrev pub is_locked_cached : LocksAndSlots → ℕ → Bool
is_locked_cached a f = is_locked a f && is_some (slice_index_or a.slots f None)

-- how many frames pass a test
abbrev pub count_frames : (ℕ → Bool) → LocksAndSlots → ℕ
count_frames test a = how_many test (range_with_len 0 (length a.locks))

-- both lists have all frames, and of these so many are locked, and so many of the locked cached
pub record IsCounted (a : LocksAndSlots) (m n : ℕ) : Type 0 where
  pub few : length a.locks < 2 ^ 32
  pub slots : length a.slots ≡ length a.locks
  pub locked : m ≡ count_frames (is_locked a) a
  pub cached : n ≡ count_frames (is_locked_cached a) a
