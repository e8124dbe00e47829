-- What is shown of the frames: a free list, and for each frame its bytes, how many entries name it
-- and how many of locked pages do, its home, the slot at which it is cached, whether it is dirty.
use Rattle.std.specs.Prelude.{◌≡◌, ℕ, ◌-◌, ◌^◌, ◌<◌, Bool, false}
use Rattle.std.specs.Prelude.{if◌then◌else◌, List, [], ◌∷◌, length, slice_index, slice_index_or}
use Rattle.std.specs.Prelude.{Option, None, Some, filter}
use Rattle.av_base.specs.declared.slot.Slot.{Slot}
use Rattle.av_base.specs.Words.{is_in, with_at, within, without}
use Rattle.std.specs.List.{range_with_len}
use Rattle.av_frames.specs.Free.{FreeFrames}
use Rattle.av_frames.specs.Locks.{LocksAndSlots}

-- the value of `Frames`: a value has to be data, so each is a list by frame
pub record Store : Type 0 where
  pub free : List ℕ
  pub bytes : List (List ℕ)
  pub maps : List ℕ
  pub locks : List ℕ
  pub homes : List (Option (ℕ × ℕ))
  pub dirty : List Bool
  pub slots : List (Option Slot)

-- the same as functions of the frame's number; of bytes, also of the place in the page
pub record Shown : Type 0 where
  pub count : ℕ
  pub free : List ℕ
  pub bytes : ℕ → ℕ → ℕ
  pub maps : ℕ → ℕ
  -- how many entries of locked pages name each
  pub locks : ℕ → ℕ
  pub home : ℕ → Option (ℕ × ℕ)
  pub dirty : ℕ → Bool
  pub slot : ℕ → Option Slot

-- what the lists of a store say of each frame
abbrev pub shown : Store → Shown
shown s = record {
  count = length s.bytes;
  free = s.free;
  bytes = λ f i. slice_index (slice_index_or s.bytes f []) i;
  maps = λ f. slice_index s.maps f;
  locks = λ f. slice_index s.locks f;
  home = λ f. slice_index_or s.homes f None;
  dirty = λ f. slice_index_or s.dirty f false;
  slot = λ f. slice_index_or s.slots f None;
}

-- the first of a list
abbrev pub first_of : {X : Type 0} → List X → Option X
first_of [] = None
first_of (x ∷ xs) = Some x

-- n frames that are all free, full of zeros, and named by nothing
abbrev pub fresh : ℕ → Shown
fresh n = record {
  count = n;
  free = range_with_len 0 n;
  bytes = λ f i. 0;
  maps = λ f. 0;
  locks = λ f. 0;
  home = λ f. None;
  dirty = λ f. false;
  slot = λ f. None;
}

-- bytes with a piece laid over them
abbrev pub overlaid : ℕ → List ℕ → (ℕ → ℕ) → ℕ → ℕ
overlaid at piece bytes i =
    if within at (length piece) i then slice_index piece (i - at) else bytes i

-- what is shown, with one field of one frame changed
abbrev pub with_bytes : ℕ → (ℕ → ℕ) → Shown → Shown
with_bytes f bytes s = record s { bytes = with_at f bytes s.bytes }

abbrev pub with_maps : ℕ → ℕ → Shown → Shown
with_maps f maps s = record s { maps = with_at f maps s.maps }

abbrev pub with_locks : ℕ → ℕ → Shown → Shown
with_locks f locks s = record s { locks = with_at f locks s.locks }

abbrev pub with_home : ℕ → Option (ℕ × ℕ) → Shown → Shown
with_home f home s = record s { home = with_at f home s.home }

abbrev pub with_dirty : ℕ → Bool → Shown → Shown
with_dirty f dirty s = record s { dirty = with_at f dirty s.dirty }

abbrev pub with_slot : ℕ → Option Slot → Shown → Shown
with_slot f slot s = record s { slot = with_at f slot s.slot }

-- what is kept of a frame goes to a free one. The frame is free instead, in front of the others; no
-- entry names it and no slot is cached at it
abbrev pub relocated : ℕ → ℕ → Shown → Shown
relocated from to s = record s {
  free = from ∷ without to s.free;
  bytes = with_at to (s.bytes from) s.bytes;
  maps = with_at from 0 (with_at to (s.maps from) s.maps);
  locks = with_at from 0 (with_at to (s.locks from) s.locks);
  home = with_at to (s.home from) s.home;
  dirty = with_at to (s.dirty from) s.dirty;
  slot = with_at from None (with_at to (s.slot from) s.slot);
}

-- the free frames, rising
abbrev pub free_in_order : Shown → List ℕ
free_in_order s = filter (λ f. is_in f s.free) (range_with_len 0 s.count)

-- the lists of `Frames` fit together: one item for each frame
pub record IsWhole (frees : FreeFrames) (pages : List (List ℕ)) (counts : List ℕ)
    (owners : List (Option (ℕ × ℕ))) (marks : List Bool) (others : LocksAndSlots) : Type 0 where
  pub few : length pages < 2 ^ 32
  pub free : frees.count ≡ length pages
  pub maps : length counts ≡ length pages
  pub homes : length owners ≡ length pages
  pub dirty : length marks ≡ length pages
  pub locks : length others.locks ≡ length pages
  pub slots : length others.slots ≡ length pages
