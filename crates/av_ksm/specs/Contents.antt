-- What frames hold, in the order of their bytes.
use Rattle.std.specs.Cmp.Lexicographic.{slice_cmp}
use Rattle.std.specs.List.{range_with_len}
use Rattle.std.specs.Ordering.{nat_cmp}
use Rattle.std.specs.Prelude.{◌≡◌, ◌<◌, ◌≤◌, ℕ, false, IsSome, List, length, map, None, Option}
use Rattle.std.specs.Prelude.{Result, Ok, Err, slice_index, slice_index_or, All, EachIndex}
use Rattle.std.specs.declared.cmp.Ordering.{Ordering}
use Rattle.std.specs.declared.cmp.Ordering.TheVariants.{Less, Equal, Greater}
use Rattle.av_base.specs.Page.{page_size}
use Rattle.av_plain.specs.Merge.{FrameBytes, hold_same}
use Rattle.av_ksm.specs.Known.{Known, first_like}
use Rattle.av_ksm.specs.declared.contents.Contents.{Contents}

-- the bytes of a frame, in order
unfoldable pub bytes_in : FrameBytes → ℕ → List ℕ
bytes_in held f = map (held f) (range_with_len 0 page_size)

-- the order of two frames by their bytes
abbrev pub cmp_frames : FrameBytes → ℕ → ℕ → Ordering
cmp_frames held f g = slice_cmp nat_cmp (bytes_in held f) (bytes_in held g)

-- each frame of a row is below those behind it
abbrev pub AreRising : FrameBytes → List ℕ → Type 0
AreRising held row = (i j : ℕ) → i < j → j < length row
    → cmp_frames held (slice_index row i) (slice_index row j) ≡ Less

-- the place in a row of one that holds the same as f; or else where f would stand
abbrev pub IsPlace : FrameBytes → List ℕ → ℕ → Result ℕ ℕ → Type 0
IsPlace held row f (Ok i) = (i < length row) × (cmp_frames held (slice_index row i) f ≡ Equal)
IsPlace held row f (Err i) = (i ≤ length row)
    × ((k : ℕ) → k < i → cmp_frames held (slice_index row k) f ≡ Less)
    × ((k : ℕ) → i ≤ k → k < length row → cmp_frames held (slice_index row k) f ≡ Greater)

-- what is noted of a frame
abbrev pub noted : Contents → ℕ → Option Known
noted c f = slice_index_or c.like.items f None

-- of n frames, so much is known, the earliest first
pub record AreKept (n : ℕ) (held : FrameBytes) (known : List Known) (c : Contents) : Type 0 where
  pub long : length c.like.items ≡ n
  -- what is noted is so
  pub first : (f : ℕ) → IsSome (noted c f) → noted c f ≡ first_like held known f
  pub below : All (λ x. x.0 < n) known
  -- the row rises, and has frames of which something is noted
  pub row_below : EachIndex c.row.items (λ i. slice_index c.row.items i < n)
  pub rising : AreRising held c.row.items
  pub row_noted : EachIndex c.row.items (λ i. IsSome (noted c (slice_index c.row.items i)))
  -- what holds the same as none of them holds the same as none that is known
  pub whole : (f : ℕ)
      → EachIndex c.row.items (λ i. hold_same held (slice_index c.row.items i) f ≡ false)
      → first_like held known f ≡ None

-- something is
abbrev pub HasKept : ℕ → FrameBytes → Contents → Type 0
HasKept n held c = (known : List Known) × AreKept n held known c
