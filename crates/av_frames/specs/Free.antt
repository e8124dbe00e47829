-- The free frames in their order, as a queue in which some that aren't free still have places.
use Rattle.std.specs.Prelude.{◌≡◌, ℕ, ◌+◌, ◌^◌, ◌<◌, ◌≤◌, Bool, true, false, ◌==◌}
use Rattle.std.specs.Prelude.{if◌then◌else◌, List, length, slice_index_or, filter}
use Rattle.av_base.specs.Words.{how_many}
use Rattle.av_frames.specs.declared.free_list.Place.{Place}
use Rattle.av_frames.specs.declared.free_list.Place.TheVariants.{Free, Used, Left}

-- how many frames there are, and the free ones in their order
pub record FreeFrames : Type 0 where
  pub count : ℕ
  pub items : List ℕ

abbrev pub is_free : Place → Bool
is_free Free = true
is_free Used = false
is_free Left = false

-- whether a frame has no place in the queue
abbrev pub is_out : Place → Bool
is_out Free = false
is_out Used = true
is_out Left = false

-- what is kept of a frame
abbrev pub place_of : List Place → ℕ → Place
place_of places f = slice_index_or places f Used

-- those of a queue that are free
abbrev pub listed : List Place → List ℕ → List ℕ
listed places queue = filter (λ f. is_free (place_of places f)) queue

-- queue and places fit together: each frame is out or stands once in the queue, which has room for
-- all, and the places left are counted
pub record IsListed (queue : List ℕ) (queue_room : ℕ) (places : List Place)
    (left : ℕ) : Type 0 where
  pub few : length places < 2 ^ 32
  pub room : length places ≤ queue_room
  pub total : length queue + how_many is_out places ≡ length places
  pub once : (f : ℕ) → how_many (λ g. f == g) queue ≡ (if is_out (place_of places f) then 0 else 1)
  pub counted : length (listed places queue) + left ≡ length queue
