-- What the calls of `Swap` do.
use Rattle.std.specs.Prelude.{◌≡◌, ℕ, ℤ, ◌<◌, true, false, List, [], ◌∷◌, length, slice_index}
use Rattle.std.specs.Prelude.{count_by, Option, None, Some, Ok, Err}
use Rattle.av_base.specs.Page.{page_size}
use Rattle.av_base.specs.declared.slot.Slot.{Slot}
use Rattle.av_clusters.specs.Clusters.{Slots, fresh as fresh_slots, is_free, take_slot}
use Rattle.av_frames.specs.Store.{Shown as ShownFrames, with_bytes, with_dirty}
use Rattle.av_frames.specs.Store.{with_slot as with_frame_slot}
use Rattle.av_io.specs.Count.{Rose}
use Rattle.av_swapdev.specs.Device.{History, Holds, IsSpoiled, IsWritten, after_write, most_areas}
use Rattle.av_swapdev.specs.Header.{AddsUp, Layout, header_of, in_numbers}
use Rattle.av_swapcache.specs.declared.swap.Finished.{Finished}
use Rattle.av_swapcache.specs.declared.swap.Finished.TheVariants.{Done, Failed}
use Rattle.av_swapcache.specs.declared.swap.SwapOn.{SwapOn}
use Rattle.av_swapcache.specs.declared.swap.SwapOn.TheVariants.{On, Busy, Io, Bad}
use Rattle.av_swapcache.specs.Swap.{GivesFirst, Shown, after_on, after_put, count_of, is_on}
use Rattle.av_swapcache.specs.Swap.{with_find}

-- what an area that is turned on becomes
abbrev pub Answers : Option (ℕ → ℕ → List ℕ) → ℕ → ℕ → ℤ → SwapOn → Shown → Shown → Type 0
Answers told k pages priority (On header) old new =
    (is_on old k ≡ false) × (page : List ℕ) × Holds told k 0 page × (layout : Layout)
    × (header_of page pages ≡ Ok layout) × (header ≡ in_numbers layout) × AddsUp header pages
    × (count_by is_free (fresh_slots layout.pages layout.bad).pages ≡ header.slots)
    × (new ≡ after_on k header priority layout.bad old)
Answers told k pages priority Busy old new = (is_on old k ≡ true) × (new ≡ old)
Answers told k pages priority Io old new = (is_on old k ≡ false) × (new ≡ old)
Answers told k pages priority (Bad fault) old new =
    (is_on old k ≡ false) × (page : List ℕ) × Holds told k 0 page
    × (header_of page pages ≡ Err fault) × (new ≡ old)

-- a slot that nothing named is cached at a frame, which is dirty: the next of the area that gives
-- first
pub record IsPut (f : ℕ) (s : Slot) (old new : Shown) (was now : ShownFrames) : Type 0 where
  pub area : GivesFirst old most_areas s.area
  pub rest : Slots
  pub slot : take_slot (old.slots s.area) ≡ Some (s.page, rest)
  pub swap : new ≡ after_put s f rest old
  pub unused : count_of old s ≡ 0
  pub frame : now ≡ with_dirty f true (with_frame_slot f (Some s) was)

-- a slot is cached at a frame, which has the bytes of its page and is clean
pub record IsLoaded (told : Option (ℕ → ℕ → List ℕ)) (s : Slot) (f : ℕ) (old new : Shown)
    (was now : ShownFrames) : Type 0 where
  pub page : List ℕ
  pub long : length page ≡ page_size
  pub holds : Holds told s.area s.page page
  pub frame : now
      ≡ with_dirty f false (with_frame_slot f (Some s) (with_bytes f (slice_index page) was))
  pub swap : new ≡ with_find s (Some f) old

-- the first slot in flight is so no longer: it is cached at this frame, whose bytes are these
pub record IsFirst (s : Slot) (f : ℕ) (page : List ℕ) (old new : Shown) (was : ShownFrames)
    : Type 0 where
  pub first : old.flight ≡ s ∷ new.flight
  pub swap : new ≡ record old { flight = new.flight }
  pub cached : old.find s ≡ Some f
  pub behind_header : 0 < s.page
  pub long : length page ≡ page_size
  pub bytes : (i : ℕ) → slice_index page i ≡ was.bytes f i

-- what a write changes: the swap areas, the frames, the device's pages, where they are told, its
-- failures, and what it was asked
pub record Parts : Type 0 where
  pub swap : Shown
  pub frames : ShownFrames
  pub pages : Option (ℕ → ℕ → List ℕ)
  pub failures : ℕ
  pub history : History

-- nothing was in flight, or the first slot was written from the frame that caches it, or not
abbrev pub Finishes : Option Finished → Parts → Parts → Type 0
Finishes None old new = (old.swap.flight ≡ []) × (new ≡ old)
Finishes (Some (Done s f)) old new =
    (page : List ℕ) × IsFirst s f page old.swap new.swap old.frames
    × IsWritten s.area s.page page old.pages new.pages × (new.frames ≡ old.frames)
    × (new.failures ≡ old.failures)
    × (new.history ≡ after_write s.area s.page old.history)
Finishes (Some (Failed s f)) old new =
    (page : List ℕ) × IsFirst s f page old.swap new.swap old.frames
    × IsSpoiled s.area s.page old.pages new.pages
    × (new.frames ≡ with_dirty f true old.frames) × Rose old.failures new.failures
    × (new.history ≡ after_write s.area s.page old.history)
