-- What steps of the swap cache do to the view, by what they answer.
use Rattle.std.specs.Option.{option_map_or}
use Rattle.std.specs.Prelude.{◌≡◌, ℕ, ◌<◌, ◌==◌, if◌then◌else◌, false, List, [], ◌∷◌, length}
use Rattle.std.specs.Prelude.{slice_index, Option, None, Some, option_map, Result, Ok, Err}
use Rattle.av_anon.specs.declared.infos.Info.{Info}
use Rattle.av_spaces.specs.Kin.{info_of}
use Rattle.av_base.specs.Page.{page_size}
use Rattle.av_base.specs.Words.{is_in, with_at}
use Rattle.av_base.specs.declared.slot.Slot.{Slot}
use Rattle.av_clusters.specs.Clusters.{Slots, take_slot}
use Rattle.av_io.specs.Count.{Rose}
use Rattle.av_io.specs.declared.failures.Failed.{Failed as DeviceFailed}
use Rattle.av_swapdev.specs.Device.{Holds, IsSpoiled, IsWritten, after_write, most_areas}
use Rattle.av_plain.specs.Device.{Calls}
use Rattle.av_swap_laws.specs.Steps.{view_done, view_fail, view_load, view_put}
use Rattle.av_swapcache.specs.Swap.{GivesFirst, can_give, count_of, shown}
use Rattle.av_swapcache.specs.declared.swap.Finished.{Finished}
use Rattle.av_swapcache.specs.declared.swap.Finished.TheVariants.{Done, Failed}
use Rattle.av_mem.specs.Mem.{view}
use Rattle.av_mem.specs.declared.mem.Mem.{Mem}

-- ---- a frame goes out

-- a slot that nothing named is taken, of the area that gives first, and the frame is cached there
pub record HasPut (old new : Mem) (f : ℕ) (s : Slot) : Type 0 where
  pub area : GivesFirst (shown old.swap) most_areas s.area
  pub rest : Slots
  pub slot : take_slot ((view old).slots s.area) ≡ Some (s.page, rest)
  pub unused : count_of (shown old.swap) s ≡ 0
  pub puts : view new ≡ view_put f s (with_at s.area rest (view old).slots) (view old)

-- or no area gives one
abbrev pub Puts : Option Slot → Mem → Mem → ℕ → Type 0
Puts None old new f = ((k : ℕ) → can_give (shown old.swap) k ≡ false) × (view new ≡ view old)
Puts (Some s) old new f = HasPut old new f s

-- ---- writes

-- the first slot in flight, with the frame that caches it, whose bytes are these
pub record GoesFirst (old : Mem) (s : Slot) (f : ℕ) (page : List ℕ) : Type 0 where
  pub rest : List Slot
  pub first : (view old).flight ≡ s ∷ rest
  pub frame : (view old).find s ≡ Some f
  pub behind_header : 0 < s.page
  pub long : length page ≡ page_size
  pub bytes : (i : ℕ) → slice_index page i ≡ (view old).bytes f i

-- its write has ended, well or not, on a device with these pages and calls; or none was in flight
abbrev pub Ends : Option Finished → Mem → Mem → Option (ℕ → ℕ → List ℕ)
    → Option (ℕ → ℕ → List ℕ) → Calls → Calls → Type 0
Ends None old new pages pages' calls calls' =
    ((view old).flight ≡ []) × (view new ≡ view old) × (pages' ≡ pages) × (calls' ≡ calls)
Ends (Some (Done s f)) old new pages pages' calls calls' =
    (page : List ℕ) × GoesFirst old s f page × IsWritten s.area s.page page pages pages'
    × (view new ≡ view_done f s (view old)) × (calls'.0 ≡ calls.0)
    × (calls'.1 ≡ after_write s.area s.page calls.1)
Ends (Some (Failed s f)) old new pages pages' calls calls' =
    (page : List ℕ) × GoesFirst old s f page × IsSpoiled s.area s.page pages pages'
    × (view new ≡ view_fail f s (view old)) × Rose calls.0 calls'.0
    × (calls'.1 ≡ after_write s.area s.page calls.1)

-- ---- a page comes in

-- the root of an anon_vma
abbrev pub root_in : Mem → ℕ → ℕ
root_in k v = option_map_or (λ (i : Info). i.root) (info_of k.anons v) v

-- the home of a frame that takes the page of a slot: that of a page whose entry names the slot,
-- where it is the only one, else with the root
abbrev pub home_by : Mem → Slot → Option (ℕ × ℕ) → Option (ℕ × ℕ)
home_by k s home = option_map
    (λ (h : ℕ × ℕ). (if (view k).entries s == 1 then h.0 else root_in k h.0, h.1)) home

-- the first free frame has the bytes of the slot's page, is cached there, and has this home
pub record HasLoaded (old new : Mem) (pages : Option (ℕ → ℕ → List ℕ)) (f : ℕ) (s : Slot)
    (home : Option (ℕ × ℕ)) : Type 0 where
  pub page : List ℕ
  pub long : length page ≡ page_size
  pub holds : Holds pages s.area s.page page
  pub left : List ℕ
  pub first : (view old).free ≡ f ∷ left
  pub once : is_in f left ≡ false
  pub loads : view new ≡ view_load f s left (slice_index page) home (view old)

-- or the device failed, and has these failures
abbrev pub Loads : Result ℕ DeviceFailed → Mem → Mem → Option (ℕ → ℕ → List ℕ) → Slot
    → Option (ℕ × ℕ) → ℕ → ℕ → Type 0
Loads (Err e) old new pages s home failures failures' =
    (view new ≡ view old) × Rose failures failures'
Loads (Ok f) old new pages s home failures failures' =
    HasLoaded old new pages f s home × (failures' ≡ failures)
