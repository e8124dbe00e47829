-- Views of a kernel where nothing was done; after a fork, when two processes have frame 0; and once
-- that is cached at slot 1 and unmapped: some that don't stand for the states. Each is the right
-- one but for one thing, which one clause of `Stands` refuses. (That a kernel can stand for a state
-- after some commands its own crates show.)
use Rattle.std.specs.Prelude.{ℕ, ◌-◌, Bool, true, false, ◌==◌, ◌&&◌, ◌||◌, if◌then◌else◌, List}
use Rattle.std.specs.Prelude.{[], ◌∷◌, ◌++◌, Some, None, option_map, replicate, codes}
use Rattle.av_clusters.specs.Clusters.{Slots}
use Rattle.std.specs.List.{range_with_len}
use Rattle.av_swapdev.specs.Device.{no_history}
use Rattle.av_plain.specs.Device.{Device, no_device, setting_of}
use Rattle.av_plain.specs.Ledger.{Entry, InFrame, InSlot, SwapArea, entry, frame_at}
use Rattle.av_plain.specs.Ledger.{map_count, slot_entries, slot_of}
use Rattle.av_base.specs.Keys.{Key}
use Rattle.av_base.specs.Words.{with_at}
use Rattle.av_vma.specs.Pages.{fresh_area, pages_in}
use Rattle.av_vma.specs.declared.area.Area.{Area}
use Rattle.av_plain.specs.Areas.{Anons, Areas, Homes, Items, no_anons, no_areas, no_homes}
use Rattle.av_plain.specs.Areas.{no_items}
use Rattle.av_plain.specs.Choice.{no_slots}
use Rattle.av_plain.specs.Stands.{Stands, View}
use Rattle.av_plain.specs.Transcript.{State, at_first}
use Rattle.av_laws.specs.Areas.{family}
use Rattle.av_laws.specs.Examples.{after_fork, cached_out, machine, one_area, only_frames}
use Rattle.av_laws.specs.Examples.{read_write, slot, with_slots, with_swap}
use Rattle.av_base.specs.Flags.{no_flags}
use Rattle.av_laws.specs.Flags.{locked}

-- ---- before the first command

-- of so many frames the first four are free, these are inactive, and nothing else is there
abbrev pub first_view : ℕ → List ℕ → View
first_view frames inactive = record {
  frames = frames;
  bytes = λ f i. 0;
  maps = λ f. 0;
  homes = no_homes;
  items = no_items;
  slot = λ f. None;
  dirty = λ f. false;
  free = range_with_len 0 4;
  active = [];
  inactive = inactive;
  table = λ p page. None;
  processes = 0;
  areas = λ p. None;
  anons = no_anons;
  find = λ s. None;
  entries = λ s. 0;
  flight = [];
  on = [];
  slots = no_slots;
}

-- a device with an area of so many pages that doesn't tell what they hold
abbrev pub untold_device : ℕ → Device
untold_device n =
    record no_device { sizes = λ k. if k == 0 then Some n else None; pages = None }

-- a machine with four frames, and the first of these devices, isn't seen so over the second before
-- the first command
abbrev pub NotFirst : Device → View → Device → Type 0
NotFirst own v device = let m = setting_of 4 own in Stands m v device (at_first m) → ⊥

-- ---- after a fork

-- an area of a process with pages for reading and writing, as it was mapped
abbrev pub area : ℕ → ℕ → ℕ → Area
area from past p = fresh_area p from past read_write no_flags

-- the one with the topmost page, whose own anon_vma is 0 in process 1, and 1 in process 2
abbrev pub topmost : ℕ → Area
topmost p = record (area 0x7fffffffe 0x7ffffffff p) { anon = Some (p - 1) }

-- frame 0 has this home: an anon_vma and an index
abbrev pub homes_with : ℕ → ℕ → Homes
homes_with anon index = with_at 0 (Some (anon, index)) no_homes

-- it got its home where process 1 wrote the page
abbrev pub parents_home : Homes
parents_home = homes_with 0 0x7fffffffe

-- two processes have the topmost page, in frame 0, whose home is the parent's
abbrev pub fork_state : State
fork_state = record (after_fork (1 ∷ 2 ∷ 3 ∷ [])) {
  areas = with_at 1 (pages_in (Some (topmost 1 ∷ [])))
      (with_at 2 (pages_in (Some (topmost 2 ∷ []))) no_areas);
  anons = family;
  homes = parents_home;
}

-- the right view, with these areas of each process and this write bit of their entries
abbrev pub view_with : (ℕ → List Area) → Bool → View
view_with areas write = record {
  frames = 4;
  bytes = λ f i. if f == 0 && i == 0 then 7 else 0;
  maps = map_count fork_state.ledger;
  slot = λ f. None;
  dirty = λ f. false;
  free = 1 ∷ 2 ∷ 3 ∷ [];
  active = [];
  inactive = fork_state.ledger.inactive;
  table = λ p page.
      option_map (λ e. record { entry = e; write = write }) (entry fork_state.ledger (p, page));
  processes = 2;
  areas = λ p. if p == 1 || p == 2 then Some (areas p) else None;
  anons = family;
  homes = parents_home;
  items = no_items;
  find = λ s. None;
  entries = λ s. 0;
  flight = [];
  on = [];
  slots = no_slots;
}

abbrev pub right : View
right = view_with (λ p. topmost p ∷ []) false

-- a kernel that is seen so doesn't stand for the state
abbrev pub Refused : View → Type 0
Refused v = Stands (machine 4) v no_device fork_state → ⊥

-- nor does one that agrees with the state on these free frames, where they aren't those of the
-- ledger
abbrev pub NotFree : List ℕ → Type 0
NotFree frames =
    Stands (machine 4) (record right { free = frames }) no_device
    (record fork_state { free = only_frames frames }) → ⊥

-- ---- homes

-- a kernel and a state that agree on no home of frame 0: none of its entries is reached from it
abbrev pub NotReached : Type 0
NotReached =
    Stands (machine 4) (record right { homes = no_homes }) no_device
    (record fork_state { homes = no_homes }) → ⊥

-- ---- anon_vmas

-- the areas of both processes have the anon_vma 0 as their own
abbrev pub topmost_with_own : ℕ → Area
topmost_with_own p = record (topmost p) { anon = Some 0 }

abbrev pub areas_with_own : Areas
areas_with_own p = pages_in (if p == 1 || p == 2 then Some (topmost_with_own p ∷ []) else None)

-- which has this root, itself as its parent, and this chain
abbrev pub one_anon : ℕ → List ℕ → Anons
one_anon root chain = record {
  next = 1;
  anon = λ v. if v == 0 then Some (record { root = root; parent = 0; chain = chain }) else None;
}

-- a kernel that shows these anon_vmas doesn't stand for those
abbrev pub NotKin : Anons → Anons → Type 0
NotKin shown anons =
    Stands (machine 4) (record (view_with (λ p. topmost_with_own p ∷ []) false) { anons = shown })
    no_device (record fork_state { areas = areas_with_own; anons = anons }) → ⊥

-- ---- with swap

-- the header of an area with seven slots, as `mkswap` writes it
abbrev pub header_page : List ℕ
header_page =
    replicate 1024 0 ++ (1 ∷ 0 ∷ 0 ∷ 0 ∷ 7 ∷ 0 ∷ 0 ∷ 0 ∷ 0 ∷ 0 ∷ 0 ∷ 0 ∷ []) ++ replicate 3050 0
    ++ codes "SWAPSPACE2"

-- a device with one area, whose slots all hold a page with this first byte
abbrev pub swap_device : ℕ → Device
swap_device b = record {
  sizes = λ k. if k == 0 then Some 8 else None;
  pages = Some (λ k page. if page == 0 then header_page else b ∷ replicate 4095 0);
  failures = 0;
  history = no_history;
}

-- the same two processes, once frame 0 is cached at slot 1 and unmapped: its write is in flight or
-- not, and it is stale or not
abbrev pub cached_state : Bool → Bool → State
cached_state flying stale = record fork_state {
  ledger = record (cached_out flying stale).ledger {
    entries = ((1, 0x7fffffffe), InSlot (slot 1)) ∷ ((2, 0x7fffffffe), InSlot (slot 1)) ∷ [];
  };
  free = with_slots 8 [] 1 (1 ∷ 2 ∷ 3 ∷ []);
}

-- the right view of it
abbrev pub cached_view : Bool → Bool → View
cached_view flying stale = let l = (cached_state flying stale).ledger in record right {
  maps = map_count l;
  slot = slot_of l;
  dirty = λ f. stale;
  inactive = l.inactive;
  table = λ p page. option_map (λ e. record { entry = e; write = false }) (entry l (p, page));
  find = frame_at l;
  entries = slot_entries l;
  flight = l.flight;
  on = l.on;
  slots = (with_slots 8 [] 1 []).slots;
}

-- a kernel that is seen so stands for the state, over a device with this byte; or it doesn't
abbrev pub StandsFor : View → ℕ → State → Type 0
StandsFor v b s = Stands (with_swap 4 8 7) v (swap_device b) s

abbrev pub NotFor : View → ℕ → State → Type 0
NotFor v b s = StandsFor v b s → ⊥

-- the area is said to have fewer slots than its header says
abbrev pub fewer_slots : List (ℕ × SwapArea)
fewer_slots = one_area 6 0

abbrev pub with_fewer_slots : State
with_fewer_slots =
    record (cached_state false false) {
      ledger = record (cached_state false false).ledger { on = fewer_slots };
      free = with_slots 7 [] 1 (1 ∷ 2 ∷ 3 ∷ []);
    }

-- a kernel that agrees with the state on the slots, of which so many were given, doesn't stand for
-- it, where they aren't those of the ledger
abbrev pub NotGiven : ℕ → Type 0
NotGiven n =
    NotFor (record (cached_view false false) { slots = (with_slots 8 [] n []).slots }) 7
    (record (cached_state false false) { free = with_slots 8 [] n (1 ∷ 2 ∷ 3 ∷ []) })

-- nor one that agrees with the state on what is left of area 1, which is off
abbrev pub NotOff : Slots → Type 0
NotOff left = let slots = with_at 1 left (with_slots 8 [] 1 []).slots in
    NotFor (record (cached_view false false) { slots = slots }) 7
    (record (cached_state false false) {
      free = record { frames = 1 ∷ 2 ∷ 3 ∷ []; slots = slots };
    })

-- ---- entries of slots

-- a kernel and a state that agree on no home of frame 0, which caches slot 1: no entry of the slot
-- is reached from it
abbrev pub NotCovered : Type 0
NotCovered =
    NotFor (record (cached_view false false) { homes = no_homes }) 7
    (record (cached_state false false) { homes = no_homes })

-- ---- flags

-- a kernel and a state that agree on a locked area, where its page isn't locked
abbrev pub locked_area : ℕ → Area
locked_area p = record (topmost p) { flags = locked }

abbrev pub NotMarked : Type 0
NotMarked =
    Stands (machine 4) (view_with (λ p. locked_area p ∷ []) false) no_device
    (record fork_state {
      areas = with_at 1 (pages_in (Some (locked_area 1 ∷ [])))
          (with_at 2 (pages_in (Some (locked_area 2 ∷ []))) no_areas);
    }) → ⊥

-- ---- merged frames

-- frame 0 has this item
abbrev pub items_with : ℕ → ℕ → Items
items_with anon index = with_at 0 ((anon, index) ∷ []) no_items

-- it is merged, and process 1 alone has it, or both have
abbrev pub merged_in : List (Key × Entry) → State
merged_in entries = record fork_state {
  ledger = record fork_state.ledger { entries = entries; merged = 0 ∷ [] };
  homes = no_homes;
  items = items_with 0 0x7fffffffe;
}

abbrev pub in_both : State
in_both = merged_in fork_state.ledger.entries

abbrev pub in_first : State
in_first = merged_in (((1, 0x7fffffffe), InFrame 0 true) ∷ [])

-- the right view of it
abbrev pub merged_view : View
merged_view = record right { homes = no_homes; items = items_with 0 0x7fffffffe }

-- a kernel that is seen so doesn't stand for the state
abbrev pub NotMerged : View → Type 0
NotMerged v = Stands (machine 4) v no_device in_both → ⊥

-- nor one with a write bit over the frame, though one entry alone names it
abbrev pub NotWritable : Type 0
NotWritable =
    Stands (machine 4)
    (record merged_view {
      maps = map_count in_first.ledger;
      table = λ p page.
          option_map (λ e. record { entry = e; write = true }) (entry in_first.ledger (p, page));
    })
    no_device in_first → ⊥
