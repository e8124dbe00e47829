-- The view after a frame is put at a slot, and as its write begins and ends.
use Rattle.std.proofs.Common.{◌≡◌, ℕ, ◌≤◌, true, false, List, [], ◌∷◌, ◌++◌, Option, Some, None, sym, ap, subst, ◌∙◌}
use Rattle.std.specs.Prelude.{MatchOption}
use Rattle.av_base.specs.Words.{how_many, without}
use Rattle.av_base.specs.declared.slot.Slot.{Slot}
use Rattle.av_frames.specs.Store.{shown as shown_frames, with_dirty}
use Rattle.av_lru.specs.Lists.{without_frame}
use Rattle.av_plain.specs.Ledger.{same_slot}
use Rattle.av_swap_laws.specs.Steps.{view_start, without_slot}
use Rattle.av_swap_laws.proofs.From.{flight-first}
use Rattle.av_swapcache.specs.Calls.{Finishes, IsFirst, IsPut, Parts}
use Rattle.av_swapcache.specs.declared.swap.Finished.{Finished}
use Rattle.av_swapcache.specs.declared.swap.Finished.TheVariants.{Done, Failed}
use Rattle.av_swapcache.specs.Swap.{Shown as ShownSwap, can_give, shown as shown_swap}
use Rattle.av_plain.specs.Device.{Calls}
use Rattle.av_mem.specs.Cache.{Ends, GoesFirst, Puts}
use Rattle.av_mem.specs.Mem.{view}
use Rattle.av_mem.specs.declared.mem.Mem.{Mem}
use Rattle.av_mem.proofs.StepLaws.{SameRest, view-by}

pub start-view : (old new : Mem) (f : ℕ) (s : Slot) → SameRest old new → new.lists ≡ old.lists
    → shown_swap new.swap ≡ record (shown_swap old.swap) { flight = (shown_swap old.swap).flight ++ s ∷ [] }
    → shown_frames new.frames ≡ with_dirty f false (shown_frames old.frames) → view new ≡ view_start f s (view old)
start-view old new f s same lists swap frames = view-by old new (with_dirty f false (shown_frames old.frames)) old.lists
    (record (shown_swap old.swap) { flight = (shown_swap old.swap).flight ++ s ∷ [] }) same frames lists swap

pub put-view : (old new : Mem) (f : ℕ) → SameRest old new → new.lists ≡ old.lists → (o : Option Slot) → MatchOption o
    (((k : ℕ) → can_give (shown_swap old.swap) k ≡ false) × (shown_swap new.swap ≡ shown_swap old.swap)
    × (shown_frames new.frames ≡ shown_frames old.frames))
    (λ s. IsPut f s (shown_swap old.swap) (shown_swap new.swap) (shown_frames old.frames) (shown_frames new.frames))
    → Puts o old new f
put-view old new f same lists None h = (h.0, view-by old new (shown_frames old.frames) old.lists (shown_swap old.swap) same h.2 lists h.1)
put-view old new f same lists (Some s) h = record {
  area = h.area;
  rest = h.rest;
  slot = h.slot;
  unused = h.unused;
  puts = view-by old new _ old.lists _ same h.frame lists h.swap;
}

-- ---- a write ends

-- the parts that a write changes
abbrev pub parts_of : Mem → Option (ℕ → ℕ → List ℕ) → Calls → Parts
parts_of k pages calls = record {
  swap = shown_swap k.swap;
  frames = shown_frames k.frames;
  pages = pages;
  failures = calls.0;
  history = calls.1;
}

-- each slot in flight stands there once
abbrev pub IsOnce : Mem → Type 0
IsOnce k = (s : Slot) → how_many (same_slot s) (shown_swap k.swap).flight ≤ 1

first-is : (old : Mem) (new : ShownSwap) (s : Slot) (f : ℕ) (page : List ℕ) → IsFirst s f page (shown_swap old.swap) new (shown_frames old.frames)
    → GoesFirst old s f page
first-is old new s f page h = record {
  rest = new.flight;
  first = h.first;
  frame = h.cached;
  behind_header = h.behind_header;
  long = h.long;
  bytes = h.bytes;
}

-- flight without its first
flight-is : (old : Mem) (new : ShownSwap) (s : Slot) (f : ℕ) (page : List ℕ) → IsFirst s f page (shown_swap old.swap) new (shown_frames old.frames)
    → IsOnce old → new.flight ≡ without_slot s (shown_swap old.swap).flight
flight-is old new s f page h once =
    sym (ap (without_slot s) h.first ∙ flight-first s new.flight (subst (λ flight. how_many (same_slot s) flight ≤ 1) h.first (once s)))

-- a frame that was written goes to the tail
pub ends-written : (old new : Mem) (s : Slot) (f : ℕ) (pages pages' : Option (ℕ → ℕ → List ℕ)) (calls calls' : Calls)
    → SameRest old new → IsOnce old
    → new.lists ≡ record (without_frame f old.lists) { inactive = (without_frame f old.lists).inactive ++ f ∷ [] }
    → (r : Finished) → r ≡ Done s f → Finishes (Some r) (parts_of old pages calls) (parts_of new pages' calls')
    → Ends (Some (Done s f)) old new pages pages' calls calls'
ends-written old new s f pages pages' calls calls' same once lists r is h =
    let h : Finishes (Some (Done s f)) (parts_of old pages calls) (parts_of new pages' calls') =
    subst (λ x. Finishes (Some x) (parts_of old pages calls) (parts_of new pages' calls')) is h in
    let first = h.1 in (
      h.0,
      first-is old (shown_swap new.swap) s f h.0 first,
      h.2,
      view-by old new (shown_frames old.frames)
          (record { frames = old.lists.frames; active = without f old.lists.active; inactive = without f old.lists.inactive ++ f ∷ [] })
          (record (shown_swap old.swap) { flight = without_slot s (shown_swap old.swap).flight }) same h.3
          lists
          (first.swap ∙ ap (λ flight. record (shown_swap old.swap) { flight = flight }) (flight-is old (shown_swap new.swap) s f h.0 first once)),
      h.4,
      h.5,
    )

-- one that was not is dirty
pub ends-failed : (old new : Mem) (s : Slot) (f : ℕ) (pages pages' : Option (ℕ → ℕ → List ℕ)) (calls calls' : Calls) → SameRest old new → IsOnce old
    → new.lists ≡ old.lists → (r : Finished) → r ≡ Failed s f → Finishes (Some r) (parts_of old pages calls) (parts_of new pages' calls')
    → Ends (Some (Failed s f)) old new pages pages' calls calls'
ends-failed old new s f pages pages' calls calls' same once lists r is h =
    let h : Finishes (Some (Failed s f)) (parts_of old pages calls) (parts_of new pages' calls') =
    subst (λ x. Finishes (Some x) (parts_of old pages calls) (parts_of new pages' calls')) is h in
    let first = h.1 in (
      h.0,
      first-is old (shown_swap new.swap) s f h.0 first,
      h.2,
      view-by old new (with_dirty f true (shown_frames old.frames)) old.lists
          (record (shown_swap old.swap) { flight = without_slot s (shown_swap old.swap).flight }) same h.3 lists
          (first.swap ∙ ap (λ flight. record (shown_swap old.swap) { flight = flight }) (flight-is old (shown_swap new.swap) s f h.0 first once)),
      h.4,
      h.5,
    )
