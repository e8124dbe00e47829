-- What the memory system stands for between commands, and what it serves between two steps of one:
-- the one gives the other. And neither says how often
-- the device failed. The swap areas fit where they stay.
use Rattle.std.proofs.Common.{◌≡◌, ℕ, ◌≤◌, List, None, Option, Some, refl, sym, ap, subst, ◌∙◌}
use Rattle.std.specs.FinMap.Entries.{find}
use Rattle.std.specs.Ordering.{nat_cmp}
use Rattle.std.specs.Prelude.{Bool, not, IfSome, IsSomeAnd}
use Rattle.av_base.specs.declared.slot.Slot.{Slot}
use Rattle.av_swapcache.specs.Swap.{shown as shown_swap}
use Rattle.av_swapdev.specs.Header.{Layout}
use Rattle.av_swapdev.specs.declared.header.Header.{Header}
use Rattle.av_plain.specs.Areas.{Rmap}
use Rattle.av_plain.specs.Choice.{Free, ListsAll}
use Rattle.av_plain.specs.Device.{Calls, Device, device_by, headers_of}
use Rattle.av_plain.specs.Ledger.{Ledger}
use Rattle.av_plain.specs.Sound.{IsSound}
use Rattle.av_plain.specs.Stands.{free_of}
use Rattle.av_plain.specs.Transcript.{State, rmap_of}
use Rattle.av_plain.specs.World.{World}
use Rattle.av_mem.specs.declared.mem.Mem.{Mem}
use Rattle.av_mem.specs.Mem.{AgreesWith, AreByHeaders, Keeps, Serves, SwapFits, frame_count, setting_by, view}
use Rattle.av_mem.specs.Steps.{KeepsSwap}

-- the state of these memories, this ledger, and areas, anon_vmas and homes
abbrev pub state_by : Mem → World → Rmap → Ledger → State
state_by k w r l = record { world = w; ledger = l; free = free_of (view k); areas = r.areas; anons = r.anons; homes = r.homes; items = r.items }

pub keeps-serves : (d : Device) (k : Mem) (s : State) → Keeps d k s → Serves d None k s.world (rmap_of s) s.ledger
keeps-serves d k s keeps = let stands = keeps.stands in record {
  held = record {
    ledger = stands.parts.ledger;
    bytes = stands.parts.bytes;
    headers = stands.parts.headers;
    covered = record { frames = stands.reach; slots = stands.slots; merged = stands.merged };
    homes = stands.homes;
    items = stands.items;
  };
  locks = keeps.locks;
  areas = stands.parts.areas;
  are = stands.areas;
  anons = stands.anons;
  tidy = stands.sound.world;
  at_pages = stands.sound.at_pages;
  there = stands.sound.in_areas;
  areas_fit = stands.sound.areas_fit;
  free = subst (λ (free : Free). ListsAll (setting_by d k) s.ledger free) (sym stands.free) stands.lists;
  lists = keeps.lists;
  items = keeps.items;
  tables = keeps.tables;
  fit = keeps.anons;
  swap = keeps.swap;
}

-- where the ledger is sound
pub serves-keeps : (d : Device) (k : Mem) (w : World) (r : Rmap) (l : Ledger) → IsSound (setting_by d k) l → Serves d None k w r l
    → Keeps d k (state_by k w r l)
serves-keeps d k w r l sound serves = record {
  stands = record {
    over = record { sizes = refl; headers = refl };
    sound = record { world = serves.tidy; ledger = sound; at_pages = serves.at_pages; in_areas = serves.there; areas_fit = serves.areas_fit };
    parts = record { ledger = serves.held.ledger; areas = serves.areas; bytes = serves.held.bytes; headers = serves.held.headers };
    free = refl;
    lists = serves.free;
    areas = serves.are;
    anons = serves.anons;
    homes = serves.held.homes;
    items = serves.held.items;
    reach = serves.held.covered.frames;
    slots = serves.held.covered.slots;
    merged = serves.held.covered.merged;
  };
  locks = serves.locks;
  lists = serves.lists;
  items = serves.items;
  tables = serves.tables;
  anons = serves.fit;
  swap = serves.swap;
}

-- ---- what the device tells of its calls

fits-whenever : (sizes : ℕ → Option ℕ) (pages : Option (ℕ → ℕ → List ℕ)) (n n' : Calls) (closing : Option ℕ) (k : Mem)
    → SwapFits (device_by sizes pages n) closing k → SwapFits (device_by sizes pages n') closing k
fits-whenever sizes pages n n' closing k h = record {
  frames = h.frames;
  closed = h.closed;
  on_device = h.on_device;
  by_headers = h.by_headers;
}

pub keeps-whenever : (sizes : ℕ → Option ℕ) (pages : Option (ℕ → ℕ → List ℕ)) (n n' : Calls) (k : Mem) (s : State)
    → Keeps (device_by sizes pages n) k s → Keeps (device_by sizes pages n') k s
keeps-whenever sizes pages n n' k s h = let stands = h.stands in record {
  stands = record {
    over = record { sizes = stands.over.sizes; headers = stands.over.headers };
    sound = stands.sound;
    parts = record {
      ledger = stands.parts.ledger;
      areas = stands.parts.areas;
      bytes = record { kept = stands.parts.bytes.kept; clean = stands.parts.bytes.clean };
      headers = stands.parts.headers;
    };
    free = stands.free;
    lists = stands.lists;
    areas = stands.areas;
    anons = stands.anons;
    homes = stands.homes;
    items = stands.items;
    reach = stands.reach;
    slots = stands.slots;
    merged = stands.merged;
  };
  locks = h.locks;
  lists = h.lists;
  items = h.items;
  tables = h.tables;
  anons = h.anons;
  swap = fits-whenever sizes pages n n' None k h.swap;
}

-- so it is within a command
pub serves-whenever : (sizes : ℕ → Option ℕ) (pages : Option (ℕ → ℕ → List ℕ)) (n n' : Calls) (closing : Option ℕ) (k : Mem) (w : World)
    (r : Rmap) (l : Ledger)
    → Serves (device_by sizes pages n) closing k w r l → Serves (device_by sizes pages n') closing k w r l
serves-whenever sizes pages n n' closing k w r l h = record {
  held = record {
    ledger = h.held.ledger;
    bytes = record { kept = h.held.bytes.kept; clean = h.held.bytes.clean };
    headers = h.held.headers;
    covered = h.held.covered;
    homes = h.held.homes;
    items = h.held.items;
  };
  locks = h.locks;
  areas = h.areas;
  are = h.are;
  anons = h.anons;
  tidy = h.tidy;
  at_pages = h.at_pages;
  there = h.there;
  areas_fit = h.areas_fit;
  free = h.free;
  lists = h.lists;
  items = h.items;
  tables = h.tables;
  fit = h.fit;
  swap = fits-whenever sizes pages n n' closing k h.swap;
}

-- ---- the swap areas

-- where they stay, with as many frames, they fit as they did
pub fits-kept : (d : Device) (closing : Option ℕ) (old new : Mem) → KeepsSwap old new → frame_count new ≡ frame_count old → SwapFits d closing old
    → SwapFits d closing new
fits-kept d closing old new swap count h = record {
  frames = swap.frames ∙ h.frames ∙ sym count;
  closed = swap.closing ∙ h.closed;
  on_device = λ k. subst (λ (on : List (ℕ × Header)). IfSome (find nat_cmp k on) (λ a. IsSomeAnd (d.sizes k) (λ n. a.pages ≤ n))) (sym swap.on)
      (h.on_device k);
  by_headers = told (headers_of d) h.by_headers;
}
  where
    agrees : (k : ℕ) (header : Header) (layout : Layout) → AgreesWith (shown_swap old.swap) k header layout
        → AgreesWith (shown_swap new.swap) k header layout
    agrees k header layout a = record {
      pages = a.pages;
      slots = λ page below. a.slots page below ∙ ap (λ (bad : Slot → Bool). not (bad (record { area = k; page = page }))) (sym swap.bad);
    }

    layout_so : (k : ℕ) (header : Header) (o : Option Layout) → IsSomeAnd o (AgreesWith (shown_swap old.swap) k header)
        → IsSomeAnd o (AgreesWith (shown_swap new.swap) k header)
    layout_so k header None a = a
    layout_so k header (Some layout) a = agrees k header layout a

    header_so : (k : ℕ) (layouts : ℕ → Option Layout) (o : Option Header)
        → IfSome o (λ header. IsSomeAnd (layouts k) (AgreesWith (shown_swap old.swap) k header))
        → IfSome o (λ header. IsSomeAnd (layouts k) (AgreesWith (shown_swap new.swap) k header))
    header_so k layouts None a = tt
    header_so k layouts (Some header) a = layout_so k header (layouts k) a

    told : (o : Option (ℕ → Option Layout)) → AreByHeaders o (shown_swap old.swap) → AreByHeaders o (shown_swap new.swap)
    told None a = tt
    told (Some layouts) a = λ k. subst (λ (on : List (ℕ × Header)). IfSome (find nat_cmp k on)
        (λ header. IsSomeAnd (layouts k) (AgreesWith (shown_swap new.swap) k header))) (sym swap.on)
        (header_so k layouts (find nat_cmp k (shown_swap old.swap).on) (a k))
