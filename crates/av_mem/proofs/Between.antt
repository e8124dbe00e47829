-- What stands between two events, of the memory system.
use Rattle.std.proofs.Common.{◌≡◌, ℕ, Bool, true, false, nat_lt, ◌&&◌, ◌==◌, ◌<◌, List, Option, Some, None, IfSome, refl, sym, ap, subst, ◌∙◌}
use Rattle.std.specs.FinMap.Entries.{find}
use Rattle.std.specs.Ordering.{nat_cmp}
use Rattle.std.specs.Prelude.{slice_index}
use Rattle.av_base.specs.Page.{page_size}
use Rattle.av_base.specs.declared.slot.Slot.{Slot}
use Rattle.av_spaces.specs.Kin.{AnonsFit}
use Rattle.av_swap_laws.specs.Locks.{AreLocks}
use Rattle.av_swapdev.specs.Header.{Layout}
use Rattle.av_plain.specs.Areas.{Rmap}
use Rattle.av_plain.specs.Device.{Device, IsSameDevice, as_told, device_by, headers_of, setting_of, Calls}
use Rattle.av_plain.specs.Ledger.{Entry, InFrame, InSlot, Ledger, Setting, Zero, entry, frame_at, SwapArea, is_on, may_be_slot, size_of, slot_count}
use Rattle.av_plain.specs.Sound.{count}
use Rattle.av_plain.specs.Stands.{BytesStand, IsClean, IsKept, IsKeptAt, View}
use Rattle.av_plain.specs.World.{Holds}
use Rattle.av_plain.specs.Transcript.{State, rmap_of}
use Rattle.av_plain.specs.World.{Page, World, pages}
use Rattle.av_plain.proofs.Device.{setting_same}
use Rattle.av_mem.specs.declared.mem.Mem.{Mem}
use Rattle.av_mem.specs.Mem.{HasItems, HasLists, HasTables, Keeps, SwapFits, frame_count, held_by, locks_of, setting_by, view}
use Rattle.av_mem.specs.Steps.{KeepsBut}
use Rattle.av_mem.proofs.KeepsLaws.{keeps-serves}
use Rattle.av_mem.proofs.ServesLaws.{anons-fit, lists-fit, swap-fits, tables-fit}
use Rattle.av_mem.specs.Between.{IsBetween, KeepsBetween}
use Rattle.av_mem.proofs.Amid.{Amid}

-- ---- of the view, and of the parts

-- what is said of the parts beside the view
pub record PartsFit (d : Device) (k : Mem) : Type 0 where
  pub lists : HasLists k
  pub items : HasItems k
  pub tables : HasTables k
  pub fit : AnonsFit k.spaces k.anons
  pub swap : SwapFits d None k

module _ (d : Device) (k : Mem) (w : World) (r : Rmap) (l : Ledger) where
  pub to-amid : KeepsBetween d k w r l → Amid (setting_by d k) (held_by d k w r l)
  to-amid h = record {
    sound = h.sound;
    held = h.serves.held;
    areas = h.serves.areas;
    are = h.serves.are;
    anons = h.serves.anons;
    tidy = h.serves.tidy;
    at_pages = h.serves.at_pages;
    there = h.serves.there;
    areas_fit = h.serves.areas_fit;
    free = h.serves.free;
  }

  pub to-fit : KeepsBetween d k w r l → PartsFit d k
  to-fit h = record { lists = h.serves.lists; items = h.serves.items; tables = h.serves.tables; fit = h.serves.fit; swap = h.serves.swap }

  pub of-amid : Amid (setting_by d k) (held_by d k w r l) → PartsFit d k → AreLocks (locks_of k) w l → KeepsBetween d k w r l
  of-amid a f locks = record {
    sound = a.sound;
    serves = record {
      held = a.held;
      locks = locks;
      areas = a.areas;
      are = a.are;
      anons = a.anons;
      tidy = a.tidy;
      at_pages = a.at_pages;
      there = a.there;
      areas_fit = a.areas_fit;
      free = a.free;
      lists = f.lists;
      items = f.items;
      tables = f.tables;
      fit = f.fit;
      swap = f.swap;
    };
  }

-- between two commands it stands for a state
pub between-of : (d : Device) (k : Mem) (s : State) → Keeps d k s → KeepsBetween d k s.world (rmap_of s) s.ledger
between-of d k s h = record { sound = h.stands.sound.ledger; serves = keeps-serves d k s h }

-- ---- the device

pub setting-stays : (d d' : Device) (old new : Mem) → IsSameDevice d d' → frame_count new ≡ frame_count old → setting_by d' new ≡ setting_by d old
setting-stays d d' old new same count = ap (λ n. setting_of n d') count ∙ setting_same (frame_count old) d d' same

-- where nothing changes beside the view, the parts fit still
pub fit-stays : {counts : ℕ → ℕ} (d d' : Device) (old new : Mem) → IsSameDevice d d' → KeepsBut counts old new → PartsFit d old → PartsFit d' new
fit-stays d d' old new same parts h = record {
  lists = lists-fit old new parts h.lists;
  items = parts.items ∙ h.items ∙ sym parts.count;
  tables = tables-fit old new parts h.tables;
  fit = anons-fit old new parts h.fit;
  swap = swap-fits old new parts d d' None same h.swap;
}

-- ---- on another device

-- what is said of the pages of one device is said of the other
abbrev pub SaysAsMuch : Device → Device → Type 1
SaysAsMuch d d' = (IsSo : (ℕ → ℕ → List ℕ) → Type 0) → IfSome d.pages IsSo → IfSome d'.pages IsSo

-- frames and device hold what the pages claim on the other one too
pub bytes-move : (v : View) (d d' : Device) (w : World) (l : Ledger) → SaysAsMuch d d' → BytesStand v d w l → BytesStand v d' w l
bytes-move v d d' w l move h = record {
  kept = λ p page. kept (entry l (p, page)) (pages w p page) (h.kept p page);
  clean = λ s stale flying. clean s (frame_at l s) (h.clean s stale flying);
}
  where
    at : (s : Slot) (x : Option Page) (o : Option ℕ) → IsKeptAt v d s x o → IsKeptAt v d' s x o
    at s x None k = move (λ told. Holds x (slice_index (told s.area s.page))) k
    at s x (Some f) k = k

    kept : (e : Option Entry) (x : Option Page) → IsKept v d l e x → IsKept v d' l e x
    kept None x k = k
    kept (Some Zero) x k = k
    kept (Some (InFrame f seen)) x k = k
    kept (Some (InSlot s)) x k = at s x (frame_at l s) k

    clean : (s : Slot) (o : Option ℕ) → IsClean v d s o → IsClean v d' s o
    clean s None c = c
    clean s (Some f) c = move (λ told. (i : ℕ) → i < page_size → slice_index (told s.area s.page) i ≡ v.bytes f i) c

-- less is a slot, where headers are told
usable : (o : Option (ℕ → Option Layout)) (a b c e : Bool) (s : Slot) → (a && b && c && e && may_be_slot s o) ≡ true
    → (a && b && c && e && true) ≡ true
usable o true true true true s is = refl
usable o true true true false s is = cc
usable o true true false e s is = cc
usable o true false c e s is = cc
usable o false b c e s is = cc

module _ (d : Device) (k : Mem) (w : World) (r : Rmap) (l : Ledger) (n : Calls) (h : KeepsBetween d k w r l) where
  abbrev m : Setting
  m = setting_by (device_by d.sizes None n) k

  there-untold : (a b c : Bool) (s : Slot) (o : Option (ℕ → Option Layout)) → (a && b && c && may_be_slot s o) ≡ true → (a && b && c && true) ≡ true
  there-untold true true true s o is = refl
  there-untold true true false s o is = cc
  there-untold true false c s o is = cc
  there-untold false b c s o is = cc

  -- it stands for them over this one too
  pub between-untold : KeepsBetween (device_by d.sizes None n) k w r l
  between-untold = record {
    sound = record {
      in_order = h.sound.in_order;
      slots_once = h.sound.slots_once;
      frames_once = h.sound.frames_once;
      merged = h.sound.merged;
      in_range = h.sound.in_range;
      listed = h.sound.listed;
      flying = h.sound.flying;
      used = h.sound.used;
      one = h.sound.one;
    };
    serves = record {
      held = record {
        ledger = record {
          frames = let f = h.serves.held.ledger.frames in
              record { frames = f.frames; maps = f.maps; slots = f.slots; dirty = f.dirty; free = f.free };
          lists = h.serves.held.ledger.lists;
          tables = h.serves.held.ledger.tables;
          swap = h.serves.held.ledger.swap;
        };
        bytes = bytes-move (view k) d (device_by d.sizes None n) w l (λ IsSo x. tt) h.serves.held.bytes;
        headers = λ a. unsaid (find nat_cmp a l.on);
        covered = h.serves.held.covered;
        homes = h.serves.held.homes;
        items = h.serves.held.items;
      };
      locks = h.serves.locks;
      areas = h.serves.areas;
      are = h.serves.are;
      anons = h.serves.anons;
      tidy = h.serves.tidy;
      at_pages = h.serves.at_pages;
      there = λ s used. there-untold (is_on l s.area) (nat_lt 0 s.page) (nat_lt s.page (size_of m s.area)) s (headers_of d) (h.serves.there s used);
      areas_fit = record { rising = h.serves.areas_fit.rising; attached = h.serves.areas_fit.attached; fit = h.serves.areas_fit.fit };
      free = record {
        frames = h.serves.free.frames;
        slots = record {
          taken = h.serves.free.slots.taken;
          free = λ s is. usable (headers_of d) (is_on l s.area) (nat_lt 0 s.page) (nat_lt s.page (size_of m s.area)) (slot_count l s == 0) s
              (h.serves.free.slots.free s is);
          number = h.serves.free.slots.number;
          off = h.serves.free.slots.off;
        };
      };
      lists = h.serves.lists;
      items = h.serves.items;
      tables = h.serves.tables;
      fit = h.serves.fit;
      swap = record {
        frames = h.serves.swap.frames;
        closed = h.serves.swap.closed;
        on_device = h.serves.swap.on_device;
        by_headers = tt;
      };
    };
  }
    where
      unsaid : (o : Option SwapArea) → IfSome o (λ area. Unit {0})
      unsaid None = tt
      unsaid (Some area) = tt

-- what the device tells of its calls is nothing that is stood for
pub between-some : (sizes : ℕ → Option ℕ) (k : Mem) (n : Calls) → IsBetween sizes k
    → (w : World) × (r : Rmap) × (l : Ledger) × KeepsBetween (device_by sizes None n) k w r l
between-some sizes k n h = (h.1, h.2, h.3, between-untold (device_by sizes None h.0) k h.1 h.2 h.3 n h.4)

-- a device after a call that changes its failures at the most says as much
pub seen-says : (told : Bool) (d d' : Device) → d'.pages ≡ d.pages → SaysAsMuch (as_told told d) (as_told told d')
seen-says true d d' told IsSo is = subst (λ o. IfSome o IsSo) (sym told) is
seen-says false d d' told IsSo is = tt
