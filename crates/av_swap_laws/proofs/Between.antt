-- What stands also where the ledger stays: an area is prepared, a read of the device fails, a page without a frame is read.
use Rattle.std.proofs.Common.{◌≡◌, ℕ, ◌<◌, Bool, true, false, cond, List, Option, Some, None, refl, sym, ap, subst, ◌∙◌, ◌==◌}
use Rattle.std.specs.Prelude.{IfSome, IsSomeAnd, slice_index}
use Rattle.av_base.specs.Keys.{Key}
use Rattle.av_base.specs.Page.{page_size}
use Rattle.av_base.specs.Words.{with_at}
use Rattle.av_base.specs.declared.slot.Slot.{Slot}
use Rattle.av_vma.specs.Pages.{AreLaid}
use Rattle.av_vma.specs.declared.area.Area.{Area}
use Rattle.av_plain.specs.Areas.{Anons, prepare_page}
use Rattle.av_plain.specs.Device.{Device}
use Rattle.av_plain.specs.Event.{Used, after, after_use_of}
use Rattle.av_plain.specs.Ledger.{Entry, InFrame, InSlot, IsBlank, Ledger, Setting, Zero, entry, frame_at, is_free, names_frame}
use Rattle.av_plain.specs.Stands.{BytesStand, IsClean, IsKept, IsKeptAt, View, free_of}
use Rattle.av_plain.specs.World.{Holds}
use Rattle.av_plain.specs.World.{Page, World, pages}
use Rattle.av_plain.proofs.Covered.{Names, sound-prepared, slots-prepared, merged-prepared}
use Rattle.av_plain.proofs.Covered.Swap.{free-uncached, free-unnamed}
use Rattle.av_plain.proofs.Sound.Counts.{same-is, same-itself}
use Rattle.av_swap_laws.specs.Held.{Held, IsHeld, Steps}
use Rattle.av_swap_laws.proofs.Free.{FreesNone, chooses-nothing}

-- ---- an area is prepared

pub prepared-held : (m : Setting) (old : Held) → IsHeld m old → (p page : ℕ) (areas : ℕ → Option (List Area)) (anons : Anons)
    → AreLaid (old.rmap.areas p)
    → IsHeld m (record old { view = record old.view { areas = areas; anons = anons }; rmap = prepare_page p page old.rmap })
prepared-held m old h p page areas anons laid = record {
  ledger = record {
    frames = record {
      frames = h.ledger.frames.frames;
      maps = h.ledger.frames.maps;
      slots = h.ledger.frames.slots;
      dirty = h.ledger.frames.dirty;
      free = h.ledger.frames.free;
    };
    lists = record { active = h.ledger.lists.active; inactive = h.ledger.lists.inactive };
    tables = record { entries = h.ledger.tables.entries; write_bits = h.ledger.tables.write_bits };
    swap = record {
      finds = h.ledger.swap.finds;
      counts = h.ledger.swap.counts;
      flight = h.ledger.swap.flight;
      on = h.ledger.swap.on;
    };
  };
  bytes = record { kept = h.bytes.kept; clean = h.bytes.clean };
  headers = h.headers;
  covered = record {
    frames = sound-prepared old.ledger p page old.rmap laid h.covered.frames;
    slots = slots-prepared old.ledger p page old.rmap laid h.covered.frames h.covered.slots;
    merged = merged-prepared old.ledger p page old.rmap laid h.covered.frames h.covered.slots h.covered.merged;
  };
  homes = h.homes;
  items = h.items;
}

-- ---- a read of the device fails: the free frame that was to take the page holds anything

module _ (v : View) (d d' : Device) (w : World) (l : Ledger) (f : ℕ) (held : ℕ → ℕ) (free : is_free l f ≡ true) (told : d'.pages ≡ d.pages) where
  abbrev with_bytes : View
  with_bytes = record v { bytes = with_at f held v.bytes }

  other_bytes : (g : ℕ) → (g == f) ≡ false → with_bytes.bytes g ≡ v.bytes g
  other_bytes g e = ap (λ b. cond b held (v.bytes g)) e

  -- a frame that an entry names is another, and so is one that is cached
  apart : (g : ℕ) → ((g == f) ≡ true → ⊥) → (g == f) ≡ false
  apart g h = by (g == f) refl
    where
      by : (b : Bool) → (g == f) ≡ b → b ≡ false
      by true e = absurd (h e)
      by false e = refl

  not_named : (k : Key) (g : ℕ) (seen : Bool) → entry l k ≡ Some (InFrame g seen) → (g == f) ≡ false
  not_named k g seen at = apart g (λ e. free-unnamed l f free k (subst (Names l k) (same-is g f e)
      (subst (λ o. IsSomeAnd o (λ e. names_frame g e ≡ true)) (sym at) (same-itself g))))

  not_cached : (s : Slot) (g : ℕ) → frame_at l s ≡ Some g → (g == f) ≡ false
  not_cached s g at = apart g (λ e. free-uncached l f free s (at ∙ ap Some (same-is g f e)))

  kept : (k : Key) (o : Option Entry) (p : Option Page) → entry l k ≡ o → IsKept v d l o p → IsKept with_bytes d' l o p
  kept k None p at h = h
  kept k (Some Zero) p at h = h
  kept k (Some (InFrame g seen)) p at h = subst (Holds p) (sym (other_bytes g (not_named k g seen at))) h
  kept k (Some (InSlot s)) p at h = by (frame_at l s) refl h
    where
      by : (o : Option ℕ) → frame_at l s ≡ o → IsKeptAt v d s p o → IsKeptAt with_bytes d' s p o
      by None e h = subst (λ (o : Option (ℕ → ℕ → List ℕ)). IfSome o (λ told. Holds p (slice_index (told s.area s.page)))) (sym told) h
      by (Some g) e h = subst (Holds p) (sym (other_bytes g (not_cached s g e))) h

  clean : (s : Slot) (o : Option ℕ) → frame_at l s ≡ o → IsClean v d s o → IsClean with_bytes d' s o
  clean s None e h = h
  clean s (Some g) e h = subst (λ (o : Option (ℕ → ℕ → List ℕ)). IfSome o (λ told.
      (i : ℕ) → i < page_size → slice_index (told s.area s.page) i ≡ with_bytes.bytes g i)) (sym told)
      (subst (λ (b : ℕ → ℕ). IfSome d.pages (λ told. (i : ℕ) → i < page_size → slice_index (told s.area s.page) i ≡ b i))
      (sym (other_bytes g (not_cached s g e))) h)

  free-bytes : BytesStand v d w l → BytesStand (record v { bytes = with_at f held v.bytes }) d' w l
  free-bytes h = record {
    kept = λ p page. kept (p, page) (entry l (p, page)) (pages w p page) refl (h.kept p page);
    clean = λ s fresh low. clean s (frame_at l s) refl (h.clean s fresh low);
  }

pub lost-held : (m : Setting) (old : Held) → IsHeld m old → (f : ℕ) (held : ℕ → ℕ) (d : Device) → is_free old.ledger f ≡ true
    → d.pages ≡ old.device.pages
    → IsHeld m (record old { view = record old.view { bytes = with_at f held old.view.bytes }; device = d })
lost-held m old h f held d free told = record {
  ledger = record {
    frames = record {
      frames = h.ledger.frames.frames;
      maps = h.ledger.frames.maps;
      slots = h.ledger.frames.slots;
      dirty = h.ledger.frames.dirty;
      free = h.ledger.frames.free;
    };
    lists = record { active = h.ledger.lists.active; inactive = h.ledger.lists.inactive };
    tables = record { entries = h.ledger.tables.entries; write_bits = h.ledger.tables.write_bits };
    swap = record {
      finds = h.ledger.swap.finds;
      counts = h.ledger.swap.counts;
      flight = h.ledger.swap.flight;
      on = h.ledger.swap.on;
    };
  };
  bytes = free-bytes old.view old.device d old.world old.ledger f held free told h.bytes;
  headers = h.headers;
  covered = h.covered;
  homes = h.homes;
  items = h.items;
}

-- ---- a page without a frame is read: nothing changes

pub blank-steps : (m : Setting) (closing : Option ℕ) (old : Held) → IsHeld m old → (p page : ℕ) → IsBlank (entry old.ledger (p, page))
    → Steps m closing (Used false (p, page)) old old
blank-steps m closing old h p page blank = record {
  ledger = sym same;
  held = h;
  areas = λ a. a;
  chosen = chooses-nothing m closing old.ledger (Used false (p, page)) (free_of old.view)
      (subst (FreesNone old.ledger) (sym same) (record { frames = λ g used. used; slots = λ s used. used })) refl refl refl refl;
}
  where
    by : (o : Option Entry) → IsBlank o → after_use_of false (p, page) old.ledger o ≡ old.ledger
    by None b = refl
    by (Some Zero) b = refl
    by (Some (InFrame f seen)) b = absurd b
    by (Some (InSlot s)) b = absurd b

    same : after old.ledger (Used false (p, page)) ≡ old.ledger
    same = by (entry old.ledger (p, page)) blank
