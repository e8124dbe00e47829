-- A frame moves in the lists, and its entries are unseen.
use Rattle.std.proofs.Common.{◌≡◌, ℕ, Bool, true, false, cond, ◌&&◌, ◌∷◌, Option, Some, None, is_none, option_map, refl, sym, ap, subst, ◌∙◌, ◌==◌}
use Rattle.av_trace.specs.declared.note.Cause.TheVariants.{Ksm, Locked, NoSlot, Referenced, WriteStarted, Writeback}
use Rattle.av_trace.specs.declared.note.Note.TheVariants.{Aged, Kept}
use Rattle.av_plain.specs.Device.{Device}
use Rattle.av_base.specs.Words.{without}
use Rattle.av_plain.specs.Event.{after_note, change_entries, to_active, to_inactive_head, without_seen}
use Rattle.av_plain.specs.Fault.{asks_copy}
use Rattle.av_plain.specs.Ledger.{Entry, InFrame, InSlot, Ledger, Setting, Zero, entry, names_frame, slot_of}
use Rattle.av_plain.specs.Stands.{BytesStand, IsKept, LedgerStands, Pte, View, entry_of}
use Rattle.av_plain.specs.World.{Page, World, pages}
use Rattle.av_plain.proofs.Event.{entry-unseen, map_count-unseen, slot_entries-unseen, to_unseen, unseen-by}
use Rattle.av_swap_laws.specs.Steps.{pte_unseen, view_to_active, view_to_head, view_unseen}
use Rattle.av_swap_laws.proofs.Parts.{none-some, shared-same, some-is}

-- ---- entries that are unseen

module _ (m : Setting) (v : View) (l : Ledger) (f : ℕ) (h : LedgerStands m v l) where
  abbrev now : Ledger
  now = change_entries f without_seen l

  shared-now : (g : ℕ) → asks_copy now g ≡ asks_copy l g
  shared-now g = shared-same l now g (map_count-unseen f l g) refl (λ t is. slot_entries-unseen f l t) refl

  table-now : (o : Option Pte) → entry_of (option_map (pte_unseen f) o) ≡ option_map (to_unseen f) (entry_of o)
  table-now None = refl
  table-now (Some t) = by (names_frame f t.entry)
    where
      by : (b : Bool) → Some (cond b (record t { entry = without_seen t.entry }) t).entry ≡ Some (cond b (without_seen t.entry) t.entry)
      by true = refl
      by false = refl

  writes-now : (p page : ℕ) (t : Pte) (g : ℕ) → option_map (pte_unseen f) (v.table p page) ≡ Some t → t.write ≡ true → names_frame g t.entry ≡ true →
      asks_copy now g ≡ false
  writes-now p page t g there writes names = found (v.table p page) refl there
    where
      found : (o : Option Pte) → v.table p page ≡ o → option_map (pte_unseen f) o ≡ Some t → asks_copy now g ≡ false
      found None e is = absurd (none-some t is)
      found (Some u) e is = shared-now g ∙ h.tables.write_bits p page u g e
          (sym (bit (names_frame f u.entry)) ∙ ap (λ (t : Pte). t.write) same ∙ writes)
          (sym (name (names_frame f u.entry) refl) ∙ ap (λ (t : Pte). names_frame g t.entry) same ∙ names)
        where
          same : pte_unseen f u ≡ t
          same = some-is _ t is

          bit : (b : Bool) → (cond b (record u { entry = without_seen u.entry }) u).write ≡ u.write
          bit true = refl
          bit false = refl

          name : (b : Bool) → names_frame f u.entry ≡ b → names_frame g
              (cond b (record u { entry = without_seen u.entry }) u).entry ≡ names_frame g u.entry
          name true e = ap (λ b. names_frame g (cond b (without_seen u.entry) u.entry)) (sym e)
              ∙ unseen-by f (names_frame g) (λ i seen now. refl) u.entry
          name false e = refl

  pub unseen-stands : LedgerStands m (view_unseen f v) (change_entries f without_seen l)
  unseen-stands = record {
    frames = record {
      frames = h.frames.frames;
      maps = λ g. h.frames.maps g ∙ sym (map_count-unseen f l g);
      slots = h.frames.slots;
      dirty = h.frames.dirty;
      free = λ g below. h.frames.free g below ∙ ap (λ n. n == 0 && is_none (slot_of l g)) (sym (map_count-unseen f l g));
    };
    lists = record { active = h.lists.active; inactive = h.lists.inactive };
    tables = record {
      entries = λ p page. table-now (v.table p page) ∙ ap (option_map (to_unseen f)) (h.tables.entries p page) ∙ sym (entry-unseen f l (p, page));
      write_bits = writes-now;
    };
    swap = record {
      finds = h.swap.finds;
      counts = λ t. h.swap.counts t ∙ sym (slot_entries-unseen f l t);
      flight = h.swap.flight;
      on = h.swap.on;
    };
  }

pub unseen-bytes : (v : View) (d : Device) (w : World) (l : Ledger) (f : ℕ) → BytesStand v d w l
    → BytesStand (view_unseen f v) d w (change_entries f without_seen l)
unseen-bytes v d w l f h = record {
  kept = λ p page. subst (λ o. IsKept (view_unseen f v) d (change_entries f without_seen l) o (pages w p page)) (sym (entry-unseen f l (p, page)))
      (by (entry l (p, page)) (pages w p page) (h.kept p page));
  clean = h.clean;
}
  where
    by : (o : Option Entry) (q : Option Page) → IsKept v d l o q
        → IsKept (view_unseen f v) d (change_entries f without_seen l) (option_map (to_unseen f) o) q
    by None q k = k
    by (Some Zero) q k = k
    by (Some (InSlot t)) q k = k
    by (Some (InFrame g seen)) q k = one (f == g)
      where
        one : (b : Bool) → IsKept (view_unseen f v) d (change_entries f without_seen l) (Some (cond b (InFrame g false) (InFrame g seen))) q
        one true = k
        one false = k

-- ---- lists

module _ (m : Setting) (v : View) (l : Ledger) (f : ℕ) (h : LedgerStands m v l) where
  pub head-stands : LedgerStands m (view_to_head f v) (to_inactive_head f l)
  head-stands = record {
    frames = record { frames = h.frames.frames; maps = h.frames.maps; slots = h.frames.slots; dirty = h.frames.dirty; free = h.frames.free };
    lists = record { active = ap (without f) h.lists.active; inactive = ap (λ fs. f ∷ without f fs) h.lists.inactive };
    tables = record { entries = h.tables.entries; write_bits = h.tables.write_bits };
    swap = record { finds = h.swap.finds; counts = h.swap.counts; flight = h.swap.flight; on = h.swap.on };
  }

  pub active-stands : LedgerStands m (view_to_active f v) (to_active f l)
  active-stands = record {
    frames = record { frames = h.frames.frames; maps = h.frames.maps; slots = h.frames.slots; dirty = h.frames.dirty; free = h.frames.free };
    lists = record { active = ap (λ fs. f ∷ without f fs) h.lists.active; inactive = ap (without f) h.lists.inactive };
    tables = record { entries = h.tables.entries; write_bits = h.tables.write_bits };
    swap = record { finds = h.swap.finds; counts = h.swap.counts; flight = h.swap.flight; on = h.swap.on };
  }

-- a ledger and a view that differ in their lists alone hold the same bytes
pub lists-bytes : (v : View) (d : Device) (w : World) (l : Ledger) (f : ℕ) → BytesStand v d w l
    → BytesStand (view_to_head f v) d w (to_inactive_head f l)
lists-bytes v d w l f h = record { kept = h.kept; clean = h.clean }

pub active-bytes : (v : View) (d : Device) (w : World) (l : Ledger) (f : ℕ) → BytesStand v d w l → BytesStand (view_to_active f v) d w (to_active f l)
active-bytes v d w l f h = record { kept = h.kept; clean = h.clean }

-- ---- the notes

module _ (m : Setting) (v : View) (l : Ledger) (f : ℕ) (h : LedgerStands m v l) where
  pub writeback-stands : LedgerStands m (view_to_head f v) (after_note (Kept f Writeback) l)
  writeback-stands = head-stands m v l f h

  pub write_started-stands : LedgerStands m (view_to_head f v) (after_note (Kept f WriteStarted) l)
  write_started-stands = head-stands m v l f h

  pub no_slot-stands : LedgerStands m (view_to_active f v) (after_note (Kept f NoSlot) l)
  no_slot-stands = active-stands m v l f h

  pub locked-stands : LedgerStands m (view_to_active f v) (after_note (Kept f Locked) l)
  locked-stands = active-stands m v l f h

  pub ksm-stands : LedgerStands m (view_to_active f v) (after_note (Kept f Ksm) l)
  ksm-stands = active-stands m v l f h

  pub referenced-stands : LedgerStands m (view_to_active f (view_unseen f v)) (after_note (Kept f Referenced) l)
  referenced-stands = active-stands m (view_unseen f v) (change_entries f without_seen l) f (unseen-stands m v l f h)

  pub aged-stands : LedgerStands m (view_to_head f (view_unseen f v)) (after_note (Aged f) l)
  aged-stands = head-stands m (view_unseen f v) (change_entries f without_seen l) f (unseen-stands m v l f h)
