-- The page of a cached slot is to be written, or is not any more.
use Rattle.std.proofs.Common.{◌≡◌, ℕ, Bool, true, false, cond, ◌&&◌, Some, is_none, refl, sym, ap, ◌∙◌, arith, ◌==◌}
use Rattle.std.proofs.lemmas.Bool.Decides.{nat_tests}
use Rattle.av_base.specs.declared.slot.Slot.{Slot}
use Rattle.av_base.specs.Words.{with_at}
use Rattle.av_plain.specs.Event.{with_stale}
use Rattle.av_plain.specs.Fault.{asks_copy}
use Rattle.av_plain.specs.Ledger.{Ledger, Setting, frame_at, is_stale, map_count, same_slot, slot_of}
use Rattle.av_plain.specs.Stands.{LedgerStands, View}
use Rattle.av_plain.proofs.Sound.Counts.{same-is, slot-is}
use Rattle.av_plain.proofs.Covered.Slots.{frame_at-stale}
use Rattle.av_swap_laws.specs.May.{AreOnce}
use Rattle.av_swap_laws.proofs.Cache.{cached-is, frame-slot, is_stale-itself, is_stale-other, slot-frame, slot_of-stale}
use Rattle.av_swap_laws.proofs.Parts.{at-some, if-some, shared-same, some-is}

module _ (l : Ledger) (f : ℕ) (s : Slot) (once : AreOnce l) (cached : frame_at l s ≡ Some f) where
  -- another frame has another slot
  pub other_slot : (g : ℕ) (t : Slot) → (g == f) ≡ false → slot_of l g ≡ Some t → same_slot t s ≡ false
  other_slot g t other is = by (same_slot t s) refl
    where
      clash : g ≡ f → (g == f) ≡ false → ⊥
      clash e i = grind (arith, nat_tests)

      by : (b : Bool) → same_slot t s ≡ b → b ≡ false
      by true e = absurd (clash (some-is g f (sym (slot-frame l once g t is) ∙ ap (frame_at l) (slot-is t s e) ∙ cached)) other)
      by false e = refl

  module _ (m : Setting) (v : View) (b : Bool) (h : LedgerStands m v l) where
    abbrev now : Ledger
    now = with_stale b s l

    dirty-now : (g : ℕ) (t : Slot) → slot_of l g ≡ Some t → cond (g == f) b (v.dirty g) ≡ is_stale now t
    dirty-now g t is = by (g == f) refl
      where
        by : (c : Bool) → (g == f) ≡ c → cond c b (v.dirty g) ≡ is_stale now t
        by true e = sym (is_stale-itself b s l (cached-is s f l cached))
            ∙ ap (is_stale now) (some-is s t (sym (frame-slot l once f s cached) ∙ ap (slot_of l) (sym (same-is g f e)) ∙ is))
        by false e = at-some (slot_of l g) (λ t. v.dirty g ≡ is_stale l t) t (h.frames.dirty g) is
            ∙ sym (is_stale-other b s l t (other_slot g t e is))

    shared-now : (g : ℕ) → asks_copy now g ≡ asks_copy l g
    shared-now g = shared-same l now g refl (slot_of-stale b s l g) (λ t is. refl) refl

    pub restale-stands : LedgerStands m (record v { dirty = with_at f b v.dirty }) (with_stale b s l)
    restale-stands = record {
      frames = record {
        frames = h.frames.frames;
        maps = h.frames.maps;
        slots = λ g. h.frames.slots g ∙ sym (slot_of-stale b s l g);
        dirty = λ g. if-some (slot_of now g) _ (λ t is. dirty-now g t (sym (slot_of-stale b s l g) ∙ is));
        free = λ g below. h.frames.free g below ∙ ap (λ o. map_count l g == 0 && is_none o) (sym (slot_of-stale b s l g));
      };
      lists = record { active = h.lists.active; inactive = h.lists.inactive };
      tables = record {
        entries = h.tables.entries;
        write_bits = λ p page t g there writes names. shared-now g ∙ h.tables.write_bits p page t g there writes names;
      };
      swap = record {
        finds = λ t. h.swap.finds t ∙ sym (frame_at-stale b s t l);
        counts = h.swap.counts;
        flight = h.swap.flight;
        on = h.swap.on;
      };
    }
