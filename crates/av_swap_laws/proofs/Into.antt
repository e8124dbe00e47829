-- A frame is cached at a slot that was not cached.
use Rattle.std.proofs.Common.{◌≡◌, ℕ, ◌<◌, Bool, true, false, cond, ◌&&◌, ◌||◌, nat_lt, List, Option, Some, None, refl, sym, ap, ◌∙◌, arith, ◌==◌}
use Rattle.av_base.specs.Words.{is_in}
use Rattle.av_base.specs.declared.slot.Slot.{Slot}
use Rattle.av_plain.specs.Event.{into_cache}
use Rattle.av_plain.specs.Fault.{is_named, asks_copy}
use Rattle.av_plain.specs.Ledger.{Ledger, Setting, is_free, is_stale, map_count, names_frame, same_slot, slot_entries, slot_of, is_merged}
use Rattle.av_plain.specs.Sound.{slots}
use Rattle.av_plain.specs.Stands.{LedgerStands, Pte, View}
use Rattle.av_plain.proofs.Sound.Counts.{pair-slot, same-is, slot-is, slot-itself, slot_of-some}
use Rattle.av_swap_laws.specs.Steps.{view_cached}
use Rattle.av_swap_laws.proofs.Cache.{frame_at-into, slot_of-into, uncached-stale}
use Rattle.av_swap_laws.proofs.Parts.{at-some, if-some, some-is, three}

module _ (l : Ledger) (f : ℕ) (s : Slot) (b : Bool) (absent : slots l s ≡ 0) where
  abbrev now : Ledger
  now = into_cache s f b l

  -- the slot that a frame had is another one
  pub apart : (g : ℕ) (t : Slot) → slot_of l g ≡ Some t → same_slot t s ≡ false
  apart g t is = by (same_slot t s) refl
    where
      by : (c : Bool) → same_slot t s ≡ c → c ≡ false
      by true e =
          let pair = slot_of-some g t l.cache is in
          let held = pair-slot t g l.cache in
          let none = ap (slots l) (slot-is t s e) ∙ absent in
          absurd (omega (arith, pair, held, none))
      by false e = refl

  module _ (m : Setting) (v : View) (h : LedgerStands m v l) where
    dirty-now : (g : ℕ) (t : Slot) → slot_of now g ≡ Some t → cond (g == f) b (v.dirty g) ≡ is_stale now t
    dirty-now g t is = by (g == f) (sym (slot_of-into s f b l g) ∙ is)
      where
        by : (c : Bool) → cond c (Some s) (slot_of l g) ≡ Some t → cond c b (v.dirty g) ≡ ((same_slot t s && b) || is_stale l t)
        by true e = let same = sym (some-is s t e) in
            sym ((λ i. ((ap (λ r. same_slot r s) same ∙ slot-itself s) i && b) || (ap (is_stale l) same ∙ uncached-stale s l absent) i) ∙ either b)
          where
            either : (b : Bool) → (b || false) ≡ b
            either true = refl
            either false = refl
        by false e = at-some (slot_of l g) (λ t. v.dirty g ≡ is_stale l t) t (h.frames.dirty g) e
            ∙ sym (ap (λ c. (c && b) || is_stale l t) (apart g t e))

    -- a frame that no write has to copy is so still: where an entry names this one, none names the slot
    shared-now : (g : ℕ) → ((g == f) ≡ true → slot_entries l s ≡ 0) → asks_copy l g ≡ false → asks_copy now g ≡ false
    shared-now g unnamed alone = (λ i. nat_lt 1 (map_count l g) || is_named now (slot_of-into s f b l g i) || is_merged l g) ∙ by (g == f) refl
      where
        same : (o : Option Slot) → is_named now o ≡ is_named l o
        same None = refl
        same (Some t) = refl

        by : (c : Bool) → (g == f) ≡ c → (nat_lt 1 (map_count l g) || is_named now (cond c (Some s) (slot_of l g)) || is_merged l g) ≡ false
        by true e = three (nat_lt 1 (map_count l g)) (is_named l (slot_of l g)) (is_merged l g) _ _ _ alone (λ e. e)
            (λ _. ap (nat_lt 0) (unnamed e)) (λ e. e)
        by false e = ap (λ b. nat_lt 1 (map_count l g) || b || is_merged l g) (same (slot_of l g)) ∙ alone

    pub into-stands : (free : List ℕ) → ((g : ℕ) → g < m.frames → is_in g free ≡ is_free now g)
        → ((p page : ℕ) (t : Pte) → v.table p page ≡ Some t → names_frame f t.entry ≡ true → slot_entries l s ≡ 0)
        → LedgerStands m (record (view_cached f s b v) { free = free }) (into_cache s f b l)
    into-stands free right lone = record {
      frames = record {
        frames = h.frames.frames;
        maps = h.frames.maps;
        slots = λ g. ap (cond (g == f) (Some s)) (h.frames.slots g) ∙ sym (slot_of-into s f b l g);
        dirty = λ g. if-some (slot_of now g) _ (dirty-now g);
        free = right;
      };
      lists = record { active = h.lists.active; inactive = h.lists.inactive };
      tables = record {
        entries = h.tables.entries;
        write_bits = λ p page t g there writes names. shared-now g
            (λ e. lone p page t there (ap (λ g. names_frame g t.entry) (sym (same-is g f e)) ∙ names))
            (h.tables.write_bits p page t g there writes names);
      };
      swap = record {
        finds = λ t. ap (cond (same_slot t s) (Some f)) (h.swap.finds t) ∙ sym (frame_at-into s f b l t);
        counts = h.swap.counts;
        flight = h.swap.flight;
        on = h.swap.on;
      };
    }
