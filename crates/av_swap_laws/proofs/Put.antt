-- A frame in use is put at a slot that nothing names.
use Rattle.std.proofs.Common.{◌≡◌, ℕ, ◌<◌, Bool, true, false, cond, ◌&&◌, ◌||◌, Some, is_none, refl, sym, ap, subst, ◌∙◌, arith, ◌==◌}
use Rattle.std.proofs.lemmas.Bool.Decides.{nat_tests}
use Rattle.std.proofs.lemmas.Bool.{false≢true}
use Rattle.av_base.specs.declared.slot.Slot.{Slot}
use Rattle.av_trace.specs.declared.note.Note.TheVariants.{Put}
use Rattle.av_plain.specs.Choice.{AreaSlots}
use Rattle.av_plain.specs.Device.{Device}
use Rattle.av_plain.specs.Event.{after_note, into_cache}
use Rattle.av_plain.specs.Ledger.{Ledger, Setting, entry, frame_at, in_flight, is_free, is_stale, map_count, same_slot, slot_entries, slot_of}
use Rattle.av_plain.specs.Stands.{BytesStand, IsClean, LedgerStands, View}
use Rattle.av_plain.specs.World.{World, pages}
use Rattle.av_plain.proofs.Sound.Counts.{same-is, slot-is}
use Rattle.av_swap_laws.specs.May.{MayGoOut}
use Rattle.av_swap_laws.specs.Steps.{view_cached, view_put}
use Rattle.av_swap_laws.proofs.Cache.{frame_at-into, slot_of-into}
use Rattle.av_swap_laws.proofs.Into.{into-stands}
use Rattle.av_swap_laws.proofs.Parts.{clean-same, kept-moves, named-slot}

module _ (l : Ledger) (f : ℕ) (s : Slot) (may : MayGoOut l f s) where
  abbrev now : Ledger
  now = into_cache s f true l

  -- no entry names the slot
  unnamed-at : (t : Slot) → 0 < slot_entries l t → same_slot t s ≡ false
  unnamed-at t named = by (same_slot t s) refl
    where
      by : (b : Bool) → same_slot t s ≡ b → b ≡ false
      by true e = let none = ap (slot_entries l) (slot-is t s e) ∙ may.unnamed in absurd (omega (arith, none, named))
      by false e = refl

  free-now : (g : ℕ) → is_free l g ≡ is_free now g
  free-now g = by (g == f) refl ∙ ap (λ o. map_count l g == 0 && is_none o) (sym (slot_of-into s f true l g))
    where
      positive : (n : ℕ) → 0 < n → (n == 0) ≡ false
      positive n h = grind (arith, nat_tests, h)

      neither : (b c : Bool) → b ≡ false → (b && c) ≡ (b && false)
      neither b c h = ap (λ b. b && c) h ∙ sym (ap (λ b. b && false) h)

      by : (b : Bool) → (g == f) ≡ b → (map_count l g == 0 && is_none (slot_of l g)) ≡ (map_count l g == 0 && is_none (cond b (Some s) (slot_of l g)))
      by true e = neither (map_count l g == 0) _ (positive (map_count l g) (subst (λ y. 0 < map_count l y) (sym (same-is g f e)) may.used))
      by false e = refl

  pub put-stands : (m : Setting) (v : View) (left : AreaSlots) → LedgerStands m v l → LedgerStands m (view_put f s left v) (after_note (Put f s) l)
  put-stands m v left h = record {
    frames = record {
      frames = all.frames.frames;
      maps = all.frames.maps;
      slots = all.frames.slots;
      dirty = all.frames.dirty;
      free = all.frames.free;
    };
    lists = record { active = h.lists.active; inactive = h.lists.inactive };
    tables = record { entries = all.tables.entries; write_bits = all.tables.write_bits };
    swap = record { finds = all.swap.finds; counts = all.swap.counts; flight = all.swap.flight; on = all.swap.on };
  }
    where
      all : LedgerStands m (record (view_cached f s true v) { free = v.free }) now
      all = into-stands l f s true may.absent m v h v.free (λ g below. h.frames.free g below ∙ free-now g) (λ p page t there names. may.unnamed)

  -- the bytes stay where they are: no entry names the slot, and it is stale
  module _ (v : View) (left : AreaSlots) (d : Device) (w : World) (h : BytesStand v d w l) where
    found-now : (t : Slot) → same_slot t s ≡ false → frame_at now t ≡ frame_at l t
    found-now t other = frame_at-into s f true l t ∙ ap (λ b. cond b (Some f) (frame_at l t)) other

    pub put-bytes : BytesStand (view_put f s left v) d w (after_note (Put f s) l)
    put-bytes = record {
      kept = λ p page. kept-moves v (view_put f s left v) d d l now (entry l (p, page)) (pages w p page) refl
          (λ t is. found-now t (unnamed-at t (named-slot l (p, page) t is))) (λ t is none held. held) (h.kept p page);
      clean = λ t fresh landed. by t landed (same_slot t s) refl fresh;
    }
      where
        by : (t : Slot) → in_flight l t ≡ false → (b : Bool) → same_slot t s ≡ b → ((b && true) || is_stale l t) ≡ false →
            IsClean (view_put f s left v) d t (frame_at now t)
        by t landed true e fresh = absurd (false≢true (sym fresh))
        by t landed false e fresh = clean-same v (view_put f s left v) d t (frame_at l t) (frame_at now t) refl (found-now t e)
            (h.clean t fresh landed)
