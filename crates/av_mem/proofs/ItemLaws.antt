-- The items of merged frames as an entry goes, and as a slot is dropped: a frame that is free then has none, and all others keep theirs.
use Rattle.std.proofs.Common.{◌≡◌, ℕ, ◌-◌, ◌==◌, ◌&&◌, Bool, true, false, cond, Some, is_none, T, refl, sym, ap, subst, ◌∙◌}
use Rattle.std.specs.FinMap.Entries.{is_sorted}
use Rattle.av_base.specs.Keys.{key_cmp}
use Rattle.av_base.specs.Words.{with_at}
use Rattle.av_base.specs.declared.slot.Slot.{Slot}
use Rattle.av_trace.specs.declared.note.Note.TheVariants.{Dropped}
use Rattle.av_plain.specs.Areas.{Items}
use Rattle.av_plain.specs.Event.{after_note, after_zap, off_cache, off_lists, settle_entry}
use Rattle.av_plain.specs.Ledger.{Entry, InFrame, InSlot, Ledger, Setting, Zero, entry, frame_at, map_count}
use Rattle.av_plain.specs.Stands.{ItemsAre, LedgerStands, View}
use Rattle.av_plain.proofs.Zap.{after_zap-is, leaving}
use Rattle.av_swap_laws.specs.May.{AreOnce}
use Rattle.av_swap_laws.specs.Steps.{view_cleared, view_drop, view_freed, view_given_back, view_uncached, view_zap, with_at_slot}
use Rattle.av_swap_laws.proofs.Drop.{after-is}
use Rattle.av_swap_laws.proofs.Whole.{items-freed, items-same}
use Rattle.av_swap_laws.proofs.Zap.{frees}

-- ---- an entry goes

-- what is left, but for what is freed or given back
abbrev frame_left : ℕ → ℕ → ℕ → View → View
frame_left p page f v = record (view_cleared p page v) { maps = with_at f (v.maps f - 1) v.maps }

abbrev slot_left : ℕ → ℕ → Slot → View → View
slot_left p page s v = record (view_cleared p page v) { entries = with_at_slot s (v.entries s - 1) v.entries }

module _ (m : Setting) (v : View) (l : Ledger) (p page : ℕ) (sorted : T (is_sorted key_cmp l.entries)) (h : LedgerStands m v l) where
  -- the ledger, by what the entry was
  gone-by : (e : Entry) → entry l (p, page) ≡ Some e → after_zap (p, page) l ≡ settle_entry (Some e) (leaving (p, page) l)
  gone-by e at = after_zap-is (p, page) l ∙ ap (λ o. settle_entry o (leaving (p, page) l)) at

  pub items-zap-zero : entry l (p, page) ≡ Some Zero → (items : Items) → ItemsAre v l items
      → ItemsAre (view_zap p page Zero v) (after_zap (p, page) l) items
  items-zap-zero at items are = items-same (view_zap p page Zero v) v l (after_zap (p, page) l) items refl
      (ap (λ (k : Ledger). k.merged) (gone-by Zero at)) are

  pub items-zap-frame : (f : ℕ) (seen : Bool) → entry l (p, page) ≡ Some (InFrame f seen) → (items : Items) → ItemsAre v l items
      → ItemsAre (view_zap p page (InFrame f seen) v) (after_zap (p, page) l) items
  items-zap-frame f seen at items are = subst (λ k. ItemsAre (view_zap p page (InFrame f seen) v) k items) (sym (gone-by (InFrame f seen) at))
      (subst (λ c. ItemsAre (view_zap p page (InFrame f seen) v) (cond c (off_lists f (leaving (p, page) l)) (leaving (p, page) l)) items)
      (sym (frees m v l p page sorted h f seen at)) (by (v.maps f == 1 && is_none (v.slot f))))
    where
      by : (b : Bool) → ItemsAre (cond b (view_freed f (frame_left p page f v)) (frame_left p page f v)) (cond b (off_lists f (leaving (p, page) l)) (leaving (p, page) l)) items
      by true = items-freed (view_freed f (frame_left p page f v)) v l (off_lists f (leaving (p, page) l)) f items refl refl are
      by false = are

  pub items-zap-slot : (s : Slot) → entry l (p, page) ≡ Some (InSlot s) → (items : Items) → ItemsAre v l items
      → ItemsAre (view_zap p page (InSlot s) v) (after_zap (p, page) l) items
  items-zap-slot s at items are = items-same (view_zap p page (InSlot s) v) v l (after_zap (p, page) l) items
      (by (v.entries s == 1 && is_none (v.find s))) (ap (λ (k : Ledger). k.merged) (gone-by (InSlot s) at)) are
    where
      by : (b : Bool) → (cond b (view_given_back s (slot_left p page s v)) (slot_left p page s v)).items ≡ v.items
      by true = refl
      by false = refl

-- ---- a slot is dropped

-- its frame is freed where this says so
abbrev left_by : ℕ → Slot → View → Bool → View
left_by f s v a = cond a (view_freed f (view_uncached f s v)) (view_uncached f s v)

pub items-drop : (l : Ledger) (f : ℕ) (s : Slot) → AreOnce l → frame_at l s ≡ Some f → (m : Setting) (v : View) → LedgerStands m v l
    → (items : Items) → ItemsAre v l items → ItemsAre (view_drop f s v) (after_note (Dropped s) l) items
items-drop l f s once cached m v h items are = subst (λ k. ItemsAre (view_drop f s v) k items)
    (sym (after-is l f s once cached (map_count l f == 0) refl))
    (subst (λ n. ItemsAre (view_drop f s v) (cond (n == 0) (off_lists f (off_cache s l)) (off_cache s l)) items)
    (h.frames.maps f) (by (v.maps f == 0) (v.entries s == 0)))
  where
    by : (a b : Bool) → ItemsAre (cond b (view_given_back s (left_by f s v a)) (left_by f s v a))
        (cond a (off_lists f (off_cache s l)) (off_cache s l)) items
    by true true = items-freed (view_given_back s (view_freed f (view_uncached f s v))) v l (off_lists f (off_cache s l)) f items refl refl are
    by true false = items-freed (view_freed f (view_uncached f s v)) v l (off_lists f (off_cache s l)) f items refl refl are
    by false true = are
    by false false = are
