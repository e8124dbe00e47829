-- Entries go to other pages, whatever they name; and pages go from the memories.
use Rattle.av_base.specs.Words.{is_in}
use Rattle.std.proofs.Common.{◌≡◌, ◌⊎◌, inl, inr, ℕ, ◌&&◌, List, Option, Some, None, is_none, refl, sym, ap, subst, ◌∙◌, arith, ◌==◌}
use Rattle.std.specs.Prelude.{IfSome}
use Rattle.av_base.specs.declared.slot.Slot.{Slot}
use Rattle.av_plain.specs.Choice.{Chooses, Free}
use Rattle.av_plain.specs.Device.{Device}
use Rattle.av_plain.specs.Event.{EntriesMoved, after_move}
use Rattle.av_plain.specs.Ledger.{Entry, InFrame, InSlot, Ledger, Setting, Zero, entry, frame_at, in_flight, is_stale, slot_of}
use Rattle.av_plain.specs.Sound.{holders, slots}
use Rattle.av_plain.specs.Stands.{BytesStand, IsKept, IsKeptAt, LedgerStands, Pte, View, entry_of}
use Rattle.av_plain.specs.World.{Holds}
use Rattle.av_plain.specs.World.{World, pages}
use Rattle.av_swap_laws.proofs.Free.{chooses-nothing}
use Rattle.av_swap_laws.proofs.Parts.{clean-same, kept-claims, kept-moves, shared-same}
use Rattle.av_swap_laws.specs.May.{IsAlike}

module _ (m : Setting) (v : View) (l l' : Ledger) (alike : IsAlike l l') where
  slot-same : (g : ℕ) → slot_of l' g ≡ slot_of l g
  slot-same g = ap (λ cs. slot_of (record l { cache = cs }) g) alike.cache

  -- a view that stands still: its tables have the entries at their new places, each as it was
  pub moved-stands : (table : ℕ → ℕ → Option Pte) → LedgerStands m v l → ((p page : ℕ) → entry_of (table p page) ≡ entry l' (p, page))
      → ((p page : ℕ) (t : Pte) → table p page ≡ Some t → (q : ℕ) × (other : ℕ) × (v.table q other ≡ Some t))
      → LedgerStands m (record v { table = table }) l'
  moved-stands table h entries came = record {
    frames = record {
      frames = h.frames.frames;
      maps = λ g. h.frames.maps g ∙ sym (alike.maps g);
      slots = λ g. h.frames.slots g ∙ sym (slot-same g);
      dirty = λ g. subst (λ cs. IfSome (slot_of (record l { cache = cs }) g) (λ s. v.dirty g ≡ is_stale (record l { cache = cs }) s))
          (sym alike.cache)
          (h.frames.dirty g);
      free = λ g below. h.frames.free g below ∙ (λ i. sym (alike.maps g) i == 0 && is_none (sym (slot-same g) i));
    };
    lists = record { active = h.lists.active ∙ sym alike.active; inactive = h.lists.inactive ∙ sym alike.inactive };
    tables = record {
      entries = entries;
      write_bits = λ p page t g there writes names. let was = came p page t there in
          shared-same l l' g (alike.maps g) (slot-same g) (λ s is. alike.names s) (ap (is_in g) alike.merged) ∙ h.tables.write_bits was.0 was.1 t g was.2 writes names;
    };
    swap = record {
      finds = λ s. h.swap.finds s ∙ sym (ap (λ cs. frame_at (record l { cache = cs }) s) alike.cache);
      counts = λ s. h.swap.counts s ∙ sym (alike.names s);
      flight = h.swap.flight ∙ sym alike.flight;
      on = h.swap.on ∙ sym alike.on;
    };
  }

  -- each page has the entry and the bytes of one before, or has none and holds zeros
  pub moved-bytes : (u : View) (d : Device) (w w' : World) → u.bytes ≡ v.bytes → BytesStand v d w l
      → ((p page : ℕ) → ((q : ℕ) × (other : ℕ) × (entry l' (p, page) ≡ entry l (q, other)) × (pages w' p page ≡ pages w q other))
      ⊎ ((entry l' (p, page) ≡ None) × Holds (pages w' p page) (λ _. 0)))
      → BytesStand u d w' l'
  moved-bytes u d w w' same h came = record {
    kept = λ p page. by p page (came p page);
    clean = λ s fresh low. clean-same v u d s (frame_at l s) (frame_at l' s) same (found s)
        (h.clean s (sym (ap (λ cs. is_stale (record l { cache = cs }) s) alike.cache) ∙ fresh)
        (sym (ap (λ fs. in_flight (record l { flight = fs }) s) alike.flight) ∙ low));
  }
    where
      found : (s : Slot) → frame_at l' s ≡ frame_at l s
      found s = ap (λ cs. frame_at (record l { cache = cs }) s) alike.cache

      by : (p page : ℕ) → ((q : ℕ) × (other : ℕ) × (entry l' (p, page) ≡ entry l (q, other)) × (pages w' p page ≡ pages w q other))
          ⊎ ((entry l' (p, page) ≡ None) × Holds (pages w' p page) (λ _. 0)) → IsKept u d l' (entry l' (p, page)) (pages w' p page)
      by p page (inl was) = subst (λ o. IsKept u d l' o (pages w' p page)) (sym was.2) (subst (IsKept u d l' (entry l (was.0, was.1))) (sym was.3)
          (kept-moves v u d d l l' (entry l (was.0, was.1)) (pages w was.0 was.1) same (λ t is. found t) (λ t is none held. held)
          (h.kept was.0 was.1)))
      by p page (inr none) = subst (λ o. IsKept u d l' o (pages w' p page)) (sym none.0) none.1

-- a move takes and frees nothing
pub moved-chosen : (m : Setting) (closing : Option ℕ) (l : Ledger) (p n from to : ℕ) (free : Free) → IsAlike l (after_move p n from to l)
    → Chooses m closing l (EntriesMoved p n from to) free free
moved-chosen m closing l p n from to free alike = chooses-nothing m closing l (EntriesMoved p n from to) free (record {
  frames = λ g had. let a = alike.maps g in let b = ap (λ cs. holders (record l { cache = cs }) g) alike.cache in omega (arith, a, b, had);
  slots = λ s had. let a = alike.names s in let b = ap (λ cs. slots (record l { cache = cs }) s) alike.cache in omega (arith, a, b, had);
}) refl refl refl refl

-- ---- the memories have fewer pages

pub bytes-fewer : (v : View) (d : Device) (w w' : World) (l : Ledger) → ((p page : ℕ) → (pages w' p page ≡ pages w p page) ⊎ (pages w' p page ≡ None))
    → BytesStand v d w l → BytesStand v d w' l
bytes-fewer v d w w' l fewer h = record { kept = λ p page. by p page (fewer p page); clean = h.clean }
  where
    nothing_at : (s : Slot) (f : Option ℕ) → IsKeptAt v d s None f
    nothing_at s (Some f) = tt
    nothing_at s None = told d.pages
      where
        told : (o : Option (ℕ → ℕ → List ℕ)) → IfSome o (λ told. Unit {0})
        told None = tt
        told (Some x) = tt

    nothing : (o : Option Entry) → IsKept v d l o None
    nothing None = tt
    nothing (Some Zero) = tt
    nothing (Some (InFrame f seen)) = tt
    nothing (Some (InSlot s)) = nothing_at s (frame_at l s)

    by : (p page : ℕ) → (pages w' p page ≡ pages w p page) ⊎ (pages w' p page ≡ None) → IsKept v d l (entry l (p, page)) (pages w' p page)
    by p page (inl same) = subst (IsKept v d l (entry l (p, page))) (sym same) (h.kept p page)
    by p page (inr none) = subst (IsKept v d l (entry l (p, page))) (sym none) (nothing (entry l (p, page)))

-- each page claims no more than before
pub bytes-claim-less : (v : View) (d : Device) (w w' : World) (l : Ledger)
    → ((p page : ℕ) (at : ℕ → ℕ) → Holds (pages w p page) at → Holds (pages w' p page) at) → BytesStand v d w l → BytesStand v d w' l
bytes-claim-less v d w w' l fewer h = record {
  kept = λ p page. kept-claims v d l (entry l (p, page)) (pages w p page) (pages w' p page) (fewer p page) (h.kept p page);
  clean = h.clean;
}

-- each page is as before, or has no entry and holds zeros
pub bytes-zeros : (v : View) (d : Device) (w w' : World) (l : Ledger)
    → ((p page : ℕ) → (pages w' p page ≡ pages w p page) ⊎ ((entry l (p, page) ≡ None) × Holds (pages w' p page) (λ _. 0)))
    → BytesStand v d w l → BytesStand v d w' l
bytes-zeros v d w w' l came h = record { kept = λ p page. by p page (came p page); clean = h.clean }
  where
    by : (p page : ℕ) → (pages w' p page ≡ pages w p page) ⊎ ((entry l (p, page) ≡ None) × Holds (pages w' p page) (λ _. 0))
        → IsKept v d l (entry l (p, page)) (pages w' p page)
    by p page (inl same) = subst (IsKept v d l (entry l (p, page))) (sym same) (h.kept p page)
    by p page (inr none) = subst (λ o. IsKept v d l o (pages w' p page)) (sym none.0) none.1
