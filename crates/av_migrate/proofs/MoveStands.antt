-- What stands for the ledger, and for the bytes, once a frame has gone over to another.
use Rattle.std.proofs.Common.{◌≡◌, ℕ, ◌<◌, Bool, true, false, cond, not, ◌||◌, List, [], ◌∷◌, map, Option, Some, None, IfSome, option_map, refl, sym, ap, subst, ◌∙◌, arith, ◌==◌}
use Rattle.std.proofs.lemmas.Bool.Decides.{nat_tests}
use Rattle.std.proofs.lemmas.Bool.{false≢true}
use Rattle.std.specs.List.{list_any}
use Rattle.std.specs.Prelude.{slice_index}
use Rattle.av_base.specs.Page.{page_size}
use Rattle.av_base.specs.Words.{is_in, renamed, with_at, without}
use Rattle.av_base.specs.declared.slot.Slot.{Slot}
use Rattle.av_plain.specs.Device.{Device}
use Rattle.av_plain.specs.Event.{placed_entry, with_places}
use Rattle.av_plain.specs.Fault.{asks_copy}
use Rattle.av_plain.specs.Ledger.{Entry, InFrame, InSlot, Ledger, Setting, Zero, entry, frame_at, is_free, is_stale, names_frame, slot_of}
use Rattle.av_plain.specs.Sound.{IsSound, no_excuse, uses}
use Rattle.av_plain.specs.Stands.{BytesStand, IsClean, IsKept, IsKeptAt, LedgerStands, Pte, View, entry_of}
use Rattle.av_plain.specs.World.{Holds, Page, World, pages}
use Rattle.av_plain.proofs.Event.{entry-renamed, slot_entries-renamed}
use Rattle.av_plain.proofs.Sound.Changes.{free-is}
use Rattle.av_plain.proofs.Sound.Counts.{same-is, same-turned}
use Rattle.av_plain.proofs.Sound.Sharing.{before, not_to}
use Rattle.av_swap_laws.proofs.Parts.{none-some, some-is}
use Rattle.av_migrate.specs.Move.{MayMove, pte_moved, view_moved}
use Rattle.av_migrate.proofs.MoveCounts.{cached-other, copy-went, frame_at-went, free-went, gone-along, maps-went, slot_of-went, stale-went}

-- a list without a frame has the others
pub without-in : (f g : ℕ) (fs : List ℕ) → is_in g (without f fs) ≡ cond (g == f) false (is_in g fs)
without-in f g [] = by (g == f)
  where
    by : (b : Bool) → false ≡ cond b false false
    by true = refl
    by false = refl
without-in f g (x ∷ fs) = kept (f == x) refl (without-in f g fs)
  where
    other : (f == x) ≡ true → (g == x) ≡ (g == f)
    other e = ap (λ y. g == y) (sym (same-is f x e))

    same : (a b c : Bool) → a ≡ b → c ≡ cond b false (list_any (λ y. g == y) fs) → c ≡ cond b false (a || list_any (λ y. g == y) fs)
    same true true c e h = h
    same true false c e h = absurd (false≢true (sym e))
    same false true c e h = h
    same false false c e h = h

    apart : (a b c : Bool) → (a ≡ true → b ≡ false) → c ≡ cond b false (list_any (λ y. g == y) fs)
        → (a || c) ≡ cond b false (a || list_any (λ y. g == y) fs)
    apart true true c e h = absurd (false≢true (sym (e refl)))
    apart true false c e h = refl
    apart false b c e h = h

    differs : (f == x) ≡ false → (g == x) ≡ true → (g == f) ≡ false
    differs e i = grind (arith, nat_tests, e, i)

    kept : (b : Bool) → (f == x) ≡ b → is_in g (without f fs) ≡ cond (g == f) false (is_in g fs)
        → is_in g (cond (not b) (x ∷ without f fs) (without f fs)) ≡ cond (g == f) false ((g == x) || is_in g fs)
    kept true e h = same (g == x) (g == f) _ (other e) h
    kept false e h = apart (g == x) (g == f) _ (differs e) h

module _ (m : Setting) (l : Ledger) (from to : ℕ) (s : IsSound m l) (may : MayMove m l from to) where
  abbrev went : Ledger
  went = with_places (renamed from to) l

  -- what a place has after it is what its frame had
  pub at-place : {X : Type 0} (g : ℕ → X) (f : ℕ) → (to == f) ≡ false → with_at to (g from) g (renamed from to f) ≡ g f
  at-place g f other = by (f == from) refl
    where
      there : (b : Bool) → b ≡ true → cond b (g from) (g to) ≡ g from
      there true e = refl
      there false e = absurd (false≢true e)

      by : (b : Bool) → (f == from) ≡ b → cond (cond b to f == to) (g from) (g (cond b to f)) ≡ g f
      by true e = there (to == to) (grind (arith, nat_tests)) ∙ ap g (sym (same-is f from e))
      by false e = ap (λ b. cond b (g from) (g f)) (sym (same-turned to f) ∙ other)

  module _ (v : View) (h : LedgerStands m v l) where
    abbrev now : View
    now = view_moved from to v

    free-now : (f : ℕ) → f < m.frames → is_in f now.free ≡ is_free went f
    free-now f below = ap (λ b. (f == from) || b) (without-in to f v.free) ∙ by (f == from) (f == to) refl ∙ sym (free-went m l from to s may f)
      where
        used : false ≡ is_free l from
        used = sym (free-is l from ∙ some (uses l from) may.used)
          where
            some : (n : ℕ) → 0 < n → (n == 0) ≡ false
            some n e = grind (arith, nat_tests, e)

        by : (a b : Bool) → (f == to) ≡ b → (a || cond b false (is_in f v.free)) ≡ cond a true (is_free l (cond b from f))
        by true b e = refl
        by false true e = used
        by false false e = h.frames.free f below

    table-now : (o : Option Pte) → entry_of (option_map (pte_moved from to) o) ≡ option_map (placed_entry (renamed from to)) (entry_of o)
    table-now None = refl
    table-now (Some t) = refl

    -- an entry that may be written as it is names the place of a frame that asks for no copy
    writes-now : (p page : ℕ) (t : Pte) (g : ℕ) → option_map (pte_moved from to) (v.table p page) ≡ Some t → t.write ≡ true
        → names_frame g t.entry ≡ true → asks_copy went g ≡ false
    writes-now p page t g there writes names = found (v.table p page) refl there
      where
        found : (o : Option Pte) → v.table p page ≡ o → option_map (pte_moved from to) o ≡ Some t → asks_copy went g ≡ false
        found None e is = absurd (none-some t is)
        found (Some u) e is = by u.entry refl (ap (λ (t : Pte). names_frame g t.entry) moved ∙ names)
          where
            moved : pte_moved from to u ≡ t
            moved = some-is (pte_moved from to u) t is

            at : entry l (p, page) ≡ Some u.entry
            at = sym (h.tables.entries p page) ∙ ap entry_of e

            by : (x : Entry) → u.entry ≡ x → names_frame g (placed_entry (renamed from to) x) ≡ true → asks_copy went g ≡ false
            by Zero i n = absurd (false≢true n)
            by (InSlot r) i n = absurd (false≢true n)
            by (InFrame j seen) i n =
                let other = not_to m no_excuse l from to s may.free may.used may.below (p, page) j seen (at ∙ ap Some i) in
                ap (asks_copy went) (same-is g (renamed from to j) n) ∙ copy-went m l from to s may j other
                ∙ h.tables.write_bits p page u j e (ap (λ (t : Pte). t.write) moved ∙ writes) (ap (names_frame j) i ∙ itself)
              where
                itself : (j == j) ≡ true
                itself = grind (arith, nat_tests)

    dirty-now : (f : ℕ) → IfSome (slot_of went f) (λ t. with_at to (v.dirty from) v.dirty f ≡ is_stale went t)
    dirty-now f = subst (λ o. IfSome o (λ t. with_at to (v.dirty from) v.dirty f ≡ is_stale went t)) (sym (slot_of-went m l from to s may f))
        (by (f == from) (f == to))
      where
        each : (d : Bool) (o : Option Slot) → IfSome o (λ t. d ≡ is_stale l t) → IfSome o (λ t. d ≡ is_stale went t)
        each d None h = tt
        each d (Some t) h = h ∙ sym (stale-went m l from to s may t)

        by : (a b : Bool) → IfSome (cond a None (slot_of l (cond b from f))) (λ t. cond b (v.dirty from) (v.dirty f) ≡ is_stale went t)
        by true b = tt
        by false true = each (v.dirty from) (slot_of l from) (h.frames.dirty from)
        by false false = each (v.dirty f) (slot_of l f) (h.frames.dirty f)

    pub moved-stands : LedgerStands m (view_moved from to v) (with_places (renamed from to) l)
    moved-stands = record {
      frames = record {
        frames = h.frames.frames;
        maps = λ f. gone-along from to 0 v.maps f ∙ ap (λ n. cond (f == from) 0 n) (h.frames.maps (before from to f))
            ∙ sym (maps-went m l from to s may f);
        slots = λ f. gone-along from to None v.slot f ∙ ap (λ o. cond (f == from) None o) (h.frames.slots (before from to f))
            ∙ sym (slot_of-went m l from to s may f);
        dirty = dirty-now;
        free = free-now;
      };
      lists = record { active = ap (map (renamed from to)) h.lists.active; inactive = ap (map (renamed from to)) h.lists.inactive };
      tables = record {
        entries = λ p page. table-now (v.table p page) ∙ ap (option_map (placed_entry (renamed from to))) (h.tables.entries p page)
            ∙ sym (entry-renamed from to l (p, page));
        write_bits = writes-now;
      };
      swap = record {
        finds = λ t. ap (option_map (renamed from to)) (h.swap.finds t) ∙ sym (frame_at-went m l from to s may t);
        counts = λ t. h.swap.counts t ∙ sym (slot_entries-renamed from to l t);
        flight = h.swap.flight;
        on = h.swap.on;
      };
    }

  -- what a page claims goes along with its frame
  module _ (v : View) (d : Device) (w : World) (h : BytesStand v d w l) where
    holds-now : (g : ℕ) (q : Option Page) → (to == g) ≡ false → Holds q (v.bytes g) → Holds q ((view_moved from to v).bytes (renamed from to g))
    holds-now g q other k = subst (λ (b : ℕ → ℕ). Holds q b) (sym (at-place v.bytes g other)) k

    kept-at : (t : Slot) (q : Option Page) → IsKeptAt v d t q (frame_at l t) → IsKeptAt (view_moved from to v) d t q (frame_at went t)
    kept-at t q k = subst (IsKeptAt (view_moved from to v) d t q) (sym (frame_at-went m l from to s may t)) (by (frame_at l t) refl k)
      where
        by : (o : Option ℕ) → frame_at l t ≡ o → IsKeptAt v d t q o → IsKeptAt (view_moved from to v) d t q (option_map (renamed from to) o)
        by None e k = k
        by (Some g) e k = holds-now g q (cached-other m l from to s may t g e) k

    clean-at : (t : Slot) → IsClean v d t (frame_at l t) → IsClean (view_moved from to v) d t (frame_at went t)
    clean-at t k = subst (IsClean (view_moved from to v) d t) (sym (frame_at-went m l from to s may t)) (by (frame_at l t) refl k)
      where
        by : (o : Option ℕ) → frame_at l t ≡ o → IsClean v d t o → IsClean (view_moved from to v) d t (option_map (renamed from to) o)
        by None e k = tt
        by (Some g) e k = subst (λ (b : ℕ → ℕ). IfSome d.pages (λ told. (i : ℕ) → i < page_size → slice_index (told t.area t.page) i ≡ b i))
            (sym (at-place v.bytes g (cached-other m l from to s may t g e))) k

    pub moved-bytes : BytesStand (view_moved from to v) d w (with_places (renamed from to) l)
    moved-bytes = record {
      kept = λ p page. subst (λ o. IsKept (view_moved from to v) d went o (pages w p page)) (sym (entry-renamed from to l (p, page)))
          (by p page (entry l (p, page)) refl (h.kept p page));
      clean = λ t fresh landed. clean-at t (h.clean t (sym (stale-went m l from to s may t) ∙ fresh) landed);
    }
      where
        by : (p page : ℕ) (o : Option Entry) → entry l (p, page) ≡ o → IsKept v d l o (pages w p page)
            → IsKept (view_moved from to v) d went (option_map (placed_entry (renamed from to)) o) (pages w p page)
        by p page None at k = k
        by p page (Some Zero) at k = k
        by p page (Some (InSlot t)) at k = kept-at t (pages w p page) k
        by p page (Some (InFrame g seen)) at k =
            holds-now g (pages w p page) (not_to m no_excuse l from to s may.free may.used may.below (p, page) g seen at) k
