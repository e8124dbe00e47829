-- The bytes of a page that gets the page of zeros, its first frame or a copy.
use Rattle.av_plain.proofs.Covered.Page.{copied-cache, copied-entries}
use Rattle.std.proofs.Common.{◌≡◌, ℕ, ◌<◌, Bool, true, false, cond, List, Option, Some, None, refl, sym, ap, subst, ◌∙◌, arith, ◌==◌}
use Rattle.std.specs.Prelude.{IfSome, slice_index}
use Rattle.av_base.specs.Keys.{Key, same_key}
use Rattle.av_base.proofs.Keys.{same_key-is}
use Rattle.av_base.specs.Page.{page_of, page_size}
use Rattle.av_base.specs.Words.{with_at}
use Rattle.av_base.specs.declared.slot.Slot.{Slot}
use Rattle.av_trace.specs.declared.note.Note.TheVariants.{Copied, New, Zeroed}
use Rattle.av_plain.specs.Device.{Device}
use Rattle.av_plain.specs.Event.{after_note, set_entry, change_frame, off_lists, settle_entry, to_inactive_head}
use Rattle.av_plain.specs.Ledger.{IsBlank, Entry, InFrame, InSlot, Ledger, Zero, entry, frame_at, in_flight, is_free, is_stale, map_count, names_frame}
use Rattle.av_plain.specs.Stands.{BytesStand, IsClean, IsKept, IsKeptAt, View}
use Rattle.av_plain.specs.World.{Holds}
use Rattle.av_plain.specs.World.{Page, World, pages}
use Rattle.av_plain.proofs.Ledger.{entry-set, how_many-found}
use Rattle.av_plain.proofs.Sound.Counts.{same-is, same-itself}
use Rattle.av_swap_laws.specs.May.{AreOnce}
use Rattle.av_swap_laws.specs.Steps.{view_copy, view_new, view_zero, view_copy_last}
use Rattle.av_swap_laws.proofs.Cache.{frame-slot}
use Rattle.av_swap_laws.proofs.Load.{unmapped, unslotted}
use Rattle.av_swap_laws.proofs.Parts.{kept-moves, none-some}

-- a page without frame and slot holds zeros
blank-kept : (v : View) (d : Device) (l : Ledger) (o : Option Entry) (q : Option Page) → IsBlank o → IsKept v d l o q → Holds q (λ _. 0)
blank-kept v d l None q blank k = k
blank-kept v d l (Some Zero) q blank k = k
blank-kept v d l (Some (InFrame g seen)) q blank k = absurd blank
blank-kept v d l (Some (InSlot s)) q blank k = absurd blank

pub zero-bytes : (v : View) (d : Device) (w : World) (l : Ledger) (p a : ℕ) → IsBlank (entry l (p, page_of a)) → BytesStand v d w l
    → BytesStand (view_zero p (page_of a) v) d w (after_note (Zeroed p a) l)
zero-bytes v d w l p a blank h = record {
  kept = λ q o. subst (λ e. IsKept (view_zero p (page_of a) v) d (after_note (Zeroed p a) l) e (pages w q o))
      (sym (entry-set (p, page_of a) Zero l (q, o)))
      (by q o (same_key (q, o) (p, page_of a)) refl);
  clean = h.clean;
}
  where
    by : (q o : ℕ) (b : Bool) → same_key (q, o) (p, page_of a) ≡ b
        → IsKept (view_zero p (page_of a) v) d (after_note (Zeroed p a) l) (cond b (Some Zero) (entry l (q, o))) (pages w q o)
    by q o true e = blank-kept v d l (entry l (q, o)) (pages w q o)
        (subst (λ (k : Key). IsBlank (entry l k)) (sym (same_key-is (q, o) (p, page_of a) e)) blank) (h.kept q o)
    by q o false e = kept-moves v (view_zero p (page_of a) v) d d l (after_note (Zeroed p a) l) (entry l (q, o)) (pages w q o) refl (λ t is. refl)
        (λ t is none held. held) (h.kept q o)

-- a copy leaves the slots in flight
copied-flight : (l : Ledger) (k : Key) (f : ℕ) → (to_inactive_head f (change_frame k f l)).flight ≡ l.flight
copied-flight l k f = by (entry l k)
  where
    taken : Ledger
    taken = set_entry k (InFrame f false) l

    by : (o : Option Entry) → (settle_entry o taken).flight ≡ l.flight
    by None = refl
    by (Some Zero) = refl
    by (Some (InSlot s)) = refl
    by (Some (InFrame g seen)) = settled (is_free taken g)
      where
        settled : (b : Bool) → (cond b (off_lists g taken) taken).flight ≡ l.flight
        settled true = refl
        settled false = refl

-- a free frame gets the bytes that the page claims
module _ (v v' : View) (d : Device) (w : World) (l : Ledger) (p page f : ℕ) (held : ℕ → ℕ) (once : AreOnce l) (h : BytesStand v d w l)
    (free : is_free l f ≡ true) (bytes : v'.bytes ≡ with_at f held v.bytes) (holds : Holds (pages w p page) held) where
  other_page : (k : Key) (g : ℕ) (seen : Bool) → entry l k ≡ Some (InFrame g seen) → (g == f) ≡ false
  other_page k g seen is = by (g == f) refl
    where
      by : (b : Bool) → (g == f) ≡ b → b ≡ false
      by true e =
          let some = how_many-found (names_frame g) k l.entries (InFrame g seen) is (same-itself g) in
          let none = ap (map_count l) (same-is g f e) ∙ unmapped l f free in
          absurd (omega (arith, some, none))
      by false e = refl

  other_slot : (t : Slot) (g : ℕ) → frame_at l t ≡ Some g → (g == f) ≡ false
  other_slot t g is = by (g == f) refl
    where
      by : (b : Bool) → (g == f) ≡ b → b ≡ false
      by true e = absurd (none-some t (sym (unslotted l f free) ∙ frame-slot l once f t (is ∙ ap Some (same-is g f e))))
      by false e = refl

  elsewhere : (g : ℕ) → (g == f) ≡ false → v'.bytes g ≡ v.bytes g
  elsewhere g e = ap (λ (b : ℕ → ℕ → ℕ). b g) bytes ∙ ap (λ b. cond b held (v.bytes g)) e

  own : v'.bytes f ≡ held
  own = ap (λ (b : ℕ → ℕ → ℕ). b f) bytes ∙ ap (λ b. cond b held (v.bytes f)) (same-itself f)

  pub given-bytes : (l' : Ledger) → l'.entries ≡ (set_entry (p, page) (InFrame f false) l).entries → l'.cache ≡ l.cache → l'.flight ≡ l.flight
      → BytesStand v' d w l'
  given-bytes l' entries cache flight = record {
    kept = λ q o. subst (λ e. IsKept v' d l' e (pages w q o))
        (sym (ap (λ es. entry (record l { entries = es }) (q, o)) entries ∙ entry-set (p, page) (InFrame f false) l (q, o)))
        (by q o (same_key (q, o) (p, page)) refl);
    clean = λ t fresh low. subst (IsClean v' d t) (sym (found t)) (clear t (frame_at l t) refl
        (h.clean t (sym (ap (λ cs. is_stale (record l { cache = cs }) t) cache) ∙ fresh)
        (sym (ap (λ fs. in_flight (record l { flight = fs }) t) flight)
        ∙ low)));
  }
    where
      found : (t : Slot) → frame_at l' t ≡ frame_at l t
      found t = ap (λ cs. frame_at (record l { cache = cs }) t) cache

      still : (k : Key) (o : Option Entry) → entry l k ≡ o → (x : Option Page) → IsKept v d l o x → IsKept v' d l' o x
      still k None is x n = n
      still k (Some Zero) is x n = n
      still k (Some (InFrame g seen)) is x n = subst (Holds x) (sym (elsewhere g (other_page k g seen is))) n
      still k (Some (InSlot t)) is x n = subst (IsKeptAt v' d t x) (sym (found t)) (at (frame_at l t) refl n)
        where
          at : (o : Option ℕ) → frame_at l t ≡ o → IsKeptAt v d t x o → IsKeptAt v' d t x o
          at None e n = n
          at (Some g) e n = subst (Holds x) (sym (elsewhere g (other_slot t g e))) n

      by : (q o : ℕ) (b : Bool) → same_key (q, o) (p, page) ≡ b → IsKept v' d l' (cond b (Some (InFrame f false)) (entry l (q, o))) (pages w q o)
      by q o true e = subst (λ (k : Key). Holds (pages w k.0 k.1) (v'.bytes f)) (sym (same_key-is (q, o) (p, page) e)) (subst (Holds (pages w p page))
          (sym own) holds)
      by q o false e = still (q, o) (entry l (q, o)) refl (pages w q o) (h.kept q o)

      clear : (t : Slot) (o : Option ℕ) → frame_at l t ≡ o → IsClean v d t o → IsClean v' d t o
      clear t None e c = c
      clear t (Some g) e c = subst (λ (b : ℕ → ℕ). IfSome d.pages (λ told. (i : ℕ) → i < page_size → slice_index (told t.area t.page) i ≡ b i))
          (sym (elsewhere g (other_slot t g e))) c

module _ (v : View) (d : Device) (w : World) (l : Ledger) (p a f : ℕ) (write : Bool) (left : List ℕ) (home : Option (ℕ × ℕ)) (once : AreOnce l)
    (h : BytesStand v d w l) (free : is_free l f ≡ true) where
  -- zeros
  pub new-bytes : IsBlank (entry l (p, page_of a)) → BytesStand (view_new p (page_of a) f write left (λ _. 0) home v) d w (after_note (New p a f) l)
  new-bytes blank = given-bytes v (view_new p (page_of a) f write left (λ _. 0) home v) d w l p (page_of a) f (λ _. 0) once h free refl
      (blank-kept v d l (entry l (p, page_of a)) (pages w p (page_of a)) blank (h.kept p (page_of a))) (after_note (New p a f) l) refl refl refl

  -- those of the other frame, also where that is free then
  pub last-bytes : (g : ℕ) (seen : Bool) → entry l (p, page_of a) ≡ Some (InFrame g seen)
      → BytesStand (view_copy_last p (page_of a) g f write left home v) d w (after_note (Copied p a f) l)
  last-bytes g seen at = given-bytes v (view_copy_last p (page_of a) g f write left home v) d w l p (page_of a) f (v.bytes g) once h free refl
      (subst (λ o. IsKept v d l o (pages w p (page_of a))) at (h.kept p (page_of a))) (after_note (Copied p a f) l)
      (copied-entries l (p, page_of a) f) (copied-cache l (p, page_of a) f) (copied-flight l (p, page_of a) f)

  pub copy-bytes : (g : ℕ) (seen : Bool) → entry l (p, page_of a) ≡ Some (InFrame g seen)
      → BytesStand (view_copy p (page_of a) g f write left home v) d w (after_note (Copied p a f) l)
  copy-bytes g seen at = given-bytes v (view_copy p (page_of a) g f write left home v) d w l p (page_of a) f (v.bytes g) once h free refl
      (subst (λ o. IsKept v d l o (pages w p (page_of a))) at (h.kept p (page_of a))) (after_note (Copied p a f) l)
      (copied-entries l (p, page_of a) f) (copied-cache l (p, page_of a) f) (copied-flight l (p, page_of a) f)
