-- What a page that is made ready takes, and that nothing comes free.
use Rattle.av_swap_laws.specs.May.{KeepsUse}
use Rattle.std.proofs.Common.{◌≡◌, ℕ, ◌+◌, ◌<◌, Bool, true, false, List, ◌∷◌, Option, Some, None, refl, sym, ap, subst, ◌∙◌, arith, ◌==◌, T}
use Rattle.std.proofs.lemmas.Bool.Decides.{nat_tests}
use Rattle.std.specs.FinMap.Entries.{is_sorted}
use Rattle.av_base.specs.Keys.{key_cmp}
use Rattle.av_base.specs.Page.{page_of}
use Rattle.av_base.specs.Words.{is_in}
use Rattle.av_base.specs.declared.slot.Slot.{Slot}
use Rattle.av_trace.specs.declared.note.Note.TheVariants.{Copied, New, Zeroed}
use Rattle.av_plain.specs.Choice.{Chooses}
use Rattle.av_plain.specs.Event.{Noted, Used, after_use_of, if_some, set_entry, with_stale, to_inactive_head}
use Rattle.av_plain.specs.Ledger.{IsBlank, InFrame, Ledger, Setting, entry, is_free, map_count, slot_of, is_merged}
use Rattle.av_plain.specs.Sound.{holders}
use Rattle.av_plain.specs.Stands.{LedgerStands, View, free_of}
use Rattle.av_plain.proofs.Sound.Changes.{free-is}
use Rattle.av_plain.proofs.Sound.Counts.{same-is}
use Rattle.av_plain.proofs.Sound.Steps.{alike-with_stale}
use Rattle.av_swap_laws.specs.Steps.{view_copy, view_new, view_seen, view_written, view_zero}
use Rattle.av_swap_laws.proofs.Free.{FreesNone, chooses-frame, chooses-none, chooses-nothing}
use Rattle.av_swap_laws.proofs.Made.{copy-free, copy-names, copy-one, new-maps, new-names, zero-maps, zero-names, copied-is}
use Rattle.av_swap_laws.proofs.Use.{maps-seen, names-seen}

module _ (m : Setting) (closing : Option ℕ) (v : View) (l : Ledger) (p a : ℕ) (sorted : T (is_sorted key_cmp l.entries))
    (h : LedgerStands m v l) where
  pub zero-chosen : IsBlank (entry l (p, page_of a)) → Chooses m closing l (Noted (Zeroed p a)) (free_of v) (free_of (view_zero p (page_of a) v))
  zero-chosen blank = chooses-none m closing l (Zeroed p a) (record {
    frames = λ g had. let e = zero-maps m v l p a sorted h blank g in omega (arith, e, had);
    slots = λ t had. let e = zero-names m v l p a sorted h blank t in omega (arith, e, had);
  }) (free_of v) refl refl

  module _ (f : ℕ) (left : List ℕ) (free : is_free l f ≡ true) (first : v.free ≡ f ∷ left) (lone : is_in f left ≡ false)
      (own : is_merged l f ≡ false) where
    pub new-chosen : IsBlank (entry l (p, page_of a)) → (write : Bool) (held : ℕ → ℕ) (home : Option (ℕ × ℕ))
        → Chooses m closing l (Noted (New p a f)) (free_of v) (free_of (view_new p (page_of a) f write left held home v))
    new-chosen blank write held home = subst (λ fs. Chooses m closing l (Noted (New p a f)) (record { frames = fs; slots = v.slots })
        (record { frames = left; slots = v.slots })) (sym first)
        (chooses-frame m closing l (New p a f) (record {
          frames = λ g had. let e = new-maps m v l p a f left sorted h free first lone own blank g in omega (arith, e, had);
          slots = λ t had. let e = new-names m v l p a f left sorted h free first lone own blank t in omega (arith, e, had);
        }) f left v.slots refl refl refl)

    pub copy-chosen : (g : ℕ) (seen : Bool) → entry l (p, page_of a) ≡ Some (InFrame g seen) → KeepsUse l g
        → (write : Bool) (home : Option (ℕ × ℕ))
        → Chooses m closing l (Noted (Copied p a f)) (free_of v) (free_of (view_copy p (page_of a) g f write left home v))
    copy-chosen g seen at shared write home = subst (λ fs. Chooses m closing l (Noted (Copied p a f)) (record { frames = fs; slots = v.slots })
        (record { frames = left; slots = v.slots })) (sym first)
        (chooses-frame m closing l (Copied p a f) (subst (FreesNone l)
        (sym (copied-is m v l p a f left sorted h free first lone own g seen at shared)) (record {
          frames = λ j had. by j (j == f) refl had;
          slots = λ t had. let e = copy-names m v l p a f left sorted h free first lone own g seen at shared t in omega (arith, e, had);
        })) f left v.slots refl refl refl)
      where
        now : Ledger
        now = to_inactive_head f (set_entry (p, page_of a) (InFrame f false) l)

        some : (n k : ℕ) → (n == 0) ≡ (k == 0) → 0 < k → 0 < n
        some n k e s = grind (arith, nat_tests, e, s)

        by : (j : ℕ) (b : Bool) → (j == f) ≡ b → 0 < map_count l j + holders l j → 0 < map_count now j + holders l j
        by j true e had = let one = copy-one m v l p a f left sorted h free first lone own g seen at shared in
            subst (λ j. 0 < map_count now j + holders l j) (sym (same-is j f e)) (omega (arith, one))
        by j false e had = some _ _ (sym (free-is now j) ∙ copy-free m v l p a f left sorted h free first lone own g seen at shared j e ∙ free-is l j) had

-- a use takes and frees nothing
module _ (m : Setting) (closing : Option ℕ) (v : View) (l : Ledger) (p page f : ℕ) (seen : Bool) (sorted : T (is_sorted key_cmp l.entries))
    (at : entry l (p, page) ≡ Some (InFrame f seen)) where
  frees-seen : FreesNone l (set_entry (p, page) (InFrame f true) l)
  frees-seen = record {
    frames = λ g had. let e = maps-seen l p page f seen sorted at g in omega (arith, e, had);
    slots = λ t had. let e = names-seen l p page f seen sorted at t in omega (arith, e, had);
  }

  pub read-chosen : (write : Bool) → Chooses m closing l (Used false (p, page)) (free_of v) (free_of (view_seen p page f write v))
  read-chosen write = chooses-nothing m closing l (Used false (p, page)) (free_of v)
      (subst (FreesNone l) (sym (ap (after_use_of false (p, page) l) at)) frees-seen) refl refl refl refl

  pub write-chosen : (write : Bool) (held : ℕ → ℕ) (home : Option (ℕ × ℕ))
      → Chooses m closing l (Used true (p, page)) (free_of v) (free_of (view_written p page f write held home v))
  write-chosen write held home = chooses-nothing m closing l (Used true (p, page)) (free_of v)
      (subst (FreesNone l) (sym (ap (after_use_of true (p, page) l) at)) (by (slot_of l f))) refl refl refl refl
    where
      by : (o : Option Slot) → FreesNone l (if_some o (with_stale true) (set_entry (p, page) (InFrame f true) l))
      by None = frees-seen
      by (Some s) = let a = alike-with_stale (set_entry (p, page) (InFrame f true) l) true s in let k = frees-seen in record {
        frames = λ g had. let n = k.frames g had in let e = a.holders_same g in omega (arith, n, e);
        slots = λ t had. let n = k.slots t had in let e = a.slots_same t in omega (arith, n, e);
      }
