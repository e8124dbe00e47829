-- A page gets a copy of a frame of which it was the last use: that frame is free then.
use Rattle.std.proofs.Common.{◌≡◌, ℕ, ◌+◌, ◌-◌, ◌<◌, ◌≤◌, Bool, true, false, cond, ◌&&◌, ◌||◌, List, ◌∷◌, Option, Some, is_none, refl, sym, ap, subst, ◌∙◌, arith, ◌==◌, T}
use Rattle.std.proofs.lemmas.Bool.Decides.{nat_tests}
use Rattle.std.proofs.lemmas.Bool.{false≢true}
use Rattle.std.specs.FinMap.Entries.{is_sorted}
use Rattle.av_base.specs.Keys.{key_cmp}
use Rattle.av_base.specs.Page.{page_of}
use Rattle.av_base.specs.Words.{is_in, with_at, without}
use Rattle.av_base.specs.declared.slot.Slot.{Slot}
use Rattle.av_trace.specs.declared.note.Note.TheVariants.{Copied}
use Rattle.av_plain.specs.Choice.{Chooses}
use Rattle.av_plain.specs.Event.{Noted, after_note, off_lists, set_entry, settle_entry, to_inactive_head}
use Rattle.av_plain.specs.Fault.{asks_copy}
use Rattle.av_plain.specs.Ledger.{InFrame, Ledger, Setting, entry, is_free, is_merged, map_count, names_frame, names_slot, slot_entries, slot_of}
use Rattle.av_plain.specs.Sound.{holders, slots}
use Rattle.av_plain.specs.Stands.{LedgerStands, Pte, View, free_of}
use Rattle.av_plain.proofs.Covered.Swap.{still-in}
use Rattle.av_plain.proofs.Ledger.{map_count-set}
use Rattle.av_plain.proofs.Ledger.Order.{weight}
use Rattle.av_plain.proofs.Sound.Counts.{same-is, same-itself}
use Rattle.av_plain.proofs.Sound.Entries.{slot_entries-set}
use Rattle.av_swap_laws.specs.May.{LosesUse}
use Rattle.av_swap_laws.specs.Steps.{view_copy_last, with_pte}
use Rattle.av_swap_laws.proofs.Free.{chooses-frame-for}
use Rattle.av_swap_laws.proofs.Load.{unmapped, unslotted}
use Rattle.av_swap_laws.proofs.Made.{alone}
use Rattle.av_swap_laws.proofs.One.{one-stands, set-at}
use Rattle.av_swap_laws.proofs.Parts.{shared-fewer, shared-off_lists, some-is}

module _ (m : Setting) (v : View) (l : Ledger) (p a f : ℕ) (left : List ℕ) (sorted : T (is_sorted key_cmp l.entries)) (h : LedgerStands m v l)
    (free : is_free l f ≡ true) (first : v.free ≡ f ∷ left) (lone : is_in f left ≡ false) (own : is_merged l f ≡ false)
    (g : ℕ) (seen : Bool) (at : entry l (p, page_of a) ≡ Some (InFrame g seen)) (last : LosesUse l g) where
  abbrev taken : Ledger
  taken = set_entry (p, page_of a) (InFrame f false) l

  abbrev gone : Ledger
  gone = to_inactive_head f (off_lists g taken)

  counts : (j : ℕ) → map_count taken j + cond (j == g) 1 0 ≡ map_count l j + cond (j == f) 1 0
  counts j = ap (λ o. map_count taken j + weight (names_frame j) o) (sym at) ∙ map_count-set (p, page_of a) (InFrame f false) l j sorted

  names : (t : Slot) → slot_entries taken t ≡ slot_entries l t
  names t = plain _ _ _ (slot_entries-set (p, page_of a) (InFrame f false) l t sorted) (ap (weight (names_slot t)) at)
    where
      plain : (n w k : ℕ) → n + w ≡ k + 0 → w ≡ 0 → n ≡ k
      plain n w k e z = omega (arith, e, z)

  none-f : map_count l f ≡ 0
  none-f = unmapped l f free

  -- the two frames are not one
  apart : (j i : ℕ) → map_count l j ≡ 0 → map_count l i ≡ 1 → (j == i) ≡ false
  apart j i none one = by (j == i) refl
    where
      by : (b : Bool) → (j == i) ≡ b → b ≡ false
      by true e = absurd (let same = ap (map_count l) (same-is j i e) in omega (arith, same, none, one))
      by false e = refl

  turned : (j i : ℕ) → (j == i) ≡ false → (i == j) ≡ false
  turned j i e = grind (arith, nat_tests, e)

  f-g : (f == g) ≡ false
  f-g = apart f g none-f last.0

  one-f : map_count taken f ≡ 1
  one-f = plain _ _ _ _ (counts f) (ap {B = ℕ} (λ b. cond b 1 0) f-g) (ap {B = ℕ} (λ b. cond b 1 0) (same-itself f)) none-f
    where
      plain : (n w k c : ℕ) → n + w ≡ k + c → w ≡ 0 → c ≡ 1 → k ≡ 0 → n ≡ 1
      plain n w k c e x y z = omega (arith, e, x, y, z)

  none-g : map_count taken g ≡ 0
  none-g = plain _ _ _ _ (counts g) (ap {B = ℕ} (λ b. cond b 1 0) (same-itself g)) (ap {B = ℕ} (λ b. cond b 1 0) (turned f g f-g)) last.0
    where
      plain : (n w k c : ℕ) → n + w ≡ k + c → w ≡ 1 → c ≡ 0 → k ≡ 1 → n ≡ 0
      plain n w k c e x y z = omega (arith, e, x, y, z)

  other : (j : ℕ) → (j == f) ≡ false → (j == g) ≡ false → map_count taken j ≡ map_count l j
  other j e i = plain _ _ _ _ (counts j) (ap {B = ℕ} (λ b. cond b 1 0) i) (ap {B = ℕ} (λ b. cond b 1 0) e)
    where
      plain : (n w k c : ℕ) → n + w ≡ k + c → w ≡ 0 → c ≡ 0 → n ≡ k
      plain n w k c e x y = omega (arith, e, x, y)

  fewer : (j : ℕ) → (j == f) ≡ false → map_count taken j ≤ map_count l j
  fewer j e = let k = counts j in let z = ap {B = ℕ} (λ b. cond b 1 0) e in omega (arith, k, z)

  free-g : is_free taken g ≡ true
  free-g = λ i. none-g i == 0 && is_none (last.1 i)

  free-f : is_free taken f ≡ false
  free-f = λ i. one-f i == 0 && is_none (slot_of l f)

  pub last-is : after_note (Copied p a f) l ≡ gone
  last-is = ap (to_inactive_head f) (ap (λ o. settle_entry o taken) at ∙ ap (λ b. cond b (off_lists g taken) taken) free-g)

  -- the frame that is taken isn't merged
  own-now : is_merged gone f ≡ false
  own-now = by (is_merged gone f) refl
    where
      by : (b : Bool) → is_merged gone f ≡ b → b ≡ false
      by true e = absurd (false≢true (sym own ∙ still-in f g l.merged e))
      by false e = refl

  stands : (write : Bool) (home : Option (ℕ × ℕ)) → LedgerStands m (view_copy_last p (page_of a) g f write left home v) gone
  stands write home = let all = inner in record {
    frames = record {
      frames = all.frames.frames;
      maps = all.frames.maps;
      slots = all.frames.slots;
      dirty = all.frames.dirty;
      free = all.frames.free;
    };
    lists = record { active = all.lists.active; inactive = all.lists.inactive };
    tables = record { entries = all.tables.entries; write_bits = all.tables.write_bits };
    swap = record { finds = all.swap.finds; counts = all.swap.counts; flight = all.swap.flight; on = all.swap.on };
  }
    where
      inner : LedgerStands m (record v {
        table = with_pte p (page_of a) (Some (record { entry = InFrame f false; write = write })) v.table;
        maps = with_at f 1 (with_at g (v.maps g - 1) v.maps);
        entries = v.entries;
        free = g ∷ left;
        active = without f (without g v.active);
        inactive = f ∷ without f (without g v.inactive);
      }) gone
      inner = one-stands m v l gone p (page_of a) (Some (record { entry = InFrame f false; write = write })) h
          (record { entries = set-at l p (page_of a) (InFrame f false); cache = refl; flight = refl; on = refl })
          (with_at f 1 (with_at g (v.maps g - 1) v.maps)) v.entries (g ∷ left) (without f (without g v.active)) (f ∷ without f (without g v.inactive))
          (λ j. by j (j == f) (j == g) refl refl) (λ t. h.swap.counts t ∙ sym (names t))
          (λ j below. is-free j below (j == g) (j == f) refl refl)
          (ap (λ fs. without f (without g fs)) h.lists.active) (ap (λ fs. f ∷ without f (without g fs)) h.lists.inactive)
          (λ u j is writes said. ap (asks_copy gone) (same-is j f (ap (λ (t : Pte). names_frame j t.entry) (some-is _ u is) ∙ said))
          ∙ alone gone f one-f (unslotted l f free) own-now)
          (λ q o e j is said others lone. by' j (j == f) refl lone)
        where
          by : (j : ℕ) (b c : Bool) → (j == f) ≡ b → (j == g) ≡ c → cond b 1 (cond c (v.maps g - 1) (v.maps j)) ≡ map_count gone j
          by j true c e i = sym (ap (map_count taken) (same-is j f e) ∙ one-f)
          by j false true e i = less (v.maps g) (map_count l g) (h.frames.maps g) last.0 ∙ sym (ap (map_count taken) (same-is j g i) ∙ none-g)
            where
              less : (x k : ℕ) → x ≡ k → k ≡ 1 → x - 1 ≡ 0
              less x k a b = omega (arith, a, b)
          by j false false e i = h.frames.maps j ∙ sym (other j e i)

          is-free : (j : ℕ) → j < m.frames → (b c : Bool) → (j == g) ≡ b → (j == f) ≡ c → (b || is_in j left) ≡ is_free gone j
          is-free j below true c e i = sym (ap (is_free taken) (same-is j g e) ∙ free-g)
          is-free j below false true e i = ap (λ j. is_in j left) (same-is j f i) ∙ lone ∙ sym (ap (is_free taken) (same-is j f i) ∙ free-f)
          is-free j below false false e i = sym (ap (λ b. b || is_in j left) i) ∙ ap (is_in j) (sym first) ∙ h.frames.free j below
              ∙ ap (λ n. n == 0 && is_none (slot_of l j)) (sym (other j i e))

          by' : (j : ℕ) (b : Bool) → (j == f) ≡ b → asks_copy l j ≡ false → asks_copy gone j ≡ false
          by' j true e lone = ap (asks_copy gone) (same-is j f e) ∙ alone gone f one-f (unslotted l f free) own-now
          by' j false e lone = shared-off_lists taken g j
              (shared-fewer l taken j (fewer j e) refl (λ t at. let k = names t in omega (arith, k)) refl lone)

  pub last-stands : (write : Bool) (home : Option (ℕ × ℕ))
      → LedgerStands m (view_copy_last p (page_of a) g f write left home v) (after_note (Copied p a f) l)
  last-stands write home = subst (LedgerStands m (view_copy_last p (page_of a) g f write left home v)) (sym last-is) (stands write home)

  pub last-chosen : (closing : Option ℕ) → g < m.frames → holders l g ≡ 0 → (write : Bool) (home : Option (ℕ × ℕ))
      → Chooses m closing l (Noted (Copied p a f)) (free_of v) (free_of (view_copy_last p (page_of a) g f write left home v))
  last-chosen closing below out write home =
      subst (λ fs. Chooses m closing l (Noted (Copied p a f)) (record { frames = fs; slots = v.slots }) (record { frames = g ∷ left; slots = v.slots }))
      (sym first) (chooses-frame-for m closing l (Copied p a f) f g left v.slots refl refl refl below
      (let one = last.0 in omega (arith, one)) (subst (λ k. map_count k g + holders k g ≡ 0) (sym last-is) (let none = none-g in omega (arith, none, out)))
      (λ j i had. subst (λ k. 0 < map_count k j + holders k j) (sym last-is) (more j (j == f) refl i had))
      (λ t had. subst (λ k. 0 < slots k t + slot_entries k t) (sym last-is) (let e = names t in omega (arith, e, had))))
    where
      more : (j : ℕ) (b : Bool) → (j == f) ≡ b → (j == g) ≡ false → 0 < map_count l j + holders l j → 0 < map_count taken j + holders l j
      more j true e i had = let one = ap (map_count taken) (same-is j f e) ∙ one-f in omega (arith, one)
      more j false e i had = let same = other j e i in omega (arith, same, had)
