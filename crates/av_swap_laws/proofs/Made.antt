-- A page gets the page of zeros, its first frame or a copy, where other frames may be cached.
use Rattle.av_swap_laws.specs.May.{KeepsUse}
use Rattle.std.proofs.Common.{◌≡◌, ℕ, ◌+◌, ◌-◌, ◌<◌, ◌≤◌, Bool, true, false, cond, ◌&&◌, ◌||◌, nat_lt, List, ◌∷◌, Option, Some, None, is_none, refl, sym, ap, subst, ◌∙◌, arith, ◌==◌, T}
use Rattle.std.proofs.lemmas.Bool.Decides.{nat_tests}
use Rattle.std.proofs.lemmas.Bool.{false≢true}
use Rattle.std.specs.FinMap.Entries.{is_sorted}
use Rattle.av_base.specs.Keys.{key_cmp}
use Rattle.av_base.specs.Page.{page_of}
use Rattle.av_base.specs.Words.{is_in, with_at, without}
use Rattle.av_base.specs.declared.slot.Slot.{Slot}
use Rattle.av_trace.specs.declared.note.Note.TheVariants.{Copied, New, Zeroed}
use Rattle.av_plain.specs.Event.{after_note, set_entry, to_inactive_head, off_lists, settle_entry}
use Rattle.av_plain.specs.Fault.{is_named, asks_copy}
use Rattle.av_plain.specs.Ledger.{IsBlank, InFrame, Ledger, Setting, Zero, entry, is_free, map_count, names_frame, names_slot, slot_entries, slot_of, is_merged}
use Rattle.av_plain.specs.Stands.{LedgerStands, Pte, View}
use Rattle.av_plain.proofs.Ledger.{how_many-found, map_count-set}
use Rattle.av_plain.proofs.Ledger.Order.{weight}
use Rattle.av_plain.proofs.Sound.Counts.{same-is, same-itself}
use Rattle.av_plain.proofs.Sound.Entries.{blank-frame, blank-slot, slot_entries-set}
use Rattle.av_swap_laws.specs.Steps.{view_copy, view_new, view_zero, with_pte}
use Rattle.av_swap_laws.proofs.Load.{unmapped, unslotted}
use Rattle.av_swap_laws.proofs.One.{one-stands, set-at}
use Rattle.av_swap_laws.proofs.Parts.{shared-fewer, shared-same, some-is}

-- ---- the page of zeros

module _ (m : Setting) (v : View) (l : Ledger) (p a : ℕ) (sorted : T (is_sorted key_cmp l.entries)) (h : LedgerStands m v l)
    (blank : IsBlank (entry l (p, page_of a))) where
  abbrev zeroed : Ledger
  zeroed = set_entry (p, page_of a) Zero l

  pub zero-maps : (g : ℕ) → map_count zeroed g ≡ map_count l g
  zero-maps g = plain _ _ _ (map_count-set (p, page_of a) Zero l g sorted) (blank-frame (entry l (p, page_of a)) g blank)
    where
      plain : (n w k : ℕ) → n + w ≡ k + 0 → w ≡ 0 → n ≡ k
      plain n w k e z = omega (arith, e, z)

  pub zero-names : (t : Slot) → slot_entries zeroed t ≡ slot_entries l t
  zero-names t = plain _ _ _ (slot_entries-set (p, page_of a) Zero l t sorted) (blank-slot (entry l (p, page_of a)) t blank)
    where
      plain : (n w k : ℕ) → n + w ≡ k + 0 → w ≡ 0 → n ≡ k
      plain n w k e z = omega (arith, e, z)

  pub zero-stands : LedgerStands m (view_zero p (page_of a) v) (after_note (Zeroed p a) l)
  zero-stands = one-stands m v l zeroed p (page_of a) (Some (record { entry = Zero; write = false })) h
      (record { entries = set-at l p (page_of a) Zero; cache = refl; flight = refl; on = refl })
      v.maps v.entries v.free v.active v.inactive (λ g. h.frames.maps g ∙ sym (zero-maps g)) (λ t. h.swap.counts t ∙ sym (zero-names t))
      (λ g below. h.frames.free g below ∙ ap (λ n. n == 0 && is_none (slot_of l g)) (sym (zero-maps g))) h.lists.active h.lists.inactive
      (λ u g is writes names. absurd (false≢true (ap (λ (t : Pte). t.write) (some-is _ u is) ∙ writes)))
      (λ q o e g is names other alone. shared-same l zeroed g (zero-maps g) refl (λ t at. zero-names t) refl ∙ alone)

-- ---- a free frame

-- a frame that has one entry and no slot, and isn't merged, is written without a copy
pub alone : (l : Ledger) (f : ℕ) → map_count l f ≡ 1 → slot_of l f ≡ None → is_merged l f ≡ false → asks_copy l f ≡ false
alone l f one none own = λ i. nat_lt 1 (one i) || is_named l (none i) || own i

-- the first of the free frames is not among those that are left, and the others are free as they were
left-free : (m : Setting) (v : View) (l l' : Ledger) (f : ℕ) (left : List ℕ) → v.free ≡ f ∷ left → is_in f left ≡ false
    → ((g : ℕ) → g < m.frames → is_in g v.free ≡ is_free l g) → is_free l' f ≡ false → ((g : ℕ) → (g == f) ≡ false → is_free l' g ≡ is_free l g)
    → (g : ℕ) → g < m.frames → is_in g left ≡ is_free l' g
left-free m v l l' f left first lone free used others g below = by (g == f) refl (ap (is_in g) (sym first) ∙ free g below)
  where
    by : (b : Bool) → (g == f) ≡ b → (b || is_in g left) ≡ is_free l g → is_in g left ≡ is_free l' g
    by true e is = ap (λ g. is_in g left) (same-is g f e) ∙ lone ∙ sym (ap (is_free l') (same-is g f e) ∙ used)
    by false e is = is ∙ sym (others g e)

-- ---- the first frame of a page

module _ (m : Setting) (v : View) (l : Ledger) (p a f : ℕ) (left : List ℕ) (sorted : T (is_sorted key_cmp l.entries)) (h : LedgerStands m v l)
    (free : is_free l f ≡ true) (first : v.free ≡ f ∷ left) (lone : is_in f left ≡ false) (own : is_merged l f ≡ false) where
  abbrev made : Ledger
  made = to_inactive_head f (set_entry (p, page_of a) (InFrame f false) l)

  none-f : map_count l f ≡ 0
  none-f = unmapped l f free

  slot-f : slot_of l f ≡ None
  slot-f = unslotted l f free

  module _ (blank : IsBlank (entry l (p, page_of a))) where
    pub new-maps : (g : ℕ) → map_count made g ≡ map_count l g + cond (g == f) 1 0
    new-maps g = plain _ _ _ (map_count-set (p, page_of a) (InFrame f false) l g sorted) (blank-frame (entry l (p, page_of a)) g blank)
      where
        plain : (n w k : ℕ) → n + w ≡ k → w ≡ 0 → n ≡ k
        plain n w k e z = omega (arith, e, z)

    pub new-names : (t : Slot) → slot_entries made t ≡ slot_entries l t
    new-names t = plain _ _ _ (slot_entries-set (p, page_of a) (InFrame f false) l t sorted) (blank-slot (entry l (p, page_of a)) t blank)
      where
        plain : (n w k : ℕ) → n + w ≡ k + 0 → w ≡ 0 → n ≡ k
        plain n w k e z = omega (arith, e, z)

    new-one : map_count made f ≡ 1
    new-one = new-maps f ∙ (λ i. none-f i + cond (same-itself f i) 1 0)

    new-other : (g : ℕ) → (g == f) ≡ false → map_count made g ≡ map_count l g
    new-other g e = new-maps g ∙ ap (λ b. map_count l g + cond b 1 0) e ∙ plus_zero (map_count l g)
      where
        plus_zero : (n : ℕ) → n + 0 ≡ n
        plus_zero n = omega arith

    pub new-stands : (write : Bool) (held : ℕ → ℕ) (home : Option (ℕ × ℕ))
        → LedgerStands m (view_new p (page_of a) f write left held home v) (after_note
        (New p a f) l)
    new-stands write held home = let all = inner in record {
      frames = record {
        frames = all.frames.frames;
        maps = all.frames.maps;
        slots = all.frames.slots;
        dirty = all.frames.dirty;
        free = all.frames.free;
      };
      lists = record { active = all.lists.active; inactive = all.lists.inactive };
      tables = record { entries = all.tables.entries; write_bits = all.tables.write_bits };
      swap = record { finds = all.swap.finds; counts = all.swap.counts; flight = all.swap.flight; on = all.swap.on };
    }
      where
        inner : LedgerStands m (record v {
          table = with_pte p (page_of a) (Some (record { entry = InFrame f false; write = write })) v.table;
          maps = with_at f 1 v.maps;
          entries = v.entries;
          free = left;
          active = without f v.active;
          inactive = f ∷ without f v.inactive;
        }) made
        inner = one-stands m v l made p (page_of a) (Some (record { entry = InFrame f false; write = write })) h
            (record { entries = set-at l p (page_of a) (InFrame f false); cache = refl; flight = refl; on = refl })
            (with_at f 1 v.maps) v.entries left (without f v.active) (f ∷ without f v.inactive)
            (λ g. by g (g == f) refl) (λ t. h.swap.counts t ∙ sym (new-names t))
            (left-free m v l made f left first lone h.frames.free (λ i. new-one i == 0 && is_none (slot_of l f))
            (λ g e. ap (λ n. n == 0 && is_none (slot_of l g)) (new-other g e)))
            (ap (without f) h.lists.active) (ap (λ fs. f ∷ without f fs) h.lists.inactive)
            (λ u g is writes names. ap (asks_copy made) (same-is g f (ap (λ (t : Pte). names_frame g t.entry) (some-is _ u is) ∙ names))
            ∙ alone made f new-one slot-f own)
            (λ q o e g is names other lone. by' g (g == f) refl lone)
          where
            by : (g : ℕ) (b : Bool) → (g == f) ≡ b → cond b 1 (v.maps g) ≡ map_count made g
            by g true e = sym (ap (map_count made) (same-is g f e) ∙ new-one)
            by g false e = h.frames.maps g ∙ sym (new-other g e)

            by' : (g : ℕ) (b : Bool) → (g == f) ≡ b → asks_copy l g ≡ false → asks_copy made g ≡ false
            by' g true e lone = ap (asks_copy made) (same-is g f e) ∙ alone made f new-one slot-f own
            by' g false e lone = shared-same l made g (new-other g e) refl (λ t at. new-names t) refl ∙ lone

  -- ---- a copy of another frame, which keeps a use

  module _ (g : ℕ) (seen : Bool) (at : entry l (p, page_of a) ≡ Some (InFrame g seen)) (shared : KeepsUse l g) where
    copy-maps : (j : ℕ) → map_count made j + cond (j == g) 1 0 ≡ map_count l j + cond (j == f) 1 0
    copy-maps j = ap (λ o. map_count made j + weight (names_frame j) o) (sym at) ∙ map_count-set (p, page_of a) (InFrame f false) l j sorted

    pub copy-names : (t : Slot) → slot_entries made t ≡ slot_entries l t
    copy-names t = plain _ _ _ (slot_entries-set (p, page_of a) (InFrame f false) l t sorted) (ap (weight (names_slot t)) at)
      where
        plain : (n w k : ℕ) → n + w ≡ k + 0 → w ≡ 0 → n ≡ k
        plain n w k e z = omega (arith, e, z)

    some-g : 0 < map_count l g
    some-g = how_many-found (names_frame g) (p, page_of a) l.entries (InFrame g seen) at (same-itself g)

    apart : (f == g) ≡ false
    apart = by (f == g) refl
      where
        by : (b : Bool) → (f == g) ≡ b → b ≡ false
        by true e = let same = ap (map_count l) (same-is f g e) in let none = none-f in let some = some-g in absurd (omega (arith, same, none, some))
        by false e = refl

    pub copy-one : map_count made f ≡ 1
    copy-one = plain _ _ _ _ (copy-maps f) (ap {B = ℕ} (λ b. cond b 1 0) apart) (ap {B = ℕ} (λ b. cond b 1 0) (same-itself f)) none-f
      where
        plain : (n w k c : ℕ) → n + w ≡ k + c → w ≡ 0 → c ≡ 1 → k ≡ 0 → n ≡ 1
        plain n w k c e x y z = omega (arith, e, x, y, z)

    copy-fewer : (j : ℕ) → (j == f) ≡ false → map_count made j ≤ map_count l j
    copy-fewer j e = let k = copy-maps j in let z = ap {B = ℕ} (λ b. cond b 1 0) e in omega (arith, k, z)

    -- the other frame has another entry, or a slot
    pub copy-free : (j : ℕ) → (j == f) ≡ false → is_free made j ≡ is_free l j
    copy-free j e = by (j == g) refl
      where
        plain : (n w k c : ℕ) → n + w ≡ k + c → w ≡ 0 → c ≡ 0 → n ≡ k
        plain n w k c e x y = omega (arith, e, x, y)

        has : (o : Option Slot) → slot_of l g ≡ o → (nat_lt 1 (map_count l g) || is_named l o) ≡ true → (map_count made g == 0 && is_none o) ≡
            (map_count l g == 0 && is_none o)
        has (Some t) i s = both (map_count made g == 0) (map_count l g == 0)
          where
            both : (a b : Bool) → (a && false) ≡ (b && false)
            both true true = refl
            both true false = refl
            both false true = refl
            both false false = refl
        has None i s = two (map_count made g) (map_count l g) (cond (g == g) 1 0) (cond (g == f) 1 0) (copy-maps g) (lit (g == g)) (more (nat_lt 1
            (map_count l g)) s refl)
          where
            lit : (b : Bool) → cond b 1 0 ≤ 1
            lit true = omega arith
            lit false = omega arith

            more : (b : Bool) → (b || false) ≡ true → nat_lt 1 (map_count l g) ≡ b → 1 < map_count l g
            more true s e = grind (arith, nat_tests, e)
            more false s e = absurd (false≢true s)

            two : (n k w c : ℕ) → n + w ≡ k + c → w ≤ 1 → 1 < k → (n == 0 && true) ≡ (k == 0 && true)
            two n k w c e x y = grind (arith, nat_tests, e, x, y)

        by : (b : Bool) → (j == g) ≡ b → is_free made j ≡ is_free l j
        by true i = subst (λ j. is_free made j ≡ is_free l j) (sym (same-is j g i)) (has (slot_of l g) refl shared)
        by false i = ap (λ n. n == 0 && is_none (slot_of l j))
            (plain _ _ _ _ (copy-maps j) (ap {B = ℕ} (λ b. cond b 1 0) i) (ap {B = ℕ} (λ b. cond b 1 0) e))

    -- so it isn't settled
    pub copied-is : after_note (Copied p a f) l ≡ made
    copied-is = ap (to_inactive_head f) (ap (λ o. settle_entry o taken) at ∙ ap (λ b. cond b (off_lists g taken) taken) used)
      where
        taken : Ledger
        taken = set_entry (p, page_of a) (InFrame f false) l

        in_use : (n : ℕ) (b : Bool) → 0 < n → (n == 0 && b) ≡ false
        in_use n true h = grind (arith, nat_tests, h)
        in_use n false h = grind (arith, nat_tests, h)

        other : (b : Bool) → (g == f) ≡ b → b ≡ false
        other true e = absurd (let same = ap (map_count l) (same-is g f e) in let none = none-f in let some = some-g in omega (arith, same, none, some))
        other false e = refl

        used : is_free taken g ≡ false
        used = copy-free g (other (g == f) refl) ∙ in_use (map_count l g) (is_none (slot_of l g)) some-g

    stands : (write : Bool) (home : Option (ℕ × ℕ)) → LedgerStands m (view_copy p (page_of a) g f write left home v) made
    stands write home = let all = inner in record {
      frames = record {
        frames = all.frames.frames;
        maps = all.frames.maps;
        slots = all.frames.slots;
        dirty = all.frames.dirty;
        free = all.frames.free;
      };
      lists = record { active = all.lists.active; inactive = all.lists.inactive };
      tables = record { entries = all.tables.entries; write_bits = all.tables.write_bits };
      swap = record { finds = all.swap.finds; counts = all.swap.counts; flight = all.swap.flight; on = all.swap.on };
    }
      where
        inner : LedgerStands m (record v {
          table = with_pte p (page_of a) (Some (record { entry = InFrame f false; write = write })) v.table;
          maps = with_at f 1 (with_at g (v.maps g - 1) v.maps);
          entries = v.entries;
          free = left;
          active = without f v.active;
          inactive = f ∷ without f v.inactive;
        }) made
        inner = one-stands m v l made p (page_of a) (Some (record { entry = InFrame f false; write = write })) h
            (record { entries = set-at l p (page_of a) (InFrame f false); cache = refl; flight = refl; on = refl })
            (with_at f 1 (with_at g (v.maps g - 1) v.maps)) v.entries left (without f v.active) (f ∷ without f v.inactive)
            (λ j. by j (j == f) (j == g) refl refl) (λ t. h.swap.counts t ∙ sym (copy-names t))
            (left-free m v l made f left first lone h.frames.free (λ i. copy-one i == 0 && is_none (slot_of l f)) copy-free)
            (ap (without f) h.lists.active) (ap (λ fs. f ∷ without f fs) h.lists.inactive)
            (λ u j is writes names. ap (asks_copy made) (same-is j f (ap (λ (t : Pte). names_frame j t.entry) (some-is _ u is) ∙ names))
            ∙ alone made f copy-one slot-f own)
            (λ q o e j is names other lone. by' j (j == f) refl lone)
          where
            by : (j : ℕ) (b c : Bool) → (j == f) ≡ b → (j == g) ≡ c → cond b 1 (cond c (v.maps g - 1) (v.maps j)) ≡ map_count made j
            by j true c e i = sym (ap (map_count made) (same-is j f e) ∙ copy-one)
            by j false true e i = less (v.maps g) (map_count made j) (map_count l j) (cond (j == g) 1 0) (cond (j == f) 1 0)
                (h.frames.maps g ∙ ap (map_count l) (sym (same-is j g i))) (copy-maps j) (ap {B = ℕ} (λ b. cond b 1 0) i)
                (ap {B = ℕ} (λ b. cond b 1 0) e)
              where
                less : (x n k w c : ℕ) → x ≡ k → n + w ≡ k + c → w ≡ 1 → c ≡ 0 → x - 1 ≡ n
                less x n k w c a b d e = omega (arith, a, b, d, e)
            by j false false e i = h.frames.maps j ∙ sym (plain _ _ _ _ (copy-maps j) (ap {B = ℕ} (λ b. cond b 1 0) i)
                (ap {B = ℕ} (λ b. cond b 1 0) e))
              where
                plain : (n w k c : ℕ) → n + w ≡ k + c → w ≡ 0 → c ≡ 0 → n ≡ k
                plain n w k c e x y = omega (arith, e, x, y)

            by' : (j : ℕ) (b : Bool) → (j == f) ≡ b → asks_copy l j ≡ false → asks_copy made j ≡ false
            by' j true e lone = ap (asks_copy made) (same-is j f e) ∙ alone made f copy-one slot-f own
            by' j false e lone = shared-fewer l made j (copy-fewer j e) refl (λ t at. let k = copy-names t in omega (arith, k)) refl lone

    pub copy-stands : (write : Bool) (home : Option (ℕ × ℕ))
        → LedgerStands m (view_copy p (page_of a) g f write left home v) (after_note (Copied p a f) l)
    copy-stands write home = subst (LedgerStands m (view_copy p (page_of a) g f write left home v)) (sym copied-is) (stands write home)
