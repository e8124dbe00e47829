-- The entries of a process go over to a child, those of slots too.
use Rattle.std.proofs.Common.{◌≡◌, ℕ, ◌+◌, ◌<◌, ◌≤◌, Bool, true, false, cond, if◌then◌else◌, not, ◌&&◌, List, Option, Some, None, is_none, option_map, refl, sym, ap, subst, ◌∙◌, arith, ◌==◌, T}
use Rattle.std.proofs.lemmas.Bool.Decides.{nat_tests}
use Rattle.std.proofs.lemmas.Bool.{false≢true}
use Rattle.std.specs.FinMap.Entries.{is_sorted}
use Rattle.std.specs.Option.{option_or}
use Rattle.std.specs.Prelude.{option_and_then}
use Rattle.std.specs.Ordering.{nat_cmp, eq_by_cmp}
use Rattle.av_base.specs.Keys.{Key, key_cmp, same_key}
use Rattle.av_base.specs.Words.{is_in, with_at}
use Rattle.av_base.specs.declared.slot.Slot.{Slot}
use Rattle.av_plain.specs.Choice.{Chooses}
use Rattle.av_plain.specs.Device.{Device}
use Rattle.av_plain.specs.Event.{Forked, after, put_all, set_entry, without_seen}
use Rattle.av_plain.specs.Fault.{asks_copy}
use Rattle.av_plain.specs.Fork.{goes_over, inheritance}
use Rattle.av_plain.specs.Ledger.{Entry, InFrame, InSlot, Ledger, Setting, Zero, entry, frame_at, in_flight, is_free, is_stale, map_count, names_frame, names_slot, same_slot, slot_entries, slot_of}
use Rattle.av_plain.specs.Sound.{holders, slots}
use Rattle.av_plain.specs.Stands.{BytesStand, IsKept, LedgerStands, Pte, View, entry_of, free_of}
use Rattle.av_plain.specs.World.{Holds, Page, World, child_of, page_of_child, pages, set_process, wiped, without_lock}
use Rattle.av_plain.proofs.Event.{put_all-only}
use Rattle.av_plain.proofs.Fork.{child_ledger, copies, entry-forked, forked-is, frames-grow, going, handed, inherited-goes, not-inherited, slots-grow, unseen-names_frame}
use Rattle.av_plain.proofs.Ledger.{entry-set, how_many-found, map_count-set, only_one}
use Rattle.av_plain.proofs.Ledger.NoSwap.{key_is}
use Rattle.av_plain.proofs.Ledger.Order.{weight}
use Rattle.av_plain.proofs.Sound.Counts.{same-is, slot-is}
use Rattle.av_plain.proofs.Sound.Entries.{slot_entries-set}
use Rattle.av_plain.proofs.World.{pages-set}
use Rattle.av_swap_laws.specs.Steps.{pte_child, pte_parent, view_fork_entry, view_one_more, with_at_slot, with_pte}
use Rattle.av_swap_laws.proofs.Free.{FreesNone, chooses-nothing}
use Rattle.av_swap_laws.proofs.Parts.{clean-same, differ, few-of, kept-claims, kept-moves, none-some, shared-same, some-is, unnamed-of}

unseen-slot : (t : Slot) (e : Entry) → names_slot t (without_seen e) ≡ names_slot t e
unseen-slot t Zero = refl
unseen-slot t (InFrame g seen) = refl
unseen-slot t (InSlot r) = refl

-- ---- one entry

module _ (m : Setting) (v : View) (l : Ledger) (p q page : ℕ) (t : Pte) (sorted : T (is_sorted key_cmp l.entries)) (h : LedgerStands m v l)
    (there : v.table p page ≡ Some t) (fresh : entry l (q, page) ≡ None) where
  abbrev e : Entry
  e = t.entry

  at : entry l (p, page) ≡ Some e
  at = sym (h.tables.entries p page) ∙ ap entry_of there

  abbrev now : Ledger
  now = set_entry (q, page) (without_seen e) l

  maps-now : (g : ℕ) → map_count now g ≡ map_count l g + cond (names_frame g e) 1 0
  maps-now g = plain _ _ _ _ _ (map_count-set (q, page) (without_seen e) l g sorted) (ap (weight (names_frame g)) fresh)
      (ap {B = ℕ} (λ b. cond b 1 0) (unseen-names_frame g e))
    where
      plain : (n w k c d : ℕ) → n + w ≡ k + c → w ≡ 0 → c ≡ d → n ≡ k + d
      plain n w k c d a b x = omega (arith, a, b, x)

  entries-now : (t : Slot) → slot_entries now t ≡ slot_entries l t + cond (names_slot t e) 1 0
  entries-now t = plain _ _ _ _ _ (slot_entries-set (q, page) (without_seen e) l t sorted) (ap (weight (names_slot t)) fresh)
      (ap {B = ℕ} (λ b. cond b 1 0) (unseen-slot t e))
    where
      plain : (n w k c d : ℕ) → n + w ≡ k + c → w ≡ 0 → c ≡ d → n ≡ k + d
      plain n w k c d a b x = omega (arith, a, b, x)

  -- an entry of the parent's frame was there, and so was one of its slot
  frame-had : (g : ℕ) → names_frame g e ≡ true → 0 < map_count l g
  frame-had g is = how_many-found (names_frame g) (p, page) l.entries e at is

  slot-had : (t : Slot) → names_slot t e ≡ true → 0 < slot_entries l t
  slot-had t is = how_many-found (names_slot t) (p, page) l.entries e at is

  free-now : (g : ℕ) → is_free l g ≡ is_free now g
  free-now g = by (names_frame g e) refl ∙ ap (λ n. n == 0 && is_none (slot_of l g)) (sym (maps-now g))
    where
      both : (n k : ℕ) (b : Bool) → 0 < n → (n == 0 && b) ≡ (n + k == 0 && b)
      both n k true h = grind (arith, nat_tests, h)
      both n k false h = grind (arith, nat_tests, h)

      plus_zero : (n : ℕ) → n ≡ n + 0
      plus_zero n = omega arith

      by : (b : Bool) → names_frame g e ≡ b → (map_count l g == 0 && is_none (slot_of l g)) ≡
          (map_count l g + cond b 1 0 == 0 && is_none (slot_of l g))
      by true is = both (map_count l g) 1 (is_none (slot_of l g)) (frame-had g is)
      by false is = ap (λ n. n == 0 && is_none (slot_of l g)) (plus_zero (map_count l g))

  -- a frame that another entry may write is not the parent's page's, nor has it a slot that the page names
  alone-now : (k : Key) (d : Entry) (g : ℕ) → entry l k ≡ Some d → names_frame g d ≡ true → same_key k (p, page) ≡ false → asks_copy l g ≡ false →
      asks_copy now g ≡ false
  alone-now k d g is names other alone = shared-same l now g (maps-now g ∙ frame (names_frame g e) refl) refl
      (λ t at_t. entries-now t ∙ slot t at_t (names_slot t e) refl) refl ∙ alone
    where
      few : map_count l g ≤ 1
      few = few-of l g alone

      frame : (b : Bool) → names_frame g e ≡ b → map_count l g + cond b 1 0 ≡ map_count l g
      frame true i = absurd (differ (same_key k (p, page)) (only_one l g (p, page) k e d sorted few at i is names) other)
      frame false i = omega arith

      slot : (t : Slot) → slot_of l g ≡ Some t → (b : Bool) → names_slot t e ≡ b → slot_entries l t + cond b 1 0 ≡ slot_entries l t
      slot t at_t true i = absurd (let none = unnamed-of l g alone t at_t in let some = slot-had t i in omega (arith, none, some))
      slot t at_t false i = omega arith

  tables-now : (a b : ℕ) → entry_of ((view_fork_entry p q page t v).table a b) ≡ entry now (a, b)
  tables-now a b = by (a == p && b == page) (a == q && b == page) refl refl
      ∙ sym (entry-set (q, page) (without_seen e) l (a, b) ∙ ap (λ c. cond c (Some (without_seen e)) (entry l (a, b))) (key_is a b q page))
    where
      parts : (a b c d : ℕ) → (a == c && b == d) ≡ true → (a ≡ c) × (b ≡ d)
      parts a b c d h = (grind (arith, nat_tests, h), grind (arith, nat_tests, h))

      by : (x y : Bool) → (a == p && b == page) ≡ x → (a == q && b == page) ≡ y
          → entry_of (cond x (Some (pte_parent t)) (cond y (Some (pte_child t)) (v.table a b)))
          ≡ cond y (Some (without_seen e)) (entry l (a, b))
      by true true i j = let u = parts a b p page i in let w = parts a b q page j in
          absurd (none-some e (sym fresh ∙ ap (λ c. entry l (c, page)) (sym w.0 ∙ u.0) ∙ at))
      by true false i j = let u = parts a b p page i in sym at ∙ (λ k. entry l (sym u.0 k, sym u.1 k))
      by false true i j = refl
      by false false i j = h.tables.entries a b

  writes-now : (a b : ℕ) (u : Pte) (g : ℕ) → (view_fork_entry p q page t v).table a b ≡ Some u → u.write ≡ true → names_frame g u.entry ≡ true →
      asks_copy now g ≡ false
  writes-now a b u g is writes names = by (a == p && b == page) (a == q && b == page) refl is
    where
      bit : (w : Pte) → Some w ≡ Some u → w.write ≡ true
      bit w same = ap (λ (t : Pte). t.write) (some-is w u same) ∙ writes

      by : (x y : Bool) → (a == p && b == page) ≡ x → cond x (Some (pte_parent t)) (cond y (Some (pte_child t)) (v.table a b)) ≡ Some u
          → asks_copy now g ≡ false
      by true y i is = absurd (false≢true (bit (pte_parent t) is))
      by false true i is = absurd (false≢true (bit (pte_child t) is))
      by false false i is = alone-now (a, b) u.entry g (sym (h.tables.entries a b) ∙ ap entry_of is) names (key_is a b p page ∙ i)
          (h.tables.write_bits a b u g is writes names)

  -- with these counts
  module _ (maps : ℕ → ℕ) (entries : Slot → ℕ) (maps-are : (g : ℕ) → maps g ≡ map_count now g)
      (entries-are : (s : Slot) → entries s ≡ slot_entries now s) where
    counts-stand : LedgerStands m (record v {
      table = with_pte p page (Some (pte_parent t)) (with_pte q page (Some (pte_child t)) v.table);
      maps = maps;
      entries = entries;
    }) now
    counts-stand = record {
      frames = record {
        frames = h.frames.frames;
        maps = maps-are;
        slots = h.frames.slots;
        dirty = h.frames.dirty;
        free = λ g below. h.frames.free g below ∙ free-now g;
      };
      lists = record { active = h.lists.active; inactive = h.lists.inactive };
      tables = record { entries = tables-now; write_bits = writes-now };
      swap = record { finds = h.swap.finds; counts = entries-are; flight = h.swap.flight; on = h.swap.on };
    }

  plus_zero : (n k : ℕ) → n ≡ k → n ≡ k + 0
  plus_zero n k e = omega (arith, e)

  same-maps : (d : Entry) → e ≡ d → ((g : ℕ) → names_frame g d ≡ false) → (g : ℕ) → v.maps g ≡ map_count now g
  same-maps d is none g = plus_zero _ _ (h.frames.maps g) ∙ ap {B = ℕ} (λ b. map_count l g + cond b 1 0) (sym (ap (names_frame g) is ∙ none g))
      ∙ sym (maps-now g)

  same-entries : (d : Entry) → e ≡ d → ((s : Slot) → names_slot s d ≡ false) → (s : Slot) → v.entries s ≡ slot_entries now s
  same-entries d is none s = plus_zero _ _ (h.swap.counts s) ∙ ap {B = ℕ} (λ b. slot_entries l s + cond b 1 0) (sym (ap (names_slot s) is ∙ none s))
      ∙ sym (entries-now s)

  by-entry : (d : Entry) → e ≡ d → LedgerStands m (record (view_one_more d v) {
    table = with_pte p page (Some (pte_parent t)) (with_pte q page (Some (pte_child t)) v.table);
  }) now
  by-entry Zero is = counts-stand v.maps v.entries (same-maps Zero is (λ g. refl)) (same-entries Zero is (λ s. refl))
  by-entry (InFrame f seen) is = counts-stand (with_at f (v.maps f + 1) v.maps) v.entries
      (λ g. more g (g == f) refl ∙ ap {B = ℕ} (λ b. map_count l g + cond b 1 0) (sym (ap (names_frame g) is)) ∙ sym (maps-now g))
      (same-entries (InFrame f seen) is (λ s. refl))
    where
      more : (g : ℕ) (b : Bool) → (g == f) ≡ b → cond b (v.maps f + 1) (v.maps g) ≡ map_count l g + cond b 1 0
      more g true i = ap (λ n. n + 1) (h.frames.maps f ∙ ap (map_count l) (sym (same-is g f i)))
      more g false i = plus_zero _ _ (h.frames.maps g)
  by-entry (InSlot s) is = counts-stand v.maps (with_at_slot s (v.entries s + 1) v.entries) (same-maps (InSlot s) is (λ g. refl))
      (λ r. more r (same_slot r s) refl ∙ ap {B = ℕ} (λ b. slot_entries l r + cond b 1 0) (sym (ap (names_slot r) is)) ∙ sym (entries-now r))
    where
      more : (r : Slot) (b : Bool) → same_slot r s ≡ b → cond b (v.entries s + 1) (v.entries r) ≡ slot_entries l r + cond b 1 0
      more r true i = ap (λ n. n + 1) (h.swap.counts s ∙ ap (slot_entries l) (sym (slot-is r s i)))
      more r false i = plus_zero _ _ (h.swap.counts r)

  pub fork_entry-stands : LedgerStands m (view_fork_entry p q page t v) (set_entry (q, page) (without_seen t.entry) l)
  fork_entry-stands = by-entry t.entry refl

-- ---- the whole fork

-- all but the entries stays
pub forked-only : (p q : ℕ) (goes : List ℕ) (l : Ledger)
    → child_ledger p q goes l ≡ record l { entries = (child_ledger p q goes l).entries }
forked-only p q goes l = forked-is p q goes l ∙ put_all-only (copies p q (going goes l.entries)) l
    ∙ ap (λ es. record l { entries = es }) (ap (λ (k : Ledger). k.entries) (sym (forked-is p q goes l)))

-- nothing is taken, and nothing comes free
pub fork-chosen : (m : Setting) (closing : Option ℕ) (l : Ledger) (p q : ℕ) (goes : List ℕ) (v v' : View) → T (is_sorted key_cmp l.entries)
    → ((page : ℕ) → entry l (q, page) ≡ None) → free_of v' ≡ free_of v
    → Chooses m closing l (Forked p q goes) (free_of v) (free_of v')
fork-chosen m closing l p q goes v v' sorted none same = subst (Chooses m closing l (Forked p q goes) (free_of v)) (sym same)
    (chooses-nothing m closing l (Forked p q goes) (free_of v) frees refl refl refl refl)
  where
    frees : FreesNone l (child_ledger p q goes l)
    frees = subst (FreesNone l) (sym (forked-is p q goes l)) (record {
      frames = λ g had. let k = frames-grow p q goes l sorted none g in more _ _ _ _ k.count had (cached-same g);
      slots = λ t had. let k = slots-grow p q goes l sorted none t in fewer _ _ _ _ k.count had (slots-same t);
    })
      where
        cached-same : (g : ℕ) → holders (put_all (copies p q (going goes l.entries)) l) g ≡ holders l g
        cached-same g = ap (λ (k : Ledger). holders k g) (put_all-only (copies p q (going goes l.entries)) l)

        slots-same : (t : Slot) → slots (put_all (copies p q (going goes l.entries)) l) t ≡ slots l t
        slots-same t = ap (λ (k : Ledger). slots k t) (put_all-only (copies p q (going goes l.entries)) l)

        more : (n k c h : ℕ) {x : ℕ} → n ≡ k + c → 0 < k + x → h ≡ x → 0 < n + h
        more n k c h a b e = omega (arith, a, b, e)

        fewer : (n k c h : ℕ) {x : ℕ} → n ≡ k + c → 0 < x + k → h ≡ x → 0 < h + n
        fewer n k c h a b e = omega (arith, a, b, e)

-- the child's pages are where the parent's are that go over with their entries; the others are zeros
pub fork-bytes : (v v' : View) (d : Device) (w : World) (l : Ledger) (p q : ℕ) → T (is_sorted key_cmp l.entries) → v'.bytes ≡ v.bytes
    → ((page : ℕ) → entry l (q, page) ≡ None) → BytesStand v d w l
    → BytesStand v' d (set_process w q (child_of (pages w p))) (after l (Forked p q (inheritance (pages w p) l p)))
fork-bytes v v' d w l p q sorted same none h = record {
  kept = λ a page. subst (IsKept v' d now (entry now (a, page))) (sym (pages-set w q (child_of (pages w p)) a page))
      (subst (λ o. IsKept v' d now o (cond (eq_by_cmp nat_cmp a q) (child_of (pages w p) page) (pages w a page))) (sym (entry-forked p q goes l
      (a, page) sorted))
      (by a page (a == q) refl));
  clean = λ t fresh low. clean-same v v' d t (frame_at l t) (frame_at now t) same (found t)
      (h.clean t (sym (ap (λ (k : Ledger). is_stale k t) (forked-only p q goes l)) ∙ fresh)
      (sym (ap (λ (k : Ledger). in_flight k t) (forked-only p q goes l)) ∙ low));
}
  where
    goes : List ℕ
    goes = inheritance (pages w p) l p

    now : Ledger
    now = child_ledger p q (inheritance (pages w p) l p) l

    found : (t : Slot) → frame_at (child_ledger p q (inheritance (pages w p) l p) l) t ≡ frame_at l t
    found t = ap (λ (k : Ledger). frame_at k t) (forked-only p q (inheritance (pages w p) l p) l)

    moved : (o : Option Entry) (x : Option Page) → IsKept v d l o x → IsKept v' d (child_ledger p q (inheritance (pages w p) l p) l) o x
    moved o x k = kept-moves v v' d d l (child_ledger p q (inheritance (pages w p) l p) l) o x same (λ t is. found t) (λ t is none held. held) k

    -- a page that goes over with its entry
    whole : (o : Option Entry) (x : Option Page) → goes_over x ≡ true → IsKept v d l o x
        → IsKept v' d (child_ledger p q (inheritance (pages w p) l p) l) (option_or (option_map without_seen o) None) (option_and_then page_of_child x)
    whole o None over k = cc
    whole o (Some x) over k = kept-claims v' d (child_ledger p q (inheritance (pages w p) l p) l) (option_or (option_map without_seen o) None)
        (Some x) (page_of_child x) (claims x.flags.dont_fork x.flags.wipe_on_fork over) (unseen o (moved o (Some x) k))
      where
        claims : (a b : Bool) → (not a && not b) ≡ true → (at : ℕ → ℕ) → Holds (Some x) at
            → Holds (if a then None else Some (without_lock (if b then wiped x else x))) at
        claims true b over at held = cc
        claims false true over at held = cc
        claims false false over at held = held

        unseen : (o : Option Entry) → IsKept v' d (child_ledger p q (inheritance (pages w p) l p) l) o (Some x)
            → IsKept v' d (child_ledger p q (inheritance (pages w p) l p) l) (option_or (option_map without_seen o) None) (Some x)
        unseen None k = k
        unseen (Some Zero) k = k
        unseen (Some (InFrame g seen)) k = k
        unseen (Some (InSlot t)) k = k

    -- one that doesn't is left out, or zeros
    bare : (x : Option Page) → (goes_over x ≡ true → Holds x (λ _. 0)) → Holds (option_and_then page_of_child x) (λ _. 0)
    bare None zero = tt
    bare (Some x) zero = of_flags x.flags.dont_fork x.flags.wipe_on_fork zero
      where
        of_flags : (a b : Bool) → ((not a && not b) ≡ true → Holds (Some x) (λ _. 0))
            → Holds (if a then None else Some (without_lock (if b then wiped x else x))) (λ _. 0)
        of_flags true b zero = tt
        of_flags false true zero = λ i below. refl
        of_flags false false zero = zero refl

    child : (page : ℕ) → IsKept v' d (child_ledger p q (inheritance (pages w p) l p) l)
        (option_or (option_map without_seen (handed (inheritance (pages w p) l p) p l page)) None) (child_of (pages w p) page)
    child page = over (is_in page (inheritance (pages w p) l p)) refl
      where
        over : (b : Bool) → is_in page (inheritance (pages w p) l p) ≡ b
            → IsKept v' d (child_ledger p q (inheritance (pages w p) l p) l)
            (option_or (option_map without_seen (cond b (entry l (p, page)) None)) None) (child_of (pages w p) page)
        over true is = whole (entry l (p, page)) (pages w p page) (inherited-goes (pages w p) l p page is) (h.kept p page)
        over false is = bare (pages w p page) (λ over. subst (λ o. IsKept v d l o (pages w p page))
            (not-inherited (pages w p) l p page over is) (h.kept p page))

    yes_same : (a : ℕ) → (a == q) ≡ true → eq_by_cmp nat_cmp a q ≡ true
    yes_same a h = grind (arith, nat_tests, h)

    not_same : (a : ℕ) → (a == q) ≡ false → eq_by_cmp nat_cmp a q ≡ false
    not_same a h = grind (arith, nat_tests, h)

    by : (a page : ℕ) (b : Bool) → (a == q) ≡ b → IsKept v' d (child_ledger p q (inheritance (pages w p) l p) l)
        (option_or (cond (a == q) (option_map without_seen (handed (inheritance (pages w p) l p) p l page)) None) (entry l (a, page)))
        (cond (eq_by_cmp nat_cmp a q) (child_of (pages w p) page) (pages w a page))
    by a page true e = subst (λ c. IsKept v' d now
        (option_or (cond (a == q) (option_map without_seen (handed goes p l page)) None) (entry l (a, page)))
        (cond c (child_of (pages w p) page) (pages w a page))) (sym (yes_same a e))
        (subst (λ c. IsKept v' d now (option_or (cond c (option_map without_seen (handed goes p l page)) None) (entry l (a, page)))
        (child_of (pages w p) page)) (sym e)
        (subst (λ o. IsKept v' d now (option_or (option_map without_seen (handed goes p l page)) o) (child_of (pages w p) page))
        (sym (ap (λ a. entry l (a, page)) (same-is a q e) ∙ none page)) (child page)))
    by a page false e = subst (λ c. IsKept v' d now
        (option_or (cond (a == q) (option_map without_seen (handed goes p l page)) None) (entry l (a, page)))
        (cond c (child_of (pages w p) page) (pages w a page))) (sym (not_same a e))
        (subst (λ c. IsKept v' d now (option_or (cond c (option_map without_seen (handed goes p l page)) None) (entry l (a, page)))
        (pages w a page)) (sym e)
        (moved (entry l (a, page)) (pages w a page) (h.kept a page)))
