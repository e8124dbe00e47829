-- What the parts stand for once the entries of a process that go over have gone to a child.
use Rattle.std.proofs.Common.{◌≡◌, ℕ, ◌+◌, ◌≤◌, Bool, true, false, cond, ◌&&◌, ◌||◌, ◌==◌, nat_lt, T, List, Option, Some, None, is_none, option_map, refl, sym, ap, subst, ◌∙◌, arith}
use Rattle.std.proofs.lemmas.Bool.Decides.{nat_tests}
use Rattle.std.proofs.lemmas.Bool.{false≢true}
use Rattle.std.specs.FinMap.Entries.{find, is_sorted}
use Rattle.std.specs.Option.{option_or}
use Rattle.av_base.specs.Keys.{Key, key_cmp}
use Rattle.av_base.proofs.Keys.{same_key-is}
use Rattle.av_base.specs.Words.{is_in}
use Rattle.av_base.specs.declared.slot.Slot.{Slot}
use Rattle.av_plain.specs.Event.{put_all, without_seen}
use Rattle.av_plain.specs.Fault.{is_named, asks_copy}
use Rattle.av_plain.specs.Ledger.{Entry, Ledger, Setting, entry, is_free, is_merged, map_count, names_frame, names_slot, slot_entries, slot_of}
use Rattle.av_plain.specs.Stands.{LedgerStands, Pte, View, entry_of}
use Rattle.av_plain.proofs.Event.{count-put_all, entries_with, put_all-only}
use Rattle.std.specs.FinMap.Entries.{find-where_key}
use Rattle.std.specs.Ordering.{is_eq}
use Rattle.av_plain.proofs.Fork.{child_ledger, copies, entry-forked, find-copies, forked-is, going, handed, is_sorted-copies, sorted-going, unseen-names_frame, unseen-names_slot}
use Rattle.av_plain.proofs.Ledger.{only_one}
use Rattle.av_plain.proofs.Ledger.NoSwap.{key_is}
use Rattle.av_plain.proofs.Ledger.Walk.{passes}
use Rattle.av_swap_laws.specs.Steps.{pte_child, pte_parent}
use Rattle.av_swap_laws.proofs.Parts.{differ, shared-same, some-is}
use Rattle.av_mem.specs.Entries.{entry_passes, with_more}
use Rattle.av_fork.proofs.EntriesCounts.{copied-tally, tally, tally-few, tally-fewer, tally-none, tally-same}

equal : (a b : ℕ) → (a == b) ≡ true → a ≡ b
equal a b h = grind (arith, nat_tests, h)

has-passes : (t : Entry → Bool) (o : Option Pte) → entry_passes t o ≡ passes t (entry_of o)
has-passes t None = refl
has-passes t (Some u) = refl

-- the entry that goes over with a page
abbrev pub handed_pte : (ℕ → Bool) → ℕ → View → ℕ → Option Pte
handed_pte goes p v o = cond (goes o) (v.table p o) None

-- so many of those that lie below a page pass
abbrev pub more : (ℕ → Bool) → View → ℕ → ℕ → (Entry → Bool) → ℕ
more goes v p n t = tally (λ o. entry_passes t (handed_pte goes p v o)) n

-- the ledger has them
pub more-few : (m : Setting) (v : View) (l : Ledger) (p n : ℕ) (goes : ℕ → Bool) → T (is_sorted key_cmp l.entries) → LedgerStands m v l
    → (t : Entry → Bool) → more goes v p n t ≤ entries_with t l.entries
more-few m v l p n goes sorted h t =
    let fewer = tally-fewer (λ o. entry_passes t (handed_pte goes p v o)) (λ o. passes t (entry l (p, o))) n (λ o. over o (goes o)) in
    let few = tally-few t p n l.entries sorted in
    omega (arith, fewer, few)
  where
    over : (o : ℕ) (b : Bool) → entry_passes t (cond b (v.table p o) None) ≡ true → passes t (entry l (p, o)) ≡ true
    over o true is = sym (has-passes t (v.table p o) ∙ ap (passes t) (h.tables.entries p o)) ∙ is
    over o false is = cc

-- these are the pages whose entries go over
module _ (m : Setting) (v : View) (l : Ledger) (p n : ℕ) (goes : ℕ → Bool) (pages : List ℕ) (sorted : T (is_sorted key_cmp l.entries))
    (h : LedgerStands m v l) (are : (o : ℕ) → cond (goes o) (entry l (p, o)) None ≡ handed pages p l o) where
  handed-found : (o : ℕ) → entry_of (handed_pte goes p v o) ≡ handed pages p l o
  handed-found o = by (goes o) ∙ are o
    where
      by : (b : Bool) → entry_of (cond b (v.table p o) None) ≡ cond b (entry l (p, o)) None
      by true = h.tables.entries p o
      by false = refl

  as-found : (t : Entry → Bool) → more goes v p n t ≡ tally (λ o. passes t (handed pages p l o)) n
  as-found t = tally-same _ _ n (λ o. has-passes t (handed_pte goes p v o) ∙ ap (passes t) (handed-found o))

  few-more : (t : Entry → Bool) → more goes v p n t ≤ entries_with t l.entries
  few-more = more-few m v l p n goes sorted h

  -- those of the ledger that go over
  abbrev gone : List (Key × Entry)
  gone = going pages l.entries

  gone-sorted : T (is_sorted key_cmp gone)
  gone-sorted = sorted-going pages l.entries sorted

  gone-found : (o : ℕ) → find key_cmp (p, o) gone ≡ handed pages p l o
  gone-found o = find-where_key key_cmp (λ (k : Key). is_in k.1 pages) (p, o)
      (λ x t. ap (λ (k : Key). is_in k.1 pages) (sym (same_key-is (p, o) x (ap is_eq t)))) l.entries

  gone-tally : (t : Entry → Bool) → tally (λ o. passes t (find key_cmp (p, o) gone)) n ≡ more goes v p n t
  gone-tally t = tally-same _ _ n (λ o. ap (passes t) (gone-found o)) ∙ sym (as-found t)

  -- all that go over lie there, and the child has none
  module _ (q : ℕ) (empty : (o : ℕ) → entry l (q, o) ≡ None) (past : (o : ℕ) → n ≤ o → handed pages p l o ≡ None) where
    abbrev then : Ledger
    then = record l { entries = (put_all (copies p q gone) l).entries }

    then-is : child_ledger p q pages l ≡ then
    then-is = forked-is p q pages l ∙ put_all-only (copies p q gone) l

    fresh : (k : Key) (e : Entry) → find key_cmp k (copies p q gone) ≡ Some e → entry l k ≡ None
    fresh k e at = by (k.0 == q) refl (sym (find-copies p q k gone) ∙ at)
      where
        by : (b : Bool) → (k.0 == q) ≡ b → cond b (option_map without_seen (find key_cmp (p, k.1) gone)) None ≡ Some e → entry l k ≡ None
        by true is at = ap (λ x. entry l (x, k.1)) (equal k.0 q is) ∙ empty k.1
        by false is at = cc

    gone-past : (o : ℕ) → n ≤ o → find key_cmp (p, o) gone ≡ None
    gone-past o high = gone-found o ∙ past o high

    counts : (t : Entry → Bool) → ((e : Entry) → t (without_seen e) ≡ t e)
        → entries_with t then.entries ≡ entries_with t l.entries + more goes v p n t
    counts t unseen = count-put_all t (copies p q gone) l (is_sorted-copies p q gone gone-sorted) sorted fresh
        ∙ ap (λ k. entries_with t l.entries + k) (copied-tally t unseen p q n gone gone-sorted gone-past ∙ gone-tally t)

    maps-then : (f : ℕ) → map_count then f ≡ map_count l f + more goes v p n (names_frame f)
    maps-then f = counts (names_frame f) (unseen-names_frame f)

    entries-then : (s : Slot) → slot_entries then s ≡ slot_entries l s + more goes v p n (names_slot s)
    entries-then s = counts (names_slot s) (unseen-names_slot s)

    free-then : (f : ℕ) → is_free l f ≡ is_free then f
    free-then f = ap (λ b. b && is_none (slot_of l f)) (none _ _ _ (maps-then f) (few-more (names_frame f)))
      where
        none : (a b k : ℕ) → b ≡ a + k → k ≤ a → (a == 0) ≡ (b == 0)
        none a b k e few = grind (arith, nat_tests, e, few)

    found-then : (k : Key) → entry then k ≡ option_or (cond (k.0 == q) (option_map without_seen (handed pages p l k.1)) None) (entry l k)
    found-then k = ap (λ (l : Ledger). entry l k) (sym then-is) ∙ entry-forked p q pages l k sorted

    -- a frame that an entry of another process may write is not the parent's, nor does an entry name its slot
    alone-then : (x page : ℕ) (e : Entry) (f : ℕ) → (x == p) ≡ false → entry l (x, page) ≡ Some e → names_frame f e ≡ true → asks_copy l f ≡ false
        → asks_copy then f ≡ false
    alone-then x page e f other at names alone = shared-same l then f
        (maps-then f ∙ same (map_count l f) (more goes v p n (names_frame f)) none) refl
        (λ s at_s. entries-then s ∙ same (slot_entries l s) _ (nothing (slot_entries l s) _ (unnamed s at_s) (few-more (names_slot s)))) refl ∙ alone
      where
        same : (a k : ℕ) → k ≡ 0 → a + k ≡ a
        same a k e = omega (arith, e)

        nothing : (a k : ℕ) → a ≡ 0 → k ≤ a → k ≡ 0
        nothing a k e few = omega (arith, e, few)

        first : (a b : Bool) → (a || b) ≡ false → a ≡ false
        first true b h = h
        first false b h = refl

        second : (a b : Bool) → (a || b) ≡ false → b ≡ false
        second true b h = cc
        second false b h = h

        unshared : (nat_lt 1 (map_count l f) || is_named l (slot_of l f)) ≡ false
        unshared = first (nat_lt 1 (map_count l f) || is_named l (slot_of l f)) (is_merged l f) alone

        few : map_count l f ≤ 1
        few = at_most (map_count l f) (first (nat_lt 1 (map_count l f)) (is_named l (slot_of l f)) unshared)
          where
            at_most : (n : ℕ) → nat_lt 1 n ≡ false → n ≤ 1
            at_most n h = grind (arith, nat_tests, h)

        unnamed : (s : Slot) → slot_of l f ≡ Some s → slot_entries l s ≡ 0
        unnamed s at_s = zero_is (slot_entries l s) (ap (is_named l) (sym at_s) ∙ second (nat_lt 1 (map_count l f)) (is_named l (slot_of l f)) unshared)
          where
            zero_is : (n : ℕ) → nat_lt 0 n ≡ false → n ≡ 0
            zero_is n h = grind (arith, nat_tests, h)

        -- no entry of the parent names it
        not_there : (o : ℕ) (c : Option Entry) → entry l (p, o) ≡ c → passes (names_frame f) c ≡ false
        not_there o None is = refl
        not_there o (Some d) is = by (names_frame f d) refl
          where
            apart : (a b c d : ℕ) → (a == c) ≡ false → (a == c && b == d) ≡ false
            apart a b c d h = ap (λ t. t && b == d) h

            by : (b : Bool) → names_frame f d ≡ b → b ≡ false
            by false i = refl
            by true i = absurd (differ _ (only_one l f (p, o) (x, page) d e sorted few is i at names) (key_is x page p o ∙ apart x page p o other))

        not_handed : (o : ℕ) → passes (names_frame f) (handed pages p l o) ≡ false
        not_handed o = by (is_in o pages)
          where
            by : (b : Bool) → passes (names_frame f) (cond b (entry l (p, o)) None) ≡ false
            by true = not_there o (entry l (p, o)) refl
            by false = refl

        none : more goes v p n (names_frame f) ≡ 0
        none = as-found (names_frame f) ∙ tally-none _ n not_handed

    -- these are the tables then
    module _ (table : ℕ → ℕ → Option Pte) (parent : (o : ℕ) → table p o ≡ option_map pte_parent (v.table p o))
        (child : (o : ℕ) → table q o ≡ option_map pte_child (handed_pte goes p v o))
        (others : (x o : ℕ) → (x == p) ≡ false → (x == q) ≡ false → table x o ≡ v.table x o) where
      abbrev now : View
      now = record (with_more (λ f. more goes v p n (names_frame f)) (λ s. more goes v p n (names_slot s)) v) { table = table }

      kept : (o : Option Pte) → entry_of (option_map pte_parent o) ≡ entry_of o
      kept None = refl
      kept (Some t) = refl

      unseen : (o : Option Pte) → entry_of (option_map pte_child o) ≡ option_map without_seen (entry_of o)
      unseen None = refl
      unseen (Some t) = refl

      tables-then : (x o : ℕ) → entry_of (table x o) ≡ entry then (x, o)
      tables-then x o = by (x == p) (x == q) refl refl ∙ sym (found-then (x, o))
        where
          or_none : (c : Option Entry) → c ≡ option_or c None
          or_none None = refl
          or_none (Some e) = refl

          by : (a b : Bool) → (x == p) ≡ a → (x == q) ≡ b
              → entry_of (table x o) ≡ option_or (cond b (option_map without_seen (handed pages p l o)) None) (entry l (x, o))
          by a true i j = let same = equal x q j in
              ap (λ x. entry_of (table x o)) same ∙ ap entry_of (child o) ∙ unseen (handed_pte goes p v o)
              ∙ ap (option_map without_seen) (handed-found o) ∙ or_none (option_map without_seen (handed pages p l o))
              ∙ ap (option_or (option_map without_seen (handed pages p l o))) (sym (ap (λ x. entry l (x, o)) same ∙ empty o))
          by true false i j = let same = equal x p i in
              ap (λ x. entry_of (table x o)) same ∙ ap entry_of (parent o) ∙ kept (v.table p o) ∙ h.tables.entries p o
              ∙ ap (λ x. entry l (x, o)) (sym same)
          by false false i j = ap entry_of (others x o i j) ∙ h.tables.entries x o

      writes-then : (x o : ℕ) (t : Pte) (f : ℕ) → table x o ≡ Some t → t.write ≡ true → names_frame f t.entry ≡ true → asks_copy then f ≡ false
      writes-then x o t f is writes names = by (x == p) (x == q) refl refl
        where
          no_parent : (c : Option Pte) → option_map pte_parent c ≡ Some t → t.write ≡ true → ⊥
          no_parent None e w = cc
          no_parent (Some u) e w = false≢true (ap (λ (t : Pte). t.write) (some-is (pte_parent u) t e) ∙ w)

          no_child : (c : Option Pte) → option_map pte_child c ≡ Some t → t.write ≡ true → ⊥
          no_child None e w = cc
          no_child (Some u) e w = false≢true (ap (λ (t : Pte). t.write) (some-is (pte_child u) t e) ∙ w)

          by : (a b : Bool) → (x == p) ≡ a → (x == q) ≡ b → asks_copy then f ≡ false
          by true b i j = absurd (no_parent (v.table p o) (sym (parent o) ∙ ap (λ x. table x o) (sym (equal x p i)) ∙ is) writes)
          by false true i j = absurd (no_child (handed_pte goes p v o) (sym (child o) ∙ ap (λ x. table x o) (sym (equal x q j)) ∙ is) writes)
          by false false i j =
              let was : v.table x o ≡ Some t = sym (others x o i j) ∙ is in
              alone-then x o t.entry f i (sym (h.tables.entries x o) ∙ ap entry_of was) names (h.tables.write_bits x o t f was writes names)

      stands-then : LedgerStands m now then
      stands-then = record {
        frames = record {
          frames = h.frames.frames;
          maps = λ f. ap (λ k. k + more goes v p n (names_frame f)) (h.frames.maps f) ∙ sym (maps-then f);
          slots = h.frames.slots;
          dirty = h.frames.dirty;
          free = λ f low. h.frames.free f low ∙ free-then f;
        };
        lists = record { active = h.lists.active; inactive = h.lists.inactive };
        tables = record { entries = tables-then; write_bits = writes-then };
        swap = record {
          finds = h.swap.finds;
          counts = λ s. ap (λ k. k + more goes v p n (names_slot s)) (h.swap.counts s) ∙ sym (entries-then s);
          flight = h.swap.flight;
          on = h.swap.on;
        };
      }

      pub forked-stands : LedgerStands m now (child_ledger p q pages l)
      forked-stands = subst (LedgerStands m now) (sym then-is) stands-then
