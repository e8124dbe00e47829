-- What the memory system is seen as while the entries of a process go over to a child: the tables change first, and then the counts, run by run.
use Rattle.std.proofs.Common.{◌≡◌, ℕ, ◌+◌, ◌-◌, ◌*◌, ◌<◌, ◌≤◌, Bool, true, false, cond, not, ◌&&◌, ◌==◌, List, [], get_or, length, Option, Some, None, option_map, refl, sym, ap, subst, ◌∙◌, arith}
use Rattle.std.proofs.lemmas.Bool.Decides.{nat_tests}
use Rattle.std.proofs.lemmas.Bool.{false≢true}
use Rattle.av_base.specs.Limits.{most_processes, top_page}
use Rattle.av_base.specs.Words.{how_many, is_in, with_at}
use Rattle.av_base.specs.declared.flags.Flags.{Flags}
use Rattle.av_base.specs.declared.slot.Slot.{Slot}
use Rattle.av_pagetable.specs.Entries.{ProcessTables, entry_at}
use Rattle.av_pagetable.specs.Table.{IsFirst, child_entry, page_bound, read_only}
use Rattle.av_pagetable.specs.declared.pte.Pte.{Pte}
use Rattle.av_pagetable.specs.declared.pte.Pte.TheVariants.{Away, Empty, Here, Zero}
use Rattle.av_pagetable.proofs.DirImages.{child_none}
use Rattle.av_plain.specs.Device.{Device}
use Rattle.av_plain.specs.Fork.{goes_over, inheritance}
use Rattle.av_plain.specs.Ledger.{Entry, InFrame, InSlot, Ledger, entry, map_count, names_frame, names_slot, slot_entries}
use Rattle.av_plain.specs.Stands.{LedgerStands, View, entry_of, free_of}
use Rattle.av_plain.specs.World.{Page, Process}
use Rattle.av_plain.proofs.Covered.Fork.{merged-forked_ledger}
use Rattle.av_plain.proofs.Fork.{child_ledger, handed, inherited-goes, not-inherited}
use Rattle.av_plain.proofs.Ledger.{how_many-found}
use Rattle.av_plain.proofs.Ledger.NoSwap.{itself}
use Rattle.av_plain.proofs.Sound.Counts.{slot-itself}
use Rattle.av_plain.proofs.Sound.Fork.{forked-kept, forked-no_new}
use Rattle.av_plain.proofs.Sound.There.{there-by}
use Rattle.av_spaces.specs.Spaces.{pages_of}
use Rattle.av_swap_laws.specs.Steps.{pte_child, pte_parent}
use Rattle.av_swap_laws.proofs.Fork.{fork-chosen}
use Rattle.av_vma.specs.declared.area.Area.{Area}
use Rattle.av_mem.specs.declared.mem.Mem.{Mem}
use Rattle.av_mem.specs.Entries.{HasRoomFor, IsInUse, entry_passes, view_more_each, with_more}
use Rattle.av_mem.specs.Mem.{HasLedger, frame_count, plain, setting_by, view}
use Rattle.av_mem.specs.Steps.{KeepsParts}
use Rattle.av_mem.proofs.EntryCounts.{by-counts, in-use-then, no_more}
use Rattle.av_mem.proofs.LetGoLaws.{ledger-same}
use Rattle.av_fork.specs.Entries.{FlagsAre, HasForkedEntries, entry_goes_over, left_in}
use Rattle.av_fork.proofs.EntriesCounts.{tally-on, tally-run}
use Rattle.av_fork.proofs.EntriesLedger.{forked-stands, handed_pte, more, more-few}

equal : (a b : ℕ) → (a == b) ≡ true → a ≡ b
equal a b h = grind (arith, nat_tests, h)

is_same : (a : ℕ) → (a == a) ≡ true
is_same a = grind (arith, nat_tests)

-- ---- the tables once they are copied, and nothing of the parent is written in place any more

abbrev copy_tables : ℕ → ℕ → (ℕ → ℕ → Pte) → ℕ → ℕ → Pte
copy_tables p q old = with_at q (λ o. child_entry (old p o)) old

abbrev protect_tables : ℕ → ℕ → (ℕ → ℕ → Pte) → ℕ → ℕ → Pte
protect_tables p q old = with_at p (λ o. read_only (copy_tables p q old p o)) (copy_tables p q old)

-- and the child has lost the entries that don't go over, by these areas
abbrev pub fork_tables : (ℕ → Option Area) → ℕ → ℕ → (ℕ → ℕ → Pte) → ℕ → ℕ → Pte
fork_tables areas p q old = with_at q (left_in areas (protect_tables p q old q)) (protect_tables p q old)

-- the entry that the child has then
abbrev pub handed_entry : (ℕ → Option Area) → (ℕ → Pte) → ℕ → Pte
handed_entry areas table = left_in areas (λ o. child_entry (table o))

parent-plain : (e : Pte) → plain (read_only e) ≡ option_map pte_parent (plain e)
parent-plain Empty = refl
parent-plain Zero = refl
parent-plain (Here f write was) = refl
parent-plain (Away s) = refl

child-plain : (b : Bool) (e : Pte) → plain (cond b (child_entry e) Empty) ≡ option_map pte_child (cond b (plain e) None)
child-plain false e = refl
child-plain true Empty = refl
child-plain true Zero = refl
child-plain true (Here f write was) = refl
child-plain true (Away s) = refl

-- what is handed on is there
handed_none : (b : Bool) (e : Pte) → cond b (child_entry e) Empty ≡ Empty → cond b (plain e) None ≡ None
handed_none true e h = ap plain (child_none e h)
handed_none false e h = refl

module _ (areas : ℕ → Option Area) (p q : ℕ) (old : ℕ → ℕ → Pte) (empty : (o : ℕ) → old q o ≡ Empty) where
  none-both : (o : ℕ) → p ≡ q → old p o ≡ Empty
  none-both o same = ap (λ x. old x o) same ∙ empty o

  protected-parent : (o : ℕ) → protect_tables p q old p o ≡ read_only (old p o)
  protected-parent o = ap (λ b. cond b (λ o. read_only (copy_tables p q old p o)) (copy_tables p q old p) o) (is_same p) ∙ by (p == q) refl
    where
      by : (b : Bool) → (p == q) ≡ b → read_only (cond b (λ o. child_entry (old p o)) (old p) o) ≡ read_only (old p o)
      by true h = let none = none-both o (equal p q h) in ap (λ e. read_only (child_entry e)) none ∙ sym (ap read_only none)
      by false h = refl

  protected-child : (o : ℕ) → protect_tables p q old q o ≡ child_entry (old p o)
  protected-child o = by (q == p) refl
    where
      here : copy_tables p q old q o ≡ child_entry (old p o)
      here = ap (λ b. cond b (λ o. child_entry (old p o)) (old q) o) (is_same q)

      by : (b : Bool) → (q == p) ≡ b → cond b (λ o. read_only (copy_tables p q old p o)) (copy_tables p q old q) o ≡ child_entry (old p o)
      by true h =
          let same : p ≡ q = sym (equal q p h) in
          let none = none-both o same in
          ap (λ x. read_only (copy_tables p q old x o)) same ∙ ap read_only (here ∙ ap child_entry none) ∙ sym (ap child_entry none)
      by false h = here

  forked-parent : (o : ℕ) → fork_tables areas p q old p o ≡ read_only (old p o)
  forked-parent o = by (p == q) refl
    where
      none : (b : Bool) → cond b Empty Empty ≡ Empty
      none true = refl
      none false = refl

      by : (b : Bool) → (p == q) ≡ b → cond b (left_in areas (protect_tables p q old q)) (protect_tables p q old p) o ≡ read_only (old p o)
      by true h =
          let gone = none-both o (equal p q h) in
          ap (λ e. cond (entry_goes_over (areas o)) e Empty) (protected-child o ∙ ap child_entry gone) ∙ none (entry_goes_over (areas o))
          ∙ sym (ap read_only gone)
      by false h = protected-parent o

  pub forked-child : (o : ℕ) → fork_tables areas p q old q o ≡ handed_entry areas (old p) o
  forked-child o = ap (λ b. cond b (left_in areas (protect_tables p q old q)) (protect_tables p q old q) o) (is_same q)
      ∙ ap (λ e. cond (entry_goes_over (areas o)) e Empty) (protected-child o)

  forked-other : (x o : ℕ) → (x == p) ≡ false → (x == q) ≡ false → fork_tables areas p q old x o ≡ old x o
  forked-other x o i j = ap (λ b. cond b (left_in areas (protect_tables p q old q)) (protect_tables p q old x) o) j
      ∙ ap (λ b. cond b (λ o. read_only (copy_tables p q old p o)) (copy_tables p q old x) o) i
      ∙ ap (λ b. cond b (λ o. child_entry (old p o)) (old x) o) j

-- ---- the counts of the pages below one

-- which pages' entries go over from a process, by its areas
abbrev pub areas_on : Mem → ℕ → ℕ → Option Area
areas_on k p = pages_of k.spaces.processes p

abbrev pub goes_on : Mem → ℕ → ℕ → Bool
goes_on k p o = entry_goes_over (areas_on k p o)

-- what is seen then: all entries have gone over, and those below a page are counted
abbrev pub fork_view : Mem → ℕ → ℕ → ℕ → View
fork_view k p q n = record (with_more (λ f. more (goes_on k p) (view k) p n (names_frame f)) (λ s. more (goes_on k p) (view k) p n (names_slot s)) (view k)) {
  table = λ x o. plain (fork_tables (areas_on k p) p q (entry_at k.tables) x o);
}

module _ (old : Mem) (p q : ℕ) where
  pub none-seen : (tables : ProcessTables) → entry_at tables ≡ fork_tables (areas_on old p) p q (entry_at old.tables)
      → view (record old { tables = tables }) ≡ fork_view old p q 0
  none-seen tables is =
      (λ i. record (view old) { table = λ x o. plain (is i x o) })
      ∙ by-counts (record (view old) { table = λ x o. plain (fork_tables (areas_on old p) p q (entry_at old.tables) x o) }) _ _ _ _
      (λ f. no_more ((view old).maps f))
      (λ s. no_more ((view old).entries s))

  -- a run goes over; the pages before it have no entry
  pub run-seen : (now new : Mem) (table : ℕ → Pte) (next page : ℕ) (run : List Pte)
      → ((o : ℕ) → table o ≡ handed_entry (areas_on old p) (entry_at old.tables p) o) → IsFirst table next page_bound page
      → ((i : ℕ) → i < length run → get_or run i Empty ≡ table (page + i))
      → view now ≡ fork_view old p q next → view new ≡ view_more_each run (view now) → view new ≡ fork_view old p q (page + length run)
  run-seen now new table next page run copies first are is ups =
      ups ∙ ap (view_more_each run) is
      ∙ by-counts (record (view old) { table = λ x o. plain (fork_tables (areas_on old p) p q (entry_at old.tables) x o) }) _ _ _ _
      (λ f. joined ((view old).maps f) (names_frame f) (unseen-frame f)) (λ s. joined ((view old).entries s) (names_slot s) (unseen-slot s))
    where
      -- a child's entry names what its parent's does
      IsBlind : (Entry → Bool) → Type 0
      IsBlind t = (e : Pte) → entry_passes t (plain (child_entry e)) ≡ entry_passes t (plain e)

      unseen-frame : (f : ℕ) → IsBlind (names_frame f)
      unseen-frame f Empty = refl
      unseen-frame f Zero = refl
      unseen-frame f (Here g write was) = refl
      unseen-frame f (Away s) = refl

      unseen-slot : (s : Slot) → IsBlind (names_slot s)
      unseen-slot s Empty = refl
      unseen-slot s Zero = refl
      unseen-slot s (Here g write was) = refl
      unseen-slot s (Away t) = refl

      -- where it has one
      handed-passes : (t : Entry → Bool) → IsBlind t → (b : Bool) (e : Pte)
          → entry_passes t (plain (cond b (child_entry e) Empty)) ≡ entry_passes t (cond b (plain e) None)
      handed-passes t blind true e = blind e
      handed-passes t blind false e = refl

      joined : (k : ℕ) (t : Entry → Bool) → IsBlind t → k + more (goes_on old p) (view old) p next t + how_many (λ e. entry_passes t (plain e)) run
          ≡ k + more (goes_on old p) (view old) p (page + length run) t
      joined k t blind = add k _ _ _ (sym (
          tally-run (λ o. entry_passes t (handed_pte (goes_on old p) p (view old) o)) (λ e. entry_passes t (plain e)) run Empty page
          (λ i low. ap (λ e. entry_passes t (plain e)) (are i low ∙ copies (page + i))
          ∙ handed-passes t blind (goes_on old p (page + i)) (entry_at old.tables p (page + i)))
          ∙ ap (λ c. c + how_many (λ e. entry_passes t (plain e)) run) skipped
          ))
        where
          add : (a b c d : ℕ) → b + c ≡ d → a + b + c ≡ a + d
          add a b c d e = omega (arith, e)

          skipped : more (goes_on old p) (view old) p page t ≡ more (goes_on old p) (view old) p next t
          skipped =
              ap (λ n. more (goes_on old p) (view old) p n t) (let low = first.from_there in
              let same : page ≡ next + (page - next) = omega (arith, low) in same)
              ∙ tally-on _ next (page - next) (λ o low high. ap (entry_passes t)
              (handed_none (goes_on old p o) (entry_at old.tables p o) (sym (copies o) ∙ first.least o low (let up = first.from_there in
              omega (arith, high, up)))))

  module _ (d : Device) (l : Ledger) (h : HasLedger d old l) where
    -- what an entry of the parent names is in use
    pub in-use : (o : ℕ) → IsInUse old (handed_entry (areas_on old p) (entry_at old.tables p) o)
    in-use o = on (goes_on old p o)
      where
        at : (e : Pte) → entry_at old.tables p o ≡ e → entry l (p, o) ≡ entry_of (plain e)
        at e is = sym (h.parts.tables.entries p o) ∙ ap (λ e. entry_of (plain e)) is

        by : (e : Pte) → entry_at old.tables p o ≡ e → IsInUse old (child_entry e)
        by Empty is = tt
        by Zero is = tt
        by (Here f write was) is =
            let some : 0 < map_count l f = how_many-found (names_frame f) (p, o) l.entries (InFrame f was) (at (Here f write was) is) (itself f) in
            h.sound.in_range f (omega (arith, some))
        by (Away s) is =
            let some : 0 < slot_entries l s = how_many-found (names_slot s) (p, o) l.entries (InSlot s) (at (Away s) is) (slot-itself s) in
            let counts = h.parts.swap.counts s in
            omega (arith, some, counts)

        on : (b : Bool) → IsInUse old (cond b (child_entry (entry_at old.tables p o)) Empty)
        on true = by (entry_at old.tables p o) refl
        on false = tt

    module _ (now : Mem) (n : ℕ) (is : view now ≡ fork_view old p q n) where
      -- and there is room for a run
      pub room-now : ((f : ℕ) → (view old).maps f ≤ most_processes * top_page) → ((s : Slot) → (view old).entries s ≤ most_processes)
          → (len : ℕ) → len ≤ 64 → HasRoomFor now len
      room-now few few_slots len short = record {
        maps = λ f.
            let up = ap (λ (v : View). v.maps f) is in
            let low = more-few (setting_by d old) (view old) l p n (goes_on old p) h.sound.in_order h.parts (names_frame f) in
            let same = h.parts.frames.maps f in
            let most = few f in omega (arith, up, low, same, most, short);
        entries = λ s.
            let up = ap (λ (v : View). v.entries s) is in
            let low = more-few (setting_by d old) (view old) l p n (goes_on old p) h.sound.in_order h.parts (names_slot s) in
            let same = h.parts.swap.counts s in
            let most = few_slots s in omega (arith, up, low, same, most, short);
      }

      pub in-use-seen : frame_count now ≡ frame_count old → (o : ℕ) → IsInUse now (handed_entry (areas_on old p) (entry_at old.tables p) o)
      in-use-seen count o = in-use-then old now count (ap (λ (v : View). v.find) is)
          (λ s. let up = ap (λ (v : View). v.entries s) is in omega (arith, up)) (handed_entry (areas_on old p) (entry_at old.tables p) o) (in-use o)

      -- where the child has none from there on, all has gone over
      module _ (pages : Process) (flags : FlagsAre (view old) p pages) (empty : (o : ℕ) → entry_at old.tables q o ≡ Empty) (parts : KeepsParts old now)
          (tables : entry_at now.tables ≡ fork_tables (areas_on old p) p q (entry_at old.tables))
          (none : (o : ℕ) → n ≤ o → entry_at now.tables q o ≡ Empty) where
        -- the pages of the entries that go over
        abbrev over : List ℕ
        over = inheritance pages l p

        goes-over : (o : ℕ) → goes_on old p o ≡ goes_over (pages o)
        goes-over o = by (areas_on old p o) (pages o) (flags o)
          where
            by : (a : Option Area) (x : Option Page) → option_map (λ (area : Area). area.flags) a ≡ option_map (λ (q : Page). q.flags) x
                → entry_goes_over a ≡ goes_over x
            by None None e = refl
            by None (Some x) e = cc
            by (Some a) None e = cc
            by (Some a) (Some x) e =
                let same : a.flags ≡ x.flags = cc in
                ap (λ (f : Flags). not f.dont_fork && not f.wipe_on_fork) same

        are : (o : ℕ) → cond (goes_on old p o) (entry l (p, o)) None ≡ handed over p l o
        are o = by (goes_on old p o) (is_in o over) refl refl
          where
            by : (a b : Bool) → goes_on old p o ≡ a → is_in o over ≡ b → cond a (entry l (p, o)) None ≡ cond b (entry l (p, o)) None
            by true true i j = refl
            by true false i j = not-inherited pages l p o (sym (goes-over o) ∙ i) j
            by false true i j = absurd (false≢true (sym i ∙ goes-over o ∙ inherited-goes pages l p o j))
            by false false i j = refl

        unnamed : (o : ℕ) → entry l (q, o) ≡ None
        unnamed o = sym (h.parts.tables.entries q o) ∙ ap (λ e. entry_of (plain e)) (empty o)

        past : (o : ℕ) → n ≤ o → handed over p l o ≡ None
        past o low = sym (are o) ∙ by (goes_on old p o) (handed_none (goes_on old p o) (entry_at old.tables p o)
            (sym (ap (λ t. t q o) tables ∙ forked-child (areas_on old p) p q (entry_at old.tables) empty o) ∙ none o low))
          where
            by : (b : Bool) → cond b (plain (entry_at old.tables p o)) None ≡ None → cond b (entry l (p, o)) None ≡ None
            by true e = sym (h.parts.tables.entries p o) ∙ ap entry_of e
            by false e = refl

        pub all-seen : HasForkedEntries d old now pages l p q
        all-seen = record {
          stands = ledger-same d old now (view now) (child_ledger p q over l) parts (record {
            sound = forked-kept (setting_by d old) l p q over h.sound unnamed;
            there = there-by (setting_by d old) l (child_ledger p q over l) (forked-no_new (setting_by d old) l p q over h.sound unnamed) h.there;
            parts = subst (λ (v : View). LedgerStands (setting_by d old) v (child_ledger p q over l)) (sym is)
                (forked-stands (setting_by d old) (view old) l p n (goes_on old p) over h.sound.in_order h.parts are q unnamed past
                (λ x o. plain (fork_tables (areas_on old p) p q (entry_at old.tables) x o))
                (λ o. ap plain (forked-parent (areas_on old p) p q (entry_at old.tables) empty o) ∙ parent-plain (entry_at old.tables p o))
                (λ o. ap plain (forked-child (areas_on old p) p q (entry_at old.tables) empty o) ∙ child-plain (goes_on old p o) (entry_at old.tables p o))
                (λ x o i j. ap plain (forked-other (areas_on old p) p q (entry_at old.tables) empty x o i j)));
            lists = h.lists;
            items = h.items;
            swap = h.swap;
          });
          free = fork-chosen (setting_by d old) None l p q over (view old) (view now) h.sound.in_order unnamed (ap free_of is);
          items = λ items are f. ap (λ (v : View). v.items f) is ∙ are f
              ∙ ap (λ b. cond b (items f) []) (sym (merged-forked_ledger p q over l f));
        }
