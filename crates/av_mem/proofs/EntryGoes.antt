-- An entry goes, with the slot that it leaves as an orphan: what the memory system stands for then.
use Rattle.std.proofs.Common.{◌≡◌, ℕ, ◌-◌, ◌<◌, Bool, true, false, cond, not, ◌&&◌, ◌==◌, List, [], ◌∷◌, ◌++◌, Option, Some, None, IfSome, MatchBool, is_none, refl, sym, ap, subst, ◌∙◌, arith}
use Rattle.std.proofs.lemmas.Bool.Decides.{nat_tests}
use Rattle.std.proofs.lemmas.Bool.{false≢true}
use Rattle.std.proofs.lemmas.List.{append-nil}
use Rattle.std.specs.List.{list_any}
use Rattle.av_base.specs.Keys.{Key}
use Rattle.av_base.specs.declared.slot.Slot.{Slot}
use Rattle.av_base.specs.Words.{is_in, with_at}
use Rattle.av_pagetable.specs.declared.pte.Pte.{Pte}
use Rattle.av_pagetable.specs.declared.pte.Pte.TheVariants.{Away, Empty, Here, Zero as ZeroPte}
use Rattle.av_plain.specs.Choice.{Chooses, ChoosesAll}
use Rattle.av_plain.specs.Event.{Event, Noted, Zapped, after_all, after_note, after_zap, note_events, notes_of, when}
use Rattle.av_plain.specs.Ledger.{Entry, InFrame, InSlot, Ledger, Setting, Zero, entry, frame_at, is_orphan as is_orphan_in, is_unmapped as is_unmapped_in, map_count, names_frame, names_slot, same_slot, slot_of}
use Rattle.av_plain.specs.Ledger as in_ledger
use Rattle.av_plain.specs.Sound.{IsSoundBut, is_there}
use Rattle.av_plain.specs.Areas.{Items}
use Rattle.av_plain.specs.Stands.{ItemsAre, Pte as Plain, LedgerStands, View, entry_of, free_of}
use Rattle.av_plain.specs.Zap.{keys_in, orphan_drop, slot_behind_key, zap_of, zaps_of}
use Rattle.av_plain.proofs.Ledger.{how_many-found}
use Rattle.av_plain.proofs.Sound.Counts.{same-itself, slot-itself}
use Rattle.av_plain.proofs.Sound.Flight.{excuse_of}
use Rattle.av_plain.proofs.Sound.Zap.{taken-kept, zaps_of-kept, zaps_of-there}
use Rattle.av_plain.proofs.Zap.{same_swap-after_zap}
use Rattle.av_trace.specs.declared.note.Note.{Note}
use Rattle.av_trace.specs.declared.note.Note.TheVariants.{Dropped}
use Rattle.av_swap_laws.specs.May.{AreOnce}
use Rattle.av_swap_laws.specs.Steps.{view_cleared, view_drop, view_freed, view_given_back, view_uncached, view_zap, with_at_slot, with_pte}
use Rattle.av_swap_laws.proofs.Cache.{frame-slot, once-of}
use Rattle.av_swap_laws.proofs.Drop.{drop-stands}
use Rattle.av_swap_laws.proofs.FreeNotes.{drop-chosen}
use Rattle.av_swap_laws.proofs.FreeZap.{zap-frame-chosen, zap-slot-chosen, zap-zero-chosen}
use Rattle.av_swap_laws.proofs.From.{cached-in_range, cached-there}
use Rattle.av_swap_laws.proofs.Zap.{zap-frame, zap-slot, zap-zero}
use Rattle.av_mem.specs.declared.mem.Mem.{Mem}
use Rattle.av_swap_laws.proofs.Parts.{if-some, none-some}
use Rattle.av_mem.specs.Entries.{DropsOrphan, HasEntry, IsWithin, Table, is_orphan, is_unmapped, slot_behind, slot_behind_entry, view_less, without_pages}
use Rattle.av_mem.specs.Mem.{Sizes, SoundLedger, frame_count, plain, setting_by, sizes_of, view}
use Rattle.av_mem.proofs.ItemLaws.{items-drop, items-zap-frame, items-zap-slot, items-zap-zero}
use Rattle.av_mem.proofs.EntryViews.{frame_less, slot_less}
use Rattle.av_mem.proofs.PagesGone.{page-one}
use Rattle.av_mem.proofs.ZapRange.{one-page}

-- ---- the tables are no part of the rest

abbrev pub by_table : Table → View → View
by_table table v = record v { table = table }

-- whether a slot is an orphan, in both words
pub orphan-stands : (m : Setting) (v : View) (l : Ledger) (s : Slot) → LedgerStands m v l → is_orphan v s ≡ is_orphan_in l s
orphan-stands m v l s stands = λ i. (unmapped (v.find s) ∙ ap (is_unmapped_in l) (stands.swap.finds s)) i
    && not (list_any (same_slot s) (stands.swap.flight i)) && stands.swap.counts s i == 0
  where
    unmapped : (o : Option ℕ) → is_unmapped v o ≡ is_unmapped_in l o
    unmapped None = refl
    unmapped (Some f) = ap (λ n. n == 0) (stands.frames.maps f)

-- what the laws say, by their tests
abbrev zapped_frame : ℕ → ℕ → ℕ → View → Bool → View
zapped_frame p page f v free =
    let left : View = record (view_cleared p page v) { maps = with_at f (v.maps f - 1) v.maps } in
    cond free (view_freed f left) left

abbrev zapped_slot : ℕ → ℕ → Slot → View → Bool → View
zapped_slot p page s v back =
    let left : View = record (view_cleared p page v) { entries = with_at_slot s (v.entries s - 1) v.entries } in
    cond back (view_given_back s left) left

abbrev dropped_slot : ℕ → Slot → View → Bool → Bool → View
dropped_slot f s v free back =
    let left = cond free (view_freed f (view_uncached f s v)) (view_uncached f s v) in cond back (view_given_back s left) left

zap-by : (p page : ℕ) (e : Entry) (v : View) (table : Table)
    → view_zap p page e (by_table table v) ≡ by_table (with_pte p page None table) (record (view_zap 0 0 e v) { table = v.table })
zap-by p page Zero v table = refl
zap-by p page (InFrame f seen) v table = by (v.maps f == 1 && is_none (v.slot f))
  where
    by : (b : Bool) → zapped_frame p page f (by_table table v) b ≡ by_table (with_pte p page None table) (frame_less f v b)
    by true = refl
    by false = refl
zap-by p page (InSlot s) v table = by (v.entries s == 1 && is_none (v.find s))
  where
    by : (b : Bool) → zapped_slot p page s (by_table table v) b ≡ by_table (with_pte p page None table) (slot_less s v b)
    by true = refl
    by false = refl

drop-by : (f : ℕ) (s : Slot) (v : View) (table : Table) → view_drop f s (by_table table v) ≡ by_table table (view_drop f s v)
drop-by f s v table = by (v.maps f == 0) (v.entries s == 0)
  where
    by : (a b : Bool) → dropped_slot f s (by_table table v) a b ≡ by_table table (dropped_slot f s v a b)
    by true true = refl
    by true false = refl
    by false true = refl
    by false false = refl

-- ---- the slot behind an entry that has gone, if there is one, is dropped where it is an orphan

abbrev pub Settles : Option Slot → View → View → List Note → List Note → Type 0
Settles None less w before now = (w ≡ less) × (now ≡ before)
Settles (Some s) less w before now = DropsOrphan s less w before now

-- ---- an entry that is there

-- a frame of so many is in use
pub record InUse (count : ℕ) (v : View) (f : ℕ) : Type 0 where
  pub below : f < count
  pub some : 0 < v.maps f
  pub unfree : is_in f v.free ≡ false

module _ (m : Setting) (sizes : Sizes) (v : View) (table : Table) (l : Ledger) (h : SoundLedger m sizes (by_table table v) l)
    (p page : ℕ) where
  -- its frame is in use
  frame-used : (f : ℕ) (seen : Bool) → entry l (p, page) ≡ Some (InFrame f seen) → InUse m.frames v f
  frame-used f seen is =
      let named : 0 < map_count l f = how_many-found (names_frame f) (p, page) l.entries (InFrame f seen) is (same-itself f) in
      let below : f < m.frames = h.sound.in_range f (omega (arith, named)) in
      record {
        below = below;
        some = subst (λ n. 0 < n) (sym (h.parts.frames.maps f)) named;
        unfree = h.parts.frames.free f below ∙ used (map_count l f) (is_none (slot_of l f)) named;
      }
    where
      used : (n : ℕ) (b : Bool) → 0 < n → (n == 0 && b) ≡ false
      used n true e = grind (arith, nat_tests, e)
      used n false e = grind (arith, nat_tests, e)

  -- its slot is named
  slot-named : (s : Slot) → entry l (p, page) ≡ Some (InSlot s) → 0 < v.entries s
  slot-named s is = subst (λ n. 0 < n) (sym (h.parts.swap.counts s)) (how_many-found (names_slot s) (p, page) l.entries (InSlot s) is (slot-itself s))

  module _ (t : Plain) (is : table p page ≡ Some t) where
    at : entry l (p, page) ≡ Some t.entry
    at = sym (h.parts.tables.entries p page) ∙ ap entry_of is

    abbrev k : Key
    k = (p, page)

    -- the view and the ledger without it, before the slot behind it is looked at
    abbrev less : View
    less = view_less (Some t) v

    abbrev gone : Ledger
    gone = after_zap k l

    abbrev left : Table
    left = with_pte p page None table

    slot-there : (e : Entry) → entry l k ≡ Some e → (s : Slot) → e ≡ InSlot s → is_there m l s ≡ true
    slot-there e is s same =
        let n = subst (λ n. 0 < n) (h.parts.swap.counts s) (slot-named s (is ∙ ap Some same)) in
        h.there s (omega (arith, n))

    stands-at : (e : Entry) → entry l k ≡ Some e → LedgerStands m (view_zap p page e (by_table table v)) gone
    stands-at Zero is = zap-zero m (by_table table v) l p page h.sound.in_order h.parts is
    stands-at (InFrame f seen) is = zap-frame m (by_table table v) l p page h.sound.in_order h.parts f seen is
    stands-at (InSlot s) is = zap-slot m (by_table table v) l p page h.sound.in_order h.parts s is

    chosen-at : (e : Entry) → entry l k ≡ Some e → Chooses m None l (Zapped k) (free_of v) (free_of (view_zap p page e (by_table table v)))
    chosen-at Zero is = zap-zero-chosen m None (by_table table v) l p page h.sound.in_order h.parts is
    chosen-at (InFrame f seen) is = zap-frame-chosen m None (by_table table v) l p page h.sound.in_order h.parts f seen is
        (frame-used f seen is).below
    chosen-at (InSlot s) is = zap-slot-chosen m None (by_table table v) l p page h.sound.in_order h.parts s is (slot-there (InSlot s) is s refl)

    stands : LedgerStands m (by_table left less) gone
    stands = subst (λ u. LedgerStands m u gone) (zap-by p page t.entry v table) (stands-at t.entry at)

    chosen : Chooses m None l (Zapped k) (free_of v) (free_of less)
    chosen = subst (λ u. Chooses m None l (Zapped k) (free_of v) (free_of u)) (zap-by p page t.entry v table) (chosen-at t.entry at)

    sound : IsSoundBut m (excuse_of (slot_behind_key l (entry l k))) gone
    sound = taken-kept m l k h.sound

    -- a merged frame that is free has no items
    items-at : (e : Entry) → entry l k ≡ Some e → (items : Items) → ItemsAre v l items → ItemsAre (view_zap p page e (by_table table v)) gone items
    items-at Zero is items are = items-zap-zero m (by_table table v) l p page h.sound.in_order h.parts is items are
    items-at (InFrame f seen) is items are = items-zap-frame m (by_table table v) l p page h.sound.in_order h.parts f seen is items are
    items-at (InSlot s) is items are = items-zap-slot m (by_table table v) l p page h.sound.in_order h.parts s is items are

    items-less : (items : Items) → ItemsAre v l items → ItemsAre less gone items
    items-less items are = subst (λ u. ItemsAre u gone items) (zap-by p page t.entry v table) (items-at t.entry at items are)

    once : AreOnce gone
    once = once-of m _ gone sound

    -- the slot behind it
    behind : slot_behind v (Some t) ≡ slot_behind_key l (entry l k)
    behind = by t.entry ∙ sym (ap (slot_behind_key l) at)
      where
        by : (e : Entry) → slot_behind_entry v e ≡ slot_behind_key l (Some e)
        by Zero = refl
        by (InFrame f seen) = h.parts.frames.slots f
        by (InSlot s) = refl

    -- ---- the slot behind it

    module _ (s : Slot) where
      -- where it is cached, its frame is in use
      cached-used : (f : ℕ) → less.find s ≡ Some f → is_in f less.free ≡ false
      cached-used f found =
          let there = sym (stands.swap.finds s) ∙ found in
          stands.frames.free f (cached-in_range m _ gone sound f s there)
          ∙ ap (λ o. map_count gone f == 0 && is_none o) (frame-slot gone once f s there) ∙ both (map_count gone f == 0)
        where
          both : (b : Bool) → (b && false) ≡ false
          both true = refl
          both false = refl

      orphan-is : is_orphan less s ≡ is_orphan_in gone s
      orphan-is = orphan-stands m (by_table left less) gone s stands

    -- ---- in the end

    -- what the entry's events say, of the view and the notes that there are then
    record Goes (w : View) (before now : List Note) (events : List Event) : Type 0 where
      stands : LedgerStands m (by_table left w) (after_all l events)
      notes : now ≡ before ++ notes_of events
      free : ChoosesAll m None l events (free_of v) (free_of w)
      items : (items : Items) → ItemsAre v l items → ItemsAre w (after_all l events) items

    lone : (w : View) (before now : List Note) → w ≡ less → now ≡ before → Goes w before now (Zapped k ∷ [])
    lone w before now same notes = record {
      stands = subst (λ u. LedgerStands m (by_table left u) gone) (sym same) stands;
      notes = notes ∙ sym (append-nil before);
      free = (free_of less, chosen, ap free_of same);
      items = λ items are. subst (λ u. ItemsAre u gone items) (sym same) (items-less items are);
    }

    module _ (s : Slot) (f : ℕ) (found : less.find s ≡ Some f) where
      cached : frame_at gone s ≡ Some f
      cached = sym (stands.swap.finds s) ∙ found

      was_there : is_there m gone s ≡ true
      was_there = ap (λ on. is_there m (record l { on = on }) s) (same_swap-after_zap k l).on
          ∙ cached-there m _ l h.sound f s h.there (ap (λ cache. frame_at (record l { cache = cache }) s) (sym (same_swap-after_zap k l).cache)
          ∙ cached)

      dropped : (w : View) (before now : List Note) → w ≡ view_drop f s less → now ≡ before ++ Dropped s ∷ []
          → Goes w before now (Zapped k ∷ Noted (Dropped s) ∷ [])
      dropped w before now same notes = record {
        stands = subst (λ u. LedgerStands m u (after_note (Dropped s) gone)) (drop-by f s less left ∙ ap (by_table left) (sym same))
            (drop-stands gone f s once cached m (by_table left less) stands);
        notes = notes;
        free = (
          free_of less,
          chosen,
          (
            free_of (view_drop f s less),
            subst (λ u. Chooses m None gone (Noted (Dropped s)) (free_of less) (free_of u)) (drop-by f s less left)
                (drop-chosen m None gone f s once cached (cached-in_range m _ gone sound f s cached) was_there (by_table left less) stands),
            ap free_of same,
          ),
        );
        items = λ items are. subst (λ u. ItemsAre u (after_note (Dropped s) gone) items) (drop-by f s less left ∙ ap (by_table left) (sym same))
            (items-drop gone f s once cached m (by_table left less) stands items (items-less items are));
      }

    settled : (w : View) (before now : List Note) (s : Slot) → DropsOrphan s less w before now → (b : Bool) → is_orphan less s ≡ b
        → Goes w before now (Zapped k ∷ note_events (when b (Dropped s)))
    settled w before now s drops true orphan = by (less.find s) refl
      where
        way : IfSome (less.find s) (λ f. w ≡ view_drop f s less) × (now ≡ before ++ Dropped s ∷ [])
        way = subst (λ b. MatchBool b (IfSome (less.find s) (λ f. w ≡ view_drop f s less) × (now ≡ before ++ Dropped s ∷ []))
            ((w ≡ less) × (now ≡ before))) orphan drops

        none : (o : Option ℕ) → o ≡ None → (is_unmapped less o && not (list_any (same_slot s) less.flight) && less.entries s == 0) ≡ true → ⊥
        none None e h = false≢true h
        none (Some f) e h = cc

        by : (o : Option ℕ) → less.find s ≡ o → Goes w before now (Zapped k ∷ Noted (Dropped s) ∷ [])
        by None e = absurd (none (less.find s) e orphan)
        by (Some f) e = dropped s f e w before now (subst (λ o. IfSome o (λ f. w ≡ view_drop f s less)) e way.0) way.1
    settled w before now s drops false other =
        let kept = subst (λ b. MatchBool b (IfSome (less.find s) (λ f. w ≡ view_drop f s less) × (now ≡ before ++ Dropped s ∷ []))
        ((w ≡ less) × (now ≡ before))) other drops in
        lone w before now kept.0 kept.1

    goes : (w : View) (before now : List Note) (o : Option Slot) → slot_behind v (Some t) ≡ o → Settles o less w before now
        → Goes w before now (zap_of l k)
    goes w before now None none kept = subst (λ o. Goes w before now (Zapped k ∷ orphan_drop gone o)) (sym none ∙ behind)
        (lone w before now kept.0 kept.1)
    goes w before now (Some s) some drops = subst (λ o. Goes w before now (Zapped k ∷ orphan_drop gone o)) (sym some ∙ behind)
        (subst (λ b. Goes w before now (Zapped k ∷ note_events (when b (Dropped s)))) (orphan-is s) (settled w before now s drops (is_orphan less
        s) refl))

    -- the same of the range that the page is
    pub one-goes : (w : View) (before now : List Note) (o : Option Slot) → slot_behind v (Some t) ≡ o → Settles o less w before now
        → SoundLedger m sizes (by_table (without_pages p page 1 table) w) (after_all l (zaps_of l (keys_in l p page 1)))
        × (now ≡ before ++ notes_of (zaps_of l (keys_in l p page 1)))
        × ChoosesAll m None l (zaps_of l (keys_in l p page 1)) (free_of v) (free_of w)
        × ((items : Items) → ItemsAre v l items → ItemsAre w (after_all l (zaps_of l (keys_in l p page 1))) items)
    one-goes w before now o is settles =
        let g = subst (Goes w before now) (sym (one-page p l page t.entry h.sound.in_order at)) (goes w before now o is settles) in (
          record {
            sound = zaps_of-kept m l (keys_in l p page 1) h.sound;
            there = zaps_of-there m l (keys_in l p page 1) h.sound h.there;
            parts = subst (λ (tables : Table). LedgerStands m (by_table tables w) (after_all l (zaps_of l (keys_in l p page 1))))
                (page-one table p page) g.stands;
            lists = h.lists;
            items = h.items;
            swap = h.swap;
          },
          g.notes,
          g.free,
          g.items,
        )

-- ---- the memory system's

module _ (k : Mem) (entry : Pte) (h : HasEntry k entry) where
  abbrev m : Setting
  m = setting_by h.device k

  at-page : (e : Plain) → plain entry ≡ Some e → in_ledger.entry h.ledger (h.process, h.page) ≡ Some e.entry
  at-page e is = sym (h.stands.parts.tables.entries h.process h.page) ∙ ap entry_of (h.there ∙ is)

  pub in-use : (f : ℕ) (write seen : Bool) → entry ≡ Here f write seen → InUse (frame_count k) (view k) f
  in-use f write seen is = frame-used m (sizes_of k) (view k) h.table h.ledger h.stands h.process h.page f seen (at-page _ (ap plain is))

  pub entry-within : IsWithin (view k) (plain entry)
  entry-within = by entry refl
    where
      by : (e : Pte) → entry ≡ e → IsWithin (view k) (plain e)
      by Empty is = tt
      by ZeroPte is = tt
      by (Here f write seen) is = (in-use f write seen is).below
      by (Away s) is = tt

  pub named : (s : Slot) → entry ≡ Away s → 0 < (view k).entries s
  named s is = slot-named m (sizes_of k) (view k) h.table h.ledger h.stands h.process h.page s (at-page _ (ap plain is))

  -- where the slot behind it is cached, the frame is in use still
  pub settles-used : (s : Slot) → slot_behind (view k) (plain entry) ≡ Some s
      → IfSome ((view_less (plain entry) (view k)).find s) (λ f. is_in f (view_less (plain entry) (view k)).free ≡ false)
  settles-used s = by (plain entry) h.there
    where
      by : (o : Option Plain) → h.table h.process h.page ≡ o → slot_behind (view k) o ≡ Some s
          → IfSome ((view_less o (view k)).find s) (λ f. is_in f (view_less o (view k)).free ≡ false)
      by None there is = absurd (none-some s is)
      by (Some t) there is = if-some ((view_less (Some t) (view k)).find s) _
          (cached-used m (sizes_of k) (view k) h.table h.ledger h.stands h.process h.page t there s)
