-- The step by which a page joins a merged frame, all parts together.
use Rattle.std.proofs.Common.{◌≡◌, ℕ, ◌+◌, ◌-◌, ◌<◌, ◌≤◌, Bool, true, false, cond, ◌&&◌, ◌||◌, ◌==◌, nat_lt, [], ◌∷◌, ◌++◌, Option, Some, is_none, refl, sym, ap, subst, ◌∙◌, arith, T}
use Rattle.std.proofs.lemmas.Bool.Decides.{nat_tests}
use Rattle.std.proofs.lemmas.Bool.{false≢true}
use Rattle.std.specs.FinMap.Entries.{is_sorted}
use Rattle.av_base.specs.Items.{Item}
use Rattle.av_base.specs.Keys.{Key, key_cmp, same_key}
use Rattle.av_base.proofs.Keys.{same_key-is}
use Rattle.av_base.specs.Page.{page_of, page_size}
use Rattle.av_base.specs.Words.{is_in, with_at, without}
use Rattle.av_base.specs.declared.slot.Slot.{Slot}
use Rattle.av_trace.specs.declared.note.Note.TheVariants.{Joined}
use Rattle.av_plain.specs.Areas.{item_of, rmap_after_note, with_any_item, with_item_of}
use Rattle.av_plain.specs.Choice.{Chooses}
use Rattle.av_plain.specs.Event.{Noted, after_note, change_frame, off_lists, set_entry, settle_entry}
use Rattle.av_plain.specs.Fault.{asks_copy}
use Rattle.av_plain.specs.Ledger.{Entry, InFrame, Ledger, Setting, entry, is_free, is_merged, map_count, names_frame, names_slot, slot_entries, slot_of}
use Rattle.av_plain.specs.Sound.{count, holders, mergings, slots, uses}
use Rattle.av_plain.specs.Stands.{BytesStand, HomesAre, IsKept, ItemsAre, LedgerStands, Pte, View, free_of}
use Rattle.av_plain.specs.World.{Holds, Page, pages}
use Rattle.av_plain.proofs.Covered.Merging.{joined-reach}
use Rattle.av_plain.proofs.Covered.Swap.{Reach}
use Rattle.av_plain.proofs.Ledger.{entry-set, how_many-found, map_count-set}
use Rattle.av_plain.proofs.Ledger.Order.{weight}
use Rattle.av_plain.proofs.Sound.Changes.{any-counts, free-is}
use Rattle.av_plain.proofs.Sound.Counts.{same-is, same-itself, same-turned, slot_of-none}
use Rattle.av_plain.proofs.Sound.Entries.{slot_entries-set}
use Rattle.av_swap_laws.specs.Held.{Held, IsHeld, Steps}
use Rattle.av_swap_laws.specs.May.{AreOnce}
use Rattle.av_swap_laws.specs.Steps.{view_freed, with_pte}
use Rattle.av_swap_laws.proofs.Free.{chooses-none, frames-one, given-none}
use Rattle.av_swap_laws.proofs.One.{one-stands, set-at}
use Rattle.av_swap_laws.proofs.Parts.{claims, kept-moves, own-of, shared-fewer, shared-off_lists, some-is}
use Rattle.av_swap_laws.proofs.Whole.{AreSame, areas-as, headers-as, items-freed}
use Rattle.av_ksm.specs.Join.{HasOwn, view_joined, view_joining}

-- a frame that an entry names isn't free
unfree : (l : Ledger) (j : ℕ) → 0 < map_count l j → is_free l j ≡ false
unfree l j some = free-is l j ∙ none (uses l j) (omega (arith, some))
  where
    none : (n : ℕ) → 0 < n → (n == 0) ≡ false
    none n some = grind (arith, nat_tests, some)

module _ (m : Setting) (closing : Option ℕ) (old : Held) (h : IsHeld m old) (p a f g : ℕ) (seen : Bool)
    (sorted : T (is_sorted key_cmp old.ledger.entries)) (once : AreOnce old.ledger) (own : HasOwn old.ledger (p, page_of a) g seen)
    (merged : is_merged old.ledger f ≡ true) (below : g < m.frames)
    (same : (i : ℕ) → i < page_size → old.view.bytes f i ≡ old.view.bytes g i) where
  abbrev v : View
  v = old.view

  abbrev l : Ledger
  l = old.ledger

  abbrev page : ℕ
  page = page_of a

  abbrev k : Key
  k = (p, page_of a)

  abbrev item : Option Item
  item = item_of old.rmap k

  abbrev pte : Pte
  pte = record { entry = InFrame f false; write = false }

  -- the entry names the merged frame, and then the other one is free or not
  abbrev taken : Ledger
  taken = set_entry k (InFrame f false) l

  abbrev settled : Bool → Ledger
  settled last = cond last (off_lists g taken) taken

  abbrev joining : View
  joining = view_joining p page f g item v

  abbrev view_by : Bool → View
  view_by last = cond last (view_freed g joining) joining

  -- ---- how many entries name what

  counts : (j : ℕ) → map_count taken j + cond (j == g) 1 0 ≡ map_count l j + cond (j == f) 1 0
  counts j = ap (λ o. map_count taken j + weight (names_frame j) o) (sym own.names) ∙ map_count-set k (InFrame f false) l j sorted

  names : (t : Slot) → slot_entries taken t ≡ slot_entries l t
  names t = plain _ _ _ (slot_entries-set k (InFrame f false) l t sorted) (ap (weight (names_slot t)) own.names)
    where
      plain : (n w k : ℕ) → n + w ≡ k + 0 → w ≡ 0 → n ≡ k
      plain n w k e z = omega (arith, e, z)

  apart : (f == g) ≡ false
  apart = by (f == g) refl
    where
      by : (b : Bool) → (f == g) ≡ b → b ≡ false
      by true e = absurd (false≢true (sym own.unmerged ∙ ap (is_merged l) (sym (same-is f g e)) ∙ merged))
      by false e = refl

  out : holders l g ≡ 0
  out = slot_of-none g l.cache own.uncached

  named-f : 0 < map_count l f
  named-f = let some : 0 < mergings l f = positive (mergings l f) (sym (any-counts (λ x. f == x) l.merged) ∙ merged) in let n = once.merged f in
      omega (arith, some, n)
    where
      positive : (n : ℕ) → nat_lt 0 n ≡ true → 0 < n
      positive n e = grind (arith, nat_tests, e)

  named-g : 0 < map_count l g
  named-g = how_many-found (names_frame g) k l.entries (InFrame g seen) own.names (same-itself g)

  flag : (b c : Bool) → b ≡ c → ◌≡◌ {A = ℕ} (cond b 1 0) (cond c 1 0)
  flag b c e = ap (λ b. cond b 1 0) e

  at-f : map_count taken f ≡ map_count l f + 1
  at-f = let n = counts f in let x = flag _ false apart in let y = flag _ true (same-itself f) in omega (arith, n, x, y)

  at-g : map_count taken g + 1 ≡ map_count l g
  at-g = let n = counts g in let x = flag _ true (same-itself g) in let y = flag _ false (sym (same-turned f g) ∙ apart) in omega (arith, n, x, y)

  at-other : (j : ℕ) → (j == f) ≡ false → (j == g) ≡ false → map_count taken j ≡ map_count l j
  at-other j e i = let n = counts j in let x = flag _ false e in let y = flag _ false i in omega (arith, n, x, y)

  fewer : (j : ℕ) → (j == f) ≡ false → map_count taken j ≤ map_count l j
  fewer j e = let n = counts j in let x = flag _ false e in omega (arith, n, x)

  -- ---- the ledger after it

  frees : is_free taken g ≡ (v.maps g == 1)
  frees = (λ i. map_count taken g == 0 && is_none (own.uncached i)) ∙ last (map_count taken g) (map_count l g) (v.maps g) at-g (h.ledger.frames.maps g)
    where
      last : (n k x : ℕ) → n + 1 ≡ k → x ≡ k → (n == 0 && true) ≡ (x == 1)
      last n k x e i = grind (arith, nat_tests, e, i)

  joined-is : after_note (Joined p a f) l ≡ settled (v.maps g == 1)
  joined-is = ap (λ o. settle_entry o taken) own.names ∙ ap settled frees

  uses-now : (j : ℕ) → uses (after_note (Joined p a f) l) j ≡ map_count taken j + holders l j
  uses-now j = ap (λ x. uses x j) joined-is ∙ by (v.maps g == 1)
    where
      by : (b : Bool) → uses (settled b) j ≡ map_count taken j + holders l j
      by true = refl
      by false = refl

  count-now : (t : Slot) → count (after_note (Joined p a f) l) t ≡ count l t
  count-now t = ap (λ x. count x t) joined-is ∙ by (v.maps g == 1) ∙ ap (λ n. slots l t + n) (names t)
    where
      by : (b : Bool) → count (settled b) t ≡ slots l t + slot_entries taken t
      by true = refl
      by false = refl

  -- ---- what stands

  maps-now : (j : ℕ) → with_at f (v.maps f + 1) (with_at g (v.maps g - 1) v.maps) j ≡ map_count taken j
  maps-now j = by (j == f) (j == g) refl refl
    where
      less : (x k n : ℕ) → x ≡ k → n + 1 ≡ k → x - 1 ≡ n
      less x k n e i = omega (arith, e, i)

      by : (b c : Bool) → (j == f) ≡ b → (j == g) ≡ c → cond b (v.maps f + 1) (cond c (v.maps g - 1) (v.maps j)) ≡ map_count taken j
      by true c e i = ap (λ n. n + 1) (h.ledger.frames.maps f) ∙ sym at-f ∙ sym (ap (map_count taken) (same-is j f e))
      by false true e i = less (v.maps g) (map_count l g) (map_count taken g) (h.ledger.frames.maps g) at-g ∙ sym (ap (map_count taken) (same-is j g i))
      by false false e i = h.ledger.frames.maps j ∙ sym (at-other j e i)

  -- but for the frame that is left, what was free is
  free-still : (j : ℕ) → j < m.frames → (j == g) ≡ false → is_in j v.free ≡ is_free taken j
  free-still j low i = h.ledger.frames.free j low ∙ by (j == f) refl
    where
      by : (b : Bool) → (j == f) ≡ b → is_free l j ≡ is_free taken j
      by true e = unfree l j (subst (λ x. 0 < map_count l x) (sym (same-is j f e)) named-f)
          ∙ sym (unfree taken j (subst (λ x. 0 < map_count taken x) (sym (same-is j f e)) (let n = at-f in omega (arith, n))))
      by false e = ap (λ n. n == 0 && is_none (slot_of l j)) (sym (at-other j e i))

  writes-none : (u : Pte) → Some pte ≡ Some u → u.write ≡ true → ⊥
  writes-none u at writes = false≢true (ap (λ (t : Pte). t.write) (some-is pte u at) ∙ writes)

  copies-still : (j : ℕ) → asks_copy l j ≡ false → asks_copy taken j ≡ false
  copies-still j alone = by (j == f) refl
    where
      by : (b : Bool) → (j == f) ≡ b → asks_copy taken j ≡ false
      by true e = absurd (false≢true (sym (own-of l j alone) ∙ ap (is_merged l) (same-is j f e) ∙ merged))
      by false e = shared-fewer l taken j (fewer j e) refl (λ t at. let n = names t in omega (arith, n)) refl alone

  stands : (last : Bool) → (v.maps g == 1) ≡ last → LedgerStands m (view_by last) (settled last)
  stands true is = record {
    frames = record {
      frames = inner.frames.frames;
      maps = inner.frames.maps;
      slots = inner.frames.slots;
      dirty = inner.frames.dirty;
      free = inner.frames.free;
    };
    lists = record { active = inner.lists.active; inactive = inner.lists.inactive };
    tables = record { entries = inner.tables.entries; write_bits = inner.tables.write_bits };
    swap = record { finds = inner.swap.finds; counts = inner.swap.counts; flight = inner.swap.flight; on = inner.swap.on };
  }
    where
      free-now : (j : ℕ) → j < m.frames → (b : Bool) → (j == g) ≡ b → (b || is_in j v.free) ≡ is_free taken j
      free-now j low true i = sym (ap (is_free taken) (same-is j g i) ∙ frees ∙ is)
      free-now j low false i = free-still j low i

      inner : LedgerStands m (record v {
        table = with_pte p page (Some pte) v.table;
        maps = with_at f (v.maps f + 1) (with_at g (v.maps g - 1) v.maps);
        entries = v.entries;
        free = g ∷ v.free;
        active = without g v.active;
        inactive = without g v.inactive;
      }) (off_lists g taken)
      inner = one-stands m v l (off_lists g taken) p page (Some pte) h.ledger
          (record { entries = set-at l p page (InFrame f false); cache = refl; flight = refl; on = refl })
          (with_at f (v.maps f + 1) (with_at g (v.maps g - 1) v.maps)) v.entries (g ∷ v.free) (without g v.active) (without g v.inactive)
          maps-now (λ t. h.ledger.swap.counts t ∙ sym (names t)) (λ j low. free-now j low (j == g) refl)
          (ap (without g) h.ledger.lists.active) (ap (without g) h.ledger.lists.inactive)
          (λ u j at writes said. absurd (writes-none u at writes))
          (λ q o e j at said others alone. shared-off_lists taken g j (copies-still j alone))
  stands false is = record {
    frames = record {
      frames = inner.frames.frames;
      maps = inner.frames.maps;
      slots = inner.frames.slots;
      dirty = inner.frames.dirty;
      free = inner.frames.free;
    };
    lists = record { active = inner.lists.active; inactive = inner.lists.inactive };
    tables = record { entries = inner.tables.entries; write_bits = inner.tables.write_bits };
    swap = record { finds = inner.swap.finds; counts = inner.swap.counts; flight = inner.swap.flight; on = inner.swap.on };
  }
    where
      free-now : (j : ℕ) → j < m.frames → (b : Bool) → (j == g) ≡ b → is_in j v.free ≡ is_free taken j
      free-now j low true i = h.ledger.frames.free j low ∙ ap (is_free l) (same-is j g i) ∙ unfree l g named-g
          ∙ sym (ap (is_free taken) (same-is j g i) ∙ frees ∙ is)
      free-now j low false i = free-still j low i

      inner : LedgerStands m (record v {
        table = with_pte p page (Some pte) v.table;
        maps = with_at f (v.maps f + 1) (with_at g (v.maps g - 1) v.maps);
        entries = v.entries;
        free = v.free;
        active = v.active;
        inactive = v.inactive;
      }) taken
      inner = one-stands m v l taken p page (Some pte) h.ledger
          (record { entries = set-at l p page (InFrame f false); cache = refl; flight = refl; on = refl })
          (with_at f (v.maps f + 1) (with_at g (v.maps g - 1) v.maps)) v.entries v.free v.active v.inactive
          maps-now (λ t. h.ledger.swap.counts t ∙ sym (names t)) (λ j low. free-now j low (j == g) refl)
          h.ledger.lists.active h.ledger.lists.inactive
          (λ u j at writes said. absurd (writes-none u at writes))
          (λ q o e j at said others alone. copies-still j alone)

  -- the page's bytes are those of the frame that it had
  bytes-taken : BytesStand joining old.device old.world taken
  bytes-taken = record {
    kept = λ q o. subst (λ e. IsKept joining old.device taken e (pages old.world q o)) (sym (entry-set k (InFrame f false) l (q, o)))
        (by q o (same_key (q, o) k) refl);
    clean = h.bytes.clean;
  }
    where
      there : (q : Option Page) (o : Option Entry) → o ≡ Some (InFrame g seen) → IsKept v old.device l o q → Holds q (v.bytes g)
      there q o e kept = subst (λ o. IsKept v old.device l o q) e kept

      by : (q o : ℕ) (b : Bool) → same_key (q, o) k ≡ b
          → IsKept joining old.device taken (cond b (Some (InFrame f false)) (entry l (q, o))) (pages old.world q o)
      by q o true e = claims (pages old.world q o) (v.bytes g) (v.bytes f) same
          (there (pages old.world q o) (entry l (q, o)) (ap (entry l) (same_key-is (q, o) k e) ∙ own.names) (h.bytes.kept q o))
      by q o false e = kept-moves v joining old.device old.device l taken (entry l (q, o)) (pages old.world q o) refl (λ t is. refl)
          (λ t is none held. held) (h.bytes.kept q o)

  bytes : (last : Bool) → BytesStand (view_by last) old.device old.world (settled last)
  bytes true = record { kept = bytes-taken.kept; clean = bytes-taken.clean }
  bytes false = bytes-taken

  reach : Reach (change_frame k f l) (with_item_of f k old.rmap)
  reach = joined-reach l old.rmap k f g seen (record {
    in_order = sorted;
    once = once.slots_once;
    sound = h.covered.frames;
    slots = h.covered.slots;
    merged = h.covered.merged;
  }) own.names own.unmerged merged

  homes : (last : Bool) → HomesAre (view_by last) old.rmap.homes
  homes true = h.homes
  homes false = h.homes

  items-taken : ItemsAre joining taken (with_item_of f k old.rmap).items
  items-taken j = by (j == f) refl
    where
      by : (b : Bool) → (j == f) ≡ b → cond b (with_any_item item (v.items f)) (v.items j)
          ≡ cond (is_merged l j) (cond b (with_any_item item (old.rmap.items f)) (old.rmap.items j)) []
      by true e = ap (with_any_item item) (h.items f ∙ ap (λ b. cond b (old.rmap.items f) []) merged)
          ∙ sym (ap (λ b. cond b (with_any_item item (old.rmap.items f)) []) (ap (is_merged l) (same-is j f e) ∙ merged))
      by false e = h.items j

  items-now : (last : Bool) → ItemsAre (view_by last) (settled last) (with_item_of f k old.rmap).items
  items-now true = items-freed (view_freed g joining) joining taken (off_lists g taken) g (with_item_of f k old.rmap).items refl refl items-taken
  items-now false = items-taken

  on : (last : Bool) → (settled last).on ≡ l.on
  on true = refl
  on false = refl

  areas : (last : Bool) → AreSame (view_by last) v
  areas true = record { areas = refl; processes = refl }
  areas false = record { areas = refl; processes = refl }

  -- ---- what comes free

  used-still : (j : ℕ) → (j == g) ≡ false → 0 < uses l j → 0 < uses (after_note (Joined p a f) l) j
  used-still j i had = let n = uses-now j in by (j == f) refl n
    where
      by : (b : Bool) → (j == f) ≡ b → uses (after_note (Joined p a f) l) j ≡ map_count taken j + holders l j
          → 0 < uses (after_note (Joined p a f) l) j
      by true e n = let c = ap (map_count taken) (same-is j f e) ∙ at-f in omega (arith, n, c)
      by false e n = let c = at-other j e i in omega (arith, n, c, had)

  kept-still : (t : Slot) → 0 < count l t → 0 < count (after_note (Joined p a f) l) t
  kept-still t had = let n = count-now t in omega (arith, n, had)

  chosen : (last : Bool) → (v.maps g == 1) ≡ last → Chooses m closing l (Noted (Joined p a f)) (free_of v) (free_of (view_by last))
  chosen true is = record {
    frames = (
      v.free,
      refl,
      ap (λ fs. fs ++ v.free) (sym (frames-one m l (after_note (Joined p a f) l) g below (let n = named-g in omega (arith, n)) gone used-still)),
    );
    slots = (v.slots, v.slots, refl, refl, sym (given-none m l (after_note (Joined p a f) l) v.slots kept-still));
  }
    where
      gone : uses (after_note (Joined p a f) l) g ≡ 0
      gone = let n = uses-now g in let c = at-g in let o = out in let e = h.ledger.frames.maps g in let one : v.maps g ≡ 1 = grind (arith, nat_tests, is) in
          omega (arith, n, c, o, e, one)
  chosen false is = chooses-none m closing l (Joined p a f) (record { frames = λ j had. by j (j == g) refl had; slots = kept-still }) (free_of v) refl refl
    where
      more : (x k n : ℕ) → (x == 1) ≡ false → x ≡ k → n + 1 ≡ k → 0 < n
      more x k n e i c = grind (arith, nat_tests, e, i, c)

      by : (j : ℕ) (b : Bool) → (j == g) ≡ b → 0 < uses l j → 0 < uses (after_note (Joined p a f) l) j
      by j true e had = let n = uses-now j in let c = ap (map_count taken) (same-is j g e) in
          let some = more (v.maps g) (map_count l g) (map_count taken g) is (h.ledger.frames.maps g) at-g in omega (arith, n, c, some)
      by j false e had = used-still j e had

  pub join-steps : Steps m closing (Noted (Joined p a f)) old (record old {
    view = view_joined p (page_of a) f g (item_of old.rmap (p, page_of a)) old.view;
    ledger = after_note (Joined p a f) old.ledger;
    rmap = rmap_after_note old.ledger (Joined p a f) old.rmap;
  })
  join-steps = record {
    ledger = refl;
    held = record {
      ledger = subst (LedgerStands m (view_by (v.maps g == 1))) (sym joined-is) (stands (v.maps g == 1) refl);
      bytes = subst (BytesStand (view_by (v.maps g == 1)) old.device old.world) (sym joined-is) (bytes (v.maps g == 1));
      headers = headers-as m l (after_note (Joined p a f) l) (ap (λ (x : Ledger). x.on) joined-is ∙ on (v.maps g == 1)) h.headers;
      covered = record { frames = reach.sound; slots = reach.slots; merged = reach.merged };
      homes = homes (v.maps g == 1);
      items = subst (λ x. ItemsAre (view_by (v.maps g == 1)) x (with_item_of f k old.rmap).items) (sym joined-is) (items-now (v.maps g == 1));
    };
    areas = areas-as (view_by (v.maps g == 1)) v old.world (areas (v.maps g == 1));
    chosen = chosen (v.maps g == 1) refl;
  }
