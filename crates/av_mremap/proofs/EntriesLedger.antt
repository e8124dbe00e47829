-- The entries of a range have gone to another one: the parts stand for the ledger after the move, and nothing has become free.
use Rattle.std.proofs.Common.{◌≡◌, ℕ, ◌+◌, ◌-◌, Bool, true, false, cond, not, ◌&&◌, List, [], Option, Some, None, refl, sym, ap, subst, ◌∙◌, arith, ◌==◌}
use Rattle.std.specs.Option.{option_or}
use Rattle.std.proofs.lemmas.Bool.Decides.{nat_tests}
use Rattle.av_base.specs.Words.{is_in, within}
use Rattle.av_frames.specs.Store.{shown}
use Rattle.av_pagetable.specs.Entries.{entry_at}
use Rattle.av_pagetable.specs.declared.pte.Pte.{Pte}
use Rattle.av_pagetable.specs.declared.pte.Pte.TheVariants.{Empty}
use Rattle.av_plain.specs.Device.{Device}
use Rattle.av_plain.specs.Event.{EntriesMoved, after, after_move}
use Rattle.av_plain.specs.Ledger.{Entry, Ledger, Setting, entry}
use Rattle.av_plain.specs.Stands.{Pte as Plain, View, entry_of, free_of}
use Rattle.av_plain.proofs.Event.{put_all-only}
use Rattle.av_plain.proofs.Mremap.{entry-moved, others_of, shifted}
use Rattle.av_plain.proofs.Sound.Mremap.{frames-stay, moved-kept, moved-no_new, slots-stay}
use Rattle.av_plain.proofs.Sound.There.{there-by}
use Rattle.av_swap_laws.specs.May.{IsAlike}
use Rattle.av_swap_laws.proofs.Move.{moved-chosen, moved-stands}
use Rattle.av_rmap.specs.Items.{shown as shown_items}
use Rattle.av_swapcache.specs.Swap.{shown as shown_swap}
use Rattle.av_mem.specs.declared.mem.Mem.{Mem}
use Rattle.av_mem.specs.Mem.{HasLedger, Sizes, SoundLedger, plain, setting_by, sizes_of, view, view_of_parts}
use Rattle.av_mremap.specs.Entries.{HasMovedEntries, moved_entries}

-- ---- the parts

module _ (m : Setting) (sizes : Sizes) (v : View) (l : Ledger) (p n from to : ℕ) (parts : SoundLedger m sizes v l)
    (bare : (o : ℕ) → within to n o ≡ true → entry l (p, o) ≡ None) where
  free : (o : ℕ) → within to n o ≡ true → within from n o ≡ false → entry l (p, o) ≡ None
  free o inside _ = bare o inside

  -- as many entries name each frame and slot
  pub alike : IsAlike l (after_move p n from to l)
  alike = subst (IsAlike l) (sym (put_all-only (shifted p n from to l.entries) (record l { entries = others_of p from n l.entries }))) (record {
    maps = frames-stay m l p n from to parts.sound free;
    names = slots-stay m l p n from to parts.sound free;
    cache = refl;
    flight = refl;
    active = refl;
    inactive = refl;
    merged = refl;
    on = refl;
  })

  entries-now : (q o : ℕ) → entry_of (moved_entries None p n from to v.table q o) ≡ entry (after_move p n from to l) (q, o)
  entries-now q o = by q o (q == p) (within to n o) (within from n o) refl refl refl ∙ sym (entry-moved l p n from to parts.sound.in_order (q, o))
    where
      or_none : (e o : Option Entry) → o ≡ None → e ≡ option_or e o
      or_none None o is = sym is
      or_none (Some e) o is = refl

      none_there : (q o : ℕ) (z : Bool) → (q == p) ≡ true → within to n o ≡ true → cond (not z) (entry l (q, o)) None ≡ None
      none_there q o true e h = refl
      none_there q o false e h = ap (λ r. entry l (r, o)) (equal q p e) ∙ bare o h
        where
          equal : (a b : ℕ) → (a == b) ≡ true → a ≡ b
          equal a b h = grind (arith, nat_tests, h)

      turned : (o : ℕ) → from + (o - to) ≡ o - to + from
      turned o = omega arith

      by : (q o : ℕ) (x y z : Bool) → (q == p) ≡ x → within to n o ≡ y → within from n o ≡ z
          → entry_of (cond (x && y) (v.table p (from + (o - to))) (cond (x && z) None (v.table q o)))
          ≡ option_or (cond (x && y) (entry l (p, o - to + from)) None) (cond (not (x && z)) (entry l (q, o)) None)
      by q o true true z e h k = parts.parts.tables.entries p (from + (o - to)) ∙ ap (λ x. entry l (p, x)) (turned o)
          ∙ or_none (entry l (p, o - to + from)) (cond (not z) (entry l (q, o)) None) (none_there q o z e h)
      by q o true false true e h k = refl
      by q o true false false e h k = parts.parts.tables.entries q o
      by q o false y z e h k = parts.parts.tables.entries q o

  -- each is as it was
  came : (q o : ℕ) (t : Plain) → moved_entries None p n from to v.table q o ≡ Some t → (r : ℕ) × (other : ℕ) × (v.table r other ≡ Some t)
  came q o t is = by (q == p && within to n o) (q == p && within from n o) is
    where
      clash : {t : Plain} → None ≡ Some t → ⊥
      clash e = cc

      by : (a b : Bool) → cond a (v.table p (from + (o - to))) (cond b None (v.table q o)) ≡ Some t
          → (r : ℕ) × (other : ℕ) × (v.table r other ≡ Some t)
      by true b is = (p, from + (o - to), is)
      by false true is = absurd (clash is)
      by false false is = (q, o, is)

  pub stands_now : SoundLedger m sizes (record v { table = moved_entries None p n from to v.table }) (after_move p n from to l)
  stands_now = record {
    sound = moved-kept m l p n from to parts.sound free;
    there = there-by m l (after_move p n from to l) (moved-no_new m l p n from to parts.sound free) parts.there;
    parts = moved-stands m v l (after_move p n from to l) alike (moved_entries None p n from to v.table) parts.parts entries-now came;
    lists = parts.lists;
    items = parts.items;
    swap = parts.swap;
  }

-- ---- the memory system

module _ (d : Device) (old new : Mem) (p n from to : ℕ) (bare : (o : ℕ) → within to n o ≡ true → entry_at old.tables p o ≡ Empty)
    (moved : entry_at new.tables ≡ moved_entries Empty p n from to (entry_at old.tables))
    (rest : new ≡ record old { tables = new.tables }) (l : Ledger) (stands : HasLedger d old l) where
  seen_so : view (record old { tables = new.tables }) ≡ record (view old) { table = moved_entries None p n from to (view old).table }
  seen_so = λ i. view_of_parts (shown old.frames) old.lists (shown_items old.items) (λ q o. table q o i) old.spaces old.anons
      (shown_swap old.swap)
    where
      pushed : (a b : Bool) (x y : Pte) → plain (cond a x (cond b Empty y)) ≡ cond a (plain x) (cond b None (plain y))
      pushed true b x y = refl
      pushed false true x y = refl
      pushed false false x y = refl

      table : (q o : ℕ) → plain (entry_at new.tables q o) ≡ moved_entries None p n from to (view old).table q o
      table q o = ap (λ f. plain (f q o)) moved
          ∙ pushed (q == p && within to n o) (q == p && within from n o) (entry_at old.tables p (from + (o - to))) (entry_at old.tables q o)

  none_at : (o : ℕ) → within to n o ≡ true → entry l (p, o) ≡ None
  none_at o inside = sym (stands.parts.tables.entries p o) ∙ ap (λ t. entry_of (plain t)) (bare o inside)

  abbrev m : Setting
  m = setting_by d old

  pub has_moved : HasMovedEntries d old new l p n from to
  has_moved = subst (λ (k : Mem). HasMovedEntries d old k l p n from to) (sym rest) (record {
    stands = subst (λ v. SoundLedger m (sizes_of old) v (after l (EntriesMoved p n from to))) (sym seen_so)
        (stands_now m (sizes_of old) (view old) l p n from to stands none_at);
    free = moved-chosen m None l p n from to (free_of (view old)) same;
    items = λ items are f. are f ∙ ap (λ (fs : List ℕ). cond (is_in f fs) (items f) []) (sym same.merged);
  })
    where
      same : IsAlike l (after l (EntriesMoved p n from to))
      same = alike m (sizes_of old) (view old) l p n from to stands none_at
