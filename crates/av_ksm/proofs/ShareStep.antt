-- The step by which a frame is merged, all parts together.
use Rattle.std.proofs.Common.{◌≡◌, ℕ, ◌<◌, nat_lt, Bool, true, false, cond, ◌&&◌, ◌||◌, ◌==◌, [], ◌∷◌, Option, Some, None, refl, sym, ap, subst, ◌∙◌, arith, T}
use Rattle.std.proofs.lemmas.Bool.Decides.{nat_tests}
use Rattle.std.proofs.lemmas.Bool.{false≢true}
use Rattle.std.proofs.lemmas.List.Folds.{list_any-append}
use Rattle.std.specs.FinMap.Entries.{is_sorted}
use Rattle.std.specs.Prelude.{IsSomeAnd}
use Rattle.av_base.specs.Items.{Item}
use Rattle.av_base.specs.Keys.{key_cmp}
use Rattle.av_base.proofs.Keys.{same_key-is}
use Rattle.av_base.specs.declared.slot.Slot.{Slot}
use Rattle.av_trace.specs.declared.note.Note.TheVariants.{Shared}
use Rattle.av_plain.specs.Areas.{at_root, rmap_after_note, with_any_item, with_first_item}
use Rattle.av_plain.specs.Event.{Noted, after_note}
use Rattle.av_plain.specs.Fault.{asks_copy}
use Rattle.av_plain.specs.Ledger.{InFrame, Ledger, Setting, entry, frame_at, is_merged, names_frame}
use Rattle.av_plain.specs.Sound.{mergings}
use Rattle.av_plain.specs.Stands.{BytesStand, ItemsAre, LedgerStands, Pte, View, entry_of, free_of}
use Rattle.av_plain.specs.World.{pages}
use Rattle.av_plain.proofs.Covered.{Names, alone-by}
use Rattle.av_plain.proofs.Covered.Merging.{shared-reach}
use Rattle.av_plain.proofs.Covered.Swap.{Reach}
use Rattle.av_plain.proofs.Ledger.NoSwap.{key_is}
use Rattle.av_plain.proofs.Sound.Changes.{any-counts}
use Rattle.av_plain.proofs.Sound.Counts.{same-is, same-itself}
use Rattle.av_swap_laws.specs.Held.{Held, IsHeld, Steps}
use Rattle.av_swap_laws.specs.May.{AreOnce}
use Rattle.av_swap_laws.proofs.Cache.{frame-slot}
use Rattle.av_swap_laws.proofs.Free.{chooses-none}
use Rattle.av_swap_laws.proofs.Parts.{few-of, kept-moves, none-some, shared-same, some-is}
use Rattle.av_swap_laws.proofs.Whole.{areas-as, headers-as}
use Rattle.av_ksm.specs.Join.{HasOwn, view_shared}

pub unmerged-none : (l : Ledger) (f : ℕ) → is_merged l f ≡ false → mergings l f ≡ 0
unmerged-none l f own = none (mergings l f) (sym (any-counts (λ x. f == x) l.merged) ∙ own)
  where
    none : (n : ℕ) → nat_lt 0 n ≡ false → n ≡ 0
    none n e = grind (arith, nat_tests, e)

pub merged-some : (l : Ledger) (f : ℕ) → is_merged l f ≡ true → 0 < mergings l f
merged-some l f merged = some (mergings l f) (sym (any-counts (λ x. f == x) l.merged) ∙ merged)
  where
    some : (n : ℕ) → nat_lt 0 n ≡ true → 0 < n
    some n e = grind (arith, nat_tests, e)

-- one frame more is merged
pub merged-more : (l : Ledger) (f g : ℕ) → is_merged (after_note (Shared f) l) g ≡ (is_merged l g || g == f)
merged-more l f g = list_any-append (λ x. g == x) l.merged (f ∷ []) ∙ ap (λ b. is_merged l g || b) (last (g == f))
  where
    last : (b : Bool) → (b || false) ≡ b
    last true = refl
    last false = refl

pub merged-here : (l : Ledger) (f g : ℕ) → (g == f) ≡ true → is_merged (after_note (Shared f) l) g ≡ true
merged-here l f g is = merged-more l f g ∙ ap (λ b. is_merged l g || b) is ∙ right (is_merged l g)
  where
    right : (b : Bool) → (b || true) ≡ true
    right true = refl
    right false = refl

pub merged-other : (l : Ledger) (f g : ℕ) → (g == f) ≡ false → is_merged (after_note (Shared f) l) g ≡ is_merged l g
merged-other l f g is = merged-more l f g ∙ ap (λ b. is_merged l g || b) is ∙ left (is_merged l g)
  where
    left : (b : Bool) → (b || false) ≡ b
    left true = refl
    left false = refl

module _ (m : Setting) (closing : Option ℕ) (old : Held) (h : IsHeld m old) (p page f : ℕ) (seen : Bool)
    (sorted : T (is_sorted key_cmp old.ledger.entries)) (once : AreOnce old.ledger) (own : HasOwn old.ledger (p, page) f seen) where
  abbrev v : View
  v = old.view

  abbrev l : Ledger
  l = old.ledger

  abbrev l' : Ledger
  l' = after_note (Shared f) l

  abbrev item : Option Item
  item = at_root old.rmap.anons (old.rmap.homes f)

  abbrev v' : View
  v' = view_shared p page f seen item v

  named : Names l (p, page) f
  named = subst (λ o. IsSomeAnd o (λ e. names_frame f e ≡ true)) (sym own.names) (same-itself f)

  uncached : (s : Slot) → frame_at l s ≡ Some f → ⊥
  uncached s at = none-some s (sym own.uncached ∙ frame-slot l once f s at)

  reach : Reach l' (with_first_item f old.rmap)
  reach = shared-reach l old.rmap f (p, page) (record {
    in_order = sorted;
    once = once.slots_once;
    sound = h.covered.frames;
    slots = h.covered.slots;
    merged = h.covered.merged;
  }) own.unmerged named uncached

  there : (q o : ℕ) (b : Bool) → (q == p && o == page) ≡ b
      → entry_of (cond b (Some (record { entry = InFrame f seen; write = false })) (v.table q o)) ≡ entry l (q, o)
  there q o true e = sym (ap (entry l) (same_key-is (q, o) (p, page) (key_is q o p page ∙ e)) ∙ own.names)
  there q o false e = h.ledger.tables.entries q o

  -- a write bit stands at no entry of the frame: another one would be its only one
  bits : (q o : ℕ) (u : Pte) (g : ℕ) (b : Bool) → (q == p && o == page) ≡ b
      → cond b (Some (record { entry = InFrame f seen; write = false })) (v.table q o) ≡ Some u → u.write ≡ true
      → names_frame g u.entry ≡ true → asks_copy l' g ≡ false
  bits q o u g true e at writes names = absurd (false≢true (ap (λ (t : Pte). t.write) (some-is _ u at) ∙ writes))
  bits q o u g false e at writes names = by (g == f) refl
    where
      alone : asks_copy l g ≡ false
      alone = h.ledger.tables.write_bits q o u g at writes names

      has : entry l (q, o) ≡ Some u.entry
      has = sym (h.ledger.tables.entries q o) ∙ ap entry_of at

      by : (b : Bool) → (g == f) ≡ b → asks_copy l' g ≡ false
      by true is = absurd (alone-by l (p, page) f sorted (few-of l f (subst (λ j. asks_copy l j ≡ false) (same-is g f is) alone)) named (q, o)
          (key_is q o p page ∙ e)
          (subst (λ x. IsSomeAnd x (λ y. names_frame f y ≡ true)) (sym has) (subst (λ j. names_frame j u.entry ≡ true) (same-is g f is) names)))
      by false is = shared-same l l' g refl refl (λ t at. refl) (merged-other l f g is) ∙ alone

  stands : LedgerStands m v' l'
  stands = record {
    frames = record {
      frames = h.ledger.frames.frames;
      maps = h.ledger.frames.maps;
      slots = h.ledger.frames.slots;
      dirty = h.ledger.frames.dirty;
      free = h.ledger.frames.free;
    };
    lists = record { active = h.ledger.lists.active; inactive = h.ledger.lists.inactive };
    tables = record {
      entries = λ q o. there q o (q == p && o == page) refl;
      write_bits = λ q o u g at writes names. bits q o u g (q == p && o == page) refl at writes names;
    };
    swap = record { finds = h.ledger.swap.finds; counts = h.ledger.swap.counts; flight = h.ledger.swap.flight; on = h.ledger.swap.on };
  }

  bytes : BytesStand v' old.device old.world l'
  bytes = record {
    kept = λ q o. kept-moves v v' old.device old.device l l' (entry l (q, o)) (pages old.world q o) refl (λ t is. refl) (λ t is none held. held)
        (h.bytes.kept q o);
    clean = h.bytes.clean;
  }

  items-now : ItemsAre v' l' (with_first_item f old.rmap).items
  items-now g = by (g == f) refl
    where
      none : v.items f ≡ []
      none = h.items f ∙ ap (λ b. cond b (old.rmap.items f) []) own.unmerged

      by : (b : Bool) → (g == f) ≡ b → cond b (with_any_item item (v.items f)) (v.items g)
          ≡ cond (is_merged l' g) (cond b (with_any_item item []) (old.rmap.items g)) []
      by true e = ap (with_any_item item) none ∙ sym (ap (λ b. cond b (with_any_item item []) []) (merged-here l f g e))
      by false e = h.items g ∙ sym (ap (λ b. cond b (old.rmap.items g) []) (merged-other l f g e))

  pub share-steps : Steps m closing (Noted (Shared f)) old (record old {
    view = view_shared p page f seen (at_root old.rmap.anons (old.rmap.homes f)) old.view;
    ledger = after_note (Shared f) old.ledger;
    rmap = rmap_after_note old.ledger (Shared f) old.rmap;
  })
  share-steps = record {
    ledger = refl;
    held = record {
      ledger = stands;
      bytes = bytes;
      headers = headers-as m l l' refl h.headers;
      covered = record { frames = reach.sound; slots = reach.slots; merged = reach.merged };
      homes = λ g. ap (λ o. cond (g == f) None o) (h.homes g);
      items = items-now;
    };
    areas = areas-as v' v old.world (record { areas = refl; processes = refl });
    chosen = chooses-none m closing l (Shared f) (record { frames = λ g had. had; slots = λ t had. had }) (free_of v) refl refl;
  }
