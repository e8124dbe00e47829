-- Each step of swap leaves entries of frames and of slots covered.
use Rattle.std.proofs.Common.{◌≡◌, ℕ, Bool, true, false, [], ◌∷◌, ◌++◌, Option, Some, None, refl, sym, ap, subst, ◌∙◌, arith, T}
use Rattle.std.proofs.lemmas.Bool.{false≢true}
use Rattle.std.specs.Prelude.{IsSome, IsSomeAnd}
use Rattle.std.specs.FinMap.Entries.{is_sorted}
use Rattle.av_base.specs.Keys.{Key, key_cmp, same_key}
use Rattle.av_base.specs.Page.{page_of}
use Rattle.av_base.specs.declared.slot.Slot.{Slot}
use Rattle.av_trace.specs.declared.note.Cause.{Cause}
use Rattle.av_trace.specs.declared.note.Cause.TheVariants.{Ksm, Locked, NoSlot, Referenced, WriteStarted, Writeback}
use Rattle.av_trace.specs.declared.note.Note.TheVariants.{Aged, Copied, Dropped, Failed, Kept, Loaded, Mapped, New, Put, Started, Written, Zeroed}
use Rattle.av_vma.specs.Pages.{home_of}
use Rattle.av_plain.specs.Areas.{Rmap, at_home, home_for, rmap_after_note}
use Rattle.av_plain.specs.Covered.{IsOfSlot}
use Rattle.av_plain.specs.Event.{after_note, after_use, after_use_of, after_zap, change_entries, if_some, into_cache, off_cache, off_flight, set_entry, to_active, to_inactive_head, to_inactive_tail, with_stale, without_seen}
use Rattle.av_plain.specs.Fault.{asks_copy}
use Rattle.av_plain.specs.Ledger.{Entry, InFrame, InSlot, Ledger, Zero, entry, frame_at, is_free, is_merged, keys_of_slot, names_frame, names_slot, slot_entries, slot_of}
use Rattle.av_plain.proofs.Covered.{Names, alone-by, covered-owns, merged-fewer, merged-homed, merged-set, sound-fewer, sound-put, sound-set}
use Rattle.av_plain.proofs.Covered.Slots.{names-unmapped, names-unseen, set-fewer, slots-dropped, slots-homed, slots-lists, slots-loaded, slots-put, slots-set, slots-stale, slots-unmapped, slots-unseen, sound-loaded, sound-mapped, sound-unmapped, sound-unseen}
use Rattle.av_plain.proofs.Covered.Page.{copied-cache, copied-entries, copied-merged}
use Rattle.av_plain.proofs.Covered.Swap.{AreMergedFewer, free-uncached, free-unnamed, merged-same, merged-settled, unlike}
use Rattle.av_plain.proofs.Covered.Zaps.{merged-zapped, slots-zapped, sound-zapped}
use Rattle.av_plain.proofs.Ledger.{entry-set, how_many-found}
use Rattle.av_plain.proofs.Sound.Counts.{same-itself}
use Rattle.av_plain.proofs.Sound.Steps.{settle-entries}
use Rattle.av_swap_laws.specs.Held.{AllCovered}
use Rattle.av_swap_laws.specs.May.{AreOnce, MayComeIn, MayGoOut}
use Rattle.av_swap_laws.proofs.Cache.{cached-own, frame-slot, free-own, slot-frame}
use Rattle.av_swap_laws.proofs.Parts.{few-of, own-of, unnamed-of}

-- an entry of the frame names it
named : (l : Ledger) (k : Key) (f : ℕ) (seen : Bool) → entry l k ≡ Some (InFrame f seen) → Names l k f
named l k f seen at = subst (λ o. IsSomeAnd o (λ e. names_frame f e ≡ true)) (sym at) (same-itself f)

module _ (l : Ledger) (r : Rmap) (h : AllCovered l r) where
  -- ---- lists, flight, areas and staleness change, or entries are unseen

  pub fewer-covered : (l' : Ledger) → l'.entries ≡ l.entries → l'.cache ≡ l.cache → AreMergedFewer l l' → AllCovered l' r
  fewer-covered l' entries cache fewer = record {
    frames = sound-fewer l l' r (λ k f names own. (was k f names, sym (fewer.named k f names) ∙ own)) h.frames;
    slots = slots-lists l l' r entries cache h.slots;
    merged = merged-fewer l l' r (λ k f names is. was k f names) fewer.fewer h.merged;
  }
    where
      was : (k : Key) (f : ℕ) → Names l' k f → Names l k f
      was k f names = subst (λ es. Names (record l { entries = es }) k f) entries names

  pub alike-covered : (l' : Ledger) → l'.entries ≡ l.entries → l'.cache ≡ l.cache → l'.merged ≡ l.merged → AllCovered l' r
  alike-covered l' entries cache merged = fewer-covered l' entries cache (merged-same l l' merged)

  pub stale-covered : (stale : Bool) (s : Slot) → AllCovered (with_stale stale s l) r
  stale-covered stale s = record {
    frames = sound-fewer l (with_stale stale s l) r (λ k f names own. (names, own)) h.frames;
    slots = slots-stale l r stale s h.slots;
    merged = merged-fewer l (with_stale stale s l) r (λ k f names is. names) (λ f is. is) h.merged;
  }

  pub unseen-covered : (f : ℕ) → AllCovered (change_entries f without_seen l) r
  unseen-covered f = record {
    frames = sound-unseen l r f h.frames;
    slots = slots-unseen l r f h.slots;
    merged = merged-fewer l (change_entries f without_seen l) r (λ k g names is. names-unseen l f k g names) (λ g is. is) h.merged;
  }

  -- ---- an entry becomes another

  -- which names only what the one before it named, and no slot
  pub set-covered : (k : Key) (e : Entry) → ((f : ℕ) → names_frame f e ≡ true → Names l k f) → ((s : Slot) → names_slot s e ≡ false)
      → AllCovered (set_entry k e l) r
  set-covered k e frames slots = record {
    frames = sound-set l (set_entry k e l) r k e refl frames h.frames;
    slots = slots-set l r k e slots h.slots;
    merged = merged-set l r k e (λ f at is. frames f at) h.merged;
  }

  -- or names a frame that no other names, nor its slot, and that isn't merged: it comes home
  pub home-covered : (k : Key) (f : ℕ) (seen : Bool) → is_merged l f ≡ false → IsSomeAnd (r.areas k.0 k.1) (λ area. IsSome area.anon)
      → ((q : Key) → same_key q k ≡ false → Names l q f → ⊥) → ((s : Slot) (q : Key) → frame_at l s ≡ Some f → IsOfSlot l s q → ⊥)
      → AllCovered (set_entry k (InFrame f seen) l) (at_home f k r)
  home-covered k f seen own owns frames slots = record {
    frames = sound-put l now r k f seen (entry-set k (InFrame f seen) l) owns frames (λ q g names own. own) h.frames;
    slots = slots-homed now r f k (λ s q at names. slots s q at (set-fewer l k (InFrame f seen) (λ s. refl) s q names))
        (slots-set l r k (InFrame f seen) (λ s. refl) h.slots);
    merged = merged-homed now r f (home_of k.1 (r.areas k.0 k.1)) own
        (merged-set l r k (InFrame f seen) (λ g at is. absurd (unlike l f g own at is)) h.merged);
  }
    where
      now : Ledger
      now = set_entry k (InFrame f seen) l

module _ (l : Ledger) (r : Rmap) (h : AllCovered l r) where
  -- ---- notes of reclaim

  pub put-covered : (f : ℕ) (s : Slot) → MayGoOut l f s → AllCovered (after_note (Put f s) l) r
  put-covered f s may = record {
    frames = sound-fewer l (into_cache s f true l) r (λ k g names own. (names, own)) h.frames;
    slots = slots-put l r s f true may.unnamed h.slots;
    merged = merged-fewer l (into_cache s f true l) r (λ k g names is. names) (λ g is. is) h.merged;
  }

  pub unmap-covered : (f : ℕ) (s : Slot) → AreOnce l → slot_of l f ≡ Some s → AllCovered (change_entries f (λ _. InSlot s) l) r
  unmap-covered f s once cached = record {
    frames = sound-unmapped l r f s h.frames;
    slots = slots-unmapped l r f s (slot-frame l once f s cached) (cached-own l once f s (slot-frame l once f s cached)) h.frames h.slots;
    merged = merged-fewer l (change_entries f (λ _. InSlot s) l) r (λ k g names is. names-unmapped l f s k g names) (λ g is. is) h.merged;
  }

  pub start-covered : (s : Slot) → AllCovered (after_note (Started s) l) r
  start-covered s = stale-covered flying r (alike-covered l r h flying refl refl refl) false s
    where
      flying : Ledger
      flying = record l { flight = l.flight ++ s ∷ [] }

  pub done-covered : (s : Slot) → AllCovered (after_note (Written s) l) r
  done-covered s = by (frame_at l s)
    where
      by : (o : Option ℕ) → AllCovered (if_some o to_inactive_tail (off_flight s l)) r
      by None = alike-covered l r h (off_flight s l) refl refl refl
      by (Some f) = alike-covered l r h (to_inactive_tail f (off_flight s l)) refl refl refl

  pub fail-covered : (s : Slot) → AllCovered (after_note (Failed s) l) r
  fail-covered s = stale-covered (off_flight s l) r (alike-covered l r h (off_flight s l) refl refl refl) true s

  pub drop-covered : (s : Slot) → AllCovered (after_note (Dropped s) l) r
  drop-covered s = record {
    frames = sound-fewer l (after_note (Dropped s) l) r (λ k f names own. (was k f names, sym (fewer.named k f names) ∙ own)) h.frames;
    slots = slots-dropped l r s h.slots;
    merged = merged-fewer l (after_note (Dropped s) l) r (λ k f names is. was k f names) fewer.fewer h.merged;
  }
    where
      fewer : AreMergedFewer (off_cache s l) (after_note (Dropped s) l)
      fewer = merged-settled (frame_at l s) (off_cache s l)

      was : (k : Key) (f : ℕ) → Names (after_note (Dropped s) l) k f → Names l k f
      was k f names = subst (λ es. Names (record l { entries = es }) k f) (settle-entries (frame_at l s) (off_cache s l)) names

  pub keep-covered : (f : ℕ) (cause : Cause) → AllCovered (after_note (Kept f cause) l) r
  keep-covered f Writeback = alike-covered l r h (to_inactive_head f l) refl refl refl
  keep-covered f WriteStarted = alike-covered l r h (to_inactive_head f l) refl refl refl
  keep-covered f Referenced = alike-covered (change_entries f without_seen l) r (unseen-covered l r h f)
      (to_active f (change_entries f without_seen l)) refl refl refl
  keep-covered f NoSlot = alike-covered l r h (to_active f l) refl refl refl
  keep-covered f Locked = alike-covered l r h (to_active f l) refl refl refl
  keep-covered f Ksm = alike-covered l r h (to_active f l) refl refl refl

  pub age-covered : (f : ℕ) → AllCovered (after_note (Aged f) l) r
  age-covered f = alike-covered (change_entries f without_seen l) r (unseen-covered l r h f)
      (to_inactive_head f (change_entries f without_seen l)) refl refl refl

  -- ---- a page comes in

  pub load-covered : (f : ℕ) (s : Slot) → T (is_sorted key_cmp l.entries) → AreOnce l → MayComeIn l f s
      → AllCovered (after_note (Loaded s f) l) (rmap_after_note l (Loaded s f) r)
  load-covered f s sorted once may = record {
    frames = sound-loaded l r s f (free-unnamed l f may.free) h.frames;
    slots = slots-loaded l r s f sorted (free-uncached l f may.free) h.frames h.slots;
    merged = merged-homed (after_note (Loaded s f) l) r f (home_for r (keys_of_slot l s)) (free-own l once f may.free)
        (merged-fewer l (after_note (Loaded s f) l) r (λ k g names is. names) (λ g is. is) h.merged);
  }

  pub map-covered : (p a f : ℕ) (s : Slot) → AreOnce l → entry l (p, page_of a) ≡ Some (InSlot s) → frame_at l s ≡ Some f
      → AllCovered (after_note (Mapped p a f) l) r
  map-covered p a f s once at there = record {
    frames = sound-mapped l r (p, page_of a) s f at there h.slots h.frames;
    slots = slots-set l r (p, page_of a) (InFrame f false) (λ t. refl) h.slots;
    merged = merged-set l r (p, page_of a) (InFrame f false)
        (λ g at is. absurd (unlike l f g (cached-own l once f s there) at is)) h.merged;
  }

  -- ---- a page is made ready or used, or its entry goes

  pub zero-covered : (p a : ℕ) → AllCovered (after_note (Zeroed p a) l) r
  zero-covered p a = set-covered l r h (p, page_of a) Zero (λ f names. absurd (false≢true names)) (λ s. refl)

  given-covered : (k : Key) (f : ℕ) → AreOnce l → is_free l f ≡ true → IsSomeAnd (r.areas k.0 k.1) (λ area. IsSome area.anon)
      → AllCovered (to_inactive_head f (set_entry k (InFrame f false) l)) (at_home f k r)
  given-covered k f once free owns = alike-covered (set_entry k (InFrame f false) l) (at_home f k r)
      (home-covered l r h k f false (free-own l once f free) owns (λ q other. free-unnamed l f free q)
      (λ s q at names. free-uncached l f free s at))
      (to_inactive_head f (set_entry k (InFrame f false) l)) refl refl refl

  pub new-covered : (p a f : ℕ) → AreOnce l → is_free l f ≡ true → IsSomeAnd (r.areas p (page_of a)) (λ area. IsSome area.anon)
      → AllCovered (after_note (New p a f) l) (at_home f (p, page_of a) r)
  new-covered p a f = given-covered (p, page_of a) f

  pub copy-covered : (p a f g : ℕ) (seen : Bool) → AreOnce l → is_free l f ≡ true → entry l (p, page_of a) ≡ Some (InFrame g seen)
      → AllCovered (after_note (Copied p a f) l) (at_home f (p, page_of a) r)
  copy-covered p a f g seen once free at = fewer-covered (to_inactive_head f (set_entry (p, page_of a) (InFrame f false) l))
      (at_home f (p, page_of a) r)
      (given-covered (p, page_of a) f once free
      (covered-owns l r (p, page_of a) g h.frames h.merged (named l (p, page_of a) g seen at)))
      (after_note (Copied p a f) l) (copied-entries l (p, page_of a) f) (copied-cache l (p, page_of a) f)
      (copied-merged l (p, page_of a) f)

  pub read-covered : (k : Key) (f : ℕ) (seen : Bool) → entry l k ≡ Some (InFrame f seen) → AllCovered (set_entry k (InFrame f true) l) r
  read-covered k f seen at = set-covered l r h k (InFrame f true)
      (λ g names. subst (λ o. IsSomeAnd o (λ e. names_frame g e ≡ true)) (sym at) names) (λ s. refl)

  -- written in place: no other entry names the frame, nor its slot
  pub write-covered : (k : Key) (f : ℕ) (seen : Bool) → T (is_sorted key_cmp l.entries) → AreOnce l → entry l k ≡ Some (InFrame f seen)
      → asks_copy l f ≡ false → AllCovered (after_use true k l) (at_home f k r)
  write-covered k f seen sorted once at alone = subst (λ l. AllCovered l (at_home f k r)) (sym (ap (after_use_of true k l) at)) (by (slot_of l f))
    where
      -- no entry names its slot
      unnamed : (s : Slot) (q : Key) → frame_at l s ≡ Some f → IsOfSlot l s q → ⊥
      unnamed s q is names = one (entry l q) refl names
        where
          zero : slot_entries l s ≡ 0
          zero = unnamed-of l f alone s (frame-slot l once f s is)

          one : (o : Option Entry) → entry l q ≡ o → IsSomeAnd o (λ e. names_slot s e ≡ true) → ⊥
          one None e n = n
          one (Some x) e n = let some = how_many-found (names_slot s) q l.entries x e n in omega (arith, some, zero)

      written : AllCovered (set_entry k (InFrame f true) l) (at_home f k r)
      written = home-covered l r h k f true (own-of l f alone) (covered-owns l r k f h.frames h.merged (named l k f seen at))
          (alone-by l k f sorted (few-of l f alone) (named l k f seen at)) unnamed

      by : (o : Option Slot) → AllCovered (if_some o (with_stale true) (set_entry k (InFrame f true) l)) (at_home f k r)
      by None = written
      by (Some s) = stale-covered (set_entry k (InFrame f true) l) (at_home f k r) written true s

  pub zap-covered : (k : Key) → AllCovered (after_zap k l) r
  zap-covered k = record {
    frames = sound-zapped l r k h.frames;
    slots = slots-zapped l r k h.slots;
    merged = merged-zapped l r k h.merged;
  }
