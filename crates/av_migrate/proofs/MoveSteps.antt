-- The step by which a frame goes over to another, and that which puts the free ones in order, all parts together.
use Rattle.std.proofs.Common.{◌≡◌, ℕ, zero, suc, ◌+◌, ◌<◌, ◌≤◌, Bool, true, false, cond, ◌||◌, List, [], ◌∷◌, ◌++◌, filter, Option, refl, sym, ap, ◌∙◌, arith, ◌==◌}
use Rattle.std.proofs.lemmas.Bool.Decides.{nat_tests}
use Rattle.std.specs.List.{range_with_len}
use Rattle.av_base.specs.Words.{is_in, renamed, without}
use Rattle.av_base.specs.declared.slot.Slot.{Slot}
use Rattle.av_trace.specs.declared.note.Note.TheVariants.{Moved}
use Rattle.av_plain.specs.Areas.{with_home_moved}
use Rattle.av_plain.specs.Choice.{Chooses}
use Rattle.av_plain.specs.Event.{FreeSorted, Noted, after_note, with_places}
use Rattle.av_plain.specs.Ledger.{Ledger, Setting, is_free, is_merged}
use Rattle.av_plain.specs.Sound.{IsSound, count, no_excuse, uses}
use Rattle.av_plain.specs.Stands.{HomesAre, ItemsAre, View, free_of}
use Rattle.av_plain.proofs.Covered.Merging.{moved-reach}
use Rattle.av_plain.proofs.Covered.Swap.{Reach}
use Rattle.av_plain.proofs.Event.{slot_entries-renamed}
use Rattle.av_plain.proofs.Sound.Changes.{free-is}
use Rattle.av_plain.proofs.Sound.Counts.{same-is, same-itself}
use Rattle.av_plain.proofs.Sound.Sharing.{before, slots-went, uses-went}
use Rattle.av_swap_laws.specs.Held.{Held, IsHeld, Steps}
use Rattle.av_swap_laws.proofs.Free.{frames-one, given-none}
use Rattle.av_swap_laws.proofs.Whole.{areas-as, headers-as}
use Rattle.av_migrate.specs.Move.{MayMove, view_moved, view_ordered}
use Rattle.av_migrate.proofs.MoveCounts.{merged-before}
use Rattle.av_migrate.proofs.MoveStands.{moved-bytes, moved-stands}

module _ (m : Setting) (closing : Option ℕ) (old : Held) (h : IsHeld m old) where
  abbrev v : View
  v = old.view

  abbrev l : Ledger
  l = old.ledger

  -- ---- a frame goes over

  module _ (from to : ℕ) (s : IsSound m l) (may : MayMove m l from to) where
    abbrev went : Ledger
    went = with_places (renamed from to) l

    reach : Reach went (with_home_moved from to old.rmap)
    reach = moved-reach m l old.rmap from to (record {
      in_order = s.in_order;
      once = s.slots_once;
      sound = h.covered.frames;
      slots = h.covered.slots;
      merged = h.covered.merged;
    }) s may.free may.used may.below

    homes-moved : HomesAre (view_moved from to v) (with_home_moved from to old.rmap).homes
    homes-moved f = λ i. cond (f == to) (h.homes from i) (h.homes f i)

    items-moved : ItemsAre (view_moved from to v) went (with_home_moved from to old.rmap).items
    items-moved f = by (f == from) (f == to) ∙ ap (λ b. cond b ((with_home_moved from to old.rmap).items f) []) (sym (merged-before m l from to s may f))
      where
        none : (x : List (ℕ × ℕ)) → [] ≡ cond false x []
        none x = refl

        by : (a b : Bool) → cond a [] (cond b (v.items from) (v.items f))
            ≡ cond (cond a false (is_merged l (cond b from f))) (cond b (old.rmap.items from) (old.rmap.items f)) []
        by true b = refl
        by false true = h.items from
        by false false = h.items f

    used-other : (g : ℕ) → (g == from) ≡ false → 0 < uses l g → 0 < uses went g
    used-other g other some = let e = uses-went m no_excuse l from to s may.free may.used may.below g in by (g == to) refl
        (e ∙ ap (λ b. cond b 0 (uses l (before from to g))) other)
      where
        by : (b : Bool) → (g == to) ≡ b → uses went g ≡ uses l (cond b from g) → 0 < uses went g
        by true is e = let u = may.used in omega (arith, e, u)
        by false is e = omega (arith, e, some)

    gone : uses went from ≡ 0
    gone = uses-went m no_excuse l from to s may.free may.used may.below from
        ∙ ap (λ b. cond b 0 (uses l (before from to from))) (same-itself from)

    kept : (t : Slot) → 0 < count l t → 0 < count went t
    kept t some = let a = slots-went m no_excuse l from to s may.free may.used may.below t in let b = slot_entries-renamed from to l t in
        omega (arith, a, b, some)

    zero-free : (n : ℕ) → n ≡ 0 → (n == 0) ≡ true
    zero-free n e = grind (arith, nat_tests, e)

    chosen : Chooses m closing l (Noted (Moved from to)) (free_of v) (free_of (view_moved from to v))
    chosen = record {
      frames = (
        without to v.free,
        (h.ledger.frames.free to may.below ∙ free-is l to ∙ zero-free (uses l to) may.free, refl),
        ap (λ fs. fs ++ without to v.free) (sym (frames-one m l went from (s.in_range from may.used) may.used gone used-other)),
      );
      slots = (v.slots, v.slots, refl, refl, sym (given-none m l went v.slots kept));
    }

    pub move-steps : Steps m closing (Noted (Moved from to)) old (record old {
      view = view_moved from to v;
      ledger = after_note (Moved from to) l;
      rmap = with_home_moved from to old.rmap;
    })
    move-steps = record {
      ledger = refl;
      held = record {
        ledger = moved-stands m l from to s may v h.ledger;
        bytes = moved-bytes m l from to s may v old.device old.world h.bytes;
        headers = headers-as m l went refl h.headers;
        covered = record { frames = reach.sound; slots = reach.slots; merged = reach.merged };
        homes = homes-moved;
        items = items-moved;
      };
      areas = areas-as (view_moved from to v) v old.world (record { areas = refl; processes = refl });
      chosen = chosen;
    }

  -- ---- the free frames are put in order

  in-order : filter (λ f. is_in f v.free) (range_with_len 0 v.frames) ≡ filter (is_free l) (range_with_len 0 m.frames)
  in-order = ap (λ n. filter (λ f. is_in f v.free) (range_with_len 0 n)) h.ledger.frames.frames ∙ same 0 m.frames
      (λ f low high. h.ledger.frames.free f (omega (arith, high)))
    where
      same : (a n : ℕ) → ((f : ℕ) → a ≤ f → f < a + n → is_in f v.free ≡ is_free l f)
          → filter (λ f. is_in f v.free) (range_with_len a n) ≡ filter (is_free l) (range_with_len a n)
      same a zero is = refl
      same a (suc n) is = step (same (a + 1) n (λ f low high. is f (omega (arith, low)) (omega (arith, high))))
        where
          step : filter (λ f. is_in f v.free) (range_with_len (a + 1) n) ≡ filter (is_free l) (range_with_len (a + 1) n)
              → filter (λ f. is_in f v.free) (range_with_len a (suc n)) ≡ filter (is_free l) (range_with_len a (suc n))
          step rest = λ i. cond (is a (omega arith) (omega arith) i) (a ∷ rest i) (rest i)

  ordered-in : (f : ℕ) → f < m.frames → is_in f (view_ordered v).free ≡ is_free l f
  ordered-in f below = ap (is_in f) in-order ∙ among 0 m.frames (omega arith) (omega (arith, below))
    where
      absent : (a n : ℕ) → f < a → is_in f (filter (is_free l) (range_with_len a n)) ≡ false
      absent a zero low = refl
      absent a (suc n) low = by (is_free l a) (absent (a + 1) n (omega (arith, low)))
        where
          other : (f == a) ≡ false
          other = grind (arith, nat_tests, low)

          by : (b : Bool) → is_in f (filter (is_free l) (range_with_len (a + 1) n)) ≡ false
              → is_in f (cond b (a ∷ filter (is_free l) (range_with_len (a + 1) n)) (filter (is_free l) (range_with_len (a + 1) n))) ≡ false
          by true h = ap (λ b. b || is_in f (filter (is_free l) (range_with_len (a + 1) n))) other ∙ h
          by false h = h

      among : (a n : ℕ) → a ≤ f → f < a + n → is_in f (filter (is_free l) (range_with_len a n)) ≡ is_free l f
      among a zero low high = absurd (omega (arith, low, high))
      among a (suc n) low high = by (f == a) refl
          (λ e. among (a + 1) n (grind (arith, nat_tests, e, low)) (omega (arith, high)))
        where
          first : (b : Bool) → is_free l a ≡ b → f ≡ a
              → is_in f (cond b (a ∷ filter (is_free l) (range_with_len (a + 1) n)) (filter (is_free l) (range_with_len (a + 1) n))) ≡ is_free l f
          first true is e = ap (λ b. b || is_in f (filter (is_free l) (range_with_len (a + 1) n))) (ap (λ x. x == a) e ∙ same-itself a)
              ∙ sym (ap (is_free l) e ∙ is)
          first false is e = absent (a + 1) n (omega (arith, e)) ∙ sym (ap (is_free l) e ∙ is)

          later : (b : Bool) → (f == a) ≡ false → is_in f (filter (is_free l) (range_with_len (a + 1) n)) ≡ is_free l f
              → is_in f (cond b (a ∷ filter (is_free l) (range_with_len (a + 1) n)) (filter (is_free l) (range_with_len (a + 1) n))) ≡ is_free l f
          later true other h = ap (λ b. b || is_in f (filter (is_free l) (range_with_len (a + 1) n))) other ∙ h
          later false other h = h

          by : (b : Bool) → (f == a) ≡ b → ((f == a) ≡ false → is_in f (filter (is_free l) (range_with_len (a + 1) n)) ≡ is_free l f)
              → is_in f (filter (is_free l) (range_with_len a (suc n))) ≡ is_free l f
          by true is again = first (is_free l a) refl (same-is f a is)
          by false is again = later (is_free l a) is (again is)

  pub order-steps : Steps m closing FreeSorted old (record old { view = view_ordered v })
  order-steps = record {
    ledger = refl;
    held = record {
      ledger = record {
        frames = record {
          frames = h.ledger.frames.frames;
          maps = h.ledger.frames.maps;
          slots = h.ledger.frames.slots;
          dirty = h.ledger.frames.dirty;
          free = ordered-in;
        };
        lists = record { active = h.ledger.lists.active; inactive = h.ledger.lists.inactive };
        tables = record { entries = h.ledger.tables.entries; write_bits = h.ledger.tables.write_bits };
        swap = record { finds = h.ledger.swap.finds; counts = h.ledger.swap.counts; flight = h.ledger.swap.flight; on = h.ledger.swap.on };
      };
      bytes = record { kept = h.bytes.kept; clean = h.bytes.clean };
      headers = h.headers;
      covered = h.covered;
      homes = h.homes;
      items = h.items;
    };
    areas = areas-as (view_ordered v) v old.world (record { areas = refl; processes = refl });
    chosen = record {
      frames = in-order;
      slots = (v.slots, v.slots, refl, refl, sym (given-none m l l v.slots (λ t some. some)));
    };
  }
