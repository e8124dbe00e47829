-- Notes of a merge that are added, with what they tell, one after the other.
use Rattle.std.proofs.Common.{◌≡◌, ℕ, ◌<◌, ◌≤◌, ◌+◌, zero, suc, Bool, true, false, cond, ◌&&◌, List, [], ◌∷◌, ◌++◌, refl, sym, ap, subst, ◌∙◌, arith, ◌==◌}
use Rattle.std.proofs.lemmas.Bool.{false≢true}
use Rattle.std.proofs.lemmas.Bool.Decides.{nat_tests}
use Rattle.std.proofs.lemmas.List.{append-nil, append_assoc}
use Rattle.std.specs.List.{list_all, range_with_len}
use Rattle.av_base.specs.Keys.{Key}
use Rattle.av_base.specs.Page.{address_of, page_size}
use Rattle.av_trace.specs.declared.note.Note.{Note}
use Rattle.av_trace.specs.declared.note.Note.TheVariants.{Joined, Shared}
use Rattle.av_plain.specs.Areas.{Rmap, rmap_after_all}
use Rattle.av_plain.specs.Device.{Device}
use Rattle.av_plain.specs.Event.{after_all, after_notes, note_events}
use Rattle.av_plain.specs.Ledger.{Ledger, is_merged}
use Rattle.av_plain.specs.Load.{with_loads}
use Rattle.av_plain.specs.Merge.{FrameBytes, hold_same}
use Rattle.av_plain.specs.World.{World}
use Rattle.av_plain.proofs.Access.{note_events-all, note_events-append}
use Rattle.av_plain.proofs.Load.{without-loads}
use Rattle.av_plain.proofs.Sound.Counts.{same-is, same-turned}
use Rattle.av_mem.specs.declared.mem.Mem.{Mem}
use Rattle.av_mem.specs.Between.{HasDone, KeepsBetween}
use Rattle.av_mem.specs.Mem.{setting_by}
use Rattle.av_mem.proofs.Done.{done-none, done-then}
use Rattle.av_ksm.specs.Known.{turn_notes}
use Rattle.av_ksm.specs.Merging.{HasNoted, HasOther, share_notes}
use Rattle.av_ksm.proofs.ShareStep.{merged-here, merged-other}

-- ---- one after the other

pub noted-none : (d : Device) (k : Mem) (w : World) (r : Rmap) (l : Ledger) (notes : List Note) → KeepsBetween d k w r l
    → HasNoted d k k w r l [] notes notes
noted-none d k w r l notes h = record { notes = sym (append-nil notes); done = done-none d k w r l h }

module _ (d : Device) (old mid : Mem) (w : World) (r : Rmap) (l : Ledger) (xs : List Note) (before now : List Note)
    (a : HasNoted d old mid w r l xs before now) (still : with_loads (setting_by d old) w l (note_events xs) ≡ w) where
  -- what stands then
  pub noted-between : KeepsBetween d mid w (rmap_after_all l (note_events xs) r) (after_notes l xs)
  noted-between = subst (KeepsBetween d mid w (rmap_after_all l (note_events xs) r)) (note_events-all l xs)
      (subst (λ x. KeepsBetween d mid x (rmap_after_all l (note_events xs) r) (after_all l (note_events xs))) still a.done.between)

  -- and after others
  pub noted-then : (new : Mem) (ys later : List Note) → HasNoted d mid new w (rmap_after_all l (note_events xs) r) (after_notes l xs) ys now later
      → HasNoted d old new w r l (xs ++ ys) before later
  noted-then new ys later b = record {
    notes = b.notes ∙ ap (λ ns. ns ++ ys) a.notes ∙ append_assoc before xs ys;
    done = subst (λ es. HasDone d d old new w r l es) (sym (note_events-append xs ys))
        (done-then d d d old mid new w r l (note_events xs) (note_events ys) a.done
        (subst (λ x. HasDone d d mid new x (rmap_after_all l (note_events xs) r) (after_all l (note_events xs)) (note_events ys)) (sym still)
        (subst (λ x. HasDone d d mid new w (rmap_after_all l (note_events xs) r) x (note_events ys)) (sym (note_events-all l xs)) b.done)));
  }

-- ---- a frame is merged, if it isn't yet

pub share-still : (d : Device) (k : Mem) (w : World) (l : Ledger) (f : ℕ) → with_loads (setting_by d k) w l (note_events (share_notes l f)) ≡ w
share-still d k w l f = by (is_merged l f)
  where
    by : (b : Bool) → with_loads (setting_by d k) w l (note_events (cond b [] (Shared f ∷ []))) ≡ w
    by true = without-loads (setting_by d k) w l (note_events []) refl
    by false = without-loads (setting_by d k) w l (note_events (Shared f ∷ [])) refl

-- then it is
pub share-merged : (l : Ledger) (f : ℕ) → is_merged (after_notes l (share_notes l f)) f ≡ true
share-merged l f = by (is_merged l f) refl
  where
    itself : (n : ℕ) → (n == n) ≡ true
    itself n = grind (arith, nat_tests)

    by : (b : Bool) → is_merged l f ≡ b → is_merged (after_notes l (cond b [] (Shared f ∷ []))) f ≡ true
    by true e = e
    by false e = merged-here l f f (itself f)

-- and a page with another frame has that
pub share-other : (l : Ledger) (k : Key) (own f : ℕ) → HasOther l k own f → HasOther (after_notes l (share_notes l f)) k own f
share-other l k own f has = by (is_merged l f)
  where
    by : (b : Bool) → HasOther (after_notes l (cond b [] (Shared f ∷ []))) k own f
    by true = has
    by false = record {
      seen = has.seen;
      own_is = record {
        names = has.own_is.names;
        unmerged = merged-other l f own (same-turned own f ∙ has.other) ∙ has.own_is.unmerged;
        uncached = has.own_is.uncached;
      };
      other = has.other;
    }

-- the notes of a turn are these, and that a page has joined
pub turn-parts : (l : Ledger) (k : Key) (own f : ℕ) → (f == own) ≡ false → share_notes l f ++ Joined k.0 (address_of k.1) f ∷ [] ≡ turn_notes l k own f
turn-parts l k own f other = by (is_merged l f)
    ∙ ap (λ b. cond b [] (cond (is_merged l f) (Joined k.0 (address_of k.1) f ∷ []) (Shared f ∷ Joined k.0 (address_of k.1) f ∷ []))) (sym other)
  where
    by : (b : Bool) → cond b [] (Shared f ∷ []) ++ Joined k.0 (address_of k.1) f ∷ []
        ≡ cond b (Joined k.0 (address_of k.1) f ∷ []) (Shared f ∷ Joined k.0 (address_of k.1) f ∷ [])
    by true = refl
    by false = refl

-- ---- frames that hold the same

all-in : (p : ℕ → Bool) (a n : ℕ) → list_all p (range_with_len a n) ≡ true → (i : ℕ) → a ≤ i → i < a + n → p i ≡ true
all-in p a zero h i low high = absurd (omega (arith, low, high))
all-in p a (suc n) h i low high = by (p a) refl h (all-in p (a + 1) n) (i == a) refl
  where
    by : (b : Bool) → p a ≡ b → (b && list_all p (range_with_len (a + 1) n)) ≡ true
        → (list_all p (range_with_len (a + 1) n) ≡ true → (i : ℕ) → a + 1 ≤ i → i < (a + 1) + n → p i ≡ true) → (c : Bool) → (i == a) ≡ c → p i ≡ true
    by false e h again c is = absurd (false≢true h)
    by true e h again true is = ap p (same-is i a is) ∙ e
    by true e h again false is = again h i (grind (arith, nat_tests, is, low)) (omega (arith, high))

pub same-bytes : (held : FrameBytes) (f g : ℕ) → hold_same held f g ≡ true → (i : ℕ) → i < page_size → held f i ≡ held g i
same-bytes held f g same i below = same-is (held f i) (held g i)
    (all-in (λ i. held f i == held g i) 0 page_size same i (omega arith) (omega (arith, below)))

-- ---- a frame is merged, or was

-- the notes by whether it was
shares-by : (l : Ledger) (f : ℕ) (b : Bool) → is_merged l f ≡ b → cond b [] (Shared f ∷ []) ≡ share_notes l f
shares-by l f b is = ap (λ b. cond b [] (Shared f ∷ [])) (sym is)

pub noted-merged : (d : Device) (k : Mem) (w : World) (r : Rmap) (l : Ledger) (f : ℕ) (notes : List Note) → KeepsBetween d k w r l
    → is_merged l f ≡ true → HasNoted d k k w r l (share_notes l f) notes notes
noted-merged d k w r l f notes h is = subst (λ ns. HasNoted d k k w r l ns notes notes) (shares-by l f true is) (noted-none d k w r l notes h)

pub noted-shared : (d : Device) (old new : Mem) (w : World) (r : Rmap) (l : Ledger) (f : ℕ) (before now : List Note) → is_merged l f ≡ false
    → HasNoted d old new w r l (Shared f ∷ []) before now → HasNoted d old new w r l (share_notes l f) before now
noted-shared d old new w r l f before now is = subst (λ ns. HasNoted d old new w r l ns before now) (shares-by l f false is)
