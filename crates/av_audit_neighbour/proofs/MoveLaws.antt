-- Which frame goes over next, and what a frame that has gone leaves, whether the ledger is sound or not.
use Rattle.std.proofs.Common.{◌≡◌, ℕ, ◌+◌, ◌<◌, ◌≤◌, Bool, true, false, cond, nat_lt, List}
use Rattle.std.proofs.Common.{[], ◌∷◌, ◌++◌, map, refl, sym, ap, subst, ◌∙◌, arith, ◌==◌, append_assoc}
use Rattle.std.specs.Prelude.{Some, None}
use Rattle.std.proofs.lemmas.Bool.Decides.{nat_tests}
use Rattle.av_base.specs.Keys.{Key}
use Rattle.av_base.specs.Words.{how_many, renamed}
use Rattle.av_trace.specs.declared.command.Command.TheVariants.{Compact}
use Rattle.av_trace.specs.declared.note.Note.{Note}
use Rattle.av_trace.specs.declared.note.Note.TheVariants.{Moved}
use Rattle.av_plain.specs.Compact.{MovesDown, next_move}
use Rattle.av_plain.specs.Event.{FreeSorted, after_all, after_note, after_notes, note_events, notes_of, placed_entry, with_places}
use Rattle.av_plain.specs.Ledger.{Cached, Entry, InFrame, InSlot, Ledger, Setting, Zero, is_free, names_frame}
use Rattle.av_plain.specs.Sound.{uses}
use Rattle.av_plain.specs.World.{World}
use Rattle.av_plain.proofs.Access.{after_all-append, after_notes-append, note_events-all, notes_of-append, notes_of-note_events}
use Rattle.av_plain.proofs.OneMerge.{moves-one}
use Rattle.av_plain.proofs.Sound.Changes.{free-is}
use Rattle.av_plain.proofs.Sound.Sharing.{none-from}
use Rattle.av_audit_judge.proofs.KnownLaws.{AnswersOnly}
use Rattle.av_audit_judge.proofs.VerdictLaws.{said}
use Rattle.av_audit_neighbour.specs.Moving.{AreNext, HasMoved, IsNext}
use Rattle.av_command_laws.proofs.NextMove.{MovesSoFar, next-none, next-some, so_far-all, so_far-more}

-- ---- numbers up to one

-- what holds of each number below this one, and of it, holds of each below the next
pub one-more : (P : ℕ → Type 0) (low n : ℕ) → ((f : ℕ) → low ≤ f → f < n → P f) → P n → (f : ℕ) → low ≤ f → f < n + 1 → P f
one-more P low n before here f from below = by (f == n) refl
  where
    by : (b : Bool) → (f == n) ≡ b → P f
    by true is = let e : f ≡ n = grind (arith, nat_tests, is) in subst P (sym e) here
    by false is = before f from (grind (arith, nat_tests, is, below))

-- ---- uses of frames, once one has gone over to another

count-moved : {X : Type 0} (p q : X → Bool) (c : X → X) (xs : List X) → ((x : X) → p (c x) ≡ q x) → how_many p (map c xs) ≡ how_many q xs
count-moved p q c [] h = refl
count-moved p q c (x ∷ xs) h = λ i. cond (h x i) 1 0 + count-moved p q c xs h i

count-less : {X : Type 0} (p q : X → Bool) (c : X → X) (xs : List X) → ((x : X) → q x ≡ true → p (c x) ≡ true) → how_many q xs ≤ how_many p (map c xs)
count-less p q c [] h = omega arith
count-less p q c (x ∷ xs) h = by (q x) (p (c x)) (h x) (count-less p q c xs h)
  where
    by : (a b : Bool) → (a ≡ true → b ≡ true) → {n k : ℕ} → n ≤ k → cond a 1 0 + n ≤ cond b 1 0 + k
    by true true f h = omega (arith, h)
    by true false f h = let e = f refl in absurd (differ e)
      where
        differ : false ≡ true → ⊥
        differ e = cc
    by false true f h = omega (arith, h)
    by false false f h = omega (arith, h)

count-nothing : {X : Type 0} (p : X → Bool) (xs : List X) → ((x : X) → p x ≡ false) → how_many p xs ≡ 0
count-nothing p [] h = refl
count-nothing p (x ∷ xs) h = ap (λ b. cond b 1 0 + how_many p xs) (h x) ∙ (let e = count-nothing p xs h in omega (arith, e))

module _ (l : Ledger) (from to : ℕ) (below : to < from) where
  abbrev went : Ledger
  went = with_places (renamed from to) l

  apart : (to == from) ≡ false
  apart = grind (arith, nat_tests, below)

  other-number : (g x : ℕ) → (g == from) ≡ false → (g == to) ≡ false → (g == renamed from to x) ≡ (g == x)
  other-number g x a b = by (x == from) refl
    where
      by : (c : Bool) → (x == from) ≡ c → (g == cond c to x) ≡ (g == x)
      by true is = b ∙ sym (grind (arith, nat_tests, is, a))
      by false is = refl

  gone-number : (x : ℕ) → (from == x) ≡ true → (to == renamed from to x) ≡ true
  gone-number x is = by (x == from) refl
    where
      by : (c : Bool) → (x == from) ≡ c → (to == cond c to x) ≡ true
      by true e = grind (arith, nat_tests)
      by false e = grind (arith, nat_tests, is, e)

  other-entry : (g : ℕ) → (g == from) ≡ false → (g == to) ≡ false → (e : Entry) → names_frame g (placed_entry (renamed from to) e) ≡ names_frame g e
  other-entry g a b Zero = refl
  other-entry g a b (InFrame x seen) = other-number g x a b
  other-entry g a b (InSlot s) = refl

  gone-entry : (e : Entry) → names_frame from e ≡ true → names_frame to (placed_entry (renamed from to) e) ≡ true
  gone-entry Zero h = h
  gone-entry (InFrame x seen) h = gone-number x h
  gone-entry (InSlot s) h = h

  no-entry : (e : Entry) → names_frame from (placed_entry (renamed from to) e) ≡ false
  no-entry Zero = refl
  no-entry (InFrame x seen) = none-from from to apart x
  no-entry (InSlot s) = refl

  -- another frame has the uses that it had
  uses-other : (g : ℕ) → (g == from) ≡ false → (g == to) ≡ false → uses went g ≡ uses l g
  uses-other g a b = λ i.
      count-moved (λ (e : Key × Entry). names_frame g e.1) (λ (e : Key × Entry). names_frame g e.1) (λ e. (e.0, placed_entry (renamed from to) e.1)) l.entries
      (λ e. other-entry g a b e.1) i
      + count-moved (λ (c : Cached). g == c.frame) (λ (c : Cached). g == c.frame) (λ c. record c { frame = renamed from to c.frame }) l.cache
      (λ c. other-number g c.frame a b) i

  -- the one that has gone has none, and the other what it had
  uses-gone : uses went from ≡ 0
  uses-gone =
      let a = count-moved (λ (e : Key × Entry). names_frame from e.1) (λ e. false) (λ e. (e.0, placed_entry (renamed from to) e.1)) l.entries
      (λ e. no-entry e.1)
      ∙ count-nothing (λ (e : Key × Entry). false) l.entries (λ e. refl) in
      let b = count-moved (λ (c : Cached). from == c.frame) (λ c. false) (λ c. record c { frame = renamed from to c.frame }) l.cache
      (λ c. none-from from to apart c.frame) ∙ count-nothing (λ (c : Cached). false) l.cache (λ c. refl) in
      λ i. a i + b i

  uses-come : uses l from ≤ uses went to
  uses-come =
      let a = count-less (λ (e : Key × Entry). names_frame to e.1) (λ (e : Key × Entry). names_frame from e.1)
      (λ e. (e.0, placed_entry (renamed from to) e.1)) l.entries
      (λ e. gone-entry e.1) in
      let b = count-less (λ (c : Cached). to == c.frame) (λ (c : Cached). from == c.frame) (λ c. record c { frame = renamed from to c.frame }) l.cache
      (λ c. gone-number c.frame) in
      omega (arith, a, b)

  pub free-other : (g : ℕ) → (g == from) ≡ false → (g == to) ≡ false → is_free went g ≡ is_free l g
  free-other g a b = free-is went g ∙ ap (λ n. n == 0) (uses-other g a b) ∙ sym (free-is l g)

  pub free-gone : is_free went from ≡ true
  free-gone = free-is went from ∙ ap (λ n. n == 0) uses-gone

  pub used-come : is_free l from ≡ false → is_free went to ≡ false
  used-come used = free-is went to ∙ above (uses l from) (uses went to) uses-come (sym (free-is l from) ∙ used)
    where
      above : (n k : ℕ) → n ≤ k → (n == 0) ≡ false → (k == 0) ≡ false
      above n k h e = grind (arith, nat_tests, h, e)

-- ---- one move after the other

-- so many have gone: the frames below are in use, and those from there on are free
pub record Going (m : Setting) (l : Ledger) (before : List Note) (l' : Ledger) (now : List Note) (low past : ℕ) : Type 0 where
  pub added : List Note
  pub notes : now ≡ before ++ added
  pub so_far : MovesSoFar m l added
  pub after : l' ≡ after_notes l added
  pub fits : past ≤ m.frames
  pub low_used : (f : ℕ) → f < low → is_free l' f ≡ false
  pub high_free : (f : ℕ) → past ≤ f → f < m.frames → is_free l' f ≡ true

pub going-first : (m : Setting) (l : Ledger) (before : List Note) (past : ℕ) → past ≡ m.frames → Going m l before l before 0 past
going-first m l before past is = record {
  added = [];
  notes = sym (nil before);
  so_far = tt;
  after = refl;
  fits = omega (arith, is);
  low_used = λ f h. absurd (omega (arith, h));
  high_free = λ f a b. absurd (omega (arith, a, b, is));
}
  where
    nil : (xs : List Note) → xs ++ [] ≡ xs
    nil [] = refl
    nil (x ∷ xs) = ap (λ t. x ∷ t) (nil xs)

going-next : (m : Setting) (l : Ledger) (before : List Note) (l' : Ledger) (now : List Note) (low past : ℕ) → Going m l before l' now low past
    → (from to : ℕ) → AreNext l' low past from to → next_move m l' ≡ Some (Moved from to)
going-next m l before l' now low past g from to n = next-some m l' from to n.above (let a = n.below in let b = g.fits in omega (arith, a, b)) n.takes n.moves
    (λ f h. first f h (nat_lt f low) refl) (λ f h k. last f h k (nat_lt f past) refl)
  where
    first : (f : ℕ) → f < to → (b : Bool) → nat_lt f low ≡ b → is_free l' f ≡ false
    first f h true e = g.low_used f (grind (arith, nat_tests, e))
    first f h false e = n.least f (grind (arith, nat_tests, e)) h

    last : (f : ℕ) → from < f → f < m.frames → (b : Bool) → nat_lt f past ≡ b → is_free l' f ≡ true
    last f h k true e = n.greatest f h (grind (arith, nat_tests, e))
    last f h k false e = g.high_free f (grind (arith, nat_tests, e)) k

pub going-more : (m : Setting) (l : Ledger) (before : List Note) (l' : Ledger) (now : List Note) (low past : ℕ) → Going m l before l' now low past
    → (from to : ℕ) → AreNext l' low past from to → (l'' : Ledger) → l'' ≡ after_note (Moved from to) l' → (more : List Note)
    → more ≡ now ++ Moved from to ∷ [] → Going m l before l'' more (to + 1) from
going-more m l before l' now low past g from to n l'' is more noted = record {
  added = g.added ++ Moved from to ∷ [];
  notes = noted ∙ ap (λ ns. ns ++ Moved from to ∷ []) g.notes ∙ append_assoc before g.added (Moved from to ∷ []);
  so_far = so_far-more m l g.added (Moved from to) g.so_far (ap (next_move m) (sym g.after) ∙ going-next m l before l' now low past g from to n);
  after = is ∙ ap (after_note (Moved from to)) g.after ∙ sym (after_notes-append l g.added (Moved from to ∷ []));
  fits = (let a = n.below in let b = g.fits in omega (arith, a, b));
  low_used = λ f h. ap (λ l. is_free l f) is ∙ used f h (f == to) refl;
  high_free = λ f h k. ap (λ l. is_free l f) is ∙ free f h k (f == from) refl;
}
  where
    used : (f : ℕ) → f < to + 1 → (b : Bool) → (f == to) ≡ b → is_free (with_places (renamed from to) l') f ≡ false
    used f h true e = let same : f ≡ to = grind (arith, nat_tests, e) in
        ap (is_free (with_places (renamed from to) l')) same ∙ used-come l' from to n.above n.moves
    used f h false e = let a = n.above in
        free-other l' from to n.above f (grind (arith, nat_tests, h, a)) e ∙ before_to f (grind (arith, nat_tests, h, e)) (nat_lt f low) refl
      where
        before_to : (f : ℕ) → f < to → (b : Bool) → nat_lt f low ≡ b → is_free l' f ≡ false
        before_to f h true e = g.low_used f (grind (arith, nat_tests, e))
        before_to f h false e = n.least f (grind (arith, nat_tests, e)) h

    free : (f : ℕ) → from ≤ f → f < m.frames → (b : Bool) → (f == from) ≡ b → is_free (with_places (renamed from to) l') f ≡ true
    free f h k true e = let same : f ≡ from = grind (arith, nat_tests, e) in
        ap (is_free (with_places (renamed from to) l')) same ∙ free-gone l' from to n.above
    free f h k false e = let a = n.above in
        free-other l' from to n.above f e (grind (arith, nat_tests, h, a)) ∙ behind f (grind (arith, nat_tests, h, e)) k (nat_lt f past) refl
      where
        behind : (f : ℕ) → from < f → f < m.frames → (b : Bool) → nat_lt f past ≡ b → is_free l' f ≡ true
        behind f h k true e = n.greatest f h (grind (arith, nat_tests, e))
        behind f h k false e = g.high_free f (grind (arith, nat_tests, e)) k

pub going-end : (m : Setting) (l : Ledger) (before : List Note) (l' : Ledger) (now : List Note) (low past : ℕ) → Going m l before l' now low past
    → IsNext l' low past None → HasMoved m l before l' now
going-end m l before l' now low past g none = record {
  added = g.added;
  notes = g.notes;
  moves = so_far-all m l g.added g.so_far (ap (next_move m) (sym g.after)
      ∙ next-none m l' (λ f h below k free. by f h below k free (nat_lt f low) (nat_lt h past) refl refl));
  after = g.after;
}
  where
    differ : true ≡ false → ⊥
    differ e = cc

    by : (f h : ℕ) → f < h → h < m.frames → is_free l' f ≡ true → (a b : Bool) → nat_lt f low ≡ a → nat_lt h past ≡ b → is_free l' h ≡ true
    by f h below k free true b e d = absurd (differ (sym free ∙ g.low_used f (grind (arith, nat_tests, e))))
    by f h below k free false true e d = none f h (grind (arith, nat_tests, e)) below (grind (arith, nat_tests, d)) free
    by f h below k free false false e d = g.high_free h (grind (arith, nat_tests, d)) k

-- ---- the command

pub compact-only : (m : Setting) (w : World) (l : Ledger) (notes : List Note) → MovesDown m l notes
    → AnswersOnly m w l Compact (said notes) (note_events notes ++ FreeSorted ∷ [])
compact-only m w l notes moves = record {
  no_test = refl;
  only = λ es answer rows h. (
    h.3,
    h.2 ∙ ap (λ ns. note_events ns ++ FreeSorted ∷ []) (moves-one m l h.0 notes h.1 moves),
    h.4,
  );
  does = (notes, moves, refl, refl, refl);
  notes = sym (notes_of-append (note_events notes) (FreeSorted ∷ []) ∙ nil (notes_of (note_events notes)) ∙ notes_of-note_events notes);
}
  where
    nil : (xs : List Note) → xs ++ [] ≡ xs
    nil [] = refl
    nil (x ∷ xs) = ap (λ t. x ∷ t) (nil xs)

pub compact-after : (l : Ledger) (notes : List Note) → after_notes l notes ≡ after_all l (note_events notes ++ FreeSorted ∷ [])
compact-after l notes = sym (after_all-append l (note_events notes) (FreeSorted ∷ []) ∙ note_events-all l notes)
