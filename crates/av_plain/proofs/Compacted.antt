-- What a merge and a compaction leave: the memories; and, of a compaction, each walk, and the frames in use as the lowest.
use Rattle.std.proofs.Common.{◌≡◌, ℕ, zero, suc, ◌+◌, ◌<◌, ◌≤◌, Bool, true, false, cond, not, ◌&&◌, nat_lt, List, [], ◌∷◌, ◌++◌, filter, map, reverse, Option, Some, None, refl, sym, ap, subst, ◌∙◌, arith, ◌==◌}
use mathlib.Core.List.{reverse_aux}
use Rattle.std.proofs.lemmas.Bool.{false≢true}
use Rattle.std.proofs.lemmas.Bool.Decides.{nat_tests}
use Rattle.std.specs.List.{find, list_all, list_any, range_with_len}
use Rattle.av_base.specs.Keys.{Key}
use Rattle.av_base.specs.Words.{how_many, renamed}
use Rattle.av_trace.specs.declared.command.Command.TheVariants.{Compact, Merge}
use Rattle.av_trace.specs.declared.note.Note.{Note}
use Rattle.av_trace.specs.declared.note.Note.TheVariants.{Moved}
use Rattle.av_trace.specs.declared.reply.Answer.{Answer}
use Rattle.av_trace.specs.declared.row.Row.{Row}
use Rattle.av_plain.specs.Compact.{Compacts, IsCompacted, MovesDown, greatest_used, least_free, move_down, next_move}
use Rattle.av_plain.specs.Event.{Event, FreeSorted, Noted, after_all, after_note, after_notes, note_events, placed_entry, with_places}
use Rattle.av_plain.specs.Ledger.{Cached, Entry, InFrame, InSlot, Ledger, Setting, Zero, is_free, names_frame, walk}
use Rattle.av_plain.specs.Merge.{FrameBytes, Merges, candidate, join_notes, merge_notes, merged_like, merges, other_like, with_candidate}
use Rattle.av_plain.specs.Pass.{how_many_frames}
use Rattle.av_plain.specs.Sound.{AllSound, IsSound, no_excuse, uses}
use Rattle.av_plain.specs.Step.{next_world}
use Rattle.av_plain.specs.World.{World}
use Rattle.av_plain.proofs.Access.{after_all-append, note_events-all}
use Rattle.av_plain.proofs.Load.{loads_nothing, without-loads}
use Rattle.av_plain.proofs.Sound.Changes.{any-counts}
use Rattle.av_plain.proofs.Sound.Counts.{same-is}
use Rattle.av_plain.proofs.Sound.Frames.{IsMove, found-none, in_range-is, move-is}
use Rattle.av_plain.proofs.Sound.Pass.{count-reverse}
use Rattle.av_plain.proofs.Sound.Swap.{of-sound}
use Rattle.av_plain.proofs.Sound.Sharing.{back-again, before, differ, is-before, renamed-kept, uses-went}

-- ---- the memories

all-append : {X : Type 0} (p : X → Bool) (xs ys : List X) → list_all p xs ≡ true → list_all p ys ≡ true → list_all p (xs ++ ys) ≡ true
all-append p [] ys a b = b
all-append p (x ∷ xs) ys a b = by (p x) a (λ r. all-append p xs ys r b)
  where
    by : (c : Bool) → (c && list_all p xs) ≡ true → (list_all p xs ≡ true → list_all p (xs ++ ys) ≡ true) → (c && list_all p (xs ++ ys)) ≡ true
    by true a again = again a
    by false a again = absurd (false≢true a)

events-append : (xs ys : List Note) → note_events (xs ++ ys) ≡ note_events xs ++ note_events ys
events-append [] ys = refl
events-append (x ∷ xs) ys = ap (λ es. Noted x ∷ es) (events-append xs ys)

merges-load_nothing : (m : Setting) (held : FrameBytes) (w : World) (l : Ledger) (earlier : List ℕ) (ks : List Key)
    → list_all loads_nothing (note_events (merges m held w l earlier ks)) ≡ true
merges-load_nothing m held w l earlier [] = refl
merges-load_nothing m held w l earlier (k ∷ ks) =
    let here = merge_notes m held l earlier k (candidate w l k) in
    let rest = merges m held w (after_notes l here) (with_candidate earlier (candidate w l k)) ks in
    ap (list_all loads_nothing) (events-append here rest)
    ∙ all-append loads_nothing (note_events here) (note_events rest) (by (candidate w l k))
    (merges-load_nothing m held w (after_notes l here) (with_candidate earlier (candidate w l k)) ks)
  where
    joins : (a b : Option ℕ) → list_all loads_nothing (note_events (join_notes k a b)) ≡ true
    joins (Some g) b = refl
    joins None (Some h) = refl
    joins None None = refl

    by : (o : Option ℕ) → list_all loads_nothing (note_events (merge_notes m held l earlier k o)) ≡ true
    by None = refl
    by (Some f) = joins (merged_like m held l f) (other_like held earlier f)

-- a merge changes no world
pub merge-world : (m : Setting) (w : World) (l : Ledger) (events : List Event) (answer : Answer) (rows : List Row) → Merges m w l events answer rows
    → next_world m w l events Merge answer ≡ w
merge-world m w l events answer rows h = without-loads m w l events
    (ap (list_all loads_nothing) h.2 ∙ merges-load_nothing m h.0 w l [] (map (λ e. e.0) l.entries))

moves-load_nothing : (m : Setting) (l : Ledger) (notes : List Note) → MovesDown m l notes → list_all loads_nothing (note_events notes) ≡ true
moves-load_nothing m l [] r = refl
moves-load_nothing m l (note ∷ notes) r =
    let v = move-is m l note r.0 in
    ap (λ n. loads_nothing (Noted n) && list_all loads_nothing (note_events notes)) v.is ∙ moves-load_nothing m (after_note note l) notes r.1

-- nor does a compaction
pub compact-world : (m : Setting) (w : World) (l : Ledger) (events : List Event) (answer : Answer) (rows : List Row) → Compacts m l events answer rows
    → next_world m w l events Compact answer ≡ w
compact-world m w l events answer rows h = without-loads m w l events (ap (list_all loads_nothing) h.2
    ∙ all-append loads_nothing (note_events h.0) (FreeSorted ∷ []) (moves-load_nothing m l h.0 h.1) refl)

-- ---- one frame goes over

module _ (m : Setting) (l : Ledger) (from to : ℕ) (s : IsSound m l) (free : uses l to ≡ 0) (used : 0 < uses l from) (below : to < m.frames) where
  abbrev went : Ledger
  went = with_places (renamed from to) l

  apart : (to == from) ≡ false
  apart = differ m no_excuse l from to s free used below

  -- each walk is that of the frame it went over from
  walk-went : (g : ℕ) → (to == g) ≡ false → walk went (renamed from to g) ≡ walk l g
  walk-went g other = each l.entries (omega (arith, free))
    where
      named : (e : Entry) → names_frame to e ≡ false → names_frame (renamed from to g) (placed_entry (renamed from to) e) ≡ names_frame g e
      named Zero none = refl
      named (InSlot t) none = refl
      named (InFrame j seen) none =
          let back = back-again m no_excuse l from to s free used below g other in
          is-before from to apart (renamed from to g) j back.1 none ∙ ap (λ x. x == j) back.0

      first : (b : Bool) (n : ℕ) → cond b 1 0 + n ≡ 0 → b ≡ false
      first true n e = absurd (omega (arith, e))
      first false n e = refl

      rest : (a n : ℕ) → a + n ≡ 0 → n ≡ 0
      rest a n e = omega (arith, e)

      each : (es : List (Key × Entry)) → how_many (λ e. names_frame to e.1) es ≡ 0
          → map (λ (e : Key × Entry). e.0) (filter (λ (e : Key × Entry). names_frame (renamed from to g) e.1) (map (λ (e : Key × Entry). (e.0, placed_entry (renamed from to) e.1)) es))
          ≡ map (λ (e : Key × Entry). e.0) (filter (λ (e : Key × Entry). names_frame g e.1) es)
      each [] none = refl
      each (e ∷ es) none =
          let again = each es (rest _ _ none) in
          ap (λ b. map (λ (e : Key × Entry). e.0) (cond b ((e.0, placed_entry (renamed from to) e.1)
          ∷ filter (λ (e : Key × Entry). names_frame (renamed from to g) e.1) (map (λ (e : Key × Entry). (e.0, placed_entry (renamed from to) e.1)) es))
          (filter (λ (e : Key × Entry). names_frame (renamed from to g) e.1) (map (λ (e : Key × Entry). (e.0, placed_entry (renamed from to) e.1)) es))))
          (named e.1 (first (names_frame to e.1) _ none)) ∙ by (names_frame g e.1) again
        where
          by : (b : Bool) → map (λ (e : Key × Entry). e.0) (filter (λ (e : Key × Entry). names_frame (renamed from to g) e.1) (map (λ (e : Key × Entry). (e.0, placed_entry (renamed from to) e.1)) es))
              ≡ map (λ (e : Key × Entry). e.0) (filter (λ (e : Key × Entry). names_frame g e.1) es)
              → map (λ (e : Key × Entry). e.0) (cond b ((e.0, placed_entry (renamed from to) e.1)
              ∷ filter (λ (e : Key × Entry). names_frame (renamed from to g) e.1) (map (λ (e : Key × Entry). (e.0, placed_entry (renamed from to) e.1)) es))
              (filter (λ (e : Key × Entry). names_frame (renamed from to g) e.1) (map (λ (e : Key × Entry). (e.0, placed_entry (renamed from to) e.1)) es)))
              ≡ map (λ (e : Key × Entry). e.0) (cond b (e ∷ filter (λ (e : Key × Entry). names_frame g e.1) es) (filter (λ (e : Key × Entry). names_frame g e.1) es))
          by true h = ap (λ ks. e.0 ∷ ks) h
          by false h = h

  -- and it has as many uses
  uses-over : (g : ℕ) → (to == g) ≡ false → uses went (renamed from to g) ≡ uses l g
  uses-over g other =
      let back = back-again m no_excuse l from to s free used below g other in
      uses-went m no_excuse l from to s free used below (renamed from to g)
      ∙ ap (λ b. cond b 0 (uses l (before from to (renamed from to g)))) back.1 ∙ ap (uses l) back.0

-- ---- a compaction

-- where a frame is after some moves
abbrev pub placed_by : Note → ℕ → ℕ
placed_by (Moved from to) f = renamed from to f
placed_by note f = f

abbrev pub placed : List Note → ℕ → ℕ
placed [] f = f
placed (note ∷ notes) f = placed notes (placed_by note f)

-- each walk is that of the frame it went over from
pub moves-walks : (m : Setting) (l : Ledger) (notes : List Note) → IsSound m l → MovesDown m l notes → (f : ℕ) → 0 < uses l f
    → walk (after_notes l notes) (placed notes f) ≡ walk l f
moves-walks m l [] s r f some = refl
moves-walks m l (note ∷ notes) s r f some = by note (move-is m l note r.0) (λ s' some'. moves-walks m (after_note note l) notes s' r.1 (placed_by note f) some')
  where
    other : (to : ℕ) → uses l to ≡ 0 → (to == f) ≡ false
    other to free = by (to == f) refl
      where
        by : (b : Bool) → (to == f) ≡ b → b ≡ false
        by true is = let z = ap (uses l) (same-is to f is) in absurd (omega (arith, z, free, some))
        by false is = refl

    by : (n : Note) → IsMove m l n
        → (IsSound m (after_note n l) → 0 < uses (after_note n l) (placed_by n f) → walk (after_notes (after_note n l) notes) (placed notes (placed_by n f))
        ≡ walk (after_note n l) (placed_by n f))
        → walk (after_notes (after_note n l) notes) (placed notes (placed_by n f)) ≡ walk l f
    by n v again = moved v.from v.to v.is v.free v.used v.below
      where
        moved : (from to : ℕ) → n ≡ Moved from to → uses l to ≡ 0 → 0 < uses l from → to < m.frames
            → walk (after_notes (after_note n l) notes) (placed notes (placed_by n f)) ≡ walk l f
        moved from to is free used below =
            let u = uses-over m l from to s free used below f (other to free) in
            again (subst (λ x. IsSound m (after_note x l)) (sym is) (renamed-kept m no_excuse l from to s free used below))
            (subst (λ x. 0 < uses (after_note x l) (placed_by x f)) (sym is) (omega (arith, u, some)))
            ∙ ap (λ x. walk (after_note x l) (placed_by x f)) is ∙ walk-went m l from to s free used below f (other to free)

-- the last ledger has no frame in use above a free one
pub moves-lowest : (m : Setting) (l : Ledger) (notes : List Note) → MovesDown m l notes → next_move m (after_notes l notes) ≡ None
moves-lowest m l [] r = r
moves-lowest m l (note ∷ notes) r = moves-lowest m (after_note note l) notes r.1

-- a list has what its reverse has
in-reverse : (y : ℕ) (xs : List ℕ) → list_any (λ x. y == x) xs ≡ true → list_any (λ x. y == x) (reverse xs) ≡ true
in-reverse y xs h = any-counts (λ x. y == x) (reverse xs) ∙ ap (nat_lt 0) (count-reverse (λ x. y == x) xs [] ∙ plus_zero _)
    ∙ sym (any-counts (λ x. y == x) xs) ∙ h
  where
    plus_zero : (a : ℕ) → a + 0 ≡ a
    plus_zero a = omega arith

-- the least that passes
find-least : (p : ℕ → Bool) (a n : ℕ) (y x : ℕ) → find p (range_with_len a n) ≡ Some y → p x ≡ true → a ≤ x → y ≤ x
find-least p a zero y x is passes low = cc
find-least p a (suc n) y x is passes low = by (λ e l. find-least p (a + 1) n y x e passes l) (p a) refl is
  where
    by : (find p (range_with_len (a + 1) n) ≡ Some y → a + 1 ≤ x → y ≤ x) → (b : Bool) → p a ≡ b
        → cond b (Some a) (find p (range_with_len (a + 1) n)) ≡ Some y → y ≤ x
    by again true at e = let same : a ≡ y = cc in omega (arith, same, low)
    by again false at e = again e (above (x == a) refl)
      where
        above : (c : Bool) → (x == a) ≡ c → a + 1 ≤ x
        above true i = absurd (false≢true (sym at ∙ ap p (sym (same-is x a i)) ∙ passes))
        above false i = grind (arith, nat_tests, i, low)

-- and the greatest
floor-reverse : (p : ℕ → Bool) (a c n : ℕ) (ys : List ℕ) → a ≤ c → ((b : ℕ) → find p ys ≡ Some b → a ≤ b) → (b : ℕ)
    → find p (reverse_aux (range_with_len c n) ys) ≡ Some b → a ≤ b
floor-reverse p a c zero ys low first b is = first b is
floor-reverse p a c (suc n) ys low first b is = floor-reverse p a (c + 1) n (c ∷ ys) (omega (arith, low)) (λ b e. by b (p c) e) b is
  where
    by : (b : ℕ) (d : Bool) → cond d (Some c) (find p ys) ≡ Some b → a ≤ b
    by b true e = let same : c ≡ b = cc in omega (arith, same, low)
    by b false e = first b e

find-greatest : (p : ℕ → Bool) (a n : ℕ) (ys : List ℕ) (y x : ℕ) → find p (reverse_aux (range_with_len a n) ys) ≡ Some y → p x ≡ true → a ≤ x → x < a + n
    → x ≤ y
find-greatest p a zero ys y x is passes low high = absurd (omega (arith, low, high))
find-greatest p a (suc n) ys y x is passes low high =
    by (λ l h. find-greatest p (a + 1) n (a ∷ ys) y x is passes l h) (x == a) refl
  where
    by : (a + 1 ≤ x → x < (a + 1) + n → x ≤ y) → (b : Bool) → (x == a) ≡ b → x ≤ y
    by again true i =
        let same = same-is x a i in
        let here : p a ≡ true = ap p (sym same) ∙ passes in
        let floor = floor-reverse p a (a + 1) n (a ∷ ys) (omega arith) (λ b e. at b (p a) here e) y is in omega (arith, same, floor)
      where
        at : (b : ℕ) (d : Bool) → d ≡ true → cond d (Some a) (find p ys) ≡ Some b → a ≤ b
        at b true t e = let same : a ≡ b = cc in omega (arith, same)
        at b false t e = absurd (false≢true t)
    by again false i = again (grind (arith, nat_tests, i, low)) (omega (arith, high))

-- where no move is left, no frame of the machine is in use above one that is free
pub low-closed : (m : Setting) (l : Ledger) → next_move m l ≡ None → (f g : ℕ) → is_free l f ≡ true → f ≤ g → g < m.frames → is_free l g ≡ true
low-closed m l none f g free order below = by (is_free l g) refl
  where
    passes : (b : Bool) → is_free l g ≡ b → b ≡ false → not (is_free l g) ≡ true
    passes b e f = ap not (e ∙ f)

    by : (b : Bool) → is_free l g ≡ b → b ≡ true
    by true is = refl
    by false is = absurd (goes (least_free m l) refl (greatest_used m l) refl none)
      where
        used : not (is_free l g) ≡ true
        used = ap not is

        goes : (a : Option ℕ) → least_free m l ≡ a → (b : Option ℕ) → greatest_used m l ≡ b → move_down a b ≡ None → ⊥
        goes None at b at' e = false≢true (sym (found-none (is_free l) (range_with_len 0 m.frames) at f
            (in_range-is 0 m.frames f (omega arith) (omega (arith, order, below)))) ∙ free)
        goes (Some x) at None at' e = false≢true (sym (found-none (λ f. not (is_free l f)) (reverse (range_with_len 0 m.frames)) at' g
            (in-reverse g (range_with_len 0 m.frames) (in_range-is 0 m.frames g (omega arith) (omega (arith, below))))) ∙ used)
        goes (Some x) at (Some y) at' e =
            let least = find-least (is_free l) 0 m.frames x f at free (omega arith) in
            let greatest = find-greatest (λ f. not (is_free l f)) 0 m.frames [] y g at' used (omega arith) (omega (arith, below)) in
            lower (nat_lt x y) refl e least greatest
          where
            differs : (f == g) ≡ false
            differs = same (f == g) refl
              where
                same : (b : Bool) → (f == g) ≡ b → b ≡ false
                same true i = absurd (false≢true (sym is ∙ ap (is_free l) (sym (same-is f g i)) ∙ free))
                same false i = refl

            lower : (b : Bool) → nat_lt x y ≡ b → cond b (Some (Moved y x)) None ≡ None → x ≤ f → g ≤ y → ⊥
            lower true i e a b = cc
            lower false i e a b = grind (arith, nat_tests, i, a, b, order, differs)

-- ---- as many as are in use

none-pass : (p : ℕ → Bool) (a n : ℕ) → ((f : ℕ) → a ≤ f → f < a + n → p f ≡ false) → how_many p (range_with_len a n) ≡ 0
none-pass p a zero h = refl
none-pass p a (suc n) h = λ i. cond (h a (omega arith) (omega arith) i) 1 0 + none-pass p (a + 1) n (λ f low high. h f (omega (arith, low)) (omega (arith, high))) i

closed-count : (p : ℕ → Bool) (a n : ℕ) → ((f g : ℕ) → a ≤ f → f ≤ g → g < a + n → p g ≡ true → p f ≡ true) → (f : ℕ) → a ≤ f → f < a + n
    → p f ≡ nat_lt f (a + how_many p (range_with_len a n))
closed-count p a zero closed f low high = absurd (omega (arith, low, high))
closed-count p a (suc n) closed f low high =
    by (λ l h. closed-count p (a + 1) n (λ f g low order high. closed f g (omega (arith, low)) order (omega (arith, high))) f l h) (p a) refl
  where
    moved : (c k : ℕ) → k ≡ 1 + c → nat_lt f ((a + 1) + c) ≡ nat_lt f (a + k)
    moved c k e = grind (arith, nat_tests, e)

    by : (a + 1 ≤ f → f < (a + 1) + n → p f ≡ nat_lt f ((a + 1) + how_many p (range_with_len (a + 1) n))) → (b : Bool) → p a ≡ b
        → p f ≡ nat_lt f (a + (cond b 1 0 + how_many p (range_with_len (a + 1) n)))
    by again true is = here (f == a) refl
      where
        here : (c : Bool) → (f == a) ≡ c → p f ≡ nat_lt f (a + (1 + how_many p (range_with_len (a + 1) n)))
        here true i = ap p (same-is f a i) ∙ is ∙ sym (grind (arith, nat_tests, i))
        here false i = again (grind (arith, nat_tests, i, low)) (omega (arith, high)) ∙ moved _ _ refl
    by again false is = none f low high ∙ sym (small (none-pass p (a + 1) n (λ g l h. none g (omega (arith, l)) (omega (arith, h)))))
      where
        none : (g : ℕ) → a ≤ g → g < a + suc n → p g ≡ false
        none g l h = not_passes (p g) refl
          where
            not_passes : (b : Bool) → p g ≡ b → b ≡ false
            not_passes true e = absurd (false≢true (sym is ∙ closed a g (omega arith) l h e))
            not_passes false e = refl

        small : {c : ℕ} → c ≡ 0 → nat_lt f (a + (0 + c)) ≡ false
        small e = grind (arith, nat_tests, e, low)

-- after a compaction a frame of the machine is in use where its number is below theirs
pub lowest-used : (m : Setting) (l : Ledger) → next_move m l ≡ None → (f : ℕ) → f < m.frames
    → not (is_free l f) ≡ nat_lt f (how_many_frames m (λ g. not (is_free l g)))
lowest-used m l none f below = closed-count (λ g. not (is_free l g)) 0 m.frames closed f (omega arith) (omega (arith, below)) ∙ drop _
  where
    drop : (n : ℕ) → nat_lt f (0 + n) ≡ nat_lt f n
    drop n = grind (arith, nat_tests)

    closed : (f g : ℕ) → 0 ≤ f → f ≤ g → g < 0 + m.frames → not (is_free l g) ≡ true → not (is_free l f) ≡ true
    closed f g low order high used = by (is_free l f) refl
      where
        by : (b : Bool) → is_free l f ≡ b → not b ≡ true
        by false is = refl
        by true is = absurd (false≢true (ap not (sym (low-closed m l none f g is order (omega (arith, high)))) ∙ used))

-- ---- the whole

-- places one after the other
map-twice : {X Y Z : Type 0} (g : Y → Z) (f : X → Y) (xs : List X) → map g (map f xs) ≡ map (λ x. g (f x)) xs
map-twice g f [] = refl
map-twice g f (x ∷ xs) = ap (λ ys. g (f x) ∷ ys) (map-twice g f xs)

map-each : {X Y : Type 0} (f g : X → Y) (xs : List X) → ((x : X) → f x ≡ g x) → map f xs ≡ map g xs
map-each f g [] h = refl
map-each f g (x ∷ xs) h = λ i. h x i ∷ map-each f g xs h i

map-itself : {X : Type 0} (f : X → X) (xs : List X) → ((x : X) → f x ≡ x) → map f xs ≡ xs
map-itself f [] h = refl
map-itself f (x ∷ xs) h = λ i. h x i ∷ map-itself f xs h i

placed-twice : (p q : ℕ → ℕ) (e : Entry) → placed_entry p (placed_entry q e) ≡ placed_entry (λ f. p (q f)) e
placed-twice p q Zero = refl
placed-twice p q (InFrame f seen) = refl
placed-twice p q (InSlot s) = refl

placed-itself : (e : Entry) → placed_entry (λ f. f) e ≡ e
placed-itself Zero = refl
placed-itself (InFrame f seen) = refl
placed-itself (InSlot s) = refl

places-twice : (p q : ℕ → ℕ) (l : Ledger) → with_places p (with_places q l) ≡ with_places (λ f. p (q f)) l
places-twice p q l = λ i. record l {
  entries = (map-twice (λ (e : Key × Entry). (e.0, placed_entry p e.1)) (λ (e : Key × Entry). (e.0, placed_entry q e.1)) l.entries
      ∙ map-each (λ (e : Key × Entry). (e.0, placed_entry p (placed_entry q e.1))) (λ (e : Key × Entry). (e.0, placed_entry (λ f. p (q f)) e.1)) l.entries
      (λ e j. (e.0, placed-twice p q e.1 j))) i;
  cache = map-twice (λ (c : Cached). record c { frame = p c.frame }) (λ (c : Cached). record c { frame = q c.frame }) l.cache i;
  active = map-twice p q l.active i;
  inactive = map-twice p q l.inactive i;
  merged = map-twice p q l.merged i;
}

places-itself : (l : Ledger) → l ≡ with_places (λ f. f) l
places-itself l = sym (λ i. record l {
  entries = map-itself (λ (e : Key × Entry). (e.0, placed_entry (λ f. f) e.1)) l.entries (λ e j. (e.0, placed-itself e.1 j)) i;
  cache = map-itself (λ (c : Cached). record c { frame = c.frame }) l.cache (λ c. refl) i;
  active = map-itself (λ f. f) l.active (λ f. refl) i;
  inactive = map-itself (λ f. f) l.inactive (λ f. refl) i;
  merged = map-itself (λ f. f) l.merged (λ f. refl) i;
})

-- all goes along
moves-go : (m : Setting) (l : Ledger) (notes : List Note) → MovesDown m l notes → after_notes l notes ≡ with_places (placed notes) l
moves-go m l [] r = places-itself l
moves-go m l (note ∷ notes) r = moves-go m (after_note note l) notes r.1 ∙ by note (move-is m l note r.0)
  where
    by : (n : Note) → IsMove m l n → with_places (placed notes) (after_note n l) ≡ with_places (λ f. placed notes (placed_by n f)) l
    by n v = subst (λ n. with_places (placed notes) (after_note n l) ≡ with_places (λ f. placed notes (placed_by n f)) l) (sym v.is)
        (places-twice (placed notes) (renamed v.from v.to) l)

-- a frame in use isn't where one goes
used-apart : (l : Ledger) (to f : ℕ) → uses l to ≡ 0 → 0 < uses l f → (to == f) ≡ false
used-apart l to f free some = by (to == f) refl
  where
    by : (b : Bool) → (to == f) ≡ b → b ≡ false
    by true is = let z = ap (uses l) (same-is to f is) in absurd (omega (arith, z, free, some))
    by false is = refl

renamed-apart : (from to f g : ℕ) → (to == f) ≡ false → (to == g) ≡ false → renamed from to f ≡ renamed from to g → f ≡ g
renamed-apart from to f g a b same = by (f == from) refl (g == from) refl same
  where
    by : (x : Bool) → (f == from) ≡ x → (y : Bool) → (g == from) ≡ y → cond x to f ≡ cond y to g → f ≡ g
    by true i true j e = grind (arith, nat_tests, i, j)
    by true i false j e = grind (arith, nat_tests, b, e)
    by false i true j e = grind (arith, nat_tests, a, e)
    by false i false j e = e

-- a frame in use is so at its place
move-used : (m : Setting) (l : Ledger) (n : Note) → IsSound m l → IsMove m l n → (f : ℕ) → 0 < uses l f → 0 < uses (after_note n l) (placed_by n f)
move-used m l n s v f some = subst (λ x. 0 < uses (after_note x l) (placed_by x f)) (sym v.is)
    (let u = uses-over m l v.from v.to s v.free v.used v.below f (used-apart l v.to f v.free some) in omega (arith, u, some))

-- each has a place of its own
moves-apart : (m : Setting) (l : Ledger) (notes : List Note) → IsSound m l → MovesDown m l notes → (f g : ℕ) → 0 < uses l f → 0 < uses l g
    → placed notes f ≡ placed notes g → f ≡ g
moves-apart m l [] s r f g at_f at_g same = same
moves-apart m l (note ∷ notes) s r f g at_f at_g same =
    let v = move-is m l note r.0 in
    before v (moves-apart m (after_note note l) notes
    (subst (λ x. IsSound m (after_note x l)) (sym v.is) (renamed-kept m no_excuse l v.from v.to s v.free v.used v.below)) r.1
    (placed_by note f) (placed_by note g) (move-used m l note s v f at_f) (move-used m l note s v g at_g) same)
  where
    before : IsMove m l note → placed_by note f ≡ placed_by note g → f ≡ g
    before v e = renamed-apart v.from v.to f g (used-apart l v.to f v.free at_f) (used-apart l v.to g v.free at_g)
        (subst (λ n. placed_by n f ≡ placed_by n g) v.is e)

pub compact-lowest : (m : Setting) (w : World) (l : Ledger) (events : List Event) (answer : Answer) (rows : List Row) → AllSound m w l
    → Compacts m l events answer rows → IsCompacted m l (after_all l events)
compact-lowest m w l events answer rows s h = subst (λ es. IsCompacted m l (after_all l es)) (sym h.2)
    (subst (IsCompacted m l) (sym (after_all-append l (note_events h.0) (FreeSorted ∷ []) ∙ note_events-all l h.0)) (record {
      place = placed h.0;
      goes = moves-go m l h.0 h.1;
      apart = moves-apart m l h.0 (of-sound m w l s).sound h.1;
      walks = moves-walks m l h.0 (of-sound m w l s).sound h.1;
      lowest = lowest-used m (after_notes l h.0) (moves-lowest m l h.0 h.1);
    }))
