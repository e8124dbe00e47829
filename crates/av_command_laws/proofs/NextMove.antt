-- What the definitions say of the next move, by which frames are free.
use Rattle.std.proofs.Common.{◌≡◌, ℕ, zero, suc, ◌+◌, ◌<◌, ◌≤◌, Bool, true, false, cond, not, nat_lt, List, [], ◌∷◌, ◌++◌, reverse, Option, Some, None, refl, sym, ap, ◌∙◌, arith, ◌==◌}
use mathlib.Core.List.{reverse_aux}
use Rattle.std.proofs.lemmas.Bool.{false≢true}
use Rattle.std.proofs.lemmas.Bool.Decides.{nat_tests}
use Rattle.std.specs.List.{find, list_any, range_with_len}
use Rattle.av_trace.specs.declared.note.Note.{Note}
use Rattle.av_trace.specs.declared.note.Note.TheVariants.{Moved}
use Rattle.av_plain.specs.Compact.{MovesDown, greatest_used, least_free, move_down, next_move}
use Rattle.av_plain.specs.Event.{after_note, after_notes}
use Rattle.av_plain.specs.Ledger.{Ledger, Setting, is_free}
use Rattle.av_plain.proofs.Sound.Changes.{any-counts}
use Rattle.av_plain.proofs.Sound.Counts.{same-is}
use Rattle.av_plain.proofs.Sound.Frames.{found-is, range-below}
use Rattle.av_plain.proofs.Sound.Pass.{count-reverse}

-- ---- the first and the last of a range

pub find-first : (p : ℕ → Bool) (a n y : ℕ) → a ≤ y → y < a + n → p y ≡ true → ((x : ℕ) → a ≤ x → x < y → p x ≡ false)
    → find p (range_with_len a n) ≡ Some y
find-first p a zero y low high is none = absurd (omega (arith, low, high))
find-first p a (suc n) y low high is none = by (a == y) refl
    (λ low'. find-first p (a + 1) n y low' (omega (arith, high)) is (λ x l h. none x (omega (arith, l)) h))
  where
    by : (b : Bool) → (a == y) ≡ b → (a + 1 ≤ y → find p (range_with_len (a + 1) n) ≡ Some y)
        → cond (p a) (Some a) (find p (range_with_len (a + 1) n)) ≡ Some y
    by true e later = let same = same-is a y e in
        ap (λ b. cond b (Some a) (find p (range_with_len (a + 1) n))) (ap p same ∙ is) ∙ ap Some same
    by false e later = ap (λ b. cond b (Some a) (find p (range_with_len (a + 1) n))) (none a (omega arith) (grind (arith, nat_tests, e, low)))
        ∙ later (grind (arith, nat_tests, e, low))

-- none of a range passes
pub find-nothing : (p : ℕ → Bool) (a n : ℕ) → ((x : ℕ) → a ≤ x → x < a + n → p x ≡ false) → find p (range_with_len a n) ≡ None
find-nothing p a zero none = refl
find-nothing p a (suc n) none = ap (λ b. cond b (Some a) (find p (range_with_len (a + 1) n))) (none a (omega arith) (omega arith))
    ∙ find-nothing p (a + 1) n (λ x l h. none x (omega (arith, l)) (omega (arith, h)))

none-above : (p : ℕ → Bool) (a n : ℕ) (ys : List ℕ) → ((x : ℕ) → a ≤ x → x < a + n → p x ≡ false)
    → find p (reverse_aux (range_with_len a n) ys) ≡ find p ys
none-above p a zero ys none = refl
none-above p a (suc n) ys none = none-above p (a + 1) n (a ∷ ys) (λ x l h. none x (omega (arith, l)) (omega (arith, h)))
    ∙ ap (λ b. cond b (Some a) (find p ys)) (none a (omega arith) (omega arith))

find-last : (p : ℕ → Bool) (a n : ℕ) (ys : List ℕ) (y : ℕ) → a ≤ y → y < a + n → p y ≡ true
    → ((x : ℕ) → y < x → x < a + n → p x ≡ false) → find p (reverse_aux (range_with_len a n) ys) ≡ Some y
find-last p a zero ys y low high is none = absurd (omega (arith, low, high))
find-last p a (suc n) ys y low high is none = by (a == y) refl
    (λ low'. find-last p (a + 1) n (a ∷ ys) y low' (omega (arith, high)) is (λ x l h. none x l (omega (arith, h))))
  where
    by : (b : Bool) → (a == y) ≡ b → (a + 1 ≤ y → find p (reverse_aux (range_with_len (a + 1) n) (a ∷ ys)) ≡ Some y)
        → find p (reverse_aux (range_with_len (a + 1) n) (a ∷ ys)) ≡ Some y
    by true e later = let same = same-is a y e in
        none-above p (a + 1) n (a ∷ ys) (λ x l h. none x (omega (arith, l, same)) (omega (arith, h)))
        ∙ ap (λ b. cond b (Some a) (find p ys)) (ap p same ∙ is) ∙ ap Some same
    by false e later = later (grind (arith, nat_tests, e, low))

-- ---- the next move

pub next-some : (m : Setting) (l : Ledger) (from to : ℕ) → to < from → from < m.frames → is_free l to ≡ true → is_free l from ≡ false
    → ((f : ℕ) → f < to → is_free l f ≡ false) → ((f : ℕ) → from < f → f < m.frames → is_free l f ≡ true)
    → next_move m l ≡ Some (Moved from to)
next-some m l from to above below free used least greatest = (λ i. move_down (first i) (last i)) ∙ by (nat_lt to from) (grind (arith, nat_tests, above))
  where
    first : least_free m l ≡ Some to
    first = find-first (is_free l) 0 m.frames to (omega arith) (omega (arith, above, below)) free (λ x l h. least x h)

    last : greatest_used m l ≡ Some from
    last = find-last (λ f. not (is_free l f)) 0 m.frames [] from (omega arith) (omega (arith, below)) (ap not used)
        (λ x l h. ap not (greatest x l (omega (arith, h))))

    by : (b : Bool) → b ≡ true → cond b (Some (Moved from to)) None ≡ Some (Moved from to)
    by true e = refl
    by false e = absurd (false≢true e)

-- where no frame in use stands above a free one, there is none
pub next-none : (m : Setting) (l : Ledger) → ((f g : ℕ) → f < g → g < m.frames → is_free l f ≡ true → is_free l g ≡ true)
    → next_move m l ≡ None
next-none m l closed = by (least_free m l) refl (greatest_used m l) refl
  where
    in-range : (y : ℕ) (xs : List ℕ) → list_any (λ x. y == x) (reverse xs) ≡ true → list_any (λ x. y == x) xs ≡ true
    in-range y xs h = any-counts (λ x. y == x) xs ∙ ap (nat_lt 0) (sym (count-reverse (λ x. y == x) xs [] ∙ plus_zero _))
        ∙ sym (any-counts (λ x. y == x) (reverse xs)) ∙ h
      where
        plus_zero : (a : ℕ) → a + 0 ≡ a
        plus_zero a = omega arith

    by : (a : Option ℕ) → least_free m l ≡ a → (b : Option ℕ) → greatest_used m l ≡ b → move_down a b ≡ None
    by None is b is' = refl
    by (Some f) is None is' = refl
    by (Some f) is (Some g) is' = lower (nat_lt f g) refl
      where
        low : is_free l f ≡ true
        low = (found-is (is_free l) (range_with_len 0 m.frames) f is).0

        high : (not (is_free l g) ≡ true) × (list_any (λ x. g == x) (reverse (range_with_len 0 m.frames)) ≡ true)
        high = found-is (λ f. not (is_free l f)) (reverse (range_with_len 0 m.frames)) g is'

        lower : (b : Bool) → nat_lt f g ≡ b → cond b (Some (Moved g f)) None ≡ None
        lower false e = refl
        lower true e = let r = range-below 0 m.frames g (in-range g (range_with_len 0 m.frames) high.1) in
            absurd (false≢true (ap not (sym (closed f g (grind (arith, nat_tests, e)) (omega (arith, r)) low)) ∙ high.0))

-- ---- one after the other

-- so far each was the next
abbrev pub MovesSoFar : Setting → Ledger → List Note → Type 0
MovesSoFar m l [] = Unit {0}
MovesSoFar m l (note ∷ notes) = (next_move m l ≡ Some note) × MovesSoFar m (after_note note l) notes

pub so_far-more : (m : Setting) (l : Ledger) (notes : List Note) (note : Note) → MovesSoFar m l notes
    → next_move m (after_notes l notes) ≡ Some note → MovesSoFar m l (notes ++ note ∷ [])
so_far-more m l [] note h next = (next, tt)
so_far-more m l (x ∷ xs) note h next = (h.0, so_far-more m (after_note x l) xs note h.1 next)

pub so_far-all : (m : Setting) (l : Ledger) (notes : List Note) → MovesSoFar m l notes → next_move m (after_notes l notes) ≡ None
    → MovesDown m l notes
so_far-all m l [] h none = none
so_far-all m l (x ∷ xs) h none = (h.0, so_far-all m (after_note x l) xs h.1 none)
