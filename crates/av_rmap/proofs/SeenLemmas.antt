-- What clearing the seen bit makes of an entry; and whether one was seen.
use Rattle.std.proofs.Common.{◌≡◌, ℕ, Bool, true, false, not, ◌&&◌, ◌||◌, ◌==◌, Option, Some, None, refl, sym, ap, subst, ◌∙◌, IsSomeAnd, MatchBool}
use Rattle.av_pagetable.specs.declared.pte.Pte.{Pte}
use Rattle.av_pagetable.specs.declared.pte.Pte.TheVariants.{Empty, Zero, Here, Away}
use Rattle.av_vma.specs.declared.area.Area.{Area}
use Rattle.av_rmap.specs.Changed.{changed_in}
use Rattle.av_rmap.specs.Seen.{unseen, with_unseen}
use Rattle.av_rmap.specs.View.{View}
use Rattle.av_base.specs.Keys.{Key}
use Rattle.av_rmap.specs.Walk.{holds, names_frame, names_seen, page_at, passes_in}
use Rattle.av_rmap.proofs.Changes.{IsOfFrame, look-still}
use Rattle.av_rmap.proofs.LookLemmas.{finds-one}

unseen-twice : (f : ℕ) (e : Pte) → unseen f (unseen f e) ≡ unseen f e
unseen-twice f Empty = refl
unseen-twice f Zero = refl
unseen-twice f (Here other write seen) = ap (λ b. Here other write b) (both seen (not (f == other)))
  where
    both : (a b : Bool) → (a && b && b) ≡ (a && b)
    both true true = refl
    both true false = refl
    both false b = refl
unseen-twice f (Away slot) = refl

-- one that doesn't name the frame
pub unseen-other : (f : ℕ) (e : Pte) → names_frame f e ≡ false → unseen f e ≡ e
unseen-other f Empty h = refl
unseen-other f Zero h = refl
unseen-other f (Here other write seen) h = ap (λ b. Here other write (seen && not b)) h ∙ ap (λ b. Here other write b) (both seen)
  where
    both : (a : Bool) → (a && true) ≡ a
    both true = refl
    both false = refl
unseen-other f (Away slot) h = refl

pub clears : (f : ℕ) → IsOfFrame f (unseen f)
clears f = record { twice = unseen-twice f; other = unseen-other f }

-- one that isn't seen stays
pub unseen-itself : (f : ℕ) (e : Pte) → names_seen f e ≡ false → unseen f e ≡ e
unseen-itself f Empty h = refl
unseen-itself f Zero h = refl
unseen-itself f (Here other write seen) h = ap (λ b. Here other write b) (by seen (f == other) h)
  where
    by : (a b : Bool) → (b && a) ≡ false → (a && not b) ≡ a
    by true true h = sym h
    by true false h = refl
    by false b h = refl
unseen-itself f (Away slot) h = refl

-- one that stays isn't seen
still-unseen : (f : ℕ) (e : Pte) → unseen f e ≡ e → names_seen f e ≡ false
still-unseen f Empty h = refl
still-unseen f Zero h = refl
still-unseen f (Here other write seen) h = by (f == other) seen (ap seen_of h)
  where
    seen_of : Pte → Bool
    seen_of Empty = false
    seen_of Zero = false
    seen_of (Here other write seen) = seen
    seen_of (Away slot) = false

    by : (b a : Bool) → (a && not b) ≡ a → (b && a) ≡ false
    by true true h = sym h
    by true false h = refl
    by false a h = refl
still-unseen f (Away slot) h = refl

-- no entry is seen then
pub unseen-then : (f : ℕ) (e : Pte) → names_seen f (unseen f e) ≡ false
unseen-then f e = still-unseen f (unseen f e) (unseen-twice f e)

-- ---- whether one was

-- an entry of the frame is seen
abbrev pub IsSeen : View → ℕ → Type 0
IsSeen view f = (k : Key) × (names_seen f (view.entry k.0 k.1) ≡ true)

-- where a look finds none that is seen, all stays
unseen-still : (f i : ℕ) (o : Option Area) (view : View) → IsSomeAnd o (λ area. holds i area ≡ true) → passes_in view (names_seen f) i o ≡ false
    → changed_in (unseen f) i o view ≡ view
unseen-still f i None view there none = refl
unseen-still f i (Some area) view there none = look-still (unseen f) i area view (unseen-itself f (view.entry area.pid (page_at i area))
    (sym (ap (λ b. b && names_seen f (view.entry area.pid (page_at i area))) there) ∙ none))

-- one was seen, or nothing has changed: so after one more look
pub seen-so-far : (f i : ℕ) (before now new : View) (o : Option Area) (a b : Bool) → IsSomeAnd o (λ area. holds i area ≡ true)
    → b ≡ passes_in now (names_seen f) i o → new ≡ changed_in (unseen f) i o now → MatchBool a (IsSeen before f) (now ≡ before)
    → MatchBool (a || b) (IsSeen before f) (new ≡ before)
seen-so-far f i before now new o true b there told is so_far = so_far
seen-so-far f i before now new o false true there told is so_far =
    subst (λ v. IsSeen v f) so_far (finds-one now (names_seen f) i o (sym told))
seen-so-far f i before now new o false false there told is so_far = is ∙ unseen-still f i o now there (sym told) ∙ so_far

-- and from one more home
pub seen-with : (f : ℕ) (before now new : View) (a b : Bool) → MatchBool a (IsSeen before f) (now ≡ before)
    → MatchBool b (IsSeen now f) (new ≡ now) → MatchBool (a || b) (IsSeen before f) (new ≡ before)
seen-with f before now new true b so_far here = so_far
seen-with f before now new false true so_far here = subst (λ v. IsSeen v f) so_far here
seen-with f before now new false false so_far here = here ∙ so_far

-- where all are unseen and nothing has changed, none was seen
pub seen-or-none : (f : ℕ) (old new : View) (b : Bool) → new ≡ with_unseen f old → MatchBool b (IsSeen old f) (new ≡ old)
    → MatchBool b (IsSeen old f) ((process page : ℕ) → names_seen f (old.entry process page) ≡ false)
seen-or-none f old new true cleared h = h
seen-or-none f old new false cleared h = λ p page. still-unseen f (old.entry p page) (ap (λ (v : View). v.entry p page) (sym cleared ∙ h))
