-- A frame with a mark stays unseen.
use Rattle.std.proofs.Common.{◌≡◌, ℕ, ◌+◌, ◌-◌, ◌<◌, ◌≤◌, arith, get_or, inl, inr, length, Bool, true, false, cond, not, ◌&&◌, ◌==◌, List, Result, Ok, Err, MatchResult, refl, sym, ap, ◌∙◌}
use Rattle.std.proofs.lemmas.Bool.{cases_lt, false≢true}
use Rattle.av_base.specs.Words.{with_at, within}
use Rattle.av_pagetable.specs.declared.pte.Pte.{Pte}
use Rattle.av_pagetable.specs.declared.pte.Pte.TheVariants.{Empty, Zero, Here, Away}
use Rattle.av_pagetable.specs.Entries.{with_entry}
use Rattle.av_pagetable.specs.Seen.{AreUnseen, is_marked, names_seen}
use Rattle.av_pagetable.specs.Table.{child_entry, given_or, read_only, with_run, without_range}
use Rattle.av_pagetable.proofs.SetRun.{behind, below, inside}

-- ---- entries

pub unseen-read_only : (f : ℕ) (e : Pte) → names_seen f (read_only e) ≡ names_seen f e
unseen-read_only f Empty = refl
unseen-read_only f Zero = refl
unseen-read_only f (Here g write seen) = refl
unseen-read_only f (Away slot) = refl

pub unseen-child : (f : ℕ) (e : Pte) → names_seen f (child_entry e) ≡ false
unseen-child f Empty = refl
unseen-child f Zero = refl
unseen-child f (Here g write seen) = none (f == g)
  where
    none : (b : Bool) → (b && false) ≡ false
    none true = refl
    none false = refl
unseen-child f (Away slot) = refl

pub unseen-ranged : (f from past : ℕ) (table : ℕ → Pte) (page : ℕ) → names_seen f (table page) ≡ false
    → names_seen f (without_range from past table page) ≡ false
unseen-ranged f from past table page unseen = by (within from (past - from) page)
  where
    by : (b : Bool) → names_seen f (cond b Empty (table page)) ≡ false
    by true = refl
    by false = unseen

unseen-given : (f : ℕ) (e own : Pte) → names_seen f e ≡ false → names_seen f own ≡ false → names_seen f (given_or e own) ≡ false
unseen-given f Empty own given kept = kept
unseen-given f Zero own given kept = refl
unseen-given f (Here g write seen) own given kept = given
unseen-given f (Away slot) own given kept = refl

pub unseen-run : (f from n : ℕ) (run : List Pte) (table : ℕ → Pte) (page : ℕ) → n ≤ length run
    → ((i : ℕ) → i < length run → names_seen f (get_or run i Empty) ≡ false) → names_seen f (table page) ≡ false
    → names_seen f (with_run from n run table page) ≡ false
unseen-run f from n run table page few given kept = elim (cases_lt page from) [
  | inl lt ↦ ap (names_seen f) (below from n run table page lt) ∙ kept
  | inr ge ↦ elim (cases_lt page (from + n)) [
    | inl lt ↦ ap (names_seen f) (inside from n run table page ge lt)
        ∙ unseen-given f (get_or run (page - from) Empty) (table page) (given (page - from) (omega (arith, few, ge, lt))) kept
    | inr high ↦ ap (names_seen f) (behind from n run table page high) ∙ kept
  ]
]

-- ---- marks

both : (a b : Bool) → (a && not b) ≡ true → (a ≡ true) × (b ≡ false)
both true true h = absurd (false≢true h)
both true false h = (refl, refl)
both false b h = absurd (false≢true h)

module _ (old : ℕ → ℕ → Pte) (marks : List Bool) (unseen : AreUnseen old marks) where
  -- an entry is written
  pub unseen-written : (new : ℕ → ℕ → Pte) (left : List Bool) (p page : ℕ) (e : Pte)
      → ((f : ℕ) → is_marked left f ≡ (is_marked marks f && not (names_seen f e)))
      → new ≡ with_entry p page e old → AreUnseen new left
  unseen-written new left p page e are is f marked q o =
      ap (λ (t : ℕ → ℕ → Pte). names_seen f (t q o)) is ∙ by (q == p && o == page)
    where
      was : (is_marked marks f ≡ true) × (names_seen f e ≡ false)
      was = both (is_marked marks f) (names_seen f e) (sym (are f) ∙ marked)

      by : (b : Bool) → names_seen f (cond b e (old q o)) ≡ false
      by true = was.1
      by false = unseen f was.0 q o

  -- or none is, though a mark may go
  pub unseen-left : (new : ℕ → ℕ → Pte) (left : List Bool) (e : Pte)
      → ((f : ℕ) → is_marked left f ≡ (is_marked marks f && not (names_seen f e)))
      → new ≡ old → AreUnseen new left
  unseen-left new left e are is f marked q o =
      ap (λ (t : ℕ → ℕ → Pte). names_seen f (t q o)) is
      ∙ unseen f (both (is_marked marks f) (names_seen f e) (sym (are f) ∙ marked)).0 q o

  pub unseen-maybe_written : {A E : Type 0} (r : Result A E) (new : ℕ → ℕ → Pte) (left : List Bool) (p page : ℕ) (e : Pte)
      → ((f : ℕ) → is_marked left f ≡ (is_marked marks f && not (names_seen f e)))
      → MatchResult r (λ _. new ≡ with_entry p page e old) (λ _. new ≡ old) → AreUnseen new left
  unseen-maybe_written (Ok x) new left p page e = unseen-written new left p page e
  unseen-maybe_written (Err x) new left p page e = unseen-left new left e

  -- the entries of a process change, and none becomes seen
  pub unseen-table : (new : ℕ → ℕ → Pte) (p : ℕ) (table : ℕ → Pte) → new ≡ with_at p table old
      → ((f : ℕ) → is_marked marks f ≡ true → (o : ℕ) → names_seen f (table o) ≡ false) → AreUnseen new marks
  unseen-table new p table is none f marked q o = ap (λ (t : ℕ → ℕ → Pte). names_seen f (t q o)) is ∙ by (q == p)
    where
      by : (b : Bool) → names_seen f (cond b table (old q) o) ≡ false
      by true = none f marked o
      by false = unseen f marked q o

  pub unseen-same : (new : ℕ → ℕ → Pte) → new ≡ old → AreUnseen new marks
  unseen-same new is f marked q o = ap (λ (t : ℕ → ℕ → Pte). names_seen f (t q o)) is ∙ unseen f marked q o
