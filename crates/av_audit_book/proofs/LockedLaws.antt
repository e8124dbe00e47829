-- The frames of locked pages are those of the definitions.
use Rattle.std.proofs.Common.{◌≡◌, inl, inr, ℕ, ◌<◌, ◌≤◌, Bool, true, false, cond, ◌&&◌, ◌||◌, ◌==◌, List, []}
use Rattle.std.proofs.Common.{◌∷◌, map, filter, None, Some, nat_le, nat_lt, refl, sym, ap, subst, ◌∙◌, arith}
use Rattle.std.specs.List.{list_any}
use Rattle.std.specs.Ordering.{nat_cmp}
use Rattle.std.specs.BTreeMap.{is_at}
use Rattle.std.specs.BTreeMap.Range.{range_contains}
use Rattle.std.specs.BTreeSet.{BTreeSet, contains}
use Rattle.std.specs.declared.ops.Bound.TheVariants.{Included, Excluded}
use Rattle.std.proofs.lemmas.Bool.{cases_lt, eqb-true}
use Rattle.std.proofs.lemmas.Bool.Decides.{nat_tests}
use Rattle.av_base.specs.Keys.{Key, key_cmp}
use Rattle.av_base.specs.Words.{is_in}
use Rattle.av_plain.specs.Ledger.{Entry as PlainEntry, names_frame}
use Rattle.av_audit_pages.specs.Entries.{entries_of, entry_of}
use Rattle.av_audit_pages.specs.declared.entries.Entry.{Entry}
use Rattle.av_audit_pages.specs.declared.entries.Entry.TheVariants.{Zero, InFrame, InSlot}
use Rattle.av_audit_world.specs.Locks.{IsFirstRun, locks_page}
use Rattle.av_audit_world.specs.declared.memories.Memories.{Memories}
use Rattle.av_audit_world.proofs.KeptLaws.{same-key}
use Rattle.av_audit_book.specs.Book.{ledger_of}
use Rattle.av_audit_book.specs.Locked.{frames_of, has_frame}
use Rattle.av_audit_book.specs.Spared.{is_locked_by}
use Rattle.av_audit_book.specs.declared.book.Book.{Book}

-- ---- entries by a test of their keys

-- the frames of those that pass
frames-in : (test : Key → Bool) (f : ℕ) (es : List (Key × Entry))
    → is_in f (frames_of (filter (λ (e : Key × Entry). test e.0) es)) ≡ has_frame test f es
frames-in test f [] = refl
frames-in test f (e ∷ es) = by (test e.0) e.1 (frames-in test f es)
  where
    by : (b : Bool) (x : Entry) → is_in f (frames_of (filter (λ (e : Key × Entry). test e.0) es)) ≡ has_frame test f es
        → is_in f (frames_of (cond b ((e.0, x) ∷ filter (λ (e : Key × Entry). test e.0) es) (filter (λ (e : Key × Entry). test e.0) es)))
        ≡ (b && names_frame f (entry_of x) || has_frame test f es)
    by true Zero later = later
    by true (InFrame g seen) later = ap (λ b. f == g || b) later
    by true (InSlot s) later = later
    by false x later = later

either-bit : (a b n x y : Bool) → ((a && n || x) || (b && n || y)) ≡ ((a || b) && n || (x || y))
either-bit true true true x y = refl
either-bit true true false x y = refl
either-bit true false true x y = refl
either-bit true false false x y = refl
either-bit false true true true y = refl
either-bit false true true false y = refl
either-bit false true false x y = refl
either-bit false false n x y = refl

-- those that pass one test or the other
either : (a b : Key → Bool) (f : ℕ) (es : List (Key × Entry))
    → (has_frame a f es || has_frame b f es) ≡ has_frame (λ k. a k || b k) f es
either a b f [] = refl
either a b f (e ∷ es) = either-bit (a e.0) (b e.0) (names_frame f (entry_of e.1)) (has_frame a f es) (has_frame b f es)
    ∙ ap (λ x. (a e.0 || b e.0) && names_frame f (entry_of e.1) || x) (either a b f es)

-- none passes
nothing : (f : ℕ) (es : List (Key × Entry)) → has_frame (λ k. false) f es ≡ false
nothing f [] = refl
nothing f (e ∷ es) = nothing f es

or-assoc : (a b c : Bool) → ((a || b) || c) ≡ (a || (b || c))
or-assoc true b c = refl
or-assoc false b c = refl

-- frames are added, and so more keys are done
added : (a b c : Key → Bool) (f : ℕ) (es : List (Key × Entry)) (was now before : Bool) → was ≡ (before || has_frame a f es)
    → now ≡ (was || has_frame b f es) → ((k : Key) → (a k || b k) ≡ c k) → now ≡ (before || has_frame c f es)
added a b c f es was now before h g same = g ∙ ap (λ x. x || has_frame b f es) h ∙ or-assoc before (has_frame a f es) (has_frame b f es)
    ∙ ap (λ x. before || x) (either a b f es ∙ (λ i. has_frame (λ k. same k i) f es))

-- the walk of a frame has a key that passes where an entry of one names it
walk-passes : (t : Key → Bool) (es : List (Key × Entry)) (f : ℕ) → has_frame t f es
    ≡ list_any t (map (λ e. e.0) (filter (λ (e : Key × PlainEntry). names_frame f e.1) (entries_of es)))
walk-passes t [] f = refl
walk-passes t (e ∷ es) f = by (t e.0) (names_frame f (entry_of e.1)) refl (walk-passes t es f)
  where
    rest : List (Key × PlainEntry)
    rest = filter (λ (e : Key × PlainEntry). names_frame f e.1) (entries_of es)

    by : (passes named : Bool) → t e.0 ≡ passes → has_frame t f es ≡ list_any t (map (λ e. e.0) rest)
        → (passes && named || has_frame t f es)
        ≡ list_any t (map (λ (e : Key × PlainEntry). e.0) (cond named ((e.0, entry_of e.1) ∷ rest) rest))
    by true true is later = ap (λ b. b || has_frame t f es) (sym is) ∙ ap (λ b. t e.0 || b) later
    by true false is later = later
    by false true is later = later ∙ ap (λ b. b || list_any t (map (λ e. e.0) rest)) (sym is)
    by false false is later = later

-- ---- the locked pages of a process, run by run

-- those below a page
abbrev pub below : (Key → Bool) → ℕ → ℕ → Key → Bool
below t p at k = k.0 == p && (nat_lt k.1 at && t k)

-- below the first page is none
pub none-below : (t : Key → Bool) (p f : ℕ) (es : List (Key × Entry)) (old : Bool) → old ≡ (old || has_frame (below t p 0) f es)
none-below t p f es old = sym (ap (λ x. old || x) ((λ i. has_frame (λ k. none k i) f es) ∙ nothing f es) ∙ or-false old)
  where
    or-false : (b : Bool) → (b || false) ≡ b
    or-false true = refl
    or-false false = refl

    under : (x : ℕ) (locked : Bool) → (nat_lt x 0 && locked) ≡ false
    under x true = grind (arith, nat_tests)
    under x false = grind (arith, nat_tests)

    and-false : (b : Bool) → (b && false) ≡ false
    and-false true = refl
    and-false false = refl

    none : (k : Key) → below t p 0 k ≡ false
    none k = ap (λ b. k.0 == p && b) (under k.1 (t k)) ∙ and-false (k.0 == p)

run-between : (p start end : ℕ) (k : Key)
    → range_contains key_cmp (Included (p, start)) (Excluded (p, end)) k ≡ (k.0 == p && (nat_le start k.1 && nat_lt k.1 end))
run-between p start end k = grind (arith, nat_tests)

-- of a page: those below, with those of the run
merge : (x at start end : ℕ) (locked : Bool) → at ≤ start → start < end → (at ≤ x → x < start → locked ≡ false)
    → (start ≤ x → x < end → locked ≡ true) → (nat_lt x at && locked || nat_le start x && nat_lt x end) ≡ (nat_lt x end && locked)
merge x at start end locked low less none all = elim (cases_lt x at) [
  | inl under ↦ under-at locked under
  | inr above ↦ elim (cases_lt x start) [
    | inl before ↦ ap (λ b. nat_lt x at && b || nat_le start x && nat_lt x end) (none above before) ∙ skipped before
        ∙ ap (λ b. nat_lt x end && b) (sym (none above before))
    | inr behind ↦ elim (cases_lt x end) [
      | inl within ↦ in-run behind within ∙ ap (λ b. nat_lt x end && b) (sym (all behind within))
      | inr past ↦ past-end locked above past
    ]
  ]
]
  where
    under-at : (locked : Bool) → x < at → (nat_lt x at && locked || nat_le start x && nat_lt x end) ≡ (nat_lt x end && locked)
    under-at true under = grind (arith, nat_tests, low, less, under)
    under-at false under = grind (arith, nat_tests, low, less, under)

    skipped : x < start → (nat_lt x at && false || nat_le start x && nat_lt x end) ≡ (nat_lt x end && false)
    skipped before = grind (arith, nat_tests, before)

    in-run : start ≤ x → x < end → (nat_lt x at && locked || nat_le start x && nat_lt x end) ≡ (nat_lt x end && true)
    in-run behind within = grind (arith, nat_tests, low, behind, within)

    past-end : (locked : Bool) → at ≤ x → end ≤ x → (nat_lt x at && locked || nat_le start x && nat_lt x end) ≡ (nat_lt x end && locked)
    past-end locked above past = grind (arith, nat_tests, above, past)

same-number : (p q : ℕ) → is_at (nat_cmp p) q ≡ true → (p == q) ≡ true
same-number p q e = grind (arith, nat_tests, ap (λ n. p == n) (same-key p q e))

-- where the process is this one
at-process : (t : Key → Bool) (p : ℕ) (k : Key) → (k.0 == p) ≡ true → t (p, k.1) ≡ t k
at-process t p k same = ap (λ q. t (q, k.1)) (sym (eqb-true k.0 p same))

module _ (t : Key → Bool) (p at : ℕ) where
  abbrev Test : ℕ → Bool
  Test page = t (p, page)

  with-run : (start end : ℕ) → at ≤ start → start < end → IsFirstRun Test at (Some (start, end)) → (k : Key)
      → (below t p at k || range_contains key_cmp (Included (p, start)) (Excluded (p, end)) k) ≡ below t p end k
  with-run start end low less run k = ap (λ b. below t p at k || b) (run-between p start end k) ∙ by (k.0 == p) refl
    where
      by : (b : Bool) → (k.0 == p) ≡ b
          → (b && (nat_lt k.1 at && t k) || b && (nat_le start k.1 && nat_lt k.1 end)) ≡ (b && (nat_lt k.1 end && t k))
      by true e = merge k.1 at start end (t k) low less
          (λ above before. sym (at-process t p k e) ∙ run.0 k.1 above before)
          (λ behind within. sym (at-process t p k e) ∙ run.1 k.1 behind within)
      by false e = refl

  -- a run more
  pub run-added : (start end : ℕ) → at ≤ start → start < end → IsFirstRun Test at (Some (start, end)) → (f : ℕ) (es range : List (Key × Entry))
      (old was now : Bool) → range ≡ filter (λ (e : Key × Entry). range_contains key_cmp (Included (p, start)) (Excluded (p, end)) e.0) es
      → now ≡ (was || is_in f (frames_of range)) → was ≡ (old || has_frame (below t p at) f es)
      → now ≡ (old || has_frame (below t p end) f es)
  run-added start end low less run f es range old was now is more h =
      added (below t p at) between (below t p end) f es was now old h
      (more ∙ ap (λ b. was || b) (ap (λ r. is_in f (frames_of r)) is ∙ frames-in between f es))
      (with-run start end low less run)
    where
      between : Key → Bool
      between = range_contains key_cmp (Included (p, start)) (Excluded (p, end))

  -- no run is left
  all-below : IsFirstRun Test at None → (k : Key) → below t p at k ≡ (k.0 == p && t k)
  all-below none k = by (k.0 == p) refl
    where
      low : (locked : Bool) → k.1 < at → (nat_lt k.1 at && locked) ≡ locked
      low true under = grind (arith, nat_tests, under)
      low false under = grind (arith, nat_tests, under)

      and-false : (b : Bool) → (b && false) ≡ false
      and-false true = refl
      and-false false = refl

      high : (locked : Bool) → locked ≡ false → (nat_lt k.1 at && locked) ≡ locked
      high locked e = ap (λ b. nat_lt k.1 at && b) e ∙ and-false (nat_lt k.1 at) ∙ sym e

      by : (b : Bool) → (k.0 == p) ≡ b → (b && (nat_lt k.1 at && t k)) ≡ (b && t k)
      by true e = elim (cases_lt k.1 at) [
        | inl under ↦ low (t k) under
        | inr above ↦ high (t k) (sym (at-process t p k e) ∙ none k.1 above)
      ]
      by false e = refl

  pub all-runs : IsFirstRun Test at None → (f : ℕ) (es : List (Key × Entry)) (old now : Bool)
      → now ≡ (old || has_frame (below t p at) f es)
      → now ≡ (old || has_frame (λ k. k.0 == p && t k) f es)
  all-runs none f es old now h = h ∙ (λ i. old || has_frame (λ k. all-below none k i) f es)

-- ---- process by process

-- whether a process is one of some
abbrev pub is_one : List ℕ → ℕ → Bool
is_one ps p = list_any (λ q. is_at (nat_cmp p) q) ps

-- those of which the frames are there, and the others with a locked page are left
abbrev pub AreDone : (Key → Bool) → List (Key × Entry) → (ℕ → Bool) → List ℕ → Type 0
AreDone t es made rest = (done : ℕ → Bool)
    × ((k : Key) → t k ≡ true → (is_one rest k.0 || done k.0) ≡ true)
    × ((f : ℕ) → made f ≡ has_frame (λ k. done k.0 && t k) f es)

pub none-done : (t : Key → Bool) (es : List (Key × Entry)) (made : BTreeSet ℕ) (rest : List ℕ) (locking : BTreeSet ℕ) → made.keys ≡ [] → rest ≡ locking.keys
    → ((k : Key) → t k ≡ true → contains nat_cmp locking k.0 ≡ true) → AreDone t es (contains nat_cmp made) rest
none-done t es made rest locking empty all noted = (
  λ p. false,
  λ k locked. ap (λ rest. is_one rest k.0 || false) all ∙ ap (λ b. b || false) (noted k locked),
  λ f. ap (list_any (is_at (nat_cmp f))) empty ∙ sym (nothing f es),
)

module _ (t : Key → Bool) (es : List (Key × Entry)) (was now : ℕ → Bool) (rest later : List ℕ) (number : ℕ) where
  pub one-done : AreDone t es was rest → rest ≡ number ∷ later
      → ((f : ℕ) → now f ≡ (was f || has_frame (λ k. k.0 == number && t k) f es)) → AreDone t es now later
  one-done h is more = (
    λ p. h.0 p || p == number,
    λ k locked. by k.0 (is_at (nat_cmp k.0) number) refl (h.0 k.0)
        (subst (λ (rest : List ℕ). (is_one rest k.0 || h.0 k.0) ≡ true) is (h.1 k locked)),
    λ f. more f ∙ ap (λ b. b || has_frame (λ k. k.0 == number && t k) f es) (h.2 f)
        ∙ either (λ k. h.0 k.0 && t k) (λ k. k.0 == number && t k) f es
        ∙ (λ i. has_frame (λ k. both (h.0 k.0) (k.0 == number) (t k) i) f es),
  )
    where
      both : (a b c : Bool) → (a && c || b && c) ≡ ((a || b) && c)
      both true true true = refl
      both true true false = refl
      both true false true = refl
      both true false false = refl
      both false b c = refl

      last : (b : Bool) → (b || true) ≡ true
      last true = refl
      last false = refl

      by : (p : ℕ) (b : Bool) → is_at (nat_cmp p) number ≡ b → (done : Bool) → ((b || is_one later p) || done) ≡ true
          → (is_one later p || (done || p == number)) ≡ true
      by p true e done h = ap (λ b. is_one later p || (done || b)) (same-number p number e) ∙ ap (λ b. is_one later p || b) (last done) ∙ last (is_one later p)
      by p false e done h = front (is_one later p) done (p == number) h
        where
          front : (a b c : Bool) → (a || b) ≡ true → (a || (b || c)) ≡ true
          front true b c h = refl
          front false true c h = refl
          front false false c h = cc

-- all with a locked page are
pub all-done : (memories : Memories) (book : Book) (made : ℕ → Bool) → AreDone (locks_page memories) book.pages.entries made []
    → (f : ℕ) → made f ≡ is_locked_by memories (ledger_of book) f
all-done memories book made h f =
    h.2 f ∙ (λ i. has_frame (λ k. each k i) f book.pages.entries) ∙ walk-passes (locks_page memories) book.pages.entries f
  where
    by : (done locked : Bool) → (locked ≡ true → done ≡ true) → (done && locked) ≡ locked
    by true locked h = refl
    by false true h = h refl
    by false false h = refl

    each : (k : Key) → (h.0 k.0 && locks_page memories k) ≡ locks_page memories k
    each k = by (h.0 k.0) (locks_page memories k) (λ locked. h.1 k locked)
