-- Entries that go to other pages.
use Rattle.std.proofs.Common.{◌≡◌, ℕ, ◌+◌, ◌-◌, ◌<◌, List, [], ◌∷◌, map, filter, Bool, true, false, cond, refl, ap, ◌∙◌, arith, length, not, ◌||◌, sym, subst}
use Rattle.std.specs.Prelude.{◌&&◌, ◌==◌, ◌^◌}
use Rattle.std.specs.List.{AllByRecursion}
use Rattle.std.proofs.lemmas.Bool.Decides.{nat_tests}
use Rattle.av_base.specs.Keys.{Key}
use Rattle.av_base.specs.Words.{within}
use Rattle.av_plain.specs.Event.{entries_where}
use Rattle.av_plain.specs.Ledger.{Entry as PlainEntry, Ledger}
use Rattle.av_audit_pages.specs.Entries.{entries_of, entry_of}
use Rattle.av_audit_pages.specs.declared.entries.Entry.{Entry}
use Rattle.av_audit_pages.proofs.EntryLaws.{keys-are}
use Rattle.av_audit_events.specs.Remap.{is_among, without_keys}
use Rattle.av_audit_events.proofs.FilterLaws.{filter-both}

in-bound : (p from to n : ℕ) (k : Key) → to + n < 2 ^ 64 → (k.0 == p && within from n k.1) ≡ true → k.1 - from + to < 2 ^ 64
in-bound p from to n k fits h = grind (arith, nat_tests)

-- each page of the range has a place
pub all-fit : (p from to n : ℕ) → to + n < 2 ^ 64 → (es : List (Key × PlainEntry))
    → AllByRecursion (λ (e : Key × PlainEntry). e.0.1 - from + to < 2 ^ 64) (filter (λ e. e.0.0 == p && within from n e.0.1) es)
all-fit p from to n fits [] = tt
all-fit p from to n fits (e ∷ es) = by (all-fit p from to n fits es) (e.0.0 == p && within from n e.0.1) refl
  where
    by : AllByRecursion (λ (e : Key × PlainEntry). e.0.1 - from + to < 2 ^ 64) (filter (λ e. e.0.0 == p && within from n e.0.1) es)
        → (b : Bool) → (e.0.0 == p && within from n e.0.1) ≡ b
        → AllByRecursion (λ (e : Key × PlainEntry). e.0.1 - from + to < 2 ^ 64)
        (cond b (e ∷ filter (λ e. e.0.0 == p && within from n e.0.1) es) (filter (λ e. e.0.0 == p && within from n e.0.1) es))
    by rest true h = (in-bound p from to n e.0 fits h, rest)
    by rest false h = rest

pub fit-raw : (from to : ℕ) (es : List (Key × Entry)) → AllByRecursion (λ (e : Key × PlainEntry). e.0.1 - from + to < 2 ^ 64) (entries_of es)
    → AllByRecursion (λ (e : Key × Entry). e.0.1 - from + to < 2 ^ 64) es
fit-raw from to [] h = tt
fit-raw from to (e ∷ es) h = (h.0, fit-raw from to es h.1)

-- an entry at its place
abbrev at_place : {E : Type 0} → ℕ → ℕ → Key × E → Key × E
at_place from to e = ((e.0.0, e.0.1 - from + to), e.1)

abbrev at_page : {E : Type 0} → ℕ → ℕ → ℕ → Key × E → Key × E
at_page p from to e = ((p, e.0.1 - from + to), e.1)

abbrev those : ℕ → ℕ → ℕ → List (Key × PlainEntry) → List (Key × PlainEntry)
those p from n fs = filter (λ (e : Key × PlainEntry). e.0.0 == p && within from n e.0.1) fs

-- what they say at their places
pub places-say : (p from n to : ℕ) (es : List (Key × Entry)) (fs : List (Key × PlainEntry)) → entries_of es ≡ those p from n fs
    → entries_of (map (at_place from to) es) ≡ map (at_page p from to) (those p from n fs)
places-say p from n to es fs is = each es ∙ ap (map (at_place from to)) is ∙ all fs
  where
    each : (es : List (Key × Entry)) → entries_of (map (at_place from to) es) ≡ map (at_place from to) (entries_of es)
    each [] = refl
    each (e ∷ es) = ap (λ r. at_place from to (e.0, entry_of e.1) ∷ r) (each es)

    of : (k : Key) → (k.0 == p && within from n k.1) ≡ true → k.0 ≡ p
    of k h = grind (arith, nat_tests)

    one : (f : Key × PlainEntry) (fs : List (Key × PlainEntry)) (b : Bool) → (f.0.0 == p && within from n f.0.1) ≡ b
        → map (at_place from to) (those p from n fs) ≡ map (at_page p from to) (those p from n fs)
        → map (at_place from to) (cond b (f ∷ those p from n fs) (those p from n fs))
        ≡ map (at_page p from to) (cond b (f ∷ those p from n fs) (those p from n fs))
    one f fs true h rest = λ i. ((of f.0 h i, f.0.1 - from + to), f.1) ∷ rest i
    one f fs false h rest = rest

    all : (fs : List (Key × PlainEntry)) → map (at_place from to) (those p from n fs) ≡ map (at_page p from to) (those p from n fs)
    all [] = refl
    all (f ∷ fs) = one f fs (f.0.0 == p && within from n f.0.1) refl (all fs)

-- ---- entries of some keys are gone

no : false ≡ true → ⊥
no e = cc

or-false : (b : Bool) → (b || false) ≡ b
or-false true = refl
or-false false = refl

pub one-key : (k q : Key) → (k.0 == q.0 && k.1 == q.1) ≡ is_among (k ∷ []) q
one-key k q = sym (or-false (k.0 == q.0 && k.1 == q.1))

-- one, and then the others
pub without-then : (l now : Ledger) (e : Key × Entry) (es : List (Key × Entry)) → now ≡ without_keys (e.0 ∷ []) l
    → without_keys (map (λ (e : Key × Entry). e.0) es) now ≡ without_keys (map (λ (e : Key × Entry). e.0) (e ∷ es)) l
without-then l now e es is =
    ap (without_keys (map (λ (e : Key × Entry). e.0) es)) is
    ∙ ap (λ left. record l { entries = left }) (filter-both (λ (f : Key × PlainEntry). not (is_among (map (λ (e : Key × Entry). e.0) es) f.0))
    (λ f. not (is_among (e.0 ∷ []) f.0)) (λ f. not (is_among (map (λ (e : Key × Entry). e.0) (e ∷ es)) f.0))
    (λ f h. both (e.0.0 == f.0.0 && e.0.1 == f.0.1) _ h) (λ f h. first (e.0.0 == f.0.0 && e.0.1 == f.0.1) _ h) l.entries)
  where
    both : (a b : Bool) → not (a || false) ≡ true → not b ≡ not (a || b)
    both true b h = absurd (no h)
    both false b h = refl

    first : (a b : Bool) → not (a || b) ≡ true → not (a || false) ≡ true
    first true b h = absurd (no h)
    first false b h = refl

-- where none is named, all stay
pub without-all : (l : Ledger) (es : List (Key × Entry)) → length es < 1 → l ≡ without_keys (map (λ (e : Key × Entry). e.0) es) l
without-all l [] h = ap (λ left. record l { entries = left }) (all l.entries)
  where
    all : (fs : List (Key × PlainEntry)) → fs ≡ filter (λ (f : Key × PlainEntry). not (is_among [] f.0)) fs
    all [] = refl
    all (f ∷ fs) = ap (λ r. f ∷ r) (all fs)
without-all l (e ∷ es) h = absurd (omega (arith, h))

-- ---- those of a range

same-is : (k q : Key) → (k.0 == q.0 && k.1 == q.1) ≡ true → k ≡ q
same-is k q h = λ i. (one i, two i)
  where
    one : k.0 ≡ q.0
    one = grind (arith, nat_tests)

    two : k.1 ≡ q.1
    two = grind (arith, nat_tests)

itself : (k : Key) → (k.0 == k.0 && k.1 == k.1) ≡ true
itself k = grind (arith, nat_tests)

-- each key of those that pass does
passes : (t : Key → Bool) (es : List (Key × PlainEntry)) (q : Key)
    → is_among (map (λ (e : Key × PlainEntry). e.0) (filter (λ (e : Key × PlainEntry). t e.0) es)) q ≡ true → t q ≡ true
passes t [] q h = absurd (no h)
passes t (e ∷ es) q h = by (passes t es q) (t e.0) refl h
  where
    here : (b : Bool) → (e.0.0 == q.0 && e.0.1 == q.1) ≡ b → t e.0 ≡ true
        → (is_among (map (λ (e : Key × PlainEntry). e.0) (filter (λ (e : Key × PlainEntry). t e.0) es)) q ≡ true → t q ≡ true)
        → (b || is_among (map (λ (e : Key × PlainEntry). e.0) (filter (λ (e : Key × PlainEntry). t e.0) es)) q) ≡ true → t q ≡ true
    here true s g later h = ap t (sym (same-is e.0 q s)) ∙ g
    here false s g later h = later h

    by : (is_among (map (λ (e : Key × PlainEntry). e.0) (filter (λ (e : Key × PlainEntry). t e.0) es)) q ≡ true → t q ≡ true) → (b : Bool) → t e.0 ≡ b
        → is_among (map (λ (e : Key × PlainEntry). e.0) (cond b (e ∷ filter (λ (e : Key × PlainEntry). t e.0) es)
        (filter (λ (e : Key × PlainEntry). t e.0) es))) q ≡ true
        → t q ≡ true
    by later true g h = here (e.0.0 == q.0 && e.0.1 == q.1) refl g later h
    by later false g h = later h

-- what isn't among the keys of those that pass doesn't pass
pub others-stay : (t : Key → Bool) (ks : List Key) → ((q : Key) → is_among ks q ≡ true → t q ≡ true) → (es : List (Key × PlainEntry))
    → ((q : Key) → is_among (map (λ (e : Key × PlainEntry). e.0) (filter (λ (e : Key × PlainEntry). t e.0) es)) q ≡ true → is_among ks q ≡ true)
    → filter (λ (e : Key × PlainEntry). not (is_among ks e.0)) es ≡ filter (λ (e : Key × PlainEntry). not (t e.0)) es
others-stay t ks pass [] among = refl
others-stay t ks pass (e ∷ es) among =
    λ i. cond (not (at (t e.0) (is_among ks e.0) refl refl i)) (e ∷ others-stay t ks pass es fewer i) (others-stay t ks pass es fewer i)
  where
    rest : List (Key × PlainEntry)
    rest = filter (λ (e : Key × PlainEntry). t e.0) es

    more : t e.0 ≡ true → map (λ (e : Key × PlainEntry). e.0) (filter (λ (e : Key × PlainEntry). t e.0) (e ∷ es))
        ≡ e.0 ∷ map (λ (e : Key × PlainEntry). e.0) rest
    more g = ap (λ b. map (λ (e : Key × PlainEntry). e.0) (cond b (e ∷ rest) rest)) g

    less : t e.0 ≡ false → map (λ (e : Key × PlainEntry). e.0) (filter (λ (e : Key × PlainEntry). t e.0) (e ∷ es)) ≡ map (λ (e : Key × PlainEntry). e.0) rest
    less g = ap (λ b. map (λ (e : Key × PlainEntry). e.0) (cond b (e ∷ rest) rest)) g

    at : (b c : Bool) → t e.0 ≡ b → is_among ks e.0 ≡ c → is_among ks e.0 ≡ t e.0
    at true true g i = i ∙ sym g
    at true false g i = among e.0 (subst (λ ks. is_among ks e.0 ≡ true) (sym (more g))
        (ap (λ b. b || is_among (map (λ (e : Key × PlainEntry). e.0) rest) e.0) (itself e.0))) ∙ sym g
    at false true g i = absurd (no (sym g ∙ pass e.0 i))
    at false false g i = i ∙ sym g

    fewer : (q : Key) → is_among (map (λ (e : Key × PlainEntry). e.0) rest) q ≡ true → is_among ks q ≡ true
    fewer q h = here (t e.0) refl
      where
        wider : (b : Bool) → (b || is_among (map (λ (e : Key × PlainEntry). e.0) rest) q) ≡ true
        wider true = refl
        wider false = h

        here : (b : Bool) → t e.0 ≡ b → is_among ks q ≡ true
        here true g = among q (subst (λ ks. is_among ks q ≡ true) (sym (more g)) (wider (e.0.0 == q.0 && e.0.1 == q.1)))
        here false g = among q (subst (λ ks. is_among ks q ≡ true) (sym (less g)) h)

-- those of the range that were found are all of it
pub range-gone : (p from n : ℕ) (l : Ledger) (range : List (Key × Entry)) → entries_of range ≡ those p from n l.entries
    → without_keys (map (λ (e : Key × Entry). e.0) range) l
    ≡ record l { entries = entries_where (λ k. not (k.0 == p && within from n k.1)) l }
range-gone p from n l range is = ap (λ left. record l { entries = left })
    (others-stay (λ (k : Key). k.0 == p && within from n k.1) (map (λ (e : Key × Entry). e.0) range)
    (λ q h. passes (λ (k : Key). k.0 == p && within from n k.1) l.entries q (subst (λ ks. is_among ks q ≡ true) keys h))
    l.entries (λ q h. subst (λ ks. is_among ks q ≡ true) (sym keys) h))
  where
    keys : map (λ (e : Key × Entry). e.0) range ≡ map (λ (e : Key × PlainEntry). e.0) (those p from n l.entries)
    keys = sym (keys-are range) ∙ ap (map (λ (e : Key × PlainEntry). e.0)) is
