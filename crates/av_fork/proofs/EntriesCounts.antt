-- How many entries of a process name something: by page, by run, and in a ledger whose entries go over to a child.
use Rattle.std.proofs.Common.{◌≡◌, ℕ, zero, suc, ◌+◌, ◌<◌, ◌≤◌, Bool, true, false, cond, ◌&&◌, ◌==◌, nat_lt, T, List, [], ◌∷◌, length, get_or, Some, None, refl, sym, ap, ◌∙◌, arith}
use Rattle.std.proofs.lemmas.Bool.Decides.{nat_tests}
use Rattle.std.specs.FinMap.Entries.{find, where_key, is_sorted}
use Rattle.av_base.specs.Keys.{Key, key_cmp, same_key}
use Rattle.av_base.proofs.Keys.{keys_total, same_key-is, same_key-itself}
use Rattle.av_base.specs.Words.{how_many}
use Rattle.av_plain.specs.Event.{without_seen}
use Rattle.av_plain.specs.Ledger.{Entry}
use Rattle.av_plain.proofs.Event.{entries_with, how_many-map, how_many-same}
use Rattle.av_plain.proofs.Fork.{copies}
use Rattle.av_plain.proofs.Ledger.Order.{both_first, both_second, find_below}
use Rattle.av_plain.proofs.Ledger.Walk.{passes}

-- ---- pages

-- how many of the pages below n pass
abbrev pub tally : (ℕ → Bool) → ℕ → ℕ
tally test zero = 0
tally test (suc n) = tally test n + cond (test n) 1 0

pub tally-same : (test other : ℕ → Bool) (n : ℕ) → ((o : ℕ) → test o ≡ other o) → tally test n ≡ tally other n
tally-same test other zero same = refl
tally-same test other (suc n) same = λ i. tally-same test other n same i + cond (same n i) 1 0

-- where none of the next pages passes
pub tally-on : (test : ℕ → Bool) (a j : ℕ) → ((o : ℕ) → a ≤ o → o < a + j → test o ≡ false) → tally test (a + j) ≡ tally test a
tally-on test a zero none = ap (tally test) (let same : a + 0 ≡ a = omega arith in same)
tally-on test a (suc j) none =
    ap (tally test) (let next : a + suc j ≡ suc (a + j) = omega arith in next)
    ∙ (λ i. tally-on test a j (λ o low high. none o low (omega (arith, high))) i + cond {A = ℕ} (none (a + j) (omega arith) (omega arith) i) 1 0)
    ∙ (let n = tally test a in let same : n + 0 ≡ n = omega arith in same)

-- fewer pass a test that asks more
pub tally-fewer : (test other : ℕ → Bool) (n : ℕ) → ((o : ℕ) → test o ≡ true → other o ≡ true) → tally test n ≤ tally other n
tally-fewer test other zero more = omega arith
tally-fewer test other (suc n) more = by (test n) (other n) (more n) (tally-fewer test other n more)
  where
    by : (a b : Bool) → (a ≡ true → b ≡ true) → tally test n ≤ tally other n → tally test n + cond a 1 0 ≤ tally other n + cond b 1 0
    by true true is rest = omega (arith, rest)
    by true false is rest = let never = is refl in cc
    by false b is rest = omega (arith, rest)

pub tally-none : (test : ℕ → Bool) (n : ℕ) → ((o : ℕ) → test o ≡ false) → tally test n ≡ 0
tally-none test zero none = refl
tally-none test (suc n) none = λ i. tally-none test n none i + cond {A = ℕ} (none n i) 1 0

-- a run has the next pages
pub tally-run : {X : Type 0} (test : ℕ → Bool) (mark : X → Bool) (run : List X) (x : X) (a : ℕ) →
    ((i : ℕ) → i < length run → mark (get_or run i x) ≡ test (a + i)) → tally test (a + length run) ≡ tally test a + how_many mark run
tally-run test mark [] x a are = ap (tally test) (let same : a + 0 ≡ a = omega arith in same)
    ∙ (let n = tally test a in let same : n ≡ n + 0 = omega arith in same)
tally-run test mark (y ∷ ys) x a are =
    ap (tally test) (let next : a + suc (length ys) ≡ suc a + length ys = omega arith in next)
    ∙ tally-run test mark ys x (suc a) (λ i low. are (suc i) (omega (arith, low))
    ∙ ap test (let next : a + suc i ≡ suc a + i = omega arith in next))
    ∙ ap (λ b. tally test a + cond b 1 0 + how_many mark ys)
    (ap test (let same : a ≡ a + 0 = omega arith in same) ∙ sym (are 0 (omega arith)))
    ∙ added (tally test a) (cond (mark y) 1 0) (how_many mark ys)
  where
    added : (a b c : ℕ) → a + b + c ≡ a + (b + c)
    added a b c = omega arith

-- ---- the ledger

-- the keys of a process below a page
abbrev below : ℕ → ℕ → Key → Bool
below p n k = k.0 == p && nat_lt k.1 n

below-none : (t : Entry → Bool) (p : ℕ) (es : List (Key × Entry)) → entries_with t (where_key key_cmp (below p 0) es) ≡ 0
below-none t p [] = refl
below-none t p (e ∷ es) =
    ap (λ b. entries_with t (cond b (e ∷ where_key key_cmp (below p 0) es) (where_key key_cmp (below p 0) es))) (none e.0.0 e.0.1)
    ∙ below-none t p es
  where
    none : (a b : ℕ) → (a == p && nat_lt b 0) ≡ false
    none a b = grind (arith, nat_tests)

-- one page more
below-more : (t : Entry → Bool) (p n : ℕ) (es : List (Key × Entry)) → T (is_sorted key_cmp es)
    → entries_with t (where_key key_cmp (below p (suc n)) es)
    ≡ entries_with t (where_key key_cmp (below p n) es) + cond (passes t (find key_cmp (p, n) es)) 1 0
below-more t p n [] h = refl
below-more t p n (e ∷ es) h = by (same_key (p, n) e.0) refl (below-more t p n es (both_second _ _ h))
  where
    rest : ℕ → List (Key × Entry)
    rest k = where_key key_cmp (below p k) es

    here : (k : Key) → (p, n) ≡ k → (below p (suc n) k ≡ true) × (below p n k ≡ false)
    here k same = ((ap (below p (suc n)) (sym same) ∙ in_it), (ap (below p n) (sym same) ∙ not_yet))
      where
        in_it : (p == p && nat_lt n (suc n)) ≡ true
        in_it = grind (arith, nat_tests)

        not_yet : (p == p && nat_lt n n) ≡ false
        not_yet = grind (arith, nat_tests)

    other : (a b : ℕ) → same_key (p, n) (a, b) ≡ false → below p (suc n) (a, b) ≡ below p n (a, b)
    other a b e = grind (arith, nat_tests, e)

    last : (w a b : ℕ) → a ≡ b + 0 → w + a ≡ b + w
    last w a b e = omega (arith, e)

    deeper : (w a b c : ℕ) → a ≡ b + c → w + a ≡ w + b + c
    deeper w a b c e = omega (arith, e)

    by : (s : Bool) → same_key (p, n) e.0 ≡ s
        → entries_with t (rest (suc n)) ≡ entries_with t (rest n) + cond (passes t (find key_cmp (p, n) es)) 1 0
        → entries_with t (cond (below p (suc n) e.0) (e ∷ rest (suc n)) (rest (suc n)))
        ≡ entries_with t (cond (below p n e.0) (e ∷ rest n) (rest n)) + cond (passes t (cond s (Some e.1) (find key_cmp (p, n) es))) 1 0
    by true is go =
        let k : (p, n) ≡ e.0 = same_key-is (p, n) e.0 is in
        let none : find key_cmp (p, n) es ≡ None = ap (λ k. find key_cmp k es) k ∙ find_below keys_total t e.0 es (both_first _ _ h) in
        ap (λ b. entries_with t (cond b (e ∷ rest (suc n)) (rest (suc n)))) (here e.0 k).0
        ∙ last (cond (t e.1) 1 0) _ _ (go ∙ ap (λ o. entries_with t (rest n) + cond (passes t o) 1 0) none)
        ∙ ap (λ b. entries_with t (cond b (e ∷ rest n) (rest n)) + cond (t e.1) 1 0) (sym (here e.0 k).1)
    by false is go = ap (λ b. entries_with t (cond b (e ∷ rest (suc n)) (rest (suc n)))) (other e.0.0 e.0.1 is) ∙ step (below p n e.0)
      where
        step : (b : Bool) → entries_with t (cond b (e ∷ rest (suc n)) (rest (suc n)))
            ≡ entries_with t (cond b (e ∷ rest n) (rest n)) + cond (passes t (find key_cmp (p, n) es)) 1 0
        step true = deeper (cond (t e.1) 1 0) _ _ _ go
        step false = go

below-tally : (t : Entry → Bool) (p n : ℕ) (es : List (Key × Entry)) → T (is_sorted key_cmp es)
    → entries_with t (where_key key_cmp (below p n) es) ≡ tally (λ o. passes t (find key_cmp (p, o) es)) n
below-tally t p zero es h = below-none t p es
below-tally t p (suc n) es h = below-more t p n es h ∙ ap (λ k. k + cond (passes t (find key_cmp (p, n) es)) 1 0) (below-tally t p n es h)

-- those are at most as many as the ledger has
pub tally-few : (t : Entry → Bool) (p n : ℕ) (es : List (Key × Entry)) → T (is_sorted key_cmp es)
    → tally (λ o. passes t (find key_cmp (p, o) es)) n ≤ entries_with t es
tally-few t p n es h = let few = fewer (below p n) es in let same = below-tally t p n es h in omega (arith, few, same)
  where
    fewer : (test : Key → Bool) (es : List (Key × Entry)) → entries_with t (where_key key_cmp test es) ≤ entries_with t es
    fewer test [] = omega arith
    fewer test (e ∷ es) = by (test e.0) (fewer test es)
      where
        by : (b : Bool) → entries_with t (where_key key_cmp test es) ≤ entries_with t es
            → entries_with t (cond b (e ∷ where_key key_cmp test es) (where_key key_cmp test es)) ≤ cond (t e.1) 1 0 + entries_with t es
        by true h = omega (arith, h)
        by false h = omega (arith, h)

-- where there are no entries from a page on, all are below it
all-below : (p n : ℕ) (es : List (Key × Entry)) → ((o : ℕ) → n ≤ o → find key_cmp (p, o) es ≡ None)
    → where_key key_cmp (λ k. k.0 == p) es ≡ where_key key_cmp (below p n) es
all-below p n [] none = refl
all-below p n (e ∷ es) none = by (all-below p n es (λ o low. tail o (same_key (p, o) e.0) (none o low)))
  where
    tail : (o : ℕ) (b : Bool) → cond b (Some e.1) (find key_cmp (p, o) es) ≡ None → find key_cmp (p, o) es ≡ None
    tail o true h = cc
    tail o false h = h

    no_two : {X : Type 0} {x : X} → Some x ≡ None → ⊥
    no_two h = cc

    equal : (a b : ℕ) → (a == b) ≡ true → a ≡ b
    equal a b h = grind (arith, nat_tests, h)

    high : (a b : ℕ) → nat_lt a b ≡ false → b ≤ a
    high a b h = grind (arith, nat_tests, h)

    test : (a b : Bool) → (e.0.0 == p) ≡ a → nat_lt e.0.1 n ≡ b → a ≡ (a && b)
    test true true i j = refl
    test true false i j = absurd (no_two (sym (ap (λ b. cond b (Some e.1) (find key_cmp (p, e.0.1) es))
        (ap (λ q. same_key (q, e.0.1) e.0) (sym (equal e.0.0 p i)) ∙ same_key-itself e.0)) ∙ none e.0.1 (high e.0.1 n j)))
    test false b i j = refl

    by : where_key key_cmp (λ k. k.0 == p) es ≡ where_key key_cmp (below p n) es
        → where_key key_cmp (λ k. k.0 == p) (e ∷ es) ≡ where_key key_cmp (below p n) (e ∷ es)
    by rest = λ i. cond (test (e.0.0 == p) (nat_lt e.0.1 n) refl refl i) (e ∷ rest i) (rest i)

-- so as many are copied
pub copied-tally : (t : Entry → Bool) → ((e : Entry) → t (without_seen e) ≡ t e) → (p q n : ℕ) (es : List (Key × Entry)) → T (is_sorted key_cmp es)
    → ((o : ℕ) → n ≤ o → find key_cmp (p, o) es ≡ None) → entries_with t (copies p q es) ≡ tally (λ o. passes t (find key_cmp (p, o) es)) n
copied-tally t unseen p q n es h none =
    how_many-map (λ (e : Key × Entry). t e.1) (λ (e : Key × Entry). ((q, e.0.1), without_seen e.1)) (where_key key_cmp (λ k. k.0 == p) es)
    ∙ how_many-same _ _ (where_key key_cmp (λ k. k.0 == p) es) (λ e. unseen e.1)
    ∙ ap (entries_with t) (all-below p n es none) ∙ below-tally t p n es h
