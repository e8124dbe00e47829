-- What a fork leaves: the child has the entries of the pages that go over, unseen, and the counts grow by what was copied.
pub mod Areas
use Rattle.std.proofs.Common.{◌≡◌, ℕ, ◌+◌, ◌≤◌, Bool, true, false, cond, not, ◌&&◌, ◌||◌, T, List, [], ◌∷◌, map, filter, Option, Some, None, option_map, refl, sym, ap, subst, ◌∙◌, arith, ◌==◌, Ordering}
use Rattle.std.proofs.lemmas.Bool.Decides.{nat_tests}
use Rattle.std.specs.Option.{option_or}
use Rattle.std.specs.Prelude.{IsSomeAnd}
use Rattle.std.specs.Ordering.{is_eq, is_lt}
use Rattle.std.specs.declared.cmp.Ordering.TheVariants.{Less}
use Rattle.std.specs.FinMap.Entries.{find, where_key, is_sorted, below_all, find-where_key, is_sorted-where_key}
use Rattle.av_base.specs.Keys.{Key, key_cmp, same_key}
use Rattle.av_base.proofs.Keys.{same_key-is}
use Rattle.av_base.specs.Words.{how_many, is_in}
use Rattle.av_base.specs.declared.slot.Slot.{Slot}
use Rattle.av_plain.specs.Event.{after_fork, put_all, without_seen}
use Rattle.av_plain.specs.Fork.{goes_over, inheritance}
use Rattle.av_plain.specs.World.{Process}
use Rattle.av_plain.specs.Zap.{keys_of_process}
use Rattle.av_plain.specs.Ledger.{Entry, InFrame, InSlot, Ledger, Zero, entry, names_frame, names_slot}
use Rattle.av_plain.proofs.Event.{count-put_all, entries_with, entry-put_all}
use Rattle.av_plain.proofs.Ledger.Order.{both_first, both_second, is_less}

-- ---- what is copied

-- the entries of p, under q
abbrev pub copies : ℕ → ℕ → List (Key × Entry) → List (Key × Entry)
copies p q es = map (λ e. ((q, e.0.1), without_seen e.1)) (where_key key_cmp (λ k. k.0 == p) es)

-- the ledger after a fork of p, where these pages go over
abbrev pub child_ledger : ℕ → ℕ → List ℕ → Ledger → Ledger
child_ledger p q goes l = after_fork p q goes l

-- the entries that go over with their pages, whosever they are
abbrev pub going : List ℕ → List (Key × Entry) → List (Key × Entry)
going goes es = where_key key_cmp (λ k. is_in k.1 goes) es

-- the entry that goes over with a page of p
abbrev pub handed : List ℕ → ℕ → Ledger → ℕ → Option Entry
handed goes p l page = cond (is_in page goes) (entry l (p, page)) None

pub handed-is : (goes : List ℕ) (p : ℕ) (l : Ledger) (page : ℕ) (e : Entry) → handed goes p l page ≡ Some e → entry l (p, page) ≡ Some e
handed-is goes p l page e = by (is_in page goes)
  where
    by : (b : Bool) → cond b (entry l (p, page)) None ≡ Some e → entry l (p, page) ≡ Some e
    by true h = h
    by false h = cc

-- where it is one of some kind, the page goes over, and has such an entry
pub handed-from : (goes : List ℕ) (p : ℕ) (l : Ledger) (page : ℕ) (P : Entry → Type 0) → IsSomeAnd (handed goes p l page) P
    → (is_in page goes ≡ true) × IsSomeAnd (entry l (p, page)) P
handed-from goes p l page P = by (is_in page goes)
  where
    by : (b : Bool) → IsSomeAnd (cond b (entry l (p, page)) None) P → (b ≡ true) × IsSomeAnd (entry l (p, page)) P
    by true h = (refl, h)
    by false h = absurd h

both_tests : (p : ℕ) (goes : List ℕ) (es : List (Key × Entry))
    → where_key key_cmp (λ k. k.0 == p && is_in k.1 goes) es ≡ where_key key_cmp (λ k. k.0 == p) (going goes es)
both_tests p goes [] = refl
both_tests p goes (e ∷ es) = by (e.0.0 == p) (is_in e.0.1 goes) refl refl (both_tests p goes es)
  where
    rest : List (Key × Entry)
    rest = where_key key_cmp (λ k. k.0 == p && is_in k.1 goes) es

    then : List (Key × Entry)
    then = where_key key_cmp (λ k. k.0 == p) (going goes es)

    by : (a b : Bool) → (e.0.0 == p) ≡ a → is_in e.0.1 goes ≡ b → rest ≡ then
        → cond (a && b) (e ∷ rest) rest ≡ where_key key_cmp (λ k. k.0 == p) (cond b (e ∷ going goes es) (going goes es))
    by true true is i go = ap (λ xs. e ∷ xs) go ∙ ap (λ b. cond b (e ∷ then) then) (sym is)
    by false true is i go = go ∙ ap (λ b. cond b (e ∷ then) then) (sym is)
    by true false is i go = go
    by false false is i go = go

pub forked-is : (p q : ℕ) (goes : List ℕ) (l : Ledger) → child_ledger p q goes l ≡ put_all (copies p q (going goes l.entries)) l
forked-is p q goes l = ap (λ es. put_all (map (λ (e : Key × Entry). ((q, e.0.1), without_seen e.1)) es) l) (both_tests p goes l.entries)

pub sorted-going : (goes : List ℕ) (es : List (Key × Entry)) → T (is_sorted key_cmp es) → T (is_sorted key_cmp (going goes es))
sorted-going goes es h = is_sorted-where_key key_cmp (λ k. is_in k.1 goes) es h

-- no more of them pass a test
fewer-going : (t : Entry → Bool) (goes : List ℕ) (es : List (Key × Entry)) → entries_with t (going goes es) ≤ entries_with t es
fewer-going t goes [] = omega arith
fewer-going t goes (e ∷ es) = by (is_in e.0.1 goes) (fewer-going t goes es)
  where
    by : (b : Bool) → entries_with t (going goes es) ≤ entries_with t es
        → entries_with t (cond b (e ∷ going goes es) (going goes es)) ≤ cond (t e.1) 1 0 + entries_with t es
    by true h = omega (arith, h)
    by false h = omega (arith, h)

-- the pages of some keys that go over
abbrev those_over : Process → List Key → List ℕ
those_over q ks = map (λ (k : Key). k.1) (filter (λ k. goes_over (q k.1)) ks)

-- with one more key
those_over-on : (q : Process) (k : Key) (ks : List Key) (page : ℕ) →
    is_in page (those_over q (k ∷ ks)) ≡ (goes_over (q k.1) && page == k.1 || is_in page (those_over q ks))
those_over-on q k ks page = by (goes_over (q k.1))
  where
    by : (b : Bool) → is_in page (map (λ (k : Key). k.1) (cond b (k ∷ filter (λ k. goes_over (q k.1)) ks) (filter (λ k. goes_over (q k.1)) ks)))
        ≡ (b && page == k.1 || is_in page (those_over q ks))
    by true = refl
    by false = refl

-- the page of an entry that goes over is one that goes over
pub inherited-goes : (q : Process) (l : Ledger) (p page : ℕ) → is_in page (inheritance q l p) ≡ true → goes_over (q page) ≡ true
inherited-goes q l p page = by (keys_of_process l p)
  where
    step : (k : Key) (ks : List Key) → (is_in page (those_over q ks) ≡ true → goes_over (q page) ≡ true)
        → is_in page (those_over q (k ∷ ks)) ≡ true → goes_over (q page) ≡ true
    step k ks rest h = on (goes_over (q k.1)) (page == k.1) (is_in page (those_over q ks)) refl refl refl (sym (those_over-on q k ks page) ∙ h)
      where
        on : (a b c : Bool) → goes_over (q k.1) ≡ a → (page == k.1) ≡ b → is_in page (those_over q ks) ≡ c → (a && b || c) ≡ true
            → goes_over (q page) ≡ true
        on true true c over is h at = let same : page ≡ k.1 = grind (arith, nat_tests, is) in ap (λ x. goes_over (q x)) same ∙ over
        on true false true over is h at = rest h
        on true false false over is h at = cc
        on false b true over is h at = rest h
        on false b false over is h at = cc

    by : (ks : List Key) → is_in page (those_over q ks) ≡ true → goes_over (q page) ≡ true
    by [] h = cc
    by (k ∷ ks) h = step k ks (by ks) h

-- a page that goes over, and isn't among them, has no entry
pub not-inherited : (q : Process) (l : Ledger) (p page : ℕ) → goes_over (q page) ≡ true
    → is_in page (inheritance q l p) ≡ false → entry l (p, page) ≡ None
not-inherited q l p page over none = by (entry l (p, page)) refl
  where
    first : (k : Key) (ks : List Key) → k.1 ≡ page → is_in page (those_over q (k ∷ ks)) ≡ true
    first k ks same = those_over-on q k ks page
        ∙ on (goes_over (q k.1)) (page == k.1) (is_in page (those_over q ks)) (ap (λ x. goes_over (q x)) same ∙ over) (grind (arith, nat_tests, same))
      where
        on : (a b c : Bool) → a ≡ true → b ≡ true → (a && b || c) ≡ true
        on true true c e f = refl
        on true false c e f = cc
        on false b c e f = cc

    later : (k : Key) (ks : List Key) → is_in page (those_over q ks) ≡ true → is_in page (those_over q (k ∷ ks)) ≡ true
    later k ks h = those_over-on q k ks page ∙ on (goes_over (q k.1) && page == k.1) (is_in page (those_over q ks)) h
      where
        on : (a c : Bool) → c ≡ true → (a || c) ≡ true
        on true c e = refl
        on false c e = e

    keys : List (Key × Entry) → List Key
    keys es = filter (λ k. k.0 == p) (map (λ e. e.0) es)

    has : (es : List (Key × Entry)) (e : Entry) → find key_cmp (p, page) es ≡ Some e → is_in page (those_over q (keys es)) ≡ true
    has [] e h = cc
    has (x ∷ es) e h = at (same_key (p, page) x.0) refl h (has es e)
      where
        mine : (c : Bool) → (x.0.0 == p) ≡ c → x.0 ≡ (p, page) → is_in page (those_over q (cond c (x.0 ∷ keys es) (keys es))) ≡ true
        mine true is same = first x.0 (keys es) (ap (λ (k : Key). k.1) same)
        mine false is same = let e : x.0.0 ≡ p = ap (λ (k : Key). k.0) same in absurd (grind (arith, nat_tests, is, e))

        other : (c : Bool) → is_in page (those_over q (keys es)) ≡ true → is_in page (those_over q (cond c (x.0 ∷ keys es) (keys es))) ≡ true
        other true h = later x.0 (keys es) h
        other false h = h

        at : (b : Bool) → same_key (p, page) x.0 ≡ b → cond b (Some x.1) (find key_cmp (p, page) es) ≡ Some e
            → (find key_cmp (p, page) es ≡ Some e → is_in page (those_over q (keys es)) ≡ true)
            → is_in page (those_over q (cond (x.0.0 == p) (x.0 ∷ keys es) (keys es))) ≡ true
        at true is h rest = mine (x.0.0 == p) refl (sym (same_key-is (p, page) x.0 is))
        at false is h rest = other (x.0.0 == p) (rest h)

    by : (o : Option Entry) → entry l (p, page) ≡ o → o ≡ None
    by None is = refl
    by (Some e) is = absurd (both_ways _ none (has l.entries e is))
      where
        both_ways : (b : Bool) → b ≡ false → b ≡ true → ⊥
        both_ways b h g = cc

-- ---- what is found

same_order : (p q a b : ℕ) → key_cmp (p, a) (p, b) ≡ Less → key_cmp (q, a) (q, b) ≡ Less
same_order p q a b h = grind (arith, nat_tests)

less_is : (o : Ordering) → o ≡ Less → T (is_lt o)
less_is o e = subst (λ r. T (is_lt r)) (sym e) tt

both : (a b : Bool) → T a → T b → T (a && b)
both true b p q = q
both false b p q = p

below_copies : (p q : ℕ) (x : Key) (es : List (Key × Entry)) → (x.0 == p) ≡ true → T (below_all key_cmp x es)
    → T (below_all key_cmp (q, x.1) (copies p q es))
below_copies p q x [] at h = tt
below_copies p q x (e ∷ es) at h =
    elim (e.0.0 == p) as (λ b. (e.0.0 == p) ≡ b → T (below_all key_cmp (q, x.1)
    (map (λ e. ((q, e.0.1), without_seen e.1)) (cond b (e ∷ where_key key_cmp (λ k. k.0 == p) es) (where_key key_cmp (λ k. k.0 == p) es))))) [
      | true ↦ λ is. both _ _ (less_is _ (lower x.0 e.0.0 x.1 e.0.1 at is (is_less _ (both_first _ _ h))))
          (below_copies p q x es at (both_second _ _ h))
      | false ↦ λ is. below_copies p q x es at (both_second _ _ h)
    ] refl
  where
    lower : (a b c d : ℕ) → (a == p) ≡ true → (b == p) ≡ true → key_cmp (a, c) (b, d) ≡ Less → key_cmp (q, c) (q, d) ≡ Less
    lower a b c d e f h = grind (arith, nat_tests)

pub is_sorted-copies : (p q : ℕ) (es : List (Key × Entry)) → T (is_sorted key_cmp es) → T (is_sorted key_cmp (copies p q es))
is_sorted-copies p q [] h = tt
is_sorted-copies p q (e ∷ es) h =
    let rest = is_sorted-copies p q es (both_second _ _ h) in
    elim (e.0.0 == p) as (λ b. (e.0.0 == p) ≡ b → T (is_sorted key_cmp
    (map (λ e. ((q, e.0.1), without_seen e.1)) (cond b (e ∷ where_key key_cmp (λ k. k.0 == p) es) (where_key key_cmp (λ k. k.0 == p) es))))) [
      | true ↦ λ is. both _ _ (below_copies p q e.0 es is (both_first _ _ h)) rest
      | false ↦ λ is. rest
    ] refl

pub find-copies : (p q : ℕ) (k : Key) (es : List (Key × Entry)) →
    find key_cmp k (copies p q es) ≡ cond (k.0 == q) (option_map without_seen (find key_cmp (p, k.1) es)) None
find-copies p q k [] = elim (k.0 == q) as (λ b. ◌≡◌ {A = Option Entry} None (cond b None None)) [ true ↦ refl | false ↦ refl ]
find-copies p q k (e ∷ es) =
    let rest = find-copies p q k es in
    elim (e.0.0 == p) as (λ b. (e.0.0 == p) ≡ b → find key_cmp k (map (λ e. ((q, e.0.1), without_seen e.1))
    (cond b (e ∷ where_key key_cmp (λ k. k.0 == p) es) (where_key key_cmp (λ k. k.0 == p) es))) ≡ cond (k.0 == q)
    (option_map without_seen (cond (same_key (p, k.1) e.0) (Some e.1) (find key_cmp (p, k.1) es))) None) [
      | true ↦ λ is. (λ i. cond (keys k.0 k.1 e.0.0 e.0.1 is i) (Some (without_seen e.1)) (rest i))
          ∙ joined (k.0 == q) (same_key (p, k.1) e.0) (find key_cmp (p, k.1) es)
      | false ↦ λ is. rest ∙ ap (λ b. cond (k.0 == q) (option_map without_seen (cond b (Some e.1) (find key_cmp (p, k.1) es))) None)
          (sym (other e.0.0 e.0.1 k.1 is))
    ] refl
  where
    keys : (a b c d : ℕ) → (c == p) ≡ true → same_key (a, b) (q, d) ≡ (a == q && same_key (p, b) (c, d))
    keys a b c d e = grind (arith, nat_tests)

    other : (c d b : ℕ) → (c == p) ≡ false → same_key (p, b) (c, d) ≡ false
    other c d b e = grind (arith, nat_tests)

    joined : (a b : Bool) (o : Option Entry) → cond (a && b) (Some (without_seen e.1)) (cond a (option_map without_seen o) None) ≡ cond a
        (option_map without_seen (cond b (Some e.1) o)) None
    joined true true o = refl
    joined true false o = refl
    joined false b o = refl

find-going : (goes : List ℕ) (p page : ℕ) (l : Ledger) → find key_cmp (p, page) (going goes l.entries) ≡ handed goes p l page
find-going goes p page l = find-where_key key_cmp (λ (k : Key). is_in k.1 goes) (p, page)
    (λ x t. ap (λ (k : Key). is_in k.1 goes) (sym (same_key-is (p, page) x (ap is_eq t)))) l.entries

-- the child has the entries that go over, unseen; all others are as they were
pub entry-forked : (p q : ℕ) (goes : List ℕ) (l : Ledger) (k : Key) → T (is_sorted key_cmp l.entries) →
    entry (child_ledger p q goes l) k ≡ option_or (cond (k.0 == q) (option_map without_seen (handed goes p l k.1)) None) (entry l k)
entry-forked p q goes l k h =
    ap (λ l. entry l k) (forked-is p q goes l)
    ∙ entry-put_all (copies p q (going goes l.entries)) l k (is_sorted-copies p q (going goes l.entries) (sorted-going goes l.entries h))
    ∙ ap (λ o. option_or o (entry l k)) (find-copies p q k (going goes l.entries))
    ∙ ap (λ x. option_or (cond (k.0 == q) (option_map without_seen x) None) (entry l k)) (find-going goes p k.1 l)

-- ---- counts

count-copies : (t : Entry → Bool) (p q : ℕ) (es : List (Key × Entry)) → ((e : Entry) → t (without_seen e) ≡ t e) →
    entries_with t (copies p q es) ≤ entries_with t es
count-copies t p q [] h = omega arith
count-copies t p q (e ∷ es) h = let rest = count-copies t p q es h in
    elim (e.0.0 == p) as (λ b. entries_with t (map (λ (e : Key × Entry). ((q, e.0.1), without_seen e.1))
    (cond b (e ∷ where_key key_cmp (λ k. k.0 == p) es) (where_key key_cmp (λ k. k.0 == p) es))) ≤ cond (t e.1) 1 0 + entries_with t es) [
      | true ↦ more (t (without_seen e.1)) (t e.1) _ _ (h e.1) rest
      | false ↦ less _ _ _ rest
    ]
  where
    more : (a b : Bool) (n k : ℕ) → a ≡ b → n ≤ k → cond a 1 0 + n ≤ cond b 1 0 + k
    more true true n k e h = omega (arith, h)
    more true false n k e h = cc
    more false b n k e h = omega (arith, h)

    less : (n k x : ℕ) → n ≤ k → n ≤ x + k
    less n k x h = omega (arith, h)

pub unseen-names_frame : (f : ℕ) (e : Entry) → names_frame f (without_seen e) ≡ names_frame f e
unseen-names_frame f Zero = refl
unseen-names_frame f (InFrame g seen) = refl
unseen-names_frame f (InSlot t) = refl

pub unseen-names_slot : (r : Slot) (e : Entry) → names_slot r (without_seen e) ≡ names_slot r e
unseen-names_slot r Zero = refl
unseen-names_slot r (InFrame g seen) = refl
unseen-names_slot r (InSlot t) = refl

-- where the child has no entry before, each that is copied has one that counted
module _ (p q : ℕ) (goes : List ℕ) (l : Ledger) (sorted : T (is_sorted key_cmp l.entries)) (none : (page : ℕ) → entry l (q, page) ≡ None) where
  abbrev ones : List (Key × Entry)
  ones = going goes l.entries

  fresh : (k : Key) (e : Entry) → find key_cmp k (copies p q ones) ≡ Some e → entry l k ≡ None
  fresh k e at = by (k.0 == q) refl (sym (find-copies p q k ones) ∙ at)
    where
      by : (b : Bool) → (k.0 == q) ≡ b → cond b (option_map without_seen (find key_cmp (p, k.1) ones)) None ≡ Some e → entry l k ≡ None
      by true is at = let same : k.0 ≡ q = grind (arith, nat_tests, is) in ap (λ x. entry l (x, k.1)) same ∙ none k.1
      by false is at = cc

  -- how many more there are, of as many at most
  pub record Grows (t : Entry → Bool) : Type 0 where
    pub more : ℕ
    pub few : more ≤ how_many (λ (e : Key × Entry). t e.1) l.entries
    pub count : how_many (λ (e : Key × Entry). t e.1) (put_all (copies p q ones) l).entries ≡ how_many (λ (e : Key × Entry). t e.1)
        l.entries + more

  grows : (t : Entry → Bool) → ((e : Entry) → t (without_seen e) ≡ t e) → Grows t
  grows t same = record {
    more = how_many (λ (e : Key × Entry). t e.1) (copies p q ones);
    few = let a = count-copies t p q ones same in let b = fewer-going t goes l.entries in omega (arith, a, b);
    count = count-put_all t (copies p q ones) l (is_sorted-copies p q ones (sorted-going goes l.entries sorted)) sorted fresh;
  }

  pub frames-grow : (f : ℕ) → Grows (names_frame f)
  frames-grow f = grows (names_frame f) (unseen-names_frame f)

  pub slots-grow : (s : Slot) → Grows (names_slot s)
  slots-grow s = grows (names_slot s) (unseen-names_slot s)
