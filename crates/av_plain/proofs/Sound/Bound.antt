-- At most as many entries name a frame as processes live: each process has one at most.
use Rattle.std.proofs.Common.{◌≡◌, ℕ, zero, suc, ◌+◌, ◌<◌, ◌≤◌, Bool, true, false, cond, not, ◌&&◌, T, List, [], ◌∷◌, length, Option, Some, None, is_some, refl, sym, ap, subst, ◌∙◌, arith, ◌==◌}
use Rattle.std.proofs.lemmas.Bool.Decides.{nat_tests}
use Rattle.std.specs.Ordering.{nat_cmp, eq_by_cmp}
use Rattle.std.specs.FinMap.Entries.{find, is_sorted}
use Rattle.std.proofs.Common.{◌*◌}
use Rattle.av_base.specs.Keys.{Key, key_cmp, same_key}
use Rattle.av_base.proofs.Keys.{keys_total, same_key-is}
use Rattle.av_base.specs.Limits.{most_processes, top_page}
use Rattle.av_base.specs.Words.{how_many}
use Rattle.av_base.specs.declared.slot.Slot.{Slot}
use Rattle.av_plain.specs.Ledger.{Entry, InFrame, InSlot, Ledger, Setting, Zero, entry, map_count, names_frame, names_slot, same_slot, slot_entries}
use Rattle.av_plain.specs.Sound.{AllSound, name_one, IsSoundBut, AtPages, no_excuse}
use Rattle.av_plain.specs.World.{World, lives, pages}
use Rattle.av_plain.proofs.Event.{how_many-none, how_many-or}
use Rattle.av_plain.proofs.Ledger.Order.{both_first, both_second, find_below}
use Rattle.av_plain.proofs.Sound.{no_entries}
use Rattle.av_plain.proofs.Sound.Counts.{same-is, slot-is}
use Rattle.av_plain.specs.Sound.{mergings}

abbrev Entries : Type 0
Entries = List (Key × Entry)

-- what the rest has, the whole has
found-later : (e : Key × Entry) (es : Entries) (q : Key) (d : Entry) → T (is_sorted key_cmp (e ∷ es)) → find key_cmp q es ≡ Some d →
    find key_cmp q (e ∷ es) ≡ Some d
found-later e es q d sorted at = by (same_key q e.0) refl
  where
    never : {o : Option Entry} → o ≡ None → o ≡ Some d → ⊥
    never a b = cc

    by : (b : Bool) → same_key q e.0 ≡ b → cond b (Some e.1) (find key_cmp q es) ≡ Some d
    by true is = absurd (never (find_below keys_total (λ _. true) e.0 es (both_first _ _ sorted))
        (ap (λ k. find key_cmp k es) (sym (same_key-is q e.0 is)) ∙ at))
    by false is = at

-- a key that the front has, the rest has not
not-later : (e : Key × Entry) (es : Entries) (q : Key) (d : Entry) → T (is_sorted key_cmp (e ∷ es)) → find key_cmp q es ≡ Some d → q ≡ e.0 → ⊥
not-later e es q d sorted at same =
    never (find_below keys_total (λ _. true) e.0 es (both_first _ _ sorted)) (ap (λ k. find key_cmp k es) (sym same) ∙ at)
  where
    never : {o : Option Entry} → o ≡ None → o ≡ Some d → ⊥
    never a b = cc

front : (e : Key × Entry) (es : Entries) → find key_cmp e.0 (e ∷ es) ≡ Some e.1
front e es = by (same_key e.0 e.0) (grind (arith, nat_tests))
  where
    by : (b : Bool) → b ≡ true → cond b (Some e.1) (find key_cmp e.0 es) ≡ Some e.1
    by true is = refl
    by false is = cc

-- where no key's entry passes none is counted
pub none-passes : (test : Key × Entry → Bool) (es : Entries) → T (is_sorted key_cmp es) →
    ((q : Key) (d : Entry) → find key_cmp q es ≡ Some d → test (q, d) ≡ false) → how_many test es ≡ 0
none-passes test [] sorted h = refl
none-passes test (e ∷ es) sorted h = sum _ _ (h e.0 e.1 (front e es))
    (none-passes test es (both_second _ _ sorted) (λ q d at. h q d (found-later e es q d sorted at)))
  where
    sum : (b : Bool) (n : ℕ) → b ≡ false → n ≡ 0 → cond b 1 0 + n ≡ 0
    sum b n is z = rw (is, z) refl

-- where all keys that pass are one, one is counted at most
pub one-passes : (test : Key × Entry → Bool) (es : Entries) → T (is_sorted key_cmp es)
    → ((q r : Key) (d e : Entry) → find key_cmp q es ≡ Some d → test (q, d) ≡ true → find key_cmp r es ≡ Some e → test (r, e) ≡ true → q ≡ r) →
    how_many test es ≤ 1
one-passes test [] sorted h = omega arith
one-passes test (e ∷ es) sorted h =
    by (test e) refl (one-passes test es (both_second _ _ sorted) (λ q r d d' at p at' p'. h q r d d' (found-later e es q d sorted at) p
    (found-later e es r d' sorted at') p'))
  where
    fails : test e ≡ true → (q : Key) (d : Entry) → find key_cmp q es ≡ Some d → (b : Bool) → test (q, d) ≡ b → test (q, d) ≡ false
    fails is q d at true p = absurd (not-later e es q d sorted at (h q e.0 d e.1 (found-later e es q d sorted at) p (front e es) is))
    fails is q d at false p = p

    fits : (n : ℕ) → n ≡ 0 → 1 + n ≤ 1
    fits n z = omega (arith, z)

    by : (b : Bool) → test e ≡ b → how_many test es ≤ 1 → cond b 1 0 + how_many test es ≤ 1
    by false is rest = omega (arith, rest)
    by true is rest = let z = none-passes test es (both_second _ _ sorted) (λ q d at. fails is q d at (test (q, d)) refl) in fits _ z

-- ---- counted by process

abbrev of : ℕ → (Key × Entry → Bool) → Key × Entry → Bool
of p test e = test e && e.0.0 == p

abbrev not_of : ℕ → (Key × Entry → Bool) → Key × Entry → Bool
not_of p test e = test e && not (e.0.0 == p)

split : (test : Key × Entry → Bool) (p : ℕ) (es : Entries) → how_many test es ≡ how_many (of p test) es + how_many (not_of p test) es
split test p es = how_many-or (of p test) (not_of p test) test es (λ e. each (test e) (e.0.0 == p))
  where
    each : (a b : Bool) → cond a 1 0 ≡ cond (a && b) 1 0 + cond (a && not b) 1 0
    each true true = omega arith
    each true false = omega arith
    each false b = omega arith

fewer : (s t : Key × Entry → Bool) (es : Entries) → ((e : Key × Entry) → s e ≡ true → t e ≡ true) → how_many s es ≤ how_many t es
fewer s t [] h = omega arith
fewer s t (e ∷ es) h = let rest = fewer s t es h in each (s e) (t e) (h e) _ _ rest
  where
    each : (a b : Bool) → (a ≡ true → b ≡ true) → (n k : ℕ) → n ≤ k → cond a 1 0 + n ≤ cond b 1 0 + k
    each true true i n k r = omega (arith, r)
    each true false i n k r = absurd (never (i refl))
      where
        never : ◌≡◌ {A = Bool} false true → ⊥
        never e = cc
    each false b i n k r = omega (arith, r)

-- where none is counted of any process, none is
none-anywhere : (test : Key × Entry → Bool) (es : Entries) → ((p : ℕ) → how_many (of p test) es ≡ 0) → how_many test es ≡ 0
none-anywhere test [] h = refl
none-anywhere test (e ∷ es) h = sum (test e) (e.0.0 == e.0.0) _ _ (grind (arith, nat_tests)) (h e.0.0) (none-anywhere test es (λ p. rest _ _ (h p)))
  where
    rest : (x n : ℕ) → x + n ≡ 0 → n ≡ 0
    rest x n h = omega (arith, h)

    sum : (a b : Bool) (n k : ℕ) → b ≡ true → cond (a && b) 1 0 + n ≡ 0 → k ≡ 0 → cond a 1 0 + k ≡ 0
    sum true true n k is h z = absurd (omega (arith, h))
    sum true false n k is h z = cc
    sum false b n k is h z = omega (arith, z)

-- so many for each process
abbrev times : ℕ → World → ℕ
times n [] = 0
times n (x ∷ w) = n + times n w

times-one : (w : World) → times 1 w ≡ length w
times-one [] = refl
times-one (x ∷ w) = let rest = times-one w in omega (arith, rest)

-- so many entries a process, and each of a process that lives
counted : (n : ℕ) (test : Key × Entry → Bool) (es : Entries) (w : World) → ((p : ℕ) → how_many (of p test) es ≤ n) →
    ((p : ℕ) → 0 < how_many (of p test) es → lives w p ≡ true) → how_many test es ≤ times n w
counted most test es [] one alive = let z = none-anywhere test es (λ p. none (how_many (of p test) es) (λ h. never (alive p h))) in omega (arith, z)
  where
    never : ◌≡◌ {A = Bool} false true → ⊥
    never e = cc

    none : (n : ℕ) → (0 < n → ⊥) → n ≡ 0
    none zero h = refl
    none (suc n) h = absurd (h (omega arith))
counted most test es (x ∷ w) one alive =
    let parts = split test x.0 es in
    let here = one x.0 in
    let rest = counted most (not_of x.0 test) es w (λ p. let a = less p in let b = one p in omega (arith, a, b))
    (λ p h. later p h (eq_by_cmp nat_cmp p x.0) refl (alive p (let a = less p in omega (arith, a, h)))) in
    sum _ _ _ _ parts here rest
  where
    less : (p : ℕ) → how_many (of p (not_of x.0 test)) es ≤ how_many (of p test) es
    less p = fewer (of p (not_of x.0 test)) (of p test) es (λ e h. each (test e) (e.0.0 == x.0) (e.0.0 == p) h)
      where
        each : (a b c : Bool) → ((a && not b) && c) ≡ true → (a && c) ≡ true
        each true true c h = cc
        each true false c h = h
        each false b c h = cc

    cmp-is : (q p : ℕ) → eq_by_cmp nat_cmp q p ≡ true → q ≡ p
    cmp-is q p h = grind (arith, nat_tests, h)

    later : (p : ℕ) → 0 < how_many (of p (not_of x.0 test)) es → (b : Bool) → eq_by_cmp nat_cmp p x.0 ≡ b →
        is_some (cond b (Some x.1) (find nat_cmp p w)) ≡ true → lives w p ≡ true
    later p h true is some = let z = how_many-none (of p (not_of x.0 test)) es
        (λ e. both (test e) (e.0.0 == x.0) (e.0.0 == p) (ap (λ y. e.0.0 == y) (sym (cmp-is p x.0 is)))) in absurd (omega (arith, h, z))
      where
        both : (a b c : Bool) → b ≡ c → ((a && not b) && c) ≡ false
        both true true c e = refl
        both true false true e = cc
        both true false false e = refl
        both false b c e = refl
    later p h false is some = some

    sum : (n a b k : ℕ) → n ≡ a + b → a ≤ most → b ≤ k → n ≤ most + k
    sum n a b k e h i = omega (arith, e, h, i)

-- ---- of a sound ledger: entries that name one memory two by two

abbrev pub at_entry : (Entry → Bool) → Key × Entry → Bool
at_entry test e = test e.1

abbrev pub NameOne : Ledger → (Entry → Bool) → Type 0
NameOne l test = (d e : Entry) → test d ≡ true → test e ≡ true → name_one l d e ≡ true

first_true : (a b : Bool) → (a && b) ≡ true → a ≡ true
first_true true b h = refl
first_true false b h = cc

second_true : (a b : Bool) → (a && b) ≡ true → b ≡ true
second_true true b h = h
second_true false b h = cc

-- a process has one of them at most
name_one-once : (m : Setting) (x : Slot → ℕ) (l : Ledger) (test : Entry → Bool) (p : ℕ) → IsSoundBut m x l → NameOne l test →
    how_many (of p (at_entry test)) l.entries ≤ 1
name_one-once m x l test p s named_once = one-passes (of p (at_entry test)) l.entries s.in_order
    (λ q r d e at h at' i. same q r (here q r _ _ h i) (s.one q.0 q.1 r.1 d e at (ap (λ x. entry l (x, r.1)) (here q r _ _ h i) ∙ at')
    (named_once d e (first_true _ _ h) (first_true _ _ i))))
  where
    here : (q r : Key) (a b : Bool) → (a && q.0 == p) ≡ true → (b && r.0 == p) ≡ true → q.0 ≡ r.0
    here q r a b h i = same-is q.0 p (second_true a _ h) ∙ sym (same-is r.0 p (second_true b _ i))

    same : (q r : Key) → q.0 ≡ r.0 → q.1 ≡ r.1 → q ≡ r
    same q r h i = λ k. (h k, i k)

-- a process that has an entry lives
counted-lives : (m : Setting) (x : Slot → ℕ) (w : World) (l : Ledger) (test : Entry → Bool) (p : ℕ) → IsSoundBut m x l → AtPages w l →
    0 < how_many (of p (at_entry test)) l.entries → lives w p ≡ true
counted-lives m x w l test p s at_pages h = by (lives w p) refl
  where
    fails : lives w p ≡ false → (q : Key) (d : Entry) → entry l q ≡ Some d → (b : Bool) → (q.0 == p) ≡ b → (test d && b) ≡ false
    fails dead q d at true is = absurd (never (no_entries w l p at_pages dead q.1) (ap (λ x. entry l (x, q.1)) (sym (same-is q.0 p is)) ∙ at))
      where
        never : {o : Option Entry} → o ≡ None → o ≡ Some d → ⊥
        never a b = cc
    fails dead q d at false is = no (test d)
      where
        no : (b : Bool) → (b && false) ≡ false
        no true = refl
        no false = refl

    by : (b : Bool) → lives w p ≡ b → b ≡ true
    by true is = refl
    by false is = let z : how_many (of p (at_entry test)) l.entries ≡ 0 = none-passes (of p (at_entry test)) l.entries s.in_order
        (λ q d at. fails is q d at (q.0 == p) refl) in absurd (omega (arith, h, z))

pub name_one-bound : (m : Setting) (x : Slot → ℕ) (w : World) (l : Ledger) (test : Entry → Bool) → IsSoundBut m x l → AtPages w l → NameOne l test
    → how_many (at_entry test) l.entries ≤ length w
name_one-bound m x w l test s at_pages named_once =
    let one = times-one w in
    let few = counted 1 (at_entry test) l.entries w (λ p. name_one-once m x l test p s named_once)
    (λ p h. counted-lives m x w l test p s at_pages h) in omega (arith, one, few)

-- at most as many entries name a frame that isn't merged as processes live
pub map_count-bound : (m : Setting) (w : World) (l : Ledger) (f : ℕ) → AllSound m w l → mergings l f ≡ 0 → map_count l f ≤ length w
map_count-bound m w l f s unmerged = name_one-bound m no_excuse w l (names_frame f) s.ledger s.at_pages named_once
  where
    named_once : NameOne l (names_frame f)
    named_once Zero e h i = cc
    named_once (InSlot t) e h i = cc
    named_once (InFrame g seen) Zero h i = cc
    named_once (InFrame g seen) (InSlot t) h i = cc
    named_once (InFrame g seen) (InFrame j seen') h i = let z = ap (mergings l) (sym (same-is f g h)) ∙ unmerged in grind (arith, nat_tests, h, i, z)

-- and as many a slot
pub slot_entries-bound : (m : Setting) (w : World) (l : Ledger) (t : Slot) → AllSound m w l → slot_entries l t ≤ length w
slot_entries-bound m w l t s = name_one-bound m no_excuse w l (names_slot t) s.ledger s.at_pages named_once
  where
    named_once : NameOne l (names_slot t)
    named_once Zero e h i = cc
    named_once (InFrame g seen) e h i = cc
    named_once (InSlot r) Zero h i = cc
    named_once (InSlot r) (InFrame g seen) h i = cc
    named_once (InSlot r) (InSlot q) h i = subst (λ y. same_slot y q ≡ true) (slot-is t r h) i

pub map_count-few : (m : Setting) (w : World) (l : Ledger) (f : ℕ) → AllSound m w l → mergings l f ≡ 0 → map_count l f ≤ most_processes
map_count-few m w l f s unmerged = let a = map_count-bound m w l f s unmerged in let b = s.world.few in omega (arith, a, b)

pub slot_entries-few : (m : Setting) (w : World) (l : Ledger) (t : Slot) → AllSound m w l → slot_entries l t ≤ most_processes
slot_entries-few m w l t s = let a = slot_entries-bound m w l t s in let b = s.world.few in omega (arith, a, b)

-- ---- of any frame: as many as pages of all processes

abbrev on_page : ℕ → (Key × Entry → Bool) → Key × Entry → Bool
on_page x test e = test e && e.0.1 == x

abbrev off_page : ℕ → (Key × Entry → Bool) → Key × Entry → Bool
off_page x test e = test e && not (e.0.1 == x)

-- as many as numbers that pages may have, where each page has one at most
by-page : (n : ℕ) (test : Key × Entry → Bool) (es : Entries) → T (is_sorted key_cmp es)
    → ((q : Key) (d : Entry) → find key_cmp q es ≡ Some d → test (q, d) ≡ true → q.1 < n)
    → ((x : ℕ) → how_many (on_page x test) es ≤ 1) → how_many test es ≤ n
by-page zero test es sorted low one = let z = none-passes test es sorted (λ q d at. fails q d at (test (q, d)) refl) in omega (arith, z)
  where
    fails : (q : Key) (d : Entry) → find key_cmp q es ≡ Some d → (b : Bool) → test (q, d) ≡ b → b ≡ false
    fails q d at true is = let h = low q d at is in absurd (omega (arith, h))
    fails q d at false is = refl
by-page (suc n) test es sorted low one =
    let parts = how_many-or (on_page n test) (off_page n test) test es (λ e. each (test e) (e.0.1 == n)) in
    let here = one n in
    let rest = by-page n (off_page n test) es sorted (λ q d at h. lower q.1 (low q d at (first_true _ _ h)) (second_true (test (q, d)) _ h))
    (λ x. let few = fewer (on_page x (off_page n test)) (on_page x test) es (λ e h. both (test e) (not (e.0.1 == n)) (e.0.1 == x) h) in
    let o = one x in omega (arith, few, o)) in
    omega (arith, parts, here, rest)
  where
    each : (a b : Bool) → cond a 1 0 ≡ cond (a && b) 1 0 + cond (a && not b) 1 0
    each true true = omega arith
    each true false = omega arith
    each false b = omega arith

    both : (a b c : Bool) → ((a && b) && c) ≡ true → (a && c) ≡ true
    both true true c h = h
    both true false c h = cc
    both false b c h = cc

    lower : (x : ℕ) → x < suc n → not (x == n) ≡ true → x < n
    lower x h other = by (x == n) refl other
      where
        by : (b : Bool) → (x == n) ≡ b → not b ≡ true → x < n
        by true is e = cc
        by false is e = grind (arith, nat_tests, is, h)

-- a process has as many as it may have pages at most
process-few : (m : Setting) (w : World) (l : Ledger) (test : Entry → Bool) (p : ℕ) → AllSound m w l
    → ((q page : ℕ) → is_some (pages w q page) ≡ true → page < top_page) → how_many (of p (at_entry test)) l.entries ≤ top_page
process-few m w l test p s below = by-page top_page (of p (at_entry test)) l.entries s.ledger.in_order
    (λ q d at h. below q.0 q.1 (s.at_pages q.0 q.1 (ap is_some at)))
    (λ x. one-passes (on_page x (of p (at_entry test))) l.entries s.ledger.in_order (λ q r d e at h at' i. same q r
    (here q.0 r.0 p (test d) (test e) (first_true _ _ h) (first_true _ _ i))
    (page q.1 r.1 x (second_true (test d && q.0 == p) _ h) (second_true (test e && r.0 == p) _ i))))
  where
    here : (a b p : ℕ) (x y : Bool) → (x && a == p) ≡ true → (y && b == p) ≡ true → a ≡ b
    here a b p x y h i = same-is a p (second_true x _ h) ∙ sym (same-is b p (second_true y _ i))

    page : (a b x : ℕ) → (a == x) ≡ true → (b == x) ≡ true → a ≡ b
    page a b x h i = same-is a x h ∙ sym (same-is b x i)

    same : (q r : Key) → q.0 ≡ r.0 → q.1 ≡ r.1 → q ≡ r
    same q r h i = λ k. (h k, i k)

times-few : (w : World) → times top_page w ≤ length w * top_page
times-few [] = omega arith
times-few (x ∷ w) = let rest = times-few w in omega (arith, rest)

-- at most so many entries name a frame, where the pages of a process are below the topmost
pub map_count-all : (m : Setting) (w : World) (l : Ledger) (f : ℕ) → AllSound m w l
    → ((q page : ℕ) → is_some (pages w q page) ≡ true → page < top_page) → map_count l f ≤ length w * top_page
map_count-all m w l f s below =
    let few = counted top_page (at_entry (names_frame f)) l.entries w (λ p. process-few m w l (names_frame f) p s below)
    (λ p h. counted-lives m no_excuse w l (names_frame f) p s.ledger s.at_pages h) in
    let all = times-few w in
    omega (arith, few, all)

pub map_count-pages : (m : Setting) (w : World) (l : Ledger) (f : ℕ) → AllSound m w l
    → ((q page : ℕ) → is_some (pages w q page) ≡ true → page < top_page) → map_count l f ≤ most_processes * top_page
map_count-pages m w l f s below = let all = map_count-all m w l f s below in let living = s.world.few in omega (arith, all, living)
