-- Entries taken away, from the least key on: what is left, and what goes with an entry.
use Rattle.std.proofs.Common.{◌≡◌, ℕ, ◌+◌, ◌-◌, ◌<◌, ◌≤◌, Bool, true, false, cond, not, ◌&&◌, ◌||◌, T, List, [], ◌∷◌, ◌++◌, map, filter, Option, Some, None, is_some, refl, sym, ap, subst, ◌∙◌, arith, ◌==◌}
use Rattle.std.proofs.lemmas.Bool.Decides.{nat_tests}
use Rattle.std.proofs.lemmas.Bool.{false≢true}
use Rattle.std.specs.List.{list_any}
use Rattle.std.specs.declared.cmp.Ordering.TheVariants.{Less}
use Rattle.std.specs.Ordering.{is_eq}
use Rattle.std.specs.FinMap.Entries.{find, where_key, is_sorted, find-where_key, is_sorted-where_key}
use Rattle.av_base.specs.Keys.{Key, key_cmp, same_key}
use Rattle.av_base.proofs.Keys.{keys_total, same_key-is, same_key-itself}
use Rattle.av_base.specs.declared.slot.Slot.{Slot}
use Rattle.av_base.specs.Words.{how_many, within}
use Rattle.av_trace.specs.declared.note.Note.TheVariants.{Dropped}
use Rattle.av_plain.specs.Ledger.{Ledger, Entry, Zero, InFrame, InSlot, entry, map_count, slot_entries, names_frame, names_slot, is_free, is_orphan, frame_at, slot_of}
use Rattle.av_plain.specs.Event.{Zapped, after, after_all, settle, settle_entry, off_lists, off_cache, if_some, frame_of, after_zap, when, note_events}
use Rattle.av_plain.specs.Zap.{keys_of_process, keys_in, orphan_drop, slot_behind_key, zap_of, zaps_of}
use Rattle.av_plain.proofs.Ledger.Order.{weight, count-without}
use Rattle.av_plain.proofs.Ledger.{how_many-found}
use Rattle.av_plain.proofs.Event.{keys_from_least}
use Rattle.av_plain.proofs.Access.{after_all-append}
use Rattle.av_plain.proofs.Sound.Counts.{same-itself, slot-itself}

-- ---- the ledger without an entry

-- the entry has gone, and its frame is not settled yet
abbrev pub leaving : Key → Ledger → Ledger
leaving k l = record l { entries = where_key key_cmp (λ q. not (same_key k q)) l.entries }

test_same : (k q : Key) → same_key k q ≡ (k.0 == q.0 && k.1 == q.1)
test_same k q = grind (arith, nat_tests)

-- an entry is taken: it leaves, and its frame is settled
pub after_zap-is : (k : Key) (l : Ledger) → after_zap k l ≡ settle_entry (entry l k) (leaving k l)
after_zap-is k l = ap (λ (test : Key → Bool). settle_entry (entry l k) (record l { entries = where_key key_cmp (λ q. not (test q)) l.entries }))
    (λ i q. sym (test_same k q) i)

pub entry-leaving : (k q : Key) (l : Ledger) → entry (leaving k l) q ≡ cond (same_key k q) None (entry l q)
entry-leaving k q l =
    find-where_key key_cmp (λ x. not (same_key k x)) q (λ x t. ap (λ y. not (same_key k y)) (sym (same_key-is q x (ap is_eq t)))) l.entries
    ∙ turned (same_key k q) (entry l q)
  where
    turned : (b : Bool) (o : Option Entry) → cond (not b) o None ≡ cond b None o
    turned true o = refl
    turned false o = refl

pub map_count-leaving : (k : Key) (l : Ledger) (f : ℕ) → T (is_sorted key_cmp l.entries) →
    map_count l f ≡ map_count (leaving k l) f + weight (names_frame f) (entry l k)
map_count-leaving k l f h = count-without keys_total (names_frame f) k l.entries h

pub slot_entries-leaving : (k : Key) (l : Ledger) (s : Slot) → T (is_sorted key_cmp l.entries) →
    slot_entries l s ≡ slot_entries (leaving k l) s + weight (names_slot s) (entry l k)
slot_entries-leaving k l s h = count-without keys_total (names_slot s) k l.entries h

-- ---- settling and dropping leave the entries

entries-settle : (f : ℕ) (l : Ledger) → (settle f l).entries ≡ l.entries
entries-settle f l = elim (is_free l f) as (λ b. (cond b (off_lists f l) l).entries ≡ l.entries) [ true ↦ refl | false ↦ refl ]

entries-at : (o : Option ℕ) (l : Ledger) → (if_some o settle l).entries ≡ l.entries
entries-at None l = refl
entries-at (Some f) l = entries-settle f l

entries-settle_entry : (o : Option Entry) (l : Ledger) → (settle_entry o l).entries ≡ l.entries
entries-settle_entry None l = refl
entries-settle_entry (Some e) l = entries-at (frame_of e) l

pub entries-after_zap : (k : Key) (l : Ledger) → (after_zap k l).entries ≡ (leaving k l).entries
entries-after_zap k l = ap (λ (x : Ledger). x.entries) (after_zap-is k l) ∙ entries-settle_entry (entry l k) (leaving k l)

entries-drops : (l : Ledger) (o : Option Slot) → (after_all l (orphan_drop l o)).entries ≡ l.entries
entries-drops l None = refl
entries-drops l (Some s) = elim (is_orphan l s) as (λ b. (after_all l (note_events (when b (Dropped s)))).entries ≡ l.entries) [
  | true ↦ entries-at (frame_at l s) (off_cache s l)
  | false ↦ refl
]

pub entries-zap_of : (l : Ledger) (k : Key) → (after_all l (zap_of l k)).entries ≡ (leaving k l).entries
entries-zap_of l k = entries-drops (after_zap k l) (slot_behind_key l (entry l k)) ∙ entries-after_zap k l

-- ---- what is left of a key, and of the counts

pub entry-after_zap : (k : Key) (l : Ledger) (q : Key) → entry (after_zap k l) q ≡ cond (same_key k q) None (entry l q)
entry-after_zap k l q = ap (find key_cmp q) (entries-after_zap k l) ∙ entry-leaving k q l

pub map_count-after_zap : (k : Key) (l : Ledger) (f : ℕ) → T (is_sorted key_cmp l.entries) →
    map_count l f ≡ map_count (after_zap k l) f + weight (names_frame f) (entry l k)
map_count-after_zap k l f h = map_count-leaving k l f h
    ∙ ap (λ es. how_many (λ (e : Key × Entry). names_frame f e.1) es + weight (names_frame f) (entry l k))
    (sym (entries-after_zap k l))

pub slot_entries-after_zap : (k : Key) (l : Ledger) (s : Slot) → T (is_sorted key_cmp l.entries) →
    slot_entries l s ≡ slot_entries (after_zap k l) s + weight (names_slot s) (entry l k)
slot_entries-after_zap k l s h = slot_entries-leaving k l s h ∙ ap (λ es. how_many (λ (e : Key × Entry). names_slot s e.1) es + weight (names_slot s)
    (entry l k)) (sym (entries-after_zap k l))

pub in_order-after_zap : (k : Key) (l : Ledger) → T (is_sorted key_cmp l.entries) → T (is_sorted key_cmp (after_zap k l).entries)
in_order-after_zap k l h = subst (λ es. T (is_sorted key_cmp es)) (sym (entries-after_zap k l))
    (is_sorted-where_key key_cmp (λ q. not (same_key k q)) l.entries h)

-- the cache, flight and the areas that are on stay
pub record SameSwap (l l' : Ledger) : Type 0 where
  pub cache : l'.cache ≡ l.cache
  pub flight : l'.flight ≡ l.flight
  pub on : l'.on ≡ l.on

same_settled : (o : Option ℕ) (l : Ledger) → SameSwap l (if_some o settle l)
same_settled None l = record { cache = refl; flight = refl; on = refl }
same_settled (Some f) l = by (is_free l f)
  where
    by : (b : Bool) → SameSwap l (cond b (off_lists f l) l)
    by true = record { cache = refl; flight = refl; on = refl }
    by false = record { cache = refl; flight = refl; on = refl }

pub same_swap-after_zap : (k : Key) (l : Ledger) → SameSwap l (after_zap k l)
same_swap-after_zap k l = subst (SameSwap l) (sym (after_zap-is k l)) (by (entry l k))
  where
    of_leaving : (l' : Ledger) → SameSwap (leaving k l) l' → SameSwap l l'
    of_leaving l' s = record { cache = s.cache; flight = s.flight; on = s.on }

    by : (o : Option Entry) → SameSwap l (settle_entry o (leaving k l))
    by None = of_leaving (leaving k l) (record { cache = refl; flight = refl; on = refl })
    by (Some e) = of_leaving (if_some (frame_of e) settle (leaving k l)) (same_settled (frame_of e) (leaving k l))

-- an entry that names no frame leaves, and no more
pub after_zap-blank : (k : Key) (l : Ledger) (e : Entry) → entry l k ≡ Some e → frame_of e ≡ None → after_zap k l ≡ leaving k l
after_zap-blank k l e is none = after_zap-is k l ∙ ap (λ o. settle_entry o (leaving k l)) is ∙ ap (λ o. if_some o settle (leaving k l)) none

-- the frame of an entry leaves its list exactly where it is free then
pub after_zap-frame : (k : Key) (l : Ledger) (f : ℕ) (seen : Bool) → entry l k ≡ Some (InFrame f seen) →
    after_zap k l ≡ cond (is_free (leaving k l) f) (off_lists f (leaving k l)) (leaving k l)
after_zap-frame k l f seen is = after_zap-is k l ∙ ap (λ o. settle_entry o (leaving k l)) is

-- ---- entries that go in order

pub entry-zap_of : (l : Ledger) (k q : Key) → entry (after_all l (zap_of l k)) q ≡ cond (same_key k q) None (entry l q)
entry-zap_of l k q = ap (find key_cmp q) (entries-zap_of l k) ∙ entry-leaving k q l

same_turned : (k q : Key) → same_key k q ≡ same_key q k
same_turned k q = grind (arith, nat_tests)

pub entry-zaps_of : (l : Ledger) (ks : List Key) (q : Key) → entry (after_all l (zaps_of l ks)) q ≡ cond (list_any (same_key q) ks) None (entry l q)
entry-zaps_of l [] q = refl
entry-zaps_of l (k ∷ ks) q =
    ap (λ x. entry x q) (after_all-append l (zap_of l k) (zaps_of (after_all l (zap_of l k)) ks)) ∙ entry-zaps_of (after_all l (zap_of l k)) ks q
    ∙ ap (cond (list_any (same_key q) ks) None) (entry-zap_of l k q ∙ ap (λ b. cond b None (entry l q)) (same_turned k q))
    ∙ both (same_key q k) (list_any (same_key q) ks) (entry l q)
  where
    both : (a b : Bool) (o : Option Entry) → cond b None (cond a None o) ≡ cond (a || b) None o
    both true true o = refl
    both true false o = refl
    both false b o = refl

-- the keys that pass, by rising key
abbrev pub keys_that : (Key → Bool) → Ledger → List Key
keys_that test l = filter test (map (λ (e : Key × Entry). e.0) l.entries)

-- two tests that agree on the keys with entries pass the same ones
pub same-keys : (test other : Key → Bool) (l : Ledger) → ((k : Key) → is_some (entry l k) ≡ true → test k ≡ other k)
    → keys_that test l ≡ keys_that other l
same-keys test other l h = same l.entries h
  where
    here : (e : Key × Entry) (es : List (Key × Entry)) → is_some (find key_cmp e.0 (e ∷ es)) ≡ true
    here e es = ap (λ b. is_some (cond b (Some e.1) (find key_cmp e.0 es))) (same_key-itself e.0)

    later : (x : Entry) (o : Option Entry) (b : Bool) → is_some o ≡ true → is_some (cond b (Some x) o) ≡ true
    later x o true h = refl
    later x o false h = h

    same : (es : List (Key × Entry)) → ((k : Key) → is_some (find key_cmp k es) ≡ true → test k ≡ other k) →
        filter test (map (λ (e : Key × Entry). e.0) es) ≡ filter other (map (λ (e : Key × Entry). e.0) es)
    same [] h = refl
    same (e ∷ es) h = λ i. cond (h e.0 (here e es) i) (e.0 ∷ same es (λ k some. h k (later e.1 (find key_cmp k es) (same_key k e.0) some)) i)
        (same es (λ k some. h k (later e.1 (find key_cmp k es) (same_key k e.0) some)) i)

-- no key that passes has an entry: then none goes
pub none_that : (test : Key → Bool) (l : Ledger) → ((k : Key) → test k ≡ true → entry l k ≡ None) → keys_that test l ≡ []
none_that test l h = same-keys test (λ k. false) l (λ k some. fails (test k) (entry l k) some (h k)) ∙ none (map (λ (e : Key × Entry). e.0) l.entries)
  where
    fails : (b : Bool) (o : Option Entry) → is_some o ≡ true → (b ≡ true → o ≡ None) → b ≡ false
    fails true o some h = sym some ∙ ap is_some (h refl)
    fails false o some h = refl

    none : (ks : List Key) → filter (λ k. false) ks ≡ []
    none [] = refl
    none (k ∷ ks) = none ks

-- where k is the least key that passes and has an entry, it goes first, and the rest is the same of what it leaves
pub zaps_of-least : (test : Key → Bool) (l : Ledger) (k : Key) (e : Entry) → T (is_sorted key_cmp l.entries) → entry l k ≡ Some e → test k ≡ true
    → ((q : Key) → key_cmp q k ≡ Less → test q ≡ true → entry l q ≡ None)
    → zaps_of l (keys_that test l) ≡ zap_of l k ++ zaps_of (after_all l (zap_of l k)) (keys_that test (after_all l (zap_of l k)))
zaps_of-least test l k e sorted is passes least =
    ap (zaps_of l) (keys_from_least keys_total test k e l.entries (λ x y t. same_key-is x y (ap is_eq t)) sorted is passes least)
    ∙ ap (λ es. zap_of l k ++ zaps_of (after_all l (zap_of l k)) (filter test (map (λ (e : Key × Entry). e.0) es))) (sym (entries-zap_of l k))

-- a key is among those that pass where it passes and has an entry
pub listed-that : (test : Key → Bool) (l : Ledger) (q : Key) → list_any (same_key q) (keys_that test l) ≡ (test q && is_some (entry l q))
listed-that test l q = passing (map (λ (e : Key × Entry). e.0) l.entries) ∙ ap (λ b. test q && b) (found l.entries)
  where
    merged : (b c t r : Bool) → (c ≡ true → b ≡ t) → (b && c || t && r) ≡ (t && (c || r))
    merged true true true r h = refl
    merged true true false r h = absurd (false≢true (sym (h refl)))
    merged false true true r h = absurd (false≢true (h refl))
    merged false true false r h = refl
    merged true false t r h = refl
    merged false false t r h = refl

    none : (b : Bool) → false ≡ (b && false)
    none true = refl
    none false = refl

    passing : (ks : List Key) → list_any (same_key q) (filter test ks) ≡ (test q && list_any (same_key q) ks)
    passing [] = none (test q)
    passing (k ∷ ks) = front (test k) ∙ ap (λ x. test k && same_key q k || x) (passing ks)
        ∙ merged (test k) (same_key q k) (test q) (list_any (same_key q) ks)
        (λ is. ap test (sym (same_key-is q k is)))
      where
        front : (b : Bool) → list_any (same_key q) (cond b (k ∷ filter test ks) (filter test ks))
            ≡ (b && same_key q k || list_any (same_key q) (filter test ks))
        front true = refl
        front false = refl

    found : (es : List (Key × Entry)) → list_any (same_key q) (map (λ (e : Key × Entry). e.0) es) ≡ is_some (find key_cmp q es)
    found [] = refl
    found (e ∷ es) = elim (same_key q e.0) as (λ b. (b || list_any (same_key q) (map (λ (e : Key × Entry). e.0) es)) ≡ is_some
        (cond b (Some e.1) (find key_cmp q es))) [ true ↦ refl | false ↦ found es ]

-- afterwards a key that passes has no entry, and the others' entries stay
pub entry-that : (test : Key → Bool) (l : Ledger) (q : Key) → entry (after_all l (zaps_of l (keys_that test l))) q ≡ cond (test q) None (entry l q)
entry-that test l q = entry-zaps_of l (keys_that test l) q ∙ ap (λ b. cond b None (entry l q)) (listed-that test l q) ∙ gone (test q) (entry l q)
  where
    gone : (b : Bool) (o : Option Entry) → cond (b && is_some o) None o ≡ cond b None o
    gone true None = refl
    gone true (Some e) = refl
    gone false o = refl

-- ---- the entries of a process

-- a process without entries has none taken
pub exit-done : (l : Ledger) (p : ℕ) → ((page : ℕ) → entry l (p, page) ≡ None) → zaps_of l (keys_of_process l p) ≡ []
exit-done l p none = ap (zaps_of l) (none_that (λ k. k.0 == p) l (λ k t. let same : k.0 ≡ p = grind (arith, nat_tests) in
    subst (λ x. entry l (x, k.1) ≡ None) (sym same) (none k.1)))

-- the entry of its least page goes first
pub exit-least : (l : Ledger) (p page : ℕ) (e : Entry) → T (is_sorted key_cmp l.entries) → entry l (p, page) ≡ Some e →
    ((q : ℕ) → q < page → entry l (p, q) ≡ None)
    → zaps_of l (keys_of_process l p) ≡ (let now = after_all l (zap_of l (p, page)) in zap_of l (p, page) ++ zaps_of now (keys_of_process now p))
exit-least l p page e sorted is least = zaps_of-least (λ k. k.0 == p) l (p, page) e sorted is (itself p) by_page
  where
    itself : (p : ℕ) → (p == p) ≡ true
    itself p = grind (arith, nat_tests)

    by_page : (q : Key) → key_cmp q (p, page) ≡ Less → (q.0 == p) ≡ true → entry l q ≡ None
    by_page q less t =
        let same : q.0 ≡ p = grind (arith, nat_tests) in
        let under : q.1 < page = grind (arith, nat_tests) in
        subst (λ x. entry l (x, q.1) ≡ None) (sym same) (least q.1 under)

-- afterwards it has none, and the others' entries stay
pub entry-ended : (l : Ledger) (p page : ℕ) → entry (after_all l (zaps_of l (keys_of_process l p))) (p, page) ≡ None
entry-ended l p page = entry-that (λ k. k.0 == p) l (p, page) ∙ ap (λ b. cond b None (entry l (p, page))) (same-itself p)

pub entry-others : (l : Ledger) (p q page : ℕ) → (q == p) ≡ false
    → entry (after_all l (zaps_of l (keys_of_process l p))) (q, page) ≡ entry l (q, page)
entry-others l p q page other = entry-that (λ k. k.0 == p) l (q, page) ∙ ap (λ b. cond b None (entry l (q, page))) other

-- ---- the entries of a range

-- whether a key is the process's, at one of the n pages from `from` on
abbrev pub in_range : ℕ → ℕ → ℕ → Key → Bool
in_range p from n k = k.0 == p && within from n k.1

-- the keys of a range are those that pass this test
pub keys_in-is : (l : Ledger) (p from n : ℕ) → keys_in l p from n ≡ keys_that (in_range p from n) l
keys_in-is l p from n = both (map (λ (e : Key × Entry). e.0) l.entries)
  where
    either : (k : Key) (ks fs : List Key) (a : Bool) → filter (λ k. within from n k.1) ks ≡ fs
        → filter (λ k. within from n k.1) (cond a (k ∷ ks) ks) ≡ cond
        (a && within from n k.1) (k ∷ fs) fs
    either k ks fs true h = ap (λ x. cond (within from n k.1) (k ∷ x) x) h
    either k ks fs false h = h

    both : (ks : List Key) → filter (λ k. within from n k.1) (filter (λ k. k.0 == p) ks) ≡ filter (in_range p from n) ks
    both [] = refl
    both (k ∷ ks) = either k (filter (λ k. k.0 == p) ks) (filter (in_range p from n) ks) (k.0 == p) (both ks)

-- its members are the process's keys of the range that have an entry
pub keys_in-has : (l : Ledger) (p from n q page : ℕ) → list_any (same_key (q, page))
    (keys_in l p from n) ≡ ((q == p && within from n page) && is_some (entry l (q, page)))
keys_in-has l p from n q page = ap (list_any (same_key (q, page))) (keys_in-is l p from n) ∙ listed-that (in_range p from n) l (q, page)

in_range-is : (p from n : ℕ) (k : Key) → in_range p from n k ≡ true → (k.0 ≡ p) × (within from n k.1 ≡ true)
in_range-is p from n k h = (same, inside)
  where
    same : k.0 ≡ p
    same = grind (arith, nat_tests, h)

    inside : within from n k.1 ≡ true
    inside = grind (arith, nat_tests, h)

-- a range without entries has none, and none is taken
pub range-empty : (l : Ledger) (p from n : ℕ) → ((page : ℕ) → within from n page ≡ true → entry l (p, page) ≡ None) → keys_in l p from n ≡ []
range-empty l p from n none = keys_in-is l p from n ∙ none_that (in_range p from n) l (λ k t. let is = in_range-is p from n k t in
    subst (λ x. entry l (x, k.1) ≡ None) (sym is.0) (none k.1 is.1))

pub range-done : (l : Ledger) (p from n : ℕ) → ((page : ℕ) → within from n page ≡ true → entry l (p, page) ≡ None)
    → zaps_of l (keys_in l p from n) ≡ []
range-done l p from n none = ap (zaps_of l) (range-empty l p from n none)

-- the entry of its least page goes first
pub range-least : (l : Ledger) (p from n page : ℕ) (e : Entry) → T (is_sorted key_cmp l.entries) → entry l (p, page) ≡ Some e
    → within from n page ≡ true →
    ((q : ℕ) → from ≤ q → q < page → entry l (p, q) ≡ None)
    → zaps_of l (keys_in l p from n) ≡ (let now = after_all l (zap_of l (p, page)) in zap_of l (p, page) ++ zaps_of now (keys_in now p from n))
range-least l p from n page e sorted is inside least =
    let now = after_all l (zap_of l (p, page)) in
    ap (zaps_of l) (keys_in-is l p from n) ∙ zaps_of-least (in_range p from n) l (p, page) e sorted is (passes inside) by_page
    ∙ ap (λ ks. zap_of l (p, page) ++ zaps_of now ks) (sym (keys_in-is now p from n))
  where
    passes : within from n page ≡ true → in_range p from n (p, page) ≡ true
    passes h = grind (arith, nat_tests, h)

    by_page : (q : Key) → key_cmp q (p, page) ≡ Less → in_range p from n q ≡ true → entry l q ≡ None
    by_page q less t =
        let ends = in_range-is p from n q t in
        let under : q.1 < page = grind (arith, nat_tests, less, ends.0) in
        let above : from ≤ q.1 = grind (arith, nat_tests, ends.1) in
        subst (λ x. entry l (x, q.1) ≡ None) (sym ends.0) (least q.1 above under)

-- afterwards it has none, and the other entries stay
pub entry-range : (l : Ledger) (p from n q page : ℕ) → entry (after_all l (zaps_of l (keys_in l p from n))) (q, page) ≡ cond
    (q == p && within from n page) None (entry l (q, page))
entry-range l p from n q page = ap (λ ks. entry (after_all l (zaps_of l ks)) (q, page)) (keys_in-is l p from n)
    ∙ entry-that (in_range p from n) l (q, page)

-- where its first k pages have no entry, a range begins behind them
pub range-behind : (l : Ledger) (p from n k : ℕ) → k ≤ n → ((page : ℕ) → from ≤ page → page < from + k → entry l (p, page) ≡ None) →
    keys_in l p from n ≡ keys_in l p (from + k) (n - k)
range-behind l p from n k few none = keys_in-is l p from n ∙ same-keys (in_range p from n) (in_range p (from + k) (n - k)) l
    (λ q some. alike q (in_range p from k q) refl some) ∙ sym (keys_in-is l p (from + k) (n - k))
  where
    never : (o : Option Entry) → o ≡ None → is_some o ≡ true → ⊥
    never o e h = cc

    alike : (q : Key) (b : Bool) → in_range p from k q ≡ b → is_some (entry l q) ≡ true → in_range p from n q ≡ in_range p (from + k) (n - k) q
    alike q true is some =
        let ends = in_range-is p from k q is in
        let low : from ≤ q.1 = grind (arith, nat_tests, ends.1) in
        let high : q.1 < from + k = grind (arith, nat_tests, ends.1) in
        absurd (never (entry l q) (subst (λ x. entry l (x, q.1) ≡ None) (sym ends.0) (none q.1 low high)) some)
    alike q false is some = grind (arith, nat_tests, is, few)

-- where all its entries lie below a page, a process is the range up to there
pub exit-is-range : (l : Ledger) (p n : ℕ) → ((page : ℕ) → is_some (entry l (p, page)) ≡ true → page < n) → keys_of_process l p ≡ keys_in l p 0 n
exit-is-range l p n below = same-keys (λ k. k.0 == p) (in_range p 0 n) l (λ k some. alike k (k.0 == p) refl some) ∙ sym (keys_in-is l p 0 n)
  where
    alike : (k : Key) (b : Bool) → (k.0 == p) ≡ b → is_some (entry l k) ≡ true → (k.0 == p) ≡ in_range p 0 n k
    alike k true is some =
        let same : k.0 ≡ p = grind (arith, nat_tests, is) in
        let under = below k.1 (subst (λ x. is_some (entry l (x, k.1)) ≡ true) same some) in
        grind (arith, nat_tests, is, under)
    alike k false is some = grind (arith, nat_tests, is)

-- ---- without swap

-- where nothing is cached and no entry names a slot, an entry that goes drops none
pub zap_of-alone : (l : Ledger) (k : Key) → l.cache ≡ [] → ((s : Slot) → slot_entries l s ≡ 0) → zap_of l k ≡ Zapped k ∷ []
zap_of-alone l k cache none = ap (λ o. Zapped k ∷ orphan_drop (after l (Zapped k)) o) (behind (entry l k) refl)
  where
    behind : (o : Option Entry) → entry l k ≡ o → slot_behind_key l o ≡ None
    behind None is = refl
    behind (Some Zero) is = refl
    behind (Some (InFrame f seen)) is = ap (λ c. slot_of (record l { cache = c }) f) cache
    behind (Some (InSlot s)) is = let some = how_many-found (names_slot s) k l.entries (InSlot s) is (slot-itself s) in let zero = none s in
        absurd (omega (arith, some, zero))
