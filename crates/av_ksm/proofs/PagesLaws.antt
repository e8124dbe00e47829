-- The next page with an entry: in a list of entries in order, and in what the memory system stands for.
use Rattle.std.proofs.Common.{◌≡◌, ℕ, ◌+◌, ◌^◌, ◌<◌, ◌≤◌, ◌⊎◌, ◌*◌, ◌-◌, inl, inr, Bool, true, false, cond, not, ◌&&◌, T, List, [], ◌∷◌, map, Option, Some, None, is_some, option_map, refl, sym, ap, subst, ◌∙◌, arith}
use Rattle.std.proofs.lemmas.Bool.{cases_order, false≢true}
use Rattle.std.proofs.lemmas.Bool.Decides.{nat_tests}
use Rattle.std.specs.FinMap.Entries.{below_all, find, is_sorted}
use Rattle.std.specs.Ordering.{is_lt}
use Rattle.std.specs.Prelude.{IfSome}
use Rattle.av_base.specs.Keys.{Key, key_cmp, same_key}
use Rattle.av_base.proofs.Keys.{same_key-is, same_key-itself}
use Rattle.av_pagetable.specs.Entries.{entry_at, has}
use Rattle.av_pagetable.specs.Table.{page_bound}
use Rattle.av_pagetable.proofs.Entries.{none_there}
use Rattle.av_pagetable.specs.declared.pte.Pte.{Pte as Table}
use Rattle.av_pagetable.specs.declared.pte.Pte.TheVariants.{Away, Empty, Here, Zero}
use Rattle.av_plain.specs.Areas.{Rmap}
use Rattle.av_plain.specs.Device.{Device}
use Rattle.av_plain.specs.Ledger.{Ledger, entry}
use Rattle.av_plain.specs.Report.{range_of}
use Rattle.av_plain.specs.Stands.{entry_of}
use Rattle.av_plain.specs.World.{World}
use Rattle.av_spaces.specs.Spaces.{areas_of}
use Rattle.av_vma.specs.declared.area.Area.{Area}
use Rattle.av_mem.specs.declared.mem.Mem.{Mem}
use Rattle.av_mem.specs.Between.{KeepsBetween}
use Rattle.av_mem.specs.Mem.{plain, ranges_of}
use Rattle.av_ksm.specs.Pages.{IsNextEntry, IsNextKey, is_before, keys_from}

-- ---- in entries in order

both_first : (a b : Bool) → T (a && b) → T a
both_first true b h = tt
both_first false b h = h

both_second : (a b : Bool) → T (a && b) → T b
both_second true b h = h
both_second false b h = absurd h

is_true : (b : Bool) → T b → b ≡ true
is_true true h = refl
is_true false h = absurd h

-- the order of keys is that of entries
below-is : (k q : Key) → is_lt (key_cmp k q) ≡ true → is_before k q ≡ true
below-is k q h = grind (arith, nat_tests, h)

itself-not : (k : Key) → is_before k k ≡ false
itself-not k = grind (arith, nat_tests)

before-on : (a b c : Key) → is_before a b ≡ true → is_before b c ≡ true → is_before a c ≡ true
before-on a b c h g = grind (arith, nat_tests, h, g)

-- what comes behind a key from another on is from that on, too, and from the page after the key
behind-from : (from x y : Key) → is_before x from ≡ false → is_before x y ≡ true → is_before y from ≡ false
behind-from from x y h g = grind (arith, nat_tests, h, g)

behind-after : (x y : Key) → is_before x y ≡ true → is_before y (x.0, x.1 + 1) ≡ false
behind-after x y h = grind (arith, nat_tests, h)

-- a key stands before the page after it, and so does one before it
itself-after : (x : Key) → is_before x (x.0, x.1 + 1) ≡ true
itself-after x = grind (arith, nat_tests)

before-after : (from x k : Key) → is_before x from ≡ true → is_before k from ≡ false → is_before x (k.0, k.1 + 1) ≡ true
before-after from x k h g = grind (arith, nat_tests, h, g)

-- two keys of which neither stands before the other are one
same-is : (a b : Key) → is_before a b ≡ false → is_before b a ≡ false → a ≡ b
same-is a b h g = λ i. (first i, second i)
  where
    first : a.0 ≡ b.0
    first = grind (arith, nat_tests, h, g)

    second : a.1 ≡ b.1
    second = grind (arith, nat_tests, h, g)

-- two of which one does aren't
apart : (a b : Key) → is_before a b ≡ true → same_key a b ≡ false
apart a b h = by (same_key a b) refl
  where
    by : (s : Bool) → same_key a b ≡ s → s ≡ false
    by true e = absurd (false≢true (sym (itself-not b) ∙ ap (λ k. is_before k b) (sym (same_key-is a b e)) ∙ h))
    by false e = refl

apart-from : (from a b : Key) → is_before a from ≡ false → is_before b from ≡ true → same_key a b ≡ false
apart-from from a b h g = by (same_key a b) refl
  where
    by : (s : Bool) → same_key a b ≡ s → s ≡ false
    by true e = absurd (false≢true (sym h ∙ ap (λ k. is_before k from) (same_key-is a b e) ∙ g))
    by false e = refl

-- a key before the first has no entry
none-before : {V : Type 0} (q x : Key) (es : List (Key × V)) → is_before q x ≡ true → T (below_all key_cmp x es) → is_some (find key_cmp q es) ≡ false
none-before q x [] h low = refl
none-before q x (e ∷ es) h low =
    ap (λ b. is_some (cond b (Some e.1) (find key_cmp q es))) (apart q e.0 (before-on q x e.0 h (below-is x e.0 (is_true _ (both_first _ _ low)))))
    ∙ none-before q x es h (both_second _ _ low)

abbrev keys : {V : Type 0} → List (Key × V) → List Key
keys es = map (λ e. e.0) es

-- those behind a key are from another on, where each of them is
all-from : {V : Type 0} (from x : Key) (es : List (Key × V)) → ((y : Key) → is_before x y ≡ true → is_before y from ≡ false)
    → T (below_all key_cmp x es) → keys_from from (keys es) ≡ keys es
all-from from x [] so low = refl
all-from from x (e ∷ es) so low =
    ap (λ b. cond (not b) (e.0 ∷ keys_from from (keys es)) (keys_from from (keys es))) (so e.0 (below-is x e.0 (is_true _ (both_first _ _ low))))
    ∙ ap (λ ks. e.0 ∷ ks) (all-from from x es so (both_second _ _ low))

-- where none has an entry from a key on, none is left
pub next-none : {V : Type 0} (from : Key) (es : List (Key × V)) → ((q : Key) → is_before q from ≡ false → is_some (find key_cmp q es) ≡ false)
    → keys_from from (keys es) ≡ []
next-none from [] none = refl
next-none {V} from (e ∷ es) none = by (is_before e.0 from) refl (next-none from es (λ q h. later q h (same_key q e.0) refl (none q h)))
  where
    later : (q : Key) → is_before q from ≡ false → (b : Bool) → same_key q e.0 ≡ b → is_some (cond b (Some e.1) (find key_cmp q es)) ≡ false
        → is_some (find key_cmp q es) ≡ false
    later q h true is unfound = absurd (false≢true (sym unfound))
    later q h false is unfound = unfound

    by : (b : Bool) → is_before e.0 from ≡ b → keys_from from (keys es) ≡ [] → cond (not b) (e.0 ∷ keys_from from (keys es)) (keys_from from (keys es)) ≡ []
    by true h rest = rest
    by false h rest = absurd (false≢true (sym (none e.0 h) ∙ ap (λ b. is_some (cond b (Some e.1) (find key_cmp e.0 es))) (same_key-itself e.0)))

-- the least that has one is the first of those left, and behind it are those from the page after it on
pub next-some : {V : Type 0} (from k : Key) (es : List (Key × V)) → T (is_sorted key_cmp es) → is_before k from ≡ false
    → is_some (find key_cmp k es) ≡ true → ((q : Key) → is_before q from ≡ false → is_before q k ≡ true → is_some (find key_cmp q es) ≡ false)
    → keys_from from (keys es) ≡ k ∷ keys_from (k.0, k.1 + 1) (keys es)
next-some from k [] sorted up there least = absurd (false≢true there)
next-some {V} from k (e ∷ es) sorted up there least = by (is_before e.0 from) refl (λ there least. next-some from k es rest up there least)
  where
    rest : T (is_sorted key_cmp es)
    rest = both_second (below_all key_cmp e.0 es) (is_sorted key_cmp es) sorted

    behind : T (below_all key_cmp e.0 es)
    behind = both_first (below_all key_cmp e.0 es) (is_sorted key_cmp es) sorted

    at : (q : Key) (b : Bool) → same_key q e.0 ≡ b → is_some (find key_cmp q (e ∷ es)) ≡ is_some (cond b (Some e.1) (find key_cmp q es))
    at q b is = ap (λ b. is_some (cond b (Some e.1) (find key_cmp q es))) is

    -- it is the first, where that is from there on
    first : is_before e.0 from ≡ false → k ≡ e.0
    first h = same-is k e.0 (less (is_before k e.0) refl) (more (is_before e.0 k) refl)
      where
        less : (b : Bool) → is_before k e.0 ≡ b → b ≡ false
        less true l = absurd (false≢true (sym (none-before k e.0 es l behind) ∙ sym (at k false (apart k e.0 l)) ∙ there))
        less false l = refl

        more : (b : Bool) → is_before e.0 k ≡ b → b ≡ false
        more true m = absurd (false≢true (sym (least e.0 h m) ∙ at e.0 true (same_key-itself e.0)))
        more false m = refl

    later : (q : Key) → is_before q from ≡ false → is_before e.0 from ≡ true → is_some (find key_cmp q es) ≡ is_some (find key_cmp q (e ∷ es))
    later q h g = sym (at q false (apart-from from q e.0 h g))

    by : (b : Bool) → is_before e.0 from ≡ b
        → (is_some (find key_cmp k es) ≡ true → ((q : Key) → is_before q from ≡ false → is_before q k ≡ true → is_some (find key_cmp q es) ≡ false)
        → keys_from from (keys es) ≡ k ∷ keys_from (k.0, k.1 + 1) (keys es))
        → cond (not b) (e.0 ∷ keys_from from (keys es)) (keys_from from (keys es))
        ≡ k ∷ cond (not (is_before e.0 (k.0, k.1 + 1))) (e.0 ∷ keys_from (k.0, k.1 + 1) (keys es)) (keys_from (k.0, k.1 + 1) (keys es))
    by true h others = others (later k up h ∙ there) (λ q low before. later q low h ∙ least q low before)
        ∙ ap (λ b. k ∷ cond (not b) (e.0 ∷ keys_from (k.0, k.1 + 1) (keys es)) (keys_from (k.0, k.1 + 1) (keys es))) (sym (before-after from e.0 k h up))
    by false h others = subst (λ (k : Key). e.0 ∷ keys_from from (keys es)
        ≡ k ∷ cond (not (is_before e.0 (k.0, k.1 + 1))) (e.0 ∷ keys_from (k.0, k.1 + 1) (keys es)) (keys_from (k.0, k.1 + 1) (keys es))) (sym (first h))
        (ap (λ ks. e.0 ∷ ks) (all-from from e.0 es (λ y. behind-from from e.0 y h) behind ∙ sym (all-from (e.0.0, e.0.1 + 1) e.0 es (behind-after e.0) behind))
        ∙ ap (λ b. e.0 ∷ cond (not b) (e.0 ∷ keys_from (e.0.0, e.0.1 + 1) (keys es)) (keys_from (e.0.0, e.0.1 + 1) (keys es))) (sym (itself-after e.0)))

-- from the first key on all are left
pub from-first : (ks : List Key) → keys_from (0, 0) ks ≡ ks
from-first [] = refl
from-first (k ∷ ks) = ap (λ b. cond (not b) (k ∷ keys_from (0, 0) ks) (keys_from (0, 0) ks)) (first k) ∙ ap (λ ks. k ∷ ks) (from-first ks)
  where
    first : (k : Key) → is_before k (0, 0) ≡ false
    first k = grind (arith, nat_tests)

-- ---- in what the memory system stands for

module _ (d : Device) (k : Mem) (w : World) (r : Rmap) (l : Ledger) (h : KeepsBetween d k w r l)
    (few : (p : ℕ) → is_some (areas_of k.spaces.processes p) ≡ true → p < 2 ^ 16) where
  empty-none : (q : Key) → entry_at k.tables q.0 q.1 ≡ Empty → is_some (entry l q) ≡ false
  empty-none q e = ap is_some (sym (h.serves.held.ledger.tables.entries q.0 q.1)) ∙ ap (λ t. is_some (entry_of (plain t))) e

  there-some : (q : Key) → (entry_at k.tables q.0 q.1 ≡ Empty → ⊥) → is_some (entry l q) ≡ true
  there-some q there = ap is_some (sym (h.serves.held.ledger.tables.entries q.0 q.1)) ∙ by (entry_at k.tables q.0 q.1) there
    where
      by : (t : Table) → (t ≡ Empty → ⊥) → is_some (entry_of (plain t)) ≡ true
      by Empty there = absurd (there refl)
      by Zero there = refl
      by (Here f write seen) there = refl
      by (Away s) there = refl

  -- no process from 2^16 on has a page
  past-none : (q : Key) → 2 ^ 16 ≤ q.0 → is_some (entry l q) ≡ false
  past-none q high = by (has k.tables q.0) refl
    where
      lives : is_some (ranges_of k.spaces.processes q.0) ≡ true → q.0 < 2 ^ 16
      lives is = few q.0 (of (areas_of k.spaces.processes q.0) is)
        where
          of : (o : Option (List Area)) → is_some (option_map (map range_of) o) ≡ true → is_some o ≡ true
          of None is = is
          of (Some areas) is = refl

      by : (b : Bool) → has k.tables q.0 ≡ b → is_some (entry l q) ≡ false
      by false out = empty-none q (none_there k.tables q.0 q.1 out)
      by true out = absurd (let low = lives (sym (h.serves.tables q.0) ∙ out) in omega (arith, low, high))

  pub next-key : (from : Key) (o : Option Key) → IsNextEntry (entry_at k.tables) from o → IsNextKey from (map (λ e. e.0) l.entries) o
  next-key from None none = next-none from l.entries (λ q low. by q low (is_before q (2 ^ 16, 0)) refl)
    where
      by : (q : Key) → is_before q from ≡ false → (b : Bool) → is_before q (2 ^ 16, 0) ≡ b → is_some (entry l q) ≡ false
      by q low true before = empty-none q (none q low before)
      by q low false before = past-none q (high q before)
        where
          high : (q : Key) → is_before q (2 ^ 16, 0) ≡ false → 2 ^ 16 ≤ q.0
          high q h = grind (arith, nat_tests, h)
  next-key from (Some key) is = next-some from key l.entries h.sound.in_order is.from_there (there-some key is.there)
      (λ q low before. empty-none q (is.before q low before))

pub next-below : (table : ℕ → ℕ → Table) (from : Key) (o : Option Key) → IsNextEntry table from o → IfSome o (λ k. k.1 < page_bound)
next-below table from None none = tt
next-below table from (Some k) is = is.below

pub next-ahead : (table : ℕ → ℕ → Table) (from : Key) (o : Option Key) → IsNextEntry table from o → IfSome o (λ k. is_before k from ≡ false)
next-ahead table from None none = tt
next-ahead table from (Some k) is = is.from_there

-- ---- how far it is

-- a key that isn't before another is in its process and no lower, or in a later one
ahead-by : (from k : Key) → is_before k from ≡ false → ((from.0 ≡ k.0) × (from.1 ≤ k.1)) ⊎ (from.0 + 1 ≤ k.0)
ahead-by from k h = elim (cases_order from.0 k.0) [
  | inl e ↦ inl (e, grind (arith, nat_tests, e, h))
  | inr (inl e) ↦ inr (omega (arith, e))
  | inr (inr e) ↦ absurd (grind (arith, nat_tests, e, h))
]

-- so from page to page it is less and less to the last
pub less-left : (n : ℕ) (from k : Key) → is_before k from ≡ false → from.1 ≤ page_bound → k.1 < page_bound → k.0 < n
    → n * (page_bound + 1) - (k.0 * (page_bound + 1) + (k.1 + 1)) < n * (page_bound + 1) - (from.0 * (page_bound + 1) + from.1)
less-left n from k h within below few = elim (ahead-by from k h) [
  | inl e ↦ let same = e.0 in let low = e.1 in omega (arith, same, low, within, below, few)
  | inr e ↦ omega (arith, e, within, below, few)
]
