-- How the count of locked pages' entries goes with a range: it is the range's and the others', and
-- a range's grows page by page; a fork and a move of entries leave it.
use Rattle.std.proofs.Common.{◌≡◌, ℕ, zero, suc, ◌+◌, ◌-◌, ◌<◌, ◌≤◌, Bool, true, false, cond, not}
use Rattle.std.proofs.Common.{◌&&◌, T, List, [], ◌∷◌, map, Option, Some, None, is_some, refl, sym}
use Rattle.std.proofs.Common.{ap, subst, ◌∙◌, arith, ◌==◌}
use Rattle.std.proofs.lemmas.Bool.Decides.{nat_tests}
use Rattle.std.proofs.lemmas.Bool.{false≢true}
use Rattle.std.specs.Ordering.{is_eq}
use Rattle.std.specs.declared.cmp.Ordering.TheVariants.{Less, Equal, Greater}
use Rattle.std.specs.FinMap.Entries.{find, put, below_all, is_sorted, by_order}
use Rattle.av_base.specs.Keys.{Key, key_cmp, same_key}
use Rattle.av_base.proofs.Keys.{keys_total, same_key-is, same_key-itself}
use Rattle.av_base.specs.Words.{how_many, is_in, within}
use Rattle.av_plain.specs.Event.{after_fork, after_move, entries_where, put_all, set_entry}
use Rattle.av_plain.specs.Event.{without_seen}
use Rattle.av_plain.specs.Ledger.{Entry, InFrame, Ledger, entry, names_frame}
use Rattle.av_plain.specs.World.{World, is_locked_page, pages}
use Rattle.av_plain.proofs.Event.{how_many-none, how_many-or}
use Rattle.av_plain.proofs.Ledger.{entry-set}
use Rattle.av_plain.proofs.Ledger.Order.{both_first, both_second, find_below, is_less}
use Rattle.av_plain.proofs.Ledger.Walk.{passes}
use Rattle.av_plain.proofs.Mremap.{fresh, is_sorted-shifted, others_of, range_of, shift_entry}
use Rattle.av_plain.proofs.Mremap.{shifted}
use Rattle.av_swap_laws.specs.Locks.{is_lock, lock_count}
use Rattle.av_swap_laws.specs.LockRange.{is_lock_in, is_within, lock_at, lock_count_in, lock_of}

-- whether the page of a key is locked
abbrev pub locked_at : World → Key → Bool
locked_at w k = is_locked_page (pages w k.0 k.1)

-- it is in both memories, or in neither
abbrev pub SameLock : World → World → Key → Type 0
SameLock w w' k = locked_at w' k ≡ locked_at w k

plus_none : (a b : ℕ) → b ≡ 0 → a + b ≡ a
plus_none a b h = omega (arith, h)

none_plus : (a b : ℕ) → a ≡ b → 0 + a ≡ b
none_plus a b h = omega (arith, h)

-- ---- one key

-- whether an entry is the key's, of a locked page, and names the frame
abbrev is_lock_at : World → ℕ → Key → Key × Entry → Bool
is_lock_at w f k e = same_key k e.0 && is_lock w f e

module _ (w : World) (f : ℕ) where
  none_above : (k : Key) (es : List (Key × Entry)) → T (below_all key_cmp k es)
      → how_many (is_lock_at w f k) es ≡ 0
  none_above k [] h = refl
  none_above k (e ∷ es) h =
      ap (λ r. cond (is_eq r && is_lock w f e) 1 0 + how_many (is_lock_at w f k) es)
      (is_less _ (both_first _ _ h))
      ∙ none_plus _ _ (none_above k es (both_second _ _ h))

  -- of entries in order one at most is a key's
  at-key : (k : Key) (es : List (Key × Entry)) → T (is_sorted key_cmp es)
      → how_many (is_lock_at w f k) es ≡ lock_of w f k (find key_cmp k es)
  at-key k [] h = refl
  at-key k (e ∷ es) h = by (same_key k e.0) refl (at-key k es (both_second _ _ h))
    where
      rest : ℕ
      rest = how_many (is_lock_at w f k) es

      by : (b : Bool) → same_key k e.0 ≡ b → rest ≡ lock_of w f k (find key_cmp k es)
          → cond (b && is_lock w f e) 1 0 + rest
          ≡ lock_of w f k (cond b (Some e.1) (find key_cmp k es))
      by true is go =
          let same = same_key-is k e.0 is in
          let below = subst (λ x. T (below_all key_cmp x es)) (sym same) (both_first _ _ h) in
          plus_none _ _ (none_above k es below)
          ∙ ap (λ x. cond (is_lock w f (x, e.1)) 1 0) (sym same)
      by false is go = none_plus _ _ go

-- ---- a range, page by page

module _ (w : World) (l : Ledger) (p from : ℕ) where
  pub range-none : (f : ℕ) → lock_count_in w l p from 0 f ≡ 0
  range-none f = how_many-none (is_lock_in w p from 0 f) l.entries
      (λ e. ap (λ b. b && is_lock w f e) (nothing e.0))
    where
      nothing : (k : Key) → is_within p from 0 k ≡ false
      nothing k = grind (arith, nat_tests)

  -- a range, and the one behind it
  pub range-then : (n m f : ℕ) → lock_count_in w l p from (n + m) f
      ≡ lock_count_in w l p from n f + lock_count_in w l p (from + n) m f
  range-then n m f = how_many-or (is_lock_in w p from n f) (is_lock_in w p (from + n) m f)
      (is_lock_in w p from (n + m) f) l.entries (λ e. each e.0 (is_lock w f e))
    where
      each : (k : Key) (b : Bool) → cond (is_within p from (n + m) k && b) 1 0
          ≡ cond (is_within p from n k && b) 1 0 + cond (is_within p (from + n) m k && b) 1 0
      each k b = grind (arith, nat_tests)

module _ (w : World) (l : Ledger) (p from : ℕ) (sorted : T (is_sorted key_cmp l.entries)) where
  -- one page more
  pub range-next : (n f : ℕ) → lock_count_in w l p from (n + 1) f
      ≡ lock_count_in w l p from n f + lock_at w l f (p, from + n)
  range-next n f =
      how_many-or (is_lock_in w p from n f) (is_lock_at w f (p, from + n))
      (is_lock_in w p from (n + 1) f) l.entries (λ e. each e.0 (is_lock w f e))
      ∙ ap (λ x. lock_count_in w l p from n f + x) (at-key w f (p, from + n) l.entries sorted)
    where
      each : (k : Key) (b : Bool) → cond (is_within p from (n + 1) k && b) 1 0
          ≡ cond (is_within p from n k && b) 1 0 + cond (same_key (p, from + n) k && b) 1 0
      each k b = grind (arith, nat_tests)

  -- that isn't locked
  pub next-unlocked : (n f : ℕ) → locked_at w (p, from + n) ≡ false
      → lock_count_in w l p from (n + 1) f ≡ lock_count_in w l p from n f
  next-unlocked n f unlocked = range-next n f ∙ plus_none _ _ (by (entry l (p, from + n)))
    where
      by : (o : Option Entry) → lock_of w f (p, from + n) o ≡ 0
      by None = refl
      by (Some e) = ap (λ b. cond (b && names_frame f e) 1 0) unlocked

  -- whose entry, if it has one, names another frame or none
  pub next-unnamed : (n f : ℕ) → passes (names_frame f) (entry l (p, from + n)) ≡ false
      → lock_count_in w l p from (n + 1) f ≡ lock_count_in w l p from n f
  next-unnamed n f h = range-next n f ∙ plus_none _ _ (by (entry l (p, from + n)) h)
    where
      fails : (a b : Bool) → b ≡ false → ◌≡◌ {A = ℕ} (cond (a && b) 1 0) 0
      fails true b h = ap (λ b. cond b 1 0) h
      fails false b h = refl

      by : (o : Option Entry) → passes (names_frame f) o ≡ false
          → lock_of w f (p, from + n) o ≡ 0
      by None h = refl
      by (Some e) h = fails (locked_at w (p, from + n)) (names_frame f e) h

  -- that is locked, and has a frame
  pub next-frame : (n f g : ℕ) (seen : Bool) → locked_at w (p, from + n) ≡ true
      → entry l (p, from + n) ≡ Some (InFrame g seen)
      → lock_count_in w l p from (n + 1) f ≡ lock_count_in w l p from n f + cond (f == g) 1 0
  next-frame n f g seen locked is = range-next n f
      ∙ ap (λ o. lock_count_in w l p from n f + lock_of w f (p, from + n) o) is
      ∙ ap (λ b. lock_count_in w l p from n f + cond (b && f == g) 1 0) locked

  -- no page's entry names the frame
  pub range-empty : (n f : ℕ)
      → ((i : ℕ) → i < n → passes (names_frame f) (entry l (p, from + i)) ≡ false)
      → lock_count_in w l p from n f ≡ 0
  range-empty zero f h = range-none w l p from f
  range-empty (suc n) f h = ap (λ m. lock_count_in w l p from m f) (one_more n)
      ∙ next-unnamed n f (h n (omega arith))
      ∙ range-empty n f (λ i below. h i (omega (arith, below)))
    where
      one_more : (n : ℕ) → suc n ≡ n + 1
      one_more n = omega arith

-- ---- keys of a range, and of a process

same_process : (p : ℕ) (k : Key) → (k.0 == p) ≡ true → k ≡ (p, k.1)
same_process p k is = λ i. (same i, k.1)
  where
    same : k.0 ≡ p
    same = grind (arith, nat_tests, is)

module _ (p from n : ℕ) (k : Key) (h : is_within p from n k ≡ true) where
  mine : (k.0 == p) ≡ true
  mine = grind (arith, nat_tests, h)

  inner : within from n k.1 ≡ true
  inner = grind (arith, nat_tests, h)

-- ---- keys that have entries

here : (e : Key × Entry) (es : List (Key × Entry)) → is_some (find key_cmp e.0 (e ∷ es)) ≡ true
here e es = ap (λ b. is_some (cond b (Some e.1) (find key_cmp e.0 es))) (same_key-itself e.0)

later : (e : Key × Entry) (es : List (Key × Entry)) (k : Key)
    → is_some (find key_cmp k es) ≡ true → is_some (find key_cmp k (e ∷ es)) ≡ true
later e es k = by (same_key k e.0) (find key_cmp k es)
  where
    by : (b : Bool) (o : Option Entry) → is_some o ≡ true → is_some (cond b (Some e.1) o) ≡ true
    by true o some = refl
    by false o some = some

-- two tests that agree there
count-there : (t t' : Key × Entry → Bool) (es : List (Key × Entry))
    → ((k : Key) → is_some (find key_cmp k es) ≡ true → (e : Entry) → t (k, e) ≡ t' (k, e))
    → how_many t es ≡ how_many t' es
count-there t t' [] h = refl
count-there t t' (e ∷ es) h = λ i. cond (h e.0 (here e es) e.1 i) 1 0
    + count-there t t' es (λ k some d. h k (later e es k some) d) i

-- the pages with entries are locked as before
pub locks-there : (w w' : World) (l : Ledger) (f : ℕ)
    → ((k : Key) → is_some (entry l k) ≡ true → SameLock w w' k)
    → lock_count w' l f ≡ lock_count w l f
locks-there w w' l f h = count-there (is_lock w' f) (is_lock w f) l.entries
    (λ k some e. ap (λ b. b && names_frame f e) (h k some))

-- ---- a range, and the others

-- whether an entry is beyond the range, of a locked page, and names the frame
abbrev is_lock_beyond : World → ℕ → ℕ → ℕ → ℕ → Key × Entry → Bool
is_lock_beyond w p from n f e = not (is_within p from n e.0) && is_lock w f e

module _ (w : World) (l : Ledger) (p from n f : ℕ) where
  parts : lock_count w l f
      ≡ lock_count_in w l p from n f + how_many (is_lock_beyond w p from n f) l.entries
  parts = how_many-or (is_lock_in w p from n f) (is_lock_beyond w p from n f) (is_lock w f)
      l.entries (λ e. each (is_within p from n e.0) (is_lock w f e))
    where
      each : (a b : Bool) → cond b 1 0 ≡ cond (a && b) 1 0 + cond (not a && b) 1 0
      each true true = refl
      each true false = refl
      each false true = refl
      each false false = refl

  pub range-few : lock_count_in w l p from n f ≤ lock_count w l f
  range-few = let whole = parts in omega (arith, whole)

  none_within : ((k : Key) → is_within p from n k ≡ true → locked_at w k ≡ false)
      → lock_count_in w l p from n f ≡ 0
  none_within h = how_many-none (is_lock_in w p from n f) l.entries
      (λ e. each e (is_within p from n e.0) (h e.0))
    where
      each : (e : Key × Entry) (b : Bool) → (b ≡ true → locked_at w e.0 ≡ false)
          → (b && is_lock w f e) ≡ false
      each e true h = ap (λ b. b && names_frame f e.1) (h refl)
      each e false h = refl

  -- no page of the range is locked
  pub range-unlocked : ((page : ℕ) → within from n page ≡ true → locked_at w (p, page) ≡ false)
      → lock_count_in w l p from n f ≡ 0
  range-unlocked h = none_within (λ k is. ap (locked_at w) (same_process p k (mine p from n k is))
      ∙ h k.1 (inner p from n k is))

module _ (w w' : World) (l : Ledger) (p from n f : ℕ) where
  -- the memories change in the range alone, as far as there are entries
  pub range-changed-there :
      ((k : Key) → is_some (entry l k) ≡ true → is_within p from n k ≡ false → SameLock w w' k)
      → lock_count w' l f + lock_count_in w l p from n f
      ≡ lock_count w l f + lock_count_in w' l p from n f
  range-changed-there h = sum _ _ _ _ _ _ (parts w l p from n f) (parts w' l p from n f) stays
    where
      each : (k : Key) (e : Entry) (b : Bool) → (b ≡ false → SameLock w w' k)
          → (not b && is_lock w' f (k, e)) ≡ (not b && is_lock w f (k, e))
      each k e true h = refl
      each k e false h = ap (λ b. b && names_frame f e) (h refl)

      stays : how_many (is_lock_beyond w' p from n f) l.entries
          ≡ how_many (is_lock_beyond w p from n f) l.entries
      stays = count-there (is_lock_beyond w' p from n f) (is_lock_beyond w p from n f) l.entries
          (λ k some e. each k e (is_within p from n k) (h k some))

      sum : (a b c a' b' c' : ℕ) → a ≡ b + c → a' ≡ b' + c' → c' ≡ c → a' + b ≡ a + b'
      sum a b c a' b' c' h i j = omega arith

  pub range-changed : ((k : Key) → is_within p from n k ≡ false → SameLock w w' k)
      → lock_count w' l f + lock_count_in w l p from n f
      ≡ lock_count w l f + lock_count_in w' l p from n f
  range-changed h = range-changed-there (λ k some. h k)

  -- and no page of it is locked then
  pub range-off : ((k : Key) → is_within p from n k ≡ false → SameLock w w' k)
      → ((k : Key) → is_within p from n k ≡ true → locked_at w' k ≡ false)
      → lock_count w' l f + lock_count_in w l p from n f ≡ lock_count w l f
  range-off h off = range-changed h ∙ plus_none _ _ (none_within w' l p from n f off)

-- the memories change in one process alone, whose entries are at its first n pages, and nothing of
-- it is locked then
pub range-all : (w w' : World) (l : Ledger) (p n f : ℕ)
    → ((k : Key) → (k.0 == p) ≡ false → SameLock w w' k)
    → ((page : ℕ) → locked_at w' (p, page) ≡ false)
    → ((page : ℕ) → is_some (entry l (p, page)) ≡ true → page < n)
    → lock_count w' l f + lock_count_in w l p 0 n f ≡ lock_count w l f
range-all w w' l p n f others off below =
    range-changed-there w w' l p 0 n f (λ k some beyond. by k some beyond (k.0 == p) refl)
    ∙ plus_none _ _ (range-unlocked w' l p 0 n f (λ page inside. off page))
  where
    past : (k : Key) → (k.0 == p) ≡ true → is_within p 0 n k ≡ false → k.1 < n → ⊥
    past k is beyond h = grind (arith, nat_tests, is, beyond, h)

    by : (k : Key) → is_some (entry l k) ≡ true → is_within p 0 n k ≡ false
        → (b : Bool) → (k.0 == p) ≡ b → SameLock w w' k
    by k some beyond true is = absurd (past k is beyond
        (below k.1 (subst (λ x. is_some (entry l x) ≡ true) (same_process p k is) some)))
    by k some beyond false is = others k is

-- ---- a fork

-- an entry that isn't counted comes
put-uncounted : (t : Key × Entry → Bool) (k : Key) (v : Entry) (es : List (Key × Entry))
    → ((e : Entry) → t (k, e) ≡ false) → how_many t (put key_cmp k v es) ≡ how_many t es
put-uncounted t k v [] h = ap (λ b. cond b 1 0 + 0) (h v)
put-uncounted t k v (e ∷ es) h =
    elim (key_cmp k e.0) as (λ r. key_cmp k e.0 ≡ r
    → how_many t (by_order r ((k, v) ∷ e ∷ es) ((e.0, v) ∷ es) (e ∷ put key_cmp k v es))
    ≡ how_many t (e ∷ es)) [
      | Less ↦ λ is. ap (λ b. cond b 1 0 + how_many t (e ∷ es)) (h v) ∙ none_plus _ _ refl
      | Equal ↦ λ is. ap (λ b. cond b 1 0 + how_many t es) (uncounted is v ∙ sym (uncounted is e.1))
      | Greater ↦ λ is. ap (λ n. cond (t e) 1 0 + n) (put-uncounted t k v es h)
    ] refl
  where
    uncounted : key_cmp k e.0 ≡ Equal → (d : Entry) → t (e.0, d) ≡ false
    uncounted is d = ap (λ x. t (x, d)) (sym (same_key-is k e.0 (ap is_eq is))) ∙ h d

-- an entry goes over to the same page of q, unseen
abbrev copy_to : ℕ → Key × Entry → Key × Entry
copy_to q e = ((q, e.0.1), without_seen e.1)

copies-uncounted : (t : Key × Entry → Bool) (q : ℕ) (es : List (Key × Entry)) (l : Ledger)
    → ((page : ℕ) (e : Entry) → t ((q, page), e) ≡ false)
    → how_many t (put_all (map (copy_to q) es) l).entries ≡ how_many t l.entries
copies-uncounted t q [] l h = refl
copies-uncounted t q (e ∷ es) l h =
    copies-uncounted t q es (set_entry (q, e.0.1) (without_seen e.1) l) h
    ∙ put-uncounted t (q, e.0.1) (without_seen e.1) l.entries (h e.0.1)

-- the child had no entry before, and none of its pages is locked
pub locks-forked : (w w' : World) (l : Ledger) (p q : ℕ) (goes : List ℕ) (f : ℕ)
    → ((page : ℕ) → entry l (q, page) ≡ None) → ((page : ℕ) → locked_at w' (q, page) ≡ false)
    → ((k : Key) → (k.0 == q) ≡ false → SameLock w w' k)
    → lock_count w' (after_fork p q goes l) f ≡ lock_count w l f
locks-forked w w' l p q goes f none off others =
    copies-uncounted (is_lock w' f) q (entries_where (λ k. k.0 == p && is_in k.1 goes) l) l
    (λ page e. ap (λ b. b && names_frame f e) (off page))
    ∙ locks-there w w' l f (λ k some. by k some (k.0 == q) refl)
  where
    by : (k : Key) → is_some (entry l k) ≡ true → (b : Bool) → (k.0 == q) ≡ b → SameLock w w' k
    by k some true is =
        let gone = ap (entry l) (same_process q k is) ∙ none k.1 in
        absurd (false≢true (sym (ap is_some gone) ∙ some))
    by k some false is = others k is

-- ---- a move

-- an entry comes to a key that has none
put-counted : (t : Key × Entry → Bool) (k : Key) (v : Entry) (es : List (Key × Entry))
    → find key_cmp k es ≡ None
    → how_many t (put key_cmp k v es) ≡ how_many t es + cond (t (k, v)) 1 0
put-counted t k v [] h = omega arith
put-counted t k v (e ∷ es) h =
    elim (key_cmp k e.0) as (λ r. cond (is_eq r) (Some e.1) (find key_cmp k es) ≡ None
    → how_many t (by_order r ((k, v) ∷ e ∷ es) ((e.0, v) ∷ es) (e ∷ put key_cmp k v es))
    ≡ how_many t (e ∷ es) + cond (t (k, v)) 1 0) [
      | Less ↦ λ none. turned _ _
      | Equal ↦ λ some. cc
      | Greater ↦ λ none. deeper _ _ _ _ (put-counted t k v es none)
    ] h
  where
    turned : (a b : ℕ) → a + b ≡ b + a
    turned a b = omega arith

    deeper : (e n m v : ℕ) → n ≡ m + v → e + n ≡ (e + m) + v
    deeper e n m v h = omega (arith, h)

put_all-counted : (t : Key × Entry → Bool) (es : List (Key × Entry)) (l : Ledger)
    → T (is_sorted key_cmp es)
    → ((k : Key) (e : Entry) → find key_cmp k es ≡ Some e → entry l k ≡ None)
    → how_many t (put_all es l).entries ≡ how_many t l.entries + how_many t es
put_all-counted t [] l h fresh = omega arith
put_all-counted t (e ∷ es) l h fresh =
    sum _ _ _ _ _ (put_all-counted t es (set_entry e.0 e.1 l) (both_second _ _ h)
    (λ k d at. still k d at (same_key k e.0) refl))
    (put-counted t e.0 e.1 l.entries (fresh e.0 e.1 head))
  where
    sum : (m n c v o : ℕ) → m ≡ n + c → n ≡ o + v → m ≡ o + (v + c)
    sum m n c v o h i = omega arith

    head : find key_cmp e.0 (e ∷ es) ≡ Some e.1
    head = ap (λ b. cond b (Some e.1) (find key_cmp e.0 es)) (same_key-itself e.0)

    once : (o : Option Entry) (d : Entry) → o ≡ None → o ≡ Some d → ⊥
    once o d a b = cc

    still : (k : Key) (d : Entry) → find key_cmp k es ≡ Some d
        → (b : Bool) → same_key k e.0 ≡ b → entry (set_entry e.0 e.1 l) k ≡ None
    still k d at true is = absurd (once (find key_cmp k es) d
        (ap (λ x. find key_cmp x es) (same_key-is k e.0 is)
        ∙ find_below keys_total (λ _. true) e.0 es (both_first _ _ h)) at)
    still k d at false is = entry-set e.0 e.1 l k ∙ ap (λ b. cond b (Some e.1) (entry l k)) is
        ∙ fresh k d (ap (λ b. cond b (Some e.1) (find key_cmp k es)) is ∙ at)

-- no other entry stands in the new range before; a page of it is locked then as the one that comes
-- there was, and all others that have entries as before
module _ (w w' : World) (l : Ledger) (p n from to f : ℕ) (sorted : T (is_sorted key_cmp l.entries))
    (free : (page : ℕ) → within to n page ≡ true → within from n page ≡ false
    → entry l (p, page) ≡ None)
    (along : (page : ℕ) → is_some (entry l (p, page)) ≡ true → within from n page ≡ true
    → locked_at w' (p, page - from + to) ≡ locked_at w (p, page))
    (others : (k : Key) → is_some (entry l k) ≡ true → is_within p from n k ≡ false
    → SameLock w w' k) where
  -- none is lost, and none is there twice
  count-shifted : (es : List (Key × Entry))
      → ((k : Key) → is_some (find key_cmp k es) ≡ true → is_some (entry l k) ≡ true)
      → how_many (is_lock w' f) (others_of p from n es)
      + how_many (is_lock w' f) (shifted p n from to es) ≡ how_many (is_lock w f) es
  count-shifted [] there = refl
  count-shifted (e ∷ es) there = by (is_within p from n e.0) refl (there e.0 (here e es))
      (count-shifted es (λ k some. there k (later e es k some)))
    where
      goes : is_within p from n e.0 ≡ true → is_some (entry l e.0) ≡ true
          → is_lock w' f (shift_entry p n from to e) ≡ is_lock w f e
      goes inside some =
          let same = same_process p e.0 (mine p from n e.0 inside) in
          let there = subst (λ x. is_some (entry l x) ≡ true) same some in
          ap (λ b. b && names_frame f e.1)
          (along e.0.1 there (inner p from n e.0 inside) ∙ sym (ap (locked_at w) same))

      right : (x y a b c : ℕ) → x ≡ y → a + b ≡ c → a + (x + b) ≡ y + c
      right x y a b c h i = omega arith

      left : (x y a b c : ℕ) → x ≡ y → a + b ≡ c → (x + a) + b ≡ y + c
      left x y a b c h i = omega arith

      by : (b : Bool) → is_within p from n e.0 ≡ b → is_some (entry l e.0) ≡ true
          → how_many (is_lock w' f) (others_of p from n es)
          + how_many (is_lock w' f) (shifted p n from to es) ≡ how_many (is_lock w f) es
          → how_many (is_lock w' f) (cond (not b) (e ∷ others_of p from n es)
          (others_of p from n es))
          + how_many (is_lock w' f) (map (shift_entry p n from to)
          (cond b (e ∷ range_of p from n es) (range_of p from n es)))
          ≡ cond (is_lock w f e) 1 0 + how_many (is_lock w f) es
      by true is some rest = right _ _ _ _ _ (ap (λ b. cond b 1 0) (goes is some)) rest
      by false is some rest =
          left _ _ _ _ _ (ap (λ b. cond (b && names_frame f e.1) 1 0) (others e.0 some is)) rest

  pub locks-shifted : lock_count w' (after_move p n from to l) f ≡ lock_count w l f
  locks-shifted =
      put_all-counted (is_lock w' f) (shifted p n from to l.entries)
      (record l { entries = others_of p from n l.entries })
      (is_sorted-shifted p n from to l.entries sorted) (fresh l p n from to sorted free)
      ∙ count-shifted l.entries (λ k some. some)
