-- Entries that change, one key after another.
use Rattle.std.proofs.Common.{◌≡◌, ℕ, List, [], ◌∷◌, map, filter, Bool, true, false, cond}
use Rattle.std.proofs.Common.{not, Option, Some, None, refl, sym, ap, ◌∙◌, ◌++◌, append_assoc, arith}
use Rattle.std.specs.Prelude.{option_map, ◌||◌, ◌==◌, ◌&&◌}
use Rattle.std.specs.BTreeMap.{is_at}
use Rattle.std.specs.declared.cmp.Ordering.TheVariants.{Less}
use Rattle.std.specs.FinMap.Entries.{below_all, find, is_sorted, same_entries}
use Rattle.std.specs.Ordering.{is_lt}
use lib.Dec.{T}
use Rattle.std.proofs.lemmas.Bool.Decides.{nat_tests}
use Rattle.std.specs.List.{AllByRecursion, list_any}
use Rattle.std.specs.List.Sorted.{IsStrictlySortedBy}
use Rattle.std.specs.Map.{keys_of, lookup}
use Rattle.std.proofs.Common.{subst}
use Rattle.std.proofs.lemmas.Map.Made.{keys_of-map_values, lookup-map_values}
use Rattle.av_base.proofs.Keys.{keys_total, same_key-is, same_key-itself}
use Rattle.av_base.specs.Keys.{Key, key_cmp, same_key}
use Rattle.av_base.specs.Words.{renamed}
use Rattle.av_audit_index.proofs.Rising.{keys-exact}
use Rattle.av_plain.specs.Ledger.{names_frame}
use Rattle.av_plain.specs.Ledger.{Entry as PlainEntry}
use Rattle.av_plain.specs.Reclaim.{names_seen}
use Rattle.av_audit_pages.specs.Entries.{changed_at, entries_of, entry_of, without_seen_of}
use Rattle.av_audit_pages.specs.declared.entries.Entry.{Entry}
use Rattle.av_audit_pages.specs.declared.entries.Entry.TheVariants.{Zero, InFrame, InSlot}
use Rattle.av_audit_pages.specs.declared.changes.Change.{Change}
use Rattle.av_audit_pages.specs.declared.changes.Change.TheVariants.{Unseen, ToSlot, ToFrame}

-- an entry that doesn't name the frame stays
stays : (f : ℕ) (ch : Change) (e : Entry) → names_frame f (entry_of e) ≡ false → changed_at f ch e ≡ e
stays f Unseen Zero not-it = refl
stays f Unseen (InFrame g seen) not-it = ap (λ b. InFrame g (not b && seen)) not-it
stays f Unseen (InSlot s) not-it = refl
stays f (ToSlot t) Zero not-it = refl
stays f (ToSlot t) (InFrame g seen) not-it = ap (λ b. cond b (InSlot t) (InFrame g seen)) not-it
stays f (ToSlot t) (InSlot s) not-it = refl
stays f (ToFrame to) Zero not-it = refl
stays f (ToFrame to) (InFrame g seen) not-it = ap (λ h. InFrame h seen) (other f to g not-it)
  where
    other : (f to g : ℕ) → (f == g) ≡ false → renamed f to g ≡ g
    other f to g e = grind (arith, nat_tests, e)
stays f (ToFrame to) (InSlot s) not-it = refl

-- an entry that has changed stays
again : (f : ℕ) (ch : Change) (e : Entry) → changed_at f ch (changed_at f ch e) ≡ changed_at f ch e
again f Unseen Zero = refl
again f Unseen (InFrame g seen) = ap (InFrame g) (by (f == g) seen)
  where
    by : (b c : Bool) → (not b && (not b && c)) ≡ (not b && c)
    by true c = refl
    by false c = refl
again f Unseen (InSlot s) = refl
again f (ToSlot t) Zero = refl
again f (ToSlot t) (InFrame g seen) = by (f == g) refl
  where
    by : (b : Bool) → (f == g) ≡ b → changed_at f (ToSlot t) (cond b (InSlot t) (InFrame g seen)) ≡ cond b (InSlot t) (InFrame g seen)
    by true e = refl
    by false e = ap (λ b. cond b (InSlot t) (InFrame g seen)) e
again f (ToSlot t) (InSlot s) = refl
again f (ToFrame to) Zero = refl
again f (ToFrame to) (InFrame g seen) = ap (λ h. InFrame h seen) (twice f to g)
  where
    twice : (f to g : ℕ) → renamed f to (renamed f to g) ≡ renamed f to g
    twice f to g = grind (arith, nat_tests)
again f (ToFrame to) (InSlot s) = refl

-- keys that differ, the other way round
apart : (k q : Key) → same_key k q ≡ false → same_key q k ≡ false
apart k q is = by (same_key q k) refl
  where
    by : (b : Bool) → same_key q k ≡ b → b ≡ false
    by true same = let h = sym (same_key-itself k) ∙ ap (same_key k) (sym (same_key-is q k same)) ∙ is in cc
    by false same = refl

-- one more key is listed
pub key-next : (p : Key × Entry → Bool) (made more : List Key) (k : Key) (e : Entry) (es rest : List (Key × Entry)) (all : List Key)
    → more ≡ made ++ k ∷ [] → es ≡ (k, e) ∷ rest → p (k, e) ≡ true → made ++ keys_of (filter p es) ≡ all → more ++ keys_of (filter p rest) ≡ all
key-next p made more k e es rest all grown first passes left =
    ap (λ ks. ks ++ keys_of (filter p rest)) grown ∙ append_assoc made (k ∷ []) (keys_of (filter p rest))
    ∙ ap (λ ks. made ++ ks) (sym (ap (λ es. keys_of (filter p es)) first ∙ ap (λ b. keys_of (cond b ((k, e) ∷ filter p rest) (filter p rest))) passes))
    ∙ left

-- ---- lists of entries whose keys rise

module _ {X : Type 0} where
  below : (x : Key) (es : List (Key × X)) → AllByRecursion (λ y. key_cmp x y ≡ Less) (keys_of es) → T (below_all key_cmp x es)
  below x [] h = tt
  below x (e ∷ es) h = subst (λ o. T (is_lt o && below_all key_cmp x es)) (sym h.0) (below x es h.1)

  sorted : (es : List (Key × X)) → IsStrictlySortedBy key_cmp (keys_of es) → T (is_sorted key_cmp es)
  unfolding IsStrictlySortedBy
  sorted [] h = tt
  sorted (e ∷ es) h = both (below_all key_cmp e.0 es) (is_sorted key_cmp es) (below e.0 es h.0) (sorted es h.1)
    where
      both : (a b : Bool) → T a → T b → T (a && b)
      both true b p q = q
      both false b p q = p

  found-so : (es : List (Key × X)) (q : Key) → find key_cmp q es ≡ lookup (is_at (key_cmp q)) es
  found-so [] q = refl
  found-so (e ∷ es) q = ap (cond (same_key q e.0) (Some e.1)) (found-so es q)

  -- two with the same values are one
  pub same-entries : (es fs : List (Key × X)) → IsStrictlySortedBy key_cmp (keys_of es) → IsStrictlySortedBy key_cmp (keys_of fs)
      → ((q : Key) → lookup (is_at (key_cmp q)) es ≡ lookup (is_at (key_cmp q)) fs) → es ≡ fs
  same-entries es fs rise rises same = same_entries key_cmp keys_total keys-exact es fs (sorted es rise) (sorted fs rises)
      (λ q. found-so es q ∙ same q ∙ sym (found-so fs q))

module _ (f : ℕ) (ch : Change) where
  -- an entry, if there is one, as it will be
  abbrev pub ends_as : Option Entry → Option Entry
  ends_as o = option_map (changed_at f ch) o

  ends-again : (o : Option Entry) → ends_as (ends_as o) ≡ ends_as o
  ends-again None = refl
  ends-again (Some e) = ap Some (again f ch e)

  -- an entry whose key isn't listed doesn't name the frame
  pub others-stay : (es : List (Key × Entry)) (q : Key) → list_any (same_key q) (keys_of (filter (λ e. names_frame f (entry_of e.1)) es)) ≡ false
      → lookup (is_at (key_cmp q)) es ≡ ends_as (lookup (is_at (key_cmp q)) es)
  others-stay [] q absent = refl
  others-stay (e ∷ es) q absent = by (same_key q e.0) (names_frame f (entry_of e.1)) refl refl absent (others-stay es q)
    where
      rest : List (Key × Entry)
      rest = filter (λ e. names_frame f (entry_of e.1)) es

      by : (b n : Bool) → same_key q e.0 ≡ b → names_frame f (entry_of e.1) ≡ n
          → list_any (same_key q) (keys_of (cond n (e ∷ rest) rest)) ≡ false
          → (list_any (same_key q) (keys_of rest) ≡ false → lookup (is_at (key_cmp q)) es ≡ ends_as (lookup (is_at (key_cmp q)) es))
          → cond b (Some e.1) (lookup (is_at (key_cmp q)) es) ≡ ends_as (cond b (Some e.1) (lookup (is_at (key_cmp q)) es))
      by true true same is absent more = let h = ap (λ b. b || list_any (same_key q) (keys_of rest)) (sym same) ∙ absent in cc
      by true false same is absent more = ap Some (sym (stays f ch e.1 is))
      by false true same is absent more = more (ap (λ b. b || list_any (same_key q) (keys_of rest)) (sym same) ∙ absent)
      by false false same is absent more = more absent

  -- one key more has changed
  pub one-ends : (es fs old : List (Key × Entry)) (k q : Key)
      → lookup (is_at (key_cmp q)) fs ≡ cond (same_key k q) (ends_as (lookup (is_at (key_cmp q)) es)) (lookup (is_at (key_cmp q)) es)
      → ends_as (lookup (is_at (key_cmp q)) es) ≡ ends_as (lookup (is_at (key_cmp q)) old)
      → ends_as (lookup (is_at (key_cmp q)) fs) ≡ ends_as (lookup (is_at (key_cmp q)) old)
  one-ends es fs old k q at ends = ap ends_as at ∙ by (same_key k q) ∙ ends
    where
      by : (b : Bool) → ends_as (cond b (ends_as (lookup (is_at (key_cmp q)) es)) (lookup (is_at (key_cmp q)) es)) ≡ ends_as (lookup (is_at (key_cmp q)) es)
      by true = ends-again (lookup (is_at (key_cmp q)) es)
      by false = refl

  pub one-done : (es fs old : List (Key × Entry)) (k q : Key) (ks : List Key)
      → lookup (is_at (key_cmp q)) fs ≡ cond (same_key k q) (ends_as (lookup (is_at (key_cmp q)) es)) (lookup (is_at (key_cmp q)) es)
      → ends_as (lookup (is_at (key_cmp q)) es) ≡ ends_as (lookup (is_at (key_cmp q)) old)
      → (list_any (same_key q) (k ∷ ks) ≡ false → lookup (is_at (key_cmp q)) es ≡ ends_as (lookup (is_at (key_cmp q)) old))
      → list_any (same_key q) ks ≡ false → lookup (is_at (key_cmp q)) fs ≡ ends_as (lookup (is_at (key_cmp q)) old)
  one-done es fs old k q ks at ends done absent = at ∙ by (same_key k q) refl
    where
      by : (b : Bool) → same_key k q ≡ b
          → cond b (ends_as (lookup (is_at (key_cmp q)) es)) (lookup (is_at (key_cmp q)) es) ≡ ends_as (lookup (is_at (key_cmp q)) old)
      by true is = ends
      by false is = done (ap (λ b. b || list_any (same_key q) ks) (apart k q is) ∙ absent)

  -- each key has what it ends with
  pub all-end : (es old : List (Key × Entry)) → IsStrictlySortedBy key_cmp (keys_of es) → IsStrictlySortedBy key_cmp (keys_of old)
      → ((q : Key) → lookup (is_at (key_cmp q)) es ≡ ends_as (lookup (is_at (key_cmp q)) old))
      → es ≡ map (λ e. (e.0, changed_at f ch e.1)) old
  all-end es old rise rises ends = same-entries es (map (λ e. (e.0, changed_at f ch e.1)) old) rise
      (subst (IsStrictlySortedBy key_cmp) (sym (keys_of-map_values (changed_at f ch) old)) rises)
      (λ q. ends q ∙ sym (lookup-map_values (changed_at f ch) (is_at (key_cmp q)) old))

  -- the entry of a key, as it is put in place of itself
  pub put-changed : (es : List (Key × Entry)) (k q : Key) (e : Entry) (o : Option Entry) → Some e ≡ lookup (is_at (key_cmp k)) es
      → cond (same_key k q) (Some (changed_at f ch e)) o ≡ cond (same_key k q) (ends_as (lookup (is_at (key_cmp q)) es)) o
  put-changed es k q e o is = by (same_key k q) refl
    where
      by : (b : Bool) → same_key k q ≡ b → cond b (Some (changed_at f ch e)) o ≡ cond b (ends_as (lookup (is_at (key_cmp q)) es)) o
      by true same = ap ends_as is ∙ ap (λ k. ends_as (lookup (is_at (key_cmp k)) es)) (same_key-is k q same)
      by false same = refl

  -- nothing stands in place of an entry that isn't there
  pub none-changed : (es : List (Key × Entry)) (k q : Key) → None ≡ lookup (is_at (key_cmp k)) es
      → lookup (is_at (key_cmp q)) es ≡ cond (same_key k q) (ends_as (lookup (is_at (key_cmp q)) es)) (lookup (is_at (key_cmp q)) es)
  none-changed es k q is = by (same_key k q) refl
    where
      by : (b : Bool) → same_key k q ≡ b
          → lookup (is_at (key_cmp q)) es ≡ cond b (ends_as (lookup (is_at (key_cmp q)) es)) (lookup (is_at (key_cmp q)) es)
      by true same =
          let none = is ∙ ap (λ k. lookup (is_at (key_cmp k)) es) (same_key-is k q same) in
          sym none ∙ ap ends_as none
      by false same = refl

-- where no entry of a frame is seen, all are unseen as they are
pub unseen-stay : (f : ℕ) (es : List (Key × Entry)) → list_any (λ (e : Key × PlainEntry). names_seen f e.1) (entries_of es) ≡ false
    → es ≡ map (λ e. (e.0, without_seen_of f e.1)) es
unseen-stay f [] none = refl
unseen-stay f (e ∷ es) none =
    λ i. (e.0, first e.1 (left (names_seen f (entry_of e.1)) _ none) i) ∷ unseen-stay f es (right (names_seen f (entry_of e.1)) _ none) i
  where
    left : (a b : Bool) → (a || b) ≡ false → a ≡ false
    left true b e = e
    left false b e = refl

    right : (a b : Bool) → (a || b) ≡ false → b ≡ false
    right true b e = cc
    right false b e = e

    first : (e : Entry) → names_seen f (entry_of e) ≡ false → e ≡ without_seen_of f e
    first Zero is = refl
    first (InFrame g seen) is = ap (InFrame g) (by (f == g) seen is)
      where
        by : (b c : Bool) → (b && c) ≡ false → c ≡ (not b && c)
        by true c is = is
        by false c is = refl
    first (InSlot s) is = refl
