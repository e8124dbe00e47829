-- What a frame or a slot has of the entries is that of the entries that name it.
use Rattle.std.proofs.Common.{◌≡◌, ℕ, ◌+◌, length, arith, List, [], ◌∷◌, filter, map, Bool, true, false, cond, Option, Some, None, refl, sym, ap, subst, ◌∙◌}
use Rattle.std.specs.Prelude.{◌&&◌, nat_lt, option_map}
use Rattle.std.specs.BTreeMap.{is_at}
use Rattle.std.specs.Cmp.{eq_by_cmp_equiv}
use Rattle.std.specs.List.{AllByRecursion, list_any}
use Rattle.std.specs.List.Sorted.{IsStrictlySortedBy}
use Rattle.std.specs.Map.{keys_of, lookup}
use Rattle.std.specs.declared.cmp.Ordering.TheVariants.{Less}
use Rattle.std.proofs.lemmas.Map.Entries.{lookup-filter-values, option_filter}
use Rattle.std.proofs.lemmas.Map.Keys.{IsDistinct-from_sorted}
use Rattle.std.proofs.lemmas.Map.Made.{keys_of-map_values, lookup-map_values}
use Rattle.av_base.proofs.Keys.{keys_total}
use Rattle.av_base.specs.Keys.{Key, key_cmp}
use Rattle.av_base.specs.Words.{how_many}
use Rattle.av_audit_index.specs.Holding.{is_seen}
use Rattle.av_plain.specs.Ledger.{Entry as PlainEntry, Zero as PlainZero, InFrame as PlainInFrame, InSlot as PlainInSlot, names_frame}
use Rattle.av_plain.specs.Reclaim.{names_seen}
use Rattle.av_audit_pages.specs.Entries.{entries_of, entry_of}
use Rattle.av_audit_pages.specs.Index.{told}
use Rattle.av_audit_pages.specs.declared.entries.Entry.{Entry}
use Rattle.av_audit_pages.proofs.ChangeLaws.{same-entries}
use Rattle.av_audit_pages.proofs.CountLaws.{any-count}

-- a list of entries of which some are left out rises as before
stays-below : (x : Key) (p : Key × Entry → Bool) (es : List (Key × Entry)) → AllByRecursion (λ y. key_cmp x y ≡ Less) (keys_of es)
    → AllByRecursion (λ y. key_cmp x y ≡ Less) (keys_of (filter p es))
stays-below x p [] h = h
stays-below x p (e ∷ es) h = by (p e) (stays-below x p es h.1)
  where
    by : (b : Bool) → AllByRecursion (λ y. key_cmp x y ≡ Less) (keys_of (filter p es))
        → AllByRecursion (λ y. key_cmp x y ≡ Less) (keys_of (cond b (e ∷ filter p es) (filter p es)))
    by true rest = (h.0, rest)
    by false rest = rest

filter-rises : (p : Key × Entry → Bool) (es : List (Key × Entry)) → IsStrictlySortedBy key_cmp (keys_of es)
    → IsStrictlySortedBy key_cmp (keys_of (filter p es))
unfolding IsStrictlySortedBy
filter-rises p [] h = h
filter-rises p (e ∷ es) h = by (p e) (filter-rises p es h.1)
  where
    by : (b : Bool) → IsStrictlySortedBy key_cmp (keys_of (filter p es)) → IsStrictlySortedBy key_cmp (keys_of (cond b (e ∷ filter p es) (filter p es)))
    by true rest = (stays-below e.0 p es h.0, rest)
    by false rest = rest

-- of the entries that pass a test, the keys, and what another test says of each
module _ (names seen : PlainEntry → Bool) where
  abbrev pub passing : List (Key × Entry) → List (Key × Entry)
  passing es = filter (λ e. names (entry_of e.1)) es

  abbrev pub tell : Key × Entry → Key × Bool
  tell e = (e.0, seen (entry_of e.1))

  abbrev pub keys_told : List (Key × Entry) → List (Key × Bool)
  keys_told es = map tell (passing es)

  told-by : (o : Option Entry)
      → option_map (λ e. seen (entry_of e)) (option_filter (λ e. names (entry_of e)) o) ≡ told names seen (option_map entry_of o)
  told-by None = refl
  told-by (Some e) = by (names (entry_of e))
    where
      by : (b : Bool) → option_map (λ e. seen (entry_of e)) (cond b (Some e) None) ≡ cond b (Some (seen (entry_of e))) None
      by true = refl
      by false = refl

  -- keys that rise and tell of each entry are these
  pub told-are : (es : List (Key × Entry)) (ks : List (Key × Bool)) → IsStrictlySortedBy key_cmp (keys_of es) → IsStrictlySortedBy key_cmp (keys_of ks)
      → ((k : Key) → lookup (is_at (key_cmp k)) ks ≡ told names seen (option_map entry_of (lookup (is_at (key_cmp k)) es))) → ks ≡ keys_told es
  told-are es ks rise rises tells = same-entries ks (keys_told es) rises
      (subst (IsStrictlySortedBy key_cmp) (sym (keys_of-map_values (λ e. seen (entry_of e)) (passing es))) (filter-rises (λ e. names (entry_of e.1)) es rise))
      (λ k. tells k ∙ sym (lookup-map_values (λ e. seen (entry_of e)) (is_at (key_cmp k)) (passing es)
      ∙ ap (option_map (λ e. seen (entry_of e)))
      (lookup-filter-values (eq_by_cmp_equiv keys_total) (λ e. names (entry_of e)) k es (IsDistinct-from_sorted key_cmp (keys_of es) rise))
      ∙ told-by (lookup (is_at (key_cmp k)) es)))

  -- their keys
  pub keys-told : (es : List (Key × Entry)) → keys_of (keys_told es) ≡ keys_of (passing es)
  keys-told es = keys_of-map_values (λ e. seen (entry_of e)) (passing es)

  -- how many they are
  pub told-count : (es : List (Key × Entry)) → length (keys_told es) ≡ how_many (λ (e : Key × PlainEntry). names e.1) (entries_of es)
  told-count [] = refl
  told-count (e ∷ es) = by (names (entry_of e.1)) (told-count es)
    where
      by : (b : Bool) → length (keys_told es) ≡ how_many (λ (e : Key × PlainEntry). names e.1) (entries_of es)
          → length (map tell (cond b (e ∷ passing es) (passing es)))
          ≡ cond b 1 0 + how_many (λ (e : Key × PlainEntry). names e.1) (entries_of es)
      by true h = omega (arith, h)
      by false h = omega (arith, h)

  -- how many of them pass the other test, where only these do
  pub seen-count : ((e : PlainEntry) → names e ≡ false → seen e ≡ false) → (es : List (Key × Entry))
      → how_many is_seen (keys_told es) ≡ how_many (λ (e : Key × PlainEntry). seen e.1) (entries_of es)
  seen-count only [] = refl
  seen-count only (e ∷ es) = by (names (entry_of e.1)) (only (entry_of e.1)) (seen-count only es)
    where
      by : (b : Bool) → (b ≡ false → seen (entry_of e.1) ≡ false)
          → how_many is_seen (keys_told es) ≡ how_many (λ (e : Key × PlainEntry). seen e.1) (entries_of es)
          → how_many is_seen (map tell (cond b (e ∷ passing es) (passing es)))
          ≡ cond (seen (entry_of e.1)) 1 0 + how_many (λ (e : Key × PlainEntry). seen e.1) (entries_of es)
      by true not-it h = ap {B = ℕ} (λ n. cond (seen (entry_of e.1)) 1 0 + n) h
      by false not-it h =
          let none = ap {B = ℕ} (λ b. cond b 1 0) (not-it refl) in
          omega (arith, h, none)

-- ---- an entry of a frame that is seen

-- an entry that doesn't name the frame isn't seen at it
seen-named : (f : ℕ) (e : PlainEntry) → names_frame f e ≡ false → names_seen f e ≡ false
seen-named f PlainZero is = refl
seen-named f (PlainInFrame g seen) is = ap (λ b. b && seen) is
seen-named f (PlainInSlot s) is = refl

pub seen-some : (f : ℕ) (es : List (Key × Entry)) (ks : List (Key × Bool)) → ks ≡ keys_told (names_frame f) (names_seen f) es
    → nat_lt 0 (how_many is_seen ks) ≡ list_any (λ (e : Key × PlainEntry). names_seen f e.1) (entries_of es)
seen-some f es ks is =
    ap (nat_lt 0) (ap (how_many is_seen) is ∙ seen-count (names_frame f) (names_seen f) (seen-named f) es)
    ∙ any-count (λ (e : Key × PlainEntry). names_seen f e.1) (entries_of es)
