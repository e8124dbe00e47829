-- How many keys of a number are seen, as these change.
use mir.Val.{bool_byte}
use Rattle.std.proofs.Common.{◌≡◌, ℕ, suc, ◌+◌, ◌-◌, ◌≤◌, List, [], ◌∷◌, Bool, true, false, cond, Option, Some, None}
use Rattle.std.proofs.Common.{length, refl, sym, ap, ◌∙◌, arith}
use Rattle.std.specs.Prelude.{option_map, unwrap_or, sum_by}
use Rattle.std.specs.BTreeMap.{insert_entry, is_at}
use Rattle.std.specs.List.Sorted.{IsStrictlySortedBy}
use Rattle.std.specs.Map.{keys_of, lookup, remove_entry, values_of}
use Rattle.std.proofs.lemmas.List.Sums.{sum_by-cons}
use Rattle.std.proofs.lemmas.Map.Entries.{sum_by-insert_entry, sum_by-remove_entry}
use Rattle.av_base.proofs.Keys.{keys_total}
use Rattle.av_base.specs.Keys.{Key, key_cmp}
use Rattle.av_base.specs.Words.{how_many}
use Rattle.av_audit_index.specs.Holding.{is_seen}

-- one where the key is seen
abbrev pub one : Bool → ℕ
one b = cond b 1 0

-- the byte of a bool
pub byte-is : (b : Bool) → bool_byte b ≡ one b
byte-is true = refl
byte-is false = refl

-- one where there is a key, and it is seen
abbrev pub one_of : Option Bool → ℕ
one_of o = one (unwrap_or o false)

summed : (es : List (Key × Bool)) → how_many is_seen es ≡ sum_by one (values_of es)
summed [] = refl
summed (e ∷ es) = ap (λ n. one e.1 + n) (summed es) ∙ sym (sum_by-cons one e.1 (values_of es))

same-one : (o : Option Bool) → unwrap_or (option_map one o) 0 ≡ one_of o
same-one None = refl
same-one (Some b) = refl

-- a key less
pub less : (es : List (Key × Bool)) (k : Key)
    → how_many is_seen (remove_entry (is_at (key_cmp k)) es) + one_of (lookup (is_at (key_cmp k)) es) ≡ how_many is_seen es
less es k =
    (λ i. summed (remove_entry (is_at (key_cmp k)) es) i + sym (same-one (lookup (is_at (key_cmp k)) es)) i)
    ∙ sum_by-remove_entry one (is_at (key_cmp k)) es ∙ sym (summed es)

-- a key more, in place of what it was
pub more : (es : List (Key × Bool)) (k : Key) (b : Bool) → IsStrictlySortedBy key_cmp (keys_of es)
    → how_many is_seen (insert_entry key_cmp es k b) + one_of (lookup (is_at (key_cmp k)) es) ≡ how_many is_seen es + one b
more es k b rising =
    let puts = sum_by-insert_entry one keys_total es k b rising in
    let new = summed (insert_entry key_cmp es k b) in
    let old = summed es in
    let was = same-one (lookup (is_at (key_cmp k)) es) in
    plus _ _ _ _ _ _ _ new puts old was
  where
    plus : (n m w a o v u : ℕ) → n ≡ m → m + w ≡ o + v → a ≡ o → w ≡ u → n + u ≡ a + v
    plus n m w a o v u e f g h = omega (arith, e, f, g, h)

-- no more are seen than there are
pub few : (es : List (Key × Bool)) → how_many is_seen es ≤ length es
few [] = omega arith
few (e ∷ es) = by e.1 (few es)
  where
    by : (b : Bool) → how_many is_seen es ≤ length es → cond b 1 0 + how_many is_seen es ≤ suc (length es)
    by true h = omega (arith, h)
    by false h = omega (arith, h)

-- no more go than there are
pub can-go : (seen was : ℕ) (es : List (Key × Bool)) (k : Key) (before : Option Bool) → seen ≡ how_many is_seen es
    → before ≡ lookup (is_at (key_cmp k)) es → was ≡ one_of before → was ≤ seen
can-go seen was es k before count is goes =
    let left = less es k in
    let one = goes ∙ ap one_of is in
    omega (arith, left, one, count)

-- the count of what is left
pub left-count : (seen was : ℕ) (es left : List (Key × Bool)) (k : Key) (before : Option Bool) → seen ≡ how_many is_seen es
    → before ≡ lookup (is_at (key_cmp k)) es → was ≡ one_of before → left ≡ remove_entry (is_at (key_cmp k)) es
    → seen - was ≡ how_many is_seen left
left-count seen was es left k before count is goes so =
    let one = goes ∙ ap one_of is in
    let rest = less es k in
    let same = ap (how_many is_seen) so in
    omega (arith, one, rest, same, count)

-- the count with a key more, in place of what it was
pub more-count : (seen was now : ℕ) (es more : List (Key × Bool)) (k : Key) (b : Bool) (before : Option Bool) → IsStrictlySortedBy key_cmp (keys_of es)
    → seen ≡ how_many is_seen es → before ≡ lookup (is_at (key_cmp k)) es → was ≡ one_of before → now ≡ one b
    → more ≡ insert_entry key_cmp es k b → seen - was + now ≡ how_many is_seen more
more-count seen was now es grown k b before rising count is goes comes so =
    let gone = goes ∙ ap one_of is in
    let rest = less es k in
    let all = more es k b rising in
    let same = ap (how_many is_seen) so in
    omega (arith, gone, rest, all, same, count, comes)
