-- The walk of a frame has exactly the keys whose entry names it, each once.
use Rattle.std.proofs.Common.{◌≡◌, ℕ, suc, ◌+◌, Bool, true, false, cond, ◌||◌, T, List, [], ◌∷◌, map, length, filter, Option, Some, None, is_some, refl, sym, ap, ◌∙◌, arith}
use Rattle.std.specs.List.{AllByRecursion, list_any}
use Rattle.std.specs.FinMap.Entries.{find, is_sorted}
use Rattle.av_base.specs.Keys.{Key, key_cmp, same_key}
use Rattle.av_base.proofs.Keys.{keys_total, same_key-is, same_key-itself}
use Rattle.av_base.specs.Words.{how_many}
use Rattle.av_plain.specs.Ledger.{Entry, Ledger, entry, walk, map_count, names_frame}
use Rattle.av_plain.proofs.Ledger.Order.{both_first, both_second, find_below}

-- what a key has passes
abbrev pub passes : (Entry → Bool) → Option Entry → Bool
passes p None = false
passes p (Some e) = p e

pub keys-filter : (p : Entry → Bool) (es : List (Key × Entry)) (q : Key) → T (is_sorted key_cmp es)
    → list_any (same_key q) (map (λ e. e.0) (filter (λ e. p e.1) es)) ≡ passes p (find key_cmp q es)
keys-filter p [] q h = refl
keys-filter p (e ∷ es) q h =
    let rest = keys-filter p es q (both_second _ _ h) in
    elim (same_key q e.0) as (λ b. same_key q e.0 ≡ b → list_any (same_key q)
    (map (λ e. e.0) (cond (p e.1) (e ∷ filter (λ e. p e.1) es) (filter (λ e. p e.1) es))) ≡ passes p (cond b (Some e.1) (find key_cmp q es))) [
      | true ↦ λ is.
          let none : find key_cmp q es ≡ None = ap (λ k. find key_cmp k es) (same_key-is q e.0 is)
          ∙ find_below keys_total p e.0 es (both_first _ _ h) in
          elim (p e.1) as (λ b. list_any (same_key q) (map (λ e. e.0) (cond b (e ∷ filter (λ e. p e.1) es) (filter (λ e. p e.1) es))) ≡ b) [
            | true ↦ ap (λ b. b || list_any (same_key q) (map (λ e. e.0) (filter (λ e. p e.1) es))) is
            | false ↦ rest ∙ ap (passes p) none
          ]
      | false ↦ λ is. elim (p e.1) as (λ b. list_any (same_key q) (map (λ e. e.0) (cond b (e ∷ filter (λ e. p e.1) es) (filter (λ e. p e.1) es)))
          ≡ passes p (find key_cmp q es)) [
            | true ↦ ap (λ b. b || list_any (same_key q) (map (λ e. e.0) (filter (λ e. p e.1) es))) is ∙ rest
            | false ↦ rest
          ]
    ] refl

pub walk-has : (l : Ledger) (f : ℕ) (q : Key) → T (is_sorted key_cmp l.entries)
    → list_any (same_key q) (walk l f) ≡ passes (names_frame f) (entry l q)
walk-has l f q h = keys-filter (names_frame f) l.entries q h

-- what holds of each key that is listed holds of the list
pub all-listed : (P : Key → Type 0) (ks : List Key) → ((q : Key) → list_any (same_key q) ks ≡ true → P q) → AllByRecursion P ks
all-listed P [] each = tt
all-listed P (k ∷ ks) each = (
  each k (ap (λ b. b || list_any (same_key k) ks) (same_key-itself k)),
  all-listed P ks (λ q is. each q (either (same_key q k) (list_any (same_key q) ks) is)),
)
  where
    either : (a b : Bool) → b ≡ true → (a || b) ≡ true
    either true b h = refl
    either false b h = h

-- what holds of each key that has an entry holds of each of the walk
pub all-walked : (P : Key → Type 0) (l : Ledger) (f : ℕ) → T (is_sorted key_cmp l.entries) → ((q : Key) → is_some (entry l q) ≡ true → P q) →
    AllByRecursion P (walk l f)
all-walked P l f sorted each = all-listed P (walk l f) (λ q is. each q (there (entry l q) (sym (walk-has l f q sorted) ∙ is)))
  where
    there : (o : Option Entry) → passes (names_frame f) o ≡ true → is_some o ≡ true
    there None h = cc
    there (Some e) h = refl

-- as many keys are listed as entries pass
pub length-keys : (p : Entry → Bool) (es : List (Key × Entry)) → length (map (λ e. e.0) (filter (λ e. p e.1) es)) ≡ how_many (λ e. p e.1) es
length-keys p [] = refl
length-keys p (e ∷ es) = elim (p e.1) as (λ b. length (map (λ e. e.0) (cond b (e ∷ filter (λ e. p e.1) es) (filter (λ e. p e.1) es))) ≡ cond
    b 1 0 + how_many (λ e. p e.1) es) [
      | true ↦ one_more _ _ (length-keys p es)
      | false ↦ same _ _ (length-keys p es)
    ]
  where
    one_more : (n m : ℕ) → n ≡ m → suc n ≡ 1 + m
    one_more n m e = omega arith

    same : (n m : ℕ) → n ≡ m → n ≡ 0 + m
    same n m e = omega arith

-- the walk is as long as the count says
pub length-walk : (l : Ledger) (f : ℕ) → length (walk l f) ≡ map_count l f
length-walk l f = length-keys (names_frame f) l.entries
