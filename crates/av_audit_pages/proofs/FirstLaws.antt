-- The first cached pair of a ledger, and whether one is stale, by what is found of the pairs by rank.
use Rattle.std.proofs.Common.{◌≡◌, ℕ, Bool, true, false, cond, ◌||◌, List, [], ◌∷◌, map, Option, Some, None, refl, ap, sym, ◌∙◌, arith}
use Rattle.std.specs.List.{find, list_any}
use Rattle.std.specs.List.Sorted.{IsStrictlySortedBy}
use Rattle.std.specs.Map.{keys_of, values_of}
use Rattle.std.specs.Ordering.{nat_cmp}
use Rattle.std.specs.Prelude.{nat_lt, option_map}
use Rattle.std.proofs.lemmas.Bool.Decides.{nat_tests}
use Rattle.av_base.specs.Words.{how_many}
use Rattle.av_plain.specs.Ledger.{Cached as PlainCached, cached_by}
use Rattle.av_audit_pages.proofs.CountLaws.{any-count}
use Rattle.av_audit_pages.proofs.PlacedLaws.{first-found}
use Rattle.av_audit_pages.specs.Entries.{cached_of}
use Rattle.av_audit_pages.specs.Pairs.{IsFirstFrom}
use Rattle.av_audit_pages.specs.declared.entries.Cached.{Cached}

module _ {B : Type 0} (g : PlainCached → B) (test : PlainCached → Bool) where
  -- none is the first where none passes
  pub none-first : (cs : List PlainCached) → list_any test cs ≡ false → None ≡ option_map g (cached_by test cs)
  none-first [] none = refl
  none-first (c ∷ cs) none = by (test c) none (none-first cs)
    where
      by : (b : Bool) → (b || list_any test cs) ≡ false → (list_any test cs ≡ false → None ≡ option_map g (cached_by test cs))
          → None ≡ option_map g (cond b (Some c) (cached_by test cs))
      by true none more = cc
      by false none more = more none

  -- as where none is counted
  pub none-counted : (cs : List PlainCached) → how_many test cs ≡ 0 → None ≡ option_map g (cached_by test cs)
  none-counted cs none = none-first cs (sym (any-count test cs) ∙ zero (how_many test cs) none)
    where
      zero : (h : ℕ) → h ≡ 0 → nat_lt 0 h ≡ false
      zero h e = grind (arith, nat_tests, e)

  cached-by : (cs : List Cached) → cached_by test (map cached_of cs) ≡ option_map cached_of (find (λ c. test (cached_of c)) cs)
  cached-by [] = refl
  cached-by (c ∷ cs) = by (test (cached_of c)) (cached-by cs)
    where
      by : (b : Bool) → cached_by test (map cached_of cs) ≡ option_map cached_of (find (λ c. test (cached_of c)) cs)
          → cond b (Some (cached_of c)) (cached_by test (map cached_of cs))
          ≡ option_map cached_of (cond b (Some c) (find (λ c. test (cached_of c)) cs))
      by true more = refl
      by false more = more

  -- what is first by its rank is the first
  pub first-cached : (es : List (ℕ × Cached)) (o : Option (ℕ × Cached)) → IsStrictlySortedBy nat_cmp (keys_of es)
      → IsFirstFrom (λ c. test (cached_of c)) es 0 o
      → option_map (λ e. g (cached_of e.1)) o ≡ option_map g (cached_by test (map cached_of (values_of es)))
  first-cached es o rising first =
      thrice o ∙ sym (ap (option_map g) (cached-by (values_of es) ∙ ap (option_map cached_of) (first-found (λ c. test (cached_of c)) es o rising first)))
    where
      thrice : (o : Option (ℕ × Cached)) → option_map (λ e. g (cached_of e.1)) o ≡ option_map g (option_map cached_of (option_map (λ e. e.1) o))
      thrice None = refl
      thrice (Some e) = refl

-- whether one passes
pub any-cached : (test : PlainCached → Bool) (cs : List Cached) → list_any (λ c. test (cached_of c)) cs ≡ list_any test (map cached_of cs)
any-cached test [] = refl
any-cached test (c ∷ cs) = ap (λ b. test (cached_of c) || b) (any-cached test cs)
