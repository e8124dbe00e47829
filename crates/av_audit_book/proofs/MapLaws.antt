-- Entries whose values are data stand for entries whose values are what these say.
use Rattle.std.proofs.Common.{◌≡◌, List, [], ◌∷◌, map, filter, Bool, true, false, cond, Some, refl, ap}
use Rattle.std.specs.Prelude.{option_map}
use Rattle.std.specs.declared.cmp.Ordering.{Ordering}
use Rattle.std.specs.declared.cmp.Ordering.TheVariants.{Less, Equal, Greater}
use Rattle.std.specs.Ordering.{eq_by_cmp, match_ordering}
use Rattle.std.specs.FinMap.Entries.{by_order, put, find, where_key}
use Rattle.std.specs.BTreeMap.{insert_entry, is_at}
use Rattle.std.specs.Map.{lookup}

module _ {K X Y : Type 0} (cmp : K → K → Ordering) (says : X → Y) where
  -- what the entries say
  abbrev pub values_say : List (K × X) → List (K × Y)
  values_say es = map (λ e. (e.0, says e.1)) es

  pub find-says : (es : List (K × X)) (k : K) → option_map says (lookup (is_at (cmp k)) es) ≡ find cmp k (values_say es)
  find-says [] k = refl
  find-says (e ∷ es) k = by (eq_by_cmp cmp k e.0) (find-says es k)
    where
      by : (b : Bool) → option_map says (lookup (is_at (cmp k)) es) ≡ find cmp k (values_say es)
          → option_map says (cond b (Some e.1) (lookup (is_at (cmp k)) es)) ≡ cond b (Some (says e.1)) (find cmp k (values_say es))
      by true rest = refl
      by false rest = rest

  pub put-says : (es : List (K × X)) (k : K) (v : X) → values_say (insert_entry cmp es k v) ≡ put cmp k (says v) (values_say es)
  put-says [] k v = refl
  put-says (e ∷ es) k v = by (cmp k e.0) (put-says es k v)
    where
      by : (o : Ordering) → values_say (insert_entry cmp es k v) ≡ put cmp k (says v) (values_say es)
          → values_say (match_ordering o ((k, v) ∷ e ∷ es) ((e.0, v) ∷ es) (e ∷ insert_entry cmp es k v))
          ≡ by_order o ((k, says v) ∷ (e.0, says e.1) ∷ values_say es) ((e.0, says v) ∷ values_say es)
          ((e.0, says e.1) ∷ put cmp k (says v) (values_say es))
      by Less rest = refl
      by Equal rest = refl
      by Greater rest = ap (λ r. (e.0, says e.1) ∷ r) rest

  pub where-says : (test : K → Bool) (es : List (K × X)) → values_say (filter (λ e. test e.0) es) ≡ where_key cmp test (values_say es)
  where-says test [] = refl
  where-says test (e ∷ es) = by (test e.0) (where-says test es)
    where
      by : (b : Bool) → values_say (filter (λ e. test e.0) es) ≡ where_key cmp test (values_say es)
          → values_say (cond b (e ∷ filter (λ e. test e.0) es) (filter (λ e. test e.0) es))
          ≡ cond b ((e.0, says e.1) ∷ where_key cmp test (values_say es)) (where_key cmp test (values_say es))
      by true rest = ap (λ r. (e.0, says e.1) ∷ r) rest
      by false rest = rest
