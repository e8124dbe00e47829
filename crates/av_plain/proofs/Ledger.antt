-- Laws of the ledger: what a key has and how many entries name a frame, after an entry is set or taken.
pub mod Order
pub mod NoSwap
pub mod Walk
use Rattle.std.proofs.Common.{◌≡◌, ℕ, ◌+◌, ◌<◌, ◌≤◌, Bool, true, false, cond, not, T, List, [], ◌∷◌, ◌++◌, Some, None, refl, sym, ap, ◌∙◌, arith, ◌==◌}
use Rattle.std.proofs.lemmas.Bool.Decides.{nat_tests}
use Rattle.std.specs.Ordering.{is_eq, eq_by_cmp}
use Rattle.std.specs.Cmp.{eq_by_cmp_equiv}
use Rattle.std.specs.FinMap.Entries.{find, where_key, is_sorted, find-put, find-where_key, is_sorted-put}
use Rattle.av_base.specs.Keys.{Key, key_cmp, same_key}
use Rattle.av_base.proofs.Keys.{keys_total, same_key-is}
use Rattle.av_base.specs.Words.{how_many, without}
use Rattle.av_plain.specs.Ledger.{Entry, Ledger, entry, map_count, names_frame}
use Rattle.av_plain.specs.Event.{set_entry}
use Rattle.av_plain.proofs.Ledger.Order.{weight, count-put, count-without}

pub entry-set : (k : Key) (e : Entry) (l : Ledger) (q : Key) → entry (set_entry k e l) q ≡ cond (same_key q k) (Some e) (entry l q)
entry-set k e l q = find-put key_cmp keys_total q k e l.entries

pub map_count-set : (k : Key) (e : Entry) (l : Ledger) (f : ℕ) → T (is_sorted key_cmp l.entries) →
    map_count (set_entry k e l) f + weight (names_frame f) (entry l k) ≡ map_count l f + cond (names_frame f e) 1 0
map_count-set k e l f h = count-put keys_total (names_frame f) k e l.entries h

pub is_sorted-set : (k : Key) (e : Entry) (l : Ledger) → T (is_sorted key_cmp l.entries) → T (is_sorted key_cmp (set_entry k e l).entries)
is_sorted-set k e l h = is_sorted-put key_cmp keys_total k e l.entries h

-- what a key has is counted
pub how_many-found : (p : Entry → Bool) (k : Key) (es : List (Key × Entry)) (e : Entry) → find key_cmp k es ≡ Some e → p e ≡ true
    → 0 < how_many (λ x. p x.1) es
how_many-found p k [] e h t = cc
how_many-found p k (x ∷ es) e h t =
    elim (same_key k x.0) as (λ b. cond b (Some x.1) (find key_cmp k es) ≡ Some e → 0 < cond (p x.1) 1 0 + how_many (λ y. p y.1) es) [
      | true ↦ λ is. let same : x.1 ≡ e = cc in rw (same, t) (omega arith)
      | false ↦ λ is. let rest = how_many-found p k es e is t in omega (arith, rest)
    ] h

-- at most one entry names the frame: then two keys that do are one
pub only_one : (l : Ledger) (f : ℕ) (k q : Key) (d e : Entry) → T (is_sorted key_cmp l.entries) → map_count l f ≤ 1
    → entry l k ≡ Some d → names_frame f d ≡ true → entry l q ≡ Some e → names_frame f e ≡ true → same_key q k ≡ true
only_one l f k q d e h few at named at' named' =
    elim (same_key k q) as (λ b. same_key k q ≡ b → same_key q k ≡ true) [
      | true ↦ λ is. (eq_by_cmp_equiv keys_total).symm q k ∙ is
      | false ↦ λ is.
          let rest = where_key key_cmp (λ x. not (same_key k x)) l.entries in
          let counted = count-without keys_total (names_frame f) k l.entries h in
          let one : weight (names_frame f) (entry l k) ≡ 1 = rw (at) (ap (λ b. cond b 1 0) named) in
          let found : find key_cmp q rest ≡ Some e =
          find-where_key key_cmp (λ x. not (same_key k x)) q (λ x t. ap (λ y. not (same_key k y)) (sym (same_key-is q x (ap is_eq t)))) l.entries
          ∙ ap (λ b. cond (not b) (entry l q) None) is ∙ at' in
          let more = how_many-found (names_frame f) q rest e found named' in
          absurd (omega (arith, counted, one, more, few))
    ] refl

pub how_many-append : {X : Type 0} (p : X → Bool) (xs ys : List X) → how_many p (xs ++ ys) ≡ how_many p xs + how_many p ys
how_many-append p [] ys = omega arith
how_many-append p (x ∷ xs) ys = let rest = how_many-append p xs ys in rw rest (omega arith)
