-- Entries that are removed.
use Rattle.std.proofs.Common.{◌≡◌, List, [], ◌∷◌, filter, Bool, true, false, not, cond, None, refl, sym, ap, subst, ◌∙◌, arith}
use Rattle.std.specs.Prelude.{◌&&◌, ◌==◌}
use Rattle.std.specs.BTreeMap.{is_at}
use Rattle.std.specs.FinMap.Entries.{where_key}
use Rattle.std.specs.Map.{lookup, remove_entry}
use Rattle.std.proofs.lemmas.Bool.Decides.{nat_tests}
use Rattle.std.proofs.lemmas.Map.{NonePasses, none_passes_from_lookup}
use Rattle.av_base.specs.Keys.{Key, key_cmp}
use Rattle.av_plain.specs.Ledger.{Entry as PlainEntry}
use Rattle.av_audit_pages.specs.Entries.{entries_of, entry_of}
use Rattle.av_audit_pages.specs.declared.entries.Entry.{Entry}
use Rattle.av_audit_book.proofs.MapLaws.{where-says}

module _ {K X : Type 0} (test : K → Bool) where
  all-stay : (es : List (K × X)) → NonePasses test es → es ≡ filter (λ e. not (test e.0)) es
  all-stay [] h = refl
  all-stay (e ∷ es) h = ap (λ r. e ∷ r) (all-stay es h.1)
      ∙ ap (λ b. cond (not b) (e ∷ filter (λ e. not (test e.0)) es) (filter (λ e. not (test e.0)) es)) (sym h.0)

  removed-all : (es : List (K × X)) → NonePasses test (remove_entry test es) → remove_entry test es ≡ filter (λ e. not (test e.0)) es
  removed-all [] h = refl
  removed-all (e ∷ es) h = by (removed-all es) (test e.0) h
    where
      by : (NonePasses test (remove_entry test es) → remove_entry test es ≡ filter (λ e. not (test e.0)) es)
          → (b : Bool) → NonePasses test (cond b es (e ∷ remove_entry test es))
          → cond b es (e ∷ remove_entry test es) ≡ cond (not b) (e ∷ filter (λ e. not (test e.0)) es) (filter (λ e. not (test e.0)) es)
      by later true h = all-stay es h
      by later false h = ap (λ r. e ∷ r) (later h.1)

  -- where no entry passes any more, all that did have gone
  pub removed-one : (es left : List (K × X)) → left ≡ remove_entry test es → lookup test left ≡ None → left ≡ filter (λ e. not (test e.0)) es
  removed-one es left is none = is ∙ removed-all es (subst (NonePasses test) is (none_passes_from_lookup test left none))

pub filter-same : {X : Type 0} (p q : X → Bool) → ((x : X) → p x ≡ q x) → (xs : List X) → filter p xs ≡ filter q xs
filter-same p q same [] = refl
filter-same p q same (x ∷ xs) = λ i. cond (same x i) (x ∷ filter-same p q same xs i) (filter-same p q same xs i)

pub same-key : (k q : Key) → is_at (key_cmp k) q ≡ (k.0 == q.0 && k.1 == q.1)
same-key k q = grind (arith, nat_tests)

-- the ledger's entries without that of a key
pub removed-key : (es left : List (Key × Entry)) (k : Key) → left ≡ remove_entry (is_at (key_cmp k)) es
    → lookup (is_at (key_cmp k)) left ≡ None
    → entries_of left ≡ where_key key_cmp (λ q. not (k.0 == q.0 && k.1 == q.1)) (entries_of es)
removed-key es left k is gone = ap entries_of (removed-one (is_at (key_cmp k)) es left is gone)
    ∙ where-says key_cmp entry_of (λ q. not (is_at (key_cmp k) q)) es
    ∙ filter-same (λ (e : Key × PlainEntry). not (is_at (key_cmp k) e.0)) (λ e. not (k.0 == e.0.0 && k.1 == e.0.1))
    (λ e. ap not (same-key k e.0)) (entries_of es)
