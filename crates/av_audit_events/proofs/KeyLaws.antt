-- Keys in a range.
use Rattle.std.proofs.Common.{◌≡◌, ℕ, ◌+◌, Bool, true, false, cond, List, [], ◌∷◌, ◌++◌, filter, map, refl, sym, ap, ◌∙◌, arith, append_assoc}
use Rattle.std.specs.Prelude.{◌&&◌, ◌==◌}
use Rattle.std.specs.declared.ops.Bound.TheVariants.{Included, Excluded, Unbounded}
use Rattle.std.specs.BTreeMap.Range.{range_contains}
use Rattle.std.proofs.lemmas.Bool.Decides.{nat_tests}
use Rattle.av_base.specs.Keys.{Key, key_cmp}
use Rattle.av_base.specs.Words.{within}
use Rattle.av_plain.specs.Ledger.{Entry as PlainEntry}
use Rattle.av_audit_pages.specs.Entries.{entry_of}
use Rattle.av_audit_pages.specs.declared.entries.Entry.{Entry}
use Rattle.av_audit_pages.proofs.EntryLaws.{keys-are}
use Rattle.av_audit_book.specs.Book.{ledger_of}
use Rattle.av_audit_book.specs.declared.book.Book.{Book}
use Rattle.av_audit_book.proofs.MapLaws.{where-says}
use Rattle.av_audit_events.proofs.FilterLaws.{filter-both, filter-filter, keys-where}

-- those of a process's n pages from one on lie between two keys
pub pages-between : (p from n : ℕ) (k : Key)
    → range_contains key_cmp (Included (p, from)) (Excluded (p, from + n)) k ≡ (k.0 == p && within from n k.1)
pages-between p from n k = grind (arith, nat_tests)

-- those of a process lie before the next process's
pub process-between : (p : ℕ) (k : Key) → (k.0 == p) ≡ true → range_contains key_cmp (Included (p, 0)) (Excluded (p + 1, 0)) k ≡ true
process-between p k h = grind (arith, nat_tests)

pub process-from : (p : ℕ) (k : Key) → (k.0 == p) ≡ true → range_contains key_cmp (Included (p, 0)) Unbounded k ≡ true
process-from p k h = grind (arith, nat_tests)

first-of : (a b : Bool) → (a && b) ≡ true → a ≡ true
first-of true b h = refl
first-of false b h = h

-- ---- the entries between two keys

module _ {E : Type 0} (p : ℕ) (es : List (Key × E)) where
  pub of-pages : (from n : ℕ) → filter (λ (e : Key × E). e.0.0 == p)
      (filter (λ (e : Key × E). range_contains key_cmp (Included (p, from)) (Excluded (p, from + n)) e.0) es)
      ≡ filter (λ (e : Key × E). e.0.0 == p && within from n e.0.1) es
  of-pages from n = filter-both (λ (e : Key × E). e.0.0 == p) (λ e. range_contains key_cmp (Included (p, from)) (Excluded (p, from + n)) e.0)
      (λ e. e.0.0 == p && within from n e.0.1)
      (λ e h. let both = sym (pages-between p from n e.0) ∙ h in first-of _ _ both ∙ sym both)
      (λ e h. pages-between p from n e.0 ∙ h) es

  pub of-process : filter (λ (e : Key × E). e.0.0 == p) (filter (λ (e : Key × E). range_contains key_cmp (Included (p, 0)) (Excluded (p + 1, 0)) e.0) es)
      ≡ filter (λ (e : Key × E). e.0.0 == p) es
  of-process = filter-filter (λ (e : Key × E). e.0.0 == p) (λ e. range_contains key_cmp (Included (p, 0)) (Excluded (p + 1, 0)) e.0)
      (λ e h. process-between p e.0 h) es

  pub of-last : filter (λ (e : Key × E). e.0.0 == p) (filter (λ (e : Key × E). range_contains key_cmp (Included (p, 0)) Unbounded e.0) es)
      ≡ filter (λ (e : Key × E). e.0.0 == p) es
  of-last = filter-filter (λ (e : Key × E). e.0.0 == p) (λ e. range_contains key_cmp (Included (p, 0)) Unbounded e.0)
      (λ e h. process-from p e.0 h) es

-- those of a process, and of some of its pages
pub pages-of : (p from n : ℕ) (ks : List Key) → filter (λ k. within from n k.1) (filter (λ k. k.0 == p) ks) ≡ filter (λ k. k.0 == p && within from n k.1) ks
pages-of p from n ks = filter-both (λ k. within from n k.1) (λ k. k.0 == p) (λ k. k.0 == p && within from n k.1)
    (λ k h. ap (λ b. b && within from n k.1) (sym h)) (λ k h. first-of _ _ h) ks

-- the keys that pass a test are those of the ledger's entries that do
pub keys-say : (b : Book) (t : Key → Bool) → map (λ (e : Key × Entry). e.0) (filter (λ (e : Key × Entry). t e.0) b.pages.entries)
    ≡ filter t (map (λ (e : Key × PlainEntry). e.0) (ledger_of b).entries)
keys-say b t = sym (keys-are (filter (λ (e : Key × Entry). t e.0) b.pages.entries))
    ∙ ap (map (λ (e : Key × PlainEntry). e.0)) (where-says key_cmp entry_of t b.pages.entries) ∙ keys-where t (ledger_of b).entries

-- the key of an entry of the process is added
pub key-added : (p : ℕ) (k : Key) (made more : List Key) (es rest : List (Key × Entry)) (e : Entry) (whole : List Key) → es ≡ (k, e) ∷ rest
    → k.0 ≡ p → more ≡ made ++ k ∷ []
    → made ++ filter (λ (k : Key). k.0 == p) (map (λ (e : Key × Entry). e.0) es) ≡ whole
    → more ++ filter (λ (k : Key). k.0 == p) (map (λ (e : Key × Entry). e.0) rest) ≡ whole
key-added p k made more es rest e whole steps own push left =
    let behind = filter (λ (k : Key). k.0 == p) (map (λ (e : Key × Entry). e.0) rest) in
    ap (λ ks. ks ++ behind) push ∙ append_assoc made (k ∷ []) behind ∙ ap (λ b. made ++ cond b (k ∷ behind) behind) (sym (test k.0 own))
    ∙ ap (λ es. made ++ filter (λ (k : Key). k.0 == p) (map (λ (e : Key × Entry). e.0) es)) (sym steps) ∙ left
  where
    test : (n : ℕ) → n ≡ p → (n == p) ≡ true
    test n own = grind (arith, nat_tests, own)
