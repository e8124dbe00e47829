-- Entries that come to name a frame, key by key.
use Rattle.std.proofs.Common.{◌≡◌, ℕ, Bool, true, false, cond, ◌&&◌, ◌||◌, List, [], ◌∷◌, ◌++◌, refl, sym, ap, ◌∙◌, arith, ◌==◌}
use Rattle.std.proofs.lemmas.Bool.Decides.{nat_tests}
use Rattle.std.specs.List.{list_any}
use Rattle.av_base.specs.Keys.{Key, same_key}
use Rattle.av_base.proofs.Keys.{same_key-is, same_key-itself}
use Rattle.av_pagetable.specs.Entries.{with_entry}
use Rattle.av_pagetable.specs.declared.pte.Pte.{Pte}
use Rattle.av_pagetable.specs.declared.pte.Pte.TheVariants.{Away, Empty, Here, Zero}
use Rattle.av_migrate.specs.Point.{with_frame, with_frame_at}

any-append : {X : Type 0} (p : X → Bool) (xs : List X) (x : X) → list_any p (xs ++ x ∷ []) ≡ (list_any p xs || p x)
any-append p [] x = by (p x)
  where
    by : (b : Bool) → (b || false) ≡ b
    by true = refl
    by false = refl
any-append p (y ∷ xs) x = ap (λ b. p y || b) (any-append p xs x) ∙ by (p y) (list_any p xs) (p x)
  where
    by : (a b c : Bool) → (a || (b || c)) ≡ ((a || b) || c)
    by true b c = refl
    by false b c = refl

with_frame-twice : (f : ℕ) (t : Pte) → with_frame f (with_frame f t) ≡ with_frame f t
with_frame-twice f Empty = refl
with_frame-twice f Zero = refl
with_frame-twice f (Here g write seen) = refl
with_frame-twice f (Away s) = refl

same-keys : (q other p page : ℕ) → same_key (q, other) (p, page) ≡ (q == p && other == page)
same-keys q other p page = by (same_key (q, other) (p, page)) refl
  where
    by : (b : Bool) → same_key (q, other) (p, page) ≡ b → b ≡ (q == p && other == page)
    by true is = let e = same_key-is (q, other) (p, page) is in
        let a : q ≡ p = ap (λ (k : Key). k.0) e in let b : other ≡ page = ap (λ (k : Key). k.1) e in grind (arith, nat_tests, a, b)
    by false is = differ (q == p && other == page) refl
      where
        differ : (b : Bool) → (q == p && other == page) ≡ b → false ≡ b
        differ true h = let a : q ≡ p = grind (arith, nat_tests, h) in let b : other ≡ page = grind (arith, nat_tests, h) in
            sym is ∙ (λ i. same_key (a i, b i) (p, page)) ∙ same_key-itself (p, page)
        differ false h = refl

pub with_frame-none : (f : ℕ) (table : ℕ → ℕ → Pte) → table ≡ with_frame_at [] f table
with_frame-none f table = refl

pub with_frame-more : (keys : List Key) (key : Key) (f : ℕ) (table now : ℕ → ℕ → Pte) → now ≡ with_frame_at keys f table
    → with_entry key.0 key.1 (with_frame f (now key.0 key.1)) now ≡ with_frame_at (keys ++ key ∷ []) f table
with_frame-more keys key f table now is = λ i q other. (one q other) i
  where
    at_key : (q other : ℕ) → same_key (q, other) key ≡ true → with_frame f (now key.0 key.1) ≡ with_frame f (table q other)
    at_key q other same = let e = same_key-is (q, other) key same in
        ap (with_frame f) ((λ i. is i (sym e i).0 (sym e i).1) ∙ refl) ∙ by (list_any (same_key (q, other)) keys)
      where
        by : (b : Bool) → with_frame f (cond b (with_frame f (table q other)) (table q other)) ≡ with_frame f (table q other)
        by true = with_frame-twice f (table q other)
        by false = refl

    one : (q other : ℕ) → with_entry key.0 key.1 (with_frame f (now key.0 key.1)) now q other ≡ with_frame_at (keys ++ key ∷ []) f table q other
    one q other = ap (λ b. cond b (with_frame f (now key.0 key.1)) (now q other)) (sym (same-keys q other key.0 key.1))
        ∙ by (same_key (q, other) key) refl
        ∙ ap (λ b. cond b (with_frame f (table q other)) (table q other)) (sym (any-append (same_key (q, other)) keys key))
      where
        true-last : (a : Bool) → (a || true) ≡ true
        true-last true = refl
        true-last false = refl

        false-last : (a : Bool) → (a || false) ≡ a
        false-last true = refl
        false-last false = refl

        by : (b : Bool) → same_key (q, other) key ≡ b → cond b (with_frame f (now key.0 key.1)) (now q other)
            ≡ cond (list_any (same_key (q, other)) keys || b) (with_frame f (table q other)) (table q other)
        by true same = at_key q other same
            ∙ ap (λ b. cond b (with_frame f (table q other)) (table q other)) (sym (true-last (list_any (same_key (q, other)) keys)))
        by false same = (λ i. is i q other) ∙ ap (λ b. cond b (with_frame f (table q other)) (table q other)) (sym (false-last (list_any (same_key (q, other)) keys)))

-- where the entry is no frame's
pub with_frame-still : (p page : ℕ) (t : Pte) (table : ℕ → ℕ → Pte) → table p page ≡ t → table ≡ with_entry p page t table
with_frame-still p page t table is = λ i q other. (by q other (q == p && other == page) refl) i
  where
    by : (q other : ℕ) (b : Bool) → (q == p && other == page) ≡ b → table q other ≡ cond b t (table q other)
    by q other true h = let a : q ≡ p = grind (arith, nat_tests, h) in let b : other ≡ page = grind (arith, nat_tests, h) in
        (λ i. table (a i) (b i)) ∙ is
    by q other false h = refl
