-- Which keys are there after a change.
use Rattle.std.proofs.Common.{◌≡◌, ◌∙◌, ℕ, Bool, true, false, cond, eqb, ltb, IsSome, Some, List, [], ◌∷◌, refl, sym, arith}
use Rattle.std.proofs.lemmas.Bool.{eqb-true, eq-eqb, ne_eqb}
use Rattle.av_arena.specs.Order.{with_entry, without_key, entry_at}
use Rattle.av_interval.specs.declared.span.Span.{Span}
use Rattle.av_interval.specs.Span.{key}

there_first : (k : ℕ) (x : Span) (t : List Span) → IsSome (entry_at key k t) → IsSome (entry_at key k (x ∷ t))
there_first k x t h = elim (eqb (key x) k) as (λ b. IsSome (cond b (Some x) (entry_at key k t))) [ true ↦ refl | false ↦ h ]

there_next : (k : ℕ) (y : Span) (t u : List Span) → (IsSome (entry_at key k t) → IsSome (entry_at key k u)) → IsSome (entry_at key k (y ∷ t)) →
    IsSome (entry_at key k (y ∷ u))
there_next k y t u f h = elim (eqb (key y) k) as (λ b. IsSome (cond b (Some y) (entry_at key k t)) →
    IsSome (cond b (Some y) (entry_at key k u))) [ true ↦ λ d. refl | false ↦ f ] h

-- what is there stays there
pub there_with : (k : ℕ) (x : Span) (t : List Span) → IsSome (entry_at key k t) → IsSome (entry_at key k (with_entry key x t))
there_with k x [] h = absurd (let d : ◌≡◌ {A = Bool} false true = h in cc)
there_with k x (y ∷ t) h = elim (ltb (key x) (key y)) as (λ b. IsSome
    (entry_at key k (cond b (x ∷ y ∷ t) (y ∷ cond (ltb (key y) (key x)) (with_entry key x t) t)))) [
      | true ↦ there_first k x (y ∷ t) h
      | false ↦ elim (ltb (key y) (key x)) as (λ b. IsSome (entry_at key k (y ∷ cond b (with_entry key x t) t))) [
        | true ↦ there_next k y t (with_entry key x t) (there_with k x t) h
        | false ↦ h
      ]
    ]

-- what is put in is there, where no entry had its key
pub there_new : (x : Span) (t : List Span) → IsSome (entry_at key (key x) (with_entry key x t))
there_new x [] = rw (eq-eqb (key x) (key x) refl) refl
there_new x (y ∷ t) = elim (ltb (key x) (key y)) as (λ b. ltb (key x) (key y) ≡ b →
    IsSome (entry_at key (key x) (cond b (x ∷ y ∷ t) (y ∷ cond (ltb (key y) (key x)) (with_entry key x t) t)))) [
      | true ↦ λ e. rw (eq-eqb (key x) (key x) refl) refl
      | false ↦ λ e. elim (ltb (key y) (key x)) as
          (λ b. ltb (key y) (key x) ≡ b → IsSome (entry_at key (key x) (y ∷ cond b (with_entry key x t) t))) [
            | true ↦ λ d. there_next_one (key x) y (with_entry key x t) (there_new x t)
            | false ↦ λ d. rw (eq-eqb (key y) (key x) (same_key (key x) (key y) e d)) refl
          ] refl
    ] refl
  where
    there_next_one : (k : ℕ) (y : Span) (u : List Span) → IsSome (entry_at key k u) → IsSome (entry_at key k (y ∷ u))
    there_next_one k y u h = elim (eqb (key y) k) as (λ b. IsSome (cond b (Some y) (entry_at key k u))) [ true ↦ refl | false ↦ h ]

    same_key : (a b : ℕ) → ltb a b ≡ false → ltb b a ≡ false → b ≡ a
    same_key a b e d = let p = Rattle.std.proofs.lemmas.Bool.ltb-false a b e in let q = Rattle.std.proofs.lemmas.Bool.ltb-false b a d in omega arith

-- another key stays there
pub there_without : (k m : ℕ) (t : List Span) → (m ≡ k → ⊥) → IsSome (entry_at key k t) → IsSome (entry_at key k (without_key key m t))
there_without k m [] n h = h
there_without k m (y ∷ t) n h = elim (eqb (key y) m) as (λ b. eqb (key y) m ≡ b → IsSome (entry_at key k (cond b t (y ∷ without_key key m t)))) [
  | true ↦ λ e. let d : key y ≡ m = eqb-true (key y) m e in rw (ne_eqb (key y) k (λ p. n (sym d ∙ p))) at h
  | false ↦ λ e. there_next k y t (without_key key m t) (there_without k m t n) h
] refl
