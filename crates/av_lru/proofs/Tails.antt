-- The last frames of a ring, by the links that lead back.
use Rattle.std.proofs.Common.{◌≡◌, ℕ, zero, suc, ◌+◌, ◌<◌, ◌≤◌, min, List, [], ◌∷◌, ◌++◌, length, take, reverse, refl, sym, ap, ◌∙◌, subst, inl, inr, arith, append_assoc}
use Rattle.std.proofs.lemmas.List.{take_all, reverse-append}
use Rattle.std.proofs.lemmas.Bool.{cases_lt}
use Rattle.av_lru.specs.Links.{IsIn, walk, after_links, IsPath}
use Rattle.av_lru.proofs.Paths.{length-walk}

after_next : (next : ℕ → ℕ) (n from : ℕ) → after_links next n (next from) ≡ next (after_links next n from)
after_next next zero from = refl
after_next next (suc n) from = ap next (after_next next n from)

walk-suc : (next : ℕ → ℕ) (n from : ℕ) → walk next (suc n) from ≡ walk next n from ++ after_links next (suc n) from ∷ []
walk-suc next zero from = refl
walk-suc next (suc n) from =
    ap (λ xs. next from ∷ xs) (walk-suc next n (next from) ∙ ap (λ x. walk next n (next from) ++ x ∷ []) (after_next next (suc n) from))

-- one step more
pub grown : (old now new : List ℕ) (next : ℕ → ℕ) (n m from at x : ℕ) → m ≡ n + 1 → now ≡ old ++ walk next n from → at ≡ after_links next n from
    → x ≡ next at →
    new ≡ now ++ x ∷ [] → new ≡ old ++ walk next m from
grown old now new next n m from at x more so_far here is pushed =
    pushed ∙ ap (λ xs. xs ++ x ∷ []) so_far ∙ append_assoc old (walk next n from) (x ∷ [])
    ∙ ap (λ y. old ++ (walk next n from ++ y ∷ [])) (is ∙ ap next here)
    ∙ ap (λ xs. old ++ xs) (sym (walk-suc next n from)) ∙ ap (λ k. old ++ walk next k from) (let e : suc n ≡ m = omega (arith, more) in e)

pub stepped : (next : ℕ → ℕ) (n m from at x : ℕ) → m ≡ n + 1 → at ≡ after_links next n from → x ≡ next at → x ≡ after_links next m from
stepped next n m from at x more here is = is ∙ ap next here ∙ ap (λ k. after_links next k from) (let e : suc n ≡ m = omega (arith, more) in e)

take-walk : (next : ℕ → ℕ) (k n from : ℕ) → k ≤ n → take k (walk next n from) ≡ walk next k from
take-walk next zero n from h = refl
take-walk next (suc k) zero from h = absurd (omega (arith, h))
take-walk next (suc k) (suc n) from h = ap (λ xs. next from ∷ xs) (take-walk next k n (next from) (omega (arith, h)))

module _ (next prev : ℕ → ℕ) where
  after_path : (from : ℕ) (fs : List ℕ) (to : ℕ) → IsPath next prev from fs to → after_links prev (suc (length fs)) to ≡ from
  after_path from [] to path = path.1
  after_path from (f ∷ fs) to path = ap prev (after_path f fs to path.2) ∙ path.1

  back_path : (from : ℕ) (fs : List ℕ) (to : ℕ) → IsPath next prev from fs to → walk prev (length fs) to ≡ reverse fs
  back_path from [] to path = refl
  back_path from (f ∷ fs) to path =
      walk-suc prev (length fs) to
      ∙ ap (λ xs. xs ++ after_links prev (suc (length fs)) to ∷ []) (back_path f fs to path.2)
      ∙ ap (λ x. reverse fs ++ x ∷ []) (after_path f fs to path.2)
      ∙ sym (reverse-append (f ∷ []) fs)

  -- the places on the way back are frames of the path
  pub back_in : (from : ℕ) (fs : List ℕ) (to i : ℕ) → IsPath next prev from fs to → i < length fs → IsIn (after_links prev (suc i) to) fs
  back_in from [] to i path h = absurd (omega (arith, h))
  back_in from (f ∷ fs) to i path h =
      elim (cases_lt i (length fs)) [
        | inl below ↦ inr (back_in f fs to i path.2 below)
        | inr past ↦ inl (sym
            (ap (λ k. after_links prev (suc k) to) (let e : i ≡ length fs = omega (arith, h, past) in e) ∙ after_path f fs to path.2))
      ]

  -- the last frames, from the end on
  pub tails_path : (from : ℕ) (fs : List ℕ) (to count steps : ℕ) → IsPath next prev from fs to → steps ≡ min count (length fs) →
      walk prev steps to ≡ take count (reverse fs)
  tails_path from fs to count steps path is =
      elim (cases_lt count (length fs)) [
        | inl fewer ↦
            ap (λ k. walk prev k to) (let e : steps ≡ count = omega (arith, is, fewer) in e)
            ∙ sym (take-walk prev count (length fs) to (omega (arith, fewer)))
            ∙ ap (take count) (back_path from fs to path)
        | inr all ↦
            ap (λ k. walk prev k to) (let e : steps ≡ length fs = omega (arith, is, all) in e)
            ∙ back_path from fs to path
            ∙ sym (take_all count (reverse fs)
            (subst (λ m. m ≤ count) (sym (ap length (sym (back_path from fs to path)) ∙ length-walk prev (length fs) to))
            all))
      ]
