-- Spans that are put in and taken out, by area.
use Rattle.std.proofs.Common.{◌≡◌, ℕ, ◌*◌, ◌^◌, ◌<◌, Bool, true, false, cond, ◌==◌, ltb, IsSome, Some, List, [], ◌∷◌, refl, sym, ap, ◌∙◌, subst, arith, inl, inr, eq-eqb, ne_eqb, filter}
use Rattle.std.proofs.lemmas.Bool.{cases_eq, cases_order, lt-ltb, ltb-false, eqb-true}
use Rattle.av_arena.specs.Order.{with_entry, without_key, entry_at}
use Rattle.std.specs.List.{AllByRecursion}
use Rattle.av_interval.specs.declared.span.Span.{Span}
use Rattle.av_interval.specs.Span.{key, key_of}
use Rattle.av_interval.specs.Spans.{IsNew}
use Rattle.av_anon.specs.Spans.{is_of}

abbrev pub Fits : List Span → Type 0
Fits xs = AllByRecursion (λ x. x.area < 2 ^ 64) xs

-- equal keys are of one area
one_area : (f x g y : ℕ) → key_of f x ≡ key_of g y → x < 2 ^ 64 → y < 2 ^ 64 → x ≡ y
unfolding key_of
one_area f x g y e p q = elim (cases_order f g) [
  | inl h ↦ let same : f * 2 ^ 64 ≡ g * 2 ^ 64 = ap (λ n. n * 2 ^ 64) h in omega arith
  | inr (inl h) ↦ absurd (omega arith)
  | inr (inr h) ↦ absurd (omega arith)
]

pub none_of : (a : ℕ) (xs : List Span) → filter (is_of a) xs ≡ [] → IsNew a xs
none_of a [] h = tt
none_of a (x ∷ xs) h = elim (cases_eq x.area a) [
  | inl e ↦ let clash : x ∷ filter (is_of a) xs ≡ [] = sym (ap (λ b. cond b (x ∷ filter (is_of a) xs) (filter (is_of a) xs)) (eq-eqb x.area a e))
      ∙ h in absurd (no clash)
  | inr ne ↦ (ne, none_of a xs (sym (ap (λ b. cond b (x ∷ filter (is_of a) xs) (filter (is_of a) xs)) (ne_eqb x.area a ne)) ∙ h))
]
  where
    no : {ys : List Span} → x ∷ ys ≡ [] → ⊥
    no c = cc

pub new_none : (a : ℕ) (xs : List Span) → IsNew a xs → filter (is_of a) xs ≡ []
new_none a [] new = refl
new_none a (x ∷ xs) new = ap (λ b. cond b (x ∷ filter (is_of a) xs) (filter (is_of a) xs)) (ne_eqb x.area a new.0) ∙ new_none a xs new.1

heads : {y x : Span} {ys xs : List Span} → y ∷ ys ≡ x ∷ xs → y ≡ x
heads e = cc

tails : {y x : Span} {ys xs : List Span} → y ∷ ys ≡ x ∷ xs → ys ≡ xs
tails e = cc

pub found_of : (a : ℕ) (xs : List Span) (y : Span) (ys : List Span) → filter (is_of a) xs ≡ y ∷ ys → IsSome (entry_at key (key y) xs)
found_of a [] y ys h = absurd (no h)
  where
    no : [] ≡ y ∷ ys → ⊥
    no c = cc
found_of a (x ∷ xs) y ys h = elim (cases_eq x.area a) [
  | inl e ↦
      let is : x ≡ y = heads (sym (ap (λ b. cond b (x ∷ filter (is_of a) xs) (filter (is_of a) xs)) (eq-eqb x.area a e)) ∙ h) in
      subst IsSome (sym (ap (λ b. cond b (Some x) (entry_at key (key y) xs)) (eq-eqb (key x) (key y) (ap key is)))) refl
  | inr ne ↦ later (key x == key y)
      (found_of a xs y ys (sym (ap (λ b. cond b (x ∷ filter (is_of a) xs) (filter (is_of a) xs)) (ne_eqb x.area a ne)) ∙ h))
]
  where
    later : (b : Bool) → IsSome (entry_at key (key y) xs) → IsSome (cond b (Some x) (entry_at key (key y) xs))
    later true d = refl
    later false d = d

-- ---- one is put in

pub with_other : (number : ℕ) (x : Span) (xs : List Span) → (x.area ≡ number → ⊥)
    → filter (is_of number) (with_entry key x xs) ≡ filter (is_of number) xs
with_other number x [] ne = ap (λ b. cond b (x ∷ []) []) (ne_eqb x.area number ne)
with_other number x (y ∷ t) ne = first (ltb (key x) (key y)) (with_other number x t ne)
  where
    rest : (b : Bool) → filter (is_of number) (with_entry key x t) ≡ filter (is_of number) t
        → filter (is_of number) (cond b (with_entry key x t) t) ≡ filter (is_of number) t
    rest true h = h
    rest false h = refl

    first : (b : Bool) → filter (is_of number) (with_entry key x t) ≡ filter (is_of number) t
        → filter (is_of number) (cond b (x ∷ y ∷ t) (y ∷ cond (ltb (key y) (key x)) (with_entry key x t) t)) ≡ filter (is_of number) (y ∷ t)
    first true h = ap (λ b. cond b (x ∷ filter (is_of number) (y ∷ t)) (filter (is_of number) (y ∷ t))) (ne_eqb x.area number ne)
    first false h = ap (λ zs. cond (is_of number y) (y ∷ zs) zs) (rest (ltb (key y) (key x)) h)

pub with_new : (x : Span) (xs : List Span) → x.area < 2 ^ 64 → Fits xs → IsNew x.area xs → filter (is_of x.area) (with_entry key x xs) ≡ x ∷ []
with_new x [] fit fits new = ap (λ b. cond b (x ∷ []) []) (eq-eqb x.area x.area refl)
with_new x (y ∷ t) fit fits new = first (ltb (key x) (key y)) refl (with_new x t fit fits.1 new.1)
  where
    later : ltb (key x) (key y) ≡ false → ltb (key y) (key x) ≡ true
    later h = elim (cases_order (key y) (key x)) [
      | inl e ↦ absurd (new.0 (one_area y.first y.area x.first x.area e fits.0 fit))
      | inr (inl lt) ↦ lt-ltb (key y) (key x) lt
      | inr (inr gt) ↦ let le = ltb-false (key x) (key y) h in absurd (omega arith)
    ]

    first : (b : Bool) → ltb (key x) (key y) ≡ b → filter (is_of x.area) (with_entry key x t) ≡ x ∷ []
        → filter (is_of x.area) (cond b (x ∷ y ∷ t) (y ∷ cond (ltb (key y) (key x)) (with_entry key x t) t)) ≡ x ∷ []
    first true h r = ap (λ b. cond b (x ∷ filter (is_of x.area) (y ∷ t)) (filter (is_of x.area) (y ∷ t))) (eq-eqb x.area x.area refl)
        ∙ ap (λ zs. x ∷ zs) (new_none x.area (y ∷ t) new)
    first false h r =
        ap (λ b. filter (is_of x.area) (y ∷ cond b (with_entry key x t) t)) (later h)
        ∙ ap (λ b. cond b (y ∷ filter (is_of x.area) (with_entry key x t)) (filter (is_of x.area) (with_entry key x t)))
        (ne_eqb y.area x.area new.0) ∙ r

pub with_fits : (x : Span) (xs : List Span) → x.area < 2 ^ 64 → Fits xs → Fits (with_entry key x xs)
with_fits x [] fit fits = (fit, tt)
with_fits x (y ∷ t) fit fits = first (ltb (key x) (key y)) (with_fits x t fit fits.1)
  where
    rest : (b : Bool) → Fits (with_entry key x t) → Fits (cond b (with_entry key x t) t)
    rest true h = h
    rest false h = fits.1

    first : (b : Bool) → Fits (with_entry key x t) → Fits (cond b (x ∷ y ∷ t) (y ∷ cond (ltb (key y) (key x)) (with_entry key x t) t))
    first true h = (fit, fits)
    first false h = (fits.0, rest (ltb (key y) (key x)) h)

-- ---- one is taken out

pub without_other : (number : ℕ) (x : Span) (xs : List Span) → x.area < 2 ^ 64 → Fits xs → (x.area ≡ number → ⊥)
    → filter (is_of number) (without_key key (key x) xs) ≡ filter (is_of number) xs
without_other number x [] fit fits ne = refl
without_other number x (y ∷ t) fit fits ne = first (key y == key x) refl (without_other number x t fit fits.1 ne)
  where
    first : (b : Bool) → (key y == key x) ≡ b → filter (is_of number) (without_key key (key x) t) ≡ filter (is_of number) t
        → filter (is_of number) (cond b t (y ∷ without_key key (key x) t)) ≡ filter (is_of number) (y ∷ t)
    first true h r =
        let one : y.area ≡ x.area = one_area y.first y.area x.first x.area (eqb-true (key y) (key x) h) fits.0 fit in
        sym (ap (λ b. cond b (y ∷ filter (is_of number) t) (filter (is_of number) t)) (ne_eqb y.area number (λ e. ne (sym one ∙ e))))
    first false h r = ap (λ zs. cond (is_of number y) (y ∷ zs) zs) r

pub without_same : (x : Span) (xs : List Span) → x.area < 2 ^ 64 → Fits xs → filter (is_of x.area) xs ≡ x ∷ []
    → filter (is_of x.area) (without_key key (key x) xs) ≡ []
without_same x [] fit fits only = refl
without_same x (y ∷ t) fit fits only = elim (cases_eq y.area x.area) [
  | inl e ↦
      let here : y ∷ filter (is_of x.area) t ≡ x ∷ [] = sym (ap (λ b. cond b (y ∷ filter (is_of x.area) t) (filter (is_of x.area) t))
      (eq-eqb y.area x.area e)) ∙ only in
      ap (λ b. filter (is_of x.area) (cond b t (y ∷ without_key key (key x) t))) (eq-eqb (key y) (key x) (ap key (heads here))) ∙ tails here
  | inr ne ↦
      let rest : filter (is_of x.area) t ≡ x ∷ [] = sym (ap (λ b. cond b (y ∷ filter (is_of x.area) t) (filter (is_of x.area) t))
      (ne_eqb y.area x.area ne)) ∙ only in
      ap (λ b. filter (is_of x.area) (cond b t (y ∷ without_key key (key x) t))) (ne_eqb (key y) (key x) (λ e. ne
      (one_area y.first y.area x.first x.area e fits.0 fit)))
      ∙ ap (λ b. cond b (y ∷ filter (is_of x.area) (without_key key (key x) t)) (filter (is_of x.area) (without_key key (key x) t)))
      (ne_eqb y.area x.area ne) ∙ without_same x t fit fits.1 rest
]

pub without_fits : (k : ℕ) (xs : List Span) → Fits xs → Fits (without_key key k xs)
without_fits k [] fits = tt
without_fits k (y ∷ t) fits = first (key y == k) (without_fits k t fits.1)
  where
    first : (b : Bool) → Fits (without_key key k t) → Fits (cond b t (y ∷ without_key key k t))
    first true h = fits.1
    first false h = (fits.0, h)
