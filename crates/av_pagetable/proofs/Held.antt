-- The tables of a directory are those of its parts.
use Rattle.std.proofs.Common.{◌≡◌, ◌≢◌, ℕ, zero, suc, ◌+◌, ◌-◌, ◌*◌, ◌/◌, ◌%◌, ◌<◌, ◌≤◌, List, [], ◌∷◌, ◌++◌, length, map, get_or, refl, sym, ap, ◌∙◌, arith, inl, inr, length-append, take, Some}
use Rattle.std.proofs.Math.Seq.{take-suc}
use Rattle.std.proofs.lemmas.Bool.{cases_eq, cases_lt}
use Rattle.std.specs.Prelude.{nat_eq}
use Rattle.std.specs.Map.{lookup}
use Rattle.std.proofs.lemmas.List.{get_or_append_left, get_or-append_right, get_or-map, length-map, append-nil}
use Rattle.std.proofs.lemmas.Nat.{div-add-mod', div-mul-add, mod-mul-add, mod_below, mul-le, div_below}
use Rattle.av_pagetable.specs.declared.pte.Pte.{Pte}
use Rattle.av_pagetable.specs.declared.pte.Pte.TheVariants.{Empty}
use Rattle.av_pagetable.specs.Dir.{entries, part_of, in_part, AreParts}
use Rattle.av_pagetable.specs.Held.{AreValues, AreHeld, AllDivide}
use Rattle.av_pagetable.proofs.DirParts.{skipped, first_found, not_before}
use Rattle.av_pagetable.proofs.DirEntries.{no_entries, part_is, no_part, same_part, next_row}

-- the page below is of the part k alone, and what f has there
pub record Adds (f f' g : ℕ → Pte) (span bound k : ℕ) : Type 0 where
  pub some : 0 < span
  pub within : k * span + span ≤ bound
  pub new : (page : ℕ) → page / span ≡ k → f' page ≡ g (page % span)
  pub none : (page : ℕ) → page / span ≡ k → f page ≡ Empty
  pub old : (page : ℕ) → page / span ≢ k → f' page ≡ f page

-- a page of part k, in units of a size that divides the span
in_units : (k q size t span : ℕ) → 0 < size → span ≡ t * size → (k * span + q) / size ≡ k * t + q / size
in_units k q size t span some is =
    let e : k * span + q ≡ (k * t + q / size) * size + q % size = omega (arith, div-add-mod' q size, ap (λ s. k * s) is, assoc k t size) in
    ap (λ n. n / size) e ∙ div-mul-add (k * t + q / size) size (q % size) (mod_below q size some)
  where
    assoc : (k t size : ℕ) → k * (t * size) ≡ k * t * size
    assoc k t size = grind arith

whole : (page span : ℕ) → page / span * span + page % span ≡ page
whole page span = div-add-mod' page span

-- a page whose unit is one of part k stands in part k
part_from_unit : (page k v size t span : ℕ) → 0 < size → 0 < span → span ≡ t * size → v < t → page / size ≡ k * t + v → page / span ≡ k
part_from_unit page k v size t span size_some span_some is low unit =
    let one : page / size ≡ page / span * t + page % span / size = ap (λ p. p / size) (sym (whole page span)) ∙ in_units (page / span)
    (page % span) size t span size_some is in
    let under : page % span / size < t = div_below (page % span) size t size_some (omega (arith, mod_below page span span_some, is)) in
    same (page / span) k (page % span / size) v t under low (sym one ∙ unit)
  where
    same : (a b c d w : ℕ) → c < w → d < w → a * w + c ≡ b * w + d → a ≡ b
    same a b c d w h h' e = sym (div-mul-add a w c h) ∙ ap (λ n. n / w) e ∙ div-mul-add b w d h'

pub joined : (f f' g : ℕ → Pte) (span bound k size t : ℕ) (vs values : List ℕ) → Adds f f' g span bound k → 0 < size → span ≡ t * size →
    AreValues g span size vs → AreValues f bound size values
    → AreValues f' bound size (map (λ v. k * t + v) vs ++ values)
joined f f' g span bound k size t vs values adds some is part rest = record {
  different = λ i j h h' e. different i j h h' e;
  each = λ i h none. each i h none;
  all = λ page h there. all page h there;
}
  where
    n : ℕ
    n = length vs

    len : length (map (λ v. k * t + v) vs ++ values) ≡ length vs + length values
    len = omega (arith, length-append (map (λ v. k * t + v) vs) values, length-map vs (λ v. k * t + v))

    first : (i : ℕ) → i < length vs → get_or (map (λ v. k * t + v) vs ++ values) i 0 ≡ k * t + get_or vs i 0
    first i h = get_or_append_left (map (λ v. k * t + v) vs) values 0 i (omega (arith, h, length-map vs (λ v. k * t + v)))
        ∙ get_or-map (λ v. k * t + v) vs i 0 0 h

    later : (i : ℕ) → length vs ≤ i → get_or (map (λ v. k * t + v) vs ++ values) i 0 ≡ get_or values (i - length vs) 0
    later i h = get_or-append_right (map (λ v. k * t + v) vs) values (length vs) i 0 (length-map vs (λ v. k * t + v)) h

    -- a value of the part is below t
    low : (i : ℕ) → i < length vs → get_or vs i 0 < t
    low i h = elim (cases_lt (get_or vs i 0) t) [
      | inl lt ↦ lt
      | inr ge ↦ absurd (part.each i h (λ q under unit. absurd (beyond q under unit ge)))
    ]
      where
        beyond : (q : ℕ) → q < span → q / size ≡ get_or vs i 0 → t ≤ get_or vs i 0 → ⊥
        beyond q under unit ge = let lt = div_below q size t some (omega (arith, under, is)) in omega (arith, lt, unit, ge)

    -- no value of the rest is a unit of part k
    apart : (i j : ℕ) → i < length vs → j < length values → k * t + get_or vs i 0 ≡ get_or values j 0 → ⊥
    apart i j h h' e = rest.each j h' (λ page under unit. adds.none page
        (part_from_unit page k (get_or vs i 0) size t span some adds.some is (low i h) (unit ∙ sym e)))

    different : (i j : ℕ) → i < length (map (λ v. k * t + v) vs ++ values) → j < length (map (λ v. k * t + v) vs ++ values) →
        get_or (map (λ v. k * t + v) vs ++ values) i 0 ≡ get_or (map (λ v. k * t + v) vs ++ values) j 0 → i ≡ j
    different i j h h' e = elim (cases_lt i (length vs)) [
      | inl a ↦ elim (cases_lt j (length vs)) [
        | inl b ↦ part.different i j a b (omega (arith, first i a, first j b, e))
        | inr b ↦ absurd (apart i (j - length vs) a (omega (arith, h', len, b)) (sym (first i a) ∙ e ∙ later j b))
      ]
      | inr a ↦ elim (cases_lt j (length vs)) [
        | inl b ↦ absurd (apart j (i - length vs) b (omega (arith, h, len, a)) (sym (first j b) ∙ sym e ∙ later i a))
        | inr b ↦ let same = rest.different (i - length vs) (j - length vs) (omega (arith, h, len, a)) (omega (arith, h', len, b))
            (sym (later i a) ∙ e ∙ later j b) in omega (arith, same, a, b)
      ]
    ]

    each : (i : ℕ) → i < length (map (λ v. k * t + v) vs ++ values) →
        ((page : ℕ) → page < bound → page / size ≡ get_or (map (λ v. k * t + v) vs ++ values) i 0 → f' page ≡ Empty) → ⊥
    each i h none = elim (cases_lt i (length vs)) [
      | inl a ↦ part.each i a (λ q under unit.
          let page_part : (k * span + q) / span ≡ k = div-mul-add k span q under in
          let page_there : (k * span + q) % span ≡ q = mod-mul-add k span q under in
          sym (adds.new (k * span + q) page_part ∙ ap g page_there)
          ∙ none (k * span + q) (omega (arith, under, adds.within)) (in_units k q size t span some is ∙ ap (λ v. k * t + v) unit ∙ sym (first i a)))
      | inr a ↦ rest.each (i - length vs) (omega (arith, h, len, a)) (λ page under unit. elim (cases_eq (page / span) k) [
        | inl here ↦ adds.none page here
        | inr other ↦ sym (adds.old page other) ∙ none page under (unit ∙ sym (later i a))
      ])
    ]

    all : (page : ℕ) → page < bound → (f' page ≡ Empty → ⊥) → (i : ℕ) × (i < length (map (λ v. k * t + v) vs ++ values))
        × (get_or (map (λ v. k * t + v) vs ++ values) i 0 ≡ page / size)
    all page h there = elim (cases_eq (page / span) k) [
      | inl here ↦
          let under = mod_below page span adds.some in
          let found = part.all (page % span) under (λ none. there (adds.new page here ∙ none)) in
          let unit : page / size ≡ k * t + page % span / size = ap (λ p. p / size) (sym (whole page span))
          ∙ in_units (page / span) (page % span) size t span
          some is ∙ ap (λ d. d * t + page % span / size) here in
          (found.0, omega (arith, found.1, len), first found.0 found.1 ∙ ap (λ v. k * t + v) found.2 ∙ sym unit)
      | inr other ↦
          let found = rest.all page h (λ none. there (adds.old page other ∙ none)) in
          let at : length vs + found.0 - length vs ≡ found.0 = omega arith in
          (length vs + found.0, omega (arith, found.1, len), later (length vs + found.0) (omega arith) ∙ ap (λ i. get_or values i 0) at ∙ found.2)
    ]

pub joined_all : (f f' g : ℕ → Pte) (span bound k : ℕ) (sizes : List ℕ) (n m : ℕ) → Adds f f' g span bound k → AllDivide span sizes
    → AreHeld g span sizes n →
    AreHeld f bound sizes m → AreHeld f' bound sizes (m + n)
joined_all f f' g span bound k [] n m adds divide part rest = omega (arith, part, rest)
joined_all f f' g span bound k (size ∷ sizes) n m adds (some, (t, is), divide) (vs, one, (a, part, n_is)) (values, two, (b, rest, m_is)) = (
  map (λ v. k * t + v) vs ++ values,
  joined f f' g span bound k size t vs values adds some is one two,
  (
    b + a,
    joined_all f f' g span bound k sizes a b adds divide part rest,
    omega (arith, n_is, m_is, length-append (map (λ v. k * t + v) vs) values, length-map vs (λ v. k * t + v)),
  ),
)

-- nothing is held
pub none_held : (f : ℕ → Pte) (bound : ℕ) (sizes : List ℕ) → ((page : ℕ) → f page ≡ Empty) → AreHeld f bound sizes 0
none_held f bound [] none = refl
none_held f bound (size ∷ sizes) none = (
  [],
  record {
    different = λ i j h h' e. absurd (nothing i h);
    each = λ i h e. nothing i h;
    all = λ page h there. absurd (there (none page));
  },
  (0, none_held f bound sizes none, refl),
)
  where
    nothing : (i : ℕ) → i < length {A = ℕ} [] → ⊥
    nothing i h = omega (arith, h)

-- a part with an entry is one table
pub one_held : (f : ℕ → Pte) (bound : ℕ) → (((q : ℕ) → q < bound → f q ≡ Empty) → ⊥) → AreValues f bound bound (0 ∷ [])
one_held f bound some = record {
  different = λ i j h h' e. omega (arith, first i h, first j h');
  each = λ i h none. some (λ q under. none q under (unit q i under h));
  all = λ page h there. (0, omega arith, sym (zero_unit page h));
}
  where
    first : (i : ℕ) → i < length {A = ℕ} (0 ∷ []) → i ≡ 0
    first i h = omega (arith, h)

    zero_unit : (q : ℕ) → q < bound → q / bound ≡ 0
    zero_unit q under = let e = div_below q bound 1 (omega (arith, under)) (omega (arith, under)) in omega (arith, e)

    unit : (q i : ℕ) → q < bound → i < length {A = ℕ} (0 ∷ []) → q / bound ≡ get_or {A = ℕ} (0 ∷ []) i 0
    unit q i under h = zero_unit q under ∙ ap (λ i. get_or (0 ∷ []) i 0) (sym (first i h))

pub divide_more : (span : ℕ) (sizes : List ℕ) → AllDivide span sizes → AllDivide (span * 512) sizes
divide_more span [] h = tt
divide_more span (size ∷ sizes) (some, (t, is), rest) = (some, (t * 512, omega (arith, is, turned t size)), divide_more span sizes rest)
  where
    turned : (t size : ℕ) → t * 512 * size ≡ t * size * 512
    turned t size = grind arith

-- ---- the parts at the first places
pub none_first : {C : Type 0} (at : C → ℕ → Pte) (span : ℕ) (parts : List (ℕ × C)) (page : ℕ) → entries at span (take 0 parts) page ≡ Empty
none_first at span parts page = no_entries at span [] refl page

-- one part more
pub next_adds : {C : Type 0} (at : C → ℕ → Pte) (span : ℕ) (parts : List (ℕ × C)) (k : ℕ) (p : ℕ × C) → AreParts at span parts → 0 < span →
    k < length parts → p ≡ get_or parts k p
    → Adds (entries at span (take k parts)) (entries at span (take (k + 1) parts)) (at p.1) span (span * 512) p.0
next_adds {C = C} at span parts k p good some within is = record {
  some = some;
  within = fits;
  new = λ page here. ap (λ l. in_part at (part_of l (page / span)) (page % span)) one_more
      ∙ ap (λ n. in_part at (part_of (take k parts ++ p ∷ []) n) (page % span)) here
      ∙ ap (λ o. in_part at o (page % span))
      (part_is (take k parts ++ p ∷ []) p.0 (Some p.1) low (first_found at span parts good k p within is [] p refl));
  none = λ page here. ap (λ n. in_part at (part_of (take k parts) n) (page % span)) here ∙ ap (λ o. in_part at o (page % span))
      (no_part (take k parts) p.0 (not_before at span parts good k p within is));
  old = λ page other. ap (λ l. in_part at (part_of l (page / span)) (page % span)) one_more
      ∙ ap (λ o. in_part at o (page % span)) (same_part (take k parts) (take k parts ++ p ∷ []) (page / span)
      (skipped (take k parts) [] p (page / span) other ∙ ap (lookup (nat_eq (page / span))) (append-nil (take k parts))));
}
  where
    low : p.0 < 512
    low = let h = good.below k p within in omega (arith, h, ap (λ part. part.0) is)

    fits : p.0 * span + span ≤ span * 512
    fits = omega (arith, mul-le (p.0 + 1) span 512 span (omega (arith, low)) (omega arith), next_row p.0 span)

    one_more : take (k + 1) parts ≡ take k parts ++ p ∷ []
    one_more = ap (λ n. take n parts) more ∙ take-suc parts k p within ∙ ap (λ x. take k parts ++ x ∷ []) (sym is)
      where
        more : k + 1 ≡ suc k
        more = omega arith

-- ---- no number wraps
pub few_all : (n total span : ℕ) → 0 < span → n ≤ 512 → total + n ≤ n * (2 * span) → total + 1 < 2 * (span * 512)
few_all zero total span some small h = omega (arith, h, some)
few_all (suc zero) total span some small h = omega (arith, h, some)
few_all (suc (suc n)) total span some small h = let e = mul-le (suc (suc n)) (2 * span) 512 (2 * span) small (omega arith) in omega (arith, h, e)

pub few_some : (n total span : ℕ) → n ≤ 512 → span * 512 ≤ 68719476736 → total + n ≤ n * (2 * span) → total ≤ 137438953472
few_some n total span small fits h = let e = mul-le n (2 * span) 512 (2 * span) small (omega arith) in omega (arith, h, e, fits)
