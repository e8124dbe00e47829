-- What the looks from a home find: the entries that pass the test, each once.
use Rattle.std.proofs.Common.{◌≡◌, ℕ, zero, suc, ◌+◌, ◌<◌, Bool, true, false, cond, ◌&&◌, List, [], ◌∷◌, ◌++◌, Option, Some, None, length, refl, sym}
use Rattle.std.proofs.Common.{ap, subst, ◌∙◌, arith, inl, inr, ◌==◌, eq-eqb, ne_eqb}
use Rattle.std.proofs.lemmas.Bool.{cases_eq}
use Rattle.std.proofs.lemmas.Bool.Decides.{nat_tests}
use Rattle.av_base.proofs.Keys.{same_key-is}
use Rattle.av_base.specs.Keys.{Key, same_key}
use Rattle.av_base.specs.Words.{how_many}
use Rattle.av_chain.specs.Links.{one_if}
use Rattle.av_pagetable.specs.declared.pte.Pte.{Pte}
use Rattle.av_vma.specs.declared.area.Area.{Area}
use Rattle.av_vma.specs.Index.{index_of}
use Rattle.av_vma.specs.Pages.{has_page}
use Rattle.av_rmap.specs.Covered.{IsCovered, IsReached}
use Rattle.av_rmap.specs.View.{View, AreApart, AreSpanned}
use Rattle.av_rmap.specs.Walk.{areas_from, holds, page_at, found_from, found_in, walk_of, AreItsEntries, HasSoMany}
use Rattle.av_rmap.proofs.NextAreas.{often}
use Rattle.av_rmap.proofs.SpanLemmas.{are_spans, one-span}

pub many-append : {X : Type 0} (test : X → Bool) (xs ys : List X) → how_many test (xs ++ ys) ≡ how_many test xs + how_many test ys
many-append test [] ys = omega arith
many-append test (x ∷ xs) ys = let h = many-append test xs ys in omega (arith, h)

pub not_more : (n : ℕ) → (0 < n → ⊥) → n ≡ 0
not_more zero h = refl
not_more (suc n) h = absurd (h (omega arith))

none : 0 < 0 → ⊥
none h = absurd (omega arith)

key_is : (k j : Key) → same_key k j ≡ true → (k.0 ≡ j.0) × (k.1 ≡ j.1)
key_is k j h = let is = same_key-is k j h in (ap (λ x. x.0) is, ap (λ x. x.1) is)

is_key : (k j : Key) → k.0 ≡ j.0 → k.1 ≡ j.1 → same_key k j ≡ true
is_key k j h h' = grind (arith, nat_tests, h, h')

-- an area that holds an index has a page there
pub holds-has : (area : Area) (i : ℕ) → holds i area ≡ true → has_page area (page_at i area) ≡ true
holds-has area i h = grind (arith, nat_tests, h)

-- and one that has a page holds its index, and has that page there
pub has-holds : (area : Area) (x i : ℕ) → has_page area x ≡ true → index_of area x ≡ i → (holds i area ≡ true) × (page_at i area ≡ x)
has-holds area x i h e = (grind (arith, nat_tests, h, e), grind (arith, nat_tests, h, e))

-- what a look finds is an entry of the frame, on a page of the area
pub record IsFound (view : View) (f : Pte → Bool) (area : Area) (k : Key) : Type 0 where
  pub of : area.pid ≡ k.0
  pub here : has_page area k.1 ≡ true
  pub named : f (view.entry k.0 k.1) ≡ true

pub look-found : (view : View) (f : Pte → Bool) (i : ℕ) (k : Key) (area : Area) → 0 < how_many (same_key k) (found_in view f i (Some area))
    → IsFound view f area k
look-found view f i k area h = is (holds i area) (f (view.entry area.pid (page_at i area))) refl refl
  where
    one : Key
    one = (area.pid, page_at i area)

    passes : (b : Bool) → 0 < cond b 1 0 + 0 → b ≡ true
    passes true h = refl
    passes false h = absurd (omega arith)

    is : (b c : Bool) → holds i area ≡ b → f (view.entry area.pid (page_at i area)) ≡ c → IsFound view f area k
    is true true e e' =
        let found : 0 < how_many (same_key k) (one ∷ []) = subst (λ (b : Bool). 0 < how_many (same_key k) (cond b (one ∷ []) []))
        (ap (λ b. b && f (view.entry area.pid (page_at i area))) e ∙ e') h in
        let key = key_is k one (passes (same_key k one) found) in
        record {
          of = sym key.0;
          here = subst (λ n. has_page area n ≡ true) (sym key.1) (holds-has area i e);
          named = ap (λ n. f (view.entry n k.1)) key.0 ∙ ap (λ n. f (view.entry area.pid n)) key.1 ∙ e';
        }
    is true false e e' = absurd (none (subst (λ (b : Bool). 0 < how_many (same_key k) (cond b (one ∷ []) []))
        (ap (λ b. b && f (view.entry area.pid (page_at i area))) e ∙ e') h))
    is false c e e' = absurd (none (subst (λ (b : Bool). 0 < how_many (same_key k) (cond b (one ∷ []) []))
        (ap (λ b. b && f (view.entry area.pid (page_at i area))) e) h))

-- and its linear index is that of the look
pub look-index : (view : View) (f : Pte → Bool) (i : ℕ) (k : Key) (area : Area) → 0 < how_many (same_key k) (found_in view f i (Some area))
    → index_of area k.1 ≡ i
look-index view f i k area h = is (holds i area) (f (view.entry area.pid (page_at i area))) refl refl
  where
    one : Key
    one = (area.pid, page_at i area)

    passes : (b : Bool) → 0 < cond b 1 0 + 0 → b ≡ true
    passes true h = refl
    passes false h = absurd (omega arith)

    there : holds i area ≡ true → k.1 ≡ page_at i area → index_of area k.1 ≡ i
    there e p = grind (arith, nat_tests, e, p)

    is : (b c : Bool) → holds i area ≡ b → f (view.entry area.pid (page_at i area)) ≡ c → index_of area k.1 ≡ i
    is true true e e' =
        let found : 0 < how_many (same_key k) (one ∷ []) = subst (λ (b : Bool). 0 < how_many (same_key k) (cond b (one ∷ []) []))
        (ap (λ b. b && f (view.entry area.pid (page_at i area))) e ∙ e') h in
        there e (key_is k one (passes (same_key k one) found)).1
    is true false e e' = absurd (none (subst (λ (b : Bool). 0 < how_many (same_key k) (cond b (one ∷ []) []))
        (ap (λ b. b && f (view.entry area.pid (page_at i area))) e ∙ e') h))
    is false c e e' = absurd (none (subst (λ (b : Bool). 0 < how_many (same_key k) (cond b (one ∷ []) []))
        (ap (λ b. b && f (view.entry area.pid (page_at i area))) e) h))

-- a look in the area of an entry that the home reaches finds it
look-finds : (view : View) (f : Pte → Bool) (home : ℕ × ℕ) (k : Key) → f (view.entry k.0 k.1) ≡ true → (r : IsReached view home k.0 k.1) →
    how_many (same_key k) (found_in view f home.1 (Some r.area)) ≡ 1
look-finds view f home k named r =
    let there = has-holds r.area k.1 home.1 r.here r.index in
    let it : f (view.entry r.area.pid (page_at home.1 r.area)) ≡ true = ap (λ n. f (view.entry n (page_at home.1 r.area))) r.of
    ∙ ap (λ n. f (view.entry k.0 n)) there.1 ∙ named in
    ap (λ (b : Bool). how_many (same_key k) (cond b ((r.area.pid, page_at home.1 r.area) ∷ []) []))
    (ap (λ b. b && f (view.entry r.area.pid (page_at home.1 r.area))) there.0 ∙ it)
    ∙ ap (λ b. cond b 1 0 + 0) (is_key k (r.area.pid, page_at home.1 r.area) (sym r.of) (sym there.1))

-- of a key of the frame, only the look in its own area finds it
pub look-of : (view : View) (f : Pte → Bool) (home : ℕ × ℕ) (k : Key) → AreApart view → f (view.entry k.0 k.1) ≡ true
    → (r : IsReached view home k.0 k.1) →
    (a : ℕ) → how_many (same_key k) (found_in view f home.1 (view.areas a)) ≡ cond (a == r.number) 1 0
look-of view f home k apart named r a = elim (cases_eq a r.number) [
  | inl e ↦ ap (λ o. how_many (same_key k) (found_in view f home.1 o)) (ap view.areas e ∙ r.stands)
      ∙ look-finds view f home k named r ∙ sym (ap (λ b. cond b 1 0) (eq-eqb a r.number e))
  | inr ne ↦ nothing ne (view.areas a) refl ∙ sym (ap (λ b. cond b 1 0) (ne_eqb a r.number ne))
]
  where
    nothing : (a ≡ r.number → ⊥) → (o : Option Area) → view.areas a ≡ o → how_many (same_key k) (found_in view f home.1 (view.areas a)) ≡ 0
    nothing ne None is = ap (λ o. how_many (same_key k) (found_in view f home.1 o)) is
    nothing ne (Some area) is = ap (λ o. how_many (same_key k) (found_in view f home.1 o)) is
        ∙ not_more (how_many (same_key k) (found_in view f home.1 (Some area))) (λ h.
        let found = look-found view f home.1 k area h in
        ne (apart a r.number k.1 area r.area is r.stands (found.of ∙ sym r.of) found.here r.here))

-- a key that is not the frame's is never found
pub look-none : (view : View) (f : Pte → Bool) (i : ℕ) (k : Key) → f (view.entry k.0 k.1) ≡ false → (o : Option Area) →
    how_many (same_key k) (found_in view f i o) ≡ 0
look-none view f i k not_it None = refl
look-none view f i k not_it (Some area) =
    not_more (how_many (same_key k) (found_in view f i (Some area))) (λ h. two (look-found view f i k area h).named)
  where
    two : f (view.entry k.0 k.1) ≡ true → ⊥
    two h = cc

pub walk-of : (view : View) (f : Pte → Bool) (i : ℕ) (k : Key) (n : ℕ)
    → ((a : ℕ) → how_many (same_key k) (found_in view f i (view.areas a)) ≡ cond (a == n) 1 0) →
    (areas : List ℕ) → how_many (same_key k) (walk_of view f i areas) ≡ how_many (λ a. a == n) areas
walk-of view f i k n each [] = refl
walk-of view f i k n each (a ∷ areas) =
    let h = each a in let rest = walk-of view f i k n each areas in
    many-append (same_key k) (found_in view f i (view.areas a)) (walk_of view f i areas) ∙ omega (arith, h, rest)

pub walk-none : (view : View) (f : Pte → Bool) (i : ℕ) (k : Key) → ((a : ℕ) → how_many (same_key k) (found_in view f i (view.areas a)) ≡ 0)
    → (areas : List ℕ) → how_many (same_key k) (walk_of view f i areas) ≡ 0
walk-none view f i k each [] = refl
walk-none view f i k each (a ∷ areas) =
    let h = each a in let rest = walk-none view f i k each areas in
    many-append (same_key k) (found_in view f i (view.areas a)) (walk_of view f i areas) ∙ omega (arith, h, rest)

-- the area of an entry that the home reaches is looked in once
pub one-area : (view : View) (home : ℕ × ℕ) (p page : ℕ) → AreSpanned view → (r : IsReached view home p page)
    → how_many (λ a. a == r.number) (areas_from view home) ≡ 1
one-area view home p page spanned r =
    often view home.1 r.number r.area r.stands (has-holds r.area page home.1 r.here r.index).0 (view.spans home.0) (are_spans view home.0 spanned)
    ∙ one-span view home.0 r.number r.area spanned r.stands r.linked

-- the walk finds the entries that pass the test, where each is reached from the home
pub walk-is : (view : View) (f : Pte → Bool) (home : ℕ × ℕ) → AreSpanned view → AreApart view → IsCovered view f home →
    AreItsEntries view f (found_from view f home)
walk-is view f home spanned apart covered k = is (f (view.entry k.0 k.1)) refl
  where
    is : (b : Bool) → f (view.entry k.0 k.1) ≡ b → how_many (same_key k) (found_from view f home) ≡ one_if (f (view.entry k.0 k.1))
    is true e =
        let r = covered k.0 k.1 e in
        walk-of view f home.1 k r.number (look-of view f home k apart e r) (areas_from view home)
        ∙ one-area view home k.0 k.1 spanned r ∙ sym (ap one_if e)
    is false e = walk-none view f home.1 k (λ a. look-none view f home.1 k e (view.areas a)) (areas_from view home) ∙ sym (ap one_if e)

-- so the looks find as many as there are
pub walk-many : (view : View) (f : Pte → Bool) (home : ℕ × ℕ) (n : ℕ) → AreSpanned view → AreApart view → IsCovered view f home
    → HasSoMany view f n → length (found_from view f home) ≡ n
walk-many view f home n spanned apart covered many = many (found_from view f home) (walk-is view f home spanned apart covered)
