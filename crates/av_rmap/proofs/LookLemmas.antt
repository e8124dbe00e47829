-- What a look finds, and how many looks find all.
use Rattle.std.proofs.Common.{◌≡◌, ℕ, ◌+◌, ◌<◌, ◌==◌, Bool, true, false, cond, ◌&&◌, List, [], ◌∷◌, ◌++◌, Option, Some, None, refl, sym, ap, ◌∙◌}
use Rattle.std.proofs.Common.{arith, append_assoc, length, eqb-true}
use Rattle.std.proofs.lemmas.List.{length-append, nil_from_length}
use Rattle.av_chain.specs.Links.{one_if}
use Rattle.av_pagetable.specs.declared.pte.Pte.{Pte}
use Rattle.av_vma.specs.declared.area.Area.{Area}
use Rattle.av_rmap.specs.View.{View}
use Rattle.av_base.specs.Keys.{Key}
use Rattle.av_rmap.specs.Walk.{holds, page_at, found_in, looks_to_last, passes_in, walk_of}

-- a look that finds nothing
pub finds-nothing : (view : View) (f : Pte → Bool) (i : ℕ) (o : Option Area) → passes_in view f i o ≡ false → found_in view f i o ≡ []
finds-nothing view f i None e = refl
finds-nothing view f i (Some area) e = ap (λ b. cond b ((area.pid, page_at i area) ∷ []) []) e

-- a look that finds an entry
pub finds-one : (view : View) (f : Pte → Bool) (i : ℕ) (o : Option Area) → passes_in view f i o ≡ true
    → (k : Key) × (f (view.entry k.0 k.1) ≡ true)
finds-one view f i None e = cc
finds-one view f i (Some area) e = ((area.pid, page_at i area), second (holds i area) (f (view.entry area.pid (page_at i area))) e)
  where
    second : (b c : Bool) → (b && c) ≡ true → c ≡ true
    second true c h = h
    second false c h = cc

-- how many a look finds
found-length : (view : View) (f : Pte → Bool) (i : ℕ) (o : Option Area) → length (found_in view f i o) ≡ one_if (passes_in view f i o)
found-length view f i None = refl
found-length view f i (Some area) = by (holds i area && f (view.entry area.pid (page_at i area)))
  where
    by : (b : Bool) → length {A = Key} (cond b ((area.pid, page_at i area) ∷ []) []) ≡ cond b 1 0
    by true = refl
    by false = refl

-- and with the looks that are left
pub walk-length : (view : View) (f : Pte → Bool) (i a : ℕ) (areas : List ℕ)
    → length (walk_of view f i (a ∷ areas)) ≡ one_if (passes_in view f i (view.areas a)) + length (walk_of view f i areas)
walk-length view f i a areas =
    length-append (found_in view f i (view.areas a)) (walk_of view f i areas)
    ∙ ap (λ n. n + length (walk_of view f i areas)) (found-length view f i (view.areas a))

-- where nothing is found, a look finds nothing
pub none-here : (view : View) (f : Pte → Bool) (i a : ℕ) (areas : List ℕ) → walk_of view f i (a ∷ areas) ≡ []
    → (passes_in view f i (view.areas a) ≡ false) × (walk_of view f i areas ≡ [])
none-here view f i a areas e = by (passes_in view f i (view.areas a)) refl
  where
    all : length (walk_of view f i (a ∷ areas)) ≡ 0
    all = ap length e

    by : (b : Bool) → passes_in view f i (view.areas a) ≡ b
        → (passes_in view f i (view.areas a) ≡ false) × (walk_of view f i areas ≡ [])
    by true p = let parts = walk-length view f i a areas ∙ ap (λ b. one_if b + length (walk_of view f i areas)) p in let none = all in
        absurd (omega (arith, parts, none))
    by false p = let parts = walk-length view f i a areas ∙ ap (λ b. one_if b + length (walk_of view f i areas)) p in let none = all in
        (p, nil_from_length _ (omega (arith, parts, none)))

-- ---- how many looks find all

-- where nothing is found, none is needed
pub looks-none : (view : View) (f : Pte → Bool) (i : ℕ) (areas : List ℕ) → walk_of view f i areas ≡ [] → looks_to_last view f i areas ≡ 0
looks-none view f i [] e = refl
looks-none view f i (a ∷ areas) e =
    let none = none-here view f i a areas e in
    ap (λ n. cond (n == 0) (one_if (passes_in view f i (view.areas a))) (1 + n)) (looks-none view f i areas none.1) ∙ ap one_if none.0

-- where no look finds one, none is left
none-left : (view : View) (f : Pte → Bool) (i : ℕ) (areas : List ℕ) → looks_to_last view f i areas ≡ 0 → walk_of view f i areas ≡ []
none-left view f i [] e = refl
none-left view f i (a ∷ areas) e = by (none-left view f i areas) (later == 0) refl here refl e
  where
    later : ℕ
    later = looks_to_last view f i areas

    here : Bool
    here = passes_in view f i (view.areas a)

    by : (later ≡ 0 → walk_of view f i areas ≡ []) → (b : Bool) → (later == 0) ≡ b → (c : Bool) → here ≡ c
        → cond b (one_if here) (1 + later) ≡ 0 → found_in view f i (view.areas a) ++ walk_of view f i areas ≡ []
    by again true z false p h = ap (λ ks. ks ++ walk_of view f i areas) (finds-nothing view f i (view.areas a) p) ∙ again (eqb-true later 0 z)
    by again true z true p h = let one = sym (ap one_if p) ∙ h in absurd (omega (arith, one))
    by again false z c p h = absurd (omega (arith, h))

-- where one is left to find, the next look is needed
pub a-look : (view : View) (f : Pte → Bool) (i a : ℕ) (areas : List ℕ) → 0 < length (walk_of view f i (a ∷ areas))
    → looks_to_last view f i (a ∷ areas) ≡ 1 + looks_to_last view f i areas
a-look view f i a areas some = by (later == 0) refl (passes_in view f i (view.areas a)) refl
  where
    later : ℕ
    later = looks_to_last view f i areas

    by : (b : Bool) → (later == 0) ≡ b → (c : Bool) → passes_in view f i (view.areas a) ≡ c
        → cond b (one_if (passes_in view f i (view.areas a))) (1 + later) ≡ 1 + later
    by false z c p = refl
    by true z true p = ap one_if p ∙ ap (λ n. 1 + n) (sym (eqb-true later 0 z))
    by true z false p =
        let rest = ap length (none-left view f i areas (eqb-true later 0 z)) in
        let parts = walk-length view f i a areas ∙ ap (λ b. one_if b + length (walk_of view f i areas)) p in
        absurd (omega (arith, rest, parts, some))

-- ---- what was found so far

-- and what is left is the whole: so where the look found nothing
pub found-without : {X : Type 0} (items look later whole : List X) → items ++ (look ++ later) ≡ whole → [] ≡ look → items ++ later ≡ whole
found-without items look later whole h none = ap (λ ks. items ++ (ks ++ later)) none ∙ h

-- and where it found one
pub found-with : {X : Type 0} (items new look later whole : List X) (k : X) → items ++ (look ++ later) ≡ whole → k ∷ [] ≡ look
    → new ≡ items ++ k ∷ [] → new ++ later ≡ whole
found-with items new look later whole k h one n =
    ap (λ ks. ks ++ later) n ∙ append_assoc items (k ∷ []) later ∙ ap (λ ks. items ++ (ks ++ later)) one ∙ h
