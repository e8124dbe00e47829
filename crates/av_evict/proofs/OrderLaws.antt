-- The order of turns: the frame that comes first, and the one that comes next.
use Rattle.std.proofs.Common.{slice_get, Bool, List, None, Option, Some, [], ap, arith, cond, false, length, refl, reverse, subst, sym, true, ℕ, ◌++◌, ◌+◌, ◌==◌, ◌||◌, ◌∙◌, ◌∷◌, ◌≡◌, ◌≤◌}
use Rattle.std.proofs.lemmas.Bool.Decides.{nat_tests}
use Rattle.std.proofs.lemmas.List.{append_assoc, length-append, length-reverse, reverse-append}
use Rattle.av_base.specs.Words.{how_many, is_in}
use Rattle.av_base.specs.declared.slot.Slot.{Slot}
use Rattle.av_plain.specs.Ledger.{Ledger, Setting}
use Rattle.av_plain.specs.Sound.{IsSoundBut}
use Rattle.av_plain.proofs.Ledger.{how_many-append}
use Rattle.av_plain.proofs.Sound.Changes.{any-counts}
use Rattle.av_plain.proofs.Sound.Counts.{same-is, same-itself}
use Rattle.av_plain.proofs.Sound.Entries.{flag}
use Rattle.av_plain.proofs.Sound.Pass.{count-reverse}
use Rattle.av_evict.specs.Pass.{turn_order}
use Rattle.av_evict.proofs.TailLaws.{first-no}

-- ---- one frame in a list

same_head : (x y : ℕ) (xs ys : List ℕ) → x ∷ xs ≡ y ∷ ys → (x ≡ y) × (xs ≡ ys)
same_head x y xs ys h = (cc, cc)

-- the first of more
first-append : (f : ℕ) (xs ys : List ℕ) → Some f ≡ slice_get xs 0 → Some f ≡ slice_get (xs ++ ys) 0
first-append f [] ys h = cc
first-append f (x ∷ xs) ys h = h

split-in : (f : ℕ) (fs : List ℕ) → is_in f fs ≡ true → (ahead : List ℕ) × (behind : List ℕ) × (fs ≡ ahead ++ f ∷ behind)
split-in f [] h = cc
split-in f (g ∷ fs) h = by (f == g) refl (split-in f fs) h
  where
    by : (b : Bool) → (f == g) ≡ b → (is_in f fs ≡ true → (ahead : List ℕ) × (behind : List ℕ) × (fs ≡ ahead ++ f ∷ behind)) →
        (b || is_in f fs) ≡ true →
        (ahead : List ℕ) × (behind : List ℕ) × (g ∷ fs ≡ ahead ++ f ∷ behind)
    by true is rest h = ([], fs, ap (λ x. x ∷ fs) (sym (same-is f g is)))
    by false is rest h = let r = rest h in (g ∷ r.0, r.1, ap (λ x. g ∷ x) r.2)

count-out : (f : ℕ) (fs : List ℕ) → is_in f fs ≡ false → how_many (λ g. f == g) fs ≡ 0
count-out f fs h = let e = sym (any-counts (λ g. f == g) fs) ∙ h in grind (arith, nat_tests, e)

reverse-middle : (xs : List ℕ) (f : ℕ) (ys : List ℕ) → reverse (xs ++ f ∷ ys) ≡ reverse ys ++ f ∷ reverse xs
reverse-middle xs f ys = reverse-append xs (f ∷ ys) ∙ ap (λ zs. zs ++ reverse xs) (reverse-append (f ∷ []) ys)
    ∙ append_assoc (reverse ys) (f ∷ []) (reverse xs)

-- the list has one such place, so it is the same behind it
same_behind : (f : ℕ) (xs ys zs ws : List ℕ) → xs ++ f ∷ ys ≡ zs ++ f ∷ ws → how_many (λ g. f == g) (xs ++ f ∷ ys) ≤ 1 → ys ≡ ws
same_behind f [] ys [] ws h once = (same_head f f ys ws h).1
same_behind f [] ys (z ∷ zs) ws h once =
    let a = ap (how_many (λ g. f == g)) (same_head f z ys (zs ++ f ∷ ws) h).1 in
    let b = how_many-append (λ g. f == g) zs (f ∷ ws) in
    let c = flag _ _ (same-itself f) in
    absurd (omega (arith, a, b, c, once))
same_behind f (x ∷ xs) ys [] ws h once =
    let b = how_many-append (λ g. f == g) xs (f ∷ ys) in
    let c = flag _ _ (same-itself f) in
    let e : x ≡ f = (same_head x f (xs ++ f ∷ ys) ws h).0 in
    let d = ap {B = ℕ} (λ y. cond (f == y) 1 0) e in
    absurd (omega (arith, b, c, d, once))
same_behind f (x ∷ xs) ys (z ∷ zs) ws h once = same_behind f xs ys zs ws (same_head x z (xs ++ f ∷ ys) (zs ++ f ∷ ws) h).1 (omega (arith, once))

-- ---- the order of turns

turn-once : (m : Setting) (x : Slot → ℕ) (l : Ledger) (f : ℕ) → IsSoundBut m x l → how_many (λ g. f == g) (turn_order l) ≤ 1
turn-once m x l f sound =
    let a = how_many-append (λ y. f == y) (reverse l.inactive) (reverse l.active) in
    let b = count-reverse (λ y. f == y) l.inactive [] in
    let c = count-reverse (λ y. f == y) l.active [] in
    let d = sound.listed f in
    omega (arith, a, b, c, d)

-- behind a frame that is inactive come those before it, and then active
behind-inactive : (m : Setting) (x : Slot → ℕ) (l : Ledger) (f : ℕ) (is js ahead behind : List ℕ) → IsSoundBut m x l → l.inactive ≡ is ++ f ∷ js →
    turn_order l ≡ ahead ++ f ∷ behind → reverse is ++ reverse l.active ≡ behind
behind-inactive m x l f is js ahead behind sound split order = same_behind f (reverse js) (reverse is ++ reverse l.active) ahead behind
    (sym here ∙ order)
    (subst (λ fs. how_many (λ g. f == g) fs ≤ 1) here (turn-once m x l f sound))
  where
    here : turn_order l ≡ reverse js ++ f ∷ (reverse is ++ reverse l.active)
    here = ap (λ fs. fs ++ reverse l.active) (ap reverse split ∙ reverse-middle is f js)
        ∙ append_assoc (reverse js) (f ∷ reverse is) (reverse l.active)

-- and behind one that is active those before it
behind-active : (m : Setting) (x : Slot → ℕ) (l : Ledger) (f : ℕ) (is js ahead behind : List ℕ) → IsSoundBut m x l → l.active ≡ is ++ f ∷ js →
    turn_order l ≡ ahead ++ f ∷ behind → reverse is ≡ behind
behind-active m x l f is js ahead behind sound split order = same_behind f (reverse l.inactive ++ reverse js) (reverse is) ahead behind
    (sym here ∙ order)
    (subst (λ fs. how_many (λ g. f == g) fs ≤ 1) here (turn-once m x l f sound))
  where
    here : turn_order l ≡ (reverse l.inactive ++ reverse js) ++ f ∷ reverse is
    here = ap (λ fs. reverse l.inactive ++ fs) (ap reverse split ∙ reverse-middle is f js)
        ∙ sym (append_assoc (reverse l.inactive) (reverse js) (f ∷ reverse is))

-- a frame that has a turn is active where it is not inactive
else-active : (l : Ledger) (f : ℕ) (ahead behind : List ℕ) → is_in f l.inactive ≡ false → turn_order l ≡ ahead ++ f ∷ behind → is_in f l.active ≡ true
else-active l f ahead behind out order = by (is_in f l.active) refl
  where
    by : (b : Bool) → is_in f l.active ≡ b → b ≡ true
    by true is = refl
    by false is =
        let a = how_many-append (λ y. f == y) (reverse l.inactive) (reverse l.active) in
        let b = count-reverse (λ y. f == y) l.inactive [] in
        let c = count-reverse (λ y. f == y) l.active [] in
        let d = ap (how_many (λ y. f == y)) order in
        let e = how_many-append (λ y. f == y) ahead (f ∷ behind) in
        let g = flag _ _ (same-itself f) in
        let i = count-out f l.inactive out in
        let j = count-out f l.active is in
        absurd (omega (arith, a, b, c, d, e, g, i, j))

-- what is known of the frame before one, in whichever list that is
abbrev pub IsBefore : Option ℕ → ℕ → List ℕ → Type 0
IsBefore before f fs = (ahead behind : List ℕ) → fs ≡ ahead ++ f ∷ behind → before ≡ slice_get (reverse ahead) 0

-- that frame comes next
pub next-before : (m : Setting) (x : Slot → ℕ) (l : Ledger) (f g : ℕ) (ahead behind : List ℕ) → IsSoundBut m x l → IsBefore (Some g) f l.inactive →
    IsBefore (Some g) f l.active → turn_order l ≡ ahead ++ f ∷ behind → Some g ≡ slice_get behind 0
next-before m x l f g ahead behind sound inactive active order = by (is_in f l.inactive) refl
  where
    by : (b : Bool) → is_in f l.inactive ≡ b → Some g ≡ slice_get behind 0
    by true is = let s = split-in f l.inactive is in
        first-append g (reverse s.0) (reverse l.active) (inactive s.0 s.1 s.2)
        ∙ ap (λ fs. slice_get fs 0) (behind-inactive m x l f s.0 s.1 ahead behind sound s.2 order)
    by false is = let s = split-in f l.active (else-active l f ahead behind is order) in
        active s.0 s.1 s.2 ∙ ap (λ fs. slice_get fs 0) (behind-active m x l f s.0 s.1 ahead behind sound s.2 order)

-- from the head of inactive the last of active does
pub next-active : (m : Setting) (x : Slot → ℕ) (l : Ledger) (f : ℕ) (last : Option ℕ) (ahead behind : List ℕ) → IsSoundBut m x l →
    IsBefore None f l.inactive → true ≡ is_in f l.inactive → last ≡ slice_get (reverse l.active) 0 → turn_order l ≡ ahead ++ f ∷ behind →
    last ≡ slice_get behind 0
next-active m x l f last ahead behind sound inactive is tail order = let s = split-in f l.inactive (sym is) in
    tail ∙ ap (λ fs. slice_get (fs ++ reverse l.active) 0) (sym (first-no (reverse s.0) (inactive s.0 s.1 s.2)))
    ∙ ap (λ fs. slice_get fs 0) (behind-inactive m x l f s.0 s.1 ahead behind sound s.2 order)

-- and from that of active none
pub next-none : (m : Setting) (x : Slot → ℕ) (l : Ledger) (f : ℕ) (ahead behind : List ℕ) → IsSoundBut m x l → IsBefore None f l.active →
    false ≡ is_in f l.inactive → turn_order l ≡ ahead ++ f ∷ behind → None ≡ slice_get behind 0
next-none m x l f ahead behind sound active is order = let s = split-in f l.active (else-active l f ahead behind (sym is) order) in
    active s.0 s.1 s.2 ∙ ap (λ fs. slice_get fs 0) (behind-active m x l f s.0 s.1 ahead behind sound s.2 order)

-- the first in turn
pub first-inactive : (l : Ledger) (f : ℕ) → Some f ≡ slice_get (reverse l.inactive) 0 → Some f ≡ slice_get (turn_order l) 0
first-inactive l f h = first-append f (reverse l.inactive) (reverse l.active) h

pub first-active : (l : Ledger) (last : Option ℕ) → None ≡ slice_get (reverse l.inactive) 0 → last ≡ slice_get (reverse l.active) 0 →
    last ≡ slice_get (turn_order l) 0
first-active l last none h = h ∙ ap (λ fs. slice_get (fs ++ reverse l.active) 0) (sym (first-no (reverse l.inactive) none))

pub turn-count : (l : Ledger) (n k : ℕ) → n ≡ length l.inactive → k ≡ length l.active → n + k ≡ length (turn_order l)
turn-count l n k a b =
    let c = length-append (reverse l.inactive) (reverse l.active) in
    let d = length-reverse l.inactive in
    let e = length-reverse l.active in
    omega (arith, a, b, c, d, e)
