-- How words are read: what a reader finds stands in front, and what stands in front is found.
use Rattle.std.proofs.Common.{◌≡◌, ◌≢◌, ℕ, Bool, true, false, cond, eqb, List, [], ◌∷◌, ◌++◌, append_assoc, Option, Some, None, refl, sym, ap, subst, ◌∙◌}
use Rattle.std.specs.Prelude.{option_map}
use Rattle.std.specs.Option.{MatchOption}
use Rattle.std.specs.List.{flat_map, AllByRecursion}
use denote.Ref.{Bor}
use Rattle.std.proofs.lemmas.Bool.{cond-true, eq-eqb, eqb-true}
use Rattle.std.proofs.lemmas.Grind.{flat_map-append}
use Rattle.std.proofs.lemmas.Option.{same_Some}
use Rattle.av_text.specs.Word.{field, ◌>>=◌, Reader, after, first_of, by_name, both}

-- ---- steps

-- o has this value, from which the next step gets y
pub record Found {A B : Type 0} (o : Option A) (f : A → Option B) (y : B) : Type 0 where
  pub value : A
  pub first : o ≡ Some value
  pub second : f value ≡ Some y

pub bind_some : {A B : Type 0} (o : Option A) (f : A → Option B) (y : B) → (o >>= f) ≡ Some y → Found o f y
bind_some (Some x) f y e = record { value = x; first = refl; second = e }
bind_some None f y e = absurd cc

pub cond_found : {A : Type 0} (b : Bool) (o : Option A) (y : A) → cond b o None ≡ Some y → (b ≡ true) × (o ≡ Some y)
cond_found true o y e = (refl, e)
cond_found false o y e = absurd cc

-- ---- fronts

pub after-found : (front bytes rest : List ℕ) → after front bytes ≡ Some rest → bytes ≡ front ++ rest
unfolding after
after-found [] bytes rest e = same_Some _ _ e
after-found (x ∷ front) [] rest e = absurd cc
after-found (x ∷ front) (b ∷ bytes) rest e =
    let p = cond_found (eqb b x) (after front bytes) rest e in
    let first = eqb-true b x p.0 in
    let others = after-found front bytes rest p.1 in
    λ i. first i ∷ others i

pub after-again : (front rest : List ℕ) → after front (front ++ rest) ≡ Some rest
unfolding after
after-again [] rest = refl
after-again (x ∷ front) rest = cond-true _ _ _ (eq-eqb x x refl) ∙ after-again front rest

not_some : {A : Type 0} (o : Option A) → ((x : A) → o ≡ Some x → ⊥) → None ≡ o
not_some None h = refl
not_some (Some x) h = absurd (h x refl)

-- what `strip_prefix` finds
pub after_is : (front bytes : List ℕ) (found : Option (Bor (List ℕ))) →
    MatchOption found ((rest : List ℕ) → bytes ≢ front ++ rest) (λ x. bytes ≡ front ++ x.now) →
    option_map (λ (x : Bor (List ℕ)). x.now) found ≡ after front bytes
after_is front bytes None h = not_some (after front bytes) (λ rest e. h rest (after-found front bytes rest e))
after_is front bytes (Some x) h = sym (ap (after front) h ∙ after-again front x.now)

-- ---- names

-- what stands beside a name in front, and what every such pair has
pub record IsNamed {A : Type 0} (Fits : List ℕ × A → Type 0) (bytes : List ℕ) (x : A × List ℕ) : Type 0 where
  pub name : List ℕ
  pub is : bytes ≡ name ++ x.1
  pub fits : Fits (name, x.0)

first_of-found : {A : Type 0} (Fits : List ℕ × A → Type 0) (name bytes : List ℕ) (a : A) (o : Option (List ℕ)) (others : Option (A × List ℕ))
    (x : A × List ℕ) →
    ((rest : List ℕ) → o ≡ Some rest → bytes ≡ name ++ rest) → Fits (name, a) → (others ≡ Some x → IsNamed Fits bytes x)
    → first_of a o others ≡ Some x →
    IsNamed Fits bytes x
first_of-found Fits name bytes a None others x is fits next e = next e
first_of-found Fits name bytes a (Some rest) others x is fits next e =
    subst (IsNamed Fits bytes) (same_Some _ _ e) (record { name = name; is = is rest refl; fits = fits })

pub named-found : {A : Type 0} (Fits : List ℕ × A → Type 0) (xs : List (List ℕ × A)) (bytes : List ℕ) (x : A × List ℕ) → AllByRecursion Fits xs →
    by_name xs bytes ≡ Some x →
    IsNamed Fits bytes x
named-found Fits [] bytes x all e = absurd cc
named-found Fits (y ∷ ys) bytes x all e =
    first_of-found Fits y.0 bytes y.1 (after y.0 bytes) (by_name ys bytes) x (λ rest. after-found y.0 bytes rest) all.0
    (named-found Fits ys bytes x all.1) e

-- ---- readers

-- what may follow a word
abbrev pub IsRest : List ℕ → Type 0
IsRest [] = Unit {0}
IsRest (b ∷ bytes) = b ≡ 32

-- the end of a line
abbrev pub IsEnd : List ℕ → Type 0
IsEnd bytes = bytes ≡ []

-- the words before a rest
abbrev pub words_onto : List (List ℕ) → List ℕ → List ℕ
words_onto words rest = flat_map field words ++ rest

pub words-rest : (words : List (List ℕ)) (rest : List ℕ) → IsRest rest → IsRest (words_onto words rest)
words-rest [] rest h = h
words-rest (w ∷ ws) rest h = refl

-- read finds the values that fit, each from its words, before such a rest
pub record Reads {A : Type 0} (read : Reader A) (Fits : A → Type 0) (words : A → List (List ℕ)) (Rest : List ℕ → Type 0) : Type 0 where
  pub found : (bytes : List ℕ) (x : A × List ℕ) → read bytes ≡ Some x → (bytes ≡ words_onto (words x.0) x.1) × Fits x.0
  pub again : (x : A) (rest : List ℕ) → Fits x → Rest rest → read (words_onto (words x) rest) ≡ Some (x, rest)
  pub ends : (rest : List ℕ) → Rest rest → IsRest rest

words-both : (v w : List (List ℕ)) (rest : List ℕ) → words_onto (v ++ w) rest ≡ words_onto v (words_onto w rest)
words-both v w rest = ap (λ (t : List ℕ). t ++ rest) (flat_map-append field v w) ∙ append_assoc (flat_map field v) (flat_map field w) rest

pub reads_both : {A B : Type 0} {first : Reader A} {second : Reader B} {F : A → Type 0} {G : B → Type 0} {v : A → List (List ℕ)} {w : B →
    List (List ℕ)} {Rest : List ℕ → Type 0} →
    Reads first F v IsRest → Reads second G w Rest → Reads (both first second) (λ (x : A × B). F x.0 × G x.1) (λ (x : A × B). v x.0 ++ w x.1) Rest
unfolding both
reads_both {A = A} {B = B} {first = first} {second = second} {F = F} {G = G} {v = v} {w = w} a b = record {
  found = λ bytes z e.
      let x = bind_some {A = A × List ℕ} _ _ _ e in
      let y = bind_some {A = B × List ℕ} _ _ _ x.second in
      let is = a.found bytes x.value x.first in
      let next = b.found x.value.1 y.value y.first in
      let same : ((x.value.0, y.value.0), y.value.1) ≡ z = same_Some _ _ y.second in
      let whole : bytes ≡ words_onto (v x.value.0 ++ w y.value.0) y.value.1 =
      is.0 ∙ ap (words_onto (v x.value.0)) next.0 ∙ sym (words-both (v x.value.0) (w y.value.0) y.value.1) in
      subst (λ (t : (A × B) × List ℕ). (bytes ≡ words_onto (v t.0.0 ++ w t.0.1) t.1) × (F t.0.0 × G t.0.1)) same (whole, (is.1, next.1));
  again = λ x rest fits ends.
      let front = a.again x.0 (words_onto (w x.1) rest) fits.0 (words-rest (w x.1) rest (b.ends rest ends)) in
      let back = b.again x.1 rest fits.1 ends in
      rw (words-both (v x.0) (w x.1) rest, front, back) refl;
  ends = b.ends;
}
