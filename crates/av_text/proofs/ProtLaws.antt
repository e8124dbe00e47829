-- Protections: what is read is spelled so, and what is spelled is read.
use Rattle.std.proofs.Common.{◌≡◌, ℕ, Bool, true, false, eqb, List, [], ◌∷◌, ◌++◌, Some, refl, sym, ap, subst, ◌∙◌, arith, inl, inr}
use Rattle.std.proofs.lemmas.Bool.{cases_Bool, cond-true, cond-false, ne_eqb, eq-eqb, eqb-true}
use Rattle.std.proofs.lemmas.Option.{same_Some}
use Rattle.av_base.specs.declared.prot.Prot.{Prot}
use Rattle.av_text.specs.Prot.{letter, prot_text, letter_of, prot_of, prot_at}
use Rattle.av_text.proofs.NumberLaws.{one_word, word_onto}
use Rattle.av_text.proofs.WordLaws.{bind_some, cond_found, IsRest, Reads}

letter_of-found : (c b : ℕ) (x : Bool) → letter_of c b ≡ Some x → b ≡ letter x c
unfolding letter_of
letter_of-found c b true e =
    elim (cases_Bool (eqb b c)) [
      | inl t ↦ eqb-true b c t
      | inr t ↦ let f = cond_found (eqb b 45) (Some false) true (sym (cond-false _ _ _ t) ∙ e) in absurd (cc (f.1))
    ]
letter_of-found c b false e =
    elim (cases_Bool (eqb b c)) [
      | inl t ↦ let s = sym (cond-true _ _ _ t) ∙ e in absurd (cc (s))
      | inr t ↦ let f = cond_found (eqb b 45) (Some false) false (sym (cond-false _ _ _ t) ∙ e) in eqb-true b 45 f.0
    ]

letter_of-again : (c : ℕ) (x : Bool) → (c ≡ 45 → ⊥) → letter_of c (letter x c) ≡ Some x
unfolding letter_of
letter_of-again c true h = cond-true _ _ _ (eq-eqb c c refl)
letter_of-again c false h = cond-false _ _ _ (ne_eqb 45 c (λ e. h (sym e)))

prot_of-found : (r w x : ℕ) (prot : Prot) → prot_of r w x ≡ Some prot → r ∷ w ∷ x ∷ [] ≡ prot_text prot
unfolding prot_of
prot_of-found r w x prot e =
    let p = bind_some {A = Bool} _ _ _ e in
    let q = bind_some {A = Bool} _ _ _ p.second in
    let s = bind_some {A = Bool} _ _ _ q.second in
    let same : record { read = p.value; write = q.value; execute = s.value } ≡ prot = same_Some _ _ s.second in
    let a = letter_of-found 114 r p.value p.first in
    let b = letter_of-found 119 w q.value q.first in
    let d = letter_of-found 120 x s.value s.first in
    subst (λ (t : Prot). r ∷ w ∷ x ∷ [] ≡ prot_text t) same (cc (a, b, d))

prot_at-found : (bytes : List ℕ) (x : Prot × List ℕ) → prot_at bytes ≡ Some x → bytes ≡ 32 ∷ (prot_text x.0 ++ x.1)
unfolding prot_at
prot_at-found [] x e = absurd cc
prot_at-found (b ∷ []) x e = absurd cc
prot_at-found (b ∷ r ∷ []) x e = absurd cc
prot_at-found (b ∷ r ∷ w ∷ []) x e = absurd cc
prot_at-found (b ∷ r ∷ w ∷ y ∷ rest) x e =
    let p = cond_found _ _ _ e in
    let space = eqb-true b 32 p.0 in
    let found = bind_some {A = Prot} _ _ _ p.1 in
    let is = prot_of-found r w y found.value found.first in
    let same : (found.value, rest) ≡ x = same_Some _ _ found.second in
    subst (λ (t : Prot × List ℕ). b ∷ r ∷ w ∷ y ∷ rest ≡ 32 ∷ (prot_text t.0 ++ t.1)) same (λ i. space i ∷ (is i ++ rest))

pub prot_at-again : (prot : Prot) (rest : List ℕ) → prot_at (32 ∷ (prot_text prot ++ rest)) ≡ Some (prot, rest)
unfolding prot_at prot_of
prot_at-again prot rest =
    rw (
      letter_of-again 114 prot.read (λ e. omega arith),
      letter_of-again 119 prot.write (λ e. omega arith),
      letter_of-again 120 prot.execute
          (λ e. omega arith),
    ) refl

pub prots : Reads prot_at (λ prot. Unit {0}) (one_word prot_text) IsRest
prots = record {
  found = λ bytes x e. (prot_at-found bytes x e ∙ sym (word_onto (prot_text x.0) x.1), tt);
  again = λ prot rest _ h. ap prot_at (word_onto (prot_text prot) rest) ∙ prot_at-again prot rest;
  ends = λ rest h. h;
}
