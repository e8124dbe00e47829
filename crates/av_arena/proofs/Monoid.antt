-- What the laws give of `total`.
use Rattle.std.proofs.Common.{◌≡◌, List, [], ◌∷◌, ◌++◌, sym, ap, ◌∙◌}
use Rattle.av_arena.specs.Monoid.{MonoidLaws, total}

pub total-append : {A M : Type 0} {unit : M} {op : M → M → M} (laws : MonoidLaws unit op) (f : A → M) (xs ys : List A) →
    total unit op f (xs ++ ys) ≡ op (total unit op f xs) (total unit op f ys)
total-append {unit = unit} {op = op} laws f [] ys = sym (laws.left_identity (total unit op f ys))
total-append {unit = unit} {op = op} laws f (x ∷ xs) ys = ap (op (f x)) (total-append laws f xs ys)
    ∙ sym (laws.assoc (f x) (total unit op f xs) (total unit op f ys))

-- a summary joined of two sides and an entry
pub total-joined : {A M : Type 0} {unit : M} {op : M → M → M} (laws : MonoidLaws unit op) (f : A → M) (l : List A) (x : A) (r : List A) (a b s : M) →
    a ≡ total unit op f l → b ≡ total unit op f r → s ≡ op a (op (f x) b) → s ≡ total unit op f (l ++ x ∷ r)
total-joined {unit = unit} {op = op} laws f l x r a b s p q e = e ∙ rw (p, q) (sym (total-append laws f l (x ∷ r)))
