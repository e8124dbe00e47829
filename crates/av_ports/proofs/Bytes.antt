-- Bytes taken and gained, one piece after another.
use Rattle.std.proofs.Common.{◌≡◌, ℕ, ◌+◌, ◌≤◌, List, [], ◌++◌, Option, Some, None, refl, sym, ap, ◌∙◌, append_assoc, append-nil, arith, take, drop}
use Rattle.std.proofs.lemmas.List.{take-append-drop, take-take, drop-take}
use Rattle.std.specs.Prelude.{option_map}
use Rattle.av_io.specs.Source.{in_front, Took}
use Rattle.av_io.specs.Sink.{Gained}

pub Took-then : (a b c : Option (List ℕ)) (x y : List ℕ) → Took a b x → Took b c y → Took a c (x ++ y)
Took-then a b None x y p q = p ∙ ap (option_map (λ (rest : List ℕ). x ++ rest)) q
Took-then a b (Some rest) x y p q = p ∙ ap (option_map (λ (r : List ℕ). x ++ r)) q ∙ ap Some (sym (append_assoc x y rest))

pub Took-none : (a : Option (List ℕ)) → Took a a []
Took-none None = refl
Took-none (Some rest) = refl

pub in_front-then : (x y : List ℕ) (left : Option (List ℕ)) → in_front (x ++ y) left ≡ in_front x (in_front y left)
in_front-then x y None = refl
in_front-then x y (Some rest) = ap Some (append_assoc x y rest)

-- what was read and not done counts as taken in the end
pub Took-ahead : (left left' : Option (List ℕ)) (x ahead : List ℕ) → Took left (in_front ahead left') x → Took left left' (x ++ ahead)
Took-ahead left None x ahead p = p
Took-ahead left (Some rest) x ahead p = p ∙ ap Some (sym (append_assoc x ahead rest))

pub Gained-then : (a b c : Option (List ℕ)) (x y : List ℕ) → Gained a b x → Gained b c y → Gained a c (x ++ y)
Gained-then None b c x y p q = q ∙ ap (option_map (λ (t : List ℕ). t ++ y)) p
Gained-then (Some text) b c x y p q = q ∙ ap (option_map (λ (t : List ℕ). t ++ y)) p ∙ ap Some (append_assoc text x y)

pub Gained-none : (a : Option (List ℕ)) → Gained a a []
Gained-none None = refl
Gained-none (Some text) = ap Some (sym (append-nil text))

-- a front that grows by a front of the rest
pub take-add : (n m : ℕ) (xs : List ℕ) → take (n + m) xs ≡ take n xs ++ take m (drop n xs)
take-add n m xs =
    let parts = take-append-drop n (take (n + m) xs) in
    sym parts ∙ ap (λ (t : List ℕ). t ++ drop n (take (n + m) xs)) (take-take n (n + m) xs (omega arith))
    ∙ ap (λ (t : List ℕ). take n xs ++ t) (drop-take n m xs)
