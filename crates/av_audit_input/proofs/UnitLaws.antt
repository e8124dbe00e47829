-- How units are cut.
use Rattle.std.proofs.Common.{◌≡◌, ℕ, zero, suc, ◌+◌, ◌-◌, ◌<◌, ◌≤◌, Bool, true, false, cond, List, [], ◌∷◌, ◌++◌, length, take, Option}
use Rattle.std.proofs.Common.{Some, None, refl, sym, ap}
use Rattle.std.proofs.Common.{subst, ◌∙◌, arith, length-take-le, append-nil, append_assoc}
use Rattle.std.specs.Prelude.{◌==◌, ◌&&◌, not, slice_index, IfSome, All}
use Rattle.std.proofs.lemmas.List.Elements.{All-head, All-tail}
use Rattle.std.proofs.lemmas.Bool.{eqb-true}
use Rattle.std.proofs.lemmas.List.{take-take, take_more}
use Rattle.av_io.specs.Source.{Took}
use Rattle.av_ports.specs.Line.{IsNoNewline}
use Rattle.av_ports.proofs.Bytes.{Took-then}
use Rattle.av_audit_input.specs.Unit.{begins_with_space, bytes_of, ends_line, is_whole, onto_first, units_of, Cuts, IsOne, IsPiece}

-- the units of a byte and more, by whether one ends at it
abbrev put : Bool → ℕ → List (List ℕ) → List (List ℕ)
put t b units = cond t ((b ∷ []) ∷ units) (onto_first b units)

-- whether one does
abbrev ends_at : ℕ → List ℕ → Bool
ends_at b bytes = b == 10 && not (begins_with_space bytes)

onto-one : (b : ℕ) (units : List (List ℕ)) (unit : List ℕ) (c : ℕ) → onto_first b units ≡ (b ∷ c ∷ unit) ∷ [] → units ≡ (c ∷ unit) ∷ []
onto-one b [] unit c e = cc
onto-one b (v ∷ vs) unit c e = cc

inner-by : (t : Bool) (b c : ℕ) (unit : List ℕ) (units : List (List ℕ)) → put t b units ≡ (b ∷ c ∷ unit) ∷ []
    → (t ≡ false) × (units ≡ (c ∷ unit) ∷ [])
inner-by true b c unit units e = cc
inner-by false b c unit units e = (refl, onto-one b units unit c e)

-- no unit ends within one
inner : (b c : ℕ) (unit : List ℕ) → IsOne (b ∷ c ∷ unit) → (ends_at b (c ∷ unit) ≡ false) × IsOne (c ∷ unit)
inner b c unit one = inner-by (ends_at b (c ∷ unit)) b c unit (units_of (c ∷ unit)) one

no-one : IsOne [] → ⊥
no-one one = cc

-- behind a unit that is whole the others are cut
pub whole-first : (unit rest : List ℕ) → IsOne unit → is_whole unit rest ≡ true → units_of (unit ++ rest) ≡ unit ∷ units_of rest
whole-first [] rest one whole = absurd (no-one one)
whole-first (b ∷ []) [] one whole = by (b == 10) whole
  where
    by : (t : Bool) → (t && false) ≡ true → put (ends_at b []) b [] ≡ (b ∷ []) ∷ []
    by true e = cc
    by false e = cc
whole-first (b ∷ []) (c ∷ rest) one whole = ap (λ t. put t b (units_of (c ∷ rest))) whole
whole-first (b ∷ c ∷ unit) rest one whole =
    let in_it = inner b c unit one in
    ap (λ t. put t b (units_of (c ∷ unit ++ rest))) in_it.0
    ∙ ap (onto_first b) (whole-first (c ∷ unit) rest in_it.1 whole)

-- the last unit
pub last-first : (unit : List ℕ) → IsOne unit → units_of (unit ++ []) ≡ unit ∷ units_of []
last-first unit one = ap units_of (append-nil unit) ∙ one

-- what comes behind one that isn't whole is part of it
pub part-one : (unit piece : List ℕ) → IsOne unit → IsOne piece → is_whole unit piece ≡ false → IsOne (unit ++ piece)
part-one [] piece one next part = absurd (no-one one)
part-one (b ∷ []) [] one next part = absurd (no-one next)
part-one (b ∷ []) (c ∷ piece) one next part =
    ap (λ t. put t b (units_of (c ∷ piece))) part ∙ ap (onto_first b) next
part-one (b ∷ c ∷ unit) piece one next part =
    let in_it = inner b c unit one in
    ap (λ t. put t b (units_of (c ∷ unit ++ piece))) in_it.0
    ∙ ap (onto_first b) (part-one (c ∷ unit) piece in_it.1 next part)

-- by what comes first behind it
pub whole-more : (unit ahead more : List ℕ) → 0 < length ahead → is_whole unit (ahead ++ more) ≡ is_whole unit ahead
whole-more unit [] more some = absurd (let never : 0 < 0 = some in omega (arith, never))
whole-more unit (b ∷ ahead) more some = refl

-- ---- pieces

-- the last byte is at the last place
pub ends-at : (bytes : List ℕ) → 0 < length bytes → ends_line bytes ≡ (slice_index bytes (length bytes - 1) == 10)
ends-at [] some = absurd (let never : 0 < 0 = some in omega (arith, never))
ends-at (b ∷ []) some = refl
ends-at (b ∷ c ∷ bytes) some =
    let next : length (b ∷ c ∷ bytes) - 1 ≡ suc (length (c ∷ bytes) - 1) = omega arith in
    ends-at (c ∷ bytes) (omega arith) ∙ ap (λ k. slice_index (b ∷ c ∷ bytes) k == 10) (sym next)

ends-behind : (front : List ℕ) → ends_line (front ++ 10 ∷ []) ≡ true
ends-behind [] = refl
ends-behind (b ∷ []) = refl
ends-behind (b ∷ c ∷ front) = ends-behind (c ∷ front)

-- bytes up to a newline and with it end where a line does
pub ends-with : (bytes : List ℕ) (k : ℕ) → k < length bytes → slice_index bytes k ≡ 10
    → ends_line (take (k + 1) bytes) ≡ true
ends-with bytes k there is =
    ap ends_line (take_more bytes k 0 there ∙ ap (λ b. take k bytes ++ b ∷ []) is)
    ∙ ends-behind (take k bytes)

piece-by : (b : ℕ) (rest : List ℕ) (n : ℕ) → n ≡ length rest → All IsNoNewline (take n (b ∷ rest)) → IsOne (b ∷ rest)
piece-by b [] n is one = by (ends_at b [])
  where
    by : (t : Bool) → put t b [] ≡ (b ∷ []) ∷ []
    by true = refl
    by false = refl
piece-by b (c ∷ rest) zero is one = absurd (omega (arith, is))
piece-by b (c ∷ rest) (suc n) is one =
    ap (λ t. put t b (units_of (c ∷ rest))) (by (b == 10) refl)
    ∙ ap (onto_first b) (piece-by c rest n (omega (arith, is)) (All-tail IsNoNewline b (take n (c ∷ rest)) one))
  where
    by : (t : Bool) → (b == 10) ≡ t → (t && not (c == 32)) ≡ false
    by true e = absurd (All-head IsNoNewline b (take n (c ∷ rest)) one (eqb-true b 10 e))
    by false e = refl

-- so many bytes in front
pub is-piece : (size : ℕ) (ahead : List ℕ) → 0 < size → size ≤ length ahead → All IsNoNewline (take (size - 1) ahead)
    → IsPiece (take size ahead) × (length (take size ahead) ≡ size)
is-piece size ahead some within one =
    let long : length (take size ahead) ≡ size = length-take-le size ahead within in
    let same : take (length (take size ahead) - 1) (take size ahead) ≡ take (size - 1) ahead =
    ap (λ n. take (n - 1) (take size ahead)) long ∙ take-take (size - 1) size ahead (omega arith) in (
      record { some = omega (arith, long, some); one = subst (All IsNoNewline) (sym same) one },
      long,
    )

pub piece-one : (piece : List ℕ) → IsPiece piece → IsOne piece
piece-one [] h = absurd (let never : 0 < 0 = h.some in omega (arith, never))
piece-one (b ∷ rest) h = piece-by b rest (length (b ∷ rest) - 1) (omega arith) h.one

-- ---- units taken

-- a unit was taken
pub cut-one : (unit : List ℕ) (before now : Option (List ℕ)) → Took before now unit
    → IfSome now (λ rest. units_of (unit ++ rest) ≡ unit ∷ units_of rest) → Cuts (unit ∷ []) before now
cut-one unit before now took first = record {
  took = subst (λ u. Took before now u) (sym (append-nil unit)) took;
  first = by now first;
}
  where
    by : (now : Option (List ℕ)) → IfSome now (λ rest. units_of (unit ++ rest) ≡ unit ∷ units_of rest)
        → IfSome now (λ rest. units_of (bytes_of (unit ∷ []) ++ rest) ≡ (unit ∷ []) ++ units_of rest)
    by None h = h
    by (Some rest) h = ap (λ u. units_of (u ++ rest)) (append-nil unit) ∙ h

pub bytes-more : (units : List (List ℕ)) (unit : List ℕ) → bytes_of (units ++ unit ∷ []) ≡ bytes_of units ++ unit
bytes-more [] unit = append-nil unit
bytes-more (u ∷ us) unit = ap (λ l. u ++ l) (bytes-more us unit) ∙ sym (append_assoc u (bytes_of us) unit)

-- none was
pub cut-none : (now : Option (List ℕ)) → Cuts [] now now
cut-none None = record { took = refl; first = tt }
cut-none (Some rest) = record { took = refl; first = refl }

-- one more was
pub cut-more : (units : List (List ℕ)) (unit : List ℕ) (a b c : Option (List ℕ)) → Cuts units a b → Cuts (unit ∷ []) b c
    → Cuts (units ++ unit ∷ []) a c
cut-more units unit a b c h g =
    let took : Took b c unit = subst (λ u. Took b c u) (append-nil unit) g.took in
    record {
      took = subst (λ u. Took a c u) (sym (bytes-more units unit)) (Took-then a b c (bytes_of units) unit h.took took);
      first = by b c h.first took g.first;
    }
  where
    by : (b c : Option (List ℕ)) → IfSome b (λ rest. units_of (bytes_of units ++ rest) ≡ units ++ units_of rest) → Took b c unit
        → IfSome c (λ rest. units_of (bytes_of (unit ∷ []) ++ rest) ≡ (unit ∷ []) ++ units_of rest)
        → IfSome c (λ rest. units_of (bytes_of (units ++ unit ∷ []) ++ rest) ≡ (units ++ unit ∷ []) ++ units_of rest)
    by b None h t g = tt
    by b (Some rest) h t g =
        let first : units_of (bytes_of units ++ (unit ++ rest)) ≡ units ++ units_of (unit ++ rest) =
        subst (λ o. IfSome o (λ rest. units_of (bytes_of units ++ rest) ≡ units ++ units_of rest)) t h in
        let cut : units_of (unit ++ rest) ≡ unit ∷ units_of rest =
        ap (λ u. units_of (u ++ rest)) (sym (append-nil unit)) ∙ g in
        ap (λ l. units_of (l ++ rest)) (bytes-more units unit)
        ∙ ap units_of (append_assoc (bytes_of units) unit rest)
        ∙ first
        ∙ ap (λ l. units ++ l) cut
        ∙ sym (append_assoc units (unit ∷ []) (units_of rest))
