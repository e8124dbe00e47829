-- A unit that is read, piece by piece.
use Rattle.std.proofs.Common.{◌≡◌, ℕ, ◌+◌, ◌<◌, ◌≤◌, Bool, true, false, List, [], ◌∷◌, ◌++◌, ◌⊎◌, length, length-append, Option, Some, None, refl, sym, ap}
use Rattle.std.proofs.Common.{subst, ◌∙◌, arith, inl, inr}
use Rattle.std.specs.Prelude.{IfSome, nat_lt}
use Rattle.std.proofs.lemmas.Bool.Decides.{nat_tests}
use Rattle.std.proofs.lemmas.Bool.{true≢false}
use Rattle.av_io.specs.Source.{Took, in_front, HasEnded}
use Rattle.av_ports.specs.Ports.{PortsView, room, undone}
use Rattle.av_ports.proofs.Bytes.{Took-then, in_front-then}
use Rattle.av_audit_input.specs.Input.{IsEnded, IsOpen, IsPortErr}
use Rattle.av_audit_input.specs.Unit.{is_whole, units_of, Cuts, IsOne, IsPiece, LeavesPiece, StopsPiece, StopsUnit, TakesPiece, TakesUnit}
use Rattle.av_audit_input.specs.declared.input_err.InputErr.{InputErr}
use Rattle.av_audit_input.specs.declared.input_err.InputErr.TheVariants as input
use Rattle.av_audit_input.proofs.UnitLaws.{cut-one, part-one, last-first, piece-one, whole-first, whole-more}

-- nothing yet, or a unit or a part of one
abbrev pub IsPart : List ℕ → Type 0
IsPart unit = (unit ≡ []) ⊎ IsOne unit

whole-one : (unit ahead : List ℕ) → IsPart unit → is_whole unit ahead ≡ true → IsOne unit
whole-one unit ahead (inl none) whole = absurd (true≢false (sym whole ∙ ap (λ u. is_whole u ahead) none))
whole-one unit ahead (inr one) whole = one

-- it is whole, by what comes behind it
pub whole-unit : (unit ahead0 ahead : List ℕ) (old now : PortsView) → IsPart unit → Took (undone ahead0 old) (undone ahead now) unit
    → is_whole unit ahead ≡ true → 0 < length ahead → IsOne unit × Cuts (unit ∷ []) (undone ahead0 old) (undone ahead now)
whole-unit unit ahead0 ahead old now part took whole some =
    let one = whole-one unit ahead part whole in
    (one, cut-one unit (undone ahead0 old) (undone ahead now) took (by one now.source.left))
  where
    by : IsOne unit → (left : Option (List ℕ)) → IfSome (in_front ahead left) (λ rest. units_of (unit ++ rest) ≡ unit ∷ units_of rest)
    by one None = tt
    by one (Some rest) = whole-first unit (ahead ++ rest) one (whole-more unit ahead rest some ∙ whole)

-- the input has ended behind it
pub last-unit : (unit ahead0 ahead : List ℕ) (old now : PortsView) → IsPart unit → (unit ≡ [] → ⊥) → Took (undone ahead0 old) (undone ahead now) unit
    → IsEnded ahead now → IsOne unit × Cuts (unit ∷ []) (undone ahead0 old) (undone ahead now)
last-unit unit ahead0 ahead old now (inl none) some took ended = absurd (some none)
last-unit unit ahead0 ahead old now (inr one) some took ended =
    (one, cut-one unit (undone ahead0 old) (undone ahead now) took (by now.source.left ended.1.ended))
  where
    by : (left : Option (List ℕ)) → HasEnded left → IfSome (in_front ahead left) (λ rest. units_of (unit ++ rest) ≡ unit ∷ units_of rest)
    by None h = tt
    by (Some rest) h = subst (λ r. units_of (unit ++ r) ≡ unit ∷ units_of r) (sym ((λ i. ended.0 i ++ h i))) (last-first unit one)

nothing-in-front : (left : Option (List ℕ)) → in_front [] left ≡ left
nothing-in-front None = refl
nothing-in-front (Some rest) = refl

-- there was none
pub no-unit : (unit ahead0 ahead : List ℕ) (old now : PortsView) → unit ≡ [] → Took (undone ahead0 old) (undone ahead now) unit
    → undone ahead now ≡ undone ahead0 old
no-unit unit ahead0 ahead old now none took =
    sym (took ∙ ap (λ u. in_front u (undone ahead now)) none ∙ nothing-in-front (undone ahead now))

pub took-nothing : (ahead : List ℕ) (now : PortsView) → Took (undone ahead now) (undone ahead now) []
took-nothing ahead now = sym (nothing-in-front (undone ahead now))

pub took-on : (before now after : Option (List ℕ)) (unit : List ℕ) → Took before now unit → after ≡ now → Took before after unit
took-on before now after unit took same = subst (λ o. Took before o unit) (sym same) took

-- the input has ended, and there is a unit if something was taken
pub unit-at-end : (t : Bool) (unit : List ℕ) (left0 left : ℕ) (ahead0 ahead : List ℕ) (old now : PortsView) → nat_lt 0 (length unit) ≡ t → IsPart unit
    → Took (undone ahead0 old) (undone ahead now) unit → IsEnded ahead now → left0 ≡ left + length unit
    → TakesUnit t unit left0 left ahead0 ahead old now
unit-at-end true unit left0 left ahead0 ahead old now test part took ended counts =
    let some : 0 < length unit = grind (arith, nat_tests, test) in
    let f = last-unit unit ahead0 ahead old now part (λ none. omega (arith, some, ap length none)) took ended in
    (f.0, counts, f.1)
unit-at-end false unit left0 left ahead0 ahead old now test part took ended counts =
    let few : length unit ≤ 0 = grind (arith, nat_tests, test) in
    let none = empty unit few in
    (none, omega (arith, counts, few), no-unit unit ahead0 ahead old now none took)
  where
    empty : (unit : List ℕ) → length unit ≤ 0 → unit ≡ []
    empty [] few = refl
    empty (b ∷ unit) few = absurd (omega (arith, few))

-- ---- a piece more

part-more : (unit piece : List ℕ) → IsPart unit → IsPiece piece → is_whole unit piece ≡ false → IsOne (unit ++ piece)
part-more unit piece (inl none) is not = subst (λ u. IsOne (u ++ piece)) (sym none) (piece-one piece is)
part-more unit piece (inr one) is not = part-one unit piece one (piece-one piece is) not

not-whole : (unit ahead piece rest : List ℕ) → IsPiece piece → ahead ≡ piece ++ rest → is_whole unit ahead ≡ false → is_whole unit piece ≡ false
not-whole unit ahead piece rest is parts not = sym (whole-more unit piece rest is.some) ∙ ap (is_whole unit) (sym parts) ∙ not

pub with-piece : (left left' : ℕ) (unit unit' ahead0 ahead ahead' : List ℕ) (old now : PortsView) → IsPart unit
    → Took (undone ahead0 old) (undone ahead now) unit → is_whole unit ahead ≡ false → TakesPiece left left' ahead ahead' unit unit'
    → IsPart unit' × Took (undone ahead0 old) (undone ahead' now) unit' × (left + length unit ≡ left' + length unit')
with-piece left left' unit unit' ahead0 ahead ahead' old now part took not takes = (
  inr (subst IsOne (sym takes.onto) (part-more unit takes.piece part takes.is_piece
      (not-whole unit ahead takes.piece ahead' takes.is_piece takes.taken not))),
  subst (λ u. Took (undone ahead0 old) (undone ahead' now) u) (sym takes.onto)
      (Took-then (undone ahead0 old) (undone ahead now) (undone ahead' now) unit takes.piece took
      (ap (λ (l : List ℕ). in_front l now.source.left) takes.taken ∙ in_front-then takes.piece ahead' now.source.left)),
  omega (arith, takes.counts, ap length takes.onto, length-append unit takes.piece),
)

-- ---- where it isn't read whole

port-stops : (error : InputErr) (left : ℕ) (unit ahead : List ℕ) → IsPortErr error → ahead ≡ [] → StopsPiece error left unit ahead
port-stops input.Read left unit ahead is none = none
port-stops input.Write left unit ahead is none = none
port-stops input.Memory left unit ahead is none = tt
port-stops (input.BadLine n) left unit ahead (inl is) none = cc
port-stops (input.BadLine n) left unit ahead (inr is) none = cc
port-stops input.TooMany left unit ahead (inl is) none = cc
port-stops input.TooMany left unit ahead (inr is) none = cc
port-stops input.TooLong left unit ahead (inl is) none = cc
port-stops input.TooLong left unit ahead (inr is) none = cc

-- source or sink failed
pub unread : (error : InputErr) (left0 left : ℕ) (unit ahead0 ahead ahead' : List ℕ) (old now new : PortsView) → IsPart unit
    → Took (undone ahead0 old) (undone ahead now) unit → left0 ≡ left + length unit → undone ahead' new ≡ undone ahead now → IsPortErr error
    → ahead' ≡ [] → StopsUnit error left0 unit (undone ahead0 old) ahead' new
unread error left0 left unit ahead0 ahead ahead' old now new part took counts same is none = record {
  took = subst (λ o. Took (undone ahead0 old) o unit) (sym same) took;
  part = part;
  few = omega (arith, counts);
  near = omega (arith, ap length none);
  stops = port-stops error left0 unit ahead' is none;
}

piece-stops : (error : InputErr) (left0 left : ℕ) (unit ahead : List ℕ) → IsPart unit → left0 ≡ left + length unit → is_whole unit ahead ≡ false
    → LeavesPiece error left ahead → StopsPiece error left0 unit ahead
piece-stops input.TooLong left0 left unit ahead part counts not h = (
  h.0,
  h.1,
  h.3,
  part-more unit h.0 part h.2 (not-whole unit ahead h.0 h.1 h.2 h.3 not),
  omega (arith, counts, h.4, length-append unit h.0),
)
piece-stops input.Memory left0 left unit ahead part counts not h = tt
piece-stops (input.BadLine n) left0 left unit ahead part counts not h = absurd h
piece-stops input.TooMany left0 left unit ahead part counts not h = absurd h
piece-stops input.Read left0 left unit ahead part counts not h = absurd h
piece-stops input.Write left0 left unit ahead part counts not h = absurd h

-- the next piece was not taken
pub untaken : (error : InputErr) (left0 left : ℕ) (unit ahead0 ahead : List ℕ) (old now : PortsView) → IsPart unit
    → Took (undone ahead0 old) (undone ahead now) unit → left0 ≡ left + length unit → length ahead ≤ room → is_whole unit ahead ≡ false
    → LeavesPiece error left ahead → StopsUnit error left0 unit (undone ahead0 old) ahead now
untaken error left0 left unit ahead0 ahead old now part took counts near not h = record {
  took = took;
  part = part;
  few = omega (arith, counts);
  near = near;
  stops = piece-stops error left0 left unit ahead part counts not h;
}

pub untaken-none : (error : InputErr) (left : ℕ) (ahead : List ℕ) → LeavesPiece error left ahead → IsPortErr error → ⊥
untaken-none input.TooLong left ahead h (inl is) = cc
untaken-none input.TooLong left ahead h (inr is) = cc
untaken-none input.Memory left ahead h (inl is) = cc
untaken-none input.Memory left ahead h (inr is) = cc
untaken-none (input.BadLine n) left ahead h is = h
untaken-none input.TooMany left ahead h is = h
untaken-none input.Read left ahead h is = h
untaken-none input.Write left ahead h is = h

-- a piece was taken of what is there, so the input had not ended
pub piece-open : (was is is' : Bool) (ahead ahead' : List ℕ) (old now : PortsView) → IsOpen was is ahead old now → 0 < length ahead → is' ≡ is
    → IsOpen was is' ahead' old now
piece-open was is is' ahead ahead' old now h some same = record {
  stays = λ e. same ∙ h.stays e;
  ended = λ e. absurd (omega (arith, some, ap length (h.ended (sym same ∙ e)).0));
  untold = λ e. h.untold (sym same ∙ e);
}
