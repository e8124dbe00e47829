-- A transcript, unit by unit.
use Rattle.std.specs.Prelude.{◌≡◌, ◌⊎◌, ℕ, ◌+◌, ◌-◌, ◌==◌, ◌<◌, ◌≤◌, ◌^◌, ◌&&◌, not, Bool}
use Rattle.std.specs.Prelude.{true, false}
use Rattle.std.specs.Prelude.{if◌then◌else◌, List, [], ◌∷◌, ◌++◌, length, take, Option, IfSome}
use Rattle.std.specs.List.{flat_map}
use Rattle.av_io.specs.Source.{Took}
use Rattle.av_ports.specs.Line.{HasNoNewline}
use Rattle.av_ports.specs.Ports.{PortsView, room, undone}
use Rattle.av_audit_input.specs.declared.input_err.InputErr.{InputErr}
use Rattle.av_audit_input.specs.declared.input_err.InputErr.TheVariants as input

-- whether a space comes first
abbrev pub begins_with_space : List ℕ → Bool
begins_with_space [] = false
begins_with_space (b ∷ bytes) = b == 32

-- a byte goes in front of the first unit
abbrev pub onto_first : ℕ → List (List ℕ) → List (List ℕ)
onto_first b [] = (b ∷ []) ∷ []
onto_first b (unit ∷ units) = (b ∷ unit) ∷ units

-- The units of a transcript: one ends behind each newline that no space follows. So a unit is a
-- line and all lines behind it that begin with a space; and lines that do before any other are a
-- unit of their own. The last one may lack its newline.
abbrev pub units_of : List ℕ → List (List ℕ)
units_of [] = []
units_of (b ∷ bytes) =
    if b == 10 && not (begins_with_space bytes) then (b ∷ []) ∷ units_of bytes
    else onto_first b (units_of bytes)

-- the bytes of units
abbrev pub bytes_of : List (List ℕ) → List ℕ
bytes_of units = flat_map (λ unit. unit) units

-- a transcript has at most so many bytes
abbrev pub most_bytes : ℕ
most_bytes = 2 ^ 32

-- of what was to come these units were taken, which are the first ones of all that there are
pub record Cuts (units : List (List ℕ)) (before now : Option (List ℕ)) : Type 0 where
  pub took : Took before now (bytes_of units)
  pub first : IfSome now (λ rest. units_of (bytes_of units ++ rest) ≡ units ++ units_of rest)

-- one unit, whatever comes behind it
abbrev pub IsOne : List ℕ → Type 0
IsOne unit = units_of unit ≡ unit ∷ []

-- a unit was taken, which is one of `left` bytes that might still come; or there was none
abbrev pub TakesUnit : Bool → List ℕ → ℕ → ℕ → List ℕ → List ℕ → PortsView → PortsView → Type 0
TakesUnit true unit left left' ahead ahead' old new =
    IsOne unit × (left ≡ left' + length unit)
    × Cuts (unit ∷ []) (undone ahead old) (undone ahead' new)
TakesUnit false unit left left' ahead ahead' old new =
    (unit ≡ []) × (left' ≡ left) × (undone ahead' new ≡ undone ahead old)

-- why no more was taken of a unit: it has more bytes than may still come, memory was wanting, or a
-- call failed, and then nothing is left of what was read
abbrev pub StopsPiece : InputErr → ℕ → List ℕ → List ℕ → Type 0
StopsPiece input.TooLong left unit ahead =
    (piece : List ℕ) × (rest : List ℕ) × (ahead ≡ piece ++ rest) × IsOne (unit ++ piece)
    × (left < length (unit ++ piece))
StopsPiece (input.BadLine n) left unit ahead = ⊥
StopsPiece input.TooMany left unit ahead = ⊥
StopsPiece input.Memory left unit ahead = Unit {0}
StopsPiece error left unit ahead = ahead ≡ []

-- A unit was taken, or a part of one, or nothing; behind it no more was read than one read gives.
pub record StopsUnit (error : InputErr) (left : ℕ) (unit : List ℕ) (before : Option (List ℕ))
    (ahead : List ℕ) (now : PortsView) : Type 0 where
  pub took : Took before (undone ahead now) unit
  pub part : (unit ≡ []) ⊎ IsOne unit
  pub few : length unit ≤ left
  pub near : length ahead ≤ room
  pub stops : StopsPiece error left unit ahead

-- ---- pieces of a unit

-- the last byte is a newline
abbrev pub ends_line : List ℕ → Bool
ends_line [] = false
ends_line (b ∷ []) = b == 10
ends_line (b ∷ c ∷ bytes) = ends_line (c ∷ bytes)

-- the first byte is no space
abbrev pub begins_unit : List ℕ → Bool
begins_unit [] = false
begins_unit (b ∷ bytes) = not (b == 32)

-- what was taken of a unit is all of it, by what comes behind
abbrev pub is_whole : List ℕ → List ℕ → Bool
is_whole unit ahead = ends_line unit && begins_unit ahead

-- some bytes, with no newline but perhaps at their end
pub record IsPiece (piece : List ℕ) : Type 0 where
  pub some : 0 < length piece
  pub one : HasNoNewline (take (length piece - 1) piece)

-- a piece was taken onto a unit, of what was read and of what may still come
pub record TakesPiece (left left' : ℕ) (ahead ahead' unit unit' : List ℕ) : Type 0 where
  pub piece : List ℕ
  pub is_piece : IsPiece piece
  pub taken : ahead ≡ piece ++ ahead'
  pub onto : unit' ≡ unit ++ piece
  pub counts : left ≡ left' + length piece

-- a piece was not taken
abbrev pub LeavesPiece : InputErr → ℕ → List ℕ → Type 0
LeavesPiece input.TooLong left ahead =
    (piece : List ℕ) × (rest : List ℕ) × IsPiece piece × (ahead ≡ piece ++ rest)
    × (left < length piece)
LeavesPiece input.Memory left ahead = Unit {0}
LeavesPiece error left ahead = ⊥
