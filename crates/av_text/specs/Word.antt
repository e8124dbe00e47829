-- Words of a line, with one space between; and how a line is read from left to right.
use Rattle.std.specs.Prelude.{◌≡◌, ℕ, ◌==◌, if◌then◌else◌, List, [], ◌∷◌, ◌++◌, Option, Some, None}
use Rattle.std.specs.Prelude.{Result, OnOk}
use Rattle.std.specs.List.{flat_map}

-- a space, and a word
abbrev pub field : List ℕ → List ℕ
field word = 32 ∷ word

-- a name, and words after it
abbrev pub line : List ℕ → List (List ℕ) → List ℕ
line name words = name ++ flat_map field words

-- a text begins with these bytes
abbrev pub BeginsWith : List ℕ → List ℕ → Type 0
BeginsWith front text = (rest : List ℕ) × (text ≡ front ++ rest)

-- a piece is added to a text, unless there is no memory
abbrev pub Adds : {T E : Type 0} → Result T E → List ℕ → List ℕ → List ℕ → Type 0
Adds result old new piece = OnOk result (new ≡ old ++ piece)

-- ---- reading: what is found, and the bytes after it

-- a step, and the next one with what it found
infixl 10 ◌>>=◌
abbrev pub ◌>>=◌ : {A B : Type 0} → Option A → (A → Option B) → Option B
(Some x) >>= f = f x
None >>= f = None

-- what finds a value in front of bytes
abbrev pub Reader : Type 0 → Type 0
Reader A = List ℕ → Option (A × List ℕ)

-- the bytes after this front, where they begin with it
unfoldable pub after : List ℕ → List ℕ → Option (List ℕ)
after [] bytes = Some bytes
after (x ∷ front) [] = None
after (x ∷ front) (b ∷ bytes) = if b == x then after front bytes else None

-- x and the rest, where there is one; else the others
abbrev pub first_of : {A : Type 0} → A → Option (List ℕ) → Option (A × List ℕ) → Option (A × List ℕ)
first_of x (Some rest) others = Some (x, rest)
first_of x None others = others

-- what stands beside the first name with which the bytes begin
abbrev pub by_name : {A : Type 0} → List (List ℕ × A) → Reader A
by_name [] bytes = None
by_name (x ∷ xs) bytes = first_of x.1 (after x.0 bytes) (by_name xs bytes)

-- one reader, and then another
unfoldable pub both : {A B : Type 0} → Reader A → Reader B → Reader (A × B)
both first second bytes = do
  x ← first bytes
  y ← second x.1
  Some ((x.0, y.0), y.1)
