-- Protections, as in `rw-`.
use Rattle.std.specs.Prelude.{ℕ, Bool, true, false, ◌==◌, if◌then◌else◌, List, [], ◌∷◌, Option}
use Rattle.std.specs.Prelude.{Some, None}
use Rattle.av_base.specs.declared.prot.Prot.{Prot}
use Rattle.av_text.specs.Word.{◌>>=◌, Reader}

-- the letter, or `-` in its place
abbrev pub letter : Bool → ℕ → ℕ
letter b c = if b then c else 45

-- `r`, `w` and `x`, or `-` for what may not be done
abbrev pub prot_text : Prot → List ℕ
prot_text prot = letter prot.read 114 ∷ letter prot.write 119 ∷ letter prot.execute 120 ∷ []

-- ---- reading

-- whether the letter is there, or `-` in its place
unfoldable pub letter_of : ℕ → ℕ → Option Bool
letter_of c b = if b == c then Some true else (if b == 45 then Some false else None)

-- a protection of these three bytes
unfoldable pub prot_of : ℕ → ℕ → ℕ → Option Prot
prot_of r w x = do
  read ← letter_of 114 r
  write ← letter_of 119 w
  execute ← letter_of 120 x
  Some (record { read = read; write = write; execute = execute })

-- a protection after a space
unfoldable pub prot_at : Reader Prot
prot_at (b ∷ r ∷ w ∷ x ∷ rest) =
    if b == 32 then (prot_of r w x >>= λ prot. Some (prot, rest)) else None
prot_at bytes = None
