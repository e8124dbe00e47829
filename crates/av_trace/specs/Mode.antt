-- What `mremap` may do with the pages.
use Rattle.std.specs.Prelude.{ℕ, List, [], ◌∷◌, codes, Some, None}
use Rattle.av_trace.specs.declared.mode.Mode.{Mode}
use Rattle.av_trace.specs.declared.mode.Mode.TheVariants as modes
use Rattle.av_text.specs.Word.{◌>>=◌, Reader, by_name}
use Rattle.av_text.specs.Number.{IsWide, address_at}
use Rattle.av_text.specs.Hex.{hex}

-- an address, where a mode has one
abbrev pub IsMode : Mode → Type 0
IsMode modes.Plain = Unit {0}
IsMode modes.MayMove = Unit {0}
IsMode (modes.Fixed address) = IsWide address
IsMode (modes.DontUnmap None) = Unit {0}
IsMode (modes.DontUnmap (Some address)) = IsWide address

-- its words: a name, and an address where it has one; or nothing
abbrev pub mode_words : Mode → List (List ℕ)
mode_words modes.Plain = []
mode_words modes.MayMove = codes "maymove" ∷ []
mode_words (modes.Fixed address) = codes "fixed" ∷ hex address ∷ []
mode_words (modes.DontUnmap None) = codes "dontunmap" ∷ []
mode_words (modes.DontUnmap (Some address)) = codes "dontunmap" ∷ hex address ∷ []

-- ---- reading

-- what follows a name
abbrev pub maymove_at : Reader Mode
maymove_at bytes = Some (modes.MayMove, bytes)

abbrev pub fixed_at : Reader Mode
fixed_at bytes = do
  address ← address_at bytes
  Some (modes.Fixed address.0, address.1)

unfoldable pub dontunmap_at : Reader Mode
dontunmap_at [] = Some (modes.DontUnmap None, [])
dontunmap_at (b ∷ bytes) = do
  address ← address_at (b ∷ bytes)
  Some (modes.DontUnmap (Some address.0), address.1)

-- the modes that have a name
abbrev pub names : List (List ℕ × Reader Mode)
names =
    (codes " maymove", maymove_at)
    ∷ (codes " fixed", fixed_at)
    ∷ (codes " dontunmap", dontunmap_at) ∷ []

-- a mode at the end of a line
unfoldable pub mode_at : Reader Mode
mode_at [] = Some (modes.Plain, [])
mode_at (b ∷ bytes) = do
  name ← by_name names (b ∷ bytes)
  name.0 name.1
