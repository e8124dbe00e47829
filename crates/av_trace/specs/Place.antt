-- Where `mmap` puts the pages.
use Rattle.std.specs.Prelude.{ℕ, List, [], ◌∷◌, codes, Some}
use Rattle.av_trace.specs.declared.place.Place.{Place}
use Rattle.av_trace.specs.declared.place.Place.TheVariants as places
use Rattle.av_text.specs.Word.{◌>>=◌, Reader, by_name}
use Rattle.av_text.specs.Number.{IsWide, address_at}
use Rattle.av_text.specs.Hex.{hex}

-- an address, where a place has one
abbrev pub IsPlace : Place → Type 0
IsPlace places.Auto = Unit {0}
IsPlace (places.At address) = IsWide address
IsPlace (places.Fixed address) = IsWide address
IsPlace (places.NoReplace address) = IsWide address

-- its words: a name and an address, or nothing
abbrev pub place_words : Place → List (List ℕ)
place_words places.Auto = []
place_words (places.At address) = codes "at" ∷ hex address ∷ []
place_words (places.Fixed address) = codes "fixed" ∷ hex address ∷ []
place_words (places.NoReplace address) = codes "noreplace" ∷ hex address ∷ []

-- ---- reading

-- the places that have an address, by name
abbrev pub kinds : List (List ℕ × (ℕ → Place))
kinds =
    (codes " at", places.At) ∷ (codes " fixed", places.Fixed)
    ∷ (codes " noreplace", places.NoReplace) ∷ []

-- a place at the end of a line
unfoldable pub place_at : Reader Place
place_at [] = Some (places.Auto, [])
place_at (b ∷ bytes) = do
  kind ← by_name kinds (b ∷ bytes)
  address ← address_at kind.1
  Some (kind.0 address.0, address.1)
