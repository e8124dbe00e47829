-- The lines of a report's rows.
use Rattle.std.specs.Prelude.{ℕ, ◌<◌, List, [], ◌∷◌, ◌++◌, Option, Some, None, codes, IfSome}
use Rattle.std.specs.Prelude.{Bool, if◌then◌else◌}
use Rattle.std.specs.List.{flat_map, AllByRecursion}
use Rattle.std.specs.Fmt.{decimal}
use Rattle.av_base.specs.declared.flags.Flags.{Flags}
use Rattle.av_base.specs.declared.prot.Prot.{Prot}
use Rattle.av_trace.specs.declared.row.Row.{Row}
use Rattle.av_trace.specs.declared.row.Row.TheVariants as rows
use Rattle.av_text.specs.Word.{line}
use Rattle.av_text.specs.Number.{IsWide}
use Rattle.av_text.specs.Hex.{hex}
use Rattle.av_text.specs.Prot.{prot_text}

-- the addresses from start to end
abbrev pub range_text : ℕ → ℕ → List ℕ
range_text start end = hex start ++ 45 ∷ hex end

-- a number, or `-` where there is none
abbrev pub own_text : Option ℕ → List ℕ
own_text None = codes "-"
own_text (Some v) = decimal v

-- numbers with commas between, or `-` where there are none
abbrev pub chain_text : List ℕ → List ℕ
chain_text [] = codes "-"
chain_text (v ∷ vs) = decimal v ++ flat_map (λ w. 44 ∷ decimal w) vs

-- an area's offset, its own anon_vma and its chain
abbrev pub link_words : ℕ → Option ℕ → List ℕ → List (List ℕ)
link_words offset own chain =
    (codes "off=" ++ hex offset)
    ∷ (codes "own=" ++ own_text own)
    ∷ (codes "chain=" ++ chain_text chain)
    ∷ []

-- a word that stands under a condition
abbrev pub word_if : Bool → List ℕ → List (List ℕ)
word_if set word = if set then word ∷ [] else []

-- the flags that an area has
abbrev pub flag_words : Flags → List (List ℕ)
flag_words flags =
    word_if flags.dont_fork (codes "dontfork") ++ word_if flags.wipe_on_fork (codes "wipeonfork")
    ++ word_if flags.locked (codes "locked") ++ word_if flags.mergeable (codes "mergeable")

-- what the row of an area says after its addresses
abbrev pub area_words : Prot → ℕ → Option ℕ → List ℕ → Flags → List (List ℕ)
area_words prot offset own chain flags =
    prot_text prot ∷ link_words offset own chain ++ flag_words flags

-- the line of a row
abbrev pub row_line : Row → List ℕ
row_line (rows.Run start end prot) = line (range_text start end) (prot_text prot ∷ [])
row_line (rows.Area start end prot offset own chain flags) =
    line (range_text start end) (area_words prot offset own chain flags)
row_line (rows.Entry p address) = line (decimal p) (hex address ∷ [])

-- ---- the numbers are of 64 bits, and a chain rises

-- a row of `maps`
abbrev pub IsRun : Row → Type 0
IsRun (rows.Run start end prot) = IsWide start × IsWide end
IsRun row = ⊥

-- each number is greater than the one before
abbrev pub AreRising : List ℕ → Type 0
AreRising [] = Unit {0}
AreRising (n ∷ []) = Unit {0}
AreRising (n ∷ k ∷ ns) = (n < k) × AreRising (k ∷ ns)

-- a row of `areas`
abbrev pub IsAreaRow : Row → Type 0
IsAreaRow (rows.Area start end prot offset own chain flags) =
    IsWide start × IsWide end × IsWide offset × IfSome own IsWide × AllByRecursion IsWide chain
    × AreRising chain
IsAreaRow row = ⊥

-- a row of a walk
abbrev pub IsEntry : Row → Type 0
IsEntry (rows.Entry p address) = IsWide p × IsWide address
IsEntry row = ⊥
