-- How a page that is touched may be served, or not.
use Rattle.std.specs.Prelude.{◌≡◌, Bool, List, ◌++◌}
use Rattle.av_base.specs.Keys.{Key}
use Rattle.av_trace.specs.declared.note.Note.{Note}
use Rattle.av_plain.specs.Event.{after_notes}
use Rattle.av_plain.specs.Fault.{FindsNone, IsLost, IsMade, RunsOut, Sparing, drop_at, need}
use Rattle.av_plain.specs.Fault.{Stop, Denied, Starved, Lost}
use Rattle.av_plain.specs.Ledger.{Ledger, Setting, entry}

-- a page that is here gets what it needs, and its slot goes if that is needed no more
abbrev pub IsMadeReady : Setting → Sparing → Ledger → Bool → Bool → Key → List Note → Type 0
IsMadeReady m spares l write came k notes =
    (making : List Note) × IsMade m spares l k (need write l (entry l k)) making
    × (notes ≡ making ++ drop_at m write came (after_notes l making) k)

-- or no frame can be had for it
abbrev pub IsUnready : Setting → Sparing → Ledger → Bool → Key → Stop → List Note → Type 0
IsUnready m spares l write k Denied notes = ⊥
IsUnready m spares l write k (Starved out) notes =
    FindsNone m spares l (need write l (entry l k)) notes out
IsUnready m spares l write k Lost notes = ⊥

-- a page that may be read or written isn't served
abbrev pub IsUnserved : Setting → Sparing → Ledger → Bool → Key → Stop → List Note → Type 0
IsUnserved m spares l write k Denied notes = ⊥
IsUnserved m spares l write k (Starved out) notes = RunsOut m spares l write k notes out
IsUnserved m spares l write k Lost notes = IsLost m spares l write k notes
