-- What `madvise` says of pages.
use Rattle.std.specs.Prelude.{ℕ, List, [], ◌∷◌, codes}
use Rattle.av_trace.specs.declared.advice.Advice.{Advice}
use Rattle.av_trace.specs.declared.advice.Advice.TheVariants as advices
use Rattle.av_text.specs.Word.{Reader, by_name}

-- its word
abbrev pub advice_words : Advice → List (List ℕ)
advice_words advices.DontNeed = codes "dontneed" ∷ []
advice_words advices.DontFork = codes "dontfork" ∷ []
advice_words advices.DoFork = codes "dofork" ∷ []
advice_words advices.WipeOnFork = codes "wipeonfork" ∷ []
advice_words advices.KeepOnFork = codes "keeponfork" ∷ []
advice_words advices.Mergeable = codes "mergeable" ∷ []
advice_words advices.Unmergeable = codes "unmergeable" ∷ []

-- ---- reading

-- each with its word
abbrev pub names : List (List ℕ × Advice)
names =
    (codes " dontneed", advices.DontNeed)
    ∷ (codes " dontfork", advices.DontFork)
    ∷ (codes " dofork", advices.DoFork)
    ∷ (codes " wipeonfork", advices.WipeOnFork)
    ∷ (codes " keeponfork", advices.KeepOnFork)
    ∷ (codes " mergeable", advices.Mergeable)
    ∷ (codes " unmergeable", advices.Unmergeable)
    ∷ []

-- an advice at the end of a line
unfoldable pub advice_at : Reader Advice
advice_at bytes = by_name names bytes
