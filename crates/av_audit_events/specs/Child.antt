-- What a child gets of its parent's entries.
use Rattle.std.specs.Prelude.{◌≡◌, ℕ, Bool, List, ◌∷◌, map, filter, MatchOption, Option}
use Rattle.av_base.specs.Keys.{Key}
use Rattle.av_plain.specs.Event.{without_seen}
use Rattle.av_plain.specs.Ledger.{Entry}

-- the pages of some entries that go over
abbrev pub pages_that : (ℕ → Bool) → List (Key × Entry) → List ℕ
pages_that goes es = map (λ (k : Key). k.1) (filter (λ k. goes k.1) (map (λ e. e.0) es))

-- the child's entries of these pages, unseen
abbrev pub child_entries : ℕ → (ℕ → Bool) → List (Key × Entry) → List (Key × Entry)
child_entries child goes es =
    map (λ e. ((child, e.0.1), without_seen e.1)) (filter (λ e. goes e.0.1) es)

-- what stands behind the page, where it is the first
abbrev pub IsBehind : ℕ → List ℕ → Option (List ℕ) → Type 0
IsBehind page pages behind = MatchOption behind ((more : List ℕ) → pages ≡ page ∷ more → ⊥)
    (λ more. pages ≡ page ∷ more)
