-- One tree in an arena of its own, seen as its entries.
use Rattle.std.specs.Prelude.{◌≡◌, ℕ, ◌≤◌, IsSome, Option, List, ◌∷◌, ◌++◌}
use Rattle.av_arena.specs.Order.{IsRising}
use Rattle.av_arena.specs.declared.link.Link.{Link}
use Rattle.av_arena.specs.Tree.{Store, count_at, entries_at, IsHeld}

-- a tree that is held, with rising keys
pub record IsPart {T S : Type 0} (key : T → ℕ) (unit : S) (op : S → S → S) (of : T → S)
    (s : Store T S) (k : Option (Link S)) : Type 0 where
  pub held : IsHeld key unit op of s k
  pub rising : IsRising key (entries_at s k)

-- no node is lost: each that is in use is the tree's
abbrev pub NoneLost : {T S : Type 0} → Store T S → Option (Link S) → Type 0
NoneLost s k = (j : ℕ) → IsSome (s j) → 1 ≤ count_at s k j

-- the one tree of an arena
abbrev pub IsAvl : {T S : Type 0} → (T → ℕ) → S → (S → S → S) → (T → S) → Store T S →
    Option (Link S) → Type 0
IsAvl key unit op of s k = IsPart key unit op of s k × NoneLost s k

-- a list that begins with another
pub record IsLonger {T : Type 0} (front xs : List T) : Type 0 where
  pub rest : List T
  pub is : xs ≡ front ++ rest

-- the entries xs of a tree that is not empty, cut at its root
pub record IsParts {T : Type 0} (key : T → ℕ) (xs l : List T) (x : T) (r : List T) : Type 0 where
  pub entries : xs ≡ l ++ x ∷ r
  pub rising : IsRising key xs
