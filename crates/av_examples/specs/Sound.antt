-- Worked examples for what is true at all times: a ledger and a chain that are wrong in one thing.
use Rattle.std.specs.Prelude.{[], ◌∷◌, Some}
use Rattle.av_plain.specs.Areas.{AnonVma, Anons}
use Rattle.av_plain.specs.Ledger.{Ledger, first_ledger}
use Rattle.av_laws.specs.Areas.{root}

-- frame 0 is merged, and no entry names it
abbrev pub merged_alone : Ledger
merged_alone = record first_ledger { merged = 0 ∷ [] }

-- the root of all anon_vmas is 0
abbrev pub of_one_root : Anons
of_one_root = record { next = 3; anon = λ v. Some root }

-- 2 is a child of 1, and its chain has these alone
abbrev pub below_its_root : AnonVma
below_its_root = record { root = 0; parent = 1; chain = 1 ∷ 2 ∷ [] }
