use Rattle.std.proofs.Common.{◌<◌, ◌^◌, ℕ, List, [], ◌∷◌, zero, suc, get_or}
use Rattle.std.specs.List.{AllByRecursion}
use Rattle.av_access.proofs.page.append_piece.Goals as goal

-- each item of a list is one, where each place has one
each : (xs : List ℕ) → ((i : ℕ) → get_or xs i 0 < 2 ^ 8) → AllByRecursion (λ b. b < 2 ^ 8) xs
each [] h = tt
each (x ∷ xs) h = (h zero, each xs (λ i. h (suc i)))

pub returns-clause-bytes : goal.returns-clause-bytes
returns-clause-bytes c = each c.args.piece.now (λ i. (c.type_inv.piece i).fits)
