use Rattle.std.proofs.Common.{◌<◌, ℕ, arith}
use Rattle.std.specs.List.{AllPairs}
use Rattle.std.proofs.lemmas.Bool.{cases_eq}
use Rattle.std.proofs.Common.{ap, get_or, inl, inr}
use Rattle.av_pagetable.proofs.dir.Dir.place_from.Goals as goal

pub returns-in-Ok-clause-lower : goal.returns-in-Ok-clause-lower
returns-in-Ok-clause-lower g c = λ i d low high.
    let rising : AllPairs (λ (part later : ℕ × g.row.C.Denot). part.0 < later.0) c.args.self.now = rw c.self.view_is at c.self.invariant.rising in
    let lt = rising i c.in-Ok.place d high c.in-Ok.ensures.0 in
    omega (arith, lt, c.in-Ok.ensures.1 d)

pub returns-in-Ok-clause-rest : goal.returns-in-Ok-clause-rest
returns-in-Ok-clause-rest g c = λ i d low high.
    let rising : AllPairs (λ (part later : ℕ × g.row.C.Denot). part.0 < later.0) c.args.self.now = rw c.self.view_is at c.self.invariant.rising in
    let here = c.in-Ok.ensures.1 d in
    elim (cases_eq i c.in-Ok.place) [
      | inl e ↦ let same = ap (λ i. (get_or c.args.self.now i d).0) e in omega (arith, same, here)
      | inr ne ↦ let lt = rising c.in-Ok.place i d (omega (arith, low, ne)) high in omega (arith, lt, here)
    ]
