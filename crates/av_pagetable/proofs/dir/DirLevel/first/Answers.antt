use Rattle.std.proofs.Common.{arith, ◌≡◌, ◌∙◌, ◌≤◌, ◌*◌, ℕ, Bool, true, ◌==◌, MatchOption, ap, sym, subst, length}
use Rattle.std.proofs.lemmas.Bool.Decides.{nat_tests}
use Rattle.av_pagetable.specs.declared.pte.Pte.TheVariants.{Empty}
use Rattle.av_pagetable.specs.Table.{IsFirst}
use Rattle.av_pagetable.specs.Dir.{entries, entries_at, IsFirstIn}
use Rattle.av_pagetable.specs.Parts.{parts_in}
use Rattle.av_pagetable.proofs.DirEntries.{from_start, no_entries}
use Rattle.av_pagetable.proofs.dir.DirLevel.first.Goals as goal

pub returns : goal.returns
returns g c =
    let d = c.self.inside in
    let C = g.C.Level in
    let first : MatchOption c.first_in.result ((q : ℕ) → 0 ≤ q → entries_at C.at (parts_in d.parts) 0 q ≡ Empty)
    (λ found. IsFirstIn C.at C.span (parts_in d.parts) 0 0 found) = rw c.self.view_is c.first_in.ensures in
    subst (λ v. MatchOption c.first_in.result ((q : ℕ) → 0 ≤ q → entries C.at C.span v q ≡ Empty)
    (λ found. IsFirst (entries C.at C.span v) 0 (C.span * 512) found)) c.self.view_is
    (from_start C.at C.span (parts_in d.parts) c.self.invariant c.span-span.ensures.some c.first_in.result first)

zero_from : (n : ℕ) (b : Bool) → b ≡ (n == 0) → b ≡ true → n ≡ 0
zero_from n b is h = grind (arith, nat_tests)

pub returns-then-is_empty : goal.returns-then-is_empty
returns-then-is_empty g c =
    let d = c.self.inside in
    let C = g.C.Level in
    let none = zero_from (length (parts_in d.parts)) c.is_empty.result c.is_empty.ensures c.if-is_empty.true in
    λ q _. ap (λ v. entries C.at C.span v q) (sym c.self.view_is) ∙ no_entries C.at C.span (parts_in d.parts) none q
