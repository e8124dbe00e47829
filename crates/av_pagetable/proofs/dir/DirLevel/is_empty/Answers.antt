use Rattle.av_pagetable.specs.Table.{HasSome}
use Rattle.std.proofs.Common.{arith, ◌≡◌, ◌<◌, ◌*◌, ◌∙◌, sym, ap, subst, length, ℕ}
use Rattle.av_pagetable.specs.Dir.{entries}
use Rattle.av_pagetable.specs.Parts.{parts_in}
use Rattle.std.proofs.Common.{Bool, true, false, MatchBool, ◌==◌}
use Rattle.std.proofs.lemmas.Bool.Decides.{nat_tests}
use Rattle.av_pagetable.proofs.DirEntries.{no_entries, some_entry}
use Rattle.av_pagetable.proofs.dir.DirLevel.is_empty.Goals as goal

by_test : (n : ℕ) (b : Bool) (P Q : Type 0) → b ≡ (n == 0) → (n ≡ 0 → P) → (0 < n → Q) → MatchBool b P Q
by_test n true P Q is when0 when1 = when0 (grind (arith, nat_tests))
by_test n false P Q is when0 when1 = when1 (grind (arith, nat_tests))

pub returns : goal.returns
returns g c =
    let d = c.self.inside in
    let C = g.C.Level in
    by_test (length (parts_in d.parts)) c.is_empty.result _ _ c.is_empty.ensures
    (λ none q. ap (λ v. entries C.at C.span v q) (sym c.self.view_is) ∙ no_entries C.at C.span (parts_in d.parts) none q)
    (λ more. subst (λ v. HasSome (C.span * 512) (entries C.at C.span v)) c.self.view_is
    (some_entry C.at C.span (parts_in d.parts) c.self.invariant more))
