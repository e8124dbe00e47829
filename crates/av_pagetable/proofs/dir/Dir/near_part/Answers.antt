use Rattle.std.proofs.Common.{◌≡◌, ℕ, ◌<◌, Bool, false, ◌==◌, length, ap, sym, ◌∙◌, arith}
use Rattle.std.proofs.lemmas.Bool.Decides.{nat_tests}
use Rattle.av_pagetable.specs.Dir.{part_of}
use Rattle.av_pagetable.specs.Parts.{parts_in}
use Rattle.av_pagetable.proofs.DirEntries.{part_there}
use Rattle.av_pagetable.proofs.dir.Dir.near_part.Goals as goal

not_empty : (n : ℕ) (b : Bool) → b ≡ (n == 0) → b ≡ false → 0 < n
not_empty n b is h = grind (arith, nat_tests)

pub returns-then-from-number : goal.returns-then-from-number
returns-then-from-number g c =
    let parts = parts_in c.self.inside.parts in
    let C = g.C.Level in
    let p = c.at-first.result.now in
    let some = not_empty (length parts) c.is_empty.result c.is_empty.ensures c.if-is_empty.false in
    let here : p.0 ≡ c.args.number = sym c.from.ensures ∙ c.if-from-number.true in
    sym (part_there C.at C.span parts c.self.invariant 0 p some c.at-first.ensures c.args.number here
    ∙ ap (λ v. part_of v c.args.number) c.self.view_is)

pub returns-then-from-number-2 : goal.returns-then-from-number-2
returns-then-from-number-2 g c =
    let parts = parts_in c.self.inside.parts in
    let C = g.C.Level in
    let p = c.at-part.result.now in
    let within = c.if-reach-len.true in
    let len = c.len.ensures in
    let here : p.0 ≡ c.args.number = sym c.from-then-reach-len.ensures ∙ c.if-from-number-2.true in
    sym (part_there C.at C.span parts c.self.invariant _ p (omega (arith, within, len)) c.at-part.ensures c.args.number here
    ∙ ap (λ v. part_of v c.args.number) c.self.view_is)
