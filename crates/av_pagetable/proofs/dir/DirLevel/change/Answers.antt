use Rattle.std.proofs.Common.{◌≡◌, ◌<◌, ◌≤◌, ◌/◌, ◌%◌, ◌∙◌, sym, ap, refl, length}
use Rattle.std.specs.List.{AllWithin}
use Rattle.std.proofs.lemmas.Nat.{mod_below}
use Rattle.av_base.specs.Words.{with_at}
use Rattle.av_pagetable.specs.Dir.{entries}
use Rattle.av_pagetable.specs.Parts.{parts_in}
use Rattle.av_pagetable.proofs.DirParts.{set_good}
use Rattle.av_pagetable.proofs.PartsLaws.{parts_in-with_part}
use Rattle.av_pagetable.proofs.DirEntries.{written, absent, some_written, entry_there}
use Rattle.av_pagetable.proofs.dir.DirLevel.change.Goals as goal

pub invariant_of-self : goal.invariant_of-self
invariant_of-self g c =
    let d = c.self.inside in
    let C = g.C.Level in
    let k = c.in-Ok.place in
    let p = c.at_mut-part.result.now in
    let is = c.at_mut-part.ensures.value in
    let within : k < length (parts_in d.parts) = rw c.self.view_is c.in-Ok.ensures.0 in
    let here : p.0 ≡ c.args.page / C.span = ap (λ part. part.0) is ∙ rw (c.self.view_is, ← c.span-span.ensures.is) (c.in-Ok.ensures.1 p) in
    let under : c.args.page % c.span-span.result < C.span = rw c.span-span.ensures.is (mod_below c.args.page C.span c.span-span.ensures.some) in
    rw (parts_in-with_part d.parts k (p.0, c.change.new.self) within)
    (set_good C.at C.span (parts_in d.parts) c.self.invariant k p within is (p.0, c.change.new.self) refl
    (some_written C.at C.span (c.args.page % c.span-span.result) c.args.entry (C.at p.1) c.change.new.self under c.requires.some c.change.ensures))

pub returns-in-Ok : goal.returns-in-Ok
returns-in-Ok g c =
    let d = c.self.inside in
    let C = g.C.Level in
    let k = c.in-Ok.place in
    let p = c.at_mut-part.result.now in
    let is = c.at_mut-part.ensures.value in
    let within : k < length (parts_in d.parts) = rw c.self.view_is c.in-Ok.ensures.0 in
    let here : p.0 ≡ c.args.page / C.span = ap (λ part. part.0) is ∙ rw (c.self.view_is, ← c.span-span.ensures.is) (c.in-Ok.ensures.1 p) in
    let under : c.args.page % c.span-span.result < C.span = rw c.span-span.ensures.is (mod_below c.args.page C.span c.span-span.ensures.some) in
    ap (entries C.at C.span) (parts_in-with_part d.parts k (p.0, c.change.new.self) within)
    ∙ written C.at C.span (parts_in d.parts) c.self.invariant k p within is c.args.page c.args.entry c.change.new.self here
    (rw (← c.span-span.ensures.is) c.change.ensures)
    ∙ ap (λ v. with_at c.args.page c.args.entry (entries C.at C.span v)) c.self.view_is

pub returns-in-Err : goal.returns-in-Err
returns-in-Err g c =
    let d = c.self.inside in
    let C = g.C.Level in
    let k = c.in-Err.field-0 in
    let n = c.args.page / c.span-span.result in
    let here : n ≡ c.args.page / C.span = ap (λ s. c.args.page / s) c.span-span.ensures.is in
    let within : k ≤ length (parts_in d.parts) = rw c.self.view_is c.in-Err.ensures.0 in
    let lower : AllWithin (λ part. part.0 < n) (parts_in d.parts) 0 k = rw c.self.view_is c.in-Err.ensures.1 in
    let higher : AllWithin (λ part. n < part.0) (parts_in d.parts) k (length (parts_in d.parts)) = rw c.self.view_is c.in-Err.ensures.2 in
    let none = ap (λ v. entries C.at C.span v c.args.page) (sym c.self.view_is)
    ∙ absent C.at C.span (parts_in d.parts) k n c.args.page within lower higher here in
    absurd (c.requires.there none)

pub change-requires-clause-there : goal.change-requires-clause-there
change-requires-clause-there g c =
    let d = c.self.inside in
    let C = g.C.Level in
    let k = c.in-Ok.place in
    let p = c.at_mut-part.result.now in
    let is = c.at_mut-part.ensures.value in
    let within : k < length (parts_in d.parts) = rw c.self.view_is c.in-Ok.ensures.0 in
    let here : p.0 ≡ c.args.page / C.span = ap (λ part. part.0) is ∙ rw (c.self.view_is, ← c.span-span.ensures.is) (c.in-Ok.ensures.1 p) in
    λ none. c.requires.there
    (ap (λ v. entries C.at C.span v c.args.page) (sym c.self.view_is) ∙ entry_there C.at C.span (parts_in d.parts) c.self.invariant k p
    within is c.args.page here ∙ ap (λ s. C.at p.1 (c.args.page % s)) (sym c.span-span.ensures.is) ∙ none)
