use Rattle.std.proofs.Common.{◌≡◌, ◌<◌, ◌/◌, ◌%◌, ◌∙◌, sym, ap, subst, refl, length}
use Rattle.av_base.specs.Words.{with_at}
use Rattle.std.proofs.lemmas.Nat.{mod_below}
use Rattle.av_pagetable.specs.Dir.{entries}
use Rattle.av_pagetable.specs.Parts.{parts_in}
use Rattle.av_pagetable.specs.Table.{HasSome}
use Rattle.av_pagetable.proofs.DirParts.{set_good}
use Rattle.av_pagetable.proofs.PartsLaws.{parts_in-with_part}
use Rattle.av_pagetable.proofs.DirEntries.{written, stays, entry_there, some_whether}
use Rattle.av_pagetable.proofs.Entries.{whether}
use Rattle.av_pagetable.proofs.dir.DirLevel.change_near.Goals as goal

pub change_near-requires-clause-there : goal.change_near-requires-clause-there
change_near-requires-clause-there g c =
    let d = c.self.inside in
    let C = g.C.Level in
    let k = c.in-Some.place in
    let p = c.at_mut-part.result.now in
    let is = c.at_mut-part.ensures.value in
    let within : k < length (parts_in d.parts) = rw c.self.view_is c.in-Some.ensures.0 in
    let here : p.0 ≡ c.args.page / C.span = ap (λ part. part.0) is ∙ rw (c.self.view_is, ← c.span-span.ensures.is) (c.in-Some.ensures.1 p) in
    λ none. c.requires.there
    (ap (λ v. entries C.at C.span v c.args.page) (sym c.self.view_is) ∙ entry_there C.at C.span (parts_in d.parts) c.self.invariant k p
    within is c.args.page here ∙ ap (λ s. C.at p.1 (c.args.page % s)) (sym c.span-span.ensures.is) ∙ none)

pub invariant_of-self : goal.invariant_of-self
invariant_of-self g c =
    let d = c.self.inside in
    let C = g.C.Level in
    let k = c.in-Some.place in
    let p = c.at_mut-part.result.now in
    let is = c.at_mut-part.ensures.value in
    let within : k < length (parts_in d.parts) = rw c.self.view_is c.in-Some.ensures.0 in
    let under : c.args.page % c.span-span.result < C.span = rw c.span-span.ensures.is (mod_below c.args.page C.span c.span-span.ensures.some) in
    let had : HasSome C.span (C.at p.1) = subst (λ part. HasSome C.span (C.at part.1)) (sym is) (c.self.invariant.full k p within) in
    rw (parts_in-with_part d.parts k (p.0, c.change_near.new.self) within)
    (set_good C.at C.span (parts_in d.parts) c.self.invariant k p within is (p.0, c.change_near.new.self) refl
    (some_whether C.at C.span (c.args.page % c.span-span.result) c.args.entry p.1 c.change_near.new.self c.change_near.result had under
    c.requires.some c.change_near.ensures))

pub returns : goal.returns
returns g c =
    let d = c.self.inside in
    let C = g.C.Level in
    let k = c.in-Some.place in
    let p = c.at_mut-part.result.now in
    let is = c.at_mut-part.ensures.value in
    let within : k < length (parts_in d.parts) = rw c.self.view_is c.in-Some.ensures.0 in
    let here : p.0 ≡ c.args.page / C.span = ap (λ part. part.0) is ∙ rw (c.self.view_is, ← c.span-span.ensures.is) (c.in-Some.ensures.1 p) in
    let now_in = ap (entries C.at C.span) (parts_in-with_part d.parts k (p.0, c.change_near.new.self) within) in
    whether c.change_near.result _ _ _ _ c.change_near.ensures
    (λ now. now_in ∙ written C.at C.span (parts_in d.parts) c.self.invariant k p within is c.args.page c.args.entry c.change_near.new.self here
    (rw (← c.span-span.ensures.is) now)
    ∙ ap (λ v. with_at c.args.page c.args.entry (entries C.at C.span v)) c.self.view_is)
    (λ now. now_in ∙ stays C.at C.span (parts_in d.parts) c.self.invariant k p within is c.change_near.new.self now ∙ ap (entries C.at C.span) c.self.view_is)
