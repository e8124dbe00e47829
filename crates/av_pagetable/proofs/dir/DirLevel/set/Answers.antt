use Rattle.av_pagetable.specs.Table.{HasSome}
use Rattle.std.proofs.Common.{arith, ◌≡◌, ◌<◌, ◌≤◌, ◌/◌, ◌%◌, ◌∙◌, sym, ap, subst, refl, length}
use Rattle.std.specs.List.{AllWithin}
use Rattle.std.proofs.lemmas.Nat.{mod_below, div_below}
use Rattle.av_base.specs.Words.{with_at}
use Rattle.av_pagetable.specs.Dir.{entries, no_entry}
use Rattle.av_pagetable.specs.Parts.{parts_in}
use Rattle.av_pagetable.proofs.Entries.{both_ways}
use Rattle.av_pagetable.proofs.DirParts.{set_good, insert_good}
use Rattle.av_pagetable.proofs.PartsLaws.{parts_in-with_part}
use Rattle.av_pagetable.proofs.DirEntries.{written, stays, added, some_written, some_either}
use Rattle.av_pagetable.proofs.dir.DirLevel.set.Goals as goal

pub invariant_of-self : goal.invariant_of-self
invariant_of-self g c =
    let d = c.self.inside in
    let C = g.C.Level in
    let k = c.in-Ok.place in
    let p = c.at_mut-part.result.now in
    let is = c.at_mut-part.ensures.value in
    let within : k < length (parts_in d.parts) = rw c.self.view_is c.in-Ok.ensures.0 in
    let here : p.0 ≡ c.args.page / C.span = ap (λ part. part.0) is ∙ rw (c.self.view_is, ← c.span-span.ensures.is) (c.in-Ok.ensures.1 p) in
    let under : c.args.page % c.span-span.result < C.span = rw c.span-span.ensures.is (mod_below c.args.page C.span c.span-span.ensures.some) in
    let had : HasSome C.span (C.at p.1) = subst (λ part. HasSome C.span (C.at part.1)) (sym is) (c.self.invariant.full k p within) in
    rw (parts_in-with_part d.parts k (p.0, c.set.new.self) within)
    (set_good C.at C.span (parts_in d.parts) c.self.invariant k p within is (p.0, c.set.new.self) refl
    (some_either C.at C.span (c.args.page % c.span-span.result) c.args.entry p.1 c.set.new.self c.set.result had under c.requires.some c.set.ensures))

pub returns-in-Ok : goal.returns-in-Ok
returns-in-Ok g c =
    let d = c.self.inside in
    let C = g.C.Level in
    let k = c.in-Ok.place in
    let p = c.at_mut-part.result.now in
    let is = c.at_mut-part.ensures.value in
    let within : k < length (parts_in d.parts) = rw c.self.view_is c.in-Ok.ensures.0 in
    let here : p.0 ≡ c.args.page / C.span = ap (λ part. part.0) is ∙ rw (c.self.view_is, ← c.span-span.ensures.is) (c.in-Ok.ensures.1 p) in
    let under : c.args.page % c.span-span.result < C.span = rw c.span-span.ensures.is (mod_below c.args.page C.span c.span-span.ensures.some) in
    let now_in = ap (entries C.at C.span) (parts_in-with_part d.parts k (p.0, c.set.new.self) within) in
    both_ways c.set.result _ _ _ _ c.set.ensures
    (λ now. now_in ∙ written C.at C.span (parts_in d.parts) c.self.invariant k p within is c.args.page c.args.entry c.set.new.self here
    (rw (← c.span-span.ensures.is) now)
    ∙ ap (λ v. with_at c.args.page c.args.entry (entries C.at C.span v)) c.self.view_is)
    (λ now. now_in ∙ stays C.at C.span (parts_in d.parts) c.self.invariant k p within is c.set.new.self now ∙ ap (entries C.at C.span) c.self.view_is)

pub invariant_of-self-in-Err : goal.invariant_of-self-in-Err
invariant_of-self-in-Err g c =
    let d = c.self.inside in
    let C = g.C.Level in
    let k = c.in-Err.place in
    let n = c.args.page / c.span-span.result in
    let here : n ≡ c.args.page / C.span = ap (λ s. c.args.page / s) c.span-span.ensures.is in
    let within : k ≤ length (parts_in d.parts) = rw c.self.view_is c.in-Err.ensures.0 in
    let lower : AllWithin (λ part. part.0 < n) (parts_in d.parts) 0 k = rw c.self.view_is c.in-Err.ensures.1 in
    let higher : AllWithin (λ part. n < part.0) (parts_in d.parts) k (length (parts_in d.parts)) = rw c.self.view_is c.in-Err.ensures.2 in
    let part = c.in_ok-part-in-Err.part in
    let low : n < 512 = rw c.span-span.ensures.is (div_below c.args.page C.span 512 c.span-span.ensures.some (omega (arith, c.requires.below))) in
    let under : c.args.page % c.span-span.result < C.span = rw c.span-span.ensures.is (mod_below c.args.page C.span c.span-span.ensures.some) in
    rw c.in_ok-insert-in-Err.ensures (insert_good C.at C.span (parts_in d.parts) c.self.invariant k (n, part) within lower higher low
    (some_written C.at C.span (c.args.page % c.span-span.result) c.args.entry no_entry part under c.requires.some c.in_ok-part-in-Err.ensures))

pub returns-in_ok-insert-in-Err : goal.returns-in_ok-insert-in-Err
returns-in_ok-insert-in-Err g c =
    let d = c.self.inside in
    let C = g.C.Level in
    let k = c.in-Err.place in
    let n = c.args.page / c.span-span.result in
    let here : n ≡ c.args.page / C.span = ap (λ s. c.args.page / s) c.span-span.ensures.is in
    let within : k ≤ length (parts_in d.parts) = rw c.self.view_is c.in-Err.ensures.0 in
    let lower : AllWithin (λ part. part.0 < n) (parts_in d.parts) 0 k = rw c.self.view_is c.in-Err.ensures.1 in
    let higher : AllWithin (λ part. n < part.0) (parts_in d.parts) k (length (parts_in d.parts)) = rw c.self.view_is c.in-Err.ensures.2 in
    let part = c.in_ok-part-in-Err.part in
    let low : n < 512 = rw c.span-span.ensures.is (div_below c.args.page C.span 512 c.span-span.ensures.some (omega (arith, c.requires.below))) in
    ap (entries C.at C.span) c.in_ok-insert-in-Err.ensures
    ∙ added C.at C.span (parts_in d.parts) c.self.invariant k n c.args.page c.args.entry part within lower higher low here
    (rw (← c.span-span.ensures.is) c.in_ok-part-in-Err.ensures)
    ∙ ap (λ v. with_at c.args.page c.args.entry (entries C.at C.span v)) c.self.view_is
