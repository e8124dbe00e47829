use Rattle.std.proofs.Common.{◌≡◌, ◌<◌, ◌≤◌, ap, length, ◌∙◌}
use Rattle.std.specs.List.{AllWithin}
use Rattle.av_pagetable.specs.Dir.{part_of}
use Rattle.av_pagetable.specs.Parts.{parts_in}
use Rattle.av_pagetable.proofs.DirEntries.{part_absent, part_there}
use Rattle.av_pagetable.proofs.dir.Dir.part.Goals as goal

pub returns-in-Ok : goal.returns-in-Ok
returns-in-Ok g c =
    let parts = parts_in c.self.inside.parts in
    let C = g.C.Level in
    let k = c.in-Ok.place in
    let p = c.at.result.now in
    let within : k < length parts = rw c.self.view_is c.in-Ok.ensures.0 in
    let here : p.0 ≡ c.args.number = ap (λ part. part.0) c.at.ensures ∙ rw c.self.view_is (c.in-Ok.ensures.1 p) in
    part_there C.at C.span parts c.self.invariant k p within c.at.ensures c.args.number here ∙ ap (λ v. part_of v c.args.number) c.self.view_is

pub returns-in-Err : goal.returns-in-Err
returns-in-Err g c =
    let d = c.self.inside in
    let k = c.in-Err.field-0 in
    let within : k ≤ length (parts_in d.parts) = rw c.self.view_is c.in-Err.ensures.0 in
    let lower : AllWithin (λ part. part.0 < c.args.number) (parts_in d.parts) 0 k = rw c.self.view_is c.in-Err.ensures.1 in
    let higher : AllWithin (λ part. c.args.number < part.0) (parts_in d.parts) k (length (parts_in d.parts)) = rw c.self.view_is c.in-Err.ensures.2 in
    part_absent (parts_in d.parts) k c.args.number within lower higher ∙ ap (λ v. part_of v c.args.number) c.self.view_is
