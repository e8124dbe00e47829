use Rattle.std.proofs.Common.{◌≡◌, ◌<◌, ◌+◌, ◌*◌, ◌∙◌, ap, refl, length, arith}
use Rattle.std.specs.List.{remove}
use Rattle.av_pagetable.specs.Dir.{entries}
use Rattle.av_pagetable.specs.Parts.{parts_in}
use Rattle.av_pagetable.specs.Table.{without_range}
use Rattle.av_pagetable.proofs.DirParts.{set_good, remove_good, set_removed}
use Rattle.av_pagetable.proofs.PartsLaws.{parts_in-with_part}
use Rattle.av_pagetable.proofs.Ranges.{cleared, emptied, none_lost}
use Rattle.av_pagetable.proofs.dir.Dir.clear_in.Goals as goal

pub invariant_of-self : goal.invariant_of-self
invariant_of-self g c =
    let d = c.self.inside in
    let C = g.C.Level in
    let k = c.in-Ok.place in
    let p = c.at_mut-part.result.now in
    let is = c.at_mut-part.ensures.value in
    let within : k < length (parts_in d.parts) = rw c.self.view_is c.in-Ok.ensures.0 in
    rw (
      c.remove.ensures,
      parts_in-with_part d.parts k (p.0, c.clear_range.new.self) within,
      set_removed (parts_in d.parts) k (p.0, c.clear_range.new.self),
    ) (remove_good C.at C.span (parts_in d.parts) c.self.invariant k p within is)

pub invariant_of-self-else-is_empty : goal.invariant_of-self-else-is_empty
invariant_of-self-else-is_empty g c =
    let d = c.self.inside in
    let C = g.C.Level in
    let k = c.in-Ok.place in
    let p = c.at_mut-part.result.now in
    let is = c.at_mut-part.ensures.value in
    let within : k < length (parts_in d.parts) = rw c.self.view_is c.in-Ok.ensures.0 in
    rw (parts_in-with_part d.parts k (p.0, c.clear_range.new.self) within)
    (set_good C.at C.span (parts_in d.parts) c.self.invariant k p within is (p.0, c.clear_range.new.self) refl c.if-is_empty.ensures)

pub returns-then-is_empty : goal.returns-then-is_empty
returns-then-is_empty g c =
    let d = c.self.inside in
    let C = g.C.Level in
    let k = c.in-Ok.place in
    let p = c.at_mut-part.result.now in
    let is = c.at_mut-part.ensures.value in
    let within : k < length (parts_in d.parts) = rw c.self.view_is c.in-Ok.ensures.0 in
    let here : p.0 ≡ c.args.number = ap (λ part. part.0) is ∙ rw c.self.view_is (c.in-Ok.ensures.1 p) in
    ap (entries C.at C.span)
    (c.remove.ensures ∙ ap (λ l. remove l k) (parts_in-with_part d.parts k (p.0, c.clear_range.new.self) within)
    ∙ set_removed (parts_in d.parts) k (p.0, c.clear_range.new.self))
    ∙ emptied C.at C.span (parts_in d.parts) c.self.invariant k p within is c.args.from c.args.past c.clear_range.new.self
    (omega (arith, c.if-past-from.false, c.requires.within)) c.requires.within c.clear_range.ensures c.if-is_empty.ensures
    ∙ ap (λ n. without_range (n * C.span + c.args.from) (n * C.span + c.args.past) (entries C.at C.span (parts_in d.parts))) here
    ∙ ap (λ v. without_range (c.args.number * C.span + c.args.from) (c.args.number * C.span + c.args.past) (entries C.at C.span v)) c.self.view_is

pub returns-else-is_empty : goal.returns-else-is_empty
returns-else-is_empty g c =
    let d = c.self.inside in
    let C = g.C.Level in
    let k = c.in-Ok.place in
    let p = c.at_mut-part.result.now in
    let is = c.at_mut-part.ensures.value in
    let within : k < length (parts_in d.parts) = rw c.self.view_is c.in-Ok.ensures.0 in
    let here : p.0 ≡ c.args.number = ap (λ part. part.0) is ∙ rw c.self.view_is (c.in-Ok.ensures.1 p) in
    ap (entries C.at C.span) (parts_in-with_part d.parts k (p.0, c.clear_range.new.self) within)
    ∙ cleared C.at C.span (parts_in d.parts) c.self.invariant k p within is c.args.from c.args.past c.clear_range.new.self
    (omega (arith, c.if-past-from.false, c.requires.within)) c.requires.within c.clear_range.ensures
    ∙ ap (λ n. without_range (n * C.span + c.args.from) (n * C.span + c.args.past) (entries C.at C.span (parts_in d.parts))) here
    ∙ ap (λ v. without_range (c.args.number * C.span + c.args.from) (c.args.number * C.span + c.args.past) (entries C.at C.span v)) c.self.view_is

pub returns-in-Err : goal.returns-in-Err
returns-in-Err g c =
    let C = g.C.Level in
    none_lost C.at C.span c.args.self.now c.in-Err.field-0 c.args.number c.args.from c.args.past
    (omega (arith, c.if-past-from.false, c.requires.within)) c.requires.within
    c.in-Err.ensures.0 c.in-Err.ensures.1 c.in-Err.ensures.2
