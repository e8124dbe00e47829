use Rattle.std.proofs.Common.{◌≤◌, ◌∙◌, ap, length}
use Rattle.av_pagetable.specs.Dir.{entries}
use Rattle.av_pagetable.specs.Parts.{parts_in}
use Rattle.av_pagetable.proofs.Ranges.{between_gone, good_kept, in_order}
use Rattle.av_pagetable.proofs.dir.Dir.clear_between.Goals as goal

pub remove_range-requires-clause-order : goal.remove_range-requires-clause-order
remove_range-requires-clause-order g c = in_order c.args.self.now c.place_from-start.result c.place_from-end.result c.args.from c.args.past
    c.place_from-start.ensures.within c.if-from-past.true c.place_from-start.ensures.lower c.place_from-end.ensures.rest

pub invariant_of-self : goal.invariant_of-self
invariant_of-self g c =
    let d = c.self.inside in
    let C = g.C.Level in
    let order = in_order c.args.self.now c.place_from-start.result c.place_from-end.result c.args.from c.args.past
    c.place_from-start.ensures.within c.if-from-past.true c.place_from-start.ensures.lower c.place_from-end.ensures.rest in
    let within : c.place_from-end.result ≤ length (parts_in d.parts) = rw c.self.view_is c.place_from-end.ensures.within in
    rw c.remove_range.ensures
    (good_kept (parts_in d.parts) c.place_from-start.result c.place_from-end.result order within C.at C.span c.self.invariant)

pub returns-then-from-past : goal.returns-then-from-past
returns-then-from-past g c =
    let d = c.self.inside in
    let C = g.C.Level in
    let a = c.place_from-start.result in
    let b = c.place_from-end.result in
    let v = c.args.self.now in
    let order = in_order v a b c.args.from c.args.past
    c.place_from-start.ensures.within c.if-from-past.true c.place_from-start.ensures.lower c.place_from-end.ensures.rest in
    ap (entries C.at C.span) (rw c.self.view_is at c.remove_range.ensures)
    ∙ between_gone v a b order c.place_from-end.ensures.within C.at C.span c.args.from c.args.past c.span-span.ensures.some
    c.place_from-start.ensures.lower c.place_from-start.ensures.rest c.place_from-end.ensures.lower c.place_from-end.ensures.rest
