use Rattle.std.proofs.Common.{◌%◌, ◌∙◌, ap}
use Rattle.av_pagetable.specs.Dir.{in_part, entries}
use Rattle.av_pagetable.proofs.dir.DirLevel.get.Goals as goal

pub returns-in-Some : goal.returns-in-Some
returns-in-Some g c =
    let C = g.C.Level in
    let there = c.in-Some.ensures in
    c.get.ensures ∙ ap (λ o. in_part C.at o (c.args.page % c.span-span.result)) there
    ∙ ap (λ s. entries C.at s c.args.self.now c.args.page) c.span-span.ensures.is

pub returns-in-None : goal.returns-in-None
returns-in-None g c =
    let C = g.C.Level in
    let none = c.in-None.ensures in
    ap (λ o. in_part C.at o (c.args.page % c.span-span.result)) none ∙ ap (λ s. entries C.at s c.args.self.now c.args.page) c.span-span.ensures.is
