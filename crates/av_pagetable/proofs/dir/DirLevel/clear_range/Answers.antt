use Rattle.std.proofs.Common.{◌<◌, ◌/◌}
use Rattle.av_pagetable.specs.Dir.{entries}
use Rattle.av_pagetable.proofs.Ranges.{then_first}
use Rattle.av_pagetable.proofs.dir.DirLevel.clear_range.Goals as goal

pub returns-then-first-last-2 : goal.returns-then-first-last-2
returns-then-first-last-2 g c =
    let C = g.C.Level in
    let less : c.args.from / C.span < c.args.past / C.span = rw (← c.span-span.ensures.is) c.if-first-last-2.true in
    then_first C.span c.args.from c.args.past (entries C.at C.span c.args.self.now) (entries C.at C.span c.clear_up_to.new.self)
    (entries C.at C.span c.clear_in-then-first-last-2.new.self) c.span-span.ensures.some less
    (rw c.span-span.ensures.is at c.clear_up_to.ensures) (rw c.span-span.ensures.is at c.clear_in-then-first-last-2.ensures)
