use Rattle.av_pagetable.specs.Dir.{entries}
use Rattle.av_pagetable.proofs.Ranges.{rest_and_parts}
use Rattle.av_pagetable.proofs.dir.Dir.clear_up_to.Goals as goal

pub returns-else-from-span-eq0 : goal.returns-else-from-span-eq0
returns-else-from-span-eq0 g c =
    let C = g.C.Level in
    rest_and_parts C.span c.args.from c.args.last (entries C.at C.span c.args.self.now) (entries C.at C.span c.clear_in.new.self)
    (entries C.at C.span c.clear_between-else-from-span-eq0.new.self) c.span-span.ensures.some c.requires.earlier
    (rw c.span-span.ensures.is at c.clear_in.ensures) (rw c.span-span.ensures.is at c.clear_between-else-from-span-eq0.ensures)
