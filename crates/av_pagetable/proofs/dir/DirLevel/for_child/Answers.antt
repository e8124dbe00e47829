use Rattle.std.proofs.Common.{refl}
use Rattle.av_pagetable.specs.Images.{AreAllImages}
use Rattle.av_pagetable.specs.Parts.{parts_in}
use Rattle.av_pagetable.specs.Table.{child_entry}
use Rattle.av_pagetable.proofs.DirImages.{child_none, entries_image, good_image}
use Rattle.av_pagetable.proofs.dir.DirLevel.for_child.Goals as goal

pub invariant_of-result : goal.invariant_of-result
invariant_of-result g c =
    let C = g.C.Level in
    good_image C.at C.span child_entry (parts_in c.self.inside.parts) (parts_in c.in_ok-parts.parts) c.in_ok-parts.ensures child_none c.self.invariant

pub returns : goal.returns
returns g c =
    let C = g.C.Level in
    let images : AreAllImages C.at child_entry c.args.self.now (parts_in c.in_ok-parts.parts) = rw (← c.self.view_is) c.in_ok-parts.ensures in
    entries_image C.at C.span child_entry c.args.self.now (parts_in c.in_ok-parts.parts) images refl
