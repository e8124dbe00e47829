use Rattle.std.proofs.Common.{refl}
use Rattle.av_pagetable.specs.Images.{AreAllImages}
use Rattle.av_pagetable.specs.Parts.{parts_in}
use Rattle.av_pagetable.specs.Table.{read_only}
use Rattle.av_pagetable.proofs.DirImages.{read_only_none, entries_image, good_image}
use Rattle.av_pagetable.proofs.dir.DirLevel.write_protect.Goals as goal

pub invariant_of-self : goal.invariant_of-self
invariant_of-self g c =
    let C = g.C.Level in
    good_image C.at C.span read_only (parts_in c.self.inside.parts) (parts_in c.write_protect.new.self) c.write_protect.ensures read_only_none
    c.self.invariant

pub returns : goal.returns
returns g c =
    let C = g.C.Level in
    let images : AreAllImages C.at read_only c.args.self.now (parts_in c.write_protect.new.self) = rw (← c.self.view_is) c.write_protect.ensures in
    entries_image C.at C.span read_only c.args.self.now (parts_in c.write_protect.new.self) images refl
