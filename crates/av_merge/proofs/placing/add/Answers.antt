use Rattle.std.proofs.Common.{refl}
use Rattle.av_vma.specs.Areas.{area_of}
use Rattle.av_vma.specs.Index.{first_of, past_of}
use Rattle.av_vmatree.specs.Spans.{span}
use Rattle.av_merge.proofs.PlacingLaws.{put_pages}
use Rattle.av_merge.proofs.placing.add.Goals as goal

pub returns-in-Ok-clause-pages : goal.returns-in-Ok-clause-pages
returns-in-Ok-clause-pages c =
    let number = c.in_ok-number.number in
    let area = c.args.area in
    let r = c.requires in
    let e = c.in-Ok.ensures in
    put_pages area.pid number (span number (first_of area) (past_of area)) area (area_of c.args.areas.now)
    (area_of c.add.new.self) c.args.tree.now c.insert.new.self
    r.stands c.in_ok-number.ensures.unused (record { process = refl; whole = r.whole; from = refl; to = refl }) c.in_ok-number.ensures.added
    e.kept e.areas e.pages
