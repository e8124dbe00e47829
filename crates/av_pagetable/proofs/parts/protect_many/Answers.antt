use Rattle.std.proofs.Common.{◌≡◌, ℕ, ◌<◌, ◌∙◌, arith, get_or, length, length-set, refl}
use Rattle.std.proofs.lemmas.List.{get_or_default}
use Rattle.av_pagetable.specs.Table.{read_only}
use Rattle.av_pagetable.proofs.DirImages.{set_image, set_others}
use Rattle.av_pagetable.proofs.parts.protect_many.Goals as goal

pub loop-place-preserved : goal.loop-place-preserved
loop-place-preserved g c =
    let C = g.C.Level in
    let i = c.loop-place.invariant in
    let k = c.loop-place.place in
    let olds = c.args.parts.now in
    let now = c.loop-place.parts in
    let first = c.index-parts-place.result in
    let p = get_or now k first in
    let x : ℕ × g.row.C.Denot = (p.0, c.write_protect.new.self) in
    let under : k < length olds = omega (arith, c.loop-place-test.true, i.many) in
    let is : p ≡ get_or now k p = get_or_default now k first p (omega (arith, under, i.many)) in
    record {
      many = length-set now k x ∙ i.many;
      within = omega (arith, under);
      images = set_image C.at read_only olds now k p x i.many under is i.others
          (record { number = refl; each = λ page. c.write_protect.ensures page }) i.images;
      others = λ j d low high. set_others C.at read_only olds now k p x i.many under is i.others j d low high;
    }
