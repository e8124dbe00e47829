use Rattle.std.proofs.Common.{◌≡◌, ◌+◌, ◌-◌, ap, arith, cond, sym, ◌∙◌}
use Rattle.av_plain.specs.Mremap.{have_one_prot, have_prot}
use Rattle.av_plain.specs.World.{is_mapped}
use Rattle.av_place.proofs.MremapTests.{all_there}
use Rattle.av_place.proofs.mremap.has_pages.Goals as goal

pub returns-clause-mapped : goal.returns-clause-mapped
returns-clause-mapped c = λ q same.
    let a = c.args in
    let width : a.from + a.pages - a.from ≡ a.pages = omega arith in
    c.have_prot.ensures q same ∙ ap (have_prot q c.in-Some.area.prot a.from) width
    ∙ all_there a.spaces.now.processes a.process q a.from a.pages c.in-Some.area same (sym c.in-Some.ensures.area)
    ∙ sym (ap (λ b. cond b (is_mapped q a.from) (have_one_prot q a.from a.pages)) c.if-in_place.false)
