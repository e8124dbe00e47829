use Rattle.std.proofs.Common.{◌-◌, inl, inr, arith, sym, ◌∙◌}
use Rattle.std.proofs.lemmas.Bool.{cases_lt}
use Rattle.av_spaces.specs.Spaces.{pages_of}
use Rattle.av_vma.proofs.Laid.{has_parts}
use Rattle.av_place.proofs.MremapTests.{covers, have_prot-all, have_prot-no, not_there, not_with, with_prot}
use Rattle.av_place.proofs.mremap.have_prot.Goals as goal

pub returns-in_default : goal.returns-in_default
returns-in_default c = λ q same.
    let a = c.args in
    let low = c.loop-page.invariant.low in
    let high = c.loop-page-test.true in
    sym (have_prot-no q a.prot a.from (a.past - a.from) c.loop-page.page low (omega (arith, high, low))
    (not_there a.spaces.now.processes a.process q c.loop-page.page a.prot same c.in_default.ensures.area))

pub returns-then-ne : goal.returns-then-ne
returns-then-ne c = λ q same.
    let a = c.args in
    let low = c.loop-page.invariant.low in
    let high = c.loop-page-test.true in
    sym (have_prot-no q a.prot a.from (a.past - a.from) c.loop-page.page low (omega (arith, high, low))
    (not_with a.spaces.now.processes a.process q c.loop-page.page c.in-Some.area a.prot same c.in-Some.ensures.area
    (sym c.ne.ensures ∙ c.if-ne.true)))

pub loop-page-smaller : goal.loop-page-smaller
loop-page-smaller c =
    let ends = has_parts c.in-Some.area c.loop-page.page (c.in-Some.ensures.laid.here c.loop-page.page c.in-Some.area (sym c.in-Some.ensures.area)) in
    let high = c.loop-page-test.true in
    omega (arith, ends, high)

pub loop-page-preserved : goal.loop-page-preserved
loop-page-preserved c =
    let a = c.args in
    let page = c.loop-page.page in
    let low = c.loop-page.invariant.low in
    let ends = has_parts c.in-Some.area page (c.in-Some.ensures.laid.here page c.in-Some.area (sym c.in-Some.ensures.area)) in
    record {
      low = omega (arith, ends, low);
      each = λ o least most. elim (cases_lt o page) [
        | inl before ↦ c.loop-page.invariant.each o least before
        | inr after ↦ covers (pages_of a.spaces.now.processes a.process) c.in-Some.ensures.laid c.in-Some.area page
            (sym c.in-Some.ensures.area) o after most
            ∙ with_prot c.in-Some.area a.prot (sym c.ne.ensures ∙ c.if-ne.false)
      ];
    }

pub returns : goal.returns
returns c = λ q same.
    let a = c.args in
    let past = c.loop-page-test.false in
    let forward = c.requires.forward in
    sym (have_prot-all q a.prot a.from (a.past - a.from)
    (λ o low high. sym (same o) ∙ c.loop-page.invariant.each o low (omega (arith, high, past, forward))))
