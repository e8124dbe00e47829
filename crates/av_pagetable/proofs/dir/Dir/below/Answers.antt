use Rattle.av_pagetable.specs.Table.{HasSome}
use Rattle.std.proofs.Common.{arith, ◌≡◌, ◌≤◌, ◌<◌, ◌+◌, ◌*◌, sym, subst, take, length, get_or}
use Rattle.std.proofs.lemmas.List.{take_all}
use Rattle.av_pagetable.specs.Held.{AreHeld}
use Rattle.av_pagetable.specs.Dir.{entries}
use Rattle.av_pagetable.specs.Parts.{parts_in}
use Rattle.av_pagetable.proofs.DirParts.{few}
use Rattle.av_pagetable.proofs.Held.{few_some, few_all, none_held, joined_all, none_first, next_adds}
use Rattle.av_pagetable.proofs.dir.Dir.below.Goals as goal

pub overflow_add-total : goal.overflow_add-total
overflow_add-total g c =
    let d = c.self.inside in
    let C = g.C.Level in
    let small : c.loop-place.place ≤ 512 = omega (
      arith,
      c.loop-place-test.true,
      c.len-place-end.ensures,
      few C.at C.span (parts_in d.parts) c.self.invariant,
    ) in
    let total = few_some c.loop-place.place c.loop-place.total C.span small c.requires.fits c.loop-place.invariant.few in
    omega (arith, total, c.held-total.ensures.few, c.requires.fits)

pub loop-place-init : goal.loop-place-init
loop-place-init g c =
    let C = g.C.Level in
    record {
      held = none_held (entries C.at C.span (take 0 c.args.self.now)) (C.span * 512) C.own (none_first C.at C.span c.args.self.now);
      few = omega arith;
    }

pub loop-place-preserved : goal.loop-place-preserved
loop-place-preserved g c =
    let d = c.self.inside in
    let C = g.C.Level in
    let j = c.loop-place.place in
    let p = c.at.result.now in
    let under : j < length (parts_in d.parts) = omega (arith, c.loop-place-test.true, c.len-place-end.ensures) in
    let is : p ≡ get_or (parts_in d.parts) j p = c.at.ensures in
    let adds = next_adds C.at C.span (parts_in d.parts) j p c.self.invariant c.span-span.ensures.some under is in
    let some : HasSome C.span (C.at p.1) = subst (λ part. HasSome C.span (C.at part.1)) (sym is) (c.self.invariant.full j p under) in
    let before = subst (λ v. AreHeld (entries C.at C.span (take j v)) (C.span * 512) C.own c.loop-place.total)
    (sym c.self.view_is) c.loop-place.invariant.held in
    record {
      held = subst (λ v. AreHeld (entries C.at C.span (take (j + 1) v)) (C.span * 512) C.own
          (c.loop-place.total + c.held-total.result)) c.self.view_is
          (joined_all (entries C.at C.span (take j (parts_in d.parts))) (entries C.at C.span (take (j + 1) (parts_in d.parts))) (C.at p.1) C.span
          (C.span * 512) p.0 C.own
          c.held-total.result c.loop-place.total adds c.span-span.ensures.whole (c.held-total.ensures.counts some) before);
      few = omega (arith, c.loop-place.invariant.few, c.held-total.ensures.few);
    }

pub returns : goal.returns
returns g c =
    let d = c.self.inside in
    let C = g.C.Level in
    let j = c.loop-place.place in
    let all : length (parts_in d.parts) ≤ j = omega (arith, c.loop-place-test.false, c.loop-place.auto.place-end, c.len-place-end.ensures) in
    let small : j ≤ 512 = omega (
      arith,
      c.loop-place-test.false,
      c.loop-place.auto.place-end,
      c.len-place-end.ensures,
      few C.at C.span (parts_in d.parts) c.self.invariant,
    ) in
    record {
      few = few_all j c.loop-place.total C.span c.span-span.ensures.some small c.loop-place.invariant.few;
      counts = subst (λ v. AreHeld (entries C.at C.span v) (C.span * 512) C.own c.loop-place.total)
          (take_all j c.args.self.now (rw (← c.self.view_is) all))
          c.loop-place.invariant.held;
    }
