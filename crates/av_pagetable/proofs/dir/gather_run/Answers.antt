use Rattle.std.proofs.Common.{◌≡◌, ◌+◌, ◌-◌, drop, take, length, get_or, replicate, slice_set, refl, subst, ap, ◌∙◌, arith, inl, inr, length-set}
use Rattle.std.proofs.lemmas.Bool.{cases_eq}
use Rattle.std.proofs.lemmas.List.{length-drop, take_all}
use Rattle.av_pagetable.specs.declared.pte.Pte.TheVariants.{Empty}
use Rattle.av_pagetable.proofs.Run.{IsGathered, all_empty, at_start, item_there, item_within, no_less, one_more, reaches_end, reaches_far, some_read}
use Rattle.av_pagetable.proofs.dir.gather_run.Goals as goal

pub loop-part-init : goal.loop-part-init
loop-part-init c =
    let parts = c.args.parts.now in
    let k = c.args.start in
    let empty = replicate 64 Empty in
    let begun : IsGathered parts c.args.page k 0 empty = at_start parts c.requires.good c.args.page k empty c.requires.within c.requires.first (all_empty 64) in
    let here : k ≡ k + 0 = omega arith in
    record {
      long = refl;
      gathered = subst (λ k. IsGathered parts c.args.page k 0 empty) here begun;
    }

pub overflow_sub-i : goal.overflow_sub-i
overflow_sub-i c =
    let parts = c.args.parts.now in
    let k = c.args.start in
    let i = c.loop-part.part-index in
    let under = c.loop-part-test.true in
    let up = no_less parts c.requires.good c.args.page (k + i) _ _ c.loop-part.invariant.gathered
    (item_within parts k i under) _ (item_there parts k i under (0, Empty)) in
    omega (arith, c.from.ensures, up)

pub returns-then-i-clause-some : goal.returns-then-i-clause-some
returns-then-i-clause-some c =
    let parts = c.args.parts.now in
    let k = c.args.start in
    let i = c.loop-part.part-index in
    let under = c.loop-part-test.true in
    let p = get_or (take (length parts - k) (drop k parts)) i (0, Empty) in
    let is = ap (λ part. part.0) (item_there parts k i under (0, Empty)) in
    elim (cases_eq i 0) [
      | inl e ↦
          let first = c.requires.first p in
          let same : (get_or parts (k + i) p).0 ≡ (get_or parts k p).0 = ap (λ i. (get_or parts i p).0) (omega (arith, e)) in
          absurd (omega (arith, c.from.ensures, is, first, same, c.if-i.true))
      | inr ne ↦ some_read parts c.requires.good c.args.page (k + i) _ _ c.loop-part.invariant.gathered k (omega (arith, ne)) c.requires.first
    ]

pub returns-then-i-clause-reaches : goal.returns-then-i-clause-reaches
returns-then-i-clause-reaches c =
    let parts = c.args.parts.now in
    let k = c.args.start in
    let i = c.loop-part.part-index in
    let under = c.loop-part-test.true in
    reaches_far parts c.requires.good c.args.page (k + i) _ _ c.loop-part.invariant.gathered
    (item_within parts k i under) _ (item_there parts k i under (0, Empty)) (omega (arith, c.from.ensures, c.if-i.true))

pub loop-part-preserved : goal.loop-part-preserved
loop-part-preserved c =
    let parts = c.args.parts.now in
    let k = c.args.start in
    let i = c.loop-part.part-index in
    let under = c.loop-part-test.true in
    let p = get_or (take (length parts - k) (drop k parts)) i (0, Empty) in
    let n = c.from.result - c.args.page in
    let there = item_there parts k i under (0, Empty) in
    let within = item_within parts k i under in
    let w = c.loop-part.invariant.gathered in
    let up = no_less parts c.requires.good c.args.page (k + i) _ _ w within p there in
    let next : k + i + 1 ≡ k + (i + 1) = omega arith in
    record {
      long = length-set c.loop-part.run n p.1 ∙ c.loop-part.invariant.long;
      gathered = subst (λ k. IsGathered parts c.args.page k (n + 1) (slice_set c.loop-part.run n p.1)) next
          (one_more parts c.requires.good c.args.page (k + i) _ _ w within p there n (omega (arith, c.from.ensures, up)) c.if-i.false
          c.loop-part.invariant.long);
    }

pub returns-clause-some : goal.returns-clause-some
returns-clause-some c =
    let parts = c.args.parts.now in
    let k = c.args.start in
    let items = take (length parts - k) (drop k parts) in
    let i = c.loop-part.part-index in
    let left : items ≡ drop k parts = take_all (length parts - k) (drop k parts) (omega (arith, length-drop k parts)) in
    some_read parts c.requires.good c.args.page (k + i) _ _ c.loop-part.invariant.gathered k
    (omega (arith, c.loop-part-test.false, ap length left, length-drop k parts, c.requires.within)) c.requires.first

pub returns-clause-reaches : goal.returns-clause-reaches
returns-clause-reaches c =
    let parts = c.args.parts.now in
    let k = c.args.start in
    let items = take (length parts - k) (drop k parts) in
    let i = c.loop-part.part-index in
    let left : items ≡ drop k parts = take_all (length parts - k) (drop k parts) (omega (arith, length-drop k parts)) in
    reaches_end parts c.requires.good c.args.page (k + i) _ _ c.loop-part.invariant.gathered
    (omega (arith, c.loop-part-test.false, ap length left, length-drop k parts, c.requires.within))
