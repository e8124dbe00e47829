use Rattle.av_vma.specs.Areas.{area_of}
use Rattle.av_merge.proofs.PlacingLaws.{stays_trans}
use Rattle.av_merge.proofs.SplittingLaws.{none_after}
use Rattle.av_merge.proofs.splitting.unmap_between.Goals as goal

pub split_before-requires : goal.split_before-requires
split_before-requires c =
    let p = c.requires.stands.0 in
    record { order = c.in_ok-split_below.ensures.kin.order; stands = (p, (c.split_below.ensures.stands p c.requires.stands.1).areas) }

pub returns-in_err-split_before-clause-stands : goal.returns-in_err-split_before-clause-stands
returns-in_err-split_before-clause-stands c p stands =
    let first = c.split_below.ensures.stands p stands in
    let second = c.split_before.ensures.stands p first.areas in
    stays_trans p _ (area_of c.split_below.new.areas) _ c.split_below.new.tree _ first second

pub take_out-requires-clause-stands : goal.take_out-requires-clause-stands
take_out-requires-clause-stands c =
    let p = c.requires.stands.0 in
    let first = c.split_below.ensures.stands p c.requires.stands.1 in
    (p, (c.split_before.ensures.stands p first.areas).areas)

pub take_out-requires-clause-lower : goal.take_out-requires-clause-lower
take_out-requires-clause-lower c =
    let p = c.requires.stands.0 in
    let first = c.split_below.ensures.stands p c.requires.stands.1 in
    let second = c.split_before.ensures.stands p first.areas in
    none_after p c.args.to c.args.from (area_of c.split_below.new.areas) (area_of c.split_before.new.areas) c.split_below.new.tree
    c.split_before.new.tree
    first.areas second.areas c.in_ok-split_below.ensures.none_crosses c.in_ok-split_before.ensures.pages

pub returns-clause-stands : goal.returns-clause-stands
returns-clause-stands c p stands =
    let first = c.split_below.ensures.stands p stands in
    let second = c.split_before.ensures.stands p first.areas in
    let third = c.take_out.ensures.stands p second.areas in
    stays_trans p _ (area_of c.split_before.new.areas) _ c.split_before.new.tree _
    (stays_trans p _ (area_of c.split_below.new.areas) _ c.split_below.new.tree _ first second) third
