use Rattle.av_vma.specs.Areas.{area_of}
use Rattle.av_merge.specs.Pages.{pages_by}
use Rattle.av_merge.proofs.SplittingLaws.{goes_to}
use Rattle.av_merge.proofs.PlacingLaws.{stays_trans}
use Rattle.av_merge.proofs.splitting.split_out.Goals as goal

pub split_to-requires : goal.split_to-requires
split_to-requires c =
    let p = c.requires.stands.0 in
    let on = pages_by (area_of c.args.areas.now) c.args.tree.now in
    let stands = (c.split_from.ensures.stands p c.requires.stands.1).areas in
    record {
      order = c.in_ok-part.ensures.kin.order;
      stands = (p, stands);
      inside = goes_to p c.in_ok-part.part c.args.from c.args.past on (area_of c.split_from.new.areas) c.split_from.new.tree stands c.requires.some
          c.in_ok-part.ensures.part (c.in_ok-part.ensures.pages c.args.from) c.requires.inside;
    }

pub returns-in_err-split_to-clause-stands : goal.returns-in_err-split_to-clause-stands
returns-in_err-split_to-clause-stands c = λ p stands.
    let first = c.split_from.ensures.stands p stands in
    stays_trans p _ (area_of c.split_from.new.areas) _ c.split_from.new.tree _ first (c.split_to.ensures.stands p first.areas)

pub returns-clause-stands : goal.returns-clause-stands
returns-clause-stands c = λ p stands.
    let first = c.split_from.ensures.stands p stands in
    stays_trans p _ (area_of c.split_from.new.areas) _ c.split_from.new.tree _ first (c.split_to.ensures.stands p first.areas)
