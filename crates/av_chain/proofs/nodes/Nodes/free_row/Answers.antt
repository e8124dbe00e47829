use Rattle.std.proofs.Common.{◌∙◌, ap, refl, None}
use Rattle.av_chain.specs.declared.node.Way.TheVariants.{Area}
use Rattle.av_chain.specs.Rows.{without_row}
use Rattle.av_chain.proofs.Drained.{left_none, left_has, left_others, left_fewer, left_next}
use Rattle.av_chain.proofs.nodes.Nodes.free_row.Goals as goal

pub loop-at-init : goal.loop-at-init
loop-at-init c = record {
  left = record { before = None; run = c.requires.run; first = c.requires.first };
  others = refl;
}

pub get-requires : goal.get-requires
get-requires c = left_has c.args.area c.loop-at.at c.loop-at.self.blocks c.loop-at.invariant.left c.in-Some.place c.in-Some.is c.loop-at.self.apart

pub free-requires : goal.free-requires
free-requires c = left_has c.args.area c.loop-at.at c.loop-at.self.blocks c.loop-at.invariant.left c.in-Some.place c.in-Some.is c.loop-at.self.apart

pub loop-at-preserved : goal.loop-at-preserved
loop-at-preserved c =
    let bs = c.loop-at.self.blocks in
    let left = c.loop-at.invariant.left in record {
      left = rw (c.free.ensures, c.sides-at.ensures) (left_next c.args.area c.loop-at.at bs left c.in-Some.place c.in-Some.is c.loop-at.self.apart
          c.get.result.now c.get.ensures);
      others = ap (without_row Area c.args.area) c.free.ensures
          ∙ left_others c.args.area c.loop-at.at bs left c.in-Some.place c.in-Some.is c.loop-at.self.apart ∙ c.loop-at.invariant.others;
    }

pub loop-at-smaller : goal.loop-at-smaller
loop-at-smaller c = rw (c.free.ensures) (left_fewer c.args.area c.loop-at.at c.loop-at.self.blocks c.loop-at.invariant.left
    c.in-Some.place c.in-Some.is c.loop-at.self.apart)

pub returns : goal.returns
returns c = left_none c.args.area c.loop-at.at c.loop-at.self.blocks c.loop-at.invariant.left c.in_default.is ∙ c.loop-at.invariant.others
