use Rattle.av_audit_queue.proofs.LineLaws.{take-line}
use Rattle.av_audit_pages.proofs.PlacedLaws.{named-there}
use Rattle.av_audit_pages.specs.Pairs.{frame_key, slot_key}
use Rattle.av_audit_pages.proofs.pairs.Pairs.take.Goals as goal

pub invariant_of-self : goal.invariant_of-self
invariant_of-self c = record {
  by_slot = take-line slot_key _ _ _ _ _ c.name.result c.args.rank c.self.view_is c.self.invariant.by_slot c.remove.ensures.ordered
      c.remove.ensures.updates.0 c.take.ensures (named-there slot_key _ c.name.result c.args.rank c.args.pair c.name.ensures c.requires);
  by_frame = take-line frame_key _ _ _ _ _ c.name-2.result c.args.rank c.self.view_is c.self.invariant.by_frame c.remove.ensures.ordered
      c.remove.ensures.updates.0 c.take-2.ensures (named-there frame_key _ c.name-2.result c.args.rank c.args.pair c.name-2.ensures c.requires);
}
