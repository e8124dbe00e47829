use Rattle.std.proofs.Common.{ap, refl, ◌∙◌}
use Rattle.std.specs.BTreeMap.{is_at}
use Rattle.std.specs.Map.{set_value}
use Rattle.std.specs.Ordering.{nat_cmp}
use Rattle.av_audit_pages.proofs.IndexLaws.{is-there}
use Rattle.av_audit_pages.proofs.PlacedLaws.{keep-line}
use Rattle.av_audit_pages.specs.Pairs.{frame_key, slot_key}
use Rattle.av_audit_pages.proofs.pairs.Pairs.set_stale_at.Goals as goal

pub invariant_of-self-2 : goal.invariant_of-self-2
invariant_of-self-2 c =
    let w = c.get_mut.follows.holds (record c.args.pair { stale = c.args.stale }) in
    let puts = (w.3 (is-there _ _ c.in-Some.ensures.value)).0 in
    record {
      by_slot = keep-line slot_key _ _ _ _ c.args.rank c.args.pair _ c.self.view_is c.self.invariant.by_slot w.4 puts c.requires refl;
      by_frame = keep-line frame_key _ _ _ _ c.args.rank c.args.pair _ c.self.view_is c.self.invariant.by_frame w.4 puts c.requires refl;
    }

pub returns : goal.returns
returns c =
    let w = c.get_mut.follows.holds (record c.args.pair { stale = c.args.stale }) in
    w.0 ∙ ap (λ es. set_value (is_at (nat_cmp c.args.rank)) es (record c.args.pair { stale = c.args.stale })) c.self.view_is
