use Rattle.std.proofs.Common.{ap, refl, sym, ◌∙◌}
use Rattle.std.specs.BTreeMap.{is_at}
use Rattle.std.specs.Map.{set_value}
use Rattle.std.specs.Ordering.{nat_cmp}
use Rattle.av_audit_queue.specs.Name.{frames_apart}
use Rattle.av_audit_queue.proofs.LineLaws.{set-line}
use Rattle.av_audit_pages.proofs.IndexLaws.{is-there}
use Rattle.av_audit_pages.proofs.PlacedLaws.{keep-line, named-there}
use Rattle.av_audit_pages.specs.Pairs.{frame_key, slot_key}
use Rattle.av_audit_pages.proofs.pairs.Pairs.set_frame.Goals as goal

pub invariant_of-self-2 : goal.invariant_of-self-2
invariant_of-self-2 c =
    let w = c.get_mut.follows.holds (record c.args.pair { frame = c.args.to }) in
    let puts = (w.3 (is-there _ _ c.in-Some.ensures.value)).0 in
    record {
      by_slot = keep-line slot_key _ _ _ _ c.args.rank c.args.pair _ c.self.view_is c.self.invariant.by_slot w.4 puts c.requires.there refl;
      by_frame = set-line frame_key _ _ _ _ _ _ (record c.args.pair { frame = c.args.to }) c.name-2.result c.name.result c.args.rank c.self.view_is
          c.self.invariant.by_frame c.name.ensures
          (λ h. c.requires.other (frames_apart c.args.pair.frame c.args.to (sym c.name-2.ensures ∙ sym h)))
          w.4 puts c.in_ok-add.ensures.ok c.take.ensures
          (named-there frame_key _ c.name-2.result c.args.rank c.args.pair c.name-2.ensures c.requires.there);
    }

pub returns-clause-ok : goal.returns-clause-ok
returns-clause-ok c =
    let w = c.get_mut.follows.holds (record c.args.pair { frame = c.args.to }) in
    w.0 ∙ ap (λ es. set_value (is_at (nat_cmp c.args.rank)) es (record c.args.pair { frame = c.args.to })) c.self.view_is
