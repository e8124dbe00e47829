use Rattle.std.proofs.Common.{drop, get_or, refl, ◌+◌, ◌<◌, false}
use Rattle.av_base.specs.Limits.{top_page}
use Rattle.av_evict.proofs.SystemLaws.{stays_so, stays_then}
use Rattle.av_swapoff.proofs.SlotLaws.{all-at, keys-at, keys-over, mapping-at, mapping-end, mapping-start, mapping-step}
use Rattle.av_swapoff.proofs.slot.map_all.Goals as goal

pub loop-key-init : goal.loop-key-init
loop-key-init g c = record {
  midway = λ told. mapping-start _ c.args.notes.now c.args.slot c.args.frame c.args.keys.now;
  stays = λ told. stays_so _;
}

pub map-requires : goal.map-requires
map-requires g c =
    let ks = c.args.keys.now in
    let i = c.loop-key.key-index in
    record {
      below = all-at (λ k. k.1 < top_page) ks i (0, 0) c.requires.below c.loop-key-test.true;
      may = mapping-at _ _ _ _ c.args.slot c.args.frame ks (get_or ks i (0, 0)) (drop (i + 1) ks) c.requires.may
          (rw (keys-at ks i (i + 1) (0, 0) c.loop-key-test.true refl) at (c.loop-key.invariant.midway false));
    }

pub loop-key-preserved : goal.loop-key-preserved
loop-key-preserved g c =
    let ks = c.args.keys.now in
    let i = c.loop-key.key-index in
    record {
      midway = λ told. mapping-step _ _ _ _ _ _ c.args.slot c.args.frame ks (get_or ks i (0, 0)) (drop (i + 1) ks)
          (rw (keys-at ks i (i + 1) (0, 0) c.loop-key-test.true refl) at (c.loop-key.invariant.midway told)) (c.in_ok-map.ensures.gives told);
      stays = λ told. stays_then (c.loop-key.invariant.stays told) (c.in_ok-map.ensures.stays told);
    }

pub returns-clause-gives : goal.returns-clause-gives
returns-clause-gives g c = λ told. mapping-end _ _ _ _ c.args.slot c.args.frame c.args.keys.now
    (rw (keys-over c.args.keys.now c.loop-key.key-index c.loop-key-test.false) at (c.loop-key.invariant.midway told))
